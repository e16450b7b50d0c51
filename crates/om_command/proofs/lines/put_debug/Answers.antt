use Rattle.om_command.proofs.lines.put_debug.Goals as goal

pub returns-in-Info : goal.returns-in-Info
returns-in-Info g c = rw (c.in-Info.is, ← c.die_told.ensures) c.put_told.ensures

pub returns-in-Ranges : goal.returns-in-Ranges
returns-in-Ranges g c = rw (c.in-Ranges.is, ← c.die_told-in-Ranges.ensures) c.put_told-in-Ranges.ensures

pub returns-in-Lines : goal.returns-in-Lines
returns-in-Lines g c = rw (c.in-Lines.is, ← c.line_told.ensures) c.put_told-in-Lines.ensures

pub returns-in-Frame : goal.returns-in-Frame
returns-in-Frame g c = rw (c.in-Frame.is, ← c.frame_told.ensures) c.put_told-in-Frame.ensures

pub returns-in-NoMemory : goal.returns-in-NoMemory
returns-in-NoMemory g c = rw c.in-NoMemory.is c.put_all.ensures

pub returns-in-TypeLoop : goal.returns-in-TypeLoop
returns-in-TypeLoop g c = rw (c.in-TypeLoop.is, ← c.type_loop_told.ensures) c.put_told-in-TypeLoop.ensures
