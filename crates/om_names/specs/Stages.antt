-- What an executable's debugging information is, and why it may be refused, stage by stage.
use Rattle.std.specs.Prelude.{ℕ, List, codes, Ok, Err}
use Rattle.om_cfi.specs.Frames.{frames_fault}
use Rattle.om_die.specs.Units.{AreUnits}
use Rattle.om_die.specs.Refusals.{IsRefusal}
use Rattle.om_die.specs.declared.unit.Units.{Units}
use Rattle.om_elf.specs.declared.elf.Elf.{Elf}
use Rattle.om_line.specs.declared.lines.Lines.{Lines}
use Rattle.om_names.specs.Information.{Information, info_of, section, unit_sections}
use Rattle.om_names.specs.LineTables.{line_fault, line_tables}
use Rattle.om_names.specs.Ranges.{first_range_fault}
use Rattle.om_names.specs.Stage.{Stage, followed_by, gives_or_refuses, gives_unless, giving}
use Rattle.om_names.specs.Types.{type_fault}
use Rattle.om_names.specs.declared.fault.NamesFault.{NamesFault}
use Rattle.om_names.specs.declared.fault.NamesFault.TheVariants as n

-- .debug_info: its units
abbrev pub units_stage : Elf → Stage Units
units_stage elf = gives_or_refuses (AreUnits (unit_sections elf)) (IsRefusal (unit_sections elf)) n.Info

-- .debug_ranges: the section, unless a list that the units' entries have their ranges from has no end
abbrev pub ranges_stage : Elf → Units → Stage (List ℕ)
ranges_stage elf units =
    gives_unless (first_range_fault (section elf (codes ".debug_ranges")) units) (section elf (codes ".debug_ranges")) n.Ranges

-- .debug_line: the tables that the units name, unless one of them has a fault
abbrev pub lines_stage : Elf → Units → Stage (List Lines)
lines_stage elf units = gives_unless (line_fault elf units) (line_tables elf units) n.Lines

abbrev pub frame_section : Elf → List ℕ
frame_section elf = section elf (codes ".debug_frame")

-- .debug_frame: the section, unless an entry has a fault
abbrev pub frames_stage : Elf → Stage (List ℕ)
frames_stage elf = gives_unless (frames_fault (frame_section elf)) (frame_section elf) n.Frame

-- the types of variables and parameters, unless one leads too far
abbrev pub types_stage : Units → Stage (Unit {0})
types_stage units = gives_unless (type_fault units) tt n.TypeLoop

-- the stages, in the order in which they are judged
unfoldable pub all_stages : Elf → Stage Information
all_stages elf =
    followed_by (units_stage elf) (λ units.
    followed_by (ranges_stage elf units) (λ ranges.
    followed_by (lines_stage elf units) (λ lines.
    followed_by (frames_stage elf) (λ frames.
    followed_by (types_stage units) (λ typed.
    giving (info_of units ranges lines frames))))))

-- ---- what comes of them

-- the sections of an executable spell this information
abbrev pub IsLawful : Elf → Information → Type 0
IsLawful elf info = all_stages elf (Ok info)

-- ... or are refused for this fault
abbrev pub IsRefused : Elf → NamesFault → Type 0
IsRefused elf fault = all_stages elf (Err fault)
