use Rattle.std.proofs.Common.{◌≡◌, ◌++◌, drop}
use Rattle.std.specs.List.{flat_map}
use Rattle.om_log.specs.LittleEndian.{le_bytes}
use Rattle.om_log.specs.Fronts.{IsFront}
use Rattle.om_log.proofs.spelling.put_args.Given as goal

abbrev pub invariant-loop-arg : goal.invariant-loop-arg
invariant-loop-arg l =
    IsFront l.initial.bytes.items l.bytes.items
    × (l.bytes.items ++ flat_map (le_bytes 4) (drop l.arg-index l.args) ≡ l.initial.bytes.items ++ flat_map (le_bytes 4) l.args)
