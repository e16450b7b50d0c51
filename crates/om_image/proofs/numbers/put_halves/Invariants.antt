use Rattle.std.proofs.Common.{◌≡◌, ◌++◌, drop}
use Rattle.std.specs.List.{flat_map}
use Rattle.om_image.specs.ElfFile.{half}
use Rattle.om_image.proofs.numbers.put_halves.Given as goal

abbrev pub invariant-loop-number : goal.invariant-loop-number
invariant-loop-number l = l.bytes ++ flat_map half (drop l.number-index l.numbers) ≡ l.initial.bytes ++ flat_map half l.numbers
