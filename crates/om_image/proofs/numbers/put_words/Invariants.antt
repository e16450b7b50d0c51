use Rattle.std.proofs.Common.{◌≡◌, ◌++◌, drop}
use Rattle.std.specs.List.{flat_map}
use Rattle.om_image.specs.ElfFile.{word}
use Rattle.om_image.proofs.numbers.put_words.Given as goal

abbrev pub invariant-loop-word : goal.invariant-loop-word
invariant-loop-word l = l.bytes ++ flat_map word (drop l.word-index l.numbers) ≡ l.initial.bytes ++ flat_map word l.numbers
