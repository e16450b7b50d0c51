use Rattle.std.proofs.Common.{◌≡◌, drop}
use Rattle.om_die.proofs.AttributeLaws.{attributes_in}
use Rattle.om_die.proofs.ReaderLemmas.{behind}
use Rattle.om_die.proofs.attributes.read_attributes.Given as goal

abbrev pub invariant-loop-specification : goal.invariant-loop-specification
invariant-loop-specification l =
    attributes_in l.context l.list l.bytes ≡ behind l.attributes.items (attributes_in l.context (drop l.specification-index l.list) l.rest)
