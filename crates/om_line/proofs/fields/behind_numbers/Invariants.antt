use Rattle.std.proofs.Common.{◌≡◌, ◌-◌}
use Rattle.om_line.specs.Fields.{behind_numbers}
use Rattle.om_line.proofs.fields.behind_numbers.Given as goal

abbrev pub invariant-loop-number : goal.invariant-loop-number
invariant-loop-number l = behind_numbers l.fn.count l.fn.bytes ≡ behind_numbers (l.fn.count - l._number) l.rest
