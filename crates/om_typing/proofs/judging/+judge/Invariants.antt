use Rattle.std.proofs.Common.{take}
use Rattle.std.specs.List.{fold}
use Rattle.om_typing.specs.Judging.{Judgement, Judges}
use Rattle.om_typing.proofs.Judgings.{with_addend, with_factor}
use Rattle.om_typing.proofs.judging.+judge.Given as goal

abbrev pub invariant-loop-addend : goal.invariant-loop-addend
invariant-loop-addend l = (first : Judgement) → Judges l.initial.sum l.fn.foremost first l.initial.foremost → Judges l.sum l.fn.foremost (fold (with_addend l.scope l.must_group) first (take l.addend-index l.addend-items)) l.foremost

abbrev pub invariant-loop-factor : goal.invariant-loop-factor
invariant-loop-factor l = (first : Judgement) → Judges l.initial.product l.fn.foremost first l.initial.foremost → Judges l.product l.fn.foremost (fold (with_factor l.scope l.must_group) first (take l.factor-index l.factor-items)) l.foremost
