use Rattle.std.proofs.Common.{refl}
use Rattle.om_isa.proofs.decoder.immediate_op.Goals as goal

pub returns-in_err-left_shift-in-1-clause-parts : goal.returns-in_err-left_shift-in-1-clause-parts
returns-in_err-left_shift-in-1-clause-parts c = rw (c.in-1.is, c.in_err-left_shift-in-1.ensures c.args.word) c.from_residual.ensures

pub returns-in-1-clause-parts : goal.returns-in-1-clause-parts
returns-in-1-clause-parts c = rw (c.in-1.is, c.in_ok-left_shift-in-1.ensures c.args.word, c.from.ensures, c.shift_amount.ensures) refl

pub returns-in_err-right_shift-in-5-clause-parts : goal.returns-in_err-right_shift-in-5-clause-parts
returns-in_err-right_shift-in-5-clause-parts c = rw (c.in-5.is, c.in_err-right_shift-in-5.ensures c.args.word) c.from_residual-in_err-right_shift-in-5.ensures

pub returns-in-5-clause-parts : goal.returns-in-5-clause-parts
returns-in-5-clause-parts c = rw (c.in-5.is, c.in_ok-right_shift-in-5.ensures c.args.word, c.from-in-5.ensures, c.shift_amount-in-5.ensures) refl
