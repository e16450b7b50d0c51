use Rattle.std.proofs.Common.{◌-◌, ◌+◌, ap, ◌∙◌, arith}
use Rattle.std.proofs.lemmas.Result.{err_from_is_err_and}
use Rattle.om_base.specs.Leb.{result_then}
use Rattle.om_line.specs.Fields.{behind_numbers}
use Rattle.om_line.proofs.ReaderLemmas.{no_number, one_number}
use Rattle.om_line.proofs.fields.behind_numbers.Goals as goal

pub returns-in_err-behind : goal.returns-in_err-behind
returns-in_err-behind c =
    let p = err_from_is_err_and c.from_residual.result c.from_residual.ensures.1 in
    rw (p.1, p.2)
    (c.loop-number.invariant ∙ one_number c.args.count c.loop-number._number c.loop-number.rest.now c.loop-number-test.true
    ∙ ap (result_then (λ x. behind_numbers (c.args.count - (c.loop-number._number + 1)) x.1)) c.in_err-behind.ensures)

pub loop-number-preserved : goal.loop-number-preserved
loop-number-preserved c =
    c.loop-number.invariant ∙ one_number c.args.count c.loop-number._number c.loop-number.rest.now c.loop-number-test.true
    ∙ ap (result_then (λ x. behind_numbers (c.args.count - (c.loop-number._number + 1)) x.1)) c.in_ok-behind.ensures

pub returns : goal.returns
returns c = c.loop-number.invariant ∙ no_number _ _ (omega arith)
