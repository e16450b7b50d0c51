use Rattle.std.proofs.Common.{drop, sym, ℕ, List, subst, arith, rules, tests, eq-eqb}
use Rattle.std.proofs.lemmas.List.{take_all, length-drop, nil_from_length}
use Rattle.om_token.proofs.PieceLemmas.{Passed, passed_other, passed_twice, passed_closed, passed_all}
use Rattle.om_token.proofs.piece.within.Goals as goal

pub loop-byte-preserved-then-byte-quote : goal.loop-byte-preserved-then-byte-quote
loop-byte-preserved-then-byte-quote c =
    let h = rw c.in-Some.ensures.cases.0 at c.loop-byte.invariant in
    passed_other _ _ c.in-Some.byte.now c.in-Some.others.now h (search (tests, rules))

pub loop-byte-preserved : goal.loop-byte-preserved
loop-byte-preserved c =
    let h = rw c.in-Some.ensures.cases.0 at c.loop-byte.invariant in
    let after = passed_twice _ _ c.in-Some.byte.now c.in-Some.others.now h (eq-eqb _ _ c.if-byte-quote.false) (sym c.if-begins_with.ensures) in
    subst (λ (l : List ℕ). Passed c.args.quote c.args.text.now l) (sym (take_all _ (drop 1 c.in-Some.others.now) (omega (arith, length-drop 1 c.in-Some.others.now)))) after

pub returns-else-begins_with : goal.returns-else-begins_with
returns-else-begins_with c =
    let h = rw c.in-Some.ensures.cases.0 at c.loop-byte.invariant in
    rw c.in-Some.ensures.cases.0 (sym (passed_closed _ _ c.in-Some.byte.now c.in-Some.others.now h (eq-eqb _ _ c.if-byte-quote.false) (sym c.if-begins_with.ensures)))

pub returns : goal.returns
returns c = sym (passed_all _ _ (rw (nil_from_length _ c.in_default.ensures.cases) at c.loop-byte.invariant))
