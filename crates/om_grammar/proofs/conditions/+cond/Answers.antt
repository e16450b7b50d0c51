use Rattle.std.proofs.Common.{◌≡◌, ◌<◌, ◌-◌, ◌∙◌, ◌++◌, [], ◌∷◌, sym, subst, ap, Ok, Err, rules, arith}
use Rattle.om_token.specs.declared.terminal.Terminal.TheVariants as terminals
use Rattle.om_grammar.specs.declared.cond_tree.CondTree.{CondTree}
use Rattle.om_grammar.specs.declared.cond_tree.CondTree.TheViews as cs
use Rattle.om_grammar.specs.declared.found.Found.{Found}
use Rattle.om_grammar.specs.declared.found.Found.TheVariants as f
use Rattle.om_grammar.specs.Grammar.{Tokens}
use Rattle.om_grammar.specs.Parsers.{Step, and_then, pure, Reads, behind}
use Rattle.om_grammar.specs.declared.aggregates.Aggregates.TheVariants as aggregates
use Rattle.om_grammar.specs.Reading.{offset_of, factor_at, neg_at, one_test, cond_over, truth, conj}
use Rattle.om_grammar.proofs.ListLemmas.{Left, left_more, left_err, left_done, member_shorter}
use Rattle.om_grammar.proofs.ConditionShrinks.{truth_shrinks, conj_shrinks}
use Rattle.om_grammar.proofs.ConditionLemmas.{neg_zero, neg_not, neg_test, neg_stopped, all_alone, all_begun, all_stopped, any_alone, any_begun, any_stopped}
use Rattle.om_grammar.proofs.conditions.+cond.Goals as goal

pub conjunction-returns-in_default : goal.conjunction-returns-in_default
conjunction-returns-in_default t c =
    let none = sym c.eat.ensures.seen ∙ c.in_default.is in
    let next = c.eat.ensures.after ∙ ap (λ seen. behind seen c.args.tokens.now) c.in_default.is in
    all_alone c.args.depth c.args.first c.args.tokens.now none ∙ ap (λ (l : Tokens). (Ok c.args.first, l)) (sym next)

pub conjunction-returns-in_err-truth : goal.conjunction-returns-in_err-truth
conjunction-returns-in_err-truth t c =
    let why = c.in_err-truth.field-0.0 in
    let rest = c.truth.new.tokens in
    let read = subst (λ (l : Tokens). Reads (truth (neg_at c.args.depth) l) (Err why) rest) c.in-Some.ensures.after c.in_err-truth.ensures in
    let all = all_stopped c.args.depth c.args.first c.args.tokens.now c.in-Some.field-0 why rest (sym c.in-Some.ensures.seen) read in
    search rules

pub conjunction-ands-init : goal.conjunction-ands-init
conjunction-ands-init t c =
    let read = ap (truth (neg_at c.args.depth)) (sym c.in-Some.ensures.after) ∙ c.in_ok-truth.ensures in
    let begun = all_begun c.args.depth c.args.first c.args.tokens.now c.in-Some.field-0 c.in_ok-truth.field-0 c.truth.new.tokens (sym c.in-Some.ensures.seen) read in
    let members : c.push-2.new.self ≡ c.args.first ∷ c.in_ok-truth.field-0 ∷ [] = c.in_ok-push-2.ensures.ok ∙ ap (λ l. l ++ c.in_ok-truth.field-0 ∷ []) (c.in_ok-push.ensures.ok ∙ ap (λ l. l ++ c.args.first ∷ []) c.new-members.ensures) in
    begun ∙ ap (λ l. Left (offset_of terminals.And) (λ _. truth (neg_at c.args.depth)) (truth_shrinks c.args.depth) cs.All l c.truth.new.tokens) (sym members)

pub conjunction-returns-in_err-truth-2 : goal.conjunction-returns-in_err-truth-2
conjunction-returns-in_err-truth-2 t c =
    let why = c.in_err-truth-2.field-0.0 in
    let rest = c.truth-in-Some-eat.new.tokens in
    let read = subst (λ (l : Tokens). Reads (truth (neg_at c.args.depth) l) (Err why) rest) c.in-Some-eat.ensures.after c.in_err-truth-2.ensures in
    let left = left_err (offset_of terminals.And) (λ _. truth (neg_at c.args.depth)) (truth_shrinks c.args.depth) cs.All c.ands.members c.ands.tokens c.in-Some-eat.field-0 why rest (sym c.in-Some-eat.ensures.seen) read in
    let all = subst (λ (s : Step CondTree). Reads s (Err why) rest) (sym c.ands.invariant) left in
    search rules

pub conjunction-ands-smaller : goal.conjunction-ands-smaller
conjunction-ands-smaller t c =
    let read = ap (truth (neg_at c.args.depth)) (sym c.in-Some-eat.ensures.after) ∙ c.in_ok-truth-2.ensures in
    member_shorter (offset_of terminals.And) (λ _. truth (neg_at c.args.depth)) (truth_shrinks c.args.depth) c.ands.tokens c.in-Some-eat.field-0 (Ok c.in_ok-truth-2.field-0) c.truth-in-Some-eat.new.tokens (sym c.in-Some-eat.ensures.seen) read

pub conjunction-ands-preserved : goal.conjunction-ands-preserved
conjunction-ands-preserved t c =
    let read = ap (truth (neg_at c.args.depth)) (sym c.in-Some-eat.ensures.after) ∙ c.in_ok-truth-2.ensures in
    let more = left_more (offset_of terminals.And) (λ _. truth (neg_at c.args.depth)) (truth_shrinks c.args.depth) cs.All c.ands.members c.ands.tokens c.in-Some-eat.field-0 c.in_ok-truth-2.field-0 c.truth-in-Some-eat.new.tokens (sym c.in-Some-eat.ensures.seen) read in
    c.ands.invariant ∙ more ∙ ap (λ l. Left (offset_of terminals.And) (λ _. truth (neg_at c.args.depth)) (truth_shrinks c.args.depth) cs.All l c.truth-in-Some-eat.new.tokens) (sym c.in_ok-push-3.ensures.ok)

pub conjunction-returns : goal.conjunction-returns
conjunction-returns t c =
    let none = sym c.eat-in-ands.ensures.seen ∙ c.in_default-eat.is in
    let next = c.eat-in-ands.ensures.after ∙ ap (λ seen. behind seen c.ands.tokens) c.in_default-eat.is in
    c.ands.invariant ∙ left_done (offset_of terminals.And) (λ _. truth (neg_at c.args.depth)) (truth_shrinks c.args.depth) cs.All c.ands.members c.ands.tokens none ∙ ap (λ (l : Tokens). (Ok (cs.All c.ands.members), l)) (sym next)

pub disjunction-returns-in_default : goal.disjunction-returns-in_default
disjunction-returns-in_default t c =
    let none = sym c.eat.ensures.seen ∙ c.in_default.is in
    let next = c.eat.ensures.after ∙ ap (λ seen. behind seen c.args.tokens.now) c.in_default.is in
    any_alone c.args.depth c.args.first c.args.tokens.now none ∙ ap (λ (l : Tokens). (Ok c.args.first, l)) (sym next)

pub disjunction-returns-in_err-conj : goal.disjunction-returns-in_err-conj
disjunction-returns-in_err-conj t c =
    let why = c.in_err-conj.field-0.0 in
    let rest = c.conj.new.tokens in
    let read = subst (λ (l : Tokens). Reads (conj (neg_at c.args.depth) l) (Err why) rest) c.in-Some.ensures.after c.in_err-conj.ensures in
    let all = any_stopped c.args.depth c.args.first c.args.tokens.now c.in-Some.field-0 why rest (sym c.in-Some.ensures.seen) read in
    search rules

pub disjunction-ors-init : goal.disjunction-ors-init
disjunction-ors-init t c =
    let read = ap (conj (neg_at c.args.depth)) (sym c.in-Some.ensures.after) ∙ c.in_ok-conj.ensures in
    let begun = any_begun c.args.depth c.args.first c.args.tokens.now c.in-Some.field-0 c.in_ok-conj.field-0 c.conj.new.tokens (sym c.in-Some.ensures.seen) read in
    let members : c.push-2.new.self ≡ c.args.first ∷ c.in_ok-conj.field-0 ∷ [] = c.in_ok-push-2.ensures.ok ∙ ap (λ l. l ++ c.in_ok-conj.field-0 ∷ []) (c.in_ok-push.ensures.ok ∙ ap (λ l. l ++ c.args.first ∷ []) c.new-members.ensures) in
    begun ∙ ap (λ l. Left (offset_of terminals.Or) (λ _. conj (neg_at c.args.depth)) (conj_shrinks c.args.depth) cs.Any l c.conj.new.tokens) (sym members)

pub disjunction-returns-in_err-conj-2 : goal.disjunction-returns-in_err-conj-2
disjunction-returns-in_err-conj-2 t c =
    let why = c.in_err-conj-2.field-0.0 in
    let rest = c.conj-in-Some-eat.new.tokens in
    let read = subst (λ (l : Tokens). Reads (conj (neg_at c.args.depth) l) (Err why) rest) c.in-Some-eat.ensures.after c.in_err-conj-2.ensures in
    let left = left_err (offset_of terminals.Or) (λ _. conj (neg_at c.args.depth)) (conj_shrinks c.args.depth) cs.Any c.ors.members c.ors.tokens c.in-Some-eat.field-0 why rest (sym c.in-Some-eat.ensures.seen) read in
    let all = subst (λ (s : Step CondTree). Reads s (Err why) rest) (sym c.ors.invariant) left in
    search rules

pub disjunction-ors-smaller : goal.disjunction-ors-smaller
disjunction-ors-smaller t c =
    let read = ap (conj (neg_at c.args.depth)) (sym c.in-Some-eat.ensures.after) ∙ c.in_ok-conj-2.ensures in
    member_shorter (offset_of terminals.Or) (λ _. conj (neg_at c.args.depth)) (conj_shrinks c.args.depth) c.ors.tokens c.in-Some-eat.field-0 (Ok c.in_ok-conj-2.field-0) c.conj-in-Some-eat.new.tokens (sym c.in-Some-eat.ensures.seen) read

pub disjunction-ors-preserved : goal.disjunction-ors-preserved
disjunction-ors-preserved t c =
    let read = ap (conj (neg_at c.args.depth)) (sym c.in-Some-eat.ensures.after) ∙ c.in_ok-conj-2.ensures in
    let more = left_more (offset_of terminals.Or) (λ _. conj (neg_at c.args.depth)) (conj_shrinks c.args.depth) cs.Any c.ors.members c.ors.tokens c.in-Some-eat.field-0 c.in_ok-conj-2.field-0 c.conj-in-Some-eat.new.tokens (sym c.in-Some-eat.ensures.seen) read in
    c.ors.invariant ∙ more ∙ ap (λ l. Left (offset_of terminals.Or) (λ _. conj (neg_at c.args.depth)) (conj_shrinks c.args.depth) cs.Any l c.conj-in-Some-eat.new.tokens) (sym c.in_ok-push-3.ensures.ok)

pub disjunction-returns : goal.disjunction-returns
disjunction-returns t c =
    let none = sym c.eat-in-ors.ensures.seen ∙ c.in_default-eat.is in
    let next = c.eat-in-ors.ensures.after ∙ ap (λ seen. behind seen c.ors.tokens) c.in_default-eat.is in
    c.ors.invariant ∙ left_done (offset_of terminals.Or) (λ _. conj (neg_at c.args.depth)) (conj_shrinks c.args.depth) cs.Any c.ors.members c.ors.tokens none ∙ ap (λ (l : Tokens). (Ok (cs.Any c.ors.members), l)) (sym next)

pub neg-returns-then-depth-eq0 : goal.neg-returns-then-depth-eq0
neg-returns-then-depth-eq0 t c = neg_zero c.args.depth c.args.tokens.now c.if-depth-eq0.true

pub neg-returns-in_default : goal.neg-returns-in_default
neg-returns-in_default t c =
    let some : 0 < c.args.depth = omega (arith, c.if-depth-eq0.false) in
    let none = sym c.eat.ensures.seen ∙ c.in_default.is in
    let next = c.eat.ensures.after ∙ ap (λ seen. behind seen c.args.tokens.now) c.in_default.is in
    let all = neg_test c.args.depth c.args.tokens.now some none in
    subst (λ (s : Step Found). Reads s c.one_test.result c.one_test.new.tokens) (sym (all ∙ ap (one_test (cond_over (neg_at (c.args.depth - 1))) (factor_at c.args.depth aggregates.Refused)) (sym next))) c.one_test.ensures

pub neg-returns-in_err-cond : goal.neg-returns-in_err-cond
neg-returns-in_err-cond t c =
    let some : 0 < c.args.depth = omega (arith, c.if-depth-eq0.false) in
    let why = c.in_err-cond.field-0.0 in
    let rest = c.truth.new.tokens in
    let read = subst (λ (l : Tokens). Reads (truth (neg_at (c.args.depth - 1)) l) (Err why) rest) c.in-Some.ensures.after c.in_err-cond.ensures in
    let all = neg_stopped c.args.depth c.args.tokens.now c.in-Some.at why rest some (sym c.in-Some.ensures.seen) read in
    search rules

pub neg-returns : goal.neg-returns
neg-returns t c =
    let some : 0 < c.args.depth = omega (arith, c.if-depth-eq0.false) in
    let read = ap (truth (neg_at (c.args.depth - 1))) (sym c.in-Some.ensures.after) ∙ c.in_ok-cond.ensures in
    let all = neg_not c.args.depth c.args.tokens.now c.in-Some.at some (sym c.in-Some.ensures.seen) in
    all ∙ ap (λ (s : Step CondTree). and_then s (λ x. pure (f.Truth (cs.Not c.in-Some.at x)))) read
    ∙ ap (λ (x : CondTree). (Ok (f.Truth (cs.Not c.in-Some.at x)), c.truth.new.tokens)) (sym c.in_ok-cond-2.ensures)
