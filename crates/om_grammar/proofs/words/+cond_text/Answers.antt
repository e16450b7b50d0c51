use Rattle.std.proofs.Common.{codes, sym, ap, ◌∙◌}
use Rattle.om_token.specs.declared.terminal.Terminal.TheVariants as terminal
use Rattle.om_grammar.specs.declared.cond_tree.CondTree.TheViews as v
use Rattle.om_grammar.specs.Words.{spaced, cond_texts}
use Rattle.om_grammar.proofs.WordLemmas.{texts-Predicate, texts-Not, and_text, or_text, grown, puts_as, puts_then, then_is, conj_is_whole, neg_is_whole, any_in_brackets, neg_in_brackets, no_all, no_any, after_first, all_written, any_written}
use Rattle.om_grammar.proofs.words.+cond_text.Goals as goal

pub put_cond-returns-in-Predicate : goal.put_cond-returns-in-Predicate
put_cond-returns-in-Predicate t c = puts_as _ _ _ _ _ (ap (λ e. (cond_texts e).whole) c.in-Predicate.is ∙ ap (λ s. s.whole) (texts-Predicate c.in-Predicate.predicate)) c.put_predicate.ensures

pub put_cond-returns-in_ok-add-in-Not : goal.put_cond-returns-in_ok-add-in-Not
put_cond-returns-in_ok-add-in-Not t c = puts_as _ _ _ _ _ (ap (λ e. (cond_texts e).whole) c.in-Not.is ∙ ap (λ s. s.whole) (texts-Not c.in-Not.at c.in-Not.cond))
    (puts_then _ _ _ _ (codes "NOT ") (cond_texts c.in-Not.cond).neg c.in_ok-add-in-Not.ensures.ok (rw (← c.get.ensures) c.put_neg.ensures))

pub put_cond-returns-in_default : goal.put_cond-returns-in_default
put_cond-returns-in_default t c = no_all c.args.cond.now c.as_slice.result.now c.args.text.now (c.in-All.is ∙ ap (λ l. v.All l) (sym c.as_slice.ensures)) c.in_default.len_below

pub put_cond-loop-neg-preserved : goal.put_cond-loop-neg-preserved
put_cond-loop-neg-preserved t c =
    then_is _ _ _ (spaced terminal.And) _ c.in_ok-put_neg-in-All-2.ensures c.in_ok-add-in-All.ensures.ok
    ∙ grown and_text c.put_neg-in-All.new.text c.loop-neg.text (after_first c.as_slice.result.now) c.loop-neg.neg-index c.neg-item.result c.neg-item.result c.loop-neg-test.true c.neg-item.is c.loop-neg.invariant

pub put_cond-returns-after-loop-neg : goal.put_cond-returns-after-loop-neg
put_cond-returns-after-loop-neg t c =
    all_written c.args.cond.now c.as_slice.result.now c.first-item.result c.args.text.now _ _ c.loop-neg.neg-index (c.in-All.is ∙ ap (λ l. v.All l) (sym c.as_slice.ensures)) c.in-len1-up.len_at_least c.first-item.is
    c.in_ok-put_neg-in-All.ensures c.loop-neg.invariant c.loop-neg-test.false

pub put_cond-returns-in_default-as_slice : goal.put_cond-returns-in_default-as_slice
put_cond-returns-in_default-as_slice t c = no_any c.args.cond.now c.as_slice-in-Any.result.now c.args.text.now (c.in-Any.is ∙ ap (λ l. v.Any l) (sym c.as_slice-in-Any.ensures)) c.in_default-as_slice.len_below

pub put_cond-loop-conj-preserved : goal.put_cond-loop-conj-preserved
put_cond-loop-conj-preserved t c =
    then_is _ _ _ (spaced terminal.Or) _ c.in_ok-put_conj-in-Any-2.ensures c.in_ok-add-in-Any.ensures.ok
    ∙ grown or_text c.put_conj.new.text c.loop-conj.text (after_first c.as_slice-in-Any.result.now) c.loop-conj.conj-index c.conj-item.result c.conj-item.result c.loop-conj-test.true c.conj-item.is c.loop-conj.invariant

pub put_cond-returns-after-loop-conj : goal.put_cond-returns-after-loop-conj
put_cond-returns-after-loop-conj t c =
    any_written c.args.cond.now c.as_slice-in-Any.result.now c.first-item-in-Any.result c.args.text.now _ _ c.loop-conj.conj-index (c.in-Any.is ∙ ap (λ l. v.Any l) (sym c.as_slice-in-Any.ensures)) c.in-len1-up-as_slice.len_at_least c.first-item-in-Any.is
    c.in_ok-put_conj-in-Any.ensures c.loop-conj.invariant c.loop-conj-test.false

pub put_conj-returns-in-Any : goal.put_conj-returns-in-Any
put_conj-returns-in-Any t c = puts_as _ _ _ _ _ (any_in_brackets c.args.cond.now c.in-Any.field-0 c.in-Any.is) c.put_nested.ensures

pub put_conj-returns-in_default : goal.put_conj-returns-in_default
put_conj-returns-in_default t c = puts_as _ _ _ _ _ (conj_is_whole c.args.cond.now c.in_default.not-Any) c.put_cond.ensures

pub put_neg-returns-in_default : goal.put_neg-returns-in_default
put_neg-returns-in_default t c = puts_as _ _ _ _ _ (neg_is_whole c.args.cond.now c.in_default.not-Any c.in_default.not-All) c.put_cond.ensures

pub put_neg-returns-in-Any : goal.put_neg-returns-in-Any
put_neg-returns-in-Any t c = puts_as _ _ _ _ _ (neg_in_brackets c.args.cond.now c.in-Any.is) c.put_nested.ensures
