use Rattle.std.proofs.Common.{[], ◌∷◌, ◌++◌, codes, sym, ap, ◌∙◌, append_assoc}
use Rattle.std.specs.List.{flat_map}
use Rattle.om_grammar.specs.Words.{word, sign_word, width_word, function_word, bounds_text, expr_texts, addend_text, factor_text}
use Rattle.om_grammar.proofs.WordLemmas.{texts-Numeral, texts-Text, texts-Null, texts-Column, texts-Sum, texts-Product, texts-Sign, texts-Signed, texts-Bits, texts-Memory, texts-CountRows, texts-Aggregate, grown, grown_all, puts_as, puts_then, then_is, call_is, term_is_whole, factor_is_whole, sum_in_brackets, factor_in_brackets}
use Rattle.om_grammar.proofs.words.+expr_text.Goals as goal

pub put_expr-returns-in-Numeral : goal.put_expr-returns-in-Numeral
put_expr-returns-in-Numeral t c = puts_as _ _ _ _ _ (ap (λ e. (expr_texts e).whole) c.in-Numeral.is ∙ ap (λ s. s.whole) (texts-Numeral c.in-Numeral.numeral)) c.put_number.ensures

pub put_expr-returns-in-Text : goal.put_expr-returns-in-Text
put_expr-returns-in-Text t c = puts_as _ _ _ _ _ (ap (λ e. (expr_texts e).whole) c.in-Text.is ∙ ap (λ s. s.whole) (texts-Text c.in-Text.at c.in-Text.said)) (rw (← c.bytes.ensures) c.put_in_quotes.ensures)

pub put_expr-returns-in-Null : goal.put_expr-returns-in-Null
put_expr-returns-in-Null t c = puts_as _ _ _ _ _ (ap (λ e. (expr_texts e).whole) c.in-Null.is ∙ ap (λ s. s.whole) (texts-Null c.in-Null.at)) c.add.ensures.ok

pub put_expr-returns-in-Column : goal.put_expr-returns-in-Column
put_expr-returns-in-Column t c = puts_as _ _ _ _ _ (ap (λ e. (expr_texts e).whole) c.in-Column.is ∙ ap (λ s. s.whole) (texts-Column c.in-Column.column)) c.put_column.ensures

pub put_expr-loop-addend-preserved : goal.put_expr-loop-addend-preserved
put_expr-loop-addend-preserved t c =
    then_is _ _ _ _ _ c.in_ok-put_term-in-Sum-2.ensures (c.in_ok-add-in-Sum.ensures.ok ∙ ap (λ l. c.loop-addend.text ++ l) c.spaced_sign.ensures)
    ∙ grown addend_text c.put_term.new.text c.loop-addend.text c.as_slice-addend-items.result.now c.loop-addend.addend-index c.addend-item.result c.addend-item.result c.loop-addend-test.true c.addend-item.is c.loop-addend.invariant

pub put_expr-returns-after-loop-addend : goal.put_expr-returns-after-loop-addend
put_expr-returns-after-loop-addend t c =
    then_is _ _ _ _ _ (grown_all addend_text c.put_term.new.text c.loop-addend.text c.as_slice-addend-items.result.now c.loop-addend.addend-index c.loop-addend-test.false c.loop-addend.invariant) c.in_ok-put_term-in-Sum.ensures
    ∙ ap (λ l. c.args.text.now ++ l) (ap (λ e. (expr_texts e).term ++ flat_map addend_text c.as_slice-addend-items.result.now) c.get.ensures ∙ ap (λ l. (expr_texts c.in-Sum.first).term ++ flat_map addend_text l) c.as_slice-addend-items.ensures)
    ∙ ap (λ l. c.args.text.now ++ l) (sym (ap (λ e. (expr_texts e).whole) c.in-Sum.is ∙ ap (λ s. s.whole) (texts-Sum c.in-Sum.first c.in-Sum.rest)))

pub put_expr-loop-factor-preserved : goal.put_expr-loop-factor-preserved
put_expr-loop-factor-preserved t c =
    then_is _ _ _ _ _ c.in_ok-put_factor-in-Product-2.ensures (c.in_ok-add-in-Product.ensures.ok ∙ ap (λ l. c.loop-factor.text ++ l) c.spaced_scale.ensures)
    ∙ grown factor_text c.put_factor.new.text c.loop-factor.text c.as_slice-factor-items.result.now c.loop-factor.factor-index c.factor-item.result c.factor-item.result c.loop-factor-test.true c.factor-item.is c.loop-factor.invariant

pub put_expr-returns-after-loop-factor : goal.put_expr-returns-after-loop-factor
put_expr-returns-after-loop-factor t c =
    then_is _ _ _ _ _ (grown_all factor_text c.put_factor.new.text c.loop-factor.text c.as_slice-factor-items.result.now c.loop-factor.factor-index c.loop-factor-test.false c.loop-factor.invariant) c.in_ok-put_factor-in-Product.ensures
    ∙ ap (λ l. c.args.text.now ++ l) (ap (λ e. (expr_texts e).factor ++ flat_map factor_text c.as_slice-factor-items.result.now) c.get-in-Product.ensures ∙ ap (λ l. (expr_texts c.in-Product.first).factor ++ flat_map factor_text l) c.as_slice-factor-items.ensures)
    ∙ ap (λ l. c.args.text.now ++ l) (sym (ap (λ e. (expr_texts e).whole) c.in-Product.is ∙ ap (λ s. s.whole) (texts-Product c.in-Product.first c.in-Product.rest)))

pub put_expr-returns-in_ok-add-in-Sign : goal.put_expr-returns-in_ok-add-in-Sign
put_expr-returns-in_ok-add-in-Sign t c =
    puts_as _ _ _ _ _ (ap (λ e. (expr_texts e).whole) c.in-Sign.is ∙ ap (λ s. s.whole) (texts-Sign c.in-Sign.at c.in-Sign.sign c.in-Sign.expr))
    (puts_as _ _ _ _ _ (sym (append_assoc (word (sign_word c.in-Sign.sign)) (32 ∷ []) (expr_texts c.in-Sign.expr).factor))
    (puts_then _ _ _ _ _ (expr_texts c.in-Sign.expr).factor (c.in_ok-add-in-Sign.ensures.ok ∙ ap (λ l. c.args.text.now ++ l) c.leading_sign.ensures) (rw (← c.get-in-Sign.ensures) c.put_factor-in-Sign.ensures)))

pub put_expr-returns-in-Signed : goal.put_expr-returns-in-Signed
put_expr-returns-in-Signed t c = puts_as _ _ _ _ _ (ap (λ e. (expr_texts e).whole) c.in-Signed.is ∙ ap (λ s. s.whole) (texts-Signed c.in-Signed.at c.in-Signed.expr)) (rw (← c.get-in-Signed.ensures) c.put_call.ensures)

pub put_expr-returns-in_ok-put_expr-in-Bits : goal.put_expr-returns-in_ok-put_expr-in-Bits
put_expr-returns-in_ok-put_expr-in-Bits t c =
    puts_as _ _ _ _ _ (ap (λ e. (expr_texts e).whole) c.in-Bits.is ∙ ap (λ s. s.whole) (texts-Bits c.in-Bits.at c.in-Bits.expr c.in-Bits.high c.in-Bits.low))
    (puts_as _ _ _ _ _ (ap (λ l. codes "BITS(" ++ l) (append_assoc (expr_texts c.in-Bits.expr).whole (bounds_text c.in-Bits.high.value c.in-Bits.low.value) (codes ")")))
    (puts_then _ _ _ _ (codes "BITS(") _ c.in_ok-add-in-Bits.ensures.ok (puts_then _ _ _ _ _ _ (c.in_ok-put_expr-in-Bits.ensures ∙ ap (λ e. c.add-in-Bits.new.self ++ (expr_texts e).whole) c.get-in-Bits.ensures) c.put_bounds.ensures)))

pub put_expr-returns-in_ok-put_qualifier-in-Memory : goal.put_expr-returns-in_ok-put_qualifier-in-Memory
put_expr-returns-in_ok-put_qualifier-in-Memory t c =
    puts_as _ _ _ _ _ (ap (λ e. (expr_texts e).whole) c.in-Memory.is ∙ ap (λ s. s.whole) (texts-Memory c.in-Memory.qualifier c.in-Memory.at c.in-Memory.width c.in-Memory.address))
    (puts_then _ _ _ _ _ _ c.in_ok-put_qualifier-in-Memory.ensures
    (puts_as _ _ _ _ _ (call_is (word (width_word c.in-Memory.width)) _ (expr_texts c.in-Memory.address).whole c.width_call.ensures) (rw (← c.get-in-Memory.ensures) c.put_call-in-Memory.ensures)))

pub put_expr-returns-in-CountRows : goal.put_expr-returns-in-CountRows
put_expr-returns-in-CountRows t c = puts_as _ _ _ _ _ (ap (λ e. (expr_texts e).whole) c.in-CountRows.is ∙ ap (λ s. s.whole) (texts-CountRows c.in-CountRows.at)) c.add-in-CountRows.ensures.ok

pub put_expr-returns-in-Aggregate : goal.put_expr-returns-in-Aggregate
put_expr-returns-in-Aggregate t c =
    puts_as _ _ _ _ _ (ap (λ e. (expr_texts e).whole) c.in-Aggregate.is ∙ ap (λ s. s.whole) (texts-Aggregate c.in-Aggregate.at c.in-Aggregate.function c.in-Aggregate.expr))
    (puts_as _ _ _ _ _ (call_is (word (function_word c.in-Aggregate.function)) _ (expr_texts c.in-Aggregate.expr).whole c.function_call.ensures) (rw (← c.get-in-Aggregate.ensures) c.put_call-in-Aggregate.ensures))

pub put_factor-returns-in_default : goal.put_factor-returns-in_default
put_factor-returns-in_default t c = puts_as _ _ _ _ _ (factor_is_whole c.args.expr.now c.in_default.not-Sum c.in_default.not-Product) c.put_expr.ensures

pub put_factor-returns-in-Sum : goal.put_factor-returns-in-Sum
put_factor-returns-in-Sum t c = puts_as _ _ _ _ _ (factor_in_brackets c.args.expr.now c.in-Sum.is) c.put_call.ensures

pub put_term-returns-in-Sum : goal.put_term-returns-in-Sum
put_term-returns-in-Sum t c = puts_as _ _ _ _ _ (sum_in_brackets c.args.expr.now c.in-Sum.field-0 c.in-Sum.field-1 c.in-Sum.is) c.put_call.ensures

pub put_term-returns-in_default : goal.put_term-returns-in_default
put_term-returns-in_default t c = puts_as _ _ _ _ _ (term_is_whole c.args.expr.now c.in_default.not-Sum) c.put_expr.ensures
