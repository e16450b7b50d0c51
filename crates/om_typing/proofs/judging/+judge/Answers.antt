use Rattle.std.proofs.Common.{◌≡◌, false, take, refl, ap, ◌∙◌}
use Rattle.std.proofs.lemmas.List.{take_all}
use Rattle.om_grammar.specs.declared.expr_tree.Function.TheVariants as function
use Rattle.om_value.specs.Kinds.{sum_kind, sign_kind, signed_kind, bits_kind}
use Rattle.om_value.specs.declared.kind.Kind.TheVariants.{Null}
use Rattle.om_typing.specs.Judging.{Judges, sign_of, bound_of, given, told, literal, joined, compound, judged}
use Rattle.om_typing.specs.Mistakes.{noted_all}
use Rattle.om_typing.proofs.Judgings.{with_addend, with_factor, fold_more, one_step, two_step, memory_step, aggregate_step, compound_step, factor_step_of, judged_numeral, judged_text, judged_null, judged_column, judged_sum, judged_product, judged_sign, judged_signed, judged_bits, judged_memory, judged_count_rows, judged_aggregate}
use Rattle.om_typing.proofs.judging.+judge.Goals as goal

pub loop-addend-init : goal.loop-addend-init
loop-addend-init t c = λ first judges. judges

pub loop-addend-preserved : goal.loop-addend-preserved
loop-addend-preserved t c = λ first judges.
    rw (fold_more (with_addend c.args.scope.now c.args.must_group) first c.as_slice-addend-items.result.now c.loop-addend.addend-index c.addend-item.result c.addend-item.result c.loop-addend-test.true c.addend-item.is)
    (two_step c.addend-item.result.at (sum_kind (sign_of c.addend-item.result.sign)) c.args.foremost.now _ (judged c.args.scope.now c.addend-item.result.term c.args.must_group) c.loop-addend.sum c.judge-term.result c.known-sum-in-loop-addend.result c.loop-addend.foremost c.judge-term.new.foremost c.given.new.foremost c.given.result c.joined.result
    (c.loop-addend.invariant first judges) c.judge-term.ensures
    (c.given.ensures.kind ∙ ap given c.sum_of-made.ensures) (c.given.ensures.noted ∙ ap (λ m. noted_all c.judge-term.new.foremost (told c.addend-item.result.at m)) c.sum_of-made.ensures)
    c.joined.ensures c.known-sum-in-loop-addend.ensures)

pub loop-factor-init : goal.loop-factor-init
loop-factor-init t c = λ first judges. judges

pub loop-factor-preserved : goal.loop-factor-preserved
loop-factor-preserved t c = λ first judges.
    rw (fold_more (with_factor c.args.scope.now c.args.must_group) first c.as_slice-factor-items.result.now c.loop-factor.factor-index c.factor-item.result c.factor-item.result c.loop-factor-test.true c.factor-item.is)
    (factor_step_of c.factor-item.result.at c.factor-item.result.scale c.args.foremost.now _ (judged c.args.scope.now c.factor-item.result.factor c.args.must_group) c.loop-factor.product c.judge-right.result c.known-product-in-loop-factor.result c.loop-factor.foremost c.judge-right.new.foremost c.given-in-loop-factor.new.foremost c.given-in-loop-factor.result c.joined-in-loop-factor.result
    (c.loop-factor.invariant first judges) c.judge-right.ensures
    (c.given-in-loop-factor.ensures.kind ∙ ap given c.product_of-made.ensures) (c.given-in-loop-factor.ensures.noted ∙ ap (λ m. noted_all c.judge-right.new.foremost (told c.factor-item.result.at m)) c.product_of-made.ensures)
    c.joined-in-loop-factor.ensures c.known-product-in-loop-factor.ensures)

pub returns-in-Numeral : goal.returns-in-Numeral
returns-in-Numeral t c = rw (c.in-Numeral.is, judged_numeral) (record { known = c.numeral.ensures; noted = refl })

pub returns-in-Text : goal.returns-in-Text
returns-in-Text t c = rw (c.in-Text.is, judged_text) (record { known = c.known.ensures; noted = refl })

pub returns-in-Null : goal.returns-in-Null
returns-in-Null t c = rw (c.in-Null.is, judged_null) (record { known = c.known-in-Null.ensures; noted = refl })

pub returns-in-Column : goal.returns-in-Column
returns-in-Column t c = rw (c.in-Column.is, judged_column) c.judge_column.ensures

pub returns-after-loop-addend : goal.returns-after-loop-addend
returns-after-loop-addend t c =
    let first : Judges c.judge-first.result c.args.foremost.now (judged c.args.scope.now c.in-Sum.first c.args.must_group) c.judge-first.new.foremost = rw (← c.get.ensures) c.judge-first.ensures in
    let all : take c.loop-addend.addend-index c.as_slice-addend-items.result.now ≡ c.in-Sum.rest = take_all c.loop-addend.addend-index c.as_slice-addend-items.result.now c.loop-addend-test.false ∙ c.as_slice-addend-items.ensures in
    rw (c.in-Sum.is, judged_sum, ← all) (c.loop-addend.invariant (compound (judged c.args.scope.now c.in-Sum.first c.args.must_group)) (compound_step c.args.foremost.now (judged c.args.scope.now c.in-Sum.first c.args.must_group) c.judge-first.result c.known-sum.result c.judge-first.new.foremost first c.known-sum.ensures))

pub returns-after-loop-factor : goal.returns-after-loop-factor
returns-after-loop-factor t c =
    let first : Judges c.judge-first-in-Product.result c.args.foremost.now (judged c.args.scope.now c.in-Product.first c.args.must_group) c.judge-first-in-Product.new.foremost = rw (← c.get-in-Product.ensures) c.judge-first-in-Product.ensures in
    let all : take c.loop-factor.factor-index c.as_slice-factor-items.result.now ≡ c.in-Product.rest = take_all c.loop-factor.factor-index c.as_slice-factor-items.result.now c.loop-factor-test.false ∙ c.as_slice-factor-items.ensures in
    rw (c.in-Product.is, judged_product, ← all) (c.loop-factor.invariant (compound (judged c.args.scope.now c.in-Product.first c.args.must_group)) (compound_step c.args.foremost.now (judged c.args.scope.now c.in-Product.first c.args.must_group) c.judge-first-in-Product.result c.known-product.result c.judge-first-in-Product.new.foremost first c.known-product.ensures))

pub returns-in-Sign : goal.returns-in-Sign
returns-in-Sign t c =
    let operand : Judges c.judge-operand.result c.args.foremost.now (judged c.args.scope.now c.in-Sign.expr c.args.must_group) c.judge-operand.new.foremost = rw (← c.get-in-Sign.ensures) c.judge-operand.ensures in
    rw (c.in-Sign.is, judged_sign) (one_step c.in-Sign.at (sign_kind (sign_of c.in-Sign.sign)) c.args.foremost.now (judged c.args.scope.now c.in-Sign.expr c.args.must_group) c.judge-operand.result c.known-in-Sign.result c.judge-operand.new.foremost c.given-in-Sign.new.foremost c.given-in-Sign.result operand
    (c.given-in-Sign.ensures.kind ∙ ap given c.signed_by.ensures) (c.given-in-Sign.ensures.noted ∙ ap (λ m. noted_all c.judge-operand.new.foremost (told c.in-Sign.at m)) c.signed_by.ensures) c.known-in-Sign.ensures)

pub returns-in-Signed : goal.returns-in-Signed
returns-in-Signed t c =
    let operand : Judges c.judge-operand-in-Signed.result c.args.foremost.now (judged c.args.scope.now c.in-Signed.expr c.args.must_group) c.judge-operand-in-Signed.new.foremost = rw (← c.get-in-Signed.ensures) c.judge-operand-in-Signed.ensures in
    rw (c.in-Signed.is, judged_signed) (one_step c.in-Signed.at signed_kind c.args.foremost.now (judged c.args.scope.now c.in-Signed.expr c.args.must_group) c.judge-operand-in-Signed.result c.known-in-Signed.result c.judge-operand-in-Signed.new.foremost c.given-in-Signed.new.foremost c.given-in-Signed.result operand
    (c.given-in-Signed.ensures.kind ∙ ap given c.as_signed.ensures) (c.given-in-Signed.ensures.noted ∙ ap (λ m. noted_all c.judge-operand-in-Signed.new.foremost (told c.in-Signed.at m)) c.as_signed.ensures) c.known-in-Signed.ensures)

pub returns-in-Bits : goal.returns-in-Bits
returns-in-Bits t c =
    let operand : Judges c.judge-operand-in-Bits.result c.args.foremost.now (judged c.args.scope.now c.in-Bits.expr c.args.must_group) c.judge-operand-in-Bits.new.foremost = rw (← c.get-in-Bits.ensures) c.judge-operand-in-Bits.ensures in
    rw (c.in-Bits.is, judged_bits) (one_step c.in-Bits.at (bits_kind (bound_of c.in-Bits.high.value) (bound_of c.in-Bits.low.value)) c.args.foremost.now (judged c.args.scope.now c.in-Bits.expr c.args.must_group) c.judge-operand-in-Bits.result c.known-in-Bits.result c.judge-operand-in-Bits.new.foremost c.given-in-Bits.new.foremost c.given-in-Bits.result operand
    (c.given-in-Bits.ensures.kind ∙ ap given c.bits_of-made.ensures) (c.given-in-Bits.ensures.noted ∙ ap (λ m. noted_all c.judge-operand-in-Bits.new.foremost (told c.in-Bits.at m)) c.bits_of-made.ensures) c.known-in-Bits.ensures)

pub returns-in-Memory : goal.returns-in-Memory
returns-in-Memory t c =
    let address : Judges c.judge-address.result c.judge_memory-table.new.foremost (judged c.args.scope.now c.in-Memory.address c.args.must_group) c.judge-address.new.foremost = rw (← c.get-in-Memory.ensures) c.judge-address.ensures in
    rw (c.in-Memory.is, judged_memory) (memory_step c.args.scope.now c.args.must_group c.in-Memory.qualifier c.in-Memory.at c.in-Memory.width c.args.foremost.now (judged c.args.scope.now c.in-Memory.address c.args.must_group) c.judge-address.result c.known-in-Memory.result c.judge_memory-table.new.foremost c.judge-address.new.foremost c.given-kind.new.foremost c.given-kind.result c.where_right-kind.result c.joined-in-Memory.result
    c.judge_memory-table.ensures.noted address
    (c.given-kind.ensures.kind ∙ ap given (rw (← c.judge_memory-table.ensures.table) c.memory_of.ensures)) (c.given-kind.ensures.noted ∙ ap (λ m. noted_all c.judge-address.new.foremost (told c.in-Memory.at m)) (rw (← c.judge_memory-table.ensures.table) c.memory_of.ensures))
    (rw (← c.judge_memory-table.ensures.right) c.where_right-kind.ensures)
    (c.joined-in-Memory.ensures ∙ ap (λ r. joined r c.judge-address.result.reach) (rw (← c.judge_memory-table.ensures.table) c.of.ensures)) c.known-in-Memory.ensures)

pub returns-in-CountRows : goal.returns-in-CountRows
returns-in-CountRows t c =
    rw (c.in-CountRows.is, judged_count_rows) (aggregate_step c.args.scope.now c.in-CountRows.at function.Count c.args.foremost.now (literal Null) (literal Null).judged _ c.args.foremost.now _ _ (record { known = refl; noted = refl }) c.judge_aggregate-kind.ensures.kind c.judge_aggregate-kind.ensures.noted c.known-in-CountRows.ensures)

pub returns-in-Aggregate : goal.returns-in-Aggregate
returns-in-Aggregate t c =
    let what : Judges c.judge-what.result c.args.foremost.now (judged c.args.scope.now c.in-Aggregate.expr false) c.judge-what.new.foremost = rw (← c.get-in-Aggregate.ensures) c.judge-what.ensures in
    rw (c.in-Aggregate.is, judged_aggregate) (aggregate_step c.args.scope.now c.in-Aggregate.at c.in-Aggregate.function c.args.foremost.now (judged c.args.scope.now c.in-Aggregate.expr false) c.judge-what.result c.known-in-Aggregate.result c.judge-what.new.foremost c.judge_aggregate-kind-in-Aggregate.new.foremost c.judge_aggregate-kind-in-Aggregate.result what c.judge_aggregate-kind-in-Aggregate.ensures.kind c.judge_aggregate-kind-in-Aggregate.ensures.noted c.known-in-Aggregate.ensures)
