use Rattle.std.proofs.Common.{rules, sym, ap, ◌∙◌}
use Rattle.std.specs.Prelude.{◌||◌}
use Rattle.std.specs.List.{list_any}
use Rattle.om_typing.specs.Queries.{has_aggregate}
use Rattle.om_typing.proofs.AggregateLemmas.{aggregate_numeral, aggregate_text, aggregate_null, aggregate_column, aggregate_sum, aggregate_product, aggregate_sign, aggregate_signed, aggregate_bits, aggregate_memory, aggregate_count_rows, aggregate_aggregate, any_more, any_all, or_then, or_else}
use Rattle.om_typing.proofs.aggregates.+is_aggregated.Goals as goal
use Rattle.om_typing.proofs.aggregates.+is_aggregated.Goals.{then-found, else-found, then-found-2, else-found-2}

pub loop-addend-init : goal.loop-addend-init
loop-addend-init t c = search rules

pub loop-addend-preserved : goal.loop-addend-preserved
loop-addend-preserved t c =
    sym (elim c.if-found.branch [
      | then-found w ↦ or_then c.loop-addend.found (has_aggregate c.addend-item.result.term) c.if-found.found w.if-found.true w.found-is
      | else-found w ↦ or_else c.loop-addend.found (has_aggregate c.addend-item.result.term) c.if-found.found w.if-found.false (w.found-is ∙ w.is_aggregated-found-else-found.ensures)
    ]) ∙ any_more (λ one. has_aggregate one.term) c.is_aggregated-found.result c.loop-addend.found c.as_slice-addend-items.result.now c.loop-addend.addend-index c.addend-item.result c.addend-item.result c.loop-addend-test.true c.addend-item.is c.loop-addend.invariant

pub loop-factor-init : goal.loop-factor-init
loop-factor-init t c = search rules

pub loop-factor-preserved : goal.loop-factor-preserved
loop-factor-preserved t c =
    sym (elim c.if-found-2.branch [
      | then-found-2 w ↦ or_then c.loop-factor.found (has_aggregate c.factor-item.result.factor) c.if-found-2.found w.if-found-2.true w.found-is
      | else-found-2 w ↦ or_else c.loop-factor.found (has_aggregate c.factor-item.result.factor) c.if-found-2.found w.if-found-2.false (w.found-is ∙ w.is_aggregated-found-else-found-2.ensures)
    ]) ∙ any_more (λ one. has_aggregate one.factor) c.is_aggregated-found-in-Product.result c.loop-factor.found c.as_slice-factor-items.result.now c.loop-factor.factor-index c.factor-item.result c.factor-item.result c.loop-factor-test.true c.factor-item.is c.loop-factor.invariant

pub returns-in-Numeral : goal.returns-in-Numeral
returns-in-Numeral t c = sym (ap has_aggregate c.in-Numeral.is ∙ aggregate_numeral _)

pub returns-in-Text : goal.returns-in-Text
returns-in-Text t c = sym (ap has_aggregate c.in-Text.is ∙ aggregate_text _ _)

pub returns-in-Null : goal.returns-in-Null
returns-in-Null t c = sym (ap has_aggregate c.in-Null.is ∙ aggregate_null _)

pub returns-in-Column : goal.returns-in-Column
returns-in-Column t c = sym (ap has_aggregate c.in-Column.is ∙ aggregate_column _)

pub returns-after-loop-addend : goal.returns-after-loop-addend
returns-after-loop-addend t c =
    any_all (λ one. has_aggregate one.term) c.is_aggregated-found.result c.loop-addend.found c.as_slice-addend-items.result.now c.loop-addend.addend-index c.loop-addend-test.false c.loop-addend.invariant
    ∙ ap (λ b. b || list_any (λ one. has_aggregate one.term) c.as_slice-addend-items.result.now) (c.is_aggregated-found.ensures ∙ ap has_aggregate c.get.ensures)
    ∙ ap (λ l. has_aggregate c.in-Sum.first || list_any (λ one. has_aggregate one.term) l) c.as_slice-addend-items.ensures
    ∙ sym (ap has_aggregate c.in-Sum.is ∙ aggregate_sum _ _)

pub returns-after-loop-factor : goal.returns-after-loop-factor
returns-after-loop-factor t c =
    any_all (λ one. has_aggregate one.factor) c.is_aggregated-found-in-Product.result c.loop-factor.found c.as_slice-factor-items.result.now c.loop-factor.factor-index c.loop-factor-test.false c.loop-factor.invariant
    ∙ ap (λ b. b || list_any (λ one. has_aggregate one.factor) c.as_slice-factor-items.result.now) (c.is_aggregated-found-in-Product.ensures ∙ ap has_aggregate c.get-in-Product.ensures)
    ∙ ap (λ l. has_aggregate c.in-Product.first || list_any (λ one. has_aggregate one.factor) l) c.as_slice-factor-items.ensures
    ∙ sym (ap has_aggregate c.in-Product.is ∙ aggregate_product _ _)

pub returns-in-Sign : goal.returns-in-Sign
returns-in-Sign t c = c.is_aggregated.ensures ∙ ap has_aggregate c.get-in-Sign.ensures ∙ sym (ap has_aggregate c.in-Sign.is ∙ aggregate_sign _ _ _)

pub returns-in-Signed : goal.returns-in-Signed
returns-in-Signed t c = c.is_aggregated-in-Signed.ensures ∙ ap has_aggregate c.get-in-Signed.ensures ∙ sym (ap has_aggregate c.in-Signed.is ∙ aggregate_signed _ _)

pub returns-in-Bits : goal.returns-in-Bits
returns-in-Bits t c = c.is_aggregated-in-Bits.ensures ∙ ap has_aggregate c.get-in-Bits.ensures ∙ sym (ap has_aggregate c.in-Bits.is ∙ aggregate_bits _ _ _ _)

pub returns-in-Memory : goal.returns-in-Memory
returns-in-Memory t c = c.is_aggregated-in-Memory.ensures ∙ ap has_aggregate c.get-in-Memory.ensures ∙ sym (ap has_aggregate c.in-Memory.is ∙ aggregate_memory _ _ _ _)

pub returns-in-CountRows : goal.returns-in-CountRows
returns-in-CountRows t c = sym (ap has_aggregate c.in-CountRows.is ∙ aggregate_count_rows _)

pub returns-in-Aggregate : goal.returns-in-Aggregate
returns-in-Aggregate t c = sym (ap has_aggregate c.in-Aggregate.is ∙ aggregate_aggregate _ _ _)
