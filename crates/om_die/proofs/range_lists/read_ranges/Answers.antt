use Rattle.std.proofs.Common.{◌++◌, Some, refl, sym, ap, ◌∙◌}
use Rattle.std.specs.Option.{option_map}
use Rattle.om_base.proofs.ReadingLaws.{append-nil}
use Rattle.om_die.specs.RangeLists.{range_list}
use Rattle.om_die.proofs.RangeLemmas.{chooses, ends, has_range, no_more, one_more, shorter}
use Rattle.om_die.proofs.range_lists.read_ranges.Goals as goal

pub returns-then-is_end : goal.returns-then-is_end
returns-then-is_end c =
    c.loop-begin.invariant ∙ ap (option_map (λ later. c.loop-begin.ranges ++ later))
    (ends c.loop-begin.base c.loop-begin.rest.now (c.in-Some.begin, c.in-Some.end) c.in-Some.behind.now c.in-Some.ensures (sym c.is_end.ensures ∙ c.if-is_end.true))
    ∙ ap Some (append-nil c.loop-begin.ranges)

pub loop-begin-smaller-then-begin : goal.loop-begin-smaller-then-begin
loop-begin-smaller-then-begin c = shorter c.loop-begin.base c.loop-begin.rest.now (c.in-Some.begin, c.in-Some.end) c.in-Some.behind.now c.in-Some.ensures

pub loop-begin-preserved-then-begin : goal.loop-begin-preserved-then-begin
loop-begin-preserved-then-begin c =
    c.loop-begin.invariant ∙ ap (option_map (λ later. c.loop-begin.ranges ++ later))
    (chooses c.loop-begin.base c.loop-begin.rest.now (c.in-Some.begin, c.in-Some.end) c.in-Some.behind.now c.in-Some.ensures (sym c.is_end.ensures ∙ c.if-is_end.false) c.if-begin.true)

pub loop-begin-smaller : goal.loop-begin-smaller
loop-begin-smaller c = shorter c.loop-begin.base c.loop-begin.rest.now (c.in-Some.begin, c.in-Some.end) c.in-Some.behind.now c.in-Some.ensures

pub loop-begin-preserved : goal.loop-begin-preserved
loop-begin-preserved c =
    rw (c.in_ok-push.ensures.ok, c.range.ensures) (c.loop-begin.invariant ∙ ap (option_map (λ later. c.loop-begin.ranges ++ later))
    (has_range c.loop-begin.base c.loop-begin.rest.now (c.in-Some.begin, c.in-Some.end) c.in-Some.behind.now c.in-Some.ensures (sym c.is_end.ensures ∙ c.if-is_end.false) c.if-begin.false)
    ∙ one_more c.loop-begin.ranges _ (range_list c.loop-begin.base c.in-Some.behind.now))

pub returns : goal.returns
returns c =
    (c.loop-begin.invariant ∙ ap (option_map (λ later. c.loop-begin.ranges ++ later)) (no_more c.loop-begin.base c.loop-begin.rest.now c.in_default.ensures), refl)
