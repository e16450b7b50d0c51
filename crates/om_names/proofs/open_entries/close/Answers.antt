use Rattle.std.proofs.Common.{◌-◌, reverse, sym, ◌∙◌, ap, length, take}
use Rattle.om_names.specs.OpenEntries.{closed}
use Rattle.om_names.proofs.WalkLemmas.{close_kept, close_more, close_none}
use Rattle.om_names.proofs.open_entries.close.Goals as goal

pub returns-then-last-depth : goal.returns-then-last-depth
returns-then-last-depth c =
    close_kept c.args.depth c.in-Some.last.now c.deref.result.now c.loop-last.stack.items c.deref.ensures.value c.in-Some.ensures.value c.if-last-depth.true ∙ c.loop-last.invariant

pub loop-last-preserved : goal.loop-last-preserved
loop-last-preserved c =
    ap (λ xs. closed c.args.depth (reverse xs)) (c.pop.ensures.rest ∙ ap (λ n. take (n - 1) c.loop-last.stack.items) (sym c.deref.ensures.len ∙ ap length c.deref.ensures.value))
    ∙ close_more c.args.depth c.in-Some.last.now c.deref.result.now c.loop-last.stack.items c.deref.ensures.value c.in-Some.ensures.value c.if-last-depth.false ∙ c.loop-last.invariant

pub returns : goal.returns
returns c = close_none c.args.depth c.deref.result.now c.loop-last.stack.items c.deref.ensures.value c.in_default.ensures.value ∙ c.loop-last.invariant
