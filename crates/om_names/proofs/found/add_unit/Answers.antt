use Rattle.std.proofs.Common.{◌≡◌, ℕ, ◌++◌, ◌∷◌, [], List, reverse, take, sym, ap, subst, ◌∙◌}
use Rattle.std.proofs.lemmas.List.{reverse-append}
use Rattle.std.specs.Prelude.{filter_map}
use Rattle.om_die.specs.declared.die.Die.{Die}
use Rattle.om_names.specs.Above.{above, placed_behind}
use Rattle.om_names.specs.Around.{around, inside}
use Rattle.om_names.specs.FoundList.{found_at, found_by, found_in_unit}
use Rattle.om_names.specs.OpenEntries.{closed, last_inside}
use Rattle.om_names.specs.declared.names.Names.{Names}
use Rattle.om_names.specs.declared.open_entries.Open.{Open}
use Rattle.om_names.proofs.WalkLemmas.{IsStack, all_come, come_first, come_more, inside_is, no_stack, seen_more, stack_more}
use Rattle.om_names.proofs.found.add_unit.Goals as goal

pub loop-die-init : goal.loop-die-init
loop-die-init c = record {
  come = come_first (found_at c.args.names.now c.args.ranges.now c.base_of-base.result) c.as_slice-die-items.result.now c.args.found.now;
  stack = subst (λ xs. IsStack c.args.names.now c.args.ranges.now c.base_of-base.result (reverse xs) []) (sym c.new-stack.ensures.items) (no_stack c.args.names.now c.args.ranges.now c.base_of-base.result);
}

-- the stack with one more entry
pushed : (names : Names) (ranges : List ℕ) (base : ℕ) (before : List Die) (die : Die) (stack kept items : List Open) (new : Open) → IsStack names ranges base (reverse stack) before → reverse kept ≡ closed die.depth (reverse stack)
    → items ≡ kept ++ new ∷ [] → new.depth ≡ die.depth → new.inside ≡ around names ranges base (die ∷ above die.depth before) → IsStack names ranges base (reverse items) (die ∷ before)
pushed names ranges base before die stack kept items new is closed_is items_are depth_is inside_is =
    let order : new ∷ closed die.depth (reverse stack) ≡ reverse items = sym (ap reverse items_are ∙ reverse-append kept (new ∷ []) ∙ ap (λ xs. new ∷ xs) closed_is) in
    subst (λ xs. IsStack names ranges base xs (die ∷ before)) order (stack_more names ranges base (reverse stack) before is die new depth_is inside_is)

pub loop-die-preserved : goal.loop-die-preserved
unfolding around
loop-die-preserved c =
    let names : Names = c.args.names.now in
    let ranges : List ℕ = c.args.ranges.now in
    let base : ℕ = c.base_of-base.result in
    let die : Die = c.die-item.result in
    let before : List Die = reverse (take c.loop-die.die-index c.as_slice-die-items.result.now) in
    let closes : reverse c.close.new.stack.items ≡ closed die.depth (reverse c.loop-die.stack.items) =
    c.close.ensures ∙ ap (λ depth. closed depth (reverse c.loop-die.stack.items)) (ap (λ (d : Die). d.depth) c.die.view_is) in
    let told : c.last_inside-around.result ≡ around names ranges base (above die.depth before) =
    c.last_inside-around.ensures ∙ ap (λ xs. last_inside (reverse xs)) c.deref.ensures.value ∙ ap last_inside closes
    ∙ inside_is names ranges base (reverse c.loop-die.stack.items) before c.loop-die.invariant.stack die.depth in
    record {
      come =
          come_more (found_at names ranges base) c.as_slice-die-items.result.now c.loop-die.die-index die die c.loop-die.found c.add.new.found _ c.found_of.result c.loop-die-test.true c.die-item.is
          c.loop-die.invariant.come (ap (found_by names base die) (sym told) ∙ sym c.found_of.ensures) c.in_ok-add.ensures;
      stack = subst (λ ds. IsStack names ranges base (reverse c.push.new.self.items) ds) (sym (seen_more c.as_slice-die-items.result.now c.loop-die.die-index die die c.loop-die-test.true c.die-item.is))
          (pushed names ranges base before die c.loop-die.stack.items c.close.new.stack.items c.push.new.self.items _ c.loop-die.invariant.stack closes c.in_ok-push.ensures.items (ap (λ (d : Die). d.depth) c.die.view_is)
          (c.in_ok-inside.ensures ∙ ap (inside names ranges base die) told));
    }

pub returns : goal.returns
unfolding found_in_unit
returns c =
    all_come (found_at c.args.names.now c.args.ranges.now c.base_of-base.result) c.as_slice-die-items.result.now c.loop-die.die-index c.loop-die.found _ c.loop-die-test.false c.loop-die.invariant.come
    ∙ ap (λ dies. c.args.found.now ++ filter_map (found_at c.args.names.now c.args.ranges.now c.base_of-base.result) (placed_behind [] dies)) c.as_slice-die-items.ensures
    ∙ ap (λ base. c.args.found.now ++ filter_map (found_at c.args.names.now c.args.ranges.now base) (placed_behind [] c.args.unit.now.dies)) c.base_of-base.ensures
