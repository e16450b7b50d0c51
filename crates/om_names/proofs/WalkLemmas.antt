-- The stack of a walk holds the entries above the next one, and variables are found entry by entry.
use Rattle.std.proofs.Common.{◌≡◌, ℕ, suc, ◌+◌, ◌-◌, ◌<◌, ◌≤◌, cond, ltb, List, [], ◌∷◌, ◌++◌, reverse, length, get_or, take, drop, Option, Some, None, refl, sym, ap, subst, ◌∙◌, inl, inr, arith, append_assoc, append-nil, drop-cons}
use Rattle.std.proofs.lemmas.Bool.{cases_lt, le-ltb, lt-ltb}
use Rattle.std.proofs.lemmas.List.{drop_all, reverse-append, take_more, take_all}
use Rattle.std.proofs.lemmas.Option.{get_or_from_slice_get, slice_get-get_or}
use Rattle.std.specs.Prelude.{filter_map, option_to_list, slice_get}
use Rattle.om_die.specs.declared.die.Die.{Die}
use Rattle.om_names.specs.Above.{Placed, above, placed_behind}
use Rattle.om_names.specs.Around.{around}
use Rattle.om_names.specs.OpenEntries.{closed, last_inside}
use Rattle.om_names.specs.declared.found.Found.{Found}
use Rattle.om_names.specs.declared.names.Names.{Names}
use Rattle.om_names.specs.declared.open_entries.Open.{Open}

-- ---- the entries above

again_by : (e : ℕ) (die : Die) (before : List Die) → ((d : ℕ) → d ≤ die.depth → above d before ≡ above d (above die.depth before))
    → cond (ltb die.depth e) (die ∷ above die.depth before) (above e before) ≡ cond (ltb die.depth e) (die ∷ above die.depth (above die.depth before)) (above e (above die.depth before))
again_by e die before below =
    elim (cases_lt die.depth e) [
      | inl less ↦ rw (lt-ltb _ _ less) (ap (λ ds. die ∷ ds) (below die.depth (omega arith)))
      | inr more ↦ rw (le-ltb _ _ more) (below e more)
    ]

-- of those above a depth, those above a lower one
pub above_again : (e f : ℕ) (before : List Die) → e ≤ f → above e before ≡ above e (above f before)
unfolding above
above_again e f [] low = refl
above_again e f (die ∷ before) low =
    elim (cases_lt die.depth f) [
      | inl less ↦ rw (lt-ltb _ _ less) (again_by e die before (λ d down. above_again d die.depth before down))
      | inr more ↦ let also : e ≤ die.depth = omega arith in rw (le-ltb _ _ more, le-ltb _ _ also) (above_again e f before low)
    ]

-- each entry is less deep than those in front of it
pub Falls : List Die → Type 0
Falls [] = Unit {0}
Falls (die ∷ line) = (line ≡ above die.depth line) × Falls line

-- ---- the stack

-- the entries that are open behind some entries, the last first
pub opened : List Die → List Die
opened [] = []
opened (die ∷ before) = die ∷ above die.depth before

-- above the next entry stand those that it leaves open
above_opened : (depth : ℕ) (before : List Die) → above depth (opened before) ≡ above depth before
unfolding opened above
above_opened depth [] = refl
above_opened depth (die ∷ before) =
    elim (cases_lt die.depth depth) [
      | inl less ↦ rw (lt-ltb _ _ less) (ap (λ ds. die ∷ ds) (sym (above_again die.depth die.depth before (omega arith))))
      | inr more ↦ rw (le-ltb _ _ more) (sym (above_again depth die.depth before more))
    ]

module _ (names : Names) (ranges : List ℕ) (base : ℕ) where
  -- a stack tells, of each entry of a line, what the entries stand in that stand right below it
  pub Tells : List Open → List Die → Type 0
  Tells [] [] = Unit {0}
  Tells [] (die ∷ line) = ⊥
  Tells (last ∷ stack) [] = ⊥
  Tells (last ∷ stack) (die ∷ line) = (last.depth ≡ die.depth) × (last.inside ≡ around names ranges base (die ∷ line)) × Tells stack line

  closed_tells : (depth : ℕ) (stack : List Open) (line : List Die) → Tells stack line → Falls line → Tells (closed depth stack) (above depth line) × Falls (above depth line)
  unfolding Tells Falls closed above
  closed_tells depth [] [] tells falls = (tt, tt)
  closed_tells depth [] (die ∷ line) tells falls = absurd tells
  closed_tells depth (last ∷ stack) [] tells falls = absurd tells
  closed_tells depth (last ∷ stack) (die ∷ line) tells falls =
      elim (cases_lt die.depth depth) [
        | inl less ↦ let also : last.depth < depth = omega arith in rw (lt-ltb _ _ less, lt-ltb _ _ also) (subst (λ ds. Tells (last ∷ stack) (die ∷ ds) × Falls (die ∷ ds)) falls.0 (tells, falls))
        | inr more ↦ let also : depth ≤ last.depth = omega arith in rw (le-ltb _ _ more, le-ltb _ _ also) (closed_tells depth stack line tells.2 falls.1)
      ]

  -- the stack is right behind some entries
  pub record IsStack (stack : List Open) (before : List Die) : Type 0 where
    pub tells : Tells stack (opened before)
    pub falls : Falls (opened before)

  pub no_stack : IsStack [] []
  unfolding Tells Falls opened
  no_stack = record { tells = tt; falls = tt }

  inside_told : (stack : List Open) (line : List Die) → Tells stack line → last_inside stack ≡ around names ranges base line
  unfolding Tells around
  inside_told [] [] tells = refl
  inside_told [] (die ∷ line) tells = absurd tells
  inside_told (last ∷ stack) [] tells = absurd tells
  inside_told (last ∷ stack) (die ∷ line) tells = tells.1

  module _ (stack : List Open) (before : List Die) (is : IsStack stack before) where
    -- the last entry that is open tells what the next one stands in
    pub inside_is : (depth : ℕ) → last_inside (closed depth stack) ≡ around names ranges base (above depth before)
    inside_is depth =
        inside_told (closed depth stack) (above depth (opened before)) (closed_tells depth stack (opened before) is.tells is.falls).0 ∙ ap (around names ranges base) (above_opened depth before)

    pub stack_more : (die : Die) (new : Open) → new.depth ≡ die.depth → new.inside ≡ around names ranges base (die ∷ above die.depth before) → IsStack (new ∷ closed die.depth stack) (die ∷ before)
    unfolding Tells Falls opened
    stack_more die new depth_is inside_is =
        let both = closed_tells die.depth stack (opened before) is.tells is.falls in
        let kept : Tells (closed die.depth stack) (above die.depth before) = subst (Tells (closed die.depth stack)) (above_opened die.depth before) both.0 in
        let fallen : Falls (above die.depth before) = subst Falls (above_opened die.depth before) both.1 in
        record {
          tells = (depth_is, inside_is, kept);
          falls = (above_again die.depth die.depth before (omega arith), fallen);
        }

-- ---- the end of a stack

parts_by : (stack : List Open) (last : Open) → Some last ≡ slice_get stack (length stack - 1) → 0 < length stack → stack ≡ take (length stack - 1) stack ++ last ∷ []
parts_by stack last is some =
    let next : length stack - 1 + 1 ≡ length stack = omega arith in
    sym (take_all (length stack - 1 + 1) stack (omega arith)) ∙ take_more stack (length stack - 1) last (omega arith)
    ∙ ap (λ x. take (length stack - 1) stack ++ x ∷ []) (get_or_from_slice_get stack (length stack - 1) last last (sym is))

last_parts : (stack : List Open) (last : Open) → Some last ≡ slice_get stack (length stack - 1) → stack ≡ take (length stack - 1) stack ++ last ∷ []
last_parts [] last is = absurd cc
last_parts (one ∷ stack) last is = parts_by (one ∷ stack) last is (omega arith)

last_first : (stack : List Open) (last : Open) → Some last ≡ slice_get stack (length stack - 1) → reverse stack ≡ last ∷ reverse (take (length stack - 1) stack)
last_first stack last is = ap reverse (last_parts stack last is) ∙ reverse-append (take (length stack - 1) stack) (last ∷ [])

pub close_more : (depth : ℕ) (last : Open) (stack items : List Open) → stack ≡ items → Some last ≡ slice_get stack (length stack - 1) → depth ≤ last.depth
    → closed depth (reverse (take (length items - 1) items)) ≡ closed depth (reverse items)
unfolding closed
close_more depth last stack items same is deep =
    let first : reverse items ≡ last ∷ reverse (take (length items - 1) items) = last_first items last (subst (λ xs. Some last ≡ slice_get xs (length xs - 1)) same is) in
    sym (ap (closed depth) first ∙ kept)
  where
    kept : closed depth (last ∷ reverse (take (length items - 1) items)) ≡ closed depth (reverse (take (length items - 1) items))
    kept = rw (le-ltb _ _ deep) refl

pub close_kept : (depth : ℕ) (last : Open) (stack items : List Open) → stack ≡ items → Some last ≡ slice_get stack (length stack - 1) → last.depth < depth → reverse items ≡ closed depth (reverse items)
unfolding closed
close_kept depth last stack items same is less =
    let first : reverse items ≡ last ∷ reverse (take (length items - 1) items) = last_first items last (subst (λ xs. Some last ≡ slice_get xs (length xs - 1)) same is) in
    first ∙ sym (ap (closed depth) first ∙ kept)
  where
    kept : closed depth (last ∷ reverse (take (length items - 1) items)) ≡ last ∷ reverse (take (length items - 1) items)
    kept = rw (lt-ltb _ _ less) refl

none_here : (stack : List Open) → None ≡ slice_get stack (length stack - 1) → stack ≡ []
none_here [] is = refl
none_here (last ∷ stack) is = absurd (missing (slice_get-get_or (last ∷ stack) (length (last ∷ stack) - 1) last (omega arith)))
  where
    missing : slice_get (last ∷ stack) (length (last ∷ stack) - 1) ≡ Some (get_or (last ∷ stack) (length (last ∷ stack) - 1) last) → ⊥
    missing there = let e : None ≡ Some (get_or (last ∷ stack) (length (last ∷ stack) - 1) last) = is ∙ there in cc

pub close_none : (depth : ℕ) (stack items : List Open) → stack ≡ items → None ≡ slice_get stack (length stack - 1) → reverse items ≡ closed depth (reverse items)
unfolding closed
close_none depth stack items same is = let none : items ≡ [] = sym same ∙ none_here stack is in rw none refl

pub inside_some : (last : Open) (stack : List Open) → Some last ≡ slice_get stack (length stack - 1) → last.inside ≡ last_inside (reverse stack)
inside_some last stack is = sym (ap last_inside (last_first stack last is))

pub inside_none : (stack : List Open) → None ≡ slice_get stack (length stack - 1) → last_inside [] ≡ last_inside (reverse stack)
inside_none stack is = ap (λ xs. last_inside (reverse xs)) (sym (none_here stack is))

-- ---- the walk

-- the entries behind one more
pub seen_more : (dies : List Die) (i : ℕ) (die d : Die) → i < length dies → die ≡ get_or dies i d → reverse (take (i + 1) dies) ≡ die ∷ reverse (take i dies)
seen_more dies i die d within at = ap reverse (take_more dies i d within) ∙ reverse-append (take i dies) (get_or dies i d ∷ []) ∙ ap (λ x. x ∷ reverse (take i dies)) (sym at)

one_first : {X Y : Type 0} (h : X → Option Y) (x : X) (xs : List X) (o : Option Y) → h x ≡ o → filter_map h (x ∷ xs) ≡ option_to_list o ++ filter_map h xs
one_first h x xs None is = rw is refl
one_first h x xs (Some y) is = rw is refl

module _ (find : Placed → Option Found) where
  -- what is found among some entries, and what is still to come among those behind them
  pub ToCome : List Die → ℕ → List Found → List Found → Type 0
  ToCome dies i found all = found ++ filter_map find (placed_behind (reverse (take i dies)) (drop i dies)) ≡ all

  pub come_first : (dies : List Die) (old : List Found) → ToCome dies 0 old (old ++ filter_map find (placed_behind [] dies))
  unfolding ToCome
  come_first dies old = refl

  come_by : (before rest : List Die) (die : Die) (found new all : List Found) (one : Option Found) → find (record { die = die; line = above die.depth before }) ≡ one
      → found ++ filter_map find (placed_behind before (die ∷ rest)) ≡ all → new ≡ found ++ option_to_list one → new ++ filter_map find (placed_behind (die ∷ before) rest) ≡ all
  unfolding placed_behind
  come_by before rest die found new all one one_is is new_is =
      ap (λ xs. xs ++ filter_map find (placed_behind (die ∷ before) rest)) new_is
      ∙ append_assoc found (option_to_list one) (filter_map find (placed_behind (die ∷ before) rest))
      ∙ ap (λ xs. found ++ xs) (sym (one_first find (record { die = die; line = above die.depth before }) (placed_behind (die ∷ before) rest) one one_is)) ∙ is

  pub come_more : (dies : List Die) (i : ℕ) (die d : Die) (found new all : List Found) (one : Option Found) → i < length dies → die ≡ get_or dies i d → ToCome dies i found all
      → find (record { die = die; line = above die.depth (reverse (take i dies)) }) ≡ one → new ≡ found ++ option_to_list one → ToCome dies (i + 1) new all
  unfolding ToCome
  come_more dies i die d found new all one within at is one_is new_is =
      let next : suc i ≡ i + 1 = omega arith in
      let rest : drop i dies ≡ die ∷ drop (suc i) dies = drop-cons dies i d within ∙ ap (λ x. x ∷ drop (suc i) dies) (sym at) in
      let front : found ++ filter_map find (placed_behind (reverse (take i dies)) (die ∷ drop (suc i) dies)) ≡ all = subst (λ xs. found ++ filter_map find (placed_behind (reverse (take i dies)) xs) ≡ all) rest is in
      subst (λ n. new ++ filter_map find (placed_behind (reverse (take (i + 1) dies)) (drop n dies)) ≡ all) next
      (subst (λ xs. new ++ filter_map find (placed_behind xs (drop (suc i) dies)) ≡ all) (sym (seen_more dies i die d within at))
      (come_by (reverse (take i dies)) (drop (suc i) dies) die found new all one one_is front new_is))

  pub all_come : (dies : List Die) (i : ℕ) (found all : List Found) → length dies ≤ i → ToCome dies i found all → found ≡ all
  unfolding ToCome placed_behind
  all_come dies i found all past is =
      sym (append-nil found) ∙ subst (λ xs. found ++ filter_map find (placed_behind (reverse (take i dies)) xs) ≡ all) (drop_all i dies past) is
