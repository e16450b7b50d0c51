-- The rows of descriptions against the rules that they have.
use Rattle.std.proofs.Common.{◌≡◌, ℕ, ◌+◌, ◌<◌, ◌≤◌, max, min, Bool, true, false, cond, leb, ◌&&◌, List, [], ◌∷◌, ◌++◌, map, Option, Some, None, refl, sym, ap, ◌∙◌, inl, inr, ◌⊎◌, arith}
use Rattle.std.specs.Prelude.{ℤ, find, flat_map}
use Rattle.std.specs.Option.{option_and_then, option_map, option_or}
use Rattle.std.proofs.lemmas.Bool.{cases_lt, le-leb, le-ltb, lt-leb, lt-ltb}
use Rattle.om_claims.specs.Claims.{meant_at}
use Rattle.om_claims.specs.Pieces.{IsIndexOf}
use Rattle.om_claims.specs.declared.claim.Claim.{Claim}
use Rattle.om_claims.specs.declared.piece.Piece.{Piece}
use Rattle.om_cfi.specs.Frames.{cfa_at, frames_in, has, rule_of, rules_in}
use Rattle.om_cfi.specs.Instructions.{items}
use Rattle.om_cfi.specs.Kept.{rule_in, rules_told_by}
use Rattle.om_cfi.specs.Rows.{Row, claims_in, no_rows, risen, row, rows_after, rows_from, rows_of, rows_then, with_descriptions, with_rows}
use Rattle.om_cfi.specs.Rules.{Rules, done, in_force, moved, rule_at, up_to}
use Rattle.om_cfi.specs.declared.description.Description.{Description}
use Rattle.om_cfi.specs.declared.instruction.Item.{Item}
use Rattle.om_cfi.specs.declared.instruction.Item.TheVariants.{Broken, Known, Unknown}
use Rattle.om_cfi.specs.declared.rows.Rows.{Rows}
use Rattle.om_cfi.specs.declared.rule.Factors.{Factors}
use Rattle.om_cfi.proofs.MeantLemmas.{has_row, thing_meant}

-- the rule of the first row that has an address
rule_by : ℕ → List Row → Option (Option (ℕ × ℤ))
rule_by pc rows = option_map (λ r. r.0) (find (has_row pc) rows)

in_row : (pc : ℕ) (rule : Option (ℕ × ℤ)) (lo hi : ℕ) (rows : List Row) → lo ≤ pc → pc < hi → rule_by pc (row rule lo hi ∷ rows) ≡ Some rule
unfolding rule_by
in_row pc rule lo hi rows from below = rw (le-leb _ _ from, lt-ltb _ _ below) refl

-- an address lies before another or isn't before a third
abbrev IsOut : ℕ → ℕ → ℕ → Type 0
IsOut pc lo hi = (pc < lo) ⊎ (hi ≤ pc)

and_false : (b : Bool) → (b && false) ≡ false
and_false true = refl
and_false false = refl

past_row : (pc : ℕ) (rule : Option (ℕ × ℤ)) (lo hi : ℕ) (rows : List Row) → IsOut pc lo hi → rule_by pc (row rule lo hi ∷ rows) ≡ rule_by pc rows
unfolding rule_by
past_row pc rule lo hi rows (inl before) = rw (lt-leb _ _ before) refl
past_row pc rule lo hi rows (inr behind) = rw (le-ltb _ _ behind, and_false (leb lo pc)) refl

-- ---- no row has an address outside

past_risen : (pc low location end : ℕ) (rule : Option (ℕ × ℤ)) (rows : List Row) → IsOut pc low end → rule_by pc (risen low location end rule ++ rows) ≡ rule_by pc rows
past_risen pc low location end rule rows out =
    elim (cases_lt low location) [
      | inl rises ↦ rw (lt-ltb _ _ rises) (past_row pc rule low (min location end) rows (nearer out))
      | inr falls ↦ rw (le-ltb _ _ falls) refl
    ]
  where
    nearer : IsOut pc low end → IsOut pc low (min location end)
    nearer (inl before) = inl before
    nearer (inr behind) = inr (omega (arith, behind))

later : (pc low to end : ℕ) → IsOut pc low end → IsOut pc (max low to) end
later pc low to end (inl before) = inl (omega (arith, before))
later pc low to end (inr behind) = inr behind

none_then : (pc low end : ℕ) (next : Rules → List Row) (made : Option Rules) → IsOut pc low end → ((rules : Rules) → rule_by pc (next rules) ≡ None) → rule_by pc (rows_then low end next made) ≡ None
unfolding rule_by
none_then pc low end next None out none = past_row pc None low end [] out
none_then pc low end next (Some rules) out none = none rules

none_outside : (factors : Factors) (pc end low location : ℕ) (items : List Item) (rules : Rules) → IsOut pc low end → rule_by pc (rows_after factors end low location items rules) ≡ None
unfolding rows_after rule_by
none_outside factors pc end low location [] rules out = past_row pc (in_force rules) low end [] out
none_outside factors pc end low location (Known x ∷ items) rules out =
    none_then pc low end _ (done factors.data_alignment x rules) out
    (λ made. past_risen pc low (moved factors.code_alignment location x) end (in_force made) _ out
    ∙ none_outside factors pc end (max low (moved factors.code_alignment location x)) (moved factors.code_alignment location x) items made (later pc low (moved factors.code_alignment location x) end out))
none_outside factors pc end low location (Unknown ∷ items) rules out = past_row pc None low end [] out
none_outside factors pc end low location (Broken ∷ items) rules out = past_row pc None low end [] out

-- ---- inside, the rows tell the rule that is in force where the location has passed the address

past_item : (factors : Factors) (pc location : ℕ) (items : List Item) (rules : Rules) → pc < location → up_to factors pc location items rules ≡ Some rules
unfolding up_to
past_item factors pc location [] rules past = refl
past_item factors pc location (Known x ∷ items) rules past = rw (lt-ltb _ _ past) refl
past_item factors pc location (Unknown ∷ items) rules past = rw (lt-ltb _ _ past) refl
past_item factors pc location (Broken ∷ items) rules past = rw (lt-ltb _ _ past) refl

-- behind an instruction, where all is well from each address on that is no lower than the location there
module _ (factors : Factors) (pc end low to : ℕ) (items : List Item) (from : low ≤ pc) (below : pc < end)
    (well : (high : ℕ) (made : Rules) → to ≤ high → high ≤ pc → rule_by pc (rows_after factors end high to items made) ≡ Some (option_and_then in_force (up_to factors pc to items made))) where
  rises_by : (made : Rules) → low < to → rule_by pc (row (in_force made) low (min to end) ∷ rows_after factors end (max low to) to items made) ≡ Some (option_and_then in_force (up_to factors pc to items made))
  rises_by made rises = elim (cases_lt pc to) [
    | inl past ↦ in_row pc (in_force made) low (min to end) _ from (omega (arith, past, below)) ∙ ap (λ o. Some (option_and_then in_force o)) (sym (past_item factors pc to items made past))
    | inr before ↦ past_row pc (in_force made) low (min to end) _ (inr (omega (arith, before))) ∙ well (max low to) made (omega arith) (omega (arith, before, from))
  ]

  some_by : (made : Rules) → rule_by pc (risen low to end (in_force made) ++ rows_after factors end (max low to) to items made) ≡ Some (option_and_then in_force (up_to factors pc to items made))
  some_by made = elim (cases_lt low to) [
    | inl rises ↦ rw (lt-ltb _ _ rises) (rises_by made rises)
    | inr lower ↦ rw (le-ltb _ _ lower) (well (max low to) made (omega arith) (omega (arith, lower, from)))
  ]

  known_by : (made : Option Rules)
      → rule_by pc (rows_then low end (λ made. risen low to end (in_force made) ++ rows_after factors end (max low to) to items made) made) ≡ Some (option_and_then in_force (option_and_then (up_to factors pc to items) made))
  known_by None = in_row pc None low end [] from below
  known_by (Some made) = some_by made

inside : (factors : Factors) (pc end low location : ℕ) (items : List Item) (rules : Rules) → location ≤ low → low ≤ pc → pc < end
    → rule_by pc (rows_after factors end low location items rules) ≡ Some (option_and_then in_force (up_to factors pc location items rules))
unfolding rows_after up_to
inside factors pc end low location [] rules falls from below = in_row pc (in_force rules) low end [] from below
inside factors pc end low location (Known x ∷ items) rules falls from below =
    let within : location ≤ pc = omega (arith, falls, from) in
    rw (le-ltb _ _ within)
    (known_by factors pc end low (moved factors.code_alignment location x) items from below
    (λ high made higher reached. inside factors pc end high (moved factors.code_alignment location x) items made higher reached below) (done factors.data_alignment x rules))
inside factors pc end low location (Unknown ∷ items) rules falls from below = let within : location ≤ pc = omega (arith, falls, from) in rw (le-ltb _ _ within) (in_row pc None low end [] from below)
inside factors pc end low location (Broken ∷ items) rules falls from below = let within : location ≤ pc = omega (arith, falls, from) in rw (le-ltb _ _ within) (in_row pc None low end [] from below)

-- ---- a description

inside_from : (it : Description) (pc : ℕ) (begin : Option Rules) → it.first ≤ pc → pc < it.first + it.length
    → rule_by pc (rows_from it begin) ≡ Some (option_and_then in_force (option_and_then (up_to it.factors pc it.first (items 0 it.own)) begin))
unfolding rows_from
inside_from it pc None from below = in_row pc None it.first (it.first + it.length) [] from below
inside_from it pc (Some rules) from below = inside it.factors pc (it.first + it.length) it.first it.first (items 0 it.own) rules (omega arith) from below

outside_from : (it : Description) (pc : ℕ) (begin : Option Rules) → IsOut pc it.first (it.first + it.length) → rule_by pc (rows_from it begin) ≡ None
unfolding rows_from rule_by
outside_from it pc None out = past_row pc None it.first (it.first + it.length) [] out
outside_from it pc (Some rules) out = none_outside it.factors pc (it.first + it.length) it.first it.first (items 0 it.own) rules out

-- what the rows of a description tell
one_told : (it : Description) (pc : ℕ) → rule_by pc (rows_of it) ≡ cond (has pc it) (Some (rule_of pc it)) None
unfolding rows_of rule_of rule_at
one_told it pc =
    elim (cases_lt pc it.first) [
      | inl before ↦ rw (lt-leb _ _ before) (outside_from it pc _ (inl before))
      | inr from ↦ rw (le-leb _ _ from) (elim (cases_lt pc (it.first + it.length)) [
        | inl below ↦ rw (lt-ltb _ _ below) (inside_from it pc _ from below)
        | inr behind ↦ rw (le-ltb _ _ behind) (outside_from it pc _ (inr behind))
      ])
    ]

-- ---- descriptions

both_by : (pc : ℕ) (xs ys : List Row) → rule_by pc (xs ++ ys) ≡ option_or (rule_by pc xs) (rule_by pc ys)
unfolding rule_by
both_by pc [] ys = refl
both_by pc (x ∷ xs) ys = by_first (has_row pc x) (both_by pc xs ys)
  where
    by_first : (b : Bool) → option_map (λ r. r.0) (find (has_row pc) (xs ++ ys)) ≡ option_or (option_map (λ r. r.0) (find (has_row pc) xs)) (option_map (λ r. r.0) (find (has_row pc) ys))
        → option_map (λ r. r.0) (cond b (Some x) (find (has_row pc) (xs ++ ys))) ≡ option_or (option_map (λ r. r.0) (cond b (Some x) (find (has_row pc) xs))) (option_map (λ r. r.0) (find (has_row pc) ys))
    by_first true same = refl
    by_first false same = same

all_told : (frames : List Description) (pc : ℕ) → option_and_then (λ rule. rule) (rule_by pc (flat_map rows_of frames)) ≡ cfa_at pc frames
unfolding cfa_at rule_by
all_told [] pc = refl
all_told (it ∷ frames) pc =
    ap (option_and_then (λ rule. rule)) (both_by pc (rows_of it) (flat_map rows_of frames) ∙ ap (λ o. option_or o (rule_by pc (flat_map rows_of frames))) (one_told it pc))
    ∙ by_first (has pc it) (all_told frames pc)
  where
    by_first : (b : Bool) → option_and_then (λ rule. rule) (rule_by pc (flat_map rows_of frames)) ≡ option_and_then (rule_of pc) (find (has pc) frames)
        → option_and_then (λ rule. rule) (option_or (cond b (Some (rule_of pc it)) None) (rule_by pc (flat_map rows_of frames))) ≡ option_and_then (rule_of pc) (cond b (Some it) (find (has pc) frames))
    by_first true same = refl
    by_first false same = same

-- ---- what is kept

fun_ext : {A B : Type 0} {f g : A → B} → ((x : A) → f x ≡ g x) → f ≡ g
fun_ext same = λ i. λ x. same x i

claims_are : (frames : List Description) → (with_descriptions no_rows frames).claims ≡ claims_in (flat_map rows_of frames)
unfolding with_descriptions with_rows
claims_are frames = refl

rules_are : (frames : List Description) → (with_descriptions no_rows frames).rules ≡ map (λ r. r.0) (flat_map rows_of frames)
unfolding with_descriptions with_rows
rules_are frames = refl

pub section_told : (section : List ℕ) (rows : Rows) (claims : List Claim) (pieces : List Piece) → rows ≡ with_descriptions no_rows (frames_in section) → claims ≡ rows.claims → IsIndexOf claims pieces
    → rules_told_by (record { rules = rows.rules; pieces = pieces }) ≡ rules_in section
unfolding rules_told_by rules_in rule_by
section_told section rows claims pieces is same index =
    fun_ext (λ pc.
    ap (rule_in rows.rules) (index pc ∙ ap (λ cs. meant_at cs pc) (same ∙ ap (λ r. r.claims) is ∙ claims_are (frames_in section)))
    ∙ ap (λ rs. rule_in rs (meant_at (claims_in (flat_map rows_of (frames_in section))) pc)) (ap (λ r. r.rules) is ∙ rules_are (frames_in section))
    ∙ ap (option_and_then (λ rule. rule)) (thing_meant (flat_map rows_of (frames_in section)) pc)
    ∙ all_told (frames_in section) pc)
