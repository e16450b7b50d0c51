-- What entries tell of their names and types, entry by entry.
use Rattle.std.proofs.Common.{◌≡◌, ℕ, zero, suc, ◌+◌, ◌-◌, ◌<◌, Bool, true, false, cond, nat_eq, List, [], ◌∷◌, ◌++◌, length, get_or, take, Option, Some, None, refl, sym, ap, subst, ◌∙◌, arith, append_assoc, append-nil}
use Rattle.std.specs.Option.{option_and_then, option_map, option_or}
use Rattle.std.specs.List.{find}
use Rattle.std.proofs.lemmas.Grind.{flat_map-append}
use Rattle.std.proofs.lemmas.List.{take_more}
use Rattle.std.proofs.lemmas.List.Folds.{find-append}
use Rattle.om_die.specs.Units.{dies_of_units}
use Rattle.om_die.specs.declared.die.Die.{Die}
use Rattle.om_die.specs.declared.unit.Unit.{Unit}
use Rattle.om_names.specs.Functions.{entry_at, link_of, reached}
use Rattle.om_names.specs.Names.{AreNames, find_in, reached_by, told_at, told_of}
use Rattle.om_names.specs.declared.names.Names.{Names}
use Rattle.om_names.specs.declared.names.Told.{Told}

pub none_yet : (names : Names) → ((offset : ℕ) → find_in names offset ≡ None) → AreNames [] names
none_yet names none = none

map_or : {A B : Type 0} (f : A → B) (found other : Option A) → option_map f (option_or found other) ≡ option_or (option_map f found) (option_map f other)
map_or f None other = refl
map_or f (Some x) other = refl

told_once : (b : Bool) (die : Die) → option_map told_of (cond b (Some die) None) ≡ cond b (Some (told_of die)) None
told_once true die = refl
told_once false die = refl

-- one more entry
pub kept_more : (before : List Die) (die : Die) (old new : Names) → AreNames before old → ((offset : ℕ) → find_in new offset ≡ option_or (find_in old offset) (told_at die offset)) → AreNames (before ++ die ∷ []) new
kept_more before die old new are is =
    λ offset. is offset ∙ ap (λ o. option_or o (told_at die offset)) (are offset) ∙ ap (option_or (option_map told_of (entry_at before offset))) (sym (told_once (nat_eq die.at offset) die))
    ∙ sym (map_or told_of (entry_at before offset) (entry_at (die ∷ []) offset)) ∙ ap (option_map told_of) (sym (find-append (λ d. nat_eq d.at offset) before (die ∷ [])))

pub kept_all : (before dies : List Die) (i : ℕ) (die d : Die) (old new : Names) → i < length dies → die ≡ get_or dies i d → AreNames (before ++ take i dies) old
    → ((offset : ℕ) → find_in new offset ≡ option_or (find_in old offset) (told_at die offset)) → AreNames (before ++ take (i + 1) dies) new
kept_all before dies i die d old new within at are is =
    let parts : before ++ take (i + 1) dies ≡ (before ++ take i dies) ++ die ∷ [] =
    ap (λ ds. before ++ ds) (take_more dies i d within) ∙ ap (λ x. before ++ (take i dies ++ x ∷ [])) (sym at) ∙ sym (append_assoc before (take i dies) (die ∷ [])) in
    subst (λ ds. AreNames ds new) (sym parts) (kept_more (before ++ take i dies) die old new are is)

-- the entries of one more unit
pub units_more : (units : List Unit) (i : ℕ) (unit d : Unit) → i < length units → unit ≡ get_or units i d → dies_of_units (take (i + 1) units) ≡ dies_of_units (take i units) ++ unit.dies
units_more units i unit d within at =
    ap dies_of_units (take_more units i d within) ∙ ap (λ x. dies_of_units (take i units ++ x ∷ [])) (sym at) ∙ flat_map-append (λ (unit : Unit). unit.dies) (take i units) (unit ∷ []) ∙ ap (λ ds. dies_of_units (take i units) ++ ds) (append-nil unit.dies)

-- ---- what is reached

module _ {A : Type 0} (own : Told → Option A) where
  reached_step : (links : ℕ) (find : ℕ → Option Told) (told : Told) → (links ≡ 0 → ⊥) → reached_by own links find told ≡ option_or (own told) (option_and_then (reached_by own (links - 1) find) (option_and_then find told.link))
  unfolding reached_by
  reached_step zero find told some = absurd (some refl)
  reached_step (suc links) find told some = let less : suc links - 1 ≡ links = omega arith in rw less refl

  pub own_told : (links : ℕ) (find : ℕ → Option Told) (told : Told) (it : A) → own told ≡ Some it → Some it ≡ reached_by own links find told
  unfolding reached_by
  own_told zero find told it is = sym is
  own_told (suc links) find told it is = sym (ap (λ o. option_or o (option_and_then (reached_by own links find) (option_and_then find told.link))) is)

  pub none_told : (links : ℕ) (find : ℕ → Option Told) (told : Told) → links ≡ 0 → own told ≡ None → None ≡ reached_by own links find told
  unfolding reached_by
  none_told zero find told none is = sym is
  none_told (suc links) find told none is = absurd (omega arith)

  pub next_told : (links : ℕ) (find : ℕ → Option Told) (told : Told) → (links ≡ 0 → ⊥) → own told ≡ None → option_and_then (reached_by own (links - 1) find) (option_and_then find told.link) ≡ reached_by own links find told
  next_told links find told some is = sym (reached_step links find told some ∙ ap (λ o. option_or o (option_and_then (reached_by own (links - 1) find) (option_and_then find told.link))) is)

module _ {A : Type 0} (own : Told → Option A) (own_in : Die → Option A) (tells : (die : Die) → own (told_of die) ≡ own_in die) (dies : List Die) (names : Names) (are : AreNames dies names) where
  found_told : (links : ℕ) (entry : Option Die) → ((next : Die) → reached_by own links (find_in names) (told_of next) ≡ reached own_in links dies next)
      → option_and_then (reached_by own links (find_in names)) (option_map told_of entry) ≡ option_and_then (reached own_in links dies) entry
  found_told links None same = refl
  found_told links (Some next) same = same next

  linked : (links : ℕ) (link : Option ℕ) → ((next : Die) → reached_by own links (find_in names) (told_of next) ≡ reached own_in links dies next)
      → option_and_then (reached_by own links (find_in names)) (option_and_then (find_in names) link) ≡ option_and_then (reached own_in links dies) (option_and_then (entry_at dies) link)
  linked links None same = refl
  linked links (Some offset) same = ap (option_and_then (reached_by own links (find_in names))) (are offset) ∙ found_told links (entry_at dies offset) same

  -- by what entries tell one reaches what it reaches
  pub told_reached : (links : ℕ) (die : Die) → reached_by own links (find_in names) (told_of die) ≡ reached own_in links dies die
  unfolding reached_by reached
  told_reached zero die = tells die
  told_reached (suc links) die =
      ap (λ o. option_or o (option_and_then (reached_by own links (find_in names)) (option_and_then (find_in names) (link_of die)))) (tells die)
      ∙ ap (option_or (own_in die)) (linked links (link_of die) (λ next. told_reached links next))
