-- The variable that is found for a name is the one that the name means.
use Rattle.std.proofs.Common.{◌≡◌, ◌≢◌, ℕ, zero, suc, ◌+◌, ◌^◌, ◌<◌, Bool, true, false, not, nat_lt, ◌&&◌, is_some, List, [], ◌∷◌, Option, Some, None, if◌then◌else◌, refl, sym, ap, subst, ◌∙◌, arith}
use Rattle.std.specs.List.{slice_get}
use Rattle.std.specs.Option.{IsSome}
use Rattle.std.specs.Str.{bytes_eq}
use Rattle.std.proofs.lemmas.Bool.{and_parts}
use Rattle.std.proofs.lemmas.Slice.Eq.{bytes_eq-Decides}
use Rattle.om_eval.specs.declared.catalog.VarInfo.{VarInfo}
use Rattle.om_type.specs.Typing.{Variables, IsVariable}
use Rattle.om_type.specs.Checking.{is_nameable, place_of, variable_from, variable_named}
use Rattle.om_type.proofs.SettlesLemmas.{Settles, never}

-- ---- one variable

-- a query may name a variable at a place
record IsNameable (place : ℕ) (info : VarInfo) : Type 0 where
  alone : info.ambiguous ≡ false
  numbers : IsSome info.scalar
  narrow : place < 2 ^ 32

not_true : (b : Bool) → not b ≡ true → b ≡ false
not_true false e = refl
not_true true e = absurd cc

nameable_is : (place : ℕ) (info : VarInfo) → is_nameable place info ≡ true → IsNameable place info
nameable_is place info e =
    let both = and_parts (not info.ambiguous && is_some info.scalar) (nat_lt place (2 ^ 32)) e in
    let one = and_parts (not info.ambiguous) (is_some info.scalar) both.0 in
    record { alone = not_true info.ambiguous one.0; numbers = one.1; narrow = grind (arith, both.1) }

is_nameable_too : (place : ℕ) (info : VarInfo) → IsNameable place info → is_nameable place info ≡ true
is_nameable_too place info h =
    let low : nat_lt place (2 ^ 32) ≡ true = grind (arith, h.narrow) in
    rw (h.alone, h.numbers, low) refl

place_is : (place found : ℕ) (info : VarInfo) → place_of place info ≡ Some found → (place ≡ found) × IsNameable place info
place_is place found info told = by (is_nameable place info) refl told
  where
    by : (b : Bool) → is_nameable place info ≡ b → (if b then Some place else None) ≡ Some found → (place ≡ found) × IsNameable place info
    by true e told = (cc, nameable_is place info e)
    by false e told = absurd cc

-- ---- variables, of which the first is at a place

-- the name means the variable at a position among these, of which the first is at a place
record IsAmong (place : ℕ) (infos : Variables) (name : List ℕ) (position : ℕ) : Type 0 where
  info : VarInfo
  there : slice_get infos position ≡ Some info
  named : info.name ≡ name
  first : (earlier : ℕ) (other : VarInfo) → earlier < position → slice_get infos earlier ≡ Some other → other.name ≢ name
  nameable : IsNameable (place + position) info

same_is : (info : VarInfo) (name : List ℕ) → bytes_eq name info.name ≡ true → info.name ≡ name
same_is info name e = sym ((bytes_eq-Decides name info.name).0 e)

differs : (info : VarInfo) (name : List ℕ) → bytes_eq name info.name ≡ false → info.name ≢ name
differs info name e is =
    let same : bytes_eq name info.name ≡ true = (bytes_eq-Decides name info.name).1 (sym is) in
    cc

is_other : (info : VarInfo) (name : List ℕ) → info.name ≢ name → bytes_eq name info.name ≡ false
is_other info name other = by (bytes_eq name info.name) refl
  where
    by : (b : Bool) → bytes_eq name info.name ≡ b → b ≡ false
    by false e = refl
    by true e = absurd (other (same_is info name e))

among_first : (place : ℕ) (info : VarInfo) (infos : Variables) (name : List ℕ) → bytes_eq name info.name ≡ true → IsNameable place info → IsAmong place (info ∷ infos) name 0
among_first place info infos name same nameable =
    let here : place ≡ place + 0 = omega arith in
    record {
      info = info;
      there = refl;
      named = same_is info name same;
      first = λ earlier other before at. absurd (omega (arith, before));
      nameable = subst (λ (n : ℕ). IsNameable n info) here nameable;
    }

among_later : (place : ℕ) (info : VarInfo) (infos : Variables) (name : List ℕ) (position : ℕ) → bytes_eq name info.name ≡ false → IsAmong (place + 1) infos name position → IsAmong place (info ∷ infos) name (suc position)
among_later place info infos name position other among =
    let here : place + 1 + position ≡ place + suc position = omega arith in
    record {
      info = among.info;
      there = among.there;
      named = among.named;
      first = before;
      nameable = subst (λ (n : ℕ). IsNameable n among.info) here among.nameable;
    }
  where
    before : (earlier : ℕ) (it : VarInfo) → earlier < suc position → slice_get (info ∷ infos) earlier ≡ Some it → it.name ≢ name
    before zero it less at =
        let same : info ≡ it = cc in
        subst (λ (v : VarInfo). v.name ≢ name) same (differs info name other)
    before (suc earlier) it less at = among.first earlier it (omega (arith, less)) at

found_among : (place : ℕ) (infos : Variables) (name : List ℕ) (found : ℕ) → variable_from place infos name ≡ Some found → (position : ℕ) × (place + position ≡ found) × IsAmong place infos name position
found_among place [] name found told = absurd cc
found_among place (info ∷ infos) name found told = by (bytes_eq name info.name) refl told (found_among (place + 1) infos name found)
  where
    by : (b : Bool) → bytes_eq name info.name ≡ b → (if b then place_of place info else variable_from (place + 1) infos name) ≡ Some found
        → (variable_from (place + 1) infos name ≡ Some found → (position : ℕ) × (place + 1 + position ≡ found) × IsAmong (place + 1) infos name position)
        → (position : ℕ) × (place + position ≡ found) × IsAmong place (info ∷ infos) name position
    by true same told rest =
        let is = place_is place found info told in
        (0, omega (arith, is.0), among_first place info infos name same is.1)
    by false same told rest =
        let later = rest told in
        (suc later.0, omega (arith, later.1), among_later place info infos name later.0 same later.2)

among_found : (place : ℕ) (infos : Variables) (name : List ℕ) (position : ℕ) → IsAmong place infos name position → variable_from place infos name ≡ Some (place + position)
among_found place [] name position among = absurd (never among.info (sym among.there))
among_found place (info ∷ infos) name zero among =
    let same : info ≡ among.info = cc in
    let here : place + 0 ≡ place = omega arith in
    let nameable : IsNameable place info = subst (λ (v : VarInfo). IsNameable place v) (sym same) (subst (λ (n : ℕ). IsNameable n among.info) here among.nameable) in
    let named : bytes_eq name info.name ≡ true = (bytes_eq-Decides name info.name).1 (sym (ap (λ (v : VarInfo). v.name) same ∙ among.named)) in
    rw (named, is_nameable_too place info nameable) (ap Some (sym here))
among_found place (info ∷ infos) name (suc position) among =
    let here : place + suc position ≡ place + 1 + position = omega arith in
    let other : bytes_eq name info.name ≡ false = is_other info name (among.first 0 info (omega arith) refl) in
    rw (other, here) (among_found (place + 1) infos name position record {
      info = among.info;
      there = among.there;
      named = among.named;
      first = λ earlier it less at. among.first (suc earlier) it (omega (arith, less)) at;
      nameable = subst (λ (n : ℕ). IsNameable n among.info) here among.nameable;
    })

-- ---- the catalog

variable_is : (catalog : Variables) (name : List ℕ) (place : ℕ) → variable_from 0 catalog name ≡ Some place → IsVariable catalog name place
variable_is catalog name place told =
    let found = found_among 0 catalog name place told in
    let here : found.0 ≡ place = omega (arith, found.1) in
    subst (IsVariable catalog name) here record {
      info = found.2.info;
      there = found.2.there;
      named = found.2.named;
      first = found.2.first;
      alone = found.2.nameable.alone;
      numbers = found.2.nameable.numbers;
      narrow = omega (arith, found.2.nameable.narrow);
    }

variable_finds : (catalog : Variables) (name : List ℕ) (place : ℕ) → IsVariable catalog name place → variable_from 0 catalog name ≡ Some place
variable_finds catalog name place is =
    let here : 0 + place ≡ place = omega arith in
    let found : variable_from 0 catalog name ≡ Some (0 + place) = among_found 0 catalog name place record {
      info = is.info;
      there = is.there;
      named = is.named;
      first = is.first;
      nameable = record { alone = is.alone; numbers = is.numbers; narrow = omega (arith, is.narrow) };
    } in
    found ∙ ap Some here

pub variable_settles : (catalog : Variables) (name : List ℕ) → Settles (variable_named catalog name) (IsVariable catalog name) ((place : ℕ) → IsVariable catalog name place → ⊥)
unfolding variable_named
variable_settles catalog name = record {
  is = variable_is catalog name;
  isnt = λ told place is. never place (sym (variable_finds catalog name place is) ∙ told);
  finds = variable_finds catalog name;
  misses = λ nothing. if_none (variable_from 0 catalog name) refl nothing;
}
  where
    if_none : (it : Option ℕ) → variable_from 0 catalog name ≡ it → ((place : ℕ) → IsVariable catalog name place → ⊥) → it ≡ None
    if_none None told nothing = refl
    if_none (Some place) told nothing = absurd (nothing place (variable_is catalog name place told))
