-- The first abbreviation of each code, entry by entry.
use Rattle.std.proofs.Common.{◌≡◌, ℕ, ◌<◌, Bool, true, false, cond, nat_eq, List, [], ◌∷◌, ◌++◌, length, Option, Some, None, refl, sym, ap, ◌∙◌, arith, length-append, append_assoc}
use Rattle.std.specs.Prelude.{find}
use Rattle.std.specs.BTreeMap.{BTreeMap, IsEmpty, get, is_at}
use Rattle.std.specs.Map.{lookup}
use Rattle.std.specs.Option.{option_map, option_or}
use Rattle.std.specs.Ordering.{nat_cmp}
use Rattle.std.proofs.lemmas.List.Folds.{find-append}
use Rattle.om_base.specs.Reading.{EachFrom}
use Rattle.om_base.proofs.ReadingLaws.{each_more}
use Rattle.om_die.specs.Abbreviations.{Entry, IsEntry, abbreviation_of}
use Rattle.om_die.specs.Declarations.{IsFront}
use Rattle.om_die.specs.AbbreviationIndex.{IsIndex}
use Rattle.om_die.specs.declared.abbreviation.Abbreviation.{Abbreviation}
use Rattle.om_die.proofs.TableLaws.{some_entry}

-- the entries so far, of which a map keeps the first abbreviation of each code
pub record IsIndexed (bytes : List ℕ) (by_code : BTreeMap ℕ Abbreviation) (rest : List ℕ) : Type 0 where
  pub entries : List Entry
  pub front : List ℕ
  pub parts : bytes ≡ front ++ rest
  pub each : EachFrom (λ _. IsEntry) 0 entries front
  pub first : (code : ℕ) → get nat_cmp by_code code ≡ abbreviation_of entries code

none_first : (by_code : BTreeMap ℕ Abbreviation) (code : ℕ) → IsEmpty by_code → get nat_cmp by_code code ≡ abbreviation_of [] code
unfolding abbreviation_of
none_first by_code code empty = ap (lookup (is_at (nat_cmp code))) empty

pub starts : (bytes : List ℕ) (by_code : BTreeMap ℕ Abbreviation) → IsEmpty by_code → IsIndexed bytes by_code bytes
starts bytes by_code empty = record { entries = []; front = []; parts = refl; each = refl; first = λ code. none_first by_code code empty }

map_or : {A B : Type 0} (f : A → B) (found other : Option A) → option_map f (option_or found other) ≡ option_or (option_map f found) (option_map f other)
map_or f None other = refl
map_or f (Some x) other = refl

map_cond : {A B : Type 0} (f : A → B) (passes : Bool) (x : A) → option_map f (cond passes (Some x) None) ≡ cond passes (Some (f x)) None
map_cond f true x = refl
map_cond f false x = refl

first_more : (entries : List Entry) (e : Entry) (code : ℕ)
    → abbreviation_of (entries ++ e ∷ []) code ≡ option_or (abbreviation_of entries code) (cond (nat_eq e.code code) (Some e.abbreviation) None)
unfolding abbreviation_of
first_more entries e code =
    ap (option_map (λ x. x.abbreviation)) (find-append (λ x. nat_eq x.code code) entries (e ∷ []))
    ∙ map_or (λ x. x.abbreviation) (find (λ x. nat_eq x.code code) entries) (find (λ x. nat_eq x.code code) (e ∷ []))
    ∙ ap (option_or (option_map (λ x. x.abbreviation) (find (λ x. nat_eq x.code code) entries))) (map_cond (λ x. x.abbreviation) (nat_eq e.code code) e)

pub shorter : (rest : List ℕ) (e : Entry) (back : List ℕ) → IsFront IsEntry rest (Some (e, back)) → length back < length rest
shorter rest e back there = omega (arith, some_entry there.0 e there.2, ap length there.1, length-append there.0 back)

pub goes_on : (bytes rest back : List ℕ) (m n : BTreeMap ℕ Abbreviation) (e : Entry) → IsIndexed bytes m rest → IsFront IsEntry rest (Some (e, back))
    → ((code : ℕ) → get nat_cmp n code ≡ option_or (get nat_cmp m code) (cond (nat_eq e.code code) (Some e.abbreviation) None))
    → IsIndexed bytes n back
goes_on bytes rest back m n e far there first = record {
  entries = far.entries ++ e ∷ [];
  front = far.front ++ there.0;
  parts = far.parts ∙ ap (λ xs. far.front ++ xs) there.1 ∙ sym (append_assoc far.front there.0 back);
  each = each_more (λ _. IsEntry) 0 far.entries far.front there.0 e far.each there.2;
  first = λ code. first code ∙ ap (λ o. option_or o (cond (nat_eq e.code code) (Some e.abbreviation) None)) (far.first code) ∙ sym (first_more far.entries e code);
}

pub ends : (bytes rest : List ℕ) (m : BTreeMap ℕ Abbreviation) → IsIndexed bytes m rest → IsFront IsEntry rest None → IsIndex bytes (record { by_code = m })
ends bytes rest m far none = record {
  entries = far.entries;
  are = record { front = far.front; back = rest; parts = far.parts; each = far.each; no_more = none };
  first = far.first;
}
