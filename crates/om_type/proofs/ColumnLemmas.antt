-- No two rows of the table of names have one name, so each name has one column at most.
use Rattle.std.proofs.Common.{◌≡◌, ℕ, Bool, true, false, ◌&&◌, not, List, [], ◌∷◌, Option, Some, None, if◌then◌else◌, refl, sym, subst, ◌∙◌}
use Rattle.std.specs.Prelude.{All, Contains}
use Rattle.std.specs.List.{list_all}
use Rattle.std.specs.Str.{bytes_eq, str_eq_ignore_ascii_case, str_to_ascii_lowercase}
use Rattle.std.proofs.lemmas.Bool.{and_parts}
use Rattle.std.proofs.lemmas.Cmp.{nat_list_eq_equiv}
use Rattle.std.proofs.lemmas.List.Elements.{All-nil, All-cons, All-contains}
use Rattle.om_eval.specs.declared.column.ColumnId.{ColumnId}
use Rattle.om_type.specs.Columns.{column_names, Means}
use Rattle.om_type.specs.Checking.{column_in, column_named}
use Rattle.om_type.proofs.SettlesLemmas.{Settles, here, never, there}

abbrev Entry : Type 0
Entry = List ℕ × ColumnId

-- ---- names that are one

abbrev same : List ℕ → List ℕ → Bool
same a b = str_eq_ignore_ascii_case a b

both_same : (a b name : List ℕ) → same a name ≡ true → same b name ≡ true → same a b ≡ true
both_same a b name h g =
    let low : List ℕ → List ℕ = str_to_ascii_lowercase in
    let turned : bytes_eq (low name) (low b) ≡ true = nat_list_eq_equiv.symm (low name) (low b) ∙ g in
    let turned_too : bytes_eq (low name) (low a) ≡ true = nat_list_eq_equiv.symm (low name) (low a) ∙ h in
    sym (nat_list_eq_equiv.congr (low name) (low a) (low b) turned_too) ∙ turned

-- ---- a test of each pair of rows

apart : Entry → Entry → Bool
apart r s = not (same r.0 s.0)

pairs : List Entry → Bool
pairs [] = true
pairs (r ∷ rs) = list_all (apart r) rs && pairs rs

apart-table : pairs column_names ≡ true
unfolding pairs apart column_names
apart-table = refl

all_from : (p : Entry → Bool) (P : Entry → Type 0) → ((r : Entry) → p r ≡ true → P r) → (rs : List Entry) → list_all p rs ≡ true → All P rs
all_from p P each [] pass = All-nil P
all_from p P each (r ∷ rs) pass =
    let both = and_parts (p r) (list_all p rs) pass in
    All-cons P r rs (each r both.0) (all_from p P each rs both.1)

if_not_true : (b : Bool) → (b ≡ true → ⊥) → b ≡ false
if_not_true true denied = absurd (denied refl)
if_not_true false denied = refl

not_both : (b : Bool) → not b ≡ true → b ≡ true → ⊥
not_both true e h = absurd cc
not_both false e h = absurd cc

-- ---- the row of a name

differ : (r : Entry) (name : List ℕ) (s : Entry) → apart r s ≡ true → same s.0 name ≡ true → same r.0 name ≡ false
unfolding apart
differ r name s other is = if_not_true (same r.0 name) (λ it. not_both (same r.0 s.0) other (both_same r.0 s.0 name it is))

finds_in : (rs : List Entry) (name : List ℕ) → pairs rs ≡ true → All (λ r. same r.0 name ≡ true → column_in rs name ≡ Some r.1) rs
unfolding pairs
finds_in [] name pass = All-nil _
finds_in (r ∷ rs) name pass =
    let both = and_parts (list_all (apart r) rs) (pairs rs) pass in
    let differs = all_from (apart r) (λ s. same s.0 name ≡ true → same r.0 name ≡ false) (differ r name) rs both.0 in
    let rest = finds_in rs name both.1 in
    All-cons (λ s. same s.0 name ≡ true → column_in (r ∷ rs) name ≡ Some s.1) r rs (λ is. rw is refl) (λ k d below is. rw (differs k d below is) (rest k d below is))

record IsRow (rs : List Entry) (name : List ℕ) (id : ColumnId) : Type 0 where
  written : List ℕ
  listed : Contains rs (written, id)
  same : str_eq_ignore_ascii_case written name ≡ true

found_first : (r : Entry) (rs : List Entry) (name : List ℕ) (id : ColumnId) (b : Bool) → same r.0 name ≡ b → (if b then Some r.1 else column_in rs name) ≡ Some id
    → (column_in rs name ≡ Some id → IsRow rs name id) → IsRow (r ∷ rs) name id
found_first r rs name id true is e rest =
    let here_is : r.1 ≡ id = cc in
    record { written = r.0; listed = subst (λ (found : ColumnId). Contains (r ∷ rs) (r.0, found)) here_is (here r rs); same = is }
found_first r rs name id false is e rest =
    let row = rest e in
    record { written = row.written; listed = there r (row.written, id) rs row.listed; same = row.same }

found_in : (rs : List Entry) (name : List ℕ) (id : ColumnId) → column_in rs name ≡ Some id → IsRow rs name id
found_in [] name id e = absurd cc
found_in (r ∷ rs) name id e = found_first r rs name id (same r.0 name) refl e (found_in rs name id)

missing_first : (r : Entry) (rs : List Entry) (name : List ℕ) (b : Bool) → same r.0 name ≡ b → (if b then Some r.1 else column_in rs name) ≡ None
    → (column_in rs name ≡ None → All (λ s. same s.0 name ≡ true → ⊥) rs) → All (λ s. same s.0 name ≡ true → ⊥) (r ∷ rs)
missing_first r rs name true is e rest = absurd (never r.1 e)
missing_first r rs name false is e rest = All-cons (λ s. same s.0 name ≡ true → ⊥) r rs (λ it. absurd cc) (rest e)

missing_in : (rs : List Entry) (name : List ℕ) → column_in rs name ≡ None → All (λ r. same r.0 name ≡ true → ⊥) rs
missing_in [] name e = All-nil _
missing_in (r ∷ rs) name e = missing_first r rs name (same r.0 name) refl e (missing_in rs name)

pub column_settles : (name : List ℕ) → Settles (column_named name) (Means name) ((id : ColumnId) → Means name id → ⊥)
unfolding column_named
column_settles name = record {
  is = λ id e. let row = found_in column_names name id e in record { written = row.written; listed = row.listed; same = row.same };
  isnt = λ e id means. All-contains (λ r. same r.0 name ≡ true → ⊥) column_names (means.written, id) (missing_in column_names name e) means.listed means.same;
  finds = λ id means. found id means;
  misses = λ nothing. if_none (column_in column_names name) refl nothing;
}
  where
    found : (id : ColumnId) → Means name id → column_in column_names name ≡ Some id
    found id means = All-contains (λ r. same r.0 name ≡ true → column_in column_names name ≡ Some r.1) column_names (means.written, id) (finds_in column_names name apart-table) means.listed means.same

    if_none : (it : Option ColumnId) → column_in column_names name ≡ it → ((id : ColumnId) → Means name id → ⊥) → it ≡ None
    if_none None is nothing = refl
    if_none (Some id) is nothing =
        let row = found_in column_names name id is in
        absurd (nothing id record { written = row.written; listed = row.listed; same = row.same })
