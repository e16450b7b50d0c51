-- How the counts of names in a list rise.
use Rattle.std.proofs.Common.{◌≡◌, ◌≢◌, ◌∙◌, ℕ, ◌+◌, List, [], ◌∷◌, ◌++◌, Result, Bool, cond, refl, sym, ap, arith}
use Rattle.std.specs.Prelude.{bytes_eq}
use Rattle.std.proofs.lemmas.Bool.{false_from_ne_true}
use Rattle.std.proofs.lemmas.List.Sums.{sum_by_push}
use Rattle.std.proofs.lemmas.Slice.Eq.{bytes_eq-Decides}
use Rattle.om_io.specs.Files.{times}
use Rattle.om_io.specs.Shelf.{FailsByCount}
use Rattle.om_io.specs.declared.shelf.ShelfFail.{ShelfFail}

-- one more name adds one to its own count
times_push : (before now : List (List ℕ)) (name other : List ℕ) → now ≡ before ++ name ∷ []
    → times now other ≡ times before other + cond (bytes_eq name other) 1 0
times_push before now name other e =
    ap (λ names. times names other) e ∙ sum_by_push (λ n. cond (bytes_eq n other) 1 0) before name

-- one more name is a failure of its own
pub times_rises : {T : Type 0} (before now : List (List ℕ)) (name : List ℕ) (result : Result T ShelfFail) → now ≡ before ++ name ∷ []
    → FailsByCount (times before) (times now) name result
times_rises before now name result e = record {
  later = λ other. let step = times_push before now name other e in omega arith;
  failed = λ _.
      let step = times_push before now name name e in
      let one : cond {A = ℕ} (bytes_eq name name) 1 0 ≡ 1 = ap (λ (b : Bool). cond {A = ℕ} b 1 0) ((bytes_eq-Decides name name).1 refl) in
      omega arith;
}

-- one more name adds nothing to the count of another
pub times_stays : (before now : List (List ℕ)) (name : List ℕ) → now ≡ before ++ name ∷ []
    → (other : List ℕ) → other ≢ name → times now other ≡ times before other
times_stays before now name e other differs =
    let step = times_push before now name other e in
    let none : cond {A = ℕ} (bytes_eq name other) 1 0 ≡ 0 = ap (λ (b : Bool). cond {A = ℕ} b 1 0) (false_from_ne_true (bytes_eq name other) (λ same. differs (sym ((bytes_eq-Decides name other).0 same)))) in
    omega arith
