-- What a real folder's paths, reads and counts come to.
use Rattle.std.proofs.Common.{rules, ◌≡◌, ◌∙◌, ℕ, ◌+◌, ◌-◌, ◌^◌, ◌<◌, ◌≤◌, min, List, [], ◌++◌, length, take, Option, Some, None, IfSome, option_map, Result, Ok, Err, sym, ap, arith}
use Rattle.std.proofs.lemmas.List.{take_all, length-take}
use Rattle.std.specs.Path.{path_join}
use Rattle.om_io.specs.DirShelf.{count_after}
use Rattle.om_io.specs.Shelf.{FailsByCount}
use Rattle.om_io.specs.declared.shelf.ShelfFail.{ShelfFail}
use Rattle.om_io.specs.declared.shelf.ShelfFail.TheVariants.{NoMemory, Failed}

-- the first path that is pushed is the path
pub join_from_nothing : (path : List ℕ) → path_join [] path ≡ path
unfolding path_join
join_from_nothing path = search rules

-- what was read by a limit of one byte more is all, where it is not too long
whole_of : (left bytes : List ℕ) (most limit : ℕ) → limit ≡ min (most + 1) (2 ^ 64 - 1) → bytes ≡ take limit left
    → length bytes ≤ most → length bytes < 2 ^ 63 → left ≡ bytes
whole_of left bytes most limit l e fits small =
    let n : length bytes ≡ min limit (length left) = ap length e ∙ length-take limit left in
    sym (e ∙ take_all limit left (omega arith))

-- the same behind no bytes, of a file whose bytes may not be known
pub whole_of_known : (left : Option (List ℕ)) (old new bytes : List ℕ) (most limit : ℕ) → limit ≡ min (most + 1) (2 ^ 64 - 1)
    → old ≡ [] → IfSome (option_map (take limit) left) (λ xs. new ≡ old ++ xs) → bytes ≡ new
    → length new ≤ most → length new < 2 ^ 63 → IfSome left (λ xs. Some xs ≡ Some bytes)
whole_of_known None old new bytes most limit l o e b fits small = tt
whole_of_known (Some xs) old new bytes most limit l o e b fits small =
    ap (λ ys. Some ys) (whole_of xs new most limit l (e ∙ ap (λ ys. ys ++ take limit xs) o) fits small ∙ sym b)

-- a count of failures rises only where a failure is answered, whatever the name
pub count_rises : {T : Type 0} (before now : ℕ) (name : List ℕ) (answer : Result T ShelfFail) → before ≤ now → now ≡ count_after before answer
    → FailsByCount (λ _. before) (λ _. now) name answer
count_rises before now name (Ok value) rises e = record { later = λ other. omega arith; failed = λ h. grind arith }
count_rises before now name (Err NoMemory) rises e = record { later = λ other. omega arith; failed = λ h. grind arith }
count_rises before now name (Err Failed) rises e = record { later = λ other. omega arith; failed = λ h. omega arith }
