-- Rows that rise have all addresses from the first one's up to the last one's, so those of an end that is lower too.
use Rattle.std.proofs.Common.{◌≡◌, ℕ, zero, suc, ◌-◌, ◌^◌, ◌<◌, ◌≤◌, Bool, true, false, cond, not, leb, ltb, ◌&&◌, List, [], ◌∷◌, map, drop, Option, Some, is_some, refl, sym, ap, subst, ◌∙◌, inl, inr, arith}
use Rattle.std.specs.Prelude.{◌⊎◌}
use Rattle.std.specs.Option.{option_map}
use Rattle.std.proofs.lemmas.Bool.{and_parts, cases_lt, le-leb, leb-true, lt-ltb, ltb-true}
use Rattle.om_base.specs.declared.span.Span.{Span}
use Rattle.om_line.specs.Lines.{next_addr, ranged, row_at, span_of}
use Rattle.om_line.specs.Sharing.{lower, rise_from}
use Rattle.om_line.specs.declared.row.LineRow.{LineRow}
use Rattle.om_line.proofs.ShiftLemmas.{addresses}

-- one of some addresses is above another one
abbrev pub Later : ℕ → List ℕ → Type 0
Later pc [] = ⊥
Later pc (n ∷ ns) = (pc < n) ⊎ Later pc ns

-- an address is between two of some that stand side by side
abbrev pub Between : ℕ → List ℕ → Type 0
Between pc [] = ⊥
Between pc (p ∷ []) = ⊥
Between pc (p ∷ q ∷ ns) = ((p ≤ pc) × (pc < q)) ⊎ Between pc (q ∷ ns)

-- a row has an address
holds : ℕ → LineRow → List LineRow → Bool
holds pc row rows = leb row.addr pc && ltb pc (cond row.end row.addr (next_addr row.addr rows))

some_by : (b : Bool) (row : LineRow) (span : Span) (o : Option (LineRow × Span)) → is_some (option_map (λ r. r.0) (cond b (Some (row, span)) o)) ≡ cond b true (is_some (option_map (λ r. r.0) o))
some_by true row span o = refl
some_by false row span o = refl

-- whether a row or one behind it has an address
first_or : (row : LineRow) (rows : List LineRow) (pc : ℕ) → is_some (row_at (row ∷ rows) pc) ≡ cond (holds pc row rows) true (is_some (row_at rows pc))
unfolding ranged holds
first_or row rows pc = some_by (leb row.addr pc && ltb pc (cond row.end row.addr (next_addr row.addr rows))) row (span_of row rows) _

-- ---- of rows that rise

record Rises (low : ℕ) (row : LineRow) (rows : List LineRow) : Type 0 where
  on : row.end ≡ false
  above : low ≤ row.addr
  small : row.addr < 2 ^ 32
  rest : rise_from row.addr rows ≡ true

not_true : (b : Bool) → not b ≡ true → b ≡ false
not_true true is = absurd cc
not_true false is = refl

rises : (low : ℕ) (row : LineRow) (rows : List LineRow) → rise_from low (row ∷ rows) ≡ true → Rises low row rows
unfolding rise_from
rises low row rows is =
    let one = and_parts (not row.end) _ is in
    let two = and_parts (leb low row.addr) _ one.1 in
    let three = and_parts (ltb row.addr (2 ^ 32)) _ two.1 in
    record { on = not_true row.end one.0; above = leb-true low row.addr two.0; small = ltb-true row.addr (2 ^ 32) three.0; rest = three.1 }

-- they have each address from the first one's on that one behind it is above
pub base_has : (low pc : ℕ) (row : LineRow) (rows : List LineRow) → rise_from low (row ∷ rows) ≡ true → row.addr ≤ pc → Later pc (addresses rows) → is_some (row_at (row ∷ rows) pc) ≡ true
unfolding holds
base_has low pc row [] is from later = absurd later
base_has low pc row (next ∷ rows) is from later =
    let rise = rises low row (next ∷ rows) is in
    elim (cases_lt pc next.addr) as (λ _. is_some (row_at (row ∷ next ∷ rows) pc) ≡ true) [
      | inl less ↦ let low_is : leb row.addr pc ≡ true = le-leb row.addr pc from in let high_is : ltb pc next.addr ≡ true = lt-ltb pc next.addr less in
          first_or row (next ∷ rows) pc ∙ rw (rise.on, low_is, high_is) refl
      | inr more ↦ first_or row (next ∷ rows) pc ∙ ap (cond (holds pc row (next ∷ rows)) true) (base_has row.addr pc next rows rise.rest (omega (arith, more)) (behind next.addr (addresses rows) later (omega (arith, more)))) ∙ either_true (holds pc row (next ∷ rows))
    ]
  where
    either_true : (b : Bool) → cond b true true ≡ true
    either_true true = refl
    either_true false = refl

    behind : (n : ℕ) (ns : List ℕ) → Later pc (n ∷ ns) → n ≤ pc → Later pc ns
    behind n ns (inl less) below = absurd (omega (arith, less, below))
    behind n ns (inr later) below = later

-- ---- of any rows

-- one more in front
between_more : (pc n : ℕ) (ns : List ℕ) → Between pc ns → Between pc (n ∷ ns)
between_more pc n [] between = absurd between
between_more pc n (p ∷ ns) between = inr between

next_between : (pc : ℕ) (row : LineRow) (rows : List LineRow) (end : Bool) → row.addr ≤ pc → pc < cond end row.addr (next_addr row.addr rows) → Between pc (row.addr ∷ addresses rows)
next_between pc row rows true from less = absurd (omega (arith, from, less))
next_between pc row [] false from less = absurd (omega (arith, from, less))
next_between pc row (next ∷ rows) false from less = inl (from, less)

here_between : (pc : ℕ) (row : LineRow) (rows : List LineRow) → holds pc row rows ≡ true → Between pc (row.addr ∷ addresses rows)
unfolding holds
here_between pc row rows has =
    let both = and_parts (leb row.addr pc) _ has in
    next_between pc row rows row.end (leb-true row.addr pc both.0) (ltb-true pc (cond row.end row.addr (next_addr row.addr rows)) both.1)

either_between : (pc : ℕ) (row : LineRow) (rows : List LineRow) (b : Bool) → holds pc row rows ≡ b → cond b true (is_some (row_at rows pc)) ≡ true → (is_some (row_at rows pc) ≡ true → Between pc (addresses rows)) → Between pc (row.addr ∷ addresses rows)
either_between pc row rows true has is rest = here_between pc row rows has
either_between pc row rows false has is rest = between_more pc row.addr (addresses rows) (rest is)

-- a row that has an address has it between its own and the next one's
pub row_between : (rows : List LineRow) (pc : ℕ) → is_some (row_at rows pc) ≡ true → Between pc (addresses rows)
unfolding ranged
row_between [] pc is = absurd cc
row_between (row ∷ rows) pc is = either_between pc row rows (holds pc row rows) refl (sym (first_or row rows pc) ∙ is) (row_between rows pc)

-- ---- of an end that is lower

lower_is : (by address : ℕ) → by ≤ address → address < 2 ^ 32 → lower by address ≡ address - by
lower_is by address le small = omega (arith, le, small)

later_before : (pc k : ℕ) (rows : List LineRow) → Later pc (addresses (drop k rows)) → Later pc (addresses rows)
later_before pc zero rows later = later
later_before pc (suc k) [] later = later
later_before pc (suc k) (row ∷ rows) later = inr (later_before pc k rows later)

within : (bound by pc : ℕ) (rows : List LineRow) → rise_from bound rows ≡ true → by ≤ bound → Between pc (map (lower by) (addresses rows)) → (bound - by ≤ pc) × Later pc (addresses (drop 1 rows))
within bound by pc [] is le between = absurd between
within bound by pc (row ∷ []) is le between = absurd between
within bound by pc (row ∷ next ∷ rows) is le (inl between) =
    let rise = rises bound row (next ∷ rows) is in
    let after = rises row.addr next rows rise.rest in
    let low = lower_is by row.addr (omega (arith, le, rise.above)) rise.small in
    let high = lower_is by next.addr (omega (arith, le, rise.above, after.above)) after.small in
    (omega (arith, low, between.0, rise.above), inl (omega (arith, high, between.1)))
within bound by pc (row ∷ next ∷ rows) is le (inr between) =
    let rise = rises bound row (next ∷ rows) is in
    let rest = within row.addr by pc (next ∷ rows) rise.rest (omega (arith, le, rise.above)) between in
    (omega (arith, rest.0, rise.above), inr rest.1)

-- what has an address of the lower end has one of the whole, where that end isn't lower than the whole
pub end_covered : (base : List LineRow) (first : LineRow) (more : List LineRow) (k by : ℕ) (start : LineRow) (behind : List LineRow) (pc : ℕ)
    → base ≡ first ∷ more → rise_from 0 base ≡ true → drop k base ≡ start ∷ behind → by ≤ start.addr → first.addr ≤ start.addr - by
    → rise_from start.addr (start ∷ behind) ≡ true → Between pc (map (lower by) (addresses (start ∷ behind))) → is_some (row_at base pc) ≡ true
end_covered base first more k by start behind pc is rise ends le above tail between =
    let found = within start.addr by pc (start ∷ behind) tail le between in
    let dropped : drop k more ≡ behind = sym (drop_behind k first more) ∙ ap (λ rows. drop 1 rows) (sym (ap (drop k) is) ∙ ends) in
    let later : Later pc (addresses more) = later_before pc k more (subst (λ rows. Later pc (addresses rows)) (sym dropped) found.1) in
    rw is (base_has 0 pc first more (rw is at rise) (omega (arith, found.0, above)) later)
  where
    drop_behind : (k : ℕ) (row : LineRow) (rows : List LineRow) → drop 1 (drop k (row ∷ rows)) ≡ drop k rows
    drop_behind zero row rows = refl
    drop_behind (suc k) row [] = drop_none k
      where
        drop_none : (k : ℕ) → ◌≡◌ {A = List LineRow} (drop 1 (drop k [])) []
        drop_none zero = refl
        drop_none (suc k) = refl
    drop_behind (suc k) row (next ∷ rows) = drop_behind k next rows

rises_itself : (low : ℕ) (row : LineRow) (rows : List LineRow) → rise_from low (row ∷ rows) ≡ true → rise_from row.addr (row ∷ rows) ≡ true
unfolding rise_from
rises_itself low row rows is =
    let rise = rises low row rows is in
    let here : leb row.addr row.addr ≡ true = le-leb row.addr row.addr (omega arith) in
    let small : ltb row.addr (2 ^ 32) ≡ true = lt-ltb row.addr (2 ^ 32) rise.small in
    let rest : rise_from row.addr rows ≡ true = rise.rest in
    rw (rise.on, here, small, rest) refl

-- rows behind others rise from the first of them on, and its address is one
pub rise_rest : (k low : ℕ) (rows : List LineRow) (row : LineRow) (behind : List LineRow) → rise_from low rows ≡ true → drop k rows ≡ row ∷ behind → rise_from row.addr (row ∷ behind) ≡ true
rise_rest zero low rows row behind is ends = rises_itself low row behind (subst (λ rs. rise_from low rs ≡ true) ends is)
rise_rest (suc k) low [] row behind is ends = absurd cc
rise_rest (suc k) low (first ∷ rows) row behind is ends = rise_rest k first.addr rows row behind (rises low first rows is).rest ends

pub rise_small : (k low : ℕ) (rows : List LineRow) (row : LineRow) (behind : List LineRow) → rise_from low rows ≡ true → drop k rows ≡ row ∷ behind → row.addr < 2 ^ 32
rise_small k low rows row behind is ends = (rises row.addr row behind (rise_rest k low rows row behind is ends)).small
