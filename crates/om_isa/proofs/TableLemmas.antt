-- That no word belongs to two rows of the table, and that each operation has one.
use Rattle.std.proofs.Common.{◌≡◌, ◌≢◌, ℕ, ◌<◌, Bool, true, false, ◌&&◌, not, nat_eq, bit_and, List, [], ◌∷◌, length, get_or, map, Some, refl, sym, ap, ◌∙◌, arith}
use Rattle.std.specs.Prelude.{All, AllPairs, Contains, find}
use Rattle.std.specs.List.{list_all, range_with_len}
use Rattle.std.specs.Int.Bits.{and_self}
use Rattle.std.proofs.lemmas.Nat.{and_assoc, and_comm}
use Rattle.std.proofs.lemmas.Bool.{and_parts, eqb-true, eqb-false}
use Rattle.std.proofs.lemmas.List.Elements.{All-nil, All-cons, All-contains}
use Rattle.std.proofs.lemmas.List.Kept.{AllPairs-cons}
use Rattle.om_isa.specs.Order.{number_of}
use Rattle.om_isa.specs.Table.{Row, table, fits, read_as, decoded}
use Rattle.om_isa.specs.declared.op.Op.{Op}
use Rattle.om_isa.specs.declared.op.Op.TheVariants.{Lui}

-- ---- a test of each pair

pairs : (Row → Row → Bool) → List Row → Bool
pairs test [] = true
pairs test (r ∷ rs) = list_all (test r) rs && pairs test rs

all_from : (p : Row → Bool) (P : Row → Type 0) → ((r : Row) → p r ≡ true → P r) → (rs : List Row) → list_all p rs ≡ true → All P rs
all_from p P each [] pass = All-nil P
all_from p P each (r ∷ rs) pass =
    let both = and_parts (p r) (list_all p rs) pass in
    All-cons P r rs (each r both.0) (all_from p P each rs both.1)

pairs_from : (test : Row → Row → Bool) (R : Row → Row → Type 0) → ((r s : Row) → test r s ≡ true → R r s) → (rs : List Row) → pairs test rs ≡ true → AllPairs R rs
unfolding pairs
pairs_from test R each [] pass = λ i j d before below. absurd (omega arith)
pairs_from test R each (r ∷ rs) pass =
    let both = and_parts (list_all (test r) rs) (pairs test rs) pass in
    AllPairs-cons R r rs (all_from (test r) (R r) (each r) rs both.0) (pairs_from test R each rs both.1)

-- ---- rows that share no word

-- two rows differ in a bit that both masks have
clash : Row → Row → Bool
clash r s = not (nat_eq (bit_and (bit_and r.mask s.mask) r.bits) (bit_and (bit_and r.mask s.mask) s.bits))

clash-table : pairs clash table ≡ true
unfolding pairs clash table
clash-table = refl

absorb : (m n w : ℕ) → bit_and (bit_and m n) (bit_and w m) ≡ bit_and (bit_and m n) w
absorb m n w =
    let inner : bit_and (bit_and m n) m ≡ bit_and m n = ap (λ (x : ℕ). bit_and x m) (and_comm m n) ∙ and_assoc m n m ∙ ap (bit_and n) (and_self m) ∙ and_comm n m in
    ap (bit_and (bit_and m n)) (and_comm w m) ∙ sym (and_assoc w (bit_and m n) m) ∙ ap (λ (x : ℕ). bit_and x w) inner

share : (w m n a b : ℕ) → bit_and w m ≡ a → bit_and w n ≡ b → bit_and (bit_and m n) a ≡ bit_and (bit_and m n) b
share w m n a b here there =
    let left : bit_and (bit_and m n) a ≡ bit_and (bit_and m n) w = ap (bit_and (bit_and m n)) (sym here) ∙ absorb m n w in
    let right : bit_and (bit_and n m) b ≡ bit_and (bit_and n m) w = ap (bit_and (bit_and n m)) (sym there) ∙ absorb n m w in
    let right_so : bit_and (bit_and m n) b ≡ bit_and (bit_and m n) w = rw (and_comm m n) right in
    left ∙ sym right_so

if_not_true : (b : Bool) → (b ≡ true → ⊥) → b ≡ false
if_not_true true never = absurd (never refl)
if_not_true false never = refl

not-false : (b : Bool) → not b ≡ true → b ≡ false
not-false true e = sym e
not-false false e = refl

never_both : (word : ℕ) (r s : Row) → clash r s ≡ true → fits word r ≡ true → fits word s ≡ true → ⊥
unfolding clash
never_both word r s differ here there =
    let e = share word r.mask s.mask r.bits s.bits (eqb-true (bit_and word r.mask) r.bits here) (eqb-true (bit_and word s.mask) s.bits there) in
    eqb-false _ _ (not-false _ differ) e

pub apart : (word : ℕ) → AllPairs (λ r s. fits word r ≡ true → fits word s ≡ false) table
apart word =
    pairs_from clash (λ r s. fits word r ≡ true → fits word s ≡ false) (λ r s differ here. if_not_true (fits word s) (never_both word r s differ here)) table clash-table

finds : (word : ℕ) (rs : List Row) → pairs clash rs ≡ true → All (λ r. fits word r ≡ true → find (fits word) rs ≡ Some r) rs
unfolding pairs
finds word [] pass = All-nil _
finds word (r ∷ rs) pass =
    let both = and_parts (list_all (clash r) rs) (pairs clash rs) pass in
    let apart_here = all_from (clash r) (λ s. fits word s ≡ true → fits word r ≡ false) (λ s differ there. if_not_true (fits word r) (λ here. never_both word r s differ here there)) rs both.0 in
    let rest = finds word rs both.1 in
    All-cons (λ s. fits word s ≡ true → find (fits word) (r ∷ rs) ≡ Some s) r rs (λ here. rw here refl) (λ k d below there. rw (apart_here k d below there) (rest k d below there))

pub reads : (word : ℕ) (r : Row) → Contains table r → fits word r ≡ true → decoded word ≡ Some (read_as word r)
unfolding decoded
reads word r among here =
    let found = All-contains (λ s. fits word s ≡ true → find (fits word) table ≡ Some s) table r (finds word table clash-table) among here in
    rw found refl

-- ---- operations

pub in_order : map (λ (r : Row). number_of r.op) table ≡ range_with_len 0 (length table)
unfolding table
in_order = refl

abbrev ops : List Op
ops = map (λ (r : Row). r.op) table

in_place : (op : Op) → get_or ops (number_of op) op ≡ op
unfolding table
in_place Lui = refl
in_place _ = refl

below_length : (op : Op) → number_of op < length ops
unfolding table
below_length Lui = omega arith
below_length _ = omega arith

pub each_has_one : (op : Op) → Contains (map (λ (r : Row). r.op) table) op
each_has_one op = (number_of op, below_length op, in_place op)

other : Row → Row → Bool
other r s = not (nat_eq (number_of r.op) (number_of s.op))

other-table : pairs other table ≡ true
unfolding pairs other table
other-table = refl

pub once : AllPairs (λ r s. r.op ≢ s.op) table
unfolding other
once =
    pairs_from other (λ r s. r.op ≢ s.op) (λ r s differ same. eqb-false (number_of r.op) (number_of s.op) (not-false _ differ) (ap (number_of) same)) table other-table
