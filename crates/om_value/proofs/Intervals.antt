-- An expression that is accepted has the same value in 128 bits as exactly, and that is of its kind.
use Rattle.std.proofs.Common.{◌≡◌, ◌<◌, ◌+◌, ◌-◌, ◌/◌, ◌^◌, ◌≤ℤ◌, ◌*ℤ◌, ◌+ℤ◌, ◌-ℤ◌, neg_ℤ, ℕ, ℤ, pos, negsuc, zero, suc, Bool, true, false, ◌&&◌, nat_eq, nat_lt, nat_le, int_le, Some, None, List, [], ◌∷◌, Result, Ok, Err, if◌then◌else◌, refl, sym, ap, ◌∙◌, subst, arith}
use Rattle.std.specs.Int.RustNames.{int_div}
use Rattle.std.specs.List.{fold}
use Rattle.std.specs.Option.{option_map_or}
use Rattle.std.proofs.Math.Nat.{mod-lt}
use Rattle.std.proofs.lemmas.Nat.{pow_pos}
use Rattle.std.proofs.lemmas.Int.{ints}
use Rattle.om_value.specs.Row.{Row, Tuple}
use Rattle.om_value.specs.Meaning.{with_addend, with_factor, exact, near, summed, multiplied, divided, with_sign, signed, as_signed, bits, bits_of, memory_at, cell_at, value, near_value}
use Rattle.om_value.specs.Kinds.{is_from, is_number, numbers, in_range, is_word, sum_kind, product_kind, quotient_kind, sign_kind, signed_kind, bits_kind, bits_range, width_kind, memory_kind, least_of, greatest_of, after, kind, IsOf, HasKinds}
use Rattle.om_value.specs.declared.column.ColumnId.{ColumnId}
use Rattle.om_value.specs.declared.expr.Addend.{Addend}
use Rattle.om_value.specs.declared.expr.Expr.{Expr}
use Rattle.om_value.specs.declared.expr.Factor.{Factor}
use Rattle.om_value.specs.declared.expr.Factor.TheVariants as factor
use Rattle.om_value.specs.declared.expr.Sign.{Sign}
use Rattle.om_value.specs.declared.expr.Sign.TheVariants.{Plus, Minus}
use Rattle.om_value.specs.declared.expr.Width.{Width}
use Rattle.om_value.specs.declared.kind.Kind.{Kind}
use Rattle.om_value.specs.declared.kind.Kind.TheVariants as of
use Rattle.om_value.specs.declared.kind.Wrong.{Wrong}
use Rattle.om_value.specs.declared.kind.Wrong.TheVariants.{Range}
use Rattle.om_value.specs.declared.value.Owned.{Owned}
use Rattle.om_value.specs.declared.value.Owned.TheVariants.{Int, Text, Null}
use Rattle.om_value.proofs.Induction.{Each, OfTerm, OfFactor, by_cases}
use Rattle.om_value.proofs.Ranges.{near_number, quot_mono, below_corners, above_corners}
use Rattle.om_value.proofs.KindsOf.{with_addend_kind, with_factor_kind, kind-Numeral, kind-Text, kind-Null, kind-Column, kind-Sum, kind-Product, kind-Sign, kind-Signed, kind-Bits, kind-Memory}
use Rattle.om_value.proofs.Values.{value-Numeral, value-Text, value-Null, value-Column, value-Sum, value-Product, value-Sign, value-Signed, value-Bits, value-Memory}

-- two values are one, and of a kind
abbrev pub IsSound : Kind → Owned → Owned → Type 0
IsSound k one other = (one ≡ other) × IsOf k other

null_of : (k : Kind) → IsOf k Null
null_of (of.Int i) = tt
null_of of.Text = tt
null_of of.Null = tt

sound_null : (k : Kind) → IsSound k Null Null
sound_null k = (refl, null_of k)

either_null : (test : Bool) (k : Kind) → IsSound k (if test then Null else Null) (if test then Null else Null)
either_null true k = sound_null k
either_null false k = sound_null k

-- a test that was passed
passed : {A : Type 0} (test : Bool) (made found : A) (wrong : Wrong) → (let tried : Result A Wrong = if test then Ok made else Err wrong in tried) ≡ Ok found → (test ≡ true) × (made ≡ found)
passed true made found wrong is = (refl, (cc))
passed false made found wrong is = cc

number_between : (low high z : ℤ) → is_number low ≡ true → is_number high ≡ true → low ≤ℤ z → z ≤ℤ high → is_number z ≡ true
number_between low high z p q above below = grind (arith, ints)

both_true : (a b : Bool) → (a && b) ≡ true → (a ≡ true) × (b ≡ true)
both_true true b is = (refl, is)
both_true false b is = cc

-- a number of a range that is no fault
ranged : (low high z : ℤ) (k : Kind) → in_range low high ≡ Ok k → low ≤ℤ z → z ≤ℤ high → IsSound k (Int (near z)) (Int z)
ranged low high z k is above below =
    let found = passed (is_number low && is_number high) (numbers low high) k Range is in
    let ends = both_true (is_number low) (is_number high) found.0 in
    let middle = number_between low high z ends.0 ends.1 above below in
    (ap (λ n. (let made : Owned = Int n in made)) (near_number z middle), subst (λ (k : Kind). IsOf k (Int z)) found.1 (above, below))

-- the same of a number that isn't rounded
ranged_exact : (low high z : ℤ) (k : Kind) → in_range low high ≡ Ok k → low ≤ℤ z → z ≤ℤ high → IsSound k (Int z) (Int z)
ranged_exact low high z k is above below = (refl, (ranged low high z k is above below).1)

pub came : {A B : Type 0} (before : Result A Wrong) (next : A → Result B Wrong) (found : B) → after before next ≡ Ok found → (x : A) × (before ≡ Ok x) × (next x ≡ Ok found)
came (Ok x) next found is = (x, refl, is)
came (Err wrong) next found is = cc

-- ---- operators

sum_sound : (sign : Sign) (k l m : Kind) (v w : Owned) → IsOf k v → IsOf l w → sum_kind sign k l ≡ Ok m → IsSound m (summed near sign v w) (summed exact sign v w)
unfolding sum_kind summed
sum_sound Plus (of.Int i) (of.Int j) m (Int a) (Int b) p q is = ranged (i.lo +ℤ j.lo) (i.hi +ℤ j.hi) (a +ℤ b) m is (omega (arith, ints, p.0, q.0)) (omega (arith, ints, p.1, q.1))
sum_sound Minus (of.Int i) (of.Int j) m (Int a) (Int b) p q is = ranged (i.lo -ℤ j.hi) (i.hi -ℤ j.lo) (a -ℤ b) m is (omega (arith, ints, p.0, q.1)) (omega (arith, ints, p.1, q.0))
sum_sound sign of.Text l m (Int a) (Int b) p q is = absurd p
sum_sound sign of.Null l m (Int a) (Int b) p q is = absurd p
sum_sound sign (of.Int i) of.Text m (Int a) (Int b) p q is = absurd q
sum_sound sign (of.Int i) of.Null m (Int a) (Int b) p q is = absurd q
sum_sound sign k l m (Int a) (Text b) p q is = sound_null m
sum_sound sign k l m (Int a) Null p q is = sound_null m
sum_sound sign k l m (Text a) w p q is = sound_null m
sum_sound sign k l m Null w p q is = sound_null m

product_sound : (k l m : Kind) (v w : Owned) → IsOf k v → IsOf l w → product_kind k l ≡ Ok m → IsSound m (multiplied near v w) (multiplied exact v w)
unfolding product_kind multiplied
product_sound (of.Int i) (of.Int j) m (Int a) (Int b) p q is = ranged (least_of (i.lo *ℤ j.lo) (i.lo *ℤ j.hi) (i.hi *ℤ j.lo) (i.hi *ℤ j.hi)) (greatest_of (i.lo *ℤ j.lo) (i.lo *ℤ j.hi) (i.hi *ℤ j.lo) (i.hi *ℤ j.hi)) (a *ℤ b) m is (above_corners i.lo i.hi a j.lo j.hi b p.0 p.1 q.0 q.1) (below_corners i.lo i.hi a j.lo j.hi b p.0 p.1 q.0 q.1)
product_sound of.Text l m (Int a) (Int b) p q is = absurd p
product_sound of.Null l m (Int a) (Int b) p q is = absurd p
product_sound (of.Int i) of.Text m (Int a) (Int b) p q is = absurd q
product_sound (of.Int i) of.Null m (Int a) (Int b) p q is = absurd q
product_sound k l m (Int a) (Text b) p q is = sound_null m
product_sound k l m (Int a) Null p q is = sound_null m
product_sound k l m (Text a) w p q is = sound_null m
product_sound k l m Null w p q is = sound_null m

no_zero : (n : ℕ) → nat_eq (suc n) 0 ≡ false
no_zero n = grind arith

quotient_sound : (n : ℕ) (k m : Kind) (v : Owned) → IsOf k v → quotient_kind n k ≡ Ok m → IsSound m (divided n v) (divided n v)
unfolding quotient_kind divided
quotient_sound zero k m v p is = sound_null m
quotient_sound (suc n) (of.Int i) m (Int a) p is =
    let range = rw (no_zero n) at is in
    rw (no_zero n) (ranged_exact (int_div i.lo (pos (suc n))) (int_div i.hi (pos (suc n))) (int_div a (pos (suc n))) m range (quot_mono (suc n) i.lo a (omega arith) p.0) (quot_mono (suc n) a i.hi (omega arith) p.1))
quotient_sound (suc n) of.Text m (Int a) p is = absurd p
quotient_sound (suc n) of.Null m (Int a) p is = absurd p
quotient_sound (suc n) k m (Text a) p is = rw (no_zero n) (sound_null m)
quotient_sound (suc n) k m Null p is = rw (no_zero n) (sound_null m)

sign_sound : (sign : Sign) (k m : Kind) (v : Owned) → IsOf k v → sign_kind sign k ≡ Ok m → IsSound m (with_sign near sign v) (with_sign exact sign v)
unfolding sign_kind with_sign
sign_sound Plus (of.Int i) m (Int a) p is = ranged_exact i.lo i.hi a m is p.0 p.1
sign_sound Minus (of.Int i) m (Int a) p is = ranged (neg_ℤ i.hi) (neg_ℤ i.lo) (neg_ℤ a) m is (omega (arith, ints, p.1)) (omega (arith, ints, p.0))
sign_sound sign of.Text m (Int a) p is = absurd p
sign_sound sign of.Null m (Int a) p is = absurd p
sign_sound sign k m (Text a) p is = sound_null m
sign_sound sign k m Null p is = sound_null m

-- a word read as a signed number
signed_from : (low high a : ℤ) → is_from (pos 0) (pos (2 ^ 32 - 1)) low ≡ true → is_from (pos 0) (pos (2 ^ 32 - 1)) high ≡ true → low ≤ℤ a → a ≤ℤ high → (neg_ℤ (pos (2 ^ 31)) ≤ℤ as_signed a) × (as_signed a ≤ℤ pos (2 ^ 31 - 1))
signed_from low high (pos a) p q above below =
    let most : a < 2 ^ 32 = grind (arith, ints) in
    grind (arith, ints)
signed_from low high (negsuc a) p q above below =
    let least : pos 0 ≤ℤ low = grind (arith, ints) in
    absurd (omega (arith, ints))

signed_sound : (k m : Kind) (v : Owned) → IsOf k v → signed_kind k ≡ Ok m → IsSound m (signed v) (signed v)
unfolding signed_kind signed
signed_sound (of.Int i) m (Int a) p is =
    let found = passed (is_word i) (numbers (neg_ℤ (pos (2 ^ 31))) (pos (2 ^ 31 - 1))) m Range is in
    let ends = both_true _ _ found.0 in
    (refl, subst (λ (k : Kind). IsOf k (Int (as_signed a))) found.1 (signed_from i.lo i.hi a ends.0 ends.1 p.0 p.1))
signed_sound of.Text m (Int a) p is = absurd p
signed_sound of.Null m (Int a) p is = absurd p
signed_sound k m (Text a) p is = sound_null m
signed_sound k m Null p is = sound_null m

bits_from : (high low : ℕ) (a : ℤ) → (pos 0 ≤ℤ bits_of high low a) × (bits_of high low a ≤ℤ pos (2 ^ (high - low + 1) - 1))
bits_from high low (pos a) =
    let some : 0 < 2 ^ (high - low + 1) = pow_pos (high - low + 1) in
    let left = mod-lt (a / 2 ^ low) some in
    (omega (arith, ints), omega (arith, ints, left))
bits_from high low (negsuc a) = (omega (arith, ints), omega (arith, ints))

passed_on : {A : Type 0} (test : Bool) (next : Result A Wrong) (found : A) (wrong : Wrong) → (if test then next else Err wrong) ≡ Ok found → (test ≡ true) × (next ≡ Ok found)
passed_on true next found wrong is = (refl, is)
passed_on false next found wrong is = cc

bits_sound : (high low : ℕ) (k m : Kind) (v : Owned) → IsOf k v → bits_kind high low k ≡ Ok m → IsSound m (bits high low v) (bits high low v)
unfolding bits_kind bits
bits_sound high low (of.Int i) m (Int a) p is =
    let there = passed_on (nat_le low high && nat_lt high 64) (bits_range high low i) m Range is in
    let found = passed (int_le (pos 0) i.lo) (numbers (pos 0) (pos (2 ^ (high - low + 1) - 1))) m Range there.1 in
    rw there.0 (refl, subst (λ (k : Kind). IsOf k (Int (bits_of high low a))) found.1 (bits_from high low a))
bits_sound high low of.Text m (Int a) p is = absurd p
bits_sound high low of.Null m (Int a) p is = absurd p
bits_sound high low k m (Text a) p is = either_null (nat_le low high && nat_lt high 64) m
bits_sound high low k m Null p is = either_null (nat_le low high && nat_lt high 64) m

memory_of : (row : Row) (width : Width) (address : ℕ) (test : Bool) → ((address : ℕ) → IsOf (width_kind width) (row.mem address width)) → IsOf (width_kind width) (option_map_or (λ found. row.mem found width) (if test then Some address else None) Null)
memory_of row width address true mem = mem address
memory_of row width address false mem = null_of (width_kind width)

memory_sound : (row : Row) (width : Width) (k m : Kind) (v : Owned) → ((address : ℕ) → IsOf (width_kind width) (row.mem address width)) → IsOf k v → memory_kind width k ≡ Ok m → IsSound m (memory_at row width v) (memory_at row width v)
unfolding memory_kind memory_at
memory_sound row width (of.Int i) m (Int (pos a)) mem p is =
    let found = passed (is_word i) (width_kind width) m Range is in
    (refl, subst (λ (k : Kind). IsOf k (option_map_or (λ found. row.mem found width) (if nat_lt a (2 ^ 32) then Some a else None) Null)) found.1 (memory_of row width a (nat_lt a (2 ^ 32)) mem))
memory_sound row width of.Text m (Int (pos a)) mem p is = absurd p
memory_sound row width of.Null m (Int (pos a)) mem p is = absurd p
memory_sound row width k m (Int (negsuc a)) mem p is = sound_null m
memory_sound row width k m (Text a) mem p is = sound_null m
memory_sound row width k m Null mem p is = sound_null m

-- ---- expressions

-- an expression of this kind is sound
abbrev pub Holds : (ColumnId → Kind) → Tuple → Expr → Type 0
Holds columns t e = (k : Kind) → kind columns e ≡ Ok k → IsSound k (near_value t e) (value t e)

same_sum : (s : Sign) (v w x y : Owned) → v ≡ w → x ≡ y → summed near s v x ≡ summed near s w y
same_sum s v w x y p q = ap (λ z. summed near s z x) p ∙ ap (summed near s w) q

same_product : (v w x y : Owned) → v ≡ w → x ≡ y → multiplied near v x ≡ multiplied near w y
same_product v w x y p q = ap (λ z. multiplied near z x) p ∙ ap (multiplied near w) q

with_addend_sound : (columns : ColumnId → Kind) (t : Tuple) (a : Addend) → OfTerm (Holds columns t) a → (before : Result Kind Wrong) (v w : Owned) → ((k : Kind) → before ≡ Ok k → IsSound k v w) → (k : Kind) → with_addend_kind (kind columns) before a ≡ Ok k → IsSound k (with_addend near (near_value t) v a) (with_addend exact (value t) w a)
with_addend_sound columns t a term before v w sound k is =
    let left = came before (λ left. after (kind columns a.term) (sum_kind a.sign left)) k is in
    let right = came (kind columns a.term) (sum_kind a.sign left.0) k left.2 in
    let first = sound left.0 left.1 in
    let second = term right.0 right.1 in
    let both = sum_sound a.sign left.0 right.0 k w (value t a.term) first.1 second.1 right.2 in
    (same_sum a.sign v w (near_value t a.term) (value t a.term) first.0 second.0 ∙ both.0, both.1)

sums_sound : (columns : ColumnId → Kind) (t : Tuple) (rest : List Addend) → Each (OfTerm (Holds columns t)) rest → (before : Result Kind Wrong) (v w : Owned) → ((k : Kind) → before ≡ Ok k → IsSound k v w) → (k : Kind) → fold (with_addend_kind (kind columns)) before rest ≡ Ok k → IsSound k (fold (with_addend near (near_value t)) v rest) (fold (with_addend exact (value t)) w rest)
sums_sound columns t [] each before v w sound k is = sound k is
sums_sound columns t (a ∷ rest) each before v w sound k is = sums_sound columns t rest each.1 (with_addend_kind (kind columns) before a) (with_addend near (near_value t) v a) (with_addend exact (value t) w a) (with_addend_sound columns t a each.0 before v w sound) k is

with_factor_sound : (columns : ColumnId → Kind) (t : Tuple) (f : Factor) → OfFactor (Holds columns t) f → (before : Result Kind Wrong) (v w : Owned) → ((k : Kind) → before ≡ Ok k → IsSound k v w) → (k : Kind) → with_factor_kind (kind columns) before f ≡ Ok k → IsSound k (with_factor near (near_value t) v f) (with_factor exact (value t) w f)
with_factor_sound columns t (factor.Times e) times before v w sound k is =
    let left = came before (λ left. after (kind columns e) (product_kind left)) k is in
    let right = came (kind columns e) (product_kind left.0) k left.2 in
    let first = sound left.0 left.1 in
    let second = times right.0 right.1 in
    let both = product_sound left.0 right.0 k w (value t e) first.1 second.1 right.2 in
    (same_product v w (near_value t e) (value t e) first.0 second.0 ∙ both.0, both.1)
with_factor_sound columns t (factor.Over n) over before v w sound k is =
    let left = came before (quotient_kind n) k is in
    let first = sound left.0 left.1 in
    let both = quotient_sound n left.0 k w first.1 left.2 in
    (ap (divided n) first.0, both.1)

products_sound : (columns : ColumnId → Kind) (t : Tuple) (rest : List Factor) → Each (OfFactor (Holds columns t)) rest → (before : Result Kind Wrong) (v w : Owned) → ((k : Kind) → before ≡ Ok k → IsSound k v w) → (k : Kind) → fold (with_factor_kind (kind columns)) before rest ≡ Ok k → IsSound k (fold (with_factor near (near_value t)) v rest) (fold (with_factor exact (value t)) w rest)
products_sound columns t [] each before v w sound k is = sound k is
products_sound columns t (f ∷ rest) each before v w sound k is = products_sound columns t rest each.1 (with_factor_kind (kind columns) before f) (with_factor near (near_value t) v f) (with_factor exact (value t) w f) (with_factor_sound columns t f each.0 before v w sound) k is

ok_is : (k m : Kind) → (let made : Result Kind Wrong = Ok k in made) ≡ Ok m → k ≡ m
ok_is k m is = cc

-- a value that isn't computed
plain : (k m : Kind) (v one other : Owned) → (let made : Result Kind Wrong = Ok k in made) ≡ Ok m → IsOf k v → one ≡ v → other ≡ v → IsSound m one other
plain k m v one other is of_k near_is exact_is = (near_is ∙ sym exact_is, subst (λ (m : Kind). IsOf m other) (ok_is k m is) (subst (λ (w : Owned). IsOf k w) (sym exact_is) of_k))

-- one operand
alone : (k : Kind) (one other v w : Owned) → one ≡ v → other ≡ w → v ≡ w → IsOf k w → IsSound k one other
alone k one other v w one_is other_is same of_k = (one_is ∙ same ∙ sym other_is, subst (λ (w : Owned). IsOf k w) (sym other_is) of_k)

numeral_of : (n : ℕ) → IsOf (numbers (pos n) (pos n)) (Int (pos n))
numeral_of n = (omega (arith, ints), omega (arith, ints))

pub expr_sound : (columns : ColumnId → Kind) (t : Tuple) → HasKinds columns t → (e : Expr) → Holds columns t e
expr_sound columns t has = by_cases (Holds columns t) record {
  numeral = λ n k is. plain (numbers (pos n) (pos n)) k (Int (pos n)) _ _ (sym (kind-Numeral columns n) ∙ is) (numeral_of n) (value-Numeral near t n) (value-Numeral exact t n);
  text = λ bytes k is. plain of.Text k (Text bytes) _ _ (sym (kind-Text columns bytes) ∙ is) tt (value-Text near t bytes) (value-Text exact t bytes);
  nothing = λ k is. plain of.Null k Null _ _ (sym (kind-Null columns) ∙ is) tt (value-Null near t) (value-Null exact t);
  column = λ c k is. plain (columns c.id) k (cell_at (t c.table) c.id) _ _ (sym (kind-Column columns c) ∙ is) (has.cells c.table c.id) (value-Column near t c) (value-Column exact t c);
  sum = λ first rest first_holds each k is.
      let both = sums_sound columns t rest each (kind columns first) (near_value t first) (value t first) first_holds k (sym (kind-Sum columns first rest) ∙ is) in
      alone k _ _ _ _ (value-Sum near t first rest) (value-Sum exact t first rest) both.0 both.1;
  product = λ first rest first_holds each k is.
      let both = products_sound columns t rest each (kind columns first) (near_value t first) (value t first) first_holds k (sym (kind-Product columns first rest) ∙ is) in
      alone k _ _ _ _ (value-Product near t first rest) (value-Product exact t first rest) both.0 both.1;
  sign = λ s e holds k is.
      let part = came (kind columns e) (sign_kind s) k (sym (kind-Sign columns s e) ∙ is) in
      let found = holds part.0 part.1 in
      let both = sign_sound s part.0 k (value t e) found.1 part.2 in
      alone k _ _ _ _ (value-Sign near t s e) (value-Sign exact t s e) (ap (with_sign near s) found.0 ∙ both.0) both.1;
  signed = λ e holds k is.
      let part = came (kind columns e) signed_kind k (sym (kind-Signed columns e) ∙ is) in
      let found = holds part.0 part.1 in
      let both = signed_sound part.0 k (value t e) found.1 part.2 in
      alone k _ _ _ _ (value-Signed near t e) (value-Signed exact t e) (ap signed found.0) both.1;
  bits = λ e high low holds k is.
      let part = came (kind columns e) (bits_kind high low) k (sym (kind-Bits columns e high low) ∙ is) in
      let found = holds part.0 part.1 in
      let both = bits_sound high low part.0 k (value t e) found.1 part.2 in
      alone k _ _ _ _ (value-Bits near t e high low) (value-Bits exact t e high low) (ap (bits high low) found.0) both.1;
  memory = λ table width e holds k is.
      let part = came (kind columns e) (memory_kind width) k (sym (kind-Memory columns table width e) ∙ is) in
      let found = holds part.0 part.1 in
      let both = memory_sound (t table) width part.0 k (value t e) (λ address. has.memory table address width) found.1 part.2 in
      alone k _ _ _ _ (value-Memory near t table width e) (value-Memory exact t table width e) (ap (memory_at (t table) width) found.0) both.1;
}
