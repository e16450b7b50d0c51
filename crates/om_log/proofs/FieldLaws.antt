-- A field that is read is the field that was written, and what was written is read again. Free of any format.
use Rattle.std.proofs.Common.{◌≡◌, ℕ, zero, suc, ◌+◌, ◌-◌, ◌*◌, ◌/◌, ◌%◌, ◌^◌, ◌<◌, ◌≤◌, false, ltb, List, [], ◌∷◌, ◌++◌, length, get_or, take, drop, Option, Some, None, refl, sym, ap, subst, ◌∙◌, append_assoc, arith, inl, inr}
use Rattle.std.specs.Option.{option_map}
use Rattle.std.specs.List.{flat_map, AllByRecursion}
use Rattle.std.proofs.lemmas.Bool.{cases_lt, lt-ltb, le-ltb}
use Rattle.std.proofs.lemmas.List.{take_at, drop_at, take-append-drop, length-append, length-take, get_or-drop, get_or-take, get_or_past}
use Rattle.om_base.specs.Numbers.{le}
use Rattle.om_log.specs.Fields.{Field, ◌>>=◌, some_bytes, number, mapped, both, times, behind, led}
use Rattle.om_log.specs.LittleEndian.{le_bytes}

-- ---- bytes

-- each is below 256
abbrev pub IsBytes : List ℕ → Type 0
IsBytes bytes = (i : ℕ) → get_or bytes i 0 < 256

pub IsBytes-drop : (n : ℕ) (bytes : List ℕ) → IsBytes bytes → IsBytes (drop n bytes)
IsBytes-drop n bytes h i = rw get_or-drop (h (n + i))

pub IsBytes-take : (n : ℕ) (bytes : List ℕ) → IsBytes bytes → IsBytes (take n bytes)
IsBytes-take n bytes h i =
    elim (cases_lt i n) [
      | inl lt ↦ rw (get_or-take n bytes i 0 lt) (h i)
      | inr le ↦ rw (get_or_past (take n bytes) i 0 (omega (arith, length-take n bytes))) (omega arith)
    ]

-- what stands behind some bytes
pub IsBytes-rest : (bytes front rest : List ℕ) → IsBytes bytes → bytes ≡ front ++ rest → IsBytes rest
IsBytes-rest bytes front rest h e =
    let back : drop (length front) bytes ≡ rest = ap (drop (length front)) e ∙ drop_at front rest (length front) refl in
    subst IsBytes back (IsBytes-drop (length front) bytes h)

-- ---- numbers, lowest byte first

pub length-le_bytes : (width n : ℕ) → length (le_bytes width n) ≡ width
unfolding le_bytes
length-le_bytes zero n = refl
length-le_bytes (suc width) n = ap suc (length-le_bytes width (n / 256))

-- a number is that of its bytes
pub le-le_bytes : (width n : ℕ) → n < 256 ^ width → le (le_bytes width n) ≡ n
unfolding le le_bytes
le-le_bytes zero n lt = omega arith
le-le_bytes (suc width) n lt =
    let less : n / 256 < 256 ^ width = omega arith in
    omega (arith, le-le_bytes width (n / 256) less)

tail_bytes : (b : ℕ) (bytes : List ℕ) → IsBytes (b ∷ bytes) → IsBytes bytes
tail_bytes b bytes h i = h (suc i)

-- bytes are those of their number
pub le_bytes-le : (bytes : List ℕ) → IsBytes bytes → le_bytes (length bytes) (le bytes) ≡ bytes
unfolding le le_bytes
le_bytes-le [] h = refl
le_bytes-le (b ∷ bytes) h =
    let here : b < 256 = h 0 in
    let low : (b + 256 * le bytes) % 256 ≡ b = omega arith in
    let high : (b + 256 * le bytes) / 256 ≡ le bytes = omega arith in
    rw (low, high, le_bytes-le bytes (tail_bytes b bytes h)) refl

pub le_fits : (bytes : List ℕ) → IsBytes bytes → le bytes < 256 ^ length bytes
unfolding le
le_fits [] h = omega arith
le_fits (b ∷ bytes) h =
    let here : b < 256 = h 0 in
    let more : b + 256 * le bytes < 256 ^ suc (length bytes) = omega (arith, le_fits bytes (tail_bytes b bytes h)) in
    more

-- ---- fields

-- the value of a step that did not fail
pub bind_some : {A B : Type 0} (o : Option A) (f : A → Option B) (y : B) → (o >>= f) ≡ Some y → (x : A) × (o ≡ Some x) × (f x ≡ Some y)
bind_some (Some x) f y e = (x, refl, e)
bind_some None f y e = absurd cc

pub some_is : {A : Type 0} (x y : A) → Some x ≡ Some y → x ≡ y
some_is x y e = cc

-- what a field takes spells so and fits, and what fits is taken again, whatever follows
pub record IsField {A : Type 0} (field : Field A) (spell : A → List ℕ) (Fits : A → Type 0) : Type 0 where
  pub takes : (bytes : List ℕ) (x : A × List ℕ) → IsBytes bytes → field bytes ≡ Some x → (bytes ≡ spell x.0 ++ x.1) × Fits x.0
  pub again : (x : A) (rest : List ℕ) → Fits x → field (spell x ++ rest) ≡ Some (x, rest)

-- one of two that fit and stand in front of the same bytes is the other
pub one_front : {A : Type 0} {field : Field A} {spell : A → List ℕ} {Fits : A → Type 0} → IsField field spell Fits
    → (x y : A) (r t : List ℕ) → Fits x → Fits y → spell x ++ r ≡ spell y ++ t → (x ≡ y) × (r ≡ t)
one_front {A} {field} {spell} law x y r t fx fy same =
    let one = law.again x r fx in
    let other = law.again y t fy in
    let between = ap field same in
    let pairs : (x, r) ≡ (y, t) = some_is (x, r) (y, t) (sym one ∙ between ∙ other) in
    (ap (λ p. p.0) pairs, ap (λ p. p.1) pairs)

-- where nothing is taken, nothing that fits stands in front
pub none_in_front : {A : Type 0} {field : Field A} {spell : A → List ℕ} {Fits : A → Type 0} → IsField field spell Fits
    → (bytes : List ℕ) → field bytes ≡ None → (x : A) (rest : List ℕ) → Fits x → bytes ≡ spell x ++ rest → ⊥
none_in_front {A} {field} law bytes none x rest fits same =
    let one = law.again x rest fits in
    let between = ap field same in
    cc

-- so many bytes
pub bytes_law : (count : ℕ) → IsField (some_bytes count) (λ bytes. bytes) (λ bytes. length bytes ≡ count)
unfolding some_bytes
bytes_law count = record {
  takes = λ bytes x h e. elim (cases_lt (length bytes) count) [
    | inl lt ↦ (let test = lt-ltb (length bytes) count lt in absurd (let e' = rw test at e in cc))
    | inr ge ↦ (let test = le-ltb (length bytes) count ge in
        let e' = rw test at e in
        let is : (take count bytes, drop count bytes) ≡ x = some_is _ _ e' in
        let P : List ℕ × List ℕ → Type 0 = λ y. (bytes ≡ y.0 ++ y.1) × (length y.0 ≡ count) in
        subst P is (sym (take-append-drop count bytes), omega (arith, length-take count bytes)))
  ];
  again = λ x rest fits.
      let test : ltb (length (x ++ rest)) count ≡ false = le-ltb _ _ (omega (arith, length-append x rest)) in
      rw (test, take_at x rest count fits, drop_at x rest count fits) refl;
}

-- a number in so many bytes
pub number_law : (width : ℕ) → IsField (number width) (le_bytes width) (λ n. n < 256 ^ width)
unfolding number
number_law width = record {
  takes = λ bytes x h e. elim (cases_lt (length bytes) width) [
    | inl lt ↦ (let test = lt-ltb (length bytes) width lt in absurd (let e' = rw test at e in cc))
    | inr ge ↦ (let test = le-ltb (length bytes) width ge in
        let e' = rw test at e in
        let is : (le (take width bytes), drop width bytes) ≡ x = some_is _ _ e' in
        let P : ℕ × List ℕ → Type 0 = λ y. (bytes ≡ le_bytes width y.0 ++ y.1) × (y.0 < 256 ^ width) in
        let field = IsBytes-take width bytes h in
        let len : length (take width bytes) ≡ width = omega (arith, length-take width bytes) in
        let back : le_bytes width (le (take width bytes)) ≡ take width bytes = subst (λ w. le_bytes w (le (take width bytes)) ≡ take width bytes) len (le_bytes-le (take width bytes) field) in
        let fits : le (take width bytes) < 256 ^ width = subst (λ w. le (take width bytes) < 256 ^ w) len (le_fits (take width bytes) field) in
        subst P is (sym (take-append-drop width bytes) ∙ ap (λ front. front ++ drop width bytes) (sym back), fits))
  ];
  again = λ n rest fits.
      let len = length-le_bytes width n in
      let test : ltb (length (le_bytes width n ++ rest)) width ≡ false = le-ltb _ _ (omega (arith, length-append (le_bytes width n) rest)) in
      rw (test, take_at (le_bytes width n) rest width len, drop_at (le_bytes width n) rest width len, le-le_bytes width n fits) refl;
}

-- a field after another
pub both_law : {A B : Type 0} {first : Field A} {second : Field B} {s : A → List ℕ} {t : B → List ℕ} {P : A → Type 0} {Q : B → Type 0}
    → IsField first s P → IsField second t Q → IsField (both first second) (λ x. s x.0 ++ t x.1) (λ x. P x.0 × Q x.1)
both_law {A} {B} {first} {second} {s} {t} {P} {Q} one other = record {
  takes = λ bytes x h e.
      let a = bind_some (first bytes) (λ a. second a.1 >>= λ b. Some ((a.0, b.0), b.1)) x e in
      let b = bind_some (second a.0.1) (λ b. Some ((a.0.0, b.0), b.1)) x a.2 in
      let p = one.takes bytes a.0 h a.1 in
      let q = other.takes a.0.1 b.0 (IsBytes-rest bytes (s a.0.0) a.0.1 h p.0) b.1 in
      let R : (A × B) × List ℕ → Type 0 = λ y. (bytes ≡ (s y.0.0 ++ t y.0.1) ++ y.1) × (P y.0.0 × Q y.0.1) in
      subst R (some_is ((a.0.0, b.0.0), b.0.1) x b.2)
      (p.0 ∙ ap (λ rest. s a.0.0 ++ rest) q.0 ∙ sym (append_assoc (s a.0.0) (t b.0.0) b.0.1), (p.1, q.1));
  again = λ x rest fits. rw (append_assoc (s x.0) (t x.1) rest, one.again x.0 (t x.1 ++ rest) fits.0, other.again x.1 rest fits.1) refl;
}

-- a field, seen by a function that can be undone
pub mapped_law : {A B : Type 0} {field : Field A} {s : A → List ℕ} {P : A → Type 0} (f : A → B) (g : B → A)
    → ((a : A) → g (f a) ≡ a) → ((b : B) → f (g b) ≡ b) → IsField field s P → IsField (mapped f field) (λ b. s (g b)) (λ b. P (g b))
mapped_law {A} {B} {field} {s} {P} f g undone redone law = record {
  takes = λ bytes x h e.
      let a = bind_some (field bytes) (λ a. Some (f a.0, a.1)) x e in
      let p = law.takes bytes a.0 h a.1 in
      let R : B × List ℕ → Type 0 = λ y. (bytes ≡ s (g y.0) ++ y.1) × P (g y.0) in
      let q : (bytes ≡ s (g (f a.0.0)) ++ a.0.1) × P (g (f a.0.0)) = rw (undone a.0.0) p in
      subst R (some_is (f a.0.0, a.0.1) x a.2) q;
  again = λ b rest fits. rw (law.again (g b) rest fits, redone b) refl;
}

-- so many times one field
module _ {A : Type 0} (field : Field A) (s : A → List ℕ) (P : A → Type 0) (law : IsField field s P) where
  times_takes : (count : ℕ) (bytes : List ℕ) (x : List A × List ℕ) → IsBytes bytes → times count field bytes ≡ Some x → (bytes ≡ flat_map s x.0 ++ x.1) × ((length x.0 ≡ count) × AllByRecursion P x.0)
  unfolding times
  times_takes zero bytes x h e =
      let R : List A × List ℕ → Type 0 = λ y. (bytes ≡ flat_map s y.0 ++ y.1) × ((length y.0 ≡ 0) × AllByRecursion P y.0) in
      subst R (some_is ([], bytes) x e) (refl, (refl, tt))
  times_takes (suc count) bytes x h e =
      let a = bind_some (field bytes) (λ a. times count field a.1 >>= λ b. Some (a.0 ∷ b.0, b.1)) x e in
      let b = bind_some (times count field a.0.1) (λ b. Some (a.0.0 ∷ b.0, b.1)) x a.2 in
      let p = law.takes bytes a.0 h a.1 in
      let q = times_takes count a.0.1 b.0 (IsBytes-rest bytes (s a.0.0) a.0.1 h p.0) b.1 in
      let R : List A × List ℕ → Type 0 = λ y. (bytes ≡ flat_map s y.0 ++ y.1) × ((length y.0 ≡ suc count) × AllByRecursion P y.0) in
      let whole : bytes ≡ flat_map s (a.0.0 ∷ b.0.0) ++ b.0.1 = p.0 ∙ ap (λ rest. s a.0.0 ++ rest) q.0 ∙ sym (append_assoc (s a.0.0) (flat_map s b.0.0) b.0.1) in
      subst R (some_is (a.0.0 ∷ b.0.0, b.0.1) x b.2) (whole, (ap suc q.1.0, (p.1, q.1.1)))

  times_again : (xs : List A) (count : ℕ) (rest : List ℕ) → length xs ≡ count → AllByRecursion P xs → times count field (flat_map s xs ++ rest) ≡ Some (xs, rest)
  unfolding times
  times_again [] zero rest len fits = refl
  times_again [] (suc count) rest len fits = absurd cc
  times_again (x ∷ xs) zero rest len fits = absurd cc
  times_again (x ∷ xs) (suc count) rest len fits =
      rw (append_assoc (s x) (flat_map s xs) rest, law.again x (flat_map s xs ++ rest) fits.0, times_again xs count rest (cc) fits.1) refl

pub times_law : {A : Type 0} {field : Field A} {s : A → List ℕ} {P : A → Type 0} (count : ℕ)
    → IsField field s P → IsField (times count field) (flat_map s) (λ xs. (length xs ≡ count) × AllByRecursion P xs)
times_law {A} {field} {s} {P} count law = record {
  takes = times_takes field s P law count;
  again = λ xs rest fits. times_again field s P law xs count rest fits.0 fits.1;
}

behind_map : {A : Type 0} (a : A) (o : Option (List A × List ℕ)) → option_map (λ (x : List A × List ℕ). x.1) o ≡ option_map (λ (x : List A × List ℕ). x.1) (o >>= λ b. Some (a ∷ b.0, b.1))
behind_map a None = refl
behind_map a (Some x) = refl

behind_step : {A : Type 0} (field : Field A) (left : ℕ) (rest : List ℕ) (x : A × List ℕ) → field rest ≡ Some x → behind left field x.1 ≡ behind (suc left) field rest
unfolding times
behind_step field left rest x e = rw e (behind_map x.0 (times left field x.1))

-- what stands behind one field more
pub behind_more : {A : Type 0} (field : Field A) (left : ℕ) (rest : List ℕ) (x : A × List ℕ) → 0 < left → field rest ≡ Some x → behind (left - 1) field x.1 ≡ behind left field rest
behind_more field zero rest x some e = absurd (omega arith)
behind_more field (suc left) rest x some e =
    let less : suc left - 1 ≡ left = omega arith in
    ap (λ (n : ℕ). behind n field x.1) less ∙ behind_step field left rest x e

pub behind_none : {A : Type 0} (field : Field A) (left : ℕ) (rest : List ℕ) → 0 < left → field rest ≡ None → behind left field rest ≡ None
unfolding times
behind_none field zero rest some e = absurd (omega arith)
behind_none field (suc left) rest some e = rw e refl

pub behind_done : {A : Type 0} (field : Field A) (left : ℕ) (rest : List ℕ) → left ≤ 0 → behind left field rest ≡ Some rest
unfolding times
behind_done field zero rest none = refl
behind_done field (suc left) rest none = absurd (omega arith)

-- a size, and the field of that size
pub led_law : {A : Type 0} (width : ℕ) (field : ℕ → Field A) {s : A → List ℕ} (size : A → ℕ) {P : A → Type 0}
    → ((n : ℕ) → IsField (field n) s (λ x. (size x ≡ n) × P x)) → IsField (led width field) (λ x. le_bytes width (size x) ++ s x) (λ x. (size x < 256 ^ width) × P x)
led_law {A} width field {s} size {P} law = record {
  takes = λ bytes x h e.
      let n = bind_some (number width bytes) (λ n. field n.0 n.1) x e in
      let p = (number_law width).takes bytes n.0 h n.1 in
      let q = (law n.0.0).takes n.0.1 x (IsBytes-rest bytes (le_bytes width n.0.0) n.0.1 h p.0) n.2 in
      let same : n.0.0 ≡ size x.0 = sym q.1.0 in
      let R : ℕ → Type 0 = λ m. (bytes ≡ (le_bytes width m ++ s x.0) ++ x.1) × ((m < 256 ^ width) × P x.0) in
      subst R same (p.0 ∙ ap (λ rest. le_bytes width n.0.0 ++ rest) q.0 ∙ sym (append_assoc (le_bytes width n.0.0) (s x.0) x.1), (p.1, q.1.1));
  again = λ x rest fits. rw (append_assoc (le_bytes width (size x)) (s x) rest, (number_law width).again (size x) (s x ++ rest) fits.0, (law (size x)).again x rest (refl, fits.1)) refl;
}

-- the same field, with what fits said in other words
pub fits_law : {A : Type 0} {field : Field A} {s : A → List ℕ} {P : A → Type 0} (Q : A → Type 0)
    → ((x : A) → P x → Q x) → ((x : A) → Q x → P x) → IsField field s P → IsField field s Q
fits_law Q weaker stronger law = record {
  takes = λ bytes x h e. let p = law.takes bytes x h e in (p.0, weaker x.0 p.1);
  again = λ x rest fits. law.again x rest (stronger x fits);
}
