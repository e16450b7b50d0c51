-- The attributes of an entry, read one after another.
use Rattle.std.proofs.Common.{◌≡◌, ℕ, ◌+◌, ◌<◌, ◌≤◌, length, get_or, drop, List, [], ◌∷◌, ◌++◌, Ok, Err, refl, sym, ap, subst, ◌∙◌, ◌⊎◌, inl, inr, append_assoc}
use Rattle.std.specs.Prelude.{Result}
use Rattle.std.proofs.lemmas.List.{drop_all, drop_more}
use Rattle.om_base.specs.Reading.{IsReading, Reader, second_after}
use Rattle.om_base.proofs.ReadingLaws.{append-nil, ok_is}
use Rattle.om_die.specs.Attributes.{AreAttributes, HasGap, IsGap}
use Rattle.om_die.specs.Forms.{Around, IsFormRefused, HasNoValue}
use Rattle.om_die.specs.Laws.{ListOrGap, OneGap, OneList, WholeOrNot}
use Rattle.om_die.specs.Readers.{value_in}
use Rattle.om_die.specs.AttributeValue.{Attribute, Value}
use Rattle.om_die.specs.declared.abbreviation.Specification.{Specification}
use Rattle.om_die.specs.declared.attributes.Gap.{Gap}
use Rattle.om_die.specs.declared.attributes.Gap.TheVariants as gap
use Rattle.om_die.proofs.ReaderLemmas.{absent, behind, behind_more, behind_ok, behind_why, reading_once, second_ok, second_why}
use Rattle.om_die.proofs.ValueLaws.{refused_told, told_refused, value_reads}

-- ---- as a function

abbrev pub attribute : Specification → Value → Attribute
attribute s value = record { name = s.name; value = value }

unfoldable pub attributes_in : Around → List Specification → Reader (List Attribute) Gap
attributes_in around [] bytes = Ok ([], bytes)
attributes_in around (s ∷ ss) bytes = second_after (λ value rest. behind (attribute s value ∷ []) (attributes_in around ss rest)) (value_in around s.form bytes)

-- ---- what is read is there

takes_all : (around : Around) (list : List Specification) (bytes : List ℕ) (ys : List Attribute) (rest : List ℕ) → attributes_in around list bytes ≡ Ok (ys, rest)
    → (front : List ℕ) × (bytes ≡ front ++ rest) × AreAttributes around list front ys
unfolding attributes_in AreAttributes
takes_all around [] bytes ys rest e =
    let pairs : ([], bytes) ≡ (ys, rest) = ok_is ([], bytes) (ys, rest) e in
    ([], ap (λ p. p.1) pairs, (refl, sym (ap (λ p. p.0) pairs)))
takes_all around (s ∷ ss) bytes ys rest e =
    let first = second_ok (λ value back. behind (attribute s value ∷ []) (attributes_in around ss back)) (value_in around s.form bytes) (ys, rest) e in
    let others = behind_ok (attribute s first.0.0 ∷ []) (attributes_in around ss first.0.1) ys rest first.2 in
    let one = (value_reads around s.form).takes bytes first.0.0 first.0.1 first.1 in
    let more = takes_all around ss first.0.1 others.0 rest others.1 in
    let whole : bytes ≡ (one.0 ++ more.0) ++ rest = one.1 ∙ ap (λ back. one.0 ++ back) more.1 ∙ sym (append_assoc one.0 more.0 rest) in
    let are : AreAttributes around (s ∷ ss) (one.0 ++ more.0) (attribute s first.0.0 ∷ others.0) = (one.0, more.0, refl, refl, one.2, more.2) in
    (one.0 ++ more.0, whole, subst (λ zs. AreAttributes around (s ∷ ss) (one.0 ++ more.0) zs) (sym others.2) are)

reads_all : (around : Around) (list : List Specification) (front : List ℕ) (ys : List Attribute) (rest : List ℕ) → AreAttributes around list front ys
    → attributes_in around list (front ++ rest) ≡ Ok (ys, rest)
unfolding attributes_in AreAttributes
reads_all around [] front ys rest are = ap (λ xs. Ok ([], xs ++ rest)) are.0 ∙ ap (λ zs. Ok (zs, rest)) (sym are.1)
reads_all around (s ∷ ss) front [] rest are = absurd are
reads_all around (s ∷ ss) front (y ∷ ys) rest are =
    let split : front ++ rest ≡ are.0 ++ (are.1 ++ rest) = ap (λ xs. xs ++ rest) are.2 ∙ append_assoc are.0 are.1 rest in
    let second = λ (value : Value) (back : List ℕ). behind (attribute s value ∷ []) (attributes_in around ss back) in
    let first : value_in around s.form (front ++ rest) ≡ Ok (y.value, are.1 ++ rest) = ap (value_in around s.form) split ∙ (value_reads around s.form).again are.0 y.value (are.1 ++ rest) are.4 in
    let others = reads_all around ss are.1 ys rest are.5 in
    let same : attribute s y.value ≡ y = ap (λ n. record { name = n; value = y.value }) (sym are.3) in
    ap (second_after second) first ∙ ap (behind (attribute s y.value ∷ [])) others ∙ ap (λ z. Ok (z ∷ ys, rest)) same

pub attributes_reads : (around : Around) (list : List Specification) → IsReading (attributes_in around list) (AreAttributes around list)
attributes_reads around list = record { takes = takes_all around list; again = λ front ys rest are. reads_all around list front ys rest are }

-- ---- what isn't read is lacking

value_gap : (around : Around) (s : Specification) (bytes : List ℕ) (why : Gap) → value_in around s.form bytes ≡ Err why → IsGap around s bytes why
unfolding IsGap
value_gap around s bytes gap.Form e = told_refused around s.form bytes e
value_gap around s bytes gap.Short e =
    (λ refused. (let both = sym e ∙ refused_told around s.form bytes refused in absurd cc), absent (value_reads around s.form) bytes gap.Short e)

gap_by : (around : Around) (s : Specification) (bytes : List ℕ) (r : Result (Value × List ℕ) Gap) → value_in around s.form bytes ≡ r
    → (IsFormRefused around s.form bytes → ⊥) → HasNoValue around s.form bytes → r ≡ Err gap.Short
gap_by around s bytes (Ok x) e whole none = let is = (value_reads around s.form).takes bytes x.0 x.1 e in absurd (none is.0 x.1 x.0 is.1 is.2)
gap_by around s bytes (Err gap.Form) e whole none = absurd (whole (told_refused around s.form bytes e))
gap_by around s bytes (Err gap.Short) e whole none = refl

gap_value : (around : Around) (s : Specification) (bytes : List ℕ) (why : Gap) → IsGap around s bytes why → value_in around s.form bytes ≡ Err why
unfolding IsGap
gap_value around s bytes gap.Form is = refused_told around s.form bytes is
gap_value around s bytes gap.Short is = gap_by around s bytes (value_in around s.form bytes) refl is.0 is.1

pub told_gap : (around : Around) (list : List Specification) (bytes : List ℕ) (why : Gap) → attributes_in around list bytes ≡ Err why → HasGap around list bytes why
unfolding attributes_in HasGap
told_gap around [] bytes why e = absurd cc
told_gap around (s ∷ ss) bytes why e =
    elim (second_why (λ value back. behind (attribute s value ∷ []) (attributes_in around ss back)) (value_in around s.form bytes) why e) [
      | inl first ↦ inl (value_gap around s bytes why first)
      | inr second ↦ (
          let one = (value_reads around s.form).takes bytes second.0.0 second.0.1 second.1 in
          let others = behind_why (attribute s second.0.0 ∷ []) (attributes_in around ss second.0.1) why second.2 in
          inr (one.0, second.0.1, second.0.0, one.1, one.2, told_gap around ss second.0.1 why others))
    ]

pub gap_told : (around : Around) (list : List Specification) (bytes : List ℕ) (why : Gap) → HasGap around list bytes why → attributes_in around list bytes ≡ Err why
unfolding attributes_in HasGap
gap_told around [] bytes why gap = absurd gap
gap_told around (s ∷ ss) bytes why (inl first) =
    ap (second_after (λ value back. behind (attribute s value ∷ []) (attributes_in around ss back))) (gap_value around s bytes why first)
gap_told around (s ∷ ss) bytes why (inr later) =
    let second = λ (value : Value) (back : List ℕ). behind (attribute s value ∷ []) (attributes_in around ss back) in
    let first : value_in around s.form bytes ≡ Ok (later.2, later.1) = ap (value_in around s.form) later.3 ∙ (value_reads around s.form).again later.0 later.2 later.1 later.4 in
    ap (second_after second) first ∙ ap (behind (attribute s later.2 ∷ [])) (gap_told around ss later.1 why later.5)

-- ---- laws

pub one_list : OneList
one_list around list = reading_once (attributes_reads around list)

pub whole_or_not : WholeOrNot
whole_or_not around list bytes front tail attributes why are parts gap =
    absent (attributes_reads around list) bytes why (gap_told around list bytes why gap) front tail attributes parts are

pub one_gap : OneGap
one_gap around list bytes why other one two = let both = sym (gap_told around list bytes why one) ∙ gap_told around list bytes other two in cc

list_by : (around : Around) (list : List Specification) (bytes : List ℕ) (r : Result (List Attribute × List ℕ) Gap) → attributes_in around list bytes ≡ r
    → ((front tail : List ℕ) × (attributes : List Attribute) × (bytes ≡ front ++ tail) × AreAttributes around list front attributes) ⊎ ((why : Gap) × HasGap around list bytes why)
list_by around list bytes (Ok read) e = let is = takes_all around list bytes read.0 read.1 e in inl (is.0, read.1, read.0, is.1, is.2)
list_by around list bytes (Err why) e = inr (why, told_gap around list bytes why e)

pub list_or_gap : ListOrGap
list_or_gap around list bytes = list_by around list bytes (attributes_in around list bytes) refl

-- ---- the loop over a list

pub goes_on : (around : Around) (list : List Specification) (bytes rest back : List ℕ) (xs : List Attribute) (i : ℕ) (d : Specification) (value : Value)
    → attributes_in around list bytes ≡ behind xs (attributes_in around (drop i list) rest) → i < length list → value_in around (get_or list i d).form rest ≡ Ok (value, back)
    → attributes_in around list bytes ≡ behind (xs ++ attribute (get_or list i d) value ∷ []) (attributes_in around (drop (i + 1) list) back)
unfolding attributes_in
goes_on around list bytes rest back xs i d value far inside e =
    let s = get_or list i d in
    let left : drop i list ≡ s ∷ drop (i + 1) list = drop_more list i d inside in
    let next : attributes_in around (drop i list) rest ≡ behind (attribute s value ∷ []) (attributes_in around (drop (i + 1) list) back) =
    ap (λ ss. attributes_in around ss rest) left
    ∙ ap (second_after (λ v r. behind (attribute s v ∷ []) (attributes_in around (drop (i + 1) list) r))) e in
    far ∙ ap (behind xs) next ∙ behind_more xs (attribute s value) (attributes_in around (drop (i + 1) list) back)

pub stops : (around : Around) (list : List Specification) (bytes rest : List ℕ) (xs : List Attribute) (i : ℕ) (d : Specification) (why : Gap)
    → attributes_in around list bytes ≡ behind xs (attributes_in around (drop i list) rest) → i < length list → value_in around (get_or list i d).form rest ≡ Err why
    → HasGap around list bytes why
unfolding attributes_in
stops around list bytes rest xs i d why far inside e =
    let s = get_or list i d in
    let left : drop i list ≡ s ∷ drop (i + 1) list = drop_more list i d inside in
    let next : attributes_in around (drop i list) rest ≡ Err why =
    ap (λ ss. attributes_in around ss rest) left
    ∙ ap (second_after (λ v r. behind (attribute s v ∷ []) (attributes_in around (drop (i + 1) list) r))) e in
    told_gap around list bytes why (far ∙ ap (behind xs) next)

pub ends : (around : Around) (list : List Specification) (bytes rest : List ℕ) (xs : List Attribute) (i : ℕ)
    → attributes_in around list bytes ≡ behind xs (attributes_in around (drop i list) rest) → length list ≤ i
    → (front : List ℕ) × (bytes ≡ front ++ rest) × AreAttributes around list front xs
unfolding attributes_in
ends around list bytes rest xs i far past =
    takes_all around list bytes xs rest
    (far ∙ ap (λ ss. behind xs (attributes_in around ss rest)) (drop_all i list past) ∙ ap (λ ys. Ok (ys, rest)) (append-nil xs))
