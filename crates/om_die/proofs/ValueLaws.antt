-- A value is read exactly where it stands, form by form; and where none is read, it is refused by its form or isn't whole.
use Rattle.std.proofs.Common.{◌≡◌, ◌≢◌, ℕ, ◌+◌, ◌<◌, ◌≤◌, Bool, true, false, cond, leb, not, nat_eq, List, [], ◌∷◌, ◌++◌, length, take, drop, get_or, Option, Some, None, Ok, Err, ok_or, ltb, refl, sym, ap, subst, ◌∙◌, arith, inl, inr, append_assoc, length-append, length-take}
use Rattle.std.specs.Prelude.{All, Result}
use Rattle.std.specs.List.{position_or_len}
use Rattle.std.specs.Option.{option_map}
use Rattle.std.specs.Result.{result_map_both}
use Rattle.std.proofs.lemmas.Bool.{cases_lt, eqb-false, le-leb, leb-true}
use Rattle.std.proofs.lemmas.Bool.Decides.{nat_tests}
use Rattle.std.proofs.lemmas.List.Sums.{fails_before_first}
use Rattle.std.proofs.lemmas.List.{drop_at, get_or_at, take-append-drop, take-append-le, take_at}
use Rattle.om_base.specs.Leb.{IsSleb, IsUleb}
use Rattle.om_base.specs.Nul.{nul_from}
use Rattle.om_base.specs.Reading.{InTurn, IsNumber, IsReading, IsText, Reader, first_then, second_after}
use Rattle.om_base.specs.declared.numbers.Num.{Num}
use Rattle.om_base.specs.declared.numbers.Num.TheVariants.{NoNul}
use Rattle.om_base.proofs.FieldLaws.{number_reads, text_reads}
use Rattle.om_base.proofs.LebLaws.{sleb_reads, uleb_reads}
use Rattle.om_base.proofs.ReadingLaws
use Rattle.om_base.proofs.ReadingLaws.{in_turn, ok_is}
use Rattle.om_die.specs.Forms.{Around, HasLostForm, HasLostString, IsBlock, IsFormRefused, IsIndirect, IsPlain, IsPlainOf, IsPlainRefused, IsPresent, IsStringOffset, IsValue, capped, form_of}
use Rattle.om_die.specs.Laws.{OneValue, RefusedForGood, RefusedIsAbsent}
use Rattle.om_die.specs.Readers.{block, block_of, by, failing, fixed, indirect, plain_in, plain_of, signed, text, text_at, unsigned, value_in}
use Rattle.om_die.specs.AttributeValue.{Value}
use Rattle.om_die.specs.AttributeValue as v
use Rattle.om_die.specs.declared.attributes.Gap.{Gap}
use Rattle.om_die.specs.declared.attributes.Gap.TheVariants as gap
use Rattle.om_die.specs.declared.attribute_form.Form.{Form}
use Rattle.om_die.specs.declared.attribute_form.Form.TheVariants as f
use Rattle.om_die.proofs.ReaderLemmas.{absent, reading_once, same_reads, second_ok, second_why}

-- ---- what values are made of

failing_ok : {A : Type 0} (why : Gap) (r : Result (A × List ℕ) Num) (y : A × List ℕ) → result_map_both (λ x. x) (λ _. why) r ≡ Ok y → r ≡ Ok y
failing_ok why (Ok x) y e = ap Ok (ok_is x y e)
failing_ok why (Err fault) y e = absurd cc

failing_why : {A : Type 0} (why other : Gap) (r : Result (A × List ℕ) Num) → ◌≡◌ {A = Result (A × List ℕ) Gap} (result_map_both (λ x. x) (λ _. why) r) (Err other) → why ≡ other
failing_why why other (Ok x) e = absurd cc
failing_why why other (Err fault) e = cc

failing_reads : {A : Type 0} {read : Reader A Num} {R : List ℕ → A → Type 0} (why : Gap) → IsReading read R → IsReading (failing why read) R
failing_reads {read = read} why law = record {
  takes = λ bytes x rest e. law.takes bytes x rest (failing_ok why (read bytes) (x, rest) e);
  again = λ front x rest is. ap (result_map_both (λ y. y) (λ _. why)) (law.again front x rest is);
}

pub fixed_reads : (width : ℕ) → IsReading (fixed width) (IsNumber width)
unfolding fixed
fixed_reads width = failing_reads gap.Short (number_reads width)

pub unsigned_reads : IsReading unsigned IsUleb
unfolding unsigned
unsigned_reads = failing_reads gap.Short uleb_reads

signed_reads : IsReading signed IsSleb
unfolding signed
signed_reads = failing_reads gap.Short sleb_reads

text_is_read : IsReading text IsText
unfolding text
text_is_read = failing_reads gap.Form text_reads

-- no number is refused by its form
short_form : gap.Short ≡ gap.Form → ⊥
short_form e = cc

fixed_short : (width : ℕ) (bytes : List ℕ) → fixed width bytes ≡ Err gap.Form → ⊥
unfolding fixed
fixed_short width bytes e = short_form (failing_why gap.Short gap.Form _ e)

unsigned_short : (bytes : List ℕ) → unsigned bytes ≡ Err gap.Form → ⊥
unfolding unsigned
unsigned_short bytes e = short_form (failing_why gap.Short gap.Form _ e)

signed_short : (bytes : List ℕ) → signed bytes ≡ Err gap.Form → ⊥
unfolding signed
signed_short bytes e = short_form (failing_why gap.Short gap.Form _ e)

-- ---- values of what is read

by_ok : {A B : Type 0} (value : A → B) (r : Result (A × List ℕ) Gap) (y : B) (rest : List ℕ)
    → result_map_both {U = B × List ℕ} (λ (x : A × List ℕ). (value x.0, x.1)) (λ e. e) r ≡ Ok (y, rest) → (x : A) × (r ≡ Ok (x, rest)) × (y ≡ value x)
by_ok value (Ok x) y rest e =
    let pairs : (value x.0, x.1) ≡ (y, rest) = ok_is (value x.0, x.1) (y, rest) e in
    (x.0, ap (λ back. Ok (x.0, back)) (ap (λ p. p.1) pairs), sym (ap (λ p. p.0) pairs))
by_ok value (Err why) y rest e = absurd cc

by_why : {A B : Type 0} (value : A → B) (r : Result (A × List ℕ) Gap) (why : Gap)
    → result_map_both {U = B × List ℕ} (λ (x : A × List ℕ). (value x.0, x.1)) (λ e. e) r ≡ Err why → r ≡ Err why
by_why value (Ok x) why e = absurd cc
by_why value (Err other) why e = cc

-- some bytes spell what the value is of
abbrev pub Spells : {A B : Type 0} → (A → B) → (List ℕ → A → Type 0) → List ℕ → B → Type 0
Spells {A} value R bytes y = (x : A) × R bytes x × (y ≡ value x)

pub by_reads : {A B : Type 0} {read : Reader A Gap} {R : List ℕ → A → Type 0} (value : A → B) → IsReading read R → IsReading (by value read) (Spells value R)
by_reads {read = read} value law = record {
  takes = λ bytes y rest e.
      let x = by_ok value (read bytes) y rest e in
      let p = law.takes bytes x.0 rest x.1 in
      (p.0, p.1, (x.0, p.2, x.2));
  again = λ front y rest is.
      ap (result_map_both (λ x. (value x.0, x.1)) (λ e. e)) (law.again front is.0 rest is.1) ∙ ap (λ z. Ok (z, rest)) (sym is.2);
}

-- ---- blocks

block_by : (passes : Bool) (front rest back : List ℕ) (y : Value) → cond {A = Result (Value × List ℕ) Gap} passes (Ok (v.Block front, back)) (Err gap.Short) ≡ Ok (y, rest)
    → (passes ≡ true) × (y ≡ v.Block front) × (back ≡ rest)
block_by true front rest back y e =
    let pairs : (v.Block front, back) ≡ (y, rest) = ok_is (v.Block front, back) (y, rest) e in
    (refl, sym (ap (λ p. p.0) pairs), ap (λ p. p.1) pairs)
block_by false front rest back y e = absurd cc

pub record IsBlockOf (size : ℕ) (bytes : List ℕ) (result : Value) : Type 0 where
  pub long : length bytes ≡ size
  pub value : result ≡ v.Block bytes

block_of_reads : (size : ℕ) → IsReading (block_of size) (IsBlockOf size)
unfolding block_of
block_of_reads size = record {
  takes = λ bytes y rest e.
      let is = block_by (leb size (length bytes)) (take size bytes) rest (drop size bytes) y e in
      let within : size ≤ length bytes = leb-true size (length bytes) is.0 in
      let long : length (take size bytes) ≡ size = omega (arith, length-take size bytes) in
      let whole : bytes ≡ take size bytes ++ rest = sym (take-append-drop size bytes) ∙ ap (λ back. take size bytes ++ back) is.2 in
      (take size bytes, whole, record { long = long; value = is.1 });
  again = λ front y rest is.
      let within : size ≤ length (front ++ rest) = omega (arith, length-append front rest, is.long) in
      rw (le-leb size (length (front ++ rest)) within, take_at front rest size is.long, drop_at front rest size is.long, is.value) refl;
}

block_turn : (IsLength : List ℕ → ℕ → Type 0) (bytes : List ℕ) (y : Value) → InTurn IsLength IsBlockOf bytes y → IsBlock IsLength bytes y
block_turn IsLength bytes y it = record {
  front = it.front;
  block = it.back;
  parts = it.parts;
  size = subst (IsLength it.front) (sym it.is_second.long) it.is_first;
  value = it.is_second.value;
}

turn_block : (IsLength : List ℕ → ℕ → Type 0) (bytes : List ℕ) (y : Value) → IsBlock IsLength bytes y → InTurn IsLength IsBlockOf bytes y
turn_block IsLength bytes y is = record {
  first = length is.block;
  front = is.front;
  back = is.block;
  parts = is.parts;
  is_first = is.size;
  is_second = record { long = refl; value = is.value };
}

block_reads : {size : Reader ℕ Gap} {IsLength : List ℕ → ℕ → Type 0} → IsReading size IsLength → IsReading (block size) (IsBlock IsLength)
block_reads {IsLength = IsLength} law = same_reads (block_turn IsLength) (turn_block IsLength) (in_turn law block_of_reads)

block_by_why : (passes : Bool) (y : Value × List ℕ) (why : Gap) → cond {A = Result (Value × List ℕ) Gap} passes (Ok y) (Err gap.Short) ≡ Err why → gap.Short ≡ why
block_by_why true y why e = absurd cc
block_by_why false y why e = cc

block_short : (size : Reader ℕ Gap) → ((bytes : List ℕ) → size bytes ≡ Err gap.Form → ⊥) → (bytes : List ℕ) → block size bytes ≡ Err gap.Form → ⊥
unfolding block_of
block_short size never bytes e =
    elim (second_why block_of (size bytes) gap.Form e) [
      | inl first ↦ never bytes first
      | inr second ↦ short_form (block_by_why (leb second.0.0 (length second.0.1)) (v.Block (take second.0.0 second.0.1), drop second.0.0 second.0.1) gap.Form second.2)
    ]

-- ---- strings

text_none : (passes : Bool) (at : ℕ) (bytes : List ℕ) (why : Gap)
    → result_map_both {T = List ℕ × List ℕ} {U = List ℕ × List ℕ} {E = Num} {D = Gap} (λ x. x) (λ _. gap.Form)
    (result_map_both {T = List ℕ × ℕ} {U = List ℕ × List ℕ} {E = Num} {D = Num} (λ (x : List ℕ × ℕ). (x.0, drop x.1 bytes)) (λ e. e)
    (ok_or (option_map (λ (k : ℕ). (take k bytes, k + 1)) (option_map (λ (k : ℕ). 0 + k) (cond passes (Some at) None))) NoNul)) ≡ Err why
    → passes ≡ false
text_none true at bytes why e = absurd cc
text_none false at bytes why e = refl

-- where no string is, no zero is
no_zero : (bytes : List ℕ) (why : Gap) → text bytes ≡ Err why → All (λ b. b ≢ 0) bytes
unfolding text nul_from
no_zero bytes why e k d inside =
    let at = position_or_len (λ b. nat_eq b 0) bytes in
    let past : ltb at (length bytes) ≡ false = text_none (ltb at (length bytes)) at bytes why e in
    let before : k < at = grind (arith, nat_tests) in
    eqb-false (get_or bytes k d) 0 (fails_before_first (λ b. nat_eq b 0) bytes k d before)

has_zero : (bytes front name rest : List ℕ) → IsText front name → bytes ≡ front ++ rest → All (λ b. b ≢ 0) bytes → ⊥
has_zero bytes front name rest is parts endless =
    let whole : bytes ≡ name ++ 0 ∷ rest = parts ∙ ap (λ xs. xs ++ rest) is.ends ∙ append_assoc name (0 ∷ []) rest in
    let inside : length name < length bytes = omega (arith, ap length whole, length-append name (0 ∷ rest)) in
    endless (length name) 0 inside (ap (λ xs. get_or xs (length name) 0) whole ∙ get_or_at name 0 rest 0 (length name) refl)

text_why : (bytes : List ℕ) (why : Gap) → text bytes ≡ Err why → gap.Form ≡ why
unfolding text
text_why bytes why e = failing_why gap.Form why _ e

text_by : (bytes : List ℕ) (r : Result (List ℕ × List ℕ) Gap) → text bytes ≡ r → All (λ b. b ≢ 0) bytes → r ≡ Err gap.Form
text_by bytes (Ok x) e endless = let is = text_is_read.takes bytes x.0 x.1 e in absurd (has_zero bytes is.0 x.0 x.1 is.2 is.1 endless)
text_by bytes (Err why) e endless = ap Err (sym (text_why bytes why e))

-- and where no zero is, no string is
endless_text : (bytes : List ℕ) → All (λ b. b ≢ 0) bytes → text bytes ≡ Err gap.Form
endless_text bytes endless = text_by bytes (text bytes) refl endless

-- ---- strings by their offsets

at_ok : (rest : List ℕ) (r : Result (List ℕ × List ℕ) Gap) (y : Value) (back : List ℕ)
    → result_map_both {U = Value × List ℕ} (λ (x : List ℕ × List ℕ). (v.Text x.0, rest)) (λ e. e) r ≡ Ok (y, back)
    → (x : List ℕ × List ℕ) × (r ≡ Ok x) × (y ≡ v.Text x.0) × (rest ≡ back)
at_ok rest (Ok x) y back e =
    let pairs : (v.Text x.0, rest) ≡ (y, back) = ok_is (v.Text x.0, rest) (y, back) e in
    (x, refl, sym (ap (λ p. p.0) pairs), ap (λ p. p.1) pairs)
at_ok rest (Err why) y back e = absurd cc

at_why : (rest : List ℕ) (r : Result (List ℕ × List ℕ) Gap) (why : Gap)
    → result_map_both {U = Value × List ℕ} (λ (x : List ℕ × List ℕ). (v.Text x.0, rest)) (λ e. e) r ≡ Err why → r ≡ Err why
at_why rest (Ok x) why e = absurd cc
at_why rest (Err other) why e = cc

string_reads : (strings : List ℕ) → IsReading (first_then (fixed 4) (text_at strings)) (IsStringOffset strings)
unfolding text_at
string_reads strings = record {
  takes = λ bytes y rest e.
      let placed = second_ok (text_at strings) (fixed 4 bytes) (y, rest) e in
      let is = at_ok placed.0.1 (text (drop placed.0.0 strings)) y rest placed.2 in
      let first = (fixed_reads 4).takes bytes placed.0.0 placed.0.1 placed.1 in
      let there = text_is_read.takes (drop placed.0.0 strings) is.0.0 is.0.1 is.1 in (
        first.0,
        first.1 ∙ ap (λ back. first.0 ++ back) is.3,
        record {
          offset = placed.0.0;
          spelled = first.2;
          name = is.0.0;
          front = there.0;
          back = is.0.1;
          text = there.2;
          parts = there.1;
          value = is.2;
        },
      );
  again = λ front y rest is.
      let there : text (drop is.offset strings) ≡ Ok (is.name, is.back) = ap text is.parts ∙ text_is_read.again is.front is.name is.back is.text in
      ap (second_after (text_at strings)) ((fixed_reads 4).again front is.offset rest is.spelled)
      ∙ ap (result_map_both (λ x. (v.Text x.0, rest)) (λ e. e)) there
      ∙ ap (λ z. Ok (z, rest)) (sym is.value);
}

-- ---- forms

present_ok : (x y : Value) (bytes rest : List ℕ) → ◌≡◌ {A = Result (Value × List ℕ) Gap} (Ok (x, bytes)) (Ok (y, rest)) → (y ≡ x) × (bytes ≡ rest)
present_ok x y bytes rest e =
    let pairs : (x, bytes) ≡ (y, rest) = ok_is (x, bytes) (y, rest) e in
    (sym (ap (λ p. p.0) pairs), ap (λ p. p.1) pairs)

present_reads : IsReading {E = Gap} (λ bytes. Ok (v.Flag true, bytes)) IsPresent
present_reads = record {
  takes = λ bytes y rest e. let is = present_ok (v.Flag true) y bytes rest e in ([], is.1, (refl, is.0));
  again = λ front y rest is. ap (λ xs. Ok (v.Flag true, xs)) (ap (λ xs. xs ++ rest) is.0) ∙ ap (λ z. Ok (z, rest)) (sym is.1);
}

never_reads : IsReading {A = Value} {E = Gap} (λ bytes. Err gap.Form) (λ bytes y. ⊥)
never_reads = record {
  takes = λ bytes y rest e. absurd cc;
  again = λ front y rest is. absurd is;
}

plain_reads : (around : Around) (form : Form) → IsReading (plain_in around form) (IsPlain around form)
unfolding plain_in IsPlain
plain_reads around f.Addr = by_reads v.Addr (fixed_reads 4)
plain_reads around f.Block1 = block_reads (fixed_reads 1)
plain_reads around f.Block2 = block_reads (fixed_reads 2)
plain_reads around f.Block4 = block_reads (fixed_reads 4)
plain_reads around f.Block = block_reads unsigned_reads
plain_reads around f.Exprloc = block_reads unsigned_reads
plain_reads around f.Data1 = by_reads v.Number (fixed_reads 1)
plain_reads around f.Data2 = by_reads v.Number (fixed_reads 2)
plain_reads around f.Data4 = by_reads v.Number (fixed_reads 4)
plain_reads around f.Data8 = by_reads v.Number (fixed_reads 8)
plain_reads around f.Udata = by_reads v.Number unsigned_reads
plain_reads around f.Sdata = by_reads v.Signed signed_reads
plain_reads around f.String = by_reads v.Text text_is_read
plain_reads around f.Strp = string_reads around.strings
plain_reads around f.Flag = by_reads (λ n. v.Flag (not (nat_eq n 0))) (fixed_reads 1)
plain_reads around f.FlagPresent = present_reads
plain_reads around f.SecOffset = by_reads v.Offset (fixed_reads 4)
plain_reads around f.RefAddr = by_reads v.Target (fixed_reads 4)
plain_reads around f.Ref1 = by_reads (λ n. v.Target (capped (around.unit + n))) (fixed_reads 1)
plain_reads around f.Ref2 = by_reads (λ n. v.Target (capped (around.unit + n))) (fixed_reads 2)
plain_reads around f.Ref4 = by_reads (λ n. v.Target (capped (around.unit + n))) (fixed_reads 4)
plain_reads around f.Ref8 = by_reads (λ n. v.Target (capped (around.unit + n))) (fixed_reads 8)
plain_reads around f.RefUdata = by_reads (λ n. v.Target (capped (around.unit + n))) unsigned_reads
plain_reads around f.RefSig8 = by_reads (λ _. v.Elsewhere) (fixed_reads 8)
plain_reads around f.Indirect = never_reads

plain_of_reads : (around : Around) (form : Option Form) → IsReading (plain_of around form) (IsPlainOf around form)
unfolding plain_of
plain_of_reads around None = never_reads
plain_of_reads around (Some form) = plain_reads around form

indirect_turn : (around : Around) (bytes : List ℕ) (y : Value) → InTurn IsUleb (λ code. IsPlainOf around (form_of code)) bytes y → IsIndirect around bytes y
indirect_turn around bytes y it = record {
  code = it.first;
  front = it.front;
  back = it.back;
  parts = it.parts;
  spelled = it.is_first;
  value = it.is_second;
}

turn_indirect : (around : Around) (bytes : List ℕ) (y : Value) → IsIndirect around bytes y → InTurn IsUleb (λ code. IsPlainOf around (form_of code)) bytes y
turn_indirect around bytes y is = record {
  first = is.code;
  front = is.front;
  back = is.back;
  parts = is.parts;
  is_first = is.spelled;
  is_second = is.value;
}

indirect_reads : (around : Around) → IsReading (indirect around) (IsIndirect around)
indirect_reads around =
    same_reads (indirect_turn around) (turn_indirect around) (in_turn unsigned_reads (λ code. plain_of_reads around (form_of code)))

-- a value is read exactly where it stands
pub value_reads : (around : Around) (form : Option Form) → IsReading (value_in around form) (IsValue around form)
unfolding value_in IsValue
value_reads around (Some f.Indirect) = indirect_reads around
value_reads around form = plain_of_reads around form

-- ---- refusals

by_never : {A : Type 0} (value : A → Value) (read : Reader A Gap) → ((bytes : List ℕ) → read bytes ≡ Err gap.Form → ⊥) → (bytes : List ℕ) → by value read bytes ≡ Err gap.Form → ⊥
by_never value read never bytes e = never bytes (by_why value (read bytes) gap.Form e)

lost_string : (strings bytes : List ℕ) → first_then (fixed 4) (text_at strings) bytes ≡ Err gap.Form → HasLostString strings bytes
unfolding text_at
lost_string strings bytes e =
    elim (second_why (text_at strings) (fixed 4 bytes) gap.Form e) [
      | inl first ↦ absurd (fixed_short 4 bytes first)
      | inr second ↦ (
          let is = (fixed_reads 4).takes bytes second.0.0 second.0.1 second.1 in
          record {
            offset = second.0.0;
            front = is.0;
            back = second.0.1;
            parts = is.1;
            spelled = is.2;
            endless = no_zero (drop second.0.0 strings) gap.Form (at_why second.0.1 (text (drop second.0.0 strings)) gap.Form second.2);
          })
    ]

string_lost : (strings bytes : List ℕ) → HasLostString strings bytes → first_then (fixed 4) (text_at strings) bytes ≡ Err gap.Form
unfolding text_at
string_lost strings bytes lost =
    ap (second_after (text_at strings)) (ap (fixed 4) lost.parts ∙ (fixed_reads 4).again lost.front lost.offset lost.back lost.spelled)
    ∙ ap (result_map_both (λ x. (v.Text x.0, lost.back)) (λ e. e)) (endless_text (drop lost.offset strings) lost.endless)

-- what is refused by its form is told so
plain_refused : (around : Around) (form : Option Form) (bytes : List ℕ) → plain_of around form bytes ≡ Err gap.Form → IsPlainRefused around form bytes
unfolding plain_of plain_in IsPlainRefused
plain_refused around None bytes e = tt
plain_refused around (Some f.Addr) bytes e = by_never v.Addr (fixed 4) (fixed_short 4) bytes e
plain_refused around (Some f.Block1) bytes e = block_short (fixed 1) (fixed_short 1) bytes e
plain_refused around (Some f.Block2) bytes e = block_short (fixed 2) (fixed_short 2) bytes e
plain_refused around (Some f.Block4) bytes e = block_short (fixed 4) (fixed_short 4) bytes e
plain_refused around (Some f.Block) bytes e = block_short unsigned unsigned_short bytes e
plain_refused around (Some f.Exprloc) bytes e = block_short unsigned unsigned_short bytes e
plain_refused around (Some f.Data1) bytes e = by_never v.Number (fixed 1) (fixed_short 1) bytes e
plain_refused around (Some f.Data2) bytes e = by_never v.Number (fixed 2) (fixed_short 2) bytes e
plain_refused around (Some f.Data4) bytes e = by_never v.Number (fixed 4) (fixed_short 4) bytes e
plain_refused around (Some f.Data8) bytes e = by_never v.Number (fixed 8) (fixed_short 8) bytes e
plain_refused around (Some f.Udata) bytes e = by_never v.Number unsigned unsigned_short bytes e
plain_refused around (Some f.Sdata) bytes e = by_never v.Signed signed signed_short bytes e
plain_refused around (Some f.String) bytes e = no_zero bytes gap.Form (by_why v.Text (text bytes) gap.Form e)
plain_refused around (Some f.Strp) bytes e = lost_string around.strings bytes e
plain_refused around (Some f.Flag) bytes e = by_never (λ n. v.Flag (not (nat_eq n 0))) (fixed 1) (fixed_short 1) bytes e
plain_refused around (Some f.FlagPresent) bytes e = absurd cc
plain_refused around (Some f.SecOffset) bytes e = by_never v.Offset (fixed 4) (fixed_short 4) bytes e
plain_refused around (Some f.RefAddr) bytes e = by_never v.Target (fixed 4) (fixed_short 4) bytes e
plain_refused around (Some f.Ref1) bytes e = by_never (λ n. v.Target (capped (around.unit + n))) (fixed 1) (fixed_short 1) bytes e
plain_refused around (Some f.Ref2) bytes e = by_never (λ n. v.Target (capped (around.unit + n))) (fixed 2) (fixed_short 2) bytes e
plain_refused around (Some f.Ref4) bytes e = by_never (λ n. v.Target (capped (around.unit + n))) (fixed 4) (fixed_short 4) bytes e
plain_refused around (Some f.Ref8) bytes e = by_never (λ n. v.Target (capped (around.unit + n))) (fixed 8) (fixed_short 8) bytes e
plain_refused around (Some f.RefUdata) bytes e = by_never (λ n. v.Target (capped (around.unit + n))) unsigned unsigned_short bytes e
plain_refused around (Some f.RefSig8) bytes e = by_never (λ _. v.Elsewhere) (fixed 8) (fixed_short 8) bytes e
plain_refused around (Some f.Indirect) bytes e = tt

-- and what is told so is refused
refused_plain : (around : Around) (form : Option Form) (bytes : List ℕ) → IsPlainRefused around form bytes → plain_of around form bytes ≡ Err gap.Form
unfolding plain_of plain_in IsPlainRefused
refused_plain around None bytes is = refl
refused_plain around (Some f.Indirect) bytes is = refl
refused_plain around (Some f.String) bytes is = ap (result_map_both (λ x. (v.Text x.0, x.1)) (λ e. e)) (endless_text bytes is)
refused_plain around (Some f.Strp) bytes is = string_lost around.strings bytes is
refused_plain around (Some form) bytes is = absurd is

lost_form : (around : Around) (bytes : List ℕ) → indirect around bytes ≡ Err gap.Form → HasLostForm around bytes
lost_form around bytes e =
    elim (second_why (λ code. plain_of around (form_of code)) (unsigned bytes) gap.Form e) [
      | inl first ↦ absurd (unsigned_short bytes first)
      | inr second ↦ (
          let is = unsigned_reads.takes bytes second.0.0 second.0.1 second.1 in
          record {
            code = second.0.0;
            front = is.0;
            back = second.0.1;
            parts = is.1;
            spelled = is.2;
            refused = plain_refused around (form_of second.0.0) second.0.1 second.2;
          })
    ]

form_lost : (around : Around) (bytes : List ℕ) → HasLostForm around bytes → indirect around bytes ≡ Err gap.Form
form_lost around bytes lost =
    ap (second_after (λ code. plain_of around (form_of code))) (ap unsigned lost.parts ∙ unsigned_reads.again lost.front lost.code lost.back lost.spelled)
    ∙ refused_plain around (form_of lost.code) lost.back lost.refused

pub told_refused : (around : Around) (form : Option Form) (bytes : List ℕ) → value_in around form bytes ≡ Err gap.Form → IsFormRefused around form bytes
unfolding value_in IsFormRefused
told_refused around (Some f.Indirect) bytes e = lost_form around bytes e
told_refused around form bytes e = plain_refused around form bytes e

pub refused_told : (around : Around) (form : Option Form) (bytes : List ℕ) → IsFormRefused around form bytes → value_in around form bytes ≡ Err gap.Form
unfolding value_in IsFormRefused
refused_told around (Some f.Indirect) bytes is = form_lost around bytes is
refused_told around form bytes is = refused_plain around form bytes is

-- ---- laws

pub one_value : OneValue
one_value around form = reading_once (value_reads around form)

pub refused_is_absent : RefusedIsAbsent
refused_is_absent around form bytes refused = absent (value_reads around form) bytes gap.Form (refused_told around form bytes refused)

-- ---- further bytes

ends_behind : (bytes more front back name : List ℕ) → All (λ b. b ≢ 0) bytes → bytes ++ more ≡ front ++ back → IsText front name → length bytes < length front
ends_behind bytes more front back name endless same is =
    elim (cases_lt (length bytes) (length front)) [
      | inl short ↦ short
      | inr within ↦ (
          let inside : length front ≤ length bytes = within in
          let cut : take (length front) bytes ≡ front =
          sym (take-append-le (length front) bytes more inside) ∙ ap (take (length front)) same ∙ take_at front back (length front) refl in
          let parts : bytes ≡ front ++ drop (length front) bytes =
          sym (take-append-drop (length front) bytes) ∙ ap (λ xs. xs ++ drop (length front) bytes) cut in
          absurd (has_zero bytes front name (drop (length front) bytes) is parts endless))
    ]

no_string : (strings bytes more front back : List ℕ) (y : Value) → HasLostString strings bytes → bytes ++ more ≡ front ++ back → IsStringOffset strings front y → ⊥
no_string strings bytes more front back y lost same is =
    let apart : lost.front ++ (lost.back ++ more) ≡ front ++ back = sym (append_assoc lost.front lost.back more) ∙ ap (λ xs. xs ++ more) (sym lost.parts) ∙ same in
    let offset : lost.offset ≡ is.offset = (ReadingLaws.one_value (fixed_reads 4) lost.front (lost.back ++ more) front back lost.offset is.offset lost.spelled is.spelled apart).0 in
    let there : text (drop lost.offset strings) ≡ Ok (is.name, is.back) =
    ap (λ n. text (drop n strings)) offset ∙ ap text is.parts ∙ text_is_read.again is.front is.name is.back is.text in
    let none = endless_text (drop lost.offset strings) lost.endless in
    absurd cc

plain_for_good : (around : Around) (form : Option Form) (bytes more front back : List ℕ) (y : Value)
    → IsPlainRefused around form bytes → bytes ++ more ≡ front ++ back → IsPlainOf around form front y
    → (length bytes < length front) × ((name : List ℕ) × (y ≡ v.Text name))
unfolding IsPlainRefused IsPlain
plain_for_good around None bytes more front back y refused same is = absurd is
plain_for_good around (Some f.Indirect) bytes more front back y refused same is = absurd is
plain_for_good around (Some f.String) bytes more front back y refused same is = (ends_behind bytes more front back is.0 refused same is.1, (is.0, is.2))
plain_for_good around (Some f.Strp) bytes more front back y refused same is = absurd (no_string around.strings bytes more front back y refused same is)
plain_for_good around (Some form) bytes more front back y refused same is = absurd refused

indirect_for_good : (around : Around) (bytes more front back : List ℕ) (y : Value)
    → HasLostForm around bytes → bytes ++ more ≡ front ++ back → IsIndirect around front y → (length bytes < length front) × ((name : List ℕ) × (y ≡ v.Text name))
indirect_for_good around bytes more front back y lost same is =
    let apart : lost.front ++ (lost.back ++ more) ≡ is.front ++ (is.back ++ back) =
    sym (append_assoc lost.front lost.back more) ∙ ap (λ xs. xs ++ more) (sym lost.parts) ∙ same ∙ ap (λ xs. xs ++ back) is.parts ∙ append_assoc is.front is.back back in
    let codes = ReadingLaws.one_value unsigned_reads lost.front (lost.back ++ more) is.front (is.back ++ back) lost.code is.code lost.spelled is.spelled apart in
    let fronts = ReadingLaws.one_text unsigned_reads lost.front (lost.back ++ more) is.front (is.back ++ back) lost.code is.code lost.spelled is.spelled apart in
    let refused = subst (λ code. IsPlainRefused around (form_of code) lost.back) codes.0 lost.refused in
    let back_is = plain_for_good around (form_of is.code) lost.back more is.back back y refused codes.1 is.value in
    let longer : length bytes < length front =
    omega (arith, ap length lost.parts, ap length is.parts, length-append lost.front lost.back, length-append is.front is.back, ap length fronts, back_is.0) in
    (longer, back_is.1)

pub refused_for_good : RefusedForGood
unfolding IsFormRefused IsValue
refused_for_good around (Some f.Indirect) bytes more front back y refused same is = indirect_for_good around bytes more front back y refused same is
refused_for_good around form bytes more front back y refused same is = plain_for_good around form bytes more front back y refused same is
