-- Each form has one code, and some bytes spell a value in it.
use Rattle.std.proofs.Common.{◌≡◌, ℕ, ◌+◌, ◌<◌, Bool, true, false, cond, ◌&&◌, not, nat_eq, List, [], ◌∷◌, ◌++◌, drop, Option, Some, Ok, refl, sym, ap, ◌∙◌, arith}
use Rattle.std.specs.Prelude.{Result, ℤ, pos}
use Rattle.std.specs.Result.{result_map_both}
use Rattle.std.proofs.lemmas.Bool.{eqb-true}
use Rattle.om_base.specs.Leb.{IsSleb, IsUleb, sleb_of, uleb_of}
use Rattle.om_base.specs.Numbers.{le}
use Rattle.om_base.specs.Reading.{IsNumber, IsText}
use Rattle.om_base.specs.declared.numbers.Num.{Num}
use Rattle.om_base.proofs.LebLaws.{sleb_reads, uleb_reads}
use Rattle.om_base.proofs.LebLemmas.{sleb_byte, uleb_byte}
use Rattle.om_die.specs.Forms.{IsBlock, IsPlain, IsValue, By, capped, form_codes, form_in, form_of}
use Rattle.om_die.specs.Laws.{EachFormHasCode, EachFormSpells, OneCode}
use Rattle.om_die.specs.AttributeValue.{Value}
use Rattle.om_die.specs.AttributeValue as v
use Rattle.om_die.specs.Constants.{DW_FORM_addr, DW_FORM_block2, DW_FORM_block4, DW_FORM_data2, DW_FORM_data4, DW_FORM_data8, DW_FORM_string, DW_FORM_block, DW_FORM_block1, DW_FORM_data1, DW_FORM_flag, DW_FORM_sdata, DW_FORM_strp, DW_FORM_udata, DW_FORM_ref_addr, DW_FORM_ref1, DW_FORM_ref2, DW_FORM_ref4, DW_FORM_ref8, DW_FORM_ref_udata, DW_FORM_indirect, DW_FORM_sec_offset, DW_FORM_exprloc, DW_FORM_flag_present, DW_FORM_ref_sig8}
use Rattle.om_die.specs.declared.attribute_form.Form.{Form}
use Rattle.om_die.specs.declared.attribute_form.Form.TheVariants as f

-- ---- codes

abbrev code_of : Form → ℕ
code_of f.Addr = DW_FORM_addr
code_of f.Block2 = DW_FORM_block2
code_of f.Block4 = DW_FORM_block4
code_of f.Data2 = DW_FORM_data2
code_of f.Data4 = DW_FORM_data4
code_of f.Data8 = DW_FORM_data8
code_of f.String = DW_FORM_string
code_of f.Block = DW_FORM_block
code_of f.Block1 = DW_FORM_block1
code_of f.Data1 = DW_FORM_data1
code_of f.Flag = DW_FORM_flag
code_of f.Sdata = DW_FORM_sdata
code_of f.Strp = DW_FORM_strp
code_of f.Udata = DW_FORM_udata
code_of f.RefAddr = DW_FORM_ref_addr
code_of f.Ref1 = DW_FORM_ref1
code_of f.Ref2 = DW_FORM_ref2
code_of f.Ref4 = DW_FORM_ref4
code_of f.Ref8 = DW_FORM_ref8
code_of f.RefUdata = DW_FORM_ref_udata
code_of f.Indirect = DW_FORM_indirect
code_of f.SecOffset = DW_FORM_sec_offset
code_of f.Exprloc = DW_FORM_exprloc
code_of f.FlagPresent = DW_FORM_flag_present
code_of f.RefSig8 = DW_FORM_ref_sig8

pub each_form_has_code : EachFormHasCode
unfolding form_of
each_form_has_code f.Addr = (DW_FORM_addr, refl)
each_form_has_code f.Block2 = (DW_FORM_block2, refl)
each_form_has_code f.Block4 = (DW_FORM_block4, refl)
each_form_has_code f.Data2 = (DW_FORM_data2, refl)
each_form_has_code f.Data4 = (DW_FORM_data4, refl)
each_form_has_code f.Data8 = (DW_FORM_data8, refl)
each_form_has_code f.String = (DW_FORM_string, refl)
each_form_has_code f.Block = (DW_FORM_block, refl)
each_form_has_code f.Block1 = (DW_FORM_block1, refl)
each_form_has_code f.Data1 = (DW_FORM_data1, refl)
each_form_has_code f.Flag = (DW_FORM_flag, refl)
each_form_has_code f.Sdata = (DW_FORM_sdata, refl)
each_form_has_code f.Strp = (DW_FORM_strp, refl)
each_form_has_code f.Udata = (DW_FORM_udata, refl)
each_form_has_code f.RefAddr = (DW_FORM_ref_addr, refl)
each_form_has_code f.Ref1 = (DW_FORM_ref1, refl)
each_form_has_code f.Ref2 = (DW_FORM_ref2, refl)
each_form_has_code f.Ref4 = (DW_FORM_ref4, refl)
each_form_has_code f.Ref8 = (DW_FORM_ref8, refl)
each_form_has_code f.RefUdata = (DW_FORM_ref_udata, refl)
each_form_has_code f.Indirect = (DW_FORM_indirect, refl)
each_form_has_code f.SecOffset = (DW_FORM_sec_offset, refl)
each_form_has_code f.Exprloc = (DW_FORM_exprloc, refl)
each_form_has_code f.FlagPresent = (DW_FORM_flag_present, refl)
each_form_has_code f.RefSig8 = (DW_FORM_ref_sig8, refl)

-- each row has the code of its form
abbrev are_codes : List (ℕ × Form) → Bool
are_codes [] = true
are_codes (row ∷ rows) = nat_eq row.0 (code_of row.1) && are_codes rows

both : (a b : Bool) → (a && b) ≡ true → (a ≡ true) × (b ≡ true)
both true true e = (refl, refl)
both true false e = absurd cc
both false b e = absurd cc

by_row : (here : Bool) (row : ℕ × Form) (rest : Option Form) (code : ℕ) (form : Form) → nat_eq row.0 code ≡ here → row.0 ≡ code_of row.1
    → (rest ≡ Some form → code ≡ code_of form) → cond here (Some row.1) rest ≡ Some form → code ≡ code_of form
by_row true row rest code form is first later e =
    let same : row.0 ≡ code = eqb-true row.0 code is in
    let one : row.1 ≡ form = cc in
    sym same ∙ first ∙ ap code_of one
by_row false row rest code form is first later e = later e

code_is : (rows : List (ℕ × Form)) (code : ℕ) (form : Form) → are_codes rows ≡ true → form_in rows code ≡ Some form → code ≡ code_of form
code_is [] code form are e = absurd cc
code_is (row ∷ rows) code form are e =
    let parts = both (nat_eq row.0 (code_of row.1)) (are_codes rows) are in
    by_row (nat_eq row.0 code) row (form_in rows code) code form refl (eqb-true row.0 (code_of row.1) parts.0) (code_is rows code form parts.1) e

pub one_code : OneCode
unfolding form_of
one_code form code other one two = code_is form_codes code form refl one ∙ sym (code_is form_codes other form refl two)

-- ---- values

-- some bytes spell a thing
abbrev HasSome : {X : Type 0} → (List ℕ → X → Type 0) → Type 0
HasSome {X} R = (bytes : List ℕ) × (x : X) × R bytes x

unsigned_code : (code : ℕ) → code < 128 → (front : List ℕ) × IsUleb front code
unsigned_code code low =
    let read : uleb_of (code ∷ []) ≡ Ok (code, 1) = uleb_byte (code ∷ []) (omega arith) low in
    let p = uleb_reads.takes (code ∷ []) code [] (ap (λ (r : Result (ℕ × ℕ) Num). result_map_both (λ (x : ℕ × ℕ). (x.0, drop x.1 (code ∷ []))) (λ e. e) r) read) in
    (p.0, p.2)

some_unsigned : HasSome IsUleb
some_unsigned = let zero = unsigned_code 0 (omega arith) in (zero.0, 0, zero.1)

some_signed : HasSome IsSleb
some_signed =
    let read : sleb_of (0 ∷ []) ≡ Ok (pos 0, 1) = sleb_byte (0 ∷ []) (omega arith) (omega arith) in
    let p = sleb_reads.takes (0 ∷ []) (pos 0) [] (ap (λ (r : Result (ℤ × ℕ) Num). result_map_both (λ (x : ℤ × ℕ). (x.0, drop x.1 (0 ∷ []))) (λ e. e) r) read) in
    (p.0, pos 0, p.2)

zero_1 : IsNumber 1 (0 ∷ []) 0
unfolding le
zero_1 = record { size = refl; value = refl }

zero_2 : IsNumber 2 (0 ∷ 0 ∷ []) 0
unfolding le
zero_2 = record { size = refl; value = refl }

zero_4 : IsNumber 4 (0 ∷ 0 ∷ 0 ∷ 0 ∷ []) 0
unfolding le
zero_4 = record { size = refl; value = refl }

zero_8 : IsNumber 8 (0 ∷ 0 ∷ 0 ∷ 0 ∷ 0 ∷ 0 ∷ 0 ∷ 0 ∷ []) 0
unfolding le
zero_8 = record { size = refl; value = refl }

some_1 : HasSome (IsNumber 1)
some_1 = (0 ∷ [], 0, zero_1)

some_2 : HasSome (IsNumber 2)
some_2 = (0 ∷ 0 ∷ [], 0, zero_2)

some_4 : HasSome (IsNumber 4)
some_4 = (0 ∷ 0 ∷ 0 ∷ 0 ∷ [], 0, zero_4)

some_8 : HasSome (IsNumber 8)
some_8 = (0 ∷ 0 ∷ 0 ∷ 0 ∷ 0 ∷ 0 ∷ 0 ∷ 0 ∷ [], 0, zero_8)

some_text : HasSome IsText
some_text = (0 ∷ [], [], record { no_zero = λ k d inside. absurd (omega (arith, inside)); ends = refl })

-- a value of a thing
some_by : {A : Type 0} (R : List ℕ → A → Type 0) (value : A → Value) → HasSome R → HasSome (By value R)
some_by R value some = (some.0, value some.1, (some.1, some.2, refl))

-- an empty block
some_block : (IsLength : List ℕ → ℕ → Type 0) (front : List ℕ) → IsLength front 0 → HasSome (IsBlock IsLength)
some_block IsLength front size = (front ++ [], v.Block [], record { front = front; block = []; parts = refl; size = size; value = refl })

pub each_form_spells : EachFormSpells
unfolding IsPlain IsValue form_of
each_form_spells around f.Addr text = some_by (IsNumber 4) v.Addr some_4
each_form_spells around f.Block1 text = some_block (IsNumber 1) (0 ∷ []) zero_1
each_form_spells around f.Block2 text = some_block (IsNumber 2) (0 ∷ 0 ∷ []) zero_2
each_form_spells around f.Block4 text = some_block (IsNumber 4) (0 ∷ 0 ∷ 0 ∷ 0 ∷ []) zero_4
each_form_spells around f.Block text = let zero = unsigned_code 0 (omega arith) in some_block IsUleb zero.0 zero.1
each_form_spells around f.Exprloc text = let zero = unsigned_code 0 (omega arith) in some_block IsUleb zero.0 zero.1
each_form_spells around f.Data1 text = some_by (IsNumber 1) v.Number some_1
each_form_spells around f.Data2 text = some_by (IsNumber 2) v.Number some_2
each_form_spells around f.Data4 text = some_by (IsNumber 4) v.Number some_4
each_form_spells around f.Data8 text = some_by (IsNumber 8) v.Number some_8
each_form_spells around f.Udata text = some_by IsUleb v.Number some_unsigned
each_form_spells around f.Sdata text = some_by IsSleb v.Signed some_signed
each_form_spells around f.String text = some_by IsText v.Text some_text
each_form_spells around f.Strp text =
    let there = text refl in (
      0 ∷ 0 ∷ 0 ∷ 0 ∷ [],
      v.Text there.2,
      record { offset = 0; spelled = zero_4; name = there.2; front = there.0; back = there.1; text = there.4; parts = there.3; value = refl },
    )
each_form_spells around f.Flag text = some_by (IsNumber 1) (λ n. v.Flag (not (nat_eq n 0))) some_1
each_form_spells around f.FlagPresent text = ([], v.Flag true, (refl, refl))
each_form_spells around f.SecOffset text = some_by (IsNumber 4) v.Offset some_4
each_form_spells around f.RefAddr text = some_by (IsNumber 4) v.Target some_4
each_form_spells around f.Ref1 text = some_by (IsNumber 1) (λ n. v.Target (capped (around.unit + n))) some_1
each_form_spells around f.Ref2 text = some_by (IsNumber 2) (λ n. v.Target (capped (around.unit + n))) some_2
each_form_spells around f.Ref4 text = some_by (IsNumber 4) (λ n. v.Target (capped (around.unit + n))) some_4
each_form_spells around f.Ref8 text = some_by (IsNumber 8) (λ n. v.Target (capped (around.unit + n))) some_8
each_form_spells around f.RefUdata text = some_by IsUleb (λ n. v.Target (capped (around.unit + n))) some_unsigned
each_form_spells around f.RefSig8 text = some_by (IsNumber 8) (λ n. v.Elsewhere) some_8
each_form_spells around f.Indirect text =
    let code = unsigned_code DW_FORM_flag_present (omega arith) in
    (code.0 ++ [], v.Flag true, record { code = DW_FORM_flag_present; front = code.0; back = []; parts = refl; spelled = code.1; value = (refl, refl) })
