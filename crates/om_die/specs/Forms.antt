-- The forms of attributes: which bytes spell which value. DWARF 4, section 7.5.4 "Attribute Encodings", figure 21.
use Rattle.std.specs.Prelude.{◌≡◌, ◌≢◌, ℕ, ◌+◌, ◌^◌, ◌-◌, true, not, nat_eq, if◌then◌else◌, min, List, [], ◌∷◌, ◌++◌, length, drop, All, Option, Some, None}
use Rattle.om_base.specs.Leb.{IsUleb, IsSleb}
use Rattle.om_base.specs.Reading.{IsNumber, IsText}
use Rattle.om_die.specs.AttributeValue.{Value}
use Rattle.om_die.specs.AttributeValue as v
use Rattle.om_die.specs.Constants.{DW_FORM_addr, DW_FORM_block2, DW_FORM_block4, DW_FORM_data2, DW_FORM_data4, DW_FORM_data8, DW_FORM_string, DW_FORM_block, DW_FORM_block1, DW_FORM_data1, DW_FORM_flag, DW_FORM_sdata, DW_FORM_strp, DW_FORM_udata, DW_FORM_ref_addr, DW_FORM_ref1, DW_FORM_ref2, DW_FORM_ref4, DW_FORM_ref8, DW_FORM_ref_udata, DW_FORM_indirect, DW_FORM_sec_offset, DW_FORM_exprloc, DW_FORM_flag_present, DW_FORM_ref_sig8}
use Rattle.om_die.specs.declared.attribute_form.Form.{Form}
use Rattle.om_die.specs.declared.attribute_form.Form.TheVariants as f

-- the forms by their codes
abbrev pub form_codes : List (ℕ × Form)
form_codes =
    (DW_FORM_addr, f.Addr)
    ∷ (DW_FORM_block2, f.Block2)
    ∷ (DW_FORM_block4, f.Block4)
    ∷ (DW_FORM_data2, f.Data2)
    ∷ (DW_FORM_data4, f.Data4)
    ∷ (DW_FORM_data8, f.Data8)
    ∷ (DW_FORM_string, f.String)
    ∷ (DW_FORM_block, f.Block)
    ∷ (DW_FORM_block1, f.Block1)
    ∷ (DW_FORM_data1, f.Data1)
    ∷ (DW_FORM_flag, f.Flag)
    ∷ (DW_FORM_sdata, f.Sdata)
    ∷ (DW_FORM_strp, f.Strp)
    ∷ (DW_FORM_udata, f.Udata)
    ∷ (DW_FORM_ref_addr, f.RefAddr)
    ∷ (DW_FORM_ref1, f.Ref1)
    ∷ (DW_FORM_ref2, f.Ref2)
    ∷ (DW_FORM_ref4, f.Ref4)
    ∷ (DW_FORM_ref8, f.Ref8)
    ∷ (DW_FORM_ref_udata, f.RefUdata)
    ∷ (DW_FORM_indirect, f.Indirect)
    ∷ (DW_FORM_sec_offset, f.SecOffset)
    ∷ (DW_FORM_exprloc, f.Exprloc)
    ∷ (DW_FORM_flag_present, f.FlagPresent)
    ∷ (DW_FORM_ref_sig8, f.RefSig8)
    ∷ []

-- the form of the first row with this code
abbrev pub form_in : List (ℕ × Form) → ℕ → Option Form
form_in [] code = None
form_in (row ∷ rows) code = if nat_eq row.0 code then Some row.1 else form_in rows code

-- the form that a code stands for
unfoldable pub form_of : ℕ → Option Form
form_of code = form_in form_codes code

-- ---- values

-- what a value depends on beside its own bytes
pub record Around : Type 0 where
  -- where the unit begins in .debug_info
  pub unit : ℕ
  -- the section .debug_str
  pub strings : List ℕ

-- an offset of 32 bits; every greater one stands for the greatest
abbrev pub capped : ℕ → ℕ
capped offset = min offset (2 ^ 32 - 1)

-- the value of a number that some bytes spell
abbrev pub By : {A : Type 0} → (A → Value) → (List ℕ → A → Type 0) → List ℕ → Value → Type 0
By {A} value IsSpelling bytes result = (x : A) × IsSpelling bytes x × (result ≡ value x)

-- a length, and then so many bytes
pub record IsBlock (IsLength : List ℕ → ℕ → Type 0) (bytes : List ℕ) (result : Value) : Type 0 where
  pub front : List ℕ
  pub block : List ℕ
  pub parts : bytes ≡ front ++ block
  pub size : IsLength front (length block)
  pub value : result ≡ v.Block block

-- the offset of a string in .debug_str
pub record IsStringOffset (strings bytes : List ℕ) (result : Value) : Type 0 where
  pub offset : ℕ
  pub spelled : IsNumber 4 bytes offset
  pub name : List ℕ
  pub front : List ℕ
  pub back : List ℕ
  pub text : IsText front name
  pub parts : drop offset strings ≡ front ++ back
  pub value : result ≡ v.Text name

-- no bytes, which stand for a flag that is set
abbrev pub IsPresent : List ℕ → Value → Type 0
IsPresent bytes result = (bytes ≡ []) × (result ≡ v.Flag true)

-- some bytes spell this value in a form that isn't indirect
unfoldable pub IsPlain : Around → Form → List ℕ → Value → Type 0
IsPlain around f.Addr = By v.Addr (IsNumber 4)
IsPlain around f.Block1 = IsBlock (IsNumber 1)
IsPlain around f.Block2 = IsBlock (IsNumber 2)
IsPlain around f.Block4 = IsBlock (IsNumber 4)
IsPlain around f.Block = IsBlock IsUleb
IsPlain around f.Exprloc = IsBlock IsUleb
IsPlain around f.Data1 = By v.Number (IsNumber 1)
IsPlain around f.Data2 = By v.Number (IsNumber 2)
IsPlain around f.Data4 = By v.Number (IsNumber 4)
IsPlain around f.Data8 = By v.Number (IsNumber 8)
IsPlain around f.Udata = By v.Number IsUleb
IsPlain around f.Sdata = By v.Signed IsSleb
IsPlain around f.String = By v.Text IsText
IsPlain around f.Strp = IsStringOffset around.strings
IsPlain around f.Flag = By (λ n. v.Flag (not (nat_eq n 0))) (IsNumber 1)
IsPlain around f.FlagPresent = IsPresent
IsPlain around f.SecOffset = By v.Offset (IsNumber 4)
IsPlain around f.RefAddr = By v.Target (IsNumber 4)
IsPlain around f.Ref1 = By (λ n. v.Target (capped (around.unit + n))) (IsNumber 1)
IsPlain around f.Ref2 = By (λ n. v.Target (capped (around.unit + n))) (IsNumber 2)
IsPlain around f.Ref4 = By (λ n. v.Target (capped (around.unit + n))) (IsNumber 4)
IsPlain around f.Ref8 = By (λ n. v.Target (capped (around.unit + n))) (IsNumber 8)
IsPlain around f.RefUdata = By (λ n. v.Target (capped (around.unit + n))) IsUleb
IsPlain around f.RefSig8 = By (λ n. v.Elsewhere) (IsNumber 8)
IsPlain around f.Indirect = λ bytes result. ⊥

-- ... in a form that may not be one
abbrev pub IsPlainOf : Around → Option Form → List ℕ → Value → Type 0
IsPlainOf around None bytes result = ⊥
IsPlainOf around (Some form) bytes result = IsPlain around form bytes result

-- the code of a form, and then a value in it
pub record IsIndirect (around : Around) (bytes : List ℕ) (result : Value) : Type 0 where
  pub code : ℕ
  pub front : List ℕ
  pub back : List ℕ
  pub parts : bytes ≡ front ++ back
  pub spelled : IsUleb front code
  pub value : IsPlainOf around (form_of code) back result

-- some bytes spell this value in this form
unfoldable pub IsValue : Around → Option Form → List ℕ → Value → Type 0
IsValue around None bytes result = ⊥
IsValue around (Some f.Indirect) bytes result = IsIndirect around bytes result
IsValue around (Some form) bytes result = IsPlain around form bytes result

-- ---- values that aren't there

-- some bytes begin with the offset of a string that has no end in .debug_str
pub record HasLostString (strings bytes : List ℕ) : Type 0 where
  pub offset : ℕ
  pub front : List ℕ
  pub back : List ℕ
  pub parts : bytes ≡ front ++ back
  pub spelled : IsNumber 4 front offset
  pub endless : All (λ byte. byte ≢ 0) (drop offset strings)

-- some bytes begin with no value of this form because the form isn't read or a string has no end; a number that is too long
-- isn't refused by its form, but counts as one that isn't whole
unfoldable pub IsPlainRefused : Around → Option Form → List ℕ → Type 0
IsPlainRefused around None bytes = Unit {0}
IsPlainRefused around (Some f.Indirect) bytes = Unit {0}
IsPlainRefused around (Some f.String) bytes = All (λ byte. byte ≢ 0) bytes
IsPlainRefused around (Some f.Strp) bytes = HasLostString around.strings bytes
IsPlainRefused around (Some form) bytes = ⊥

-- some bytes begin with the code of a form, and then with no value of it
pub record HasLostForm (around : Around) (bytes : List ℕ) : Type 0 where
  pub code : ℕ
  pub front : List ℕ
  pub back : List ℕ
  pub parts : bytes ≡ front ++ back
  pub spelled : IsUleb front code
  pub refused : IsPlainRefused around (form_of code) back

unfoldable pub IsFormRefused : Around → Option Form → List ℕ → Type 0
IsFormRefused around (Some f.Indirect) bytes = HasLostForm around bytes
IsFormRefused around form bytes = IsPlainRefused around form bytes

-- some bytes begin with no value of this form
abbrev pub HasNoValue : Around → Option Form → List ℕ → Type 0
HasNoValue around form bytes =
    (front back : List ℕ) (result : Value) → bytes ≡ front ++ back → IsValue around form front result → ⊥
