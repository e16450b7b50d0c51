-- How a value is read from left to right, form by form: what its relation in Forms says, as a function.
use Rattle.std.specs.Prelude.{ℕ, ℤ, ◌+◌, true, not, nat_eq, nat_le, if◌then◌else◌, List, length, take, drop, Option, Some, None, Ok, Err}
use Rattle.std.specs.Result.{result_map_both}
use Rattle.om_base.specs.Leb.{uleb_of, sleb_of}
use Rattle.om_base.specs.Reading.{Reader, with_rest, first_then, number_of, text_of}
use Rattle.om_base.specs.declared.numbers.Num.{Num}
use Rattle.om_die.specs.Forms.{Around, capped, form_of}
use Rattle.om_die.specs.AttributeValue.{Value}
use Rattle.om_die.specs.AttributeValue as v
use Rattle.om_die.specs.declared.attributes.Gap.{Gap}
use Rattle.om_die.specs.declared.attributes.Gap.TheVariants as gap
use Rattle.om_die.specs.declared.fields.Width.{Width}
use Rattle.om_die.specs.declared.fields.Width.TheVariants as w
use Rattle.om_die.specs.declared.attribute_form.Form.{Form}
use Rattle.om_die.specs.declared.attribute_form.Form.TheVariants as f

-- ---- what values are made of

-- a reader that fails for one reason
abbrev pub failing : {A : Type 0} → Gap → Reader A Num → Reader A Gap
failing why read bytes = result_map_both (λ x. x) (λ _. why) (read bytes)

-- how many bytes a width is
abbrev pub width_of : Width → ℕ
width_of w.One = 1
width_of w.Two = 2
width_of w.Four = 4
width_of w.Eight = 8

-- the number in so many bytes
unfoldable pub fixed : ℕ → Reader ℕ Gap
fixed width = failing gap.Short (with_rest (number_of width))

unfoldable pub unsigned : Reader ℕ Gap
unsigned = failing gap.Short (with_rest uleb_of)

unfoldable pub signed : Reader ℤ Gap
signed = failing gap.Short (with_rest sleb_of)

-- the bytes before the first zero
unfoldable pub text : Reader (List ℕ) Gap
text = failing gap.Form (with_rest text_of)

-- a value of what is read
abbrev pub by : {A B : Type 0} → (A → B) → Reader A Gap → Reader B Gap
by value read bytes = result_map_both (λ x. (value x.0, x.1)) (λ e. e) (read bytes)

-- ---- values

-- so many bytes
unfoldable pub block_of : ℕ → Reader Value Gap
block_of size bytes = if nat_le size (length bytes) then Ok (v.Block (take size bytes), drop size bytes) else Err gap.Short

-- a length, and then so many bytes
abbrev pub block : Reader ℕ Gap → Reader Value Gap
block size = first_then size block_of

-- the string at an offset
unfoldable pub text_at : List ℕ → ℕ → Reader Value Gap
text_at strings offset bytes = result_map_both (λ x. (v.Text x.0, bytes)) (λ e. e) (text (drop offset strings))

-- a value in a form that isn't indirect
unfoldable pub plain_in : Around → Form → Reader Value Gap
plain_in around f.Addr = by v.Addr (fixed 4)
plain_in around f.Block1 = block (fixed 1)
plain_in around f.Block2 = block (fixed 2)
plain_in around f.Block4 = block (fixed 4)
plain_in around f.Block = block unsigned
plain_in around f.Exprloc = block unsigned
plain_in around f.Data1 = by v.Number (fixed 1)
plain_in around f.Data2 = by v.Number (fixed 2)
plain_in around f.Data4 = by v.Number (fixed 4)
plain_in around f.Data8 = by v.Number (fixed 8)
plain_in around f.Udata = by v.Number unsigned
plain_in around f.Sdata = by v.Signed signed
plain_in around f.String = by v.Text text
plain_in around f.Strp = first_then (fixed 4) (text_at around.strings)
plain_in around f.Flag = by (λ n. v.Flag (not (nat_eq n 0))) (fixed 1)
plain_in around f.FlagPresent = λ bytes. Ok (v.Flag true, bytes)
plain_in around f.SecOffset = by v.Offset (fixed 4)
plain_in around f.RefAddr = by v.Target (fixed 4)
plain_in around f.Ref1 = by (λ n. v.Target (capped (around.unit + n))) (fixed 1)
plain_in around f.Ref2 = by (λ n. v.Target (capped (around.unit + n))) (fixed 2)
plain_in around f.Ref4 = by (λ n. v.Target (capped (around.unit + n))) (fixed 4)
plain_in around f.Ref8 = by (λ n. v.Target (capped (around.unit + n))) (fixed 8)
plain_in around f.RefUdata = by (λ n. v.Target (capped (around.unit + n))) unsigned
plain_in around f.RefSig8 = by (λ n. v.Elsewhere) (fixed 8)
plain_in around f.Indirect = λ bytes. Err gap.Form

-- ... in a form that may not be one
unfoldable pub plain_of : Around → Option Form → Reader Value Gap
plain_of around None bytes = Err gap.Form
plain_of around (Some form) bytes = plain_in around form bytes

-- the code of a form, and then a value in it
abbrev pub indirect : Around → Reader Value Gap
indirect around = first_then unsigned (λ code. plain_of around (form_of code))

-- a value
unfoldable pub value_in : Around → Option Form → Reader Value Gap
value_in around (Some f.Indirect) bytes = indirect around bytes
value_in around form bytes = plain_of around form bytes
