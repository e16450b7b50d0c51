-- How an abbreviation table is read from left to right: what stands in front, with the bytes behind it.
use Rattle.std.specs.Prelude.{◌≡◌, ℕ, not, nat_eq, List, ◌++◌, Option, Some, None}
use Rattle.om_base.specs.Reading.{NoMore, Reader, first_then}
use Rattle.om_die.specs.Forms.{capped}
use Rattle.om_die.specs.Readers.{by, fixed, unsigned}
use Rattle.om_die.specs.declared.attributes.Gap.{Gap}
use Rattle.om_die.specs.declared.declaration.Head.{Head}

-- what stands in front of some bytes and the bytes behind it, or nothing where no such thing stands there
abbrev pub IsFront : {X : Type 0} → (List ℕ → X → Type 0) → List ℕ → Option (X × List ℕ) → Type 0
IsFront R bytes None = NoMore (λ _. R) 0 bytes
IsFront R bytes (Some found) = (front : List ℕ) × (bytes ≡ front ++ found.1) × R front found.0

-- two numbers
unfoldable pub pair_in : Reader (ℕ × ℕ) Gap
pair_in = first_then unsigned (λ name. by (λ form. (name, form)) unsigned)

-- a code, a tag, and whether there are children
unfoldable pub head_in : Reader Head Gap
head_in = first_then unsigned (λ code. first_then unsigned (λ tag.
    by (λ children. record { code = code; tag = capped tag; has_children = not (nat_eq children 0) }) (fixed 1)))
