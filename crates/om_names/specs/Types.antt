-- The types of variables: DWARF 4, sections 5.1 "Base Type Entries", 5.2 "Type Modifier Entries", 5.3 "Typedef Entries" and
-- 5.7 "Enumeration Type Entries".
use Rattle.std.specs.Prelude.{ℕ, zero, suc, pos, negsuc, Bool, true, false, ◌&&◌, ◌||◌, nat_eq, if◌then◌else◌, List, [], ◌∷◌, find, map, unwrap_or, Option, Some, None}
use Rattle.std.specs.List.{list_any}
use Rattle.std.specs.Option.{option_and_then, option_map}
use Rattle.om_base.specs.Firsts.{first_of}
use Rattle.om_die.specs.Constants.{DW_AT_type}
use Rattle.om_die.specs.Units.{dies_of_units}
use Rattle.om_die.specs.AttributeValue.{Value}
use Rattle.om_die.specs.AttributeValue as v
use Rattle.om_die.specs.declared.die.Die.{Die}
use Rattle.om_die.specs.declared.unit.Units.{Units}
use Rattle.om_names.specs.Constants.{DW_AT_byte_size, DW_AT_encoding, DW_ATE_boolean, DW_ATE_signed, DW_ATE_signed_char, DW_ATE_unsigned, DW_ATE_unsigned_char, DW_TAG_base_type, DW_TAG_const_type, DW_TAG_enumeration_type, DW_TAG_formal_parameter, DW_TAG_pointer_type, DW_TAG_restrict_type, DW_TAG_typedef, DW_TAG_variable, DW_TAG_volatile_type}
use Rattle.om_names.specs.Information.{value_of}
use Rattle.om_names.specs.Functions.{entry_at, reached_in_4, target_in}
use Rattle.om_names.specs.declared.kind.Kind.{Kind}
use Rattle.om_names.specs.declared.types.Typing.{Typing}
use Rattle.om_names.specs.declared.types.Typing.TheVariants as t

-- ---- scalar types

-- a constant; a negative one counts as 0, which is no size and no encoding
abbrev pub constant_in : Option Value → Option ℕ
constant_in (Some (v.Number number)) = Some number
constant_in (Some (v.Signed (pos number))) = Some number
constant_in (Some (v.Signed (negsuc number))) = Some 0
constant_in value = None

abbrev pub constant : ℕ → Die → Option ℕ
constant name die = constant_in (value_of name die)

-- the sizes in bytes that are read
abbrev pub sizes : List ℕ
sizes = 1 ∷ 2 ∷ 4 ∷ 8 ∷ []

-- the encodings that are read, and whether numbers in them may be negative: section 7.8, figure 25
abbrev pub encodings : List (ℕ × Bool)
encodings =
    (DW_ATE_boolean, false)
    ∷ (DW_ATE_signed, true)
    ∷ (DW_ATE_signed_char, true)
    ∷ (DW_ATE_unsigned, false)
    ∷ (DW_ATE_unsigned_char, false)
    ∷ []

-- the numbers of a size, if it is one that is read
abbrev pub of_size : ℕ → Bool → Option Kind
of_size size signed = if list_any (nat_eq size) sizes then Some (record { size = size; signed = signed }) else None

-- whether numbers of an encoding may be negative, if it is one that is read
abbrev pub sign_of : ℕ → Option Bool
sign_of encoding = option_map (λ row. row.1) (find (λ row. nat_eq encoding row.0) encodings)

-- a base type has the size and the encoding that it says
abbrev pub base_kind : Die → Option Kind
base_kind die =
    option_and_then (λ signed. option_and_then (λ size. of_size size signed) (constant DW_AT_byte_size die)) (option_and_then sign_of (constant DW_AT_encoding die))

-- an enumeration that says no size has 4 bytes
abbrev pub enumeration_kind : Die → Option Kind
enumeration_kind die = of_size (unwrap_or (constant DW_AT_byte_size die) 4) false

-- the numbers of a base type, a pointer type, which has 4 bytes whatever it says, or an enumeration
unfoldable pub scalar_of : Die → Option Kind
scalar_of die =
    if nat_eq die.tag DW_TAG_base_type then base_kind die
    else if nat_eq die.tag DW_TAG_pointer_type then of_size 4 false
    else if nat_eq die.tag DW_TAG_enumeration_type then enumeration_kind die
    else None

-- ---- from a variable to a scalar type

-- an entry that is as a type what its own type is
abbrev pub is_link : Die → Bool
is_link die =
    nat_eq die.tag DW_TAG_typedef
    || (nat_eq die.tag DW_TAG_const_type || (nat_eq die.tag DW_TAG_volatile_type || nat_eq die.tag DW_TAG_restrict_type))

-- DW_AT_type
abbrev pub own_type : Die → Option ℕ
own_type die = target_in (value_of DW_AT_type die)

-- the type of an entry: its own, else that of the entry that it is told by
abbrev pub type_among : List Die → Die → Option Die
type_among dies die = option_and_then (entry_at dies) (reached_in_4 own_type dies die)

-- what comes of a type, if there is one
abbrev pub if_typed : (Die → Typing) → Option Die → Typing
if_typed typing None = t.Other
if_typed typing (Some die) = typing die

-- numbers of a kind, if there is one
abbrev pub numbers : Option Kind → Typing
numbers None = t.Other
numbers (Some kind) = t.Scalar kind

-- what a type comes to, through so many links at most that have a type
unfoldable pub typing_in : ℕ → List Die → Die → Typing
typing_in zero dies die = if is_link die then if_typed (λ next. t.Loop) (type_among dies die) else numbers (scalar_of die)
typing_in (suc links) dies die = if is_link die then if_typed (typing_in links dies) (type_among dies die) else numbers (scalar_of die)

-- what the type of an entry comes to, through at most 64 links
abbrev pub typing_of : List Die → Die → Typing
typing_of dies die = if_typed (typing_in 64 dies) (type_among dies die)

-- the numbers that an entry's type comes to, if it is scalar
abbrev pub kind_in : Typing → Option Kind
kind_in (t.Scalar kind) = Some kind
kind_in typing = None

-- ---- what is wrong with them

abbrev pub is_loop : Typing → Bool
is_loop t.Loop = true
is_loop typing = false

-- a variable or a parameter, also a local one or a mere declaration
abbrev pub is_typed : Die → Bool
is_typed die = nat_eq die.tag DW_TAG_variable || nat_eq die.tag DW_TAG_formal_parameter

-- where a variable or a parameter stands whose type takes more links
abbrev pub loop_at : List Die → Die → Option ℕ
loop_at dies die = if is_typed die && is_loop (typing_of dies die) then Some die.at else None

-- the first such entry of some units
unfoldable pub type_fault : Units → Option ℕ
type_fault units = first_of (map (loop_at (dies_of_units units.list)) (dies_of_units units.list))
