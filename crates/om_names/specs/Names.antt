-- The names and types of entries, by what each entry tells of them.
use Rattle.std.specs.Prelude.{◌≡◌, ℕ, zero, suc, nat_eq, if◌then◌else◌, List, Option, Some, None}
use Rattle.std.specs.BTreeMap.{get}
use Rattle.std.specs.Option.{option_and_then, option_map, option_or}
use Rattle.std.specs.Ordering.{nat_cmp}
use Rattle.om_die.specs.declared.die.Die.{Die}
use Rattle.om_names.specs.Functions.{entry_at, link_of, own_name}
use Rattle.om_names.specs.Types.{is_link, own_type, scalar_of}
use Rattle.om_names.specs.declared.kind.Kind.{Kind}
use Rattle.om_names.specs.declared.names.Names.{Names}
use Rattle.om_names.specs.declared.names.Told.{Told}
use Rattle.om_names.specs.declared.types.Shape.{Shape}
use Rattle.om_names.specs.declared.types.Shape.TheVariants as s
use Rattle.om_names.specs.declared.types.Typing.{Typing}
use Rattle.om_names.specs.declared.types.Typing.TheVariants as t

-- what an entry is as a type, by itself
abbrev pub shape_by : Option Kind → Shape
shape_by None = s.Other
shape_by (Some kind) = s.Scalar kind

abbrev pub shape_of : Die → Shape
shape_of die = if is_link die then s.Link else shape_by (scalar_of die)

-- what an entry tells
abbrev pub told_of : Die → Told
told_of die = record { name = own_name die; type_at = own_type die; link = link_of die; shape = shape_of die }

-- what an entry tells of the entry at an offset
abbrev pub told_at : Die → ℕ → Option Told
told_at die offset = if nat_eq die.at offset then Some (told_of die) else None

-- what is kept at an offset
abbrev pub find_in : Names → ℕ → Option Told
find_in names offset = get nat_cmp names.by_offset offset

-- the first entry at each offset tells what is kept there
abbrev pub AreNames : List Die → Names → Type 0
AreNames dies names = (offset : ℕ) → find_in names offset ≡ option_map told_of (entry_at dies offset)

-- what is told, in so many links at most
unfoldable pub reached_by : {A : Type 0} → (Told → Option A) → ℕ → (ℕ → Option Told) → Told → Option A
reached_by own zero find told = own told
reached_by own (suc links) find told = option_or (own told) (option_and_then (reached_by own links find) (option_and_then find told.link))

-- ---- names

abbrev pub name_told : Told → Option (List ℕ)
name_told told = told.name

-- the name of an entry, in at most 4 links
abbrev pub name_from : Names → Die → Option (List ℕ)
name_from names die = reached_by name_told 4 (find_in names) (told_of die)

-- ---- types

abbrev pub type_told : Told → Option ℕ
type_told told = told.type_at

-- what the type of an entry tells, in at most 4 links
abbrev pub type_from : Names → Told → Option Told
type_from names told = option_and_then (find_in names) (reached_by type_told 4 (find_in names) told)

-- what comes of a type, if there is one
abbrev pub if_told : (Told → Typing) → Option Told → Typing
if_told typing None = t.Other
if_told typing (Some told) = typing told

-- what comes of a type by its shape: of a link what comes of its own type
abbrev pub typing_by : Shape → Typing → Typing
typing_by s.Link linked = linked
typing_by (s.Scalar kind) linked = t.Scalar kind
typing_by s.Other linked = t.Other

-- what a type comes to, through so many links at most that have a type
unfoldable pub typing_through : ℕ → Names → Told → Typing
typing_through zero names told = typing_by told.shape (if_told (λ next. t.Loop) (type_from names told))
typing_through (suc links) names told = typing_by told.shape (if_told (typing_through links names) (type_from names told))

-- what the type of an entry comes to, through at most 64 links
abbrev pub typing_from : Names → Die → Typing
typing_from names die = if_told (typing_through 64 names) (type_from names (told_of die))
