-- What expressions and conditions mean at a tuple of rows: SQL-92, sections 6.12 and 8.2 to 8.12.
use Rattle.std.specs.Prelude.{ℕ, ◌+◌, ◌-◌, ◌^◌, ℤ, pos, negsuc, ◌+ℤ◌, ◌-ℤ◌, ◌*ℤ◌, neg_ℤ, Bool, true, false, not, ◌&&◌, List, [], ◌∷◌, map, Option, Some, None, if◌then◌else◌, nat_lt, nat_le, nat_eq, int_lt}
use Rattle.std.specs.Int.{w128, saturate_signed, int_div_euclid, int_rem_euclid}
use Rattle.std.specs.Int.RustNames.{int_div}
use Rattle.std.specs.List.{list_any, fold}
use Rattle.std.specs.Option.{option_map_or}
use Rattle.std.specs.Ordering.{nat_cmp, int_cmp, is_eq, is_lt, is_gt}
use Rattle.std.specs.Cmp.Lexicographic.{slice_cmp}
use Rattle.std.specs.declared.cmp.Ordering.{Ordering}
use Rattle.om_value.specs.Row.{Row, Tuple}
use Rattle.om_value.specs.declared.column.ColumnId.{ColumnId}
use Rattle.om_value.specs.declared.column.ColumnId.TheVariants as id
use Rattle.om_value.specs.declared.comparison.Compare.{Compare}
use Rattle.om_value.specs.declared.comparison.Compare.TheVariants as compare
use Rattle.om_value.specs.declared.cond.Cond.{Cond}
use Rattle.om_value.specs.declared.cond.Cond.TheFolds.{fold-Cond}
use Rattle.om_value.specs.declared.cond.Cond.TheOpen.{Cond-F}
use Rattle.om_value.specs.declared.cond.Polarity.{Polarity}
use Rattle.om_value.specs.declared.cond.Polarity.TheVariants.{Plain, Negated}
use Rattle.om_value.specs.declared.expr.Addend.{Addend}
use Rattle.om_value.specs.declared.expr.Expr.{Expr}
use Rattle.om_value.specs.declared.expr.Expr.TheFolds.{fold-Expr}
use Rattle.om_value.specs.declared.expr.Expr.TheOpen.{Expr-F, Addend-F, Factor-F}
use Rattle.om_value.specs.declared.expr.Factor.{Factor}
use Rattle.om_value.specs.declared.expr.Factor.TheVariants as factor
use Rattle.om_value.specs.declared.expr.Sign.{Sign}
use Rattle.om_value.specs.declared.expr.Sign.TheVariants.{Plus, Minus}
use Rattle.om_value.specs.declared.expr.Width.{Width}
use Rattle.om_value.specs.declared.truth.Truth.{Truth}
use Rattle.om_value.specs.declared.truth.Truth.TheVariants.{Yes, No, Unknown}
use Rattle.om_value.specs.declared.value.Owned.{Owned}
use Rattle.om_value.specs.declared.value.Owned.TheVariants.{Int, Text, Null}
use Rattle.om_value.specs.declared.value.Value.{Value}
use Rattle.om_value.specs.declared.value.Value.TheVariants as borrowed

-- the value that a borrowed one is
abbrev pub owned : Value → Owned
owned (borrowed.Int number) = Int number
owned (borrowed.Text bytes) = Text bytes
owned borrowed.Null = Null

-- ---- numbers, computed exactly or rounded

-- a number as it is
abbrev pub exact : ℤ → ℤ
exact number = number

-- the number of 128 bits that is nearest to it
abbrev pub near : ℤ → ℤ
near = saturate_signed w128

-- what is computed of a number, and NULL of another value
abbrev pub of_number : (ℤ → ℤ) → Owned → Owned
of_number compute (Int number) = Int (compute number)
of_number compute (Text bytes) = Null
of_number compute Null = Null

-- what is computed of two numbers, and NULL of other values
abbrev pub of_numbers : (ℤ → ℤ → ℤ) → Owned → Owned → Owned
of_numbers compute (Int left) (Int right) = Int (compute left right)
of_numbers compute _ _ = Null

abbrev pub plus_or_minus : Sign → ℤ → ℤ → ℤ
plus_or_minus Plus left right = left +ℤ right
plus_or_minus Minus left right = left -ℤ right

-- a value, with another one added to it or taken from it
unfoldable pub summed : (ℤ → ℤ) → Sign → Owned → Owned → Owned
summed round sign = of_numbers (λ left right. round (plus_or_minus sign left right))

-- the product of two values
unfoldable pub multiplied : (ℤ → ℤ) → Owned → Owned → Owned
multiplied round = of_numbers (λ left right. round (left *ℤ right))

-- the quotient by a number, rounded toward zero, and NULL by 0
unfoldable pub divided : ℕ → Owned → Owned
divided divisor value = if nat_eq divisor 0 then Null else of_number (λ number. int_div number (pos divisor)) value

abbrev pub plus_or_minus_one : (ℤ → ℤ) → Sign → ℤ → ℤ
plus_or_minus_one round Plus number = number
plus_or_minus_one round Minus number = round (neg_ℤ number)

-- a value with a sign before it
unfoldable pub with_sign : (ℤ → ℤ) → Sign → Owned → Owned
with_sign round sign = of_number (plus_or_minus_one round sign)

-- the signed number that a word stands for
abbrev pub as_signed : ℤ → ℤ
as_signed word = if int_lt word (pos (2 ^ 31)) then word else word -ℤ pos (2 ^ 32)

unfoldable pub signed : Owned → Owned
signed = of_number as_signed

-- the bits of a number from `high` down to `low`: its quotient by `2 ^ low`, rounded down, modulo `2 ^ (high - low + 1)`
abbrev pub bits_of : ℕ → ℕ → ℤ → ℤ
bits_of high low number = int_rem_euclid (int_div_euclid number (pos (2 ^ low))) (pos (2 ^ (high - low + 1)))

-- the same of a value, and NULL where there are no such bits among 64
unfoldable pub bits : ℕ → ℕ → Owned → Owned
bits high low value = if nat_le low high && nat_lt high 64 then of_number (bits_of high low) value else Null

-- the address that a value gives, if it is one of 32 bits
abbrev pub address_of : Owned → Option ℕ
address_of (Int (pos address)) = if nat_lt address (2 ^ 32) then Some address else None
address_of (Int (negsuc rest)) = None
address_of (Text bytes) = None
address_of Null = None

-- what stands in a row's memory at the address that a value gives, and NULL where it gives none
unfoldable pub memory_at : Row → Width → Owned → Owned
memory_at row width address = option_map_or (λ found. row.mem found width) (address_of address) Null

-- ---- expressions

-- the cell of a row at a column, NULL past its 32 registers
abbrev pub cell_at : Row → ColumnId → Owned
cell_at row (id.Reg number) = if nat_lt number 32 then row.cell (id.Reg number) else Null
cell_at row column = row.cell column

-- a value, changed by each of these in turn
abbrev pub changed : Owned → List (Owned → Owned) → Owned
changed = fold (λ value change. change value)

-- a layer of an expression, with the value of each part in its place, and of each addend and factor what it makes of the value before it
abbrev pub value_step : (ℤ → ℤ) → Tuple → Expr-F Owned (Owned → Owned) (Owned → Owned) → Owned
value_step round tuple (Expr-F.Numeral number) = Int (pos number)
value_step round tuple (Expr-F.Text bytes) = Text bytes
value_step round tuple Expr-F.Null = Null
value_step round tuple (Expr-F.Column column) = cell_at (tuple column.table) column.id
value_step round tuple (Expr-F.Sum first rest) = changed first rest
value_step round tuple (Expr-F.Product first rest) = changed first rest
value_step round tuple (Expr-F.Sign sign number) = with_sign round sign number
value_step round tuple (Expr-F.Signed word) = signed word
value_step round tuple (Expr-F.Bits number high low) = bits high low number
value_step round tuple (Expr-F.Memory table width address) = memory_at (tuple table) width address

abbrev pub factor_step : (ℤ → ℤ) → Factor-F Owned (Owned → Owned) (Owned → Owned) → Owned → Owned
factor_step round (Factor-F.Times factor) before = multiplied round before factor
factor_step round (Factor-F.Over divisor) before = divided divisor before

abbrev pub addend_step : (ℤ → ℤ) → Addend-F Owned (Owned → Owned) (Owned → Owned) → Owned → Owned
addend_step round addend before = summed round addend.sign before addend.term

-- the value of an expression at a tuple, where each number that is computed is rounded so
unfoldable pub value_with : (ℤ → ℤ) → Tuple → Expr → Owned
value_with round tuple = fold-Expr Owned (Owned → Owned) (Owned → Owned) (value_step round tuple) (factor_step round) (addend_step round)

-- the value of an expression at a tuple
abbrev pub value : Tuple → Expr → Owned
value = value_with exact

-- the same, computed with numbers of 128 bits
abbrev pub near_value : Tuple → Expr → Owned
near_value = value_with near

-- a value, with an addend added to it or taken from it, by what expressions are worth
abbrev pub with_addend : (ℤ → ℤ) → (Expr → Owned) → Owned → Addend → Owned
with_addend round worth before addend = summed round addend.sign before (worth addend.term)

-- a value, multiplied or divided by a factor, by the same
abbrev pub with_factor : (ℤ → ℤ) → (Expr → Owned) → Owned → Factor → Owned
with_factor round worth before (factor.Times e) = multiplied round before (worth e)
with_factor round worth before (factor.Over n) = divided n before

-- ---- comparisons

-- how two values are ordered: numbers as whole numbers, texts by their bytes, and others not
abbrev pub order : Owned → Owned → Option Ordering
order (Int left) (Int right) = Some (int_cmp left right)
order (Text left) (Text right) = Some (slice_cmp nat_cmp left right)
order _ _ = None

-- whether a comparison holds of two values in that order
abbrev pub holds : Compare → Ordering → Bool
holds compare.Equal order = is_eq order
holds compare.NotEqual order = not (is_eq order)
holds compare.Less order = is_lt order
holds compare.LessEqual order = not (is_gt order)
holds compare.Greater order = is_gt order
holds compare.GreaterEqual order = not (is_lt order)

-- the truth of what is known to hold or not
abbrev pub decided : Bool → Truth
decided true = Yes
decided false = No

-- the truth of a comparison of two values
unfoldable pub compared : Compare → Owned → Owned → Truth
compared compare left right = option_map_or (λ found. decided (holds compare found)) (order left right) Unknown

-- ---- conditions

abbrev pub is_yes : Truth → Bool
is_yes Yes = true
is_yes _ = false

abbrev pub is_no : Truth → Bool
is_no No = true
is_no _ = false

abbrev pub is_unknown : Truth → Bool
is_unknown Unknown = true
is_unknown _ = false

-- the truth of NOT
abbrev pub negated : Truth → Truth
negated Yes = No
negated No = Yes
negated Unknown = Unknown

-- the truth of AND: No where a member is No, else Unknown where one is Unknown, else Yes
abbrev pub all_of : List Truth → Truth
all_of members = if list_any is_no members then No else if list_any is_unknown members then Unknown else Yes

-- the truth of OR: Yes where a member is Yes, else Unknown where one is Unknown, else No
abbrev pub any_of : List Truth → Truth
any_of members = if list_any is_yes members then Yes else if list_any is_unknown members then Unknown else No

abbrev pub with_polarity : Polarity → Truth → Truth
with_polarity Plain truth = truth
with_polarity Negated truth = negated truth

-- the truth of the AND of two
abbrev pub both : Truth → Truth → Truth
both left right = all_of (left ∷ right ∷ [])

-- the truth of BETWEEN
unfoldable pub between : Owned → Owned → Owned → Truth
between what low high = both (compared compare.GreaterEqual what low) (compared compare.LessEqual what high)

-- the truth of IN: that of the OR of equalities, by what expressions are worth
abbrev pub is_among : (Expr → Owned) → Expr → List Expr → Truth
is_among worth what list = any_of (map (λ one. compared compare.Equal (worth what) (worth one)) list)

-- the truth of IS NULL
abbrev pub is_null : Owned → Truth
is_null (Int number) = No
is_null (Text bytes) = No
is_null Null = Yes

-- a layer of a condition, with the truth of each member in its place, by what expressions are worth
abbrev pub truth_step : (Expr → Owned) → Cond-F Truth → Truth
truth_step worth (Cond-F.Compare compare left right) = compared compare (worth left) (worth right)
truth_step worth (Cond-F.Between polarity what low high) = with_polarity polarity (between (worth what) (worth low) (worth high))
truth_step worth (Cond-F.In polarity what list) = with_polarity polarity (is_among worth what list)
truth_step worth (Cond-F.IsNull polarity what) = with_polarity polarity (is_null (worth what))
truth_step worth (Cond-F.Not member) = negated member
truth_step worth (Cond-F.All members) = all_of members
truth_step worth (Cond-F.Any members) = any_of members

-- the truth of a condition, by what its expressions are worth
unfoldable pub truth_with : (Expr → Owned) → Cond → Truth
truth_with worth = fold-Cond Truth (truth_step worth)

-- the truth of a condition at a tuple
abbrev pub truth : Tuple → Cond → Truth
truth tuple = truth_with (value tuple)

-- the same, computed with numbers of 128 bits
abbrev pub near_truth : Tuple → Cond → Truth
near_truth tuple = truth_with (near_value tuple)
