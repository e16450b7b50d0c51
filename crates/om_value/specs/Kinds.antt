-- Which values an expression may have, found from those of the columns: whole numbers of an interval, texts, or NULL alone.
use Rattle.std.specs.Prelude.{ℕ, ◌+◌, ◌-◌, ◌^◌, ℤ, pos, ◌+ℤ◌, ◌-ℤ◌, ◌*ℤ◌, neg_ℤ, ◌≤ℤ◌, Bool, ◌&&◌, List, map, Result, Ok, Err, if◌then◌else◌, nat_lt, nat_le, nat_eq, int_le}
use Rattle.std.specs.Int.{int_min, int_max}
use Rattle.std.specs.Int.RustNames.{int_div}
use Rattle.std.specs.List.{fold}
use Rattle.om_base.specs.declared.interval.Interval.{Interval}
use Rattle.om_value.specs.Row.{Tuple}
use Rattle.om_value.specs.Meaning.{cell_at}
use Rattle.om_value.specs.declared.column.ColumnId.{ColumnId}
use Rattle.om_value.specs.declared.cond.Cond.{Cond}
use Rattle.om_value.specs.declared.cond.Cond.TheFolds.{fold-Cond}
use Rattle.om_value.specs.declared.cond.Cond.TheOpen.{Cond-F}
use Rattle.om_value.specs.declared.expr.Expr.{Expr}
use Rattle.om_value.specs.declared.expr.Expr.TheFolds.{fold-Expr}
use Rattle.om_value.specs.declared.expr.Expr.TheOpen.{Expr-F, Addend-F, Factor-F}
use Rattle.om_value.specs.declared.expr.Sign.{Sign}
use Rattle.om_value.specs.declared.expr.Sign.TheVariants.{Plus, Minus}
use Rattle.om_value.specs.declared.expr.Width.{Width}
use Rattle.om_value.specs.declared.expr.Width.TheVariants.{Byte, Half, Word}
use Rattle.om_value.specs.declared.kind.Kind.{Kind}
use Rattle.om_value.specs.declared.kind.Kind.TheVariants.{Int, Text, Null}
use Rattle.om_value.specs.declared.kind.Wrong.{Wrong}
use Rattle.om_value.specs.declared.kind.Wrong.TheVariants.{Clash, Range, Divisor}
use Rattle.om_value.specs.declared.value.Owned.{Owned}
use Rattle.om_value.specs.declared.value.Owned.TheVariants as value

-- ---- ranges

-- a number lies from one to another, both of them among it
abbrev pub is_from : ℤ → ℤ → ℤ → Bool
is_from low high number = int_le low number && int_le number high

-- a number that an expression may have
abbrev pub is_number : ℤ → Bool
is_number = is_from (neg_ℤ (pos (2 ^ 63))) (pos (2 ^ 64 - 1))

-- the numbers from one to another, both of them among it
abbrev pub numbers : ℤ → ℤ → Kind
numbers low high = Int (record { lo = low; hi = high })

-- the same, refused where an end is no number that an expression may have
abbrev pub in_range : ℤ → ℤ → Result Kind Wrong
in_range low high = if is_number low && is_number high then Ok (numbers low high) else Err Range

abbrev pub is_word : Interval → Bool
is_word found = is_from (pos 0) (pos (2 ^ 32 - 1)) found.lo && is_from (pos 0) (pos (2 ^ 32 - 1)) found.hi

-- ---- operators

-- what is made of a kind of numbers: NULL of NULL, and a text is refused
abbrev pub of_interval : (Interval → Result Kind Wrong) → Kind → Result Kind Wrong
of_interval make (Int found) = make found
of_interval make Text = Err Clash
of_interval make Null = Ok Null

-- the same of two
abbrev pub of_intervals : (Interval → Interval → Result Kind Wrong) → Kind → Kind → Result Kind Wrong
of_intervals make (Int left) (Int right) = make left right
of_intervals make (Int left) Text = Err Clash
of_intervals make (Int left) Null = Ok Null
of_intervals make Text right = Err Clash
of_intervals make Null (Int right) = Ok Null
of_intervals make Null Text = Err Clash
of_intervals make Null Null = Ok Null

abbrev pub sum_range : Sign → Interval → Interval → Result Kind Wrong
sum_range Plus left right = in_range (left.lo +ℤ right.lo) (left.hi +ℤ right.hi)
sum_range Minus left right = in_range (left.lo -ℤ right.hi) (left.hi -ℤ right.lo)

-- of a sum or a difference
unfoldable pub sum_kind : Sign → Kind → Kind → Result Kind Wrong
sum_kind sign = of_intervals (sum_range sign)

abbrev pub least_of : ℤ → ℤ → ℤ → ℤ → ℤ
least_of a b c d = int_min (int_min a b) (int_min c d)

abbrev pub greatest_of : ℤ → ℤ → ℤ → ℤ → ℤ
greatest_of a b c d = int_max (int_max a b) (int_max c d)

-- from the least to the greatest of the products of two ends
abbrev pub product_range : Interval → Interval → Result Kind Wrong
product_range left right = in_range (least_of (left.lo *ℤ right.lo) (left.lo *ℤ right.hi) (left.hi *ℤ right.lo) (left.hi *ℤ right.hi)) (greatest_of (left.lo *ℤ right.lo) (left.lo *ℤ right.hi) (left.hi *ℤ right.lo) (left.hi *ℤ right.hi))

-- of a product
unfoldable pub product_kind : Kind → Kind → Result Kind Wrong
product_kind = of_intervals product_range

abbrev pub quotient_range : ℕ → Interval → Result Kind Wrong
quotient_range divisor found = in_range (int_div found.lo (pos divisor)) (int_div found.hi (pos divisor))

-- of a quotient: a text is refused first, then 0
unfoldable pub quotient_kind : ℕ → Kind → Result Kind Wrong
quotient_kind divisor Text = Err Clash
quotient_kind divisor Null = if nat_eq divisor 0 then Err Divisor else Ok Null
quotient_kind divisor (Int found) = if nat_eq divisor 0 then Err Divisor else quotient_range divisor found

abbrev pub sign_range : Sign → Interval → Result Kind Wrong
sign_range Plus found = in_range found.lo found.hi
sign_range Minus found = in_range (neg_ℤ found.hi) (neg_ℤ found.lo)

-- of a sign
unfoldable pub sign_kind : Sign → Kind → Result Kind Wrong
sign_kind sign = of_interval (sign_range sign)

-- of SIGNED
unfoldable pub signed_kind : Kind → Result Kind Wrong
signed_kind = of_interval (λ found. if is_word found then Ok (numbers (neg_ℤ (pos (2 ^ 31))) (pos (2 ^ 31 - 1))) else Err Range)

abbrev pub bits_range : ℕ → ℕ → Interval → Result Kind Wrong
bits_range high low found = if int_le (pos 0) found.lo then Ok (numbers (pos 0) (pos (2 ^ (high - low + 1) - 1))) else Err Range

-- of BITS: a text is refused first, then wrong bits
unfoldable pub bits_kind : ℕ → ℕ → Kind → Result Kind Wrong
bits_kind high low Text = Err Clash
bits_kind high low Null = if nat_le low high && nat_lt high 64 then Ok Null else Err Range
bits_kind high low (Int found) = if nat_le low high && nat_lt high 64 then bits_range high low found else Err Range

-- the numbers in memory of a width
abbrev pub width_kind : Width → Kind
width_kind Byte = numbers (pos 0) (pos (2 ^ 8 - 1))
width_kind Half = numbers (pos 0) (pos (2 ^ 16 - 1))
width_kind Word = numbers (pos 0) (pos (2 ^ 32 - 1))

-- of a memory form, by that of its address
unfoldable pub memory_kind : Width → Kind → Result Kind Wrong
memory_kind width = of_interval (λ found. if is_word found then Ok (width_kind width) else Err Range)

-- two kinds that may be compared
unfoldable pub compare_kinds : Kind → Kind → Result (Unit {0}) Wrong
compare_kinds (Int left) (Int right) = Ok tt
compare_kinds (Int left) Text = Err Clash
compare_kinds (Int left) Null = Ok tt
compare_kinds Text (Int right) = Err Clash
compare_kinds Text Text = Ok tt
compare_kinds Text Null = Ok tt
compare_kinds Null right = Ok tt

-- ---- expressions

-- a step after one that may fail, of which the first fault is told
abbrev pub after : {A B : Type 0} → Result A Wrong → (A → Result B Wrong) → Result B Wrong
after (Ok found) next = next found
after (Err wrong) next = Err wrong

abbrev pub Change : Type 0
Change = Result Kind Wrong → Result Kind Wrong

-- a kind, changed by each of these in turn
abbrev pub changed_kind : Result Kind Wrong → List Change → Result Kind Wrong
changed_kind = fold (λ found change. change found)

-- a layer of an expression, with the kind of each part in its place, and of each addend and factor what it makes of the kind before it
abbrev pub kind_step : (ColumnId → Kind) → Expr-F (Result Kind Wrong) Change Change → Result Kind Wrong
kind_step columns (Expr-F.Numeral number) = Ok (numbers (pos number) (pos number))
kind_step columns (Expr-F.Text bytes) = Ok Text
kind_step columns Expr-F.Null = Ok Null
kind_step columns (Expr-F.Column column) = Ok (columns column.id)
kind_step columns (Expr-F.Sum first rest) = changed_kind first rest
kind_step columns (Expr-F.Product first rest) = changed_kind first rest
kind_step columns (Expr-F.Sign sign number) = after number (sign_kind sign)
kind_step columns (Expr-F.Signed word) = after word signed_kind
kind_step columns (Expr-F.Bits number high low) = after number (bits_kind high low)
kind_step columns (Expr-F.Memory table width address) = after address (memory_kind width)

abbrev pub factor_kind_step : Factor-F (Result Kind Wrong) Change Change → Change
factor_kind_step (Factor-F.Times factor) before = after before (λ left. after factor (product_kind left))
factor_kind_step (Factor-F.Over divisor) before = after before (quotient_kind divisor)

abbrev pub addend_kind_step : Addend-F (Result Kind Wrong) Change Change → Change
addend_kind_step addend before = after before (λ left. after addend.term (sum_kind addend.sign left))

-- the kind of an expression, or its first fault, by the kinds of the columns
unfoldable pub kind : (ColumnId → Kind) → Expr → Result Kind Wrong
kind columns = fold-Expr (Result Kind Wrong) Change Change (kind_step columns) factor_kind_step addend_kind_step

-- ---- conditions

abbrev pub Accepts : Type 0
Accepts = Result (Unit {0}) Wrong

-- both are accepted, or the first fault
abbrev pub both_accepted : Accepts → Accepts → Accepts
both_accepted first second = after first (λ _. second)

-- all are accepted, or the first fault
abbrev pub all_accepted : List Accepts → Accepts
all_accepted = fold both_accepted (Ok tt)

-- an expression is accepted
abbrev pub judged : (ColumnId → Kind) → Expr → Accepts
judged columns expr = after (kind columns expr) (λ _. Ok tt)

-- two expressions may be compared
abbrev pub comparable : (ColumnId → Kind) → Expr → Expr → Accepts
comparable columns left right = after (kind columns left) (λ found. after (kind columns right) (compare_kinds found))

-- a layer of a condition, with each member's acceptance in its place
abbrev pub accept_step : (ColumnId → Kind) → Cond-F Accepts → Accepts
accept_step columns (Cond-F.Compare compare left right) = comparable columns left right
accept_step columns (Cond-F.Between polarity what low high) = both_accepted (comparable columns what low) (comparable columns what high)
accept_step columns (Cond-F.In polarity what list) = both_accepted (judged columns what) (all_accepted (map (comparable columns what) list))
accept_step columns (Cond-F.IsNull polarity what) = judged columns what
accept_step columns (Cond-F.Not member) = member
accept_step columns (Cond-F.All members) = all_accepted members
accept_step columns (Cond-F.Any members) = all_accepted members

-- the acceptance of a condition, or its first fault, by the kinds of the columns
unfoldable pub accepts : (ColumnId → Kind) → Cond → Accepts
accepts columns = fold-Cond Accepts (accept_step columns)

-- ---- values of a kind

-- a value is of a kind: a number lies in its interval, and NULL is of each
abbrev pub IsOf : Kind → Owned → Type 0
IsOf (Int found) (value.Int number) = (found.lo ≤ℤ number) × (number ≤ℤ found.hi)
IsOf (Int found) (value.Text bytes) = ⊥
IsOf (Int found) value.Null = Unit {0}
IsOf Text (value.Int number) = ⊥
IsOf Text (value.Text bytes) = Unit {0}
IsOf Text value.Null = Unit {0}
IsOf Null (value.Int number) = ⊥
IsOf Null (value.Text bytes) = ⊥
IsOf Null value.Null = Unit {0}

-- the cells of the rows of a tuple are of their columns' kinds, and the numbers in their memory of their widths
pub record HasKinds (columns : ColumnId → Kind) (tuple : Tuple) : Type 0 where
  pub cells : (table : ℕ) (column : ColumnId) → IsOf (columns column) (cell_at (tuple table) column)
  pub memory : (table address : ℕ) (width : Width) → IsOf (width_kind width) ((tuple table).mem address width)
