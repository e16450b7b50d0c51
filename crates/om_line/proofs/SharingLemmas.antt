-- Tables that needn't be run, since an earlier one has rows of all their addresses.
use Rattle.std.proofs.Common.{◌≡◌, ◌⊎◌, ℕ, zero, suc, ◌-◌, ◌^◌, ◌<◌, ◌≤◌, true, false, leb, List, [], ◌∷◌, ◌++◌, length, append_assoc, map, take, drop, Option, Some, None, is_some, refl, sym, ap, subst, ◌∙◌, inl, inr, arith}
use Rattle.std.specs.Prelude.{All, Contains, IfSome}
use Rattle.std.specs.List.{slice_get}
use Rattle.std.specs.Option.{option_map, option_or}
use Rattle.std.proofs.lemmas.Bool.{and_parts, leb-true, ltb-true}
use Rattle.std.proofs.lemmas.List.Elements.{Contains-push, All-cons, All-contains, All-nil, All-weaker}
use Rattle.om_base.proofs.ReadingLaws.{append-nil}
use Rattle.om_line.specs.Gathering.{nothing, with_table, with_tables}
use Rattle.om_line.specs.Head.{Head}
use Rattle.om_line.specs.Heads.{table_fault, table_in}
use Rattle.om_line.specs.Instructions.{broken_in, instructions_in}
use Rattle.om_line.specs.Lines.{fault_at, header_fault, line_fault, lines_at, lines_of, opcode_fault, row_at}
use Rattle.om_line.specs.Opening.{IsTable, head_fault}
use Rattle.om_line.specs.Running.{begin, files_from, rows_from}
use Rattle.om_line.specs.Sharing.{Adds, Covered, EndsAs, IsGathered, IsShareable, IsShared, IsStart, are_relative, first_addr, is_behind, is_within, lower, rise_from}
use Rattle.om_line.specs.Tables.{found_at, tables_at, tables_fault, with_row}
use Rattle.om_line.specs.declared.fault.LineFault.{LineFault}
use Rattle.om_line.specs.declared.fault.LineFault.TheVariants.{Opcode}
use Rattle.om_line.specs.declared.gathering.Gathered.{Gathered}
use Rattle.om_line.specs.declared.lines.Lines.{Lines}
use Rattle.om_line.specs.declared.lines.Ran.{Ran}
use Rattle.om_line.specs.declared.reading.Table.{Table}
use Rattle.om_line.specs.declared.instruction.Instruction.{Instruction}
use Rattle.om_line.specs.declared.registers.Registers.{Registers}
use Rattle.om_line.specs.declared.row.LineRow.{LineRow}
use Rattle.om_line.specs.declared.sharing.Shared.{Shared}
use Rattle.om_line.specs.declared.start.Start.{Start}
use Rattle.om_line.proofs.CoverLemmas.{Between, end_covered, rise_rest, rise_small, row_between}
use Rattle.om_line.proofs.OpeningLemmas.{end_ends, same_end}
use Rattle.om_line.proofs.ShiftLemmas.{addresses, rows_lower}

-- ---- the table at an offset

-- what a table's program makes is the table
pub table_lines : (section : List ℕ) (at : ℕ) (table : Table) (lines : Lines) → IsTable section at table → lines.rows ≡ rows_from table.head begin (instructions_in table.head table.program.now)
    → lines.files ≡ table.files ++ files_from (instructions_in table.head table.program.now) → lines ≡ lines_at section at
unfolding lines_of
table_lines section at table lines is rows files = rw (← is.head, ← is.program, is.files, ← rows, ← files) refl

or_nothing : {A : Type 0} (a b : Option A) → option_or a b ≡ None → (a ≡ None) × (b ≡ None)
or_nothing None b is = (refl, is)
or_nothing (Some x) b is = absurd cc

-- its fault is that of an opcode
fault_behind : (section : List ℕ) (at : ℕ) → head_fault section at ≡ None → fault_at section at ≡ opcode_fault at (table_in (drop at section))
unfolding line_fault
fault_behind section at lawful =
    let both = or_nothing (table_fault at (drop at section)) (header_fault at (table_in (drop at section))) lawful in
    rw (both.0, both.1) (or_none (opcode_fault at (table_in (drop at section))))
  where
    or_none : (o : Option LineFault) → option_or o None ≡ o
    or_none None = refl
    or_none (Some fault) = refl

pub table_broken : (section : List ℕ) (at : ℕ) (table : Table) → IsTable section at table → fault_at section at ≡ option_map (λ rest. Opcode (table.end - length rest)) (broken_in table.head table.program.now)
unfolding opcode_fault
table_broken section at table is = fault_behind section at is.lawful ∙ rw (← is.head, ← is.program, ← is.end) refl

pub table_lawful : (section : List ℕ) (at : ℕ) (table : Table) → IsTable section at table → broken_in table.head table.program.now ≡ None → fault_at section at ≡ None
table_lawful section at table is whole = table_broken section at table is ∙ ap (option_map (λ rest. Opcode (table.end - length rest))) whole

pub head_broken : (section : List ℕ) (at : ℕ) (fault : LineFault) → head_fault section at ≡ Some fault → fault_at section at ≡ Some fault
unfolding line_fault
head_broken section at fault is = or_first (table_fault at (drop at section)) (header_fault at (table_in (drop at section))) (opcode_fault at (table_in (drop at section))) fault is
  where
    or_first : (a b c : Option LineFault) (fault : LineFault) → option_or a b ≡ Some fault → option_or a (option_or b (option_or c None)) ≡ Some fault
    or_first None None c fault is = absurd cc
    or_first None (Some b) c fault is = is
    or_first (Some a) b c fault is = is

pub head_told : (section : List ℕ) (at : ℕ) (fault none : LineFault) → (fault ≡ none) ⊎ (head_fault section at ≡ Some fault) → (fault ≡ none) ⊎ (fault_at section at ≡ Some fault)
head_told section at fault none (inl same) = inl same
head_told section at fault none (inr fails) = inr (head_broken section at fault fails)

pub rows_at : (section : List ℕ) (at : ℕ) (table : Table) → IsTable section at table → (lines_at section at).rows ≡ rows_from table.head begin (instructions_in table.head table.program.now)
unfolding lines_of
rows_at section at table is = rw (is.head, is.program) refl

-- a fault of its program is its own
pub program_broken : (section : List ℕ) (at : ℕ) (table : Table) (fault none : LineFault) → IsTable section at table
    → (fault ≡ none) ⊎ (option_map (λ rest. Opcode (table.end - length rest)) (broken_in table.head table.program.now) ≡ Some fault) → (fault ≡ none) ⊎ (fault_at section at ≡ Some fault)
program_broken section at table fault none opened (inl is) = inl is
program_broken section at table fault none opened (inr is) = inr (table_broken section at table opened ∙ is)

-- it is added when its program was run
pub added : (section : List ℕ) (at : ℕ) (table : Table) (ran : Ran) (before after : Gathered) (now : Option Shared) → IsTable section at table → after ≡ with_table before ran.lines
    → broken_in table.head table.program.now ≡ None → ran.lines.rows ≡ rows_from table.head begin (instructions_in table.head table.program.now)
    → ran.lines.files ≡ table.files ++ files_from (instructions_in table.head table.program.now) → All (IsStart table.head table.program.now) ran.starts
    → ran.is_relative ≡ are_relative (instructions_in table.head table.program.now) → IfSome now (IsShareable table.head table.end ran) → Adds section at before after now
added section at table ran before after now opened after_is whole rows files starts relative shareable =
    let lines : ran.lines ≡ lines_at section at = table_lines section at table ran.lines opened rows files in
    record {
      table = after_is ∙ ap (with_table before) lines;
      lawful = table_lawful section at table opened whole;
      shared = λ tables. shared_by tables now shareable;
    }
  where
    shared_by : (tables : List Lines) (it : Option Shared) → IfSome it (IsShareable table.head table.end ran) → IfSome it (IsShared section (tables ++ lines_at section at ∷ []))
    shared_by tables None is = tt
    shared_by tables (Some shared) is = record {
      program = table.program.now;
      place = subst (λ n. table.program.now ≡ take (length table.program.now) (drop (n - length table.program.now) section)) (sym is.end_is) opened.place;
      short = subst (λ n. length table.program.now ≤ n) (sym is.end_is) opened.short;
      base = lines_at section at;
      among = Contains-push tables (lines_at section at);
      base_is = ap (λ (l : Lines). l.rows) (sym (table_lines section at table ran.lines opened rows files)) ∙ sym is.rows;
      rows = is.rows ∙ rows ∙ ap (λ h. rows_from h begin (instructions_in h table.program.now)) (sym is.head_is);
      starts = subst (λ (ss : List Start). All (IsStart shared.head table.program.now) ss) (sym is.starts) (subst (λ h. All (IsStart h table.program.now) ran.starts) (sym is.head_is) starts);
      whole = ap (λ h. broken_in h table.program.now) is.head_is ∙ whole;
      relative = ap (λ h. are_relative (instructions_in h table.program.now)) is.head_is ∙ sym relative ∙ is.relative;
      rise = ap (rise_from 0) is.rows ∙ is.rise;
    }

-- ---- a table that ends as one that is shared

lower_self : (address : ℕ) → address < 2 ^ 32 → 0 ≡ lower address address
lower_self address small = omega (arith, small)

-- the row at a place, before those behind it
row_and_rest : (k : ℕ) (rows : List LineRow) (row : LineRow) → slice_get rows k ≡ Some row → (behind : List LineRow) × (drop k rows ≡ row ∷ behind)
row_and_rest k [] row is = absurd cc
row_and_rest zero (first ∷ rows) row is = let same : first ≡ row = cc in (rows, ap (λ (r : LineRow). r ∷ rows) same)
row_and_rest (suc k) (first ∷ rows) row is = row_and_rest k rows row is

none_behind : (k : ℕ) (rows : List LineRow) → slice_get rows k ≡ None → drop k rows ≡ []
none_behind zero [] is = refl
none_behind (suc k) [] is = refl
none_behind zero (first ∷ rows) is = absurd cc
none_behind (suc k) (first ∷ rows) is = none_behind k rows is

-- the bytes from a start on are those of a table's program that is as long and ends there too
start_bytes : (section program rest bytes : List ℕ) (end : ℕ) → program ≡ take (length program) (drop (end - length program) section) → length program ≤ end → (front : List ℕ) → program ≡ front ++ rest
    → bytes ≡ take (length bytes) (drop (end - length bytes) section) → length rest ≡ length bytes → rest ≡ bytes
start_bytes section program rest bytes end place short front parts bytes_place long =
    same_end section rest bytes end (end_ends section program front rest end place short parts) bytes_place long

-- rows from address 0 on, where other ones of the same instructions begin
rows_low : (head : Head) (start : Start) (registers : Registers) (instructions : List Instruction) (ends : List LineRow) → start.address < 2 ^ 32 → registers.address ≡ start.address
    → are_relative instructions ≡ true → ends ≡ rows_from head registers instructions → addresses (rows_from head begin instructions) ≡ map (lower start.address) (addresses ends)
rows_low head start registers instructions ends small is relative ends_are =
    rows_lower head start.address registers begin instructions relative (lower_self start.address small ∙ ap (lower start.address) (sym is)) ∙ ap (λ rows. map (lower start.address) (addresses rows)) (sym ends_are)

-- no row has an address where there is none
none_between : (pc by : ℕ) (rows : List LineRow) → rows ≡ [] → Between pc (map (lower by) (addresses rows)) → ⊥
none_between pc by [] is between = between
none_between pc by (row ∷ rows) is between = absurd cc

-- all addresses of rows that are lower ones of an end have one of the whole
ends_covered : (base : List LineRow) (start : Start) (found : Option LineRow) (pc : ℕ) → rise_from 0 base ≡ true → slice_get base start.rows ≡ found → is_behind base start found ≡ true
    → Between pc (map (lower start.address) (addresses (drop start.rows base))) → is_some (row_at base pc) ≡ true
ends_covered base start None pc rise found within between = absurd (none_between pc start.address (drop start.rows base) (none_behind start.rows base found) between)
ends_covered [] start (Some row) pc rise found within between = absurd cc
ends_covered (first ∷ more) start (Some row) pc rise found within between =
    let both = and_parts (leb start.address row.addr) (leb first.addr (row.addr - start.address)) within in
    let parts = row_and_rest start.rows (first ∷ more) row found in
    end_covered (first ∷ more) first more start.rows start.address row parts.0 pc refl rise parts.1 (leb-true start.address row.addr both.0) (leb-true first.addr (row.addr - start.address) both.1)
    (rise_rest start.rows 0 (first ∷ more) row parts.0 rise parts.1)
    (subst (λ rows. Between pc (map (lower start.address) (addresses rows))) parts.1 between)

-- a start's address is one
start_small : (base : List LineRow) (start : Start) (found : Option LineRow) → slice_get base start.rows ≡ found → rise_from 0 base ≡ true → is_behind base start found ≡ true → start.address < 2 ^ 32
start_small base start None found rise within = ltb-true start.address (2 ^ 32) within
start_small base start (Some row) found rise within =
    let both = and_parts (leb start.address row.addr) (leb (first_addr base) (row.addr - start.address)) within in
    let parts = row_and_rest start.rows base row found in
    let less = leb-true start.address row.addr both.0 in
    let small = rise_small start.rows 0 base row parts.0 rise parts.1 in
    omega (arith, less, small)

-- what is known of a table that ends as one that is shared
pub record Told (shared : Shared) (table : Table) : Type 0 where
  pub whole : broken_in table.head table.program.now ≡ None
  pub covered : (pc : ℕ) → is_some (row_at (rows_from table.head begin (instructions_in table.head table.program.now)) pc) ≡ true → is_some (row_at shared.rows pc) ≡ true

pub told : (section : List ℕ) (tables : List Lines) (shared : Shared) (at : ℕ) (table : Table) → IsShared section tables shared → IsTable section at table → EndsAs shared table → Told shared table
unfolding is_within
told section tables shared at table is opened ends =
    let start = All-contains (IsStart shared.head is.program) shared.starts ends.start is.starts ends.among in
    let place : table.program.now ≡ take (length table.program.now) (drop (shared.end - length table.program.now) section) =
    subst (λ n. table.program.now ≡ take (length table.program.now) (drop (n - length table.program.now) section)) ends.end opened.place in
    let bytes : start.rest ≡ table.program.now = start_bytes section is.program start.rest table.program.now shared.end is.place is.short start.ends.0 start.ends.1 place (start.size ∙ ends.size) in
    let relative : are_relative (instructions_in shared.head start.rest) ≡ true = start.relative is.relative in
    let small = start_small shared.rows ends.start (slice_get shared.rows ends.start.rows) refl is.rise ends.within in
    let ends_are : drop ends.start.rows shared.rows ≡ rows_from shared.head start.registers (instructions_in shared.head start.rest) = ap (drop ends.start.rows) is.rows ∙ start.rows in
    let low = rows_low shared.head ends.start start.registers (instructions_in shared.head start.rest) (drop ends.start.rows shared.rows) small start.address relative ends_are in
    rw (ends.head, ← bytes) (record {
      whole = sym start.broken ∙ is.whole;
      covered = λ pc has. ends_covered shared.rows ends.start (slice_get shared.rows ends.start.rows) pc is.rise refl ends.within
          (subst (λ ns. Between pc ns) low (row_between (rows_from shared.head begin (instructions_in shared.head start.rest)) pc has));
    })

-- ---- table by table

found_append : (xs ys : List Lines) (pc : ℕ) → found_at (xs ++ ys) pc ≡ option_or (found_at xs pc) (found_at ys pc)
found_append [] ys pc = refl
found_append (x ∷ xs) ys pc = ap (option_or (with_row pc x)) (found_append xs ys pc) ∙ or_assoc (with_row pc x) (found_at xs pc) (found_at ys pc)
  where
    or_assoc : (a b c : Option (Lines × LineRow)) → option_or a (option_or b c) ≡ option_or (option_or a b) c
    or_assoc None b c = refl
    or_assoc (Some a) b c = refl

some_mapped : (table : Lines) (pc : ℕ) (o : Option LineRow) → row_at table.rows pc ≡ o → is_some o ≡ true → is_some (with_row pc table) ≡ true
some_mapped table pc None found is = absurd cc
some_mapped table pc (Some row) found is = rw found refl

some_or : (a b : Option (Lines × LineRow)) → is_some a ≡ true → is_some (option_or a b) ≡ true
some_or None b is = absurd cc
some_or (Some a) b is = refl

some_behind : (a b : Option (Lines × LineRow)) → is_some b ≡ true → is_some (option_or a b) ≡ true
some_behind None b is = is
some_behind (Some a) b is = refl

-- where a table among others has a row of an address, they have
found_among : (tables : List Lines) (base : Lines) (pc : ℕ) → Contains tables base → is_some (row_at base.rows pc) ≡ true → is_some (found_at tables pc) ≡ true
found_among tables base pc among has =
    All-contains (λ (table : Lines). is_some (row_at table.rows pc) ≡ true → is_some (found_at tables pc) ≡ true) tables base (each tables) among has
  where
    each : (ts : List Lines) → All (λ (table : Lines). is_some (row_at table.rows pc) ≡ true → is_some (found_at ts pc) ≡ true) ts
    each [] = All-nil _
    each (t ∷ ts) =
        All-cons (λ (table : Lines). is_some (row_at table.rows pc) ≡ true → is_some (found_at (t ∷ ts) pc) ≡ true) t ts
        (λ has. some_or (with_row pc t) (found_at ts pc) (some_mapped t pc (row_at t.rows pc) refl has))
        (All-weaker (λ (table : Lines). is_some (row_at table.rows pc) ≡ true → is_some (found_at ts pc) ≡ true) (λ (table : Lines). is_some (row_at table.rows pc) ≡ true → is_some (found_at (t ∷ ts) pc) ≡ true)
        (λ table later has. some_behind (with_row pc t) (found_at ts pc) (later has)) ts (each ts))

-- a table of whose addresses those before it have rows makes no difference
found_without : (tables others : List Lines) (table : Lines) (pc : ℕ) → (is_some (row_at table.rows pc) ≡ true → is_some (found_at tables pc) ≡ true) → found_at (tables ++ table ∷ others) pc ≡ found_at (tables ++ others) pc
found_without tables others table pc covered = found_append tables (table ∷ others) pc ∙ by (found_at tables pc) (row_at table.rows pc) refl refl ∙ sym (found_append tables others pc)
  where
    by : (found : Option (Lines × LineRow)) (row : Option LineRow) → found_at tables pc ≡ found → row_at table.rows pc ≡ row
        → option_or (found_at tables pc) (option_or (with_row pc table) (found_at others pc)) ≡ option_or (found_at tables pc) (found_at others pc)
    by (Some found) row is row_is = rw is refl
    by None None is row_is = rw (is, row_is) refl
    by None (Some row) is row_is = let has : is_some (found_at tables pc) ≡ true = covered (ap is_some row_is) in absurd (no_row has is)
      where
        no_row : is_some (found_at tables pc) ≡ true → found_at tables pc ≡ None → ⊥
        no_row has none = let both : true ≡ false = sym has ∙ ap is_some none in cc

with_more : (gathered : Gathered) (tables : List Lines) (table : Lines) → with_tables gathered (tables ++ table ∷ []) ≡ with_table (with_tables gathered tables) table
unfolding with_tables
with_more gathered [] table = refl
with_more gathered (first ∷ tables) table = with_more (with_table gathered first) tables table

-- the tables at the offsets before a rest are gathered, and a program is shared
pub record SoFar (section : List ℕ) (offsets rest : List ℕ) (gathered : Gathered) (shared : Option Shared) : Type 0 where
  pub tables : List Lines
  pub gathered_is : gathered ≡ with_tables nothing tables
  pub same : (pc : ℕ) → found_at (tables_at section offsets) pc ≡ found_at (tables ++ tables_at section rest) pc
  pub fault : tables_fault section offsets ≡ tables_fault section rest
  pub shared_is : IfSome shared (IsShared section tables)

pub none_so_far : (section offsets : List ℕ) (gathered : Gathered) → gathered ≡ nothing → SoFar section offsets offsets gathered None
unfolding with_tables
none_so_far section offsets gathered is = record { tables = []; gathered_is = is; same = λ pc. refl; fault = refl; shared_is = tt }

fault_on : (section rest others : List ℕ) (at : ℕ) → rest ≡ at ∷ others → fault_at section at ≡ None → tables_fault section rest ≡ tables_fault section others
fault_on section rest others at is lawful = rw (is, lawful) refl

-- the first fault of a table is that of all
fault_here : (section offsets rest others : List ℕ) (at : ℕ) (gathered : Gathered) (shared : Option Shared) (fault : LineFault) → SoFar section offsets rest gathered shared → rest ≡ at ∷ others
    → fault_at section at ≡ Some fault → tables_fault section offsets ≡ Some fault
fault_here section offsets rest others at gathered shared fault so is fails = so.fault ∙ rw (is, fails) refl

pub head_fails : (section offsets rest others : List ℕ) (at : ℕ) (gathered : Gathered) (shared : Option Shared) (fault none : LineFault) → SoFar section offsets rest gathered shared → rest ≡ at ∷ others
    → (fault ≡ none) ⊎ (head_fault section at ≡ Some fault) → (fault ≡ none) ⊎ (tables_fault section offsets ≡ Some fault)
head_fails section offsets rest others at gathered shared fault none so is (inl same) = inl same
head_fails section offsets rest others at gathered shared fault none so is (inr fails) = inr (fault_here section offsets rest others at gathered shared fault so is (head_broken section at fault fails))

pub table_fails : (section offsets rest others : List ℕ) (at : ℕ) (gathered : Gathered) (shared : Option Shared) (fault none : LineFault) → SoFar section offsets rest gathered shared → rest ≡ at ∷ others
    → (fault ≡ none) ⊎ (fault_at section at ≡ Some fault) → (fault ≡ none) ⊎ (tables_fault section offsets ≡ Some fault)
table_fails section offsets rest others at gathered shared fault none so is (inl same) = inl same
table_fails section offsets rest others at gathered shared fault none so is (inr fails) = inr (fault_here section offsets rest others at gathered shared fault so is fails)

-- at the end all are gathered
pub all_gathered : (section offsets rest : List ℕ) (gathered : Gathered) (shared : Option Shared) → SoFar section offsets rest gathered shared → rest ≡ [] → IsGathered (tables_at section offsets) gathered
all_gathered section offsets rest gathered shared so is = record {
  tables = so.tables;
  gathered_is = so.gathered_is;
  same = λ pc. so.same pc ∙ ap (λ offs. found_at (so.tables ++ tables_at section offs) pc) is ∙ ap (λ ts. found_at ts pc) (append-nil so.tables);
}

pub all_lawful : (section offsets rest : List ℕ) (gathered : Gathered) (shared : Option Shared) → SoFar section offsets rest gathered shared → rest ≡ [] → tables_fault section offsets ≡ None
all_lawful section offsets rest gathered shared so is = so.fault ∙ ap (tables_fault section) is

pub ran_on : (section offsets rest others : List ℕ) (at : ℕ) (gathered more : Gathered) (shared now : Option Shared) → SoFar section offsets rest gathered shared → rest ≡ at ∷ others → Adds section at gathered more now
    → SoFar section offsets others more now
ran_on section offsets rest others at gathered more shared now so is adds = record {
  tables = so.tables ++ lines_at section at ∷ [];
  gathered_is = adds.table ∙ ap (λ g. with_table g (lines_at section at)) so.gathered_is ∙ sym (with_more nothing so.tables (lines_at section at));
  same = λ pc. so.same pc ∙ ap (λ offs. found_at (so.tables ++ tables_at section offs) pc) is ∙ ap (λ ts. found_at ts pc) (sym (append_assoc so.tables (lines_at section at ∷ []) (tables_at section others)));
  fault = so.fault ∙ fault_on section rest others at is adds.lawful;
  shared_is = adds.shared so.tables;
}

pub covered_on : (section offsets rest others : List ℕ) (at : ℕ) (gathered : Gathered) (shared : Option Shared) (table : Table) → SoFar section offsets rest gathered shared → rest ≡ at ∷ others → IsTable section at table
    → Covered shared table → SoFar section offsets others gathered shared
covered_on section offsets rest others at gathered None table so is opened covered = absurd covered
covered_on section offsets rest others at gathered (Some shared) table so is opened ends =
    let it = told section so.tables shared at table so.shared_is opened ends in
    let rows : (lines_at section at).rows ≡ rows_from table.head begin (instructions_in table.head table.program.now) = rows_at section at table opened in
    record {
      tables = so.tables;
      gathered_is = so.gathered_is;
      same = λ pc. so.same pc ∙ ap (λ offs. found_at (so.tables ++ tables_at section offs) pc) is
          ∙ found_without so.tables (tables_at section others) (lines_at section at) pc
          (λ has. found_among so.tables so.shared_is.base pc so.shared_is.among
          (rw so.shared_is.base_is (it.covered pc (rw rows at has))));
      fault = so.fault ∙ fault_on section rest others at is (table_lawful section at table opened it.whole);
      shared_is = so.shared_is;
    }
