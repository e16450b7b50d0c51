-- Many line tables, by what is kept of them.
use Rattle.std.proofs.Common.{◌≡◌, ℕ, zero, suc, ◌+◌, ◌-◌, ◌<◌, Bool, true, false, cond, eqb, ltb, List, [], ◌∷◌, ◌++◌, length, length-append, append_assoc, map, Option, Some, None, refl, sym, ap, subst, ◌∙◌, inl, inr, arith}
use Rattle.std.specs.Prelude.{find}
use Rattle.std.specs.List.{flat_map, slice_get}
use Rattle.std.specs.Option.{option_and_then, option_map, option_or}
use Rattle.std.proofs.Math.Path.{fun_ext}
use Rattle.std.proofs.lemmas.Bool.{cases_lt, le-ltb, lt-ltb}
use Rattle.std.proofs.lemmas.List.{append-nil, map-append}
use Rattle.std.proofs.lemmas.List.Folds.{find-append}
use Rattle.std.proofs.lemmas.Option.{slice_get_past}
use Rattle.std.proofs.lemmas.Simd.{map-map}
use Rattle.om_base.specs.declared.span.Span.{Span}
use Rattle.om_claims.specs.Claims.{meant_at}
use Rattle.om_claims.specs.Pieces.{IsIndexOf, owner_in}
use Rattle.om_claims.specs.declared.claim.Claim.{Claim}
use Rattle.om_claims.specs.declared.piece.Piece.{Piece}
use Rattle.om_line.specs.Claims.{claims_of}
use Rattle.om_line.specs.Gathering.{file_place, kept_row, nothing, with_table, with_tables}
use Rattle.om_line.specs.Kept.{lines_told_by}
use Rattle.om_line.specs.Lines.{ranged, row_at}
use Rattle.om_line.specs.Sharing.{IsGathered}
use Rattle.om_line.specs.Tables.{LineFacts, found_at, line_facts, name_of}
use Rattle.om_line.specs.declared.gathering.Gathered.{Gathered}
use Rattle.om_line.specs.declared.gathering.KeptRow.{KeptRow}
use Rattle.om_line.specs.declared.lines.Lines.{Lines}
use Rattle.om_line.specs.declared.row.LineRow.{LineRow}
use Rattle.om_line.proofs.RowLemmas.{claims_in, has, rows_alone, thing_meant}

-- ---- all rows with their addresses

kept_ranged : ℕ → Lines → LineRow × Span → KeptRow × Span
kept_ranged before table r = (kept_row before (length table.files) r.0, r.1)

-- those of tables whose files stand behind so many others
all_ranged : ℕ → List Lines → List (KeptRow × Span)
all_ranged before [] = []
all_ranged before (table ∷ tables) = map (kept_ranged before table) (ranged table.rows) ++ all_ranged (before + length table.files) tables

all_files : List Lines → List (List ℕ)
all_files tables = flat_map (λ table. table.files) tables

-- ---- what is gathered

table_rows : (before : ℕ) (table : Lines) → map (λ r. r.0) (map (kept_ranged before table) (ranged table.rows)) ≡ map (kept_row before (length table.files)) table.rows
unfolding kept_ranged
table_rows before table =
    map-map (λ r. r.0) (kept_ranged before table) (ranged table.rows)
    ∙ sym (map-map (kept_row before (length table.files)) (λ r. r.0) (ranged table.rows))
    ∙ ap (map (kept_row before (length table.files))) (rows_alone table.rows)

table_claims : (before : ℕ) (table : Lines) → claims_in (map (kept_ranged before table) (ranged table.rows)) ≡ claims_of table.rows
unfolding kept_ranged
table_claims before table = map-map (λ (r : KeptRow × Span). record { span = r.1; depth = 0 }) (kept_ranged before table) (ranged table.rows)

rows_gathered : (gathered : Gathered) (tables : List Lines) → (with_tables gathered tables).rows ≡ gathered.rows ++ map (λ r. r.0) (all_ranged (length gathered.files) tables)
unfolding with_tables all_ranged
rows_gathered gathered [] = sym (append-nil gathered.rows)
rows_gathered gathered (table ∷ tables) =
    rows_gathered (with_table gathered table) tables
    ∙ append_assoc gathered.rows (map (kept_row (length gathered.files) (length table.files)) table.rows) _
    ∙ ap (λ n. gathered.rows ++ (map (kept_row (length gathered.files) (length table.files)) table.rows ++ map (λ r. r.0) (all_ranged n tables))) (length-append gathered.files table.files)
    ∙ ap (λ rows. gathered.rows ++ (rows ++ map (λ r. r.0) (all_ranged (length gathered.files + length table.files) tables))) (sym (table_rows (length gathered.files) table))
    ∙ ap (λ rows. gathered.rows ++ rows) (sym (map-append (λ r. r.0) (map (kept_ranged (length gathered.files) table) (ranged table.rows)) (all_ranged (length gathered.files + length table.files) tables)))

claims_gathered : (gathered : Gathered) (tables : List Lines) → (with_tables gathered tables).claims ≡ gathered.claims ++ claims_in (all_ranged (length gathered.files) tables)
unfolding with_tables all_ranged
claims_gathered gathered [] = sym (append-nil gathered.claims)
claims_gathered gathered (table ∷ tables) =
    claims_gathered (with_table gathered table) tables
    ∙ append_assoc gathered.claims (claims_of table.rows) _
    ∙ ap (λ n. gathered.claims ++ (claims_of table.rows ++ claims_in (all_ranged n tables))) (length-append gathered.files table.files)
    ∙ ap (λ claims. gathered.claims ++ (claims ++ claims_in (all_ranged (length gathered.files + length table.files) tables))) (sym (table_claims (length gathered.files) table))
    ∙ ap (λ claims. gathered.claims ++ claims)
    (sym (map-append (λ (r : KeptRow × Span). record { span = r.1; depth = 0 }) (map (kept_ranged (length gathered.files) table) (ranged table.rows)) (all_ranged (length gathered.files + length table.files) tables)))

files_gathered : (gathered : Gathered) (tables : List Lines) → (with_tables gathered tables).files ≡ gathered.files ++ all_files tables
unfolding with_tables all_files
files_gathered gathered [] = sym (append-nil gathered.files)
files_gathered gathered (table ∷ tables) = files_gathered (with_table gathered table) tables ∙ append_assoc gathered.files table.files (all_files tables)

-- ---- the first row that has an address

-- as it is kept
first_kept : ℕ → List Lines → ℕ → Option KeptRow
first_kept before tables pc = option_map (λ r. r.0) (find (has pc) (all_ranged before tables))

found_kept : (before : ℕ) (table : Lines) (rows : List (LineRow × Span)) (pc : ℕ)
    → option_map (λ r. r.0) (find (has pc) (map (kept_ranged before table) rows)) ≡ option_map (kept_row before (length table.files)) (option_map (λ r. r.0) (find (has pc) rows))
unfolding kept_ranged
found_kept before table [] pc = refl
found_kept before table (r ∷ rows) pc = found_by (has pc r) (found_kept before table rows pc)
  where
    found_by : (here : Bool) → option_map (λ r. r.0) (find (has pc) (map (kept_ranged before table) rows)) ≡ option_map (kept_row before (length table.files)) (option_map (λ r. r.0) (find (has pc) rows))
        → option_map (λ x. x.0) (cond here (Some (kept_ranged before table r)) (find (has pc) (map (kept_ranged before table) rows)))
        ≡ option_map (kept_row before (length table.files)) (option_map (λ x. x.0) (cond here (Some r) (find (has pc) rows)))
    found_by true later = refl
    found_by false later = later

first_or : {X Y : Type 0} (f : X → Y) (one other : Option X) → option_map f (option_or one other) ≡ option_or (option_map f one) (option_map f other)
first_or f None other = refl
first_or f (Some x) other = refl

kept_first : (before : ℕ) (table : Lines) (tables : List Lines) (pc : ℕ)
    → first_kept before (table ∷ tables) pc ≡ option_or (option_map (kept_row before (length table.files)) (row_at table.rows pc)) (first_kept (before + length table.files) tables pc)
unfolding first_kept all_ranged
kept_first before table tables pc =
    ap (option_map (λ r. r.0)) (find-append (has pc) (map (kept_ranged before table) (ranged table.rows)) (all_ranged (before + length table.files) tables))
    ∙ first_or (λ r. r.0) (find (has pc) (map (kept_ranged before table) (ranged table.rows))) (find (has pc) (all_ranged (before + length table.files) tables))
    ∙ ap (λ o. option_or o (first_kept (before + length table.files) tables pc)) (found_kept before table (ranged table.rows) pc)

-- ---- its line

line_by : (before : ℕ) (table : Lines) (row : Option LineRow) (later : Option KeptRow) (found : Option (Lines × LineRow)) → option_map (λ kept. kept.row) later ≡ option_map (λ x. x.1) found
    → option_map (λ kept. kept.row) (option_or (option_map (kept_row before (length table.files)) row) later) ≡ option_map (λ x. x.1) (option_or (option_map (λ r. (table, r)) row) found)
line_by before table None later found is = is
line_by before table (Some row) later found is = refl

line_is : (before : ℕ) (tables : List Lines) (pc : ℕ) → option_map (λ kept. kept.row) (first_kept before tables pc) ≡ option_map (λ x. x.1) (found_at tables pc)
unfolding first_kept all_ranged
line_is before [] pc = refl
line_is before (table ∷ tables) pc =
    ap (option_map (λ kept. kept.row)) (kept_first before table tables pc)
    ∙ line_by before table (row_at table.rows pc) (first_kept (before + length table.files) tables pc) (found_at tables pc) (line_is (before + length table.files) tables pc)

-- ---- its file

behind : {X : Type 0} (front xs : List X) (place : ℕ) → slice_get (front ++ xs) (length front + place) ≡ slice_get xs place
behind [] xs place = let same : 0 + place ≡ place = omega arith in ap (slice_get xs) same
behind (x ∷ front) xs place =
    let next : suc (length front) + place ≡ suc (length front + place) = omega arith in
    ap (slice_get (x ∷ (front ++ xs))) next ∙ behind front xs place

in_front : {X : Type 0} (xs ys : List X) (place : ℕ) → place < length xs → slice_get (xs ++ ys) place ≡ slice_get xs place
in_front [] ys place less = absurd (omega (arith, less))
in_front (x ∷ xs) ys zero less = refl
in_front (x ∷ xs) ys (suc place) less = in_front xs ys place (omega (arith, less))

-- the name at the place that a row keeps
name_kept : (front rest : List (List ℕ)) (table : Lines) (row : LineRow)
    → option_and_then (slice_get (front ++ (table.files ++ rest))) (file_place (length front) (length table.files) row) ≡ name_of table row
name_kept front rest table row = by_line (eqb row.line 0) (eqb row.file 0)
  where
    place_by : option_and_then (slice_get (front ++ (table.files ++ rest))) (option_map (λ place. length front + place) (cond (ltb (row.file - 1) (length table.files)) (Some (row.file - 1)) None))
        ≡ slice_get table.files (row.file - 1)
    place_by = elim (cases_lt (row.file - 1) (length table.files)) [
      | inl less ↦ rw (lt-ltb (row.file - 1) (length table.files) less) (behind front (table.files ++ rest) (row.file - 1) ∙ in_front table.files rest (row.file - 1) less)
      | inr more ↦ rw (le-ltb (row.file - 1) (length table.files) more) (sym (slice_get_past table.files (row.file - 1) more))
    ]

    by_line : (no_line no_file : Bool) → option_and_then (slice_get (front ++ (table.files ++ rest)))
        (cond no_line None (option_map (λ place. length front + place) (cond no_file None (cond (ltb (row.file - 1) (length table.files)) (Some (row.file - 1)) None))))
        ≡ cond no_line None (cond no_file None (slice_get table.files (row.file - 1)))
    by_line true no_file = refl
    by_line false true = refl
    by_line false false = place_by

file_by : (front rest : List (List ℕ)) (table : Lines) (row : Option LineRow) (later : Option KeptRow) (found : Option (Lines × LineRow))
    → option_and_then (λ kept. option_and_then (slice_get (front ++ (table.files ++ rest))) kept.file) later ≡ option_and_then (λ x. name_of x.0 x.1) found
    → option_and_then (λ kept. option_and_then (slice_get (front ++ (table.files ++ rest))) kept.file) (option_or (option_map (kept_row (length front) (length table.files)) row) later)
    ≡ option_and_then (λ x. name_of x.0 x.1) (option_or (option_map (λ r. (table, r)) row) found)
file_by front rest table None later found is = is
file_by front rest table (Some row) later found is = name_kept front rest table row

file_is : (front : List (List ℕ)) (tables : List Lines) (pc : ℕ)
    → option_and_then (λ kept. option_and_then (slice_get (front ++ all_files tables)) kept.file) (first_kept (length front) tables pc) ≡ option_and_then (λ x. name_of x.0 x.1) (found_at tables pc)
unfolding first_kept all_ranged all_files
file_is front [] pc = refl
file_is front (table ∷ tables) pc =
    ap (option_and_then (λ kept. option_and_then (slice_get (front ++ (table.files ++ all_files tables))) kept.file)) (kept_first (length front) table tables pc)
    ∙ file_by front (all_files tables) table (row_at table.rows pc) (first_kept (length front + length table.files) tables pc) (found_at tables pc)
    (ap (λ files. option_and_then (λ kept. option_and_then (slice_get files) kept.file) (first_kept (length front + length table.files) tables pc)) (sym (append_assoc front table.files (all_files tables)))
    ∙ ap (λ n. option_and_then (λ kept. option_and_then (slice_get ((front ++ table.files) ++ all_files tables)) kept.file) (first_kept n tables pc)) (sym (length-append front table.files))
    ∙ file_is (front ++ table.files) tables pc)

-- ---- what is kept

kept_is : (tables : List Lines) (pieces : List Piece) (pc : ℕ) → IsIndexOf (with_tables nothing tables).claims pieces
    → option_and_then (slice_get (with_tables nothing tables).rows) (owner_in pieces pc) ≡ first_kept 0 tables pc
unfolding first_kept
kept_is tables pieces pc index =
    ap (option_and_then (slice_get (with_tables nothing tables).rows)) (index pc)
    ∙ ap (λ claims. option_and_then (slice_get (with_tables nothing tables).rows) (meant_at claims pc)) (claims_gathered nothing tables)
    ∙ ap (λ rows. option_and_then (slice_get rows) (meant_at (claims_in (all_ranged 0 tables)) pc)) (rows_gathered nothing tables)
    ∙ thing_meant (all_ranged 0 tables) pc

facts_by : (ℕ → Option LineRow) → (ℕ → Option (List ℕ)) → LineFacts
facts_by lines files = record { line_at = lines; file_at = files }

-- what is gathered of some tables, with the index of what its rows claim, tells what they do
tables_told : (tables : List Lines) (gathered : Gathered) (claims : List Claim) (pieces : List Piece) → gathered ≡ with_tables nothing tables → claims ≡ gathered.claims → IsIndexOf claims pieces
    → lines_told_by (record { rows = gathered.rows; files = gathered.files; pieces = pieces }) ≡ line_facts tables
unfolding lines_told_by line_facts facts_by
tables_told tables gathered claims pieces is same index =
    let index_is : IsIndexOf (with_tables nothing tables).claims pieces = subst (λ cs. IsIndexOf cs pieces) (same ∙ ap (λ g. g.claims) is) index in
    let kept : (pc : ℕ) → option_and_then (slice_get gathered.rows) (owner_in pieces pc) ≡ first_kept 0 tables pc
    = λ pc. ap (λ g. option_and_then (slice_get g.rows) (owner_in pieces pc)) is ∙ kept_is tables pieces pc index_is in
    let files : gathered.files ≡ all_files tables = ap (λ g. g.files) is ∙ files_gathered nothing tables in
    let lines_are : (pc : ℕ) → option_map (λ found. found.row) (option_and_then (slice_get gathered.rows) (owner_in pieces pc)) ≡ option_map (λ x. x.1) (found_at tables pc)
    = λ pc. ap (option_map (λ found. found.row)) (kept pc) ∙ line_is 0 tables pc in
    let files_are : (pc : ℕ) → option_and_then (λ found. option_and_then (slice_get gathered.files) found.file) (option_and_then (slice_get gathered.rows) (owner_in pieces pc))
    ≡ option_and_then (λ x. name_of x.0 x.1) (found_at tables pc)
    = λ pc. ap (option_and_then (λ found. option_and_then (slice_get gathered.files) found.file)) (kept pc)
    ∙ ap (λ names. option_and_then (λ found. option_and_then (slice_get names) found.file) (first_kept 0 tables pc)) files
    ∙ file_is [] tables pc in
    ap (λ h. facts_by h (λ pc. option_and_then (λ found. option_and_then (slice_get gathered.files) found.file) (option_and_then (slice_get gathered.rows) (owner_in pieces pc)))) (fun_ext lines_are)
    ∙ ap (facts_by (λ pc. option_map (λ x. x.1) (found_at tables pc))) (fun_ext files_are)

-- tables that tell the same of each address
pub facts_same : (tables others : List Lines) → ((pc : ℕ) → found_at others pc ≡ found_at tables pc) → line_facts tables ≡ line_facts others
unfolding line_facts facts_by
facts_same tables others same =
    ap (λ h. facts_by h (λ pc. option_and_then (λ x. name_of x.0 x.1) (found_at tables pc))) (fun_ext (λ pc. ap (option_map (λ x. x.1)) (sym (same pc))))
    ∙ ap (facts_by (λ pc. option_map (λ x. x.1) (found_at others pc))) (fun_ext (λ pc. ap (option_and_then (λ x. name_of x.0 x.1)) (sym (same pc))))

-- what is gathered tells what all tables do
pub gathered_told : (others : List Lines) (gathered : Gathered) (claims : List Claim) (pieces : List Piece) → IsGathered others gathered → claims ≡ gathered.claims → IsIndexOf claims pieces
    → lines_told_by (record { rows = gathered.rows; files = gathered.files; pieces = pieces }) ≡ line_facts others
gathered_told others gathered claims pieces is same index = tables_told is.tables gathered claims pieces is.gathered_is same index ∙ facts_same is.tables others is.same
