-- What the reader of .debug_info finds, unit by unit.
use Rattle.std.proofs.Common.{◌≡◌, ◌≢◌, ℕ, ◌+◌, ◌-◌, ◌<◌, ◌≤◌, true, false, List, [], ◌∷◌, ◌++◌, length, take, drop, Option, Some, None, refl, sym, ap, subst, ◌∙◌, ◌⊎◌, arith, inl, inr, length-append, append_assoc}
use Rattle.std.specs.BTreeMap.{IsEmpty, get}
use Rattle.std.specs.Ordering.{nat_cmp}
use Rattle.std.specs.Prelude.{IfSome}
use Rattle.std.proofs.Math.Path.{fun_ext}
use Rattle.om_base.specs.Reading.{EachFrom}
use Rattle.om_base.proofs.ReadingLaws.{append-nil, each_more}
use Rattle.om_die.specs.Abbreviations.{abbreviation_of}
use Rattle.om_die.specs.Abbreviations as table
use Rattle.om_die.specs.Entries.{AreDies}
use Rattle.om_die.specs.Forms.{Around}
use Rattle.om_die.specs.AbbreviationIndex.{IsIndex, find_in}
use Rattle.om_die.specs.UnitList.{AreParts, AreTables, IsFirstUnit, parts_of, piece_of, skips_in, with_piece}
use Rattle.om_die.specs.Refusals.{AreDiesRefused, IsSectionRefused, IsUnitRefused}
use Rattle.om_die.specs.Units.{IsPiece, IsWhole, Piece, Read, Sections, Skipped, debug_abbrev_offset, dies_in, head_fault, is_read, most_dies, unit_length, units_in, version}
use Rattle.om_die.specs.declared.fault.DieFault.{DieFault}
use Rattle.om_die.specs.declared.fault.DieFault.TheVariants as d
use Rattle.om_die.specs.declared.unit_list.Part.{Part}
use Rattle.om_die.specs.declared.unit_list.Part.TheVariants as part
use Rattle.om_die.specs.declared.unit_list.Parts.{Parts}
use Rattle.om_die.specs.declared.abbreviation_table.Table.{Table}
use Rattle.om_die.specs.declared.abbreviation_tables.Tables.{Tables}
use Rattle.om_die.specs.declared.unit.Unit.{Unit}
use Rattle.om_die.proofs.HeadLaws.{lawful, whole_cut}

-- ---- one unit

pub index_finds : (bytes : List ℕ) (table : Table) (is : IsIndex bytes table) → find_in table ≡ abbreviation_of is.entries
index_finds bytes table is = fun_ext is.first

pub fits_whole : (at : ℕ) (bytes : List ℕ) (size : ℕ) → head_fault at bytes ≡ None → size ≡ unit_length bytes → 4 + size ≤ length bytes
fits_whole at bytes size e is = let l = lawful at bytes e in omega (arith, l.whole)

pub fits_head : (at : ℕ) (bytes : List ℕ) (size : ℕ) → head_fault at bytes ≡ None → is_read bytes ≡ true → size ≡ 4 + unit_length bytes → 11 ≤ size
fits_head at bytes size e read is = let l = lawful at bytes e in omega (arith, l.head read)

pub first_skipped : (sections : Sections) (left at : ℕ) (bytes unit rest : List ℕ) → head_fault at bytes ≡ None → unit ≡ take (4 + unit_length bytes) bytes → bytes ≡ unit ++ rest
    → is_read bytes ≡ false → IsFirstUnit sections left at bytes (Skipped at (length unit)) rest
unfolding IsPiece dies_in
first_skipped sections left at bytes unit rest e cut parts other =
    let whole = whole_cut at bytes e in
    record {
      front = unit;
      parts = parts;
      is = record {
        whole = subst (IsWhole at) (sym cut) whole.0;
        is_skipped = ap (λ (b : List ℕ). is_read b) cut ∙ sym whole.1.read ∙ other;
        at_is = refl;
        size_is = refl;
      };
      few = omega arith;
    }

pub first_unit : (sections : Sections) (left at : ℕ) (bytes front rest : List ℕ) (entries : List table.Entry) (unit : Unit) → head_fault at bytes ≡ None → front ≡ take (4 + unit_length bytes) bytes → bytes ≡ front ++ rest
    → is_read bytes ≡ true → table.IsTable (drop (debug_abbrev_offset bytes) sections.abbrev_) entries → unit.at ≡ at → unit.version ≡ version front
    → AreDies (record { unit = at; strings = sections.strings }) (abbreviation_of entries) (at + 11) (drop 11 front) unit.dies → length unit.dies ≤ left
    → IsFirstUnit sections left at bytes (Read unit) rest
unfolding IsPiece dies_in
first_unit sections left at bytes front rest entries unit e cut parts read is_table at_is version_is dies few =
    let whole = whole_cut at bytes e in
    let here : is_read (take (4 + unit_length bytes) bytes) ≡ true = sym whole.1.read ∙ read in
    let offset : debug_abbrev_offset bytes ≡ debug_abbrev_offset front = whole.1.offset here ∙ ap (λ (b : List ℕ). debug_abbrev_offset b) (sym cut) in
    record {
      front = front;
      parts = parts;
      is = record {
        whole = subst (IsWhole at) (sym cut) whole.0;
        is_read = ap (λ (b : List ℕ). is_read b) cut ∙ here;
        at_is = at_is;
        version_is = version_is;
        entries = entries;
        table = subst (λ n. table.IsTable (drop n sections.abbrev_) entries) offset is_table;
        dies = dies;
      };
      few = omega (arith, few);
    }

pub first_read : (sections : Sections) (left at : ℕ) (bytes front rest : List ℕ) (kept : Table) (unit : Unit) → head_fault at bytes ≡ None → front ≡ take (4 + unit_length bytes) bytes → bytes ≡ front ++ rest
    → is_read bytes ≡ true → IsIndex (drop (debug_abbrev_offset bytes) sections.abbrev_) kept → unit.at ≡ at → unit.version ≡ version front
    → AreDies (record { unit = at; strings = sections.strings }) (find_in kept) (at + 11) (drop 11 front) unit.dies → length unit.dies ≤ left
    → IsFirstUnit sections left at bytes (Read unit) rest
first_read sections left at bytes front rest kept unit e cut parts read index at_is version_is dies few =
    let around : Around = record { unit = at; strings = sections.strings } in
    first_unit sections left at bytes front rest index.entries unit e cut parts read index.are at_is version_is
    (subst (λ find. AreDies around find (at + 11) (drop 11 front) unit.dies) (index_finds _ kept index) dies) few

pub refused_unit : (sections : Sections) (left at : ℕ) (bytes front : List ℕ) (entries : List table.Entry) (fault : DieFault) → head_fault at bytes ≡ None → front ≡ take (4 + unit_length bytes) bytes
    → is_read bytes ≡ true → table.IsTable (drop (debug_abbrev_offset bytes) sections.abbrev_) entries
    → AreDiesRefused (record { unit = at; strings = sections.strings }) (abbreviation_of entries) left (at + 11) (drop 11 front) fault
    → IsUnitRefused sections left at bytes fault
refused_unit sections left at bytes front entries fault e cut read is_table refused =
    let around : Around = record { unit = at; strings = sections.strings } in
    record {
      lawful = e;
      is_read = read;
      entries = entries;
      table = is_table;
      dies = subst (λ (b : List ℕ). AreDiesRefused around (abbreviation_of entries) left (at + 11) (drop 11 b) fault) cut refused;
    }

pub unit_refused : (sections : Sections) (left at : ℕ) (bytes front : List ℕ) (kept : Table) (fault : DieFault) → head_fault at bytes ≡ None → front ≡ take (4 + unit_length bytes) bytes
    → is_read bytes ≡ true → IsIndex (drop (debug_abbrev_offset bytes) sections.abbrev_) kept
    → (fault ≡ d.NoMemory) ⊎ AreDiesRefused (record { unit = at; strings = sections.strings }) (find_in kept) left (at + 11) (drop 11 front) fault
    → (fault ≡ d.NoMemory) ⊎ ((head_fault at bytes ≡ Some fault) ⊎ IsUnitRefused sections left at bytes fault)
unit_refused sections left at bytes front kept fault e cut read index (inl none) = inl none
unit_refused sections left at bytes front kept fault e cut read index (inr refused) =
    let around : Around = record { unit = at; strings = sections.strings } in
    inr (inr (refused_unit sections left at bytes front index.entries fault e cut read index.are
    (subst (λ find. AreDiesRefused around find left (at + 11) (drop 11 front) fault) (index_finds _ kept index) refused)))

-- ---- the table of a unit

pub index_at : (section : List ℕ) (tables : Tables) (offset : ℕ) (table : Table) (bytes : List ℕ) → AreTables section tables → get nat_cmp tables.by_offset offset ≡ Some table
    → offset ≡ debug_abbrev_offset bytes → IsIndex (drop (debug_abbrev_offset bytes) section) table
index_at section tables offset table bytes are found is =
    let at : IsIndex (drop offset section) table = subst (λ (o : Option Table). IfSome o (λ t. IsIndex (drop offset section) t)) found (are offset) in
    subst (λ n. IsIndex (drop n section) table) is at

-- ---- the units so far

pub dies_more : (pieces : List Piece) (piece : Piece) → dies_in (pieces ++ piece ∷ []) ≡ dies_in pieces + dies_in (piece ∷ [])
unfolding dies_in
dies_more [] piece = omega arith
dies_more (Read unit ∷ pieces) piece = omega (arith, dies_more pieces piece)
dies_more (Skipped place size ∷ pieces) piece = dies_more pieces piece

units_more : (pieces more : List Piece) → units_in (pieces ++ more) ≡ units_in pieces ++ units_in more
unfolding units_in
units_more [] more = refl
units_more (Read unit ∷ pieces) more = ap (λ us. unit ∷ us) (units_more pieces more)
units_more (Skipped place size ∷ pieces) more = units_more pieces more

skips_more : (pieces more : List Piece) → skips_in (pieces ++ more) ≡ skips_in pieces ++ skips_in more
unfolding skips_in
skips_more [] more = refl
skips_more (Read unit ∷ pieces) more = skips_more pieces more
skips_more (Skipped place size ∷ pieces) more = ap (λ ss. record { at = place; size = size } ∷ ss) (skips_more pieces more)

parts_by : (pieces : List Piece) (piece : Piece) → with_piece (parts_of pieces) piece ≡ record { units = units_in pieces ++ units_in (piece ∷ []); skipped = skips_in pieces ++ skips_in (piece ∷ []); dies = dies_in pieces + dies_in (piece ∷ []) }
unfolding units_in skips_in dies_in
parts_by pieces (Read unit) = let count : length unit.dies + 0 ≡ length unit.dies = omega arith in rw (append-nil (skips_in pieces), count) refl
parts_by pieces (Skipped place size) = let count : dies_in pieces + 0 ≡ dies_in pieces = omega arith in rw (append-nil (units_in pieces), count) refl

pub parts_more : (pieces : List Piece) (piece : Piece) → with_piece (parts_of pieces) piece ≡ parts_of (pieces ++ piece ∷ [])
parts_more pieces piece = rw (parts_by pieces piece, units_more pieces (piece ∷ []), skips_more pieces (piece ∷ []), dies_more pieces piece) refl

pub some_bytes : (sections : Sections) (at : ℕ) (text : List ℕ) (piece : Piece) → IsPiece sections at text piece → 0 < length text
unfolding IsPiece
some_bytes sections at text (Read unit) is = omega (arith, is.whole.size)
some_bytes sections at text (Skipped place size) is = omega (arith, is.whole.size)

-- the reader stands before this rest, and has kept this of the units before it
pub record IsAt (sections : Sections) (parts : Parts) (rest : List ℕ) : Type 0 where
  pub pieces : List Piece
  pub front : List ℕ
  pub split : sections.info ≡ front ++ rest
  pub each : EachFrom (IsPiece sections) 0 pieces front
  pub kept : parts ≡ parts_of pieces
  pub few : parts.dies ≤ most_dies

pub starts : (sections : Sections) → IsAt sections (parts_of []) sections.info
unfolding dies_in
starts sections = record { pieces = []; front = []; split = refl; each = refl; kept = refl; few = omega arith }

pub goes_on : (sections : Sections) (parts : Parts) (rest : List ℕ) (at : ℕ) (piece : Piece) (tail : List ℕ) → IsAt sections parts rest → at ≡ length sections.info - length rest
    → IsFirstUnit sections (most_dies - parts.dies) at rest piece tail → IsAt sections (with_piece parts piece) tail
goes_on sections parts rest at piece tail is place first =
    let size : length sections.info ≡ length is.front + length rest = ap length is.split ∙ length-append is.front rest in
    let here : at ≡ 0 + length is.front = omega arith in
    let kept : with_piece parts piece ≡ parts_of (is.pieces ++ piece ∷ []) = ap (λ p. with_piece p piece) is.kept ∙ parts_more is.pieces piece in
    let count : (with_piece parts piece).dies ≡ parts.dies + dies_in (piece ∷ []) = ap (λ (p : Parts). p.dies) kept ∙ dies_more is.pieces piece ∙ ap (λ (p : Parts). p.dies + dies_in (piece ∷ [])) (sym is.kept) in
    record {
      pieces = is.pieces ++ piece ∷ [];
      front = is.front ++ first.front;
      split = is.split ∙ ap (λ (b : List ℕ). is.front ++ b) first.parts ∙ sym (append_assoc is.front first.front tail);
      each = each_more (IsPiece sections) 0 is.pieces is.front first.front piece is.each (subst (λ n. IsPiece sections n first.front piece) here first.is);
      kept = kept;
      few = omega (arith, count, is.few, first.few);
    }

pub shorter : (sections : Sections) (left at : ℕ) (rest : List ℕ) (piece : Piece) (tail : List ℕ) → IsFirstUnit sections left at rest piece tail → length tail < length rest
shorter sections left at rest piece tail first = omega (arith, some_bytes sections at first.front piece first.is, ap length first.parts, length-append first.front tail)

pub within : (sections : Sections) (parts : Parts) (rest : List ℕ) → IsAt sections parts rest → length rest ≤ length sections.info
within sections parts rest is = omega (arith, ap length is.split, length-append is.front rest)

pub stops : (sections : Sections) (parts : Parts) (rest : List ℕ) (at : ℕ) (fault : DieFault) → IsAt sections parts rest → at ≡ length sections.info - length rest → rest ≢ []
    → (head_fault at rest ≡ Some fault) ⊎ IsUnitRefused sections (most_dies - parts.dies) at rest fault → IsSectionRefused sections fault
stops sections parts rest at fault is place some refused =
    let size : length sections.info ≡ length is.front + length rest = ap length is.split ∙ length-append is.front rest in
    let here : at ≡ length is.front = omega arith in
    let count : parts.dies ≡ dies_in is.pieces = ap (λ (p : Parts). p.dies) is.kept in
    let R : ℕ → ℕ → Type 0 = λ n place. (head_fault place rest ≡ Some fault) ⊎ IsUnitRefused sections (most_dies - n) place rest fault in
    record {
      pieces = is.pieces;
      front = is.front;
      back = rest;
      parts = is.split;
      are = record { each = is.each; few = omega (arith, is.few) };
      some = some;
      refused = subst (λ n. R n (length is.front)) count (subst (λ p. R parts.dies p) here refused);
    }

pub stops_or : (sections : Sections) (parts : Parts) (rest : List ℕ) (at : ℕ) (fault : DieFault) → IsAt sections parts rest → at ≡ length sections.info - length rest → rest ≢ []
    → (fault ≡ d.NoMemory) ⊎ ((head_fault at rest ≡ Some fault) ⊎ IsUnitRefused sections (most_dies - parts.dies) at rest fault)
    → (fault ≡ d.NoMemory) ⊎ IsSectionRefused sections fault
stops_or sections parts rest at fault is place some (inl none) = inl none
stops_or sections parts rest at fault is place some (inr refused) = inr (stops sections parts rest at fault is place some refused)

pub ends : (sections : Sections) (parts : Parts) (rest : List ℕ) → IsAt sections parts rest → rest ≡ [] → AreParts sections parts
ends sections parts rest is none =
    let whole : is.front ≡ sections.info = sym (append-nil is.front) ∙ ap (λ (b : List ℕ). is.front ++ b) (sym none) ∙ sym is.split in
    let count : parts.dies ≡ dies_in is.pieces = ap (λ (p : Parts). p.dies) is.kept in
    record {
      pieces = is.pieces;
      are = record { each = subst (λ (b : List ℕ). EachFrom (IsPiece sections) 0 is.pieces b) whole is.each; few = omega (arith, is.few) };
      kept = is.kept;
    }

pub no_tables : (section : List ℕ) (tables : Tables) → IsEmpty tables.by_offset → AreTables section tables
no_tables section tables none offset = rw none tt

pub count_read : (told : Part) (unit : Unit) → told ≡ part.Read unit → dies_in (piece_of told ∷ []) ≡ length unit.dies
unfolding dies_in
count_read told unit is = ap (λ p. dies_in (piece_of p ∷ [])) is ∙ (omega arith)
