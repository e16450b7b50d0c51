-- The units of .debug_info have one reading, or one refusal.
use Rattle.std.proofs.Common.{◌≡◌, ℕ, ◌+◌, ◌-◌, ◌≤◌, true, false, List, [], ◌∷◌, ◌++◌, length, take, drop, Option, Some, None, refl, sym, ap, subst, ◌∙◌, ◌⊎◌, arith, inl, inr}
use Rattle.std.proofs.Math.Seq.{drop-append_seam, take-append_seam}
use Rattle.om_base.proofs.ReadingLaws.{append-nil}
use Rattle.om_die.specs.Abbreviations.{abbreviation_of}
use Rattle.om_die.specs.Abbreviations as table
use Rattle.om_die.specs.Entries.{AreDies}
use Rattle.om_die.specs.Forms.{Around}
use Rattle.om_die.specs.Laws.{HasOneReading}
use Rattle.om_die.specs.Refusals.{AreDiesRefused, IsRefusal, IsSectionRefused, IsUnitRefused}
use Rattle.om_die.specs.Units.{ArePieces, AreUnits, IsPiece, IsUnit, IsWhole, Piece, Read, Sections, Skipped, debug_abbrev_offset, dies_in, first_lost, head_fault, is_read, most_dies, settled_in, skipped_in, unit_length}
use Rattle.om_die.specs.declared.die.Die.{Die}
use Rattle.om_die.specs.declared.fault.DieFault.{DieFault}
use Rattle.om_die.specs.declared.fault.DieFault.TheVariants as d
use Rattle.om_die.specs.declared.unit.Unit.{Unit}
use Rattle.om_die.specs.declared.unit.Units.{Units}
use Rattle.om_die.proofs.EntryOnce.{dies_not_refused, one_dies_refusal, one_list_of_dies}
use Rattle.om_die.proofs.HeadLaws.{whole_front, whole_head}
use Rattle.om_die.proofs.ListLaws.{HasNext, compare, nothing_next, one_list_of}
use Rattle.om_die.proofs.TableLaws.{one_table}
use Rattle.om_die.proofs.UnitLaws.{some_bytes}

-- ---- one unit

-- whole units in front of the same bytes have the same bytes
same_unit : (at : ℕ) (s t u v : List ℕ) → IsWhole at s → IsWhole at t → s ++ u ≡ t ++ v → (s ≡ t) × (u ≡ v)
same_unit at s t u v one other same =
    let sizes : unit_length s ≡ unit_length t = sym (whole_head at s u one).size ∙ ap (λ (b : List ℕ). unit_length b) same ∙ (whole_head at t v other).size in
    let count : length s ≡ length t = omega (arith, one.size, other.size) in
    let front : s ≡ t = sym (take-append_seam s u) ∙ ap (take (length s)) same ∙ ap (λ n. take n (t ++ v)) count ∙ take-append_seam t v in
    let back : u ≡ v = sym (drop-append_seam s u) ∙ ap (drop (length s)) same ∙ ap (λ n. drop n (t ++ v)) count ∙ drop-append_seam t v in
    (front, back)

units_once : (sections : Sections) (at : ℕ) (bytes : List ℕ) (x y : Unit) → IsUnit sections at bytes x → IsUnit sections at bytes y → x ≡ y
units_once sections at bytes x y one other =
    let around : Around = record { unit = at; strings = sections.strings } in
    let tables = one_table (drop (debug_abbrev_offset bytes) sections.abbrev_) one.entries other.entries one.table other.table in
    let there : AreDies around (abbreviation_of one.entries) (at + 11) (drop 11 bytes) y.dies = subst (λ es. AreDies around (abbreviation_of es) (at + 11) (drop 11 bytes) y.dies) (sym tables) other.dies in
    let dies : x.dies ≡ y.dies = one_list_of_dies around (abbreviation_of one.entries) (at + 11) (drop 11 bytes) x.dies y.dies one.dies there in
    let places : x.at ≡ y.at = one.at_is ∙ sym other.at_is in
    let versions : x.version ≡ y.version = one.version_is ∙ sym other.version_is in
    ap (λ n. record { at = n; version = x.version; dies = x.dies }) places
    ∙ ap (λ n. record { at = y.at; version = n; dies = x.dies }) versions
    ∙ ap (λ ds. record { at = y.at; version = y.version; dies = ds }) dies

pieces_same : (sections : Sections) (at : ℕ) (bytes : List ℕ) (x y : Piece) → IsPiece sections at bytes x → IsPiece sections at bytes y → x ≡ y
unfolding IsPiece
pieces_same sections at bytes (Read x) (Read y) one other = ap Read (units_once sections at bytes x y one other)
pieces_same sections at bytes (Read x) (Skipped place size) one other = absurd (let both : true ≡ false = sym one.is_read ∙ other.is_skipped in cc)
pieces_same sections at bytes (Skipped place size) (Read y) one other = absurd (let both : true ≡ false = sym other.is_read ∙ one.is_skipped in cc)
pieces_same sections at bytes (Skipped place size) (Skipped place2 size2) one other =
    let places : place ≡ place2 = one.at_is ∙ sym other.at_is in
    let sizes : size ≡ size2 = one.size_is ∙ sym other.size_is in
    cc

whole_piece : (sections : Sections) (at : ℕ) (bytes : List ℕ) (x : Piece) → IsPiece sections at bytes x → IsWhole at bytes
unfolding IsPiece
whole_piece sections at bytes (Read unit) is = is.whole
whole_piece sections at bytes (Skipped place size) is = is.whole

pub pieces_once : (sections : Sections) (at : ℕ) → HasOneReading (IsPiece sections at)
pieces_once sections at s t u v x y one other same =
    let texts = same_unit at s t u v (whole_piece sections at s x one) (whole_piece sections at t y other) same in
    let there : IsPiece sections at s y = subst (λ (b : List ℕ). IsPiece sections at b y) (sym texts.0) other in
    (pieces_same sections at s x y one there, texts.0, texts.1)

-- ---- one refusal of a unit

abbrev IsRefusedUnit : Sections → (left at : ℕ) → List ℕ → DieFault → Type 0
IsRefusedUnit sections left at bytes fault = (head_fault at bytes ≡ Some fault) ⊎ IsUnitRefused sections left at bytes fault

unit_not_refused : (sections : Sections) (left at : ℕ) (bytes front tail : List ℕ) (unit : Unit) (fault : DieFault) → bytes ≡ front ++ tail → IsUnit sections at front unit → length unit.dies ≤ left
    → IsUnitRefused sections left at bytes fault → ⊥
unit_not_refused sections left at bytes front tail unit fault parts is few refused =
    let around : Around = record { unit = at; strings = sections.strings } in
    let head = whole_head at front tail is.whole in
    let offset : debug_abbrev_offset bytes ≡ debug_abbrev_offset front = ap (λ (b : List ℕ). debug_abbrev_offset b) parts ∙ head.offset is.is_read in
    let size : 4 + unit_length bytes ≡ length front = ap (λ (b : List ℕ). 4 + unit_length b) parts ∙ ap (λ n. 4 + n) head.size ∙ sym is.whole.size in
    let cut : take (4 + unit_length bytes) bytes ≡ front = ap (λ n. take n bytes) size ∙ ap (take (length front)) parts ∙ take-append_seam front tail in
    let tables = one_table (drop (debug_abbrev_offset front) sections.abbrev_) is.entries refused.entries is.table (subst (λ n. table.IsTable (drop n sections.abbrev_) refused.entries) offset refused.table) in
    let R : List table.Entry → List ℕ → Type 0 = λ es b. AreDiesRefused around (abbreviation_of es) left (at + 11) (drop 11 b) fault in
    dies_not_refused around (abbreviation_of is.entries) left (at + 11) (drop 11 front) unit.dies fault is.dies few
    (subst (λ b. R is.entries b) cut (subst (λ es. R es (take (4 + unit_length bytes) bytes)) (sym tables) refused.dies))

piece_not_refused : (sections : Sections) (left at : ℕ) (bytes front tail : List ℕ) (piece : Piece) (fault : DieFault) → bytes ≡ front ++ tail → IsPiece sections at front piece → dies_in (piece ∷ []) ≤ left
    → IsRefusedUnit sections left at bytes fault → ⊥
unfolding IsPiece dies_in
piece_not_refused sections left at bytes front tail (Read unit) fault parts is few (inl fault_is) =
    let none : head_fault at bytes ≡ None = ap (head_fault at) parts ∙ whole_front at front tail is.whole in cc
piece_not_refused sections left at bytes front tail (Read unit) fault parts is few (inr refused) =
    unit_not_refused sections left at bytes front tail unit fault parts is (omega (arith, few)) refused
piece_not_refused sections left at bytes front tail (Skipped place size) fault parts is few (inl fault_is) =
    let none : head_fault at bytes ≡ None = ap (head_fault at) parts ∙ whole_front at front tail is.whole in cc
piece_not_refused sections left at bytes front tail (Skipped place size) fault parts is few (inr refused) =
    let other : is_read bytes ≡ false = ap (λ (b : List ℕ). is_read b) parts ∙ (whole_head at front tail is.whole).read ∙ is.is_skipped in
    let both : true ≡ false = sym refused.is_read ∙ other in
    cc

one_unit_refusal : (sections : Sections) (left at : ℕ) (bytes : List ℕ) (f g : DieFault) → IsRefusedUnit sections left at bytes f → IsRefusedUnit sections left at bytes g → f ≡ g
one_unit_refusal sections left at bytes f g (inl one) (inl other) = cc
one_unit_refusal sections left at bytes f g (inl one) (inr other) = absurd (let lawful = other.lawful in cc)
one_unit_refusal sections left at bytes f g (inr one) (inl other) = absurd (let lawful = one.lawful in cc)
one_unit_refusal sections left at bytes f g (inr one) (inr other) =
    let around : Around = record { unit = at; strings = sections.strings } in
    let tables = one_table (drop (debug_abbrev_offset bytes) sections.abbrev_) one.entries other.entries one.table other.table in
    let rest = drop 11 (take (4 + unit_length bytes) bytes) in
    one_dies_refusal around (abbreviation_of one.entries) left (at + 11) rest f g one.dies
    (subst (λ es. AreDiesRefused around (abbreviation_of es) left (at + 11) rest g) (sym tables) other.dies)

-- ---- all units

dies_before : (pieces : List Piece) (next : Piece) (others : List Piece) → dies_in pieces + dies_in (next ∷ []) ≤ dies_in (pieces ++ next ∷ others)
unfolding dies_in
dies_before [] (Read unit) others = omega arith
dies_before [] (Skipped place size) others = omega arith
dies_before (Read first ∷ pieces) next others = omega (arith, dies_before pieces next others)
dies_before (Skipped place size ∷ pieces) next others = dies_before pieces next others

pub one_list_of_pieces : (sections : Sections) (bytes : List ℕ) (xs ys : List Piece) → ArePieces sections bytes xs → ArePieces sections bytes ys → xs ≡ ys
one_list_of_pieces sections bytes xs ys one other = one_list_of (IsPiece sections) (pieces_once sections) (some_bytes sections) 0 xs ys bytes one.each other.each

next_not_refused : (sections : Sections) (place size : ℕ) (pieces more : List Piece) (back : List ℕ) (fault : DieFault) → place ≡ 0 + size → HasNext (IsPiece sections) place pieces back more → dies_in more ≤ most_dies
    → IsRefusedUnit sections (most_dies - dies_in pieces) size back fault → ⊥
next_not_refused sections place size pieces more back fault here on few refused =
    let at : place ≡ size = omega arith in
    let all : dies_in more ≡ dies_in (pieces ++ on.next ∷ on.others) = ap dies_in on.things in
    piece_not_refused sections (most_dies - dies_in pieces) size back on.text on.rest on.next fault on.parts (subst (λ n. IsPiece sections n on.text on.next) at on.is)
    (omega (arith, dies_before pieces on.next on.others)) refused

pub section_not_refused : (sections : Sections) (pieces : List Piece) (fault : DieFault) → ArePieces sections sections.info pieces → IsSectionRefused sections fault → ⊥
section_not_refused sections pieces fault are refused =
    elim (compare (IsPiece sections) (pieces_once sections) 0 pieces refused.pieces sections.info [] refused.front refused.back are.each refused.are.each (append-nil sections.info ∙ refused.parts)) [
      | inl same ↦ refused.some (sym same.back)
      | inr (inl on) ↦ nothing_next (IsPiece sections) (pieces_once sections) (some_bytes sections) _ pieces refused.pieces [] refl on
      | inr (inr on) ↦ next_not_refused sections _ (length refused.front) refused.pieces pieces refused.back fault refl on are.few refused.refused
    ]

one_section_refusal : (sections : Sections) (f g : DieFault) → IsSectionRefused sections f → IsSectionRefused sections g → f ≡ g
one_section_refusal sections f g one other =
    elim (compare (IsPiece sections) (pieces_once sections) 0 one.pieces other.pieces one.front one.back other.front other.back one.are.each other.are.each (sym one.parts ∙ other.parts)) [
      | inl same ↦ (
          let R : List Piece → List ℕ → List ℕ → Type 0 = λ ps front back. IsRefusedUnit sections (most_dies - dies_in ps) (length front) back g in
          let there : R one.pieces one.front one.back =
          subst (λ back. R one.pieces one.front back) (sym same.back)
          (subst (λ front. R one.pieces front other.back) (sym same.front) (subst (λ ps. R ps other.front other.back) (sym same.things) other.refused)) in
          one_unit_refusal sections (most_dies - dies_in one.pieces) (length one.front) one.back f g one.refused there)
      | inr (inl on) ↦ absurd (next_not_refused sections _ (length one.front) one.pieces other.pieces one.back f refl on other.are.few one.refused)
      | inr (inr on) ↦ absurd (next_not_refused sections _ (length other.front) other.pieces one.pieces other.back g refl on one.are.few other.refused)
    ]

-- ---- the sections

pub one_units : (sections : Sections) (a b : Units) → AreUnits sections a → AreUnits sections b → a ≡ b
one_units sections a b one other =
    let pieces = one_list_of_pieces sections sections.info one.pieces other.pieces one.are other.are in
    let lists : a.list ≡ b.list = one.list_is ∙ ap settled_in pieces ∙ sym other.list_is in
    let counts : a.skipped ≡ b.skipped = one.skipped_is ∙ ap skipped_in pieces ∙ sym other.skipped_is in
    ap (λ us. record { list = us; skipped = a.skipped }) lists ∙ ap (λ n. record { list = b.list; skipped = n }) counts

pub one_refusal : (sections : Sections) (f g : DieFault) → IsRefusal sections f → IsRefusal sections g → f ≡ g
one_refusal sections f g (inl one) (inl other) = one_section_refusal sections f g one other
one_refusal sections f g (inl one) (inr other) = absurd (section_not_refused sections other.pieces f other.are one)
one_refusal sections f g (inr one) (inl other) = absurd (section_not_refused sections one.pieces g one.are other)
one_refusal sections f g (inr one) (inr other) =
    let pieces = one_list_of_pieces sections sections.info one.pieces other.pieces one.are other.are in
    let both : ◌≡◌ {A = Option Die} (Some one.die) (Some other.die) = sym one.lost ∙ ap (λ ps. first_lost (settled_in ps)) pieces ∙ other.lost in
    let dies : one.die ≡ other.die = cc in
    one.fault_is ∙ ap (λ (die : Die). d.Target die.at) dies ∙ sym other.fault_is

pub not_refused : (sections : Sections) (units : Units) (fault : DieFault) → AreUnits sections units → IsRefusal sections fault → ⊥
not_refused sections units fault are (inl refused) = section_not_refused sections are.pieces fault are.are refused
not_refused sections units fault are (inr refused) =
    let pieces = one_list_of_pieces sections sections.info are.pieces refused.pieces are.are refused.are in
    let both : None ≡ Some refused.die = sym are.found ∙ ap first_lost (are.list_is ∙ ap settled_in pieces) ∙ refused.lost in
    cc
