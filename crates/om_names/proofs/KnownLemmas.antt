-- What ranges, names and counts tell of all entries.
use Rattle.std.proofs.Common.{◌≡◌, ℕ, ℤ, ◌+◌, ◌^◌, ◌<◌, ◌≤◌, Bool, true, false, cond, ◌&&◌, ◌||◌, nat_eq, leb, ltb, List, [], ◌∷◌, ◌++◌, length, map, Option, Some, None, refl, sym, ap, subst, ◌∙◌, inl, inr, arith, append_assoc, append-nil, length-append}
use Rattle.std.specs.Prelude.{All, sum_by, filter, find}
use Rattle.std.specs.List.{flat_map, slice_get}
use Rattle.std.specs.Option.{option_and_then, option_flatten, option_map}
use Rattle.std.proofs.Math.Path.{fun_ext}
use Rattle.std.proofs.lemmas.Grind.{flat_map-append}
use Rattle.std.proofs.lemmas.Bool.{cases_Bool}
use Rattle.std.proofs.lemmas.List.{length-map, map-append}
use Rattle.std.proofs.lemmas.List.Elements.{All-append, All-cons}
use Rattle.std.proofs.lemmas.List.Folds.{flat_map-map}
use Rattle.std.proofs.lemmas.List.Sums.{sum_by-append, sum_by-cons}
use Rattle.om_base.specs.Reading.{EachFrom}
use Rattle.om_base.specs.declared.span.Span.{Span}
use Rattle.om_claims.specs.Claims.{holds as is_claimed, meant_at}
use Rattle.om_claims.specs.Pieces.{IsIndexOf, owner_in}
use Rattle.om_claims.specs.declared.claim.Claim.{Claim}
use Rattle.om_claims.specs.declared.piece.Piece as kept
use Rattle.om_claims.proofs.LawLemmas.{first_meant, none_meant}
use Rattle.om_die.specs.Constants.{DW_TAG_subprogram}
use Rattle.om_die.specs.Units.{AreUnits, IsPiece, Piece, Read, Sections, Skipped, dies_in, dies_of_units, is_elsewhere, settled_die, settled_in, settled_unit, units_in}
use Rattle.om_die.specs.declared.unit.Unit.{Unit}
use Rattle.om_die.specs.declared.unit.Units.{Units}
use Rattle.om_line.specs.Kept.{KeptLines, lines_told_by}
use Rattle.om_line.specs.Tables.{LineFacts, line_facts}
use Rattle.om_line.specs.declared.lines.Lines.{Lines}
use Rattle.om_names.specs.Facts.{Facts}
use Rattle.om_cfi.specs.Frames.{rules_in}
use Rattle.om_cfi.specs.Kept.{KeptRules, rules_told_by}
use Rattle.om_names.specs.KeptVariables.{KeptVariables, told_in}
use Rattle.om_names.specs.Variables.{VariableFacts, variable_facts, variables_in}
use Rattle.om_names.specs.Functions.{counts_of, func_at, function_at, functions_in, holds, name_of, own_name}
use Rattle.om_names.specs.Information.{Entry, Information, entries_of, info_of, is_subprogram}
use Rattle.om_names.specs.Known.{Knows, name_at, told_by}
use Rattle.om_names.specs.Names.{AreNames, name_from, name_told}
use Rattle.om_names.specs.Ranges.{are_some, base_of, hold, ranges_in, ranges_of}
use Rattle.om_names.specs.EntryByEntry.{NamedSpan, claims_of, count_by, count_in_unit, entry_in, named_by, named_in_unit, named_spans, names_of, spans_by}
use Rattle.om_names.specs.declared.debug_counts.Counts.{Counts}
use Rattle.om_names.specs.declared.names.Names.{Names}
use Rattle.om_names.proofs.NameLemmas.{told_reached}

-- ---- the first range that holds an address

spans_at : Names → List ℕ → Entry → List NamedSpan
spans_at names section entry = named_spans names section (base_of entry.unit) entry.die

-- the name with the first of some ranges that holds an address, if one does
first_named : List NamedSpan → ℕ → Option (Option (List ℕ))
first_named [] pc = None
first_named (it ∷ named) pc = cond (leb it.span.lo pc && ltb pc it.span.hi) (Some it.name) (first_named named pc)

-- the ranges of one function before others
first_spans : (name : Option (List ℕ)) (spans : List Span) (others : List NamedSpan) (pc : ℕ) → first_named (map (named_by name) spans ++ others) pc ≡ cond (hold spans pc) (Some name) (first_named others pc)
unfolding first_named
first_spans name [] others pc = refl
first_spans name (span ∷ spans) others pc = first_or (leb span.lo pc && ltb pc span.hi) (hold spans pc) (first_spans name spans others pc)
  where
    first_or : (here later : Bool) → first_named (map (named_by name) spans ++ others) pc ≡ cond later (Some name) (first_named others pc)
        → cond here (Some name) (first_named (map (named_by name) spans ++ others) pc) ≡ cond (here || later) (Some name) (first_named others pc)
    first_or true later is = refl
    first_or false later is = is

first_if : (tagged : Bool) (name : Option (List ℕ)) (spans : List Span) (others : List NamedSpan) (pc : ℕ)
    → first_named (cond tagged (map (named_by name) spans) [] ++ others) pc ≡ cond (tagged && hold spans pc) (Some name) (first_named others pc)
first_if true name spans others pc = first_spans name spans others pc
first_if false name spans others pc = refl

first_entry : (names : Names) (info : Information) (entry : Entry) (others : List NamedSpan) (pc : ℕ)
    → first_named (spans_at names info.ranges entry ++ others) pc ≡ cond (holds info pc entry) (Some (name_from names entry.die)) (first_named others pc)
unfolding spans_at named_spans ranges_of
first_entry names info entry others pc = first_if (nat_eq entry.die.tag DW_TAG_subprogram) (name_from names entry.die) (spans_by info.ranges (base_of entry.unit) entry.die) others pc

map_if : {X Y : Type 0} (f : X → Y) (b : Bool) (x : X) (found : Option X) → cond b (Some (f x)) (option_map f found) ≡ option_map f (cond b (Some x) found)
map_if f true x found = refl
map_if f false x found = refl

first_of_entries : (names : Names) (info : Information) (entries : List Entry) (pc : ℕ)
    → first_named (flat_map (spans_at names info.ranges) entries) pc ≡ option_map (λ entry. name_from names entry.die) (find (holds info pc) entries)
unfolding first_named
first_of_entries names info [] pc = refl
first_of_entries names info (entry ∷ entries) pc =
    first_entry names info entry (flat_map (spans_at names info.ranges) entries) pc
    ∙ ap (cond (holds info pc entry) (Some (name_from names entry.die))) (first_of_entries names info entries pc)
    ∙ map_if (λ (e : Entry). name_from names e.die) (holds info pc entry) entry (find (holds info pc) entries)

all_named : (names : Names) (section : List ℕ) (units : List Unit) → flat_map (named_in_unit names section) units ≡ flat_map (spans_at names section) (flat_map (λ unit. map (entry_in unit) unit.dies) units)
unfolding named_in_unit spans_at
all_named names section [] = refl
all_named names section (unit ∷ units) =
    ap (λ named. named ++ flat_map (named_in_unit names section) units) (sym (flat_map-map (spans_at names section) (entry_in unit) unit.dies))
    ∙ ap (λ named. flat_map (spans_at names section) (map (entry_in unit) unit.dies) ++ named) (all_named names section units)
    ∙ sym (flat_map-append (spans_at names section) (map (entry_in unit) unit.dies) (flat_map (λ u. map (entry_in u) u.dies) units))

name_of_found : (names : Names) (info : Information) (found : Option Entry) → AreNames (dies_of_units info.units.list) names
    → option_flatten (option_map (λ entry. name_from names entry.die) found) ≡ option_and_then (λ entry. name_of info entry.die) found
name_of_found names info None are = refl
name_of_found names info (Some entry) are = told_reached name_told own_name (λ die. refl) (dies_of_units info.units.list) names are 4 entry.die

-- ---- its place

as_deep : (named : List NamedSpan) → All (λ claim. claim.depth ≡ 0) (claims_of named)
as_deep [] = λ k d within. absurd (omega (arith, within))
as_deep (it ∷ named) = All-cons (λ claim. claim.depth ≡ 0) (record { span = it.span; depth = 0 }) (claims_of named) refl (as_deep named)

name_behind : (before after : List NamedSpan) (it : NamedSpan) → slice_get (names_of (before ++ it ∷ after)) (length (claims_of before)) ≡ Some it.name
name_behind [] after it = refl
name_behind (other ∷ before) after it = name_behind before after it

-- of ranges behind some that don't hold an address, the first that holds it has the place that is meant
place_behind : (before named : List NamedSpan) (pc : ℕ) → All (λ claim. is_claimed pc claim ≡ false) (claims_of before)
    → name_at (names_of (before ++ named)) (meant_at (claims_of (before ++ named)) pc) ≡ option_flatten (first_named named pc)
unfolding first_named
place_behind before [] pc none =
    ap (λ place. name_at (names_of (before ++ [])) place)
    (none_meant (claims_of (before ++ [])) pc (subst (λ ns. All (λ claim. is_claimed pc claim ≡ false) (claims_of ns)) (sym (append-nil before)) none))
place_behind before (it ∷ named) pc none =
    elim (cases_Bool (is_claimed pc (record { span = it.span; depth = 0 }))) [
      | inl held ↦ rw held (
          ap (λ place. name_at (names_of (before ++ it ∷ named)) place)
          (ap (λ claims. meant_at claims pc) parts ∙ first_meant (claims_of before) (claims_of named) (record { span = it.span; depth = 0 }) pc 0 none held (subst (All (λ claim. claim.depth ≡ 0)) parts (as_deep (before ++ it ∷ named))))
          ∙ ap option_flatten (name_behind before named it)
          )
      | inr not_held ↦ rw not_held (
          subst (λ ns. name_at (names_of ns) (meant_at (claims_of ns) pc) ≡ option_flatten (first_named named pc)) (append_assoc before (it ∷ []) named)
          (place_behind (before ++ it ∷ []) named pc (one_more not_held))
          )
    ]
  where
    parts : claims_of (before ++ it ∷ named) ≡ claims_of before ++ record { span = it.span; depth = 0 } ∷ claims_of named
    parts = map-append (λ (n : NamedSpan). record { span = n.span; depth = 0 }) before (it ∷ named)

    one_more : is_claimed pc (record { span = it.span; depth = 0 }) ≡ false → All (λ claim. is_claimed pc claim ≡ false) (claims_of (before ++ it ∷ []))
    one_more not_held =
        subst (All (λ claim. is_claimed pc claim ≡ false)) (sym (map-append (λ (n : NamedSpan). record { span = n.span; depth = 0 }) before (it ∷ [])))
        (All-append (λ claim. is_claimed pc claim ≡ false) (claims_of before) (record { span = it.span; depth = 0 } ∷ []) none
        (All-cons (λ claim. is_claimed pc claim ≡ false) (record { span = it.span; depth = 0 }) [] not_held (λ k d within. absurd (omega (arith, within)))))

-- the name at the place of the claim that is meant is that of the function there
pub names_tell : (names : Names) (units : Units) (section : List ℕ) (pc : ℕ) → AreNames (dies_of_units units.list) names
    → name_at (names_of (flat_map (named_in_unit names section) units.list)) (meant_at (claims_of (flat_map (named_in_unit names section) units.list)) pc) ≡ func_at (info_of units section [] []) pc
unfolding func_at
names_tell names units section pc are =
    ap (λ named. name_at (names_of named) (meant_at (claims_of named) pc)) (all_named names section units.list)
    ∙ place_behind [] (flat_map (spans_at names section) (entries_of units)) pc (λ k d within. absurd (omega (arith, within)))
    ∙ ap option_flatten (first_of_entries names (info_of units section [] []) (entries_of units) pc)
    ∙ name_of_found names (info_of units section [] []) (function_at (info_of units section [] []) pc) are

-- ---- counts

counted : (section : List ℕ) (b : Bool) (n : ℕ) (entry : Entry) (entries : List Entry) → n ≡ length entries → cond b 1 0 + n ≡ length (cond b (entry ∷ entries) entries)
counted section true n entry entries is = omega arith
counted section false n entry entries is = omega arith

functions_counted : (info : Information) (entries : List Entry)
    → sum_by (λ entry. count_by info.ranges (base_of entry.unit) entry.die) entries ≡ length (filter (λ entry. is_subprogram entry && are_some (ranges_in info entry)) entries)
unfolding count_by ranges_of
functions_counted info [] = refl
functions_counted info (entry ∷ entries) =
    sum_by-cons (λ (e : Entry). count_by info.ranges (base_of e.unit) e.die) entry entries
    ∙ counted info.ranges (nat_eq entry.die.tag DW_TAG_subprogram && are_some (spans_by info.ranges (base_of entry.unit) entry.die)) (sum_by (λ (e : Entry). count_by info.ranges (base_of e.unit) e.die) entries) entry
    (filter (λ e. is_subprogram e && are_some (ranges_in info e)) entries) (functions_counted info entries)

sum_map : {X Y : Type 0} (f : Y → ℕ) (g : X → Y) (xs : List X) → sum_by f (map g xs) ≡ sum_by (λ x. f (g x)) xs
sum_map f g [] = refl
sum_map f g (x ∷ xs) = sum_by-cons f (g x) (map g xs) ∙ ap (λ n. f (g x) + n) (sum_map f g xs) ∙ sym (sum_by-cons (λ y. f (g y)) x xs)

all_counts : (section : List ℕ) (units : List Unit)
    → sum_by (count_in_unit section) units ≡ sum_by (λ entry. count_by section (base_of entry.unit) entry.die) (flat_map (λ unit. map (entry_in unit) unit.dies) units)
unfolding count_in_unit
all_counts section [] = refl
all_counts section (unit ∷ units) =
    sum_by-cons (count_in_unit section) unit units
    ∙ ap (λ n. n + sum_by (count_in_unit section) units) (sym (sum_map (λ entry. count_by section (base_of entry.unit) entry.die) (entry_in unit) unit.dies))
    ∙ ap (λ n. sum_by (λ entry. count_by section (base_of entry.unit) entry.die) (map (entry_in unit) unit.dies) + n) (all_counts section units)
    ∙ sym (sum_by-append (λ entry. count_by section (base_of entry.unit) entry.die) (map (entry_in unit) unit.dies) (flat_map (λ u. map (entry_in u) u.dies) units))

pub counts_tell : (units : Units) (section : List ℕ) → sum_by (count_in_unit section) units.list ≡ length (functions_in (info_of units section [] []))
counts_tell units section = all_counts section units.list ∙ functions_counted (info_of units section [] []) (entries_of units)

-- ---- what is kept

facts_by : (ℕ → Option (List ℕ)) → LineFacts → VariableFacts → (ℕ → Option (ℕ × ℤ)) → Counts → Facts
facts_by functions lines variables rules counts = record { func_at = functions; lines = lines; variables = variables; cfa = rules; counts = counts }

same_facts : (f g : ℕ → Option (List ℕ)) (l m : LineFacts) (v w : VariableFacts) (r s : ℕ → Option (ℕ × ℤ)) (a b : Counts) → f ≡ g → l ≡ m → v ≡ w → r ≡ s → a ≡ b → facts_by f l v r a ≡ facts_by g m w s b
same_facts f g l m v w r s a b functions lines variables rules counts =
    ap (λ h. facts_by h l v r a) functions ∙ ap (λ ls. facts_by g ls v r a) lines ∙ ap (λ vs. facts_by g m vs r a) variables ∙ ap (λ rs. facts_by g m w rs a) rules ∙ ap (facts_by g m w s) counts

-- what tells what the later stages give
pub record Tell (units : Units) (ranges : List ℕ) (tables : List Lines) (frames : List ℕ) (lines : KeptLines) (rules : KeptRules) (variables : KeptVariables) : Type 0 where
  pub lines_tell : lines_told_by lines ≡ line_facts tables
  pub rules_tell : rules_told_by rules ≡ rules_in frames
  pub variables_tell : told_in variables ≡ variable_facts (variables_in ranges units)

-- pieces, names, line tables, rules, variables and counts that tell what the information says
pub knows : (units : Units) (ranges : List ℕ) (tables : List Lines) (frames : List ℕ) (lines : KeptLines) (rules : KeptRules) (variables : KeptVariables) (names : Names) (claims : List Claim) (pieces : List kept.Piece)
    (kept_names : List (Option (List ℕ))) (many functions : ℕ) → AreNames (dies_of_units units.list) names → claims ≡ claims_of (flat_map (named_in_unit names ranges) units.list) → IsIndexOf claims pieces
    → kept_names ≡ names_of (flat_map (named_in_unit names ranges) units.list) → many ≡ length units.list → functions ≡ sum_by (count_in_unit ranges) units.list → Tell units ranges tables frames lines rules variables
    → Knows (info_of units ranges tables frames) (record { pieces = pieces; names = kept_names; lines = lines; frames = rules; variables = variables; counts = record { units = many; skipped = units.skipped; functions = functions } })
unfolding counts_of func_at told_by facts_by
knows units ranges tables frames lines rules variables names claims pieces kept_names many functions are claims_are index names_are many_is functions_are tell =
    let count : functions ≡ length (functions_in (info_of units ranges [] [])) = functions_are ∙ counts_tell units ranges in
    let counts : record { units = many; skipped = units.skipped; functions = functions } ≡ counts_of (info_of units ranges [] []) = rw (many_is, count) refl in
    let tells : (pc : ℕ) → name_at kept_names (owner_in pieces pc) ≡ func_at (info_of units ranges [] []) pc = λ pc. ap (name_at kept_names) (index pc)
    ∙ ap (λ cs. name_at kept_names (meant_at cs pc)) claims_are
    ∙ ap (λ ns. name_at ns (meant_at (claims_of (flat_map (named_in_unit names ranges) units.list)) pc)) names_are ∙ names_tell names units ranges pc are in
    same_facts (λ pc. name_at kept_names (owner_in pieces pc)) (func_at (info_of units ranges [] [])) (lines_told_by lines) (line_facts tables) (told_in variables) (variable_facts (variables_in ranges units))
    (rules_told_by rules) (rules_in frames) (record { units = many; skipped = units.skipped; functions = functions }) (counts_of (info_of units ranges [] [])) (fun_ext tells) tell.lines_tell tell.variables_tell tell.rules_tell counts

-- ---- how much there can be

settled_dies : (elsewhere : ℕ → Bool) (pieces : List Piece) → length (dies_of_units (map (settled_unit elsewhere) (units_in pieces))) ≡ dies_in pieces
unfolding units_in dies_in
settled_dies elsewhere [] = refl
settled_dies elsewhere (Read unit ∷ pieces) =
    length-append (map (settled_die elsewhere) unit.dies) (dies_of_units (map (settled_unit elsewhere) (units_in pieces)))
    ∙ ap (λ n. n + length (dies_of_units (map (settled_unit elsewhere) (units_in pieces)))) (length-map unit.dies (settled_die elsewhere))
    ∙ ap (λ n. length unit.dies + n) (settled_dies elsewhere pieces)
settled_dies elsewhere (Skipped at size ∷ pieces) = settled_dies elsewhere pieces

-- units have few entries
pub few_dies : (sections : Sections) (units : Units) → AreUnits sections units → length (dies_of_units units.list) < 2 ^ 32
unfolding settled_in
few_dies sections units are =
    let same : length (dies_of_units units.list) ≡ dies_in are.pieces = ap (λ us. length (dies_of_units us)) are.list_is ∙ settled_dies (is_elsewhere are.pieces) are.pieces in
    omega (arith, same, are.are.few)

fewer_units : (pieces : List Piece) → length (units_in pieces) ≤ length pieces
unfolding units_in
fewer_units [] = omega arith
fewer_units (Read unit ∷ pieces) = omega (arith, fewer_units pieces)
fewer_units (Skipped at size ∷ pieces) = omega (arith, fewer_units pieces)

some_bytes : (sections : Sections) (at : ℕ) (bytes : List ℕ) (piece : Piece) → IsPiece sections at bytes piece → 1 ≤ length bytes
unfolding IsPiece
some_bytes sections at bytes (Read unit) is = omega (arith, is.whole.size)
some_bytes sections at bytes (Skipped place size) is = omega (arith, is.whole.size)

few_pieces : (sections : Sections) (at : ℕ) (pieces : List Piece) (bytes : List ℕ) → EachFrom (IsPiece sections) at pieces bytes → length pieces ≤ length bytes
few_pieces sections at [] bytes each = omega arith
few_pieces sections at (piece ∷ pieces) bytes each =
    omega (arith, ap length each.2, length-append each.0 each.1, some_bytes sections at each.0 piece each.3, few_pieces sections (at + length each.0) pieces each.1 each.4)

-- there are few units
pub few_units : (sections : Sections) (units : Units) → AreUnits sections units → length sections.info < 2 ^ 32 → length units.list < 2 ^ 32
unfolding settled_in
few_units sections units are short =
    let same : length units.list ≡ length (units_in are.pieces) = ap length are.list_is ∙ length-map (units_in are.pieces) (settled_unit (is_elsewhere are.pieces)) in
    omega (arith, same, fewer_units are.pieces, few_pieces sections 0 are.pieces sections.info are.are.each)
