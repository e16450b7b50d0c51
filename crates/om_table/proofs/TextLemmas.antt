-- The text of a table, line by line.
use Rattle.std.proofs.Common.{◌≡◌, ℕ, ◌+◌, ◌<◌, ◌≤◌, List, [], ◌∷◌, ◌++◌, length, map, flat_map, take, drop, get_or, codes, decimal, append_assoc, sym, ap, ◌∙◌, subst, arith, Ok, Err}
use Rattle.std.specs.Prelude.{Result}
use Rattle.std.specs.Result.{IsErrAnd}
use Rattle.std.proofs.lemmas.List.{length-append, map-append, take_more, drop_all}
use Rattle.om_eval.specs.declared.value.Owned.{Owned}
use Rattle.om_table.specs.Text.{shown, line, lines_of, widths_of, columns_text, Gives}
use Rattle.om_table.specs.Within.{Keeps}
use Rattle.om_table.specs.declared.fault.TableFault.{TableFault}
use Rattle.om_table.specs.declared.table.Table.{Table}
use Rattle.om_table.specs.declared.fault.TableFault.TheVariants.{NoMemory, TooManyBytes}

-- a row more
pub rows_more : (rows : List (List Owned)) (i : ℕ) (row : List Owned) → i < length rows → row ≡ get_or rows i row
    → map (map shown) (take (i + 1) rows) ≡ map (map shown) (take i rows) ++ map shown row ∷ []
rows_more rows i row h is =
    ap (map (map shown)) (take_more rows i row h)
    ∙ map-append (map shown) (take i rows) (get_or rows i row ∷ [])
    ∙ ap (λ (r : List Owned). map (map shown) (take i rows) ++ map shown r ∷ []) (sym is)

part_too_long : (text part rest : List ℕ) (limit : ℕ) (fault : TableFault) → text ≡ part ++ rest → Keeps part limit (Err fault) → Gives text limit (Err fault)
part_too_long text part rest limit (TooManyBytes told) is told_so =
    let above : limit < length part = told_so.1 in
    (told_so.0, omega (arith, ap length is, length-append part rest))
part_too_long text part rest limit NoMemory is told_so = absurd told_so

-- a part that is too long shows that the text is too long
pub too_long : (text part rest : List ℕ) (limit : ℕ) (fault : TableFault) (result : Result (List ℕ) TableFault)
    → text ≡ part ++ rest → Keeps part limit (Err fault) → IsErrAnd result (λ told. told ≡ fault) → Gives text limit result
too_long text part rest limit fault (Err told) is told_so same =
    subst (λ (f : TableFault). Gives text limit (Err f)) (sym same) (part_too_long text part rest limit fault is told_so)
too_long text part rest limit fault (Ok printed) is told_so same = absurd same

-- the lines so far begin the text
pub columns_rest : (table : Table) (widths : List ℕ) (part : List ℕ) (rest : List (List (List ℕ)))
    → widths ≡ widths_of (length table.names) (lines_of table)
    → flat_map (line widths) (lines_of table) ≡ part ++ flat_map (line widths) rest
    → columns_text table ≡ part ++ (flat_map (line widths) rest ++ codes "rows " ++ decimal (length table.rows) ++ 10 ∷ [])
unfolding columns_text
columns_rest table widths part rest wide so_far =
    ap (λ (ws : List ℕ). flat_map (line ws) (lines_of table) ++ codes "rows " ++ decimal (length table.rows) ++ 10 ∷ []) (sym wide)
    ∙ ap (λ (lines : List ℕ). lines ++ codes "rows " ++ decimal (length table.rows) ++ 10 ∷ []) so_far
    ∙ simp append_assoc

-- all lines, and the number of rows
pub columns_end : (table : Table) (widths : List ℕ) (count : ℕ) (part text : List ℕ)
    → widths ≡ widths_of (length table.names) (lines_of table)
    → length table.rows ≤ count
    → flat_map (line widths) (lines_of table) ≡ part ++ flat_map (line widths) (map (map shown) (drop count table.rows))
    → text ≡ part ++ codes "rows " ++ decimal (length table.rows) ++ 10 ∷ []
    → columns_text table ≡ text
columns_end table widths count part text wide whole so_far is =
    let none : drop count table.rows ≡ [] = drop_all count table.rows whole in
    columns_rest table widths part [] wide (rw none at so_far) ∙ sym (is ∙ simp append_assoc)
