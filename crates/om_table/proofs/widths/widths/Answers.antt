use Rattle.std.proofs.Common.{◌≡◌, ◌<◌, ◌∷◌, ◌∙◌, List, ℕ, ap, get_or, length, map, replicate, sym, take, rules}
use Rattle.std.proofs.lemmas.List.{length-map}
use Rattle.om_table.specs.Escape.{escaped}
use Rattle.om_eval.specs.declared.value.Owned.{Owned}
use Rattle.om_table.specs.Text.{widths_of, shown}
use Rattle.om_table.specs.Wider.{wider}
use Rattle.om_table.proofs.WidthLemmas.{first_line, next_line}
use Rattle.om_table.proofs.TextLemmas.{rows_more}
use Rattle.om_table.proofs.widths.widths.Goals as goal

pub loop-row-init : goal.loop-row-init
loop-row-init c =
    let names = c.args.table.now.names in
    let before = c.resize.new.self in
    let wide : c.widen.new.widths ≡ wider before.items (map escaped names) =
    c.in_ok-widen.ensures ∙ ap (λ (l : List ℕ). wider l (map escaped c.as_slice.result.now)) c.as_mut_slice.ensures.value
    ∙ ap (λ (l : List (List ℕ)). wider before.items (map escaped l)) c.as_slice.ensures in
    let zeros : before.items ≡ replicate (length names) 0 = search rules in
    let long : length before.items ≡ before.len = search rules in
    first_line (length names) before.len before.items c.widen.new.widths (map escaped names) (sym (length-map names escaped)) zeros long wide

pub loop-row-preserved : goal.loop-row-preserved
loop-row-preserved c =
    let table = c.args.table.now in
    let before = c.loop-row.widths in
    let row = c.row-item.result in
    let wide : c.widen-in-loop-row.new.widths ≡ wider before.items (map shown row) =
    c.in_ok-widen-2.ensures ∙ ap (λ (l : List ℕ). wider l (map shown c.as_slice-in-loop-row.result.now)) c.as_mut_slice-in-loop-row.ensures.value
    ∙ ap (λ (l : List Owned). wider before.items (map shown l)) c.as_slice-in-loop-row.ensures in
    let long : length before.items ≡ before.len = search rules in
    let below : c.loop-row.row-index < length table.rows = search rules in
    let here : row ≡ get_or table.rows c.loop-row.row-index row = search rules in
    let same : length row ≡ length table.names = search rules in
    next_line (length table.names) before.len before.items c.widen-in-loop-row.new.widths
    (map escaped table.names ∷ map (map shown) (take c.loop-row.row-index table.rows)) (map shown row) (sym (length-map row shown ∙ same)) c.loop-row.invariant long wide
    ∙ ap (λ (rows : List (List (List ℕ))). widths_of (length table.names) (map escaped table.names ∷ rows)) (sym (rows_more table.rows c.loop-row.row-index row below here))
