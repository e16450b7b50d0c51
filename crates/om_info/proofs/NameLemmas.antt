-- A name is printed piece by piece.
use Rattle.std.proofs.Common.{◌≡◌, ℕ, List, ◌++◌, sym, ap, ◌∙◌, append_assoc}
use Rattle.std.proofs.lemmas.List.Concat.{flat_map-append}
use Rattle.om_table.specs.Escape.{escaped, escaped_byte}

pub escaped_pieces : (text first second third name : List ℕ) → first ++ (second ++ third) ≡ name → ((text ++ escaped first) ++ escaped second) ++ escaped third ≡ text ++ escaped name
escaped_pieces text first second third name is =
    append_assoc (text ++ escaped first) (escaped second) (escaped third)
    ∙ append_assoc text (escaped first) (escaped second ++ escaped third)
    ∙ ap (λ bytes. text ++ (escaped first ++ bytes)) (sym (flat_map-append escaped_byte second third))
    ∙ ap (λ bytes. text ++ bytes) (sym (flat_map-append escaped_byte first (second ++ third)))
    ∙ ap (λ bytes. text ++ escaped bytes) is
