-- That there is a cell in each row for each name.
use Rattle.std.proofs.Common.{◌≡◌, ℕ, List, [], ◌∷◌, length, map, filter, All, sym, ap, subst, ◌∙◌}
use Rattle.std.proofs.lemmas.List.{length-map}
use Rattle.std.proofs.lemmas.List.Elements.{All-nil, All-cons}
use Rattle.om_eval.specs.Row.{Row}
use Rattle.om_eval.specs.declared.cond.Cond.{Cond}
use Rattle.om_eval.specs.declared.value.Owned.{Owned}
use Rattle.om_log.specs.declared.entry.Entry.{Entry}
use Rattle.om_names.specs.Facts.{Facts}
use Rattle.om_step.specs.State.{State}
use Rattle.om_type.specs.declared.typed.Output.{Output}
use Rattle.om_command.specs.Answer.{answer_rows, cell_of, cells_of, is_kept, names_of, relation}

-- each row has a cell for each output
wide : (outputs : List Output) (rows : List Row) → All (λ (row : List Owned). length row ≡ length outputs) (map (cells_of outputs) rows)
wide outputs [] = All-nil _
wide outputs (row ∷ rows) =
    All-cons (λ (row : List Owned). length row ≡ length outputs) (cells_of outputs row) (map (cells_of outputs) rows) (length-map outputs (cell_of row)) (wide outputs rows)

-- each row of an answer has a cell for each name
pub named_rows : (facts : Facts) (entries : List Entry) (first : State) (condition : Cond) (outputs : List Output) (names : List (List ℕ)) (rows : List (List Owned)) → names ≡ names_of outputs → rows ≡ answer_rows facts entries first condition outputs → All (λ (row : List Owned). length row ≡ length names) rows
unfolding answer_rows
named_rows facts entries first condition outputs names rows named are =
    subst (λ (n : ℕ). All (λ (row : List Owned). length row ≡ n) rows) (sym (ap length named ∙ length-map outputs (λ (output : Output). output.name)))
    (subst (λ (all : List (List Owned)). All (λ (row : List Owned). length row ≡ length outputs) all) (sym are)
    (wide outputs (filter (is_kept condition) (relation facts entries first))))
