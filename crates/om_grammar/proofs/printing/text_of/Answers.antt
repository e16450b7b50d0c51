use Rattle.std.proofs.Common.{◌≡◌, ℕ, List, ◌++◌, codes, sym, ap, subst, ◌∙◌}
use Rattle.om_grammar.specs.declared.tree.Item.{Item}
use Rattle.om_grammar.specs.Words.{query_text, list_text, item_text, table_text, clauses_text}
use Rattle.om_grammar.specs.Spelling.{Spells}
use Rattle.om_grammar.proofs.WordLemmas.{then_is}
use Rattle.om_grammar.proofs.SpelledQueries.{spells}
use Rattle.om_grammar.proofs.printing.text_of.Goals as goal

pub returns-clause-spells : goal.returns-clause-spells
unfolding query_text
returns-clause-spells c = λ source tokens cut tree.
    let rest : List ℕ = codes " FROM " ++ (list_text table_text c.args.query.now.tables ++ clauses_text c.args.query.now) in
    let is : c.put_sources.new.text ≡ query_text c.args.query.now =
    then_is _ _ _ _ rest c.in_ok-put_sources.ensures c.in_ok-put_items.ensures
    ∙ ap (λ (l : List ℕ). l ++ (list_text item_text c.as_slice.result.now ++ rest)) c.in_ok-text.ensures
    ∙ ap (λ (items : List Item). codes "SELECT " ++ (list_text item_text items ++ rest)) c.as_slice.ensures in
    subst (λ (l : List ℕ). Spells l c.args.query.now) (sym is) (spells source tokens c.args.query.now cut tree)
