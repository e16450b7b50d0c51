use Rattle.std.proofs.Common.{◌∙◌, sym, subst, ap, List, Ok, Err, rules}
use Rattle.om_token.specs.declared.terminal.Terminal.TheVariants as t
use Rattle.om_grammar.specs.declared.tree.TableName.{TableName}
use Rattle.om_grammar.specs.Reading.{offset_of, table}
use Rattle.om_grammar.proofs.ConditionShrinks.{table_shrinks}
use Rattle.om_grammar.specs.Grammar.{Tokens}
use Rattle.om_grammar.specs.Parsers.{Step, Reads, behind}
use Rattle.om_grammar.proofs.ListLemmas.{Left, left_more, left_err, left_done, member_shorter}
use Rattle.om_grammar.proofs.parts.tables.Goals as goal

pub returns-in_err-table-2 : goal.returns-in_err-table-2
returns-in_err-table-2 c =
    let why = c.in_err-table-2.field-0.0 in
    let rest = c.table-in-Some.new.tokens in
    let read = subst (λ (l : Tokens). Reads (table l) (Err why) rest) c.in-Some.ensures.after c.in_err-table-2.ensures in
    let left = left_err (offset_of t.Comma) (λ _. table) table_shrinks (λ tables. tables) c.commas.tables c.commas.tokens c.in-Some.field-0 why rest (sym c.in-Some.ensures.seen) read in
    let all = subst (λ (s : Step (List TableName)). Reads s (Err why) rest) (sym c.commas.invariant) left in
    search rules

pub commas-smaller : goal.commas-smaller
commas-smaller c =
    let read = ap (table) (sym c.in-Some.ensures.after) ∙ c.in_ok-table-2.ensures in
    member_shorter (offset_of t.Comma) (λ _. table) table_shrinks c.commas.tokens c.in-Some.field-0 (Ok c.in_ok-table-2.field-0) c.table-in-Some.new.tokens (sym c.in-Some.ensures.seen) read

pub commas-preserved : goal.commas-preserved
commas-preserved c =
    let read = ap (table) (sym c.in-Some.ensures.after) ∙ c.in_ok-table-2.ensures in
    let more = left_more (offset_of t.Comma) (λ _. table) table_shrinks (λ tables. tables) c.commas.tables c.commas.tokens c.in-Some.field-0 c.in_ok-table-2.field-0 c.table-in-Some.new.tokens (sym c.in-Some.ensures.seen) read in
    c.commas.invariant ∙ more ∙ ap (λ l. Left (offset_of t.Comma) (λ _. table) table_shrinks (λ tables. tables) l c.table-in-Some.new.tokens) (sym c.in_ok-push-2.ensures.ok)

pub returns : goal.returns
returns c =
    let none = sym c.eat.ensures.seen ∙ c.in_default.is in
    let next = c.eat.ensures.after ∙ ap (λ seen. behind seen c.commas.tokens) c.in_default.is in
    c.commas.invariant ∙ left_done (offset_of t.Comma) (λ _. table) table_shrinks (λ tables. tables) c.commas.tables c.commas.tokens none ∙ ap (λ (l : Tokens). (Ok (c.commas.tables), l)) (sym next)
