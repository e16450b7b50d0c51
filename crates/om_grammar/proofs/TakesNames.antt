-- Names, columns, tables and keys are read as their tokens say, where what follows doesn't go on with them.
use Rattle.std.proofs.Common.{◌≡◌, ◌++◌, Option, None, Ok, refl}
use Rattle.om_token.specs.declared.terminal.Terminal.TheVariants as t
use Rattle.om_token.specs.Terminals.{same}
use Rattle.om_grammar.specs.declared.tree.Alias.{Alias}
use Rattle.om_grammar.specs.declared.tree.Label.{Label}
use Rattle.om_grammar.specs.declared.tree.TableName.{TableName}
use Rattle.om_grammar.specs.declared.tree.ColumnName.{ColumnName}
use Rattle.om_grammar.specs.declared.tree.SortKey.{SortKey}
use Rattle.om_grammar.specs.declared.expr_tree.ExprTree.TheVariants as v
use Rattle.om_grammar.specs.declared.aggregates.Aggregates.{Aggregates}
use Rattle.om_grammar.specs.declared.start.Start.TheVariants as start
use Rattle.om_grammar.specs.Grammar.{Tokens, IsIdentifier, IsColumn, IsLabel, IsAlias, IsNaming, IsTable, IsKey, IsDirection, IsSortKey}
use Rattle.om_grammar.specs.Reading as r
use Rattle.om_grammar.specs.Reading.{offset_of, label_of, alias_of, direction_of, front, after_lead, named, after_dot, column_named, naming}
use Rattle.om_grammar.specs.Parsers.{found}
use Rattle.om_grammar.proofs.Takes.{Yields, reads, yields_then}

-- ---- columns

-- a column in an expression
pub column_front : {u : Tokens} {x : ColumnName} → IsColumn u x → (g : Aggregates) (rest : Tokens) → found (offset_of t.Dot) rest ≡ None
    → front g (u ++ rest) ≡ (Ok (start.Whole (v.Column x)), rest)
unfolding front after_lead named after_dot same
column_front (IsColumn.alone at IsIdentifier.regular) g rest e = rw e refl
column_front (IsColumn.alone at IsIdentifier.delimited) g rest e = refl
column_front (IsColumn.qualified variable_at dot_at at IsIdentifier.regular) g rest e = refl
column_front (IsColumn.qualified variable_at dot_at at IsIdentifier.delimited) g rest e = refl

-- a column that groups
pub column_takes : {u : Tokens} {x : ColumnName} → IsColumn u x → (rest : Tokens) → found (offset_of t.Dot) rest ≡ None → Yields (r.column (u ++ rest)) x rest
unfolding r.column column_named same
column_takes (IsColumn.alone at IsIdentifier.regular) rest e = rw e (reads refl)
column_takes (IsColumn.alone at IsIdentifier.delimited) rest e = reads refl
column_takes (IsColumn.qualified variable_at dot_at at IsIdentifier.regular) rest e = reads refl
column_takes (IsColumn.qualified variable_at dot_at at IsIdentifier.delimited) rest e = reads refl

-- ---- [[AS] name]

-- these tokens don't go on with an alias
pub record EndsAlias (rest : Tokens) : Type 0 where
  pub no_as : found (offset_of t.As) rest ≡ None
  pub no_name : found alias_of rest ≡ None

-- these tokens don't go on with the name of a range variable
pub record EndsLabel (rest : Tokens) : Type 0 where
  pub no_as : found (offset_of t.As) rest ≡ None
  pub no_name : found label_of rest ≡ None

pub alias_takes : {w : Tokens} {x : Option Alias} → IsNaming IsAlias w x → (rest : Tokens) → EndsAlias rest → Yields (naming alias_of (w ++ rest)) x rest
unfolding naming same
alias_takes IsNaming.none rest e = rw (e.no_as, e.no_name) (reads refl)
alias_takes (IsNaming.bare (IsAlias.alias at IsIdentifier.regular)) rest e = reads refl
alias_takes (IsNaming.bare (IsAlias.alias at IsIdentifier.delimited)) rest e = reads refl
alias_takes (IsNaming.«as» as_at (IsAlias.alias at IsIdentifier.regular)) rest e = reads refl
alias_takes (IsNaming.«as» as_at (IsAlias.alias at IsIdentifier.delimited)) rest e = reads refl

label_takes : {w : Tokens} {x : Option Label} → IsNaming IsLabel w x → (rest : Tokens) → EndsLabel rest → Yields (naming label_of (w ++ rest)) x rest
unfolding naming same
label_takes IsNaming.none rest e = rw (e.no_as, e.no_name) (reads refl)
label_takes (IsNaming.bare (IsLabel.label at)) rest e = reads refl
label_takes (IsNaming.«as» as_at (IsLabel.label at)) rest e = reads refl

pub table_takes : {w : Tokens} {x : TableName} → IsTable w x → (rest : Tokens) → EndsLabel rest → Yields (r.table (w ++ rest)) x rest
unfolding r.table
table_takes (IsTable.table at h) rest e = yields_then _ (label_takes h rest e) (reads refl)

-- ---- keys

pub key_takes : {w : Tokens} {x : SortKey} → IsSortKey w x → (rest : Tokens) → found direction_of rest ≡ None → Yields (r.sort_key (w ++ rest)) x rest
unfolding r.sort_key same
key_takes (IsSortKey.sort_key at IsKey.position IsDirection.none) rest e = rw e (reads refl)
key_takes (IsSortKey.sort_key at IsKey.position (IsDirection.ascending word_at)) rest e = reads refl
key_takes (IsSortKey.sort_key at IsKey.position (IsDirection.descending word_at)) rest e = reads refl
key_takes (IsSortKey.sort_key at (IsKey.named IsIdentifier.regular) IsDirection.none) rest e = rw e (reads refl)
key_takes (IsSortKey.sort_key at (IsKey.named IsIdentifier.regular) (IsDirection.ascending word_at)) rest e = reads refl
key_takes (IsSortKey.sort_key at (IsKey.named IsIdentifier.regular) (IsDirection.descending word_at)) rest e = reads refl
key_takes (IsSortKey.sort_key at (IsKey.named IsIdentifier.delimited) IsDirection.none) rest e = rw e (reads refl)
key_takes (IsSortKey.sort_key at (IsKey.named IsIdentifier.delimited) (IsDirection.ascending word_at)) rest e = reads refl
key_takes (IsSortKey.sort_key at (IsKey.named IsIdentifier.delimited) (IsDirection.descending word_at)) rest e = reads refl
