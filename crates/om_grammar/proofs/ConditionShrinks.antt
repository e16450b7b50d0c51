-- Parsers of members of lists leave no more tokens than they were given.
use Rattle.std.proofs.Common.{ℕ}
use Rattle.om_grammar.specs.Grammar.{IsNeg, IsConj, IsItem, IsTable, IsColumn, IsSortKey}
use Rattle.om_grammar.specs.Reading as r
use Rattle.om_grammar.proofs.ListLemmas.{Shrinks}
use Rattle.om_grammar.proofs.Runs.{shrinks_of}
use Rattle.om_grammar.proofs.ReadsConditions.{neg_runs, neg_truth_runs, conj_runs}
use Rattle.om_grammar.proofs.ReadsParts.{item_runs, table_runs, column_runs, sort_key_runs}

pub truth_shrinks : (depth s : ℕ) → Shrinks (r.truth (r.neg_at depth))
truth_shrinks depth s = shrinks_of depth (r.truth (r.neg_at depth)) IsNeg (neg_truth_runs depth (r.neg_at depth) (neg_runs depth))

pub conj_shrinks : (depth s : ℕ) → Shrinks (r.conj (r.neg_at depth))
conj_shrinks depth s = shrinks_of depth (r.conj (r.neg_at depth)) IsConj (conj_runs depth (r.neg_at depth) (neg_runs depth))

pub item_shrinks : (depth s : ℕ) → Shrinks (r.item depth)
item_shrinks depth s = shrinks_of depth (r.item depth) IsItem (item_runs depth)

pub table_shrinks : (s : ℕ) → Shrinks r.table
table_shrinks s = shrinks_of 0 r.table IsTable (table_runs 0)

pub column_shrinks : (s : ℕ) → Shrinks r.column
column_shrinks s = shrinks_of 0 r.column IsColumn (column_runs 0)

pub sort_key_shrinks : (s : ℕ) → Shrinks r.sort_key
sort_key_shrinks s = shrinks_of 0 r.sort_key IsSortKey (sort_key_runs 0)
