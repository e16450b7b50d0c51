-- What the text of a query spells.
use Rattle.std.proofs.Common.{◌≡◌, ℕ, ◌+◌, List, [], ◌∷◌, ◌++◌, length, Option, Some, None, codes, refl, sym, subst, arith}
use Rattle.std.proofs.lemmas.List.{append-nil}
use Rattle.om_token.specs.declared.token.Kind.{Kind}
use Rattle.om_token.specs.declared.token.Kind.TheVariants as k
use Rattle.om_token.specs.declared.terminal.Terminal.{Terminal}
use Rattle.om_token.specs.declared.terminal.Terminal.TheVariants as t
use Rattle.om_token.specs.Tokens.{AreTokens, Splits}
use Rattle.om_grammar.specs.declared.tree.Query.{Query}
use Rattle.om_grammar.specs.declared.tree.Item.{Item}
use Rattle.om_grammar.specs.declared.tree.Alias.{Alias}
use Rattle.om_grammar.specs.declared.tree.TableName.{TableName}
use Rattle.om_grammar.specs.declared.tree.Label.{Label}
use Rattle.om_grammar.specs.declared.tree.ColumnName.{ColumnName}
use Rattle.om_grammar.specs.declared.tree.SortKey.{SortKey}
use Rattle.om_grammar.specs.declared.tree.Key.{Key}
use Rattle.om_grammar.specs.declared.tree.Direction.{Direction}
use Rattle.om_grammar.specs.declared.tree.Direction.TheVariants as direction
use Rattle.om_grammar.specs.declared.cond_tree.CondTree.{CondTree}
use Rattle.om_grammar.specs.Grammar.{Tokens, Lang, token, terminal, IsColumn, AreListed, IsAlias, IsLabel, IsNaming, IsItem, IsTable, IsKey, IsDirection, IsSortKey, IsFilter, IsBy, IsEnd, IsQuery}
use Rattle.om_grammar.specs.Words.{word, spaced, column_text, list_text, naming_text, alias_text, label_text, expr_text, item_text, table_text, key_text, direction_text, sort_key_text, cond_texts, filter_text, by_text, clauses_text, query_text}
use Rattle.om_grammar.specs.Sameness.{SameOption, SameList, SameLabel, SameAlias, SameColumn, SameItem, SameTable, SameSortKey, SameCond}
use Rattle.om_grammar.specs.Spelling.{Spells}
use Rattle.om_grammar.proofs.Cuts.{Cuts, both, nothing, space_cut, word_space, spaced_cut, Ends, end_of_text, space, ends_word, word_cut}
use Rattle.om_grammar.proofs.Written.{IsWritten, AllWritten, written_front, written_back, all_written, regular_cut, numeral_cut}
use Rattle.om_grammar.proofs.Spelled.{SpelledAnywhere, identifier_cut, column_spelled, list_spelled}
use Rattle.om_grammar.proofs.SpelledExpressions.{expr_spelled}
use Rattle.om_grammar.proofs.SpelledConditions.{cond_spelled}

-- ---- names that are given

module _ {A : Type 0} (M : Lang A) (Same : A → A → Type 0) (text : A → List ℕ) (member : (u : Tokens) (x : A) → M u x → AllWritten u → SpelledAnywhere M Same (text x) x) where
  naming_ends : (name : Option A) (following : List ℕ) → Ends following → Ends (naming_text text name ++ following)
  naming_ends None following ends = ends
  naming_ends (Some x) following ends = space

  named_spelled : (x : A) → SpelledAnywhere M Same (text x) x → SpelledAnywhere (IsNaming M) (SameOption Same) (naming_text text (Some x)) (Some x)
  named_spelled x h at following ends =
      let s = h (at + 4) following ends in
      record {
        tokens = terminal (at + 1) t.As ∷ s.tokens;
        tree = Some s.tree;
        cut = both (spaced_cut t.As at (text x ++ following)) s.cut;
        is_tree = IsNaming.«as» (at + 1) s.is_tree;
        same = SameOption.some s.same;
      }

  naming_spelled : {u : Tokens} {name : Option A} → IsNaming M u name → AllWritten u → SpelledAnywhere (IsNaming M) (SameOption Same) (naming_text text name) name
  naming_spelled IsNaming.none w at following ends = record { tokens = []; tree = None; cut = nothing; is_tree = IsNaming.none; same = SameOption.none }
  naming_spelled (IsNaming.bare {u = u} {x = x} h) w at following ends = named_spelled x (member u x h w) at following ends
  naming_spelled (IsNaming.«as» {u = u} {x = x} old_at h) w at following ends = named_spelled x (member u x h w.1) at following ends

alias_spelled : (u : Tokens) (x : Alias) → IsAlias u x → AllWritten u → SpelledAnywhere IsAlias SameAlias (alias_text x) x
alias_spelled _ _ (IsAlias.alias {kind = kind} {name = name} old_at h) w at following ends =
    record { tokens = token at kind ∷ []; tree = record { at = at; name = name }; cut = identifier_cut h w.0 at following ends; is_tree = IsAlias.alias at h; same = refl }

label_spelled : (u : Tokens) (x : Label) → IsLabel u x → AllWritten u → SpelledAnywhere IsLabel SameLabel (label_text x) x
label_spelled _ _ (IsLabel.label {name = name} old_at) w at following ends =
    record { tokens = token at (k.Regular name) ∷ []; tree = record { at = at; name = name }; cut = regular_cut name at following w.0 (ends_word ends); is_tree = IsLabel.label at; same = refl }

-- ---- items, tables and keys

item_spelled : (u : Tokens) (x : Item) → IsItem u x → AllWritten u → SpelledAnywhere IsItem SameItem (item_text x) x
unfolding item_text
item_spelled _ _ (IsItem.item {u = u} {w = v} {x = x} {name = name} h f) w at following ends =
    let s = (expr_spelled h (written_front u v w)).whole at (naming_text alias_text name ++ following) (naming_ends IsAlias SameAlias alias_text alias_spelled name following ends) in
    let r = naming_spelled IsAlias SameAlias alias_text alias_spelled f (written_back u v w) (at + length (expr_text x)) following ends in
    record {
      tokens = s.tokens ++ r.tokens;
      tree = record { expr = s.tree; alias = r.tree };
      cut = both s.cut r.cut;
      is_tree = IsItem.item s.is_tree r.is_tree;
      same = record { expr = s.same; alias = r.same };
    }

table_spelled : (u : Tokens) (x : TableName) → IsTable u x → AllWritten u → SpelledAnywhere IsTable SameTable (table_text x) x
unfolding table_text
table_spelled _ _ (IsTable.table {name = name} {variable = variable} old_at f) w at following ends =
    let r = naming_spelled IsLabel SameLabel label_text label_spelled f w.1 (at + length name) following ends in
    record {
      tokens = token at (k.Regular name) ∷ r.tokens;
      tree = record { at = at; name = name; variable = r.tree };
      cut = both (regular_cut name at (naming_text label_text variable ++ following) w.0 (ends_word (naming_ends IsLabel SameLabel label_text label_spelled variable following ends))) r.cut;
      is_tree = IsTable.table at r.is_tree;
      same = record { name = refl; variable = r.same };
    }

columns_spelled : (u : Tokens) (x : ColumnName) → IsColumn u x → AllWritten u → SpelledAnywhere IsColumn SameColumn (column_text x) x
columns_spelled u x h w = column_spelled h w

key_cut : {kind : Kind} {key : Key} → IsKey kind key → IsWritten kind → (at : ℕ) (following : List ℕ) → Ends following → Cuts at (key_text key) (token at kind ∷ []) following
key_cut (IsKey.position {value = value}) w at following ends = numeral_cut value at following w ends
key_cut (IsKey.named h) w at following ends = identifier_cut h w at following ends

direction_ends : (which : Direction) (following : List ℕ) → Ends following → Ends (direction_text which ++ following)
direction_ends direction.Ascending following ends = ends
direction_ends direction.Descending following ends = space

-- the tokens of a direction
record SpelledDirection (which : Direction) (at : ℕ) (following : List ℕ) : Type 0 where
  tokens : Tokens
  cut : Cuts at (direction_text which) tokens following
  is : IsDirection tokens which

direction_spelled : (which : Direction) (at : ℕ) (following : List ℕ) → Ends following → SpelledDirection which at following
direction_spelled direction.Ascending at following ends = record { tokens = []; cut = nothing; is = IsDirection.none }
direction_spelled direction.Descending at following ends =
    record { tokens = terminal (at + 1) t.Desc ∷ []; cut = both (space_cut at (codes "DESC" ++ following)) (word_cut t.Desc (at + 1) following (ends_word ends)); is = IsDirection.descending (at + 1) }

sort_key_spelled : (u : Tokens) (x : SortKey) → IsSortKey u x → AllWritten u → SpelledAnywhere IsSortKey SameSortKey (sort_key_text x) x
unfolding sort_key_text
sort_key_spelled _ _ (IsSortKey.sort_key {kind = kind} {key = key} {direction = which} old_at h f) w at following ends =
    let r = direction_spelled which (at + length (key_text key)) following ends in
    record {
      tokens = token at kind ∷ r.tokens;
      tree = record { at = at; key = key; direction = which };
      cut = both (key_cut h w.0 at (direction_text which ++ following) (direction_ends which following ends)) r.cut;
      is_tree = IsSortKey.sort_key at h r.is;
      same = record { key = refl; direction = refl };
    }

-- ---- what stands behind the tables

filter_ends : (filter : Option CondTree) (rest following : List ℕ) → Ends (rest ++ following) → Ends (filter_text filter ++ rest ++ following)
unfolding filter_text
filter_ends None rest following ends = ends
filter_ends (Some cond) rest following ends = space

filter_spelled : {u : Tokens} {filter : Option CondTree} → IsFilter u filter → AllWritten u → SpelledAnywhere IsFilter (SameOption SameCond) (filter_text filter) filter
unfolding filter_text
filter_spelled IsFilter.none w at following ends = record { tokens = []; tree = None; cut = nothing; is_tree = IsFilter.none; same = SameOption.none }
filter_spelled (IsFilter.some {u = u} {cond = cond} old_at h) w at following ends =
    let s = (cond_spelled h w.1).whole (at + 7) following ends in
    record {
      tokens = terminal (at + 1) t.Where ∷ s.tokens;
      tree = Some s.tree;
      cut = both (spaced_cut t.Where at ((cond_texts cond).whole ++ following)) s.cut;
      is_tree = IsFilter.some (at + 1) s.is_tree;
      same = SameOption.some s.same;
    }

-- a word and BY, with spaces around them
abbrev by_words : Terminal → List ℕ
by_words which = spaced which ++ (word t.By ++ 32 ∷ [])

module _ {A : Type 0} (M : Lang A) (Same : A → A → Type 0) (text : A → List ℕ) (member : (u : Tokens) (x : A) → M u x → AllWritten u → SpelledAnywhere M Same (text x) x) (which : Terminal) where
  by_ends : (xs : List A) (rest following : List ℕ) → Ends (rest ++ following) → Ends (by_text (by_words which) text xs ++ rest ++ following)
  by_ends [] rest following ends = ends
  by_ends (x ∷ xs) rest following ends = space

  by_list_spelled : (x : A) (xs : List A) → SpelledAnywhere (AreListed t.Comma M) (SameList Same) (list_text text (x ∷ xs)) (x ∷ xs)
      → SpelledAnywhere (IsBy which M) (SameList Same) (by_text (by_words which) text (x ∷ xs)) (x ∷ xs)
  by_list_spelled x xs h at following ends =
      let s = h (at + length (by_words which)) following ends in
      record {
        tokens = terminal (at + 1) which ∷ terminal (at + length (spaced which)) t.By ∷ s.tokens;
        tree = s.tree;
        cut = both (both (spaced_cut which at _) (word_space t.By (at + length (spaced which)) (list_text text (x ∷ xs) ++ following))) s.cut;
        is_tree = IsBy.by (at + 1) (at + length (spaced which)) s.is_tree;
        same = s.same;
      }

  by_some_spelled : {u : Tokens} {xs : List A} → AreListed t.Comma M u xs → SpelledAnywhere (AreListed t.Comma M) (SameList Same) (list_text text xs) xs
      → SpelledAnywhere (IsBy which M) (SameList Same) (by_text (by_words which) text xs) xs
  by_some_spelled (AreListed.list {x = x} {xs = xs} h f) s = by_list_spelled x xs s

  by_spelled : {u : Tokens} {xs : List A} → IsBy which M u xs → AllWritten u → SpelledAnywhere (IsBy which M) (SameList Same) (by_text (by_words which) text xs) xs
  by_spelled IsBy.none w at following ends = record { tokens = []; tree = []; cut = nothing; is_tree = IsBy.none; same = SameList.none }
  by_spelled (IsBy.by old_at old_by h) w at following ends = by_some_spelled h (list_spelled M Same text member h w.1.1) at following ends

-- ---- queries

-- what the four parts of a query spell, one behind the other, to the end of the text
record SpelledParts (query : Query) : Type 0 where
  items : SpelledAnywhere (AreListed t.Comma IsItem) (SameList SameItem) (list_text item_text query.items) query.items
  tables : SpelledAnywhere (AreListed t.Comma IsTable) (SameList SameTable) (list_text table_text query.tables) query.tables
  filter : SpelledAnywhere IsFilter (SameOption SameCond) (filter_text query.filter) query.filter
  groups : SpelledAnywhere (IsBy t.Group IsColumn) (SameList SameColumn) (by_text (codes " GROUP BY ") column_text query.groups) query.groups
  keys : SpelledAnywhere (IsBy t.Order IsSortKey) (SameList SameSortKey) (by_text (codes " ORDER BY ") sort_key_text query.keys) query.keys

parts_spelled : (tokens : Tokens) (query : Query) → IsQuery tokens query → AllWritten tokens → SpelledParts query
parts_spelled _ _ (IsQuery.select {u = u} {v = v} {w = f} {x = x} {y = y} {z = z} at from_at items tables filter groups keys end) w =
    let behind = (written_back u _ w.1).1 in
    let after_tables = written_back v _ behind in
    let after_filter = written_back f _ after_tables in
    let after_groups = written_back x _ after_filter in
    record {
      items = list_spelled IsItem SameItem item_text item_spelled items (written_front u _ w.1);
      tables = list_spelled IsTable SameTable table_text table_spelled tables (written_front v _ behind);
      filter = filter_spelled filter (written_front f _ after_tables);
      groups = by_spelled IsColumn SameColumn column_text columns_spelled t.Group groups (written_front x _ after_filter);
      keys = by_spelled IsSortKey SameSortKey sort_key_text sort_key_spelled t.Order keys (written_front y z after_groups);
    }

keys_end : (keys : List SortKey) → Ends (by_text (codes " ORDER BY ") sort_key_text keys ++ [])
keys_end [] = end_of_text
keys_end (x ∷ xs) = space

groups_end : (groups : List ColumnName) (rest : List ℕ) → Ends (rest ++ []) → Ends (by_text (codes " GROUP BY ") column_text groups ++ rest ++ [])
groups_end [] rest ends = ends
groups_end (x ∷ xs) rest ends = space

whole_cut : {text : List ℕ} {tokens : Tokens} → Cuts 0 text tokens [] → AreTokens text tokens
whole_cut {text} {tokens} h =
    let stop : 0 + length text ≡ length text = omega arith in
    subst (λ (n : ℕ). Splits 0 text tokens n []) stop (subst (λ (l : List ℕ). Splits 0 l tokens (0 + length text) []) (append-nil text) h.splits)

query_spelled : (query : Query) → SpelledParts query → Spells (query_text query) query
unfolding query_text clauses_text
query_spelled query h =
    let order : List ℕ = by_text (codes " ORDER BY ") sort_key_text query.keys in
    let group : List ℕ = by_text (codes " GROUP BY ") column_text query.groups in
    let where_text : List ℕ = filter_text query.filter in
    let tables : List ℕ = list_text table_text query.tables in
    let items : List ℕ = list_text item_text query.items in
    let i = h.items 7 (codes " FROM " ++ (tables ++ (where_text ++ (group ++ order))) ++ []) space in
    let from_at : ℕ = 7 + length items in
    let n = h.tables (from_at + 6) (where_text ++ (group ++ order) ++ []) (filter_ends query.filter (group ++ order) [] (groups_end query.groups order (keys_end query.keys))) in
    let filter_at : ℕ = from_at + 6 + length tables in
    let f = h.filter filter_at (group ++ order ++ []) (groups_end query.groups order (keys_end query.keys)) in
    let group_at : ℕ = filter_at + length where_text in
    let g = h.groups group_at (order ++ []) (keys_end query.keys) in
    let o = h.keys (group_at + length group) [] end_of_text in
    let last : Cuts (group_at + length group) order (o.tokens ++ []) [] = subst (λ (l : Tokens). Cuts (group_at + length group) order l []) (sym (append-nil o.tokens)) o.cut in
    record {
      tokens = terminal 0 t.Select ∷ (i.tokens ++ terminal (from_at + 1) t.From ∷ (n.tokens ++ (f.tokens ++ (g.tokens ++ (o.tokens ++ [])))));
      tree = record { items = i.tree; tables = n.tree; filter = f.tree; groups = g.tree; keys = o.tree };
      cut = whole_cut (both (word_space t.Select 0 _) (both i.cut (both (spaced_cut t.From from_at _) (both n.cut (both f.cut (both g.cut last))))));
      is_tree = IsQuery.select 0 (from_at + 1) i.is_tree n.is_tree f.is_tree g.is_tree o.is_tree IsEnd.none;
      same = record { items = i.same; tables = n.same; filter = f.same; groups = g.same; keys = o.same };
    }

-- the text of a tree that some tokens of a text have
pub spells : (source : List ℕ) (tokens : Tokens) (query : Query) → AreTokens source tokens → IsQuery tokens query → Spells (query_text query) query
spells source tokens query cut h = query_spelled query (parts_spelled tokens query h (all_written cut))
