-- What the texts of names and lists spell: tokens, and a tree of them that is the same as theirs apart from offsets.
use Rattle.std.proofs.Common.{ℕ, ◌+◌, List, [], ◌∷◌, ◌++◌, length, Option, Some, None, codes, refl}
use Rattle.om_token.specs.declared.token.Kind.{Kind}
use Rattle.om_token.specs.declared.token.Kind.TheVariants as k
use Rattle.om_token.specs.declared.terminal.Terminal.{Terminal}
use Rattle.om_token.specs.declared.terminal.Terminal.TheVariants as t
use Rattle.om_grammar.specs.declared.tree.Label.{Label}
use Rattle.om_grammar.specs.declared.tree.ColumnName.{ColumnName}
use Rattle.om_grammar.specs.declared.tree.Identifier.{Identifier}
use Rattle.om_grammar.specs.Grammar.{Tokens, Lang, token, terminal, in_parens, IsIdentifier, IsColumn, IsQualifier, AreMore, AreListed}
use Rattle.om_grammar.specs.Words.{word, in_brackets, identifier_text, qualifier_text, column_text, more_text, list_text, call_text}
use Rattle.om_grammar.specs.Sameness.{SameOption, SameList, SameLabel, SameColumn}
use Rattle.om_grammar.proofs.Cuts.{Cuts, both, nothing, MayFollow, word_cut, brackets_cut, comma_cut, dot_follows, Ends, comma, ends_word}
use Rattle.om_grammar.proofs.Written.{IsWritten, AllWritten, written_front, written_back, regular_cut, delimited_cut}

-- at an offset, and before what follows, a text is cut into tokens that have a tree, and it is the same as this one
pub record Spelled {A : Type 0} (M : Lang A) (Same : A → A → Type 0) (text : List ℕ) (x : A) (at : ℕ) (following : List ℕ) : Type 0 where
  pub tokens : Tokens
  pub tree : A
  pub cut : Cuts at text tokens following
  pub is_tree : M tokens tree
  pub same : Same x tree

-- at any offset, and before anything that ends a part of a query
abbrev pub SpelledAnywhere : {A : Type 0} → Lang A → (A → A → Type 0) → List ℕ → A → Type 0
SpelledAnywhere M Same text x = (at : ℕ) (following : List ℕ) → Ends following → Spelled M Same text x at following

-- in a wider language
pub wider : {A : Type 0} {M N : Lang A} {Same : A → A → Type 0} {text : List ℕ} {x : A} → ((u : Tokens) (y : A) → M u y → N u y)
    → SpelledAnywhere M Same text x → SpelledAnywhere N Same text x
wider f h at following ends = let s = h at following ends in record { tokens = s.tokens; tree = s.tree; cut = s.cut; is_tree = f s.tokens s.tree s.is_tree; same = s.same }

-- ---- names

pub identifier_cut : {kind : Kind} {name : Identifier} → IsIdentifier kind name → IsWritten kind → (at : ℕ) (following : List ℕ) → Ends following
    → Cuts at (identifier_text name) (token at kind ∷ []) following
identifier_cut (IsIdentifier.regular {name = name}) h at following ends = regular_cut name at following h (ends_word ends)
identifier_cut (IsIdentifier.delimited {inside = inside}) h at following ends = delimited_cut inside at following h ends

variable_cut : (variable : List ℕ) (at : ℕ) (following : List ℕ) → IsWritten (k.Regular variable)
    → Cuts at (variable ++ codes ".") (token at (k.Regular variable) ∷ terminal (at + length variable) t.Dot ∷ []) following
variable_cut variable at following h = both (regular_cut variable at (46 ∷ following) h refl) (word_cut t.Dot (at + length variable) following (dot_follows following))

pub qualifier_spelled : {u : Tokens} {qualifier : Option Label} → IsQualifier u qualifier → AllWritten u → (at : ℕ) (following : List ℕ)
    → Spelled IsQualifier (SameOption SameLabel) (qualifier_text qualifier) qualifier at following
qualifier_spelled IsQualifier.none h at following = record { tokens = []; tree = None; cut = nothing; is_tree = IsQualifier.none; same = SameOption.none }
qualifier_spelled (IsQualifier.some {variable = variable} old_at old_dot) h at following =
    record {
      tokens = token at (k.Regular variable) ∷ terminal (at + length variable) t.Dot ∷ [];
      tree = Some (record { at = at; name = variable });
      cut = variable_cut variable at following h.0;
      is_tree = IsQualifier.some at (at + length variable);
      same = SameOption.some refl;
    }

pub column_spelled : {u : Tokens} {column : ColumnName} → IsColumn u column → AllWritten u → SpelledAnywhere IsColumn SameColumn (column_text column) column
column_spelled (IsColumn.alone {kind = kind} {name = name} old_at h) w at following ends =
    record {
      tokens = token at kind ∷ [];
      tree = record { qualifier = None; at = at; name = name };
      cut = identifier_cut h w.0 at following ends;
      is_tree = IsColumn.alone at h;
      same = record { qualifier = SameOption.none; name = refl };
    }
column_spelled (IsColumn.qualified {variable = variable} {kind = kind} {name = name} old_at old_dot old_name h) w at following ends =
    record {
      tokens = token at (k.Regular variable) ∷ terminal (at + length variable) t.Dot ∷ token (at + length (variable ++ codes ".")) kind ∷ [];
      tree = record { qualifier = Some (record { at = at; name = variable }); at = at + length (variable ++ codes "."); name = name };
      cut = both (variable_cut variable at (identifier_text name ++ following) w.0) (identifier_cut h w.1.1.0 (at + length (variable ++ codes ".")) following ends);
      is_tree = IsColumn.qualified at (at + length variable) (at + length (variable ++ codes ".")) h;
      same = record { qualifier = SameOption.some refl; name = refl };
    }

-- ---- calls

pub call_cut : (which : Terminal) {text : List ℕ} {tokens : Tokens} (at : ℕ) (following : List ℕ) → MayFollow which (in_brackets text ++ following)
    → Cuts (at + length (word which) + 1) text tokens (41 ∷ following)
    → Cuts at (call_text which text) (terminal at which ∷ in_parens (at + length (word which)) (at + length (word which) + 1 + length text) tokens) following
call_cut which at following may inside = both (word_cut which at _ may) (brackets_cut (at + length (word which)) following inside)

-- ---- lists

module _ {A : Type 0} (M : Lang A) (Same : A → A → Type 0) (text : A → List ℕ) (member : (u : Tokens) (x : A) → M u x → AllWritten u → SpelledAnywhere M Same (text x) x) where
  more_ends : (xs : List A) (following : List ℕ) → Ends following → Ends (more_text text xs ++ following)
  more_ends [] following ends = ends
  more_ends (x ∷ xs) following ends = comma

  more_spelled : {u : Tokens} {xs : List A} → AreMore t.Comma M u xs → AllWritten u → SpelledAnywhere (AreMore t.Comma M) (SameList Same) (more_text text xs) xs
  more_spelled AreMore.none w at following ends = record { tokens = []; tree = []; cut = nothing; is_tree = AreMore.none; same = SameList.none }
  more_spelled (AreMore.more {u = u} {w = v} {x = x} {xs = xs} old_at h g) w at following ends =
      let first = member u x h (written_front u v w.1) (at + 2) (more_text text xs ++ following) (more_ends xs following ends) in
      let rest = more_spelled g (written_back u v w.1) (at + length (codes ", " ++ text x)) following ends in
      record {
        tokens = terminal at t.Comma ∷ (first.tokens ++ rest.tokens);
        tree = first.tree ∷ rest.tree;
        cut = both (both (comma_cut at (text x ++ (more_text text xs ++ following))) first.cut) rest.cut;
        is_tree = AreMore.more at first.is_tree rest.is_tree;
        same = SameList.more first.same rest.same;
      }

  pub list_spelled : {u : Tokens} {xs : List A} → AreListed t.Comma M u xs → AllWritten u → SpelledAnywhere (AreListed t.Comma M) (SameList Same) (list_text text xs) xs
  list_spelled (AreListed.list {u = u} {w = v} {x = x} {xs = xs} h g) w at following ends =
      let first = member u x h (written_front u v w) at (more_text text xs ++ following) (more_ends xs following ends) in
      let rest = more_spelled g (written_back u v w) (at + length (text x)) following ends in
      record {
        tokens = first.tokens ++ rest.tokens;
        tree = first.tree ∷ rest.tree;
        cut = both first.cut rest.cut;
        is_tree = AreListed.list first.is_tree rest.is_tree;
        same = SameList.more first.same rest.same;
      }
