-- Tables that are judged one by one.
use Rattle.std.proofs.Common.{◌≡◌, ℕ, zero, suc, ◌+◌, ◌-◌, ◌≤◌, List, [], ◌∷◌, ◌++◌, length, take, drop, get_or, sym, ap, ◌∙◌, append_assoc, arith}
use native.Mathlib.Numerals.{unary_clauses}
use Rattle.std.proofs.lemmas.List.{take_all}
use Rattle.om_grammar.specs.declared.tree.TableName.{TableName}
use Rattle.om_typing.specs.Mistakes.{noted_all}
use Rattle.om_typing.specs.Queries.{table_mistakes, tables_mistakes}
use Rattle.om_typing.specs.declared.mistake.Foremost.{Foremost}
use Rattle.om_typing.proofs.Noting.{noted_append}

-- so many tables were judged, and these are left
pub record AreLeft (start : Foremost) (tables : List TableName) (before : ℕ) (rest : List TableName) (found : Foremost) : Type 0 where
  pub counted : before + length rest ≡ length tables
  pub behind : take before tables ++ rest ≡ tables
  pub noted : noted_all start (tables_mistakes [] tables) ≡ noted_all found (tables_mistakes (take before tables) rest)

-- the members taken before one and that one
taken_more : {A : Type 0} (xs : List A) (n : ℕ) (x : A) (rest : List A) → take n xs ++ x ∷ rest ≡ xs → take (suc n) xs ≡ take n xs ++ x ∷ []
taken_more xs zero x rest is = ap (take 1) (sym is)
taken_more [] (suc n) x rest is = absurd cc
taken_more (y ∷ ys) (suc n) x rest is = ap (λ l. y ∷ l) (taken_more ys n x rest cc)

next_of : (start : Foremost) (tables : List TableName) (before : ℕ) (x : TableName) (rest : List TableName) (found : Foremost) → AreLeft start tables before (x ∷ rest) found → AreLeft start tables (before + 1) rest (noted_all found (table_mistakes (take before tables) x))
next_of start tables before x rest found left =
    let more : take (before + 1) tables ≡ take before tables ++ x ∷ [] = simp unary_clauses (taken_more tables before x rest left.behind) in
    record {
      counted = omega (arith, left.counted);
      behind = ap (λ l. l ++ rest) more ∙ append_assoc (take before tables) (x ∷ []) rest ∙ left.behind;
      noted = left.noted ∙ noted_append found (table_mistakes (take before tables) x) (tables_mistakes (take before tables ++ x ∷ []) rest) ∙ ap (λ l. noted_all (noted_all found (table_mistakes (take before tables) x)) (tables_mistakes l rest)) (sym more);
    }

-- one more is judged
pub next_left : (start : Foremost) (tables : List TableName) (before : ℕ) (rest : List TableName) (x : TableName) (found next : Foremost) → 1 ≤ length rest → x ≡ get_or rest 0 x → AreLeft start tables before rest found
    → next ≡ noted_all found (table_mistakes (take before tables) x) → AreLeft start tables (before + 1) (take (length rest - 1) (drop 1 rest)) next
next_left start tables before [] x found next some is left noted = absurd (omega (arith, some))
next_left start tables before (y ∷ ys) x found next some is left noted =
    let whole : take (length (y ∷ ys) - 1) (drop 1 (y ∷ ys)) ≡ ys = simp unary_clauses (take_all (length ys) ys (omega arith)) in
    rw (whole, noted, is) (next_of start tables before y ys found left)
