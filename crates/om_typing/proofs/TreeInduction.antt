-- Induction over the expressions of a tree, a case for each form.
use Rattle.std.proofs.Common.{ℕ, List, [], ◌∷◌, map, Option, subst}
use Rattle.om_grammar.specs.declared.tree.Label.{Label}
use Rattle.om_grammar.specs.declared.tree.ColumnName.{ColumnName}
use Rattle.om_grammar.specs.declared.expr_tree.Addend.{Addend}
use Rattle.om_grammar.specs.declared.expr_tree.ExprTree.{ExprTree}
use Rattle.om_grammar.specs.declared.expr_tree.ExprTree.TheFolds.{ind-ExprTree, map-ExprTree}
use Rattle.om_grammar.specs.declared.expr_tree.ExprTree.TheOpen.{ExprTree-F, Addend-F, Factor-F}
use Rattle.om_grammar.specs.declared.expr_tree.ExprTree.TheVariants as v
use Rattle.om_grammar.specs.declared.expr_tree.ExprTree.TheVariants.{rolls-Numeral, rolls-Text, rolls-Null, rolls-Column, rolls-Sum, rolls-Product, rolls-Sign, rolls-Signed, rolls-Bits, rolls-Memory, rolls-CountRows, rolls-Aggregate}
use Rattle.om_grammar.specs.declared.expr_tree.ExprTree.TheViews as e
use Rattle.om_grammar.specs.declared.expr_tree.Factor.{Factor}
use Rattle.om_grammar.specs.declared.expr_tree.Function.{Function}
use Rattle.om_grammar.specs.declared.expr_tree.Numeral.{Numeral}
use Rattle.om_grammar.specs.declared.expr_tree.Sign.{Sign}
use Rattle.om_grammar.specs.declared.expr_tree.Width.{Width}

-- each of a list has it
abbrev pub Each : {A : Type 0} → (A → Type 0) → List A → Type 0
Each P [] = Unit {0}
Each P (x ∷ xs) = P x × Each P xs

abbrev pub OfTerm : (ExprTree → Type 0) → Addend → Type 0
OfTerm P addend = P addend.term

abbrev pub OfFactor : (ExprTree → Type 0) → Factor → Type 0
OfFactor P factor = P factor.factor

pub record TreeCases (P : ExprTree → Type 0) : Type 0 where
  pub numeral : (numeral : Numeral) → P (v.Numeral numeral)
  pub text : (at : ℕ) (said : List ℕ) → P (v.Text at said)
  pub nothing : (at : ℕ) → P (v.Null at)
  pub column : (column : ColumnName) → P (v.Column column)
  pub sum : (first : ExprTree) (rest : List Addend) → P first → Each (OfTerm P) rest → P (e.Sum first rest)
  pub product : (first : ExprTree) (rest : List Factor) → P first → Each (OfFactor P) rest → P (e.Product first rest)
  pub sign : (at : ℕ) (sign : Sign) (expr : ExprTree) → P expr → P (e.Sign at sign expr)
  pub signed : (at : ℕ) (expr : ExprTree) → P expr → P (e.Signed at expr)
  pub bits : (at : ℕ) (expr : ExprTree) (high low : Numeral) → P expr → P (e.Bits at expr high low)
  pub memory : (qualifier : Option Label) (at : ℕ) (width : Width) (address : ExprTree) → P address → P (e.Memory qualifier at width address)
  pub rows : (at : ℕ) → P (v.CountRows at)
  pub aggregate : (at : ℕ) (function : Function) (expr : ExprTree) → P expr → P (e.Aggregate at function expr)

each_of : {A : Type 0} (P : A → Type 0) (xs : List ((x : A) × P x)) → Each P (map (λ x. x.0) xs)
each_of P [] = tt
each_of P (x ∷ xs) = (x.1, each_of P xs)

pub by_tree : (P : ExprTree → Type 0) → TreeCases P → (tree : ExprTree) → P tree
by_tree P c = ind-ExprTree P (OfTerm P) (OfFactor P)
    (λ x y is.
    let at : (z : ExprTree-F ExprTree Addend Factor) → Type 0 = λ z. P (e.roll-ExprTree z) in
    subst at is (elim y as (λ y. at (map-ExprTree _ _ _ ExprTree Addend Factor (λ t. t.0) (λ t. t.0) (λ t. t.0) y)) [
      | ExprTree-F.Numeral numeral ↦ rw rolls-Numeral (c.numeral numeral)
      | ExprTree-F.Text at said ↦ rw rolls-Text (c.text at said)
      | ExprTree-F.Null at ↦ rw rolls-Null (c.nothing at)
      | ExprTree-F.Column column ↦ rw rolls-Column (c.column column)
      | ExprTree-F.Sum first rest ↦ rw rolls-Sum (c.sum first.0 (map (λ a. a.0) rest) first.1 (each_of (OfTerm P) rest))
      | ExprTree-F.Product first rest ↦ rw rolls-Product (c.product first.0 (map (λ a. a.0) rest) first.1 (each_of (OfFactor P) rest))
      | ExprTree-F.Sign at sign expr ↦ rw rolls-Sign (c.sign at sign expr.0 expr.1)
      | ExprTree-F.Signed at expr ↦ rw rolls-Signed (c.signed at expr.0 expr.1)
      | ExprTree-F.Bits at expr high low ↦ rw rolls-Bits (c.bits at expr.0 high low expr.1)
      | ExprTree-F.Memory qualifier at width address ↦ rw rolls-Memory (c.memory qualifier at width address.0 address.1)
      | ExprTree-F.CountRows at ↦ rw rolls-CountRows (c.rows at)
      | ExprTree-F.Aggregate at function expr ↦ rw rolls-Aggregate (c.aggregate at function expr.0 expr.1)
    ]))
    (λ x y is.
    let at : (z : Addend-F ExprTree Addend Factor) → Type 0 = λ z. OfTerm P (e.roll-Addend z) in
    subst at is y.term.1)
    (λ x y is.
    let at : (z : Factor-F ExprTree Addend Factor) → Type 0 = λ z. OfFactor P (e.roll-Factor z) in
    subst at is y.factor.1)
