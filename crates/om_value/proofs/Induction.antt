-- Induction over expressions and over conditions, a case for each form.
use Rattle.std.proofs.Common.{ℕ, List, [], ◌∷◌, map, subst}
use Rattle.om_value.specs.declared.column.Column.{Column}
use Rattle.om_value.specs.declared.comparison.Compare.{Compare}
use Rattle.om_value.specs.declared.cond.Cond.{Cond}
use Rattle.om_value.specs.declared.cond.Cond.TheFolds.{ind-Cond, map-Cond}
use Rattle.om_value.specs.declared.cond.Cond.TheOpen.{Cond-F}
use Rattle.om_value.specs.declared.cond.Cond.TheVariants as cond
use Rattle.om_value.specs.declared.cond.Cond.TheVariants.{rolls-Compare, rolls-Between, rolls-In, rolls-IsNull, rolls-Not, rolls-All, rolls-Any}
use Rattle.om_value.specs.declared.cond.Cond.TheViews as cond_view
use Rattle.om_value.specs.declared.cond.Polarity.{Polarity}
use Rattle.om_value.specs.declared.expr.Addend.{Addend}
use Rattle.om_value.specs.declared.expr.Expr.{Expr}
use Rattle.om_value.specs.declared.expr.Expr.TheFolds.{ind-Expr, map-Expr, map-Factor}
use Rattle.om_value.specs.declared.expr.Expr.TheOpen.{Expr-F, Addend-F, Factor-F}
use Rattle.om_value.specs.declared.expr.Expr.TheVariants as expr
use Rattle.om_value.specs.declared.expr.Expr.TheVariants.{rolls-Numeral, rolls-Text, rolls-Null, rolls-Column, rolls-Sum, rolls-Product, rolls-Sign, rolls-Signed, rolls-Bits, rolls-Memory}
use Rattle.om_value.specs.declared.expr.Expr.TheViews as view
use Rattle.om_value.specs.declared.expr.Factor.{Factor}
use Rattle.om_value.specs.declared.expr.Factor.TheVariants as factor
use Rattle.om_value.specs.declared.expr.Factor.TheVariants.{rolls-Times, rolls-Over}
use Rattle.om_value.specs.declared.expr.Sign.{Sign}
use Rattle.om_value.specs.declared.expr.Width.{Width}

-- each of a list has it
abbrev pub Each : {A : Type 0} → (A → Type 0) → List A → Type 0
Each P [] = Unit {0}
Each P (x ∷ xs) = P x × Each P xs

-- the term of an addend has it
abbrev pub OfTerm : (Expr → Type 0) → Addend → Type 0
OfTerm P addend = P addend.term

-- the factor has it, where it is an expression
abbrev pub OfFactor : (Expr → Type 0) → Factor → Type 0
OfFactor P (factor.Times e) = P e
OfFactor P (factor.Over n) = Unit {0}

pub record Cases (P : Expr → Type 0) : Type 0 where
  pub numeral : (n : ℕ) → P (expr.Numeral n)
  pub text : (bytes : List ℕ) → P (expr.Text bytes)
  pub nothing : P expr.Null
  pub column : (c : Column) → P (expr.Column c)
  pub sum : (first : Expr) (rest : List Addend) → P first → Each (OfTerm P) rest → P (view.Sum first rest)
  pub product : (first : Expr) (rest : List Factor) → P first → Each (OfFactor P) rest → P (view.Product first rest)
  pub sign : (s : Sign) (e : Expr) → P e → P (view.Sign s e)
  pub signed : (e : Expr) → P e → P (view.Signed e)
  pub bits : (e : Expr) (high low : ℕ) → P e → P (view.Bits e high low)
  pub memory : (table : ℕ) (width : Width) (e : Expr) → P e → P (view.Memory table width e)

each_of : {A : Type 0} (P : A → Type 0) (xs : List ((x : A) × P x)) → Each P (map (λ x. x.0) xs)
each_of P [] = tt
each_of P (x ∷ xs) = (x.1, each_of P xs)

pub by_cases : (P : Expr → Type 0) → Cases P → (e : Expr) → P e
by_cases P c = ind-Expr P (OfFactor P) (OfTerm P)
    (λ x y is.
    let at : (z : Expr-F Expr Factor Addend) → Type 0 = λ z. P (view.roll-Expr z) in
    subst at is (elim y as (λ y. at (map-Expr _ _ _ Expr Factor Addend (λ e. e.0) (λ e. e.0) (λ e. e.0) y)) [
      | Expr-F.Numeral n ↦ rw rolls-Numeral (c.numeral n)
      | Expr-F.Text bytes ↦ rw rolls-Text (c.text bytes)
      | Expr-F.Null ↦ rw rolls-Null c.nothing
      | Expr-F.Column column ↦ rw rolls-Column (c.column column)
      | Expr-F.Sum first rest ↦ rw rolls-Sum (c.sum first.0 (map (λ a. a.0) rest) first.1 (each_of (OfTerm P) rest))
      | Expr-F.Product first rest ↦ rw rolls-Product (c.product first.0 (map (λ a. a.0) rest) first.1 (each_of (OfFactor P) rest))
      | Expr-F.Sign s e ↦ rw rolls-Sign (c.sign s e.0 e.1)
      | Expr-F.Signed e ↦ rw rolls-Signed (c.signed e.0 e.1)
      | Expr-F.Bits e high low ↦ rw rolls-Bits (c.bits e.0 high low e.1)
      | Expr-F.Memory table width e ↦ rw rolls-Memory (c.memory table width e.0 e.1)
    ]))
    (λ x y is.
    let at : (z : Factor-F Expr Factor Addend) → Type 0 = λ z. OfFactor P (view.roll-Factor z) in
    subst at is (elim y as (λ y. at (map-Factor _ _ _ Expr Factor Addend (λ e. e.0) (λ e. e.0) (λ e. e.0) y)) [
      | Factor-F.Times e ↦ rw rolls-Times e.1
      | Factor-F.Over n ↦ rw rolls-Over tt
    ]))
    (λ x y is.
    let at : (z : Addend-F Expr Factor Addend) → Type 0 = λ z. OfTerm P (view.roll-Addend z) in
    subst at is y.term.1)

-- ---- conditions

pub record CondCases (P : Cond → Type 0) : Type 0 where
  pub compare : (compare : Compare) (left right : Expr) → P (cond.Compare compare left right)
  pub between : (polarity : Polarity) (what low high : Expr) → P (cond.Between polarity what low high)
  pub among : (polarity : Polarity) (what : Expr) (list : List Expr) → P (cond.In polarity what list)
  pub is_null : (polarity : Polarity) (what : Expr) → P (cond.IsNull polarity what)
  pub negation : (member : Cond) → P member → P (cond.Not member)
  pub all : (members : List Cond) → Each P members → P (cond.All members)
  pub any : (members : List Cond) → Each P members → P (cond.Any members)

pub by_cond_cases : (P : Cond → Type 0) → CondCases P → (c : Cond) → P c
by_cond_cases P cases = ind-Cond P (λ x y is.
    let at : (z : Cond-F Cond) → Type 0 = λ z. P (cond_view.roll-Cond z) in
    subst at is (elim y as (λ y. at (map-Cond _ Cond (λ e. e.0) y)) [
      | Cond-F.Compare compare left right ↦ rw rolls-Compare (cases.compare compare left right)
      | Cond-F.Between polarity what low high ↦ rw rolls-Between (cases.between polarity what low high)
      | Cond-F.In polarity what list ↦ rw rolls-In (cases.among polarity what list)
      | Cond-F.IsNull polarity what ↦ rw rolls-IsNull (cases.is_null polarity what)
      | Cond-F.Not member ↦ rw rolls-Not (cases.negation member.0 member.1)
      | Cond-F.All members ↦ rw rolls-All (cases.all (map (λ m. m.0) members) (each_of P members))
      | Cond-F.Any members ↦ rw rolls-Any (cases.any (map (λ m. m.0) members) (each_of P members))
    ]))
