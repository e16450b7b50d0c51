-- A condition with its ANDs kept, which the split of a WHERE is held against.
use Rattle.std.specs.Prelude.{List, [], ◌∷◌}
use Rattle.om_eval.specs.declared.cond.Cond.{Cond}
use Rattle.om_eval.specs.declared.cond.Cond.TheViews as conds
use Rattle.om_parse.specs.declared.tree.CondTree.{CondTree}
use Rattle.om_parse.specs.declared.tree.CondTree.TheVariants as c
use Rattle.om_type.specs.Typing.{Variables, IsTest}

mutual
  -- a condition with its names resolved
  pub data IsWhole (catalog : Variables) : CondTree → Cond → Type 0 where
    test : {tree : CondTree} {cond : Cond} → IsTest catalog tree cond → IsWhole catalog tree cond
    all : {trees : List CondTree} {members : List Cond} → AreWhole catalog trees members → IsWhole catalog (c.All trees) (conds.And members)

  -- conditions with their names resolved
  pub data AreWhole (catalog : Variables) : List CondTree → List Cond → Type 0 where
    none : AreWhole catalog [] []
    more : {tree : CondTree} {trees : List CondTree} {cond : Cond} {members : List Cond}
        → IsWhole catalog tree cond → AreWhole catalog trees members → AreWhole catalog (tree ∷ trees) (cond ∷ members)
