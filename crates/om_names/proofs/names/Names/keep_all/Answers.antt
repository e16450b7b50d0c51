use Rattle.std.proofs.Common.{◌++◌, subst}
use Rattle.std.proofs.lemmas.List.{take_all}
use Rattle.om_names.specs.Names.{AreNames}
use Rattle.om_names.proofs.NameLemmas.{kept_all}
use Rattle.om_names.proofs.names.Names.keep_all.Goals as goal

pub loop-die-preserved : goal.loop-die-preserved
loop-die-preserved c = λ before are.
    kept_all before c.args.dies.now c.loop-die.die-index c.die-item.result c.die-item.result c.loop-die.self c.keep.new.self c.loop-die-test.true c.die-item.is (c.loop-die.invariant before are)
    c.in_ok-keep.ensures

pub returns : goal.returns
returns c = λ before are.
    subst (λ dies. AreNames (before ++ dies) c.loop-die.self) (take_all c.loop-die.die-index c.args.dies.now c.loop-die-test.false) (c.loop-die.invariant before are)
