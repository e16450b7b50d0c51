use Rattle.std.proofs.Common.{refl}
use Rattle.om_log.specs.Grammar.{spelling}
use Rattle.om_log.proofs.WriteLaws.{pushed}
use Rattle.om_log.proofs.writer.LogWriter.push.Goals as goal

pub invariant_of-self-in_default : goal.invariant_of-self-in_default
invariant_of-self-in_default c =
    (pushed c.self.inside.start c.self.inside.bytes.items (spelling c.args.entry.now) c.put_next.new.bytes.items c.self.invariant c.in_default.ensures.ok).0

pub returns-clause-ok : goal.returns-clause-ok
returns-clause-ok c =
    rw (
      ← c.self.view_is,
      (pushed c.self.inside.start c.self.inside.bytes.items (spelling c.args.entry.now) c.put_next.new.bytes.items c.self.invariant c.in_default.ensures.ok).1,
    ) refl
