use Rattle.std.proofs.Common.{arith, ap}
use Rattle.om_record.specs.Kernel.{Answer}
use Rattle.om_record.specs.Progress.{moment}
use Rattle.om_record.proofs.TellingLemmas.{call_short, call_stands}
use Rattle.om_record.proofs.ProgressLemmas.{served_is, served_step}
use Rattle.om_record.proofs.process.Process.serve.Goals as goal

pub push_entry-requires : goal.push_entry-requires
push_entry-requires c =
    let writes = ap (λ (a : Answer). a.writes) c.answer-reply.ensures in
    let args = rw c.arguments-args.ensures.words at c.arguments-args.ensures.fit in
    rw (c.again.ensures, ← writes) (call_short c.args.start c.args.self.now.meter (moment c.args.self.now.machine.state c.args.self.now.host) args.1.0)

pub returns-clause-served : goal.returns-clause-served
returns-clause-served c =
    served_is c.args.start c.args.self.now.host c.answer-reply.new.self c.args.self.now.machine.state c.answer_call.new.self.state
    c.answer-reply.result.value c.answer-reply.result.writes c.answer-reply.ensures c.answer_call.ensures.state

pub returns-clause-meter : goal.returns-clause-meter
returns-clause-meter c =
    served_step c.args.start c.args.self.now.host c.answer-reply.new.self c.args.self.now.machine.state
    c.answer-reply.result.value c.answer-reply.result.writes c.answer_call.result c.args.self.now.meter c.answer_call.new.meter
    c.answer-reply.ensures c.answer_call.ensures.answer c.answer_call.ensures.meter

pub returns-clause-stand : goal.returns-clause-stand
returns-clause-stand c =
    let value = ap (λ (a : Answer). a.result) c.answer-reply.ensures in
    let args = rw c.arguments-args.ensures.words at c.arguments-args.ensures.fit in
    call_stands c.args.start c.args.self.now.meter (moment c.args.self.now.machine.state c.args.self.now.host)
    (omega arith) (omega arith) args (omega arith)
