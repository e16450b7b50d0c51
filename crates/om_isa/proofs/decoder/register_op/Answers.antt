use Rattle.om_isa.proofs.decoder.register_op.Goals as goal

pub returns-in-0 : goal.returns-in-0
returns-in-0 c = λ word. rw c.in-0.is (c.integer_op.ensures word)

pub returns-in-1 : goal.returns-in-1
returns-in-1 c = λ word. rw c.in-1.is (c.multiply_op.ensures word)

pub returns-in-32 : goal.returns-in-32
returns-in-32 c = λ word. rw c.in-32.is (c.alternate_op.ensures word)
