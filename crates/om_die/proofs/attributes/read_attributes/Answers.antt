use Rattle.std.proofs.Common.{inr, refl}
use Rattle.om_die.specs.Shown.{value_of}
use Rattle.om_die.proofs.AttributeLaws.{ends, goes_on, stops}
use Rattle.om_die.proofs.attributes.read_attributes.Goals as goal

pub returns-in-Err-clause-lack : goal.returns-in-Err-clause-lack
returns-in-Err-clause-lack c =
    inr (
      c.in-Err.gap,
      refl,
      stops c.args.context.now c.args.list.now c.args.bytes.now c.loop-specification.rest.now c.loop-specification.attributes.items
          c.loop-specification.specification-index _ c.in-Err.gap c.loop-specification.invariant c.loop-specification-test.true c.in-Err.ensures,
    )

pub loop-specification-preserved : goal.loop-specification-preserved
loop-specification-preserved c =
    rw (c.push.ensures.items, c.if-is_err.ensures.negation) (goes_on c.args.context.now c.args.list.now c.args.bytes.now c.loop-specification.rest.now
    c.in-Ok-read_value.read.1.now c.loop-specification.attributes.items c.loop-specification.specification-index _ (value_of c.in-Ok-read_value.read.0)
    c.loop-specification.invariant c.loop-specification-test.true c.in-Ok-read_value.ensures)

pub returns-clause-read : goal.returns-clause-read
returns-clause-read c =
    rw c.from_vec.ensures (ends c.args.context.now c.args.list.now c.args.bytes.now c.loop-specification.rest.now c.loop-specification.attributes.items
    c.loop-specification.specification-index c.loop-specification.invariant c.loop-specification-test.false)
