use Rattle.std.proofs.Common.{◌-◌, length, refl, ap, inr, arith}
use Rattle.std.proofs.lemmas.List.Elements.{All-nil}
use Rattle.om_line.specs.Sharing.{IsStart}
use Rattle.std.specs.Option.{option_map}
use Rattle.om_line.specs.declared.fault.LineFault.TheVariants.{Opcode}
use Rattle.om_line.proofs.RunLemmas.{breaks, files_at_end, goes_on, none_left, one_start, relative_at_end, relative_on, rows_at_end, some_left, start_here, starts, whole_at_end}
use Rattle.om_line.proofs.ReaderLemmas.{instruction_behind}
use Rattle.om_line.proofs.lines.run.Goals as goal

pub loop-rest-init : goal.loop-rest-init
loop-rest-init c = record {
  run = starts c.args.head.now _ c.args.program.now _ _ c.begin.ensures c.new.ensures;
  starts = rw c.new-2.ensures (All-nil (IsStart c.args.head.now c.args.program.now));
  relative = refl;
}

pub overflow_cast-at : goal.overflow_cast-at
overflow_cast-at c = omega (arith, c.loop-rest.invariant.run.short, c.requires.end, c.ranges.end.fits)

pub overflow_sub-at : goal.overflow_sub-at
overflow_sub-at c = omega (arith, c.loop-rest.invariant.run.short, c.requires.end)

pub returns-in_default-clause-fault : goal.returns-in_default-clause-fault
returns-in_default-clause-fault c =
    inr
    (ap (option_map (λ rest. Opcode (c.args.end - length rest)))
    (breaks c.args.head.now c.args.files c.args.program.now c.loop-rest.running.registers c.loop-rest.running.rows c.loop-rest.running.files c.loop-rest.rest.now c.in_default.field-0
    c.loop-rest.invariant.run c.in_default.ensures (some_left _ c.loop-rest-test.ensures)))

pub loop-rest-smaller : goal.loop-rest-smaller
loop-rest-smaller c = instruction_behind c.args.head.now c.loop-rest.rest.now c.in-Ok.instruction c.in-Ok.behind.now c.in-Ok.ensures

pub loop-rest-preserved : goal.loop-rest-preserved
loop-rest-preserved c = record {
  run =
      goes_on c.args.head.now c.args.files c.args.program.now c.loop-rest.running.registers c.run.new.self.registers c.loop-rest.running.rows c.run.new.self.rows c.loop-rest.running.files c.run.new.self.files
      c.loop-rest.rest.now c.in-Ok.behind.now c.in-Ok.instruction c.loop-rest.invariant.run c.in-Ok.ensures c.in_ok-run.ensures.registers c.in_ok-run.ensures.rows c.in_ok-run.ensures.files;
  starts =
      one_start c.args.head.now c.args.program.now c.loop-rest.running.starts c.run.new.self.starts _ c.loop-rest.invariant.starts
      (start_here c.args.head.now c.args.files c.args.program.now c.loop-rest.running.registers c.loop-rest.running.rows c.loop-rest.running.files c.loop-rest.rest.now c.loop-rest.running.is_relative
      c.loop-rest.invariant.run c.loop-rest.invariant.relative) c.in_ok-run.ensures.starts;
  relative =
      relative_on c.args.head.now _ c.loop-rest.running.is_relative c.run.new.self.is_relative c.in-Ok.instruction c.loop-rest.rest.now c.in-Ok.behind.now
      c.loop-rest.invariant.relative c.in-Ok.ensures c.in_ok-run.ensures.relative;
}

pub returns-clause-whole : goal.returns-clause-whole
returns-clause-whole c =
    whole_at_end c.args.head.now c.args.files c.args.program.now c.loop-rest.running.registers c.loop-rest.running.rows c.loop-rest.running.files c.loop-rest.rest.now c.loop-rest.invariant.run (none_left _ c.loop-rest-test.ensures)

pub returns-clause-rows : goal.returns-clause-rows
returns-clause-rows c =
    rows_at_end c.args.head.now c.args.files c.args.program.now c.loop-rest.running.registers c.loop-rest.running.rows c.loop-rest.running.files c.loop-rest.rest.now c.loop-rest.invariant.run (none_left _ c.loop-rest-test.ensures)

pub returns-clause-files : goal.returns-clause-files
returns-clause-files c =
    files_at_end c.args.head.now c.args.files c.args.program.now c.loop-rest.running.registers c.loop-rest.running.rows c.loop-rest.running.files c.loop-rest.rest.now c.loop-rest.invariant.run (none_left _ c.loop-rest-test.ensures)

pub returns-clause-starts : goal.returns-clause-starts
returns-clause-starts c = c.loop-rest.invariant.starts

pub returns-clause-relative : goal.returns-clause-relative
returns-clause-relative c = relative_at_end c.args.head.now _ c.loop-rest.running.is_relative c.loop-rest.rest.now c.loop-rest.invariant.relative (none_left _ c.loop-rest-test.ensures)
