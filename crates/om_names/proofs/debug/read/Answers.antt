use Rattle.std.proofs.Common.{◌≡◌, ◌⊎◌, Result, Err, IfErr, ap, sym, subst, ◌∙◌}
use Rattle.std.proofs.lemmas.Result.{err_from_is_err_and}
use Rattle.om_names.specs.Information.{info_of}
use Rattle.om_names.specs.Known.{Known}
use Rattle.om_names.specs.LineTables.{line_tables}
use Rattle.om_names.specs.Stages.{IsRefused, frame_section}
use Rattle.om_names.specs.declared.fault.NamesFault.{NamesFault}
use Rattle.om_names.specs.declared.fault.NamesFault.TheVariants as n
use Rattle.om_names.proofs.DebugLaws.{few_dies_of, few_units_of, frames_refused, lawful, lines_refused, ranges_refused, types_refused, units_refused}
use Rattle.om_names.proofs.debug.read.Goals as goal

pub know-requires-clause-units : goal.know-requires-clause-units
know-requires-clause-units c = few_units_of c.args.elf.now c.in_ok-units.units c.in_ok-units.ensures.units c.in_ok-units.ensures.short

pub know-requires-clause-dies : goal.know-requires-clause-dies
know-requires-clause-dies c = few_dies_of c.args.elf.now c.in_ok-units.units c.in_ok-units.ensures.units

pub returns-clause-debug : goal.returns-clause-debug
returns-clause-debug c =
    (info_of c.in_ok-units.units c.in_ok-ranges.ranges.now (line_tables c.args.elf.now c.in_ok-units.units) (frame_section c.args.elf.now), lawful c.args.elf.now c.in_ok-units.units c.in_ok-ranges.ranges.now (line_tables c.args.elf.now c.in_ok-units.units) (frame_section c.args.elf.now) c.in_ok-units.ensures.units c.in_ok-ranges.ensures.lists c.in_ok-lines.ensures.stage c.in_ok-frames.ensures.stage (c.in_ok-variables.ensures.lawful c.in_ok-names.ensures), c.in_ok-debug.ensures (line_tables c.args.elf.now c.in_ok-units.units) (frame_section c.args.elf.now) c.in_ok-lines.ensures.kept c.in_ok-frames.ensures.kept (c.in_ok-variables.ensures.tells c.in_ok-names.ensures))

pub returns-in_err-units-clause-fault : goal.returns-in_err-units-clause-fault
returns-in_err-units-clause-fault c =
    let exit = err_from_is_err_and c.from_residual.result c.from_residual.ensures.1 in
    subst (λ (result : Result Known NamesFault). IfErr result (λ fault. (fault ≡ n.NoMemory) ⊎ IsRefused c.args.elf.now fault)) (sym (exit.1 ∙ ap (λ f. Err f) exit.2))
    (units_refused c.args.elf.now c.in_err-units.field-0.0 c.in_err-units.ensures.fault)

pub returns-in_err-ranges-clause-fault : goal.returns-in_err-ranges-clause-fault
returns-in_err-ranges-clause-fault c =
    let exit = err_from_is_err_and c.from_residual-in_err-ranges.result c.from_residual-in_err-ranges.ensures.1 in
    subst (λ (result : Result Known NamesFault). IfErr result (λ fault. (fault ≡ n.NoMemory) ⊎ IsRefused c.args.elf.now fault)) (sym (exit.1 ∙ ap (λ f. Err f) exit.2))
    (ranges_refused c.args.elf.now c.in_ok-units.units c.in_err-ranges.field-0.0 c.in_ok-units.ensures.units c.in_err-ranges.ensures.fault)

pub returns-in_err-lines-clause-fault : goal.returns-in_err-lines-clause-fault
returns-in_err-lines-clause-fault c =
    let exit = err_from_is_err_and c.from_residual-in_err-lines.result c.from_residual-in_err-lines.ensures.1 in
    subst (λ (result : Result Known NamesFault). IfErr result (λ fault. (fault ≡ n.NoMemory) ⊎ IsRefused c.args.elf.now fault)) (sym (exit.1 ∙ ap (λ f. Err f) exit.2))
    (lines_refused c.args.elf.now c.in_ok-units.units c.in_ok-ranges.ranges.now c.in_err-lines.field-0.0 c.in_ok-units.ensures.units c.in_ok-ranges.ensures.lists c.in_err-lines.ensures.fault)

pub returns-in_err-frames-clause-fault : goal.returns-in_err-frames-clause-fault
returns-in_err-frames-clause-fault c =
    let exit = err_from_is_err_and c.from_residual-in_err-frames.result c.from_residual-in_err-frames.ensures.1 in
    subst (λ (result : Result Known NamesFault). IfErr result (λ fault. (fault ≡ n.NoMemory) ⊎ IsRefused c.args.elf.now fault)) (sym (exit.1 ∙ ap (λ f. Err f) exit.2))
    (frames_refused c.args.elf.now c.in_ok-units.units c.in_ok-ranges.ranges.now (line_tables c.args.elf.now c.in_ok-units.units) c.in_err-frames.field-0.0 c.in_ok-units.ensures.units c.in_ok-ranges.ensures.lists c.in_ok-lines.ensures.stage c.in_err-frames.ensures.fault)

pub returns-in_err-variables-clause-fault : goal.returns-in_err-variables-clause-fault
returns-in_err-variables-clause-fault c =
    let exit = err_from_is_err_and c.from_residual-in_err-variables.result c.from_residual-in_err-variables.ensures.1 in
    subst (λ (result : Result Known NamesFault). IfErr result (λ fault. (fault ≡ n.NoMemory) ⊎ IsRefused c.args.elf.now fault)) (sym (exit.1 ∙ ap (λ f. Err f) exit.2))
    (types_refused c.args.elf.now c.in_ok-units.units c.in_ok-ranges.ranges.now (line_tables c.args.elf.now c.in_ok-units.units) (frame_section c.args.elf.now) c.in_err-variables.field-0.0 c.in_ok-units.ensures.units c.in_ok-ranges.ensures.lists c.in_ok-lines.ensures.stage c.in_ok-frames.ensures.stage (c.in_err-variables.ensures.fault c.in_ok-names.ensures))
