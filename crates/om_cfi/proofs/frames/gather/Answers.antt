use Rattle.std.proofs.Common.{◌≡◌, ◌⊎◌, None, Some}
use Rattle.std.proofs.lemmas.Result.{IfErr-weaker, IfOk-weaker, err_from_is_err_and}
use Rattle.om_cfi.specs.declared.fault.CfiFault.TheVariants as fault
use Rattle.om_cfi.specs.Frames.{frames_fault, frames_in}
use Rattle.om_cfi.specs.Rows.{no_rows, with_descriptions}
use Rattle.om_cfi.proofs.SweepLemmas.{IsSwept, all_frames, common_told, cut_told, frame_told, none_told, swept}
use Rattle.om_cfi.proofs.frames.gather.Goals as goal

pub returns-in_err-entries-clause-fault : goal.returns-in_err-entries-clause-fault
returns-in_err-entries-clause-fault c =
    let p = err_from_is_err_and c.from_residual.result c.from_residual.ensures.1 in
    rw (p.1, p.2) (cut_told c.args.section.now c.in_err-entries.field-0.0 c.in_err-entries.ensures.fault)

pub returns-in_err-commons-clause-fault : goal.returns-in_err-commons-clause-fault
returns-in_err-commons-clause-fault c =
    let p = err_from_is_err_and c.from_residual-in_err-commons.result c.from_residual-in_err-commons.ensures.1 in
    rw (p.1, p.2) (common_told c.args.section.now c.in_ok-entries.entries c.as_slice.result.now (record { same = c.as_slice.ensures; entries_are = c.in_ok-entries.ensures.entries.0; none = c.in_ok-entries.ensures.entries.1 })
    c.in_err-commons.field-0.0 c.in_err-commons.ensures.fault)

pub returns-clause-rows : goal.returns-clause-rows
returns-clause-rows c =
    let is : IsSwept c.args.section.now c.in_ok-commons.commons c.as_slice-2.result.now =
    swept c.args.section.now c.in_ok-commons.commons c.in_ok-entries.entries c.as_slice.result.now c.as_slice-2.result.now
    (record { same = c.as_slice.ensures; entries_are = c.in_ok-entries.ensures.entries.0; none = c.in_ok-entries.ensures.entries.1 }) c.as_slice-2.ensures c.in_ok-commons.ensures.commons c.in_ok-commons.ensures.none in
    IfOk-weaker c.rows_of.result _ (λ rows. rows ≡ with_descriptions no_rows (frames_in c.args.section.now)) (λ rows found. all_frames c.args.section.now c.in_ok-commons.commons c.as_slice-2.result.now rows is found) c.rows_of.ensures.rows

pub returns-clause-lawful : goal.returns-clause-lawful
returns-clause-lawful c =
    let is : IsSwept c.args.section.now c.in_ok-commons.commons c.as_slice-2.result.now =
    swept c.args.section.now c.in_ok-commons.commons c.in_ok-entries.entries c.as_slice.result.now c.as_slice-2.result.now
    (record { same = c.as_slice.ensures; entries_are = c.in_ok-entries.ensures.entries.0; none = c.in_ok-entries.ensures.entries.1 }) c.as_slice-2.ensures c.in_ok-commons.ensures.commons c.in_ok-commons.ensures.none in
    IfOk-weaker c.rows_of.result _ (λ rows. frames_fault c.args.section.now ≡ None) (λ rows found. none_told c.args.section.now c.in_ok-commons.commons c.as_slice-2.result.now is found) c.rows_of.ensures.lawful

pub returns-clause-fault : goal.returns-clause-fault
returns-clause-fault c =
    let is : IsSwept c.args.section.now c.in_ok-commons.commons c.as_slice-2.result.now =
    swept c.args.section.now c.in_ok-commons.commons c.in_ok-entries.entries c.as_slice.result.now c.as_slice-2.result.now
    (record { same = c.as_slice.ensures; entries_are = c.in_ok-entries.ensures.entries.0; none = c.in_ok-entries.ensures.entries.1 }) c.as_slice-2.ensures c.in_ok-commons.ensures.commons c.in_ok-commons.ensures.none in
    IfErr-weaker c.rows_of.result _ (λ told. (told ≡ fault.NoMemory) ⊎ (frames_fault c.args.section.now ≡ Some told)) (λ told found. frame_told c.args.section.now c.in_ok-commons.commons c.as_slice-2.result.now is told found)
    c.rows_of.ensures.fault
