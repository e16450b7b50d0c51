use Rattle.std.proofs.Common.{◌≡◌, ◌+◌, length, take, ap, sym, ◌∙◌}
use Rattle.std.proofs.lemmas.Result.{err_from_is_err_and}
use Rattle.om_die.specs.UnitList.{shown}
use Rattle.om_die.specs.Units.{unit_length}
use Rattle.om_die.proofs.UnitLaws.{first_read, first_skipped, fits_head, fits_whole, index_at, unit_refused}
use Rattle.om_die.proofs.unit_list.read_part.Goals as goal

pub split_at-requires : goal.split_at-requires
split_at-requires c = fits_whole c.args.at c.args.bytes.now c.unit_length.result (sym c.in_default.ensures) c.unit_length.ensures

pub returns-then-not-is_read-clause-part : goal.returns-then-not-is_read-clause-part
returns-then-not-is_read-clause-part c =
    let cut : c.split_at.result.0.now ≡ take (4 + unit_length c.args.bytes.now) c.args.bytes.now = c.split_at.ensures.front ∙ ap (λ n. take (4 + n) c.args.bytes.now) c.unit_length.ensures in
    first_skipped (shown c.args.sections.now) c.args.left c.args.at c.args.bytes.now c.split_at.result.0.now c.split_at.result.1.now (sym c.in_default.ensures) cut c.split_at.ensures.by_index.0
    (sym c.is_read.ensures ∙ c.if-not-is_read.true)

pub read_unit-requires-clause-head : goal.read_unit-requires-clause-head
read_unit-requires-clause-head c =
    let size : length c.split_at.result.0.now ≡ 4 + unit_length c.args.bytes.now = c.split_at.ensures.front_len ∙ ap (λ n. 4 + n) c.unit_length.ensures in
    fits_head c.args.at c.args.bytes.now (length c.split_at.result.0.now) (sym c.in_default.ensures) (sym c.is_read.ensures ∙ c.if-not-is_read.false) size

pub returns-in_err-unit-clause-fault : goal.returns-in_err-unit-clause-fault
returns-in_err-unit-clause-fault c =
    let p = err_from_is_err_and c.from_residual-in_err-unit.result c.from_residual-in_err-unit.ensures.1 in
    let cut : c.split_at.result.0.now ≡ take (4 + unit_length c.args.bytes.now) c.args.bytes.now = c.split_at.ensures.front ∙ ap (λ n. take (4 + n) c.args.bytes.now) c.unit_length.ensures in
    let index = index_at c.args.sections.now.abbreviations.now c.keep.new.self c.debug_abbrev_offset-offset.result c.at.result.now c.args.bytes.now c.in_ok-keep.ensures.are c.at.ensures c.debug_abbrev_offset-offset.ensures in
    rw (p.1, p.2) (unit_refused (shown c.args.sections.now) c.args.left c.args.at c.args.bytes.now c.split_at.result.0.now c.at.result.now c.in_err-unit.field-0.0 (sym c.in_default.ensures) cut
    (sym c.is_read.ensures ∙ c.if-not-is_read.false) index c.in_err-unit.ensures.fault)

pub returns-clause-part : goal.returns-clause-part
returns-clause-part c =
    let cut : c.split_at.result.0.now ≡ take (4 + unit_length c.args.bytes.now) c.args.bytes.now = c.split_at.ensures.front ∙ ap (λ n. take (4 + n) c.args.bytes.now) c.unit_length.ensures in
    let index = index_at c.args.sections.now.abbreviations.now c.keep.new.self c.debug_abbrev_offset-offset.result c.at.result.now c.args.bytes.now c.in_ok-keep.ensures.are c.at.ensures c.debug_abbrev_offset-offset.ensures in
    first_read (shown c.args.sections.now) c.args.left c.args.at c.args.bytes.now c.split_at.result.0.now c.split_at.result.1.now c.at.result.now c.in_ok-unit.unit (sym c.in_default.ensures) cut c.split_at.ensures.by_index.0
    (sym c.is_read.ensures ∙ c.if-not-is_read.false) index c.in_ok-unit.ensures.at c.in_ok-unit.ensures.version c.in_ok-unit.ensures.dies c.in_ok-unit.ensures.few
