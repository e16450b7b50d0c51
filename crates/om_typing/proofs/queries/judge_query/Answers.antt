use Rattle.std.proofs.Common.{◌≡◌, None, refl, ap, ◌∙◌}
use Rattle.om_typing.specs.declared.mistake.Foremost.{Foremost}
use Rattle.om_typing.proofs.QueriesNoted.{behind_keys, query_noted}
use Rattle.om_typing.proofs.queries.judge_query.Goals as goal

abbrev none : Foremost
none = record { mistake = None }

pub returns : goal.returns
returns c =
    let all : c.judge_keys.new.foremost ≡ behind_keys none c.args.query.now c.args.scope.now =
    rw (c.judge_keys.ensures, c.judge_filter.ensures, c.judge_items.ensures, c.judge_groups.ensures, c.judge_tables.ensures, c.is_folded.ensures, c.as_slice.ensures, c.as_slice-2.ensures, c.as_slice-3.ensures, c.as_slice-4.ensures, c.requires.headings) refl in
    all ∙ ap (behind_keys none c.args.query.now) c.requires.scope ∙ query_noted c.args.scope.now.catalog c.args.query.now none
