use Rattle.std.proofs.Common.{[], refl, ap, ◌∙◌}
use Rattle.om_typing.specs.Judging.{judgement, reach_of}
use Rattle.om_typing.specs.declared.judged.Reach.{Reach}
use Rattle.om_typing.proofs.ColumnsJudged.{column_known, column_noted}
use Rattle.om_typing.proofs.judging.judge_column.Goals as goal

pub returns : goal.returns
returns c = rw (← c.scope.view_is) (record {
  known = c.known.ensures ∙ ap (λ (r : Reach). (judgement [] c.kind_where-kind.result r).judged) (c.of.ensures ∙ ap reach_of c.judge_table-table.ensures.table)
      ∙ column_known _ c.args.must_group c.args.column.now c.kind_where-kind.result (c.kind_where-kind.ensures ∙ rw (c.are_all-is_sound.ensures, c.judge_table-table.ensures.right, c.judge_own-meant.ensures.right, c.judge_own-meant.ensures.column, c.judge_group-is_at_home.ensures.right, c.place_meant-place.ensures, c.judge_table-table.ensures.table, c.first_at-first.ensures, c.judge_own-meant.ensures.column, ← c.scope.view_is) refl);
  noted = rw (c.judge_group-is_at_home.ensures.noted, c.judge_own-meant.ensures.noted, c.judge_table-table.ensures.noted, c.place_meant-place.ensures, c.judge_table-table.ensures.table, c.judge_own-meant.ensures.column, c.first_at-first.ensures, ← c.scope.view_is) (column_noted _ c.args.must_group c.args.column.now c.args.foremost.now);
})
