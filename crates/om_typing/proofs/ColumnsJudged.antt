-- A column that is judged part by part.
use Rattle.std.proofs.Common.{◌≡◌, Bool, ◌&&◌, List, [], ◌++◌, Option, None, sym, ap, ◌∙◌}
use Rattle.std.specs.Prelude.{if◌then◌else◌}
use Rattle.std.specs.Option.{option_map}
use Rattle.om_grammar.specs.declared.tree.ColumnName.{ColumnName}
use Rattle.om_value.specs.ColumnKinds.{column_kind}
use Rattle.om_value.specs.declared.kind.Kind.{Kind}
use Rattle.om_typing.specs.Judging.{judgement, is_empty, table_mistakes, own_mistakes, group_mistakes, column_judged, first_at, reach_of}
use Rattle.om_typing.specs.Mistakes.{noted_all}
use Rattle.om_typing.specs.Names.{Scope, table_meant, column_meant, place_meant}
use Rattle.om_typing.specs.declared.mistake.Foremost.{Foremost}
use Rattle.om_typing.specs.declared.mistake.Mistake.{Mistake}
use Rattle.om_typing.specs.declared.scope.Grouped.{Grouped}
use Rattle.om_typing.proofs.Noting.{noted_append, empty_append}

abbrev tables_of : Scope → ColumnName → List Mistake
tables_of scope column = table_mistakes scope.tables column.qualifier column.at

abbrev owns_of : Scope → ColumnName → List Mistake
owns_of scope column = own_mistakes scope.catalog column

abbrev place_in : Scope → ColumnName → Option Grouped
place_in scope column = place_meant (table_meant scope.tables column.qualifier) (column_meant scope.catalog column.name)

abbrev groups_in : Scope → Bool → ColumnName → List Mistake
groups_in scope must_group column = group_mistakes scope must_group (place_in scope column) (first_at column.qualifier column.at)

abbrev kind_found : Scope → ColumnName → Option Kind
kind_found scope column = option_map (column_kind scope.catalog) (column_meant scope.catalog column.name)

-- what was found of the parts is what is known of the column
pub column_known : (scope : Scope) (must_group : Bool) (column : ColumnName) (kind : Option Kind)
    → kind ≡ (if (is_empty (tables_of scope column) && (is_empty (owns_of scope column) && is_empty (groups_in scope must_group column))) then kind_found scope column else None)
    → (judgement [] kind (reach_of (table_meant scope.tables column.qualifier))).judged ≡ (column_judged scope must_group column).judged
unfolding column_judged
column_known scope must_group column kind is =
    let rest = empty_append (owns_of scope column) (groups_in scope must_group column) in
    let all = empty_append (tables_of scope column) (owns_of scope column ++ groups_in scope must_group column) ∙ ap (λ b. is_empty (tables_of scope column) && b) rest in
    ap (λ (k : Option Kind). (judgement [] k (reach_of (table_meant scope.tables column.qualifier))).judged) (is ∙ ap (λ (b : Bool). if b then kind_found scope column else None) (sym all))

pub column_noted : (scope : Scope) (must_group : Bool) (column : ColumnName) (start : Foremost)
    → noted_all (noted_all (noted_all start (tables_of scope column)) (owns_of scope column)) (groups_in scope must_group column) ≡ noted_all start (column_judged scope must_group column).mistakes
unfolding column_judged
column_noted scope must_group column start =
    sym (noted_append start (tables_of scope column) (owns_of scope column ++ groups_in scope must_group column)
    ∙ noted_append (noted_all start (tables_of scope column)) (owns_of scope column) (groups_in scope must_group column))
