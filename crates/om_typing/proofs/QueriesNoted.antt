-- The mistakes of a query, noted part by part.
use Rattle.std.proofs.Common.{◌≡◌, [], ◌++◌, sym, ◌∙◌}
use Rattle.std.specs.List.{flat_map}
use Rattle.om_grammar.specs.declared.tree.Query.{Query}
use Rattle.om_typing.specs.Mistakes.{noted_all}
use Rattle.om_typing.specs.Names.{Scope, Variables}
use Rattle.om_typing.specs.Queries.{tables_mistakes, scope_of, is_folded, group_mistakes, item_mistakes, filter_mistakes, headings_from, key_mistakes, query_mistakes}
use Rattle.om_typing.specs.declared.mistake.Foremost.{Foremost}
use Rattle.om_typing.proofs.Noting.{noted_append}

abbrev pub behind_tables : Foremost → Query → Foremost
behind_tables start query = noted_all start (tables_mistakes [] query.tables)

abbrev pub behind_groups : Foremost → Query → Scope → Foremost
behind_groups start query scope = noted_all (behind_tables start query) (flat_map (group_mistakes scope) query.groups)

abbrev pub behind_items : Foremost → Query → Scope → Foremost
behind_items start query scope = noted_all (behind_groups start query scope) (flat_map (item_mistakes scope (is_folded query)) query.items)

abbrev pub behind_filter : Foremost → Query → Scope → Foremost
behind_filter start query scope = noted_all (behind_items start query scope) (filter_mistakes scope query.filter)

abbrev pub behind_keys : Foremost → Query → Scope → Foremost
behind_keys start query scope = noted_all (behind_filter start query scope) (flat_map (key_mistakes (headings_from 1 query.items)) query.keys)

pub query_noted : (catalog : Variables) (query : Query) (start : Foremost) → behind_keys start query (scope_of catalog query) ≡ noted_all start (query_mistakes catalog query)
unfolding query_mistakes
query_noted catalog query start =
    let scope = scope_of catalog query in
    let tables = tables_mistakes [] query.tables in
    let groups = flat_map (group_mistakes scope) query.groups in
    let items = flat_map (item_mistakes scope (is_folded query)) query.items in
    let filter = filter_mistakes scope query.filter in
    let keys = flat_map (key_mistakes (headings_from 1 query.items)) query.keys in
    sym (noted_append start tables (groups ++ (items ++ (filter ++ keys)))
    ∙ noted_append (behind_tables start query) groups (items ++ (filter ++ keys))
    ∙ noted_append (behind_groups start query scope) items (filter ++ keys)
    ∙ noted_append (behind_items start query scope) filter keys)
