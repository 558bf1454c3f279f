-- The words of clauses, from one place.
pub use Rattle.flow_types.specs.Columns.{is_marked, kind_of, stated_column, word_in}
pub use Rattle.flow_types.specs.Names.{again, cols_if, cols_in, name_at, names_in, no_double, no_unknown, place_of}
pub use Rattle.flow_types.specs.Expressions.{cause_of, expression_of, kind_over, only_truth, test_of}
pub use Rattle.flow_types.specs.Trees.{IsWhole, inputs_below, tree_below}
pub use Rattle.flow_types.specs.Graph.{AreWithin, ComeOnce, all_reached, fault_at, flow_tree, graph_of, id_of}
pub use Rattle.flow_types.specs.Graph.{input_fault, input_names, inputs_exist, is_in, links_of, names_differ}
pub use Rattle.flow_types.specs.Graph.{names_of, needs_of, root_at, used_once}
pub use Rattle.flow_types.specs.NodeTexts.{aggregate_text, inputs_needed, is_append, order_of, text_at, text_of, text_seen, union_text}
pub use Rattle.flow_types.specs.Built.{is_built, is_built_node, is_built_source, is_csv}
pub use Rattle.flow_types.specs.Flows.{IsBelow, TypedFlow, columns_of, count_inputs, has_fixed_root, ids_of}
pub use Rattle.flow_types.specs.Flows.{node_of, number_of, rank_of, root_in, tree_of}
pub use Rattle.flow_types.specs.Typed.{at_node, is_word, output_columns, projection, renamed}
pub use Rattle.flow_types.specs.Typed.{source_cols, source_of, typed, typed_map, typed_node, typed_project, typed_select}
pub use Rattle.flow_types.specs.Typed.{typed_source, typed_text, typed_tree}
pub use Rattle.flow_types.specs.Linked.{IsBuiltSource, IsFlow, IsLinked, IsLinkedOver, IsOver, KeepsText}
pub use Rattle.flow_types.specs.Taken.{IsTaken, Takes}
pub use Rattle.flow_types.specs.Each.{each_made}
pub use Rattle.flow_types.specs.Mapped.{assign_in, columns_set, is_new, only_few, only_value, replaced, set_columns}
pub use Rattle.flow_types.specs.Mapped.{set_named, setting_of, value_text}
pub use Rattle.flow_types.specs.Typing.{HasTree}
pub use Rattle.flow_types.specs.Assigned.{HoldsCell, HoldsValue, IsAssigned, set_at, width_of}
pub use Rattle.flow_types.specs.Names.{is_again, last_name}
pub use Rattle.flow_types.specs.Paired.{is_of_one_kind, known_place, lefts, only_agreeing, only_once, pair_of}
pub use Rattle.flow_types.specs.Paired.{paired_again, pairs_of, rights}
pub use Rattle.flow_types.specs.Mapped.{only_schema}
pub use Rattle.flow_types.specs.Typed.{typed_join, typed_lookup}
pub use Rattle.flow_types.specs.Joined.{ArePairs, IsPair, as_nullable, join_columns, lookup_columns, other_columns}
pub use Rattle.flow_types.specs.Typed.{typed_aggregate, typed_distinct, typed_sort, typed_union}
pub use Rattle.flow_types.specs.United.{AllGoInto, GoesInto, any_nullable, are_alike, may_be_null, only_alike}
pub use Rattle.flow_types.specs.United.{united_column, united_columns, united_from}
pub use Rattle.flow_types.specs.Makes.{agg_of, is_number, made_column, made_columns, made_from, made_kind, made_nullable}
pub use Rattle.flow_types.specs.Makes.{make_in, makes_of, may_be_made, may_be_of, only_summable, place_if}
pub use Rattle.flow_types.specs.Grouped.{IsGrouped, IsMadeOf, group_output, group_places, grouped}
