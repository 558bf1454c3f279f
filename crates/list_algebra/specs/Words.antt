-- The words of clauses, from one place.
pub use Rattle.list_algebra.specs.Bags.{IsPartOf, SameBag, Tuple, multiplicity, same, without}
pub use Rattle.list_algebra.specs.Outputs.{AreSingle, HaveColumns, PiecesCarry, kept_piece, part_piece}
pub use Rattle.list_algebra.specs.Outputs.{piecewise, project, select, sources}
pub use Rattle.list_algebra.specs.Properties.{Carries, CarriesLists, Drives, IsMapToOne, IsOrderFree}
pub use Rattle.list_algebra.specs.Properties.{IsSuffixSafe}
pub use Rattle.list_algebra.specs.Trees.{EachNext, Tree, in_order, root_of, seen_tree, trees_in}
pub use Rattle.list_algebra.specs.Joins.{agree, below, is_given, join, join_piece, lookup, lookup_piece, matches, nulls}
pub use Rattle.list_algebra.specs.Joins.{or_nulls, others, together}
pub use Rattle.list_algebra.specs.Sorting.{ascending, comes_before, sort}
pub use Rattle.list_algebra.specs.Groups.{distinct, each_group, groups, members}
pub use Rattle.list_algebra.specs.Unions.{appended}
