-- The order of tuples.
use Rattle.std.specs.Cmp.Lexicographic.{slice_cmp}
use Rattle.std.specs.declared.cmp.Ordering.{Ordering}
use Rattle.tuple_schema.specs.contracts.value.ValueOrd.TheImpl as value_ord
use Rattle.tuple_schema.specs.declared.value.Value.{Value}
use Rattle.list_algebra.specs.Bags.{Tuple}

-- two values: Null, then Int, Dec and Text, and within these by number or by bytes
abbrev pub compare_values : Value → Value → Ordering
compare_values = value_ord.ghosts.cmp

-- two tuples, by their values from the left
abbrev pub compare_tuples : Tuple → Tuple → Ordering
compare_tuples = slice_cmp compare_values
