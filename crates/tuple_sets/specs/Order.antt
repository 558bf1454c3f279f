-- The order of tuples, as the program compares them.
use Rattle.std.specs.Prelude.{List}
use Rattle.std.specs.Cmp.Lexicographic.{slice_cmp}
use Rattle.std.specs.declared.cmp.Ordering.{Ordering}
use Rattle.tuple_schema.specs.declared.value.Value.{Value}
use Rattle.tuple_schema.specs.contracts.value.ValueOrd.TheImpl as value_ord

-- two values: Null, then Int, Dec and Text, then by number or by bytes
abbrev pub value_cmp : Value → Value → Ordering
value_cmp = value_ord.ghosts.cmp

-- two tuples, by values from the left
abbrev pub tuple_cmp : List Value → List Value → Ordering
tuple_cmp = slice_cmp value_cmp
