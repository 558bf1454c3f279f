use Rattle.std.proofs.Common.{◌≡◌, ◌++◌, length, filter_map}
use Rattle.std.specs.Vec.Iter.{into_iter_items, into_iter_len}
use Rattle.flow_types.specs.Names.{names_in}
use Rattle.flow_types.specs.Mapped.{assign_in}
use Rattle.flow_types.proofs.mapped.assigns_in.Given as goal

abbrev pub invariant-loop-setting : goal.invariant-loop-setting
invariant-loop-setting l = record {
  all : l.yielded ++ into_iter_items l.setting-iterator ≡ into_iter_items l.initial.setting-iterator;
  count : into_iter_len l.setting-iterator ≡ length (into_iter_items l.setting-iterator);
  sets : l.sets ≡ filter_map (assign_in (names_in l.columns)) l.yielded;
}
