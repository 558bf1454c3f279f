use Rattle.std.proofs.Common.{◌≡◌, map, take, drop, filter_map, length}
use Rattle.tuple_schema.specs.Texts.{head_of}
use Rattle.flow_types.specs.Names.{names_in, unknown, place_of}
use Rattle.flow_types.specs.Typed.{output_columns}
use Rattle.flow_types.specs.Taken.{Takes}
use Rattle.flow_types.proofs.typing.take_columns.Given as goal

abbrev pub invariant-loop-text : goal.invariant-loop-text
invariant-loop-text l = record {
  places : l.places.items ≡ filter_map (place_of (names_in l.columns)) (map head_of (take l.text-index l.texts));
  outputs : l.outputs.items ≡ output_columns l.columns (take l.text-index l.texts);
  known : unknown (names_in l.columns) (map head_of l.texts) ≡ unknown (names_in l.columns) (map head_of (drop l.text-index l.texts));
  takes : Takes l.columns l.places.items l.outputs.items;
  len : length l.outputs.items ≡ l.text-index;
}
