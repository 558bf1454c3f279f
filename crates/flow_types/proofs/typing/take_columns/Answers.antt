use Rattle.std.proofs.Common.{◌≡◌, ◌<◌, Some, sym, ap, ◌∙◌, length, arith}
use Rattle.std.proofs.lemmas.List.{length-append, length-map}
use Rattle.std.proofs.lemmas.List.Elements.{All-push}
use Rattle.tuple_schema.specs.Texts.{head_of}
use Rattle.flow_types.specs.Names.{names_in, place_of, last_name}
use Rattle.flow_types.specs.Typed.{renamed, output_column}
use Rattle.flow_types.specs.Taken.{IsTaken}
use Rattle.flow_types.proofs.Lookups.{found_more, known_more, filter_more}
use Rattle.flow_types.proofs.Columns.{output_is, all_zip_push, is_taken}
use Rattle.flow_types.proofs.typing.take_columns.Goals as goal

pub loop-text-preserved : goal.loop-text-preserved
loop-text-preserved c =
    let columns = c.args.columns.now in
    let i = c.loop-text.text-index in
    let text = c.text-item.result in
    let place = c.in_ok-place.place in
    let column = c.index-columns-place.result in
    let there : Some place ≡ place_of (names_in columns) (head_of text) = rw (c.deref.ensures.value, c.in_ok-names.ensures) at c.in_ok-place.ensures.there in
    let counted : length c.in_ok-names.names.items ≡ length columns = simp length-map at (ap length c.in_ok-names.ensures) in
    let within : place < length columns = rw (c.deref.ensures.value, counted) at c.in_ok-place.ensures.within in
    let gives : c.in_ok-output.field-0 ≡ renamed (last_name text) column = c.in_ok-output.ensures in
    record {
      places = rw (c.in_ok-push-2.ensures.items, c.loop-text.invariant.places) (sym (found_more head_of (names_in columns) c.args.texts.now i place text c.loop-text-test.true c.text-item.is there));
      outputs = rw (c.in_ok-push.ensures.items, c.loop-text.invariant.outputs, gives) (sym (filter_more (output_column columns) c.args.texts.now i text (renamed (last_name text) column) c.loop-text-test.true c.text-item.is (output_is columns text place column there within c.index-columns-place.is)));
      known = c.loop-text.invariant.known ∙ known_more head_of (names_in columns) c.args.texts.now i place text c.loop-text-test.true c.text-item.is there;
      takes = record {
        within = rw c.in_ok-push-2.ensures.items (All-push (λ p. p < length columns) c.loop-text.places.items place c.loop-text.invariant.takes.within within);
        each = rw (c.in_ok-push.ensures.items, c.in_ok-push-2.ensures.items) (all_zip_push (IsTaken columns) c.loop-text.places.items c.loop-text.outputs.items place c.in_ok-output.field-0 c.loop-text.invariant.takes.each
            (is_taken columns place column c.in_ok-output.field-0 (last_name text) gives within c.index-columns-place.is));
      };
      len = rw (c.in_ok-push.ensures.items, length-append) (omega (arith, c.loop-text.invariant.len));
    }
