use Rattle.std.proofs.Common.{◌≡◌, ◌++◌, map, sym, ap, subst, ◌∙◌}
use Rattle.std.specs.Str.{bytes_eq}
use Rattle.tuple_schema.specs.Tuples.{part}
use Rattle.row_codec.specs.Rows.{row_bytes}
use Rattle.row_codec.specs.Decoding.{IsRowOf}
use Rattle.list_algebra.specs.Bags.{same}
use Rattle.row_batch.specs.Packing.{row_in}
use Rattle.list_algebra.proofs.Same.{same-equal}
use Rattle.kind_laws.specs.Keys.{KeysOf, columns_at, key_number, with_key}
use Rattle.kind_laws.proofs.Keyed.{within_row}
use Rattle.kind_laws.proofs.KeysNumbered.{key_there}
use Rattle.kind_laws.proofs.KeysParts.{keys_now, kept_now, number_now}
use Rattle.kind_laws.proofs.keys.Keys.number.Goals as goal

pub append_part-requires : goal.append_part-requires
append_part-requires c =
    let is : IsRowOf c.self.inside.columns.now c.args.row.now =
    subst (λ cs. IsRowOf cs c.args.row.now) (sym (ap (λ (k : KeysOf). k.columns) c.self.view_is)) c.requires in
    within_row c.self.inside.columns.now c.args.row.now c.self.inside.cols.now is.fits c.self.invariant.within

module _ (c : goal.In_ok-number) where
  row_is : IsRowOf c.self.inside.columns.now c.args.row.now
  row_is = subst (λ cs. IsRowOf cs c.args.row.now) (sym (ap (λ (k : KeysOf). k.columns) c.self.view_is)) c.requires

  key_bytes : c.deref.result.now ≡ row_bytes (part c.args.row.now c.self.inside.cols.now)
  key_bytes =
      c.deref.ensures.value ∙ c.in_ok-append_part.ensures
      ∙ ap (λ bs. bs ++ row_bytes (part c.args.row.now c.self.inside.cols.now)) c.clear.ensures.items

  grown : c.number.new.self ≡ with_key bytes_eq c.self.inside.seen (row_bytes (part c.args.row.now c.self.inside.cols.now))
  grown = c.in_ok-number.ensures.keys ∙ ap (with_key bytes_eq c.self.inside.seen) key_bytes

  -- the number and the keys, by the fields
  number_is : c.in_ok-number.number ≡ key_number same c.args.self.now.keys (part c.args.row.now c.args.self.now.cols)
  number_is =
      rw (← c.self.view_is)
      (c.in_ok-number.ensures.number ∙ ap (key_number bytes_eq c.self.inside.seen) key_bytes
      ∙ number_now c.rows_by_bytes.ensures.same_bytes c.rows_by_bytes.ensures.read_again c.self.inside.columns.now c.self.inside.cols.now c.self.inside.seen c.self.invariant
      c.args.row.now row_is)

  keys_are : map (row_in (columns_at c.self.inside.columns.now c.self.inside.cols.now)) c.number.new.self ≡ with_key same c.args.self.now.keys (part c.args.row.now c.args.self.now.cols)
  keys_are =
      rw (← c.self.view_is)
      (keys_now c.rows_by_bytes.ensures.same_bytes c.rows_by_bytes.ensures.read_again c.self.inside.columns.now c.self.inside.cols.now c.self.inside.seen c.self.invariant
      c.args.row.now row_is c.number.new.self grown)

pub invariant_of-self-2 : goal.invariant_of-self-2
invariant_of-self-2 c =
    kept_now c.rows_by_bytes.ensures.same_bytes c.rows_by_bytes.ensures.read_again c.self.inside.columns.now c.self.inside.cols.now c.self.inside.seen c.self.invariant
    c.args.row.now (row_is c) c.number.new.self (grown c)

pub returns-clause-number : goal.returns-clause-number
returns-clause-number c = number_is c

pub returns-clause-keys : goal.returns-clause-keys
returns-clause-keys c = keys_are c

pub returns-clause-place : goal.returns-clause-place
returns-clause-place c =
    rw (keys_are c, number_is c) (key_there same same-equal c.args.self.now.keys (part c.args.row.now c.args.self.now.cols))
