use Rattle.std.proofs.Common.{◌≡◌, ◌<◌, ◌≤◌, ◌+◌, ◌∙◌, ℕ, List, [], ◌∷◌, length, map, Some, Ok, Err, option_copied, inl, inr, sym, ap, length-append, arith}
use Rattle.std.specs.List.{range_with_len, sum_by}
use Rattle.std.proofs.lemmas.List.FromFn.{sum_by-map-range_with_len_more, take-map-range_with_len}
use Rattle.std.proofs.lemmas.List.Sums.{sum_by-take-le}
use Rattle.std.proofs.lemmas.Bool.{cases_lt}
use Rattle.std.proofs.lemmas.List.{map-append}
use Rattle.std.proofs.lemmas.Result.{err_from_is_err_and}
use Rattle.outside.specs.Words.{Files}
use Rattle.flow_types.specs.declared.node.Node.{Node}
use Rattle.load_runner.specs.Sources.{content_of, numbered}
use Rattle.tuple_schema.specs.declared.memory.Stop.TheVariants as stop
use Rattle.load_runner.specs.Asked.{asked_of, asked_bytes}
use Rattle.load_runner.proofs.Readings.{same_stop}
use Rattle.load_runner.proofs.Contents.{contents_fault, contents_more, slice_get_append_left, slice_get_at_seam, sources_have_columns}
use Rattle.load_runner.proofs.sources.source_lists.Goals as goal

-- what one more source serves, behind those before it
served_more : (files : Files) (nodes : List Node) (number start before after : ℕ)
    → before ≤ start + sum_by (asked_of files) (map (numbered nodes) (range_with_len 0 number)) → after ≤ before + asked_of files (numbered nodes number)
    → after ≤ start + sum_by (asked_of files) (map (numbered nodes) (range_with_len 0 (number + 1)))
served_more files nodes number start before after first here =
    let more = sum_by-map-range_with_len_more (asked_of files) (numbered nodes) 0 number number (omega arith) in
    omega (arith, first, here, more)

-- the first sources ask for no more than all
served_all : (files : Files) (nodes : List Node) (k : ℕ) → k ≤ length nodes
    → sum_by (asked_of files) (map (numbered nodes) (range_with_len 0 k)) ≤ sum_by (asked_of files) (map (numbered nodes) (range_with_len 0 (length nodes)))
served_all files nodes k small =
    rw (← take-map-range_with_len (numbered nodes) 0 (length nodes) k small) (sum_by-take-le (asked_of files) (map (numbered nodes) (range_with_len 0 (length nodes))) k)

-- what was served where the reading stops at a source
served_stop : (files : Files) (nodes : List Node) (number start before after : ℕ) → number < length nodes
    → before ≤ start + sum_by (asked_of files) (map (numbered nodes) (range_with_len 0 number)) → after ≤ before + asked_of files (numbered nodes number)
    → after ≤ start + asked_bytes nodes files
served_stop files nodes number start before after small first here =
    let some = served_more files nodes number start before after first here in
    let all = served_all files nodes (number + 1) (omega (arith, small)) in
    omega (arith, some, all)

pub returns-in_err-rows-clause-refused : goal.returns-in_err-rows-clause-refused
returns-in_err-rows-clause-refused g c = λ f is known files told.
    let number = c.loop-number.number in
    let at : option_copied c.numbered.result ≡ numbered c.args.flow.now.nodes number = c.numbered.ensures ∙ ap (λ nodes. numbered nodes number) c.nodes-nodes.ensures.same in
    let small : number < length c.args.flow.now.nodes = let all : length c.nodes-nodes.result.now ≡ length c.args.flow.now.nodes = ap length c.nodes-nodes.ensures.same in omega (arith, c.loop-number-test.true, all) in
    let p = err_from_is_err_and c.from_residual.result c.from_residual.ensures.1 in
    let answer : c.in_err-rows.field-0.0 ≡ stop.Fault f = sym p.2 ∙ same_stop _ _ (sym p.1 ∙ is) in
    let here : content_of files (numbered c.args.flow.now.nodes number) ≡ Err f =
    ap (content_of files) (sym at) ∙ c.in_err-rows.ensures.refused f (ap Err answer) known files (c.loop-number.invariant.consults.files ∙ told) in
    contents_fault (λ k. content_of files (numbered c.args.flow.now.nodes k)) (length c.args.flow.now.nodes) number (map (λ list. list.rows) c.loop-number.lists.items) f small
    (c.loop-number.invariant.contents files told) here

pub loop-number-preserved : goal.loop-number-preserved
loop-number-preserved g c =
    let number = c.loop-number.number in
    let rows = c.in_ok-rows.rows in
    let contents = map (λ list. list.rows) c.loop-number.lists.items in
    let at : option_copied c.numbered.result ≡ numbered c.args.flow.now.nodes number = c.numbered.ensures ∙ ap (λ nodes. numbered nodes number) c.nodes-nodes.ensures.same in
    record {
      contents = λ files told.
          let here : content_of files (numbered c.args.flow.now.nodes number) ≡ Ok rows.rows =
          ap (content_of files) (sym at) ∙ c.in_ok-rows.ensures.content files (c.loop-number.invariant.consults.files ∙ told) in
          rw (c.in_ok-push.ensures.items, map-append (λ list. list.rows) c.loop-number.lists.items (rows ∷ []))
          (contents_more (λ k. content_of files (numbered c.args.flow.now.nodes k)) number contents rows.rows (c.loop-number.invariant.contents files told) here);
      columns = λ k n small is. elim (cases_lt k number) [
        | inl less ↦
            let within : k < length c.loop-number.lists.items = omega (arith, c.loop-number.invariant.len, less) in
            rw (c.in_ok-push.ensures.items, slice_get_append_left c.loop-number.lists.items (rows ∷ []) k within) (c.loop-number.invariant.columns k n less is)
        | inr more ↦
            let same : k ≡ length c.loop-number.lists.items = omega (arith, c.loop-number.invariant.len, more, small) in
            let own : k ≡ number = omega (arith, more, small) in
            let node : option_copied c.numbered.result ≡ Some n = at ∙ ap (numbered c.args.flow.now.nodes) (sym own) ∙ is in
            let has = rw node at c.in_ok-rows.ensures.columns in
            rw (c.in_ok-push.ensures.items, same, slice_get_at_seam c.loop-number.lists.items rows []) has
      ];
      len = ap length c.in_ok-push.ensures.items ∙ (let all = length-append c.loop-number.lists.items (rows ∷ []) in omega (arith, c.loop-number.invariant.len));
      served = λ files told.
          served_more files c.args.flow.now.nodes number _ _ _ (c.loop-number.invariant.served files told)
          (rw at at (c.source_rows.ensures.served files (c.loop-number.invariant.consults.files ∙ told)));
      consults = record {
        files = c.source_rows.ensures.consults.files ∙ c.loop-number.invariant.consults.files;
        faults = omega (arith, c.source_rows.ensures.consults.faults, c.loop-number.invariant.consults.faults);
        served = omega (arith, c.source_rows.ensures.consults.served, c.loop-number.invariant.consults.served);
      };
    }

pub returns-clause-contents : goal.returns-clause-contents
returns-clause-contents g c = λ files told.
    let end : c.loop-number.number ≡ length c.args.flow.now.nodes = let all : length c.nodes-nodes.result.now ≡ length c.args.flow.now.nodes = ap length c.nodes-nodes.ensures.same in omega (arith, c.loop-number-test.false, all, c.loop-number.auto.number-end) in
    rw (← end) (c.loop-number.invariant.contents files told)

pub returns-clause-columns : goal.returns-clause-columns
returns-clause-columns g c =
    sources_have_columns c.args.flow.now c.loop-number.lists.items (c.tree_laws.ensures.found c.args.flow.now c.nodes-nodes.ensures.flow)
    (λ k n small is. c.loop-number.invariant.columns k n (omega (arith, c.loop-number.invariant.len, small)) is)

pub returns-in_err-rows-clause-served : goal.returns-in_err-rows-clause-served
returns-in_err-rows-clause-served g c = λ files told.
    let number = c.loop-number.number in
    let at : option_copied c.numbered.result ≡ numbered c.args.flow.now.nodes number = c.numbered.ensures ∙ ap (λ nodes. numbered nodes number) c.nodes-nodes.ensures.same in
    let small : number < length c.args.flow.now.nodes = let all : length c.nodes-nodes.result.now ≡ length c.args.flow.now.nodes = ap length c.nodes-nodes.ensures.same in omega (arith, c.loop-number-test.true, all) in
    served_stop files c.args.flow.now.nodes number _ _ _ small (c.loop-number.invariant.served files told)
    (rw at at (c.source_rows.ensures.served files (c.loop-number.invariant.consults.files ∙ told)))

pub returns-in_err-push-clause-served : goal.returns-in_err-push-clause-served
returns-in_err-push-clause-served g c = λ files told.
    let number = c.loop-number.number in
    let at : option_copied c.numbered.result ≡ numbered c.args.flow.now.nodes number = c.numbered.ensures ∙ ap (λ nodes. numbered nodes number) c.nodes-nodes.ensures.same in
    let small : number < length c.args.flow.now.nodes = let all : length c.nodes-nodes.result.now ≡ length c.args.flow.now.nodes = ap length c.nodes-nodes.ensures.same in omega (arith, c.loop-number-test.true, all) in
    served_stop files c.args.flow.now.nodes number _ _ _ small (c.loop-number.invariant.served files told)
    (rw at at (c.source_rows.ensures.served files (c.loop-number.invariant.consults.files ∙ told)))
