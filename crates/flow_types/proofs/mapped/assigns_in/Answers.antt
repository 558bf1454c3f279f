use Rattle.std.proofs.Common.{◌≡◌, ◌∷◌, [], ◌++◌, List, length, filter_map, option_to_list, refl, sym, ap, ◌∙◌, append_assoc, append-nil, arith}
use Rattle.std.specs.Vec.Iter.{into_iter_items}
use Rattle.flow_types.specs.Names.{names_in}
use Rattle.flow_types.specs.Mapped.{assign_in}
use Rattle.flow_types.proofs.SetNames.{assign_more}
use Rattle.flow_types.proofs.mapped.assigns_in.Goals as goal

nothing_left : {X : Type 0} (xs : List X) → length xs ≡ 0 → xs ≡ []
nothing_left [] none = refl
nothing_left (x ∷ xs) none = absurd (omega arith)

pub loop-setting-preserved : goal.loop-setting-preserved
loop-setting-preserved c =
    let at = c.loop-setting in
    let setting = c.in-Some.setting in
    let names = names_in c.args.columns.now in
    let steps : into_iter_items at.setting-iterator ≡ setting ∷ into_iter_items c.next.new.self = c.in-Some.ensures.steps.0 in
    let pushed = rw (c.deref.ensures.value, c.in_ok-names.ensures) at c.in_ok-push_assign.ensures in
    record {
      all = append_assoc at.yielded (setting ∷ []) _ ∙ rw (← steps) at.invariant.all;
      count = let was = at.invariant.count in let gone = c.in-Some.ensures.steps.1 in let short = ap length steps in omega arith;
      sets = pushed ∙ ap (λ sets. sets ++ option_to_list (assign_in names setting)) at.invariant.sets ∙ sym (assign_more names at.yielded setting);
    }

pub returns : goal.returns
returns c =
    let at = c.loop-setting in
    let none = c.in-None.ensures.steps in
    let empty : into_iter_items at.setting-iterator ≡ [] = nothing_left _ (sym at.invariant.count ∙ none.0) in
    let all = sym (append-nil at.yielded) ∙ rw empty at at.invariant.all ∙ c.into_iter-setting-iterator.ensures.into_iter_gives.0 in
    at.invariant.sets ∙ ap (filter_map (assign_in (names_in c.args.columns.now))) all
