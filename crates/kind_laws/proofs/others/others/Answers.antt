use Rattle.std.proofs.Common.{◌≡◌, ◌∙◌, ◌++◌, [], ◌∷◌, ℕ, Bool, not, ◌==◌, Vec, Global, sym, ap}
use Rattle.std.specs.List.{list_any}
use Rattle.kind_laws.proofs.Numbered.{no_numbers, number_kept, number_left}
use Rattle.kind_laws.proofs.others.others.Goals as goal
use Rattle.kind_laws.proofs.others.others.Goals.{then-not-contains+in_ok-push, else-not-contains}

pub loop-place-init : goal.loop-place-init
loop-place-init c = c.new-places.ensures.items ∙ sym (no_numbers _)

pub loop-place-preserved : goal.loop-place-preserved
loop-place-preserved c =
    let place = c.loop-place.place-counter in
    let other : ℕ → Bool = λ p. not (list_any (λ n. n == p) c.args.cols.now) in
    let is : other place ≡ not c.contains.result = ap not (sym c.contains.ensures.value) in
    elim c.if-not-contains.branch [
      | then-not-contains+in_ok-push w ↦
          ap (λ (v : Vec ℕ Global). v.items) w.places-is ∙ w.in_ok-push.ensures.items ∙ ap (λ ps. ps ++ place ∷ []) c.loop-place.invariant
          ∙ sym (number_kept other place (is ∙ ap not w.if-not-contains.true))
      | else-not-contains w ↦
          ap (λ (v : Vec ℕ Global). v.items) w.places-is ∙ c.loop-place.invariant
          ∙ sym (number_left other place (is ∙ ap not w.if-not-contains.false))
    ]
