-- The inputs that nodes name, looked for one after another.
use Rattle.std.proofs.Common.{◌≡◌, ℕ, ◌+◌, ◌<◌, ◌≤◌, List, [], ◌∷◌, ◌++◌, map, filter_map, take, get_or, length, suc, true, false, is_some, refl, ap, ◌∙◌, Option, Some, None, option_map, Ok, Err, arith}
use Rattle.std.proofs.lemmas.List.{take_more, length-map, get_or-map}
use Rattle.tuple_schema.specs.declared.memory.Stop.{Stop}
use Rattle.tuple_schema.specs.declared.memory.Stop.TheVariants as stop
use Rattle.tuple_schema.specs.Stops.{Fails, IfFault}
use Rattle.flow_types.specs.declared.fault.SchemaFault.{SchemaFault}
use Rattle.flow_types.specs.declared.fault.SchemaCause.TheVariants as cause
use Rattle.flow_types.specs.Names.{least, refused, unknown, place_of}
use Rattle.flow_types.specs.Graph.{fault_at, input_fault, inputs_exist}
use Rattle.flow_types.proofs.Places.{least_is, least_none, least_passes}
use Rattle.flow_types.proofs.Columns.{least_fails}

known_cons : (names wanted : List (List ℕ)) (w : List ℕ) (o : Option ℕ) → place_of names w ≡ o → unknown names (w ∷ wanted) ≡ None
    → (unknown names wanted ≡ None → length (filter_map (place_of names) wanted) ≡ length wanted) → length (filter_map (place_of names) (w ∷ wanted)) ≡ length (w ∷ wanted)
known_cons names wanted w None at none rest = let wrong = rw at at none in absurd (cc)
known_cons names wanted w (Some place) at none rest = rw at (ap suc (rest (rw at at none)))

all_known : (names wanted : List (List ℕ)) → unknown names wanted ≡ None → length (filter_map (place_of names) wanted) ≡ length wanted
all_known names [] none = refl
all_known names (w ∷ wanted) none = known_cons names wanted w (place_of names w) refl none (all_known names wanted)

refused_none : {F : Type 0} (o : Option F) → refused o ≡ Ok tt → is_some o ≡ true → ⊥
refused_none None fine some = absurd (cc)
refused_none (Some fault) fine some = absurd (cc)

no_fault : (names wanted : List (List ℕ)) (place : ℕ) (o : Option (List ℕ)) → unknown names wanted ≡ o
    → is_some (option_map (λ name. fault_at place (cause.NoInput name)) (unknown names wanted)) ≡ false → unknown names wanted ≡ None
no_fault names wanted place None is none = is
no_fault names wanted place (Some name) is none = let wrong = rw is at none in absurd (cc)

module _ (names : List (List ℕ)) (needs : List (List (List ℕ))) where
  pub input_ends : (e : Stop SchemaFault) (place : ℕ) → place < length needs → ((k : ℕ) → k < place → is_some (input_fault names needs k) ≡ false)
      → IfFault {T = List ℕ} (Err e) (λ fault. input_fault names needs place ≡ Some fault) → Fails e (inputs_exist names needs)
  input_ends stop.Memory place h before missing = tt
  input_ends (stop.Fault fault) place h before missing =
      let here : is_some (input_fault names needs place) ≡ true = rw missing refl in
      rw (least_is (length needs) (λ k. is_some (input_fault names needs k)) place h here before, missing) refl

  pub inputs_all : (n : ℕ) → length needs ≤ n → ((k : ℕ) → k < n → is_some (input_fault names needs k) ≡ false) → inputs_exist names needs ≡ Ok tt
  inputs_all n h there = rw (least_none (length needs) (λ k. is_some (input_fault names needs k)) (λ k less. there k (omega arith))) refl

  pub links_more : (place : ℕ) (link : List ℕ) → place < length needs → link ≡ filter_map (place_of names) (get_or needs place [])
      → take (place + 1) (map (filter_map (place_of names)) needs) ≡ take place (map (filter_map (place_of names)) needs) ++ link ∷ []
  links_more place link h is =
      let within : place < length (map (filter_map (place_of names)) needs) = rw length-map h in
      take_more (map (filter_map (place_of names)) needs) place [] within ∙ rw (get_or-map (filter_map (place_of names)) needs place [] [] h, ← is) refl

  none_least : inputs_exist names needs ≡ Ok tt → (o : Option ℕ) → least (length needs) (λ k. is_some (input_fault names needs k)) ≡ o → least (length needs) (λ k. is_some (input_fault names needs k)) ≡ None
  none_least fine None is = is
  none_least fine (Some k) is =
      absurd (refused_none (input_fault names needs k) (rw is at fine) (least_passes (length needs) (λ j. is_some (input_fault names needs j)) k is))

  -- where all inputs are there, each node has as many places as names of inputs
  pub inputs_counted : (place : ℕ) → place < length needs → inputs_exist names needs ≡ Ok tt
      → length (get_or (map (filter_map (place_of names)) needs) place []) ≡ length (get_or needs place [])
  inputs_counted place h fine =
      let none = none_least fine _ refl in
      let here : is_some (input_fault names needs place) ≡ false = least_fails (length needs) (λ k. is_some (input_fault names needs k)) place h none in
      rw (get_or-map (filter_map (place_of names)) needs place [] [] h) (all_known names (get_or needs place []) (no_fault names (get_or needs place []) place _ refl here))
