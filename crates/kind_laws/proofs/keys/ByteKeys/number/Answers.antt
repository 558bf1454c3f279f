use Rattle.std.proofs.Common.{map, cond, ◌++◌, ◌∷◌, [], refl, sym, ap, ◌∙◌}
use Rattle.std.specs.Str.{bytes_eq}
use Rattle.kind_laws.specs.Keys.{with_key}
use Rattle.kind_laws.proofs.KeysNumbered.{any_form, place_form, place_found, place_behind, with_form}
use Rattle.kind_laws.proofs.keys.ByteKeys.number.Goals as goal

pub returns-in-Some-clause-number : goal.returns-in-Some-clause-number
returns-in-Some-clause-number c =
    let ks = c.self.inside.keys.keys in
    let key = c.args.key.now in
    rw (← c.self.view_is)
    (place_found (λ k. bytes_eq key k.items) ks c.in-Some.number (sym c.get_index_of.ensures.index ∙ c.in-Some.is)
    ∙ sym (place_form (λ k. k.items) (λ k. bytes_eq key k.items) (bytes_eq key) ks (λ k d small. refl)))

pub returns-in-Some-clause-keys : goal.returns-in-Some-clause-keys
returns-in-Some-clause-keys c =
    let ks = c.self.inside.keys.keys in
    let key = c.args.key.now in
    rw (← c.self.view_is)
    (ap (λ b. cond b (map (λ k. k.items) ks) (map (λ k. k.items) ks ++ key ∷ []))
    (c.in-Some.ensures.found ∙ sym (any_form (λ k. k.items) (λ k. bytes_eq key k.items) (bytes_eq key) ks (λ k d small. refl))))

pub returns-clause-number : goal.returns-clause-number
returns-clause-number c =
    let ks = c.self.inside.keys.keys in
    let key = c.args.key.now in
    rw (← c.self.view_is)
    (c.len-number.ensures.len ∙ sym (place_behind (λ k. bytes_eq key k.items) ks (sym c.in_default.ensures.found))
    ∙ sym (place_form (λ k. k.items) (λ k. bytes_eq key k.items) (bytes_eq key) ks (λ k d small. refl)))

pub returns-clause-keys : goal.returns-clause-keys
returns-clause-keys c =
    let ks = c.self.inside.keys.keys in
    rw (← c.self.view_is)
    (ap (map (λ k. k.items)) c.in_ok-insert.ensures.keys
    ∙ sym (with_form (λ k. k.items) (λ one other. bytes_eq one.items other.items) bytes_eq ks c.in_ok-copy.copy (λ k d small. refl))
    ∙ ap (with_key bytes_eq (map (λ k. k.items) ks)) c.in_ok-copy.ensures.items)
