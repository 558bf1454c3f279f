use Rattle.std.proofs.Common.{◌≡◌, ◌≤◌, ◌∙◌, ℕ, length, ap, sym, refl, inl, inr, arith}
use Rattle.std.specs.Int.{w32, to_be_bytes}
use Rattle.commit_disk.specs.Attach.{HasText}
use Rattle.commit_disk.proofs.Frames.{head_part, text_leads, text_read, is_made}
use Rattle.commit_disk.proofs.attaching.text_len_of.Goals as goal
use Rattle.commit_disk.proofs.attaching.text_len_of.Goals.{then-len-gt-MAX_FLOW_BYTES-via-then-len-gt-MAX_FLOW_BYTES, then-len-gt-MAX_FLOW_BYTES-via-else-len-gt-MAX_FLOW_BYTES+then-size-len}

pub returns-clause-tells : goal.returns-clause-tells
returns-clause-tells c = λ image is sized.
    let version = ap (λ (n : ℕ). to_be_bytes w32 n) (sym c.if-number_at-ne-VERSION.false) ∙ c.number_at.ensures.bytes in
    text_leads image c.args.head.now is c.number_at-len.result (omega arith) c.if-len-gt-MAX_FLOW_BYTES.false c.if-head-ne-OPEN.false (c.if-not-has_name.ensures.0 refl) version c.number_at-len.ensures.bytes

pub returns-then-len-gt-MAX_FLOW_BYTES-clause-tells : goal.returns-then-len-gt-MAX_FLOW_BYTES-clause-tells
returns-then-len-gt-MAX_FLOW_BYTES-clause-tells c = λ image is sized.
    let long : 17 ≤ length image = omega arith in
    let version = ap (λ (n : ℕ). to_be_bytes w32 n) (sym c.if-number_at-ne-VERSION.false) ∙ c.number_at.ensures.bytes ∙ head_part image c.args.head.now is 8 8 4 refl (omega arith) in
    let name = sym (head_part image c.args.head.now is 1 15 7 refl (omega arith)) ∙ c.if-not-has_name.ensures.0 refl in
    let none : HasText image → ⊥ = λ has.
    let read : c.number_at-len.result ≡ length has.0 = text_read image c.args.head.now is has.0 c.number_at-len.result has.1 c.number_at-len.ensures.value in
    elim c.then-len-gt-MAX_FLOW_BYTES.branch [
      | then-len-gt-MAX_FLOW_BYTES-via-then-len-gt-MAX_FLOW_BYTES w ↦ omega (arith, has.1.short)
      | then-len-gt-MAX_FLOW_BYTES-via-else-len-gt-MAX_FLOW_BYTES+then-size-len w ↦ omega (arith, has.1.gate)
    ] in
    inl (record {
      made = is_made image c.args.head.now is long c.if-head-ne-OPEN.false;
      first = inr (inr (refl, name, sym version, none));
    })
