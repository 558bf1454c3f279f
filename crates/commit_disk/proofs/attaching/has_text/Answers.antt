use Rattle.std.proofs.Common.{◌∙◌, ◌≡◌, ◌+◌, ◌-◌, ◌≤◌, ℕ, length, take, drop, ap, sym, subst, arith}
use Rattle.std.proofs.lemmas.Bool.{false≢true, iff_false}
use Rattle.outside.specs.Moments.{read_on}
use Rattle.commit_disk.proofs.Pieces.{longer_read, piece_read}
use Rattle.commit_disk.proofs.attaching.has_text.Goals as goal

pub returns-then-not-branch-clause-same : goal.returns-then-not-branch-clause-same
returns-then-not-branch-clause-same g c = λ honest long.
    let file = (g.K.Disk.state c.args.disk.now).file in
    let done = c.loop-done.done in
    let count : ℕ = done + c.min-count.result - done in
    let within : done + count ≤ length c.args.text.now = omega arith in
    let told = c.in_ok-has_bytes.ensures.same (c.loop-done.invariant.read.elapses.honest ∙ honest) in (
      (λ never. absurd (false≢true never)),
      (λ same. absurd (iff_false told c.if-not-branch.true
          (piece_read 16 done count file _ c.args.text.now (c.loop-done.invariant.read.keeps.file honest) within
          (ap (λ (n : ℕ). take n (drop 16 file)) (sym c.if-len-text.false) ∙ same)))),
    )

pub loop-done-preserved : goal.loop-done-preserved
loop-done-preserved g c = record {
  bound = omega arith;
  block = omega arith;
  read = read_on _ _ _ c.loop-done.invariant.read c.has_bytes.ensures.read;
  same = λ honest.
      let file = (g.K.Disk.state c.args.disk.now).file in
      let is = (g.K.Disk.state c.loop-done.disk).file in
      let text = c.args.text.now in
      let done = c.loop-done.done in
      let within : done + c.min-count.result ≤ length text = omega arith in
      let cut : done + c.min-count.result - done ≡ c.min-count.result = omega arith in
      let told = c.in_ok-has_bytes.ensures.same (c.loop-done.invariant.read.elapses.honest ∙ honest) in
      let read = subst (λ (n : ℕ). take (length (take n (drop done text))) (drop (16 + done) is) ≡ take n (drop done text)) cut (told.0 c.if-not-branch.false) in
      longer_read 16 done c.min-count.result file is text (c.loop-done.invariant.read.keeps.file honest) within
      (c.loop-done.invariant.same honest) read;
}
