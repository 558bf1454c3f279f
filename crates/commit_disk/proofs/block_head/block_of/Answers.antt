use Rattle.std.proofs.Common.{◌∙◌, ℕ, sym, ap, arith}
use Rattle.std.specs.Int.{w32, to_be_bytes}
use Rattle.commit_disk.proofs.Frames.{no_block, spells_head}
use Rattle.commit_disk.proofs.block_head.block_of.Goals as goal
use Rattle.commit_disk.proofs.block_head.block_of.Goals.{then-room-lt11-via-then-room-lt11, then-room-lt11-via-else-room-lt11+then-room-len}

pub returns-then-room-lt11 : goal.returns-then-room-lt11
returns-then-room-lt11 c = elim c.then-room-lt11.branch [
  | then-room-lt11-via-then-room-lt11 w ↦
      no_block c.args.head.now (omega arith) c.args.room c.number_at-count.result c.number_at-len.result c.number_at-count.ensures.value c.number_at-len.ensures.value
      (λ kind some few short fits. omega arith) (λ kind none empty fits. omega arith)
  | then-room-lt11-via-else-room-lt11+then-room-len w ↦
      no_block c.args.head.now (omega arith) c.args.room c.number_at-count.result c.number_at-len.result c.number_at-count.ensures.value c.number_at-len.ensures.value
      (λ kind some few short fits. omega arith) (λ kind none empty fits. omega arith)
]

pub returns-in-0 : goal.returns-in-0
returns-in-0 c = record {
  allowed = (omega arith, omega arith, omega arith);
  fits = omega arith;
  spelled = spells_head c.args.head.now (omega arith) 0 _ _ (omega arith) c.number_at-count.ensures.bytes c.number_at-len.ensures.bytes;
}

pub returns-in-1 : goal.returns-in-1
returns-in-1 c = record {
  allowed = tt;
  fits = omega arith;
  spelled = spells_head c.args.head.now (omega arith) 1 0 0 (omega arith) (ap (λ (n : ℕ). to_be_bytes w32 n) (sym c.if-count-eq0.true) ∙ c.number_at-count.ensures.bytes) (ap (λ (n : ℕ). to_be_bytes w32 n) (sym c.if-len-eq0.true) ∙ c.number_at-len.ensures.bytes);
}

pub returns-in_default : goal.returns-in_default
returns-in_default c =
    no_block c.args.head.now (omega arith) c.args.room c.number_at-count.result c.number_at-len.result c.number_at-count.ensures.value c.number_at-len.ensures.value
    (λ kind some few short fits. omega arith) (λ kind none empty fits. omega arith)

pub returns-in_default-2 : goal.returns-in_default-2
returns-in_default-2 c =
    no_block c.args.head.now (omega arith) c.args.room c.number_at-count.result c.number_at-len.result c.number_at-count.ensures.value c.number_at-len.ensures.value
    (λ kind some few short fits. omega arith) (λ kind none empty fits. omega arith)

pub returns-in_default-3 : goal.returns-in_default-3
returns-in_default-3 c =
    no_block c.args.head.now (omega arith) c.args.room c.number_at-count.result c.number_at-len.result c.number_at-count.ensures.value c.number_at-len.ensures.value
    (λ kind some few short fits. omega arith) (λ kind none empty fits. omega arith)

pub returns-in_default-4 : goal.returns-in_default-4
returns-in_default-4 c =
    no_block c.args.head.now (omega arith) c.args.room c.number_at-count.result c.number_at-len.result c.number_at-count.ensures.value c.number_at-len.ensures.value
    (λ kind some few short fits. omega arith) (λ kind none empty fits. omega arith)

pub returns-in_default-5 : goal.returns-in_default-5
returns-in_default-5 c =
    no_block c.args.head.now (omega arith) c.args.room c.number_at-count.result c.number_at-len.result c.number_at-count.ensures.value c.number_at-len.ensures.value
    (λ kind some few short fits. omega arith) (λ kind none empty fits. omega arith)

pub returns-in_default-6 : goal.returns-in_default-6
returns-in_default-6 c =
    no_block c.args.head.now (omega arith) c.args.room c.number_at-count.result c.number_at-len.result c.number_at-count.ensures.value c.number_at-len.ensures.value
    (λ kind some few short fits. omega arith) (λ kind none empty fits. omega arith)
