use Rattle.std.proofs.Common.{◌≡◌, ◌∷◌, [], List, ℕ, refl}
use Rattle.std.proofs.lemmas.Result.{on_ok_weaker}
use Rattle.commit_disk.specs.Table.{end_block, block_bytes}
use Rattle.commit_disk.specs.BlockHeads.{IsWritten}
use Rattle.commit_disk.specs.declared.block_head.BlockHead.TheVariants.{End}
use Rattle.commit_disk.proofs.journal.Journal.end.Goals as goal

end_written : (bytes : List ℕ) → bytes ≡ 1 ∷ 0 ∷ 0 ∷ 0 ∷ 0 ∷ 0 ∷ 0 ∷ 0 ∷ 0 ∷ 0 ∷ [] → IsWritten end_block End bytes
unfolding block_bytes
end_written bytes is = record { allowed = tt; of_head = tt; spelled = is }

pub returns-clause-done : goal.returns-clause-done
returns-clause-done g c = on_ok_weaker c.add.result (λ done honest. done honest end_block (end_written _ refl)) c.add.ensures.done

pub returns-clause-any_moment : goal.returns-clause-any_moment
returns-clause-any_moment g c = λ honest settled. c.add.ensures.any_moment honest settled end_block (end_written _ refl)

pub returns-clause-grows : goal.returns-clause-grows
returns-clause-grows g c = λ honest settled. c.add.ensures.grows honest settled end_block (end_written _ refl)
