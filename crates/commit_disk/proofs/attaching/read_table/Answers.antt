use Rattle.std.proofs.Common.{◌∙◌, ℕ, List, length, Option, Ok, ap, sym, subst}
use Rattle.std.proofs.lemmas.Bool.{iff_false}
use Rattle.commit_disk.specs.Attach.{TellsOf}
use Rattle.commit_disk.specs.Frames.{HeadTells}
use Rattle.outside.specs.Moments.{read_on, read_three}
use Rattle.commit_disk.proofs.Frames.{table_told}
use Rattle.commit_disk.proofs.attaching.read_table.Goals as goal

pub returns-in_err-journal-clause-read : goal.returns-in_err-journal-clause-read
returns-in_err-journal-clause-read g c =
    read_on _ _ _ c.read_head.ensures.read c.read_gates.ensures.read

pub returns-in_err-has_text-clause-read : goal.returns-in_err-has_text-clause-read
returns-in_err-has_text-clause-read g c =
    read_three _ _ _ _ c.read_head.ensures.read c.read_gates.ensures.read c.has_text.ensures.read

pub returns-then-not-branch-clause-read : goal.returns-then-not-branch-clause-read
returns-then-not-branch-clause-read g c =
    read_three _ _ _ _ c.read_head.ensures.read c.read_gates.ensures.read c.has_text.ensures.read

pub returns-clause-read : goal.returns-clause-read
returns-clause-read g c =
    read_three _ _ _ _ c.read_head.ensures.read c.read_gates.ensures.read c.has_text.ensures.read

pub returns-then-not-branch-clause-tells : goal.returns-then-not-branch-clause-tells
returns-then-not-branch-clause-tells g c = λ honest sized.
    let file = (g.K.Disk.state c.args.disk.now).file in
    let head = subst (λ (o : Option ℕ). HeadTells (Ok o) file) c.in-Some.is (c.in_ok-len.ensures.tells honest sized) in
    let one = c.read_head.ensures.read.keeps.file honest in
    let honest_one = c.read_head.ensures.read.elapses.honest ∙ honest in
    let two = c.read_gates.ensures.read.keeps.file honest_one ∙ one in
    let told = table_told file _ _ c.in-Some.len c.in_ok-journal.journal one two head (c.in_ok-journal.ensures.tells honest_one (sized ∙ ap length (sym one))) in
    let same = c.in_ok-has_text.ensures.same (c.read_gates.ensures.read.elapses.honest ∙ honest_one) told.1 in
    (head.0, (λ is. iff_false same c.if-not-branch.true (told.2 ∙ is)), (c.in_ok-journal.journal.gate, (told.0.blocks, told.0.holds)))

pub returns-clause-tells : goal.returns-clause-tells
returns-clause-tells g c = λ honest sized.
    let file = (g.K.Disk.state c.args.disk.now).file in
    let head = subst (λ (o : Option ℕ). HeadTells (Ok o) file) c.in-Some.is (c.in_ok-len.ensures.tells honest sized) in
    let one = c.read_head.ensures.read.keeps.file honest in
    let honest_one = c.read_head.ensures.read.elapses.honest ∙ honest in
    let two = c.read_gates.ensures.read.keeps.file honest_one ∙ one in
    let told = table_told file _ _ c.in-Some.len c.in_ok-journal.journal one two head (c.in_ok-journal.ensures.tells honest_one (sized ∙ ap length (sym one))) in
    let same = c.in_ok-has_text.ensures.same (c.read_gates.ensures.read.elapses.honest ∙ honest_one) told.1 in
    subst (λ (text : List ℕ). TellsOf c.in_ok-journal.journal file text) (sym told.2 ∙ same.0 c.if-not-branch.false) told.0
