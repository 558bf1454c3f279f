use Rattle.std.proofs.Common.{◌≡◌, ◌∙◌, length, ℕ, List}
use Rattle.outside.specs.Images.{Torn}
use Rattle.outside.specs.Moments.{torn_call, same_call, sync_leaves, pass_on, at_end}
use Rattle.commit_disk.proofs.gate.write_safely.Goals as goal

pub returns-in_err-write_at-clause-passes : goal.returns-in_err-write_at-clause-passes
returns-in_err-write_at-clause-passes g c = λ honest settled. torn_call _ _ _ _ honest c.write_at.ensures.ticks settled c.write_at.ensures.tears

pub returns-clause-passes : goal.returns-clause-passes
returns-clause-passes g c = λ honest settled.
    let old = g.K.Disk.state c.args.disk.now in
    let middle = g.K.Disk.state c.write_at.new.self in
    let new = g.K.Disk.state c.sync.new.self in
    let before = λ (image : List ℕ). image ≡ old.file in
    let after = Torn c.args.at (length c.args.bytes.now) old.file in
    let written = c.write_at.ensures.ticks in
    let still = written.elapses.honest ∙ honest in
    let torn = torn_call c.args.at (length c.args.bytes.now) old middle honest written settled c.write_at.ensures.tears in
    pass_on before after old middle new honest written.elapses c.sync.ensures.ticks.elapses torn
    (same_call before after middle new still c.sync.ensures.ticks (at_end _ old middle written.elapses (λ _. torn.either) honest)
    (sync_leaves c.sync.result middle new still c.sync.ensures.synced c.sync.ensures.not_synced))
