-- The names by which a refusal is told.
use Rattle.std.proofs.Common.{◌≡◌, ℕ, List, [], Option, Some, None, Err, refl, ap, subst}
use Rattle.outside.specs.Words.{Files, SinkState}
use Rattle.commands.specs.declared.reason.Reason.{Reason}
use Rattle.commands.specs.declared.reason.Reason.TheVariants as why
use Rattle.commands.specs.declared.refusal.Refusal.{Refusal}
use Rattle.commands.specs.Answers.{GainsLine, IsNoted}
use Rattle.commands.specs.Reasons.{RefusesFlow, IsAsked}
use Rattle.commands.specs.Refusals.{names_in, line_in, HasLineOver}
use Rattle.commands.specs.Texts.{refusal_line}
use Rattle.commands.specs.Verdict.{known_names}

-- where the flow is asked for, only a refused one is told by names
pub told_alike : (depot : Type 0) (reason : Reason) (names known : List (List ℕ)) → IsAsked {X = Unit {0}} depot (Err reason) → (RefusesFlow reason → names ≡ known) → refusal_line names reason ≡ refusal_line known reason
told_alike depot why.Usage names known cause same = refl
told_alike depot why.FlowMissing names known cause same = refl
told_alike depot (why.FlowTooLong size) names known cause same = refl
told_alike depot (why.Flow fault) names known cause same = refl
told_alike depot (why.Schema fault) names known cause same = ap (λ n. refusal_line n (why.Schema fault)) (same refl)
told_alike depot why.NotBuilt names known cause same = refl
told_alike depot (why.Source fault) names known cause same = absurd cause
told_alike depot (why.NotATable place) names known cause same = refl
told_alike depot why.NotMade names known cause same = refl
told_alike depot why.WorkflowDiffers names known cause same = refl
told_alike depot why.Full names known cause same = refl
told_alike depot why.Depot names known cause same = refl
told_alike depot why.Disk names known cause same = refl
told_alike depot why.Sink names known cause same = refl
told_alike depot why.Memory names known cause same = refl

-- the line of a refusal stands in the notes
pub noted : (told : Option Files) (refusal : Refusal) (notes now : SinkState) → HasLineOver told refusal → GainsLine (line_in refusal) notes now → IsNoted told refusal.reason notes now
noted None refusal notes now line gains = record { names = names_in refusal.flow; known = tt; gains = gains }
noted (Some files) refusal notes now line gains = record { names = known_names files; known = refl; gains = subst (λ (l : List ℕ). GainsLine l notes now) (line files refl) gains }

-- the line for want of memory does, which names nothing
pub no_memory : (told : Option Files) (notes now : SinkState) → GainsLine (refusal_line [] why.Memory) notes now → IsNoted told why.Memory notes now
no_memory None notes now gains = record { names = []; known = tt; gains = gains }
no_memory (Some files) notes now gains = record { names = known_names files; known = refl; gains = gains }
