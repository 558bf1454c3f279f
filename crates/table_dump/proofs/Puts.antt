-- Texts that are put one behind the other.
use Rattle.std.proofs.Common.{◌≡◌, ◌+◌, ℕ, List, [], ◌++◌, length, take, Option, Some, None, Result, Ok, Err, refl, sym, ap, ◌∙◌, append_assoc, append-nil, arith, length-append}
use Rattle.std.proofs.Math.Seq.{take-append-add}
use Rattle.std.proofs.lemmas.List.{take-append-le}
use Rattle.outside.specs.Sink.{SinkState, gained, Gains, GainsFront}
use Rattle.table_dump.specs.Texts.{Leaves}

gained_both : (start : Option (List ℕ)) (one two : List ℕ) → gained (gained start one) two ≡ gained start (one ++ two)
gained_both None one two = refl
gained_both (Some start) one two = ap Some (append_assoc start one two)

gained_none : (start : Option (List ℕ)) → start ≡ gained start []
gained_none None = refl
gained_none (Some start) = ap Some (sym (append-nil start))

-- nothing is put
pub puts_none : (old : SinkState) → Gains [] old old
puts_none old = gained_none old.written

-- and of any text that is a front
pub puts_front : (text : List ℕ) (old : SinkState) → GainsFront text old old
puts_front text old = (0, omega arith, gained_none old.written)

-- one text, and then another
pub puts_both : (old mid new : SinkState) (one two : List ℕ) → Gains one old mid → Gains two mid new → Gains (one ++ two) old new
puts_both old mid new one two first second =
    second ∙ ap (λ (w : Option (List ℕ)). gained w two) first ∙ gained_both old.written one two

-- a front of one is a front of both
pub fronts_first : (old new : SinkState) (one two : List ℕ) → GainsFront one old new → GainsFront (one ++ two) old new
fronts_first old new one two (n, few, is) =
    (n, omega (arith, few, length-append one two), is ∙ ap (gained old.written) (sym (take-append-le n one two few)))

-- and so is one with a front of the other
pub fronts_both : (old mid new : SinkState) (one two : List ℕ) → Gains one old mid → GainsFront two mid new → GainsFront (one ++ two) old new
fronts_both old mid new one two first (n, few, is) = (
  length one + n,
  omega (arith, few, length-append one two),
  puts_both old mid new one (take n two) first is ∙ ap (gained old.written) (sym (take-append-add one two n)),
)

-- what is left behind a text
pub leaves_both : {T E : Type 0} (old mid new : SinkState) (one two : List ℕ) (result : Result T E) → Gains one old mid → Leaves two mid new result → Leaves (one ++ two) old new result
leaves_both old mid new one two (Ok done) first second = puts_both old mid new one two first second
leaves_both old mid new one two (Err stop) first second = fronts_both old mid new one two first second
