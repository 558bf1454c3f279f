use Rattle.std.proofs.Common.{◌<◌, ◌≤◌, map, length, arith}
use Rattle.std.proofs.lemmas.List.{length-map}
use Rattle.flow_types.proofs.Pairs.{once_ends, once_all}
use Rattle.flow_types.proofs.paired.none_again.Goals as goal

pub returns-in-Some : goal.returns-in-Some
returns-in-Some c =
    let within : c.loop-place.place < length (map (λ n. n.now) c.args.lefts.now) = rw length-map c.loop-place-test.true in
    rw c.in_ok-copy.ensures
    (once_ends (map (λ n. n.now) c.args.lefts.now) (map (λ n. n.now) c.args.rights.now) c.loop-place.place c.in-Some.column.now within c.loop-place.invariant c.in-Some.ensures)

pub returns : goal.returns
returns c =
    let all : length (map (λ n. n.now) c.args.lefts.now) ≤ c.loop-place.place = rw length-map (omega (arith, c.loop-place-test.false)) in
    once_all (map (λ n. n.now) c.args.lefts.now) (map (λ n. n.now) c.args.rights.now) c.loop-place.place all c.loop-place.invariant
