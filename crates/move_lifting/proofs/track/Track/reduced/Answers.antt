use Rattle.move_lifting.proofs.Common.{◌≡◌, length, arith}
use Rattle.move_lifting.proofs.InPlaceLemmas.{IsReduced, in_place_first, in_place_next, in_place_short, in_place_more, in_place_all}
use Rattle.move_lifting.proofs.track.Track.reduced.Goals as goal
use Rattle.move_lifting.proofs.track.Track.reduced.Goals.{After-loop-read}

pub loop-read-init : goal.loop-read-init
loop-read-init c = in_place_first c.args.behind c.args.laid.spare c.args.laid.walk c.args.moves c.requires.some

pub put_next-requires-clause-some : goal.put_next-requires-clause-some
put_next-requires-clause-some c = c.loop-read.invariant.some

pub put_next-requires-clause-next : goal.put_next-requires-clause-next
put_next-requires-clause-next c = grind (arith, in_place_next)

pub put_next-requires-clause-room : goal.put_next-requires-clause-room
put_next-requires-clause-room c = grind (arith, in_place_short)

pub put_next-requires-clause-no_spur : goal.put_next-requires-clause-no_spur
put_next-requires-clause-no_spur c = c.loop-read.invariant.so_far.no_spur

pub loop-read-preserved : goal.loop-read-preserved
loop-read-preserved c =
    in_place_more c.loop-read.invariant (omega (arith, c.loop-read.auto._read))
    (omega (arith, c.loop-read-test.true, c.len-entries.ensures.count)) c.in_ok-front.ensures

done : (c : After-loop-read) → IsReduced c.args.behind c.args.laid.walk c.args.moves c.loop-read.track
done c =
    let all : c.loop-read._read ≡ length c.args.laid.walk =
    omega (arith, c.loop-read-test.false, c.loop-read.auto._read-end, c.len-entries.ensures.count, c.len-entries.ensures.some) in
    in_place_all c.loop-read.invariant all

pub returns-clause-leads : goal.returns-clause-leads
returns-clause-leads c = (done c).goes

pub returns-clause-freely : goal.returns-clause-freely
returns-clause-freely c = (done c).freely

pub returns-clause-no_spur : goal.returns-clause-no_spur
returns-clause-no_spur c = (done c).no_spur

pub returns-clause-last : goal.returns-clause-last
returns-clause-last c = (done c).last

pub returns-clause-few : goal.returns-clause-few
returns-clause-few c = (done c).few

pub returns-clause-peak : goal.returns-clause-peak
returns-clause-peak c = (done c).peak
