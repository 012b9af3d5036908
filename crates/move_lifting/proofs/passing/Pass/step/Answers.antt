use Rattle.move_lifting.proofs.Common.{IsFaceBelow, IsCrossed, IsLedOn, last_of, MOST_PASSED_ENTRIES, ◌≡◌, ◌+◌, ◌≤◌, List, ◌∷◌, [], ◌++◌, length, subst, arith, on_ok_weaker, reverse, Result, Ok, Err, OnOk, face_at, numbers, VertexName}
use Rattle.move_lifting.proofs.ExpandLemmas.{length-numbers, crossed_led, rest_of_step}
use Rattle.move_lifting.proofs.PassLemmas.{crossed_on}
use Rattle.move_lifting.proofs.passing.Pass.step.Goals as goal
use Rattle.move_lifting.proofs.passing.Pass.step.Goals.{In_ok-cross-in-Some}
use Rattle.move_lifting.proofs.LedLemmas.{led_after, led_put}

-- the rest of the face below is pending in place of the step
crossed : (c : In_ok-cross-in-Some)
    → IsCrossed c.args.self.now.on.now.surface.now.mesh c.in-Some.step (c.args.left + c.args.self.now.behind) c.args.track.now
    (numbers c.args.pending.now.items) c.cross.new.track (numbers c.cross.new.pending.items)
crossed c = grind (arith, crossed_on)

-- below the edge that the step goes along
under : (c : In_ok-cross-in-Some)
    → IsFaceBelow c.args.self.now.on.now.surface.now c.args.self.now.on.now.split.now (last_of c.args.track.now.walk) c.args.to.0
    c.in-Some.step
under c = grind arith

-- so the walk is led on
led : (c : In_ok-cross-in-Some)
    → IsLedOn c.args.self.now.on.now.surface.now c.args.self.now.on.now.split.now (c.args.left + c.args.self.now.behind)
    (c.args.track.now.walk ++ c.args.to.0 ∷ []) c.args.track.now.list
    (c.cross.new.track.walk ++ reverse (numbers c.cross.new.pending.items)) c.cross.new.track.list
led c =
    crossed_led c.faces-faces.ensures.valid.faces c.args.to.0 c.requires.some (under c)
    (subst (λ (l : List VertexName). IsCrossed c.args.self.now.on.now.surface.now.mesh c.in-Some.step
    (c.args.left + c.args.self.now.behind) c.args.track.now (numbers l) c.cross.new.track (numbers c.cross.new.pending.items))
    c.requires.pending (crossed c))

-- so many vertices are pending
come : (c : In_ok-cross-in-Some)
    → length c.cross.new.pending.items + 1 ≡ length (face_at c.args.self.now.on.now.surface.now.mesh c.in-Some.step.face.0)
come c = grind (arith, rest_of_step, under, crossed, length-numbers)

-- with what is pending, and what is left of the walk, there are few entries
few : (c : In_ok-cross-in-Some)
    → length c.cross.new.track.walk + length c.cross.new.pending.items + c.args.left ≤ MOST_PASSED_ENTRIES
few c = grind (arith, crossed, come)

-- and a cell for each of them
spared : (c : In_ok-cross-in-Some) → c.args.left + length c.cross.new.pending.items ≤ c.cross.new.track.spare
spared c = grind (arith, come)

pub put_pending-requires-clause-room : goal.put_pending-requires-clause-room
put_pending-requires-clause-room c =
    omega (arith, few (goal.at.put_pending-requires-clause-room c).In_ok-cross-in-Some, c.requires.pass.behind)

pub put_pending-requires-clause-spare : goal.put_pending-requires-clause-spare
put_pending-requires-clause-spare c = omega (arith, spared (goal.at.put_pending-requires-clause-spare c).In_ok-cross-in-Some)

pub returns-in_ok-cross-in-Some-clause-spare : goal.returns-in_ok-cross-in-Some-clause-spare
returns-in_ok-cross-in-Some-clause-spare c =
    let at = (goal.at.returns-in_ok-cross-in-Some-clause-spare c).In_ok-cross-in-Some in
    on_both c.put_pending.result (λ long cells. omega (arith, long, cells, spared at)) c.put_pending.ensures.long
    c.put_pending.ensures.cells
  where
    on_both : {T E A B C : Type 0} (r : Result T E) → (A → B → C) → OnOk r A → OnOk r B → OnOk r C
    on_both (Ok x) f a b = f a b
    on_both (Err y) f a b = tt

pub returns-in_ok-cross-in-Some-clause-few : goal.returns-in_ok-cross-in-Some-clause-few
returns-in_ok-cross-in-Some-clause-few c =
    let at = (goal.at.returns-in_ok-cross-in-Some-clause-few c).In_ok-cross-in-Some in
    on_ok_weaker c.put_pending.result (λ long. omega (arith, long, few at)) c.put_pending.ensures.long

pub returns-in_ok-cross-in-Some-clause-led : goal.returns-in_ok-cross-in-Some-clause-led
returns-in_ok-cross-in-Some-clause-led c =
    let at = (goal.at.returns-in_ok-cross-in-Some-clause-led c).In_ok-cross-in-Some in
    on_ok_weaker c.put_pending.result
    (λ put. led_after (led at) (put c.args.self.now.on.now.surface.now c.args.self.now.on.now.split.now)) c.put_pending.ensures.led

pub returns-in-None-clause-led : goal.returns-in-None-clause-led
returns-in-None-clause-led c =
    let put = c.put.ensures in
    all_ok c.put.result put.leads put.some put.last put.more put.shape put.count put.peak
    (λ leads. led_put (c.args.left + c.args.self.now.behind) c.args.to.0 c.args.track.now c.put.new.self
    (leads c.args.self.now.on.now.surface.now.mesh))
  where
    all_ok : {T E A B C D F G H I : Type 0} (r : Result T E)
        → OnOk r A → OnOk r B → OnOk r C → OnOk r D → OnOk r F → OnOk r G → OnOk r H
        → (A → B → C → D → F → G → H → I) → OnOk r I
    all_ok (Ok x) a b c d f g h all = all a b c d f g h
    all_ok (Err y) a b c d f g h all = tt
