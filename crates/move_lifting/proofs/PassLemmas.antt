-- Passes over a walk: a face is crossed, and the vertices of its rest are put on the track.
use Rattle.move_lifting.proofs.Common.{OrientedMesh, IsCrossed, IsLedOn, TrackView, FaceStep, ◌≡◌, ℕ, ◌+◌, ◌<◌, ◌≤◌, List, [], ◌∷◌, ◌++◌, length, ap, ◌∙◌, subst, arith, length-append, length-reverse, reverse, FaceList, HasNoSpur, numbers, VertexName, SplitView}
use Rattle.move_lifting.proofs.ExpandLemmas.{one_pending, reverse-push, length-numbers}
use Rattle.move_lifting.proofs.LedLemmas.{led_after, led_behind}

-- what holds while what was pending is put on a track
pub record ArePutSoFar (behind : ℕ) (begun : TrackView) (were : List ℕ) (track : TrackView) (pending : List VertexName) : Type 0 where
  pub some : 0 < length track.walk
  pub no_spur : HasNoSpur track.walk
  pub long : length track.walk + length pending ≤ length begun.walk + length were
  pub led : (s : OrientedMesh) (split : SplitView)
      → IsLedOn s split behind (begun.walk ++ reverse were) begun.list (track.walk ++ reverse (numbers pending)) track.list

pub put_more : {behind : ℕ} {begun : TrackView} {were : List ℕ} {track : TrackView} {pending : List VertexName} (new : TrackView)
    (rest : List VertexName) (v : VertexName) (after : ℕ)
    → ArePutSoFar behind begun were track pending → pending ≡ rest ++ v ∷ [] → after ≡ length rest + behind
    → ((s : OrientedMesh) (split : SplitView) → IsLedOn s split after (track.walk ++ v.0 ∷ []) track.list new.walk new.list)
    → HasNoSpur new.walk → 0 < length new.walk → length new.walk ≤ length track.walk + 1 → ArePutSoFar behind begun were new rest
put_more {behind} {begun} {were} {track} {pending} new rest v after on popped counted put no_spur some long =
    let turned : reverse (numbers pending) ≡ v.0 ∷ reverse (numbers rest) =
    ap (λ (l : List ℕ). reverse l) (one_pending pending rest v popped) ∙ reverse-push (numbers rest) v.0 in
    record {
      some = some;
      no_spur = no_spur;
      long = omega (arith, long, on.long, ap (λ (l : List VertexName). length l) popped, length-append rest (v ∷ []));
      led = λ s split. led_after
          (subst (λ (l : List ℕ). IsLedOn s split behind (begun.walk ++ reverse were) begun.list (track.walk ++ l) track.list) turned
          (on.led s split))
          (led_behind behind track.walk v.0 (reverse (numbers rest)) (put s split)
          (omega (arith, counted, length-reverse (numbers rest), length-numbers rest)));
    }

-- a face is crossed by a track with more cells in reserve
pub crossed_on : (mesh faces : FaceList) (step : FaceStep) (behind spare : ℕ) (old reserved new : TrackView) (pending left : List ℕ)
    → faces ≡ mesh → reserved ≡ record old { spare = spare } → IsCrossed faces step behind reserved pending new left
    → IsCrossed mesh step behind old pending new left
crossed_on mesh faces step behind spare old reserved new pending left is same h = grind arith
