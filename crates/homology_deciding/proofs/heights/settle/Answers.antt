use Rattle.homology_deciding.proofs.Common.{darts_of, face_of, OrientedMesh, IsUp, IsWayUp, height_of, signed_dart_count, EndsAtHeight, ◌≡◌, ◌<◌, ℕ, ℤ, List, [], length, ap, refl, sym, ◌∙◌, subst, arith, rules, to_z, of_z, w64, ◌+ℤ◌, is_some, DartName}
use Rattle.homology_deciding.proofs.LoopLemmas.{IsTopKnown, top_known, known, height_small, height_more, height_kept, height_there, added_fits, added_is}
use Rattle.homology_deciding.proofs.heights.settle.Goals as goal
use Rattle.homology_deciding.proofs.heights.settle.Goals.{In-Some}

-- what holds of the dart at the upper end of the way
top : (c : In-Some) (f : ℕ) → EndsAtHeight c.args.tree.now c.args.heights.now f c.args.way.now.items
    → IsTopKnown c.args.tree.now c.requires.tree c.args.counts.now c.requires.small c.loop-up.heights f c.pop.new.self.items c.in-Some.up
top c f ends =
    top_known c.args.tree.now c.requires.tree c.args.counts.now c.requires.small c.loop-up.heights f c.loop-up.way.items
    c.pop.new.self.items c.in-Some.up c.in-Some.ensures.items (c.loop-up.invariant.ends f ends)

within : (c : In-Some) → c.in-Some.up.0 < darts_of c.args.tree.now.surface.now
within c = (top c c.requires.way.0 c.requires.way.1).up.within

pub above-requires : goal.above-requires
above-requires c = within (goal.at.above-requires c).In-Some

pub face_of-face-requires : goal.face_of-face-requires
face_of-face-requires c = within (goal.at.face_of-face-requires c).In-Some

pub count_at-requires-clause-dart : goal.count_at-requires-clause-dart
count_at-requires-clause-dart c = within (goal.at.count_at-requires-clause-dart c).In-Some

pub overflow_add-heights : goal.overflow_add-heights
overflow_add-heights c =
    let tree = c.args.tree.now in
    added_fits tree c.requires.tree c.args.counts.now c.requires.small c.in-Some-heights.height c.count_at.result
    (height_small tree c.requires.tree c.args.counts.now c.requires.small c.loop-up.heights c.above.result.0 c.in-Some-heights.height
    c.loop-up.invariant.heights c.in-Some-heights.is) c.count_at.ensures.small

pub loop-up-preserved-in-Some-heights : goal.loop-up-preserved-in-Some-heights
loop-up-preserved-in-Some-heights c =
    let tree = c.args.tree.now in
    let s : OrientedMesh = tree.surface.now in
    let counts : List ℤ = c.args.counts.now in
    let heights = c.loop-up.heights in
    let up : DartName = c.in-Some.up in
    let at = (goal.at.loop-up-preserved-in-Some-heights c).In-Some in
    let f : ℕ = c.face_of-face.result.0 in
    let face : f ≡ face_of s up.0 = c.face_of-face.ensures.face in
    let height : ℤ = c.in-Some-heights.height in
    let sum : ℤ = to_z w64 (of_z w64 (to_z w64 (of_z w64 height) +ℤ to_z w64 (of_z w64 c.count_at.result))) in
    let is : sum ≡ height +ℤ signed_dart_count s counts up.0 =
    added_is tree c.requires.tree counts c.requires.small height c.count_at.result
    (height_small tree c.requires.tree counts c.requires.small heights c.above.result.0 height c.loop-up.invariant.heights
    c.in-Some-heights.is) c.count_at.ensures.small
    ∙ ap (λ z. height +ℤ z) c.count_at.ensures.count in
    let room : f < length heights = omega (arith, c.face_of-face.ensures.within, c.loop-up.invariant.heights.each_face) in
    record {
      heights = height_more tree c.requires.tree counts c.requires.small heights f up height sum c.loop-up.invariant.heights
          (subst (λ (x : ℕ). IsUp s tree.split.now x up) (sym face) (top at c.requires.way.0 c.requires.way.1).up)
          (ap (height_of heights) (sym c.above.ensures.face) ∙ c.in-Some-heights.is) is c.face_of-face.ensures.within;
      kept = λ g is_known.
          height_kept tree c.requires.tree counts c.requires.small heights f g sum room (c.loop-up.invariant.kept g is_known);
      ends = λ g ends. (
        f,
        subst (IsWayUp s tree.split.now g c.pop.new.self.items) (sym face) (top at g ends).below,
        height_there tree c.requires.tree counts c.requires.small heights f sum room,
      );
    }

pub loop-up-preserved : goal.loop-up-preserved
loop-up-preserved c =
    let tree = c.args.tree.now in
    let at = (goal.at.loop-up-preserved c).In-Some in
    let height = known tree c.requires.tree c.args.counts.now c.requires.small c.loop-up.heights c.above.result.0
    (height_of c.loop-up.heights c.above.result.0) refl
    (ap (λ g. is_some (height_of c.loop-up.heights g)) c.above.ensures.face ∙ (top at c.requires.way.0 c.requires.way.1).known) in
    absurd (c.in_default-heights.not-Some height.0 height.1)

pub returns-clause-found : goal.returns-clause-found
returns-clause-found c = λ f ends.
    let empty : c.loop-up.way.items ≡ [] = search rules in
    let e = c.loop-up.invariant.ends f ends in
    let here : f ≡ e.0 =
    subst (λ (w : List DartName). IsWayUp c.args.tree.now.surface.now c.args.tree.now.split.now f w e.0) empty e.1 in
    ap (λ g. is_some (height_of c.loop-up.heights g)) here ∙ e.2
