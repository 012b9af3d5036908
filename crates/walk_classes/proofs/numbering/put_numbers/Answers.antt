use Rattle.walk_classes.proofs.Common.{mesh_of_finder, ◌≡◌, ℕ, List, [], refl, sym, ◌∙◌, subst, arith, get_or_default, FaceList, IsWalk, walk_at, IsKeyOf}
use Rattle.walk_classes.proofs.WalkKeyLemmas.{all_numbered, none_numbered, numbered_kept, numbered_more}
use Rattle.walk_classes.proofs.numbering.put_numbers.Goals as goal

pub loop-place-init : goal.loop-place-init
loop-place-init c = record {
  mesh = refl;
  numbered = none_numbered c.args.finder.now c.args.walks.now c.args.seen.now c.args.numbers.now c.requires.none c.requires.each;
}

pub loop-place-preserved : goal.loop-place-preserved
loop-place-preserved c =
    let walks = c.args.walks.now in
    let place : ℕ = c.loop-place.place in
    let finder = c.key_if_walk.new.finder in
    let kept = c.key_if_walk.ensures.kept in
    let has : IsKeyOf finder (walk_at walks place) c.in-Some.key =
    subst (λ (w : List ℕ). IsKeyOf finder w c.in-Some.key)
    (c.index-walks-place.is ∙ get_or_default walks place c.index-walks-place.result [] c.loop-place-test.true)
    (rw c.in-Some.is at c.in_ok-key.ensures.key) in
    record {
      mesh = kept.mesh ∙ c.loop-place.invariant.mesh;
      numbered = numbered_more finder walks place c.loop-place.seen c.first_place.new.seen c.loop-place.numbers _ c.in-Some.key
          c.in_ok-numbers.field-0 c.sides.ensures.decide c.loop-place-test.true
          (numbered_kept c.loop-place.finder finder walks place c.loop-place.seen c.loop-place.numbers kept c.sides.ensures.decide
          c.loop-place.invariant.numbered) has c.in_ok-numbers.ensures refl;
    }

pub returns-in_default-clause-fault : goal.returns-in_default-clause-fault
returns-in_default-clause-fault c =
    let walks = c.args.walks.now in
    let place : ℕ = c.loop-place.place in
    let same : mesh_of_finder c.key_if_walk.new.finder ≡ mesh_of_finder c.args.finder.now =
    c.key_if_walk.ensures.kept.mesh ∙ c.loop-place.invariant.mesh in
    let none = rw c.in_default.is at c.in_ok-key.ensures.key in
    let read : c.index-walks-place.result ≡ walk_at walks place =
    c.index-walks-place.is ∙ get_or_default walks place c.index-walks-place.result [] c.loop-place-test.true in
    record {
      within = c.loop-place-test.true;
      no_walk = λ w. none
          (subst (λ (m : FaceList). IsWalk m c.index-walks-place.result) (sym same)
          (subst (IsWalk (mesh_of_finder c.args.finder.now)) (sym read) w));
      before = λ j l.
          subst (λ (m : FaceList). IsWalk m (walk_at walks j)) c.loop-place.invariant.mesh
          ((c.loop-place.invariant.numbered.keys).each j l).1.is_walk;
    }

pub returns-clause-classes : goal.returns-clause-classes
returns-clause-classes c =
    all_numbered c.loop-place.finder (mesh_of_finder c.args.finder.now) c.args.walks.now c.loop-place.place c.loop-place.seen
    c.loop-place.numbers c.loop-place.invariant.mesh (omega (arith, c.loop-place-test.false, c.loop-place.auto.place-end))
    c.loop-place.invariant.numbered
