use Rattle.move_lifting.proofs.Common.{edge_of, rotations_of, IsDartFrom, GoesAlong, IsFaceBelow, FaceStep, arith, ◌≡◌, ℕ, false, sym, ap, ◌∙◌, subst, Option, option_map, MatchOption, Some, None, IsSide, side_number, FaceName, below_edge, in_cotree}
use Rattle.move_lifting.proofs.CrossingLemmas.{below_step, not_below}
use Rattle.move_lifting.proofs.crossing.face_below.Goals as goal
use Rattle.move_lifting.proofs.crossing.face_below.Goals.{After-unwrap-dart}

-- the dart that is found leads from the one vertex to the other
from : (c : After-unwrap-dart)
    → IsDartFrom (rotations_of c.args.surface.now) c.args.from.0 c.args.to.0 c.unwrap-dart.result.0
from c = grind arith

pub returns-in_err-face : goal.returns-in_err-face
returns-in_err-face c =
    let s = c.args.surface.now in
    let u : ℕ = c.args.from.0 in
    let v : ℕ = c.args.to.0 in
    let d : ℕ = c.unwrap-dart.result.0 in
    let none : below_edge c.args.split.now (edge_of s d) ≡ None =
    ap (below_edge c.args.split.now) (sym c.edge_of.ensures.edge) ∙ sym c.child_face.ensures
    ∙ ap (λ (r : Option FaceName). option_map (λ face. face.0) r) c.in_err-face.was in
    subst
    (λ (r : Option FaceStep).
    MatchOption r ((dart : ℕ) → IsDartFrom (rotations_of s) u v dart → in_cotree c.args.split.now (edge_of s dart) ≡ false)
    (IsFaceBelow s c.args.split.now u v))
    (sym c.from_residual.ensures)
    (λ x other. not_below c.faces-faces.ensures.valid c.requires.split u v d x
    (from (goal.at.returns-in_err-face c).After-unwrap-dart) none other)

pub returns : goal.returns
returns c =
    let s = c.args.surface.now in
    let u : ℕ = c.args.from.0 in
    let v : ℕ = c.args.to.0 in
    let d : ℕ = c.unwrap-dart.result.0 in
    let face : below_edge c.args.split.now (edge_of s d) ≡ Some c.in_ok-face.face.0 =
    ap (below_edge c.args.split.now) (sym c.edge_of.ensures.edge) ∙ sym c.child_face.ensures
    ∙ ap (λ (r : Option FaceName). option_map (λ f. f.0) r) c.in_ok-face.was in
    let mesh = c.faces-faces.ensures.mesh in
    let in_mesh : IsSide s.mesh c.side_at-side.result = rw mesh at c.side_at-side.ensures.side in
    let number : side_number s.mesh c.side_at-side.result ≡ c.dart_in.result.0 = rw mesh at c.side_at-side.ensures.number in
    let along : GoesAlong s.mesh c.side_at-side.result u c.step_along.result = rw mesh at c.step_along.ensures in
    below_step c.faces-faces.ensures.valid c.requires.split u v d c.in_ok-face.face.0 c.dart_in.result.0
    c.side_at-side.result
    c.step_along.result (from (goal.at.returns c).After-unwrap-dart) face c.dart_in.ensures in_mesh number along
