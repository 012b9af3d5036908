use Rattle.homology_deciding.proofs.Common.{face_at_number, IsNumberOf, OrientedMesh, ◌≡◌, ◌<◌, ℕ, length, refl, ap, sym, ◌∙◌, subst, arith, face_at, FaceList, total_sides, SplitView, below_edge}
use Rattle.homology_deciding.proofs.TreeLemmas.{NoneUp, side_numbered, none_more, none_in_root}
use Rattle.homology_deciding.proofs.face_tree.FaceTree.up.Goals as goal

pub returns-then-lies_below : goal.returns-then-lies_below
returns-then-lies_below c =
    let s : OrientedMesh = c.args.self.now.surface.now in
    let split : SplitView = c.args.self.now.split.now in
    let f : ℕ = c.args.face.0 in
    let at : IsNumberOf s.mesh f c.loop-at.at c.dart-dart.result.0 =
    side_numbered s c.faces-faces.result.now f c.loop-at.at c.dart-dart.result.0 c.sides-at-end.result c.faces-faces.ensures.mesh
    c.requires.face c.sides-at-end.ensures c.loop-at-test.true c.dart-dart.ensures.number in
    record {
      within = subst (λ (m : FaceList). c.dart-dart.result.0 < total_sides m) c.faces-faces.ensures.mesh c.dart-dart.ensures.below;
      below = ap (below_edge split) (sym c.edge_of.ensures.edge) ∙ c.lies_below.ensures.below c.if-lies_below.true;
      inside = face_at_number s f c.loop-at.at c.dart-dart.result.0 at;
      leads = refl;
    }

pub loop-at-preserved : goal.loop-at-preserved
loop-at-preserved c =
    let s : OrientedMesh = c.args.self.now.surface.now in
    let split : SplitView = c.args.self.now.split.now in
    let f : ℕ = c.args.face.0 in
    let at : IsNumberOf s.mesh f c.loop-at.at c.dart-dart.result.0 =
    side_numbered s c.faces-faces.result.now f c.loop-at.at c.dart-dart.result.0 c.sides-at-end.result c.faces-faces.ensures.mesh
    c.requires.face c.sides-at-end.ensures c.loop-at-test.true c.dart-dart.ensures.number in
    none_more s split f c.loop-at.at c.dart-dart.result.0 c.loop-at.invariant at
    (λ is. c.lies_below.ensures.other c.if-lies_below.false (ap (below_edge split) c.edge_of.ensures.edge ∙ is))

pub returns : goal.returns
returns c =
    let s : OrientedMesh = c.args.self.now.surface.now in
    let split : SplitView = c.args.self.now.split.now in
    let f : ℕ = c.args.face.0 in
    let all : c.loop-at.at ≡ length (face_at s.mesh f) =
    omega (
      arith,
      c.loop-at-test.false,
      c.loop-at.auto.at-end,
      c.sides-at-end.ensures,
      ap (λ (m : FaceList). length (face_at m f)) c.faces-faces.ensures.mesh,
    ) in
    none_in_root s split c.requires.tree.is_split f c.requires.face (subst (NoneUp s split f) all c.loop-at.invariant)
