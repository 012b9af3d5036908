use Rattle.tree_cotree.proofs.Common.{rotation_system, names_all, OrientedMesh, Rotations, rotations_of, ◌≡◌, ◌<◌, ℕ, List, length, ap, sym, ◌∙◌, subst, arith, length_push, length-map, Some, None, DartName, dart_numbers, kept_at, IsWay}
use Rattle.tree_cotree.proofs.SearchLemmas.{numbers_push, kept_read}
use Rattle.tree_cotree.proofs.TurningLemmas.{face_within, way_more, few_darts, ends_at_root}
use Rattle.tree_cotree.proofs.turning.way_up.Goals as goal

pub loop-dart-init : goal.loop-dart-init
loop-dart-init c = grind arith

pub bounds-from-face : goal.bounds-from-face
bounds-from-face c =
    face_within c.requires.valid (length c.args.from.now) c.loop-dart.face.0 c.requires.each_face c.loop-dart.invariant.dart

pub twin-requires : goal.twin-requires
twin-requires c =
    let within : c.loop-dart.face.0 < length c.args.from.now =
    face_within c.requires.valid (length c.args.from.now) c.loop-dart.face.0 c.requires.each_face c.loop-dart.invariant.dart in
    c.requires.tree.1.within c.loop-dart.face.0 c.in-Some.dart.0
    (kept_read c.args.from.now c.loop-dart.face.0 c.index-from-face.result c.dart.result (Some c.in-Some.dart) within
    c.index-from-face.is c.dart.ensures c.in-Some.is)

pub loop-dart-smaller : goal.loop-dart-smaller
loop-dart-smaller c =
    let s : OrientedMesh = c.args.surface.now in
    let maps : Rotations = rotations_of s in
    let xs : List DartName = c.loop-dart.way.items in
    let at = c.loop-dart.invariant.dart in
    let few : length (dart_numbers xs) < length c.args.from.now = few_darts c.requires.tree.1
    (λ e l. subst (λ n. maps.face e < n) (sym c.requires.each_face) ((names_all s c.requires.valid).face_below e l))
    (maps.face c.args.start.0) (dart_numbers xs) at.0 at.1
    (subst (IsWay maps c.args.from.now (maps.face c.args.start.0) (dart_numbers xs)) (sym at.2) c.loop-dart.invariant.way) in
    omega (
      arith,
      few,
      length-map xs (λ (d : DartName). d.0),
      ap (λ (ds : List DartName). length ds) c.in_ok-push.ensures.items,
      length_push xs c.in-Some.dart,
    )

pub loop-dart-preserved : goal.loop-dart-preserved
loop-dart-preserved c =
    let s : OrientedMesh = c.args.surface.now in
    let maps : Rotations = rotations_of s in
    let within : c.loop-dart.face.0 < length c.args.from.now =
    face_within c.requires.valid (length c.args.from.now) c.loop-dart.face.0 c.requires.each_face c.loop-dart.invariant.dart in
    let start : ℕ = maps.face c.args.start.0 in
    let d : ℕ = c.in-Some.dart.0 in
    let xs : List DartName = c.loop-dart.way.items in
    let keeps : kept_at c.args.from.now c.loop-dart.face.0 ≡ Some d =
    kept_read c.args.from.now c.loop-dart.face.0 c.index-from-face.result c.dart.result (Some c.in-Some.dart) within
    c.index-from-face.is c.dart.ensures c.in-Some.is in
    let face : c.face_of-face-in-Some.result.0 ≡ maps.face (maps.twin d) =
    c.face_of-face-in-Some.ensures.face ∙ ap maps.face c.twin.ensures.twin in
    record {
      dart = grind (arith, rotation_system);
      way = subst (IsWay maps c.args.from.now start (dart_numbers c.push.new.self.items)) (sym face)
          (subst (λ ds. IsWay maps c.args.from.now start ds (maps.face (maps.twin d)))
          (sym (numbers_push xs c.push.new.self.items c.in-Some.dart c.in_ok-push.ensures.items))
          (way_more maps c.args.from.now start (dart_numbers xs) c.loop-dart.face.0 d c.loop-dart.invariant.way keeps));
    }

pub returns : goal.returns
returns c =
    let maps : Rotations = rotations_of c.args.surface.now in
    let at = c.loop-dart.invariant.dart in
    let none : kept_at c.args.from.now c.loop-dart.face.0 ≡ None = grind (arith, kept_read) in
    λ root h. subst (IsWay maps c.args.from.now (maps.face c.args.start.0) (dart_numbers c.loop-dart.way.items)) (sym at.2
    ∙ ends_at_root h at.0 at.1 (ap (kept_at c.args.from.now) at.2 ∙ none)) c.loop-dart.invariant.way
