use Rattle.tree_cotree.proofs.Common.{rotation_system, names_all, OrientedMesh, Rotations, rotations_of, ◌≡◌, ◌<◌, ℕ, List, [], length, ap, sym, ◌∙◌, subst, arith, rules, set, common_steps, Option, Some, None, dart_numbers}
use Rattle.tree_cotree.proofs.SearchLemmas.{numbers_push}
use Rattle.tree_cotree.proofs.TurningLemmas.{IsPartlyTurned, turning_start, turning_more, turning_done, last_in}
use Rattle.tree_cotree.proofs.turning.turn_round.Goals as goal

pub loop-dart-init : goal.loop-dart-init
loop-dart-init c = grind (arith, turning_start)

pub twin-back-requires : goal.twin-back-requires
twin-back-requires c =
    last_in (dart_numbers c.pop.new.self.items) c.in-Some.dart.0 c.requires.tree.1 c.loop-dart.invariant
    (numbers_push c.pop.new.self.items c.loop-dart.way.items c.in-Some.dart c.in-Some.ensures.items)

pub bounds-from-face_of : goal.bounds-from-face_of
bounds-from-face_of c = omega (arith, c.face_of.ensures.within, c.requires.each_face, c.loop-dart.auto.from)

pub face_of-requires-in-Some : goal.face_of-requires-in-Some
face_of-requires-in-Some c =
    last_in (dart_numbers c.pop.new.self.items) c.in-Some.dart.0 c.requires.tree.1 c.loop-dart.invariant
    (numbers_push c.pop.new.self.items c.loop-dart.way.items c.in-Some.dart c.in-Some.ensures.items)

pub bounds-from-face_of-in-Some : goal.bounds-from-face_of-in-Some
bounds-from-face_of-in-Some c = grind (arith, common_steps)

pub loop-dart-preserved : goal.loop-dart-preserved
loop-dart-preserved c =
    let s : OrientedMesh = c.args.surface.now in
    let maps : Rotations = rotations_of s in
    let start : ℕ = maps.face c.args.start.0 in
    let d : ℕ = c.in-Some.dart.0 in
    let x : ℕ = c.twin-back.result.0 in
    let from : List (Option ℕ) = c.loop-dart.from in
    let way : List ℕ = dart_numbers c.pop.new.self.items in
    let long : length from ≡ length s.mesh.faces = c.loop-dart.auto.from ∙ c.requires.each_face in
    let turned : IsPartlyTurned maps c.args.from.now start (set (set from (maps.face x) (Some x)) (maps.face d) None) way =
    turning_more way d x (rotation_system s c.requires.valid)
    (λ e l. subst (λ n. maps.face e < n) (sym long) ((names_all s c.requires.valid).face_below e l)) c.requires.tree.1
    (subst (IsPartlyTurned maps c.args.from.now start from)
    (numbers_push c.pop.new.self.items c.loop-dart.way.items c.in-Some.dart c.in-Some.ensures.items) c.loop-dart.invariant)
    c.twin-back.ensures.twin in grind arith

pub returns : goal.returns
returns c =
    let maps : Rotations = rotations_of c.args.surface.now in
    let empty : c.loop-dart.way.items ≡ [] = search rules in
    turning_done maps c.args.from.now (maps.face c.args.start.0) c.loop-dart.from (dart_numbers c.loop-dart.way.items) c.loop-dart.invariant
    (ap dart_numbers empty)
