-- Homotopic walks are homologous: what a move changes is the boundary of the face that it crosses.
use Rattle.homology.proofs.Common.{IsChain, crossing, net_crossings, along, round, ◌≡◌, ℕ, ◌-◌, ◌<◌, true, false, List, [], ◌∷◌, length, ap, ◌∙◌, arith, ℤ, pos, negsuc, ◌-ℤ◌, ints, Some, alike, FaceList, face_at, corners_from, all_sides}
use Rattle.surf_model.proofs.ContextLemmas.{first_answer, stays_walk}
use Rattle.surf_model.proofs.ReplacementLemmas.{by_replacing}
use Rattle.surf_model.specs.Moves.{apply, apply_all}
use Rattle.surf_model.specs.Replacements.{Replaces}
use Rattle.surf_model.specs.declared.moves.Move.{Move}
use Rattle.surf_model.specs.declared.moves.Move.TheVariants.{Insert, Remove, Across}
use Rattle.homology.proofs.RingLemmas.{one-times, minus-times}
use Rattle.homology.proofs.AlongLemmas.{IsOpposite, along-part, two_ways, round-sides}
use Rattle.homology.proofs.BoundaryLemmas.{part_sum, part_sum-sum, part_sum-none, one_face, boundary_is, share-opposite}

-- a spur adds up to nothing
spur : (number : ℕ → ℕ → ℤ) (a v : ℕ) → IsOpposite number → along number (a ∷ v ∷ a ∷ []) ≡ pos 0
spur number a v opposite = grind arith

-- the two parts of a move differ by the boundary of the face that it crosses
parts_differ : (mesh : FaceList) (number : ℕ → ℕ → ℤ) (move : Move) (part other : List ℕ) → IsOpposite number
    → Replaces mesh move part other
    → along number part -ℤ along number other ≡ part_sum (crossing move) number (all_sides mesh)
parts_differ mesh number (Insert at via) part other opposite h =
    let none = part_sum-none number (all_sides mesh) in
    let two : along number other ≡ pos 0 = ap (along number) h.3 ∙ spur number h.0 via.0 opposite in grind arith
parts_differ mesh number (Remove at via) part other opposite h =
    let none = part_sum-none number (all_sides mesh) in
    let one : along number part ≡ pos 0 = ap (along number) h.1 ∙ spur number h.0 via.0 opposite in
    let two : along number other ≡ pos 0 = ap (along number) h.2 in
    omega (arith, ints, none, one, two)
parts_differ mesh number (Across at face corner true taken) part other opposite h =
    let ring : List ℕ = face_at mesh face.0 in
    let one : along number part ≡ along number (corners_from ring true corner taken) = ap (along number) h.3 in
    let two : along number other ≡ along number (corners_from ring false corner (length ring - taken)) = ap (along number) h.4 in
    let ways = two_ways number ring opposite corner taken h.1 h.2 in
    let face_is = one_face face.0 (pos 1) number mesh h.0 in
    omega (arith, ints, one, two, ways, face_is, round-sides number ring, one-times (along number (round ring)))
parts_differ mesh number (Across at face corner false taken) part other opposite h =
    let ring : List ℕ = face_at mesh face.0 in
    let rest : ℕ = length ring - taken in
    let one : along number part ≡ along number (corners_from ring false corner (length ring - rest)) =
    ap (along number) h.3 ∙ ap (λ k. along number (corners_from ring false corner k)) (omega (arith, h.2)) in
    let two : along number other ≡ along number (corners_from ring true corner rest) = ap (along number) h.4 in
    let ways = two_ways number ring opposite corner rest h.1 (omega arith) in
    let face_is = one_face face.0 (negsuc 0) number mesh h.0 in
    omega (arith, ints, one, two, ways, face_is, round-sides number ring, minus-times (along number (round ring)))

one_move : (mesh : FaceList) (number : ℕ → ℕ → ℤ) (walk next : List ℕ) (move : Move) → IsOpposite number → 0 < length walk
    → apply mesh walk move ≡ Some next
    → along number walk -ℤ along number next ≡ part_sum (crossing move) number (all_sides mesh)
one_move mesh number walk next move opposite start e =
    let r = (by_replacing mesh walk next move start).0 e in
    let parts = along-part number r.before r.part r.other r.after (alike mesh move r.part r.other r.replaces) in
    let differ = parts_differ mesh number move r.part r.other opposite r.replaces in grind arith

-- along two walks that moves join, the sums differ by the boundary of the faces crossed
pub moves_differ : (mesh : FaceList) (number : ℕ → ℕ → ℤ) (moves : List Move) (first second : List ℕ) → IsOpposite number
    → 0 < length first → apply_all mesh first moves ≡ Some second
    → along number first -ℤ along number second ≡ part_sum (net_crossings moves) number (all_sides mesh)
moves_differ mesh number [] first second opposite start e =
    let same : first ≡ second = cc in
    let sums : along number first ≡ along number second = ap (along number) same in
    omega (arith, ints, sums, part_sum-none number (all_sides mesh))
moves_differ mesh number (move ∷ moves) first second opposite start e =
    let told = first_answer (λ x. apply_all mesh x moves) (apply mesh first move) second e in
    let one = one_move mesh number first told.0 move opposite start told.1 in
    let more = moves_differ mesh number moves told.0 second opposite (stays_walk mesh first told.0 move start told.1) told.2 in
    let sum = part_sum-sum (crossing move) (net_crossings moves) number (all_sides mesh) in
    omega (arith, ints, one, more, sum)

pub chain_of_moves : (mesh : FaceList) (first second : List ℕ) (moves : List Move) → 0 < length first
    → apply_all mesh first moves ≡ Some second → IsChain mesh (net_crossings moves) first second
chain_of_moves mesh first second moves start e = grind (arith, moves_differ, share-opposite, boundary_is)
