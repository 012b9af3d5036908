-- Chains of the double, folded: each face gets its own number less that of its mirror. Numbers of darts that are told by their folds do not
-- see the quads, which are folded to spurs.
use Rattle.doubling.proofs.Common.{mirror_face, rim_quads, double_of, fold, IsChain, ◌≡◌, ℕ, suc, ◌+◌, ◌-◌, ◌<◌, true, false, List, [], ◌∷◌, ◌++◌, length, map, get_or, refl, ap, ap₂, sym, ◌∙◌, subst, arith, ℤ, pos, ◌+ℤ◌, nat_tests, common_steps, length-map, get_or-map, nat_lt, if◌then◌else◌, ◌*ℤ◌, neg_ℤ, tail_used, head_used, used_below, Linked, links, round_linked, first_corner, FaceList, IsFaceList, face_at, all_sides, corners_from, IsWalk}
use Rattle.homology.proofs.AlongLemmas.{IsOpposite, two_ways, round-sides}
use Rattle.homology.proofs.BoundaryLemmas.{part_sum, part_sum-sum, face_parts, by_faces, boundary_is, share-opposite}
use Rattle.homology.proofs.PairingLemmas.{chain_tells}
use Rattle.homology.proofs.RingLemmas.{times-opposite, opposite-times}
use Rattle.homology.specs.Sums.{along, round, share}
use Rattle.std.proofs.Math.IntN.{*ℤ-zero, zero-*ℤ}
use Rattle.std.proofs.lemmas.Int.{ints}
use Rattle.doubling.proofs.DoubleFaces.{IsRimQuad, rim_kind, length-mirror_face}
use Rattle.doubling.proofs.RepeatLemmas.{fold_kept, fold_mirror, linked_folds}
use Rattle.doubling.proofs.FoldedMoves.{mirror_round}
use Rattle.doubling.proofs.KeptMoves.{kept_walk}

-- ---- sums over faces

parts-append : (of_face : ℕ → ℤ) (number : ℕ → ℕ → ℤ) (n : ℕ) (xs ys : List (List ℕ))
    → face_parts of_face number n (xs ++ ys) ≡ face_parts of_face number n xs +ℤ face_parts of_face number (n + length xs) ys
parts-append of_face number n [] ys = grind arith
parts-append of_face number n (x ∷ xs) ys =
    let more = parts-append of_face number (n + 1) xs ys in
    let same : face_parts of_face number (n + 1 + length xs) ys ≡ face_parts of_face number (n + length (x ∷ xs)) ys =
    ap (λ k. face_parts of_face number k ys) (omega arith) in
    omega (arith, ints, more, same)

-- faces that give the same, one by one
parts_alike : (one other : ℕ → ℤ) (number numbers : ℕ → ℕ → ℤ) (n m : ℕ) (xs ys : List (List ℕ)) → length xs ≡ length ys
    → ((k : ℕ) → k < length xs
    → one (n + k) *ℤ along number (round (get_or xs k [])) ≡ other (m + k) *ℤ along numbers (round (get_or ys k [])))
    → face_parts one number n xs ≡ face_parts other numbers m ys
parts_alike one other number numbers n m [] [] size h = refl
parts_alike one other number numbers n m [] (y ∷ ys) size h = absurd (omega arith)
parts_alike one other number numbers n m (x ∷ xs) [] size h = absurd (omega arith)
parts_alike one other number numbers n m (x ∷ xs) (y ∷ ys) size h =
    let first : n + 0 ≡ n = omega arith in
    let second : m + 0 ≡ m = omega arith in
    ap₂ (λ a b. a +ℤ b)
    (subst (λ i. one i *ℤ along number (round x) ≡ other m *ℤ along numbers (round y)) first
    (subst (λ j. one (n + 0) *ℤ along number (round x) ≡ other j *ℤ along numbers (round y)) second (h 0 (omega arith))))
    (parts_alike one other number numbers (n + 1) (m + 1) xs ys (omega arith) (λ k l.
    let third : n + suc k ≡ n + 1 + k = omega arith in
    let fourth : m + suc k ≡ m + 1 + k = omega arith in
    subst (λ i. one i *ℤ along number (round (get_or xs k [])) ≡ other (m + 1 + k) *ℤ along numbers (round (get_or ys k []))) third
    (subst (λ j. one (n + suc k) *ℤ along number (round (get_or xs k [])) ≡ other j *ℤ along numbers (round (get_or ys k []))) fourth
    (h (suc k) (omega arith)))))

-- faces that give nothing
parts_none : (of_face : ℕ → ℤ) (number : ℕ → ℕ → ℤ) (n : ℕ) (xs : List (List ℕ))
    → ((k : ℕ) → k < length xs → of_face (n + k) *ℤ along number (round (get_or xs k [])) ≡ pos 0) → face_parts of_face number n xs ≡ pos 0
parts_none of_face number n [] h = refl
parts_none of_face number n (x ∷ xs) h =
    let first : n + 0 ≡ n = omega arith in
    let here : of_face n *ℤ along number (round x) ≡ pos 0 = grind (arith, along, round) in
    let more = parts_none of_face number (n + 1) xs (λ k l.
    let second : n + suc k ≡ n + 1 + k = omega arith in
    subst (λ i. of_face i *ℤ along number (round (get_or xs k [])) ≡ pos 0) second (h (suc k) (omega arith))) in
    omega (arith, ints, here, more)

-- the faces of the double, kind by kind
by_kinds : (mesh : FaceList) (of_face : ℕ → ℤ) (number : ℕ → ℕ → ℤ)
    → part_sum of_face number (all_sides (double_of mesh))
    ≡ face_parts of_face number 0 mesh.faces
    +ℤ face_parts of_face number (length mesh.faces) (map (mirror_face mesh.count) mesh.faces)
    +ℤ face_parts of_face number (length mesh.faces + length mesh.faces) (rim_quads mesh)
by_kinds mesh of_face number = grind (arith, common_steps, by_faces, parts-append)

-- ---- numbers of folds

-- the number of the fold of a dart
abbrev of_fold : ℕ → (ℕ → ℕ → ℤ) → ℕ → ℕ → ℤ
of_fold count number u v = number (fold count u) (fold count v)

along-fold : (count : ℕ) (number : ℕ → ℕ → ℤ) (walk : List ℕ)
    → along (of_fold count number) walk ≡ along number (map (fold count) walk)
along-fold count number [] = refl
along-fold count number (u ∷ []) = refl
along-fold count number (u ∷ v ∷ walk) = ap (λ z. number (fold count u) (fold count v) +ℤ z) (along-fold count number (v ∷ walk))

-- along edges of the mesh
along_kept : (mesh : FaceList) (number : ℕ → ℕ → ℤ) (walk rest : List ℕ) (x : ℕ) → IsFaceList mesh → walk ≡ x ∷ rest → x < mesh.count
    → Linked mesh walk → along (of_fold mesh.count number) walk ≡ along number walk
along_kept mesh number walk rest x valid begins l linked = grind (arith, along-fold, along, linked_folds)

along_walk : (mesh : FaceList) (number : ℕ → ℕ → ℤ) (walk : List ℕ) → IsFaceList mesh → IsWalk mesh walk
    → along (of_fold mesh.count number) walk ≡ along number walk
along_walk mesh number [] valid w = refl
along_walk mesh number (x ∷ rest) valid w =
    along_kept mesh number (x ∷ rest) rest x valid refl (used_below mesh x valid (w.used 0 0 (omega arith))) (links mesh (x ∷ rest) w)

-- once round a face of each kind
along_face : (mesh : FaceList) (number : ℕ → ℕ → ℤ) (f : ℕ) → IsFaceList mesh → f < length mesh.faces
    → along (of_fold mesh.count number) (round (face_at mesh f)) ≡ along number (round (face_at mesh f))
along_face mesh number f valid l =
    let ring : List ℕ = face_at mesh f in
    let is = valid.faces f [] l in
    let some : 0 < length ring = omega (arith, is.polygon) in
    let begins = first_corner ring true 0 (length ring) in
    along_kept mesh number (round ring) begins.0 (get_or ring 0 0) valid begins.1 (is.in_range 0 0 some)
    (round_linked mesh f true 0 (length ring) l some)

along_mirror : (mesh : FaceList) (number : ℕ → ℕ → ℤ) (f : ℕ) → IsFaceList mesh → IsOpposite number → f < length mesh.faces
    → along (of_fold mesh.count number) (round (mirror_face mesh.count (face_at mesh f))) ≡ neg_ℤ (along number (round (face_at mesh f)))
along_mirror mesh number f valid opposite l =
    let ring : List ℕ = face_at mesh f in
    let m : ℕ = length ring in
    let whole : List ℕ = mirror_face mesh.count ring in
    let some : 0 < m = omega (arith, (valid.faces f [] l).polygon) in
    let ways = two_ways number ring opposite (m - 1 - 0) 0 (omega arith) (omega arith) in
    let back : along (of_fold mesh.count number) (round whole) ≡ along number (corners_from ring false (m - 1 - 0) (m - 0)) =
    along-fold mesh.count number (round whole)
    ∙ ap (λ k. along number (map (fold mesh.count) (corners_from whole true 0 k))) (length-mirror_face mesh.count ring)
    ∙ ap (along number) (mirror_round mesh.count ring true 0 m some)
    ∙ ap (λ k. along number (corners_from ring false (m - 1 - 0) k)) (omega arith) in
    omega (arith, ints, back, ways, round-sides number ring)

along_quad : (mesh : FaceList) (number : ℕ → ℕ → ℤ) (ring : List ℕ) → IsFaceList mesh → IsOpposite number → IsRimQuad mesh ring
    → along (of_fold mesh.count number) (round ring) ≡ pos 0
along_quad mesh number ring valid opposite is =
    let u : ℕ = is.tail in
    let v : ℕ = is.head in
    let low : fold mesh.count u ≡ u = fold_kept mesh.count u (used_below mesh u valid (tail_used mesh u v is.edge)) in
    let high : fold mesh.count v ≡ v = fold_kept mesh.count v (used_below mesh v valid (head_used mesh u v is.edge)) in
    let spur : number v u +ℤ (number u u +ℤ (number u v +ℤ (number v v +ℤ pos 0))) ≡ pos 0 = grind arith in
    ap (λ (r : List ℕ). along (of_fold mesh.count number) (round r)) is.ring_is
    ∙ rw (low, high, fold_mirror mesh.count u, fold_mirror mesh.count v) spur

-- ---- chains

-- the number of a face, less that of its mirror
abbrev chain_fold : FaceList → (ℕ → ℤ) → ℕ → ℤ
chain_fold mesh of_face f = of_face f +ℤ neg_ℤ (of_face (length mesh.faces + f))

sum_folds : (mesh : FaceList) (of_face : ℕ → ℤ) (number : ℕ → ℕ → ℤ) → IsFaceList mesh → IsOpposite number
    → part_sum of_face (of_fold mesh.count number) (all_sides (double_of mesh)) ≡ part_sum (chain_fold mesh of_face) number (all_sides mesh)
sum_folds mesh of_face number valid opposite =
    let n : ℕ = length mesh.faces in
    let mirrors : List (List ℕ) = map (mirror_face mesh.count) mesh.faces in
    let size : length mirrors ≡ n = length-map mesh.faces (mirror_face mesh.count) in
    let back : ℕ → ℤ = λ f. neg_ℤ (of_face (n + f)) in
    let kept : face_parts of_face (of_fold mesh.count number) 0 mesh.faces ≡ face_parts of_face number 0 mesh.faces =
    parts_alike of_face of_face (of_fold mesh.count number) number 0 0 mesh.faces mesh.faces refl
    (λ k l. ap (λ z. of_face (0 + k) *ℤ z) (along_face mesh number k valid l)) in
    let mirrored : face_parts of_face (of_fold mesh.count number) n mirrors ≡ face_parts back number 0 mesh.faces =
    parts_alike of_face back (of_fold mesh.count number) number n 0 mirrors mesh.faces size (λ k l.
    let few : k < n = omega (arith, l, size) in
    let place : 0 + k ≡ k = omega arith in
    let sum : ℤ = along number (round (face_at mesh k)) in
    ap (λ (r : List ℕ). of_face (n + k) *ℤ along (of_fold mesh.count number) (round r))
    (get_or-map (mirror_face mesh.count) mesh.faces k [] [] few)
    ∙ ap (λ z. of_face (n + k) *ℤ z) (along_mirror mesh number k valid opposite few)
    ∙ times-opposite (of_face (n + k)) sum
    ∙ sym (opposite-times (of_face (n + k)) sum)
    ∙ ap (λ j. neg_ℤ (of_face (n + j)) *ℤ sum) (sym place)) in
    let quads : face_parts of_face (of_fold mesh.count number) (n + n) (rim_quads mesh) ≡ pos 0 =
    parts_none of_face (of_fold mesh.count number) (n + n) (rim_quads mesh)
    (λ k l. ap (λ z. of_face (n + n + k) *ℤ z) (along_quad mesh number (get_or (rim_quads mesh) k []) valid opposite (rim_kind mesh k l))
    ∙ *ℤ-zero (of_face (n + n + k))) in
    omega (
      arith,
      ints,
      by_kinds mesh of_face (of_fold mesh.count number),
      kept,
      mirrored,
      quads,
      by_faces of_face number mesh,
      by_faces back number mesh,
      part_sum-sum of_face back number (all_sides mesh),
    )

pub chain_folds : (mesh : FaceList) (of_face : ℕ → ℤ) (first second : List ℕ) → IsFaceList mesh → IsWalk mesh first → IsWalk mesh second
    → IsChain (double_of mesh) of_face first second → IsChain mesh (chain_fold mesh of_face) first second
chain_folds mesh of_face first second valid w v chain = record {
  balanced = λ low high up is.
      let number : ℕ → ℕ → ℤ = share (pos 1) low high in
      let opposite : IsOpposite number = share-opposite (pos 1) low high up in
      let over : IsOpposite (of_fold mesh.count number) =
      record { back = λ a b. opposite.back (fold mesh.count a) (fold mesh.count b) } in
      let tells = chain_tells (double_of mesh) of_face first second (of_fold mesh.count number) over
      (links (double_of mesh) first (kept_walk mesh first w)) (links (double_of mesh) second (kept_walk mesh second v)) chain in
      omega (
        arith,
        ints,
        tells,
        along_walk mesh number first valid w,
        along_walk mesh number second valid v,
        sum_folds mesh of_face number valid opposite,
        boundary_is mesh (chain_fold mesh of_face) low high,
      );
}

-- the numbers of a chain of the mesh, and 0 for mirrors and quads
abbrev kept_chain : FaceList → (ℕ → ℤ) → ℕ → ℤ
kept_chain mesh of_face f = if nat_lt f (length mesh.faces) then of_face f else pos 0

kept_number : (n f : ℕ) (number : ℤ) → f < n → (if nat_lt f n then number else pos 0) ≡ number
kept_number n f number l = grind (arith, nat_tests)

no_number : (n f k : ℕ) (number : ℤ) → f ≡ n + k → (if nat_lt f n then number else pos 0) ≡ pos 0
no_number n f k number e = grind (arith, nat_tests)

sum_kept : (mesh : FaceList) (of_face : ℕ → ℤ) (number : ℕ → ℕ → ℤ)
    → part_sum (kept_chain mesh of_face) number (all_sides (double_of mesh)) ≡ part_sum of_face number (all_sides mesh)
sum_kept mesh of_face number =
    let n : ℕ = length mesh.faces in
    let mirrors : List (List ℕ) = map (mirror_face mesh.count) mesh.faces in
    let kept : face_parts (kept_chain mesh of_face) number 0 mesh.faces ≡ face_parts of_face number 0 mesh.faces =
    parts_alike (kept_chain mesh of_face) of_face number number 0 0 mesh.faces mesh.faces refl
    (λ k l. ap (λ z. z *ℤ along number (round (face_at mesh k))) (kept_number n (0 + k) (of_face (0 + k)) (omega arith))) in
    let mirrored : face_parts (kept_chain mesh of_face) number n mirrors ≡ pos 0 = grind (arith, parts_none, along, round, no_number) in
    let quads : face_parts (kept_chain mesh of_face) number (n + n) (rim_quads mesh) ≡ pos 0 =
    parts_none (kept_chain mesh of_face) number (n + n) (rim_quads mesh)
    (λ k l. ap (λ z. z *ℤ along number (round (get_or (rim_quads mesh) k [])))
    (no_number n (n + n + k) (n + k) (of_face (n + n + k)) (omega arith))
    ∙ zero-*ℤ (along number (round (get_or (rim_quads mesh) k [])))) in
    omega (arith, ints, by_kinds mesh (kept_chain mesh of_face) number, kept, mirrored, quads, by_faces of_face number mesh)

-- a chain of the mesh is one of the double
pub chain_kept : (mesh : FaceList) (of_face : ℕ → ℤ) (first second : List ℕ) → IsWalk mesh first → IsWalk mesh second
    → IsChain mesh of_face first second → IsChain (double_of mesh) (kept_chain mesh of_face) first second
chain_kept mesh of_face first second w v chain = grind (arith, chain_tells, share-opposite, links, sum_kept, boundary_is)
