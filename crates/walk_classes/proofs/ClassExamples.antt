-- The definitions at work, on the tetrahedron: of four walks the first, the second and the fourth are in one class.
use Rattle.walk_classes.proofs.Common.{◌≡◌, ℕ, zero, suc, ◌+◌, ◌<◌, true, List, [], ◌∷◌, get_or, refl, arith, all_sides, is_edge, is_used, IsWalk, walk_at, AreInOneClass, IsLeastInClass, AreClasses}
use Rattle.surf_model.specs.Meshes.{tetrahedron}
use Rattle.surf_model.specs.Moves.{apply}
use Rattle.surf_model.specs.declared.moves.Move.TheVariants.{Across}
use Rattle.walk_translate.proofs.SpokedLemmas.{walk_of_edges}
use Rattle.walk_classes.proofs.ClassLemmas.{alike_itself}

-- along the edge of 0 and 1; round the face 0 1 2 the other way; back along that edge; and along it once more
abbrev four_walks : List (List ℕ)
four_walks = (0 ∷ 1 ∷ []) ∷ (0 ∷ 2 ∷ 1 ∷ []) ∷ (1 ∷ 0 ∷ []) ∷ (0 ∷ 1 ∷ []) ∷ []

used : (v : ℕ) → v < 2 → is_used tetrahedron v ≡ true
unfolding is_used
used zero l = refl
used (suc zero) l = refl
used (suc (suc v)) l = absurd (omega arith)

edges_along : (k : ℕ) → k < 1 → is_edge tetrahedron (get_or (0 ∷ 1 ∷ []) k 0) (get_or (0 ∷ 1 ∷ []) (k + 1) 0) ≡ true
unfolding is_edge all_sides
edges_along zero l = refl
edges_along (suc k) l = absurd (omega arith)

edges_round : (k : ℕ) → k < 2 → is_edge tetrahedron (get_or (0 ∷ 2 ∷ 1 ∷ []) k 0) (get_or (0 ∷ 2 ∷ 1 ∷ []) (k + 1) 0) ≡ true
unfolding is_edge all_sides
edges_round zero l = refl
edges_round (suc zero) l = refl
edges_round (suc (suc k)) l = absurd (omega arith)

edges_back : (k : ℕ) → k < 1 → is_edge tetrahedron (get_or (1 ∷ 0 ∷ []) k 0) (get_or (1 ∷ 0 ∷ []) (k + 1) 0) ≡ true
unfolding is_edge all_sides
edges_back zero l = refl
edges_back (suc k) l = absurd (omega arith)

walks : (i : ℕ) → i < 4 → IsWalk tetrahedron (walk_at four_walks i)
walks zero l = walk_of_edges tetrahedron (0 ∷ 1 ∷ []) (omega arith) (used 0 (omega arith)) edges_along
walks (suc zero) l = walk_of_edges tetrahedron (0 ∷ 2 ∷ 1 ∷ []) (omega arith) (used 0 (omega arith)) edges_round
walks (suc (suc zero)) l = walk_of_edges tetrahedron (1 ∷ 0 ∷ []) (omega arith) (used 1 (omega arith)) edges_back
walks (suc (suc (suc zero))) l = walk_of_edges tetrahedron (0 ∷ 1 ∷ []) (omega arith) (used 0 (omega arith)) edges_along
walks (suc (suc (suc (suc i)))) l = absurd (omega arith)

-- one move leads round the face
round_the_face : AreInOneClass tetrahedron (0 ∷ 1 ∷ []) (0 ∷ 2 ∷ 1 ∷ [])
unfolding apply
round_the_face = record {
  ends = record { starts = refl; ends = refl };
  homotopic = (Across 0 (record { 0 = 0 }) 0 true 1 ∷ [], refl);
}

-- the way back has other ends
not_back : (j : ℕ) → j < 2 → AreInOneClass tetrahedron (walk_at four_walks j) (1 ∷ 0 ∷ []) → ⊥
not_back zero l same = (let wrong : 0 ≡ 1 = same.ends.starts in omega (arith, wrong))
not_back (suc zero) l same = (let wrong : 0 ≡ 1 = same.ends.starts in omega (arith, wrong))
not_back (suc (suc j)) l same = omega arith

first_of : (i : ℕ) → AreInOneClass tetrahedron (0 ∷ 1 ∷ []) (walk_at four_walks i)
    → IsLeastInClass tetrahedron four_walks (walk_at four_walks i) 0
first_of i same = record { within = omega arith; alike = same; least = λ j l h. omega (arith, l) }

least : (i : ℕ) → i < 4 → IsLeastInClass tetrahedron four_walks (walk_at four_walks i) (get_or (0 ∷ 0 ∷ 2 ∷ 0 ∷ []) i 0)
least zero l = first_of 0 (alike_itself tetrahedron (0 ∷ 1 ∷ []))
least (suc zero) l = first_of 1 round_the_face
least (suc (suc zero)) l =
    record { within = omega arith; alike = alike_itself tetrahedron (1 ∷ 0 ∷ []); least = not_back }
least (suc (suc (suc zero))) l = first_of 3 (alike_itself tetrahedron (0 ∷ 1 ∷ []))
least (suc (suc (suc (suc i)))) l = absurd (omega arith)

pub classes_of_four_walks : AreClasses tetrahedron four_walks (0 ∷ 0 ∷ 2 ∷ 0 ∷ [])
classes_of_four_walks = record { each_walk = refl; are_walks = walks; least = least }
