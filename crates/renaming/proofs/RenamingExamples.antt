-- A mesh that is renamed.
use Rattle.renaming.proofs.Common.{IsRenamed, ◌≡◌, ℕ, ◌<◌, true, refl, arith, nat_tests, is_used}
use Rattle.renaming.specs.Examples.{odd_tetrahedron, there, back}
use Rattle.surf_model.specs.Meshes.{tetrahedron}

below_four : (v : ℕ) → is_used tetrahedron v ≡ true → v < 4
unfolding is_used
below_four v is = grind (arith, nat_tests)

-- The tetrahedron on the vertices 3, 5, 7 and 9 is the one on 0, 1, 2 and 3 with other numbers.
is_renamed : IsRenamed there back tetrahedron odd_tetrahedron
is_renamed = record {
  faces = refl;
  below = λ v is. omega (arith, below_four v is);
  leads_back = λ v is. omega arith;
}
