-- Steps and rings on two small meshes.
use Rattle.manifold_check.proofs.Common.{inl, inr, ℕ, refl, arith, IsStepAround, Side}
use Rattle.manifold_check.specs.Examples.{slit}
use Rattle.surf_model.specs.Meshes.{tetrahedron}

-- side t of face f, and the corner where it starts
abbrev side : ℕ → ℕ → Side
side f t = record { face = record { 0 = f }; at = t }

-- Round vertex 0 of the tetrahedron a step leads across the edge of 0 and 1, from the corner in face 0 1 2, where a side
-- starts, to the one in face 0 3 1, where a side ends.
step_in_tetrahedron : IsStepAround tetrahedron 0 (side 0 0) (side 1 0)
step_in_tetrahedron = record {
  side = side 0 0;
  partner = side 1 2;
  partners = grind arith;
  from = inl (refl, refl);
  to = inr (refl, refl);
}

-- In the face 0 1 2 1 steps lead from the one corner at vertex 1 to the other, across the edge that the face goes along twice.
step_in_slit : IsStepAround slit 1 (side 0 1) (side 0 3)
step_in_slit = record {
  side = side 0 0;
  partner = side 0 3;
  partners = grind arith;
  from = inr (refl, refl);
  to = inl (refl, refl);
}
