use Rattle.free_forms.proofs.Common.{◌≡◌, ◌<◌, ℕ, get_or, edge_in, Side}
use Rattle.free_forms.proofs.open_mesh.OpenMesh.parent_between.Given as goal

abbrev pub invariant-loop-k : goal.invariant-loop-k
invariant-loop-k l =
    (j : ℕ) (d : Side) → j < l.k
    → get_or l.self-inside.places.items (get_or (edge_in l.self-inside.sides l.edge.0).sides j d).face.0 0
    ≡ (get_or (edge_in l.self-inside.sides l.edge.0).sides j d).at → ⊥
