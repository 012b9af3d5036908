-- What the maps on the darts of a surface are, as plain maps of numbers.
use Rattle.std.specs.Prelude.{◌≡◌, ◌≢◌, ◌⊎◌, ◌↔◌, ℕ, ◌<◌, true, length}
use Rattle.surf_model.specs.FaceLists.{is_used}
use Rattle.surf_model.specs.Edges.{HasEnds, edge_in}
use Rattle.surf_model.specs.Surfaces.{AreJoined}
use Rattle.halfedge_map.specs.Orbits.{IsReached}
use Rattle.halfedge_map.specs.OrientedMeshes.{OrientedMesh}
use Rattle.halfedge_map.specs.DartMaps.{darts_of, next_of, twin_of, origin_of, face_of, edge_of}

-- maps on the darts, which are the numbers below a count
pub record Rotations : Type 0 where
  pub darts : ℕ
  pub next : ℕ → ℕ
  pub twin : ℕ → ℕ
  pub origin : ℕ → ℕ
  pub face : ℕ → ℕ
  pub edge : ℕ → ℕ

-- the maps on the darts of a surface
abbrev pub rotations_of : OrientedMesh → Rotations
rotations_of surface =
    record {
      darts = darts_of surface;
      next = next_of surface;
      twin = twin_of surface;
      origin = origin_of surface;
      face = face_of surface;
      edge = edge_of surface;
    }

-- the dart that follows round the origin of a dart
abbrev pub around : Rotations → ℕ → ℕ
around maps dart = maps.next (maps.twin dart)

-- a dart leads from u to v
pub record IsDartFrom (maps : Rotations) (u v dart : ℕ) : Type 0 where
  pub within : dart < maps.darts
  pub starts : maps.origin dart ≡ u
  pub ends : maps.origin (maps.twin dart) ≡ v

-- the edge of a number joins u and v
pub record IsEdgeWithEnds (surface : OrientedMesh) (u v edge : ℕ) : Type 0 where
  pub within : edge < length surface.table
  pub ends : HasEnds u v (edge_in surface.table edge)

-- some dart leads from u to v
abbrev pub IsDartStep : Rotations → ℕ → ℕ → Type 0
IsDartStep maps u v = (dart : ℕ) × IsDartFrom maps u v dart

-- A rotation system: the faces are the orbits of `next`, the edges the pairs of `twin`, the vertices the orbits of `next`
-- after `twin`, and any two vertices are joined along darts.
pub record IsRotationSystem (maps : Rotations) : Type 0 where
  pub next_within : (d : ℕ) → d < maps.darts → maps.next d < maps.darts
  pub twin_within : (d : ℕ) → d < maps.darts → maps.twin d < maps.darts
  pub next_injective : (d e : ℕ) → d < maps.darts → e < maps.darts → maps.next d ≡ maps.next e → d ≡ e
  pub twin_back : (d : ℕ) → d < maps.darts → maps.twin (maps.twin d) ≡ d
  pub twin_other : (d : ℕ) → d < maps.darts → maps.twin d ≢ d
  pub follows : (d : ℕ) → d < maps.darts → maps.origin (maps.next d) ≡ maps.origin (maps.twin d)
  pub no_loop : (d : ℕ) → d < maps.darts → maps.origin (maps.twin d) ≢ maps.origin d
  pub faces : (d e : ℕ) → d < maps.darts → e < maps.darts → (maps.face d ≡ maps.face e) ↔ IsReached maps.next d e
  pub edges : (d e : ℕ) → d < maps.darts → e < maps.darts → (maps.edge d ≡ maps.edge e) ↔ ((e ≡ d) ⊎ (e ≡ maps.twin d))
  pub vertices : (d e : ℕ) → d < maps.darts → e < maps.darts → (maps.origin d ≡ maps.origin e) ↔ IsReached (around maps) d e
  pub one_dart : (d e : ℕ) → d < maps.darts → e < maps.darts → maps.origin d ≡ maps.origin e
      → maps.origin (maps.twin d) ≡ maps.origin (maps.twin e) → d ≡ e
  pub connected : (d e : ℕ) → d < maps.darts → e < maps.darts → AreJoined (IsDartStep maps) (maps.origin d) (maps.origin e)

-- some dart has this for its vertex, face or edge
abbrev pub HasSomeDart : OrientedMesh → (ℕ → ℕ) → ℕ → Type 0
HasSomeDart surface of_dart x = (dart : ℕ) × (dart < darts_of surface) × (of_dart dart ≡ x)

-- the origins of darts are the used vertices, their faces all faces, and their edges all edges of the table
pub record NamesAll (surface : OrientedMesh) : Type 0 where
  pub vertex_below : (d : ℕ) → d < darts_of surface → origin_of surface d < surface.mesh.count
  pub vertex_used : (d : ℕ) → d < darts_of surface → is_used surface.mesh (origin_of surface d) ≡ true
  pub face_below : (d : ℕ) → d < darts_of surface → face_of surface d < length surface.mesh.faces
  pub edge_below : (d : ℕ) → d < darts_of surface → edge_of surface d < length surface.table
  pub each_vertex : (v : ℕ) → is_used surface.mesh v ≡ true → HasSomeDart surface (origin_of surface) v
  pub each_face : (f : ℕ) → f < length surface.mesh.faces → HasSomeDart surface (face_of surface) f
  pub each_edge : (e : ℕ) → e < length surface.table → HasSomeDart surface (edge_of surface) e
