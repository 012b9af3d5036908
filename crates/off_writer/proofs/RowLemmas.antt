-- The lines of faces, and the corners in them, put one after another.
use Rattle.off_writer.proofs.Common.{head_text, point_words, ring_words, off_text, ◌≡◌, ℕ, ◌<◌, List, [], ◌∷◌, ◌++◌, length, map, ap, sym, ◌∙◌, append_assoc, arith, length-map, length-replicate, get_or-replicate, flat_map-map, slice_get-get_or, Some, flat_map, slice_get, replicate, codes, decimal, line_of-numbers, spaced_number, FaceList, numbers, line_of}
use Rattle.std.proofs.lemmas.List.Concat.{flat_map-append}
use Rattle.surf_model.specs.declared.names.VertexName.{VertexName}

-- a corner behind a blank
abbrev pub corner_put : VertexName → List ℕ
corner_put corner = spaced_number corner.0

-- the line of a face
abbrev pub ring_put : List ℕ → List ℕ
ring_put face = line_of (ring_words face)

pub corners_put : (ring : List VertexName) → flat_map corner_put ring ≡ flat_map spaced_number (numbers ring)
corners_put ring = sym (flat_map-map spaced_number (λ (v : VertexName). v.0) ring)

pub rings_put : (faces : List (List ℕ)) → flat_map ring_put faces ≡ flat_map line_of (map ring_words faces)
rings_put faces = sym (flat_map-map line_of ring_words faces)

pub ring_line : (ring : List VertexName)
    → decimal (length ring) ++ (flat_map spaced_number (numbers ring) ++ 10 ∷ []) ≡ line_of (ring_words (numbers ring))
ring_line ring =
    line_of-numbers (decimal (length ring)) (numbers ring)
    ∙ ap (λ n. line_of (decimal n ∷ map decimal (numbers ring))) (sym (length-map ring (λ (v : VertexName). v.0)))

-- each of so many points
pub point_there : (count k : ℕ) → k < count → slice_get (replicate count point_words) k ≡ Some point_words
point_there count k l =
    slice_get-get_or (replicate count point_words) k point_words (omega (arith, l, length-replicate count point_words))
    ∙ ap Some (get_or-replicate count k point_words point_words l)

-- the head, and what stands behind it
pub behind_head : (mesh : FaceList) → head_text mesh
    ++ (flat_map line_of (replicate mesh.count point_words) ++ flat_map line_of (map ring_words mesh.faces))
    ≡ off_text mesh
behind_head mesh =
    append_assoc (line_of (codes "OFF" ∷ [])) (line_of (decimal mesh.count ∷ decimal (length mesh.faces) ∷ codes "0" ∷ []))
    (flat_map line_of (replicate mesh.count point_words) ++ flat_map line_of (map ring_words mesh.faces))
    ∙ ap (λ (t : List ℕ). line_of (codes "OFF" ∷ []) ++ (line_of (decimal mesh.count ∷ decimal (length mesh.faces) ∷ codes "0" ∷ []) ++ t))
    (sym (flat_map-append line_of (replicate mesh.count point_words) (map ring_words mesh.faces)))

pub points_of : {n m : ℕ} → n ≡ m → flat_map line_of (replicate n point_words) ≡ flat_map line_of (replicate m point_words)
points_of same = ap (λ n. flat_map line_of (replicate n point_words)) same
