-- The definitions at work on small meshes. Each line is proved by computing.
use Rattle.std.specs.Prelude.{◌≡◌, ℕ, true, false, map, List, [], ◌∷◌, refl}
use Rattle.std.proofs.Common.{inl, inr, lit<}
use Rattle.surf_model.specs.FaceLists.{FaceList, all_sides}
use Rattle.surf_model.specs.Meshes.{projective_plane, moebius_band}
use Rattle.surf_model.specs.declared.chains.ChainLink.{ChainLink}
use Rattle.surf_model.specs.OddChains.{LeadsTo, IsOddChain, is_turned}

abbrev link : ℕ → ℕ → ℕ → ChainLink
link face low high = record { face = record { 0 = face }; low = record { 0 = low }; high = record { 0 = high } }

-- one face that is glued to itself along the edge of 0 and 1, both times from 0 to 1
abbrev folded : FaceList
folded = record { count = 4; faces = (0 ∷ 1 ∷ 2 ∷ 0 ∷ 1 ∷ 3 ∷ []) ∷ [] }

-- Round the projective plane: from face 0 across the edge of 1 and 2 to face 5, and so on back to face 0. Three links are turned.
abbrev plane_chain : List ChainLink
plane_chain = link 0 1 2 ∷ link 5 2 4 ∷ link 8 4 5 ∷ link 3 0 5 ∷ link 4 0 1 ∷ []

turned_on_plane : map (is_turned projective_plane) plane_chain ≡ true ∷ true ∷ true ∷ false ∷ false ∷ []
unfolding all_sides
turned_on_plane = refl

odd_on_plane : IsOddChain projective_plane plane_chain
unfolding all_sides
odd_on_plane = record {
  some_link = lit< tt;
  closed = (
    record { ordered = lit< tt; faces = inl refl },
    (
      record { ordered = lit< tt; faces = inl refl },
      (
        record { ordered = lit< tt; faces = inr refl },
        (record { ordered = lit< tt; faces = inl refl }, (record { ordered = lit< tt; faces = inr refl }, tt)),
      ),
    ),
  );
  odd = refl;
}

-- The chain needs its last link: the edge of 0 and 5 does not lead back to face 0.
closed_too_early : LeadsTo projective_plane (link 3 0 5) 0 → ⊥
unfolding all_sides
closed_too_early h = elim h.faces [ inl one_way ↦ cc | inr other_way ↦ cc ]

-- Round the band: all five links are turned.
odd_on_band : IsOddChain moebius_band (link 0 1 2 ∷ link 1 2 3 ∷ link 2 3 4 ∷ link 3 0 4 ∷ link 4 0 1 ∷ [])
unfolding all_sides
odd_on_band = record {
  some_link = lit< tt;
  closed = (
    record { ordered = lit< tt; faces = inl refl },
    (
      record { ordered = lit< tt; faces = inl refl },
      (
        record { ordered = lit< tt; faces = inl refl },
        (record { ordered = lit< tt; faces = inl refl }, (record { ordered = lit< tt; faces = inr refl }, tt)),
      ),
    ),
  );
  odd = refl;
}

-- A chain of one link: the edge joins the face to itself, and is turned.
odd_on_folded : IsOddChain folded (link 0 0 1 ∷ [])
unfolding all_sides
odd_on_folded = record { some_link = lit< tt; closed = (record { ordered = lit< tt; faces = inl refl }, tt); odd = refl }
