-- The text of a chain of tori is read as the chain: it is that of the mesh, with the places of the vertices for points.
use Rattle.trial_commands.proofs.Common.{meaning_of, BadVertex, ◌≡◌, ℕ, zero, suc, ◌*◌, ◌^◌, ◌<◌, ◌≤◌, true, List, [], ◌∷◌, ◌++◌, length, get_or, map, arith, ap, ◌∙◌, subst, refl, and_from, Some, None, Ok, decimal, flat_map, sum_by, ◌≢◌, if◌then◌else◌, coordinates, chain_text, vertices, cells, face, chain_mesh, IsChainSize, IsFace, IsFaceList, HasFileSize, next_corner}
use Rattle.off_writer.proofs.ReadingBack.{IsPointLine, lines_with, reads_back_with}
use Rattle.std.proofs.lemmas.List.{length-map, map-append}
use Rattle.std.proofs.lemmas.List.Elements.{All-nil, All-cons, All-map, All-weaker}
use Rattle.std.proofs.lemmas.List.FromFn.{length-range_with_len, get_or-range_with_len}
use Rattle.std.proofs.lemmas.List.Sums.{AllPass-from_list_all, sum_by-le}
use Rattle.std.specs.Fmt.{digits}
use Rattle.std.specs.List.{list_all, range_with_len}
use Rattle.std.specs.Prelude.{codes}
use Rattle.surf_gen.proofs.CellLemmas.{cell_count}
use Rattle.surf_gen.proofs.FaceLemmas.{IsQuad, cell_quad, all_vertices, all_cells, few_points}
use Rattle.surf_gen.proofs.NumberLemmas.{vertex_count}
use Rattle.surf_gen.specs.Places.{IsPoint}
use Rattle.surf_gen.specs.declared.points.Point.{Point}
use Rattle.surf_model.proofs.FilterLemmas.{map-map}
use Rattle.text_scan.proofs.WrittenLemmas.{decimals-writable}
use Rattle.text_scan.specs.Numbers.{is_natural, is_number_text}
use Rattle.text_scan.specs.Plain.{line_of}

-- ---- the places

-- the numbers in a place are few enough to look at each
each_is_text : list_all (λ n. is_number_text (decimal n)) (range_with_len 0 200) ≡ true
unfolding is_number_text is_natural digits
each_is_text = refl

number_text : (n : ℕ) → n < 200 → is_number_text (decimal n) ≡ true
number_text n less =
    let place : get_or (range_with_len 0 200) n 0 ≡ n = get_or-range_with_len 0 200 n 0 less ∙ omega arith in
    subst (λ k. is_number_text (decimal k) ≡ true) place
    (AllPass-from_list_all (λ k. is_number_text (decimal k)) (range_with_len 0 200) each_is_text n 0
    (omega (arith, less, length-range_with_len 0 200)))

place_is_point : (genus grid : ℕ) (p : Point) → IsChainSize genus grid → IsPoint genus grid p → IsPointLine (map decimal (coordinates p))
place_is_point genus grid p chain at =
    let P : ℕ → Type 0 = λ n. n < 2 ^ 32 in
    let torus : p.torus < 200 = omega (arith, at.torus, chain.few_tori) in
    let row : p.row < 200 = omega (arith, at.row, chain.few_points) in
    let column : p.column < 200 = omega (arith, at.column, chain.few_points) in
    let texts : list_all is_number_text (map decimal (coordinates p)) ≡ true =
    and_from (is_number_text (decimal p.torus)) _ (number_text p.torus torus)
    (and_from (is_number_text (decimal p.row)) _ (number_text p.row row)
    (and_from (is_number_text (decimal p.column)) true (number_text p.column column) refl)) in
    record {
      is_line = record {
        filled = refl;
        writable =
            decimals-writable (coordinates p)
            (All-cons P p.torus (p.row ∷ p.column ∷ []) (omega (arith, torus))
            (All-cons P p.row (p.column ∷ []) (omega (arith, row)) (All-cons P p.column [] (omega (arith, column)) (All-nil P))));
      };
      no_fault = λ before number. ap (λ t. if t then None else Some (BadVertex number)) texts;
    }

-- ---- the mesh

quad_is_face : (count a b c d : ℕ) → IsQuad count a b c d → IsFace count (a ∷ b ∷ c ∷ d ∷ [])
quad_is_face count a b c d quad =
    let P : ℕ → Type 0 = λ v. v < count in
    record {
      polygon = omega arith;
      in_range =
          All-cons P a (b ∷ c ∷ d ∷ []) quad.a_below
          (All-cons P b (c ∷ d ∷ []) quad.b_below (All-cons P c (d ∷ []) quad.c_below (All-cons P d [] quad.d_below (All-nil P))));
      neighbours = differ;
    }
  where
    differ : (t : ℕ) → t < 4 → get_or (a ∷ b ∷ c ∷ d ∷ []) t 0 ≢ get_or (a ∷ b ∷ c ∷ d ∷ []) (next_corner true 4 t) 0
    differ zero within = quad.ab
    differ (suc zero) within = quad.bc
    differ (suc (suc zero)) within = quad.cd
    differ (suc (suc (suc zero))) within = quad.da
    differ (suc (suc (suc (suc t)))) within = absurd (omega (arith, within))

chain_faces : (genus grid : ℕ) → IsChainSize genus grid → IsFaceList (chain_mesh genus grid)
chain_faces genus grid chain =
    let count : ℕ = length (vertices genus grid) in
    record {
      faces =
          All-map (IsFace count) (face grid) (cells genus grid)
          (All-weaker (IsPoint genus grid) (λ p. IsFace count (face grid p))
          (λ p at. quad_is_face count _ _ _ _ (cell_quad genus grid p chain.some_points at)) (cells genus grid)
          (all_cells genus grid));
    }

chain_fits : (genus grid : ℕ) → IsChainSize genus grid → HasFileSize (chain_mesh genus grid)
chain_fits genus grid chain =
    let few = few_points genus grid chain.few_tori chain.few_points in
    let faces : List (List ℕ) = map (face grid) (cells genus grid) in
    let sides : sum_by length faces ≤ length faces * 4 =
    sum_by-le length 4 faces
    (All-map (λ (f : List ℕ). length f ≤ 4) (face grid) (cells genus grid) (λ k d l. omega arith)) in
    record {
      few_vertices = omega (arith, few, vertex_count genus grid chain.some_tori chain.some_points);
      few_sides =
          omega (arith, few, sides, cell_count genus grid chain.some_tori chain.some_points, length-map (cells genus grid) (face grid));
    }

-- ---- the text

pub chain_read : (genus grid : ℕ) → IsChainSize genus grid → meaning_of (chain_text genus grid) ≡ Ok (chain_mesh genus grid)
unfolding digits
chain_read genus grid chain =
    let mesh = chain_mesh genus grid in
    let places : List (List ℕ) = map coordinates (vertices genus grid) in
    let points : List (List (List ℕ)) = map (map decimal) places in
    let head : List (List (List ℕ)) → List ℕ = λ lines.
    flat_map line_of ((codes "OFF" ∷ []) ∷ (decimal mesh.count ∷ decimal (length mesh.faces) ∷ codes "0" ∷ []) ∷ lines) in
    let same : chain_text genus grid ≡ flat_map line_of (lines_with points mesh) =
    ap head (map-append (map decimal) places (map (λ ring. length ring ∷ ring) mesh.faces)
    ∙ ap (λ (rings : List (List (List ℕ))). points ++ rings) (map-map (map decimal) (λ (ring : List ℕ). length ring ∷ ring) mesh.faces)) in
    let many : length points ≡ mesh.count = length-map places (map decimal) ∙ length-map (vertices genus grid) coordinates in
    ap meaning_of same
    ∙ reads_back_with points mesh
    (All-map IsPointLine (map decimal) places
    (All-map (λ (place : List ℕ). IsPointLine (map decimal place)) coordinates (vertices genus grid)
    (All-weaker (IsPoint genus grid) (λ p. IsPointLine (map decimal (coordinates p)))
    (λ p at. place_is_point genus grid p chain at) (vertices genus grid) (all_vertices genus grid))))
    many (chain_faces genus grid chain) (chain_fits genus grid chain)
