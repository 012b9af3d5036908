-- Where a path of spokes ends, and that the places of a polygon make quads.
use Rattle.move_lifting.proofs.Common.{OrientedMesh, rotations_of, IsCutSurface, turned_parity, ends_at_vertex, PolygonView, place_of, across, places_wheel, IsQuadWheel, add_back, spoke_at, from_vertex, HasQuads, ◌≡◌, ℕ, ◌<◌, true, not, List, [], ◌∷◌, length, get_or, refl, ap, sym, ◌∙◌, arith, SplitView, IsQuad}
use Rattle.spoke_paths.proofs.Turning.{from-next}
use Rattle.turn_words.specs.Lemmas.Sums.{add-lt}
use Rattle.turn_words.specs.Modulo.{add, minus}

pub ends_at : (path : List ℕ) → ends_at_vertex true path ≡ from_vertex (length path)
ends_at [] = refl
ends_at (i ∷ path) = turned_parity true path ∙ ap not (ends_at path) ∙ sym (from-next (length path))

-- the half of a quad tells the partner
half_quad : (places : List ℕ) (spoke_at partner : ℕ → ℕ) → IsQuadWheel (length places) (λ i. get_or places i 0) spoke_at partner → (a c : ℕ)
    → a < length places → c < length places
    → get_or places (add (length places) c 1) 0 ≡ add (length places) (get_or places a 0) (minus (length places) 1) → c ≡ partner a
half_quad places spoke_at partner q a c l k e =
    let d : ℕ = length places in
    let p : ℕ = partner a in
    let p_in : p < d = q.partner_in a l in
    let c_up : ℕ = add d c 1 in
    let p_up : ℕ = add d p 1 in
    let same : c_up ≡ p_up =
    sym (q.spoke_of_place c_up (add-lt d c 1 k q.large)) ∙ ap spoke_at (e ∙ sym (q.one_before a l))
    ∙ q.spoke_of_place p_up (add-lt d p 1 p_in q.large) in
    sym (add_back d c q.large k) ∙ ap (λ x. add d x (minus d 1)) same ∙ add_back d p q.large p_in

module _ {s : OrientedMesh} {split : SplitView} {polygon : PolygonView} (is_cut : IsCutSurface s split polygon) where
  open is_cut use {valid as o, tree as t, cut, some}

  pub quad_partner : {a c : ℕ} → IsQuad polygon.places a c → c ≡ across (rotations_of s) polygon a
  quad_partner {a} {c} quad =
      half_quad polygon.places (spoke_at polygon) (across (rotations_of s) polygon) (places_wheel s split polygon o t cut some) a c
      quad.a_below quad.c_below quad.a_place

  -- the places of a polygon make quads
  pub has_quads : HasQuads polygon.places
  has_quads = record {
    four = omega (arith, (cut.places some).each_spoke, cut.degree);
    full = λ a c l k e.
        let q = places_wheel s split polygon o t cut some in
        let p : ℕ = across (rotations_of s) polygon a in
        let is : c ≡ p = half_quad polygon.places (spoke_at polygon) (across (rotations_of s) polygon) q a c l k e in
        ap (λ x. place_of polygon (add (length polygon.places) x 1)) (sym (ap (across (rotations_of s) polygon) is ∙ q.partner_back a l))
        ∙ q.one_before c k;
  }
