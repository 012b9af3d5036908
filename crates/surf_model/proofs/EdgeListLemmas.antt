-- What reading and growing a stored list of edges needs, said of the plain lists.
use Rattle.surf_model.proofs.Common.{◌≡◌, ℕ, zero, suc, ◌+◌, ◌-◌, ◌<◌, ◌≤◌, List, [], ◌∷◌, ◌++◌, length, map, get_or, take, drop, refl, ap, sym, ◌∙◌, subst, arith, common_steps, get_or-map, get_or-take, get_or-drop, length-take-le, length-drop, length-map, sum_by-cons, sum_by, DartEdge, dart_edge_in, dart_count, dart_of, zipped_edges, stored_edges, IsEdgeList, parts, EdgeEnds, SideEntry, MOST_SIDES, DartName}
use Rattle.surf_model.proofs.PartsLemmas.{length-parts, get_or-parts, part_within, parts-push, EndsRise-push, sum_by-parts}
use Rattle.surf_model.proofs.FilterLemmas.{map-map}

-- the edge with these ends whose sides are these
abbrev pub edge_of_part : EdgeEnds → List DartName → DartEdge
edge_of_part pair part = record { low = pair.low.0; high = pair.high.0; darts = map (λ d. d.0) part }

length-zipped : (pairs : List EdgeEnds) (ps : List (List DartName)) → length pairs ≡ length ps → length (zipped_edges pairs ps) ≡ length ps
length-zipped [] ps h = h
length-zipped (pair ∷ pairs) [] h = absurd (omega arith)
length-zipped (pair ∷ pairs) (p ∷ ps) h = ap suc (length-zipped pairs ps (omega arith))

get_or-zipped : (pairs : List EdgeEnds) (ps : List (List DartName)) (k : ℕ) (d : DartEdge) (e : EdgeEnds) → length pairs ≡ length ps
    → k < length ps
    → get_or (zipped_edges pairs ps) k d ≡ edge_of_part (get_or pairs k e) (get_or ps k [])
get_or-zipped pairs [] k d e h l = absurd (omega arith)
get_or-zipped [] (p ∷ ps) k d e h l = absurd (omega arith)
get_or-zipped (pair ∷ pairs) (p ∷ ps) zero d e h l = refl
get_or-zipped (pair ∷ pairs) (p ∷ ps) (suc k) d e h l = get_or-zipped pairs ps k d e (omega arith) (omega arith)

zipped-push : (pairs : List EdgeEnds) (ps : List (List DartName)) (pair : EdgeEnds) (p : List DartName) → length pairs ≡ length ps
    → zipped_edges (pairs ++ pair ∷ []) (ps ++ p ∷ []) ≡ zipped_edges pairs ps ++ edge_of_part pair p ∷ []
zipped-push [] [] pair p h = refl
zipped-push [] (q ∷ ps) pair p h = absurd (omega arith)
zipped-push (e ∷ pairs) [] pair p h = absurd (omega arith)
zipped-push (e ∷ pairs) (q ∷ ps) pair p h = ap (λ (es : List DartEdge). edge_of_part e q ∷ es) (zipped-push pairs ps pair p (omega arith))

dart_count-zipped : (pairs : List EdgeEnds) (ps : List (List DartName)) → length pairs ≡ length ps
    → dart_count (zipped_edges pairs ps) ≡ sum_by length ps
dart_count-zipped [] [] h = refl
dart_count-zipped [] (p ∷ ps) h = absurd (omega arith)
dart_count-zipped (pair ∷ pairs) [] h = absurd (omega arith)
dart_count-zipped (pair ∷ pairs) (p ∷ ps) h =
    let size : length (map (λ (d : DartName). d.0) p) ≡ length p = length-map p (λ (d : DartName). d.0) in
    let rest : dart_count (zipped_edges pairs ps) ≡ sum_by length ps = dart_count-zipped pairs ps (omega arith) in
    sum_by-cons (λ (e : DartEdge). length e.darts) (edge_of_part pair p) (zipped_edges pairs ps)
    ∙ (omega (arith, size, rest, sum_by-cons {X = List DartName} length p ps))

pub length-edges : (pairs : List EdgeEnds) (stops : List ℕ) (darts : List DartName) (edges : List DartEdge) → IsEdgeList pairs stops darts
    → stored_edges pairs stops darts ≡ edges → length edges ≡ length stops
length-edges pairs stops darts edges h seen = grind (arith, length-zipped, parts, length-parts)

pub dart_count-edges : (pairs : List EdgeEnds) (stops : List ℕ) (darts : List DartName) (edges : List DartEdge)
    → IsEdgeList pairs stops darts
    → stored_edges pairs stops darts ≡ edges → dart_count edges ≡ length darts
dart_count-edges pairs stops darts edges h seen = grind (arith, dart_count-zipped, parts, length-parts, sum_by-parts)

-- where edge k lies among the vectors
pub record LiesAsEdge (edges : List DartEdge) (pairs : List EdgeEnds) (stops : List ℕ) (darts : List DartName) (k : ℕ) : Type 0 where
  pub few : k < length stops
  pub paired : k < length pairs
  pub rises : get_or (0 ∷ stops) k 0 ≤ get_or stops k 0
  pub within : get_or stops k 0 ≤ length darts
  pub low : (d : EdgeEnds) → (dart_edge_in edges k).low ≡ (get_or pairs k d).low.0
  pub high : (d : EdgeEnds) → (dart_edge_in edges k).high ≡ (get_or pairs k d).high.0
  pub size : length (dart_edge_in edges k).darts ≡ get_or stops k 0 - get_or (0 ∷ stops) k 0
  pub dart : (t : ℕ) (d : DartName) → t < length (dart_edge_in edges k).darts
      → get_or (dart_edge_in edges k).darts t 0 ≡ (get_or darts (get_or (0 ∷ stops) k 0 + t) d).0

lies_stored : (pairs : List EdgeEnds) (stops : List ℕ) (darts : List DartName) (k : ℕ) → IsEdgeList pairs stops darts → k < length stops
    → LiesAsEdge (stored_edges pairs stops darts) pairs stops darts k
lies_stored pairs stops darts k h few =
    let ps : List (List DartName) = parts 0 stops darts in
    let many : length ps ≡ length stops = length-parts 0 stops darts in
    let start : ℕ = get_or (0 ∷ stops) k 0 in
    let size : ℕ = get_or stops k 0 - start in
    let part : List DartName = take size (drop start darts) in
    let w = part_within 0 stops (length darts) k h.rising few in
    let is : (d : EdgeEnds) → dart_edge_in (stored_edges pairs stops darts) k ≡ edge_of_part (get_or pairs k d) part =
    λ d. get_or-zipped pairs ps k _ d (h.each_edge ∙ sym many) (omega (arith, few, many))
    ∙ ap (edge_of_part (get_or pairs k d)) (get_or-parts 0 stops darts k [] few) in
    let none : EdgeEnds = record { low = record { 0 = 0 }; high = record { 0 = 0 } } in
    let long : length part ≡ size = length-take-le size (drop start darts) (omega (arith, w.rises, w.within, length-drop start darts)) in
    let whole : length (dart_edge_in (stored_edges pairs stops darts) k).darts ≡ size =
    ap (λ (e : DartEdge). length e.darts) (is none) ∙ length-map part (λ (d : DartName). d.0) ∙ long in
    record {
      few = few;
      paired = omega (arith, few, h.each_edge);
      rises = w.rises;
      within = w.within;
      low = λ d. ap (λ (e : DartEdge). e.low) (is d);
      high = λ d. ap (λ (e : DartEdge). e.high) (is d);
      size = whole;
      dart = λ t d l.
          ap (λ (e : DartEdge). get_or e.darts t 0) (is none)
          ∙ get_or-map (λ (d : DartName). d.0) part t d 0 (omega (arith, l, whole, long))
          ∙ ap (λ (x : DartName). x.0) (get_or-take size (drop start darts) t d (omega (arith, l, whole)) ∙ get_or-drop start darts t d);
    }

pub lies_as_edge : (pairs : List EdgeEnds) (stops : List ℕ) (darts : List DartName) (edges : List DartEdge) (k : ℕ)
    → IsEdgeList pairs stops darts
    → stored_edges pairs stops darts ≡ edges → k < length edges → LiesAsEdge edges pairs stops darts k
lies_as_edge pairs stops darts edges k h seen l =
    subst (λ (es : List DartEdge). LiesAsEdge es pairs stops darts k) seen
    (lies_stored pairs stops darts k h (omega (arith, l, length-edges pairs stops darts edges h seen)))

-- one more edge at the end
pub edge_list-push : (pairs : List EdgeEnds) (stops : List ℕ) (darts new : List DartName) (ends : EdgeEnds) (m : ℕ)
    → IsEdgeList pairs stops darts
    → 0 < length new → m ≡ length darts + length new → m ≤ MOST_SIDES → IsEdgeList (pairs ++ ends ∷ []) (stops ++ m ∷ []) (darts ++ new)
edge_list-push pairs stops darts new ends m h some is room = grind (arith, common_steps, EndsRise-push)

pub stored-push : (pairs : List EdgeEnds) (stops : List ℕ) (darts : List DartName) (sides : List SideEntry) (ends : EdgeEnds) (m : ℕ)
    → IsEdgeList pairs stops darts
    → m ≡ length darts + length sides
    → stored_edges (pairs ++ ends ∷ []) (stops ++ m ∷ []) (darts ++ map (λ side. side.dart) sides)
    ≡ stored_edges pairs stops darts ++ record { low = ends.low.0; high = ends.high.0; darts = map dart_of sides } ∷ []
stored-push pairs stops darts sides ends m h is = grind (arith, common_steps, parts-push, zipped-push, parts, length-parts, map-map)
