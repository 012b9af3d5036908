-- The steps of the search.
use Rattle.orientation.proofs.Common.{IsLeastKept, IsSearch, GrowthGoesOn, Extends, Growth, differ, runs_alike, Fit, is_seen, tree_place_of, with_tree_face, AreTrees, IsExploredUpTo, IsFrontier, unseen, no_place, Place, ◌≡◌, ◌⊎◌, inl, inr, ℕ, ◌+◌, ◌<◌, ◌≤◌, Bool, true, false, not, List, [], ◌∷◌, ◌++◌, length, refl, ap, sym, ◌∙◌, subst, arith, below_more, cases_lt, both_ways, length_push, get_or_past, get_or-set_same, get_or-replicate, length-replicate, FaceList, IsFaceList, HasFileSize, face_at, ArePartners, IsCoherent, is_flipped, Side, FaceName, beq}
use Rattle.std.proofs.Common.{replicate}
use Rattle.orientation.proofs.TreeLemmas.{found, fits_then, frontier_put, fitting, with_face_extends, count-with_face, extends_more, explored_more, explored_up_to_kept, explored_all, frontier_done, frontier_last, planted, all_coherent, all_kept}

-- what crossing an edge to a new face gives
pub record Crossed (mesh : FaceList) (old : Growth) (waited : List FaceName) (side other : Side) (new : Growth)
    (waiting : List FaceName) : Type 0 where
  pub search : IsSearch mesh new (side.face ∷ waiting)
  pub goes_on : GrowthGoesOn old waited new waiting
  pub fits : (is_seen new other.face.0 ≡ true) × Fit mesh new.flipped side other

crossed_to : {mesh : FaceList} {old : Growth} (waiting : List FaceName) {side other : Side} (b : Bool) (p : Place)
    → IsSearch mesh old (side.face ∷ waiting)
    → ArePartners mesh side other → is_seen old other.face.0 ≡ false → b ≡ not
    (beq (is_flipped old.flipped side.face.0) (runs_alike mesh side other))
    → p.from ≡ side → p.depth ≡ (tree_place_of old side.face.0).depth + 1 → Crossed mesh old waiting side other
    (with_tree_face old other.face.0 b p) (waiting ++ other.face ∷ [])
crossed_to {mesh} {old} waiting {side} {other} b p h partners none is from depth =
    let seen : is_seen old side.face.0 ≡ true = h.frontier.queued 0 side.face (omega arith) in
    let fits : differ (is_flipped old.flipped side.face.0) b ≡ runs_alike mesh side other = ap
    (differ (is_flipped old.flipped side.face.0)) is ∙ fitting (is_flipped old.flipped side.face.0) (runs_alike mesh side other) in
    record {
      search = record {
        trees = found b p h.trees partners seen none fits from depth;
        frontier = frontier_put mesh old other.face b p (side.face ∷ waiting) h.trees partners.second.face none h.frontier;
      };
      goes_on = record {
        extends = with_face_extends old other.face.0 b p none;
        count = omega (
          arith,
          count-with_face old other.face.0 b p (omega (arith, partners.second.face, h.trees.each_face)) none,
          length_push waiting other.face,
        );
      };
      fits = fits_then b p h.trees partners seen none fits;
    }

pub crossed : {mesh : FaceList} {old : Growth} (waited : List FaceName) {side other : Side} (b : Bool) (p : Place) (new : Growth)
    (waiting : List FaceName)
    → IsSearch mesh old (side.face ∷ waited) → ArePartners mesh side other → is_seen old other.face.0 ≡ false
    → b ≡ not (beq (is_flipped old.flipped side.face.0) (runs_alike mesh side other)) → p.from ≡ side → p.depth ≡
    (tree_place_of old side.face.0).depth + 1
    → new ≡ with_tree_face old other.face.0 b p → waiting ≡ waited ++ other.face ∷ [] → Crossed mesh old waited side other new waiting
crossed {mesh} {old} waited {side} {other} b p new waiting h partners none is from depth grown pushed =
    subst (λ g. Crossed mesh old waited side other g waiting) (sym grown)
    (subst (Crossed mesh old waited side other (with_tree_face old other.face.0 b p)) (sym pushed)
    (crossed_to waited b p h partners none is from depth))

pub goes_on_more : {old new newer : Growth} {waited waiting wait : List FaceName} → GrowthGoesOn old waited new waiting
    → GrowthGoesOn new waiting newer wait → GrowthGoesOn old waited newer wait
goes_on_more h k =
    record { extends = extends_more h.extends k.extends; count = omega (arith, h.count, k.count) }

-- a face that is being explored, as far as one of its sides
pub record IsExploring (mesh : FaceList) (start : Growth) (waited : List FaceName) (growth : Growth) (waiting : List FaceName)
    (face : FaceName) (at : ℕ) : Type 0 where
  pub search : IsSearch mesh growth (face ∷ waiting)
  pub up_to : IsExploredUpTo mesh growth face.0 at
  pub goes_on : GrowthGoesOn start waited growth waiting

-- a side with nothing across it
pub exploring_past : {mesh : FaceList} {start : Growth} {waited : List FaceName} {growth : Growth} {waiting : List FaceName} (side : Side)
    → IsExploring mesh start waited growth waiting side.face side.at → ((other : Side) → ArePartners mesh side other → ⊥)
    → IsExploring mesh start waited growth waiting side.face (side.at + 1)
exploring_past {mesh} {growth} side h none = record {
  search = h.search;
  up_to = explored_more mesh growth side.face.0 side.at side refl refl h.up_to (λ other partners. absurd (none other partners));
  goes_on = h.goes_on;
}

-- a side across which the search went
pub exploring_across : {mesh : FaceList} {start : Growth} {waited : List FaceName} {growth : Growth} {waiting : List FaceName}
    (side other : Side) {new : Growth} {more : List FaceName}
    → IsExploring mesh start waited growth waiting side.face side.at → ((partner : Side) → ArePartners mesh side partner → partner ≡ other)
    → IsSearch mesh new (side.face ∷ more) → GrowthGoesOn growth waiting new more → (is_seen new other.face.0 ≡ true) × Fit mesh new.flipped
    side other
    → IsExploring mesh start waited new more side.face (side.at + 1)
exploring_across {mesh} side other {new} h only search on fits = record {
  search = search;
  up_to =
      explored_more mesh new side.face.0 side.at side refl refl
      (explored_up_to_kept mesh side.face.0 side.at on.extends (h.search.frontier.queued 0 side.face (omega arith)) h.up_to)
      (λ partner partners. subst (λ s. (is_seen new s.face.0 ≡ true) × Fit mesh new.flipped side s) (sym (only partner partners)) fits);
  goes_on = goes_on_more h.goes_on on;
}

pub exploring_last : {mesh : FaceList} {start : Growth} {waited : List FaceName} {growth : Growth} {waiting : List FaceName}
    {face : FaceName} {at : ℕ}
    → IsExploring mesh start waited growth waiting face at → length (face_at mesh face.0) ≤ at → IsSearch mesh growth waiting
exploring_last {mesh} {growth} {waiting} {face} {at} h long = record {
  trees = h.search.trees;
  frontier = frontier_done face waiting h.search.frontier (explored_all mesh growth face.0 at long h.up_to);
}

-- the faces that were seen are faces of the mesh
pub seen_below : {mesh : FaceList} {growth : Growth} (f : ℕ) → AreTrees mesh growth → is_seen growth f ≡ true → f < length mesh.faces
seen_below {mesh} {growth} f h seen =
    elim (cases_lt f (length mesh.faces)) [
      | inl less ↦ less
      | inr more ↦ absurd (both_ways (is_seen growth f) (get_or_past growth.seen f false (omega (arith, more, h.each_face))) seen)
    ]

-- a tree that grows
pub record IsGrowing (mesh : FaceList) (start : Growth) (root : ℕ) (growth : Growth) (waiting : List FaceName) : Type 0 where
  pub search : IsSearch mesh growth waiting
  pub extends : Extends start growth
  pub seen : is_seen growth root ≡ true

pub growing_first : {mesh : FaceList} {start : Growth} (root : FaceName) (p : Place) (new : Growth) (waiting : List FaceName)
    → IsSearch mesh start [] → root.0 < length mesh.faces
    → is_seen start root.0 ≡ false → ((g : ℕ) → g < root.0 → is_seen start g ≡ true) → p.depth ≡ 0 → new ≡ with_tree_face start root.0 false
    p → waiting ≡ root ∷ []
    → IsGrowing mesh start root.0 new waiting
growing_first {mesh} {start} root p new waiting h few none before depth grown pushed =
    let here : IsGrowing mesh start root.0 (with_tree_face start root.0 false p) (root ∷ []) = record {
      search = record {
        trees = planted root.0 p h.trees h.frontier few none before depth;
        frontier = frontier_put mesh start root false p [] h.trees few none h.frontier;
      };
      extends = with_face_extends start root.0 false p none;
      seen = get_or-set_same start.seen root.0 true false (omega (arith, few, h.trees.each_face));
    } in
    subst (λ g. IsGrowing mesh start root.0 g waiting) (sym grown)
    (subst (IsGrowing mesh start root.0 (with_tree_face start root.0 false p)) (sym pushed) here)

-- whichever face is taken, it may be taken as the first
pub taken : {mesh : FaceList} {growth : Growth} (face : FaceName) (rest : List FaceName) {waiting : List FaceName}
    → IsSearch mesh growth waiting → (waiting ≡ face ∷ rest) ⊎ (waiting ≡ rest ++ face ∷ []) → IsSearch mesh growth (face ∷ rest)
taken {mesh} {growth} face rest h which =
    elim which [
      | inl first ↦ subst (IsSearch mesh growth) first h
      | inr last ↦ record {
        trees = h.trees;
        frontier = frontier_last face rest (subst (IsFrontier mesh growth) last h.frontier);
      }
    ]

pub length-taken : (face : FaceName) (rest waiting : List FaceName) → (waiting ≡ face ∷ rest) ⊎ (waiting ≡ rest ++ face ∷ [])
    → length waiting ≡ length rest + 1
length-taken face rest waiting which =
    elim which [
      | inl first ↦ omega (arith, ap (λ (xs : List FaceName). length xs) first)
      | inr last ↦ ap (λ (xs : List FaceName). length xs) last ∙ length_push rest face
    ]

pub seen_later : {old new : Growth} (f : ℕ) → Extends old new → is_seen old f ≡ true → is_seen new f ≡ true
seen_later f h seen = (h.kept f seen).seen

pub growing_more : {mesh : FaceList} {start : Growth} {root : ℕ} {growth : Growth} {waiting : List FaceName} {new : Growth}
    {more : List FaceName}
    → IsGrowing mesh start root growth waiting → Extends growth new → IsSearch mesh new more → IsGrowing mesh start root new more
growing_more {root} h on search = record {
  search = search;
  extends = extends_more h.extends on;
  seen = seen_later root on h.seen;
}

-- the trees of all faces before one
pub record IsThrough (mesh : FaceList) (growth : Growth) (waiting : List FaceName) (face : ℕ) : Type 0 where
  pub search : IsSearch mesh growth []
  pub none_waits : waiting ≡ []
  pub before : (f : ℕ) → f < face → is_seen growth f ≡ true

none_seen : (n f : ℕ) → is_seen (unseen n) f ≡ false
none_seen n f =
    elim (cases_lt f n) [
      | inl less ↦ get_or-replicate n f false false less
      | inr more ↦ get_or_past (replicate n false) f false (omega (arith, more, length-replicate n false))
    ]

pub through_none : {mesh : FaceList} (n : ℕ) (growth : Growth) (waiting : List FaceName) → IsFaceList mesh → HasFileSize mesh
    → n ≡ length mesh.faces → growth ≡ unseen n → waiting ≡ []
    → IsThrough mesh growth waiting 0
through_none n growth waiting is small size fresh empty =
    let none : (f : ℕ) → is_seen growth f ≡ true → ⊥ = λ f seen. both_ways (is_seen growth f)
    (ap (λ g. is_seen g f) fresh ∙ none_seen n f) seen in
    record {
      search = record {
        trees = record {
          mesh_is = is;
          small = small;
          each_face = ap (λ (g : Growth). length g.seen) fresh ∙ length-replicate n false ∙ size;
          signs = ap (λ (g : Growth). length g.flipped) fresh ∙ length-replicate n false ∙ size;
          places = ap (λ (g : Growth). length g.places) fresh ∙ length-replicate n no_place ∙ size;
          placed = λ f seen. absurd (none f seen);
          shallow = λ f seen. absurd (none f seen);
        };
        frontier = record { queued = λ k d l. absurd (omega arith); explored = λ f seen. absurd (none f.0 seen) };
      };
      none_waits = empty;
      before = λ f less. absurd (omega arith);
    }

pub through_grown : {mesh : FaceList} {growth : Growth} {waiting : List FaceName} {face : ℕ} {new : Growth} (more : List FaceName)
    → IsThrough mesh growth waiting face
    → Extends growth new → is_seen new face ≡ true → IsSearch mesh new [] → more ≡ [] → IsThrough mesh new more (face + 1)
through_grown {face} {new} more h on seen search empty = record {
  search = search;
  none_waits = empty;
  before = below_more (λ f. is_seen new f ≡ true) face (λ f less. seen_later f on (h.before f less)) seen;
}

pub through_seen : {mesh : FaceList} {growth : Growth} {waiting : List FaceName} {face : ℕ} → IsThrough mesh growth waiting face
    → is_seen growth face ≡ true
    → IsThrough mesh growth waiting (face + 1)
through_seen {growth} {face} h seen = record {
  search = h.search;
  none_waits = h.none_waits;
  before = below_more (λ f. is_seen growth f ≡ true) face h.before seen;
}

pub through_all : {mesh : FaceList} {growth : Growth} {waiting : List FaceName} {face : ℕ} → IsThrough mesh growth waiting face
    → length mesh.faces ≤ face
    → IsCoherent mesh growth.flipped × IsLeastKept mesh growth.flipped
through_all {mesh} {growth} h long =
    let all : (f : ℕ) → f < length mesh.faces → is_seen growth f ≡ true = λ f less. h.before f (omega arith) in
    (all_coherent h.search.trees h.search.frontier all, all_kept h.search.trees all)
