-- A tree over nodes has another root when the dart between the two is turned. And ways up a tree over the faces, a dart longer or shorter.
use Rattle.tree_cotree.proofs.Common.{names_all, OrientedMesh, IsOrientedSurface, rotations_of, Rotations, IsRotationSystem, ◌≡◌, ◌≢◌, ◌⊎◌, inl, inr, ℕ, ◌+◌, ◌<◌, Bool, true, List, [], ◌∷◌, ◌++◌, length, refl, ap, sym, ◌∙◌, subst, arith, set, cases_eq, common_steps, get_or-set_same, get_or-set_other, length-set, Option, Some, None, IsPath, AreJoined, kept_at, LeadsUp, IsRooted, IsWay}
use Rattle.tree_cotree.proofs.AfterLemmas.{twin_edge}
use Rattle.tree_cotree.proofs.SearchLemmas.{not_both, same_some}
use Rattle.tree_cotree.proofs.TreeLemmas.{upward}
use Rattle.tree_cotree.proofs.UpwardLemmas.{few_steps}

-- what is kept after the dart of a node w is turned, and x is kept for the node v
kept_root : (from : List (Option ℕ)) (v w x : ℕ) → v < length from → v ≢ w → kept_at (set (set from v (Some x)) w None) v ≡ Some x
kept_root from v w x l ne = get_or-set_other (set from v (Some x)) w v None None ne ∙ get_or-set_same from v (Some x) None l

kept_none : (from : List (Option ℕ)) (v w x : ℕ) → w < length from → kept_at (set (set from v (Some x)) w None) w ≡ None
kept_none from v w x l = get_or-set_same (set from v (Some x)) w None None (omega (arith, l, length-set from v (Some x)))

kept_else : (from : List (Option ℕ)) (v w u x : ℕ) → u ≢ v → u ≢ w → kept_at (set (set from v (Some x)) w None) u ≡ kept_at from u
kept_else from v w u x not_v not_w = grind (arith, common_steps)

-- the dart d of a node that leads to the root is turned, and the node is the root
pub rerooted : {maps : Rotations} {node : ℕ → ℕ} {allowed : ℕ → Bool} {bound root : ℕ} {from : List (Option ℕ)} (d x : ℕ)
    → IsRotationSystem maps → ((e : ℕ) → e < maps.darts → node e < length from) → IsRooted maps node allowed bound root from
    → kept_at from (node d) ≡ Some d → node (maps.twin d) ≡ root → x ≡ maps.twin d
    → IsRooted maps node allowed bound (node d) (set (set from root (Some x)) (node d) None)
rerooted {maps} {node} {allowed} {root} {from} d x r below f keeps leads twin = record {
  long = length-set (set from root (Some x)) (node d) None ∙ length-set from root (Some x) ∙ f.long;
  at_root = (d, d_in, refl);
  none = kept_none from root (node d) x (below d d_in);
  within = λ v y e. elim (kept_now v y e) [
    | inl new ↦ subst (λ z. z < maps.darts) (sym (new.1 ∙ twin)) (r.twin_within d d_in)
    | inr old ↦ f.within v y old
  ];
  of_node = λ v y e. elim (kept_now v y e) [ inl new ↦ ap node new.1 ∙ x_node ∙ sym new.0 | inr old ↦ f.of_node v y old ];
  inside = λ v y e. elim (kept_now v y e) [
    | inl new ↦ ap (λ z. allowed (maps.edge z)) (new.1 ∙ twin) ∙ ap allowed (sym (twin_edge maps r d d_in)) ∙ f.inside (node d) d keeps
    | inr old ↦ f.inside v y old
  ];
  to_root = λ e l. (let way = f.to_root e l in turned (node e) way.0 way.1);
}
  where
    kept : List (Option ℕ)
    kept = set (set from root (Some x)) (node d) None

    d_in : d < maps.darts
    d_in = f.within (node d) d keeps

    x_node : node x ≡ root
    x_node = ap node twin ∙ leads

    apart : root ≢ node d
    apart e = not_both (kept_at from root) d (ap (kept_at from) e ∙ keeps) f.none

    at_old_root : kept_at kept root ≡ Some x
    at_old_root = kept_root from root (node d) x (subst (λ v. v < length from) leads (below (maps.twin d) (r.twin_within d d_in))) apart

    kept_now : (v y : ℕ) → kept_at kept v ≡ Some y → ((v ≡ root) × (y ≡ x)) ⊎ (kept_at from v ≡ Some y)
    kept_now v y e = elim (cases_eq v (node d)) [
      | inl top ↦ absurd (not_both (kept_at kept v) y e (ap (kept_at kept) top ∙ kept_none from root (node d) x (below d d_in)))
      | inr not_top ↦ elim (cases_eq v root) [
        | inl old_root ↦ inl (old_root, same_some (kept_at kept v) y x e (ap (kept_at kept) old_root ∙ at_old_root))
        | inr other ↦ inr (sym (kept_else from root (node d) v x other not_top) ∙ e)
      ]
    ]

    turned : (v : ℕ) (path : List ℕ) → IsPath (LeadsUp maps node from) v path root → AreJoined (LeadsUp maps node kept) v (node d)
    turned v [] p = (
      node d ∷ [],
      ((x, ap (kept_at kept) p ∙ at_old_root, ap (λ z. node (maps.twin z)) twin ∙ ap node (r.twin_back d d_in)), refl),
    )
    turned v (w ∷ path) p = elim (cases_eq v (node d)) [
      | inl top ↦ ([], top)
      | inr not_top ↦
          let not_root : v ≢ root = λ e. not_both (kept_at from v) p.0.0 p.0.1 (ap (kept_at from) e ∙ f.none) in
          let rest : AreJoined (LeadsUp maps node kept) w (node d) = turned w path p.1 in
          (w ∷ rest.0, ((p.0.0, kept_else from root (node d) v x not_root not_top ∙ p.0.1, p.0.2), rest.1))
    ]

-- the face of a dart is a face
pub face_within : {s : OrientedMesh} → IsOrientedSurface s → (n f : ℕ) → n ≡ length s.mesh.faces
    → (e : ℕ) × (e < (rotations_of s).darts) × ((rotations_of s).face e ≡ f) → f < n
face_within {s} o n f long at =
    subst (λ m. f < m) (sym long) (subst (λ g. g < length s.mesh.faces) at.2 ((names_all s o).face_below at.0 at.1))

-- a way with a dart more
pub way_more : (maps : Rotations) (from : List (Option ℕ)) (f : ℕ) (way : List ℕ) (g d : ℕ) → IsWay maps from f way g
    → kept_at from g ≡ Some d → IsWay maps from f (way ++ d ∷ []) (maps.face (maps.twin d))
way_more maps from f [] g d w keeps = (ap (kept_at from) w ∙ keeps, refl)
way_more maps from f (e ∷ way) g d w keeps = (w.0, way_more maps from (maps.face (maps.twin e)) way g d w.1 keeps)

-- the last dart of a way is kept for its face, and leads to the end
pub last_kept : {maps : Rotations} {allowed : ℕ → Bool} {bound root : ℕ} {from : List (Option ℕ)}
    → IsRooted maps maps.face allowed bound root from → (f : ℕ) (way : List ℕ) (g d : ℕ) → IsWay maps from f (way ++ d ∷ []) g
    → (kept_at from (maps.face d) ≡ Some d) × (maps.face (maps.twin d) ≡ g)
last_kept {from} h f [] g d w = (ap (kept_at from) (h.of_node f d w.0) ∙ w.0, w.1)
last_kept {maps} h f (e ∷ way) g d w = last_kept h (maps.face (maps.twin e)) way g d w.1

-- a way to the root without its last dart, when that is turned
pub way_less : {maps : Rotations} {allowed : ℕ → Bool} {bound root : ℕ} {from : List (Option ℕ)}
    → IsRooted maps maps.face allowed bound root from → (f : ℕ) (way : List ℕ) (d x : ℕ) → IsWay maps from f (way ++ d ∷ []) root
    → IsWay maps (set (set from root (Some x)) (maps.face d) None) f way (maps.face d)
way_less h f [] d x w = sym (h.of_node f d w.0)
way_less {maps} {root} {from} h f (e ∷ way) d x w = (
  kept_else from root (maps.face d) f x not_root not_last ∙ w.0,
  way_less h (maps.face (maps.twin e)) way d x w.1,
)
  where
    last : (kept_at from (maps.face d) ≡ Some d) × (maps.face (maps.twin d) ≡ root)
    last = last_kept h (maps.face (maps.twin e)) way root d w.1

    not_root : f ≢ root
    not_root is = not_both (kept_at from f) e w.0 (ap (kept_at from) is ∙ h.none)

    goes_on : (way : List ℕ) → IsWay maps from root (way ++ d ∷ []) root → ⊥
    goes_on [] v = not_both (kept_at from root) d v.0 h.none
    goes_on (b ∷ way) v = not_both (kept_at from root) b v.0 h.none

    not_last : f ≢ maps.face d
    not_last is =
        let same : e ≡ d = same_some (kept_at from f) e d w.0 (ap (kept_at from) is ∙ last.0) in
        goes_on way (subst (λ g. IsWay maps from g (way ++ d ∷ []) root) (ap (λ y. maps.face (maps.twin y)) same ∙ last.1) w.1)

-- a way that can be gone on is shorter than the list of what is kept
pub few_darts : {maps : Rotations} {allowed : ℕ → Bool} {bound root : ℕ} {from : List (Option ℕ)}
    → IsRooted maps maps.face allowed bound root from → ((e : ℕ) → e < maps.darts → maps.face e < length from)
    → (f : ℕ) (way : List ℕ) (e : ℕ) → e < maps.darts → IsWay maps from f way (maps.face e) → length way < length from
few_darts {maps} {root} {from} h below f way e l w =
    let whole = put_on f way w in
    let few : length whole.0 < length from = few_steps (LeadsUp maps maps.face from) root (length from) (upward h)
    (subst (λ v. v < length from) h.at_root.2 (below h.at_root.0 h.at_root.1))
    (λ u v p. subst (λ y. y < length from) (h.of_node u p.0 p.1) (below p.0 (h.within u p.0 p.1))) f whole.0 whole.1 in
    omega (arith, few, whole.2)
  where
    rest : AreJoined (LeadsUp maps maps.face from) (maps.face e) root
    rest = h.to_root e l

    put_on : (f : ℕ) (way : List ℕ) → IsWay maps from f way (maps.face e)
        → (path : List ℕ) × IsPath (LeadsUp maps maps.face from) f path root × (length path ≡ length way + length rest.0)
    put_on f [] w = (rest.0, subst (λ u. IsPath (LeadsUp maps maps.face from) u rest.0 root) (sym w) rest.1, omega arith)
    put_on f (b ∷ way) w =
        let g : ℕ = maps.face (maps.twin b) in
        let more = put_on g way w.1 in
        (g ∷ more.0, ((b, w.0, refl), more.1), omega (arith, more.2))

-- a face for which nothing is kept is the root
pub ends_at_root : {maps : Rotations} {allowed : ℕ → Bool} {bound root : ℕ} {from : List (Option ℕ)}
    → IsRooted maps maps.face allowed bound root from → (e : ℕ) → e < maps.darts → kept_at from (maps.face e) ≡ None
    → maps.face e ≡ root
ends_at_root {maps} {root} {from} h e l none = by (h.to_root e l).0 (h.to_root e l).1
  where
    by : (path : List ℕ) → IsPath (LeadsUp maps maps.face from) (maps.face e) path root → maps.face e ≡ root
    by [] p = p
    by (w ∷ path) p = absurd (not_both (kept_at from (maps.face e)) p.0.0 p.0.1 none)

-- a tree that is turned as far as the way that is left leads
pub record IsPartlyTurned (maps : Rotations) (old : List (Option ℕ)) (start : ℕ) (from : List (Option ℕ)) (way : List ℕ) : Type 0 where
  pub top : ℕ
  pub is_way : IsWay maps from start way top
  pub rooted : (allowed : ℕ → Bool) (root : ℕ) → IsRooted maps maps.face allowed (length old) root old
      → IsRooted maps maps.face allowed (length old) top from

pub turning_start : {maps : Rotations} {from : List (Option ℕ)} (start : ℕ) {root : ℕ} (way : List ℕ)
    → IsRooted maps maps.face (λ e. true) (length from) root from → IsWay maps from start way root
    → IsPartlyTurned maps from start from way
turning_start {maps} {from} start {root} way h w = grind (arith, ends_at_root)

pub turning_more : {maps : Rotations} {old : List (Option ℕ)} {start : ℕ} {from : List (Option ℕ)} (way : List ℕ) (d x : ℕ) {root : ℕ}
    → IsRotationSystem maps → ((e : ℕ) → e < maps.darts → maps.face e < length from)
    → IsRooted maps maps.face (λ e. true) (length old) root old → IsPartlyTurned maps old start from (way ++ d ∷ []) → x ≡ maps.twin d
    → IsPartlyTurned maps old start (set (set from (maps.face x) (Some x)) (maps.face d) None) way
turning_more {maps} {old} {start} {from} way d x {root} r below tree t twin =
    let all : ℕ → Bool = λ e. true in
    let h : IsRooted maps maps.face all (length old) t.top from = t.rooted all root tree in
    let last = last_kept h start way t.top d t.is_way in
    subst (λ v. IsPartlyTurned maps old start (set (set from v (Some x)) (maps.face d) None) way) (sym (ap maps.face twin ∙ last.1))
    (record {
      top = maps.face d;
      is_way = way_less h start way d x t.is_way;
      rooted = λ allowed top f. rerooted d x r below (t.rooted allowed top f) last.0 last.1 twin;
    })

pub turning_done : (maps : Rotations) (old : List (Option ℕ)) (start : ℕ) (from : List (Option ℕ)) (way : List ℕ)
    → IsPartlyTurned maps old start from way → way ≡ [] → (allowed : ℕ → Bool) (root : ℕ)
    → IsRooted maps maps.face allowed (length old) root old → IsRooted maps maps.face allowed (length old) start from
turning_done maps old start from way t empty allowed root f =
    subst (λ v. IsRooted maps maps.face allowed (length old) v from) (sym (subst (λ ds. IsWay maps from start ds t.top) empty t.is_way))
    (t.rooted allowed root f)

-- the last dart of what is left is one
pub last_in : {maps : Rotations} {old : List (Option ℕ)} {start : ℕ} {from : List (Option ℕ)} {whole : List ℕ} (way : List ℕ) (d : ℕ)
    {root : ℕ}
    → IsRooted maps maps.face (λ e. true) (length old) root old → IsPartlyTurned maps old start from whole → whole ≡ way ++ d ∷ []
    → d < maps.darts
last_in {maps} {old} {start} {from} way d {root} tree t is =
    let h : IsRooted maps maps.face (λ e. true) (length old) t.top from = t.rooted (λ e. true) root tree in
    h.within (maps.face d) d (last_kept h start way t.top d (subst (λ ds. IsWay maps from start ds t.top) is t.is_way)).0

-- the edges of the kept darts are all that have to be allowed
pub allow : {maps : Rotations} {node : ℕ → ℕ} {allowed : ℕ → Bool} (other : ℕ → Bool) {bound root : ℕ} {from : List (Option ℕ)}
    → IsRooted maps node allowed bound root from → ((v x : ℕ) → kept_at from v ≡ Some x → other (maps.edge x) ≡ true)
    → IsRooted maps node other bound root from
allow other f all = grind arith
