-- What a search knows, and how it grows by one face.
use Rattle.orientation.proofs.Common.{partners_swap, joined_step, joined_trans, IsFaceStep, AreOfOneClass, IsLeastOfClass, IsLeastKept, IsFaceKept, Extends, Growth, differ, runs_alike, Fit, is_seen, tree_place_of, with_tree_face, count_unseen, IsFirst, IsFoundFrom, AreTrees, IsExplored, IsExploredUpTo, IsFrontier, Place, ◌*◌, ◌≡◌, ◌≢◌, ◌⊎◌, inl, inr, ℕ, zero, suc, ◌+◌, ◌<◌, ◌≤◌, Bool, true, false, not, cond, List, [], ◌∷◌, ◌++◌, length, get_or, refl, ap, sym, ◌∙◌, subst, arith, cases_lt, cases_Bool, both_ways, get_or-set_other, get_or-set_same, sum_by-set, count_by-le-length, sum_by-cons, sum_by, All, Contains, FaceList, IsFaceList, HasFileSize, IsFace, face_at, IsPath, ArePartners, IsCoherent, is_flipped, Side, FaceName, beq}
use Rattle.std.proofs.Math.ListN.{length-set}
use Rattle.std.proofs.lemmas.List.Elements.{Contains-append_left, Contains-push, Contains-push_cases, All-weaker, All-push, All-head, All-tail, All-contains, Contains-get_or}
use Rattle.surf_model.specs.declared.limits.TheConstants.{MOST_SIDES}
use Rattle.orientation.proofs.Fitting.{opposite_if_fit}
use Rattle.orientation.proofs.ClassLemmas.{step_back, joined_back}

pub extends_more : {old new newer : Growth} → Extends old new → Extends new newer → Extends old newer
extends_more {old} {new} {newer} h k = record {
  kept = λ f seen.
      let first : IsFaceKept old new f = h.kept f seen in
      let then : IsFaceKept new newer f = k.kept f first.seen in
      record { seen = then.seen; sign = then.sign ∙ first.sign; place = then.place ∙ first.place };
}

seen_differs : (growth : Growth) (f g : ℕ) → is_seen growth f ≡ true → is_seen growth g ≡ false → f ≢ g
seen_differs growth f g h k same = both_ways (is_seen growth g) k (ap (is_seen growth) (sym same) ∙ h)

pub with_face_extends : (growth : Growth) (g : ℕ) (b : Bool) (p : Place) → is_seen growth g ≡ false
    → Extends growth (with_tree_face growth g b p)
with_face_extends growth g b p none = record {
  kept = λ f seen.
      let other : f ≢ g = seen_differs growth f g seen none in
      record {
        seen = get_or-set_other growth.seen g f true false other ∙ seen;
        sign = get_or-set_other growth.flipped g f b false other;
        place = get_or-set_other growth.places g f p _ other;
      };
}

-- a face that is seen then was seen before, or is the new one
pub seen_before : (growth : Growth) (g f : ℕ) (b : Bool) (p : Place) → is_seen (with_tree_face growth g b p) f ≡ true
    → (f ≡ g) ⊎ (is_seen growth f ≡ true)
seen_before growth g f b p seen =
    elim (cases_Nat f g) [
      | inl same ↦ inl same
      | inr other ↦ inr (sym (get_or-set_other growth.seen g f true false other) ∙ seen)
    ]
  where
    cases_Nat : (m n : ℕ) → (m ≡ n) ⊎ (m ≢ n)
    cases_Nat m n = elim (cases_lt m n) [
      | inl less ↦ inr (λ e. omega arith)
      | inr more ↦ elim (cases_lt n m) [ inl less ↦ inr (λ e. omega arith) | inr same ↦ inl (omega arith) ]
    ]

pub count-with_face : (growth : Growth) (g : ℕ) (b : Bool) (p : Place) → g < length growth.seen → is_seen growth g ≡ false
    → count_unseen (with_tree_face growth g b p) + 1 ≡ count_unseen growth
count-with_face growth g b p few none =
    let sum = sum_by-set (λ (x : Bool). cond (not x) 1 0) growth.seen g true false few in
    let one : cond {A = ℕ} (not (get_or growth.seen g false)) 1 0 ≡ 1 = ap (λ x. cond {A = ℕ} (not x) 1 0) none in
    omega (arith, sum, one)

-- what holds of a face that was seen before holds still
first_kept : {mesh : FaceList} {old new : Growth} {f : ℕ} → Extends old new → is_seen old f ≡ true → IsFirst mesh old f → IsFirst mesh new f
first_kept {old} {new} {f} more seen h =
    let same : IsFaceKept old new f = more.kept f seen in
    record { depth = ap (λ (p : Place). p.depth) same.place ∙ h.depth; kept = same.sign ∙ h.kept; least = h.least }

fit_kept : (mesh : FaceList) {old new : Growth} (side other : Side) → Extends old new → is_seen old side.face.0 ≡ true
    → is_seen old other.face.0 ≡ true
    → Fit mesh old.flipped side other → Fit mesh new.flipped side other
fit_kept mesh {old} {new} side other more seen too fit =
    ap (λ b. differ b (is_flipped new.flipped other.face.0)) (more.kept side.face.0 seen).sign
    ∙ ap (differ (is_flipped old.flipped side.face.0)) (more.kept other.face.0 too).sign ∙ fit

found_kept : {mesh : FaceList} {old new : Growth} {f : ℕ} → Extends old new → is_seen old f ≡ true
    → IsFoundFrom mesh old f (tree_place_of old f).from
    → IsFoundFrom mesh new f (tree_place_of new f).from
found_kept {mesh} {old} {new} {f} more seen h =
    let same : IsFaceKept old new f = more.kept f seen in
    let before : IsFaceKept old new (tree_place_of old f).from.face.0 = more.kept (tree_place_of old f).from.face.0 h.seen in
    subst (λ (p : Place). IsFoundFrom mesh new f p.from) (sym same.place) (record {
      side = h.side;
      partners = h.partners;
      here = h.here;
      seen = before.seen;
      deeper = ap (λ (p : Place). p.depth) same.place ∙ h.deeper ∙ ap (λ (p : Place). p.depth + 1) (sym before.place);
      fit = fit_kept mesh (tree_place_of old f).from h.side more h.seen (subst (λ n. is_seen old n ≡ true) (sym h.here) seen) h.fit;
    })

pub explored_kept : (mesh : FaceList) {old new : Growth} (f : ℕ) → Extends old new → is_seen old f ≡ true → IsExplored mesh old f
    → IsExplored mesh new f
explored_kept mesh {old} f more seen h side other partners here =
    let was = h side other partners here in (
      (more.kept other.face.0 was.0).seen,
      fit_kept mesh side other more (subst (λ n. is_seen old n ≡ true) (sym here) seen) was.0 was.1,
    )

pub explored_up_to_kept : (mesh : FaceList) {old new : Growth} (f at : ℕ) → Extends old new → is_seen old f ≡ true
    → IsExploredUpTo mesh old f at → IsExploredUpTo mesh new f at
explored_up_to_kept mesh {old} f at more seen h side other partners here below =
    let was = h side other partners here below in (
      (more.kept other.face.0 was.0).seen,
      fit_kept mesh side other more (subst (λ n. is_seen old n ≡ true) (sym here) seen) was.0 was.1,
    )

-- one more face, which is either a first one or found from another
put_kept : {mesh : FaceList} {growth : Growth} (g : ℕ) (b : Bool) (p : Place) → AreTrees mesh growth → g < length mesh.faces
    → is_seen growth g ≡ false
    → IsFirst mesh (with_tree_face growth g b p) g ⊎ IsFoundFrom mesh (with_tree_face growth g b p) g p.from
    → p.depth + count_unseen growth ≤
    length mesh.faces
    → AreTrees mesh (with_tree_face growth g b p)
put_kept {mesh} {growth} g b p h few none new shallow =
    let more : Extends growth (with_tree_face growth g b p) = with_face_extends growth g b p none in
    let count : count_unseen (with_tree_face growth g b p) + 1 ≡ count_unseen growth = count-with_face growth g b p
    (omega (arith, few, h.each_face)) none in
    let place : tree_place_of (with_tree_face growth g b p) g ≡ p = get_or-set_same growth.places g p _ (omega (arith, few, h.places)) in
    record {
      mesh_is = h.mesh_is;
      small = h.small;
      each_face = length-set growth.seen g true ∙ h.each_face;
      signs = length-set growth.flipped g b ∙ h.signs;
      places = length-set growth.places g p ∙ h.places;
      placed = λ f seen. elim (seen_before growth g f b p seen) [
        | inl same ↦
            (let at_g : IsFirst mesh (with_tree_face growth g b p) g ⊎ IsFoundFrom mesh (with_tree_face growth g b p) g
            (tree_place_of (with_tree_face growth g b p) g).from =
            elim new [
              | inl first ↦ inl first
              | inr found ↦ inr (subst (λ (q : Place). IsFoundFrom mesh (with_tree_face growth g b p) g q.from) (sym place) found)
            ] in
            subst (λ n. IsFirst mesh (with_tree_face growth g b p) n ⊎ IsFoundFrom mesh (with_tree_face growth g b p) n
            (tree_place_of (with_tree_face growth g b p) n).from) (sym same) at_g)
        | inr before ↦ elim (h.placed f before) [
          | inl first ↦ inl (first_kept more before first)
          | inr found ↦ inr (found_kept more before found)
        ]
      ];
      shallow = λ f seen. elim (seen_before growth g f b p seen) [
        | inl same ↦ omega (
          arith,
          shallow,
          count,
          ap (λ (q : Place). q.depth) (ap (tree_place_of (with_tree_face growth g b p)) same ∙ place),
        )
        | inr before ↦ omega (arith, h.shallow f before, count, ap (λ (q : Place). q.depth) (more.kept f before).place)
      ];
    }

-- a first face: all smaller ones were seen, and all seen ones are explored, so none of its class is smaller
unseen_path : (mesh : FaceList) (growth : Growth) (x y : ℕ) (path : List ℕ) → ((f : ℕ) → is_seen growth f ≡ true → IsExplored mesh growth f)
    → is_seen growth x ≡ false → IsPath (IsFaceStep mesh) x path y → is_seen growth y ≡ false
unseen_path mesh growth x y [] all none path = ap (is_seen growth) (sym path) ∙ none
unseen_path mesh growth x y (z ∷ more) all none path =
    let next : is_seen growth z ≡ false = elim (cases_Bool (is_seen growth z)) [
      | inl seen ↦
          (let back : IsFaceStep mesh z x = step_back mesh x z path.0 in
          let here = all z seen back.side back.partner back.partners back.from in
          absurd (both_ways (is_seen growth x) none (ap (is_seen growth) (sym back.to) ∙ here.0)))
      | inr not_seen ↦ not_seen
    ] in
    unseen_path mesh growth z y more all next path.1

pub least_unseen : {mesh : FaceList} {growth : Growth} (f : ℕ) → IsFrontier mesh growth [] → is_seen growth f ≡ false
    → ((g : ℕ) → g < f → is_seen growth g ≡ true) → IsLeastOfClass mesh f
least_unseen {mesh} {growth} f h none before other joined =
    let all : (g : ℕ) → is_seen growth g ≡ true → IsExplored mesh growth g = λ g seen. elim (h.explored (record { 0 = g }) seen) [
      | inl waits ↦ absurd (omega (arith, waits.1))
      | inr explored ↦ explored
    ] in
    elim (cases_lt other f) [
      | inl less ↦ absurd (both_ways (is_seen growth other) (unseen_path mesh growth f other joined.0 all none joined.1)
          (before other less))
      | inr more ↦ more
    ]

pub planted : {mesh : FaceList} {growth : Growth} (f : ℕ) (p : Place) → AreTrees mesh growth → IsFrontier mesh growth []
    → f < length mesh.faces → is_seen growth f ≡ false
    → ((g : ℕ) → g < f → is_seen growth g ≡ true) → p.depth ≡ 0 → AreTrees mesh (with_tree_face growth f false p)
planted {growth} f p h frontier few none before depth =
    put_kept f false p h few none (inl (record {
      depth = ap (λ (q : Place). q.depth) (get_or-set_same growth.places f p _ (omega (arith, few, h.places))) ∙ depth;
      kept = get_or-set_same growth.flipped f false false (omega (arith, few, h.signs));
      least = least_unseen f frontier none before;
    })) (omega (arith, depth, unseen_few growth, h.each_face))
  where
    unseen_few : (growth : Growth) → count_unseen growth ≤ length growth.seen
    unseen_few growth = count_by-le-length not growth.seen

-- a face that is found across the edge of a side, with the sign that fits
pub found : {mesh : FaceList} {growth : Growth} {from side : Side} (b : Bool) (p : Place) → AreTrees mesh growth
    → ArePartners mesh from side
    → is_seen growth from.face.0 ≡ true → is_seen growth side.face.0 ≡ false → differ (is_flipped growth.flipped from.face.0) b ≡
    runs_alike mesh from side
    → p.from ≡ from → p.depth ≡ (tree_place_of growth from.face.0).depth + 1 → AreTrees mesh (with_tree_face growth side.face.0 b p)
found {mesh} {growth} {from} {side} b p h partners seen none fits is depth =
    let g : ℕ = side.face.0 in
    let few : g < length mesh.faces = partners.second.face in
    let more : Extends growth (with_tree_face growth g b p) = with_face_extends growth g b p none in
    let kept : IsFaceKept growth (with_tree_face growth g b p) from.face.0 = more.kept from.face.0 seen in
    let sign : is_flipped (with_tree_face growth g b p).flipped g ≡ b =
    get_or-set_same growth.flipped g b false (omega (arith, few, h.signs)) in
    put_kept g b p h few none (inr (subst (IsFoundFrom mesh (with_tree_face growth g b p) g) (sym is) (record {
      side = side;
      partners = partners;
      here = refl;
      seen = kept.seen;
      deeper =
          ap (λ (q : Place). q.depth) (get_or-set_same growth.places g p _ (omega (arith, few, h.places))) ∙ depth
          ∙ ap (λ (q : Place). q.depth + 1) (sym kept.place);
      fit = ap (λ c. differ c (is_flipped (with_tree_face growth g b p).flipped g)) kept.sign ∙ ap
          (differ (is_flipped growth.flipped from.face.0)) sign ∙ fits;
    }))) (omega (arith, depth, h.shallow from.face.0 seen))

pub fits_then : {mesh : FaceList} {growth : Growth} {from side : Side} (b : Bool) (p : Place) → AreTrees mesh growth
    → ArePartners mesh from side
    → is_seen growth from.face.0 ≡ true → is_seen growth side.face.0 ≡ false → differ (is_flipped growth.flipped from.face.0) b ≡
    runs_alike mesh from side
    → (is_seen (with_tree_face growth side.face.0 b p) side.face.0 ≡ true)
    × Fit mesh (with_tree_face growth side.face.0 b p).flipped from side
fits_then {mesh} {growth} {from} {side} b p h partners seen none fits =
    let g : ℕ = side.face.0 in
    let few : g < length mesh.faces = partners.second.face in
    let kept : IsFaceKept growth (with_tree_face growth g b p) from.face.0 = (with_face_extends growth g b p none).kept from.face.0 seen in
    let sign : is_flipped (with_tree_face growth g b p).flipped g ≡ b = get_or-set_same growth.flipped g b false
    (omega (arith, few, h.signs)) in (
      get_or-set_same growth.seen g true false (omega (arith, few, h.each_face)),
      ap (λ c. differ c (is_flipped (with_tree_face growth g b p).flipped g)) kept.sign
          ∙ ap (differ (is_flipped growth.flipped from.face.0))
          sign ∙ fits,
    )

-- the frontier, as it moves
pub frontier_put : (mesh : FaceList) (growth : Growth) (g : FaceName) (b : Bool) (p : Place) (waiting : List FaceName)
    → AreTrees mesh growth → g.0 < length mesh.faces
    → is_seen growth g.0 ≡ false → IsFrontier mesh growth waiting → IsFrontier mesh (with_tree_face growth g.0 b p) (waiting ++ g ∷ [])
frontier_put mesh growth g b p waiting trees few none h =
    let new : Growth = with_tree_face growth g.0 b p in
    let more : Extends growth new = with_face_extends growth g.0 b p none in
    record {
      queued =
          All-push (λ (f : FaceName). is_seen new f.0 ≡ true) waiting g
          (All-weaker (λ (f : FaceName). is_seen growth f.0 ≡ true) (λ (f : FaceName). is_seen new f.0 ≡ true)
          (λ f seen. (more.kept f.0 seen).seen) waiting h.queued)
          (get_or-set_same growth.seen g.0 true false (omega (arith, few, trees.each_face)));
      explored = λ f seen. elim (seen_before growth g.0 f.0 b p seen) [
        | inl same ↦ inl (subst (Contains (waiting ++ g ∷ [])) (ap (λ n. let name : FaceName = record { 0 = n } in name) (sym same))
            (Contains-push waiting g))
        | inr before ↦ elim (h.explored f before) [
          | inl waits ↦ inl (Contains-append_left waiting (g ∷ []) f waits)
          | inr explored ↦ inr (explored_kept mesh f.0 more before explored)
        ]
      ];
    }

first_or_rest : {A : Type 0} (x y : A) (xs : List A) → Contains (x ∷ xs) y → (x ≡ y) ⊎ Contains xs y
first_or_rest x y xs (zero, l, is) = inl is
first_or_rest x y xs (suc k, l, is) = inr (k, omega arith, is)

-- the last one that waits may be taken as the first
pub frontier_last : {mesh : FaceList} {growth : Growth} (f : FaceName) (waiting : List FaceName)
    → IsFrontier mesh growth (waiting ++ f ∷ []) → IsFrontier mesh growth (f ∷ waiting)
frontier_last {growth} f waiting h = record {
  queued =
      λ k d l. elim (first_or_rest f (get_or (f ∷ waiting) k d) waiting (Contains-get_or (f ∷ waiting) k d l)) [
        | inl same ↦ subst (λ (x : FaceName). is_seen growth x.0 ≡ true) same
            (All-contains (λ (x : FaceName). is_seen growth x.0 ≡ true) (waiting ++ f ∷ []) f h.queued (Contains-push waiting f))
        | inr later ↦ All-contains (λ (x : FaceName). is_seen growth x.0 ≡ true) (waiting ++ f ∷ []) (get_or (f ∷ waiting) k d) h.queued
            (Contains-append_left waiting (f ∷ []) (get_or (f ∷ waiting) k d) later)
      ];
  explored = λ g seen. elim (h.explored g seen) [
    | inl waits ↦ elim (Contains-push_cases waiting f g waits) [
      | inl before ↦ inl (suc before.0, omega (arith, before.1), before.2)
      | inr same ↦ inl (0, omega arith, same)
    ]
    | inr explored ↦ inr explored
  ];
}

-- the first one that waits is explored
pub frontier_done : {mesh : FaceList} {growth : Growth} (f : FaceName) (waiting : List FaceName) → IsFrontier mesh growth (f ∷ waiting)
    → IsExplored mesh growth f.0 → IsFrontier mesh growth waiting
frontier_done {mesh} {growth} f waiting h done = record {
  queued = All-tail (λ (x : FaceName). is_seen growth x.0 ≡ true) f waiting h.queued;
  explored = λ g seen. elim (h.explored g seen) [
    | inl waits ↦ elim (first_or_rest f g waiting waits) [
      | inl same ↦ inr (subst (λ (x : FaceName). IsExplored mesh growth x.0) same done)
      | inr later ↦ inl later
    ]
    | inr explored ↦ inr explored
  ];
}

-- one side more
pub explored_more : (mesh : FaceList) (growth : Growth) (f at : ℕ) (here : Side) → here.face.0 ≡ f → here.at ≡ at
    → IsExploredUpTo mesh growth f at
    → ((other : Side) → ArePartners mesh here other → (is_seen growth other.face.0 ≡ true) × Fit mesh growth.flipped here other) →
    IsExploredUpTo mesh growth f (at + 1)
explored_more mesh growth f at here is_face is_at h one side other partners face below =
    elim (cases_lt side.at at) [
      | inl less ↦ h side other partners face less
      | inr more ↦
          (let same_face : here.face.0 ≡ side.face.0 = is_face ∙ sym face in
          let same_at : here.at ≡ side.at = omega (arith, is_at, below, more) in
          let same : here ≡ side =
          ap (λ n. let s : Side = record { face = record { 0 = n }; at = here.at } in s) same_face
          ∙ ap (λ n. let s : Side = record { face = record { 0 = side.face.0 }; at = n } in s) same_at in
          subst (λ s. (is_seen growth other.face.0 ≡ true) × Fit mesh growth.flipped s other) same
          (one other (subst (λ s. ArePartners mesh s other) (sym same) partners)))
    ]

pub explored_all : (mesh : FaceList) (growth : Growth) (f at : ℕ) → length (face_at mesh f) ≤ at → IsExploredUpTo mesh growth f at
    → IsExplored mesh growth f
explored_all mesh growth f at long h side other partners here =
    h side other partners here (omega (arith, long, partners.first.place, ap (λ n. length (face_at mesh n)) here))

-- where all faces were seen and none waits, the signs are coherent, and the least face of each class is kept
pub all_coherent : {mesh : FaceList} {growth : Growth} → AreTrees mesh growth → IsFrontier mesh growth [] →
    ((f : ℕ) → f < length mesh.faces → is_seen growth f ≡ true)
    → IsCoherent mesh growth.flipped
all_coherent {growth} trees h all = record {
  each_face = trees.signs;
  opposite = λ side other partners. elim (h.explored side.face (all side.face.0 partners.first.face)) [
    | inl waits ↦ absurd (omega (arith, waits.1))
    | inr explored ↦ opposite_if_fit growth.flipped trees.mesh_is partners (explored side other partners refl).1
  ];
}

pub up_joined : {mesh : FaceList} {growth : Growth} {f : ℕ} → IsFoundFrom mesh growth f (tree_place_of growth f).from
    → AreOfOneClass mesh f (tree_place_of growth f).from.face.0
up_joined {mesh} {growth} {f} h =
    joined_step (IsFaceStep mesh) f (tree_place_of growth f).from.face.0 (record {
      side = h.side;
      partner = (tree_place_of growth f).from;
      partners = partners_swap mesh (tree_place_of growth f).from h.side h.partners;
      from = h.here;
      to = refl;
    })

-- the first face of the tree of a face
pub record HasFirst (mesh : FaceList) (growth : Growth) (f : ℕ) : Type 0 where
  pub first : ℕ
  pub is_first : IsFirst mesh growth first
  pub joined : AreOfOneClass mesh f first

first_above : {mesh : FaceList} {growth : Growth} (n f : ℕ) → AreTrees mesh growth → is_seen growth f ≡ true
    → (tree_place_of growth f).depth < n → HasFirst mesh growth f
first_above zero f h seen depth = absurd (omega arith)
first_above {mesh} {growth} (suc n) f h seen depth =
    elim (h.placed f seen) [
      | inl is_first ↦ record { first = f; is_first = is_first; joined = ([], refl) }
      | inr from ↦
          (let parent : ℕ = (tree_place_of growth f).from.face.0 in
          let next : HasFirst mesh growth parent = first_above n parent h from.seen (omega (arith, from.deeper)) in
          record {
            first = next.first;
            is_first = next.is_first;
            joined = joined_trans (IsFaceStep mesh) f parent next.first (up_joined from) next.joined;
          })
    ]

pub has_first : {mesh : FaceList} {growth : Growth} (f : ℕ) → AreTrees mesh growth → is_seen growth f ≡ true → HasFirst mesh growth f
has_first {growth} f h seen = first_above ((tree_place_of growth f).depth + 1) f h seen (omega arith)

pub all_kept : {mesh : FaceList} {growth : Growth} → AreTrees mesh growth → ((f : ℕ) → f < length mesh.faces → is_seen growth f ≡ true)
    → IsLeastKept mesh growth.flipped
all_kept {mesh} {growth} h all f few least =
    elim (h.placed f (all f few)) [
      | inl is_first ↦ is_first.kept
      | inr from ↦
          (let top : HasFirst mesh growth f = has_first f h (all f few) in
          let below : f ≤ top.first = least top.first top.joined in
          let above : top.first ≤ f = top.is_first.least f (joined_back (IsFaceStep mesh) (step_back mesh) f top.first top.joined) in
          let same : top.first ≡ f = omega arith in
          absurd (omega (arith, from.deeper, top.is_first.depth, ap (λ n. (tree_place_of growth n).depth) same)))
    ]

-- of two different faces of one class, one that lies no less deep than the other was found from another
pub deeper_found : {mesh : FaceList} {growth : Growth} (f g : ℕ) → AreTrees mesh growth → is_seen growth f ≡ true
    → is_seen growth g ≡ true → AreOfOneClass mesh f g → f ≢ g
    → (tree_place_of growth g).depth ≤ (tree_place_of growth f).depth → IsFoundFrom mesh growth f (tree_place_of growth f).from
deeper_found {mesh} f g h seen too joined other depth =
    elim (h.placed f seen) [
      | inr from ↦ from
      | inl first ↦ elim (h.placed g too) [
        | inr from ↦ absurd (omega (arith, from.deeper, first.depth))
        | inl second ↦
            (let below : f ≤ g = first.least g joined in
            let above : g ≤ f = second.least f (joined_back (IsFaceStep mesh) (step_back mesh) f g joined) in
            absurd (other (omega arith)))
      ]
    ]

-- there are few faces
faces_few : (count : ℕ) (faces : List (List ℕ)) → All (IsFace count) faces → 3 * length faces ≤ sum_by length faces
faces_few count [] h = omega arith
faces_few count (face ∷ faces) h =
    omega (
      arith,
      (All-head (IsFace count) face faces h).polygon,
      faces_few count faces (All-tail (IsFace count) face faces h),
      sum_by-cons {X = List ℕ} length face faces,
    )

pub few_faces : {mesh : FaceList} → IsFaceList mesh → HasFileSize mesh → 3 * length mesh.faces ≤ MOST_SIDES
few_faces {mesh} h small = omega (arith, faces_few mesh.count mesh.faces h.faces, small.few_sides)

-- the sign that fits
pub fitting : (a b : Bool) → differ a (not (beq a b)) ≡ b
fitting true true = refl
fitting true false = refl
fitting false true = refl
fitting false false = refl
