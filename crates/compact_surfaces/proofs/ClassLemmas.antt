-- Classes of walks above a mesh, in its double or in a cover, are those of the walks of the mesh.
use Rattle.compact_surfaces.proofs.Common.{FreelyHomotopic, IsClosedWalk, keeps_free_homotopy, keeps_homotopy, kept_walk, double_of, lift_is_walk, lifts_homotopic, cover_by, lift_by, AreWays, ◌≡◌, ◌⊎◌, ◌↔◌, ℕ, ◌<◌, ◌≤◌, Bool, List, [], length, map, get_or, take, refl, ap, sym, ◌∙◌, subst, inl, inr, arith, get_or-map, get_or-take, length-map, length-take-le, IfErr, IfOk, Result, Ok, Err, list_keeps_ends, FaceList, IsFaceList, Homotopic, IsWalk, walk_at, IsClassFault, IsFirstNoWalk, AreClasses, AreInOneClass, IsLeastInClass, NoWalk}
use Rattle.std.specs.Global.{Vec}
use Rattle.walk_classes.specs.declared.fault.ClassFault.{ClassFault}
use Rattle.walk_classes.specs.declared.fault.ClassFault.TheVariants.{OutOfMemory}
use Rattle.compact_surfaces.proofs.FoundLemmas.{LiesBelow, walk_below, walk_lies_below}

-- walks of a mesh, and as many above it, of which two are homotopic exactly where those of the mesh are
record AreAbove (mesh above : FaceList) (walks others : List (List ℕ)) : Type 0 where
  pub each_walk : length others ≡ length walks
  pub are_walks : (i : ℕ) → i < length walks → IsWalk mesh (walk_at walks i)
  pub others_are : (i : ℕ) → i < length walks → IsWalk above (walk_at others i)
  pub homotopic : (i j : ℕ) → i < length walks → j < length walks
      → Homotopic above (walk_at others i) (walk_at others j) ↔ Homotopic mesh (walk_at walks i) (walk_at walks j)

-- homotopic walks have common ends
in_one : (mesh : FaceList) (first second : List ℕ) → IsWalk mesh first → Homotopic mesh first second → AreInOneClass mesh first second
in_one mesh first second w h = record { ends = list_keeps_ends mesh h.0 first second w.starts h.1; homotopic = h }

classes_above : (mesh above : FaceList) (walks others : List (List ℕ)) (numbers : List ℕ) → AreAbove mesh above walks others
    → AreClasses above others numbers → AreClasses mesh walks numbers
classes_above mesh above walks others numbers are h =
    let down : (i j : ℕ) → i < length walks → j < length walks → AreInOneClass above (walk_at others i) (walk_at others j)
    → AreInOneClass mesh (walk_at walks i) (walk_at walks j) =
    λ i j l m same. in_one mesh (walk_at walks i) (walk_at walks j) (are.are_walks i l) ((are.homotopic i j l m).0 same.homotopic) in
    let up : (i j : ℕ) → i < length walks → j < length walks → AreInOneClass mesh (walk_at walks i) (walk_at walks j)
    → AreInOneClass above (walk_at others i) (walk_at others j) =
    λ i j l m same. in_one above (walk_at others i) (walk_at others j) (are.others_are i l) ((are.homotopic i j l m).1 same.homotopic) in
    record {
      each_walk = h.each_walk ∙ are.each_walk;
      are_walks = are.are_walks;
      least = λ i l.
          let least : IsLeastInClass above others (walk_at others i) (get_or numbers i 0) = h.least i (omega (arith, l, are.each_walk)) in
          let within : get_or numbers i 0 < length walks = omega (arith, least.within, are.each_walk) in
          record {
            within = within;
            alike = down (get_or numbers i 0) i within l least.alike;
            least = λ j less same. least.least j less (up j i (omega (arith, less, within)) l same);
          };
    }

-- ---- the double

module _ (mesh closed : FaceList) (valid : IsFaceList mesh) (answers : (closed ≡ mesh) ⊎ (closed ≡ double_of mesh)) where
  walk_on_mesh : (walk : List ℕ) → LiesBelow mesh.count walk → IsWalk closed walk → IsWalk mesh walk
  walk_on_mesh walk below w =
      elim answers [
        | inl same ↦ subst (λ (m : FaceList). IsWalk m walk) same w
        | inr double ↦ walk_below mesh walk valid below (subst (λ (m : FaceList). IsWalk m walk) double w)
      ]

  walk_stays : (walk : List ℕ) → IsWalk mesh walk → IsWalk closed walk
  walk_stays walk w =
      elim answers [
        | inl same ↦ subst (λ (m : FaceList). IsWalk m walk) (sym same) w
        | inr double ↦ subst (λ (m : FaceList). IsWalk m walk) (sym double) (kept_walk mesh walk w)
      ]

  homotopic_on_mesh : (first second : List ℕ) → IsWalk mesh first → IsWalk mesh second
      → Homotopic closed first second ↔ Homotopic mesh first second
  homotopic_on_mesh first second w v =
      elim answers [
        | inl same ↦ subst (λ (m : FaceList). Homotopic m first second ↔ Homotopic mesh first second) (sym same) ((λ h. h), (λ h. h))
        | inr double ↦
            subst (λ (m : FaceList). Homotopic m first second ↔ Homotopic mesh first second) (sym double)
            (keeps_homotopy mesh first second valid w v)
      ]

  pub classes_on_mesh : (walks : List (List ℕ)) (numbers : List ℕ)
      → ((i : ℕ) → i < length walks → LiesBelow mesh.count (walk_at walks i)) → AreClasses closed walks numbers
      → AreClasses mesh walks numbers
  classes_on_mesh walks numbers below h =
      let are : (i : ℕ) → i < length walks → IsWalk mesh (walk_at walks i) =
      λ i l. walk_on_mesh (walk_at walks i) (below i l) (h.are_walks i l) in
      classes_above mesh closed walks walks numbers
      (record {
        each_walk = refl;
        are_walks = are;
        others_are = h.are_walks;
        homotopic = λ i j l m. homotopic_on_mesh (walk_at walks i) (walk_at walks j) (are i l) (are j m);
      }) h

  -- what is wrong with the first walks, which have no vertex in the mirror
  pub fault_on_mesh : (walks : List (List ℕ)) (n : ℕ) (fault : ClassFault) → n ≤ length walks
      → ((i : ℕ) → i < n → LiesBelow mesh.count (walk_at walks i)) → IsClassFault closed (take n walks) fault
      → IsClassFault mesh walks fault
  fault_on_mesh walks n OutOfMemory few below h = tt
  fault_on_mesh walks n (NoWalk place) few below h =
      let within : place < n = omega (arith, h.within, length-take-le n walks few) in
      let same : (i : ℕ) → i < n → walk_at (take n walks) i ≡ walk_at walks i = λ i l. get_or-take n walks i [] l in
      record {
        within = omega (arith, within, few);
        no_walk = λ w. h.no_walk (subst (IsWalk closed) (sym (same place within)) (walk_stays (walk_at walks place) w));
        before = λ i l.
            let less : i < n = omega (arith, l, within) in
            walk_on_mesh (walk_at walks i) (below i less) (subst (IsWalk closed) (same i less) (h.before i l));
      }

  -- the first walks have classes, and the next one has a vertex in the mirror
  pub next_is_none : (walks : List (List ℕ)) (n : ℕ) (numbers : List ℕ) → n < length walks
      → ((i : ℕ) → i < n → LiesBelow mesh.count (walk_at walks i)) → (LiesBelow mesh.count (walk_at walks n) → ⊥)
      → AreClasses closed (take n walks) numbers → IsFirstNoWalk mesh walks n
  next_is_none walks n numbers more below not h = record {
    within = more;
    no_walk = λ w. not (walk_lies_below mesh (walk_at walks n) valid w);
    before = λ i l.
        walk_on_mesh (walk_at walks i) (below i l)
        (subst (IsWalk closed) (get_or-take n walks i [] l) (h.are_walks i (omega (arith, l, more, length-take-le n walks))));
  }

-- ---- closed walks on the double

module _ (mesh closed : FaceList) (valid : IsFaceList mesh) (answers : (closed ≡ mesh) ⊎ (closed ≡ double_of mesh)) where
  pub closed_stays : (walk : List ℕ) → IsClosedWalk mesh walk → IsClosedWalk closed walk
  closed_stays walk h = record { is_walk = walk_stays mesh closed valid answers walk h.is_walk; closed = h.closed }

  pub free_on_mesh : (first second : List ℕ) → IsClosedWalk mesh first → IsClosedWalk mesh second
      → FreelyHomotopic closed first second ↔ FreelyHomotopic mesh first second
  free_on_mesh first second w v =
      elim answers [
        | inl same ↦
            subst (λ (m : FaceList). FreelyHomotopic m first second ↔ FreelyHomotopic mesh first second) (sym same) ((λ h. h), (λ h. h))
        | inr double ↦
            subst (λ (m : FaceList). FreelyHomotopic m first second ↔ FreelyHomotopic mesh first second) (sym double)
            (keeps_free_homotopy mesh first second valid w v)
      ]

-- ---- the cover

module _ (mesh cover : FaceList) (bits : List Bool) (walks lifts : List (List ℕ)) (valid : IsFaceList mesh) (ways : AreWays mesh bits)
    (is_cover : cover ≡ cover_by mesh bits) (are_walks : (i : ℕ) → i < length walks → IsWalk mesh (walk_at walks i))
    (are_lifts : lifts ≡ map (lift_by mesh bits) walks) where
  lift_at : (i : ℕ) → i < length walks → walk_at lifts i ≡ lift_by mesh bits (walk_at walks i)
  lift_at i l = ap (λ (ws : List (List ℕ)). walk_at ws i) are_lifts ∙ get_or-map (lift_by mesh bits) walks i [] [] l

  as_many : length lifts ≡ length walks
  as_many = ap length are_lifts ∙ length-map walks (lift_by mesh bits)

  lifts_are_walks : (i : ℕ) → i < length walks → IsWalk cover (walk_at lifts i)
  lifts_are_walks i l =
      subst (λ (c : FaceList). IsWalk c (walk_at lifts i)) (sym is_cover)
      (subst (IsWalk (cover_by mesh bits)) (sym (lift_at i l)) (lift_is_walk mesh bits (walk_at walks i) valid ways (are_walks i l)))

  homotopic_above : (i j : ℕ) → i < length walks → j < length walks
      → Homotopic cover (walk_at lifts i) (walk_at lifts j) ↔ Homotopic mesh (walk_at walks i) (walk_at walks j)
  homotopic_above i j l m =
      let first : List ℕ = walk_at walks i in
      let second : List ℕ = walk_at walks j in
      subst (λ (c : FaceList). Homotopic c (walk_at lifts i) (walk_at lifts j) ↔ Homotopic mesh first second) (sym is_cover)
      (subst (λ (w : List ℕ). Homotopic (cover_by mesh bits) w (walk_at lifts j) ↔ Homotopic mesh first second) (sym (lift_at i l))
      (subst (λ (w : List ℕ). Homotopic (cover_by mesh bits) (lift_by mesh bits first) w ↔ Homotopic mesh first second)
      (sym (lift_at j m)) (lifts_homotopic mesh bits first second valid ways (are_walks i l) (are_walks j m))))

  pub classes_below : (numbers : List ℕ) → AreClasses cover lifts numbers → AreClasses mesh walks numbers
  classes_below numbers h =
      classes_above mesh cover walks lifts numbers
      (record { each_walk = as_many; are_walks = are_walks; others_are = lifts_are_walks; homotopic = homotopic_above }) h

  -- lifts are walks, so memory alone can be wanting
  pub fault_below : (fault : ClassFault) → IsClassFault cover lifts fault → IsClassFault mesh walks fault
  fault_below OutOfMemory h = tt
  fault_below (NoWalk place) h = absurd (h.no_walk (lifts_are_walks place (omega (arith, h.within, as_many))))

  pub classes_end : (end : Result (Vec ℕ) ClassFault) → IfOk end (λ numbers. AreClasses cover lifts numbers.items)
      → IfOk end (λ numbers. AreClasses mesh walks numbers.items)
  classes_end (Ok numbers) h = classes_below numbers.items h
  classes_end (Err fault) h = tt

  pub fault_end : (end : Result (Vec ℕ) ClassFault) → IfErr end (IsClassFault cover lifts) → IfErr end (IsClassFault mesh walks)
  fault_end (Ok numbers) h = tt
  fault_end (Err fault) h = fault_below fault h
