-- Walks of a renamed mesh.
use Rattle.renaming.proofs.Common.{IsRenamed, ◌≡◌, ℕ, ◌+◌, ◌-◌, ◌<◌, List, length, map, get_or, ap, sym, ◌∙◌, subst, arith, length-map, get_or-map, All-weaker, All-map, IsTrue, FaceList, IsFaceList, is_used, IsWalkBetween, AreJoinedByWalk, IsWalk, HaveCommonEnds, darts}
use Rattle.surf_model.specs.Components.{EachTwoAreJoined}
use Rattle.renaming.proofs.RenamedSides.{used_renamed, edge_renamed, list_restored, led_back}

pub darts_renamed : (there : ℕ → ℕ) (walk : List ℕ) → darts (map there walk) ≡ darts walk
darts_renamed there walk = ap (λ n. n - 1) (length-map walk there)

pub walk_renamed : (there back : ℕ → ℕ) (mesh other : FaceList) (walk : List ℕ) → IsRenamed there back mesh other → IsWalk mesh walk
    → IsWalk other (map there walk)
walk_renamed there back mesh other walk h w = record {
  starts = omega (arith, w.starts, length-map walk there);
  used = All-map (λ v. IsTrue (is_used other v)) there walk
      (All-weaker (λ v. IsTrue (is_used mesh v)) (λ v. IsTrue (is_used other (there v))) (λ v. used_renamed there back mesh other v h) walk
      w.used);
  edges = λ k l.
      let few : k < darts walk = omega (arith, l, darts_renamed there walk) in
      let here : get_or (map there walk) k 0 ≡ there (get_or walk k 0) = get_or-map there walk k 0 0 (omega arith) in
      let next : get_or (map there walk) (k + 1) 0 ≡ there (get_or walk (k + 1) 0) = get_or-map there walk (k + 1) 0 0 (omega arith) in
      rw (here, next) (edge_renamed there back mesh other (get_or walk k 0) (get_or walk (k + 1) 0) h (w.edges k few));
}

-- and the renamed walk, renamed back, is the walk
pub restored : (there back : ℕ → ℕ) (mesh other : FaceList) (walk : List ℕ) → IsRenamed there back mesh other → IsWalk mesh walk
    → map back (map there walk) ≡ walk
restored there back mesh other walk h w =
    list_restored there back walk
    (All-weaker (λ v. IsTrue (is_used mesh v)) (λ v. back (there v) ≡ v) h.leads_back walk w.used)

last_renamed : (there : ℕ → ℕ) (walk : List ℕ) → 0 < length walk
    → get_or (map there walk) (darts (map there walk)) 0 ≡ there (get_or walk (darts walk) 0)
last_renamed there walk some =
    ap (λ k. get_or (map there walk) k 0) (darts_renamed there walk) ∙ get_or-map there walk (darts walk) 0 0 (omega arith)

pub ends_renamed : (there : ℕ → ℕ) (first second : List ℕ) → 0 < length first → 0 < length second → HaveCommonEnds first second
    → HaveCommonEnds (map there first) (map there second)
ends_renamed there first second some others ends = record {
  starts = get_or-map there first 0 0 0 some ∙ ap there ends.starts ∙ sym (get_or-map there second 0 0 0 others);
  ends = last_renamed there first some ∙ ap there ends.ends ∙ sym (last_renamed there second others);
}

between_renamed : (there back : ℕ → ℕ) (mesh other : FaceList) (u v : ℕ) → IsRenamed there back mesh other → AreJoinedByWalk mesh u v
    → AreJoinedByWalk other (there u) (there v)
between_renamed there back mesh other u v h joined =
    let walk : List ℕ = joined.0 in
    let between : IsWalkBetween mesh u v walk = joined.1 in (
      map there walk,
      record {
        walk_of = walk_renamed there back mesh other walk h between.walk_of;
        starts = get_or-map there walk 0 0 0 between.walk_of.starts ∙ ap there between.starts;
        ends = last_renamed there walk between.walk_of.starts ∙ ap there between.ends;
      },
    )

pub joined_renamed : (there back : ℕ → ℕ) (mesh other : FaceList) → IsFaceList mesh → IsRenamed there back mesh other
    → EachTwoAreJoined mesh → EachTwoAreJoined other
joined_renamed there back mesh other valid h joined u v is_u is_v =
    let home : IsRenamed back there other mesh = led_back there back mesh other valid h in
    let between : AreJoinedByWalk other (there (back u)) (there (back v)) =
    between_renamed there back mesh other (back u) (back v) h
    (joined (back u) (back v) (used_renamed back there other mesh u home is_u) (used_renamed back there other mesh v home is_v)) in
    subst (λ x. AreJoinedByWalk other x v) (home.leads_back u is_u)
    (subst (AreJoinedByWalk other (there (back u))) (home.leads_back v is_v) between)
