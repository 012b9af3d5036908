-- Components by number: a component comes after those with lesser least vertices.
use Rattle.manifold_check.proofs.Common.{walk_from_joined, same_from_walk, walk_from_same, AreComponents, ◌≡◌, ◌⊎◌, inl, inr, ℕ, zero, suc, ◌+◌, ◌-◌, ◌<◌, ◌≤◌, Bool, true, false, eqb, cond, List, ◌++◌, [], ◌∷◌, length, get_or, refl, ap, sym, ◌∙◌, subst, arith, cases_Bool, cases_lt, both_ways, eq-eqb, common_steps, ◌&&◌, IsLeastOfComponent, ArePlacesOfComponents, FaceList, IsFaceList, is_used, IsWalkBetween, AreJoinedByWalk, darts}
use Rattle.connectivity.specs.Classes.{AreLeastMembers}
use Rattle.surf_model.proofs.EdgeLemmas.{used_below}

-- how many numbers below n pass
pub rank : (ℕ → Bool) → ℕ → ℕ
rank test zero = 0
rank test (suc n) = rank test n + cond (test n) 1 0

pub rank-more : (test : ℕ → Bool) (n : ℕ) → rank test (n + 1) ≡ rank test n + cond (test n) 1 0
unfolding rank
rank-more test n = (let e : n + 1 ≡ suc n = omega arith in ap (rank test) e)

rank_grows : (test : ℕ → Bool) (m j : ℕ) → rank test m ≤ rank test (m + j)
rank_grows test m zero = (let e : m + 0 ≡ m = omega arith in omega (arith, ap (rank test) e))
rank_grows test m (suc j) =
    let e : m + suc j ≡ m + j + 1 = omega arith in
    omega (arith, ap (rank test) e, rank-more test (m + j), rank_grows test m j)

rank_rises : (test : ℕ → Bool) (m n : ℕ) → m ≤ n → rank test m ≤ rank test n
rank_rises test m n le = (let e : m + (n - m) ≡ n = omega arith in omega (arith, rank_grows test m (n - m), ap (rank test) e))

pub rank_within : (test : ℕ → Bool) (n : ℕ) → rank test n ≤ n
unfolding rank
rank_within test zero = omega arith
rank_within test (suc n) = omega (arith, rank_within test n, one_at_most (test n))
  where
    one_at_most : (b : Bool) → cond b 1 0 ≤ 1
    one_at_most true = omega arith
    one_at_most false = omega arith

-- one that passes has a lesser rank than what comes after it
pub rank_below : (test : ℕ → Bool) (m n : ℕ) → test m ≡ true → m < n → rank test m < rank test n
rank_below test m n passes less =
    omega (arith, rank-more test m, ap {B = ℕ} (λ b. cond b 1 0) passes, rank_rises test (m + 1) n (omega arith))

rank_once : (test : ℕ → Bool) (m n : ℕ) → test m ≡ true → test n ≡ true → rank test m ≡ rank test n → m ≡ n
rank_once test m n one other same = grind (arith, rank_below)

-- one that passes and has a given rank
record HasRank (test : ℕ → Bool) (n k : ℕ) : Type 0 where
  number : ℕ
  below : number < n
  passes : test number ≡ true
  is : rank test number ≡ k

each_rank : (test : ℕ → Bool) (n k : ℕ) → k < rank test n → HasRank test n k
unfolding rank
each_rank test zero k l = absurd (omega arith)
each_rank test (suc n) k l =
    elim (cases_lt k (rank test n)) [
      | inl less ↦
          (let found : HasRank test n k = each_rank test n k less in
          record { number = found.number; below = omega (arith, found.below); passes = found.passes; is = found.is })
      | inr le ↦ elim (cases_Bool (test n)) [
        | inl passes ↦ record {
          number = n;
          below = omega arith;
          passes = passes;
          is = omega (arith, le, l, ap {B = ℕ} (λ b. cond b 1 0) passes);
        }
        | inr fails ↦ absurd (omega (arith, le, l, ap {B = ℕ} (λ b. cond b 1 0) fails))
      ]
    ]

-- whether the vertex is used and the least of its class
pub leads : FaceList → List ℕ → ℕ → Bool
leads mesh least v = is_used mesh v && eqb (get_or least v 0) v

leads_used : (mesh : FaceList) (least : List ℕ) (v : ℕ) → leads mesh least v ≡ true → (is_used mesh v ≡ true) × (get_or least v 0 ≡ v)
unfolding leads
leads_used mesh least v h = grind arith

used_leads : (mesh : FaceList) (least : List ℕ) (v : ℕ) → is_used mesh v ≡ true → get_or least v 0 ≡ v → leads mesh least v ≡ true
unfolding leads
used_leads mesh least v used same = rw (used, eq-eqb (get_or least v 0) v same) refl

not_leads : (mesh : FaceList) (least : List ℕ) (v : ℕ) → (is_used mesh v ≡ false) ⊎ (get_or least v 0 ≡ v → ⊥) → leads mesh least v ≡ false
not_leads mesh least v h = grind (arith, leads, leads_used)

-- for each vertex its least, of a mesh with so many vertices
pub record AreLeasts (mesh : FaceList) (least : List ℕ) : Type 0 where
  pub valid : IsFaceList mesh
  pub components : AreComponents mesh least
  pub members : AreLeastMembers least
  pub count : length least ≡ mesh.count

-- the vertices below n have the ranks of their leasts, and `count` of them lead
pub record AreNumbered (mesh : FaceList) (least : List ℕ) (n count : ℕ) (places : List ℕ) : Type 0 where
  pub long : length places ≡ n
  pub ranked : (v : ℕ) → v < n → is_used mesh v ≡ true → get_or places v 0 ≡ rank (leads mesh least) (get_or least v 0)
  pub counted : count ≡ rank (leads mesh least) n

-- the least of a used vertex is used
least_used : (mesh : FaceList) (least : List ℕ) (v : ℕ) → AreLeasts mesh least → is_used mesh v ≡ true
    → is_used mesh (get_or least v 0) ≡ true
least_used mesh least v h used =
    let below : v < length least = omega (arith, h.count, used_below mesh v h.valid used) in
    let first : ℕ = get_or least v 0 in
    let within : first < mesh.count = omega (arith, h.members.lesser v below, h.count, below) in
    let walk : AreJoinedByWalk mesh v first = grind (arith, walk_from_joined) in
    let is : IsWalkBetween mesh v first walk.0 = walk.1 in
    subst (λ x. is_used mesh x ≡ true) is.ends (is.walk_of.used (darts walk.0) 0 (omega (arith, is.walk_of.starts)))

pub least_leads : (mesh : FaceList) (least : List ℕ) (v : ℕ) → AreLeasts mesh least → is_used mesh v ≡ true
    → leads mesh least (get_or least v 0) ≡ true
least_leads mesh least v h used = grind (arith, used_below, used_leads, least_used)

-- a vertex leads exactly where it is the least of its component
leads_is_least : (mesh : FaceList) (least : List ℕ) (v : ℕ) → AreLeasts mesh least → leads mesh least v ≡ true → IsLeastOfComponent mesh v
leads_is_least mesh least v h is =
    let both = leads_used mesh least v is in
    record {
      used = both.0;
      least = λ w less walk.
          let below : w < length least = omega (arith, less, h.count, used_below mesh v h.valid both.0) in
          omega (arith, less, h.members.lesser w below, same_from_walk mesh least v w h.components walk, both.1);
    }

least_is_itself : (mesh : FaceList) (least : List ℕ) (v : ℕ) → AreLeasts mesh least → IsLeastOfComponent mesh v → get_or least v 0 ≡ v
least_is_itself mesh least v h is =
    let below : v < length least = omega (arith, h.count, used_below mesh v h.valid is.used) in
    let first : ℕ = get_or least v 0 in
    elim (cases_lt first v) [
      | inl less ↦
          absurd
          (is.least first less
          (walk_from_same mesh least v first h.valid h.components is.used (least_used mesh least v h is.used)
          (sym (h.members.itself v below))))
      | inr le ↦ omega (arith, le, h.members.lesser v below)
    ]

pub places_of_components : (mesh : FaceList) (least : List ℕ) (count : ℕ) (places : List ℕ) → AreLeasts mesh least
    → AreNumbered mesh least mesh.count count places → ArePlacesOfComponents mesh count places
places_of_components mesh least count places h n =
    let test : ℕ → Bool = leads mesh least in
    let at : (v : ℕ) → is_used mesh v ≡ true → get_or places v 0 ≡ rank test (get_or least v 0) =
    λ v used. n.ranked v (used_below mesh v h.valid used) used in
    record {
      each_vertex = n.long;
      below = λ v used. grind (arith, used_below, rank_below, least_leads);
      joined = λ u v used_u used_v. (
        λ same.
            walk_from_same mesh least u v h.valid h.components used_u used_v
            (rank_once test (get_or least u 0) (get_or least v 0) (least_leads mesh least u h used_u) (least_leads mesh least v h used_v)
            (sym (at u used_u) ∙ same ∙ at v used_v)),
        λ walk. at u used_u ∙ ap (rank test) (same_from_walk mesh least u v h.components walk) ∙ sym (at v used_v),
      );
      each_place = λ k l.
          let found : HasRank test mesh.count k = each_rank test mesh.count k (omega (arith, l, n.counted)) in
          let both = leads_used mesh least found.number found.passes in
          record {
            vertex = found.number;
            least = leads_is_least mesh least found.number h found.passes;
            place = at found.number both.0 ∙ ap (rank test) both.1 ∙ found.is;
          };
      in_order = λ u v is_u is_v less.
          let same_u : get_or least u 0 ≡ u = least_is_itself mesh least u h is_u in
          let same_v : get_or least v 0 ≡ v = least_is_itself mesh least v h is_v in
          omega (
            arith,
            at u is_u.used,
            at v is_v.used,
            ap (rank test) same_u,
            ap (rank test) same_v,
            rank_below test u v (used_leads mesh least u is_u.used same_u) less,
          );
    }

-- the vertices come one by one
pub numbered_none : (mesh : FaceList) (least : List ℕ) → AreNumbered mesh least 0 0 []
unfolding rank
numbered_none mesh least = record { long = refl; ranked = λ v l. absurd (omega arith); counted = refl }

numbered_more : (mesh : FaceList) (least : List ℕ) (n count place more : ℕ) (places : List ℕ) → AreNumbered mesh least n count places
    → (is_used mesh n ≡ true → place ≡ rank (leads mesh least) (get_or least n 0)) → more ≡ count + cond (leads mesh least n) 1 0
    → AreNumbered mesh least (n + 1) more (places ++ place ∷ [])
numbered_more mesh least n count place more places h here next = grind (arith, common_steps, rank, leads, rank-more)

-- a vertex that leads gets the next number
pub numbered_first : (mesh : FaceList) (least : List ℕ) (n count : ℕ) (places : List ℕ) → AreNumbered mesh least n count places
    → is_used mesh n ≡ true → get_or least n 0 ≡ n → AreNumbered mesh least (n + 1) (count + 1) (places ++ count ∷ [])
numbered_first mesh least n count places h used same =
    let is : leads mesh least n ≡ true = used_leads mesh least n used same in
    numbered_more mesh least n count count (count + 1) places h (λ u. h.counted ∙ ap (rank (leads mesh least)) (sym same))
    (omega (arith, ap {B = ℕ} (λ b. cond b 1 0) is))

-- another used vertex gets that of its least
pub numbered_later : (mesh : FaceList) (least : List ℕ) (n count : ℕ) (places : List ℕ) → AreLeasts mesh least
    → AreNumbered mesh least n count places → is_used mesh n ≡ true → (get_or least n 0 ≡ n → ⊥)
    → AreNumbered mesh least (n + 1) count (places ++ get_or places (get_or least n 0) 0 ∷ [])
numbered_later mesh least n count places leasts h used other =
    let below : n < length least = omega (arith, leasts.count, used_below mesh n leasts.valid used) in
    let first : ℕ = get_or least n 0 in
    let before : first < n = omega (arith, leasts.members.lesser n below, other) in
    let fails : leads mesh least n ≡ false = not_leads mesh least n (inr other) in
    numbered_more mesh least n count (get_or places first 0) count places h
    (λ u. h.ranked first before (least_used mesh least n leasts used) ∙ ap (rank (leads mesh least)) (leasts.members.itself n below))
    (omega (arith, ap {B = ℕ} (λ b. cond b 1 0) fails))

-- an unused vertex gets any
pub numbered_unused : (mesh : FaceList) (least : List ℕ) (n count place : ℕ) (places : List ℕ) → AreNumbered mesh least n count places
    → is_used mesh n ≡ false → AreNumbered mesh least (n + 1) count (places ++ place ∷ [])
numbered_unused mesh least n count place places h unused =
    let fails : leads mesh least n ≡ false = not_leads mesh least n (inl unused) in
    numbered_more mesh least n count place count places h (λ used. absurd (both_ways (is_used mesh n) unused used))
    (omega (arith, ap {B = ℕ} (λ b. cond b 1 0) fails))
