-- What a push across a quad does to the loop of a list of spokes, up to spurs: nothing, but across the quad of the last side it puts the
-- loop of the last side in.
use Rattle.quad_system.proofs.Common.{rotation_system, OrientedMesh, IsOrientedSurface, rotations_of, IsGroup, loop_mul, loop_inv, loop_one, Crosses, sides_cross, spoke_product, ends_at_vertex, loop_in, free_push, Loops, spoke, up_plain, PolygonView, IsCutFrom, place_of, across, one_up, ◌≡◌, ◌≢◌, ℕ, suc, ◌+◌, ◌-◌, ◌<◌, Bool, true, false, not, List, [], ◌∷◌, ◌++◌, ap, sym, ◌∙◌, subst, arith, nat_tests, after_dart, SplitView, IsSplit, in_cotree, is_left, add}
use Rattle.polygon_cut.proofs.FreeLoopLemmas.{SameFreely}
use Rattle.polygon_cut.proofs.FreeQuadLemmas.{FreeQuads, free_quads, last_loop, last_pushes}
use Rattle.polygon_cut.proofs.FreeSpokeLemmas.{free_group}
use Rattle.quad_system.proofs.PolygonLabelLemmas.{up_is_add}
use Rattle.quad_system.proofs.SpokeProductLemmas.{polygon_quads, spoke_at}
use Rattle.quad_system.proofs.PushPathLemmas.{IsQuadWheel, upper_side, lower_side}

-- the wheel of a polygon
pub polygon_wheel : (s : OrientedMesh) (split : SplitView) (o : IsOrientedSurface s) (t : IsSplit s split) (polygon : PolygonView)
    (c : IsCutFrom s split polygon) → 0 < polygon.degree
    → IsQuadWheel polygon.degree (place_of polygon) (spoke_at polygon) (across (rotations_of s) polygon)
polygon_wheel s split o t polygon c some = (polygon_quads s split o t polygon c some).wheel

-- the loop of a list of spokes
abbrev pub loop_of_path : (s : OrientedMesh) (split : SplitView) → IsOrientedSurface s → (t : IsSplit s split) → PolygonView → List ℕ
    → Loops s split t
loop_of_path s split o t polygon path = spoke_product loop_mul loop_inv (loop_one s.mesh t.parents.root t.parents.root_used)
    (spoke s split o t polygon) true path

-- the spokes behind which the loop of the last side goes in, at the vertex or in the middle, where the side pushed over is the last one, or
-- the one across from it
abbrev pub front_of_last : ℕ → Bool → List ℕ
front_of_last k true = []
front_of_last k false = suc k ∷ []

abbrev pub front_of_across : ℕ → ℕ → Bool → List ℕ
front_of_across z k true = k ∷ suc k ∷ []
front_of_across z k false = z ∷ []

-- a push down over the side a, behind some spokes
pub record DownWorth (s : OrientedMesh) (split : SplitView) (o : IsOrientedSurface s) (t : IsSplit s split) (polygon : PolygonView)
    (at_vertex : Bool) (a : ℕ) (before after : List ℕ) : Type 0 where
  pub other : a ≢ polygon.degree - 1 → a ≢ across (rotations_of s) polygon (polygon.degree - 1)
      → SameFreely (loop_of_path s split o t polygon (before
      ++ upper_side polygon.degree (across (rotations_of s) polygon) at_vertex a after))
      (loop_of_path s split o t polygon (before ++ lower_side polygon.degree (across (rotations_of s) polygon) at_vertex a after))
  pub last : a ≡ polygon.degree - 1
      → SameFreely (loop_of_path s split o t polygon (before
      ++ lower_side polygon.degree (across (rotations_of s) polygon) at_vertex a after))
      (loop_in loop_mul loop_inv (loop_of_path s split o t polygon
      (before ++ front_of_last (across (rotations_of s) polygon (polygon.degree - 1)) at_vertex)) (last_loop s split o t polygon)
      (loop_of_path s split o t polygon (before ++ upper_side polygon.degree (across (rotations_of s) polygon) at_vertex a after)))
  pub opposite : a ≡ across (rotations_of s) polygon (polygon.degree - 1)
      → SameFreely (loop_of_path s split o t polygon (before
      ++ lower_side polygon.degree (across (rotations_of s) polygon) at_vertex a after))
      (loop_in loop_mul loop_inv (loop_of_path s split o t polygon
      (before ++ front_of_across (polygon.degree - 1) (across (rotations_of s) polygon (polygon.degree - 1)) at_vertex))
      (last_loop s split o t polygon)
      (loop_of_path s split o t polygon (before ++ upper_side polygon.degree (across (rotations_of s) polygon) at_vertex a after)))

pub down_worth : (s : OrientedMesh) (split : SplitView) (o : IsOrientedSurface s) (t : IsSplit s split) (polygon : PolygonView)
    (c : IsCutFrom s split polygon) → 0 < polygon.degree
    → (at_vertex : Bool) (a : ℕ) (before after : List ℕ) → a < polygon.degree → ends_at_vertex true before ≡ at_vertex
    → DownWorth s split o t polygon at_vertex a before after
down_worth s split o t polygon c some at_vertex a before after l parity = record {
  other = λ ne nk. other at_vertex parity ne nk;
  last = λ e. subst (λ x. Last at_vertex x) (sym e) (last at_vertex parity);
  opposite = λ e. subst (λ x. Opposite at_vertex x) (sym e) (opposite at_vertex parity);
}
  where
    degree : ℕ
    degree = polygon.degree

    z : ℕ
    z = polygon.degree - 1

    partner : ℕ → ℕ
    partner = across (rotations_of s) polygon

    k : ℕ
    k = across (rotations_of s) polygon (polygon.degree - 1)

    nothing : Loops s split t
    nothing = loop_one s.mesh t.parents.root t.parents.root_used

    g : IsGroup {X = Loops s split t} SameFreely loop_mul loop_inv nothing
    g = free_group s split t

    I : List ℕ → Loops s split t
    I path = loop_of_path s split o t polygon path

    loop : Loops s split t
    loop = last_loop s split o t polygon

    cross : Crosses polygon.degree (across (rotations_of s) polygon)
    cross = sides_cross (rotations_of s) (after_dart (rotations_of s) (λ e. not (in_cotree split e))) (is_left split) polygon
        (rotation_system s o) (c.labels some)

    z_in : polygon.degree - 1 < polygon.degree
    z_in = omega arith

    plain : (x : ℕ) → x < polygon.degree → x ≢ polygon.degree - 1 → add polygon.degree x 1 ≡ suc x
    plain x m ne =
        let more : x + 1 ≢ polygon.degree = omega arith in
        up_is_add polygon.degree x m ∙ up_plain polygon.degree x more ∙ omega arith

    wraps : add polygon.degree (polygon.degree - 1) 1 ≡ 0
    wraps = up_is_add polygon.degree (polygon.degree - 1) z_in ∙ goes_round polygon.degree some
      where
        goes_round : (n : ℕ) → 0 < n → one_up n (n - 1) ≡ 0
        goes_round n m = grind (arith, nat_tests)

    k_up : add polygon.degree k 1 ≡ suc k
    k_up = plain k (cross.below (polygon.degree - 1) z_in) (cross.other (polygon.degree - 1) z_in)

    k_back : partner k ≡ z
    k_back = cross.back (polygon.degree - 1) z_in

    Last : Bool → ℕ → Type 0
    Last flag x =
        SameFreely (I (before ++ lower_side degree partner flag x after))
        (loop_in loop_mul loop_inv (I (before ++ front_of_last k flag)) loop (I (before ++ upper_side degree partner flag x after)))

    Opposite : Bool → ℕ → Type 0
    Opposite flag x =
        SameFreely (I (before ++ lower_side degree partner flag x after))
        (loop_in loop_mul loop_inv (I (before ++ front_of_across z k flag)) loop (I (before ++ upper_side degree partner flag x after)))

    last : (flag : Bool) → ends_at_vertex true before ≡ flag → Last flag z
    last true p =
        subst (λ n. SameFreely (I (before ++ (n ∷ k ∷ after)))
        (loop_in loop_mul loop_inv (I (before ++ [])) loop (I (before ++ (z ∷ add degree z 1 ∷ after))))) (sym k_up)
        (subst (λ n. SameFreely (I (before ++ (suc k ∷ k ∷ after)))
        (loop_in loop_mul loop_inv (I (before ++ [])) loop (I (before ++ (z ∷ n ∷ after))))) (sym wraps)
        ((last_pushes s split o t polygon c some).from_last before after p))
    last false p =
        subst (λ n. SameFreely (I (before ++ (k ∷ n ∷ after)))
        (loop_in loop_mul loop_inv (I (before ++ (suc k ∷ []))) loop (I (before ++ (add degree k 1 ∷ z ∷ after))))) (sym wraps)
        (subst (λ n. SameFreely (I (before ++ (k ∷ 0 ∷ after)))
        (loop_in loop_mul loop_inv (I (before ++ (suc k ∷ []))) loop (I (before ++ (n ∷ z ∷ after))))) (sym k_up)
        ((last_pushes s split o t polygon c some).round_tail before after p))

    opposite : (flag : Bool) → ends_at_vertex true before ≡ flag → Opposite flag k
    opposite true p =
        subst (λ n. SameFreely (I (before ++ (add degree n 1 ∷ n ∷ after)))
        (loop_in loop_mul loop_inv (I (before ++ (k ∷ suc k ∷ []))) loop (I (before ++ (k ∷ add degree k 1 ∷ after))))) (sym k_back)
        (subst (λ n. SameFreely (I (before ++ (n ∷ z ∷ after)))
        (loop_in loop_mul loop_inv (I (before ++ (k ∷ suc k ∷ []))) loop (I (before ++ (k ∷ add degree k 1 ∷ after))))) (sym wraps)
        (subst (λ n. SameFreely (I (before ++ (0 ∷ z ∷ after)))
        (loop_in loop_mul loop_inv (I (before ++ (k ∷ suc k ∷ []))) loop (I (before ++ (k ∷ n ∷ after))))) (sym k_up)
        ((last_pushes s split o t polygon c some).to_last before after p)))
    opposite false p =
        subst (λ n. SameFreely (I (before ++ (n ∷ add degree k 1 ∷ after)))
        (loop_in loop_mul loop_inv (I (before ++ (z ∷ []))) loop (I (before ++ (add degree n 1 ∷ k ∷ after))))) (sym k_back)
        (subst (λ n. SameFreely (I (before ++ (z ∷ add degree k 1 ∷ after)))
        (loop_in loop_mul loop_inv (I (before ++ (z ∷ []))) loop (I (before ++ (n ∷ k ∷ after))))) (sym wraps)
        (subst (λ n. SameFreely (I (before ++ (z ∷ n ∷ after)))
        (loop_in loop_mul loop_inv (I (before ++ (z ∷ []))) loop (I (before ++ (0 ∷ k ∷ after))))) (sym k_up)
        ((last_pushes s split o t polygon c some).round_head before after p)))

    other : (flag : Bool) → ends_at_vertex true before ≡ flag → a ≢ z → a ≢ k
        → SameFreely (I (before ++ upper_side degree partner flag a after)) (I (before ++ lower_side degree partner flag a after))
    other flag p ne nk = by flag p
      where
        b : ℕ
        b = partner a

        a_up : add degree a 1 ≡ suc a
        a_up = plain a l ne

        b_up : add degree b 1 ≡ suc b
        b_up = plain b (cross.below a l) (λ e. nk (sym (cross.back a l) ∙ ap partner e))

        quads : FreeQuads {X = Loops s split t} SameFreely loop_mul loop_inv nothing (spoke s split o t polygon) polygon.degree
            (across (rotations_of s) polygon)
        quads = free_quads s split o t polygon c

        by : (which : Bool) → ends_at_vertex true before ≡ which
            → SameFreely (I (before ++ upper_side degree partner which a after)) (I (before ++ lower_side degree partner which a after))
        by true e =
            subst (λ n. SameFreely (I (before ++ (a ∷ n ∷ after))) (I (before ++ (add degree b 1 ∷ b ∷ after)))) (sym a_up)
            (subst (λ n. SameFreely (I (before ++ (a ∷ suc a ∷ after))) (I (before ++ (n ∷ b ∷ after)))) (sym b_up)
            (free_push SameFreely loop_mul loop_inv nothing g (spoke s split o t polygon) true before after a (suc a) (suc b) b e
            (quads.round_middle a l)))
        by false e =
            subst (λ n. SameFreely (I (before ++ (add degree b 1 ∷ a ∷ after))) (I (before ++ (b ∷ n ∷ after)))) (sym a_up)
            (subst (λ n. SameFreely (I (before ++ (n ∷ a ∷ after))) (I (before ++ (b ∷ suc a ∷ after)))) (sym b_up)
            (free_push SameFreely loop_mul loop_inv nothing g (spoke s split o t polygon) false before after (suc b) a b (suc a) e
            (quads.round_vertex a l)))

-- the loop put in, or its inverse
abbrev pub signed_loop : (s : OrientedMesh) (split : SplitView) → IsOrientedSurface s → (t : IsSplit s split) → PolygonView → Bool
    → Loops s split t
signed_loop s split o t polygon false = last_loop s split o t polygon
signed_loop s split o t polygon true = loop_inv (last_loop s split o t polygon)
