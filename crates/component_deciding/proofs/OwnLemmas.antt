-- The vertices that a mesh uses, by number: each has its own, and they lead to the mesh over them alone.
use Rattle.component_deciding.proofs.Common.{own_number, own_mesh, count_passes, IsRenamed, ◌≡◌, inl, inr, ℕ, zero, suc, ◌<◌, Bool, true, false, ◌&&◌, cond, eqb, refl, ap, sym, ◌∙◌, subst, arith, cases_lt, eq-eqb, ne_eqb, and_right, used_below, FaceList, IsFaceList, is_used}
use Rattle.surf_model.specs.Numbers.{count_below}

-- the number below n that passes and has i such numbers before it
abbrev pub passing_at : (ℕ → Bool) → (n i : ℕ) → ℕ
passing_at test zero i = 0
passing_at test (suc n) i = cond (test n && eqb (count_below test n) i) n (passing_at test n i)

at_its_place : (test : ℕ → Bool) (v n : ℕ) → test v ≡ true → v < n → passing_at test n (count_below test v) ≡ v
at_its_place test v zero passes less = absurd (omega arith)
at_its_place test v (suc n) passes less =
    elim (cases_lt v n) [
      | inl earlier ↦
          (let other : eqb (count_below test n) (count_below test v) ≡ false =
          ne_eqb (count_below test n) (count_below test v) (λ e. absurd (omega (arith, e, count_passes test v n earlier passes))) in
          ap (λ (b : Bool). cond b n (passing_at test n (count_below test v))) (and_right (test n) _ other)
          ∙ at_its_place test v n passes earlier)
      | inr last ↦
          (let same : v ≡ n = omega arith in
          let here : test n ≡ true = ap test (sym same) ∙ passes in
          let itself : eqb (count_below test n) (count_below test n) ≡ true = eq-eqb (count_below test n) (count_below test n) refl in
          subst (λ (k : ℕ). passing_at test (suc n) (count_below test k) ≡ k) (sym same) (rw (here, itself) refl))
    ]

-- the vertices that a mesh uses, rising
abbrev pub used_vertex : FaceList → ℕ → ℕ
used_vertex mesh x = passing_at (is_used mesh) mesh.count x

-- these numbers lead to the mesh over its used vertices, and back
pub own_renamed : (mesh : FaceList) → IsFaceList mesh → IsRenamed (own_number mesh) (used_vertex mesh) mesh (own_mesh mesh)
unfolding own_number
own_renamed mesh valid = record {
  faces = refl;
  below = λ v used. count_passes (is_used mesh) v mesh.count (used_below mesh v valid used) used;
  leads_back = λ v used. at_its_place (is_used mesh) v mesh.count used (used_below mesh v valid used);
}
