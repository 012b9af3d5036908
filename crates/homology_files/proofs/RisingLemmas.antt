-- Lines whose keys rise: what is above the last one is above all.
use Rattle.homology_files.proofs.Common.{AreFaceNumbers, AreEdgeNumbers, EdgeNumber, FaceNumber, is_face_above, is_edge_before, is_edge_above, ◌≡◌, inl, inr, ℕ, ◌-◌, ◌<◌, Bool, true, List, length, get_or, sym, ap, ◌∙◌, subst, arith, cases_Bool, cases_lt, lt-ltb, ltb-true, list_all_at, list_all-from_AllPass, get_or_from_slice_get, slice_get_within, list_all, Some, slice_get, nat_lt}
use Rattle.std.proofs.lemmas.Bool.Decides.{nat_tests}
use Rattle.surf_model.proofs.SearchLemmas.{pair_trans}
use Rattle.surf_model.specs.Edges.{IsPairBefore}

-- a test that each line passes if the last one does
all_by_last : {X : Type 0} (test : X → Bool) (xs : List X) (last : X) → slice_get xs (length xs - 1) ≡ Some last
    → ((j : ℕ) (d : X) → j < length xs - 1 → test last ≡ true → test (get_or xs j d) ≡ true)
    → test last ≡ list_all test xs
all_by_last test xs last here earlier =
    let l : length xs - 1 < length xs = slice_get_within xs (length xs - 1) last here in
    let is : (d : _) → get_or xs (length xs - 1) d ≡ last = λ d. get_or_from_slice_get xs (length xs - 1) last d here in
    elim (cases_Bool (test last)) [
      | inl on ↦
          on ∙ sym (list_all-from_AllPass test xs (λ k d lk. elim (cases_lt k (length xs - 1)) [
            | inl less ↦ earlier k d less on
            | inr end ↦
                let same : k ≡ length xs - 1 = omega arith in
                ap (λ n. test (get_or xs n d)) same ∙ ap test (is d) ∙ on
          ]))
      | inr off ↦ off ∙ sym (list_all_at test xs (length xs - 1) last l (ap test (is last) ∙ off))
    ]

pub face_above : (lines : List FaceNumber) (last line : FaceNumber) → AreFaceNumbers lines
    → slice_get lines (length lines - 1) ≡ Some last → nat_lt last.face.0 line.face.0 ≡ is_face_above lines line
face_above lines last line valid here =
    let l : length lines - 1 < length lines = slice_get_within lines (length lines - 1) last here in
    all_by_last (λ (other : FaceNumber). nat_lt other.face.0 line.face.0) lines last here
    (λ j d less on.
    let up : (get_or lines j d).face.0 < last.face.0 =
    subst (λ (x : FaceNumber). (get_or lines j d).face.0 < x.face.0) (get_or_from_slice_get lines (length lines - 1) last d here)
    (valid.rising j (length lines - 1) d less l) in
    lt-ltb (get_or lines j d).face.0 line.face.0 (omega (arith, up, ltb-true last.face.0 line.face.0 on)))

-- the test of two edges
before_test : (one other : EdgeNumber) → is_edge_before one other ≡ true → IsPairBefore one.low.0 one.high.0 other.low.0 other.high.0
before_test one other h = grind (arith, nat_tests)

pub before_passes : (one other : EdgeNumber) → IsPairBefore one.low.0 one.high.0 other.low.0 other.high.0 → is_edge_before one other ≡ true
before_passes one other (inl less) = grind (arith, nat_tests)
before_passes one other (inr p) = let e = p.0 in let l = p.1 in grind (arith, nat_tests)

pub edge_above : (lines : List EdgeNumber) (last line : EdgeNumber) → AreEdgeNumbers lines
    → slice_get lines (length lines - 1) ≡ Some last → is_edge_before last line ≡ is_edge_above lines line
edge_above lines last line valid here =
    let l : length lines - 1 < length lines = slice_get_within lines (length lines - 1) last here in
    all_by_last (λ (other : EdgeNumber). is_edge_before other line) lines last here
    (λ j d less on.
    let x : EdgeNumber = get_or lines j d in
    let up : IsPairBefore x.low.0 x.high.0 last.low.0 last.high.0 =
    subst (λ (y : EdgeNumber). IsPairBefore x.low.0 x.high.0 y.low.0 y.high.0)
    (get_or_from_slice_get lines (length lines - 1) last d here) (valid.rising j (length lines - 1) d less l) in
    before_passes x line
    (pair_trans x.low.0 x.high.0 last.low.0 last.high.0 line.low.0 line.high.0 up (before_test last line on)))
