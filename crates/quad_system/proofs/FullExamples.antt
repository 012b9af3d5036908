-- On the torus of seven vertices the labelling of the square is full, and one with a label on two sides is not. Each test is computed.
use Rattle.quad_system.proofs.Common.{MeetsLeftoverRule, LabellingView, tail_label, head_label, HasOneSide, IsFull, IsLeftoverSide, ◌≡◌, ◌⊎◌, ℕ, zero, suc, ◌<◌, Bool, true, false, [], ◌∷◌, refl, ap, sym, ◌∙◌, subst, arith, lit<, eqb-true, eq-eqb, false≢true, nat_tests, All-contains, list_all, ◌==◌, if◌then◌else◌, slice_index, IsSide, tail_of, head_of, FaceSide, all_sides, joins, Side, add, minus}
use Rattle.labellings.specs.Examples.{square}
use Rattle.quad_system.specs.Examples.{side, square_relabelled}
use Rattle.std.proofs.lemmas.List.Sums.{AllPass-from_list_all}
use Rattle.std.specs.Prelude.{◌&&◌}
use Rattle.surf_model.proofs.TableLemmas.{face_side_in}
use Rattle.surf_model.specs.Edges.{side_name}
use Rattle.surf_model.specs.Meshes.{torus}

-- ---- what is computed

abbrev rises : FaceSide → Bool
rises s = head_label torus square (side_name s) == add 4 (tail_label torus square (side_name s)) 1

-- the two sides are of one edge, the other rises too, and the two are sides of a quad
abbrev meets : FaceSide → FaceSide → Bool
meets s other =
    joins s.tail s.head other
    && (rises other
    && (slice_index square.places (add 4 (tail_label torus square (side_name other)) 1)
    == add 4 (slice_index square.places (tail_label torus square (side_name s))) 3))

-- the side of each label
abbrev own : ℕ → Side
own label = side (slice_index (8 ∷ 5 ∷ 1 ∷ 13 ∷ []) label) (slice_index (0 ∷ 1 ∷ 2 ∷ 2 ∷ []) label)

abbrev is_own : FaceSide → Bool
is_own s =
    (s.face == (own (tail_label torus square (side_name s))).face.0) && (s.at == (own (tail_label torus square (side_name s))).at)

abbrev each_meets : FaceSide → Bool
each_meets s = list_all (λ other. if meets s other then is_own s else true) (all_sides torus)

each : list_all (λ s. if rises s then each_meets s else true) (all_sides torus) ≡ true
unfolding add all_sides
each = refl

-- ---- what that says

abbrev entry : Side → FaceSide
entry s = record { face = s.face.0; at = s.at; tail = tail_of torus s; head = head_of torus s }

passes : (test : FaceSide → Bool) → list_all test (all_sides torus) ≡ true → (s : Side) → IsSide torus s → test (entry s) ≡ true
passes test all s is =
    All-contains (λ x. test x ≡ true) (all_sides torus) (entry s) (AllPass-from_list_all test (all_sides torus) all)
    (face_side_in torus s.face.0 s.at is.face is.place)

where_true : (b x : Bool) → b ≡ true → (if b then x else true) ≡ true → x ≡ true
where_true true x is h = h
where_true false x is h = absurd (false≢true is)

both : (b x : Bool) → b ≡ true → x ≡ true → (b && x) ≡ true
both b x p q = subst (λ c. (c && x) ≡ true) (sym p) q

parts : (b x : Bool) → (b && x) ≡ true → (b ≡ true) × (x ≡ true)
parts true x h = (refl, h)
parts false x h = absurd (false≢true h)

joined : (t h u v : ℕ) → ((t ≡ u) × (h ≡ v)) ⊎ ((t ≡ v) × (h ≡ u)) → joins t h (record { face = 0; at = 0; tail = u; head = v }) ≡ true
joined t h u v ends = grind (arith, nat_tests)

alone : (s : Side) → IsSide torus s → IsLeftoverSide torus square s → own (tail_label torus square s) ≡ s
unfolding add minus
alone s is leftover =
    let other : Side = leftover.0 in
    let meet : meets (entry s) (entry other) ≡ true =
    both _ _ (joined (tail_of torus s) (head_of torus s) (tail_of torus other) (head_of torus other) leftover.1.one_edge)
    (both _ _ (eq-eqb _ _ leftover.2.rises_too) (eq-eqb _ _ leftover.2.quad.a_place)) in
    let for_side : each_meets (entry s) ≡ true =
    where_true (rises (entry s)) (each_meets (entry s)) (eq-eqb _ _ leftover.2.rises)
    (passes (λ x. if rises x then each_meets x else true) each s is) in
    let found : is_own (entry s) ≡ true =
    where_true (meets (entry s) (entry other)) (is_own (entry s)) meet
    (passes (λ x. if meets (entry s) x then is_own (entry s) else true) for_side other leftover.1.second) in
    let same : (_ ≡ true) × (_ ≡ true) = parts _ _ found in
    let face : s.face.0 ≡ (own (tail_label torus square s)).face.0 = eqb-true _ _ same.0 in
    let place : s.at ≡ (own (tail_label torus square s)).at = eqb-true _ _ same.1 in
    sym (λ i. record { face = record { 0 = face i }; at = place i })

-- a side and its partner, in another face, whose labels meet the leftover rule: what is to be computed
leftover_with : (labelling : LabellingView) (s other : Side) → IsSide torus s → IsSide torus other → (s.face.0 == other.face.0) ≡ false
    → tail_of torus s ≡ head_of torus other → head_of torus s ≡ tail_of torus other
    → MeetsLeftoverRule labelling.places (tail_label torus labelling s) (head_label torus labelling s) (tail_label torus labelling other)
    (head_label torus labelling other)
    → IsLeftoverSide torus labelling s
leftover_with labelling s other first second differ tails heads rule = grind arith

record HasOwn (i : ℕ) : Type 0 where
  side_of : IsSide torus (own i)
  leftover : IsLeftoverSide torus square (own i)
  label : tail_label torus square (own i) ≡ i

of_label : (label : ℕ) → label < 4 → HasOwn label
unfolding add minus
of_label zero less = record {
  side_of = record { face = lit< tt; place = lit< tt };
  leftover =
      leftover_with square (side 8 0) (side 1 2) (record { face = lit< tt; place = lit< tt }) (record { face = lit< tt; place = lit< tt })
      refl refl refl
      (record { rises = refl; rises_too = refl; quad = record { a_below = lit< tt; c_below = lit< tt; a_place = refl; c_place = refl } });
  label = refl;
}
of_label (suc zero) less = record {
  side_of = record { face = lit< tt; place = lit< tt };
  leftover =
      leftover_with square (side 5 1) (side 13 2) (record { face = lit< tt; place = lit< tt }) (record { face = lit< tt; place = lit< tt })
      refl refl refl
      (record { rises = refl; rises_too = refl; quad = record { a_below = lit< tt; c_below = lit< tt; a_place = refl; c_place = refl } });
  label = refl;
}
of_label (suc (suc zero)) less = record {
  side_of = record { face = lit< tt; place = lit< tt };
  leftover =
      leftover_with square (side 1 2) (side 8 0) (record { face = lit< tt; place = lit< tt }) (record { face = lit< tt; place = lit< tt })
      refl refl refl
      (record { rises = refl; rises_too = refl; quad = record { a_below = lit< tt; c_below = lit< tt; a_place = refl; c_place = refl } });
  label = refl;
}
of_label (suc (suc (suc zero))) less = record {
  side_of = record { face = lit< tt; place = lit< tt };
  leftover =
      leftover_with square (side 13 2) (side 5 1) (record { face = lit< tt; place = lit< tt }) (record { face = lit< tt; place = lit< tt })
      refl refl refl
      (record { rises = refl; rises_too = refl; quad = record { a_below = lit< tt; c_below = lit< tt; a_place = refl; c_place = refl } });
  label = refl;
}
of_label (suc (suc (suc (suc n)))) less = absurd (omega (arith, less))

-- ---- the examples

pub full : IsFull torus square
full label less =
    let found : HasOwn label = of_label label less in
    record {
      side = own label;
      side_of = found.side_of;
      leftover = found.leftover;
      label = found.label;
      alone = λ other is leftover same. sym (ap own (sym same) ∙ alone other is leftover);
    }

-- The sides of the faces 8 and 10 have the same label.
pub not_full : IsFull torus square_relabelled → ⊥
unfolding add minus
not_full full =
    let one : HasOneSide torus square_relabelled 0 = full 0 (lit< tt) in
    let first : side 8 0 ≡ one.side =
    one.alone (side 8 0) (record { face = lit< tt; place = lit< tt })
    (leftover_with square_relabelled (side 8 0) (side 1 2) (record { face = lit< tt; place = lit< tt })
    (record { face = lit< tt; place = lit< tt })
    refl refl refl
    (record { rises = refl; rises_too = refl; quad = record { a_below = lit< tt; c_below = lit< tt; a_place = refl; c_place = refl } }))
    refl in
    let second : side 10 0 ≡ one.side =
    one.alone (side 10 0) (record { face = lit< tt; place = lit< tt })
    (leftover_with square_relabelled (side 10 0) (side 3 2) (record { face = lit< tt; place = lit< tt })
    (record { face = lit< tt; place = lit< tt })
    refl refl refl
    (record { rises = refl; rises_too = refl; quad = record { a_below = lit< tt; c_below = lit< tt; a_place = refl; c_place = refl } }))
    refl in
    let faces : 8 ≡ 10 = ap (λ (x : Side). x.face.0) (first ∙ sym second) in
    omega (arith, faces)
