-- What edits of a pool do to a row of its chains.
use Rattle.segmented_pool.proofs.Common.{list_under-is, under, IsUnder, list_under, spliced, lists_of, part, IsSegment, IsNameApart, AreSegments, Segment, ◌≡◌, ◌≢◌, ℕ, zero, suc, ◌+◌, ◌<◌, ◌≤◌, List, [], ◌∷◌, ◌++◌, length, take, drop, set, get_or, Option, Some, None, refl, sym, ap, subst, ◌∙◌, arith, length-map, length-take-le, length-drop, insert, remove}
use Rattle.std.proofs.Math.ListN.{length-append}
use Rattle.segmented_pool.proofs.Lists.{spliced_last}
use Rattle.segmented_pool.proofs.Moved.{live_from}
use Rattle.segmented_pool.proofs.Joined.{split_at, joined_at}
use Rattle.segmented_pool.proofs.Rows.{kept_by_one, kept_by_two, apart_at, apart_set, parts_are, segment_at, apart_from_fresh, row_set, row_insert, row_remove, removed_apart}

-- the lists that are seen of a row are its own
pub sound : (lists : List (Option (List ℕ))) (ss : List Segment) (ps : List (List ℕ)) → AreSegments lists ss ps
    → AreSegments lists ss (lists_of lists ss)
sound lists ss ps row = subst (λ (l : List (List ℕ)). AreSegments lists ss l) (sym (parts_are lists ss ps row)) row

-- the segment before one that goes stays where it is
before_removed : (ss : List Segment) (k : ℕ) (d : Segment) → suc k < length ss → get_or (remove ss (suc k)) k d ≡ get_or ss k d
before_removed [] k d lt = absurd (omega arith)
before_removed (s ∷ ss) zero d lt = refl
before_removed (s ∷ ss) (suc k) d lt = before_removed ss k d (omega arith)

removed_count : (ss : List Segment) (k : ℕ) → suc k < length ss → k < length (remove ss (suc k))
removed_count [] k lt = absurd (omega arith)
removed_count (s ∷ []) zero lt = absurd (omega arith)
removed_count (s ∷ t ∷ ss) zero lt = omega arith
removed_count (s ∷ ss) (suc k) lt = let more : k < length (remove ss (suc k)) = removed_count ss k (omega arith) in omega (arith, more)

module _ (lists : List (Option (List ℕ))) (ss : List Segment) (parts : List (List ℕ)) (row : AreSegments lists ss (lists_of lists ss))
    (view : lists_of lists ss ≡ parts) where
  pub seen : AreSegments lists ss parts
  seen = subst (λ (l : List (List ℕ)). AreSegments lists ss l) view row

  pub count : length ss ≡ length parts
  count = sym (length-map ss (λ (s : Segment). list_under lists s.chain.0)) ∙ ap (λ (l : List (List ℕ)). length l) view

  module _ (k : ℕ) (s : Segment) (lt : k < length parts) (at : s ≡ get_or ss k s) where
    pub here : IsSegment lists s (part parts k)
    here = subst (λ (x : Segment). IsSegment lists x (part parts k)) (sym at) (segment_at lists ss parts k s seen (omega (arith, count)))

    pub live : IsUnder lists s.chain.0
    live = live_from lists s.chain.0 (part parts k) here.has

    pub listed : list_under lists s.chain.0 ≡ part parts k
    listed = list_under-is lists s.chain.0 (part parts k) here.has

    -- the list of one segment is edited
    pub changed : (new : List (Option (List ℕ))) (len : ℕ) (edit : List ℕ → List ℕ)
        → under new s.chain.0 ≡ Some (edit (list_under lists s.chain.0))
        → (s.len ≡ length (part parts k) → len ≡ length (edit (part parts k)))
        → ((other : ℕ) → other ≢ s.chain.0 → under new other ≡ under lists other)
        → AreSegments new (set ss k (record { chain = s.chain; len = len })) (set parts k (edit (part parts k)))
    changed new len edit has counted others =
        row_set lists new ss parts k s (record { chain = s.chain; len = len }) (edit (part parts k)) seen (omega (arith, count))
        (ap (λ (x : Segment). x.chain) at)
        (record { has = has ∙ ap (λ (l : List ℕ). Some (edit l)) listed; counted = counted here.counted })
        (kept_by_one lists new s.chain.0 ss others)

    -- one segment is two
    pub parted : (new : List (Option (List ℕ))) (place : ℕ) (t : Segment) → place ≤ length (part parts k) → under lists t.chain.0 ≡ None
        → under new s.chain.0 ≡ Some (take place (part parts k)) → under new t.chain.0 ≡ Some (drop place (part parts k))
        → t.len + place ≡ length (part parts k)
        → ((other : ℕ) → other ≢ s.chain.0 → other ≢ t.chain.0 → under new other ≡ under lists other)
        → AreSegments new (insert (set ss k (record { chain = s.chain; len = place })) (suc k) t) (split_at parts k place)
    parted new place t within was kept taken counted others =
        let apart : IsNameApart t.chain.0 ss = apart_from_fresh lists ss parts t.chain.0 seen was in
        let differ : t.chain.0 ≢ s.chain.0 =
        λ e. let both = sym was ∙ ap (λ (n : ℕ). under lists n) e ∙ here.has in cc in
        row_insert new (set ss k (record { chain = s.chain; len = place })) (set parts k (take place (part parts k))) (suc k) t
        (drop place (part parts k))
        (row_set lists new ss parts k s (record { chain = s.chain; len = place }) (take place (part parts k)) seen (omega (arith, count))
        (ap (λ (x : Segment). x.chain) at)
        (record { has = kept; counted = sym (length-take-le place (part parts k) within) })
        (kept_by_two lists new s.chain.0 t.chain.0 ss apart others))
        (record { has = taken; counted = omega (arith, counted, length-drop place (part parts k)) })
        (apart_set t.chain.0 ss k (record { chain = s.chain; len = place }) apart differ)

    module _ (t : Segment) (lt2 : suc k < length parts) (at2 : t ≡ get_or ss (suc k) t) where
      abbrev rest : List Segment
      rest = remove ss (suc k)

      apart : IsNameApart t.chain.0 rest
      apart =
          subst (λ (x : Segment). IsNameApart x.chain.0 rest) (sym at2)
          (removed_apart lists ss parts (suc k) t seen (omega (arith, count)))

      stays_before : s ≡ get_or rest k s
      stays_before = at ∙ sym (before_removed ss k s (omega (arith, count)))

      pub differ : s.chain.0 ≢ t.chain.0
      differ e =
          apart_at t.chain.0 rest k s apart (removed_count ss k (omega (arith, count)))
          (sym e ∙ ap (λ (x : Segment). x.chain.0) stays_before)

      -- two segments are one
      pub united : (new : List (Option (List ℕ))) (len : ℕ)
          → under new s.chain.0 ≡ Some (spliced (list_under lists s.chain.0) s.len (list_under lists t.chain.0))
          → len ≡ s.len + t.len → IsSegment lists t (part parts (suc k))
          → ((other : ℕ) → other ≢ s.chain.0 → other ≢ t.chain.0 → under new other ≡ under lists other)
          → AreSegments new (set rest k (record { chain = s.chain; len = len })) (joined_at parts k)
      united new len has counted second others =
          let whole : spliced (list_under lists s.chain.0) s.len (list_under lists t.chain.0) ≡ part parts k ++ part parts (suc k) =
          ap (λ (l : List ℕ). spliced l s.len (list_under lists t.chain.0)) listed
          ∙ ap (λ (l : List ℕ). spliced (part parts k) s.len l) (list_under-is lists t.chain.0 (part parts (suc k)) second.has)
          ∙ spliced_last (part parts k) (part parts (suc k)) s.len here.counted in
          row_set lists new rest (remove parts (suc k)) k s (record { chain = s.chain; len = len }) (part parts k ++ part parts (suc k))
          (row_remove lists ss parts (suc k) seen) (removed_count ss k (omega (arith, count)))
          (ap (λ (x : Segment). x.chain) stays_before)
          (record {
            has = has ∙ ap (λ (l : List ℕ). Some l) whole;
            counted = omega (arith, counted, here.counted, second.counted, length-append (part parts k) (part parts (suc k)));
          })
          (kept_by_two lists new s.chain.0 t.chain.0 rest apart others)
