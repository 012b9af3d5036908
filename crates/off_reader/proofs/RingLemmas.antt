-- Words that pass a test, one after the other, and the corners in the line of a face.
use Rattle.off_reader.proofs.Common.{present_line, IsSameLine, ReadsCorners, corners_among, corners_of, has_equal_neighbours, ring_fault, point_fault, OffFault, BadVertex, BadFace, IndexRange, EqualNeighbours, TooMany, OutOfMemory, ◌≡◌, ◌≢◌, ℕ, zero, suc, ◌+◌, ◌-◌, ◌^◌, ◌<◌, ◌≤◌, ◌⊎◌, min, Bool, true, false, cond, not, eqb, ltb, leb, ◌&&◌, List, [], ◌∷◌, ◌++◌, length, take, drop, map, get_or, length-take-le, length-take, zero-add, refl, sym, ap, ap₂, subst, ◌∙◌, inl, inr, arith, min-eq_left, min-eq_right, min-le_left, both_ways, eq-eqb, ne_eqb, cases_lt, and_parts, and_left, and_right, and_cases, le-leb, lt-leb, lt-ltb, le-ltb, leb-true, leb-false, ltb-true, ltb-false, map-append, length-map, take_all, cond_some, none-some, option_and_then_some, list_all, list_any, range_with_len, Option, Some, None, option_map, option_and_then, Ok, Err, All, IsFace, next_corner, numbers, MOST_VERTICES, MOST_SIDES, is_natural, value_of, natural_of, is_number_text, Unread, past_word, next_natural, next_is_number_text}
use Rattle.std.proofs.lemmas.List.Elements.{All-nil, All-cons}
use Rattle.std.proofs.lemmas.List.Folds.{list_all-append, list_any_at, list_any_more}
use Rattle.std.proofs.lemmas.List.FromFn.{length-range_with_len, get_or-range_with_len}
use Rattle.surf_model.specs.declared.names.VertexName.{VertexName}
use Rattle.off_reader.proofs.HeaderLemmas.{a_cap, no_cap, kept, no_natural}

-- ---- words that pass a test

-- the next word is there and passes
abbrev pub next_passes : (List ℕ → Bool) → List (List ℕ) → Bool
next_passes test [] = false
next_passes test (word ∷ words) = test word

-- so many words were read from a line, and all of them pass
pub record IsReadTo (test : List ℕ → Bool) (old : Unread) (n : ℕ) (new : Unread) : Type 0 where
  pub fits : n ≤ length old.words
  pub left : new.words ≡ drop n old.words
  pub passes : list_all test (take n old.words) ≡ true
  pub line : IsSameLine old new

-- one word more
record IsNext (test : List ℕ → Bool) (words : List (List ℕ)) (n : ℕ) : Type 0 where
  below : n + 1 ≤ length words
  rest : drop 1 (drop n words) ≡ drop (n + 1) words
  word : List ℕ
  front : take (n + 1) words ≡ take n words ++ word ∷ []
  head : drop n words ≡ word ∷ drop (n + 1) words
  passes : test word ≡ true

next_word : (test : List ℕ → Bool) (words : List (List ℕ)) (n : ℕ) → next_passes test (drop n words) ≡ true → IsNext test words n
next_word test [] zero e = cc
next_word test [] (suc n) e = cc
next_word test (word ∷ words) zero e = record { below = omega arith; rest = refl; word = word; front = refl; head = refl; passes = e }
next_word test (first ∷ words) (suc n) e =
    let later = next_word test words n e in
    record {
      below = omega (arith, later.below);
      rest = later.rest ∙ ap (λ k. drop k (first ∷ words)) (plus n);
      word = later.word;
      front = ap (λ k. take k (first ∷ words)) (sym (plus n)) ∙ ap (λ (t : List (List ℕ)). first ∷ t) later.front;
      head = later.head ∙ ap (λ k. later.word ∷ drop k (first ∷ words)) (plus n);
      passes = later.passes;
    }
  where
    plus : (n : ℕ) → suc (n + 1) ≡ suc n + 1
    plus n = omega arith

pub one_read : (test : List ℕ → Bool) (old mid new : Unread) (n : ℕ) → next_passes test mid.words ≡ true → new ≡ past_word mid
    → IsReadTo test old n mid → IsReadTo test old (n + 1) new
one_read test old mid new n e is h =
    let next = next_word test old.words n (ap (next_passes test) (sym h.left) ∙ e) in
    subst (IsReadTo test old (n + 1)) (sym is) (record {
      fits = next.below;
      left = ap (λ (t : List (List ℕ)). drop 1 t) h.left ∙ next.rest;
      passes = ap (list_all test) next.front ∙ list_all-append test (take n old.words) (next.word ∷ []) ∙ rw (h.passes, next.passes) refl;
      line = record { line = h.line.line; lines = h.line.lines; end_line = h.line.end_line };
    })

-- whether so many first words are there and pass
abbrev pub pass_to : (List ℕ → Bool) → ℕ → List (List ℕ) → Bool
pass_to test n words = leb n (length words) && list_all test (take n words)

not_all : (test : List ℕ → Bool) (words : List (List ℕ)) (n count : ℕ) → n < count → next_passes test (drop n words) ≡ false
    → pass_to test count words ≡ false
not_all test words n zero below e = absurd (omega (arith, below))
not_all test [] n (suc count) below e =
    and_left (leb (suc count) 0) (list_all test (take (suc count) [])) (lt-leb (suc count) 0 (omega arith))
not_all test (word ∷ words) zero (suc count) below e = and_right _ _ (and_left _ _ e)
not_all test (word ∷ words) (suc n) (suc count) below e =
    elim (and_cases (leb count (length words)) (list_all test (take count words)) (not_all test words n count (omega (arith, below)) e))
    as (λ _. pass_to test (suc count) (word ∷ words) ≡ false) [
      | inl many ↦ and_left (leb (suc count) (suc (length words))) _
          (lt-leb (suc count) (suc (length words)) (later (leb-false count (length words) many)))
      | inr other ↦ and_right _ _ (and_right _ _ other)
    ]
  where
    later : length words < count → suc (length words) < suc count
    later h = omega (arith, h)

pub not_read : (test : List ℕ → Bool) (old mid : Unread) (n count : ℕ) → n < count → next_passes test mid.words ≡ false
    → IsReadTo test old n mid → pass_to test count old.words ≡ false
not_read test old mid n count below e h = not_all test old.words n count below (ap (next_passes test) (sym h.left) ∙ e)

-- ---- vertices

pub next_text : (words : List (List ℕ)) → next_is_number_text words ≡ next_passes is_number_text words
next_text [] = refl
next_text (word ∷ words) = refl

pub bad_point : (c n line : ℕ) (old mid : Unread) → n < c → false ≡ next_is_number_text mid.words → line ≡ mid.line
    → IsReadTo is_number_text old n mid
    → Some (BadVertex line) ≡ point_fault c [] (present_line old)
bad_point c n line old mid below e is h =
    let none = not_read is_number_text old mid n c below (sym (e ∙ next_text mid.words)) h in
    sym (rw none (ap (λ k. Some (BadVertex k)) (sym (is ∙ h.line.line))))

-- ---- corners

pub next_is_natural : (words : List (List ℕ)) (n : ℕ) → Some n ≡ option_map (λ n. min n (2 ^ 64 - 1)) (next_natural words)
    → next_passes is_natural words ≡ true
next_is_natural [] n e = absurd (none-some n (sym e))
next_is_natural (word ∷ words) n e =
    (cond_some (is_natural word) (value_of word) (a_cap (natural_of word) n e).whole (a_cap (natural_of word) n e).is).0

pub next_is_none : (words : List (List ℕ)) → None ≡ option_map (λ n. min n (2 ^ 64 - 1)) (next_natural words)
    → next_passes is_natural words ≡ false
next_is_none [] e = refl
next_is_none (word ∷ words) e = no_natural word (no_cap (natural_of word) e)

-- the value of the next word, where it is kept whole or is large
next_value : (old mid : Unread) (n v : ℕ) → Some v ≡ option_map (λ n. min n (2 ^ 64 - 1)) (next_natural mid.words)
    → IsReadTo is_natural old n mid
    → (word : List ℕ) × (map value_of (take (n + 1) old.words) ≡ map value_of (take n old.words) ++ value_of word ∷ [])
    × (v ≡ min (value_of word) (2 ^ 64 - 1))
next_value old mid n v e h =
    let passes = next_is_natural mid.words v e in
    let next = next_word is_natural old.words n (ap (next_passes is_natural) (sym h.left) ∙ passes) in
    let natural : next_natural mid.words ≡ natural_of next.word = ap next_natural (h.left ∙ next.head) in
    let capped = a_cap (natural_of next.word) v (e ∙ ap (option_map (λ n. min n (2 ^ 64 - 1))) natural) in
    let value = cond_some (is_natural next.word) (value_of next.word) capped.whole capped.is in (
      next.word,
      ap (map value_of) next.front ∙ map-append value_of (take n old.words) (next.word ∷ []),
      capped.capped
          ∙ ap (λ w. min w (2 ^ 64 - 1)) (sym value.1),
    )

pub record IsCornersTo (vertices : ℕ) (old : Unread) (n : ℕ) (new : Unread) (in_range : Bool) (ring : List ℕ) : Type 0 where
  pub read : IsReadTo is_natural old n new
  pub range : in_range ≡ list_all (λ v. ltb v vertices) (map value_of (take n old.words))
  pub corners : in_range ≡ true → ring ≡ map value_of (take n old.words)

pub corner_in : (vertices : ℕ) (old mid new : Unread) (n v : ℕ) (in_range : Bool) (ring : List ℕ) → vertices ≤ MOST_VERTICES
    → Some v ≡ option_map (λ n. min n (2 ^ 64 - 1)) (next_natural mid.words)
    → new ≡ past_word mid → v < vertices → IsCornersTo vertices old n mid in_range ring
    → IsCornersTo vertices old (n + 1) new in_range (ring ++ v ∷ [])
corner_in vertices old mid new n v in_range ring few e is below h =
    let next = next_value old mid n v e h.read in
    let same : v ≡ value_of next.0 = kept (value_of next.0) v MOST_VERTICES next.2 (omega (arith, below, few)) (omega arith) in
    let small : ltb (value_of next.0) vertices ≡ true = lt-ltb _ _ (omega (arith, below, same)) in
    record {
      read = one_read is_natural old mid new n (next_is_natural mid.words v e) is h.read;
      range = h.range ∙ sym (ap (list_all (λ v. ltb v vertices)) next.1
          ∙ list_all-append (λ v. ltb v vertices) (map value_of (take n old.words)) (value_of next.0 ∷ []) ∙ rw small (and-true _));
      corners = λ e. ap₂ (λ (r : List ℕ) (w : ℕ). r ++ w ∷ []) (h.corners e) same ∙ sym next.1;
    }
  where
    and-true : (b : Bool) → (b && true) ≡ b
    and-true true = refl
    and-true false = refl

pub corner_out : (vertices : ℕ) (old mid new : Unread) (n v : ℕ) (in_range : Bool) (ring : List ℕ)
    → Some v ≡ option_map (λ n. min n (2 ^ 64 - 1)) (next_natural mid.words)
    → new ≡ past_word mid → vertices ≤ v → IsCornersTo vertices old n mid in_range ring → IsCornersTo vertices old (n + 1) new false ring
corner_out vertices old mid new n v in_range ring e is past h =
    let next = next_value old mid n v e h.read in
    let large : ltb (value_of next.0) vertices ≡ false =
    le-ltb _ _ (omega (arith, past, next.2, min-le_left (value_of next.0) (2 ^ 64 - 1))) in
    record {
      read = one_read is_natural old mid new n (next_is_natural mid.words v e) is h.read;
      range = sym (ap (list_all (λ v. ltb v vertices)) next.1 ∙ list_all-append (λ v. ltb v vertices) (map value_of (take n old.words))
          (value_of next.0 ∷ []) ∙ and_right _ _ (and_left _ _ large));
      corners = λ e. cc;
    }

among : (words : List (List ℕ)) (sides : ℕ) → 3 ≤ sides
    → corners_among words sides ≡ cond (pass_to is_natural sides words) (Some (map value_of (take sides words))) None
among words sides three =
    let polygon : leb 3 sides ≡ true = le-leb _ _ three in
    rw polygon refl

pub missing_corner : (vertices sides n line : ℕ) (old mid : Unread) (in_range : Bool) (ring later : List ℕ) → 3 ≤ sides → n < sides
    → None ≡ option_map (λ n. min n (2 ^ 64 - 1)) (next_natural mid.words)
    → line ≡ old.line → IsCornersTo vertices old n mid in_range ring → ReadsCorners vertices sides old (Err (BadFace line)) later
missing_corner vertices sides n line old mid in_range ring later three below e is h =
    let none = not_read is_natural old mid n sides below (next_is_none mid.words e) h.read in
    inr (ap BadFace is, among old.words sides three ∙ rw none refl)

-- ---- the face as a whole

-- no number at the front
pub no_sides : (words : List (List ℕ)) → None ≡ option_map (λ n. min n (2 ^ 64 - 1)) (next_natural words) → corners_of words ≡ None
unfolding corners_of
no_sides [] e = refl
no_sides (word ∷ words) e = rw (no_cap (natural_of word) e) refl

-- the number at the front, as it is and as it is kept
record HasSides (words : List (List ℕ)) (kept : ℕ) : Type 0 where
  sides : ℕ
  corners : corners_of words ≡ corners_among (drop 1 words) sides
  capped : kept ≡ min sides (2 ^ 64 - 1)

has_sides : (words : List (List ℕ)) (v : ℕ) → Some v ≡ option_map (λ n. min n (2 ^ 64 - 1)) (next_natural words) → HasSides words v
unfolding corners_of
has_sides [] v e = absurd (none-some v (sym e))
has_sides (word ∷ words) v e =
    let capped = a_cap (natural_of word) v e in
    record { sides = capped.whole; corners = ap (option_and_then (corners_among words)) capped.is; capped = capped.capped }

pub few_sides : (words : List (List ℕ)) (v : ℕ) → Some v ≡ option_map (λ n. min n (2 ^ 64 - 1)) (next_natural words) → v < 3
    → corners_of words ≡ None
few_sides words v e small =
    let h = has_sides words v e in
    let same : v ≡ h.sides = kept h.sides v 2 h.capped (omega (arith, small)) (omega arith) in
    let no_polygon : leb 3 h.sides ≡ false = lt-leb _ _ (omega (arith, same, small)) in
    h.corners ∙ rw no_polygon refl

pub faulty : (vertices sides number line : ℕ) (corners : Option (List ℕ)) → corners ≡ None → line ≡ number
    → ring_fault vertices sides number corners ≡ Some (BadFace line)
faulty vertices sides number line corners none is = ap (ring_fault vertices sides number) none ∙ ap (λ k. Some (BadFace k)) (sym is)

-- the number at the front passes what is kept of it only where no words are left for either
same_pass : (words : List (List ℕ)) (sides v : ℕ) → v ≡ min sides (2 ^ 64 - 1) → length words < 2 ^ 64 - 1
    → pass_to is_natural v words ≡ pass_to is_natural sides words
same_pass words sides v e few =
    elim (cases_lt (2 ^ 64 - 1) sides) as (λ _. pass_to is_natural v words ≡ pass_to is_natural sides words) [
      | inl above ↦
          let v_is : v ≡ 2 ^ 64 - 1 = e ∙ min-eq_right (omega (arith, above)) in
          let a : leb v (length words) ≡ false = lt-leb _ _ (omega (arith, v_is, few)) in
          let b : leb sides (length words) ≡ false = lt-leb _ _ (omega (arith, above, few)) in
          and_left _ _ a ∙ sym (and_left _ _ b)
      | inr fits ↦ ap (λ n. pass_to is_natural n words) (e ∙ min-eq_left fits)
    ]

length_values : (words : List (List ℕ)) (n : ℕ) → n ≤ length words → length (map value_of (take n words)) ≡ n
length_values words n fits = length-map (take n words) value_of ∙ length-take-le n words fits

pub many_sides : (vertices before v : ℕ) (old mid : Unread) (fault : OffFault)
    → Some v ≡ option_map (λ n. min n (2 ^ 64 - 1)) (next_natural old.words) → mid ≡ past_word old
    → length mid.words < 2 ^ 64 - 1 → 3 ≤ v → before ≤ MOST_SIDES → MOST_SIDES - before < v
    → fault ≡ cond (pass_to is_natural v mid.words) (TooMany mid.line) (BadFace mid.line)
    → ring_fault vertices before old.line (corners_of old.words) ≡ Some fault
many_sides vertices before v old mid fault e is few three fits many said =
    let h = has_sides old.words v e in
    let polygon : 3 ≤ h.sides = omega (arith, three, h.capped, min-le_left h.sides (2 ^ 64 - 1)) in
    let words : mid.words ≡ drop 1 old.words = ap (λ (u : Unread). u.words) is in
    let line : mid.line ≡ old.line = ap (λ (u : Unread). u.line) is in
    let same : pass_to is_natural v mid.words ≡ pass_to is_natural h.sides (drop 1 old.words)
    = same_pass mid.words h.sides v h.capped few ∙ ap (pass_to is_natural h.sides) words in
    let corners : corners_of old.words
    ≡ cond (pass_to is_natural h.sides (drop 1 old.words)) (Some (map value_of (take h.sides (drop 1 old.words)))) None
    = h.corners ∙ among (drop 1 old.words) h.sides polygon in
    by_test (drop 1 old.words) h.sides (pass_to is_natural h.sides (drop 1 old.words)) refl
    (omega (arith, many, h.capped, min-le_left h.sides (2 ^ 64 - 1)))
    (ap (ring_fault vertices before old.line) corners)
    (said ∙ ap₂ (λ (b : Bool) (k : ℕ). cond b (TooMany k) (BadFace k)) same line)
  where
    by_test : (words : List (List ℕ)) (sides : ℕ) (b : Bool) → pass_to is_natural sides words ≡ b → MOST_SIDES - before < sides
        → ring_fault vertices before old.line (corners_of old.words)
        ≡ ring_fault vertices before old.line (cond b (Some (map value_of (take sides words))) None)
        → fault ≡ cond b (TooMany old.line) (BadFace old.line) → ring_fault vertices before old.line (corners_of old.words) ≡ Some fault
    by_test words sides true passes over so said =
        let enough : sides ≤ length words = leb-true _ _ (and_parts _ _ passes).0 in
        let past : ltb MOST_SIDES (before + length (map value_of (take sides words))) ≡ true =
        lt-ltb _ _ (omega (arith, over, fits, length_values words sides enough)) in
        so ∙ rw past (ap Some (sym said))
    by_test words sides false passes over so said = so ∙ ap Some (sym said)

-- ---- a face with room for its sides

fits_ring : (before v : ℕ) (words : List (List ℕ)) → Some v ≡ option_map (λ n. min n (2 ^ 64 - 1)) (next_natural words)
    → before ≤ MOST_SIDES
    → v ≤ MOST_SIDES - before
    → corners_of words ≡ corners_among (drop 1 words) v
fits_ring before v words e few fits =
    let h = has_sides words v e in
    let same : v ≡ h.sides = kept h.sides v MOST_SIDES h.capped (omega (arith, fits)) (omega arith) in
    h.corners ∙ ap (corners_among (drop 1 words)) (sym same)

no_overflow : (words : List (List ℕ)) (before v : ℕ) → before ≤ MOST_SIDES → v ≤ MOST_SIDES - before
    → ltb MOST_SIDES (before + length (map value_of (take v words))) ≡ false
no_overflow words before v few fits =
    le-ltb _ _ (omega (arith, few, fits, length-map (take v words) value_of, length-take v words, min-le_left v (length words)))

pub missing_ring : (vertices before v : ℕ) (old mid : Unread) (fault : OffFault) (ring : List ℕ)
    → Some v ≡ option_map (λ n. min n (2 ^ 64 - 1)) (next_natural old.words) → mid ≡ past_word old
    → before ≤ MOST_SIDES → v ≤ MOST_SIDES - before → ReadsCorners vertices v mid (Err fault) ring
    → (fault ≡ OutOfMemory) ⊎ (ring_fault vertices before old.line (corners_of old.words) ≡ Some fault)
missing_ring vertices before v old mid fault ring e is few fits (inl memory) = inl memory
missing_ring vertices before v old mid fault ring e is few fits (inr bad) =
    let words : mid.words ≡ drop 1 old.words = ap (λ (u : Unread). u.words) is in
    let line : mid.line ≡ old.line = ap (λ (u : Unread). u.line) is in
    let none : corners_of old.words ≡ None = fits_ring before v old.words e few fits ∙ ap (λ ws. corners_among ws v) (sym words) ∙ bad.1 in
    inr (faulty vertices before old.line mid.line (corners_of old.words) none line ∙ ap Some (sym bad.0))

record IsRing (vertices before : ℕ) (old : Unread) (in_range : Bool) (ring : List ℕ) : Type 0 where
  values : List ℕ
  corners : corners_of old.words ≡ Some values
  room : ltb MOST_SIDES (before + length values) ≡ false
  range : in_range ≡ list_all (λ v. ltb v vertices) values
  same : in_range ≡ true → ring ≡ values

is_ring : (vertices before v : ℕ) (old mid : Unread) (in_range : Bool) (ring : List ℕ)
    → Some v ≡ option_map (λ n. min n (2 ^ 64 - 1)) (next_natural old.words) → mid ≡ past_word old
    → before ≤ MOST_SIDES → v ≤ MOST_SIDES - before → ReadsCorners vertices v mid (Ok in_range) ring
    → IsRing vertices before old in_range ring
is_ring vertices before v old mid in_range ring e is few fits h =
    let words : mid.words ≡ drop 1 old.words = ap (λ (u : Unread). u.words) is in
    record {
      values = map value_of (take v mid.words);
      corners = fits_ring before v old.words e few fits ∙ ap (λ ws. corners_among ws v) (sym words) ∙ h.0;
      room = no_overflow mid.words before v few fits;
      range = h.1;
      same = h.2;
    }

pub out_of_range : (vertices before v : ℕ) (old mid : Unread) (line : ℕ) (ring : List ℕ)
    → Some v ≡ option_map (λ n. min n (2 ^ 64 - 1)) (next_natural old.words) → mid ≡ past_word old
    → before ≤ MOST_SIDES → v ≤ MOST_SIDES - before → line ≡ old.line → ReadsCorners vertices v mid (Ok false) ring
    → ring_fault vertices before old.line (corners_of old.words) ≡ Some (IndexRange line)
out_of_range vertices before v old mid line ring e is few fits at h =
    let r = is_ring vertices before v old mid false ring e is few fits h in
    ap (ring_fault vertices before old.line) r.corners ∙ rw (r.room, sym r.range) (ap (λ k. Some (IndexRange k)) (sym at))

pub equal_neighbours : (vertices before v : ℕ) (old mid : Unread) (line : ℕ) (ring : List ℕ)
    → Some v ≡ option_map (λ n. min n (2 ^ 64 - 1)) (next_natural old.words) → mid ≡ past_word old
    → before ≤ MOST_SIDES → v ≤ MOST_SIDES - before → line ≡ old.line → ReadsCorners vertices v mid (Ok true) ring
    → has_equal_neighbours ring ≡ true
    → ring_fault vertices before old.line (corners_of old.words) ≡ Some (EqualNeighbours line)
equal_neighbours vertices before v old mid line ring e is few fits at h equal =
    let r = is_ring vertices before v old mid true ring e is few fits h in
    let twice : has_equal_neighbours r.values ≡ true = ap has_equal_neighbours (sym (r.same refl)) ∙ equal in
    ap (ring_fault vertices before old.line) r.corners ∙ rw (r.room, sym r.range, twice) (ap (λ k. Some (EqualNeighbours k)) (sym at))

pub good_ring : (vertices before v : ℕ) (old mid : Unread) (ring : List ℕ)
    → Some v ≡ option_map (λ n. min n (2 ^ 64 - 1)) (next_natural old.words) → mid ≡ past_word old
    → before ≤ MOST_SIDES → v ≤ MOST_SIDES - before → ReadsCorners vertices v mid (Ok true) ring → has_equal_neighbours ring ≡ false
    → (corners_of old.words ≡ Some ring) × (ring_fault vertices before old.line (corners_of old.words) ≡ None)
good_ring vertices before v old mid ring e is few fits h differ =
    let r = is_ring vertices before v old mid true ring e is few fits h in
    let apart : has_equal_neighbours r.values ≡ false = ap has_equal_neighbours (sym (r.same refl)) ∙ differ in
    (r.corners ∙ ap Some (sym (r.same refl)), ap (ring_fault vertices before old.line) r.corners ∙ rw (r.room, sym r.range, apart) refl)

-- ---- neighbours

abbrev pub is_equal_at : List ℕ → ℕ → Bool
is_equal_at ring t = eqb (get_or ring t 0) (get_or ring (next_corner true (length ring) t) 0)

pub equal_found : (ring : List ℕ) (t : ℕ) → t < length ring → is_equal_at ring t ≡ true → true ≡ has_equal_neighbours ring
unfolding has_equal_neighbours
equal_found ring t below e =
    sym (list_any_at (is_equal_at ring) (range_with_len 0 (length ring)) t 0 (omega (arith, below, length-range_with_len 0 (length ring)))
    (ap (is_equal_at ring) (get_or-range_with_len 0 (length ring) t 0 below ∙ zero-add t) ∙ e))

-- no two equal neighbours up to corner n
abbrev pub DifferTo : List ℕ → ℕ → Type 0
DifferTo ring n = list_any (is_equal_at ring) (take n (range_with_len 0 (length ring))) ≡ false

pub differ_more : (ring : List ℕ) (t : ℕ) → t < length ring → is_equal_at ring t ≡ false → DifferTo ring t → DifferTo ring (t + 1)
differ_more ring t below e so_far =
    let here : is_equal_at ring (get_or (range_with_len 0 (length ring)) t 0) ≡ false =
    ap (is_equal_at ring) (get_or-range_with_len 0 (length ring) t 0 below ∙ zero-add t) ∙ e in
    list_any_more (is_equal_at ring) (range_with_len 0 (length ring)) t 0 (omega (arith, below, length-range_with_len 0 (length ring)))
    ∙ rw (so_far, here) refl

pub differ_all : (ring : List ℕ) (n : ℕ) → length ring ≤ n → DifferTo ring n → false ≡ has_equal_neighbours ring
unfolding has_equal_neighbours
differ_all ring n past so_far =
    sym (ap (list_any (is_equal_at ring))
    (sym (take_all n (range_with_len 0 (length ring)) (omega (arith, past, length-range_with_len 0 (length ring))))) ∙ so_far)

pub entry : (ring : List VertexName) (t : ℕ) (d : VertexName) → t < length ring → get_or (numbers ring) t 0 ≡ (get_or ring t d).0
entry [] t d below = absurd (omega (arith, below))
entry (v ∷ ring) zero d below = refl
entry (v ∷ ring) (suc t) d below = entry ring t d (omega (arith, below))

-- the same of vertex names
next_entry : (ring : List VertexName) (t next : ℕ) (d : VertexName) → t < length ring → next ≡ next_corner true (length ring) t
    → next < length ring
    → (other : Bool) → eqb (get_or ring t d).0 (get_or ring next d).0 ≡ other → is_equal_at (numbers ring) t ≡ other
next_entry ring t next d below is within other e =
    let long : length (numbers ring) ≡ length ring = length-map ring (λ (v : VertexName). v.0) in
    let there : next_corner true (length (numbers ring)) t ≡ next = ap (λ m. next_corner true m t) long ∙ sym is in
    ap₂ eqb (entry ring t d below) (ap (λ k. get_or (numbers ring) k 0) there ∙ entry ring next d within) ∙ e

pub at_equal : (ring : List VertexName) (t next : ℕ) (d : VertexName) → t < length ring → next ≡ next_corner true (length ring) t
    → next < length ring
    → (get_or ring t d).0 ≡ (get_or ring next d).0 → true ≡ has_equal_neighbours (numbers ring)
at_equal ring t next d below is within same =
    equal_found (numbers ring) t (omega (arith, below, length-map ring (λ (v : VertexName). v.0)))
    (next_entry ring t next d below is within true (eq-eqb _ _ same))

pub at_differ : (ring : List VertexName) (t next : ℕ) (d : VertexName) → t < length ring → next ≡ next_corner true (length ring) t
    → next < length ring
    → (get_or ring t d).0 ≢ (get_or ring next d).0 → DifferTo (numbers ring) t → DifferTo (numbers ring) (t + 1)
at_differ ring t next d below is within differ so_far =
    differ_more (numbers ring) t (omega (arith, below, length-map ring (λ (v : VertexName). v.0)))
    (next_entry ring t next d below is within false (ne_eqb _ _ differ)) so_far

pub at_end : (ring : List VertexName) (n : ℕ) → length ring ≤ n → DifferTo (numbers ring) n → false ≡ has_equal_neighbours (numbers ring)
at_end ring n past so_far = differ_all (numbers ring) n (omega (arith, past, length-map ring (λ (v : VertexName). v.0))) so_far

next_inside : (m t : ℕ) → 1 ≤ t → t < m → t ≡ next_corner true m (t - 1)
next_inside m t some below =
    let here : t - 1 + 1 ≡ t = omega (arith, some) in
    let inside : eqb t m ≡ false = grind (arith, below) in
    rw (here, inside) refl

-- corner t and the one before it
pub equal_before : (ring : List VertexName) (t : ℕ) (d : VertexName) → 1 ≤ t → t < length ring
    → (get_or ring (t - 1) d).0 ≡ (get_or ring t d).0 → true ≡ has_equal_neighbours (numbers ring)
equal_before ring t d some below same = at_equal ring (t - 1) t d (omega (arith, below)) (next_inside (length ring) t some below) below same

pub differ_before : (ring : List VertexName) (t : ℕ) (d : VertexName) → 1 ≤ t → t < length ring
    → (get_or ring (t - 1) d).0 ≢ (get_or ring t d).0 → DifferTo (numbers ring) (t - 1) → DifferTo (numbers ring) (t + 1 - 1)
differ_before ring t d some below differ so_far =
    subst (DifferTo (numbers ring)) (omega (arith, some))
    (at_differ ring (t - 1) t d (omega (arith, below)) (next_inside (length ring) t some below) below differ so_far)

-- the last corner, which the first one follows
pub by_last : (ring : List VertexName) (n : ℕ) (d : VertexName) → 0 < length ring → length ring ≡ n → DifferTo (numbers ring) (n - 1)
    → eqb (get_or ring (length ring - 1) d).0 (get_or ring 0 d).0 ≡ has_equal_neighbours (numbers ring)
by_last ring n d some same so_far = by_test (eqb (get_or ring (length ring - 1) d).0 (get_or ring 0 d).0) refl
  where
    last : ℕ
    last = length ring - 1

    below : last < length ring
    below = omega (arith, some)

    is : 0 ≡ next_corner true (length ring) last
    is = let all : eqb (last + 1) (length ring) ≡ true = eq-eqb (last + 1) (length ring) (omega (arith, some)) in rw all refl

    differ : DifferTo (numbers ring) last
    differ = subst (λ k. DifferTo (numbers ring) (k - 1)) (sym same) so_far

    by_test : (b : Bool) → eqb (get_or ring last d).0 (get_or ring 0 d).0 ≡ b → b ≡ has_equal_neighbours (numbers ring)
    by_test true e = equal_found (numbers ring) last (omega (arith, below, length-map ring (λ (v : VertexName). v.0)))
        (next_entry ring last 0 d below is some true e)
    by_test false e =
        at_end ring (last + 1) (omega (arith, some))
        (differ_more (numbers ring) last (omega (arith, below, length-map ring (λ (v : VertexName). v.0)))
        (next_entry ring last 0 d below is some false e) differ)

-- ---- a ring without a fault is a face

pub differ_at : (ring : List ℕ) → has_equal_neighbours ring ≡ false → (t : ℕ) → t < length ring
    → get_or ring t 0 ≢ get_or ring (next_corner true (length ring) t) 0
differ_at ring none t below same = both_ways (has_equal_neighbours ring) none (sym (equal_found ring t below (eq-eqb _ _ same)))

pub all_below : (vertices : ℕ) (ring : List ℕ) → list_all (λ v. ltb v vertices) ring ≡ true → All (λ v. v < vertices) ring
all_below vertices [] e = All-nil (λ v. v < vertices)
all_below vertices (v ∷ ring) e =
    let both = and_parts (ltb v vertices) (list_all (λ v. ltb v vertices) ring) e in
    All-cons (λ v. v < vertices) v ring (ltb-true v vertices both.0) (all_below vertices ring both.1)

polygon : (words : List (List ℕ)) (ring : List ℕ) → corners_of words ≡ Some ring → 3 ≤ length ring
unfolding corners_of
polygon [] ring e = absurd (none-some ring e)
polygon (word ∷ words) ring e =
    option_and_then_some _ (natural_of word) ring e (λ sides was then.
    let test = cond_some (leb 3 sides && leb sides (length words) && list_all is_natural (take sides words))
    (map value_of (take sides words)) ring then in
    let some = and_parts (leb 3 sides) (leb sides (length words))
    (and_parts (leb 3 sides && leb sides (length words)) (list_all is_natural (take sides words)) test.0).0 in
    omega (arith, leb-true 3 sides some.0, length_values words sides (leb-true sides (length words) some.1), ap length test.1))

record IsGoodRing (vertices before : ℕ) (ring : List ℕ) : Type 0 where
  room : before + length ring ≤ MOST_SIDES
  range : list_all (λ v. ltb v vertices) ring ≡ true
  apart : has_equal_neighbours ring ≡ false

good_parts : (vertices before number : ℕ) (ring : List ℕ) → ring_fault vertices before number (Some ring) ≡ None
    → IsGoodRing vertices before ring
good_parts vertices before number ring e =
    first (ltb MOST_SIDES (before + length ring)) (list_all (λ v. ltb v vertices) ring) (has_equal_neighbours ring) refl refl refl e
  where
    first : (a b c : Bool) → ltb MOST_SIDES (before + length ring) ≡ a → list_all (λ v. ltb v vertices) ring ≡ b → has_equal_neighbours ring
        ≡ c
        → cond a (Some (TooMany number)) (cond (not b) (Some (IndexRange number)) (cond c (Some (EqualNeighbours number)) None)) ≡ None
        → IsGoodRing vertices before ring
    first true b c p q r e = absurd (none-some (TooMany number) (sym e))
    first false false c p q r e = absurd (none-some (IndexRange number) (sym e))
    first false true true p q r e = absurd (none-some (EqualNeighbours number) (sym e))
    first false true false p q r e = record { room = ltb-false MOST_SIDES (before + length ring) p; range = q; apart = r }

pub ring_face : (vertices before number : ℕ) (words : List (List ℕ)) (ring : List ℕ) → corners_of words ≡ Some ring
    → ring_fault vertices before number (corners_of words) ≡ None
    → IsFace vertices ring
ring_face vertices before number words ring corners good =
    let parts = good_parts vertices before number ring (ap (ring_fault vertices before number) (sym corners) ∙ good) in
    record { polygon = polygon words ring corners; in_range = all_below vertices ring parts.range; neighbours = differ_at ring parts.apart }

pub ring_room : (vertices before number : ℕ) (words : List (List ℕ)) (ring : List ℕ) → corners_of words ≡ Some ring
    → ring_fault vertices before number (corners_of words) ≡ None
    → before + length ring ≤ MOST_SIDES
ring_room vertices before number words ring corners good =
    (good_parts vertices before number ring (ap (ring_fault vertices before number) (sym corners) ∙ good)).room
