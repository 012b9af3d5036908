-- Edges along which ways round the vertices do not agree lead home round each face, and their cover is listed coherently once its faces are
-- turned that go against the way at one of their corners.
use Rattle.double_covers.proofs.Common.{sheet_behind, over, lifted, AreTurns, cover_of, AreWaysRound, AreTurnsOf, ◌≡◌, ◌≢◌, inl, inr, ℕ, zero, suc, ◌+◌, ◌-◌, ◌<◌, Bool, true, false, not, List, [], ◌∷◌, ◌++◌, length, map, get_or, take, refl, ap, sym, ◌∙◌, arith, length-append, not-not, eq-eqb, ne_eqb, nat_tests, get_or_append_left, get_or-append_right, if◌then◌else◌, ◌==◌, ends_differ, step_within, IsSide, side_after, tail_of, head_of, FaceList, IsFaceList, face_at, next_corner, ArePartners, IsOrientable, RunOppositely, is_flipped, Side, walked}
use Rattle.std.proofs.lemmas.List.FromFn.{length-map-range_with_len, get_or-map-range_with_len}
use Rattle.std.specs.List.{range_with_len}
use Rattle.double_covers.proofs.Sheets.{sheet_at, next_sheet, home_sheet, entry, length-lifted}
use Rattle.double_covers.proofs.CoverFaces.{face_over, over_is, IsOver, each_over, all_faces}

-- whether one of two, and not both
abbrev pub either : Bool → Bool → Bool
either a b = if a then not b else b

steps_cancel : (s a b c : Bool) → (if either b c then not (either (either a b) s) else either (either a b) s) ≡ either (either a c) s
steps_cancel s a true true = refl
steps_cancel s a false false = refl
steps_cancel s true true false = refl
steps_cancel s false false true = refl
steps_cancel s false true false = not-not s
steps_cancel s true false true = not-not s

none_left : (a s : Bool) → either (either a a) s ≡ s
none_left true s = refl
none_left false s = refl

-- the corner of a face
abbrev pub corner_of : ℕ → ℕ → Side
corner_of f t = record { face = record { 0 = f }; at = t }

module _ (mesh : FaceList) (against : Side → Bool) (turns : ℕ → ℕ → Bool) (are : AreTurnsOf mesh against turns) where
  -- the sheet of each corner of a face hangs on whether the face goes against the way there as it does at its first corner
  pub sheet_told : (f : ℕ) (upper : Bool) (t : ℕ) → f < length mesh.faces → t < length (face_at mesh f)
      → sheet_at turns upper (face_at mesh f) t ≡ either (either (against (corner_of f 0)) (against (corner_of f t))) upper
  sheet_told f upper zero l b = first (face_at mesh f) ∙ sym (none_left (against (corner_of f 0)) upper)
    where
      first : (ring : List ℕ) → sheet_at turns upper ring 0 ≡ upper
      first [] = refl
      first (u ∷ rest) = refl
  sheet_told f upper (suc t) l b =
      let ring : List ℕ = face_at mesh f in
      let more : suc t ≡ t + 1 = omega arith in
      let next : next_corner true (length ring) t ≡ t + 1 = grind (arith, nat_tests) in
      let here : Bool = either (either (against (corner_of f 0)) (against (corner_of f t))) upper in
      let turn : turns (get_or ring t 0) (get_or ring (t + 1) 0) ≡ either (against (corner_of f t)) (against (corner_of f (t + 1))) =
      ap (λ (k : ℕ). turns (get_or ring t 0) (get_or ring k 0)) (sym next)
      ∙ are.along (corner_of f t) (record { face = l; place = omega (arith, b) })
      ∙ ap (λ (k : ℕ). either (against (corner_of f t)) (against (corner_of f k))) next in
      ap (sheet_at turns upper ring) more ∙ next_sheet turns upper ring t (omega (arith, b))
      ∙ ap (λ (s : Bool). sheet_behind turns s (get_or ring t 0) (get_or ring (t + 1) 0)) (sheet_told f upper t l (omega (arith, b)))
      ∙ ap (λ (a : Bool). if a then not here else here) turn
      ∙ steps_cancel upper (against (corner_of f 0)) (against (corner_of f t)) (against (corner_of f (t + 1)))
      ∙ ap (λ (k : ℕ). either (either (against (corner_of f 0)) (against (corner_of f k))) upper) (sym more)

  home : (f : ℕ) (upper : Bool) → f < length mesh.faces
      → walked (sheet_behind turns) upper (face_at mesh f ++ take 1 (face_at mesh f)) ≡ upper
  home f upper l = by_size (face_at mesh f) refl
    where
      by_size : (ring : List ℕ) → face_at mesh f ≡ ring
          → walked (sheet_behind turns) upper (face_at mesh f ++ take 1 (face_at mesh f)) ≡ upper
      by_size [] e = rw e refl
      by_size (u ∷ rest) e =
          let ring : List ℕ = face_at mesh f in
          let last : ℕ = length rest in
          let long : last + 1 ≡ length ring = omega (arith, ap length e) in
          let next : next_corner true (length ring) last ≡ 0 = grind (arith, nat_tests) in
          let there : last < length ring = omega (arith, long) in
          let here : Bool = either (either (against (corner_of f 0)) (against (corner_of f last))) upper in
          let turn : turns (get_or ring last 0) (get_or ring 0 0) ≡ either (against (corner_of f last)) (against (corner_of f 0)) =
          ap (λ (k : ℕ). turns (get_or ring last 0) (get_or ring k 0)) (sym next)
          ∙ are.along (corner_of f last) (record { face = l; place = there })
          ∙ ap (λ (k : ℕ). either (against (corner_of f last)) (against (corner_of f k))) next in
          home_sheet turns upper ring last long
          ∙ ap (λ (s : Bool). sheet_behind turns s (get_or ring last 0) (get_or ring 0 0)) (sheet_told f upper last l there)
          ∙ ap (λ (a : Bool). if a then not here else here) turn
          ∙ steps_cancel upper (against (corner_of f 0)) (against (corner_of f last)) (against (corner_of f 0))
          ∙ none_left (against (corner_of f 0)) upper

  pub lead_home : AreTurns mesh turns
  lead_home = record { turned = are.turned; round = home }

-- ---- the cover is orientable

-- the faces that are turned: those that go against the way at their first corner, once they are on the lower sheet there
abbrev signs_of : FaceList → (Side → Bool) → List Bool
signs_of mesh against =
    map (λ (f : ℕ). against (corner_of f 0)) (range_with_len 0 (length mesh.faces))
    ++ map (λ (f : ℕ). not (against (corner_of f 0))) (range_with_len 0 (length mesh.faces))

sorted : (a b s : Bool) → either (either a b) s ≡ either b (either s a)
sorted true true true = refl
sorted true true false = refl
sorted true false true = refl
sorted true false false = refl
sorted false true true = refl
sorted false true false = refl
sorted false false true = refl
sorted false false false = refl

same_sign : (a s t : Bool) → either a s ≡ either a t → s ≡ t
same_sign true true true e = refl
same_sign true false false e = refl
same_sign true true false e = cc
same_sign true false true e = cc
same_sign false s t e = e

other_sign : (a s t : Bool) → either a s ≡ either (not a) t → t ≡ not s
other_sign true true t e = sym e
other_sign true false t e = sym e
other_sign false true true e = cc
other_sign false true false e = refl
other_sign false false true e = refl
other_sign false false false e = cc

-- sides that run alike run oppositely under signs that differ, and sides that do not under signs that are one
alike : (a b c d : ℕ) (p q : Bool) → q ≡ not p → a ≡ c → b ≡ d → (if p then b else a) ≡ (if q then c else d)
alike a b c d true q e f g = rw e g
alike a b c d false q e f g = rw e f

pub runs_alike : (mesh : FaceList) (signs : List Bool) (side other : Side)
    → is_flipped signs other.face.0 ≡ not (is_flipped signs side.face.0)
    → tail_of mesh side ≡ tail_of mesh other → head_of mesh side ≡ head_of mesh other → RunOppositely mesh signs side other
runs_alike mesh signs side other e p q = record { starts = alike _ _ _ _ _ _ e p q; ends = alike _ _ _ _ _ _ e q p }

across : (a b c d : ℕ) (p q : Bool) → q ≡ p → a ≡ d → b ≡ c → (if p then b else a) ≡ (if q then c else d)
across a b c d true q e f g = rw e g
across a b c d false q e f g = rw e f

pub runs_across : (mesh : FaceList) (signs : List Bool) (side other : Side) → is_flipped signs other.face.0 ≡ is_flipped signs side.face.0
    → tail_of mesh side ≡ head_of mesh other → head_of mesh side ≡ tail_of mesh other → RunOppositely mesh signs side other
runs_across mesh signs side other e p q = record { starts = across _ _ _ _ _ _ e p q; ends = across _ _ _ _ _ _ e q p }

pub record SameOver (s t : Bool) (u v : ℕ) : Type 0 where
  pub sheets : s ≡ t
  pub below : u ≡ v

pub apart_over : (count : ℕ) (s t : Bool) (u v : ℕ) → u < count → v < count → over count s u ≡ over count t v → SameOver s t u v
apart_over count true true u v l m e = record { sheets = refl; below = omega (arith, e) }
apart_over count false false u v l m e = record { sheets = refl; below = e }
apart_over count true false u v l m e = absurd (omega (arith, e, l, m))
apart_over count false true u v l m e = absurd (omega (arith, e, l, m))

module _ (mesh : FaceList) (against : Side → Bool) (turns : ℕ → ℕ → Bool) (valid : IsFaceList mesh) (ways : AreWaysRound mesh against)
    (are : AreTurnsOf mesh against turns) where
  -- a side of the cover, and the one below it
  record SideOver (side : Side) (sign : Bool) : Type 0 where
    pub low : Side
    pub upper : Bool
    pub low_in : IsSide mesh low
    pub face_is : side.face.0 ≡ face_over (length mesh.faces) upper low.face.0
    pub at_is : side.at ≡ low.at
    pub sign_is : sign ≡ either upper (against (corner_of low.face.0 0))
    pub tail_is : tail_of (cover_of mesh turns) side ≡ over mesh.count (either (against low) sign) (tail_of mesh low)
    pub head_is : head_of (cover_of mesh turns) side ≡ over mesh.count (either (against (side_after mesh low)) sign) (head_of mesh low)

  sign_at : (upper : Bool) (f : ℕ) → f < length mesh.faces
      → is_flipped (signs_of mesh against) (face_over (length mesh.faces) upper f) ≡ either upper (against (corner_of f 0))
  sign_at false f l =
      let n : ℕ = length mesh.faces in
      let one : ℕ → Bool = λ (f : ℕ). against (corner_of f 0) in
      let other : ℕ → Bool = λ (f : ℕ). not (against (corner_of f 0)) in
      get_or_append_left (map one (range_with_len 0 n)) (map other (range_with_len 0 n)) false f
      (omega (arith, l, length-map-range_with_len one 0 n))
      ∙ get_or-map-range_with_len one 0 n f f false l (omega arith)
  sign_at true f l =
      let n : ℕ = length mesh.faces in
      let one : ℕ → Bool = λ (f : ℕ). against (corner_of f 0) in
      let other : ℕ → Bool = λ (f : ℕ). not (against (corner_of f 0)) in
      let less : n + f - n ≡ f = omega arith in
      get_or-append_right (map one (range_with_len 0 n)) (map other (range_with_len 0 n)) n (n + f) false
      (length-map-range_with_len one 0 n) (omega arith)
      ∙ ap (λ (k : ℕ). get_or (map other (range_with_len 0 n)) k false) less
      ∙ get_or-map-range_with_len other 0 n f f false l (omega arith)

  side_over : (side : Side) → IsSide (cover_of mesh turns) side
      → SideOver side (is_flipped (signs_of mesh against) side.face.0)
  side_over side h =
      let cover : FaceList = cover_of mesh turns in
      let is : IsOver mesh turns side.face.0 = each_over mesh turns side.face.0 h.face in
      let f : ℕ = is.face in
      let ring : List ℕ = face_at mesh f in
      let m : ℕ = length ring in
      let t : ℕ = side.at in
      let next : ℕ = next_corner true m t in
      let lifts : List ℕ = lifted turns mesh.count is.upper ring in
      let face_is : face_at cover side.face.0 ≡ lifts = ap (face_at cover) is.is ∙ over_is mesh turns is.upper f is.in_list in
      let long : length lifts ≡ m = length-lifted turns mesh.count is.upper ring in
      let within : t < m = omega (arith, h.place, ap length face_is, long) in
      let sign : is_flipped (signs_of mesh against) side.face.0 ≡ either is.upper (against (corner_of f 0)) =
      ap (is_flipped (signs_of mesh against)) is.is ∙ sign_at is.upper f is.in_list in
      let told : (k : ℕ) → k < m → get_or lifts k 0
      ≡ over mesh.count (either (against (corner_of f k)) (is_flipped (signs_of mesh against) side.face.0)) (get_or ring k 0) =
      λ k l. entry turns mesh.count is.upper ring k l
      ∙ ap (λ (s : Bool). over mesh.count s (get_or ring k 0))
      (sheet_told mesh against turns are f is.upper k is.in_list l
      ∙ sorted (against (corner_of f 0)) (against (corner_of f k)) is.upper ∙ ap (either (against (corner_of f k))) (sym sign)) in
      record {
        low = corner_of f t;
        upper = is.upper;
        low_in = record { face = is.in_list; place = within };
        face_is = is.is;
        at_is = refl;
        sign_is = sign;
        tail_is = ap (λ (r : List ℕ). get_or r t 0) face_is ∙ told t within;
        head_is =
            ap (λ (r : List ℕ). get_or r (next_corner true (length r) t) 0) face_is
            ∙ ap (λ (k : ℕ). get_or lifts (next_corner true k t) 0) long
            ∙ told next (step_within true m t within);
      }

  tail_below : (side : Side) → IsSide mesh side → tail_of mesh side < mesh.count
  tail_below side h = (valid.faces side.face.0 [] h.face).in_range side.at 0 h.place

  head_below : (side : Side) → IsSide mesh side → head_of mesh side < mesh.count
  head_below side h = grind (arith, step_within)

  -- the sides below two sides of one edge are two
  below_apart : (side other : Side) (s t : Bool) (one : SideOver side s) (two : SideOver other t) → side ≢ other → s ≡ t → one.low ≢ two.low
  below_apart side other s t one two different same low =
      let sheets : one.upper ≡ two.upper =
      second_sign (against (corner_of one.low.face.0 0)) one.upper two.upper
      (sym one.sign_is ∙ same ∙ two.sign_is ∙ ap (λ (x : Side). either two.upper (against (corner_of x.face.0 0))) (sym low)) in
      different (whole side other
      (one.face_is ∙ ap (λ (b : Bool). face_over (length mesh.faces) b one.low.face.0) sheets
      ∙ ap (λ (x : Side). face_over (length mesh.faces) two.upper x.face.0) low ∙ sym two.face_is)
      (one.at_is ∙ ap (λ (x : Side). x.at) low ∙ sym two.at_is))
    where
      second_sign : (a s t : Bool) → either s a ≡ either t a → s ≡ t
      second_sign a true true e = refl
      second_sign a false false e = refl
      second_sign true true false e = cc
      second_sign true false true e = cc
      second_sign false true false e = cc
      second_sign false false true e = cc

      whole : (x y : Side) → x.face.0 ≡ y.face.0 → x.at ≡ y.at → x ≡ y
      whole x y f a = ap (λ (k : ℕ). corner_of k x.at) f ∙ ap (corner_of y.face.0) a

  opposite : (side other : Side) → ArePartners (cover_of mesh turns) side other
      → RunOppositely (cover_of mesh turns) (signs_of mesh against) side other
  opposite side other h =
      let cover : FaceList = cover_of mesh turns in
      let s : Bool = is_flipped (signs_of mesh against) side.face.0 in
      let t : Bool = is_flipped (signs_of mesh against) other.face.0 in
      let one : SideOver side s = side_over side h.first in
      let two : SideOver other t = side_over other h.second in
      elim h.one_edge [
        | inl e ↦
            (let tails = apart_over mesh.count (either (against one.low) s) (either (against two.low) t) (tail_of mesh one.low)
            (tail_of mesh two.low) (tail_below one.low one.low_in) (tail_below two.low two.low_in) (sym one.tail_is ∙ e.0 ∙ two.tail_is) in
            let heads = apart_over mesh.count (either (against (side_after mesh one.low)) s) (either (against (side_after mesh two.low)) t)
            (head_of mesh one.low) (head_of mesh two.low) (head_below one.low one.low_in) (head_below two.low two.low_in)
            (sym one.head_is ∙ e.1 ∙ two.head_is) in
            let apart : one.low ≢ two.low =
            λ low. below_apart side other s t one two h.different
            (same_sign (against one.low) s t (tails.sheets ∙ ap (λ (x : Side). either (against x) t) (sym low))) low in
            let partners : ArePartners mesh one.low two.low = record {
              first = one.low_in;
              second = two.low_in;
              different = apart;
              one_edge = inl (tails.below, heads.below);
            } in
            let test : (tail_of mesh one.low == tail_of mesh two.low) ≡ true =
            eq-eqb (tail_of mesh one.low) (tail_of mesh two.low) tails.below in
            let rule : against two.low ≡ not (against one.low) =
            ways.across (tail_of mesh one.low) one.low two.low one.low two.low partners (inl (refl, refl)) (inl (sym tails.below, refl))
            ∙ ap (λ (b : Bool). if b then not (against one.low) else against one.low) test in
            let turned : t ≡ not s =
            other_sign (against one.low) s t (tails.sheets ∙ ap (λ (a : Bool). either a t) rule) in
            runs_alike cover (signs_of mesh against) side other turned e.0 e.1)
        | inr e ↦
            (let first = apart_over mesh.count (either (against one.low) s) (either (against (side_after mesh two.low)) t)
            (tail_of mesh one.low) (head_of mesh two.low) (tail_below one.low one.low_in) (head_below two.low two.low_in)
            (sym one.tail_is ∙ e.0 ∙ two.head_is) in
            let second = apart_over mesh.count (either (against (side_after mesh one.low)) s) (either (against two.low) t)
            (head_of mesh one.low) (tail_of mesh two.low) (head_below one.low one.low_in) (tail_below two.low two.low_in)
            (sym one.head_is ∙ e.1 ∙ two.tail_is) in
            let ends : tail_of mesh one.low ≢ head_of mesh one.low = ends_differ mesh one.low valid one.low_in in
            let apart : one.low ≢ two.low = λ low. ends (first.below ∙ ap (head_of mesh) (sym low)) in
            let partners : ArePartners mesh one.low two.low = record {
              first = one.low_in;
              second = two.low_in;
              different = apart;
              one_edge = inr (first.below, second.below);
            } in
            let test : (tail_of mesh one.low == tail_of mesh two.low) ≡ false =
            ne_eqb (tail_of mesh one.low) (tail_of mesh two.low) (λ same. ends (same ∙ sym second.below)) in
            let rule : against (side_after mesh two.low) ≡ against one.low =
            ways.across (tail_of mesh one.low) one.low two.low one.low (side_after mesh two.low) partners (inl (refl, refl))
            (inr (sym first.below, refl))
            ∙ ap (λ (b : Bool). if b then not (against one.low) else against one.low) test in
            let kept : s ≡ t =
            same_sign (against one.low) s t (first.sheets ∙ ap (λ (a : Bool). either a t) rule) in
            runs_across cover (signs_of mesh against) side other (sym kept) e.0 e.1)
      ]

  pub cover_orientable : IsOrientable (cover_of mesh turns)
  cover_orientable =
      let n : ℕ = length mesh.faces in
      let one : ℕ → Bool = λ (f : ℕ). against (corner_of f 0) in
      let other : ℕ → Bool = λ (f : ℕ). not (against (corner_of f 0)) in (
        signs_of mesh against,
        record {
          each_face =
              omega (
                arith,
                length-append (map one (range_with_len 0 n)) (map other (range_with_len 0 n)),
                length-map-range_with_len one 0 n,
                length-map-range_with_len other 0 n,
                all_faces mesh turns,
              );
          opposite = opposite;
        },
      )
