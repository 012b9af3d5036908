-- A list of moves on the double, folded move by move.
use Rattle.folded_lists.proofs.Common.{greatest_darts-more, greatest_darts-first, leads_nowhere, one_more, walk_folds, double_of, folded, IsMoveBelow, IsAllowedAt, IsFoldedEntry, StaysWithinPeak, LeadsFolded, ◌≡◌, ℕ, ◌+◌, ◌<◌, ◌≤◌, max, List, [], ◌∷◌, ◌++◌, length, get_or, take, refl, ap, sym, ◌∙◌, subst, arith, drop, length-append, drop_all, drop_more, Some, MatchOption, Option, None, first_answer, stays_walk, FaceList, IsFaceList, PeakedMoves, apply, apply_all, greatest_darts, LeadsAtPeak, Replaces, place_of_move, IsWalk, darts, Move}
use Rattle.folded_lists.proofs.FoldedParts.{length-folded}
use Rattle.folded_lists.proofs.PartedMoves.{IsParted, entry_of, fold_goes, fold_stays, front_of, parted_by}

-- so many moves of a list lead to this walk of the double, and the others lead on from it, within the peak
pub record IsComing (double : FaceList) (first : List ℕ) (list : PeakedMoves) (k : ℕ) (walk : List ℕ) : Type 0 where
  pub some : 0 < length walk
  pub end : List ℕ
  pub all : apply_all double first list.moves ≡ Some end
  pub leads : apply_all double walk (drop k list.moves) ≡ Some end
  pub within : greatest_darts double walk (drop k list.moves) ≤ list.peak

-- what they become leads on the mesh to the fold of that walk, which has so many darts
pub record IsFoldedTo (mesh : FaceList) (first : List ℕ) (peak k : ℕ) (walk : List ℕ) (long : ℕ) (below : PeakedMoves) : Type 0 where
  pub led : LeadsAtPeak mesh first below (folded mesh.count walk)
  pub long_is : long ≡ darts (folded mesh.count walk)
  pub few : length below.moves ≤ k
  pub low : below.peak ≤ peak

pub some_fold : (count : ℕ) (walk : List ℕ) → 0 < length walk → 0 < length (folded count walk)
some_fold count [] some = absurd (omega arith)
some_fold count (x ∷ xs) some = omega arith

pub comes_first : (double : FaceList) (first second : List ℕ) (list : PeakedMoves) → 0 < length first
    → LeadsAtPeak double first list second → IsComing double first list 0 first
comes_first double first second list some h = record {
  some = some;
  end = second;
  all = h.leads;
  leads = h.leads;
  within = omega (arith, h.peak);
}

pub folds_first : (mesh double : FaceList) (first second : List ℕ) (list below : PeakedMoves) (long : ℕ) → IsFaceList mesh
    → IsWalk mesh first → LeadsAtPeak double first list second → long ≡ darts first → below ≡ record { moves = []; peak = long }
    → IsFoldedTo mesh first list.peak 0 first long below
folds_first mesh double first second list below long valid w h long_is none =
    let same : folded mesh.count first ≡ first = walk_folds mesh first valid w in
    record {
      led =
          subst (LeadsAtPeak mesh first below) (sym same)
          (leads_nowhere mesh first below (none ∙ ap (λ (n : ℕ). record { moves = []; peak = n }) long_is));
      long_is = long_is ∙ ap darts (sym same);
      few = omega (arith, ap (λ (l : PeakedMoves). length l.moves) none);
      low = omega (arith, ap (λ (l : PeakedMoves). l.peak) none, long_is, h.peak, greatest_darts-first double first list.moves);
    }

-- the next move is allowed
module _ (double : FaceList) (first : List ℕ) (list : PeakedMoves) (k : ℕ) (walk : List ℕ) (move : Move) (within : k < length list.moves)
    (item : get_or list.moves k move ≡ move) (coming : IsComing double first list k walk) where
  rest_is : drop k list.moves ≡ move ∷ drop (k + 1) list.moves
  rest_is = drop_more list.moves k move within ∙ ap (λ (m : Move). m ∷ drop (k + 1) list.moves) item

  told : (next : List ℕ) × (apply double walk move ≡ Some next) × (apply_all double next (drop (k + 1) list.moves) ≡ Some coming.end)
  told =
      first_answer (λ x. apply_all double x (drop (k + 1) list.moves)) (apply double walk move) coming.end
      (ap (apply_all double walk) (sym rest_is) ∙ coming.leads)

  pub comes_on : (next : List ℕ) → apply double walk move ≡ Some next → IsComing double first list (k + 1) next
  comes_on next e =
      let same : told.0 ≡ next = alike told.0 (sym told.1 ∙ e) in
      record {
        some = stays_walk double walk next move coming.some e;
        end = coming.end;
        all = coming.all;
        leads = subst (λ (l : List ℕ). apply_all double l (drop (k + 1) list.moves) ≡ Some coming.end) same told.2;
        within =
            omega (
              arith,
              coming.within,
              ap (greatest_darts double walk) rest_is,
              greatest_darts-more double walk next move (drop (k + 1) list.moves) e,
            );
      }
    where
      alike : (l : List ℕ) → Some l ≡ Some next → l ≡ next
      alike l e = cc

  pub few_darts : (next : List ℕ) → apply double walk move ≡ Some next → darts next ≤ list.peak
  few_darts next e =
      omega (
        arith,
        (comes_on next e).within,
        greatest_darts-first double next (drop (k + 1) list.moves),
      )

  pub is_allowed : (peak : ℕ) → peak ≡ list.peak → StaysWithinPeak double peak walk move
  is_allowed peak is = record { next = told.0; leads = told.1; within = omega (arith, is, few_darts told.0 told.1) }

pub first_entry : (count : ℕ) (walk : List ℕ) → 0 < length walk → IsFoldedEntry count walk 0 0
first_entry count [] some = absurd (omega arith)
first_entry count (x ∷ xs) some = record { within = some; below_is = refl }

-- the entry at which a move acts
pub acts_within : (mesh : FaceList) (peak : ℕ) (walk : List ℕ) (move : Move) → 0 < length walk → StaysWithinPeak mesh peak walk move
    → place_of_move move < length walk
acts_within mesh peak walk move some h =
    let p = parted_by mesh walk h.next move some h.leads in
    omega (
      arith,
      p.place,
      ap length p.walk_is,
      length-append (p.before ++ p.here ∷ []) (p.rest ++ p.after),
      length-append p.before (p.here ∷ []),
    )

module _ (mesh double : FaceList) (walk next : List ℕ) (move : Move) (e : apply double walk move ≡ Some next)
    (above place : ℕ) (at : above ≡ place_of_move move) (entry : IsFoldedEntry mesh.count walk above place) where
  p : IsParted double move walk next
  p = parted_by double walk next move (omega (arith, entry.within)) e

  here_is : get_or walk above 0 ≡ p.here
  here_is = entry_of p.before walk (p.rest ++ p.after) p.here above p.walk_is (p.place ∙ sym at)

  front : take (above + 1) walk ≡ p.before ++ p.here ∷ []
  front = front_of p.before walk (p.rest ++ p.after) p.here above p.walk_is (p.place ∙ sym at)

  next_front : take (above + 1) next ≡ p.before ++ p.here ∷ []
  next_front = front_of p.before next (p.others ++ p.after) p.here above p.next_is (p.place ∙ sym at)

  pub allowed_at : (here : ℕ) → here ≡ get_or walk above 0 → IsAllowedAt double here move
  allowed_at here is =
      subst (λ (v : ℕ). IsAllowedAt double v move) (sym (is ∙ here_is))
      (record { rest = p.rest; others = p.others; replaces = p.replaces })

  pub stays_entry : IsFoldedEntry mesh.count next above place
  stays_entry = record {
    within =
        omega (
          arith,
          p.place,
          at,
          ap length p.next_is,
          length-append (p.before ++ p.here ∷ []) (p.others ++ p.after),
          length-append p.before (p.here ∷ []),
        );
    below_is = entry.below_is ∙ ap (λ (l : List ℕ). length (folded mesh.count l)) (front ∙ sym next_front);
  }

  -- what is told of the move below
  pub folds_by : (here : ℕ) (low : Option Move) → here ≡ get_or walk above 0
      → ((rest others : List ℕ) → Replaces double move (here ∷ rest) (here ∷ others) → MatchOption low
      (folded mesh.count (here ∷ rest) ≡ folded mesh.count (here ∷ others)) (IsMoveBelow mesh place (here ∷ rest) (here ∷ others)))
      → MatchOption low (folded mesh.count next ≡ folded mesh.count walk)
      (λ (mv : Move). apply mesh (folded mesh.count walk) mv ≡ Some (folded mesh.count next))
  folds_by here low is h = by_case low (λ rest others. subst (IsTold low rest others) (is ∙ here_is) (h rest others))
    where
      IsTold : Option Move → List ℕ → List ℕ → ℕ → Type 0
      IsTold low rest others v =
          Replaces double move (v ∷ rest) (v ∷ others) → MatchOption low
          (folded mesh.count (v ∷ rest) ≡ folded mesh.count (v ∷ others)) (IsMoveBelow mesh place (v ∷ rest) (v ∷ others))

      by_case : (low : Option Move) → ((rest others : List ℕ) → IsTold low rest others p.here)
          → MatchOption low (folded mesh.count next ≡ folded mesh.count walk)
          (λ (mv : Move). apply mesh (folded mesh.count walk) mv ≡ Some (folded mesh.count next))
      by_case None h = fold_stays mesh double walk next move p (h p.rest p.others p.replaces)
      by_case (Some low) h =
          fold_goes mesh double walk next move low p place (entry.below_is ∙ ap (λ (l : List ℕ). length (folded mesh.count l)) front)
          (h p.rest p.others p.replaces)

-- and the list below goes on
module _ (mesh : FaceList) (first : List ℕ) (peak k : ℕ) (walk next : List ℕ) (long : ℕ) (below : PeakedMoves)
    (so_far : IsFoldedTo mesh first peak k walk long below) where
  pub folds_none : (after : ℕ) (more : PeakedMoves) → folded mesh.count next ≡ folded mesh.count walk → after ≡ long → more ≡ below
      → IsFoldedTo mesh first peak (k + 1) next after more
  folds_none after more same is more_is = record {
    led =
        subst (λ (l : PeakedMoves). LeadsAtPeak mesh first l (folded mesh.count next)) (sym more_is)
        (subst (LeadsAtPeak mesh first below) (sym same) so_far.led);
    long_is = is ∙ so_far.long_is ∙ ap darts (sym same);
    few = omega (arith, so_far.few, ap (λ (l : PeakedMoves). length l.moves) more_is);
    low = omega (arith, so_far.low, ap (λ (l : PeakedMoves). l.peak) more_is);
  }

  pub folds_one : (low : Move) (after : ℕ) (more : PeakedMoves) → apply mesh (folded mesh.count walk) low ≡ Some (folded mesh.count next)
      → after ≡ darts (folded mesh.count next) → darts next ≤ peak
      → more ≡ record { moves = below.moves ++ low ∷ []; peak = max below.peak after }
      → IsFoldedTo mesh first peak (k + 1) next after more
  folds_one low after more h is l more_is = record {
    led =
        one_more mesh first (folded mesh.count walk) (folded mesh.count next) low below more so_far.led h
        (more_is ∙ ap (λ (n : ℕ). record { moves = below.moves ++ low ∷ []; peak = max below.peak n }) is);
    long_is = is;
    few = omega (arith, so_far.few, ap (λ (l : PeakedMoves). length l.moves) more_is, length-append below.moves (low ∷ []));
    low = omega (arith, so_far.low, ap (λ (l : PeakedMoves). l.peak) more_is, is, l, length-folded mesh.count next);
  }

-- in the end all are folded
pub leads_folded : (mesh double : FaceList) (first : List ℕ) (list : PeakedMoves) (k : ℕ) (walk : List ℕ) (long : ℕ) (below : PeakedMoves)
    → IsFaceList mesh → double ≡ double_of mesh → length list.moves ≤ k → IsComing double first list k walk
    → IsFoldedTo mesh first list.peak k walk long below → LeadsFolded mesh first list below
leads_folded mesh double first list k walk long below valid is all coming so_far = λ second w h.
    let none : drop k list.moves ≡ [] = drop_all k list.moves all in
    let same : walk ≡ second =
    alike walk second
    (ap (apply_all double walk) (sym none) ∙ coming.leads ∙ sym coming.all
    ∙ ap (λ (m : FaceList). apply_all m first list.moves) is ∙ h.leads) in
    subst (LeadsAtPeak mesh first below) (ap (folded mesh.count) same ∙ walk_folds mesh second valid w) so_far.led
  where
    alike : (l m : List ℕ) → Some l ≡ Some m → l ≡ m
    alike l m e = cc
