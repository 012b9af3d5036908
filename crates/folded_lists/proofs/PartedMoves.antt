-- A walk that a move changes, parted where the move begins; and what that does to the fold.
use Rattle.folded_lists.proofs.Common.{folded, IsMoveBelow, ◌≡◌, ℕ, ◌+◌, ◌<◌, List, [], ◌∷◌, ◌++◌, length, get_or, take, ap, sym, ◌∙◌, subst, arith, append_assoc, length-append, get_or-append-add, take_at, Some, by_replacing, FaceList, apply, IsReplacement, Replaces, place_of_move, Move, end_from}
use Rattle.surf_model.proofs.WayBackLemmas.{AreAlike, alike, at_first}
use Rattle.folded_lists.proofs.FoldedParts.{end-last, move_folds, same_fold}

-- the move replaces what comes behind a vertex, and both ways lead to one vertex
pub record IsParted (mesh : FaceList) (move : Move) (walk next : List ℕ) : Type 0 where
  pub before : List ℕ
  pub here : ℕ
  pub rest : List ℕ
  pub others : List ℕ
  pub after : List ℕ
  pub walk_is : walk ≡ (before ++ here ∷ []) ++ (rest ++ after)
  pub next_is : next ≡ (before ++ here ∷ []) ++ (others ++ after)
  pub place : length before ≡ place_of_move move
  pub ends : end_from here rest ≡ end_from here others
  pub replaces : Replaces mesh move (here ∷ rest) (here ∷ others)

ended : (v last : ℕ) (rest front : List ℕ) → v ∷ rest ≡ front ++ last ∷ [] → end_from v rest ≡ last
ended v last rest [] e =
    let same : v ≡ last = cc in
    let none : rest ≡ [] = cc in
    ap (end_from v) none ∙ same
ended v last rest (x ∷ xs) e =
    let more : rest ≡ xs ++ last ∷ [] = cc in
    ap (end_from v) more ∙ end-last v xs last

pub parted_by : (mesh : FaceList) (walk next : List ℕ) (move : Move) → 0 < length walk → apply mesh walk move ≡ Some next
    → IsParted mesh move walk next
parted_by mesh walk next move some e =
    let r : IsReplacement mesh move walk next = (by_replacing mesh walk next move some).0 e in
    let a : AreAlike r.part r.other = alike mesh move r.part r.other r.replaces in
    let v : ℕ = a.first in
    let parts : (rest : List ℕ) → (r.before ++ v ∷ []) ++ (rest ++ r.after) ≡ r.before ++ (v ∷ (rest ++ r.after)) =
    λ rest. append_assoc r.before (v ∷ []) (rest ++ r.after) in
    record {
      before = r.before;
      here = v;
      rest = a.part_rest;
      others = a.other_rest;
      after = r.after;
      walk_is = r.walk_is ∙ at_first r.before r.part r.after a.part_rest v a.part_begins ∙ sym (parts a.part_rest);
      next_is = r.next_is ∙ at_first r.before r.other r.after a.other_rest v a.other_begins ∙ sym (parts a.other_rest);
      place = r.place;
      ends =
          ended v a.last a.part_rest a.part_front (sym a.part_begins ∙ a.part_ends)
          ∙ sym (ended v a.last a.other_rest a.other_front (sym a.other_begins ∙ a.other_ends));
      replaces =
          subst (λ (p : List ℕ). Replaces mesh move p (v ∷ a.other_rest)) a.part_begins
          (subst (Replaces mesh move r.part) a.other_begins r.replaces);
    }

-- both parts have one fold
pub fold_stays : (mesh double : FaceList) (walk next : List ℕ) (move : Move) (p : IsParted double move walk next)
    → folded mesh.count (p.here ∷ p.rest) ≡ folded mesh.count (p.here ∷ p.others) → folded mesh.count next ≡ folded mesh.count walk
fold_stays mesh double walk next move p same =
    ap (folded mesh.count) p.next_is ∙ same_fold mesh.count p.before p.here p.rest p.others p.after p.ends same
    ∙ sym (ap (folded mesh.count) p.walk_is)

-- a move of the mesh leads from the one fold to the other
pub fold_goes : (mesh double : FaceList) (walk next : List ℕ) (move low : Move) (p : IsParted double move walk next) (place : ℕ)
    → place + 1 ≡ length (folded mesh.count (p.before ++ p.here ∷ []))
    → IsMoveBelow mesh place (p.here ∷ p.rest) (p.here ∷ p.others) low
    → apply mesh (folded mesh.count walk) low ≡ Some (folded mesh.count next)
fold_goes mesh double walk next move low p place at is =
    ap (λ (l : List ℕ). apply mesh (folded mesh.count l) low) p.walk_is
    ∙ move_folds mesh p.before p.here p.rest p.others p.after place low p.ends at is
    ∙ ap (λ (l : List ℕ). Some (folded mesh.count l)) (sym p.next_is)

-- the entries up to the one where a walk is parted
pub front_of : (before walk rest : List ℕ) (here at : ℕ) → walk ≡ (before ++ here ∷ []) ++ rest → length before ≡ at
    → take (at + 1) walk ≡ before ++ here ∷ []
front_of before walk rest here at e l =
    ap (take (at + 1)) e ∙ take_at (before ++ here ∷ []) rest (at + 1) (omega (arith, l, length-append before (here ∷ [])))

-- and that entry
pub entry_of : (before walk rest : List ℕ) (here at : ℕ) → walk ≡ (before ++ here ∷ []) ++ rest → length before ≡ at
    → get_or walk at 0 ≡ here
entry_of before walk rest here at e l =
    let index : at ≡ length before + 0 = omega (arith, l) in
    ap (λ (w : List ℕ). get_or w at 0) (e ∙ append_assoc before (here ∷ []) rest)
    ∙ ap (λ (n : ℕ). get_or (before ++ here ∷ rest) n 0) index
    ∙ get_or-append-add before (here ∷ rest) 0 0
