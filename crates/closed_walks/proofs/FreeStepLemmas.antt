-- Free steps one after another, round a closed walk, and back.
use Rattle.std.proofs.Common.{◌≡◌, ℕ, suc, ◌-◌, ◌<◌, List, [], ◌∷◌, ◌++◌, length, drop, get_or, map, refl, ap, sym, ◌∙◌, subst, arith, append_assoc}
use Rattle.std.specs.Prelude.{All, IsTrue, Some}
use Rattle.std.proofs.lemmas.List.{append-nil}
use Rattle.std.proofs.lemmas.List.Elements.{All-append, All-nil, All-cons}
use Rattle.surf_model.specs.FaceLists.{FaceList, is_edge, is_used}
use Rattle.surf_model.specs.Walks.{IsWalk, darts, HaveCommonEnds}
use Rattle.surf_model.specs.Rewriting.{inverse_of, sides_of_move}
use Rattle.surf_model.proofs.ContextLemmas.{first_answer}
use Rattle.surf_model.proofs.LinkLemmas.{Linked, links, walk_from}
use Rattle.surf_model.proofs.WayBackLemmas.{keeps_walk, keeps_ends, undone}
use Rattle.closed_walks.specs.FreeHomotopy.{IsClosedWalk, FreeStep, Moved, Rotated, after_free, after_all_free, FreelyLeads, FreelyHomotopic}

pub one_after_another : (mesh : FaceList) (steps others : List FreeStep) (first second third : List ℕ) → FreelyLeads mesh first steps second
    → FreelyLeads mesh second others third → FreelyLeads mesh first (steps ++ others) third
one_after_another mesh [] others first second third h k =
    let same : first ≡ second = cc in
    subst (λ w. FreelyLeads mesh w others third) (sym same) k
one_after_another mesh (step ∷ steps) others first second third h k =
    let met = first_answer (λ next. after_all_free mesh next steps) (after_free mesh first step) second h in
    let more : FreelyLeads mesh met.0 (steps ++ others) third = one_after_another mesh steps others met.0 second third met.2 k in
    rw met.1 more

pub on : (mesh : FaceList) (first second third : List ℕ) → FreelyHomotopic mesh first second → FreelyHomotopic mesh second third
    → FreelyHomotopic mesh first third
on mesh first second third h k = (h.0 ++ k.0, one_after_another mesh h.0 k.0 first second third h.1 k.1)

-- the last vertex of a walk, kept as its first vertex and those behind it
abbrev pub end_of : ℕ → List ℕ → ℕ
end_of u [] = u
end_of u (v ∷ rest) = end_of v rest

pub end_is : (u : ℕ) (rest : List ℕ) → get_or (u ∷ rest) (length rest) 0 ≡ end_of u rest
end_is u [] = refl
end_is u (v ∷ rest) = end_is v rest

end_behind : (u v : ℕ) (rest : List ℕ) → end_of u (rest ++ v ∷ []) ≡ v
end_behind u v [] = refl
end_behind u v (w ∷ rest) = end_behind w v rest

-- The start moves on over the first part of a walk, and that part comes last.
pub starts_later : (mesh : FaceList) (u : ℕ) (there more : List ℕ)
    → FreelyLeads mesh (u ∷ (there ++ more)) (map (λ _. Rotated) there) (end_of u there ∷ (more ++ there))
starts_later mesh u [] more = ap (λ (l : List ℕ). Some (u ∷ l)) (sym (append-nil more))
starts_later mesh u (v ∷ there) more =
    let on : FreelyLeads mesh (v ∷ (there ++ (more ++ v ∷ []))) (map (λ _. Rotated) there) (end_of v there ∷ ((more ++ v ∷ []) ++ there)) =
    starts_later mesh v there (more ++ v ∷ []) in
    let end : (more ++ v ∷ []) ++ there ≡ more ++ v ∷ there = append_assoc more (v ∷ []) there in
    let start : (there ++ more) ++ v ∷ [] ≡ there ++ (more ++ v ∷ []) = append_assoc there more (v ∷ []) in
    subst (λ (l : List ℕ). FreelyLeads mesh (v ∷ l) (map (λ _. Rotated) there) (end_of v there ∷ (more ++ v ∷ there))) (sym start)
    (subst (λ (l : List ℕ). FreelyLeads mesh (v ∷ (there ++ (more ++ v ∷ []))) (map (λ _. Rotated) there) (end_of v there ∷ l)) end on)

-- a closed walk by its ends
pub closes : (mesh : FaceList) (u : ℕ) (rest : List ℕ) → IsClosedWalk mesh (u ∷ rest) → end_of u rest ≡ u
closes mesh u rest h =
    let last : length (u ∷ rest) - 1 ≡ length rest = omega arith in
    sym (end_is u rest) ∙ ap (λ k. get_or (u ∷ rest) k 0) (sym last) ∙ h.closed

closed_from : (mesh : FaceList) (u : ℕ) (rest : List ℕ) → IsWalk mesh (u ∷ rest) → end_of u rest ≡ u → IsClosedWalk mesh (u ∷ rest)
closed_from mesh u rest w e =
    let last : length (u ∷ rest) - 1 ≡ length rest = omega arith in
    record { is_walk = w; closed = ap (λ k. get_or (u ∷ rest) k 0) last ∙ end_is u rest ∙ e }

linked_behind : (mesh : FaceList) (u x : ℕ) (rest : List ℕ) → Linked mesh (u ∷ rest) → IsTrue (is_edge mesh (end_of u rest) x)
    → Linked mesh (u ∷ (rest ++ x ∷ []))
linked_behind mesh u x [] h e = (e, tt)
linked_behind mesh u x (v ∷ rest) h e = (h.0, linked_behind mesh v x rest h.1 e)

-- what is said of the vertices behind the first
used_behind : (P : ℕ → Type 0) (u : ℕ) (rest : List ℕ) → All P (u ∷ rest) → All P rest
used_behind P u rest h k d l = h (suc k) d (omega arith)

-- a free step keeps closed walks, and is undone by free steps
pub step_keeps : (mesh : FaceList) (step : FreeStep) (walk next : List ℕ) → IsClosedWalk mesh walk → after_free mesh walk step ≡ Some next
    → IsClosedWalk mesh next
step_keeps mesh (Moved move) walk next h e =
    let ends : HaveCommonEnds walk next = keeps_ends mesh walk next move h.is_walk.starts e in
    record {
      is_walk = keeps_walk mesh walk next move h.is_walk e;
      closed = sym ends.ends ∙ h.closed ∙ ends.starts;
    }
step_keeps mesh Rotated [] next h e = cc
step_keeps mesh Rotated (u ∷ []) next h e = cc
step_keeps mesh Rotated (u ∷ v ∷ rest) next h e =
    let is : v ∷ (rest ++ v ∷ []) ≡ next = cc in
    let linked : Linked mesh (u ∷ v ∷ rest) = links mesh (u ∷ v ∷ rest) h.is_walk in
    let edge : IsTrue (is_edge mesh (end_of v rest) v) =
    subst (λ x. IsTrue (is_edge mesh x v)) (sym (closes mesh u (v ∷ rest) h)) linked.0 in
    let used : All (λ x. IsTrue (is_used mesh x)) (v ∷ rest) = used_behind (λ x. IsTrue (is_used mesh x)) u (v ∷ rest) h.is_walk.used in
    let again : All (λ x. IsTrue (is_used mesh x)) (v ∷ []) =
    All-cons (λ x. IsTrue (is_used mesh x)) v [] (used 0 v (omega arith)) (All-nil (λ x. IsTrue (is_used mesh x))) in
    subst (IsClosedWalk mesh) is
    (closed_from mesh v (rest ++ v ∷ [])
    (walk_from mesh (v ∷ (rest ++ v ∷ [])) (omega arith) (All-append (λ x. IsTrue (is_used mesh x)) (v ∷ rest) (v ∷ []) used again)
    (linked_behind mesh v v rest linked.1 edge))
    (end_behind v v rest))

step_back : (mesh : FaceList) (step : FreeStep) (walk next : List ℕ) → IsClosedWalk mesh walk → after_free mesh walk step ≡ Some next
    → FreelyHomotopic mesh next walk
step_back mesh (Moved move) walk next h e =
    let back : after_free mesh next (Moved (inverse_of (sides_of_move mesh move) move)) ≡ Some walk =
    undone mesh walk next move h.is_walk e in
    (Moved (inverse_of (sides_of_move mesh move) move) ∷ [], rw back refl)
step_back mesh Rotated [] next h e = cc
step_back mesh Rotated (u ∷ []) next h e = cc
step_back mesh Rotated (u ∷ v ∷ rest) next h e =
    let is : v ∷ (rest ++ v ∷ []) ≡ next = cc in
    let round : FreelyLeads mesh (v ∷ (rest ++ v ∷ [])) (map (λ _. Rotated) rest) (end_of v rest ∷ v ∷ rest) =
    starts_later mesh v rest (v ∷ []) in
    let home : end_of v rest ≡ u = closes mesh u (v ∷ rest) h in
    subst (λ (w : List ℕ). FreelyHomotopic mesh w (u ∷ v ∷ rest)) is
    (map (λ _. Rotated) rest, subst (λ x. FreelyLeads mesh (v ∷ (rest ++ v ∷ [])) (map (λ _. Rotated) rest) (x ∷ v ∷ rest)) home round)

pub steps_keep : (mesh : FaceList) (steps : List FreeStep) (walk next : List ℕ) → IsClosedWalk mesh walk → FreelyLeads mesh walk steps next
    → IsClosedWalk mesh next
steps_keep mesh [] walk next h e =
    let same : walk ≡ next = cc in
    subst (IsClosedWalk mesh) same h
steps_keep mesh (step ∷ steps) walk next h e =
    let met = first_answer (λ w. after_all_free mesh w steps) (after_free mesh walk step) next e in
    steps_keep mesh steps met.0 next (step_keeps mesh step walk met.0 h met.1) met.2

steps_back : (mesh : FaceList) (steps : List FreeStep) (walk next : List ℕ) → IsClosedWalk mesh walk → FreelyLeads mesh walk steps next
    → FreelyHomotopic mesh next walk
steps_back mesh [] walk next h e =
    let same : walk ≡ next = cc in
    ([], ap Some (sym same))
steps_back mesh (step ∷ steps) walk next h e =
    let met = first_answer (λ w. after_all_free mesh w steps) (after_free mesh walk step) next e in
    on mesh next met.0 walk (steps_back mesh steps met.0 next (step_keeps mesh step walk met.0 h met.1) met.2)
    (step_back mesh step walk met.0 h met.1)

pub turn : (mesh : FaceList) (first second : List ℕ) → IsClosedWalk mesh first → FreelyHomotopic mesh first second
    → FreelyHomotopic mesh second first
turn mesh first second h free = steps_back mesh free.0 first second h free.1

-- a walk put together of two, and the same two the other way round
pub parts_turn : (mesh : FaceList) (u v : ℕ) (there more : List ℕ) → end_of u there ≡ v
    → FreelyHomotopic mesh (u ∷ (there ++ more)) (v ∷ (more ++ there))
parts_turn mesh u v there more e = (
  map (λ _. Rotated) there,
  subst (λ x. FreelyLeads mesh (u ∷ (there ++ more)) (map (λ _. Rotated) there) (x ∷ (more ++ there))) e (starts_later mesh u there more),
)

pub walks_turn : (mesh : FaceList) (there back : List ℕ) → IsWalk mesh there → IsWalk mesh back
    → get_or back 0 0 ≡ get_or there (darts there) 0 → FreelyHomotopic mesh (there ++ drop 1 back) (back ++ drop 1 there)
walks_turn mesh [] back w z e =
    let none : 0 < 0 = w.starts in
    absurd (omega arith)
walks_turn mesh (u ∷ there) [] w z e =
    let none : 0 < 0 = z.starts in
    absurd (omega arith)
walks_turn mesh (u ∷ there) (v ∷ back) w z e =
    let last : darts (u ∷ there) ≡ length there = omega arith in
    parts_turn mesh u v there back (sym (end_is u there) ∙ ap (λ k. get_or (u ∷ there) k 0) (sym last) ∙ sym e)
