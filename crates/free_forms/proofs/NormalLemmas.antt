-- Homotopic walks have one normal walk.
use Rattle.free_forms.proofs.Common.{IsNormalWalkOf, OpenView, HasFaceParents, IsParentEdge, ◌≡◌, ℕ, suc, ◌+◌, ◌<◌, List, [], ◌∷◌, ◌++◌, length, get_or, refl, ap, sym, ◌∙◌, subst, arith, ◌↔◌, first_answer, stays_walk, one_after_another, list_keeps_ends, list_undone, FaceList, apply, apply_all, Leads, Homotopic, way_back, IsWalk, Move, acts_exactly, moves_act_along, crosses_any, any_darts, each_any_of, run, walked, EachDart}
use Rattle.surf_model.proofs.StackLemmas.{put_on, all_put, put_keeps, same_equal, there_and_back, top_put}
use Rattle.surf_model.specs.FreeWalks.{HasNoSpur}
use Rattle.free_forms.proofs.Expansions.{AnyDart, Equal, ActsAnywhere, act_fully, acts_by_base, acting_acts, faces_nothing}

-- a stack without spurs, whose top is the vertex
pub record IsStackAt (v : ℕ) (stack : List ℕ) : Type 0 where
  pub below : List ℕ
  pub top : stack ≡ v ∷ below
  pub no_spur : HasNoSpur stack

abbrev pub put : List ℕ → ℕ → ℕ → List ℕ
put stack u v = put_on stack v

pub put_at : (stack : List ℕ) (v : ℕ) → HasNoSpur stack → IsStackAt v (put_on stack v)
put_at stack v clean = grind (arith, top_put, put_keeps)

pub puts_act : ActsAnywhere put IsStackAt
puts_act = grind (arith, acts_exactly, put, put_at, there_and_back)

-- off the parent edges each vertex is put on
pub puts_all : {surface : OpenView} → HasFaceParents surface → (s : List ℕ) (u : ℕ) (vs : List ℕ)
    → EachDart (λ a b. IsParentEdge surface a b → ⊥) u vs → run (act_fully surface put (λ f x. x)) s u vs ≡ all_put s vs
puts_all has s u [] h = refl
puts_all {surface} has s u (v ∷ vs) h =
    ap (λ (x : List ℕ). run (act_fully surface put (λ f y. y)) x v vs) (acts_by_base put (λ f y. y) has u v s h.0)
    ∙ puts_all has (put_on s v) v vs h.1

pub off_parents : (surface : OpenView) (u : ℕ) (vs : List ℕ)
    → ((k : ℕ) → k + 1 < length (u ∷ vs) → IsParentEdge surface (get_or (u ∷ vs) k 0) (get_or (u ∷ vs) (k + 1) 0) → ⊥)
    → EachDart (λ a b. IsParentEdge surface a b → ⊥) u vs
off_parents surface u [] h = tt
off_parents surface u (v ∷ vs) h = (
  h 0 (omega arith),
  off_parents surface v vs (λ k l.
      let next : suc k + 1 ≡ suc (k + 1) = omega arith in
      subst (λ (n : ℕ). IsParentEdge surface (get_or (v ∷ vs) k 0) (get_or (u ∷ v ∷ vs) n 0) → ⊥) next (h (suc k) (omega arith))),
)

-- what a walk makes of a stack is what is left where its normal walk is put on
walk_puts : {surface : OpenView} {walk : List ℕ} (other stack : List ℕ) → HasFaceParents surface → 0 < length walk
    → IsNormalWalkOf surface walk
    other
    → 0 < length other → HasNoSpur stack
    → walked (act_fully surface put (λ f s. s)) (put_on stack (get_or walk 0 0)) walk ≡ all_put stack other
walk_puts [] stack has start h some clean = absurd (omega arith)
walk_puts {surface} {walk} (u ∷ us) stack has start h some clean =
    let act : List ℕ → ℕ → ℕ → List ℕ = act_fully surface put (λ f s. s) in
    let first : ℕ = get_or walk 0 0 in
    let same : first ≡ u = (list_keeps_ends surface.mesh h.homotopic.0 walk (u ∷ us) start h.homotopic.1).starts in
    moves_act_along AnyDart Equal act IsStackAt (acting_acts surface put IsStackAt has puts_act (length surface.mesh.faces)) surface.mesh
    (any_darts surface.mesh) (λ f. Unit {0}) (faces_nothing surface put IsStackAt has puts_act) h.homotopic.0 walk (u ∷ us)
    (put_on stack first) start (each_any_of walk) (crosses_any h.homotopic.0) h.homotopic.1 (put_at stack first clean)
    ∙ ap (λ (v : ℕ). run act (put_on stack v) u us) same
    ∙ puts_all has (put_on stack u) u us (off_parents surface u us h.normal.no_parent)

-- moves lead to no empty walk
some_left : (mesh : FaceList) (moves : List Move) (walk next : List ℕ) → 0 < length walk → Leads mesh walk moves next → 0 < length next
some_left mesh [] walk next start e = grind arith
some_left mesh (move ∷ moves) walk next start e =
    let told = first_answer (λ x. apply_all mesh x moves) (apply mesh walk move) next e in
    some_left mesh moves told.0 next (stays_walk mesh walk told.0 move start told.1) told.2

-- a walk has one normal walk
pub one_normal : (surface : OpenView) (walk first second : List ℕ) → HasFaceParents surface → 0 < length walk
    → IsNormalWalkOf surface walk first → IsNormalWalkOf surface walk second → first ≡ second
one_normal surface walk first second has start one two =
    let some : 0 < length first = some_left surface.mesh one.homotopic.0 walk first start one.homotopic.1 in
    let any : 0 < length second = some_left surface.mesh two.homotopic.0 walk second start two.homotopic.1 in
    same_equal first second one.normal.no_spur two.normal.no_spur (λ stack clean.
    sym (walk_puts first stack has start one some clean) ∙ walk_puts second stack has start two any clean)

-- two walks are homotopic exactly where their normal walks are equal
pub by_normal_walks : (surface : OpenView) (walk other first second : List ℕ) → HasFaceParents surface → IsWalk surface.mesh walk
    → IsWalk surface.mesh other → IsNormalWalkOf surface walk first → IsNormalWalkOf surface other second
    → Homotopic surface.mesh walk other ↔ (first ≡ second)
by_normal_walks surface walk other first second has is_walk is_other one two =
    let mesh : FaceList = surface.mesh in (
      λ joined.
          one_normal surface walk first second has is_walk.starts one (record {
            normal = two.normal;
            homotopic = (
              joined.0 ++ two.homotopic.0,
              one_after_another mesh joined.0 two.homotopic.0 walk other second joined.1 two.homotopic.1,
            );
          }),
      λ same.
          let back : Leads mesh second (way_back mesh two.homotopic.0) other = grind (arith, list_undone) in (
            one.homotopic.0 ++ way_back mesh two.homotopic.0,
            one_after_another mesh one.homotopic.0 (way_back mesh two.homotopic.0) walk first other one.homotopic.1
                (subst (λ (w : List ℕ). Leads mesh w (way_back mesh two.homotopic.0) other) (sym same) back),
          ),
    )
