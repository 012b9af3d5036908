-- The spokes of a walk, dart by dart, and how many are left after some steps.
use Rattle.move_lifting.proofs.Common.{next_of, OrientedMesh, IsOrientedSurface, rotations_of, IsDartFrom, spokes_of_dart, HasSpokesMore, AreFreeSpokesOf, spurs_of, dart_from, from_is, PolygonView, label_of, HasFreeSpokes, HaveFreeSpokes, spokes_along, last_side, AtPlace, at-place, old_way, new_way, IsTurned, is-turned, spur-is, later-is, PathLeads, quad_turned, after_path_step, from_vertex, PathStep, Spur, Turn, ◌≡◌, ◌≢◌, ℕ, zero, suc, ◌+◌, ◌*◌, ◌-◌, ◌<◌, ◌≤◌, Bool, true, false, List, [], ◌∷◌, ◌++◌, length, get_or, take, refl, ap, sym, ◌∙◌, subst, arith, append_assoc, length-append, common_steps, append-nil}
use Rattle.spoke_paths.specs.PathSteps.{spur_goes}
use Rattle.std.proofs.Common.{Some}

-- the spokes of the dart from u to v
pub own_spokes : OrientedMesh → PolygonView → ℕ → ℕ → List ℕ
own_spokes s polygon u v = spokes_of_dart s polygon (dart_from s u v)

pub own_is : (s : OrientedMesh) (polygon : PolygonView) → IsOrientedSurface s → (u v d : ℕ) → IsDartFrom (rotations_of s) u v d
    → own_spokes s polygon u v ≡ spokes_of_dart s polygon d
unfolding own_spokes
own_is s polygon o u v d from = ap (spokes_of_dart s polygon) (from_is s o u v d from)

of_dart : (s : OrientedMesh) (polygon : PolygonView) (d : ℕ) → HasFreeSpokes s polygon d (spokes_of_dart s polygon d)
of_dart s polygon d = grind arith

pub have_own : (s : OrientedMesh) (polygon : PolygonView) → IsOrientedSurface s → HaveFreeSpokes s polygon (own_spokes s polygon)
have_own s polygon o u v d from = subst (HasFreeSpokes s polygon d) (sym (own_is s polygon o u v d from)) (of_dart s polygon d)

pub few_of_dart : (s : OrientedMesh) (polygon : PolygonView) (d : ℕ) → length (spokes_of_dart s polygon d) ≤ 2
few_of_dart s polygon d = grind arith

pub none_of_dart : (s : OrientedMesh) (polygon : PolygonView) (d : ℕ) → d ≢ last_side polygon
    → label_of polygon d ≡ label_of polygon (next_of s d)
    → spokes_of_dart s polygon d ≡ []
none_of_dart s polygon d other same = grind arith

-- one dart more
along_next : (spokes : ℕ → ℕ → List ℕ) (walk : List ℕ) (k : ℕ) → k + 1 < length walk
    → spokes_along spokes (take (suc (suc k)) walk) ≡ spokes_along spokes (take (suc k) walk) ++ spokes (get_or walk k 0)
    (get_or walk (suc k) 0)
along_next spokes [] k l = absurd (omega arith)
along_next spokes (u ∷ []) k l = absurd (omega arith)
along_next spokes (u ∷ v ∷ walk) zero l = append-nil (spokes u v)
along_next spokes (u ∷ v ∷ walk) (suc k) l =
    ap (λ (rest : List ℕ). spokes u v ++ rest) (along_next spokes (v ∷ walk) k (omega arith))
    ∙ sym (append_assoc (spokes u v) (spokes_along spokes (take (suc k) (v ∷ walk))) (spokes (get_or (v ∷ walk) k 0) (get_or walk k 0)))

-- the spokes of the first n entries of a walk
pub record AreSpokesSoFar (s : OrientedMesh) (polygon : PolygonView) (walk : List ℕ) (n : ℕ) (path : List ℕ) : Type 0 where
  pub is : path ≡ spokes_along (own_spokes s polygon) (take n walk)
  pub few : length path ≤ 2 * n

pub more_so_far : (s : OrientedMesh) (polygon : PolygonView) → IsOrientedSurface s → (walk : List ℕ) (n u v : ℕ) (old new : List ℕ) → 1 ≤ n
    → n < length walk
    → get_or walk (n - 1) 0 ≡ u → get_or walk n 0 ≡ v → AreSpokesSoFar s polygon walk n old → HasSpokesMore s polygon u v old new
    → AreSpokesSoFar s polygon walk (n + 1) new
more_so_far s polygon o walk zero u v old new some l one two so_far more = absurd (omega arith)
more_so_far s polygon o walk (suc k) u v old new some l one two so_far more =
    let here : own_spokes s polygon (get_or walk k 0) (get_or walk (suc k) 0) ≡ spokes_of_dart s polygon more.dart =
    ap (λ x. own_spokes s polygon (get_or walk x 0) (get_or walk (suc k) 0)) (let e : k ≡ suc k - 1 = omega arith in e)
    ∙ ap (λ x. own_spokes s polygon x (get_or walk (suc k) 0)) one ∙ ap (own_spokes s polygon u) two
    ∙ own_is s polygon o u v more.dart more.from in
    let up_one : suc (suc k) ≡ suc k + 1 = omega arith in
    record {
      is = more.come ∙ ap (λ (l : List ℕ). l ++ spokes_of_dart s polygon more.dart) so_far.is
          ∙ ap (λ (l : List ℕ). spokes_along (own_spokes s polygon) (take (suc k) walk) ++ l) (sym here)
          ∙ sym (along_next (own_spokes s polygon) walk k (omega arith)) ∙ ap (λ n. spokes_along (own_spokes s polygon) (take n walk))
          up_one;
      few = omega (
        arith,
        so_far.few,
        ap (λ (l : List ℕ). length l) more.come,
        length-append old (spokes_of_dart s polygon more.dart),
        few_of_dart s polygon more.dart,
      );
    }

pub all_spokes : (s : OrientedMesh) (polygon : PolygonView) → IsOrientedSurface s → (walk : List ℕ) (n : ℕ) (path : List ℕ)
    → length walk ≤ n
    → AreSpokesSoFar s polygon walk n path → AreFreeSpokesOf s polygon walk path
all_spokes s polygon o walk n path all so_far = grind (arith, common_steps, own_spokes, have_own)

-- how many spurs are taken out
spurs_on : (steps more : List PathStep) → spurs_of (steps ++ more) ≡ spurs_of steps + spurs_of more
spurs_on [] more = omega arith
spurs_on (Spur at ∷ steps) more = (let on = spurs_on steps more in omega (arith, on))
spurs_on (Turn at side partner up ∷ steps) more = spurs_on steps more

pub spurs_next : (steps : List PathStep) (n : ℕ) (d : PathStep) → n < length steps
    → spurs_of (take (suc n) steps) ≡ spurs_of (take n steps) + spurs_of (get_or steps n d ∷ [])
spurs_next [] n d l = absurd (omega arith)
spurs_next (Spur at ∷ steps) zero d l = omega arith
spurs_next (Turn at side partner up ∷ steps) zero d l = omega arith
spurs_next (Spur at ∷ steps) (suc n) d l = (let on = spurs_next steps n d (omega arith) in omega (arith, on))
spurs_next (Turn at side partner up ∷ steps) (suc n) d l = spurs_next steps n d (omega arith)

pub few_spurs : (steps : List PathStep) → spurs_of steps ≤ length steps
few_spurs [] = omega arith
few_spurs (Spur at ∷ steps) = (let on = few_spurs steps in omega (arith, on))
few_spurs (Turn at side partner up ∷ steps) = (let on = few_spurs steps in omega (arith, on))

-- each takes out two spokes
long_turn : (up : Bool) (degree : ℕ) (at_vertex : Bool) (a c : ℕ) (after : List ℕ)
    → length (new_way up degree at_vertex a c ++ after) ≡ length (old_way up degree at_vertex a c ++ after)
long_turn true degree true a c after = refl
long_turn true degree false a c after = refl
long_turn false degree true a c after = refl
long_turn false degree false a c after = refl

pub step_long : (places : List ℕ) (step : PathStep) (path next : List ℕ) → after_path_step places step path ≡ Some next
    → length next + 2 * spurs_of (step ∷ []) ≡ length path
step_long places (Spur at) path next e =
    let r : AtPlace (λ at_vertex. spur_goes) at path next = at-place (λ at_vertex. spur_goes) at path next e in
    let goes = spur-is r.part r.instead r.does in
    omega (
      arith,
      ap (λ (l : List ℕ). length l) r.path_is,
      ap (λ (l : List ℕ). length l) r.next_is,
      length-append r.before r.part,
      length-append r.before r.instead,
      ap (λ (l : List ℕ). length l) goes.is,
    )
step_long places (Turn at a c up) path next e =
    let r : AtPlace (quad_turned places a c up) at path next = at-place (quad_turned places a c up) at path next e in
    let turned : IsTurned places a c up (from_vertex at) r.part r.instead =
    is-turned places a c up (from_vertex at) r.part r.instead r.does in
    omega (
      arith,
      ap (λ (l : List ℕ). length l) r.path_is,
      ap (λ (l : List ℕ). length l) r.next_is,
      length-append r.before r.part,
      length-append r.before r.instead,
      ap (λ (l : List ℕ). length l) turned.from,
      ap (λ (l : List ℕ). length l) turned.to,
      long_turn up (length places) (from_vertex at) a c turned.after,
    )

pub steps_long : (places : List ℕ) (steps : List PathStep) (path end : List ℕ) → PathLeads places path steps end
    → length end + 2 * spurs_of steps ≡ length path
steps_long places [] path end e = (let same : path ≡ end = cc in omega (arith, ap (λ (l : List ℕ). length l) same))
steps_long places (step ∷ steps) path end e =
    let l = later-is places step steps path end e in
    omega (arith, step_long places step path l.next l.first, steps_long places steps l.next end l.rest, spurs_on (step ∷ []) steps)
