use Rattle.certify_commands.proofs.Common.{IsFinding, TellsOfSome, whole_sphere, IsComponentOf, surface_of, Component, Whole, Alone, IsShown, ◌≡◌, ℕ, true, get_or, ap, sym, subst, ◌∙◌, IfOk, FaceList, is_used, IsWalk}
use Rattle.certify_commands.proofs.finding.Finding.for_mesh.Goals as goal

pub returns-in-Whole : goal.returns-in-Whole
returns-in-Whole c =
    λ mesh first second component w z ends h.
    let surface = c.in-Whole.surface in
    let is : IsComponentOf mesh (get_or first 0 0) (Whole surface) =
    subst (IsComponentOf mesh (get_or first 0 0)) c.in-Whole.is component in
    let there : IsFinding surface first second c.args.self =
    subst (λ (x : Component). IsFinding (surface_of x) first second c.args.self) c.in-Whole.is h in
    subst (λ (m : FaceList). IsShown m first second c.into_certificate.result) is
    (c.into_certificate.ensures surface first second there
    (whole_sphere surface.mesh (get_or first 0 0) c.faces.ensures.valid.faces c.faces.ensures.valid.closed.connected
    (subst (λ (m : FaceList). is_used m (get_or first 0 0) ≡ true) (sym is) (w.used 0 0 w.starts))))

pub for_whole-requires-clause-part : goal.for_whole-requires-clause-part
for_whole-requires-clause-part c =
    let some = c.requires.component in
    let is : IsComponentOf some.0 some.1 (Alone c.in-Alone.part) = subst (IsComponentOf some.0 some.1) c.in-Alone.is some.2 in
    is.0

pub for_whole-requires-clause-some : goal.for_whole-requires-clause-some
for_whole-requires-clause-some c =
    subst (λ (x : Component). TellsOfSome (surface_of x) c.args.self) c.in-Alone.is c.requires.some

pub returns-in-Alone : goal.returns-in-Alone
returns-in-Alone c =
    λ mesh first second component w z ends h.
    let part = c.in-Alone.part in
    let is : IsComponentOf mesh (get_or first 0 0) (Alone part) =
    subst (IsComponentOf mesh (get_or first 0 0)) c.in-Alone.is component in
    let there : IsFinding part.alone first second c.args.self =
    subst (λ (x : Component). IsFinding (surface_of x) first second c.args.self) c.in-Alone.is h in
    let at_second : get_or part.parts.places (get_or second 0 0) 0 ≡ part.place =
    ap (λ (v : ℕ). get_or part.parts.places v 0) (sym ends.starts) ∙ is.2 in
    subst (λ (m : FaceList). IfOk c.for_whole.result (IsShown m first second)) is.1
    (c.for_whole.ensures first second (subst (λ (m : FaceList). IsWalk m first) (sym is.1) w)
    (subst (λ (m : FaceList). IsWalk m second) (sym is.1) z) is.2 at_second there)
