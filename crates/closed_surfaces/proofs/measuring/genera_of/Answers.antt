use Rattle.closed_surfaces.proofs.Common.{◌≡◌, ◌+◌, ◌<◌, ℕ, List, get_or, length, sym, subst, arith, get_or_read, component_mesh, AreNumbersOf, HasGenus, SurfaceNumbers}
use Rattle.closed_surfaces.proofs.Components.{signed_surface}
use Rattle.closed_surfaces.proofs.Genera.{AreGeneraUpTo, IsComponentSurface, component_surface, genera_all, genera_more, genera_none, some_genus}
use Rattle.closed_surfaces.proofs.measuring.genera_of.Goals as goal

pub loop-part-init : goal.loop-part-init
loop-part-init c =
    subst (λ (l : List ℕ). AreGeneraUpTo c.args.surface.now.faces c.args.parts.now l 0) (sym c.in_ok-genera.ensures.items)
    (genera_none c.args.surface.now.faces c.args.parts.now)

pub genus_of-requires : goal.genus_of-requires
genus_of-requires c =
    let mesh = c.args.surface.now.faces in
    let parts = c.args.parts.now in
    let part : ℕ = c.loop-part.part in
    let all : List SurfaceNumbers = c.in_ok-all.all.items in
    let numbers : SurfaceNumbers = c.index-numbers.result.now in
    let there : part < length parts.components = omega (arith, c.loop-part-test.true, c.len-part-end.ensures) in
    let read : numbers ≡ get_or all part numbers =
    get_or_read all part _ (omega (arith, there, c.in_ok-all.ensures.count)) c.index-numbers.ensures numbers in
    let alone : IsComponentSurface (component_mesh mesh parts part) =
    component_surface mesh parts part c.requires.signed.valid (signed_surface c.args.surface.now c.requires.signed) c.requires.parts
    there in
    let genus = some_genus (component_mesh mesh parts part) alone.valid alone.surface in (
      component_mesh mesh parts part,
      genus.0,
      subst (AreNumbersOf (component_mesh mesh parts part)) (sym read) (c.in_ok-all.ensures.numbers part numbers there),
      genus.1,
    )

pub loop-part-preserved : goal.loop-part-preserved
loop-part-preserved c =
    let mesh = c.args.surface.now.faces in
    let parts = c.args.parts.now in
    let part : ℕ = c.loop-part.part in
    let all : List SurfaceNumbers = c.in_ok-all.all.items in
    let numbers : SurfaceNumbers = c.index-numbers.result.now in
    let there : part < length parts.components = omega (arith, c.loop-part-test.true, c.len-part-end.ensures) in
    let read : numbers ≡ get_or all part numbers =
    get_or_read all part _ (omega (arith, there, c.in_ok-all.ensures.count)) c.index-numbers.ensures numbers in
    let genus : HasGenus (component_mesh mesh parts part) c.genus_of.result =
    c.genus_of.ensures (component_mesh mesh parts part)
    (subst (AreNumbersOf (component_mesh mesh parts part)) (sym read) (c.in_ok-all.ensures.numbers part numbers there)) in
    subst (λ (l : List ℕ). AreGeneraUpTo mesh parts l (part + 1)) (sym c.in_ok-push.ensures.items)
    (genera_more mesh parts c.loop-part.genera.items part c.genus_of.result c.loop-part.invariant genus)

pub returns : goal.returns
returns c =
    let mesh = c.args.surface.now.faces in
    let parts = c.args.parts.now in
    let all : c.loop-part.part ≡ length parts.components =
    omega (arith, c.loop-part-test.false, c.len-part-end.ensures, c.loop-part.auto.part-end) in
    genera_all mesh parts c.loop-part.genera.items c.requires.parts
    (subst (AreGeneraUpTo mesh parts c.loop-part.genera.items) all c.loop-part.invariant)
