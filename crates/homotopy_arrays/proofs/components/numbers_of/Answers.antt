use Rattle.std.proofs.Common.{◌≡◌, ◌+◌, ◌∙◌, ◌<◌, length, ℕ, List, get_or, sym, subst, arith, ap, refl}
use Rattle.std.proofs.lemmas.List.{get_or_read, length_push}
use Rattle.surf_model.specs.ComponentParts.{component_mesh}
use Rattle.surf_model.specs.Genera.{HasGenus}
use Rattle.surf_model.specs.declared.numbers.SurfaceNumbers.{SurfaceNumbers}
use Rattle.homotopy_arrays.specs.ArrayComponents.{AreComponentNumbers}
use Rattle.homotopy_arrays.specs.declared.components.ComponentNumbers.{ComponentNumbers}
use Rattle.homotopy_arrays.proofs.PartLemmas.{genera_many, genus_here}
use Rattle.homotopy_arrays.proofs.components.numbers_of.Goals as goal

pub index-requires : goal.index-requires
index-requires c =
    let many = genera_many c.args.surface.now.faces c.args.parts.now c.in_ok-genera.genera.items c.requires.parts c.in_ok-genera.ensures in
    omega (arith, many, c.in_ok-counted.ensures.count)

pub loop-part-preserved : goal.loop-part-preserved
loop-part-preserved c =
    let mesh = c.args.surface.now.faces in
    let parts = c.args.parts.now in
    let part : ℕ = c.loop-part.part in
    let before : List ComponentNumbers = c.loop-part.numbers.items in
    let counted : List SurfaceNumbers = c.in_ok-counted.counted.items in
    let genera : List ℕ = c.in_ok-genera.genera.items in
    let there : part < length parts.components = omega (arith, c.in_ok-counted.ensures.count) in
    let in_genera : part < length genera =
    omega (arith, there, genera_many mesh parts genera c.requires.parts c.in_ok-genera.ensures) in
    let own : SurfaceNumbers = c.index-own.result.now in
    let read : own ≡ get_or counted part own = get_or_read counted part _ (omega arith) c.index-own.ensures own in
    let genus : c.index.result.now ≡ get_or genera part 0 = get_or_read genera part _ in_genera c.index.ensures 0 in
    let value : ComponentNumbers =
    record { vertices = own.vertices; edges = own.edges; faces = own.faces; genus = c.index.result.now } in
    let here : AreComponentNumbers (component_mesh mesh parts part) value = record {
      counted = own;
      are_its_own = rw read (c.in_ok-counted.ensures.numbers part own there);
      vertices = refl;
      edges = refl;
      faces = refl;
      genus = subst (HasGenus (component_mesh mesh parts part)) (sym genus)
          (genus_here mesh parts genera part c.requires.signed.valid c.requires.parts c.in_ok-genera.ensures in_genera);
    } in
    rw c.in_ok-push.ensures.items (record {
      many = length_push before value ∙ ap (λ k. k + 1) c.loop-part.invariant.many;
      own = λ k d l. grind arith;
    })
