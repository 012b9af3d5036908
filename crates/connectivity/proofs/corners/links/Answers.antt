use Rattle.connectivity.proofs.Common.{link_at, with_ring, AreLinksUpTo, Link, Vec, ◌≡◌, ◌+◌, ◌<◌, ℕ, List, length, refl, ap, sym, ◌∙◌, subst, arith, length-set, with_items_is, with_items, Side}
use Rattle.std.specs.declared.alloc.Global.{Global}
use Rattle.connectivity.proofs.CornerLemmas.{corner_below}
use Rattle.connectivity.proofs.LinkLemmas.{added, links_more, links_other}
use Rattle.connectivity.proofs.corners.links.Goals as goal
use Rattle.connectivity.proofs.corners.links.Goals.{then-rings-corner, else-rings-corner}

pub add_ring-requires : goal.add_ring-requires
add_ring-requires c =
    let mesh = c.args.faces.now in
    omega (
      arith,
      c.loop-corner.invariant.count,
      ap (λ (ls : List Link). length ls) c.deref_mut.ensures.value,
      c.corner-vertex.ensures,
      corner_below mesh c.side_at-side.result c.count.ensures.valid c.side_at-side.ensures.side,
    )

pub loop-corner-preserved : goal.loop-corner-preserved
loop-corner-preserved c =
    let mesh = c.args.faces.now in
    let rings : List ℕ = c.args.rings.now in
    let n : ℕ = c.loop-corner.corner in
    let links : List Link = c.loop-corner.links.items in
    let after : (ls : Vec Link Global) → c.if-rings-corner.links ≡ ls → (new : List Link) → ls.items ≡ new
    → AreLinksUpTo mesh rings (n + 1) new
    → AreLinksUpTo mesh rings (n + 1) c.if-rings-corner.links.items =
    λ ls is new items h. subst (AreLinksUpTo mesh rings (n + 1)) (sym (ap (λ (v : Vec Link Global). v.items) is ∙ items)) h in
    elim c.if-rings-corner.branch [
      | then-rings-corner w ↦
          (let v : ℕ = w.corner-vertex.result.0 in
          let corner : Side = w.side_at-side.result in
          let within : v < mesh.count = omega (
            arith,
            w.corner-vertex.ensures,
            corner_below mesh corner c.count.ensures.valid w.side_at-side.ensures.side,
          ) in
          let new : List Link = w.add_ring.new.links in
          let is_new : new ≡ added links v = w.add_ring.ensures ∙ ap (λ (ls : List Link). added ls v) w.deref_mut.ensures.value in
          let size : length new ≡ c.loop-corner.links.len =
          ap (λ (ls : List Link). length ls) is_new ∙ length-set links v (with_ring (link_at links v))
          ∙ omega (arith, c.loop-corner.links.ok.0) in
          after (with_items c.loop-corner.links new) w.links-is (added links v) (with_items_is c.loop-corner.links new size ∙ is_new)
          (links_more v within w.side_at-side.ensures.side (sym w.corner-vertex.ensures)
          w.side_at-side.ensures.number w.if-rings-corner.true c.loop-corner.invariant))
      | else-rings-corner w ↦ after c.loop-corner.links w.links-is links refl (links_other w.if-rings-corner.false c.loop-corner.invariant)
    ]
