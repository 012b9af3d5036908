use Rattle.connectivity.proofs.Common.{AreLinks, IsFirstPinched, link_at, Link, Pinched, ◌≡◌, ◌<◌, ℕ, List, length, ap, subst, arith, IfSome, IfNone}
use Rattle.connectivity.proofs.LinkLemmas.{pinch_found}
use Rattle.connectivity.proofs.corners.pinched_vertex.Goals as goal

pub first_pinched-requires : goal.first_pinched-requires
first_pinched-requires c = omega (arith, c.in_ok-links.ensures.few, ap (λ (ls : List Link). length ls) c.deref-2.ensures.value)

pub returns : goal.returns
returns c =
    let mesh = c.args.faces.now in
    let links : List Link = c.in_ok-links.links.items in
    let found = c.first_pinched.result in
    pinch_found links found c.in_ok-links.ensures.valid c.in_ok-rings.ensures.count c.in_ok-rings.ensures.rings c.in_ok-rings.ensures.least
    (subst (λ (rs : List ℕ). AreLinks mesh rs links) c.deref.ensures.value c.in_ok-links.ensures.links)
    (subst (λ (ls : List Link). IfSome found (λ vertex. IsFirstPinched ls vertex.0)) c.deref-2.ensures.value c.first_pinched.ensures.some)
    (subst (λ (ls : List Link). IfNone found ((v : ℕ) → v < length ls → link_at ls v ≡ Pinched → ⊥)) c.deref-2.ensures.value
    c.first_pinched.ensures.none)
