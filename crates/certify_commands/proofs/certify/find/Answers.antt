use Rattle.certify_commands.proofs.Common.{MOST_SHOWN_PEAK, ◌≡◌, ◌+◌, ◌≤◌, length, subst, arith, IfSome, MatchOption, Homotopic, darts}
use Rattle.halfedge_map.specs.DartMaps.{darts_of}
use Rattle.move_lifting.proofs.BoundLemmas.{few_most, low_most}
use Rattle.move_lifting.specs.Lifts.{HasLowPeak, IsShortList, LeadsAtPeak}
use Rattle.certify_commands.proofs.SplitGenera.{no_sides}
use Rattle.certify_commands.proofs.certify.find.Goals as goal

pub returns-in-Some : goal.returns-in-Some
returns-in-Some c =
    let s = c.args.surface.now in
    let first = c.args.first.now in
    let second = c.args.second.now in
    let leads : LeadsAtPeak s.mesh first c.in-Some.list second =
    subst (λ o. MatchOption o (Homotopic s.mesh first second → ⊥) (λ list. LeadsAtPeak s.mesh first list second)) c.in-Some.is
    c.in_ok-list.ensures.list in
    let low : HasLowPeak (darts_of s) (darts first + darts second) c.in-Some.list =
    subst (λ o. IfSome o (HasLowPeak (darts_of s) (darts first + darts second))) c.in-Some.is c.in_ok-list.ensures.low in
    let peak : c.in-Some.list.peak ≤ MOST_SHOWN_PEAK =
    omega (
      arith,
      low_most (darts_of s) (darts first + darts second) c.in-Some.list.peak c.requires.limits.sides c.requires.limits.few low,
    ) in (
      leads,
      peak,
      λ sphere.
          let none : c.in_ok-polygon.polygon.degree ≡ 0 =
          no_sides s c.in_ok-split.split c.in_ok-polygon.polygon c.faces.ensures.valid c.in_ok-split.ensures c.in_ok-polygon.ensures
          sphere in
          let short : IsShortList (darts_of s) (darts first + darts second) c.in-Some.list =
          subst (λ o. MatchOption o ⊥ (IsShortList (darts_of s) (darts first + darts second))) c.in-Some.is
          (c.in_ok-list.ensures.short none) in
          few_most (darts_of s) (darts first + darts second) (length c.in-Some.list.moves) c.requires.limits.sides c.requires.limits.few
          short,
    )
