use Rattle.certify_commands.proofs.Common.{IsFinding, TellsOfSome, Moves, Words, part_sphere, MOST_SHOWN_PEAK, MOST_SPHERE_MOVES, ◌≤◌, ℕ, List, length, get_or, sym, subst, arith, length-map, component_at, LiesOnSphere, PeakedMoves, LeadsAtPeak, move_of_whole_mesh, renamed_moves}
use Rattle.certify_commands.proofs.FoundLemmas.{good_there, names_of_moves, renamed_leads, signs_there, widened_holds}
use Rattle.certify_commands.proofs.finding.Finding.for_whole.Goals as goal

pub rename-requires-clause-place : goal.rename-requires-clause-place
rename-requires-clause-place c = c.requires.part.within

pub rename-requires-clause-faces : goal.rename-requires-clause-faces
rename-requires-clause-faces c =
    let part = c.args.part.now in
    let some : TellsOfSome part.alone (Moves c.in-Moves.list) = subst (TellsOfSome part.alone) c.in-Moves.is c.requires.some in
    names_of_moves part some.0 some.1 c.in-Moves.list c.requires.part some.2 some.3.0

pub returns-in_ok-renamed-in-Moves : goal.returns-in_ok-renamed-in-Moves
returns-in_ok-renamed-in-Moves c =
    λ first second w z at_first at_second h.
    let part = c.args.part.now in
    let there : IsFinding part.alone first second (Moves c.in-Moves.list) =
    subst (IsFinding part.alone first second) c.in-Moves.is h in
    let names : List ℕ = component_at part.parts part.place in
    let few : LiesOnSphere part.whole.faces (get_or first 0 0) → length (renamed_moves names c.in-Moves.list.moves) ≤ MOST_SPHERE_MOVES =
    λ sphere. omega (
      arith,
      there.2 (part_sphere part (get_or first 0 0) c.requires.part (w.used 0 0 w.starts) at_first sphere),
      length-map c.in-Moves.list.moves (move_of_whole_mesh names),
    ) in
    subst
    (λ (l : PeakedMoves). LeadsAtPeak part.whole.faces first l second × (l.peak ≤ MOST_SHOWN_PEAK)
    × (LiesOnSphere part.whole.faces (get_or first 0 0) → length l.moves ≤ MOST_SPHERE_MOVES)) (sym c.in_ok-renamed-in-Moves.ensures)
    (renamed_leads part first second c.in-Moves.list c.requires.part w there.0, there.1, few)

pub widen-requires-clause-parts : goal.widen-requires-clause-parts
widen-requires-clause-parts c = c.requires.part.parts

pub widen-requires-clause-part : goal.widen-requires-clause-part
widen-requires-clause-part c = c.requires.part.within

pub widen-requires-clause-closed : goal.widen-requires-clause-closed
widen-requires-clause-closed c = c.requires.part.whole.manifold

pub widen-requires-clause-coherent : goal.widen-requires-clause-coherent
widen-requires-clause-coherent c = c.requires.part.whole.coherent

pub widen-requires-clause-good : goal.widen-requires-clause-good
widen-requires-clause-good c =
    let part = c.args.part.now in
    good_there part c.in-Words.good c.in-Words.first c.in-Words.second c.requires.part
    (subst (TellsOfSome part.alone) c.in-Words.is c.requires.some)

pub widen-requires-clause-signs : goal.widen-requires-clause-signs
widen-requires-clause-signs c =
    let part = c.args.part.now in
    signs_there part c.in-Words.good c.in-Words.first c.in-Words.second c.requires.part
    (subst (TellsOfSome part.alone) c.in-Words.is c.requires.some)

pub returns-in_ok-wide-in-Words : goal.returns-in_ok-wide-in-Words
returns-in_ok-wide-in-Words c =
    λ first second w z at_first at_second h.
    let part = c.args.part.now in
    let there : IsFinding part.alone first second (Words c.in-Words.good c.in-Words.first c.in-Words.second) =
    subst (IsFinding part.alone first second) c.in-Words.is h in (
      widened_holds part first second c.in-Words.good c.in_ok-wide-in-Words.wide c.in-Words.first c.in-Words.second c.requires.part w z
          at_first at_second there.1 there.0 c.in_ok-wide-in-Words.ensures.widened,
      tt,
      λ sphere. there.2 (part_sphere part (get_or first 0 0) c.requires.part (w.used 0 0 w.starts) at_first sphere),
    )
