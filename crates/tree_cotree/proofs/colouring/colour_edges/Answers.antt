use Rattle.tree_cotree.proofs.Common.{OrientedMesh, arith, ◌≡◌, ◌/◌, ℕ, List, length, rules, replicate, count_below, has_kind, Kind, Left}
use Rattle.tree_cotree.proofs.ColouringLemmas.{none_before, none_between, vertices_hang, faces_hang, coloured}
use Rattle.tree_cotree.proofs.ColourLemmas.{coloured_trees_are_of_a_split}
use Rattle.tree_cotree.proofs.colouring.colour_edges.Goals as goal

pub span-requires-clause-free : goal.span-requires-clause-free
span-requires-clause-free c = grind (arith, none_before)

pub span-requires-clause-together : goal.span-requires-clause-together
span-requires-clause-together c =
    let s : OrientedMesh = c.args.surface.now in
    let first : c.in_ok-kinds.kinds.items ≡ replicate (length s.table) Left = search rules in
    vertices_hang c.in_ok-kinds.kinds.items c.faces.ensures.valid first

pub span-requires-2-clause-free : goal.span-requires-2-clause-free
span-requires-2-clause-free c = grind (arith, none_between)

pub span-requires-2-clause-together : goal.span-requires-2-clause-together
span-requires-2-clause-together c =
    let s : OrientedMesh = c.args.surface.now in
    let first : c.in_ok-kinds.kinds.items ≡ replicate (length s.table) Left = search rules in
    faces_hang c.faces.ensures.valid first c.span.ensures

pub returns : goal.returns
returns c =
    let s : OrientedMesh = c.args.surface.now in
    let k0 : List Kind = c.in_ok-kinds.kinds.items in
    let k2 : List Kind = c.span-2.new.kinds.items in
    let start : ℕ = c.leftover_dart-start.result.0 in
    let root : ℕ = c.face_of.result.0 in
    let genus : ℕ = c.leftover_edges-genus.result / 2 in
    let first : k0 ≡ replicate (length s.table) Left = search rules in
    let half : genus ≡ count_below (has_kind k2 Left) (length s.table) / 2 = grind arith in
    coloured_trees_are_of_a_split c.faces.ensures.valid
    (coloured c.faces.ensures.valid start root genus first c.span.ensures c.span-2.ensures c.leftover_dart-start.ensures.within
    (rw c.deref.ensures.value at c.leftover_dart-start.ensures.left) c.face_of.ensures.face half)
