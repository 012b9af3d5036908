use Rattle.tree_cotree.proofs.Common.{OrientedMesh, ◌≡◌, Bool, false, not, List, get_or, ap, sym, subst, arith, set, get_or_read, RingView, AreRingsOf, ChangesByOne}
use Rattle.tree_cotree.proofs.RingLemmas.{IsSwapped, stored_rings, stored_swap, swapped_rings, swapped_count}
use Rattle.tree_cotree.proofs.rings.Rings.swap.Goals as goal

pub returns-clause-rings : goal.returns-clause-rings
returns-clause-rings c =
    let s : OrientedMesh = c.args.surface.now in
    let i = c.self.inside in
    let old : RingView = stored_rings i.inside.items i.after.items in
    let are : AreRingsOf s old = subst (AreRingsOf s) (sym c.self.view_is) c.requires.rings in
    let read : c.index.result.now ≡ get_or i.inside.items c.args.edge.0 false =
    get_or_read i.inside.items c.args.edge.0 c.index.result.now (omega (arith, c.requires.edge, are.each_edge)) c.index.ensures false in
    let others : List Bool = set i.inside.items c.args.edge.0 (not c.index.result.now) in
    let swapped : IsSwapped s c.args.edge.0 c.dart_of-dart.result.0 old (stored_rings others c.swap.new.self.items) =
    stored_swap c.dart_of-dart.ensures.valid c.args.edge.0 c.dart_of-dart.result.0 c.twin-twin.result.0 i.inside.items others
    i.after.items c.swap.new.self.items are c.dart_of-dart.ensures.within c.dart_of-dart.ensures.edge
    c.twin-twin.ensures.twin c.swap.ensures.items (ap (λ b. set i.inside.items c.args.edge.0 (not b)) read) in
    swapped_rings c.dart_of-dart.ensures.valid c.requires.edge are swapped

pub returns-clause-count : goal.returns-clause-count
returns-clause-count c =
    let s : OrientedMesh = c.args.surface.now in
    let i = c.self.inside in
    let old : RingView = stored_rings i.inside.items i.after.items in
    let are : AreRingsOf s old = subst (AreRingsOf s) (sym c.self.view_is) c.requires.rings in
    let read : c.index.result.now ≡ get_or i.inside.items c.args.edge.0 false =
    get_or_read i.inside.items c.args.edge.0 c.index.result.now (omega (arith, c.requires.edge, are.each_edge)) c.index.ensures false in
    let others : List Bool = set i.inside.items c.args.edge.0 (not c.index.result.now) in
    let new : RingView = stored_rings others c.swap.new.self.items in
    let swapped : IsSwapped s c.args.edge.0 c.dart_of-dart.result.0 old new =
    stored_swap c.dart_of-dart.ensures.valid c.args.edge.0 c.dart_of-dart.result.0 c.twin-twin.result.0 i.inside.items others
    i.after.items c.swap.new.self.items are c.dart_of-dart.ensures.within c.dart_of-dart.ensures.edge
    c.twin-twin.ensures.twin c.swap.ensures.items (ap (λ b. set i.inside.items c.args.edge.0 (not b)) read) in
    subst (λ (v : RingView). ChangesByOne s c.args.edge.0 v new) c.self.view_is (swapped_count c.dart_of-dart.ensures.valid are swapped)
