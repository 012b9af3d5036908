use Rattle.move_checker.proofs.Common.{list_under-is, list_of, cut, ◌≡◌, ◌+◌, ◌-◌, ◌++◌, ℕ, List, length, take, drop, not, Some, ap, ◌∙◌, arith, min, face_at, corners_from}
use Rattle.move_checker.specs.declared.edits.Way.{Way}
use Rattle.move_checker.proofs.Ends.{ends_stay}
use Rattle.move_checker.proofs.Replacements.{cut_replaced}
use Rattle.move_checker.proofs.edits.replace_sides.Goals as goal

pub returns-clause-list : goal.returns-clause-list
returns-clause-list c =
    let name = c.args.spot.chain.0 in
    let at = c.args.spot.at in
    let taken = c.args.taken in
    let way = c.args.way in
    let walk : List ℕ = list_of c.args.pool.now name in
    let ring : List ℕ = face_at c.args.faces.now way.face.0 in
    let last : ℕ = c.min-last.result in
    let others : List ℕ = drop 1 (corners_from ring (not way.forward) way.corner (length ring - taken - last)) in
    let to : ℕ = at + 1 + taken - last in
    let few : last ≡ min (min taken (length ring - taken)) 1 =
    c.min-last.ensures ∙ ap (λ (n : ℕ). min n 1) (c.min.ensures ∙ ap (λ (n : ℕ). min taken (n - taken)) c.sides.ensures) in
    let short : list_of c.cut_between.new.self name ≡ cut walk (at + 1) to =
    list_under-is c.cut_between.new.self.lists name _ c.cut_between.ensures.list.here in
    let pushed : drop 1 (corners_from (face_at c.args.faces.now c.reversed.result.face.0) c.reversed.result.forward
    c.reversed.result.corner (c.sides.result - taken - last)) ≡ others =
    ap (λ (w : Way). drop 1 (corners_from (face_at c.args.faces.now w.face.0) w.forward w.corner (c.sides.result - taken - last)))
    c.reversed.ensures
    ∙ ap (λ (n : ℕ). drop 1 (corners_from ring (not way.forward) way.corner (n - taken - last))) c.sides.ensures in
    c.push_face.ensures.list
    ∙ ap (λ (l : List ℕ). Some (take (at + 1) l ++ drop 1 (corners_from (face_at c.args.faces.now c.reversed.result.face.0)
    c.reversed.result.forward c.reversed.result.corner (c.sides.result - taken - last)) ++ drop (at + 1) l)) short
    ∙ ap (λ (l : List ℕ). Some (take (at + 1) (cut walk (at + 1) to) ++ l ++ drop (at + 1) (cut walk (at + 1) to))) pushed
    ∙ ap (λ (l : List ℕ). Some l)
    (cut_replaced walk others (at + 1) (taken - last) to (omega (arith, few)) (omega (arith, c.requires.place))
    ∙ ends_stay ring walk at way.corner taken way.forward c.requires.corner c.requires.sides c.requires.place c.requires.reads last few)
