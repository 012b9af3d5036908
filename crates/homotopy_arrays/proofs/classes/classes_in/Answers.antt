use Rattle.homotopy_arrays.proofs.Common.{IsFirstNone, ◌≡◌, ℕ, List, length, subst, sym, arith, FaceList, IsClassFault, IsFirstNoWalk, AreClasses}
use Rattle.homotopy_arrays.proofs.ClassLemmas.{all_classes, none_cut, not_cut}
use Rattle.homotopy_arrays.proofs.classes.classes_in.Goals as goal

pub returns-then-len-sizes-clause-ends : goal.returns-then-len-sizes-clause-ends
returns-then-len-sizes-clause-ends c =
    let mesh : FaceList = c.args.surface.now in
    all_classes mesh c.args.sizes.now c.args.vertices.now c.in-Ok.given.items c.in_ok-walks.walks.items c.in_ok-walks.ensures
    (omega (arith, c.len.ensures, c.if-len-sizes.true))
    (subst (λ (w : List (List ℕ)). AreClasses mesh w c.in-Ok.given.items) c.deref.ensures.value c.in-Ok.ensures.classes)

pub told_at-requires-clause-none : goal.told_at-requires-clause-none
told_at-requires-clause-none c =
    let mesh : FaceList = c.args.surface.now in
    let walks : List (List ℕ) = c.in_ok-walks.walks.items in
    let are : AreClasses mesh walks c.in-Ok.given.items =
    subst (λ (w : List (List ℕ)). AreClasses mesh w c.in-Ok.given.items) c.deref.ensures.value c.in-Ok.ensures.classes in
    let here : length walks ≡ c.len-in-Ok.result = omega (arith, c.len-in-Ok.ensures, c.in_ok-walks.walks.ok.0) in
    let none : IsFirstNone mesh c.args.sizes.now c.args.vertices.now (length walks) =
    not_cut mesh c.args.sizes.now c.args.vertices.now c.in-Ok.given.items walks c.in_ok-walks.ensures
    (λ e. c.if-len-sizes.false (omega (arith, c.len.ensures, e, c.in_ok-walks.walks.ok.0))) are in
    subst (λ (m : FaceList). IsFirstNone m c.args.sizes.now c.args.vertices.now c.len-in-Ok.result) (sym c.classes.ensures.same)
    (subst (IsFirstNone mesh c.args.sizes.now c.args.vertices.now) here none)

pub told_at-requires-in-Err-NoWalk-clause-none : goal.told_at-requires-in-Err-NoWalk-clause-none
told_at-requires-in-Err-NoWalk-clause-none c =
    let mesh : FaceList = c.args.surface.now in
    let walks : List (List ℕ) = c.in_ok-walks.walks.items in
    let place : ℕ = c.in-Err-NoWalk.place in
    let first : IsFirstNoWalk mesh walks place =
    subst (λ (w : List (List ℕ)). IsFirstNoWalk mesh w place) c.deref.ensures.value
    (subst (IsClassFault mesh c.deref.result.now) c.in-Err-NoWalk.field-0-is c.in-Err-NoWalk.ensures.fault) in
    subst (λ (m : FaceList). IsFirstNone m c.args.sizes.now c.args.vertices.now place) (sym c.classes.ensures.same)
    (none_cut mesh c.args.sizes.now c.args.vertices.now walks place c.in_ok-walks.ensures first)
