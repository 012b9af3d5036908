use Rattle.folded_lists.proofs.Common.{folded, IsFoldedEntry, ◌<◌, ◌++◌, ◌∷◌, [], max, ◌∙◌, ap, sym, subst, arith, List, ℕ, length, get_or_from_slice_get}
use Rattle.folded_lists.proofs.FoldedParts.{length-folded}
use Rattle.folded_lists.proofs.FoldingLemmas.{IsComing, IsFoldedTo, comes_first, comes_on, few_darts, first_entry, folds_first, folds_none, folds_one, is_allowed, leads_folded, some_fold}
use Rattle.folded_lists.proofs.folding.fold.Goals as goal
use Rattle.folded_lists.proofs.folding.fold.Goals.{in-Some+in_ok-push, in_default-low}

pub loop-k-init : goal.loop-k-init
loop-k-init c =
    let mesh = c.args.faces.now in
    let double = c.args.double.now in
    let first = c.args.first.now in
    let list = c.args.list.now in
    let is = sym c.in-Ok.ensures.walk in
    record {
      peak_is = c.in-Ok.ensures.peak ∙ c.peak.ensures;
      coming =
          subst (IsComing double first list 0) is
          (comes_first double first c.requires.leads.0 list c.requires.walk.starts c.requires.leads.1);
      entry_is = subst (λ (l : List ℕ). IsFoldedEntry mesh.count l 0 0) is (first_entry mesh.count first c.requires.walk.starts);
      so_far =
          subst (λ (l : List ℕ). IsFoldedTo mesh first list.peak 0 l c.darts-darts.result c.new-below.result) is
          (folds_first mesh double first c.requires.leads.0 list c.new-below.result c.darts-darts.result c.len.ensures.valid
          c.requires.walk c.requires.leads.1 c.darts-darts.ensures.count c.new-below.ensures);
    }

pub step-low-requires-clause-allowed : goal.step-low-requires-clause-allowed
step-low-requires-clause-allowed c =
    let mesh = c.args.faces.now in
    let double = c.args.double.now in
    let first = c.args.first.now in
    let list = c.args.list.now in
    let k = c.loop-k.k in
    let walk = c.loop-k.tape.walk in
    let mv = c.at.result in
    let coming = c.loop-k.invariant.coming in
    let less : k < length list.moves = omega (arith, c.loop-k-test.true, c.len-k-end.ensures) in
    let item = get_or_from_slice_get list.moves k mv mv c.at.ensures in
    is_allowed double first list k walk mv less item coming c.loop-k.tape.peak c.loop-k.invariant.peak_is

pub darts_after-darts-requires : goal.darts_after-darts-requires
darts_after-darts-requires c =
    let mesh = c.args.faces.now in
    let double = c.args.double.now in
    let first = c.args.first.now in
    let list = c.args.list.now in
    let k = c.loop-k.k in
    let walk = c.loop-k.tape.walk in
    let next = c.step-low.new.tape.walk in
    let mv = c.at.result in
    let so_far = c.loop-k.invariant.so_far in
    let coming = c.loop-k.invariant.coming in
    let less : k < length list.moves = omega (arith, c.loop-k-test.true, c.len-k-end.ensures) in
    let item = get_or_from_slice_get list.moves k mv mv c.at.ensures in
    let few = few_darts double first list k walk mv less item coming next c.step-low.ensures.walk in (
      folded mesh.count walk,
      folded mesh.count next,
      some_fold mesh.count walk coming.some,
      sym so_far.long_is,
      c.in-Some.ensures.below,
      omega (arith, few, length-folded mesh.count next, c.requires.peak),
    )

pub loop-k-preserved : goal.loop-k-preserved
loop-k-preserved c =
    let mesh = c.args.faces.now in
    let double = c.args.double.now in
    let first = c.args.first.now in
    let list = c.args.list.now in
    let k = c.loop-k.k in
    let walk = c.loop-k.tape.walk in
    let next = c.step-low.new.tape.walk in
    let mv = c.at.result in
    let so_far = c.loop-k.invariant.so_far in
    let coming = c.loop-k.invariant.coming in
    let less : k < length list.moves = omega (arith, c.loop-k-test.true, c.len-k-end.ensures) in
    let item = get_or_from_slice_get list.moves k mv mv c.at.ensures in
    let few = few_darts double first list k walk mv less item coming next c.step-low.ensures.walk in
    record {
      peak_is = c.step-low.ensures.peak ∙ c.loop-k.invariant.peak_is;
      coming = comes_on double first list k walk mv less item coming next c.step-low.ensures.walk;
      entry_is = c.step-low.ensures.entry;
      so_far = elim c.match-low.branch [
        | in-Some+in_ok-push w ↦
            folds_one mesh first list.peak k walk next c.loop-k.darts c.loop-k.below so_far w.in-Some.mv c.match-low.darts c.match-low.below
            w.in-Some.ensures.below
            (w.darts-is ∙ w.darts_after-darts.ensures (folded mesh.count walk) (folded mesh.count next)
            (some_fold mesh.count walk coming.some) (sym so_far.long_is) w.in-Some.ensures.below)
            few
            (w.below-is ∙ w.in_ok-push.ensures.ok
            ∙ ap (λ (n : ℕ). record { moves = c.loop-k.below.moves ++ w.in-Some.mv ∷ []; peak = max c.loop-k.below.peak n })
            (sym w.darts-is))
        | in_default-low w ↦
            folds_none mesh first list.peak k walk next c.loop-k.darts c.loop-k.below so_far c.match-low.darts c.match-low.below
            w.in_default-low.ensures.below w.darts-is w.below-is
      ];
    }

pub returns-clause-leads : goal.returns-clause-leads
returns-clause-leads c =
    leads_folded c.args.faces.now c.args.double.now c.args.first.now c.args.list.now c.loop-k.k c.loop-k.tape.walk c.loop-k.darts
    c.loop-k.below c.len.ensures.valid c.requires.double (omega (arith, c.loop-k-test.false, c.len-k-end.ensures))
    c.loop-k.invariant.coming c.loop-k.invariant.so_far
