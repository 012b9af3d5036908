use Rattle.pair_commands.proofs.Common.{◌≡◌, false, true, refl, sym, subst}
use Rattle.pair_commands.proofs.PairDecisions.{AreHomotopic, status_yes, status_no}
use Rattle.pair_commands.proofs.decide.reply_on.Goals as goal

pub returns-then-are_all_homotopic : goal.returns-then-are_all_homotopic
returns-then-are_all_homotopic c =
    record {
      status_is =
          sym (status_yes c.args.decisions.items (subst AreHomotopic c.deref.ensures.value (c.if-are_all_homotopic.ensures.0 refl)));
      text_is = refl;
    }

pub returns-else-are_all_homotopic : goal.returns-else-are_all_homotopic
returns-else-are_all_homotopic c =
    record {
      status_is =
          sym (status_no c.args.decisions.items
          (λ all. let wrong : false ≡ true = c.if-are_all_homotopic.ensures.1 (subst AreHomotopic (sym c.deref.ensures.value) all) in cc));
      text_is = refl;
    }
