use Rattle.walk_translate.proofs.Common.{IsGood, quad_path, IsWordOf, ◌≡◌, ℕ, List, ap, sym, ◌∙◌, subst, led, HyperState, empty_state, hyper_next, Turns}
use Rattle.walk_translate.proofs.LabelLemmas.{cut_is_good}
use Rattle.walk_translate.proofs.SpokedLemmas.{five_then, word_of_state}
use Rattle.walk_translate.proofs.spoked.Spoked.canonical_word.Goals as goal

pub returns : goal.returns
returns c =
    let surface = c.args.self.now.surface.now in
    let labelling = c.args.self.now.good.now in
    let walk : List ℕ = c.args.walk.now in
    let good : IsGood surface.mesh labelling = cut_is_good surface labelling c.requires.spoked.oriented c.requires.spoked.labelled in
    let start : c.reserve.new.self.state ≡ empty_state = c.in_ok-reserve.ensures.state ∙ c.new-form.ensures in
    let state : c.fold.new.form.state ≡ led hyper_next labelling.places empty_state (quad_path surface.mesh labelling walk) =
    c.in_ok-fold.ensures.state c.if-not-branch.false
    ∙ ap (λ (s : HyperState). led hyper_next labelling.places s (quad_path surface.mesh labelling walk)) start in
    let word = c.in_ok-word.ensures ∙ ap (λ (s : HyperState). s.word) state in (
      c.in_ok-fold.ensures.walk.0 c.if-not-branch.false,
      subst (λ (w : List ℕ). IsWordOf surface.mesh labelling walk (Turns w)) (sym word)
          (word_of_state surface.mesh labelling walk good (five_then surface.mesh labelling good c.requires.more)),
    )
