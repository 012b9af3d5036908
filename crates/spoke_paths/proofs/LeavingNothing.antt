-- Steps to a reduced path leave nothing of a path that has no word.
use Rattle.spoke_paths.proofs.Common.{flat_next, size_of, IsFlatWheel, IsEvenPoint, origin, PathLeads, IsReducedWord, PathStep, arith, ◌≡◌, ℕ, ◌<◌, ◌∙◌, List, [], All, length, led, empty_state, hyper_next, IsHyperWheel, BelongsTo, IsEven, turn_word_of}
use Rattle.flat_forms.specs.Lemmas.FlatLaws.{flat_starts, flat_stays, flat_there_and_back, flat_across}
use Rattle.turn_words.specs.Lemmas.HyperLaws.{hyper_starts, hyper_stays, hyper_there_and_back, hyper_across}
use Rattle.spoke_paths.proofs.StepsKeep.{spokes-stay-below, state-stays}
use Rattle.spoke_paths.proofs.ReducedTurns.{hyper-empty}
use Rattle.spoke_paths.proofs.ReducedPlane.{plane-empty}

pub turns-leave : (places path end : List ℕ) (steps : List PathStep) → IsHyperWheel places → All (λ spoke. spoke < length places) path
    → PathLeads places path steps end
    → IsReducedWord (length places) (turn_word_of places end) → (led hyper_next places empty_state path).word ≡ [] → end ≡ []
turns-leave places path end steps own below leads reduced e =
    let same = state-stays BelongsTo IsEven (λ s. length s.word) hyper_next hyper_stays hyper_there_and_back hyper_across places
    IsHyperWheel empty_state hyper_starts path end steps own
    below leads in grind (arith, hyper-empty, spokes-stay-below)

pub flat-leave : (places path end : List ℕ) (steps : List PathStep) → IsFlatWheel places → All (λ spoke. spoke < length places) path
    → PathLeads places path steps end
    → IsReducedWord (length places) (turn_word_of places end) → led flat_next places origin path ≡ origin → end ≡ []
flat-leave places path end steps own below leads reduced e =
    let same = state-stays (λ places s. IsFlatWheel places) IsEvenPoint size_of flat_next flat_stays flat_there_and_back flat_across places
    IsFlatWheel origin flat_starts path end steps own
    below leads in
    plane-empty places end own (spokes-stay-below places path end steps below leads) reduced (same ∙ e)
