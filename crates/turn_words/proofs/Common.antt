-- What proofs of this crate cite of its definitions and of other crates, passed on from one place (by tools/imports). Declares nothing.
pub use Rattle.std.proofs.Common.{All, Bool, List, None, Option, Some, ap, append_assoc, ap₂, arith, cond, drop, eqb, false, get_or, inl, inr, length, ltb, not, refl, replicate, reverse, rules, set, slice_index, subst, suc, sym, take, true, vec_capacity, vec_len, zero, ℕ, [], ◌%◌, ◌&&◌, ◌*◌, ◌++◌, ◌+◌, ◌-◌, ◌<◌, ◌==◌, ◌^◌, ◌↔◌, ◌∙◌, ◌∷◌, ◌≡◌, ◌≢◌, ◌≤◌, ◌⊎◌}
pub use Rattle.std.proofs.lemmas.Bool.{cases_Bool, cases_eq, cases_lt, eq-eqb, le-ltb, lt-leb, lt-ltb, ne_eqb}
pub use Rattle.std.proofs.lemmas.Grind.{common_steps}
pub use Rattle.std.proofs.lemmas.List.{append-nil, get_or-set_other, get_or-set_same, get_or-take, get_or_read, length-append, length-replicate, length-reverse, length-set, length-take-le, replicate-append-replicate, replicate_more, reverse-append, reverse-reverse, take-append-drop, take-replicate, take_all, take_more}
pub use Rattle.std.specs.Prelude.{Contains, IfSome, option_and_then, option_map}
pub use Rattle.turn_words.specs.Canonical.{AreReduced, IsCanonical, IsCanonicalOf, IsTurnWord, StandsNowhere, closes_bracket}
pub use Rattle.turn_words.specs.FormLaws.{NotesAlong, led}
pub use Rattle.turn_words.specs.HyperStates.{BelongsTo, HyperState, HyperView, IsHyperWheel, LeadOn, empty_state, hyper_next, put_spoke, turn_to, value_at}
pub use Rattle.turn_words.specs.Lemmas.Across.{across, first_quad_side, minus-minus, one-minus, one-one, second_quad_side, two-down, two-up}
pub use Rattle.turn_words.specs.Lemmas.FromEnd.{all-from, canonical-from, good-from-canonical, in-range-from, in-range-reverse}
pub use Rattle.turn_words.specs.Lemmas.HyperLaws.{good_word, hyper_starts, length-next, next_belongs, turn_below}
pub use Rattle.turn_words.specs.Lemmas.Lists.{InRange, reverse-cons, reverse-next}
pub use Rattle.turn_words.specs.Lemmas.PutLaws.{cases, close, down-up, flip, other, put-back, put-good, put-put, spur, up-down}
pub use Rattle.turn_words.specs.Lemmas.Sums.{add-cases, add-lt, add-zero, add_assoc, add_comm, minus-cases, minus-lt, minus-one, zero-add}
pub use Rattle.turn_words.specs.Lemmas.WordEnds.{Follows, IsCanonicalBackward, IsCons, closed-two, flipped-end, flipped-run, good-head, good-tail, open-cases, open-one, open-other, open-two, put-close, put-else, put-flip}
pub use Rattle.turn_words.specs.Modulo.{add, minus}
pub use Rattle.turn_words.specs.Private.PutSteps.{StoodIn, close_steps, flip_steps, pushes, put_steps, rewrite_steps}
pub use Rattle.turn_words.specs.Private.StoredWords.{EndsBelow, EndsOtherwise, IsStoredWord, RunWordView, TopDiffers, last_changed, word_of_runs}
pub use Rattle.turn_words.specs.PutTurns.{Put, closed, flipped, is_open, put, put_last}
pub use Rattle.turn_words.specs.Recorded.{TellsMore, with_steps}
pub use Rattle.turn_words.specs.Runs.{AreApart, AreFilled, RunStackView, written}
pub use Rattle.turn_words.specs.SpokePaths.{place_round, turn_word_of, turns_after, turns_from}
pub use Rattle.turn_words.specs.StepTable.{Reaches, after_step, after_word_steps, from_place, next_changed, pushed, spur_in, spur_out}
pub use Rattle.turn_words.specs.Wheels.{IsInside, IsWheel, StandsTwice}
pub use Rattle.turn_words.specs.declared.step.Step.{Step}
pub use Rattle.turn_words.specs.declared.step.Step.TheVariants.{Push, SpurIn, SpurOut}
