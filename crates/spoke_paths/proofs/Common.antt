-- What proofs of this crate cite of its definitions and of other crates, passed on from one place (by tools/imports). Declares nothing.
pub use Rattle.flat_forms.specs.FlatStates.{IsEvenPoint, IsFlatWheel, flat_next, parity, size_of}
pub use Rattle.flat_forms.specs.Vectors.{Vector, less, origin, plus, unit_step}
pub use Rattle.spoke_paths.specs.PathSteps.{PathLeads, after_path_step, after_path_steps, from_spoke, is_quad, lower_way, quad_turned, spur_goes, two_become, upper_way}
pub use Rattle.spoke_paths.specs.PathTurns.{EndsNothing, HasQuads, IsBracketClosed, IsShort, IsTurnedOver, LeadsOn, Opens, from_vertex, turn_of}
pub use Rattle.spoke_paths.specs.ReducedWords.{HasNoBracket, IsReducedWord, closes}
pub use Rattle.spoke_paths.specs.declared.step.PathStep.{PathStep}
pub use Rattle.spoke_paths.specs.declared.step.PathStep.TheVariants.{Spur, Turn}
pub use Rattle.std.proofs.Common.{All, Bool, List, None, Option, Some, ap, ap₂, arith, drop, eqb, false, get_or, inl, inr, length, length-append, not, pos, refl, reverse, set, subst, suc, sym, take, true, zero, ℕ, ℤ, [], ◌++◌, ◌+ℤ◌, ◌+◌, ◌-ℤ◌, ◌-◌, ◌<◌, ◌∙◌, ◌∷◌, ◌≡◌, ◌≢◌, ◌≤◌, ◌⊎◌}
pub use Rattle.std.proofs.lemmas.Bool.{and_from, cases_eq, cases_lt, eq-eqb, eqb-true, ltb-true, ne_eqb}
pub use Rattle.std.proofs.lemmas.Grind.{common_steps}
pub use Rattle.std.proofs.lemmas.List.{append-nil, drop_all, get_or-set_other, get_or-set_same, get_or_append_left, length-set, length_push, reverse-reverse}
pub use Rattle.std.proofs.lemmas.List.Edits.{get_or-remove_above, get_or-remove_below, length-remove}
pub use Rattle.std.proofs.lemmas.Option.{cond_some, option_and_then_some}
pub use Rattle.std.specs.List.{remove}
pub use Rattle.std.specs.Prelude.{if◌then◌else◌, nat_lt, option_and_then, option_map}
pub use Rattle.turn_words.proofs.Reading.{keeps-step, read, state}
pub use Rattle.turn_words.proofs.Spokes.{canonical, turns}
pub use Rattle.turn_words.specs.FormLaws.{AcrossQuads, IsQuad, StartsWell, StaysWell, ThereAndBack, led}
pub use Rattle.turn_words.specs.HyperStates.{BelongsTo, IsEven, IsHyperWheel, empty_state, hyper_next}
pub use Rattle.turn_words.specs.Lemmas.FromEnd.{all-from, in-range-from}
pub use Rattle.turn_words.specs.Lemmas.Lists.{InRange}
pub use Rattle.turn_words.specs.Lemmas.Sums.{add-cases, add-lt, add-minus, add-zero, add_assoc, add_comm, minus-cases, minus-lt, minus-one, minus-two, zero-add}
pub use Rattle.turn_words.specs.Modulo.{minus}
unfoldable pub use Rattle.turn_words.specs.Modulo.{add}
pub use Rattle.turn_words.specs.SpokePaths.{place_round, turn_word_of, turns_after}
pub use Rattle.turn_words.specs.Wheels.{IsWheel}
