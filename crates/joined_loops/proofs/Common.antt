-- What proofs of this crate cite of its definitions and of other crates, passed on from one place (by tools/imports). Declares nothing.
pub use Rattle.closed_walks.proofs.FreeStepLemmas.{step_keeps}
pub use Rattle.closed_walks.specs.FreeHomotopy.{FreeStep, FreelyHomotopic, IsClosedWalk, Moved, Rotated, after_all_free, after_free, from_next}
pub use Rattle.flat_forms.specs.Pairs.{spokes_of, sum_of_pairs}
pub use Rattle.joined_loops.specs.JoinedLists.{Joined, JoinedBy, repeated}
pub use Rattle.labellings.proofs.FoldLemmas.{PutLaws, quad_path-append}
pub use Rattle.labellings.proofs.KeepingLemmas.{moves_keep}
pub use Rattle.labellings.proofs.WalkWordLemmas.{flat_wheel_of_good, quad_path_below, quad_path_in_pairs, quad_path_leads_to_sum}
pub use Rattle.labellings.specs.GoodLabellings.{IsGood}
pub use Rattle.labellings.specs.Labellings.{LabellingView}
pub use Rattle.labellings.specs.QuadPaths.{quad_path, spokes}
pub use Rattle.labellings.specs.WalkWords.{IsWordOf, in_pairs}
pub use Rattle.settling.proofs.Rows.{along, upto, upto-cons, upto-length}
pub use Rattle.settling.specs.TurnRows.{IsCanonicalRow, entries}
pub use Rattle.spoke_paths.proofs.StepsKeep.{KeepsSteps, LeadAlike, states-keep}
pub use Rattle.spoke_rings.proofs.Along.{along-first, along-round, rotated, rotated-along, rotated-length}
pub use Rattle.spoke_rings.proofs.Fine.{along-below}
pub use Rattle.spoke_rings.proofs.RingTurns.{place-below, stands-even, stands-odd, turn_at}
pub use Rattle.spoke_rings.specs.CyclicWords.{IsCyclicallyCanonical, IsFullWheel, IsLoop, cyclic_turn, spoke_along, stands_before}
pub use Rattle.spoke_rings.specs.LoopSteps.{LoopLeads}
pub use Rattle.spoke_rings.specs.Rotations.{IsRotation}
pub use Rattle.std.proofs.Common.{All, Bool, List, ap, append_assoc, ap₂, arith, drop, false, get_or, inl, inr, length, not, refl, replicate, reverse, subst, suc, sym, take, true, zero, ℕ, [], ◌%◌, ◌*◌, ◌++◌, ◌+◌, ◌-◌, ◌<◌, ◌∙◌, ◌∷◌, ◌≡◌, ◌≢◌, ◌≤◌, ◌⊎◌}
pub use Rattle.std.proofs.Math.Seq.{drop-append_seam, get_or-append_seam, take-append_seam}
pub use Rattle.std.proofs.lemmas.Bool.{cases_Bool, cases_eq, cases_lt}
pub use Rattle.std.proofs.lemmas.Grind.{common_steps, same_number_lists}
pub use Rattle.std.proofs.lemmas.List.{append-nil, length-append, length-drop, length-reverse, length-take-le, nil_from_length, reverse-append, reverse-reverse, take-append-drop, take-append-le}
pub use Rattle.std.proofs.lemmas.List.Elements.{All-append, All-cons, All-nil, All-take}
pub use Rattle.std.specs.Prelude.{Some, if◌then◌else◌, option_and_then, ℤ, ◌==◌}
pub use Rattle.surf_model.proofs.ContextLemmas.{first_answer}
pub use Rattle.surf_model.specs.FaceLists.{FaceList, IsFaceList}
pub use Rattle.surf_model.specs.Moves.{apply_all}
pub use Rattle.turn_words.proofs.Led.{led-append}
pub use Rattle.turn_words.proofs.Reading.{IsSound, state}
pub use Rattle.turn_words.proofs.Spokes.{Counts, Stands, canonical, counts-next, counts-turn}
pub use Rattle.turn_words.specs.FormLaws.{IsQuad, led}
pub use Rattle.turn_words.specs.HyperStates.{BelongsTo, HyperState, IsEven, empty_state, hyper_next, turn_to}
pub use Rattle.turn_words.specs.Lemmas.FromEnd.{all-from, in-range-from, in-range-reverse}
pub use Rattle.turn_words.specs.Lemmas.HyperLaws.{good_word, hyper_across, hyper_starts, hyper_stays, hyper_there_and_back, length-next, next_belongs}
pub use Rattle.turn_words.specs.Lemmas.Lists.{InRange, reverse-cons, reverse-next}
pub use Rattle.turn_words.specs.Lemmas.PutLaws.{cases, close, flip, other, put-back, spur}
pub use Rattle.turn_words.specs.Lemmas.Sums.{add-cases, add-lt, add-zero, minus-cases, minus-lt, minus-two}
pub use Rattle.turn_words.specs.Lemmas.WordEnds.{IsCons, closed-two, flipped-end, flipped-run, open-cases, open-other, open-two, put-close, put-else, put-flip}
pub use Rattle.turn_words.specs.Modulo.{add, minus}
pub use Rattle.turn_words.specs.PutTurns.{Put, closed, flipped, is_open, put, put_last}
pub use Rattle.turn_words.specs.SpokePaths.{place_round, turn_word_of}
pub use Rattle.turn_words.specs.StepTable.{Reaches}
