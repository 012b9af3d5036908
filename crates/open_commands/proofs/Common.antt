-- What proofs of this crate cite of its definitions and of other crates, passed on from one place (by tools/imports). Declares nothing.
pub use Rattle.commands.proofs.Checking.{first_fault_stops, stops_first, stops_next, stops_second, told_stops}
pub use Rattle.commands.proofs.Deciding.{IsRightAnswer, behind, differs, pair_long, refused_behind, right_answer, sound-decided, walks_of_pair, yes_or_no}
pub use Rattle.commands.proofs.LimitLemmas.{fitting, none_over, refused_beyond}
pub use Rattle.commands.proofs.RightAnswers.{no_yes, refused_so}
pub use Rattle.commands.proofs.Rows.{IsOutcomeOf, mesh_passes, pair_told, sound-mesh, sound-pair, spelled_pair}
pub use Rattle.commands.proofs.Running.{failed_end, memory_no_fault, only_self, only_then, reads_ended, reads_faulty, reads_made, reads_then, runs_faulty, runs_replied, runs_stopped, tells_no_fault}
pub use Rattle.commands.proofs.Sound.{IsSound, held, meant_told, sound-decided_by, sound-pass_unless, sound-then, sound-unless_fault, unless_told}
pub use Rattle.commands.specs.Answers.{Answer, Exactly}
pub use Rattle.commands.specs.Certificates.{Convinces, certificate_text, decision_line}
pub use Rattle.commands.specs.Checks.{Check, End, Holds, IsTold, Pass, Passes, Refuse, pass_unless, ◌>>=◌}
pub use Rattle.commands.specs.Decisions.{decided, decision_answer}
pub use Rattle.commands.specs.Inputs.{SpellsMesh, SpellsPair, mesh_in, orientable, pair_in}
pub use Rattle.commands.specs.Outcomes.{AnswersTo, IsAnswerOf, Outcome}
pub use Rattle.commands.specs.Stops.{Stops, Tells}
pub use Rattle.commands.specs.declared.certificate.Certificate.TheVariants.{Moves}
pub use Rattle.commands.specs.declared.status.Status.{Status}
pub use Rattle.commands.specs.declared.status.Status.TheVariants.{No, Refused, Yes}
pub use Rattle.free_forms.specs.PeakedLists.{IsListWithin, LeadsAtPeak}
pub use Rattle.free_forms.specs.declared.limits.TheConstants.{MOST_OPEN_DARTS, MOST_OPEN_SIDES, MOST_OPEN_STEPS}
pub use Rattle.open_commands.specs.CertifyOpen.{IsCertifiedOpen, IsListPrinted, IsShortReply, certify_open, decided_with_list, list_answer}
pub use Rattle.open_commands.specs.DecideOpen.{IsDecidedOpen, decide_open}
pub use Rattle.open_commands.specs.OpenInput.{as_open_surface, open_line, open_surface, open_surface_in}
pub use Rattle.open_commands.specs.OpenPairs.{IsOpenInput, IsOpenPair, IsRefusedLarge, IsWithinOpenLimits, Question, asked, open_limit_fault, open_limit_word, open_limits, open_pair_in, question}
pub use Rattle.open_commands.specs.declared.open_pair.OpenPair.{OpenPair}
pub use Rattle.std.proofs.Common.{Bool, List, ap, arith, codes, false, get_or, inl, inr, length, length-append, refl, subst, suc, sym, true, zero, ℕ, [], ◌*◌, ◌++◌, ◌+◌, ◌<◌, ◌^◌, ◌∙◌, ◌∷◌, ◌≡◌, ◌≤◌, ◌⊎◌}
pub use Rattle.std.proofs.lemmas.Option.{get_or_from_slice_get}
pub use Rattle.std.specs.Prelude.{All, Err, IfNone, IfOk, IfSome, IsTrue, MatchOption, MatchResult, None, Ok, Option, Result, Some, decimal, flat_map, if◌then◌else◌, map, slice_get, sum_by, ◌↔◌}
pub use Rattle.surf_io.specs.Files.{Files}
pub use Rattle.surf_model.specs.FaceLists.{FaceList, HasFileSize, IsFace, IsFaceList, corners_from, face_at, is_used, total_sides}
pub use Rattle.surf_model.specs.Moves.{Leads, PeakedMoves, apply, apply_all, greatest_darts}
pub use Rattle.surf_model.specs.Walks.{AreWalkPair, IsWalk, darts, walk_at}
pub use Rattle.surf_model.specs.declared.decisions.Answer.TheVariants.{Different, Homotopic}
