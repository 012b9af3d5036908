-- What proofs of this crate cite of its definitions and of other crates, passed on from one place (by tools/imports). Declares nothing.
pub use Rattle.certify_commands.proofs.CertifyOutcomes.{certified_so, sound-certify}
pub use Rattle.certify_commands.specs.Certify.{IsCertificatePrinted, IsCertified, IsCertifyInput, IsWithinLimits, certified, certify_limits, limit_fault, limit_word}
pub use Rattle.commands.proofs.Answering.{answers, wrote_all, wrote_part}
pub use Rattle.commands.proofs.Checking.{both_passed, meant_passed, stops_next, told_stops, unless_passed}
pub use Rattle.commands.proofs.Running.{runs_refused, runs_unread}
pub use Rattle.commands.proofs.Sound.{IsSound, file_holds, held, sound-found, sound-then}
pub use Rattle.commands.specs.Answers.{Answer, Exactly, Texts, yes_with}
pub use Rattle.commands.specs.Certificates.{Convinces, IsPeakLow, IsShortOnSphere, certificate_text, decision_of, decision_status}
pub use Rattle.commands.specs.Checks.{Check, Holds, IsTold, Pass, Passes, Refuse, file, found_or, meant, pass, pass_unless, ◌>>=◌}
pub use Rattle.commands.specs.Inputs.{IsCertificateEnd, IsInputOnSurface, IsInputWith, SpellsCertificate, SpellsMesh, SpellsPair, certificate_in, certificate_in_bytes, certificate_of, mesh_in, orientable, pair_in, walks_unless}
pub use Rattle.commands.specs.Outcomes.{AnswersTo, IsAnswerOf, Outcome}
pub use Rattle.commands.specs.Refusals.{certificate_line, numbers_line, off_line, pair_line, wrong_words}
pub use Rattle.commands.specs.Replies.{Replies, Runs, reply_status, reply_text}
pub use Rattle.commands.specs.Statuses.{IsAnswered}
pub use Rattle.commands.specs.Stops.{Stops, Tells}
pub use Rattle.commands.specs.Words.{texts}
pub use Rattle.commands.specs.declared.certificate.Certificate.{Certificate}
pub use Rattle.commands.specs.declared.certificate.Certificate.TheVariants.{Denial, Moves}
pub use Rattle.commands.specs.declared.inputs.TheConstants.{MOST_BYTES}
pub use Rattle.commands.specs.declared.reply.Reply.{Reply}
pub use Rattle.commands.specs.declared.status.Status.{Status}
pub use Rattle.commands.specs.declared.status.Status.TheVariants.{No, OutOfMemory, Refused, Yes}
pub use Rattle.homology_commands.specs.Homology.{IsHomologyInput, IsHomologyPrinted, homology_shown}
pub use Rattle.homology_files.specs.HomologyTexts.{cert_of_text}
pub use Rattle.loop_commands.specs.Loops.{IsLoopsInput, SpellsLoops, freely_decided, loops_in, loops_line}
pub use Rattle.move_lifting.specs.declared.expanding.TheConstants.{MOST_LIFTED_DARTS, MOST_LIFTED_SIDES}
pub use Rattle.open_commands.proofs.OpenOutcomes.{certified_open_so, decided_open_so, sound-certify_open, sound-decide_open}
pub use Rattle.open_commands.specs.CertifyOpen.{IsListPrinted, decided_with_list}
pub use Rattle.open_commands.specs.OpenInput.{as_open_surface, open_surface, open_surface_in}
pub use Rattle.open_commands.specs.OpenPairs.{IsOpenInput, Question, open_limits, open_pair_in, question}
pub use Rattle.pair_commands.proofs.DecideOutcomes.{decided_so, sound-decide}
pub use Rattle.pair_commands.specs.Decide.{IsDecideInput, IsDecided, all_decided}
pub use Rattle.pair_commands.specs.PairInput.{SpellsPairs, pairs_in, pairs_line}
pub use Rattle.program.specs.Commands.{Certify, CertifyOpen, Decide, DecideOpen, Homology, IsRow, Loops, Reduce, Row, Surface, Trial, Verify, VerifyHomology, answer_to, row_of}
pub use Rattle.program.specs.Outcomes.{AllTold, Answers, IsOutcome, answer_of}
pub use Rattle.reduce_commands.proofs.ReduceOutcomes.{reduced}
pub use Rattle.std.proofs.Common.{List, ap, arith, codes, false, get_or, inl, inr, length, refl, subst, sym, true, ℕ, [], ◌*◌, ◌++◌, ◌+◌, ◌<◌, ◌∙◌, ◌∷◌, ◌≡◌, ◌≤◌, ◌⊎◌}
pub use Rattle.std.specs.Prelude.{All, Err, IfNone, IfSome, IsSome, IsSomeAnd, MatchOption, MatchResult, None, Ok, Option, Result, Some, String, nat_lt, option_and_then, slice_index_or, string_bytes, ◌||◌, ◌↔◌, ◌≢◌}
pub use Rattle.surf_io.specs.Files.{Files, file_of}
pub use Rattle.surf_model.specs.FaceLists.{FaceList, HasFileSize, IsFaceList, total_sides}
pub use Rattle.surf_model.specs.OrientableSurfaces.{HasComponents, IsOrientableSurface}
pub use Rattle.surf_model.specs.Walks.{AreWalkPair, IsWalk, darts, walk_at}
pub use Rattle.surface_commands.specs.Surface.{HasFewComponents, IsSurfaceInput, genera_of, numbers_of, numbers_text}
pub use Rattle.surface_commands.specs.SurfaceInput.{as_surface, closed_alone, of_few_components, surface_in}
pub use Rattle.surface_commands.specs.declared.surface.TheConstants.{MOST_COMPONENTS}
pub use Rattle.verify_commands.specs.Verify.{IsVerifyInput, judgement}
pub use Rattle.verify_homology_commands.proofs.VerifyHomologyOutcomes.{homology_verified, sound-verify_homology}
pub use Rattle.walk_files.specs.PairLists.{ArePairs, WalkPair, pairs_fault, walks_in_pairs}
pub use Rattle.walk_files.specs.WalkLists.{WalkText}
pub use Rattle.walk_files.specs.WalkTexts.{times, token_of, walk_of_line, walk_text_of, walks_in, walks_of, within_limits, written_out}
