-- What proofs of this crate cite of its definitions and of other crates, passed on from one place (by tools/imports). Declares nothing.
pub use Rattle.commands.proofs.Checking.{stops_first, stops_next, stops_second, told_stops}
pub use Rattle.commands.proofs.Judgements.{IsJudgedBy, first_failing, judged_by, judgement_answered}
pub use Rattle.commands.proofs.MeshTexts.{mesh_valid}
pub use Rattle.commands.proofs.Rows.{mesh_passes, sound-mesh, sound-pair}
pub use Rattle.commands.proofs.Running.{judged_no_fault, only_self, only_then, reads_ended, reads_made, reads_stopped, reads_then, runs_read, runs_stopped}
pub use Rattle.commands.proofs.Sound.{IsSound, held, meant_told, one_made, sound-file, sound-meant, sound-pass, sound-then, sound-where_told}
pub use Rattle.commands.specs.Answers.{Answer, IsText, Texts}
pub use Rattle.commands.specs.Checks.{Check, End, Holds, IsTold, Pass, Passes, Refuse, file, meant, where_told, ◌>>=◌}
pub use Rattle.commands.specs.Inputs.{IsCertificateEnd, SpellsCertificate, SpellsPair, as_certificate, certificate_behind, certificate_in, certificate_in_bytes, certificate_of, mesh_in, pair_in}
pub use Rattle.commands.specs.Outcomes.{AnswersTo, IsAnswerOf, Outcome}
pub use Rattle.commands.specs.Refusals.{certificate_line, too_large}
pub use Rattle.commands.specs.Replies.{Concludes, IsReplyTo, Replies}
pub use Rattle.commands.specs.Stops.{Stops, StopsReading, Tells, bytes_of}
pub use Rattle.commands.specs.declared.certificate.Certificate.{Certificate}
pub use Rattle.commands.specs.declared.certificate.Certificate.TheVariants.{Denial, Moves}
pub use Rattle.commands.specs.declared.inputs.TheConstants.{MOST_BYTES}
pub use Rattle.commands.specs.declared.status.Status.{Status}
pub use Rattle.commands.specs.declared.status.Status.TheVariants.{Yes}
pub use Rattle.commands.specs.declared.stop.Stop.{Stop}
pub use Rattle.commands.specs.declared.stop.Stop.TheVariants.{OutOfMemory, ReadFault, Refused}
pub use Rattle.labellings.specs.DenialVerdicts.{IsDenialVerdict}
pub use Rattle.labellings.specs.Denials.{DenialHolds}
pub use Rattle.labellings.specs.GoodLabellings.{HasDegree, HasPlaces, HasShape, IsGood}
pub use Rattle.labellings.specs.Labellings.{FaceLabels, LabellingView, head_label, tail_label}
pub use Rattle.labellings.specs.declared.verdict.DenialVerdict.{DenialVerdict}
pub use Rattle.move_checker.proofs.Judgement.{accepted_exactly, greatest_darts-first, greatest_darts-more, verdict_accepted, verdict_end, verdict_more, verdict_over_peak, verdict_refused, verdict_start}
pub use Rattle.move_checker.specs.Verdicts.{verdict_from, verdict_of}
pub use Rattle.move_checker.specs.declared.judge.Verdict.{Verdict}
pub use Rattle.move_checker.specs.declared.judge.Verdict.TheVariants.{Accepted, AtMove, Peak}
pub use Rattle.std.proofs.Common.{Bool, IfSome, List, MatchResult, ap, append-nil, append_assoc, arith, codes, drop, eqb, false, get_or, inl, inr, length, length-append, lit≤, map, negsuc, pos, refl, subst, suc, sym, take, true, zero, ℕ, ℤ, [], ◌&&◌, ◌++◌, ◌+ℤ◌, ◌+◌, ◌-ℤ◌, ◌-◌, ◌<◌, ◌^◌, ◌∙◌, ◌∷◌, ◌≡◌, ◌≤◌, ◌⊎◌}
pub use Rattle.std.proofs.lemmas.Bool.{and_parts, cases_Bool, cases_lt, eqb-true, leb-true, lt-ltb, ltb-true}
pub use Rattle.std.proofs.lemmas.List.{get_or_default, length-map}
pub use Rattle.std.proofs.lemmas.Result.{err_from_is_err_and}
pub use Rattle.std.specs.Prelude.{All, Err, IfNone, IsSome, MatchOption, None, Ok, Option, Result, Some, decimal, flat_map, if◌then◌else◌, nat_le, nat_lt, slice_index, sum_by, ◌↔◌}
pub use Rattle.surf_io.specs.Files.{Files, file_of}
pub use Rattle.surf_model.specs.Edges.{Edge, edge_in, side_name}
pub use Rattle.surf_model.specs.FaceLists.{FaceList, FaceSide, HasFileSize, IsFace, IsFaceList, corners_from, face_at, is_edge, is_used, total_sides}
pub use Rattle.surf_model.specs.Moves.{Leads, PeakedMoves, apply_all, greatest_darts, same_walk}
unfoldable pub use Rattle.surf_model.specs.Moves.{apply}
pub use Rattle.surf_model.specs.Walks.{AreWalkPair, IsWalk, darts, walk_at}
pub use Rattle.surf_model.specs.declared.moves.Move.{Move}
pub use Rattle.verify_commands.specs.Progress.{IsVerdictOnFile, outlook, peak_in}
pub use Rattle.verify_commands.specs.Verify.{IsDenialVerified, IsVerified, IsVerifyInput, denial_answer, denial_line, denial_status, judged_file, judgement, verdict_answer, verdict_status, verify}
pub use Rattle.walk_files.proofs.EachLemmas.{before_ok, before_ok-more}
pub use Rattle.walk_files.proofs.ReaderLemmas.{moves_left-started, moves_left-step}
pub use Rattle.walk_files.specs.Certificates.{head_of_text, list_behind, list_of_text, moves_of_text, with_peak}
pub use Rattle.walk_files.specs.DenialTexts.{AreNumbers, FitsDegree, ReadsBack, denial_text, face_words, labels_head_words, lines_behind_faces, places_words, word_words}
pub use Rattle.walk_files.specs.Denials.{denial_behind, denial_of_lines, denial_of_text}
pub use Rattle.walk_files.specs.MoveTexts.{FitsFormat, MoveFits, list_lines, list_text, move_words}
pub use Rattle.walk_files.specs.Readers.{after_answer, answer_first, count_in, denial_left, moves_left, next_answer}
pub use Rattle.walk_files.specs.Streams.{Belongs, IsIn, IsStreamAnswer, IsWithin, Streamed, after_move, reader_at, streams_list}
pub use Rattle.walk_files.specs.declared.certificate.CertHead.{CertHead}
pub use Rattle.walk_files.specs.declared.certificate.CertHead.TheVariants.{Labels}
pub use Rattle.walk_files.specs.declared.fault.CertFault.{CertFault}
pub use Rattle.walk_files.specs.declared.stream_end.StreamEnd.{StreamEnd}
