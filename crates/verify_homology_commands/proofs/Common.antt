-- What proofs of this crate cite of its definitions and of other crates, passed on from one place (by tools/imports). Declares nothing.
pub use Rattle.commands.proofs.Checking.{next_end, read_passes, read_stops, stops_first, stops_next, stops_second}
pub use Rattle.commands.proofs.Judgements.{IsJudgedBy, first_failing, judged_by, judgement_answered}
pub use Rattle.commands.proofs.Running.{judged_no_fault, only_then, reads_ended, runs_judged, runs_stopped, tells_no_fault}
pub use Rattle.commands.proofs.Sound.{IsSound, held, meant_told, one_made, sound-file, sound-meant, sound-then}
pub use Rattle.commands.specs.Answers.{Answer}
pub use Rattle.commands.specs.Checks.{Check, Pass, Passes, Refuse, file, meant, ◌>>=◌}
pub use Rattle.commands.specs.Inputs.{SpellsPair, mesh_in, pair_in}
pub use Rattle.commands.specs.Stops.{Stops}
pub use Rattle.homology.specs.Certificates.{edge_number, face_number}
pub use Rattle.homology.specs.Verdicts.{HasEdge, HasFace, IsFirstAgainst, IsVerdict}
pub use Rattle.homology.specs.declared.certificate.HomologyCert.{HomologyCert}
pub use Rattle.homology.specs.declared.verdict.HomologyVerdict.{HomologyVerdict}
pub use Rattle.homology_files.specs.HomologyTexts.{cert_of_text}
pub use Rattle.std.proofs.Common.{Err, List, MatchResult, Ok, Result, arith, codes, get_or, inr, length, map, pos, refl, subst, sym, ℕ, ℤ, [], ◌-ℤ◌, ◌∙◌, ◌∷◌, ◌≡◌}
pub use Rattle.std.specs.Prelude.{All, Option}
pub use Rattle.surf_io.specs.Files.{Files}
pub use Rattle.surf_model.specs.FaceLists.{FaceList, IsFaceList}
pub use Rattle.surf_model.specs.Walks.{walk_at}
pub use Rattle.verify_homology_commands.specs.VerifyHomology.{IsHomologyVerified, IsInput, ShownBy, fault_line, homology_certificate_in, homology_judgement, homology_verdict_answer, homology_verdict_line, homology_verdict_status, verify_homology}
