-- What proofs of this crate cite of its definitions and of other crates, passed on from one place (by tools/imports). Declares nothing.
pub use Rattle.commands.proofs.Answering.{stop_answers, thing_answers, wrote_all, wrote_part}
pub use Rattle.commands.proofs.Checking.{first_fault_stops, next_end, stops_first, stops_next}
pub use Rattle.commands.proofs.MeshTexts.{has_file_size, mesh_valid}
pub use Rattle.commands.proofs.Rows.{mesh_passes, pair_told, sound-mesh, sound-pair, spelled_pair}
pub use Rattle.commands.proofs.Running.{failed_end, only_self, reads_behind, reads_ended, reads_made, reads_then, tells_no_fault}
pub use Rattle.commands.proofs.Sound.{IsSound, held, meant_told, sound-pass, sound-then, sound-unless_fault}
pub use Rattle.commands.specs.Answers.{yes_with}
pub use Rattle.commands.specs.Checks.{Check, End, Holds, IsTold, Pass, Passes, Refuse, pass, ◌>>=◌}
pub use Rattle.commands.specs.Inputs.{SpellsMesh, SpellsPair, mesh_in, pair_in}
pub use Rattle.commands.specs.Outcomes.{AnswersTo, IsAnswerOf}
pub use Rattle.commands.specs.Stops.{Stops, bytes_of}
pub use Rattle.commands.specs.declared.status.Status.TheVariants.{No, Refused, Yes}
pub use Rattle.connectivity.proofs.EdgeCounts.{few_of_two}
pub use Rattle.cover_commands.specs.MeshCover.{AreLiftsTold, WithWays, cover_in, cover_line, covered, do_meet, lifted_walks, lifts_answer, lifts_behind, lifts_in, lifts_on, lifts_status, lifts_text, mesh_cover, seen, seen_lifts, walk_line, walk_lines, ways_in, ways_of, with_ways}
pub use Rattle.off_writer.specs.WrittenMeshes.{off_text}
pub use Rattle.orientation_cover.specs.Turns.{cover_by, lift_by}
pub use Rattle.orientation_cover.specs.Ways.{AreWays}
pub use Rattle.std.proofs.Common.{Bool, List, ap, append_assoc, arith, drop, false, get_or, inl, inr, length, map, refl, subst, suc, sym, true, ℕ, [], ◌++◌, ◌+◌, ◌-◌, ◌<◌, ◌^◌, ◌∙◌, ◌∷◌, ◌≡◌, ◌≤◌}
pub use Rattle.std.proofs.lemmas.Bool.{and_parts, both_ways, cases_Bool, eq-eqb, eqb-true, le-ltb, lt-leb}
pub use Rattle.std.proofs.lemmas.Result.{err_from_is_err_and}
pub use Rattle.std.specs.Prelude.{All, Err, MatchResult, Ok, Option, Result, Some, codes, decimal, flat_map, if◌then◌else◌, nat_le, nat_lt, slice_get, ◌==◌}
pub use Rattle.surf_io.proofs.Gathering.{EachPut, all-written, each-all, each-fails, each-more, each-none, gathers-put, line_of-numbers, part-written, puts-fails, puts-same, puts-then}
pub use Rattle.surf_io.specs.Files.{Files}
pub use Rattle.surf_io.specs.Gathered.{spaced_number}
pub use Rattle.surf_model.specs.FaceLists.{FaceList, HasFileSize, IsFaceList}
pub use Rattle.surf_model.specs.Surfaces.{IsClosedManifold}
pub use Rattle.surf_model.specs.Walks.{AreWalkPair, HaveCommonEnds, IsWalk, darts}
pub use Rattle.surface_commands.specs.SurfaceInput.{closed_alone}
pub use Rattle.walk_files.specs.PairLists.{WalkPair}
pub use Rattle.walk_files.specs.WalkTexts.{has_header, in_version, walk_text_of_lines, walks_behind, walks_in, walks_of}
