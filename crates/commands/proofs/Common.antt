-- What proofs of this crate cite of its definitions and of other crates, passed on from one place (by tools/imports). Declares nothing.
pub use Rattle.commands.specs.Answers.{Answer, Exactly, IsText, NoText, OfOddChain, Texts}
pub use Rattle.commands.specs.Certificates.{decision_line, decision_status, decision_word}
pub use Rattle.commands.specs.Checks.{Check, End, Holds, IsTold, Pass, Passes, Refuse, decided_by, file, found_or, meant, pass, pass_unless, refuse, where_told, ◌>>=◌}
pub use Rattle.commands.specs.Inputs.{IsInputWith, SpellsMesh, SpellsPair, mesh_in, orientable, pair_in, text_in, walks_unless}
pub use Rattle.commands.specs.Limits.{FitsLimits, IsRefusedBeyond, darts_line, first_over, limit_line, over_line, sides_line}
pub use Rattle.commands.specs.Lines.{behind_blank, in_lines, line, link_phrases, odd_chain_line, phrase_text}
pub use Rattle.commands.specs.Outcomes.{AnswersTo, IsAnswerOf, Outcome}
pub use Rattle.commands.specs.Refusals.{certificate_line, numbers_line, off_line, pair_line, too_large}
pub use Rattle.commands.specs.Replies.{Concludes, Replies, Runs, reply_text}
pub use Rattle.commands.specs.Stops.{Ends, EndsReading, Stops, StopsReading, Tells, bytes_of}
pub use Rattle.commands.specs.WordTexts.{word_line}
pub use Rattle.commands.specs.declared.inputs.TheConstants.{MOST_BYTES}
pub use Rattle.commands.specs.declared.line.Phrase.{Phrase}
pub use Rattle.commands.specs.declared.refusal.Input.TheVariants.{Mesh, Walks}
pub use Rattle.commands.specs.declared.status.Status.{Status}
pub use Rattle.commands.specs.declared.status.Status.TheVariants.{No, Refused, WriteFault, Yes}
pub use Rattle.commands.specs.declared.stop.Stop.{Stop}
pub use Rattle.commands.specs.declared.stop.Stop.TheVariants.{OutOfMemory, ReadFault}
pub use Rattle.off_reader.specs.OffTexts.{Header, Keyword, bare_counts, coordinates_of, corners_of, counted, counts_behind, face_fault, has_piece, keyword_in, line_before, meaning_of, point_fault, ring_fault, rings_named, two_naturals}
unfoldable pub use Rattle.off_reader.specs.OffTexts.{counts_at, header_of, mesh_of, taken}
pub use Rattle.off_reader.specs.declared.off_fault.OffFault.TheVariants.{TooMany, UnreadForm}
pub use Rattle.std.proofs.Common.{Bool, List, ap, append_assoc, arith, drop, false, get_or, inl, inr, length, refl, subst, suc, sym, take, true, zero, ℕ, [], ◌++◌, ◌+◌, ◌<◌, ◌∙◌, ◌∷◌, ◌≡◌, ◌≤◌, ◌⊎◌}
pub use Rattle.std.proofs.lemmas.Bool.{and_parts, cases_lt, leb-true}
pub use Rattle.std.proofs.lemmas.Grind.{flat_map-append}
pub use Rattle.std.proofs.lemmas.List.{append-nil, length-replicate, map-append, take_all, take_more}
pub use Rattle.std.proofs.lemmas.Option.{get_or_from_slice_get, slice_get-get_or, slice_get_read}
pub use Rattle.std.proofs.lemmas.Result.{err_from_is_err_and}
pub use Rattle.std.specs.Option.{option_map}
pub use Rattle.std.specs.Prelude.{All, Err, IfSome, IsErrAnd, IsSome, IsSomeAnd, MatchOption, MatchResult, None, Ok, OnErr, OnOk, Option, Result, Some, bytes_eq, codes, decimal, flat_map, if◌then◌else◌, map, nat_le, nat_lt, replicate, slice_get, sum_by, ◌&&◌, ◌↔◌}
pub use Rattle.surf_io.proofs.Appending.{appends_twice, on_err, part_after, part_first, part_last}
pub use Rattle.surf_io.proofs.Gathering.{EachPut, all-written, each-all, each-fails, each-more, each-none, gathers-put, line_of-numbers, on_ok, only-then, part-written, puts-fails, puts-same, puts-then}
pub use Rattle.surf_io.specs.Bytes.{Appends, AppendsPrefix, append_told}
pub use Rattle.surf_io.specs.Calls.{OnlyReads, OnlyWrites, WroteAll, WrotePart}
pub use Rattle.surf_io.specs.Faults.{Rose}
pub use Rattle.surf_io.specs.Files.{Files, file_of}
pub use Rattle.surf_io.specs.Gathered.{Gathers, Puts, spaced_number}
pub use Rattle.surf_model.specs.FaceLists.{FaceList, HasFileSize, IsFace, IsFaceList, total_sides}
pub use Rattle.surf_model.specs.Walks.{AreWalkPair, darts, walk_at}
pub use Rattle.surf_model.specs.declared.decisions.Answer.TheVariants.{Different, Homotopic}
pub use Rattle.text_scan.specs.Plain.{line_of}
pub use Rattle.walk_files.specs.DenialTexts.{denial_text, entry_words}
pub use Rattle.walk_files.specs.Pairs.{IsPair, pair_fault}
pub use Rattle.walk_files.specs.WalkTexts.{walk_text_of, walks_in, walks_of}
