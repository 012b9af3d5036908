-- What proofs of this crate cite of its definitions and of other crates, passed on from one place (by tools/imports). Declares nothing.
pub use Rattle.file_pieces.specs.FileLines.{IsOneLine, LinesReading, ReadsLine}
pub use Rattle.file_pieces.specs.Reading.{Reads, bytes_left}
pub use Rattle.file_pieces.specs.SameLines.{SameLine, SameWord, SameWords}
pub use Rattle.labellings.specs.Labellings.{FaceLabels, LabellingView, labels_at, signs_of}
pub use Rattle.labellings.specs.declared.denial.Denial.{Denial}
pub use Rattle.std.proofs.Common.{Bool, List, add-one, ap, append_assoc, arith, below_more, drop, drop-drop, eq-eqb, eqb, false, get_or, inl, inr, length, length-append, lit≤, map, refl, rules, subst, suc, sym, take, true, zero, ℕ, [], ◌*◌, ◌++◌, ◌+◌, ◌-◌, ◌<◌, ◌==◌, ◌^◌, ◌∙◌, ◌∷◌, ◌≡◌, ◌≢◌, ◌≤◌, ◌⊎◌}
pub use Rattle.std.proofs.Math.Nat.{eq-or-lt_of_le, le-mul_of_pos_right, mul-le-mul_right, mul_comm}
pub use Rattle.std.proofs.lemmas.Bool.{and_from, and_parts, cases_Bool, eqb-true, le-leb, le-ltb, lt-ltb, ltb-false, ltb-true, ne_eqb}
pub use Rattle.std.proofs.lemmas.List.{append-nil, drop-append-le, get_or_default, length-drop, length-map, take-append-le, take_all}
pub use Rattle.std.proofs.lemmas.List.Elements.{All-append, All-cons, All-head, All-map, All-more, All-nil, All-push, All-tail, All-weaker, filter_passes}
pub use Rattle.std.proofs.lemmas.List.Folds.{flat_map-map, list_all-append}
pub use Rattle.std.proofs.lemmas.Option.{IfSome_then, get_or_from_slice_get, slice_get-get_or, slice_get_within}
pub use Rattle.std.proofs.lemmas.Result.{err_from_is_err_and}
pub use Rattle.std.specs.List.{before_first, enumerate_from, find, list_all, onto_first, range_with_len, slice_split, sum_by}
pub use Rattle.std.specs.Option.{ok_or, option_or}
pub use Rattle.std.specs.Prelude.{All, Err, IfNone, IfSome, IsOk, IsTrue, MatchOption, MatchResult, None, Ok, OnOk, Option, Result, Some, codes, cond, decimal, filter, flat_map, if◌then◌else◌, is_some, min, nat_le, nat_lt, not, option_map, replicate, slice_get, slice_index, ◌&&◌, ◌||◌}
pub use Rattle.std.specs.Result.{result_err}
pub use Rattle.std.specs.Str.{bytes_eq}
pub use Rattle.surf_io.proofs.Gathering.{EachPut, all-written, each-all, each-fails, each-more, each-none, each-stops, gathers-none, gathers-put, line_of-numbers, on_ok, only-none, part-written, puts-fails, puts-same, puts-then}
pub use Rattle.surf_io.specs.Files.{Files, file_of}
pub use Rattle.surf_io.specs.Gathered.{spaced_number}
pub use Rattle.surf_model.specs.Edges.{IsTableOf}
pub use Rattle.surf_model.specs.FaceLists.{FaceList, is_edge, is_used}
pub use Rattle.surf_model.specs.Surfaces.{is_flipped}
pub use Rattle.surf_model.specs.Vertices.{numbers}
pub use Rattle.surf_model.specs.Walks.{HaveCommonEnds, IsWalk, darts}
pub use Rattle.surf_model.specs.declared.moves.Move.{Move}
pub use Rattle.surf_model.specs.declared.moves.Move.TheVariants.{Across, Insert, Remove}
pub use Rattle.text_scan.proofs.EachLemmas.{before_ok, before_ok-more, before_some}
pub use Rattle.text_scan.proofs.ListLemmas.{before_first-append, before_first-no, before_first-yes, from_first-append, from_first-yes}
pub use Rattle.text_scan.proofs.PlaceLemmas.{behind-line_feed, cut_first, lines_from_here, words_here-blank, words_here-line_feed, words_here-nil, words_here-word}
pub use Rattle.text_scan.proofs.WrittenLemmas.{AreWritable, IsLine, IsWritable, all_writable, decimal-writable, decimal_is, decimals-writable, digits_inside, integer-read, integer-writable, lines_from-written, number-read, number-writable, number_below-decimal, numbered, numbers-read}
pub use Rattle.text_scan.specs.Each.{each_ok, each_some, ok_first, some_first}
pub use Rattle.text_scan.specs.Lines.{Line, end_line, full_lines, is_blank, is_filled, uncommented}
unfoldable pub use Rattle.text_scan.specs.Lines.{cut_lines, lines_from, unmarked, words}
pub use Rattle.text_scan.specs.Numbers.{is_digit, number_below, number_of}
unfoldable pub use Rattle.text_scan.specs.Numbers.{is_natural, value_of}
pub use Rattle.text_scan.specs.Plain.{line_of}
pub use Rattle.text_scan.specs.Unread.{LinesLeft, Unread, are_words, at_line, behind, is_line_feed, lines_left, next_word, past_word}
unfoldable pub use Rattle.text_scan.specs.Unread.{words_here}
pub use Rattle.turn_words.specs.declared.word.Word.{Word}
pub use Rattle.turn_words.specs.declared.word.Word.TheVariants.{Flat, Turns}
pub use Rattle.walk_files.specs.Certificates.{across_of, answer_alone, behind_head, cert_head_of, direction_of, first_head, fitting_head, head_among, head_in, head_of_text, list_behind, list_of_text, move_of, moves_in, moves_of_text, spur_of, with_peak}
pub use Rattle.walk_files.specs.ClosedPairs.{IsClosedPair, loops_fault, of_entry, open_fault}
pub use Rattle.walk_files.specs.DenialTexts.{AreNumbers, AreWordNumbers, FitsDegree, HasForm, HasForms, HasNumbers, ReadsBack, denial_lines, denial_text, entry_words, face_words, labelling_text, labels_head_words, lines_behind_faces, places_words, sign_word, word_words}
pub use Rattle.walk_files.specs.Denials.{AreFew, denial_behind, denial_in, denial_of_text, face_labels_of, is_places, sign_of, unlabelled, word_of, words_in}
pub use Rattle.walk_files.specs.Entries.{edge_fault, first_fault, vertex_fault, walks_fault}
pub use Rattle.walk_files.specs.LineReads.{IsCountedTo, capped, put_before, rest_of, walk_on}
pub use Rattle.walk_files.specs.MoveTexts.{FitsFormat, MoveFits, direction_word, head_words, list_lines, list_text, move_words}
pub use Rattle.walk_files.specs.NumberLists.{AreWithin, NumberLine, PendingLists, list_at, stored_lists}
pub use Rattle.walk_files.specs.NumberTexts.{entries_of, line_of_numbers, plain_walks_of, walk_of, words_of}
pub use Rattle.walk_files.specs.PairLists.{ArePairs, WalkPair, are_paired, pairs_ends_fault, pairs_fault, walks_in_pairs}
pub use Rattle.walk_files.specs.Pairs.{IsPair, ends_fault, pair_fault}
pub use Rattle.walk_files.specs.Readers.{Certificate, after_answer, answer_first, count_in, lines_to_come, moves_left, next_answer, next_move_of, next_on}
pub use Rattle.walk_files.specs.StreamEnds.{end_of_text}
pub use Rattle.walk_files.specs.Streams.{Belongs, IsIn, IsStreamAnswer, Streamed, after_move, end_behind, reader_at, streams_list}
pub use Rattle.walk_files.specs.WalkLists.{WalkText}
pub use Rattle.walk_files.specs.WalkTexts.{behind_vertex, ends_at, has_header, in_version, read_tokens, times, token_of, walk_of_line, walk_text_of, walks_behind, within_limits, written_out}
pub use Rattle.walk_files.specs.declared.certificate.Answer.{Answer}
pub use Rattle.walk_files.specs.declared.certificate.Answer.TheVariants.{Different, Homotopic}
pub use Rattle.walk_files.specs.declared.certificate.CertHead.{CertHead}
pub use Rattle.walk_files.specs.declared.certificate.CertHead.TheVariants.{Labels, Moves}
pub use Rattle.walk_files.specs.declared.entries.EntryFault.{EntryFault}
pub use Rattle.walk_files.specs.declared.entries.EntryFault.TheVariants.{NoEdge, NoVertex}
pub use Rattle.walk_files.specs.declared.fault.CertFault.{CertFault}
pub use Rattle.walk_files.specs.declared.fault.CertFault.TheVariants.{Bad, Ended, Extra, NoHead, OutOfMemory, Peak}
pub use Rattle.walk_files.specs.declared.fault.WalkFault.{WalkFault}
pub use Rattle.walk_files.specs.declared.fault.WalkFault.TheVariants.{BadGroup, TooLong, TooMany}
pub use Rattle.walk_files.specs.declared.limits.TheConstants.{MOST_DARTS, MOST_ENTRIES, MOST_LINES, MOST_PEAK, MOST_POWER, MOST_WALK_DARTS, MOST_WALK_VERTICES}
pub use Rattle.walk_files.specs.declared.loops.LoopFault.TheVariants.{NotClosed, NotTwo}
pub use Rattle.walk_files.specs.declared.pair.PairFault.TheVariants.{EndsDiffer}
pub use Rattle.walk_files.specs.declared.stream_end.StreamEnd.{StreamEnd}
pub use Rattle.walk_files.specs.declared.stream_end.StreamEnd.TheVariants.{Cert, Fault, TooLarge}
pub use Rattle.walk_files.specs.declared.tokens.Token.{Token}
pub use Rattle.walk_files.specs.declared.tokens.Token.TheVariants.{Close, Number, Open}
