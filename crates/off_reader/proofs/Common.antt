-- What proofs of this crate cite of its definitions and of other crates, passed on from one place (by tools/imports). Declares nothing.
pub use Rattle.off_reader.specs.OffSteps.{IsSameLine, ReadsCorners, SaysHeader, TakesFaces, present_line}
pub use Rattle.off_reader.specs.OffTexts.{Keyword, bare_counts, corners_among, counted, counts_behind, face_fault, is_single_piece, line_before, meaning_of, point_fault, ring_fault, rings_named, two_naturals}
unfoldable pub use Rattle.off_reader.specs.OffTexts.{are_pieces, corners_of, counts_at, has_equal_neighbours, header_of, keyword_of, mesh_of, taken}
pub use Rattle.off_reader.specs.declared.off_fault.OffFault.{OffFault}
pub use Rattle.off_reader.specs.declared.off_fault.OffFault.TheVariants.{BadCounts, BadFace, BadVertex, Ended, EqualNeighbours, IndexRange, NoCounts, OutOfMemory, TooMany}
pub use Rattle.std.proofs.Common.{Bool, Bor, List, ap, ap₂, arith, cond, drop, eqb, false, get_or, inl, inr, leb, length, length-take, length-take-le, ltb, map, min, not, refl, subst, suc, sym, take, true, zero, zero-add, ℕ, [], ◌&&◌, ◌++◌, ◌+◌, ◌-◌, ◌<◌, ◌^◌, ◌∙◌, ◌∷◌, ◌≡◌, ◌≢◌, ◌≤◌, ◌⊎◌}
pub use Rattle.std.proofs.Math.Nat.{min-eq_left, min-eq_right, min-le_left}
pub use Rattle.std.proofs.lemmas.Bool.{and_cases, and_left, and_parts, and_right, both_ways, cases_lt, eq-eqb, le-leb, le-ltb, leb-false, leb-true, lt-leb, lt-ltb, ltb-false, ltb-true, ne_eqb}
pub use Rattle.std.proofs.lemmas.List.{length-map, map-append, take_all}
pub use Rattle.std.proofs.lemmas.Option.{cond_some, none-some, option_and_then_some, same_Some}
pub use Rattle.std.proofs.lemmas.Result.{err_from_is_err_and}
pub use Rattle.std.specs.List.{before_first, cons_option, list_all, list_any, position_or_len, range_with_len}
pub use Rattle.std.specs.Prelude.{All, Err, IfNone, IfSome, MatchOption, None, Ok, Option, Result, Some, bytes_eq, codes, option_and_then, option_map, position}
pub use Rattle.surf_model.specs.FaceLists.{FaceList, IsFace, PendingFace, next_corner, total_sides}
pub use Rattle.surf_model.specs.Vertices.{numbers}
pub use Rattle.surf_model.specs.declared.limits.TheConstants.{MOST_SIDES, MOST_VERTICES}
pub use Rattle.text_scan.specs.Lines.{Line, end_line, full_lines}
pub use Rattle.text_scan.specs.Numbers.{is_natural, is_number_text, natural_of, value_of}
pub use Rattle.text_scan.specs.Unread.{Unread, lines_left, next_is_number_text, next_natural, past_word}
