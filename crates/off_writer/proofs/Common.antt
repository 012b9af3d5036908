-- What proofs of this crate cite of its definitions and of other crates, passed on from one place (by tools/imports). Declares nothing.
pub use Rattle.off_writer.specs.Parts.{head_text}
pub use Rattle.off_writer.specs.WrittenMeshes.{off_text, point_words, ring_words}
pub use Rattle.std.proofs.Common.{Bool, List, ap, append_assoc, arith, false, get_or, inl, inr, length, map, refl, subst, suc, sym, take, true, ℕ, [], ◌*◌, ◌++◌, ◌+◌, ◌<◌, ◌^◌, ◌∙◌, ◌∷◌, ◌≡◌, ◌≤◌}
pub use Rattle.std.proofs.lemmas.Bool.{and_from, cases_Bool, eqb-true, le-leb, le-ltb, lt-ltb}
pub use Rattle.std.proofs.lemmas.List.{append-nil, get_or-replicate, length-map, length-replicate, take_all}
pub use Rattle.std.proofs.lemmas.List.Elements.{All-append, All-cons, All-head, All-map, All-nil, All-replicate, All-tail, All-weaker, filter_map-append}
pub use Rattle.std.proofs.lemmas.List.Folds.{Any-from_list_any, flat_map-map}
pub use Rattle.std.proofs.lemmas.Option.{slice_get-get_or}
pub use Rattle.std.proofs.lemmas.Result.{err_from_is_err_and}
pub use Rattle.std.specs.List.{cons_option, list_all, list_any, range_with_len}
pub use Rattle.std.specs.Prelude.{All, None, Ok, Option, Some, codes, decimal, flat_map, if◌then◌else◌, nat_le, nat_lt, option_and_then, replicate, slice_get, sum_by, ◌==◌}
pub use Rattle.surf_io.proofs.Gathering.{EachPut, all-written, each-all, each-fails, each-more, each-none, each-stops, gathers-none, gathers-put, line_of-numbers, on_ok, only-none, part-written, puts-fails, puts-same, puts-then}
pub use Rattle.surf_io.specs.Gathered.{spaced_number}
pub use Rattle.surf_model.specs.FaceLists.{FaceList, HasFileSize, IsFace, IsFaceList, next_corner}
pub use Rattle.surf_model.specs.Vertices.{numbers}
pub use Rattle.text_scan.proofs.WrittenLemmas.{IsLine, IsWritable, decimal_is, decimals-writable, lines_from-written, number-writable, numbered}
pub use Rattle.text_scan.specs.Lines.{Line, end_line, full_lines, is_filled, lines_from}
unfoldable pub use Rattle.text_scan.specs.Lines.{unmarked}
pub use Rattle.text_scan.specs.Numbers.{is_digit, natural_of, value_of}
unfoldable pub use Rattle.text_scan.specs.Numbers.{is_natural, is_number_text}
pub use Rattle.text_scan.specs.Plain.{line_of}
