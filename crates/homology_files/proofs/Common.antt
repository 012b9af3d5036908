-- What proofs of this crate cite of its definitions and of other crates, passed on from one place (by tools/imports). Declares nothing.
pub use Rattle.homology.specs.Certificates.{AreEdgeNumbers, AreFaceNumbers}
pub use Rattle.homology.specs.declared.certificate.EdgeNumber.{EdgeNumber}
pub use Rattle.homology.specs.declared.certificate.FaceNumber.{FaceNumber}
pub use Rattle.homology_files.specs.HomologyTexts.{answer_words, behind_homology_head, bounded_number_of, cert_in, cert_of_text, edge_number_of, face_number_of, homology_head_among, homology_then, is_edge_above, is_edge_before, is_face_above, kind_answered, numbers_in}
pub use Rattle.homology_files.specs.WrittenTexts.{EdgeFits, FaceFits, FitsHomologyFormat, cert_lines, cert_text, edge_words, face_number_words, kind_in}
pub use Rattle.homology_files.specs.declared.head.Kind.{Kind}
pub use Rattle.homology_files.specs.declared.head.Kind.TheVariants.{OfEdges, OfFaces}
pub use Rattle.std.proofs.Common.{Bool, List, ap, append_assoc, arith, eqb, false, get_or, inl, inr, length, length-append, map, negsuc, pos, refl, subst, sym, take, true, ℕ, ℤ, [], ◌++◌, ◌+◌, ◌-◌, ◌<◌, ◌^◌, ◌∙◌, ◌∷◌, ◌≡◌, ◌≤◌}
pub use Rattle.std.proofs.lemmas.Bool.{cases_Bool, cases_lt, le-leb, lt-ltb, ltb-true, ne_eqb}
pub use Rattle.std.proofs.lemmas.List.{append-nil, take_all}
pub use Rattle.std.proofs.lemmas.List.Elements.{All-cons, All-head, All-map, All-more, All-nil, All-tail}
pub use Rattle.std.proofs.lemmas.List.Folds.{flat_map-map, list_all_at}
pub use Rattle.std.proofs.lemmas.List.Sums.{list_all-from_AllPass}
pub use Rattle.std.proofs.lemmas.Option.{get_or_from_slice_get, slice_get_within}
pub use Rattle.std.proofs.lemmas.Result.{err_from_is_err_and}
pub use Rattle.std.specs.List.{list_all}
pub use Rattle.std.specs.Prelude.{All, AllPairs, None, Ok, Option, Result, Some, codes, decimal, flat_map, if◌then◌else◌, nat_lt, slice_get, unsigned_abs}
pub use Rattle.surf_io.proofs.Gathering.{EachPut, all-written, each-all, each-more, each-none, each-stops, gathers-none, gathers-put, on_ok, only-none, part-written, puts-same, puts-then}
pub use Rattle.text_scan.specs.Lines.{Line, end_line, full_lines, lines_from}
unfoldable pub use Rattle.text_scan.specs.Lines.{unmarked, words}
pub use Rattle.text_scan.specs.Plain.{line_of}
pub use Rattle.text_scan.specs.Unread.{Unread, are_words, lines_left}
unfoldable pub use Rattle.text_scan.specs.Unread.{words_here}
