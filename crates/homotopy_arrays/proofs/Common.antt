-- What proofs of this crate cite of its definitions and of other crates, passed on from one place (by tools/imports). Declares nothing.
pub use Rattle.closed_surfaces.proofs.Components.{signed_surface, walk_there}
pub use Rattle.closed_surfaces.specs.SignedSurfaces.{IsComponentOf, IsNoSurface, IsSigned}
pub use Rattle.closed_surfaces.specs.declared.signed_mesh.SignedMesh.{SignedMesh}
pub use Rattle.closed_walks.specs.FreeHomotopy.{FreelyHomotopic, IsClosedWalk}
pub use Rattle.compact_surfaces.specs.CompactSurfaces.{IsCompactSurface, IsOrientableCompactSurface}
pub use Rattle.doubling.specs.Doubles.{double_of}
pub use Rattle.folded_homology.specs.FoldedNumbers.{AreFolded}
pub use Rattle.homology.specs.ArrayCertificates.{AreSmall, DoShow}
pub use Rattle.homology.specs.declared.array.HomologyNumbers.{HomologyNumbers}
pub use Rattle.homotopy_arrays.specs.Certifications.{Certifies, IsCertificateFor, IsCertifyFault, IsCertifyLimitFault, IsFaultOfPair, no_memory}
pub use Rattle.homotopy_arrays.specs.CheckedPairs.{AreCheckedLoops, AreListed, IsChecked}
pub use Rattle.homotopy_arrays.specs.Classes.{AreClassed, AreClassesIn, AreCut, IsFirstNone, IsNoClassesIn, IsWalkIn, first_walks}
pub use Rattle.homotopy_arrays.specs.Compact.{AreDecidedOnAny, IsCompactFault, IsCompactKept, IsDecideAnyFault, IsOrientableCompactFault, IsSignedOf, of_compact_fault, of_signed_fault}
pub use Rattle.homotopy_arrays.specs.Decisions.{AreAnsweredOn, AreDecided, IsAskedFault, IsDecideFault, IsKept}
pub use Rattle.homotopy_arrays.specs.Homologies.{AreLong, AreShown, AreShownAs, IsAsked, IsHomologyFaultOfPair, IsHomologyFaultOn, ShowsWalksOn, Sized, answer_by, mesh_asked}
pub use Rattle.homotopy_arrays.specs.HomologyJudgements.{IsArrayVerdict, IsVerifyHomologyFault, IsVerifyHomologyFaultOn, JudgesNumbers, JudgesNumbersOn}
pub use Rattle.homotopy_arrays.specs.Judgements.{IsFaultOfMoves, IsFaultOfSpelling, IsFaultOfText, IsFaultOfWalks, IsVerdictOnMoves, IsVerifyFault, Judges, JudgesSpelt, JudgesText, JudgesWalks, of_certificate_fault}
pub use Rattle.homotopy_arrays.specs.MeshArrays.{AreArraysOf, array_face_fault, counts_fault, mesh_in_arrays, unless}
unfoldable pub use Rattle.homotopy_arrays.specs.MeshArrays.{faces_behind, mesh_from_arrays}
pub use Rattle.homotopy_arrays.specs.Pairs.{AreAnswers, AreWalks, IsAnswer, are_pairs, length_fault, two_walks_fault, walk_in_arrays}
pub use Rattle.homotopy_arrays.specs.Surfaces.{EndsOn, IsSurfaceFault, IsSurfaceOf, OfMesh, of_no_surface, of_surface_fault}
pub use Rattle.homotopy_arrays.specs.declared.fault.Fault.{Fault}
pub use Rattle.homotopy_arrays.specs.declared.fault.Fault.TheVariants.{CornerCount, EqualNeighbours, FewCorners, ManySides, ManyVertices, NoVertex, OutOfMemory, WalkCount}
pub use Rattle.homotopy_arrays.specs.declared.pair.Checked.TheVariants.{Faulty, Pair}
pub use Rattle.move_checker.specs.Verdicts.{verdict_of}
pub use Rattle.off_reader.proofs.RingLemmas.{DifferTo, all_below, differ_all, differ_at, differ_more, equal_found}
pub use Rattle.std.proofs.Common.{Bool, List, ap, append-nil, append_assoc, ap₂, arith, cond, drop, eqb, false, get_or, inl, inr, length, length-take-le, ltb, map, not, refl, subst, suc, sum, sym, take, true, zero, ℕ, [], ◌%◌, ◌*◌, ◌++◌, ◌+◌, ◌-◌, ◌<◌, ◌↔◌, ◌∙◌, ◌∷◌, ◌≡◌, ◌≢◌, ◌≤◌, ◌⊎◌}
pub use Rattle.std.proofs.lemmas.Bool.{and_from, and_parts, both_ways, cases_lt, eq-eqb, eqb-false, eqb-true, le-ltb, lt-ltb, ltb-false, ne_eqb}
pub use Rattle.std.proofs.lemmas.List.{drop-drop, drop_all, drop_at, drop_more, get_or_append_left, length-drop, length_push, take-append-drop, take_all, take_at, take_more}
pub use Rattle.std.proofs.lemmas.List.Sums.{sum_by-append, sum_by-cons, sum_by-take-drop}
pub use Rattle.std.proofs.lemmas.Option.{get_or_from_slice_get, none-some}
pub use Rattle.std.proofs.lemmas.Result.{err_from_is_err_and}
pub use Rattle.std.specs.Global.{Vec}
pub use Rattle.std.specs.List.{list_all}
pub use Rattle.std.specs.Prelude.{All, Err, IfOk, MatchOption, MatchResult, None, Ok, Option, Result, Some, flat_map, if◌then◌else◌, is_some, nat_lt, option_map, slice_get, sum_by, ℤ}
pub use Rattle.std.specs.declared.alloc.AllocError.{AllocError}
pub use Rattle.surf_model.specs.FaceLists.{FaceList, IsFace, PendingFace, total_sides}
pub use Rattle.surf_model.specs.OrientableSurfaces.{IsOrientableSurface}
pub use Rattle.surf_model.specs.Walks.{HaveCommonEnds, IsWalk, darts}
pub use Rattle.surf_model.specs.declared.limits.TheConstants.{MOST_SIDES, MOST_VERTICES}
pub use Rattle.surf_model.specs.declared.moves.Move.{Move}
pub use Rattle.text_scan.specs.Lines.{Line, end_line, full_lines}
pub use Rattle.verify_commands.proofs.Gathering.{left_start, list-moves, list-wrong, none_more, one_more}
pub use Rattle.walk_classes.specs.Faults.{IsClassFault, IsFirstNoWalk}
pub use Rattle.walk_classes.specs.WalkClasses.{AreClasses}
pub use Rattle.walk_files.proofs.EachLemmas.{before_ok}
pub use Rattle.walk_files.specs.Certificates.{answer_alone, cert_head_of, first_head, fits, fitting_head, head_among, head_in, head_of_text, moves_of_text, within_peak}
pub use Rattle.walk_files.specs.ClosedPairs.{IsClosedPair, loops_fault}
pub use Rattle.walk_files.specs.Denials.{denial_of_lines}
pub use Rattle.walk_files.specs.Pairs.{IsPair, pair_fault}
pub use Rattle.walk_files.specs.Readers.{Certificate, after_answer, answer_first, count_in, denial_left, lines_to_come, moves_left, moves_to_come, next_answer, next_move_of, started, unless_refused}
pub use Rattle.walk_files.specs.declared.certificate.CertHead.{CertHead}
pub use Rattle.walk_files.specs.declared.fault.CertFault.{CertFault}
