-- What proofs of this crate cite of its definitions and of other crates, passed on from one place (by tools/imports). Declares nothing.
pub use Rattle.closed_surfaces.proofs.Components.{walk_there}
pub use Rattle.closed_surfaces.specs.SignedSurfaces.{IsComponentOf, IsPart, surface_of}
pub use Rattle.commands.proofs.Rows.{input_so, sound-pair}
pub use Rattle.commands.specs.Checks.{Check, Pass, Passes, Refuse, meant, pass_unless, ◌>>=◌}
pub use Rattle.commands.specs.HomologyCertificates.{Homologous, HomologyAnswer, NotHomologous, ShowsHomology, answer_in, homology_line, homology_status, homology_text}
pub use Rattle.commands.specs.Inputs.{pair_in}
pub use Rattle.commands.specs.Outcomes.{AnswersTo, IsAnswerOf, Outcome}
pub use Rattle.commands.specs.declared.status.Status.{Status}
pub use Rattle.halfedge_map.specs.OrientedMeshes.{OrientedMesh}
pub use Rattle.homology.proofs.ChainVerdictLemmas.{boundary_agrees, within_more}
pub use Rattle.homology.specs.Certificates.{AreEdgeNumbers, AreFaceNumbers, edge_number, face_number, listed_number}
pub use Rattle.homology.specs.Chains.{AreHomologous, IsChain, boundary, count_of}
pub use Rattle.homology.specs.Cocycles.{IsCocycle, Separates, dart_number, face_sum}
pub use Rattle.homology.specs.Sums.{along, round, share, total}
pub use Rattle.homology.specs.Tallies.{AreNumbersWithin, number_at}
pub use Rattle.homology.specs.declared.certificate.EdgeNumber.{EdgeNumber}
pub use Rattle.homology.specs.declared.certificate.FaceNumber.{FaceNumber}
pub use Rattle.homology.specs.declared.certificate.HomologyCert.{HomologyCert}
pub use Rattle.homology.specs.declared.certificate.TheConstants.{MOST_NUMBER}
pub use Rattle.homology_commands.specs.Homology.{IsHomologyAnswered, IsHomologyInput, IsHomologyPrinted, homology, homology_answer, homology_shown}
pub use Rattle.homology_commands.specs.Listings.{IsAmong, IsFaceNamed, ListsEdges, ListsFaces, name_in}
pub use Rattle.homology_deciding.specs.Proofs.{IsChainFor, IsCocycleFor, IsProofFor}
pub use Rattle.homology_files.specs.WrittenTexts.{EdgeFits, FaceFits, cert_text, kind_in}
pub use Rattle.manifold_check.proofs.PartPieces.{IsOfComponent, face_same_place, piece_of_parts}
pub use Rattle.manifold_check.proofs.PieceLemmas.{HasPlaceAmong, IsPiece, edge_up, face-submesh, length-submesh, used_up}
pub use Rattle.std.proofs.Common.{Bool, List, ap, ap₂, arith, codes, drop, false, get_or, inl, inr, length, length-append, negsuc, of_z, pos, refl, subst, suc, sym, to_z, true, w64, zero, ℕ, ℤ, [], ◌++◌, ◌+ℤ◌, ◌+◌, ◌<◌, ◌↔◌, ◌∙◌, ◌∷◌, ◌≡◌, ◌≢◌, ◌≤◌, ◌⊎◌}
pub use Rattle.std.proofs.lemmas.Bool.{cases_Bool, cases_eq, cases_lt, cases_order, cond-false, cond-true, ltb-false, or_parts}
pub use Rattle.std.proofs.lemmas.Bool.Decides.{nat_tests}
pub use Rattle.std.proofs.lemmas.Int.{ints}
pub use Rattle.std.proofs.lemmas.List.Elements.{All-cons, All-nil, All-push, filter_passes}
pub use Rattle.std.proofs.lemmas.Option.{get_or_from_slice_get}
pub use Rattle.std.specs.List.{enumerate_from, list_any, range_with_len, sum_by}
pub use Rattle.std.specs.Prelude.{All, Err, None, Ok, Option, Result, Some, filter, if◌then◌else◌, map, nat_le, nat_lt, neg_ℤ, slice_get, unsigned_abs, ◌&&◌, ◌*ℤ◌, ◌==◌, ◌||◌}
pub use Rattle.surf_io.specs.Files.{Files}
pub use Rattle.surf_model.proofs.EdgeLemmas.{edge_swap, step_within, tail_used}
pub use Rattle.surf_model.proofs.LinkLemmas.{Linked, links, round_linked}
pub use Rattle.surf_model.specs.ComponentParts.{AreParts, PartsView, component_at, component_mesh}
pub use Rattle.surf_model.specs.Edges.{Edge, IsPairBefore, IsTableOf, edge_in}
pub use Rattle.surf_model.specs.FaceLists.{FaceList, FaceSide, all_sides, corners_from, face_at, joins, next_corner}
unfoldable pub use Rattle.surf_model.specs.FaceLists.{is_edge}
pub use Rattle.surf_model.specs.Walks.{AreWalkPair, IsWalk, darts, walk_at}
pub use Rattle.surface_commands.proofs.SurfaceRows.{outcome_of_pair, sound-surface_in}
