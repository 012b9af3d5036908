-- What proofs of this crate cite of its definitions and of other crates, passed on from one place (by tools/imports). Declares nothing.
pub use Rattle.homology.specs.ArrayCertificates.{AreChainNumbers, AreCocycleNumbers, side_numbers}
pub use Rattle.homology.specs.Certificates.{AreEdgeNumbers, AreFaceNumbers, edge_number, face_number, listed_number}
pub use Rattle.homology.specs.Chains.{IsChain, boundary, count_difference, count_of, crossing, net_crossings}
pub use Rattle.homology.specs.Cocycles.{IsCocycle, Separates, dart_number, edge_sum, face_sum, separation}
pub use Rattle.homology.specs.Sums.{along, round, share, total}
pub use Rattle.homology.specs.Tallies.{AreNumbersWithin, AreTableNumbers, GrewBy, IsLeft, face_share, number_at, signed_from}
pub use Rattle.homology.specs.Verdicts.{HasEdge, HasFace, IsBalancedAt, IsChainVerdict, IsCocycleVerdict, IsFirstAgainst, IsLeastOpen, IsLeastUnbalanced, IsVerdict}
pub use Rattle.homology.specs.declared.certificate.EdgeNumber.{EdgeNumber}
pub use Rattle.homology.specs.declared.certificate.FaceNumber.{FaceNumber}
pub use Rattle.homology.specs.declared.certificate.TheConstants.{MOST_NUMBER}
pub use Rattle.homology.specs.declared.verdict.HomologyVerdict.{HomologyVerdict}
pub use Rattle.homology.specs.declared.verdict.HomologyVerdict.TheVariants.{Accepted, Face, Sum, Zero}
pub use Rattle.std.proofs.Common.{Bool, List, ap, ap₂, arith, drop, false, get_or, inl, inr, length, negsuc, not, of_z, pos, refl, rules, set, subst, suc, sym, take, to_z, true, w64, zero, ℕ, ℤ, [], ◌&&◌, ◌*◌, ◌++◌, ◌+ℤ◌, ◌+◌, ◌-ℤ◌, ◌-◌, ◌<◌, ◌^◌, ◌||◌, ◌∙◌, ◌∷◌, ◌≡◌, ◌≢◌, ◌≤◌, ◌⊎◌}
pub use Rattle.std.proofs.Math.IntN.{pred_ℤ-*ℤ, pred_ℤ-+ℤ, suc_ℤ-*ℤ, suc_ℤ-+ℤ, zero-*ℤ, *ℤ-negsuc, *ℤ-one, *ℤ-zero, *ℤ_comm}
unfoldable pub use Rattle.std.proofs.Math.IntN.{one}
pub use Rattle.std.proofs.lemmas.Bool.{cases_Bool, cases_eq, cases_lt, cases_order, eqb-false, eqb-true}
pub use Rattle.std.proofs.lemmas.Bool.Decides.{nat_tests}
pub use Rattle.std.proofs.lemmas.Grind.{common_steps}
pub use Rattle.std.proofs.lemmas.Int.{fits_signed_from_abs, ints, to_z-of_z}
pub use Rattle.std.proofs.lemmas.List.{get_or-map, get_or-set_other, get_or-set_same, get_or_default, get_or_past, length-map, length-replicate, length-set, take_all, take_more}
pub use Rattle.std.proofs.lemmas.Option.{get_or_from_slice_get}
pub use Rattle.std.specs.List.{enumerate_from, list_any, range_with_len}
pub use Rattle.std.specs.Prelude.{All, AllPairs, Any, Contains, Err, FitsSigned, IfOk, IsTrue, Ok, Result, Some, filter, flat_map, if◌then◌else◌, map, nat_eq, neg_ℤ, replicate, slice_get, unsigned_abs, ◌*ℤ◌, ◌==◌, ◌↔◌, ◌≤ℤ◌}
pub use Rattle.surf_model.proofs.LinkLemmas.{Linked, links}
pub use Rattle.surf_model.proofs.NumberLemmas.{face_side, length-all_sides, length-sides_of_face, length-sides_up_to, sides_of_face-more, sides_up_to, sides_up_to-all, sides_up_to-more, sides_up_to-none}
pub use Rattle.surf_model.proofs.OneTableLemmas.{sides_in_table}
pub use Rattle.surf_model.proofs.PartnerLemmas.{HasSideEnds, IsSideOfEdge, side_of_edge, table_edge}
pub use Rattle.surf_model.proofs.TableEdgeLemmas.{IsEdgeBetween, edge_between, place_before, same_pair, table_pair}
pub use Rattle.surf_model.proofs.WayBackLemmas.{AreAlike, alike, at_first, at_last}
pub use Rattle.surf_model.specs.Darts.{IsSide, head_of, side_number, tail_of}
pub use Rattle.surf_model.specs.Edges.{Edge, HasEnds, IsPairBefore, IsTableOf, edge_in}
pub use Rattle.surf_model.specs.FaceLists.{FaceList, FaceSide, HasFileSize, corners_from, face_at, joins, next_corner, sides_of_face, total_sides}
unfoldable pub use Rattle.surf_model.specs.FaceLists.{all_sides, is_edge}
pub use Rattle.surf_model.specs.Walks.{IsWalk}
pub use Rattle.surf_model.specs.declared.edges.Side.{Side}
