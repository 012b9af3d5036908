-- What proofs of this crate cite of its definitions and of other crates, passed on from one place (by tools/imports). Declares nothing.
pub use Rattle.connectivity.proofs.CornerLemmas.{after_in_mesh, corner_used, number_once, partners_swap}
pub use Rattle.connectivity.proofs.Joining.{joined_refl, joined_step, joined_sym, joined_trans}
pub use Rattle.orientation.specs.Classes.{AreOfOneClass, EachEdgeHasAtMostTwoSides, IsFaceStep, IsLeastKept, IsLeastOfClass}
pub use Rattle.orientation.specs.Searches.{Extends, GrowthGoesOn, IsFaceKept, IsSearch, IsTear}
pub use Rattle.orientation.specs.Trees.{AreListedCoherently, AreTrees, Fit, Growth, IsAcross, IsAlong, IsExplored, IsExploredUpTo, IsFirst, IsFoundFrom, IsFrontier, count_unseen, differ, is_seen, no_place, runs_alike, tree_place_of, unseen, with_tree_face}
pub use Rattle.orientation.specs.declared.trees.Place.{Place}
pub use Rattle.std.proofs.Common.{Bool, List, ap, arith, below_more, cond, eqb, false, get_or, inl, inr, length, length-append, map, max, min, not, refl, reverse, subst, suc, sym, take, true, zero, ℕ, [], ◌%◌, ◌*◌, ◌++◌, ◌+◌, ◌<◌, ◌∙◌, ◌∷◌, ◌≡◌, ◌≢◌, ◌≤◌, ◌⊎◌}
pub use Rattle.std.proofs.Math.Bool.{and-true}
pub use Rattle.std.proofs.lemmas.Bool.{both_ways, cases_Bool, cases_eq, cases_lt, eq-eqb, eqb-true}
pub use Rattle.std.proofs.lemmas.Bool.Decides.{nat_tests}
pub use Rattle.std.proofs.lemmas.List.{ext_get_or, get_or-map, get_or-replicate, get_or-set_other, get_or-set_same, get_or_append_left, get_or_past, get_or_push, length-map, length-replicate, length-reverse, length_push, reverse-append}
pub use Rattle.std.proofs.lemmas.List.Sums.{count_by-le-length, sum_by-append, sum_by-cons, sum_by-set}
pub use Rattle.std.specs.Prelude.{All, Contains, None, Some, count_by, filter, if◌then◌else◌, replicate, sum_by, ◌↔◌}
pub use Rattle.surf_model.proofs.EdgeLemmas.{ends_differ, step_edge}
pub use Rattle.surf_model.proofs.SideNumberLemmas.{first_side-all, first_side-more, side_below}
pub use Rattle.surf_model.proofs.TableLemmas.{Contains-filter, face_side_in, next_within}
pub use Rattle.surf_model.specs.Darts.{IsSide, first_side, head_of, side_after, side_number, tail_of}
pub use Rattle.surf_model.specs.Edges.{Edge, IsEdgeOf, IsTableOf, edge_in, side_name}
pub use Rattle.surf_model.specs.FaceLists.{FaceList, FaceSide, HasFileSize, IsFace, IsFaceList, all_sides, face_at, joins, next_corner, total_sides}
unfoldable pub use Rattle.surf_model.specs.FaceLists.{is_edge}
pub use Rattle.surf_model.specs.OddChains.{IsOddChain, LeadOnTo, LeadsTo, first_face, is_turned, run_alike}
pub use Rattle.surf_model.specs.Surfaces.{AreJoined, AreJoinedByWalk, ArePartners, HasOneRing, IsClosedManifold, IsCoherent, IsCornerAt, IsCornerOfSide, IsPath, IsStepAround, RunOppositely, is_flipped}
pub use Rattle.surf_model.specs.declared.chains.ChainLink.{ChainLink}
pub use Rattle.surf_model.specs.declared.edges.Side.{Side}
pub use Rattle.surf_model.specs.declared.names.FaceName.{FaceName}
pub use mathlib.Core.Bool.{beq}
