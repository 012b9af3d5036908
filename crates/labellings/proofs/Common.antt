-- What proofs of this crate cite of its definitions and of other crates, passed on from one place (by tools/imports). Declares nothing.
pub use Rattle.flat_forms.specs.FlatStates.{IsFlatWheel, flat_next}
pub use Rattle.flat_forms.specs.Vectors.{Vector, origin}
pub use Rattle.labellings.specs.DenialVerdicts.{FirstIsRight, IsDenialVerdict, IsFirstWrong, SecondIsRight}
pub use Rattle.labellings.specs.GoodLabellings.{EdgeMeetsRule, HasDegree, HasPlaces, HasShape, IsGood, MeetsSomeRule, SidesMeetRule}
pub use Rattle.labellings.specs.LabelFaults.{FitsFace, IsFirstLabelFault, IsLeastAgainstRules}
pub use Rattle.labellings.specs.Labellings.{FaceLabels, LabellingView, head_label, label_at, labels_at, signs_of, tail_label}
pub use Rattle.labellings.specs.QuadPaths.{quad_path, spokes, spokes_by_labels, spokes_of_sides}
unfoldable pub use Rattle.labellings.specs.QuadPaths.{side_from}
pub use Rattle.labellings.specs.Spokes.{spoke_list}
pub use Rattle.labellings.specs.TableRules.{EntryMeetsRule, IsFirstAgainstRules}
pub use Rattle.labellings.specs.WalkWords.{IsWordOf, in_pairs}
pub use Rattle.labellings.specs.declared.denial.Denial.{Denial}
pub use Rattle.labellings.specs.declared.fault.LabelFault.{LabelFault}
pub use Rattle.labellings.specs.declared.fault.LabelFault.TheVariants.{Degree, EdgeRule, OutOfMemory, PlaceTwice, Shape}
pub use Rattle.labellings.specs.declared.verdict.DenialVerdict.{DenialVerdict}
pub use Rattle.labellings.specs.declared.verdict.DenialVerdict.TheVariants.{Accepted, Equal, Label, WordWrong}
pub use Rattle.std.proofs.Common.{All, Bool, List, ap, append_assoc, ap₂, arith, below_more, drop, eqb, false, get_or, inl, inr, length, map, of_z, refl, rules, slice_index, subst, suc, sym, take, to_z, true, w64, zero, ℕ, [], ◌&&◌, ◌*◌, ◌++◌, ◌+◌, ◌-◌, ◌<◌, ◌^◌, ◌∙◌, ◌∷◌, ◌≡◌, ◌≢◌, ◌≤◌, ◌⊎◌}
pub use Rattle.std.proofs.lemmas.Bool.{and_parts, cases_Bool, cases_lt, eq-eqb, eqb-true, or_cases}
pub use Rattle.std.proofs.lemmas.Bool.Decides.{nat_tests}
pub use Rattle.std.proofs.lemmas.Grind.{common_steps}
pub use Rattle.std.proofs.lemmas.List.{append-nil, get_or_append_left, get_or_push, get_or_read, length-append, length_push, take_all}
pub use Rattle.std.proofs.lemmas.Option.{get_or_from_slice_get}
pub use Rattle.std.specs.Prelude.{Contains, Err, IfOk, IfSome, IsTrue, MatchOption, None, Ok, Option, Result, Some, cond, filter, find, slice_get, ℤ, ◌↔◌}
pub use Rattle.surf_model.proofs.EdgeLemmas.{ends_differ, step_within}
pub use Rattle.surf_model.proofs.ListedLemmas.{IsListed, all_listed, partners_listed}
pub use Rattle.surf_model.proofs.PartnerLemmas.{HasSideEnds, edge_has_side, ends_agree, partners_of_edge, side_of_edge}
pub use Rattle.surf_model.proofs.TableEdgeLemmas.{IsEdgeBetween, edge_between, place_before, same_pair, sides_between_swap, sides_of_edge, table_pair}
pub use Rattle.surf_model.specs.Darts.{IsSide, head_of, side_after, tail_of}
pub use Rattle.surf_model.specs.Edges.{Edge, HasEnds, IsEdgeOf, IsPairBefore, IsTableOf, edge_in, side_name}
pub use Rattle.surf_model.specs.FaceLists.{FaceList, FaceSide, IsFaceList, all_sides, corners_from, face_at, joins, next_corner}
unfoldable pub use Rattle.surf_model.specs.FaceLists.{is_edge}
pub use Rattle.surf_model.specs.Moves.{Homotopic, apply_all}
pub use Rattle.surf_model.specs.Surfaces.{ArePartners, end_under, is_flipped, start_under}
pub use Rattle.surf_model.specs.Walks.{IsWalk}
pub use Rattle.surf_model.specs.declared.edges.Side.{Side}
pub use Rattle.turn_words.proofs.Spokes.{canonical, turns}
pub use Rattle.turn_words.specs.Canonical.{IsCanonicalOf}
pub use Rattle.turn_words.specs.FormLaws.{IsQuad, NotesAlong, led}
pub use Rattle.turn_words.specs.HyperStates.{BelongsTo, HyperState, IsEven, IsHyperWheel, empty_state, hyper_next}
unfoldable pub use Rattle.turn_words.specs.Modulo.{add, minus}
pub use Rattle.turn_words.specs.Recorded.{TellsMore}
pub use Rattle.turn_words.specs.SpokePaths.{turn_word_of}
pub use Rattle.turn_words.specs.Wheels.{IsFirstTwice, IsWheel}
pub use Rattle.turn_words.specs.declared.word.Word.{Word}
pub use Rattle.turn_words.specs.declared.word.Word.TheVariants.{Flat, Turns}
pub use Rattle.walk_actions.specs.Actions.{IsEdge, run, vertices_beyond, walked}
