-- What proofs of this crate cite of its definitions and of other crates, passed on from one place (by tools/imports). Declares nothing.
pub use Rattle.closed_walks.proofs.FreeStepLemmas.{closes, end_is, end_of, on, parts_turn, turn}
pub use Rattle.closed_walks.proofs.MovedSteps.{freely}
pub use Rattle.closed_walks.specs.FreeHomotopy.{FreelyHomotopic, IsClosedWalk}
pub use Rattle.flat_forms.specs.FlatStates.{IsEvenPoint, IsFlatWheel, flat_next}
pub use Rattle.flat_forms.specs.Pairs.{spokes_of, sum_of_pairs}
pub use Rattle.flat_forms.specs.Vectors.{Vector, less, origin, plus, unit_step}
pub use Rattle.free_loops.specs.CyclicForms.{IsCyclicFormOf}
pub use Rattle.halfedge_map.specs.OrientedMeshes.{IsOrientedSurface, OrientedMesh}
pub use Rattle.labellings.proofs.WalkWordLemmas.{flat_wheel_of_good, quad_path_below, quad_path_in_pairs, quad_path_leads_to_sum}
pub use Rattle.labellings.specs.GoodLabellings.{IsGood}
pub use Rattle.labellings.specs.Labellings.{LabellingView}
pub use Rattle.labellings.specs.QuadPaths.{quad_path, spokes}
pub use Rattle.labellings.specs.WalkWords.{IsWordOf, in_pairs}
pub use Rattle.polygon_cut.proofs.CongruenceLemmas.{behind, home_and_there, there_and_home}
pub use Rattle.polygon_cut.proofs.LoopLemmas.{HasWays, IsWay, Loop, SameLoop, back, homotopy, loop_inv, loop_mul, loop_of, loop_one, start_used, way_home, way_on, way_walk}
pub use Rattle.polygon_cut.proofs.RelatorLemmas.{ends_at_vertex, spoke_product, spokes_on}
pub use Rattle.polygon_cut.proofs.SpokeLemmas.{Loops, group_of, spoke}
pub use Rattle.polygon_cut.proofs.TreeWayLemmas.{tree_ways, up}
pub use Rattle.polygon_cut.specs.Polygons.{IsCutFrom, PolygonView, across, place_of}
pub use Rattle.quad_system.proofs.PolygonLabelLemmas.{polygon_good}
pub use Rattle.quad_system.proofs.PushWorthLemmas.{loop_of_path}
pub use Rattle.quad_system.proofs.SpokeProductLemmas.{loops_keep, spoke_at, walk_product}
pub use Rattle.quad_system.specs.PolygonLabellings.{labelling_from}
pub use Rattle.spoke_paths.proofs.StepsKeep.{KeepsSteps, new_way, old_way}
pub use Rattle.spoke_rings.proofs.Leading.{leads-nowhere, leads-on, leads-step, quad-is, spur-enters, spur-leaves}
pub use Rattle.spoke_rings.specs.CyclicWords.{IsCyclicallyCanonical, IsFullWheel, IsLoop}
pub use Rattle.spoke_rings.specs.LoopSteps.{LoopLeads, across_quad, rotate}
pub use Rattle.spoke_rings.specs.Rotations.{IsRotation}
pub use Rattle.std.proofs.Common.{Bool, List, add-one, ap, append_assoc, ap₂, arith, drop, false, get_or, length, not, refl, subst, suc, sym, take, true, ℕ, ℤ, [], ◌%◌, ◌++◌, ◌+◌, ◌<◌, ◌↔◌, ◌∙◌, ◌∷◌, ◌≡◌, ◌≤◌}
pub use Rattle.std.proofs.lemmas.Bool.{eq-eqb, lt-ltb}
pub use Rattle.std.proofs.lemmas.List.{append-nil, length-append, length-take, take-append-drop}
pub use Rattle.std.specs.Prelude.{All, IsTrue, Option, Some, option_map}
pub use Rattle.surf_model.specs.FaceLists.{FaceList, IsFaceList}
pub use Rattle.surf_model.specs.Moves.{Homotopic}
pub use Rattle.tree_cotree.specs.Splits.{IsSplit, SplitView, in_cotree, is_left}
pub use Rattle.turn_words.specs.FormLaws.{IsQuad, led}
pub use Rattle.turn_words.specs.Lemmas.Sums.{add-cases, add-lt, add-minus, add-zero, add_assoc, add_comm, minus-lt}
pub use Rattle.turn_words.specs.Modulo.{add}
unfoldable pub use Rattle.turn_words.specs.Modulo.{minus}
pub use Rattle.turn_words.specs.SpokePaths.{place_round, turn_word_of, turns_after}
pub use Rattle.turn_words.specs.StepTable.{Reaches}
pub use Rattle.turn_words.specs.declared.word.Word.TheVariants.{Flat, Turns}
pub use Rattle.walk_translate.proofs.LabelLemmas.{cut_is_good}
pub use Rattle.walk_translate.specs.SurfaceLabels.{HasSphereSplit, IsLabelledByCut}
