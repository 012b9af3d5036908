-- What proofs of this crate cite of its definitions and of other crates, passed on from one place (by tools/imports). Declares nothing.
pub use Rattle.certify_commands.specs.Certify.{IsCertificatePrinted, IsCertified, IsCertifyInput, IsWithinLimits, certificate_answer, certified, certify, certify_limits, limit_fault, limit_word}
pub use Rattle.certify_commands.specs.Findings.{IsFinding, IsOfFaces, TellsOfSome}
pub use Rattle.certify_commands.specs.declared.finding.Finding.TheVariants.{Moves, Words}
pub use Rattle.closed_surfaces.proofs.Genera.{one_genus, part_sphere, whole_sphere}
pub use Rattle.closed_surfaces.specs.SignedSurfaces.{IsComponentOf, IsPart, surface_of}
pub use Rattle.closed_surfaces.specs.declared.component.Component.{Component}
pub use Rattle.closed_surfaces.specs.declared.component.Component.TheVariants.{Alone, Whole}
pub use Rattle.commands.proofs.Deciding.{at_places, behind, differs, pair_long, refused_behind, walks_of_pair, yes_or_no}
pub use Rattle.commands.proofs.LimitLemmas.{fitting, none_over, refused_beyond}
pub use Rattle.commands.proofs.Sound.{IsSound, held, sound-decided_by, sound-pass_unless, sound-then, unless_told}
pub use Rattle.commands.specs.Answers.{Answer, Exactly}
pub use Rattle.commands.specs.Certificates.{Convinces, IsShown, decision_of, decision_status}
pub use Rattle.commands.specs.Checks.{Check, Pass, Passes, Refuse, pass_unless, ◌>>=◌}
pub use Rattle.commands.specs.declared.certificate.TheConstants.{MOST_SHOWN_PEAK, MOST_SPHERE_MOVES}
pub use Rattle.halfedge_map.specs.OrientedMeshes.{IsOrientedSurface, OrientedMesh}
pub use Rattle.labellings.specs.Denials.{DenialHolds}
pub use Rattle.labellings.specs.GoodLabellings.{IsGood}
pub use Rattle.labellings.specs.Labellings.{FaceLabels, LabellingView, signs_of}
pub use Rattle.labellings.specs.WalkWords.{IsWordOf}
pub use Rattle.polygon_cut.specs.Polygons.{IsCutFrom, PolygonView}
pub use Rattle.std.proofs.Common.{List, ap, arith, codes, false, get_or, inl, inr, length, refl, subst, sym, take, true, ℕ, [], ◌*◌, ◌++◌, ◌+◌, ◌<◌, ◌∙◌, ◌∷◌, ◌≡◌, ◌≤◌}
pub use Rattle.std.proofs.lemmas.List.{ext_get_or, length-map, map-append, take_more}
pub use Rattle.std.specs.Prelude.{All, IfOk, IfSome, MatchOption, None, Option, Some, max, slice_get, ◌↔◌}
pub use Rattle.surf_io.specs.Files.{Files}
pub use Rattle.surf_model.specs.ComponentParts.{component_at, component_mesh}
pub use Rattle.surf_model.specs.FaceLists.{FaceList, IsFaceList, is_used, total_sides}
pub use Rattle.surf_model.specs.Genera.{HasGenus, LiesOnSphere}
pub use Rattle.surf_model.specs.Moves.{Homotopic, Leads, PeakedMoves, apply, apply_all}
pub use Rattle.surf_model.specs.PeakedLists.{LeadsAtPeak}
pub use Rattle.surf_model.specs.Submeshes.{move_of_whole_mesh, renamed_moves, signs_among, submesh}
pub use Rattle.surf_model.specs.Walks.{AreWalkPair, HaveCommonEnds, IsWalk, darts, walk_at}
pub use Rattle.tree_cotree.specs.Splits.{IsSplit, SplitView}
pub use Rattle.turn_words.specs.declared.word.Word.{Word}
