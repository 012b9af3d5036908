-- What proofs of this crate cite of its definitions and of other crates, passed on from one place (by tools/imports). Declares nothing.
pub use Rattle.closed_surfaces.proofs.Genera.{one_genera, one_numbers, some_genera, some_numbers}
pub use Rattle.closed_surfaces.specs.ComponentGenera.{AreGeneraOf}
pub use Rattle.commands.proofs.Checking.{stops_first, stops_next, stops_second, told_stops}
pub use Rattle.commands.proofs.MeshTexts.{mesh_valid, sound-orientable}
pub use Rattle.commands.proofs.Rows.{IsOutcomeOf, mesh_passes, mesh_told, pair_told, sound-mesh, sound-pair, spelled_pair}
pub use Rattle.commands.proofs.Running.{err_no_fault, memory_no_fault, only_then, reads_ended, runs_faulty, runs_replied, runs_stopped, tells_no_fault}
pub use Rattle.commands.proofs.Sound.{IsSound, held, meant_told, sound-pass, sound-then, sound-unless_fault}
pub use Rattle.commands.specs.Answers.{Answer, OfOddChain, yes_with}
pub use Rattle.commands.specs.Checks.{Check, End, Holds, IsTold, Pass, Passes, Refuse, pass, ◌>>=◌}
pub use Rattle.commands.specs.Inputs.{IsInputOnSurface, SpellsMesh, SpellsPair, mesh_in, pair_in}
pub use Rattle.commands.specs.Outcomes.{AnswersTo, IsAnswerOf, Outcome}
pub use Rattle.commands.specs.Stops.{EndsReading, Stops, Tells}
pub use Rattle.commands.specs.declared.status.Status.{Status}
pub use Rattle.commands.specs.declared.stop.Stop.{Stop}
pub use Rattle.commands.specs.declared.stop.Stop.TheVariants.{OutOfMemory, ReadFault, Refused}
pub use Rattle.manifold_check.specs.Faults.{IsFirstFault}
pub use Rattle.std.proofs.Common.{List, ap, arith, codes, inl, inr, refl, subst, sym, take, ℕ, [], ◌++◌, ◌<◌, ◌∙◌, ◌∷◌, ◌≡◌, ◌≤◌}
pub use Rattle.std.specs.Prelude.{Err, IfOk, IsErrAnd, MatchResult, Ok, Option, Result, length, map}
pub use Rattle.surf_io.specs.Files.{Files}
pub use Rattle.surf_model.specs.FaceLists.{FaceList, IsFaceList}
pub use Rattle.surf_model.specs.Genera.{AreNumbersOf}
pub use Rattle.surf_model.specs.OrientableSurfaces.{HasComponents, IsOrientableSurface}
pub use Rattle.surf_model.specs.Surfaces.{IsClosedManifold, IsOrientable}
pub use Rattle.surf_model.specs.declared.numbers.SurfaceNumbers.{SurfaceNumbers}
pub use Rattle.surface_commands.specs.Surface.{HasFewComponents, IsMeasured, IsSurfaceInput, genera_of, genus_line, numbers_of, numbers_text, surface}
pub use Rattle.surface_commands.specs.SurfaceInput.{as_surface, closed_alone, of_few_components, surface_in}
pub use Rattle.surface_commands.specs.SurfaceRefusals.{components_line, surface_line}
pub use Rattle.surface_commands.specs.declared.surface.TheConstants.{MOST_COMPONENTS}
