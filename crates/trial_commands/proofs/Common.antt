-- What proofs of this crate cite of its definitions and of other crates, passed on from one place (by tools/imports). Declares nothing.
pub use Rattle.closed_surfaces.specs.ComponentGenera.{AreGeneraOf}
pub use Rattle.commands.proofs.Checking.{read_passes, stops_first, stops_next, told_stops}
pub use Rattle.commands.proofs.Deciding.{behind, differs, one_decision, refused_behind, walks_of_pair}
pub use Rattle.commands.proofs.Running.{failed_end}
pub use Rattle.commands.proofs.Sound.{IsSound, meant_told, sound-meant, sound-pass, sound-pass_unless, sound-then, unless_told}
pub use Rattle.commands.specs.Answers.{Answer, yes_with}
pub use Rattle.commands.specs.Checks.{Check, End, Pass, Passes, Refuse, meant, pass, pass_unless, ◌>>=◌}
pub use Rattle.commands.specs.Lines.{in_lines, refused}
pub use Rattle.commands.specs.Refusals.{off_line, pair_line, told}
pub use Rattle.commands.specs.Stops.{Ends, Stops, Tells}
pub use Rattle.manifold_check.proofs.PartPieces.{few_joined, joined_few}
pub use Rattle.off_reader.specs.OffTexts.{meaning_of}
pub use Rattle.off_reader.specs.declared.off_fault.OffFault.TheVariants.{BadVertex, OutOfMemory}
pub use Rattle.std.proofs.Common.{List, ap, arith, codes, false, get_or, inl, inr, length, map, refl, subst, suc, sym, true, zero, ℕ, [], ◌*◌, ◌++◌, ◌<◌, ◌^◌, ◌∙◌, ◌∷◌, ◌≡◌, ◌≤◌}
pub use Rattle.std.proofs.lemmas.Bool.{and_from, le-leb}
pub use Rattle.std.specs.Prelude.{Err, IfOk, MatchResult, None, Ok, Option, Result, Some, decimal, flat_map, if◌then◌else◌, nat_le, sum_by, ◌↔◌, ◌≢◌}
pub use Rattle.surf_gen.specs.ChainTexts.{chain_text, coordinates}
pub use Rattle.surf_gen.specs.Chains.{cells, chain_mesh, face, vertices}
pub use Rattle.surf_gen.specs.Sizes.{IsChainSize}
pub use Rattle.surf_gen.specs.TrialWalks.{first_walk, second_walk}
pub use Rattle.surf_gen.specs.declared.limits.TheConstants.{LEAST_GRID, MOST_GENUS, MOST_GRID}
pub use Rattle.surf_gen.specs.declared.walks.TrialPair.{TrialPair}
pub use Rattle.surf_gen.specs.declared.walks.TrialPair.TheVariants.{Cell, Commuting, Loops}
pub use Rattle.surf_io.specs.Files.{Files}
pub use Rattle.surf_model.specs.FaceLists.{FaceList, HasFileSize, IsFace, IsFaceList, next_corner}
pub use Rattle.surf_model.specs.Genera.{AreNumbersOf}
pub use Rattle.surf_model.specs.OrientableSurfaces.{IsOrientableSurface}
pub use Rattle.surf_model.specs.Walks.{AreWalkPair, walk_at}
pub use Rattle.surf_model.specs.declared.decisions.Answer.TheVariants.{Different, Homotopic}
pub use Rattle.surf_model.specs.declared.numbers.SurfaceNumbers.{SurfaceNumbers}
pub use Rattle.surface_commands.proofs.Measuring.{as_passed, as_passes, sound-genera, sound-numbers}
pub use Rattle.surface_commands.proofs.Surfaces.{few_pass, few_passed, sound-as_surface, sound-few}
pub use Rattle.surface_commands.specs.Surface.{genera_of, genus_line, numbers_of}
pub use Rattle.surface_commands.specs.SurfaceInput.{as_surface, of_few_components}
pub use Rattle.trial_commands.specs.Trial.{AreTrialDecisions, IsRightOn, IsTrialRow, IsTried, decision_on, is_within, last_lines, pair_decided, pair_walks, pairs_decided, size_fault, surface_spelled, trial, trial_text}
pub use Rattle.trial_commands.specs.declared.trial.Decisions.{Decisions}
pub use Rattle.walk_files.specs.Pairs.{IsPair, pair_fault}
