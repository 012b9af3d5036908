-- What proofs of this crate cite of its definitions and of other crates, passed on from one place (by tools/imports). Declares nothing.
pub use Rattle.closed_walks.specs.FreeHomotopy.{FreelyHomotopic, IsClosedWalk}
pub use Rattle.commands.proofs.Sound.{IsSound, IsYesOrNo, held, sound-decided_by, sound-then}
pub use Rattle.commands.proofs.WalkInputs.{fault_stops, sound-walks, text_passes, text_stops, walks_passed, walks_told}
pub use Rattle.commands.specs.Checks.{Check, Holds, IsTold, Passes}
pub use Rattle.commands.specs.Outcomes.{AnswersTo, IsAnswerOf, Outcome}
pub use Rattle.commands.specs.declared.status.Status.{Status}
pub use Rattle.free_loops.specs.declared.deciding.FreeAnswer.TheVariants.{Freely, NotFreely}
pub use Rattle.loop_commands.specs.Loops.{IsLoopsAnswered, IsLoopsInput, SpellsLoops, free_answer, free_line, free_status, freely_decided, loops, loops_in, loops_line}
pub use Rattle.std.proofs.Common.{List, ap, arith, codes, get_or, inl, inr, length, refl, subst, sym, ℕ, [], ◌∙◌, ◌∷◌, ◌≡◌, ◌⊎◌}
pub use Rattle.std.proofs.lemmas.Result.{err_from_is_err_and}
pub use Rattle.std.specs.Prelude.{Option, Some, slice_get, ◌↔◌}
pub use Rattle.surf_io.specs.Files.{Files}
pub use Rattle.surf_model.specs.FaceLists.{FaceList}
pub use Rattle.surface_commands.proofs.SurfaceRows.{outcome_behind, sound-surface_in}
pub use Rattle.walk_files.specs.ClosedPairs.{IsClosedPair, loops_fault}
