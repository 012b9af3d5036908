-- What proofs of this crate cite of its definitions and of other crates, passed on from one place (by tools/imports). Declares nothing.
pub use Rattle.commands.proofs.Running.{err_no_fault, failed_end}
pub use Rattle.commands.proofs.Sound.{IsSound, held, meant_told, sound-file, sound-meant, sound-pass_unless, sound-then, unless_told}
pub use Rattle.commands.specs.Answers.{Answer}
pub use Rattle.commands.specs.Checks.{Check, End, Holds, IsTold, Pass, Passes, Refuse, file, meant, ◌>>=◌}
pub use Rattle.commands.specs.declared.status.Status.TheVariants.{No, Yes}
pub use Rattle.component_deciding.proofs.OrderLemmas.{HoldsUpTo, all_hold, as_many, holds_next, pair_within}
pub use Rattle.component_deciding.specs.PairDeciders.{mesh_of_decider}
pub use Rattle.pair_commands.specs.Decide.{AreDecisions, ArePairsDecided, IsDecideInput, IsDecided, IsDecision, IsHomotopic, TellsDecisions, all_decided, decide, decisions_answer}
pub use Rattle.pair_commands.specs.PairInput.{SpellsPairs, come_in_pairs, pairs_in, pairs_line}
pub use Rattle.std.proofs.Common.{List, ap, arith, codes, false, get_or, inl, inr, length, refl, subst, suc, sym, true, zero, ℕ, [], ◌*◌, ◌+◌, ◌/◌, ◌<◌, ◌↔◌, ◌∙◌, ◌∷◌, ◌≡◌}
pub use Rattle.std.specs.Prelude.{All, None, Option, Result, Some, slice_get}
pub use Rattle.surf_io.specs.Files.{Files}
pub use Rattle.surf_model.specs.FaceLists.{FaceList}
pub use Rattle.surf_model.specs.Walks.{AreWalkPair, HaveCommonEnds, IsWalk}
pub use Rattle.walk_files.specs.PairLists.{ArePairs, WalkPair, are_paired, pairs_fault, walks_in_pairs}
pub use Rattle.walk_files.specs.WalkLists.{WalkText}
pub use Rattle.walk_translate.specs.Found.{IsFoundOn}
