-- What proofs of this crate cite of its definitions and of other crates, passed on from one place (by tools/imports). Declares nothing.
pub use Rattle.commands.proofs.Checking.{meant_passed, stops_first, stops_next, told_stops, unless_passed}
pub use Rattle.commands.proofs.Running.{runs_faulty, runs_refused, runs_replied, runs_stopped, tells_no_fault}
pub use Rattle.commands.specs.Answers.{Answer, NoText, yes_with}
pub use Rattle.commands.specs.Checks.{Check, End, IsTold, Pass, Passes, Refuse, file, meant, pass, pass_unless, ◌>>=◌}
pub use Rattle.commands.specs.Outcomes.{AnswersTo, IsAnswerOf, Outcome, status_of}
pub use Rattle.commands.specs.Refusals.{numbers_line}
pub use Rattle.commands.specs.WordTexts.{words_text}
pub use Rattle.reduce_commands.specs.Canonised.{AreCanonised, IsNotCanonised, IsSoFar}
pub use Rattle.reduce_commands.specs.Reduce.{AreCanonicalOf, IsReduceInput, IsReduceRow, IsReduced, SpellsTurnWords, canonical_words, degree_fault, degree_line, entries_on, lines_in, range_fault, range_line, reduce}
pub use Rattle.std.proofs.Common.{Bool, List, Ok, ap, arith, false, inl, inr, refl, rules, subst, sym, true, ℕ, [], ◌++◌, ◌<◌, ◌∙◌, ◌∷◌, ◌≡◌, ◌≤◌, ◌⊎◌}
pub use Rattle.std.specs.Prelude.{All, Err, None, Option, Result, Some, if◌then◌else◌, is_some, nat_lt}
pub use Rattle.surf_io.specs.Files.{Files}
pub use Rattle.text_scan.proofs.EachLemmas.{before_ok, before_ok-more}
pub use Rattle.walk_files.specs.NumberLists.{NumberLine}
pub use Rattle.walk_files.specs.NumberTexts.{words_of}
