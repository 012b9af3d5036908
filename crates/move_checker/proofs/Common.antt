-- What proofs of this crate cite of its definitions and of other crates, passed on from one place (by tools/imports). Declares nothing.
pub use Rattle.chain_pool.proofs.Lists.{list_under-is}
pub use Rattle.chain_pool.proofs.Reading.{first_left, rest_left}
pub use Rattle.chain_pool.specs.Chains.{Chains, IsUnder, cut, inserted, list_of, under}
pub use Rattle.move_checker.specs.Refusals.{need}
unfoldable pub use Rattle.move_checker.specs.Refusals.{refusal, step_of}
pub use Rattle.move_checker.specs.Tapes.{PeakedWalk}
pub use Rattle.move_checker.specs.Verdicts.{EndsElsewhere, IsRefusedAt, LeadsWithin}
unfoldable pub use Rattle.move_checker.specs.Verdicts.{verdict_from, verdict_of}
pub use Rattle.move_checker.specs.declared.fault.MoveFault.{MoveFault}
pub use Rattle.move_checker.specs.declared.fault.MoveFault.TheVariants.{NoEdge, NotOnFace, NotSpur, OverPeak, Place}
pub use Rattle.move_checker.specs.declared.judge.Verdict.TheVariants.{Accepted, AtMove, End, Peak}
pub use Rattle.std.proofs.Common.{Bool, List, Some, add-one, ap, append-nil, append_assoc, arith, below_more, drop, false, get_or, inl, inr, is_some, length, length-append, max, not, refl, reverse, rules, subst, suc, sym, take, true, zero, ℕ, [], ◌++◌, ◌+◌, ◌-◌, ◌<◌, ◌∙◌, ◌∷◌, ◌≡◌, ◌≢◌, ◌≤◌}
pub use Rattle.std.proofs.lemmas.Bool.{and_from, and_left, and_parts, and_right, both_ways, cases_Bool, cases_lt, eqb-false, eqb-true, false_from_ne_true, le-leb, leb-true, lt-leb, not-false, not-true}
pub use Rattle.std.proofs.lemmas.List.{drop-drop, drop-take, drop_all, drop_at, drop_more, ext_get_or, get_or-drop, get_or-reverse, get_or-take, length-drop, length-reverse, length-take-le, take-take, take_all, take_at, take_more}
pub use Rattle.std.specs.Prelude.{Err, IsNone, IsOk, IsSome, MatchResult, None, Ok, OnOk, Option, Result, cond, min, nat_le, nat_lt, slice_get, ◌&&◌, ◌==◌, ◌↔◌}
pub use Rattle.surf_model.proofs.ReplacementLemmas.{length-corners_from}
pub use Rattle.surf_model.specs.FaceLists.{FaceList, corners_from, face_at, is_edge, next_corner}
pub use Rattle.surf_model.specs.Moves.{Leads, PeakedMoves, apply_all, replaced, same_walk}
unfoldable pub use Rattle.surf_model.specs.Moves.{apply, greatest_darts}
pub use Rattle.surf_model.specs.Walks.{darts}
pub use Rattle.surf_model.specs.declared.moves.Move.{Move}
pub use Rattle.surf_model.specs.declared.moves.Move.TheVariants.{Across, Insert, Remove}
