-- What proofs of this crate cite of its definitions and of other crates, passed on from one place (by tools/imports). Declares nothing.
pub use Rattle.chain_pool.proofs.Lists.{list_is, list_under-is}
pub use Rattle.chain_pool.specs.Chains.{Chains, IsEdit, IsUnder, cut, inserted, list_under, spliced, under}
pub use Rattle.segmented_pool.specs.Segments.{AreSegments, IsInSegment, IsKeptInSegments, IsMark, IsNameApart, IsSegment, Parts, lists_of, part}
pub use Rattle.segmented_pool.specs.declared.segments.Mark.{Mark}
pub use Rattle.segmented_pool.specs.declared.segments.Segment.{Segment}
pub use Rattle.std.proofs.Common.{List, None, Option, Some, add-one, ap, append_assoc, arith, drop, get_or, is_some, length, length-append, refl, set, subst, suc, sym, take, zero, ℕ, [], ◌++◌, ◌+◌, ◌-◌, ◌<◌, ◌^◌, ◌∙◌, ◌∷◌, ◌≡◌, ◌≢◌, ◌≤◌}
pub use Rattle.std.proofs.Math.ListN.{get_or-append}
pub use Rattle.std.proofs.lemmas.Grind.{common_steps}
pub use Rattle.std.proofs.lemmas.List.{drop-append-le, drop-drop, get_or-append-add, get_or-drop, length-drop, length-map, length-take-le, take-append-drop, take-append-le}
pub use Rattle.std.specs.List.{concat, insert, remove}
