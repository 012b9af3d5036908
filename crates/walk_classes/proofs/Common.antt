-- What proofs of this crate cite of its definitions and of other crates, passed on from one place (by tools/imports). Declares nothing.
pub use Rattle.component_deciding.specs.WordFinders.{IsWordIn, mesh_of_finder}
pub use Rattle.std.proofs.Common.{List, ap, arith, get_or, get_or-set_other, get_or-set_same, inl, inr, length, length-set, refl, set, subst, suc, sym, take, true, zero, ℕ, [], ◌++◌, ◌+◌, ◌<◌, ◌↔◌, ◌∙◌, ◌∷◌, ◌≡◌, ◌⊎◌}
pub use Rattle.std.proofs.lemmas.List.{get_or_default, same_lists}
pub use Rattle.std.specs.BTreeMap.{BTreeMap, IsUnchanged, get}
pub use Rattle.std.specs.Map.{lookup}
pub use Rattle.std.specs.Ordering.{int_cmp, is_eq, nat_cmp, ordering_then}
pub use Rattle.std.specs.Prelude.{MatchOption, None, Option, Some, cond, ℤ}
pub use Rattle.std.specs.declared.cmp.Ordering.{Ordering}
pub use Rattle.std.specs.declared.cmp.Ordering.TheVariants.{Equal, Greater, Less}
pub use Rattle.surf_model.specs.FaceLists.{FaceList}
unfoldable pub use Rattle.surf_model.specs.FaceLists.{all_sides, is_edge, is_used}
pub use Rattle.surf_model.specs.Walks.{AreWalkPair, HaveCommonEnds, IsWalk, walk_at}
pub use Rattle.walk_classes.specs.Keys.{AreSameKeys, key_order, word_of_key}
pub use Rattle.walk_classes.specs.WalkClasses.{AreClasses, AreInOneClass, IsLeastInClass}
pub use Rattle.walk_classes.specs.WalkKeys.{HasKept, IsKeyOf}
pub use Rattle.walk_classes.specs.declared.key.Key.{Key}
