-- What proofs of this crate cite of its definitions and of other crates, passed on from one place (by tools/imports). Declares nothing.
pub use Rattle.chain_pool.specs.Chains.{Chains, IsAlike, IsEdit, IsUnder, cells_in, cells_of, cut, inserted, list_under, spliced, under}
pub use Rattle.chain_pool.specs.Memory.{AreOwned, Free, IsEntry, IsSound, Left, Memory, Owner, Owners, Parted, PartedChains, Right, advanced, chains_of, cut_here, joined, joined_lists, joined_option, left_of, memory_of, no_cells, parted_at, parted_by, parted_under, pushed_before, retreated, right_of, stack_of}
unfoldable pub use Rattle.chain_pool.specs.Memory.{IsOwned, IsStack, values}
pub use Rattle.chain_pool.specs.declared.cells.Cell.{Cell}
pub use Rattle.chain_pool.specs.declared.cells.Cell.TheVariants.{Entry, Head}
pub use Rattle.chain_pool.specs.declared.cells.Stack.{Stack}
pub use Rattle.std.proofs.Common.{List, None, Option, Some, ap, append_assoc, arith, cond, count_by, drop, eqb, get_or, inl, inr, is_some, length, length-append, map, refl, reverse, set, subst, suc, sym, take, zero, zero-add, ℕ, [], ◌++◌, ◌+◌, ◌-◌, ◌<◌, ◌^◌, ◌∙◌, ◌∷◌, ◌≡◌, ◌≢◌, ◌≤◌, ◌⊎◌}
pub use Rattle.std.proofs.lemmas.Bool.{cases_eq}
pub use Rattle.std.proofs.lemmas.Grind.{common_steps}
pub use Rattle.std.proofs.lemmas.List.{drop-drop, drop_all, ext_get_or, get_or-set_other, get_or-set_same, get_or_past, length-drop, length-map, length-reverse, length-set, nil_from_length, reverse-append, reverse-reverse, set-set, set_comm, take-append-drop}
pub use Rattle.std.specs.Prelude.{IsSome, MatchOption}
