-- What proofs of this crate cite of its definitions and of other crates, passed on from one place (by tools/imports). Declares nothing.
pub use Rattle.std.proofs.Common.{IfSome, List, None, Option, Some, add-one, ap, arith, cond, drop, false, length, map, min, nat_eq, negsuc, of_z, pos, refl, set, string_bytes, subst, sym, take, to_z, true, vec_len, w64, ℕ, ℤ, [], ◌%◌, ◌++◌, ◌+◌, ◌-◌, ◌/◌, ◌<◌, ◌^◌, ◌∙◌, ◌∷◌, ◌≡◌, ◌≤◌}
pub use Rattle.std.proofs.Math.ListN.{length-append}
pub use Rattle.std.proofs.Math.Seq.{take-add, take-append-add, take-suc}
pub use Rattle.std.proofs.lemmas.Fmt.{decimal_digit, decimal_nonempty, decimal_step, length-decimal-le}
pub use Rattle.std.proofs.lemmas.List.{append-nil, drop-set, length-drop, length-set, length-take, length-take-le, take-append-drop, take-append-le, take-take, take_all, take_rest}
pub use Rattle.std.proofs.lemmas.Option.{get_or_from_slice_get, slice_get-get_or, slice_get_within}
pub use Rattle.std.proofs.lemmas.Result.{err_from_is_err_and}
pub use Rattle.std.specs.Cmp.Lexicographic.{nat_list_cmp_total, slice_cmp, texts_ties}
pub use Rattle.std.specs.FinMap.{find, get, get-from_entries}
pub use Rattle.std.specs.Fmt.{decimal, signed_decimal}
pub use Rattle.std.specs.Ordering.{eq_by_cmp, nat_cmp}
pub use Rattle.std.specs.Prelude.{Err, Ok, OnErr, OnOk, Result, flat_map, slice_get}
pub use Rattle.std.specs.VecDeque.Iter.{deque_iter_rest}
pub use Rattle.surf_io.specs.Bytes.{Appends, AppendsPrefix, append_told}
pub use Rattle.surf_io.specs.Calls.{OnlyWrites, WroteAll, WrotePart}
pub use Rattle.surf_io.specs.Files.{GivesFrom, file_of}
pub use Rattle.surf_io.specs.Gathered.{Gathers, Puts, spaced_number}
pub use Rattle.surf_io.specs.Stored.{file_entry}
pub use lib.IntN.{nat_abs}
pub use mathlib.Core.List.{append_assoc}
