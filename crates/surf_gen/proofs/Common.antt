-- What proofs of this crate cite of its definitions and of other crates, passed on from one place (by tools/imports). Declares nothing.
pub use Rattle.std.proofs.Common.{Bool, List, ap, arith, cond, drop, false, get_or, inl, inr, length, map, not, refl, subst, suc, sym, true, zero, ℕ, [], ◌%◌, ◌*◌, ◌++◌, ◌+◌, ◌-◌, ◌/◌, ◌<◌, ◌^◌, ◌∙◌, ◌∷◌, ◌≡◌, ◌≢◌, ◌≤◌}
pub use Rattle.std.proofs.Math.Bool.{and-false, or-false}
pub use Rattle.std.proofs.Math.ListN.{length-append, length-map}
pub use Rattle.std.proofs.Math.Nat.{mod-eq_of_lt, mod_self, mul-le-mul_left}
pub use Rattle.std.proofs.Math.Seq.{drop-cons, drop-length}
pub use Rattle.std.proofs.lemmas.Bool.{and_parts, cases_lt, le-ltb, lt-ltb, ltb-true, ne_eqb}
pub use Rattle.std.proofs.lemmas.List.{length_push, map-append, map-id}
pub use Rattle.std.proofs.lemmas.List.Concat.{flat_map-append}
pub use Rattle.std.proofs.lemmas.List.Elements.{All-append, All-cons, All-filter, All-nil, filter-append}
pub use Rattle.std.proofs.lemmas.List.FromFn.{length-map-range_with_len, length-range_with_len, map-range_with_len_more}
pub use Rattle.std.specs.Fmt.{decimal}
pub use Rattle.std.specs.List.{filter, flat_map, join_with_byte, range_with_len}
pub use Rattle.std.specs.Prelude.{All, Err, Ok, OnOk, Result, codes, if◌then◌else◌, is_ok, nat_lt, ◌&&◌, ◌==◌, ◌||◌, ◌⊎◌}
pub use Rattle.surf_gen.specs.Chains.{cells, face, glued_before, is_cut_out, is_glued, next_in_ring, number, partner, point, points, vertex_number, vertices}
pub use Rattle.surf_gen.specs.Parts.{part_text, points_of_row, points_of_torus}
pub use Rattle.surf_gen.specs.declared.points.Point.{Point}
pub use Rattle.text_scan.specs.Plain.{line_of}
pub use mathlib.Core.List.{append-nil, append_assoc}
