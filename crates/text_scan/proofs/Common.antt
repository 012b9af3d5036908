-- What proofs of this crate cite of its definitions and of other crates, passed on from one place (by tools/imports). Declares nothing.
pub use Rattle.std.proofs.Common.{Bool, Bor, List, add-one, ap, append-nil, append_assoc, ap₂, arith, cond, drop, eqb, false, filter, fold, get_or, inl, inr, is_some, le_trans, length, length-append, length-drop, ltb, min, not, one-add, refl, subst, suc, sym, take, take-append-drop, true, zero, ℕ, [], ◌%◌, ◌&&◌, ◌*◌, ◌++◌, ◌+◌, ◌-◌, ◌/◌, ◌<◌, ◌==◌, ◌^◌, ◌||◌, ◌∙◌, ◌∷◌, ◌≡◌, ◌≢◌, ◌≤◌}
pub use Rattle.std.proofs.lemmas.Bool.{and_from, and_left, and_parts, and_right, both_ways, cases_Bool, eq-eqb, eqb-true, leb-true, lt-ltb, ltb-false, ne_eqb, not-false, not-true, not_from_false, or_cases, or_left, or_parts, or_right}
pub use Rattle.std.proofs.lemmas.Grind.{common_steps, pow_more}
pub use Rattle.std.proofs.lemmas.List.{drop-drop, get_or-drop, take_all}
pub use Rattle.std.proofs.lemmas.List.Folds.{list_all-append}
pub use Rattle.std.proofs.lemmas.List.Sums.{fold-append}
pub use Rattle.std.proofs.lemmas.Option.{cond_some, none-some}
pub use Rattle.std.specs.List.{after_first, before_first, list_all, list_any, onto_first, position_or_len, slice_split}
pub use Rattle.std.specs.Prelude.{All, Err, MatchOption, None, Ok, Option, Result, Some, bytes_eq, codes, decimal, flat_map, map, nat_le, negsuc, option_map, pos, position, unwrap_or, ℤ}
pub use Rattle.text_scan.specs.Each.{each_some, ok_first}
pub use Rattle.text_scan.specs.Lines.{Line, full_lines, is_blank, is_filled, uncommented}
unfoldable pub use Rattle.text_scan.specs.Lines.{cut_lines, lines_from, unmarked, words}
pub use Rattle.text_scan.specs.Numbers.{fits_i64, has_exponent_or_none, integer_of, is_decimal, is_digit, is_exponent_mark, is_point, is_unsigned_text, natural_of, number_below, number_of, signed_of, unsigned}
unfoldable pub use Rattle.text_scan.specs.Numbers.{is_natural, is_number_text, value_of}
pub use Rattle.text_scan.specs.Steps.{ArePastDigits, IsFirstWord, IsLineEnd, IsPast, IsPastDecimal, IsPastDigits, begins_with, begins_word, ends_word, from_first}
pub use Rattle.text_scan.specs.Unread.{LinesLeft, Unread, are_words, at_line, is_line_feed, lines_left, next_is_number_text, next_natural, next_word, past_word, unread_at}
unfoldable pub use Rattle.text_scan.specs.Unread.{behind, words_here}
