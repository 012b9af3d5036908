-- What proofs of this crate cite of its definitions and of other crates, passed on from one place (by tools/imports). Declares nothing.
pub use Rattle.file_pieces.specs.FileLines.{IsNumbered, IsOn, IsOneLine, LinesReading, PassesByte, ReadsLine, StandsBehind}
pub use Rattle.file_pieces.specs.Reading.{Reading, Reads, bytes_left, read_so_far}
pub use Rattle.file_pieces.specs.SameLines.{SameLine, SameWord, SameWords}
pub use Rattle.file_pieces.specs.ShortLines.{HasEnded, IsShortLine, PutsByte, ShortText, Stands, is_lean, text_before}
pub use Rattle.std.proofs.Common.{Bool, IfSome, List, MatchOption, None, Option, Some, ap, append-nil, append_assoc, ap₂, arith, cond, drop, drop-drop, eqb, false, fold, if◌then◌else◌, inl, inr, le_trans, length, length-append, lit≤, not, refl, rules, subst, suc, sym, take, take-append-drop, true, zero, ℕ, [], ◌&&◌, ◌*◌, ◌++◌, ◌+◌, ◌-◌, ◌<◌, ◌^◌, ◌||◌, ◌∙◌, ◌∷◌, ◌≡◌, ◌≢◌, ◌≤◌}
pub use Rattle.std.proofs.lemmas.Bool.{and_from, and_parts, both_ways, eq-eqb, eqb-true, le-ltb, leb-true, ne_eqb, not-true, not_from_false, or_parts}
pub use Rattle.std.proofs.lemmas.Grind.{common_steps}
pub use Rattle.std.proofs.lemmas.List.Folds.{list_all-append}
pub use Rattle.std.specs.List.{before_first, list_all}
pub use Rattle.std.specs.Prelude.{IsTrue, nat_eq, nat_le, slice_get, slice_index}
pub use Rattle.std.specs.Str.{bytes_eq}
pub use Rattle.surf_io.specs.Files.{Files, file_of}
pub use Rattle.text_scan.proofs.PlaceLemmas.{behind-line_feed, behind-nil, behind-other, cut_first, is_hash, lines_from_here, words_here-blank, words_here-hash, words_here-line_feed, words_here-nil, words_here-word}
pub use Rattle.text_scan.specs.Lines.{Line, full_lines, is_blank, is_filled, words}
unfoldable pub use Rattle.text_scan.specs.Lines.{cut_lines, lines_from, unmarked}
pub use Rattle.text_scan.specs.Numbers.{is_digit, number_below}
unfoldable pub use Rattle.text_scan.specs.Numbers.{is_natural, value_of}
pub use Rattle.text_scan.specs.Unread.{behind, is_line_feed}
unfoldable pub use Rattle.text_scan.specs.Unread.{words_here}
