-- What proofs of this crate cite of its definitions and of other crates, passed on from one place (by tools/imports). Declares nothing.
pub use Rattle.settling.specs.TurnRows.{IsCanonicalRow, LosesAtMost, Settles, entries, put_along}
pub use Rattle.std.proofs.Common.{List, ap, ap₂, arith, false, inl, inr, length, refl, reverse, subst, suc, sym, true, zero, ℕ, [], ◌*◌, ◌++◌, ◌+◌, ◌-◌, ◌<◌, ◌∙◌, ◌∷◌, ◌≡◌, ◌≤◌, ◌⊎◌}
pub use Rattle.std.proofs.lemmas.List.{append-nil, length-reverse, reverse-reverse}
pub use Rattle.turn_words.proofs.Reading.{IsSound, read, state}
pub use Rattle.turn_words.specs.Lemmas.FromEnd.{good-from-canonical, in-range-reverse}
pub use Rattle.turn_words.specs.Lemmas.HyperLaws.{length-put}
pub use Rattle.turn_words.specs.Lemmas.Lists.{InRange, reverse-next}
pub use Rattle.turn_words.specs.Lemmas.PutLaws.{cases, close, flip, other, put-good, put-put, spur}
pub use Rattle.turn_words.specs.Lemmas.Sums.{add-cases, add-lt, add-zero, minus-cases, minus-lt, minus-one, minus-two}
pub use Rattle.turn_words.specs.Lemmas.WordEnds.{Follows, IsCanonicalBackward, IsCons, good-cons, good-head, good-tail, open-cases, open-other, open-two, put-close, put-else, put-flip}
pub use Rattle.turn_words.specs.Modulo.{add, minus}
pub use Rattle.turn_words.specs.PutTurns.{Put, closed, is_open, put, put_last}
