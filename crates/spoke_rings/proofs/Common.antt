-- What proofs of this crate cite of its definitions and of other crates, passed on from one place (by tools/imports). Declares nothing.
pub use Rattle.settling.specs.TurnRows.{IsCanonicalRow}
pub use Rattle.spoke_paths.proofs.Ways.{down-one, less-one, more-one, turn-down, turn-up, up-one}
pub use Rattle.spoke_paths.specs.PathSteps.{from_spoke, is_quad, spur_goes}
pub use Rattle.spoke_rings.specs.CyclicWords.{IsCyclicallyCanonical, IsFullWheel, IsLoop, cyclic_turn, spoke_along, stands_before, turn_along}
pub use Rattle.spoke_rings.specs.LoopSteps.{LoopLeads, LoopStep, across, across_quad, after_loop_step, after_loop_steps, rotate, spur_comes, spur_in, spur_out}
pub use Rattle.spoke_rings.specs.Private.Rings.{IsBracket, IsFine, IsFineRing, Pushes, RingLeads, Rises, Shortens, SpokeRingView, TurnsOver, TurnsPushed, one_on, ring_from_vertex, ring_turn, turns_sum}
pub use Rattle.spoke_rings.specs.Rotations.{ComesBefore, IsLeastRotation, IsRotation}
pub use Rattle.std.proofs.Common.{All, Bool, List, None, Option, Some, ap, append_assoc, ap₂, arith, drop, false, get_or, inl, inr, length, max, not, refl, subst, suc, sym, take, true, zero, ℕ, [], ◌%◌, ◌*◌, ◌++◌, ◌+◌, ◌-◌, ◌/◌, ◌<◌, ◌↔◌, ◌∙◌, ◌∷◌, ◌≡◌, ◌≢◌, ◌≤◌, ◌⊎◌}
pub use Rattle.std.proofs.Math.Nat.{add-mod_right, mod-eq_of_lt, mod-lt, mul-le-mul_right}
pub use Rattle.std.proofs.Math.Seq.{drop-append_seam, get_or-append_seam, take-append_seam}
pub use Rattle.std.proofs.lemmas.Bool.{and_from, and_parts, cases_eq, cases_lt, eq-eqb, eqb-true, lt-ltb, ltb-true, ne_eqb}
pub use Rattle.std.proofs.lemmas.Grind.{common_steps, same_number_lists}
pub use Rattle.std.proofs.lemmas.List.{append-nil, get_or-append-add, get_or_append_left, get_or_past, get_or_read, length-append, length-drop, nil_from_length, take-append-drop}
pub use Rattle.std.proofs.lemmas.List.Elements.{All-append, All-cons, All-drop, All-get_or, All-nil, All-take}
pub use Rattle.std.specs.Prelude.{if◌then◌else◌, nat_lt, option_and_then, option_map, ◌&&◌, ◌==◌}
pub use Rattle.turn_words.specs.FormLaws.{IsQuad}
pub use Rattle.turn_words.specs.Lemmas.Across.{one-minus, two-down, two-up}
pub use Rattle.turn_words.specs.Lemmas.Sums.{add-cases, add-lt, add-minus, minus-cases, minus-lt, minus-one, minus-two}
pub use Rattle.turn_words.specs.Modulo.{add, minus}
pub use Rattle.turn_words.specs.SpokePaths.{place_round}
