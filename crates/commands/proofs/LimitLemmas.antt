-- How the limits of a command that makes lists of moves are kept, and what is refused beyond them.
use Rattle.commands.proofs.Common.{FitsLimits, IsRefusedBeyond, first_over, over_line, sides_line, darts_line, limit_line, Status, Refused, ◌≡◌, ℕ, ◌+◌, ◌<◌, ◌≤◌, Bool, true, false, List, refl, ap, arith, option_map, nat_lt, if◌then◌else◌, Option, Some, None, FaceList, total_sides, darts}
use Rattle.commands.specs.declared.limits.Limits.{Limits}
use Rattle.commands.specs.declared.limits.OverLimit.TheVariants.{Sides, Darts}
use Rattle.std.proofs.lemmas.Bool.Decides.{nat_tests}

module _ (limits : Limits) (mesh : FaceList) (first second : List ℕ) where
  -- what is over its limit, by the numbers that were counted
  pub sides_over : (sides : ℕ) → sides ≡ total_sides mesh → limits.sides < sides
      → Some (Sides sides) ≡ first_over limits mesh first second
  sides_over sides is many =
      let test : nat_lt limits.sides (total_sides mesh) ≡ true = grind (arith, nat_tests) in
      rw test (ap (λ (n : ℕ). Some (Sides n)) is)

  pub darts_over : (sides number : ℕ) → sides ≡ total_sides mesh → sides ≤ limits.sides → number ≡ darts first + darts second
      → limits.darts < number → Some (Darts number) ≡ first_over limits mesh first second
  darts_over sides number is few number_is many =
      let short : nat_lt limits.sides (total_sides mesh) ≡ false = grind (arith, nat_tests) in
      let test : nat_lt limits.darts (darts first + darts second) ≡ true = grind (arith, nat_tests) in
      rw (short, test) (ap (λ (n : ℕ). Some (Darts n)) number_is)

  -- nothing is, by the two facts
  pub nothing_over : (sides number : ℕ) → sides ≡ total_sides mesh → sides ≤ limits.sides → number ≡ darts first + darts second
      → number ≤ limits.darts → None ≡ first_over limits mesh first second
  nothing_over sides number is few number_is short =
      let sides : nat_lt limits.sides (total_sides mesh) ≡ false = grind (arith, nat_tests) in
      let darts : nat_lt limits.darts (darts first + darts second) ≡ false = grind (arith, nat_tests) in
      rw (sides, darts) refl

module _ (limits : Limits) (word : List ℕ) (mesh : FaceList) (first second : List ℕ) where
  -- what fits passes, by the two facts
  pub none_over : total_sides mesh ≤ limits.sides → darts first + darts second ≤ limits.darts
      → limit_line limits word mesh first second ≡ None
  none_over few short =
      let sides : nat_lt limits.sides (total_sides mesh) ≡ false = grind (arith, nat_tests) in
      let darts : nat_lt limits.darts (darts first + darts second) ≡ false = grind (arith, nat_tests) in
      rw (sides, darts) refl

  -- and what passes fits
  pub fitting : limit_line limits word mesh first second ≡ None → FitsLimits limits mesh first second
  fitting e = by_sides (nat_lt limits.sides (total_sides mesh)) refl e
    where
      by_darts : (b : Bool) → nat_lt limits.darts (darts first + darts second) ≡ b
          → option_map (over_line word) (if b then Some (Darts (darts first + darts second)) else None) ≡ None
          → darts first + darts second ≤ limits.darts
      by_darts true t f = cc
      by_darts false t f = grind (arith, nat_tests)

      by_sides : (b : Bool) → nat_lt limits.sides (total_sides mesh) ≡ b
          → option_map (over_line word) (if b then Some (Sides (total_sides mesh))
          else if nat_lt limits.darts (darts first + darts second) then Some (Darts (darts first + darts second)) else None) ≡ None
          → FitsLimits limits mesh first second
      by_sides true t f = cc
      by_sides false t f =
          record {
            sides = grind (arith, nat_tests);
            few = by_darts (nat_lt limits.darts (darts first + darts second)) refl f;
          }

-- where each such line is answered, that is what is answered beyond the limits
pub refused_beyond : (limits : Limits) (word : List ℕ) (IsInput : FaceList → (first second : List ℕ) → Type 0) (status : Status)
    (text : List ℕ)
    → ((mesh : FaceList) (first second : List ℕ) → IsInput mesh first second → (line : List ℕ)
    → limit_line limits word mesh first second ≡ Some line → (status ≡ Refused) × (text ≡ line))
    → IsRefusedBeyond limits word IsInput status text
refused_beyond limits word IsInput status text refused =
    record {
      many_sides = λ mesh first second input many.
          let sides : nat_lt limits.sides (total_sides mesh) ≡ true = grind (arith, nat_tests) in
          refused mesh first second input (sides_line word mesh) (rw sides refl);
      many_darts = λ mesh first second input few many.
          let sides : nat_lt limits.sides (total_sides mesh) ≡ false = grind (arith, nat_tests) in
          let long : nat_lt limits.darts (darts first + darts second) ≡ true = grind (arith, nat_tests) in
          refused mesh first second input (darts_line word first second) (rw (sides, long) refl);
    }
