-- The limits, as docs/FORMATS.md gives them; those of walks are met, and passed by one.
use Rattle.program.proofs.Common.{MOST_BYTES, MOST_LIFTED_DARTS, MOST_LIFTED_SIDES, ◌≡◌, ℕ, ◌+◌, true, false, List, [], ◌∷◌, ◌++◌, refl, sym, subst, arith, ◌||◌, None, Ok, Err, Some, Option, option_and_then, nat_lt, FaceList, HasComponents, darts, HasFewComponents, MOST_COMPONENTS, times, token_of, walk_of_line, within_limits, written_out}
use Rattle.free_forms.specs.declared.limits.TheConstants.{MOST_OPEN_DARTS, MOST_OPEN_SIDES}
use Rattle.off_reader.specs.declared.header.TheConstants.{MOST_FACES}
use Rattle.reduce_commands.specs.declared.reduce.TheConstants.{LEAST_DEGREE}
use Rattle.std.specs.Prelude.{codes}
use Rattle.surf_gen.specs.declared.limits.TheConstants.{LEAST_GRID, MOST_GENUS, MOST_GRID}
use Rattle.surf_model.specs.declared.limits.TheConstants.{MOST_PEAK, MOST_SIDES, MOST_VERTICES}
use Rattle.text_scan.specs.Each.{each_some}
use Rattle.text_scan.specs.Lines.{Line}
use Rattle.text_scan.specs.Numbers.{is_natural, value_of}
use Rattle.walk_files.specs.declared.fault.WalkFault.TheVariants.{TooLong, TooMany}
use Rattle.walk_files.specs.declared.limits.TheConstants.{MOST_DARTS, MOST_ENTRIES, MOST_LINES, MOST_POWER, MOST_WALK_DARTS, MOST_WALK_VERTICES}

-- ---- each limit

of_files :
    (MOST_BYTES ≡ 268435456) × (MOST_VERTICES ≡ 1000000) × (MOST_FACES ≡ 1333333) × (MOST_SIDES ≡ 4000000) × (MOST_LINES ≡ 1000000)
    × (MOST_WALK_VERTICES ≡ 1000001) × (MOST_WALK_DARTS ≡ 1000000) × (MOST_DARTS ≡ 16000000) × (MOST_POWER ≡ 1000000)
    × (MOST_ENTRIES ≡ 1000000) × (MOST_PEAK ≡ 16000000)
of_files = (refl, refl, refl, refl, refl, refl, refl, refl, refl, refl, refl)

of_commands :
    (MOST_COMPONENTS ≡ 1024) × (MOST_LIFTED_SIDES ≡ 16384) × (MOST_LIFTED_DARTS ≡ 512) × (MOST_OPEN_SIDES ≡ 16384)
    × (MOST_OPEN_DARTS ≡ 512) × (MOST_GENUS ≡ 8) × (LEAST_GRID ≡ 5) × (MOST_GRID ≡ 200) × (LEAST_DEGREE ≡ 5)
of_commands = (refl, refl, refl, refl, refl, refl, refl, refl, refl)

-- ---- met, and passed by one

-- a walk of 1,000,000 darts, and one of one dart more
longest_walk : (walk : List ℕ) → darts walk ≡ 1000000 → within_limits 7 15000000 (Ok walk) ≡ Ok walk
longest_walk walk e =
    let test : (nat_lt MOST_WALK_DARTS (darts walk) || nat_lt MOST_DARTS (15000000 + darts walk)) ≡ false =
    subst (λ n. (nat_lt MOST_WALK_DARTS n || nat_lt MOST_DARTS (15000000 + n)) ≡ false) (sym e) refl in
    rw test refl

longer_walk : (walk : List ℕ) → darts walk ≡ 1000001 → within_limits 7 0 (Ok walk) ≡ Err (TooLong 7)
longer_walk walk e =
    let test : (nat_lt MOST_WALK_DARTS (darts walk) || nat_lt MOST_DARTS (0 + darts walk)) ≡ true =
    subst (λ n. (nat_lt MOST_WALK_DARTS n || nat_lt MOST_DARTS (0 + n)) ≡ true) (sym e) refl in
    rw test refl

-- walks that have 16,000,000 darts together, and one dart more
longest_walks : (walk : List ℕ) → darts walk ≡ 1000000 → within_limits 7 15000001 (Ok walk) ≡ Err (TooLong 7)
longest_walks walk e =
    let test : (nat_lt MOST_WALK_DARTS (darts walk) || nat_lt MOST_DARTS (15000001 + darts walk)) ≡ true =
    subst (λ n. (nat_lt MOST_WALK_DARTS n || nat_lt MOST_DARTS (15000001 + n)) ≡ true) (sym e) refl in
    rw test refl

-- the line behind 1,000,000 walks
line_too_many : (line : Line) → walk_of_line 1000000 0 line ≡ Err (TooMany line.number)
line_too_many line = refl

-- a group of the power 1,000,000, and one of a greater power
abbrev once_and : List ℕ → Option (List ℕ)
once_and power = option_and_then written_out (each_some token_of (codes "0" ∷ codes "(" ∷ codes "0" ∷ codes ")" ∷ power ∷ []))

powers : (once_and (codes "1000000") ≡ Some (0 ∷ (times 1000000 (0 ∷ []) ++ []))) × (once_and (codes "1000001") ≡ None)
unfolding is_natural value_of
powers = (refl, refl)

-- a mesh of 1,024 components
most_components : (mesh : FaceList) → HasComponents mesh 1024 → HasFewComponents mesh
most_components mesh h = (1024, h, omega arith)
