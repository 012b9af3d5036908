use Rattle.surf_gen.proofs.Common.{◌≡◌, ◌+◌, ◌*◌, ◌≤◌, ◌∷◌, length, drop}
use Rattle.surf_gen.proofs.LineLemmas.{behind_number}
use Rattle.surf_gen.proofs.line.put_line.Given as goal

-- the line ends with the numbers from a place on, of at most ten digits each
abbrev pub invariant-loop-place : goal.invariant-loop-place
invariant-loop-place l =
    record {
      written : l.behind ∷ l.line ≡ behind_number (drop l.place l.numbers);
      short : length l.line + 11 * l.place ≤ 11 * length l.numbers;
      within : l.place ≤ length l.numbers;
    }
