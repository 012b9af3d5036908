use Rattle.homotopy_arrays.proofs.Common.{◌≡◌, ◌*◌, ◌<◌, ℕ, get_or, length, sum, take}
use Rattle.homotopy_arrays.proofs.PairLemmas.{IsAnswerAt}
use Rattle.homotopy_arrays.proofs.answering.answer_all.Given as goal

-- the answers so far
abbrev pub invariant-loop-pair : goal.invariant-loop-pair
invariant-loop-pair g l =
    record {
      same : l.surface ≡ l.fn.surface;
      place : l.at ≡ sum (take (2 * l.pair) l.sizes);
      each : length l.answers.items ≡ l.pair;
      answered : (k : ℕ) (none : g.row.A.Denot) → k < length l.answers.items
          → IsAnswerAt (g.A.WalkAnswer.Is l.fn.surface) l.sizes l.vertices k (get_or l.answers.items k none);
    }
