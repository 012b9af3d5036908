use Rattle.homology.proofs.Common.{side_numbers, AreNumbersWithin, number_at, MOST_NUMBER, ◌≡◌, ℕ, ◌<◌, ℤ, length, edge_in}
use Rattle.homology.proofs.side_numbers.numbers_of_edges.Given as goal

-- the edges so far
abbrev pub invariant-loop-edge : goal.invariant-loop-edge
invariant-loop-edge l =
    (length l.of_edge.items ≡ l.edge)
    × AreNumbersWithin MOST_NUMBER l.of_edge.items
    × ((number : ℕ → ℕ → ℤ) → l.of_side ≡ side_numbers l.faces number → (k : ℕ) → k < l.edge
    → number_at l.of_edge.items k ≡ number (edge_in l.sides k).low (edge_in l.sides k).high)
