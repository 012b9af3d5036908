use Rattle.homology.proofs.Common.{number_at, ◌≡◌, ◌++◌, List, length, take, drop, ap, ◌∙◌, arith, ℤ, pos, common_steps, length-replicate, replicate}
use Rattle.homology.proofs.ChainVerdictLemmas.{number_at-zeros}
use Rattle.homology.proofs.tally.count_differences.Goals as goal
use Rattle.homology.proofs.tally.count_differences.Goals.{After-give_walks}

pub give_walks-requires : goal.give_walks-requires
give_walks-requires c =
    let zeros : c.in_ok-counts.counts.items ≡ replicate c.len.result (pos 0) = c.in_ok-counts.ensures.items_if_clones_equal (λ y h. h) in
    let all : c.deref_mut.result.now ≡ replicate c.len.result (pos 0) = c.deref_mut.ensures.value ∙ zeros in
    record {
      table = c.requires.table;
      first = c.requires.first;
      second = c.requires.second;
      long = ap (λ (xs : List ℤ). length xs) all ∙ length-replicate c.len.result (pos 0) ∙ c.len.ensures;
      zeros = λ k. ap (λ (xs : List ℤ). number_at xs k) all ∙ number_at-zeros c.len.result k;
    }

-- what is returned is the tally to which the walks were given
all : (c : After-give_walks) → take c.in_ok-counts.counts.len (c.give_walks.new.counts
    ++ drop (length c.give_walks.new.counts) c.in_ok-counts.counts.items) ≡ c.give_walks.new.counts
all c = grind (arith, common_steps)

pub returns-clause-counts : goal.returns-clause-counts
returns-clause-counts c = grind (arith, all)

pub returns-clause-room : goal.returns-clause-room
returns-clause-room c = grind (arith, all)
