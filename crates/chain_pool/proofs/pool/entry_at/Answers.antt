use Rattle.chain_pool.proofs.Common.{ℕ, List, length, drop, ap, ◌∙◌, arith, common_steps, drop-drop, length-drop}
use Rattle.chain_pool.proofs.Reading.{rest_left, some_left, first_left}
use Rattle.chain_pool.proofs.pool.entry_at.Goals as goal

pub loop-i-preserved : goal.loop-i-preserved
loop-i-preserved c =
    rest_left c.next.result c.loop-i.entries c.next.new.self c.next.ensures.steps
    ∙ ap (λ (l : List ℕ). drop 1 l) c.loop-i.invariant ∙ drop-drop 1 c.loop-i._i c.args.entries

pub unwrap-requires : goal.unwrap-requires
unwrap-requires c =
    some_left c.next-2.result c.loop-i.entries c.next-2.new.self c.next-2.ensures.steps
    (omega (
      arith,
      c.requires,
      c.loop-i-test.false,
      ap (λ (l : List ℕ). length l) c.loop-i.invariant,
      length-drop c.loop-i._i c.args.entries,
    ))

pub returns : goal.returns
returns c = grind (arith, common_steps, first_left)
