use Rattle.chain_pool.proofs.Common.{under, Parted, PartedChains, chains_of, ◌≡◌, length, ap, arith}
use Rattle.chain_pool.proofs.Heads.{drop_sound}
use Rattle.chain_pool.proofs.Soundness.{few}
use Rattle.chain_pool.proofs.Writes.{HasHead, head_of, once_written, before_len, behind_len}
use Rattle.chain_pool.proofs.cells.Cells.drop_head.Goals as goal
use Rattle.chain_pool.proofs.cells.Cells.drop_head.Goals.{After-write}

view : (c : After-write) → chains_of c.self.inside.slots.slots ≡ c.args.self.now.chains
view c = ap (λ (v : PartedChains). v.chains) c.self.view_is

found : (c : After-write) → HasHead (under c.self.inside.slots.slots c.args.chain.0)
found c = head_of c.self.inside.slots.slots c.args.self.now.chains c.args.chain.0 (view c) c.requires.live

no_left : (c : After-write) → (found c).left.len ≡ 0
no_left c =
    omega (
      arith,
      before_len c.self.inside.slots.slots c.self.inside.slots.capacity c.self.inside.free c.self.inside.spare c.self.invariant
          c.args.chain.0 (found c).left (found c).right (found c).is c.args.self.now.chains (view c),
      ap (λ (p : Parted). length p.before) c.requires.empty,
    )

no_right : (c : After-write) → (found c).right.len ≡ 0
no_right c =
    omega (
      arith,
      behind_len c.self.inside.slots.slots c.self.inside.slots.capacity c.self.inside.free c.self.inside.spare c.self.invariant
          c.args.chain.0 (found c).left (found c).right (found c).is c.args.self.now.chains (view c),
      ap (λ (p : Parted). length p.behind) c.requires.empty,
    )

pub overflow_add-self : goal.overflow_add-self
overflow_add-self c =
    let at = (goal.at.overflow_add-self c).After-write in
    omega (
      arith,
      c.self.invariant.made,
      few c.self.inside.slots.slots c.self.inside.slots.capacity c.self.inside.free c.self.inside.spare c.self.invariant
          c.args.chain.0 (found at).left (found at).right (found at).is,
    )

pub with_top-self-inside-requires : goal.with_top-self-inside-requires
with_top-self-inside-requires c =
    let at = (goal.at.with_top-self-inside-requires c).After-write in
    omega (
      arith,
      few c.self.inside.slots.slots c.self.inside.slots.capacity c.self.inside.free c.self.inside.spare c.self.invariant
          c.args.chain.0 (found at).left (found at).right (found at).is,
    )

pub invariant_of-self : goal.invariant_of-self
invariant_of-self c =
    let at = (goal.at.invariant_of-self c).After-write in
    let written = once_written c.self.inside.slots c.write.new.slots _ _ c.write.ensures in
    rw (written.slots, written.capacity, c.with_top-self-inside.ensures)
    (drop_sound c.self.inside.slots.slots c.self.inside.slots.capacity c.self.inside.free c.self.inside.spare c.self.invariant
    c.args.chain.0 (found at).left (found at).right (found at).is (no_left at) (no_right at)).sound

pub returns-clause-chain : goal.returns-clause-chain
returns-clause-chain c =
    let at = (goal.at.returns-clause-chain c).After-write in
    let written = once_written c.self.inside.slots c.write.new.slots _ _ c.write.ensures in
    let same : chains_of c.self.inside.slots.slots ≡ c.args.self.now.chains = view at in
    rw (written.slots, ← same)
    (drop_sound c.self.inside.slots.slots c.self.inside.slots.capacity c.self.inside.free c.self.inside.spare c.self.invariant
    c.args.chain.0 (found at).left (found at).right (found at).is (no_left at) (no_right at)).edit
