use Rattle.surf_model.proofs.Common.{◌+◌, ◌*◌, ◌/◌, ◌<◌, ℕ, zero, suc, subst, arith, IsInPart}
use Rattle.std.proofs.Math.Nat.{mul-div-le, lt-mul-div-succ}
use Rattle.surf_model.proofs.JoinedPartsLemmas.{last_end-joined, in_first, in_listed}
use Rattle.surf_model.proofs.parts.Parts.part_at.Goals as goal

positive : (s c place : ℕ) → place < s * c → 0 < s
positive zero c place h = absurd (omega arith)
positive (suc s) c place h = omega arith

pub part_at-requires : goal.part_at-requires
part_at-requires c = grind (arith, last_end-joined)

pub returns-then-place-listed : goal.returns-then-place-listed
returns-then-place-listed c =
    let i = c.self.inside in
    subst (λ ends. IsInPart ends c.args.place (i.count + c.part_at.result)) c.self.view_is
    (in_listed i.size i.count i.rest c.args.place c.part_at.result c.if-place-listed.true c.part_at.ensures)

pub returns-in-3 : goal.returns-in-3
returns-in-3 c =
    let i = c.self.inside in
    let place : ℕ = c.args.place in
    subst (λ ends. IsInPart ends place (place / 3)) c.self.view_is
    (in_first i.size i.count i.rest place (place / 3) (rw c.in-3.is (omega arith)) (rw c.in-3.is (omega arith)) c.if-place-listed.false)

pub returns-in-4 : goal.returns-in-4
returns-in-4 c =
    let i = c.self.inside in
    let place : ℕ = c.args.place in
    subst (λ ends. IsInPart ends place (place / 4)) c.self.view_is
    (in_first i.size i.count i.rest place (place / 4) (rw c.in-4.is (omega arith)) (rw c.in-4.is (omega arith)) c.if-place-listed.false)

pub returns-in_default : goal.returns-in_default
returns-in_default c =
    let i = c.self.inside in
    let place : ℕ = c.args.place in
    let some : 0 < i.size = positive i.size i.count place c.if-place-listed.false in
    subst (λ ends. IsInPart ends place (place / i.size)) c.self.view_is
    (in_first i.size i.count i.rest place (place / i.size) (mul-div-le place i.size) (lt-mul-div-succ place some) c.if-place-listed.false)
