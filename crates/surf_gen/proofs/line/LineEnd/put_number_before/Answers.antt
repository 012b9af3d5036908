use Rattle.surf_gen.proofs.Common.{◌≡◌, ◌+◌, ◌/◌, ◌≤◌, ◌++◌, ◌∙◌, sym, ap, length, arith, length-append, decimal}
use Rattle.surf_gen.proofs.DigitLemmas.{ten_digits, room, more, last}
use Rattle.surf_gen.proofs.line.LineEnd.put_number_before.Goals as goal

pub put_before-requires : goal.put_before-requires
put_before-requires c =
    let step = c.loop-rest in
    omega (arith, room c.args.number step.rest c.args.self.now step.self (omega arith) (omega arith) step.invariant)

pub loop-rest-preserved : goal.loop-rest-preserved
loop-rest-preserved c =
    more c.args.number c.loop-rest.rest c.args.self.now c.loop-rest.self (omega arith) (omega arith) c.loop-rest.invariant
    ∙ ap (λ now. decimal (c.loop-rest.rest / 10) ++ now) (sym c.put_before.ensures)

pub put_before-requires-2 : goal.put_before-requires-2
put_before-requires-2 c =
    let step = c.loop-rest in
    omega (arith, room c.args.number step.rest c.args.self.now step.self (omega arith) (omega arith) step.invariant)

pub returns-clause-put : goal.returns-clause-put
returns-clause-put c =
    c.put_before-2.ensures ∙ last c.args.number c.loop-rest.rest c.args.self.now c.loop-rest.self (omega arith) c.loop-rest.invariant

pub returns-clause-short : goal.returns-clause-short
returns-clause-short c =
    let most : length (decimal c.args.number) ≤ 10 = ten_digits c.args.number (omega arith) in
    let all : length c.put_before-2.new.self ≡ length (decimal c.args.number) + length c.args.self.now =
    ap length
    (c.put_before-2.ensures
    ∙ last c.args.number c.loop-rest.rest c.args.self.now c.loop-rest.self (omega arith) c.loop-rest.invariant)
    ∙ length-append (decimal c.args.number) c.args.self.now in
    omega arith
