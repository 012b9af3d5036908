use Rattle.turn_words.proofs.Common.{◌≡◌, ◌+◌, ◌∙◌, ◌≤◌, ◌++◌, length, take, replicate, ap, arith, rules, take-replicate}
use Rattle.std.proofs.Math.Seq.{take-append-add}
use Rattle.turn_words.proofs.run_word.push_copies.Goals as goal

pub returns-clause-items : goal.returns-clause-items
returns-clause-items c =
    let before = c.args.word.now.items in
    let put = replicate c.loop.counter c.args.entry in
    let few : c.args.count ≤ c.loop.counter = omega (arith, c.loop-test.false) in
    let long : c.len.result ≡ length before = search rules in
    c.truncate.ensures.items ∙ ap (λ n. take (n + c.args.count) c.loop.word.items) long
    ∙ ap (take (length before + c.args.count)) c.loop.invariant.items
    ∙ take-append-add before put c.args.count
    ∙ ap (λ z. before ++ z) (take-replicate c.args.count c.loop.counter c.args.entry few)
