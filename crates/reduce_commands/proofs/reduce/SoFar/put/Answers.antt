use Rattle.reduce_commands.proofs.Common.{rules, ◌≡◌, ◌∷◌, [], ◌++◌}
use Rattle.reduce_commands.proofs.Reducing.{so_far-fault, so_far-kept, so_far-word}
use Rattle.reduce_commands.proofs.reduce.SoFar.put.Goals as goal

pub returns-then-is_some : goal.returns-then-is_some
returns-then-is_some g c =
    λ lines h. so_far-kept c.args.degree lines c.args.reader.now.present c.args.self.now.words.items c.args.self.now.out_of_range
    (let e = c.is_some.ensures in let f = c.if-is_some.true in search rules) h

pub returns-in_ok-map_err-in-Some : goal.returns-in_ok-map_err-in-Some
returns-in_ok-map_err-in-Some g c =
    let pushed : c.push.new.self.items ≡ c.args.self.now.words.items ++ c.in-Some.word ∷ [] =
    (let h = c.push.ensures.items in let k = c.in_ok-map_err-in-Some.ensures.cases in let m = c.map_err.ensures.cases in search rules) in
    λ lines h. rw pushed
    (so_far-word c.args.degree lines c.args.reader.now.present c.args.self.now.words.items c.in-Some.word c.args.self.now.out_of_range
    (let e = c.is_some.ensures in let f = c.if-is_some.false in search rules)
    (let e = c.in_ok-word.ensures in let f = c.entries.ensures.entries in let i = c.in-Some.is in search rules)
    (let e = c.in_ok-word.ensures in let f = c.entries.ensures.entries in let i = c.in-Some.is in search rules) h)

pub returns-in-None : goal.returns-in-None
returns-in-None g c =
    λ lines h. rw c.line.ensures
    (so_far-fault c.args.degree lines c.args.reader.now.present c.args.self.now.words.items c.args.self.now.out_of_range
    (let e = c.is_some.ensures in let f = c.if-is_some.false in search rules)
    (let e = c.in_ok-word.ensures in let f = c.entries.ensures.entries in let i = c.in-None.is in search rules) h)
