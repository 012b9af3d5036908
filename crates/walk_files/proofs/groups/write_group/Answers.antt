use Rattle.walk_files.proofs.Common.{◌≡◌, ◌++◌, length, sym, ap, ◌∙◌, arith, None, Some, each_some, rest_of, token_of, times, read_tokens}
use Rattle.std.proofs.Common.{Err}
use Rattle.std.specs.Prelude.{[]}
use Rattle.walk_files.proofs.TokenLemmas.{closing, rest_of-close, group_closed, room_left}
use Rattle.walk_files.proofs.groups.write_group.Goals as goal

pub returns-in_err-power-in-Close-clause-written : goal.returns-in_err-power-in-Close-clause-written
returns-in_err-power-in-Close-clause-written c = λ vertex rest known.
    let so_far = c.loop-token.invariant in
    let line = c.args.tokens.now.line in
    let numbers = c.loop-token.numbers.items in
    let read = rw (c.in-Some.is, c.in-Close.is) at c.in_ok-token.ensures.token in
    let here = c.in_ok-token.ensures.line ∙ so_far.line in
    let failed : rest_of line vertex (Some []) c.args.tokens.now.words ≡ Err c.in_err-power-in-Close.field-0.0 =
    so_far.rest vertex
    ∙ rest_of-close line vertex numbers c.loop-token.tokens.words c.next.new.self.words read.0
    ∙ ap (λ n. read_tokens (closing vertex numbers) n (each_some token_of c.next.new.self.words)) (sym here)
    ∙ c.in_err-power-in-Close.ensures.power vertex numbers in
    absurd (let wrong = sym failed ∙ known in cc)

pub put_times-requires : goal.put_times-requires
put_times-requires c =
    let so_far = c.loop-token.invariant in
    let vertex = c.requires.vertex in
    let line = c.args.tokens.now.line in
    let power = c.in_ok-power-in-Close.power in
    let numbers = c.loop-token.numbers.items in
    let read = rw (c.in-Some.is, c.in-Close.is) at c.in_ok-token.ensures.token in
    let whole = group_closed line vertex power numbers c.requires.rest c.args.tokens.now.words c.loop-token.tokens.words
    c.next.new.self.words c.read_power.new.tokens.words c.requires.rest_is (so_far.rest vertex) read.0
    c.in_ok-power-in-Close.ensures.power.0 in
    let left = room_left (times power numbers) c.requires.rest _ (rest_of line vertex None c.read_power.new.tokens.words) c.requires.rest_is
    whole in
    let walk = ap length so_far.walk in
    rw c.deref.ensures.value (omega (arith, left.parts, walk, c.requires.short))

pub returns-in-Close-clause-written : goal.returns-in-Close-clause-written
returns-in-Close-clause-written c = λ vertex rest known.
    let so_far = c.loop-token.invariant in
    let power = c.in_ok-power-in-Close.power in
    let numbers = c.loop-token.numbers.items in
    let read = rw (c.in-Some.is, c.in-Close.is) at c.in_ok-token.ensures.token in
    record {
      written = times power numbers;
      walk_is = c.in_ok-put_times-in-Close.ensures ∙ ap (λ walk. walk ++ times power c.deref.result.now) so_far.walk
          ∙ ap (λ ns. c.args.walk.now ++ times power ns) c.deref.ensures.value;
      rest = group_closed c.args.tokens.now.line vertex power numbers rest c.args.tokens.now.words c.loop-token.tokens.words
          c.next.new.self.words c.read_power.new.tokens.words known (so_far.rest vertex) read.0
          c.in_ok-power-in-Close.ensures.power.0;
    }
