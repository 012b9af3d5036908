use Rattle.walk_files.proofs.Common.{[], ◌∷◌, ◌++◌, length, sym, ap, ◌∙◌, length-append, arith, le-leb, err_from_is_err_and, each_some, capped, token_of, times, read_tokens}
use Rattle.std.proofs.Common.{Err}
use Rattle.walk_files.proofs.TokenLemmas.{closing, rest_of-inside, rest_of-close, closed_with, ends_at-last, length-times, capped-sum, capped-product}
use Rattle.walk_files.proofs.counting.count_group.Goals as goal

pub loop-token-preserved : goal.loop-token-preserved
loop-token-preserved c =
    let so_far = c.loop-token.invariant in
    let number = c.in-Number.number in
    let read = rw (c.in-Some.is, c.in-Number.is) at c.in_ok-token.ensures.token in (
      so_far.0 ++ number ∷ [],
      record {
        counted = c.saturating_add-size.ensures ∙ capped-sum c.loop-token.size (length so_far.0) 1 so_far.1.counted
            ∙ ap capped (sym (length-append so_far.0 (number ∷ [])));
        closed = sym (ends_at-last c.args.vertex number so_far.0);
        rest = so_far.1.rest ∙ rest_of-inside c.args.tokens.now.line c.args.vertex number so_far.0 c.loop-token.tokens.words
            c.next.new.self.words read.0;
        line = c.in_ok-token.ensures.line ∙ so_far.1.line;
        shorter = omega (arith, read.1, so_far.1.shorter);
      },
    )

pub returns-in_err-power-in-Close-clause-count : goal.returns-in_err-power-in-Close-clause-count
returns-in_err-power-in-Close-clause-count c =
    let so_far = c.loop-token.invariant in
    let line = c.args.tokens.now.line in
    let read = rw (c.in-Some.is, c.in-Close.is) at c.in_ok-token.ensures.token in
    let here = c.in_ok-token.ensures.line ∙ so_far.1.line in
    let p = err_from_is_err_and c.from_residual-in_err-power-in-Close.result c.from_residual-in_err-power-in-Close.ensures.1 in
    rw p.1
    (so_far.1.rest
    ∙ rest_of-close line c.args.vertex so_far.0 c.loop-token.tokens.words c.next.new.self.words read.0
    ∙ ap (λ n. read_tokens (closing c.args.vertex so_far.0) n (each_some token_of c.next.new.self.words)) (sym here)
    ∙ c.in_err-power-in-Close.ensures.power c.args.vertex so_far.0 ∙ ap Err (sym p.2))

pub returns-in-Close-clause-count : goal.returns-in-Close-clause-count
returns-in-Close-clause-count c =
    let so_far = c.loop-token.invariant in
    let line = c.args.tokens.now.line in
    let power = c.in_ok-power-in-Close.power in
    let read = rw (c.in-Some.is, c.in-Close.is) at c.in_ok-token.ensures.token in
    let closed = c.in_ok-power-in-Close.ensures.power in
    record {
      written = times power so_far.0;
      counted = c.saturating_mul.ensures ∙ capped-product c.loop-token.size (length so_far.0) power so_far.1.counted
          ∙ ap capped (sym (length-times power so_far.0));
      rest = so_far.1.rest
          ∙ rest_of-close line c.args.vertex so_far.0 c.loop-token.tokens.words c.next.new.self.words read.0
          ∙ closed_with line c.args.vertex power so_far.0 c.next.new.self.words c.read_power.new.tokens.words closed.0
          (sym so_far.1.closed ∙ c.if-closed.true) (le-leb _ _ closed.1);
    }
