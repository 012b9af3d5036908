use Rattle.walk_files.proofs.Common.{[], ◌∷◌, sym, ap, ◌∙◌, arith, each_some, token_of}
use Rattle.walk_files.proofs.TokenLemmas.{counted_first, counted_on, rest_of-number, rest_of-open, group_read}
use Rattle.walk_files.proofs.counting.count_darts.Goals as goal

pub loop-token-init : goal.loop-token-init
loop-token-init c =
    record {
      counted = counted_first c.args.line.now c.in_ok-vertex.vertex c.number.new.self.words
          (ap (each_some token_of) (sym c.of-tokens.ensures.words) ∙ c.in_ok-vertex.ensures.number.0);
      line = c.in_ok-vertex.ensures.line ∙ c.of-tokens.ensures.line;
    }

pub loop-token-preserved-in-Number : goal.loop-token-preserved-in-Number
loop-token-preserved-in-Number c =
    let so_far = c.loop-token.invariant in
    let read = rw (c.in-Some.is, c.in-Number.is) at c.in_ok-token.ensures.token in
    record {
      counted = counted_on c.args.line.now c.loop-token.vertex c.in-Number.next c.loop-token.tokens.words c.next.new.self.words
          c.loop-token.darts 1 c.saturating_add-darts.result (c.in-Number.next ∷ []) so_far.counted (omega arith)
          (rest_of-number c.args.line.now.number c.loop-token.vertex c.in-Number.next c.loop-token.tokens.words c.next.new.self.words
          read.0)
          c.saturating_add-darts.ensures;
      line = c.in_ok-token.ensures.line ∙ so_far.line;
    }

pub loop-token-preserved : goal.loop-token-preserved
loop-token-preserved c =
    let so_far = c.loop-token.invariant in
    let read = rw (c.in-Some.is, c.in-Open.is) at c.in_ok-token.ensures.token in
    let here = c.in_ok-token.ensures.line ∙ so_far.line in
    let group = c.in_ok-count_group-in-Open.ensures.count in
    record {
      counted = counted_on c.args.line.now c.loop-token.vertex c.loop-token.vertex c.loop-token.tokens.words c.count_group.new.tokens.words
          c.loop-token.darts c.in_ok-count_group-in-Open.field-0
          c.saturating_add-darts-in-Open.result group.written so_far.counted group.counted
          (rest_of-open c.args.line.now.number c.loop-token.vertex c.loop-token.tokens.words c.next.new.self.words read.0
          ∙ group_read c.args.line.now.number c.next.new.self.line c.loop-token.vertex c.next.new.self.words c.count_group.new.tokens.words
          group.written here group.rest)
          c.saturating_add-darts-in-Open.ensures;
      line = c.in_ok-count_group-in-Open.ensures.line ∙ here;
    }
