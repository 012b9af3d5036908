use Rattle.commands.proofs.Common.{Phrase, ◌≡◌, [], ◌∷◌, List, take, subst, ◌∙◌, arith, take_all, err_from_is_err_and, WroteAll}
use Rattle.commands.proofs.Writing.{so_far, part_of_line, writes_then}
use Rattle.commands.proofs.line.put_phrases.Goals as goal

pub returns-in_err-put_behind : goal.returns-in_err-put_behind
returns-in_err-put_behind g c =
    let p = err_from_is_err_and c.from_residual-in_err-put_behind.result c.from_residual-in_err-put_behind.ensures.1 in
    let only = c.in_err-put_behind.ensures.only_writes in
    rw p.1 (record {
      ok = tt;
      failed =
          part_of_line g.K.Sink.written g.K.Sink.faults c.args.out.now c.loop-phrase.out c.put_behind.new.out c.args.first c.args.others.now
          c.loop-phrase.phrase-index _ c.loop-phrase-test.true c.loop-phrase.invariant.written c.loop-phrase.invariant.never_falls
          c.in_err-put_behind.ensures.failed;
      only_writes =
          record {
            same_settled = only.same_settled ∙ c.loop-phrase.invariant.same_settled;
            never_falls = omega (arith, c.loop-phrase.invariant.never_falls, only.never_falls);
          };
    })

pub returns : goal.returns
returns g c =
    let first = c.args.first in
    let others = c.args.others.now in
    let all : take c.loop-phrase.phrase-index others ≡ others = take_all c.loop-phrase.phrase-index others c.loop-phrase-test.false in
    let written : WroteAll g.K.Sink.written c.args.out.now c.loop-phrase.out (so_far first others) =
    subst (λ (t : List Phrase). WroteAll g.K.Sink.written c.args.out.now c.loop-phrase.out (so_far first t)) all
    c.loop-phrase.invariant.written in
    writes_then g.K.Sink.written g.K.Sink.settled g.K.Sink.faults c.args.out.now c.loop-phrase.out c.write_whole.new.sink
    (so_far first others)
    (10 ∷ []) c.write_whole.result written
    (record { same_settled = c.loop-phrase.invariant.same_settled; never_falls = c.loop-phrase.invariant.never_falls })
    (record { ok = c.write_whole.ensures.ok; failed = c.write_whole.ensures.failed; only_writes = c.write_whole.ensures.only_writes })
