use Rattle.walk_files.proofs.Common.{◌≡◌, ◌++◌, List, ℕ, ap, sym, ◌∙◌, subst, arith, take_all, All-nil, flat_map-map, err_from_is_err_and, All, only-none, gathers-none, gathers-put, puts-then, puts-same, each-none, each-more, each-stops, each-all, line_of, head_words, move_words, MoveFits}
use Rattle.walk_files.proofs.ListLemmas.{all-next}
use Rattle.walk_files.proofs.MoveLines.{move_line}
use Rattle.walk_files.proofs.write.put_list.Goals as goal

pub loop-k-init : goal.loop-k-init
loop-k-init g c = (each-none c.args.sink.now c.put_head.new.piece move_line c.args.list.now.moves, All-nil MoveFits)

pub returns-in_err-make_room-clause-puts : goal.returns-in_err-make_room-clause-puts
returns-in_err-make_room-clause-puts g c =
    let head : List ℕ = line_of (head_words c.args.list.now) in
    let put : c.put_head.new.piece ≡ c.args.piece.now ++ head = c.put_head.ensures ∙ ap (λ p. p ++ head) (sym c.requires) in
    let failed = err_from_is_err_and c.from_residual.result c.from_residual.ensures.1 in
    puts-same (ap (λ t. head ++ t) (sym (flat_map-map line_of move_words c.args.list.now.moves)))
    (puts-then (gathers-put head (gathers-none c.args.sink.now c.args.piece.now) put)
    (only-none g.K.Sink.settled g.K.Sink.faults c.args.sink.now)
    (each-stops _ failed.1 c.loop-k.invariant.0 c.in_err-make_room.ensures.puts.failed c.in_err-make_room.ensures.puts.only_writes))

pub loop-k-preserved : goal.loop-k-preserved
loop-k-preserved g c = (
  each-more c.loop-k.invariant.0 c.at.ensures
      (gathers-put (move_line c.at.result) c.in_ok-make_room.ensures.puts.ok c.put_move.ensures.put)
      c.in_ok-make_room.ensures.puts.only_writes,
  all-next MoveFits c.args.list.now.moves c.loop-k.k c.at.result c.loop-k.invariant.1 c.at.ensures c.put_move.ensures.fits,
)

pub returns-clause-puts : goal.returns-clause-puts
returns-clause-puts g c =
    let head : List ℕ = line_of (head_words c.args.list.now) in
    let put : c.put_head.new.piece ≡ c.args.piece.now ++ head = c.put_head.ensures ∙ ap (λ p. p ++ head) (sym c.requires) in
    puts-same (ap (λ t. head ++ t) (sym (flat_map-map line_of move_words c.args.list.now.moves)))
    (puts-then (gathers-put head (gathers-none c.args.sink.now c.args.piece.now) put)
    (only-none g.K.Sink.settled g.K.Sink.faults c.args.sink.now)
    (each-all c.loop-k.invariant.0 (omega (arith, c.loop-k-test.false, c.len-k-end.ensures))))

pub returns-clause-fits : goal.returns-clause-fits
returns-clause-fits g c = λ small. record {
  moves =
      subst (All MoveFits) (take_all c.loop-k.k c.args.list.now.moves (omega (arith, c.loop-k-test.false, c.len-k-end.ensures)))
      c.loop-k.invariant.1;
  count = omega (arith, c.len-k-end.ensures, c.len-k-end.type_inv);
  peak = small;
}
