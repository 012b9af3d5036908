use Rattle.homology_files.proofs.Common.{face_number_words, FaceFits, subst, arith, take_all, All-nil, err_from_is_err_and, All, codes, gathers-put, each-none, each-more, each-stops, each-all}
use Rattle.homology_files.proofs.WritingLemmas.{face_line, puts_behind_head, all-next}
use Rattle.homology_files.proofs.writing.put_chain.Goals as goal

pub loop-k-init : goal.loop-k-init
loop-k-init g c = (each-none c.args.sink.now c.put_head.new.piece face_line c.args.numbers.now, All-nil FaceFits)

pub returns-in_err-make_room-clause-puts : goal.returns-in_err-make_room-clause-puts
returns-in_err-make_room-clause-puts g c =
    let failed = err_from_is_err_and c.from_residual.result c.from_residual.ensures.1 in
    puts_behind_head (codes "CHAIN") c.len.result face_number_words c.args.numbers.now c.requires c.put_head.ensures c.len.ensures.count
    (each-stops _ failed.1 c.loop-k.invariant.0 c.in_err-make_room.ensures.puts.failed c.in_err-make_room.ensures.puts.only_writes)

pub loop-k-preserved : goal.loop-k-preserved
loop-k-preserved g c = (
  each-more c.loop-k.invariant.0 c.at.ensures
      (gathers-put (face_line c.at.result) c.in_ok-make_room.ensures.puts.ok c.put_face.ensures.put)
      c.in_ok-make_room.ensures.puts.only_writes,
  all-next FaceFits c.args.numbers.now c.loop-k.k c.at.result c.loop-k.invariant.1 c.at.ensures c.put_face.ensures.fits,
)

pub returns-clause-puts : goal.returns-clause-puts
returns-clause-puts g c =
    puts_behind_head (codes "CHAIN") c.len.result face_number_words c.args.numbers.now c.requires c.put_head.ensures c.len.ensures.count
    (each-all c.loop-k.invariant.0 (omega (arith, c.loop-k-test.false, c.len-k-end.ensures.count)))

pub returns-clause-fits : goal.returns-clause-fits
returns-clause-fits g c = (
  c.len.ensures.valid,
  subst (All FaceFits) (take_all c.loop-k.k c.args.numbers.now (omega (arith, c.loop-k-test.false, c.len-k-end.ensures.count)))
      c.loop-k.invariant.1,
)
