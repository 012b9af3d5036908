use Rattle.orientation.proofs.Common.{runs_alike, Place, Bool, refl, ◌≡◌, ◌+◌, ◌∙◌, not, ap, arith, sym, is_flipped, beq}
use Rattle.orientation.proofs.TreeLemmas.{few_faces}
use Rattle.orientation.proofs.SearchLemmas.{Crossed, crossed}
use Rattle.orientation.proofs.search.cross.Goals as goal

pub overflow_add-place : goal.overflow_add-place
overflow_add-place c =
    let seen = c.requires.search.frontier.queued 0 c.args.side.face (omega arith) in
    omega (
      arith,
      ap (λ (p : Place). p.depth) c.place.ensures,
      c.requires.search.trees.shallow c.args.side.face.0 seen,
      few_faces c.requires.search.trees.mesh_is c.requires.search.trees.small,
    )

outcome : (c : goal.After-put)
    → Crossed c.args.faces.now c.args.trees.now c.args.waiting.now c.args.side c.args.other c.put.new.self c.push.new.self
outcome c =
    let sign : Bool = is_flipped c.args.trees.now.flipped c.args.side.face.0 in
    let b : Bool = not (beq c.flipped.result c.run_alike.result) in
    let p : Place = record { depth = c.place.result.depth + 1; from = c.args.side } in
    let is : b ≡ not (beq sign (runs_alike c.args.faces.now c.args.side c.args.other)) =
    ap (λ x. not (beq x c.run_alike.result)) c.flipped.ensures ∙ ap (λ x. not (beq sign x)) c.run_alike.ensures in
    crossed c.args.waiting.now b p c.put.new.self c.push.new.self
    c.requires.search c.requires.partners (sym c.seen.ensures ∙ c.if-seen.false) is refl (ap (λ (q : Place). q.depth + 1) c.place.ensures)
    c.put.ensures c.in_ok-push.ensures.ok

pub returns-clause-search : goal.returns-clause-search
returns-clause-search c = (outcome c).search
