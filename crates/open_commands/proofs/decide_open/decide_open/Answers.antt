use Rattle.open_commands.proofs.Common.{stops_first, pair_long, memory_no_fault, only_self, runs_faulty, runs_replied, runs_stopped, decision_answer, open_pair_in, arith, if◌then◌else◌, Homotopic, Different}
use Rattle.surf_model.specs.declared.decisions.Answer as deciding
use Rattle.open_commands.proofs.Listing.{decision_passes}
use Rattle.open_commands.proofs.OpenInputs.{AreOpenWalks, open_walks}
use Rattle.open_commands.proofs.OpenOutcomes.{then_decided}
use Rattle.open_commands.proofs.decide_open.decide_open.Goals as goal
use Rattle.open_commands.proofs.decide_open.decide_open.Goals.{After-at-2}

pub returns-in_err-pair : goal.returns-in_err-pair
returns-in_err-pair g c =
    let stop = c.in_err-pair.field-0.0 in
    runs_stopped (λ none. none.0.0.0.0) c.from_residual.ensures.1 only_self c.in_err-pair.ensures.reads
    (stops_first (open_pair_in (g.S.Shelf.held c.args.shelf.now) c.args.mesh.now c.args.walks.now) then_decided stop
    c.in_err-pair.ensures.reads.end)

pub at-requires : goal.at-requires
at-requires g c = omega (arith, pair_long c.in_ok-pair.ensures.pair.walks)

pub at-requires-2 : goal.at-requires-2
at-requires-2 g c = omega (arith, pair_long c.in_ok-pair.ensures.pair.walks)

-- what is known of the two walks
walks : (g : _) (c : After-at-2 g)
    → AreOpenWalks c.in_ok-pair.pair.surface.mesh c.in_ok-pair.pair.walks.walks c.at.result.now c.at-2.result.now
walks g c =
    open_walks c.in_ok-pair.pair c.at.result.now c.at-2.result.now c.in_ok-pair.ensures.pair c.at.ensures c.at-2.ensures

pub same_class-requires-clause-first : goal.same_class-requires-clause-first
same_class-requires-clause-first g c = (walks g c).are.first_walk

pub same_class-requires-clause-second : goal.same_class-requires-clause-second
same_class-requires-clause-second g c = (walks g c).are.second_walk

pub same_class-requires-clause-ends : goal.same_class-requires-clause-ends
same_class-requires-clause-ends g c = (walks g c).are.ends

pub same_class-requires-clause-sides : goal.same_class-requires-clause-sides
same_class-requires-clause-sides g c = (walks g c).sides

pub same_class-requires-clause-few : goal.same_class-requires-clause-few
same_class-requires-clause-few g c = (walks g c).few

pub returns-in_err-same : goal.returns-in_err-same
returns-in_err-same g c =
    runs_faulty (λ none. none.0.0.0.0) c.from_residual-in_err-same.ensures.1 c.in_ok-pair.ensures.reads.only_reads memory_no_fault tt

pub returns : goal.returns
returns g c =
    let pair = c.in_ok-pair.pair in
    let known = walks g (goal.at.returns g c).After-at-2 in
    let decision : deciding.Answer = (if c.in_ok-same.same then Homotopic else Different) in
    runs_replied (λ none. none.0.0.0.0) c.in_ok-pair.ensures.reads.only_reads
    (record {
      answer = decision_answer decision;
      passes =
          decision_passes (g.S.Shelf.held c.args.shelf.now) c.args.mesh.now c.args.walks.now pair c.in_ok-same.same c.at.result.now
          c.at-2.result.now known.first_is known.second_is c.in_ok-pair.ensures.reads.end c.in_ok-same.ensures;
      is_answer = c.reply_on.ensures;
    })
