use Rattle.spoke_paths.proofs.StepsKeep.{spokes-stay-below, state-stays}
use Rattle.spoke_paths.proofs.laws.path_steps_keep_the_state.Goals as goal

pub returns-clause-below : goal.returns-clause-below
returns-clause-below c start = spokes-stay-below

pub returns-clause-state : goal.returns-clause-state
returns-clause-state c start places path end steps =
    let f = c.F.Form in
    let laws = c.met.F.Form in
    state-stays f.Belongs f.IsAtVertex f.size f.next laws.stays laws.there_and_back laws.across places f.IsOwn f.empty laws.starts path end
    steps
