use Rattle.labellings.proofs.KeepingLemmas.{moves_keep}
use Rattle.labellings.proofs.laws.moves_keep_the_state.Goals as goal

pub returns : goal.returns
returns g c =
    λ mesh labelling first second state valid good walk homotopic belongs at_vertex.
    moves_keep mesh labelling g.F.Form.next (g.F.Form.Belongs labelling.places) g.F.Form.IsAtVertex
    (record {
      stays = λ s i b l. g.met.F.Form.stays.belongs labelling.places s i b l;
      vertex = λ s i j b v l m. g.met.F.Form.stays.at_vertex labelling.places s i j b v l m;
      back = λ s i b l. g.met.F.Form.there_and_back labelling.places s i b l;
      quad = λ s a d b v q. g.met.F.Form.across labelling.places s a d b v q;
    })
    valid good homotopic.0 first second walk homotopic.1 state (belongs, at_vertex)
