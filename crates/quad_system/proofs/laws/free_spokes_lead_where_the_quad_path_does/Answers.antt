use Rattle.quad_system.proofs.FreePathLemmas.{free_walk_below, free_walk_leads}
use Rattle.quad_system.proofs.laws.free_spokes_lead_where_the_quad_path_does.Goals as goal

pub returns : goal.returns
returns g c = record {
  below = λ surface split polygon spokes walk o t cut some free w. free_walk_below surface split polygon o t cut some spokes free walk w;
  state = λ surface split polygon spokes walk state o t cut some free w b v.
      free_walk_leads surface split polygon o t cut some g.F.Form.next (g.F.Form.Belongs polygon.places) g.F.Form.IsAtVertex
      (record {
        stays = λ s i b l. g.met.F.Form.stays.belongs polygon.places s i b l;
        vertex = λ s i j b v l m. g.met.F.Form.stays.at_vertex polygon.places s i j b v l m;
        back = λ s i b l. g.met.F.Form.there_and_back polygon.places s i b l;
        quad = λ s a d b v q. g.met.F.Form.across polygon.places s a d b v q;
      })
      spokes free walk w state b v;
}
