use Rattle.surf_model.proofs.Common.{◌++◌, length, refl, all_raised, way_back}
use Rattle.std.specs.Prelude.{[]}
use Rattle.surf_model.proofs.ContextLemmas.{list_in_context, one_after_another}
use Rattle.surf_model.proofs.WayBackLemmas.{list_undone}
use Rattle.surf_model.proofs.homotopy_laws.homotopy_is_a_congruence.Goals as goal

pub returns : goal.returns
returns c = record {
  reflexive = λ mesh walk. ([], refl);
  symmetric = λ mesh first second w h. (way_back mesh h.0, list_undone mesh h.0 first second w h.1);
  transitive = λ mesh first second third h k. (h.0 ++ k.0, one_after_another mesh h.0 k.0 first second third h.1 k.1);
  in_context = λ mesh first second before after start h.
      (all_raised (length before) h.0, list_in_context mesh h.0 first second before after start h.1);
}
