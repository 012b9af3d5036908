use Rattle.surf_model.proofs.Common.{◌++◌, length, refl, All-nil, All-append, IsSpurMove, all_raised, way_back}
use Rattle.std.specs.Prelude.{[]}
use Rattle.surf_model.proofs.ContextLemmas.{list_in_context, one_after_another}
use Rattle.surf_model.proofs.WayBackLemmas.{list_undone}
use Rattle.surf_model.proofs.FreeWalkLemmas.{spurs_raised, spurs_back}
use Rattle.surf_model.proofs.homotopy_laws.free_equality_is_a_congruence.Goals as goal

pub returns : goal.returns
returns c = record {
  reflexive = λ mesh walk. ([], All-nil IsSpurMove, refl);
  symmetric = λ mesh first second w h. (way_back mesh h.0, spurs_back mesh h.0 h.1, list_undone mesh h.0 first second w h.2);
  transitive = λ mesh first second third h k.
      (h.0 ++ k.0, All-append IsSpurMove h.0 k.0 h.1 k.1, one_after_another mesh h.0 k.0 first second third h.2 k.2);
  in_context = λ mesh first second before after start h.
      (all_raised (length before) h.0, spurs_raised (length before) h.0 h.1, list_in_context mesh h.0 first second before after start h.2);
}
