use Rattle.common_ends.proofs.Common.{put_around, refl}
use Rattle.common_ends.proofs.TrimLemmas.{parted, leads_whole}
use Rattle.common_ends.proofs.laws.a_list_between_leads_around.Goals as goal

pub returns : goal.returns
returns c = λ mesh first second common list w z h leads.
    leads_whole mesh first second common (parted mesh first second common w z h) list (put_around common list) leads refl
