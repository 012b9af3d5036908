use Rattle.widening.proofs.Common.{piece_of_parts}
use Rattle.widening.proofs.WidenedLemmas.{good_widened}
use Rattle.widening.proofs.laws.widened_labelling_is_good.Goals as goal

pub returns : goal.returns
returns c = λ mesh parts part signs narrow wide valid h l closed coherent good same widened.
    good_widened mesh parts part signs narrow wide (record {
      valid = valid;
      parts_of = h;
      within = l;
      closed = closed;
      coherent = coherent;
      good = good;
      signs_are = same;
      widened = widened;
      piece = piece_of_parts mesh parts part h l;
    })
