use Rattle.widening.proofs.Common.{piece_of_parts}
use Rattle.widening.proofs.WidenedPaths.{word_alike}
use Rattle.widening.proofs.laws.widened_labelling_keeps_words.Goals as goal

pub returns : goal.returns
returns c = λ mesh parts part signs narrow wide walk word valid h l closed coherent good same widened w start.
    word_alike mesh parts part signs narrow wide walk word (record {
      valid = valid;
      parts_of = h;
      within = l;
      closed = closed;
      coherent = coherent;
      good = good;
      signs_are = same;
      widened = widened;
      piece = piece_of_parts mesh parts part h l;
    }) w start
