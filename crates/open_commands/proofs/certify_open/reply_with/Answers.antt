use Rattle.open_commands.proofs.Common.{refl, PeakedMoves}
use Rattle.open_commands.proofs.Listing.{list_convinces, no_list_short}
use Rattle.open_commands.proofs.ShortTexts.{text_short}
use Rattle.open_commands.proofs.certify_open.reply_with.Goals as goal

pub returns-in-Some : goal.returns-in-Some
returns-in-Some c =
    let list : PeakedMoves = c.in-Some.list in
    rw c.in-Some.is (record {
      some = λ mesh first second leads within. record {
        status_is = refl;
        text_is = (list, list_convinces mesh first second list leads, within.moves, within.peak, refl);
      };
      none = λ mesh first second. tt;
      short = λ mesh first second valid small sides walk found. record {
        list = list;
        within = found.1;
        text_is = refl;
        short = text_short mesh first second list valid small sides walk found.0 found.1;
      };
    })

pub returns-in-None : goal.returns-in-None
returns-in-None c =
    rw c.in-None.is (record {
      some = tt;
      none = λ mesh first second. c.different.ensures;
      short = λ mesh first second valid small sides walk found. no_list_short c.different.result c.different.ensures.status_is;
    })
