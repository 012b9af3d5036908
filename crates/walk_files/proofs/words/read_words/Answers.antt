use Rattle.walk_files.proofs.Common.{rules, ◌≡◌, ◌++◌, [], ◌∷◌, ◌∙◌, before_ok-more, ok_first, NumberLine}
use Rattle.std.proofs.Common.{Ok}
use Rattle.walk_files.proofs.words.read_words.Goals as goal

pub loop-lists-preserved : goal.loop-lists-preserved
loop-lists-preserved c =
    let before = c.loop-lists.lists.lists in
    let list : NumberLine = c.next_word.new.self.present in
    let here : c.loop-lists.reader.left ≡ ok_first (Ok list) c.next_word.new.self.left = search rules in
    let lists : c.close.new.self.lists ≡ before ++ list ∷ [] = search rules in
    record {
      lists = c.loop-lists.invariant.lists ∙ rw (here, lists) (before_ok-more before list c.next_word.new.self.left);
      pending = search rules;
    }
