use Rattle.walk_files.proofs.Common.{words_here}
use Rattle.walk_files.proofs.StreamLemmas.{short_words}
use Rattle.walk_files.proofs.stream_lines.at_words.Goals as goal

pub returns : goal.returns
returns c =
    short_words c.new-cursor.result c.find_line.new.self _ (words_here c.args.line.now.done) c.new-cursor.ensures.lines
    c.bytes.ensures.line c.requires c.find_line.ensures.place
