use Rattle.reduce_commands.proofs.Reducing.{read_wanting}
use Rattle.reduce_commands.proofs.reduce.next_word.Goals as goal

pub returns-in-Err-clause-word : goal.returns-in-Err-clause-word
returns-in-Err-clause-word c =
    read_wanting c.args.reader.now.left c.in-Err.fault c.refused_for.result c.in-Err.ensures.word c.refused_for.ensures
