use Rattle.trial_commands.proofs.ChainReading.{chain_read}
use Rattle.program.proofs.laws.chain_texts_are_read.Goals as goal

pub returns : goal.returns
returns c = chain_read
