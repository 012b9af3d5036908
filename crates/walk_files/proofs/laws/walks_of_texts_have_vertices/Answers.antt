use Rattle.walk_files.proofs.TextLemmas.{text_walks}
use Rattle.walk_files.proofs.laws.walks_of_texts_have_vertices.Goals as goal

pub returns : goal.returns
returns c = text_walks
