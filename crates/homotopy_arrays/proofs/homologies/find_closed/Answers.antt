use Rattle.homotopy_arrays.proofs.homologies.find_closed.Goals as goal

pub of_walk-requires-clause-signed : goal.of_walk-requires-clause-signed
of_walk-requires-clause-signed c = c.requires.signed

pub of_walk-requires-clause-walk : goal.of_walk-requires-clause-walk
of_walk-requires-clause-walk c = c.requires.walks.first_walk

pub numbers_in-numbers-requires-clause-few : goal.numbers_in-numbers-requires-clause-few
numbers_in-numbers-requires-clause-few c = c.requires.few

pub numbers_in-numbers-requires-clause-walks : goal.numbers_in-numbers-requires-clause-walks
numbers_in-numbers-requires-clause-walks c = (c.args.surface.faces, c.in_ok-component.ensures, c.requires.walks)

pub returns : goal.returns
returns c = c.numbers_in-numbers.ensures c.args.surface.faces c.in_ok-component.ensures c.requires.walks
