use Rattle.homotopy_arrays.proofs.homologies.show_walks.Goals as goal

pub find_numbers-requires-clause-few : goal.find_numbers-requires-clause-few
find_numbers-requires-clause-few c = c.in-None.ensures.none
