use Rattle.file_pieces.proofs.Common.{Reading, Reads, bytes_left, ◌≡◌, ℕ, List, Option, ◌++◌, ◌+◌, length, false, IfSome, ap, subst, ◌∙◌, arith, rules, length-append, Files, file_of}
use Rattle.file_pieces.proofs.ReadingLemmas.{told, at_told, pass_kept-reads, gathered}
use Rattle.file_pieces.proofs.pieces.Pieces.gather_rest.Goals as goal

pub loop-into-preserved : goal.loop-into-preserved
loop-into-preserved g c =
    let name : List ℕ = c.args.name.now in
    let held : Option Files = g.S.Shelf.held c.args.shelf.now in
    let Step : List ℕ → Type 0 = λ file. Reads c.pass_kept.new.self file → Reads c.read_piece.new.self file in
    let step : IfSome (file_of held name) Step =
    subst (λ (h : Option Files). IfSome (file_of h name) Step) c.loop-into.invariant.held c.in_default-read_piece.ensures.file in
    let SoFar : List ℕ → Type 0 = λ file. Reads c.args.self.now file →
    Reads c.loop-into.self file × (c.loop-into.into.items ++ bytes_left c.loop-into.self file ≡ c.args.into.now.items
    ++ bytes_left c.args.self.now file) in
    let Next : List ℕ → Type 0 = λ file. Reads c.args.self.now file →
    Reads c.read_piece.new.self file
    × (c.extend_from_slice.new.self.items ++ bytes_left c.read_piece.new.self file
    ≡ c.args.into.now.items ++ bytes_left c.args.self.now file) in
    let more : c.loop-into.self.ended ≡ false = search rules in
    let items : c.extend_from_slice.new.self.items ≡ c.loop-into.into.items ++ c.kept.result.now = c.in-Ok.ensures.items in
    let place : c.read_piece.new.self.place ≡ c.loop-into.self.place + length c.loop-into.self.kept =
    c.read_piece.ensures.place ∙ ap (λ (r : Reading). r.place) c.pass_kept.ensures.kept in
    record {
      file =
          told Next (file_of held name) (λ file is reads.
          let so_far : Reads c.loop-into.self file
          × (c.loop-into.into.items ++ bytes_left c.loop-into.self file ≡ c.args.into.now.items ++ bytes_left c.args.self.now file) =
          at_told SoFar (file_of held name) file is c.loop-into.invariant.file reads in
          let passed : Reads c.pass_kept.new.self file =
          pass_kept-reads c.loop-into.self c.pass_kept.new.self file c.pass_kept.ensures.kept so_far.0 (λ ended. cc) in (
            at_told Step (file_of held name) file is step passed,
            gathered c.loop-into.self c.pass_kept.new.self c.read_piece.new.self file c.loop-into.into.items
                c.extend_from_slice.new.self.items
                (c.args.into.now.items ++ bytes_left c.args.self.now file) c.kept.result.now so_far.0 so_far.1 items c.kept.ensures
                c.pass_kept.ensures.kept c.read_piece.ensures.place,
          ));
      count = omega (
        arith,
        c.loop-into.invariant.count,
        place,
        ap (λ (t : List ℕ). length t) items,
        length-append c.loop-into.into.items c.kept.result.now,
        ap (λ (t : List ℕ). length t) c.kept.ensures,
      );
      later = omega (arith, c.loop-into.invariant.later, place);
      limit = c.read_piece.ensures.limit ∙ search rules;
      held = c.read_piece.ensures.only_reads.same_files ∙ c.loop-into.invariant.held;
      faults = omega (arith, c.loop-into.invariant.faults, c.read_piece.ensures.only_reads.never_falls);
    }
