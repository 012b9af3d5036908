use Rattle.file_pieces.proofs.Common.{Reading, ◌≡◌, ℕ, ◌+◌, ◌-◌, ◌≤◌, length, take, drop, sym, subst}
use Rattle.file_pieces.proofs.KeptLines.{pass_some}
use Rattle.file_pieces.proofs.pieces.Pieces.pass.Goals as goal

pub returns-clause-kept : goal.returns-clause-kept
returns-clause-kept c =
    let a : ℕ = c.self.inside.at in
    subst (λ (r : Reading). ◌≡◌ {A = Reading} (record {
      limit = c.self.inside.limit;
      place = c.self.inside.before + (a + c.args.count);
      kept = take (c.self.inside.filled - (a + c.args.count)) (drop (a + c.args.count) c.self.inside.piece.items);
      ended = c.self.inside.ended;
    }) (record { limit = r.limit; place = r.place + c.args.count; kept = drop c.args.count r.kept; ended = r.ended }))
    c.self.view_is
    (pass_some c.self.inside.limit c.self.inside.before a c.self.inside.filled c.args.count c.self.inside.piece.items
    c.self.inside.ended (subst (λ (r : Reading). c.args.count ≤ length r.kept) (sym c.self.view_is) c.requires))
