use Rattle.surf_io.proofs.Common.{ap, sym, ◌∙◌, ◌++◌, arith, decimal_digit}
use Rattle.surf_io.proofs.piece.Piece.put_natural.Goals as goal

pub returns-then-n-lt10-clause-put : goal.returns-then-n-lt10-clause-put
returns-then-n-lt10-clause-put c =
    c.put.ensures ∙ ap (λ ds. c.args.self.now ++ ds) (sym (decimal_digit c.args.n (omega arith)))
