use Rattle.walk_files.proofs.Common.{◌≡◌, length, is_some, each_some, token_of}
use Rattle.walk_files.proofs.tokens.Tokens.no_walk.Given as goal

-- the words so far are tokens
abbrev pub invariant-loop-word : goal.invariant-loop-word
invariant-loop-word l =
    (is_some (each_some token_of l.fn.self.words) ≡ is_some (each_some token_of l.self.words))
    × (l.self.line ≡ l.fn.self.line)

abbrev pub decreases-loop-word : goal.decreases-loop-word
decreases-loop-word l = length l.self.words
