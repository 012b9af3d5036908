-- The lines that the program writes. Each is a list of phrases, with single blanks between them.
use Rattle.std.specs.Prelude.{ℕ, List, [], ◌∷◌, ◌++◌, codes, decimal, flat_map}
use Rattle.std.specs.Fmt.{signed_decimal}
use Rattle.surf_model.specs.declared.chains.ChainLink.{ChainLink}
use Rattle.commands.specs.declared.line.Phrase.{Phrase}
use Rattle.commands.specs.declared.line.Phrase.TheVariants.{Text, Number, Signed}

-- the bytes of a phrase
abbrev pub phrase_text : Phrase → List ℕ
phrase_text (Text text) = text.now
phrase_text (Number number) = decimal number
phrase_text (Signed number) = signed_decimal number

-- a phrase behind another
abbrev pub behind_blank : List ℕ → List ℕ
behind_blank phrase = 32 ∷ phrase

-- a line: a first phrase, and the others behind it
abbrev pub line : List ℕ → List (List ℕ) → List ℕ
line first others = (first ++ flat_map behind_blank others) ++ 10 ∷ []

-- one line after another
abbrev pub in_lines : List (List ℕ) → List ℕ
in_lines lines = flat_map (λ line. line) lines

-- the line of a refusal that these phrases tell
abbrev pub refused : List (List ℕ) → List ℕ
refused phrases = line (codes "refused:") phrases

-- a link of an odd chain: its face, and the two vertices of its edge
abbrev pub link_phrases : ChainLink → List (List ℕ)
link_phrases link = decimal link.face.0 ∷ decimal link.low.0 ∷ decimal link.high.0 ∷ []

-- the refusal that an odd chain tells
abbrev pub odd_chain_line : List ChainLink → List ℕ
odd_chain_line chain = refused (codes "not orientable" ∷ flat_map link_phrases chain)
