-- The lines of refusals, as docs/FORMATS.md lists them. Each is proved by computing.
use Rattle.std.specs.Prelude.{◌≡◌, ℕ, true, false, List, [], ◌∷◌, ◌++◌, codes, refl}
use Rattle.std.specs.Fmt.{digits}
use Rattle.off_reader.specs.declared.off_fault.OffFault.TheVariants as off
use Rattle.surf_model.specs.declared.chains.ChainLink.{ChainLink}
use Rattle.walk_files.specs.declared.fault.CertFault.TheVariants as certificates
use Rattle.walk_files.specs.declared.fault.WalkFault.TheVariants as walks
use Rattle.walk_files.specs.declared.pair.PairFault.TheVariants.{NotTwo, NoVertex, NoEdge, EndsDiffer}
use Rattle.commands.specs.Answers.{Texts, NoText, Exactly}
use Rattle.commands.specs.Lines.{odd_chain_line}
use Rattle.commands.specs.Refusals.{wrong_words, too_large, off_line, numbers_line, pair_line, certificate_line}
use Rattle.commands.specs.declared.refusal.Input.TheVariants.{Mesh, Walks, Certificate, TurnWords}

-- a text, and the end of its line
abbrev as_line : List ℕ → List ℕ
as_line text = text ++ 10 ∷ []

abbrev written : List ℕ → Texts
written text = Exactly (as_line text)

abbrev link : ℕ → ℕ → ℕ → ChainLink
link face low high = record { face = record { 0 = face }; low = record { 0 = low }; high = record { 0 = high } }

-- round the projective plane of six vertices
abbrev chain : List ChainLink
chain = link 8 4 5 ∷ link 3 0 5 ∷ link 4 0 1 ∷ link 0 1 2 ∷ link 5 2 4 ∷ []

-- ---- words and files

words_and_files :
    (wrong_words ≡ written (codes "refused: words"))
    × (too_large Mesh ≡ written (codes "refused: off too large"))
    × (too_large Walks ≡ written (codes "refused: walks too large"))
    × (too_large Certificate ≡ written (codes "refused: certificate too large"))
    × (too_large TurnWords ≡ written (codes "refused: list too large"))
words_and_files = (refl, refl, refl, refl, refl)

-- ---- a mesh text; want of memory is no fault of it

mesh_texts :
    (off_line off.NoCounts ≡ written (codes "refused: off no counts"))
    × (off_line (off.BadCounts 1) ≡ written (codes "refused: off line 1 counts"))
    × (off_line (off.UnreadForm 1) ≡ written (codes "refused: off line 1 form"))
    × (off_line (off.BadVertex 3) ≡ written (codes "refused: off line 3 vertex"))
    × (off_line (off.Ended 20) ≡ written (codes "refused: off line 20 ended"))
    × (off_line (off.BadFace 11) ≡ written (codes "refused: off line 11 face"))
    × (off_line (off.IndexRange 12) ≡ written (codes "refused: off line 12 index"))
    × (off_line (off.EqualNeighbours 13) ≡ written (codes "refused: off line 13 neighbours"))
    × (off_line (off.TooMany 2) ≡ written (codes "refused: off line 2 many"))
    × (off_line off.OutOfMemory ≡ NoText)
unfolding digits
mesh_texts = (refl, refl, refl, refl, refl, refl, refl, refl, refl, refl)

-- ---- walks and turn words

numbers :
    (numbers_line Walks (walks.BadNumber 1) ≡ written (codes "refused: walks line 1 number"))
    × (numbers_line Walks (walks.TooLong 2) ≡ written (codes "refused: walks line 2 long"))
    × (numbers_line Walks (walks.TooMany 4) ≡ written (codes "refused: walks line 4 many"))
    × (numbers_line Walks (walks.BadGroup 3) ≡ written (codes "refused: walks line 3 group"))
    × (numbers_line TurnWords (walks.BadNumber 1) ≡ written (codes "refused: list line 1 number"))
    × (numbers_line TurnWords (walks.TooLong 2) ≡ written (codes "refused: list line 2 long"))
    × (numbers_line TurnWords (walks.TooMany 4) ≡ written (codes "refused: list line 4 many"))
unfolding digits
numbers = (refl, refl, refl, refl, refl, refl, refl)

-- ---- two walks

pairs :
    (pair_line (NotTwo 3) ≡ written (codes "refused: walks count 3"))
    × (pair_line (NoVertex 1 5) ≡ written (codes "refused: walk 1 place 5 vertex"))
    × (pair_line (NoEdge 2 0) ≡ written (codes "refused: walk 2 place 0 edge"))
    × (pair_line (EndsDiffer true) ≡ written (codes "refused: walks start"))
    × (pair_line (EndsDiffer false) ≡ written (codes "refused: walks end"))
unfolding digits
pairs = (refl, refl, refl, refl, refl)

-- ---- certificates

certificate_texts :
    (certificate_line certificates.NoHead ≡ written (codes "refused: certificate no head"))
    × (certificate_line (certificates.Bad 1) ≡ written (codes "refused: certificate line 1 bad"))
    × (certificate_line (certificates.Ended 4) ≡ written (codes "refused: certificate line 4 ended"))
    × (certificate_line (certificates.Extra 5) ≡ written (codes "refused: certificate line 5 extra"))
    × (certificate_line (certificates.Peak 1) ≡ written (codes "refused: certificate line 1 peak"))
unfolding digits
certificate_texts = (refl, refl, refl, refl, refl)

-- ---- a mesh whose faces cannot be signed

turned : odd_chain_line chain ≡ as_line (codes "refused: not orientable 8 4 5 3 0 5 4 0 1 0 1 2 5 2 4")
unfolding digits
turned = refl
