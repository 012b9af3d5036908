-- Checks: what is looked at, one thing after another, up to the first refusal.
use Rattle.std.specs.Prelude.{◌≡◌, ◌↔◌, ℕ, ◌<◌, ◌≤◌, ◌⊎◌, List, length, Option, None, Some, IfSome, IsSome, IsSomeAnd, MatchOption, Result, Ok, Err, ⊤}
use Rattle.surf_io.specs.Files.{Files, file_of}
use Rattle.commands.specs.Answers.{Texts}
use Rattle.commands.specs.Refusals.{too_large}
use Rattle.commands.specs.declared.inputs.TheConstants.{MOST_BYTES}
use Rattle.commands.specs.declared.refusal.Input.{Input}

-- how a check of a thing ends: the input is refused, with one of these texts; or the thing passes
pub data End (T : Type 0) : Type 0 where
  Refuse : Texts → End T
  Pass : T → End T

-- a check of a thing
pub record Check (T : Type 0) : Type 1 where
  -- it may end so
  pub Ends : End T → Type 0
  -- this holds of the name of each file that it looks at
  pub EachFile : (List ℕ → Type 0) → Type 0

-- ---- the parts that checks are made of

-- a check that looks at no file
abbrev pub without_files : {T : Type 0} → (End T → Type 0) → Check T
without_files ends = record { Ends = ends; EachFile = λ _. ⊤ }

-- the thing passes
abbrev pub pass : {T : Type 0} → T → Check T
pass thing = without_files (λ end. end ≡ Pass thing)

-- the refusal comes
abbrev pub refuse : {T : Type 0} → Texts → Check T
refuse texts = without_files (λ end. end ≡ Refuse texts)

-- a thing of which this holds passes; where there is none, the refusal comes
abbrev pub found_or : {T : Type 0} → Texts → (T → Type 0) → Check T
found_or {T} texts P = without_files ends
  where
    ends : End T → Type 0
    ends (Refuse told) = ((thing : T) → P thing → ⊥) × (told ≡ texts)
    ends (Pass thing) = P thing

-- What is made of the right decision passes: the decision for yes is right exactly where this holds.
abbrev pub decided_by : {D T : Type 0} → D → (D → T) → Type 0 → Check T
decided_by {D} {T} for_yes made P = without_files ends
  where
    ends : End T → Type 0
    ends (Refuse texts) = ⊥
    ends (Pass thing) = (decision : D) × (thing ≡ made decision) × ((decision ≡ for_yes) ↔ P)

-- what is meant passes, and a fault in it is refused
abbrev pub meant : {T F : Type 0} → (F → Texts) → Result T F → Check T
meant line_of (Ok thing) = pass thing
meant line_of (Err fault) = refuse (line_of fault)

-- the thing passes where nothing is wrong with it, and else the fault is refused
abbrev pub pass_unless : {T F : Type 0} → (F → Texts) → Option F → T → Check T
pass_unless line_of None thing = pass thing
pass_unless line_of (Some fault) thing = refuse (line_of fault)

-- the bytes are those of the file with that name, if the files are told and it is one of them
abbrev pub Agrees : Option Files → List ℕ → List ℕ → Type 0
Agrees held name bytes = IfSome (file_of held name) (λ file. bytes ≡ file)

-- the file with that name is looked at: some bytes that agree with it pass, or too many of them are refused
abbrev pub file : Option Files → List ℕ → Input → Check (List ℕ)
file held name input = record { Ends = ends; EachFile = λ P. P name }
  where
    ends : End (List ℕ) → Type 0
    ends (Refuse told) = (bytes : List ℕ) × Agrees held name bytes × (MOST_BYTES < length bytes) × (told ≡ too_large input)
    ends (Pass bytes) = Agrees held name bytes × (length bytes ≤ MOST_BYTES)

-- A check of a file that is read in pieces, which are kept nowhere: where the file is told, as the check of its bytes ends; and where it
-- is not, no list of bytes stands for what was read, and the ends are these.
abbrev pub where_told : {T : Type 0} → Option Files → List ℕ → Check T → (End T → Type 0) → Check T
where_told held name check any =
    record { Ends = λ end. MatchOption (file_of held name) (any end) (λ _. check.Ends end); EachFile = check.EachFile }

-- one check after another: a refusal of the first is the end, and of what the first passes the next is made
infixl 10 ◌>>=◌
abbrev pub ◌>>=◌ : {A B : Type 0} → Check A → (A → Check B) → Check B
◌>>=◌ {A} {B} first next =
    record {
      Ends = λ end. ((texts : Texts) × first.Ends (Refuse texts) × (end ≡ Refuse texts))
          ⊎ ((thing : A) × first.Ends (Pass thing) × (next thing).Ends end);
      EachFile = λ P. first.EachFile P × ((thing : A) → first.Ends (Pass thing) → (next thing).EachFile P);
    }

-- ---- what is said of a check

-- the check may pass the thing
abbrev pub Passes : {T : Type 0} → Check T → T → Type 0
Passes check thing = check.Ends (Pass thing)

-- the file with that name is told
abbrev pub IsTold : Option Files → List ℕ → Type 0
IsTold held name = IsSome (file_of held name)

-- the file with that name is told, it has no more bytes than a file may have, and this holds of them
abbrev pub Holds : Option Files → List ℕ → (List ℕ → Type 0) → Type 0
Holds held name P = IsSomeAnd (file_of held name) (λ bytes. (length bytes ≤ MOST_BYTES) × P bytes)
