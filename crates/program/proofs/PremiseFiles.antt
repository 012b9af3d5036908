-- What passes the checks of a file that is told is what the file stands for.
use Rattle.program.proofs.Common.{both_passed, meant_passed, unless_passed, file_holds, Texts, Pass, Passes, IsTold, Holds, file, meant, pass_unless, ◌>>=◌, IsCertificateEnd, SpellsCertificate, SpellsMesh, SpellsPair, certificate_in, certificate_in_bytes, certificate_of, mesh_in, pair_in, walks_unless, orientable, certificate_line, numbers_line, off_line, pair_line, Certificate, cert_of_text, SpellsLoops, loops_in, loops_line, as_open_surface, open_surface, open_surface_in, SpellsPairs, pairs_in, pairs_line, ◌≡◌, ℕ, List, [], ◌∷◌, refl, sym, ap, subst, ◌∙◌, Option, None, Result, Ok, Err, All, Files, file_of, FaceList, IsOrientableSurface, walk_at, AreWalkPair, as_surface, closed_alone, surface_in, ArePairs, walks_in_pairs, pairs_fault, WalkText, walk_text_of, walks_in, walks_of}
use Rattle.closed_walks.specs.FreeHomotopy.{IsClosedWalk}
use Rattle.commands.specs.declared.refusal.Input.{Input}
use Rattle.free_forms.specs.OpenSurfaces.{IsOpenSurface}
use Rattle.homology.specs.declared.certificate.HomologyCert.{HomologyCert}
use Rattle.off_reader.specs.OffTexts.{meaning_of}
use Rattle.std.proofs.lemmas.List.Elements.{All-head, All-tail}
use Rattle.surf_model.specs.Surfaces.{IsOrientable}
use Rattle.walk_files.proofs.ClosedPairLemmas.{loops_of_none}
use Rattle.walk_files.proofs.PairLemmas.{pair_of_none}
use Rattle.walk_files.proofs.PairListLemmas.{pairs_of_none}
use Rattle.walk_files.proofs.TextLemmas.{HasVertex, text_walks}
use Rattle.walk_files.specs.ClosedPairs.{loops_fault}
use Rattle.walk_files.specs.Pairs.{pair_fault}
use Rattle.walk_files.specs.declared.fault.WalkFault.{WalkFault}
use Rattle.commands.specs.declared.refusal.Input.TheVariants as inputs
use Rattle.verify_homology_commands.specs.VerifyHomology as homology
use Rattle.program.proofs.PremiseLemmas.{told_check}

-- ---- a file that means one thing

meant_held : {T F : Type 0} (line_of : F → Texts) (meaning : List ℕ → Result T F) (held : Option Files) (name : List ℕ) (input : Input)
    (thing : T) → IsTold held name → Passes (file held name input >>= (λ bytes. meant line_of (meaning bytes))) thing
    → Holds held name (λ bytes. meaning bytes ≡ Ok thing)
meant_held line_of meaning held name input thing told p =
    let bytes = both_passed (file held name input) (λ b. meant line_of (meaning b)) thing p in
    file_holds held name input (λ b. meaning b ≡ Ok thing) bytes.0 told bytes.1 (meant_passed line_of (meaning bytes.0) thing bytes.2)

pub mesh_held : (held : Option Files) (name : List ℕ) (mesh : FaceList) → IsTold held name → Passes (mesh_in held name) mesh
    → Holds held name (SpellsMesh mesh)
mesh_held held name mesh = meant_held off_line meaning_of held name inputs.Mesh mesh

pub certificate_held : (held : Option Files) (name : List ℕ) (shown : Certificate) → IsTold held name
    → Passes (certificate_in held name) shown → Holds held name (SpellsCertificate shown)
certificate_held held name shown told p =
    meant_held certificate_line certificate_of held name inputs.Certificate shown told
    (told_check (IsCertificateEnd (Pass shown)) (Passes (certificate_in_bytes held name) shown) (file_of held name) told p)

pub homology_held : (held : Option Files) (name : List ℕ) (shown : HomologyCert) → IsTold held name
    → Passes (homology.homology_certificate_in held name) shown → Holds held name (λ bytes. cert_of_text bytes ≡ Ok shown)
homology_held held name shown = meant_held homology.fault_line cert_of_text held name inputs.Certificate shown

-- ---- the surface

pub surface_held : (held : Option Files) (name : List ℕ) (surface : FaceList) → IsTold held name → Passes (surface_in held name) surface
    → Holds held name (SpellsMesh surface) × IsOrientableSurface surface
surface_held held name surface told p =
    let mesh = both_passed (mesh_in held name) as_surface surface p in
    let whole = both_passed (closed_alone mesh.0) orientable surface mesh.2 in
    let same : surface ≡ mesh.0 = whole.2.1 ∙ whole.1.1 in
    subst (λ (m : FaceList). Holds held name (SpellsMesh m) × IsOrientableSurface m) (sym same) (
      mesh_held held name mesh.0 told mesh.1,
      record { manifold = whole.1.0; orientable = subst IsOrientable whole.1.1 whole.2.0 },
    )

pub open_held : (held : Option Files) (name : List ℕ) (surface : FaceList) → IsTold held name → Passes (open_surface_in held name) surface
    → Holds held name (SpellsMesh surface) × IsOpenSurface surface × IsOrientable surface
open_held held name surface told p =
    let mesh = both_passed (mesh_in held name) as_open_surface surface p in
    let whole = both_passed (open_surface mesh.0) orientable surface mesh.2 in
    let same : surface ≡ mesh.0 = whole.2.1 ∙ whole.1.1 in
    subst (λ (m : FaceList). Holds held name (SpellsMesh m) × IsOpenSurface m × IsOrientable m) (sym same)
    (mesh_held held name mesh.0 told mesh.1, whole.1.0, subst IsOrientable whole.1.1 whole.2.0)

-- ---- pairs of walks

pub pairs_held : (held : Option Files) (name : List ℕ) (mesh : FaceList) (text : WalkText) → IsTold held name
    → Passes (pairs_in held name mesh) text → Holds held name (SpellsPairs mesh (walks_in_pairs text.walks))
pairs_held held name mesh text told p =
    let bytes = both_passed (file held name inputs.Walks)
    (λ b. meant (numbers_line inputs.Walks) (walk_text_of b) >>= (λ t. pass_unless (pairs_line t.version) (pairs_fault mesh t) t)) text p in
    let read = both_passed (meant (numbers_line inputs.Walks) (walk_text_of bytes.0))
    (λ t. pass_unless (pairs_line t.version) (pairs_fault mesh t) t) text bytes.2 in
    let passed = unless_passed (pairs_line read.0.version) (pairs_fault mesh read.0) read.0 text read.2 in
    let spelled : walk_text_of bytes.0 ≡ Ok read.0 = meant_passed (numbers_line inputs.Walks) (walk_text_of bytes.0) read.0 read.1 in
    let pairs : ArePairs mesh read.0 = pairs_of_none mesh read.0 (text_walks bytes.0 read.0 spelled) passed.0 in
    let spells : SpellsPairs mesh (walks_in_pairs text.walks) bytes.0 =
    record { text = read.0; text_is = spelled; are_pairs = pairs; pairs_are = ap (λ (t : WalkText). walks_in_pairs t.walks) passed.1 } in
    file_holds held name inputs.Walks (SpellsPairs mesh (walks_in_pairs text.walks)) bytes.0 told bytes.1 spells

-- ---- two walks

walks_of_text : (bytes : List ℕ) (walks : List (List ℕ)) → walks_of bytes ≡ Ok walks → All HasVertex walks
walks_of_text bytes walks e = by_text (walk_text_of bytes) refl e
  where
    by_text : (read : Result WalkText WalkFault) → walk_text_of bytes ≡ read → walks_in read ≡ Ok walks → All HasVertex walks
    by_text (Err fault) f e = cc
    by_text (Ok text) f e = let same : text.walks ≡ walks = cc in subst (All HasVertex) same (text_walks bytes text f)

-- what walks with which nothing is wrong spell is spelled by the file from which they passed
walks_held : {F : Type 0} (line_of : F → Texts) (fault_in : List (List ℕ) → Option F) (Spells : (first second bytes : List ℕ) → Type 0)
    (held : Option Files) (name : List ℕ) (walks : List (List ℕ))
    → ((bytes : List ℕ) (read : List (List ℕ)) → walks_of bytes ≡ Ok read → All HasVertex read → fault_in read ≡ None
    → Spells (walk_at read 0) (walk_at read 1) bytes)
    → IsTold held name → Passes (walks_unless line_of fault_in held name) walks
    → Holds held name (Spells (walk_at walks 0) (walk_at walks 1))
walks_held line_of fault_in Spells held name walks of_none told p =
    let bytes = both_passed (file held name inputs.Walks)
    (λ b. meant (numbers_line inputs.Walks) (walks_of b) >>= (λ ws. pass_unless line_of (fault_in ws) ws)) walks p in
    let read = both_passed (meant (numbers_line inputs.Walks) (walks_of bytes.0)) (λ ws. pass_unless line_of (fault_in ws) ws)
    walks bytes.2 in
    let passed = unless_passed line_of (fault_in read.0) read.0 walks read.2 in
    let spelled : walks_of bytes.0 ≡ Ok read.0 = meant_passed (numbers_line inputs.Walks) (walks_of bytes.0) read.0 read.1 in
    file_holds held name inputs.Walks (Spells (walk_at walks 0) (walk_at walks 1)) bytes.0 told bytes.1
    (subst (λ (ws : List (List ℕ)). Spells (walk_at ws 0) (walk_at ws 1) bytes.0) (sym passed.1)
    (of_none bytes.0 read.0 spelled (walks_of_text bytes.0 read.0 spelled) passed.0))

-- the same at two walks with common ends, and at two closed walks
two_held : (mesh : FaceList) (bytes : List ℕ) (walks : List (List ℕ)) → walks_of bytes ≡ Ok walks → All HasVertex walks
    → pair_fault mesh walks ≡ None → SpellsPair mesh (walk_at walks 0) (walk_at walks 1) bytes
two_held mesh bytes [] e all none = cc
two_held mesh bytes (one ∷ []) e all none = cc
two_held mesh bytes (one ∷ two ∷ []) e all none =
    let is = pair_of_none mesh one two (All-head HasVertex one (two ∷ []) all)
    (All-head HasVertex two [] (All-tail HasVertex one (two ∷ []) all)) none in
    let first : is.first ≡ one = let two_are = is.two in cc in
    let second : is.second ≡ two = let two_are = is.two in cc in
    record {
      text = e;
      are = subst (λ (w : List ℕ). AreWalkPair mesh w two) first (subst (AreWalkPair mesh is.first) second is.are);
    }
two_held mesh bytes (one ∷ two ∷ three ∷ walks) e all none = cc

closed_held : (mesh : FaceList) (bytes : List ℕ) (walks : List (List ℕ)) → walks_of bytes ≡ Ok walks → All HasVertex walks
    → loops_fault mesh walks ≡ None → SpellsLoops mesh (walk_at walks 0) (walk_at walks 1) bytes
closed_held mesh bytes [] e all none = cc
closed_held mesh bytes (one ∷ []) e all none = cc
closed_held mesh bytes (one ∷ two ∷ []) e all none =
    let is = loops_of_none mesh one two (All-head HasVertex one (two ∷ []) all)
    (All-head HasVertex two [] (All-tail HasVertex one (two ∷ []) all)) none in
    let first : is.first ≡ one = let two_are = is.two in cc in
    let second : is.second ≡ two = let two_are = is.two in cc in
    record {
      text = e;
      first_closed = subst (IsClosedWalk mesh) first is.first_closed;
      second_closed = subst (IsClosedWalk mesh) second is.second_closed;
    }
closed_held mesh bytes (one ∷ two ∷ three ∷ walks) e all none = cc

pub pair_held : (held : Option Files) (name : List ℕ) (mesh : FaceList) (walks : List (List ℕ)) → IsTold held name
    → Passes (pair_in held name mesh) walks → Holds held name (SpellsPair mesh (walk_at walks 0) (walk_at walks 1))
pair_held held name mesh walks = walks_held pair_line (pair_fault mesh) (SpellsPair mesh) held name walks (two_held mesh)

pub loops_held : (held : Option Files) (name : List ℕ) (mesh : FaceList) (walks : List (List ℕ)) → IsTold held name
    → Passes (loops_in held name mesh) walks → Holds held name (SpellsLoops mesh (walk_at walks 0) (walk_at walks 1))
loops_held held name mesh walks = walks_held loops_line (loops_fault mesh) (SpellsLoops mesh) held name walks (closed_held mesh)
