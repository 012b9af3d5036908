-- How the checks of the cover and of lifts end, and what answers them.
use Rattle.cover_commands.proofs.Common.{stop_answers, thing_answers, stops_first, stops_next, mesh_valid, sound-mesh, sound-pair, IsSound, sound-then, sound-pass, sound-unless_fault, yes_with, Check, End, Refuse, Pass, Passes, pass, ◌>>=◌, mesh_in, pair_in, AnswersTo, Stops, bytes_of, Yes, Refused, few_of_two, WithWays, ways_of, with_ways, ways_in, seen, cover_line, covered, cover_in, mesh_cover, lifts_on, lifts_behind, lifts_in, seen_lifts, lifts_status, lifts_text, lifts_answer, lifted_walks, off_text, cover_by, AreWays, ◌≡◌, inl, inr, ℕ, Bool, List, refl, ap, sym, subst, Option, Result, Ok, Err, MatchResult, Files, FaceList, IsFaceList, HasFileSize, IsClosedManifold, closed_alone, WalkPair}
use Rattle.commands.specs.declared.stop.Stop.{Stop}
use Rattle.commands.specs.declared.text.Text.{Text}
use Rattle.cover_commands.specs.declared.lifting.Lifts.{Lifts}
use Rattle.cover_commands.specs.declared.reading.MeshWithWays.{MeshWithWays}
use Rattle.doubling.proofs.LimitLemmas.{fits_or_too_large, not_too_large, one_limit}
use Rattle.doubling.specs.DoubleFaults.{IsTooLarge}
use Rattle.orientation_cover.proofs.ClassLemmas.{one_ways}
use Rattle.orientation_cover.proofs.ExistingWays.{ways_exist}
use Rattle.surface_commands.proofs.Surfaces.{sound-closed}
use Rattle.commands.specs.declared.stop.Stop.TheVariants as stops

-- ---- each check has one end

one_ways_end : (mesh : FaceList) (a b : End (List Bool)) → (ways_of mesh).Ends a → (ways_of mesh).Ends b → a ≡ b
one_ways_end mesh (Refuse r) b p q = absurd p
one_ways_end mesh (Pass x) (Refuse s) p q = absurd q
one_ways_end mesh (Pass x) (Pass y) p q = ap (λ (bits : List Bool). let end : End (List Bool) = Pass bits in end) (one_ways mesh x y p q)

sound-ways_of : (files : Option Files) (mesh : FaceList) → IsFaceList mesh → IsClosedManifold mesh → IsSound files (ways_of mesh)
sound-ways_of files mesh valid is =
    let are = ways_exist mesh valid (few_of_two mesh is.two_sides) in
    record { some = λ none. none (Pass are.0) are.1; one = λ _ a b p q. one_ways_end mesh a b p q }

sound-with_ways : (files : Option Files) (mesh : FaceList) → IsFaceList mesh → IsSound files (with_ways mesh)
sound-with_ways files mesh valid =
    sound-then files _ _ (sound-closed files mesh valid)
    (λ surface h. sound-then files _ _
    (sound-ways_of files surface (subst IsFaceList (sym h.1) valid) (subst IsClosedManifold (sym h.1) h.0))
    (λ bits _. sound-pass files (record { mesh = surface; bits = bits })))

sound-ways_in : (files : Option Files) (name : List ℕ) → IsSound files (ways_in files name)
sound-ways_in files name =
    sound-then files _ _ (sound-mesh files name) (λ mesh h. sound-with_ways files mesh (mesh_valid files name mesh h))

sound-covered : (files : Option Files) (on : WithWays) → IsSound files (covered on)
sound-covered files on =
    let cover = cover_by on.mesh on.bits in
    sound-unless_fault (covered on) cover_line (IsTooLarge cover) (HasFileSize cover) cover (λ _ h. h) (λ _ h. h) (one_limit cover)
    (not_too_large cover) files
    (λ none. elim (fits_or_too_large cover) [
      | inl small ↦ none (Pass cover) (small, refl)
      | inr beyond ↦ none (Refuse (cover_line beyond.0)) (beyond.0, beyond.1, refl)
    ])

sound-mesh_cover : (files : Option Files) (name : List ℕ) → IsSound files (mesh_cover files name)
sound-mesh_cover files name =
    sound-then files _ _ (sound-then files _ _ (sound-ways_in files name) (λ on _. sound-covered files on))
    (λ cover _. sound-pass files (yes_with (off_text cover)))

sound-lifted_walks : (files : Option Files) (mesh walks : List ℕ) → IsSound files (lifted_walks files mesh walks)
sound-lifted_walks files mesh walks =
    sound-then files _ _
    (sound-then files _ _ (sound-ways_in files mesh)
    (λ on _. sound-then files _ _ (sound-pair files walks on.mesh) (λ pair _. sound-pass files (lifts_on on pair))))
    (λ lifts _. sound-pass files (lifts_answer lifts))

-- ---- a mesh and ways round its vertices

-- what is looked at behind a closed manifold
abbrev behind_closed : FaceList → Check WithWays
behind_closed surface = ways_of surface >>= (λ bits. pass (record { mesh = surface; bits = bits }))

pub ways_stop : (mesh : FaceList) (stop : Stop) → Passes (closed_alone mesh) mesh → Stops (ways_of mesh) stop → Stops (with_ways mesh) stop
ways_stop mesh stop p h =
    stops_next (closed_alone mesh) behind_closed mesh stop p
    (stops_first (ways_of mesh) (λ bits. pass (record { mesh = mesh; bits = bits })) stop h)

pub ways_pass : (mesh : FaceList) (bits : List Bool) → Passes (closed_alone mesh) mesh → AreWays mesh bits
    → Passes (with_ways mesh) (record { mesh = mesh; bits = bits })
ways_pass mesh bits p are = inr (mesh, p, inr (bits, are, refl))

pub file_end : (files : Option Files) (name : List ℕ) (mesh : FaceList) (result : Result MeshWithWays Stop)
    → Passes (mesh_in files name) mesh → MatchResult result (λ on. Passes (with_ways mesh) (seen on)) (Stops (with_ways mesh))
    → MatchResult result (λ on. Passes (ways_in files name) (seen on)) (Stops (ways_in files name))
file_end files name mesh (Ok on) p h = inr (mesh, p, h)
file_end files name mesh (Err stop) p h = stops_next (mesh_in files name) with_ways mesh stop p h

-- ---- the cover

pub mesh_answers : (files : Option Files) (name : List ℕ) (cover : FaceList) → Passes (cover_in files name) cover
    → AnswersTo files (mesh_cover files name) Yes (off_text cover)
mesh_answers files name cover p =
    thing_answers files (cover_in files name) (λ mesh. yes_with (off_text mesh)) cover (off_text cover) (sound-mesh_cover files name) p refl

pub refusal_answers : (files : Option Files) (name : List ℕ) (stop : Stop) (text : Text) → stop ≡ stops.Refused text
    → Stops (cover_in files name) stop → AnswersTo files (mesh_cover files name) Refused (bytes_of text)
refusal_answers files name stop text is h =
    stop_answers files (cover_in files name) (λ mesh. pass (yes_with (off_text mesh))) stop text (sound-mesh_cover files name) is h

-- ---- lifts

pub pair_stop : (files : Option Files) (walks : List ℕ) (on : WithWays) (stop : Stop) → Stops (pair_in files walks on.mesh) stop
    → Stops (lifts_behind files walks on) stop
pair_stop files walks on stop h = stops_first (pair_in files walks on.mesh) (λ pair. pass (lifts_on on pair)) stop h

pub lifts_pass : (files : Option Files) (walks : List ℕ) (on : WithWays) (pair : List (List ℕ)) (lifts : WalkPair)
    → Passes (pair_in files walks on.mesh) pair → lifts ≡ lifts_on on pair → Passes (lifts_behind files walks on) lifts
lifts_pass files walks on pair lifts q e = inr (pair, q, ap (λ (l : WalkPair). let x : End WalkPair = Pass l in x) e)

-- however the lifts of walks end behind the mesh, the whole does
pub lifts_end : (files : Option Files) (mesh walks : List ℕ) (on : WithWays) (result : Result Lifts Stop) → Passes (ways_in files mesh) on
    → MatchResult result (λ lifts. Passes (lifts_behind files walks on) (seen_lifts lifts)) (Stops (lifts_behind files walks on))
    → MatchResult result (λ lifts. Passes (lifts_in files mesh walks) (seen_lifts lifts)) (Stops (lifts_in files mesh walks))
lifts_end files mesh walks on (Ok lifts) p h = inr (on, p, h)
lifts_end files mesh walks on (Err stop) p h = stops_next (ways_in files mesh) (lifts_behind files walks) on stop p h

pub lifts_answers : (files : Option Files) (mesh walks : List ℕ) (lifts : WalkPair) → Passes (lifts_in files mesh walks) lifts
    → AnswersTo files (lifted_walks files mesh walks) (lifts_status lifts) (lifts_text lifts)
lifts_answers files mesh walks lifts p =
    thing_answers files (lifts_in files mesh walks) lifts_answer lifts (lifts_text lifts) (sound-lifted_walks files mesh walks) p refl

pub lift_refusal_answers : (files : Option Files) (mesh walks : List ℕ) (stop : Stop) (text : Text) → stop ≡ stops.Refused text
    → Stops (lifts_in files mesh walks) stop → AnswersTo files (lifted_walks files mesh walks) Refused (bytes_of text)
lift_refusal_answers files mesh walks stop text is h =
    stop_answers files (lifts_in files mesh walks) (λ lifts. pass (lifts_answer lifts)) stop text (sound-lifted_walks files mesh walks) is h
