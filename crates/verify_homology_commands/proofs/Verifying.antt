-- How the checks of `verify-homology` end, by the place where the reading ends.
use Rattle.verify_homology_commands.proofs.Common.{stops_first, stops_next, stops_second, Answer, Check, Passes, ◌>>=◌, mesh_in, pair_in, Stops, IsVerdict, HomologyCert, HomologyVerdict, inr, ℕ, List, refl, sym, subst, Ok, Err, Result, MatchResult, ◌≡◌, Option, Files, FaceList, walk_at, homology_certificate_in, homology_judgement, homology_verdict_answer, verify_homology}
use Rattle.commands.specs.Replies.{IsReplyTo, Replies}
use Rattle.commands.specs.declared.reply.Reply.{Reply}
use Rattle.commands.specs.declared.stop.Stop.{Stop}
use Rattle.commands.specs.declared.stop.Stop.TheVariants.{OutOfMemory}

-- what is looked at behind the walks, and behind the mesh
abbrev pub after_pair : Option Files → List ℕ → FaceList → List (List ℕ) → Check Answer
after_pair held certificate faces pair =
    homology_certificate_in held certificate >>= homology_judgement faces (walk_at pair 0) (walk_at pair 1)

abbrev pub after_mesh : Option Files → (walks certificate : List ℕ) → FaceList → Check Answer
after_mesh held walks certificate faces = pair_in held walks faces >>= after_pair held certificate faces

pub walks_stop : (held : Option Files) (mesh walks certificate : List ℕ) (faces : FaceList) (stop : Stop) → Passes (mesh_in held mesh) faces
    → Stops (pair_in held walks faces) stop → Stops (verify_homology held mesh walks certificate) stop
walks_stop held mesh walks certificate faces stop p h =
    stops_second (mesh_in held mesh) (pair_in held walks) (after_pair held certificate) faces stop p h

pub certificate_stops : (held : Option Files) (mesh walks certificate : List ℕ) (faces : FaceList) (pair : List (List ℕ)) (stop : Stop)
    → Passes (mesh_in held mesh) faces → Passes (pair_in held walks faces) pair → Stops (homology_certificate_in held certificate) stop
    → Stops (verify_homology held mesh walks certificate) stop
certificate_stops held mesh walks certificate faces pair stop p q h =
    stops_next (mesh_in held mesh) (after_mesh held walks certificate) faces stop p
    (stops_next (pair_in held walks faces) (after_pair held certificate faces) pair stop q
    (stops_first (homology_certificate_in held certificate) (homology_judgement faces (walk_at pair 0) (walk_at pair 1)) stop h))

pub judged : (held : Option Files) (mesh walks certificate : List ℕ) (faces : FaceList) (pair : List (List ℕ)) (shown : HomologyCert)
    (result : Result Reply Stop) → Passes (mesh_in held mesh) faces → Passes (pair_in held walks faces) pair
    → Passes (homology_certificate_in held certificate) shown
    → MatchResult result (Replies (homology_judgement faces (walk_at pair 0) (walk_at pair 1) shown)) (λ stop. stop ≡ OutOfMemory)
    → MatchResult result (Replies (verify_homology held mesh walks certificate)) (Stops (verify_homology held mesh walks certificate))
judged held mesh walks certificate faces pair shown (Ok reply) p q r h =
    record { answer = h.answer; passes = inr (faces, p, inr (pair, q, inr (shown, r, h.passes))); is_answer = h.is_answer }
judged held mesh walks certificate faces pair shown (Err stop) p q r h =
    subst (Stops (verify_homology held mesh walks certificate)) (sym h) tt

-- the reply to a verdict is one to the judgement
pub verdict_judged : (mesh : FaceList) (first second : List ℕ) (certificate : HomologyCert) (verdict : HomologyVerdict) (reply : Reply)
    → IsVerdict mesh first second certificate verdict → IsReplyTo (homology_verdict_answer verdict) reply
    → Replies (homology_judgement mesh first second certificate) reply
verdict_judged mesh first second certificate verdict reply is h =
    record { answer = homology_verdict_answer verdict; passes = (verdict, refl, is); is_answer = h }
