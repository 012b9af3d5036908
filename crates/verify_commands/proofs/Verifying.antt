-- How the checks of `verify` end, by the place where the reading ends, and the verdicts on a denial.
use Rattle.verify_commands.proofs.Common.{stops_next, stops_second, Answer, Check, Passes, ◌>>=◌, mesh_in, pair_in, certificate_in, Concludes, IsReplyTo, Replies, Stops, Certificate, Moves, Denial, Stop, OutOfMemory, IsDenialVerdict, DenialVerdict, verdict_of, Verdict, inr, ℕ, List, refl, sym, subst, MatchResult, ◌≡◌, Option, Files, FaceList, walk_at, IsVerdictOnFile, denial_answer, judged_file, judgement, verdict_answer, verify}
use Rattle.commands.specs.declared.reply.Reply.{Reply}
use Rattle.std.proofs.Common.{Ok, Err, Result}
use Rattle.labellings.specs.declared.denial.Denial as denials

-- what is looked at behind the walks, and behind the mesh
abbrev pub after_pair : Option Files → List ℕ → FaceList → List (List ℕ) → Check Answer
after_pair held certificate faces pair = judged_file held certificate faces (walk_at pair 0) (walk_at pair 1)

abbrev pub after_mesh : Option Files → (walks certificate : List ℕ) → FaceList → Check Answer
after_mesh held walks certificate faces = pair_in held walks faces >>= after_pair held certificate faces

pub walks_stop : (held : Option Files) (mesh walks certificate : List ℕ) (faces : FaceList) (stop : Stop) → Passes (mesh_in held mesh) faces
    → Stops (pair_in held walks faces) stop → Stops (verify held mesh walks certificate) stop
walks_stop held mesh walks certificate faces stop p h =
    stops_second (mesh_in held mesh) (pair_in held walks) (after_pair held certificate) faces stop p h

-- as the judgement on the file ends, the command does
pub concluded : (held : Option Files) (mesh walks certificate : List ℕ) (faces : FaceList) (pair : List (List ℕ))
    (result : Result Reply Stop) → Passes (mesh_in held mesh) faces → Passes (pair_in held walks faces) pair
    → Concludes (after_pair held certificate faces pair) result → Concludes (verify held mesh walks certificate) result
concluded held mesh walks certificate faces pair (Ok reply) p q h =
    record { answer = h.answer; passes = inr (faces, p, inr (pair, q, h.passes)); is_answer = h.is_answer }
concluded held mesh walks certificate faces pair (Err stop) p q h =
    stops_next (mesh_in held mesh) (after_mesh held walks certificate) faces stop p
    (stops_next (pair_in held walks faces) (after_pair held certificate faces) pair stop q h)

-- a certificate that passes, and the judgement on it
pub judged : (held : Option Files) (name : List ℕ) (mesh : FaceList) (first second : List ℕ) (shown : Certificate)
    (result : Result Reply Stop) → Passes (certificate_in held name) shown
    → MatchResult result (Replies (judgement mesh first second shown)) (λ stop. stop ≡ OutOfMemory)
    → Concludes (judged_file held name mesh first second) result
judged held name mesh first second shown (Ok reply) p h =
    record { answer = h.answer; passes = inr (shown, p, h.passes); is_answer = h.is_answer }
judged held name mesh first second shown (Err stop) p h = subst (Stops (judged_file held name mesh first second)) (sym h) tt

-- the reply to the verdict on a list of moves is one to the judgement
pub moves_judged : (held : Option Files) (name : List ℕ) (mesh : FaceList) (first second : List ℕ) (verdict : Verdict) (reply : Reply)
    → IsVerdictOnFile held name mesh first second verdict → IsReplyTo (verdict_answer verdict) reply
    → Concludes (judged_file held name mesh first second) (Ok reply)
moves_judged held name mesh first second verdict reply is h =
    record {
      answer = verdict_answer (verdict_of mesh first second is.list);
      passes = inr (Moves is.list, is.passes, refl);
      is_answer = subst (λ (v : Verdict). IsReplyTo (verdict_answer v) reply) is.is h;
    }

-- the reply to a verdict on a denial is one to the judgement
pub denial_judged : (mesh : FaceList) (first second : List ℕ) (denial : denials.Denial) (verdict : DenialVerdict)
    (result : Result Reply Stop) → IsDenialVerdict mesh first second denial verdict
    → MatchResult result (IsReplyTo (denial_answer verdict)) (λ stop. stop ≡ OutOfMemory)
    → MatchResult result (Replies (judgement mesh first second (Denial denial))) (λ stop. stop ≡ OutOfMemory)
denial_judged mesh first second denial verdict (Ok reply) is h =
    record { answer = denial_answer verdict; passes = (verdict, refl, is); is_answer = h }
denial_judged mesh first second denial verdict (Err stop) is h = h
