-- The certificate that `verify` looks at, and the command: the check of each has an end, and one where its files are told.
use Rattle.verify_commands.proofs.Common.{mesh_valid, sound-mesh, sound-pair, IsSound, sound-then, sound-meant, sound-file, sound-where_told, Refuse, IsCertificateEnd, certificate_in, certificate_in_bytes, certificate_of, certificate_line, too_large, inl, ℕ, List, refl, Option, Files, walk_at, verify}
use Rattle.commands.specs.declared.refusal.Input.TheVariants as inputs
use Rattle.verify_commands.proofs.SomeVerdict.{sound-judgement}

pub sound-certificate : (held : Option Files) (name : List ℕ) → IsSound held (certificate_in held name)
sound-certificate held name =
    sound-where_told held name (certificate_in_bytes held name) IsCertificateEnd (Refuse (too_large inputs.Certificate)) (λ told. told.0)
    (inl refl)
    (sound-then held _ _ (sound-file held name inputs.Certificate) (λ bytes _. sound-meant held certificate_line (certificate_of bytes)))

pub sound-verify : (held : Option Files) (mesh walks certificate : List ℕ) → IsSound held (verify held mesh walks certificate)
sound-verify held mesh walks certificate =
    sound-then held _ _ (sound-mesh held mesh)
    (λ faces h. sound-then held _ _ (sound-pair held walks faces)
    (λ pair _. sound-then held _ _ (sound-certificate held certificate)
    (λ shown _. sound-judgement held faces (walk_at pair 0) (walk_at pair 1) shown (mesh_valid held mesh faces h))))
