use Rattle.homology_commands.proofs.Common.{refl}
use Rattle.homology.specs.declared.certificate.HomologyCert.TheVariants.{Chain, Cocycle}
use Rattle.homology_commands.proofs.show_homology.reply_with.Goals as goal

pub returns-in-Chain : goal.returns-in-Chain
returns-in-Chain c =
    rw c.in-Chain.is (λ mesh first second is. record { status_is = refl; text_is = (Chain _, is, refl, refl) })

pub returns-in-Cocycle : goal.returns-in-Cocycle
returns-in-Cocycle c =
    rw c.in-Cocycle.is (λ mesh first second is. record { status_is = refl; text_is = (Cocycle _, is, refl, refl) })
