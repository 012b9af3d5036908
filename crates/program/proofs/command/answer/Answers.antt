use Rattle.program.proofs.Common.{runs_unread}
use Rattle.program.proofs.command.answer.Goals as goal

pub returns-in-Decide : goal.returns-in-Decide
returns-in-Decide g c = rw c.in-Decide.is c.decide.ensures

pub returns-in-Certify : goal.returns-in-Certify
returns-in-Certify g c = rw c.in-Certify.is c.certify.ensures

pub returns-in-Loops : goal.returns-in-Loops
returns-in-Loops g c = rw c.in-Loops.is c.loops.ensures

pub returns-in-DecideOpen : goal.returns-in-DecideOpen
returns-in-DecideOpen g c = rw c.in-DecideOpen.is c.decide_open.ensures

pub returns-in-CertifyOpen : goal.returns-in-CertifyOpen
returns-in-CertifyOpen g c = rw c.in-CertifyOpen.is c.certify_open.ensures.runs

pub returns-in-Homology : goal.returns-in-Homology
returns-in-Homology g c = rw c.in-Homology.is c.show_homology.ensures

pub returns-in-Verify : goal.returns-in-Verify
returns-in-Verify g c = rw c.in-Verify.is c.verify.ensures

pub returns-in-VerifyHomology : goal.returns-in-VerifyHomology
returns-in-VerifyHomology g c = rw c.in-VerifyHomology.is c.verify_homology.ensures

pub returns-in-Trial : goal.returns-in-Trial
returns-in-Trial g c =
    rw c.in-Trial.is (runs_unread c.trial.ensures.no_fault c.trial.ensures.end)
