use Rattle.homology_deciding.proofs.Common.{height_of, ◌≡◌, inl, inr, ap, ◌∙◌, arith, cases_lt, is_some}
use Rattle.homology_deciding.proofs.heights.settle_all.Goals as goal

pub loop-face-preserved : goal.loop-face-preserved
loop-face-preserved c = (
  c.settle.ensures.heights,
  λ f l. elim (cases_lt f c.loop-face.face) [
    | inl less ↦ c.settle.ensures.kept f (c.loop-face.invariant.1 f less)
    | inr last ↦
        let same : f ≡ c.loop-face.face = omega arith in
        ap (λ g. is_some (height_of c.settle.new.heights g)) same
        ∙ c.settle.ensures.found c.loop-face.face c.in_ok-climb.ensures
  ],
  c.settle.ensures.empty,
)
