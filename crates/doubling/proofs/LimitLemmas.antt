-- What was to be made fits, or is beyond one limit.
use Rattle.doubling.proofs.Common.{DoubleFault, ◌≡◌, ◌⊎◌, inl, inr, refl, arith, cases_lt, FaceList, HasFileSize, total_sides}
use Rattle.doubling.specs.DoubleFaults.{IsTooLarge}
use Rattle.doubling.specs.declared.fault.DoubleFault.TheVariants.{TooManyVertices, TooManySides, OutOfMemory}
use Rattle.surf_model.specs.declared.limits.TheConstants.{MOST_VERTICES, MOST_SIDES}

pub fits_or_too_large : (made : FaceList) → HasFileSize made ⊎ ((fault : DoubleFault) × IsTooLarge made fault)
fits_or_too_large made =
    elim (cases_lt MOST_VERTICES made.count) [
      | inl many ↦ inr (TooManyVertices, many)
      | inr few ↦ elim (cases_lt MOST_SIDES (total_sides made)) [
        | inl many ↦ inr (TooManySides, record { few_vertices = few; many_sides = many })
        | inr fits ↦ inl (record { few_vertices = few; few_sides = fits })
      ]
    ]

-- what fits is beyond no limit
pub not_too_large : (made : FaceList) (fault : DoubleFault) → HasFileSize made → IsTooLarge made fault → ⊥
not_too_large made TooManyVertices small beyond = omega (arith, small.few_vertices, beyond)
not_too_large made TooManySides small beyond = omega (arith, small.few_sides, beyond.many_sides)
not_too_large made OutOfMemory small beyond = beyond

pub one_limit : (made : FaceList) (a b : DoubleFault) → IsTooLarge made a → IsTooLarge made b → a ≡ b
one_limit made TooManyVertices TooManyVertices p q = refl
one_limit made TooManyVertices TooManySides p q = absurd (omega (arith, p, q.few_vertices))
one_limit made TooManyVertices OutOfMemory p q = absurd q
one_limit made TooManySides TooManyVertices p q = absurd (omega (arith, p.few_vertices, q))
one_limit made TooManySides TooManySides p q = refl
one_limit made TooManySides OutOfMemory p q = absurd q
one_limit made OutOfMemory b p q = absurd p
