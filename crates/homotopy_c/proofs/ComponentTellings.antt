-- What is told of the components of a surface, and what it means.
use Rattle.homotopy_c.proofs.Common.{EndsOn, IsSurfaceFault, Fault, told_fault, Outcome, ◌≡◌, ◌≢◌, ◌⊎◌, inl, inr, ℕ, ◌<◌, ◌≤◌, List, length, get_or, ap, ◌∙◌, arith, cases_lt, get_or_append_left, Result, Ok, Err, FaceList}
use Rattle.std.proofs.Common.{drop}
use Rattle.homotopy_arrays.specs.ArrayComponents.{AreComponentsOf}
use Rattle.homotopy_arrays.specs.declared.components.ComponentNumbers.{ComponentNumbers}
use Rattle.homotopy_arrays.specs.declared.components.SurfaceComponents.{SurfaceComponents}
use Rattle.homotopy_c.specs.ComponentsTold.{AreComponentsPut, DoesTellComponents, IsComponentsCall, TellsComponents}
use Rattle.homotopy_c.specs.declared.codes.TheConstants as codes
use Rattle.homotopy_c.proofs.CodeLemmas.{fault_code}
use Rattle.homotopy_c.proofs.TellingLemmas.{code_is, of_one}

-- what was found fits, or one of the arrays is too short
fits_or_short : (n m k l : ℕ) → ((n ≤ m) × (k ≤ l)) ⊎ ((m < n) ⊎ (l < k))
fits_or_short n m k l =
    elim (cases_lt m n) [
      | inl short ↦ inr (inl short)
      | inr room ↦ elim (cases_lt l k) [ inl short ↦ inr (inr short) | inr fits ↦ inl (room, fits) ]
    ]

pub components_mean : (mesh : FaceList) (old components : List ComponentNumbers) (before places : List ℕ) (outcome : Outcome)
    → IsComponentsCall (Ok mesh) old components before places outcome → outcome.code ≡ codes.DONE
    → DoesTellComponents mesh old components before places outcome
components_mean mesh old components before places outcome h e = by_end h.end h.right h.tells
  where
    put : (found : SurfaceComponents) → AreComponentsOf mesh found → AreComponentsPut found old components before places outcome
        → DoesTellComponents mesh old components before places outcome
    put found are is =
        elim (fits_or_short (length found.numbers.items) (length old) (length found.places.items) (length before)) [
          | inl fit ↦ (let told = is.room fit.0 fit.1 in record {
            found = found;
            are = are;
            components_stand = told.0;
            places_stand = told.1;
            counted = ap (λ (o : Outcome). get_or o.numbers 0 0) told.2;
          })
          | inr short ↦ absurd (omega (arith, e, code_is outcome _ (is.short short).2))
        ]

    by_end : (end : Result SurfaceComponents Fault) → EndsOn (Ok mesh) AreComponentsOf IsSurfaceFault end
        → TellsComponents end old components before places outcome → DoesTellComponents mesh old components before places outcome
    by_end (Ok found) right tells = put found (of_one mesh (λ m. AreComponentsOf m found) right) tells
    by_end (Err fault) right tells = absurd (omega (arith, e, code_is outcome (told_fault fault) tells.2, fault_code fault))

-- the place of a vertex stands in front
pub place_stands : (mesh : FaceList) (old components : List ComponentNumbers) (before places : List ℕ) (outcome : Outcome)
    (told : DoesTellComponents mesh old components before places outcome) (v : ℕ) → v < mesh.count
    → get_or places v 0 ≡ get_or told.found.places.items v 0
place_stands mesh old components before places outcome told v less =
    let found : List ℕ = told.found.places.items in
    ap (λ (xs : List ℕ). get_or xs v 0) told.places_stand
    ∙ get_or_append_left found (drop (length found) before) 0 v (omega (arith, less, told.are.places.each_vertex))

pub components_else : (read : Result FaceList Fault) (old components : List ComponentNumbers) (before places : List ℕ) (outcome : Outcome)
    → IsComponentsCall read old components before places outcome → outcome.code ≢ codes.DONE → (components ≡ old) × (places ≡ before)
components_else read old components before places outcome h differs = by_end h.end h.tells
  where
    by_end : (end : Result SurfaceComponents Fault) → TellsComponents end old components before places outcome
        → (components ≡ old) × (places ≡ before)
    by_end (Ok found) tells =
        elim (fits_or_short (length found.numbers.items) (length old) (length found.places.items) (length before)) [
          | inl fit ↦ absurd (differs (code_is outcome _ (tells.room fit.0 fit.1).2))
          | inr short ↦ (let left = tells.short short in (left.0, left.1))
        ]
    by_end (Err fault) tells = (tells.0, tells.1)
