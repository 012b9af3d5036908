-- The headline, from what `decide` and `certify` answer.
use Rattle.program.proofs.Common.{IsCertified, Convinces, decision_of, decision_status, certificate_text, Certificate, Moves, Denial, Status, Yes, No, IsDecided, ◌≡◌, ◌⊎◌, inl, inr, ℕ, List, sym, ◌∙◌, ◌↔◌, Option, Files, FaceList}
use Rattle.program.specs.Headline.{PrintsList, PrintsDenial, Headline}
use Rattle.surf_model.specs.Moves as moves

no_yes : No ≡ Yes → ⊥
no_yes e = cc

prints : (mesh : FaceList) (first second : List ℕ) (status : Status) (text : List ℕ) (shown : Certificate)
    → Convinces mesh first second shown
    → status ≡ decision_status (decision_of shown) → text ≡ certificate_text shown → (status ≡ Yes) ↔ moves.Homotopic mesh first second
    → PrintsList mesh first second status text ⊎ PrintsDenial mesh first second status text
prints mesh first second status text (Moves list) h e f exact = inl (record { list = list; leads = h.leads; status_is = e; text_is = f })
prints mesh first second status text (Denial denial) h e f exact =
    inr (record {
      denial = denial;
      good = h.good;
      first_word = h.first_word;
      second_word = h.second_word;
      unequal = h.differ;
      different = λ homotopic. no_yes (sym e ∙ exact.1 homotopic);
      status_is = e;
      text_is = f;
    })

pub headline : (files : Option Files) (words : List (List ℕ)) (status : Status) (text : List ℕ) → IsDecided files words status text
    → IsCertified files words status text → Headline files words status text
headline files words status text decided certified =
    record {
      decided = decided.answered;
      all_homotopic = decided.exactly;
      certified = λ mesh first second input within.
          let printed = certified.answered mesh first second input within in
          prints mesh first second status text printed.shown printed.convinces printed.status_is printed.text_is
          (certified.exactly mesh first second input within);
    }
