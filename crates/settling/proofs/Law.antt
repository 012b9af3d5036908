-- The laws, said of words that are written from their start.
use Rattle.settling.proofs.Common.{entries, put_along, IsCanonicalRow, LosesAtMost, Settles, ◌≡◌, ℕ, ◌+◌, ◌<◌, ◌≤◌, arith, sym, ◌∙◌, ap, ◌++◌, length, reverse, reverse-reverse, length-reverse, IsSound, state, good-from-canonical, Put}
use Rattle.turn_words.specs.Canonical.{IsCanonical}
use Rattle.settling.proofs.Rows.{along, along-is, upto, reverse-upto}
use Rattle.settling.proofs.Settling.{within_budget}
use Rattle.settling.proofs.Losses.{loses-at-most}

-- a word read from its end
abbrev ended : Put → Put
ended p = state (reverse p.word) p.change

ended-sound : (d : ℕ) (p : Put) → IsCanonical d p.word → p.change < d → IsSound d (ended p)
ended-sound d p c below = record { good = good-from-canonical d (reverse p.word) (rw (reverse-reverse p.word) c); below = below }

along-length : (d : ℕ) (p : Put) (row : ℕ → ℕ) (j : ℕ) → length (put_along d p row j).word ≡ length (along d (ended p) row j).word
along-length d p row j = ap (λ q. length q.word) (along-is d p row j) ∙ length-reverse (along d (ended p) row j).word

pub settles_within : (d n b : ℕ) (p : Put) (row : ℕ → ℕ) → 5 ≤ d → IsCanonicalRow d n row → IsCanonical d p.word → p.change < d →
    LosesAtMost b d p row → Settles d n b p row
settles_within d n b p row five canonical c below loses =
    let sound = ended-sound d p c below in
    let found = within_budget d n row five canonical (ended p) sound b 0 (λ j. (
    let kept = loses j in
    let start = length-reverse p.word in
    let e : 0 + j ≡ j = omega arith in
    let same = ap (λ i. length (along d (ended p) row i).word) e in
    let now = along-length d p row j in
    omega arith
    )) in
    let e : 0 + found.0 ≡ found.0 = omega arith in
    record {
      start = found.0;
      soon = found.1;
      settled = record {
        only_put = λ count. go found.0 count (λ k. ap (λ i. along d (ended p) row (i + k)) (sym e) ∙ found.2.is k
            ∙ ap (λ i. state (upto row i k (along d (ended p) row i).word) 0) e);
      };
    }
  where
    go : (s count : ℕ) → ((k : ℕ) → along d (ended p) row (s + k) ≡ state (upto row s k (along d (ended p) row s).word) 0) →
        put_along d p row (s + count) ≡ record { word = (put_along d p row s).word ++ entries row s count; change = 0 }
    go s count stays =
        along-is d p row (s + count) ∙ ap ended (stays count)
        ∙ ap (λ w. state w 0) (reverse-upto row s count (along d (ended p) row s).word)
        ∙ ap (λ w. state (w ++ entries row s count) 0) (sym (ap (λ q. q.word) (along-is d p row s)))

pub loses : (d n : ℕ) (p : Put) (row : ℕ → ℕ) → 5 ≤ d → IsCanonicalRow d n row → IsCanonical d p.word → p.change < d →
    (count : ℕ) → count ≤ length (put_along d p row count).word + length p.word
loses d n p row five canonical c below count =
    let most = loses-at-most d five n row canonical (ended p) (ended-sound d p c below) count in
    let now = along-length d p row count in
    let start = length-reverse p.word in
    omega arith

pub settles : (d n : ℕ) (p : Put) (row : ℕ → ℕ) → 5 ≤ d → IsCanonicalRow d n row → IsCanonical d p.word → p.change < d →
    Settles d n (length p.word) p row
settles d n p row five canonical c below =
    settles_within d n (length p.word) p row five canonical c below
    (λ count. (let most = loses d n p row five canonical c below count in omega arith))
