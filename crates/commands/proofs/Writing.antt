-- What is written piece by piece.
use Rattle.commands.proofs.Common.{line, behind_blank, in_lines, phrase_text, Phrase, ◌≡◌, ℕ, suc, ◌+◌, ◌<◌, ◌≤◌, List, [], ◌∷◌, ◌++◌, length, get_or, take, drop, sym, ap, subst, ◌∙◌, append_assoc, arith, flat_map-append, take_all, take_more, map-append, append-nil, Option, Result, Ok, Err, OnOk, OnErr, map, flat_map, appends_twice, on_err, part_after, part_first, part_last, EachPut, all-written, on_ok, only-then, part-written, append_told, Appends, AppendsPrefix, OnlyWrites, WroteAll, WrotePart, Rose, Gathers, Puts}
use Rattle.commands.specs.Writes.{Writes}
use Rattle.std.proofs.Math.Seq.{split_at}

-- the whole is a first part of itself
AppendsPrefix-whole : (a b : Option (List ℕ)) (bytes : List ℕ) → Appends a b bytes → AppendsPrefix a b bytes
AppendsPrefix-whole a b bytes p =
    record {
      count = length bytes;
      within = omega arith;
      appended = p
          ∙ ap (append_told a) (sym (take_all (length bytes) bytes (omega arith)));
    }

-- the whole was written, and could not be settled
pub part_unsettled : {X : Type 0} {written : X → Option (List ℕ)} {faults : X → ℕ} {old new : X} (mid : X) (text : List ℕ)
    → WroteAll written old mid text → faults old ≤ faults mid → written new ≡ written mid → Rose (faults mid) (faults new)
    → WrotePart written faults old new text
part_unsettled {X} {written} {faults} {old} {new} mid text whole falls same rose = record {
  part = AppendsPrefix-whole (written old) (written new) text (same ∙ whole);
  fault = λ below. let risen : faults mid < faults new = rose below in omega (arith, falls, risen);
}

-- what failed, where two things are known of it
pub both_err : {X Y P Q R : Type 0} (result : Result X Y) → (P → Q → R) → OnErr result P → OnErr result Q → OnErr result R
both_err (Ok x) f p q = tt
both_err (Err e) f p q = f p q

-- a first phrase, and others behind it
abbrev pub so_far : Phrase → List Phrase → List ℕ
so_far first others = phrase_text first ++ flat_map behind_blank (map phrase_text others)

-- what is left of a line behind the phrases so far
pub line-at : (first : Phrase) (before : List Phrase) (x : Phrase) (after : List Phrase)
    → line (phrase_text first) (map phrase_text (before ++ x ∷ after))
    ≡ so_far first before ++ (behind_blank (phrase_text x) ++ (flat_map behind_blank (map phrase_text after) ++ 10 ∷ []))
line-at first before x after =
    let f = phrase_text first in
    let b : List ℕ = flat_map behind_blank (map phrase_text before) in
    let p : List ℕ = behind_blank (phrase_text x) in
    let r : List ℕ = flat_map behind_blank (map phrase_text after) in
    let all : flat_map behind_blank (map phrase_text (before ++ x ∷ after)) ≡ b ++ (p ++ r) =
    ap (flat_map behind_blank) (map-append phrase_text before (x ∷ after))
    ∙ flat_map-append behind_blank (map phrase_text before) (map phrase_text (x ∷ after)) in
    ap (λ (t : List ℕ). (f ++ t) ++ 10 ∷ []) all
    ∙ ap (λ (t : List ℕ). t ++ 10 ∷ []) (sym (append_assoc f b (p ++ r)))
    ∙ append_assoc (f ++ b) (p ++ r) (10 ∷ [])
    ∙ ap (λ (t : List ℕ). (f ++ b) ++ t) (append_assoc p r (10 ∷ []))

-- a phrase that was not written whole is a first part of the rest of the line
pub part_of_line : {X : Type 0} (written : X → Option (List ℕ)) (faults : X → ℕ) (old mid new : X) (first : Phrase)
    (others : List Phrase) (i : ℕ) (d : Phrase)
    → i < length others → WroteAll written old mid (so_far first (take i others)) → faults old ≤ faults mid
    → WrotePart written faults mid new (behind_blank (phrase_text (get_or others i d)))
    → WrotePart written faults old new (line (phrase_text first) (map phrase_text others))
part_of_line written faults old mid new first others i d below before never_falls failed =
    let x = get_or others i d in
    let after : List ℕ = flat_map behind_blank (map phrase_text (drop (suc i) others)) ++ 10 ∷ [] in
    part_after written faults old mid new (so_far first (take i others)) (behind_blank (phrase_text x)) after
    (line (phrase_text first) (map phrase_text others))
    before never_falls
    (ap (λ (t : List Phrase). line (phrase_text first) (map phrase_text t)) (split_at others i d below)
    ∙ line-at first (take i others) x (drop (suc i) others))
    failed

-- ---- one text behind another

-- the first text was written, and the second is the end of the call
pub writes_then : {X V E : Type 0} (written : X → Option (List ℕ)) (settled faults : X → ℕ) (old mid new : X) (s t : List ℕ)
    (result : Result V E)
    → WroteAll written old mid s → OnlyWrites settled faults old mid → Writes written settled faults mid new t result
    → Writes written settled faults old new (s ++ t) result
writes_then written settled faults old mid new s t result first only h =
    record {
      ok = on_ok result (appends_twice (written old) (written mid) (written new) s t first) h.ok;
      failed = on_err result (part_last written faults old mid new s t first only.never_falls) h.failed;
      only_writes =
          record {
            same_settled = h.only_writes.same_settled ∙ only.same_settled;
            never_falls = omega (arith, only.never_falls, h.only_writes.never_falls);
          };
    }

-- a first text was not written whole
pub writes_stops : {X V W E F : Type 0} (written : X → Option (List ℕ)) (settled faults : X → ℕ) (old new : X) (s rest whole : List ℕ)
    (x : E) (y : F)
    → whole ≡ s ++ rest → Writes {V = V} written settled faults old new s (Err x)
    → Writes {V = W} written settled faults old new whole (Err y)
writes_stops written settled faults old new s rest whole x y is h =
    record { ok = tt; failed = part_first written faults old new s rest whole is h.failed; only_writes = h.only_writes }

-- ---- a text behind a line

-- the line was written, and the text is the end of the call
pub writes_behind : {X V E : Type 0} {written : X → Option (List ℕ)} {settled faults : X → ℕ} {old mid new : X} {result : Result V E}
    {line told : List ℕ} (text : List ℕ) → line ≡ told → WroteAll written old mid line → OnlyWrites settled faults old mid
    → Writes written settled faults mid new text result → Writes written settled faults old new (told ++ text) result
writes_behind {X} {V} {E} {written} {settled} {faults} {old} {mid} {new} {result} {line} text is first only h =
    subst (λ (t : List ℕ). Writes written settled faults old new (t ++ text) result) is
    (writes_then written settled faults old mid new line text result first only h)

-- the line was not written whole
pub writes_no_line : {X V W E F : Type 0} {written : X → Option (List ℕ)} {settled faults : X → ℕ} {old new : X} {x : E} {y : F}
    {line told : List ℕ} (text : List ℕ) → line ≡ told → Writes {V = V} written settled faults old new line (Err x)
    → Writes {V = W} written settled faults old new (told ++ text) (Err y)
writes_no_line {X} {V} {W} {E} {F} {written} {settled} {faults} {old} {new} {x} {y} {line} text is h =
    writes_stops written settled faults old new line text _ x y (ap (λ (t : List ℕ). t ++ text) (sym is)) h

-- ---- a text that was put into a new piece

-- the text was put, and what the piece holds of it is written in the end
pub writes_put : {X V E : Type 0} {written : X → Option (List ℕ)} {settled faults : X → ℕ} {a b : X} {held left text : List ℕ} (c : X)
    (result : Result V E) → held ≡ [] → Gathers written a b held left text → OnlyWrites settled faults a b
    → OnOk result (WroteAll written b c left) → OnErr result (AppendsPrefix (written b) (written c) left)
    → OnErr result (Rose (faults b) (faults c)) → OnlyWrites settled faults b c → Writes written settled faults a c text result
writes_put {X} {V} {E} {written} {settled} {faults} {a} {b} {held} {left} {text} c result new gathers only out part fault then = record {
  ok = all-written c result new gathers out;
  failed = part-written faults c result new gathers only.never_falls part fault;
  only_writes = only-then settled faults a b c only then;
}

-- each of some things was put
pub writes_each : {X A V E : Type 0} {written : X → Option (List ℕ)} {settled faults : X → ℕ} {a b : X} {held left : List ℕ}
    {put : A → List ℕ} {all : List A} {k : ℕ} (c : X) (result : Result V E) → held ≡ []
    → EachPut written settled faults a b held left put all k → length all ≤ k → OnOk result (WroteAll written b c left)
    → OnErr result (AppendsPrefix (written b) (written c) left) → OnErr result (Rose (faults b) (faults c)) → OnlyWrites settled faults b c
    → Writes written settled faults a c (flat_map put all) result
writes_each {X} {A} {V} {E} {written} {settled} {faults} {a} {b} {held} {left} {put} {all} {k} c result new each past out part fault then =
    writes_put c result new
    (subst (λ (xs : List A). Gathers written a b held left (flat_map put xs)) (take_all k all past) each.gathers) each.only out part fault
    then

-- the text could not be put
pub writes_unput : {X V E : Type 0} {written : X → Option (List ℕ)} {settled faults : X → ℕ} {result : Result V E} {e : E} {a b : X}
    {held left text : List ℕ} → result ≡ Err e → held ≡ [] → Puts written settled faults result a b held left text
    → Writes written settled faults a b text result
writes_unput {X} {V} {E} {written} {settled} {faults} {result} {e} {a} {b} {held} {left} {text} is new puts = record {
  ok = subst (λ (r : Result V E). OnOk r (WroteAll written a b text)) (sym is) tt;
  failed = on_err result (subst (WrotePart written faults a b) (ap (λ (h : List ℕ). h ++ text) new)) puts.failed;
  only_writes = puts.only_writes;
}

-- one line more
pub lines-more : (lines : List (List ℕ)) (i : ℕ) (d : List ℕ) → i < length lines
    → in_lines (take (i + 1) lines) ≡ in_lines (take i lines) ++ get_or lines i d
lines-more lines i d below =
    ap in_lines (take_more lines i d below)
    ∙ flat_map-append (λ (line : List ℕ). line) (take i lines) (get_or lines i d ∷ [])
    ∙ ap (λ (t : List ℕ). in_lines (take i lines) ++ t) (append-nil (get_or lines i d))

-- a line, with those before and behind it
pub lines-parts : (lines : List (List ℕ)) (i : ℕ) (d : List ℕ) → i < length lines
    → in_lines lines ≡ in_lines (take i lines) ++ (get_or lines i d ++ in_lines (drop (suc i) lines))
lines-parts lines i d below =
    ap in_lines (split_at lines i d below)
    ∙ flat_map-append (λ (line : List ℕ). line) (take i lines) (get_or lines i d ∷ drop (suc i) lines)
