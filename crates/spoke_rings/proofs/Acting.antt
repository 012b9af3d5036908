-- Going on along a ring, going back and taking out a spur are loop steps.
use Rattle.spoke_rings.proofs.Common.{IsLoop, LoopLeads, SpokeRingView, ring_from_vertex, ring_turn, RingLeads, Shortens, ◌≡◌, ℕ, ◌+◌, ◌-◌, ◌%◌, ◌<◌, ◌≤◌, arith, refl, sym, ◌∙◌, ap, ap₂, subst, Bool, true, false, not, List, [], ◌∷◌, ◌++◌, take, drop, length, get_or, append_assoc, All, take-append_seam, common_steps, length-append, All-take, All-drop}
use Rattle.spoke_rings.proofs.Along.{rotated, rotated-length}
use Rattle.spoke_rings.proofs.Leading.{leads-nowhere, leads-same, leads-on, spur-leaves, turned-round}
use Rattle.spoke_rings.proofs.RingTurns.{turn-rotated, loop-rotated}
use Rattle.spoke_rings.proofs.Pushing.{two-ends, last-apart, from-seam}

abbrev ring : List ℕ → Bool → SpokeRingView
ring s v = record { spokes = s; at_vertex = v }

-- the last spoke comes first where the seam stands in the middle
from-last : (front : List ℕ) (last : ℕ) → ring_from_vertex (ring (front ++ last ∷ []) false) ≡ last ∷ front
from-last front last = grind (arith, common_steps)

module _ (places : List ℕ) where
  forward-leads : (v : Bool) (s r : List ℕ) (f l : ℕ) → s ≡ f ∷ r ++ l ∷ [] →
      LoopLeads places (ring_from_vertex (ring s v)) (ring_from_vertex (ring (rotated 1 s) (not v)))
  forward-leads true s r f l e = grind (arith, from-last)
  forward-leads false s r f l e =
      let after : rotated 1 s ≡ r ++ l ∷ f ∷ [] = ap (rotated 1) e ∙ append_assoc r (l ∷ []) (f ∷ []) in
      leads-on places (ring_from_vertex (ring s false)) (l ∷ f ∷ r) (rotated 1 s) (leads-same places _ _ (from-seam false s r f l e))
      (leads-on places (l ∷ f ∷ r) (r ++ l ∷ f ∷ []) (rotated 1 s) (turned-round places (l ∷ f ∷ []) r refl)
      (leads-same places _ _ (sym after)))

  back-list : (s r : List ℕ) (f l : ℕ) → s ≡ f ∷ r ++ l ∷ [] → rotated (length s - 1) s ≡ l ∷ f ∷ r
  back-list s r f l e = from-seam false s r f l e

  back-leads : (v : Bool) (s r : List ℕ) (f l : ℕ) → s ≡ f ∷ r ++ l ∷ [] → length s % 2 ≡ 0 →
      LoopLeads places (ring_from_vertex (ring s v)) (ring_from_vertex (ring (rotated (length s - 1) s) (not v)))
  back-leads false s r f l e even = leads-nowhere places (rotated (length s - 1) s)
  back-leads true s r f l e even =
      let apart = last-apart f r in
      let init = apart.0 in
      let m = apart.1 in
      let old : s ≡ init ++ m ∷ l ∷ [] = e ∙ ap (λ t. t ++ l ∷ []) apart.2 ∙ append_assoc init (m ∷ []) (l ∷ []) in
      let new : ring_from_vertex (ring (rotated (length s - 1) s) false) ≡ m ∷ l ∷ init =
      ap (λ t. ring_from_vertex (ring t false)) (back-list s r f l e ∙ ap (λ t. l ∷ t) apart.2) ∙ from-last (l ∷ init) m in
      let whole = ap length old in
      let sum = length-append init (m ∷ l ∷ []) in
      leads-on places s (init ++ m ∷ l ∷ []) (ring_from_vertex (ring (rotated (length s - 1) s) false)) (leads-same places _ _ old)
      (leads-on places (init ++ m ∷ l ∷ []) (m ∷ l ∷ init) _ (turned-round places init (m ∷ l ∷ []) (omega arith))
      (leads-same places _ _ (sym new)))

  out-leads : (v : Bool) (s r : List ℕ) (f : ℕ) → s ≡ f ∷ r ++ f ∷ [] → length s % 2 ≡ 0 →
      LoopLeads places (ring_from_vertex (ring s v)) (ring_from_vertex (ring r (not v)))
  out-leads false s r f e even =
      leads-on places (ring_from_vertex (ring s false)) (f ∷ f ∷ r) r (leads-same places _ _ (from-seam false s r f f e)) (spur-leaves
      places [] r f)
  out-leads true s [] f e even = leads-on places s (f ∷ f ∷ []) [] (leads-same places _ _ e) (spur-leaves places [] [] f)
  out-leads true s (x ∷ r) f e even =
      let apart = last-apart x r in
      let init = apart.0 in
      let m = apart.1 in
      let old : s ≡ (f ∷ init) ++ m ∷ f ∷ [] =
      e ∙ ap (λ t. f ∷ t ++ f ∷ []) apart.2 ∙ ap (λ t. f ∷ t) (append_assoc init (m ∷ []) (f ∷ [])) in
      let new : ring_from_vertex (ring (x ∷ r) false) ≡ m ∷ init = ap (λ t. ring_from_vertex (ring t false)) apart.2 ∙ from-last init m in
      let whole = ap length old in
      let sum = length-append (f ∷ init) (m ∷ f ∷ []) in
      leads-on places s ((f ∷ init) ++ m ∷ f ∷ []) (ring_from_vertex (ring (x ∷ r) false)) (leads-same places _ _ old)
      (leads-on places ((f ∷ init) ++ m ∷ f ∷ []) (m ∷ f ∷ f ∷ init) _ (turned-round places (f ∷ init) (m ∷ f ∷ []) (omega arith))
      (leads-on places (m ∷ f ∷ f ∷ init) (m ∷ init) _ (spur-leaves places (m ∷ []) init f) (leads-same places _ _ (sym new))))

-- what is known of a ring that was gone on along
pub record WentOn (places : List ℕ) (by : ℕ) (old new : SpokeRingView) : Type 0 where
  pub acts : RingLeads places old new
  pub as_long : length new.spokes ≡ length old.spokes
  pub turns : (k : ℕ) → ring_turn places new k ≡ ring_turn places old (k + by)

went : (places : List ℕ) (by : ℕ) (v : Bool) (s : List ℕ) (new : SpokeRingView) → IsLoop places s → by % 2 ≡ 1 → by ≤ length s →
    new.spokes ≡ rotated by s → new.at_vertex ≡ not v →
    LoopLeads places (ring_from_vertex (ring s v)) (ring_from_vertex (ring (rotated by s) (not v))) →
    WentOn places by (ring s v) new
went places by v s new loop odd within e f leads =
    let view : new ≡ ring (rotated by s) (not v) = ap₂ ring e f in
    subst (WentOn places by (ring s v)) (sym view) (record {
      acts = record { loop = loop-rotated places s by within loop; leads = leads };
      as_long = rotated-length s by within;
      turns = turn-rotated places v s by odd within;
    })

pub went-forward : (places : List ℕ) (old new : SpokeRingView) → IsLoop places old.spokes → 0 < length old.spokes →
    new.spokes ≡ rotated 1 old.spokes → new.at_vertex ≡ not old.at_vertex → WentOn places 1 old new
went-forward places old new loop some e f =
    let even = loop.even in
    let ends = two-ends old.spokes (omega arith) in
    went places 1 old.at_vertex old.spokes new loop refl (omega arith) e f
    (forward-leads places old.at_vertex old.spokes ends.inner (get_or old.spokes 0 0) (get_or old.spokes (length old.spokes - 1) 0) ends.is)

pub went-back : (places : List ℕ) (old new : SpokeRingView) → IsLoop places old.spokes → 0 < length old.spokes →
    new.spokes ≡ rotated (length old.spokes - 1) old.spokes → new.at_vertex ≡ not old.at_vertex →
    WentOn places (length old.spokes - 1) old new
went-back places old new loop some e f =
    let even = loop.even in
    let ends = two-ends old.spokes (omega arith) in
    went places (length old.spokes - 1) old.at_vertex old.spokes new loop (omega arith) (omega arith) e f
    (back-leads places old.at_vertex old.spokes ends.inner (get_or old.spokes 0 0) (get_or old.spokes (length old.spokes - 1) 0)
    ends.is even)

-- a spur at the seam is taken out
pub took-out : (places : List ℕ) (old new : SpokeRingView) (f l : ℕ) → IsLoop places old.spokes → old.spokes ≡ f ∷ new.spokes ++ l ∷ [] →
    l ≡ f → new.at_vertex ≡ not old.at_vertex → Shortens places old new
took-out places old new f l loop e same v =
    let even = loop.even in
    let spur : old.spokes ≡ f ∷ new.spokes ++ f ∷ [] = e ∙ ap (λ x. f ∷ new.spokes ++ x ∷ []) same in
    let whole = ap length spur in
    let sum = length-append new.spokes (f ∷ []) in
    let inner : take (length new.spokes) (drop 1 old.spokes) ≡ new.spokes =
    ap (λ t. take (length new.spokes) (drop 1 t)) spur ∙ take-append_seam new.spokes (f ∷ []) in
    record {
      acts = record {
        loop = record {
          below = subst (All (λ spoke. spoke < length places)) inner
              (All-take (λ spoke. spoke < length places) (length new.spokes) (drop 1 old.spokes)
              (All-drop (λ spoke. spoke < length places) 1 old.spokes loop.below));
          even = omega arith;
        };
        leads = subst (λ b. LoopLeads places (ring_from_vertex old) (ring_from_vertex (ring new.spokes b))) (sym v)
            (out-leads places old.at_vertex old.spokes new.spokes f spur even);
      };
      shorter = omega arith;
    }

-- one act after another
pub acts-on : (places : List ℕ) (a b c : SpokeRingView) → RingLeads places a b → RingLeads places b c → RingLeads places a c
acts-on places a b c f g = record {
  loop = g.loop;
  leads = leads-on places (ring_from_vertex a) (ring_from_vertex b) (ring_from_vertex c) f.leads g.leads;
}

pub acts-start : (places : List ℕ) (a : SpokeRingView) → IsLoop places a.spokes → RingLeads places a a
acts-start places a loop = record { loop = loop; leads = leads-nowhere places (ring_from_vertex a) }
