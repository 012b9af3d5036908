-- Steps on closed lists lead from a list to one that is joined to it.
use Rattle.joined_loops.proofs.Common.{Joined, IsLoop, LoopLeads, IsRotation, ◌≡◌, ℕ, ◌<◌, arith, sym, ◌∙◌, ap, List, ◌++◌, take, drop, length, append_assoc, length-take-le, take-append-drop, All-take, led, hyper_next}
use Rattle.spoke_rings.proofs.LoopsKeep.{loops-keep}
use Rattle.joined_loops.proofs.Numbers.{Alike, alike-keep}
use Rattle.joined_loops.proofs.Joining.{same-joined, joined-itself, joined-on}

module _ (places : List ℕ) where
  -- what goes from the front to the end joins the two
  rotated : (x y : List ℕ) → IsLoop places x → IsRotation x y → Joined places x y
  rotated x y loop r =
      let front = take r.count x in
      let size = length-take-le r.count x r.within in
      let even = r.even in
      let whole : front ++ y ≡ x ++ front =
      ap (λ l. front ++ l) r.is ∙ sym (append_assoc front (drop r.count x) front)
      ∙ ap (λ l. l ++ front) (take-append-drop r.count x) in (
        front,
        record {
          loop = record { below = All-take (λ spoke. spoke < length places) r.count x loop.below; even = omega arith };
          same = λ s b h. ap (led hyper_next places s) (sym whole);
        },
      )

  led-on : (x y : List ℕ) → IsLoop places x → LoopLeads places x y → Joined places x y × IsLoop places y
  led-on =
      loops-keep places (Alike places) (alike-keep places) (Joined places)
      (record { itself = joined-itself places; on = joined-on places; rotated = rotated })
      (λ x y same. same-joined places x y (λ s b even. same s (record { belongs = b; vertex = even })))

  pub leads-loop : (x y : List ℕ) → IsLoop places x → LoopLeads places x y → IsLoop places y
  leads-loop x y loop leads = (led-on x y loop leads).1

  pub leads-joined : (x y : List ℕ) → IsLoop places x → LoopLeads places x y → Joined places x y
  leads-joined x y loop leads = (led-on x y loop leads).0
