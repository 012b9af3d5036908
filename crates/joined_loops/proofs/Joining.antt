-- To be joined is an equivalence of closed lists, and lists that are joined stay so where each is gone along again.
use Rattle.joined_loops.proofs.Common.{JoinedBy, Joined, repeated, IsLoop, ◌≡◌, ℕ, ◌%◌, ◌<◌, arith, refl, sym, ◌∙◌, ap, subst, zero, suc, List, [], ◌∷◌, ◌++◌, length, reverse, append_assoc, common_steps, reverse-reverse, length-reverse, append-nil, All-nil, led-append, led, HyperState, IsEven, hyper_next, BelongsTo, all-from, in-range-reverse, next_belongs, hyper_there_and_back, InRange, reverse-cons}
use Rattle.joined_loops.proofs.Going.{loop-range, led-belongs, led-even}

module _ (places : List ℕ) where
  abbrev run : HyperState → List ℕ → HyperState
  run s q = led hyper_next places s q

  run-on : (s : HyperState) (x y : List ℕ) → run s (x ++ y) ≡ run (run s x) y
  run-on = led-append hyper_next places

  -- a list and the same list backwards lead home
  home : (s : HyperState) (q : List ℕ) → BelongsTo places s → InRange (length places) q → run (run s q) (reverse q) ≡ s
  home s [] b i = refl
  home s (x ∷ q) b i =
      ap (run (run (hyper_next places s x) q)) (reverse-cons x q)
      ∙ run-on (run (hyper_next places s x) q) (reverse q) (x ∷ [])
      ∙ ap (λ t. hyper_next places t x) (home (hyper_next places s x) q (next_belongs places s x b i.0) i.1)
      ∙ hyper_there_and_back places s x b i.0

  pub loop-none : IsLoop places []
  loop-none = record { below = All-nil (λ spoke. spoke < length places); even = refl }

  pub loop-append : (x y : List ℕ) → IsLoop places x → IsLoop places y → IsLoop places (x ++ y)
  loop-append x y h k = grind (arith, common_steps)

  loop-back : (q : List ℕ) → IsLoop places q → IsLoop places (reverse q)
  loop-back q h = record {
    below = all-from (length places) (reverse q)
        (subst (InRange (length places)) (append-nil (reverse q)) (in-range-reverse (length places) q [] (loop-range places q h) tt));
    even = ap (λ n. n % 2) (length-reverse q) ∙ h.even;
  }

  pub same-joined : (x y : List ℕ) → ((s : HyperState) → BelongsTo places s → IsEven s → run s x ≡ run s y) → Joined places x y
  same-joined x y h = ([], record { loop = loop-none; same = λ s b e. ap (run s) (append-nil x) ∙ h s b e })

  pub joined-itself : (x : List ℕ) → Joined places x x
  joined-itself x = same-joined x x (λ s b e. refl)

  pub joined-back : (x y : List ℕ) → IsLoop places x → Joined places x y → Joined places y x
  joined-back x y loop h =
      let q = h.0 in
      let range = loop-range places q h.1.loop in
      let back = loop-back q h.1.loop in
      let back_range = loop-range places (reverse q) back in (
        reverse q,
        record {
          loop = back;
          same = λ s b e. (
              let t = run s (reverse q) in
              let t_belongs = led-belongs places s (reverse q) b back_range in
              let t_even = led-even places s (reverse q) b e back in
              let from : run t q ≡ s = ap (run t) (sym (reverse-reverse q)) ∙ home s (reverse q) b back_range in
              run-on s y (reverse q) ∙ ap (λ u. run (run u y) (reverse q)) (sym from)
              ∙ ap (λ u. run u (reverse q)) (sym (run-on t q y) ∙ sym (h.1.same t t_belongs t_even) ∙ run-on t x q)
              ∙ home (run t x) q (led-belongs places t x t_belongs (loop-range places x loop)) range ∙ sym (run-on s (reverse q) x)
              );
        },
      )

  pub joined-on : (x y z : List ℕ) → Joined places x y → Joined places y z → Joined places x z
  joined-on x y z h k =
      let p = h.0 in
      let q = k.0 in (
        p ++ q,
        record {
          loop = loop-append p q h.1.loop k.1.loop;
          same = λ s b e. (
              let t = run s p in
              let t_belongs = led-belongs places s p b (loop-range places p h.1.loop) in
              let t_even = led-even places s p b e h.1.loop in
              ap (run s) (sym (append_assoc x p q)) ∙ run-on s (x ++ p) q ∙ ap (λ u. run u q) (h.1.same s b e)
              ∙ ap (λ u. run u q) (run-on s p y) ∙ sym (run-on t y q) ∙ k.1.same t t_belongs t_even
              ∙ sym (run-on s p (q ++ z)) ∙ ap (run s) (sym (append_assoc p q z))
              );
        },
      )

  -- gone along again and again
  pub joined-again : (x y : List ℕ) → IsLoop places x → (h : Joined places x y) → (count : ℕ) →
      JoinedBy places (repeated x count) (repeated y count) h.0
  joined-again x y loop h zero = record { loop = h.1.loop; same = λ s b e. ap (run s) (sym (append-nil h.0)) }
  joined-again x y loop h (suc count) =
      let q = h.0 in
      let more = repeated x count in
      let other = repeated y count in
      record {
        loop = h.1.loop;
        same = λ s b e. (
            let t = run s x in
            let t_belongs = led-belongs places s x b (loop-range places x loop) in
            let t_even = led-even places s x b e loop in
            ap (run s) (append_assoc x more q) ∙ run-on s x (more ++ q) ∙ (joined-again x y loop h count).same t t_belongs t_even
            ∙ run-on t q other ∙ ap (λ u. run u other) (sym (run-on s x q) ∙ h.1.same s b e)
            ∙ sym (run-on s (q ++ y) other) ∙ ap (run s) (append_assoc q y other)
            );
      }
