-- The machine value of a handle, and what lies where it points. Assumes `Logic`.
use Rattle.homotopy_c.proofs.Common.{Good, the_row as Kept, holds_at, ◌≡◌, ℕ, List, [], ◌∷◌, ◌++◌, refl, ◌∙◌, lit<, Option, Some, None, ghosts, Global, box_owns, Fml, SProp, ent, emp, guard, guard_i, snd∗, via, fact_use, lone, Ptr, block_ptr, null_ptr, ptr_val, lies_at, Testable, Struct, ty_ptr, ty_struct, tcons, tnil, Val, vstruct, vcons, vnil, of_list, Ura, Item, Goal, Seq, ‵, given, ◌$◌, move, drop, fsplit, fpick, use1, learn, Logic, sem}
use Rattle.std.proofs.GlobalToken.{dealloc_token-Testable}
use base.Fraction.{full_share}
use denote.RawPtr.{RawPtr}
use denote.Shadow.{shadow, makes_shadow}
use mir.Raw.{raw as bare}

pub ptr_typed : (p : Ptr) → Good ty_ptr (ptr_val p)
ptr_typed (block_ptr b o) = (tt, tt)
ptr_typed null_ptr = (tt, record { fits = lit< tt })

abbrev pub handle_val : Ptr → Val
handle_val p = vstruct (vcons (ptr_val p) vnil)

-- what its field owns, which does not read the struct's name
abbrev pub handle_own : Ptr → List Val → Fml
handle_own p = (Struct (record { name = []; args = []; types = []; fields = RawPtr ∷ [] })).own_val (p, tt)

pub handle_told : (p : Ptr) (vs : List Val) → shadow (handle_own p vs) → vs ≡ handle_val p ∷ []
handle_told p vs s = s.1.0 ∙ (λ i. vstruct (of_list (s.1.1.0 i ++ [])) ∷ [])

pub handle_made : {M : Type 1} {𝓤 : Ura M} (𝓛 : Logic 𝓤) (p : Ptr) → ent 𝓤 (emp 𝓤) (sem 𝓛 (handle_own p (handle_val p ∷ [])))
handle_made 𝓛 p = makes_shadow 𝓛 (handle_own p (handle_val p ∷ [])) (λ _. (tt, (tt, tt))) ((ptr_val p ∷ [], tt), (refl, (refl, tt)))

pub handle_typed : (p : Ptr) → Good (ty_struct [] (tcons ty_ptr tnil)) (handle_val p)
handle_typed (block_ptr b o) = (tt, (tt, tt))
handle_typed null_ptr = (tt, (record { fits = lit< tt }, tt))

-- a box may be compared with null
tested : {M : Type 1} {𝓤 : Ura M} (𝓛 : Logic 𝓤) (alloc : Global) (p : Ptr) (x : Kept.Denot)
    → ent 𝓤 (sem 𝓛 (box_owns (ghosts.dealloc_token alloc) Kept p x))
    (guard 𝓤 (Testable p) (sem 𝓛 (box_owns (ghosts.dealloc_token alloc) Kept p x)))
tested {𝓤 = 𝓤} 𝓛 alloc p x =
    let B : SProp 𝓤 = sem 𝓛 (box_owns (ghosts.dealloc_token alloc) Kept p x) in
    fact_use 𝓤 (Testable p)
    (via 𝓤 _ (snd∗ 𝓤 (sem 𝓛 (lies_at Kept full_share p x)) (sem 𝓛 (ghosts.dealloc_token alloc (bare (lone Kept.mir)) p)))
    (dealloc_token-Testable 𝓛 alloc (bare (lone Kept.mir)) p)) (guard_i 𝓤 (Testable p) B)

-- a handle is null and holds nothing, or holds what lies at its pointer
module _ {M : Type 1} {𝓤 : Ura M} {𝓛 : Logic 𝓤} {K : Type 0} {Γ : List (Item 𝓤)} {G : Goal 𝓤 𝓛.H} where
  pub either_held : K → (alloc : Global) (p : Ptr) (kept : Option Kept.Denot) → (p ≡ null_ptr → kept ≡ None → Seq K 𝓛 Γ G)
      → ((b o : ℕ) (x : Kept.Denot) → p ≡ block_ptr b o → kept ≡ Some x → Testable (block_ptr b o)
      → Seq K 𝓛 (‵ (box_owns (ghosts.dealloc_token alloc) Kept (block_ptr b o) x) ∷ Γ) G)
      → Seq K 𝓛 (‵ (holds_at p kept) ∷ Γ) G
  either_held t alloc null_ptr kept none one = fpick t (λ e. drop t $ none refl e)
  either_held t alloc (block_ptr b o) kept none one =
      fpick t (λ heap. fpick t (λ x. fsplit t $ move t (1 ∷ []) $ fpick t (λ e. drop t $
      use1 𝓛 (given (Testable (block_ptr b o)) (‵ (box_owns (ghosts.dealloc_token alloc) Kept (block_ptr b o) x)))
      (tested 𝓛 alloc (block_ptr b o) x) $
      learn t (λ u. one b o x refl e u))))
