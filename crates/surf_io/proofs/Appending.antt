-- One write after another.
use Rattle.surf_io.proofs.Common.{◌≡◌, ℕ, ◌+◌, ◌-◌, ◌≤◌, List, ◌++◌, length, take, drop, Option, None, Some, refl, sym, ap, ◌∙◌, subst, arith, length-append, take-add, take-append-add, take_rest, take-append-le, length-drop, Result, Ok, Err, OnErr, append_told, Appends, AppendsPrefix, WroteAll, WrotePart, append_assoc}

pub append_told-append : (old : Option (List ℕ)) (xs ys : List ℕ) → append_told (append_told old xs) ys ≡ append_told old (xs ++ ys)
append_told-append None xs ys = refl
append_told-append (Some held) xs ys = ap Some (append_assoc held xs ys)

-- one write after another
pub appends_twice : (old mid new : Option (List ℕ)) (xs ys : List ℕ) → Appends old mid xs → Appends mid new ys → Appends old new (xs ++ ys)
appends_twice old mid new xs ys first second = second ∙ ap (λ o. append_told o ys) first ∙ append_told-append old xs ys

-- a write, and then one that failed
pub prefix_after : (old mid new : Option (List ℕ)) (xs ys : List ℕ) → Appends old mid xs → AppendsPrefix mid new ys
    → AppendsPrefix old new (xs ++ ys)
prefix_after old mid new xs ys first second = record {
  count = length xs + second.count;
  within = omega (arith, length-append xs ys);
  appended = appends_twice old mid new xs (take second.count ys) first second.appended
      ∙ ap (append_told old) (sym (take-append-add xs ys second.count));
}

-- a write that failed, of bytes that more was to follow
pub prefix_wider : (old new : Option (List ℕ)) (xs ys : List ℕ) → AppendsPrefix old new xs → AppendsPrefix old new (xs ++ ys)
prefix_wider old new xs ys first = record {
  count = first.count;
  within = omega (arith, length-append xs ys);
  appended = first.appended ∙ ap (append_told old) (sym (take-append-le first.count xs ys first.within));
}

-- a first part, and then more of what is left of the bytes
pub appends_more : (old mid new : Option (List ℕ)) (bytes : List ℕ) (at n : ℕ)
    → Appends old mid (take at bytes)
    → Appends mid new (take n (take (length bytes - at) (drop at bytes)))
    → Appends old new (take (at + n) bytes)
appends_more old mid new bytes at n first more =
    let mores : new ≡ append_told mid (take n (drop at bytes)) = rw (take_rest bytes at) at more in
    mores
    ∙ ap (λ o. append_told o (take n (drop at bytes))) first
    ∙ append_told-append old (take at bytes) (take n (drop at bytes))
    ∙ ap (append_told old) (sym (take-add at n bytes))

pub within_rest : (bytes : List ℕ) (at n : ℕ) → at ≤ length bytes → n ≤ length (take (length bytes - at) (drop at bytes))
    → at + n ≤ length bytes
within_rest bytes at n started bound =
    let rest : n ≤ length (drop at bytes) = rw (take_rest bytes at) at bound in
    omega (arith, length-drop at bytes)

-- a write, and then one that failed, of the first bytes of what was to follow
pub part_after : {X : Type 0} (written : X → Option (List ℕ)) (faults : X → ℕ) (old mid new : X) (xs ys rest bytes : List ℕ)
    → WroteAll written old mid xs
    → faults old ≤ faults mid → bytes ≡ xs ++ (ys ++ rest) → WrotePart written faults mid new ys → WrotePart written faults old new bytes
part_after written faults old mid new xs ys rest bytes first never_falls is second = record {
  part =
      subst (AppendsPrefix (written old) (written new)) (sym is)
      (prefix_after (written old) (written mid) (written new) xs (ys ++ rest) first
      (prefix_wider (written mid) (written new) ys rest second.part));
  fault = λ below. omega (arith, second.fault below);
}

-- the same where nothing was to follow
pub part_last : {X : Type 0} (written : X → Option (List ℕ)) (faults : X → ℕ) (old mid new : X) (xs ys : List ℕ)
    → WroteAll written old mid xs
    → faults old ≤ faults mid → WrotePart written faults mid new ys → WrotePart written faults old new (xs ++ ys)
part_last written faults old mid new xs ys first never_falls second = record {
  part = prefix_after (written old) (written mid) (written new) xs ys first second.part;
  fault = λ below. omega (arith, second.fault below);
}

-- a write that failed, of the first of the bytes
pub part_first : {X : Type 0} (written : X → Option (List ℕ)) (faults : X → ℕ) (old new : X) (xs rest bytes : List ℕ) → bytes ≡ xs ++ rest
    → WrotePart written faults old new xs → WrotePart written faults old new bytes
part_first written faults old new xs rest bytes is first = record {
  part = subst (AppendsPrefix (written old) (written new)) (sym is) (prefix_wider (written old) (written new) xs rest first.part);
  fault = first.fault;
}

-- what holds of an error holds of it in other words
pub on_err : {X Y P Q : Type 0} (result : Result X Y) → (P → Q) → OnErr result P → OnErr result Q
on_err (Ok x) f h = tt
on_err (Err e) f h = f h
