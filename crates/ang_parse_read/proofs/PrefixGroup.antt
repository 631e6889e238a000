-- Reading a group in two ways looks no further than the fault that is further right.
use Rattle.std.proofs.Common.{◌≡◌, ℕ, ◌+◌, ◌<◌, ◌≤◌, ◌⊎◌, inl, inr, Bool, true, false, List, [], ◌∷◌, ◌++◌, length, Option, Some, None, Ok, Err, refl, ap, sym, subst, ◌∙◌, append_assoc, arith}
use Rattle.std.specs.Prelude.{nat_lt, if◌then◌else◌}
use Rattle.std.proofs.lemmas.List.{length-append}
use Rattle.std.proofs.lemmas.Bool.{lt-ltb, le-ltb, ltb-false}
use borrow.Author.Tests.{ltb-true}
use Rattle.ang_lex.specs.declared.token.Token.{Token}
use Rattle.ang_parse_read.specs.Read.{at, deep, Parser, Outcome}
use Rattle.ang_parse_read.proofs.DependsOnPrefix.{Filled, Kept, Past, Common, Agree, DependsOnPrefix}
use Rattle.ang_parse_read.specs.Group.{fronted, deeper, cut, split, merged, both_at, both}

cut_parts : (t : Token) (s : List Token) → ((d : ℕ) → s ≡ (split s d).0 ++ (split s d).1) → (o : Option ℕ) → t ∷ s ≡ (cut t s (split s) o).0 ++ (cut t s (split s) o).1
cut_parts t s h None = refl
cut_parts t s h (Some d) = ap (λ u. t ∷ u) (h d)

pub parts : (s : List Token) (d : ℕ) → s ≡ (split s d).0 ++ (split s d).1
parts [] d = refl
parts (t ∷ s) d = cut_parts t s (parts s) (deeper t.kind d)

module _ (r z : List Token) where
  -- The group ends in the common tokens.
  record Within (c : List Token) (d : ℕ) : Type 0 where
    group : List Token
    left : List Token
    one : split (c ++ r) d ≡ (group, left ++ r)
    other : split (c ++ z) d ≡ (group, left ++ z)

  -- It has all of them, and ends after it, if at all.
  record Beyond (c : List Token) (d : ℕ) : Type 0 where
    r-in : List Token
    r-behind : List Token
    z-in : List Token
    z-behind : List Token
    r-is : r ≡ r-in ++ r-behind
    z-is : z ≡ z-in ++ z-behind
    one : split (c ++ r) d ≡ (c ++ r-in, r-behind)
    other : split (c ++ z) d ≡ (c ++ z-in, z-behind)

  within_more : (k : Token) (c : List Token) (d i : ℕ) → ((s : List Token) → split (k ∷ s) i ≡ fronted k (split s d)) → Within c d → Within (k ∷ c) i
  within_more k c d i h w = record { group = k ∷ w.group; left = w.left; one = h (c ++ r) ∙ ap (fronted k) w.one; other = h (c ++ z) ∙ ap (fronted k) w.other }

  beyond_more : (k : Token) (c : List Token) (d i : ℕ) → ((s : List Token) → split (k ∷ s) i ≡ fronted k (split s d)) → Beyond c d → Beyond (k ∷ c) i
  beyond_more k c d i h w = record { r-in = w.r-in; r-behind = w.r-behind; z-in = w.z-in; z-behind = w.z-behind; r-is = w.r-is; z-is = w.z-is; one = h (c ++ r) ∙ ap (fronted k) w.one; other = h (c ++ z) ∙ ap (fronted k) w.other }

  more : (k : Token) (c : List Token) (d i : ℕ) → ((s : List Token) → split (k ∷ s) i ≡ fronted k (split s d)) → Within c d ⊎ Beyond c d → Within (k ∷ c) i ⊎ Beyond (k ∷ c) i
  more k c d i h (inl w) = inl (within_more k c d i h w)
  more k c d i h (inr w) = inr (beyond_more k c d i h w)

  ways_at : (t : Token) (c : List Token) (d : ℕ) (o : Option ℕ) → deeper t.kind d ≡ o → ((e : ℕ) → Within c e ⊎ Beyond c e) → Within (t ∷ c) d ⊎ Beyond (t ∷ c) d
  ways_at t c d None is w = inl (record { group = t ∷ []; left = c; one = ap (cut t (c ++ r) (split (c ++ r))) is; other = ap (cut t (c ++ z) (split (c ++ z))) is })
  ways_at t c d (Some e) is w = more t c e d (λ s. ap (cut t s (split s)) is) (w e)

  ways : (c : List Token) (d : ℕ) → Within c d ⊎ Beyond c d
  ways [] d = inr (record { r-in = (split r d).0; r-behind = (split r d).1; z-in = (split z d).0; z-behind = (split z d).1; r-is = parts r d; z-is = parts z d; one = refl; other = refl })
  ways (t ∷ c) d = ways_at t c d (deeper t.kind d) refl (ways c)

  settled : {A : Type 0} (c : List Token) → Agree r z {A = A} (Err (at (c ++ r))) (Err (at (c ++ z)))
  settled [] = inr (omega arith)
  settled (k ∷ c) = inl (record { rest = k ∷ c; filled = tt; is = refl; same = refl })

  settled_ok : {A : Type 0} (x : A) (c : List Token) → Agree r z {A = A} (Ok (x, c ++ r)) (Ok (x, c ++ z))
  settled_ok x [] = inr (omega arith)
  settled_ok x (k ∷ c) = inl (record { rest = k ∷ c; filled = tt; is = refl; same = refl })

  settled_behind : {A : Type 0} (u c : List Token) → Agree r z {A = A} (Err (at (u ++ (c ++ r)))) (Err (at (u ++ (c ++ z))))
  settled_behind u c = rw (← append_assoc u c r, ← append_assoc u c z) (settled (u ++ c))

  within_agrees : {A B : Type 0} (o o' : Outcome A) (u u' : Outcome B) (c : List Token) → Kept o o' → Kept u u' → Agree r z (merged o u (c ++ r)) (merged o' u' (c ++ z))
  within_agrees (Ok a) o' (Ok b) u' c h k = rw (h, k) (settled_ok (Some a.0, Some b.0) c)
  within_agrees (Ok a) o' (Err (at s)) u' c h k = rw (h, k) (settled_ok (Some a.0, None) c)
  within_agrees (Ok a) o' (Err deep) u' c h k = tt
  within_agrees (Err (at s)) o' (Ok b) u' c h k = rw (h, k) (settled_ok (None, Some b.0) c)
  within_agrees (Err (at s)) o' (Err (at t)) u' c h k = rw (h, k) (settled_behind (if nat_lt (length t) (length s) then t else s) c)
  within_agrees (Err (at s)) o' (Err deep) u' c h k = tt
  within_agrees (Err deep) o' u u' c h k = tt

filled-length : (c s : List Token) → Filled c → length s < length (c ++ s)
filled-length [] s f = absurd f
filled-length (k ∷ c) s f = omega (arith, length-append c s)

-- The group has the tokens r1 and z1, and after it are r2 and z2.
module _ (r1 r2 z1 z2 : List Token) where
  further_fault : {A B : Type 0} (v u : List Token) (o : Outcome A) (w : Outcome B) → Common r1 z1 {A = A} v o (λ s. Err (at s)) ⊎ (length v ≤ length r1) → Common r1 z1 {A = B} u w (λ s. Err (at s)) ⊎ (length u ≤ length r1)
      → (b : Bool) → nat_lt (length u) (length v) ≡ b → Agree (r1 ++ r2) (z1 ++ z2) (Err (at ((if b then u else v) ++ r2))) (merged o w z2)
  further_fault v u o w h (inr k) true e = inr (omega (arith, length-append u r2, length-append r1 r2))
  further_fault v u o w (inr h) (inl k) true e = absurd (omega (arith, ltb-true (length u) (length v) e, filled-length k.rest r1 k.filled, ap length k.is))
  further_fault v u o w (inl h) (inl k) true e =
      let lt : nat_lt (length (k.rest ++ z1)) (length (h.rest ++ z1)) ≡ true = lt-ltb _ _ (omega (arith, ltb-true (length u) (length v) e, length-append k.rest z1, length-append h.rest z1, length-append k.rest r1, length-append h.rest r1, ap length k.is, ap length h.is)) in
      inl (record { rest = k.rest; filled = k.filled; is = ap (λ s. s ++ r2) k.is ∙ append_assoc k.rest r1 r2; same = rw (h.same, k.same, lt) (ap (λ s. Err (at s)) (append_assoc k.rest z1 z2)) })
  further_fault v u o w (inr h) k false e = inr (omega (arith, length-append v r2, length-append r1 r2))
  further_fault v u o w (inl h) (inr k) false e = absurd (omega (arith, ltb-false (length u) (length v) e, filled-length h.rest r1 h.filled, ap length h.is))
  further_fault v u o w (inl h) (inl k) false e =
      let le : nat_lt (length (k.rest ++ z1)) (length (h.rest ++ z1)) ≡ false = le-ltb _ _ (omega (arith, ltb-false (length u) (length v) e, length-append k.rest z1, length-append h.rest z1, length-append k.rest r1, length-append h.rest r1, ap length k.is, ap length h.is)) in
      inl (record { rest = h.rest; filled = h.filled; is = ap (λ s. s ++ r2) h.is ∙ append_assoc h.rest r1 r2; same = rw (h.same, k.same, le) (ap (λ s. Err (at s)) (append_assoc h.rest z1 z2)) })

  beyond_agrees : {A B : Type 0} (o o' : Outcome A) (u u' : Outcome B) → Agree r1 z1 o o' → Agree r1 z1 u u' → Agree (r1 ++ r2) (z1 ++ z2) (merged o u r2) (merged o' u' z2)
  beyond_agrees (Ok a) o' (Ok b) u' h k = inr (omega (arith, length-append r1 r2))
  beyond_agrees (Ok a) o' (Err (at s)) u' h k = inr (omega (arith, length-append r1 r2))
  beyond_agrees (Ok a) o' (Err deep) u' h k = tt
  beyond_agrees (Err (at s)) o' (Ok b) u' h k = inr (omega (arith, length-append r1 r2))
  beyond_agrees (Err (at s)) o' (Err (at t)) u' h k = further_fault s t o' u' h k (nat_lt (length t) (length s)) refl
  beyond_agrees (Err (at s)) o' (Err deep) u' h k = tt
  beyond_agrees (Err deep) o' u u' h k = tt

merged_kept : {A B : Type 0} (o o' : Outcome A) (u u' : Outcome B) (s : List Token) → Kept o o' → Kept u u' → Kept (merged o u s) (merged o' u' s)
merged_kept (Ok a) o' (Ok b) u' s h k = rw (h, k) refl
merged_kept (Ok a) o' (Err (at v)) u' s h k = rw (h, k) refl
merged_kept (Ok a) o' (Err deep) u' s h k = tt
merged_kept (Err (at v)) o' (Ok b) u' s h k = rw (h, k) refl
merged_kept (Err (at v)) o' (Err (at u)) u' s h k = rw (h, k) refl
merged_kept (Err (at v)) o' (Err deep) u' s h k = tt
merged_kept (Err deep) o' u u' s h k = tt

module _ (r z : List Token) where
  choice_past : (g s v u : List Token) (b : Bool) → length v ≤ length g → length u ≤ length g → length g + length s ≤ length r → length ((if b then u else v) ++ s) ≤ length r
  choice_past g s v u true h k l = omega (arith, length-append u s)
  choice_past g s v u false h k l = omega (arith, length-append v s)

  merged_past : {A B : Type 0} (g s : List Token) (o : Outcome A) (u : Outcome B) → Past g z o → Past g z u → length g + length s ≤ length r → Past r z (merged o u s)
  merged_past g s (Ok a) (Ok b) h k l = omega arith
  merged_past g s (Ok a) (Err (at v)) h k l = omega arith
  merged_past g s (Ok a) (Err deep) h k l = tt
  merged_past g s (Err (at v)) (Ok b) h k l = omega arith
  merged_past g s (Err (at v)) (Err (at u)) h k l = choice_past g s v u (nat_lt (length u) (length v)) h k l
  merged_past g s (Err (at v)) (Err deep) h k l = tt
  merged_past g s (Err deep) u h k l = tt

  module _ {A B : Type 0} (p p' : Parser A) (q q' : Parser B) (P : (r z : List Token) → DependsOnPrefix r z p p') (Q : (r z : List Token) → DependsOnPrefix r z q q') where
    group_common : (c : List Token) → Filled c → Within r z c 0 ⊎ Beyond r z c 0 → Agree r z (both_at p q (split (c ++ r) 0)) (both_at p' q' (split (c ++ z) 0))
    group_common c f (inl w) = rw (w.one, w.other) (within_agrees r z (p w.group) (p' w.group) (q w.group) (q' w.group) w.left ((P r z).same w.group) ((Q r z).same w.group))
    group_common c f (inr w) =
        subst (λ v. Agree v z (both_at p q (split (c ++ r) 0)) (both_at p' q' (split (c ++ z) 0))) (sym w.r-is)
        (subst (λ v. Agree (w.r-in ++ w.r-behind) v (both_at p q (split (c ++ r) 0)) (both_at p' q' (split (c ++ z) 0))) (sym w.z-is)
        (rw (w.one, w.other) (beyond_agrees w.r-in w.r-behind w.z-in w.z-behind (p (c ++ w.r-in)) (p' (c ++ w.z-in)) (q (c ++ w.r-in)) (q' (c ++ w.z-in)) ((P w.r-in w.z-in).common c f) ((Q w.r-in w.z-in).common c f))))

    pub both_prefix : DependsOnPrefix r z (both p q) (both p' q')
    unfolding both
    both_prefix = record {
      common = λ c f. group_common c f (ways r z c 0);
      past = λ s le. let g = split s 0 in merged_past g.0 g.1 (p g.0) (q g.0) ((P g.0 z).past g.0 (omega arith)) ((Q g.0 z).past g.0 (omega arith)) (omega (arith, ap length (parts s 0), length-append g.0 g.1));
      same = λ s. let g = split s 0 in merged_kept (p g.0) (p' g.0) (q g.0) (q' g.0) g.1 ((P r z).same g.0) ((Q r z).same g.0);
    }
