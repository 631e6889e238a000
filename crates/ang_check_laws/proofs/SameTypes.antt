-- Equal types of two modules are equal slot types, since both views show one list.
use Rattle.std.specs.Prelude.{◌≡◌, ◌==◌, ◌&&◌, ◌<◌, ◌-◌, ℕ, Bool, true, false, if◌then◌else◌, Option, Some, None}
use Rattle.std.specs.Bool.{beq}
use Rattle.std.proofs.Common.{refl, sym, ap, ◌∙◌, subst}
use Rattle.std.proofs.lemmas.Bool.{eqb-true, lt-ltb}
use Rattle.ang_view.specs.declared.entry.Entry.{Entry}
use Rattle.ang_view.specs.Registration.{RegistrationList, entry_at, is_seen, seen_entry, seen}
use Rattle.ang_view.proofs.Seen.{entry_at-seen}
use Rattle.ang_types.specs.declared.arg_type.ArgType.TheVariants as type
use Rattle.ang_source_typed.specs.Types.{Key, Family, driver_of, object_type, first_family}
use Rattle.ang_check_laws.specs.HostTypes.{SameTypesHoldTheSame}

shown : (b : Bool) (x y : Entry) → (if b then Some x else None) ≡ Some y → x ≡ y
shown true x y e = cc
shown false x y e = cc

registered_by : (list : RegistrationList) (m : ℕ) (o : Option Entry) (y : Entry) → seen_entry list m o ≡ Some y → o ≡ Some y
registered_by list m None y e = cc
registered_by list m (Some x) y e = ap Some (shown (is_seen list m x) x y e)

registered : (list : RegistrationList) (m n : ℕ) (x : Entry) → entry_at (seen list m) n ≡ Some x → entry_at list n ≡ Some x
registered list m n x e = registered_by list m (entry_at list n) x (sym (entry_at-seen list m n) ∙ e)

first_true : (a b : Bool) → (a && b) ≡ true → a ≡ true
first_true true b h = refl
first_true false b h = h

-- of one entry
held_by : (V : RegistrationList) (m n : ℕ) (x : Entry) → n < first_family → entry_at V n ≡ Some x → object_type V m n ≡ Key x.driver
held_by V m n x lt e = subst (λ b. (if b then Key (driver_of (entry_at V n)) else Family m (n - first_family)) ≡ Key x.driver) (sym (lt-ltb n first_family lt)) (ap (λ o. Key (driver_of o)) e)

objects_same : (list : RegistrationList) (a b m k n j : ℕ) → n ≡ j → (n < first_family) × ((x : Entry) × (entry_at (seen list a) n ≡ Some x)) → (j < first_family) × ((x : Entry) × (entry_at (seen list b) j ≡ Some x))
    → object_type (seen list a) m n ≡ object_type (seen list b) k j
objects_same list a b m k n j e h g =
    let x = h.1.0 in
    let y = g.1.0 in
    let one : Some x ≡ Some y = sym (registered list a n x h.1.1) ∙ ap (λ i. entry_at list i) e ∙ registered list b j y g.1.1 in
    let same : x ≡ y = cc in
    held_by (seen list a) m n x h.0 h.1.1 ∙ ap (λ (u : Entry). Key u.driver) same ∙ sym (held_by (seen list b) k j y g.0 g.1.1)

pub same_types : SameTypesHoldTheSame
same_types list a b m k type.Void type.Void e h g = refl
same_types list a b m k type.Void type.Null e h g = absurd (let x : ⊥ = cc in x)
same_types list a b m k type.Void (type.Plain q) e h g = refl
same_types list a b m k type.Void (type.Enumeration j) e h g = refl
same_types list a b m k type.Void (type.Object j d) e h g = absurd (let x : ⊥ = cc in x)
same_types list a b m k type.Void (type.Handle j d) e h g = absurd (let x : ⊥ = cc in x)
same_types list a b m k type.Null type.Void e h g = absurd (let x : ⊥ = cc in x)
same_types list a b m k type.Null type.Null e h g = refl
same_types list a b m k type.Null (type.Plain q) e h g = absurd (let x : ⊥ = cc in x)
same_types list a b m k type.Null (type.Enumeration j) e h g = absurd (let x : ⊥ = cc in x)
same_types list a b m k type.Null (type.Object j d) e h g = absurd (let x : ⊥ = cc in x)
same_types list a b m k type.Null (type.Handle j d) e h g = absurd (let x : ⊥ = cc in x)
same_types list a b m k (type.Plain p) type.Void e h g = refl
same_types list a b m k (type.Plain p) type.Null e h g = absurd (let x : ⊥ = cc in x)
same_types list a b m k (type.Plain p) (type.Plain q) e h g = refl
same_types list a b m k (type.Plain p) (type.Enumeration j) e h g = refl
same_types list a b m k (type.Plain p) (type.Object j d) e h g = absurd (let x : ⊥ = cc in x)
same_types list a b m k (type.Plain p) (type.Handle j d) e h g = absurd (let x : ⊥ = cc in x)
same_types list a b m k (type.Enumeration n) type.Void e h g = refl
same_types list a b m k (type.Enumeration n) type.Null e h g = absurd (let x : ⊥ = cc in x)
same_types list a b m k (type.Enumeration n) (type.Plain q) e h g = refl
same_types list a b m k (type.Enumeration n) (type.Enumeration j) e h g = refl
same_types list a b m k (type.Enumeration n) (type.Object j d) e h g = absurd (let x : ⊥ = cc in x)
same_types list a b m k (type.Enumeration n) (type.Handle j d) e h g = absurd (let x : ⊥ = cc in x)
same_types list a b m k (type.Object n c) type.Void e h g = absurd (let x : ⊥ = cc in x)
same_types list a b m k (type.Object n c) type.Null e h g = absurd (let x : ⊥ = cc in x)
same_types list a b m k (type.Object n c) (type.Plain q) e h g = absurd (let x : ⊥ = cc in x)
same_types list a b m k (type.Object n c) (type.Enumeration j) e h g = absurd (let x : ⊥ = cc in x)
same_types list a b m k (type.Object n c) (type.Object j d) e h g = objects_same list a b m k n j (eqb-true n j (first_true (n == j) (beq c d) e)) h g
same_types list a b m k (type.Object n c) (type.Handle j d) e h g = absurd (let x : ⊥ = cc in x)
same_types list a b m k (type.Handle n c) type.Void e h g = absurd (let x : ⊥ = cc in x)
same_types list a b m k (type.Handle n c) type.Null e h g = absurd (let x : ⊥ = cc in x)
same_types list a b m k (type.Handle n c) (type.Plain q) e h g = absurd (let x : ⊥ = cc in x)
same_types list a b m k (type.Handle n c) (type.Enumeration j) e h g = absurd (let x : ⊥ = cc in x)
same_types list a b m k (type.Handle n c) (type.Object j d) e h g = absurd (let x : ⊥ = cc in x)
same_types list a b m k (type.Handle n c) (type.Handle j d) e h g = objects_same list a b m k n j (eqb-true n j (first_true (n == j) (beq c d) e)) h g
