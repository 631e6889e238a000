-- Which hidden entries help a refused use, by what the code looks at in turn.
use Rattle.std.specs.Prelude.{ℕ, ◌≡◌, ◌<◌, Bool, true, false, cond, not, ◌&&◌, ◌||◌, if◌then◌else◌, is_some, [], ◌∷◌, map, zero, suc, Option, Some, None}
use Rattle.std.proofs.Common.{refl, sym, ap, ◌∙◌}
use Rattle.ang_types.specs.declared.asks.Asks.{Asks}
use Rattle.ang_types.specs.declared.asks.Refused.{Refused}
use Rattle.ang_view.specs.declared.entry.Entry.{Entry}
use Rattle.ang_view.specs.Hidden.{hidden, hidden_entry, is_hidden, seen_with}
use Rattle.ang_view.specs.Registration.{RegistrationList, entry_at, is_seen, seen, seen_entry}
use Rattle.ang_view.proofs.Seen.{entry_at-seen}
use Rattle.ang_names_known.specs.Items.{is_empty}
use Rattle.ang_check_uses.specs.Uses.{functions_of, resolution_of}
use Rattle.ang_check_contest.specs.Scopes.{Scope}
use Rattle.ang_check_denials.specs.Added.{adds, is_joined, named_with}
use Rattle.ang_check_denials.specs.Denials.{helps, is_bare, is_call, is_function_entry, is_own, is_taken, means_entry, stays}
use Rattle.ang_check_denials.proofs.Meaning.{adds_means}

-- ---- names that stay the script's

regrouped : (c f e : Bool) → (c && (f && not e)) ≡ ((c && not e) && f)
regrouped false f e = refl
regrouped true true true = refl
regrouped true true false = refl
regrouped true false true = refl
regrouped true false false = refl

taken_or : (b w t : Bool) → (b && (w && not t)) ≡ (if t then false else b && w)
taken_or true true true = refl
taken_or true true false = refl
taken_or true false true = refl
taken_or true false false = refl
taken_or false w true = refl
taken_or false w false = refl

pub stays_is : (s : Scope) (r : Refused) (a : Asks) (o : Option Entry) (joined : Bool) → joined ≡ is_joined s r.error.name a
    → stays s r a o ≡ (if joined && is_function_entry o then false else is_taken s r a)
stays_is s r a o joined e =
    let own = is_own s r a in
    ap (λ t. is_bare a && (own && not t)) (regrouped (is_call a) (is_function_entry o) (is_empty (functions_of s r.error.name)))
    ∙ sym (ap (λ j. is_bare a && (own && not (j && is_function_entry o))) e)
    ∙ taken_or (is_bare a) own (joined && is_function_entry o)

-- as it is told from whether the name is taken
stays_as : (s : Scope) (r : Refused) (a : Asks) (o : Option Entry) (joined taken told : Bool) → joined ≡ is_joined s r.error.name a → taken ≡ is_taken s r a
    → told ≡ (if joined && is_function_entry o then false else taken) → told ≡ stays s r a o
stays_as s r a o joined taken told j t e =
    e ∙ ap (λ b. if joined && is_function_entry o then false else b) t ∙ sym (stays_is s r a o joined j)

-- ---- what is hidden is not seen

at_map : (h : Option Entry → Option Entry) → h None ≡ None → (list : RegistrationList) (n : ℕ) → entry_at (map h list) n ≡ h (entry_at list n)
at_map h e [] n = sym e
at_map h e (x ∷ xs) zero = refl
at_map h e (x ∷ xs) (suc n) = at_map h e xs n

pub entry_at-hidden : (R : RegistrationList) (m n : ℕ) → entry_at (hidden R m) n ≡ hidden_entry R m (entry_at R n)
unfolding hidden
entry_at-hidden R m n = at_map (hidden_entry R m) refl R n

one_or_other : (R : RegistrationList) (m : ℕ) (o : Option Entry) → is_some (hidden_entry R m o) ≡ true → seen_entry R m o ≡ None
one_or_other R m None e = refl
one_or_other R m (Some x) e = by_sight (is_seen R m x) e
  where
    by_sight : (s : Bool) → is_some (cond s None (Some x)) ≡ true → cond s (Some x) None ≡ None
    by_sight true e = cc
    by_sight false e = refl

pub hidden_unseen : (R : RegistrationList) (m x : ℕ) → is_hidden R m x ≡ true → entry_at (seen R m) x ≡ None
hidden_unseen R m x e =
    entry_at-seen R m x ∙ one_or_other R m (entry_at R x) (ap is_some (sym (entry_at-hidden R m x)) ∙ e)

-- ---- a hidden entry that helps

all_three : (h t u : Bool) → h ≡ true → t ≡ false → (h && (not t && u)) ≡ u
all_three true true u e f = cc
all_three true false u e f = refl
all_three false t u e f = cc

pub helps_is : (R : RegistrationList) (m : ℕ) (s : Scope) (r : Refused) (a : Asks) (x : ℕ) → s.view ≡ seen R m → x < 1024
    → is_hidden R m x ≡ true → stays s r a (entry_at R x) ≡ false
    → adds R s r.error.name x (named_with R m s x r.error.name) a ≡ helps R m s r a x
helps_is R m s r a x view lt there taken =
    adds_means R m s r.error.name x a view lt (hidden_unseen R m x there)
    ∙ sym (all_three (is_hidden R m x) (stays s r a (entry_at R x)) (means_entry x (resolution_of (record s { view = seen_with R m x }) r.error.name a)) there taken)

-- an entry that is seen or not there helps nothing, and none helps where the name stays the script's
pub seen_helps_not : (R : RegistrationList) (m : ℕ) (s : Scope) (r : Refused) (a : Asks) (x : ℕ) → is_hidden R m x ≡ false → helps R m s r a x ≡ false
seen_helps_not R m s r a x e = ap (λ h. h && (not (stays s r a (entry_at R x)) && means_entry x (resolution_of (record s { view = seen_with R m x }) r.error.name a))) e

none_of : (h t u : Bool) → t ≡ true → (h && (not t && u)) ≡ false
none_of true true u e = refl
none_of true false u e = cc
none_of false t u e = refl

pub taken_helps_not : (R : RegistrationList) (m : ℕ) (s : Scope) (r : Refused) (a : Asks) (x : ℕ) → stays s r a (entry_at R x) ≡ true → helps R m s r a x ≡ false
taken_helps_not R m s r a x e =
    none_of (is_hidden R m x) (stays s r a (entry_at R x)) (means_entry x (resolution_of (record s { view = seen_with R m x }) r.error.name a)) e

-- the same by what is told of the name
pub kept_helps_not : (R : RegistrationList) (m : ℕ) (s : Scope) (r : Refused) (a : Asks) (x : ℕ) (joined taken told : Bool) → joined ≡ is_joined s r.error.name a
    → taken ≡ is_taken s r a → told ≡ (if joined && is_function_entry (entry_at R x) then false else taken) → told ≡ true → helps R m s r a x ≡ false
kept_helps_not R m s r a x joined taken told j t e kept =
    taken_helps_not R m s r a x (sym (stays_as s r a (entry_at R x) joined taken told j t e) ∙ kept)

pub free_helps_is : (R : RegistrationList) (m : ℕ) (s : Scope) (r : Refused) (a : Asks) (x : ℕ) (joined taken told : Bool) → joined ≡ is_joined s r.error.name a
    → taken ≡ is_taken s r a → told ≡ (if joined && is_function_entry (entry_at R x) then false else taken) → told ≡ false → s.view ≡ seen R m → x < 1024
    → is_hidden R m x ≡ true → adds R s r.error.name x (named_with R m s x r.error.name) a ≡ helps R m s r a x
free_helps_is R m s r a x joined taken told j t e free view lt there =
    helps_is R m s r a x view lt there (sym (stays_as s r a (entry_at R x) joined taken told j t e) ∙ free)
