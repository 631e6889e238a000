-- What is noted of the entries of a list once, beside their numbers: their masks, and which of those that are told of they are of.
use Rattle.std.specs.Prelude.{ℕ, zero, suc, ◌≡◌, ◌==◌, ◌+◌, ◌*◌, false, ◌&&◌, [], ◌∷◌, map, Option, Some, None, slice_index_or}
use Rattle.std.proofs.Common.{arith, inl, inr, refl, sym, ap, ◌∙◌}
use Rattle.std.proofs.lemmas.Bool.Decides.{eqb_tells}
use Rattle.ang_kinds.specs.declared.mask.EntityNo.{EntityNo}
use Rattle.ang_view.specs.declared.entry.Entry.{Entry}
use Rattle.ang_view.specs.declared.entry.EntryKind.{EntryKind}
use Rattle.ang_view.specs.declared.entry.EntryKind.TheVariants as entry
use Rattle.ang_view.specs.Named.{is_factory}
use Rattle.ang_view.specs.Registration.{RegistrationList, entry_at, is_function, is_number}
use Rattle.ang_check_contest.specs.Host.{is_method}
use Rattle.ang_check_denials.specs.declared.told.Sought.{Sought}
use Rattle.ang_check_denials.specs.declared.told.Sought.TheVariants as sought
use Rattle.ang_check_denials.specs.Denials.{mask_of}
use Rattle.ang_check_denials.specs.Telling.{is_sought, key_of, sort_by, sort_key}
use Rattle.ang_check_denials.proofs.Values.{is_itself, is_other}

-- what is noted at a place is the mask of the entry there
pub mask_there : (R : RegistrationList) (n : ℕ) → slice_index_or (map mask_of R) n (mask_of None) ≡ mask_of (entry_at R n)
mask_there [] n = refl
mask_there (x ∷ xs) zero = refl
mask_there (x ∷ xs) (suc n) = mask_there xs n

-- ---- sorts

same_key : (i a b : ℕ) → (4 * a + i == 4 * b + i) ≡ (a == b)
same_key i a b =
    elim (eqb_tells a b) [
      | inl t ↦ is_itself (4 * a + i) (4 * b + i) (ap (λ n. 4 * n + i) t.1) ∙ sym t.0
      | inr t ↦ is_other (4 * a + i) (4 * b + i) (λ e. t.1 (omega (arith, e))) ∙ sym t.0
    ]

function_key : (a i : ℕ) → (4 * a + (i + 1) == 0) ≡ false
function_key a i = is_other (4 * a + (i + 1)) 0 (λ e. omega (arith, e))

no_key : (a : ℕ) → (3 == 4 * a + 1) ≡ false
no_key a = is_other 3 (4 * a + 1) (λ e. omega (arith, e))

no_method : (a : ℕ) → (3 == 4 * a + 2) ≡ false
no_method a = is_other 3 (4 * a + 2) (λ e. omega (arith, e))

none_first : (a i : ℕ) → (0 == 4 * a + (i + 1)) ≡ false
none_first a i = is_other 0 (4 * a + (i + 1)) (λ e. omega (arith, e))

apart : (a b : ℕ) → (4 * a + 1 == 4 * b + 2) ≡ false
apart a b = is_other (4 * a + 1) (4 * b + 2) (λ e. omega (arith, e))

parted : (a b : ℕ) → (4 * a + 2 == 4 * b + 1) ≡ false
parted a b = is_other (4 * a + 2) (4 * b + 1) (λ e. omega (arith, e))

functions_are : (k : EntryKind) (o : Option EntityNo) → (key_of (sort_by k o) == 0) ≡ is_function k
functions_are entry.HostType o = refl
functions_are entry.Factory None = refl
functions_are entry.Factory (Some e) = function_key e.0 0
functions_are entry.Method None = refl
functions_are entry.Method (Some e) = function_key e.0 1
functions_are entry.Property o = refl
functions_are entry.Function o = refl
functions_are entry.Global o = refl
functions_are entry.Enumeration o = refl
functions_are (entry.EnumValue v) o = refl

factories_are : (n : ℕ) (k : EntryKind) (o : Option EntityNo) → (key_of (sort_by k o) == 4 * n + 1) ≡ (is_factory k && is_number n o)
factories_are n entry.HostType o = no_key n
factories_are n entry.Factory None = no_key n
factories_are n entry.Factory (Some e) = same_key 1 e.0 n
factories_are n entry.Method None = no_key n
factories_are n entry.Method (Some e) = parted e.0 n
factories_are n entry.Property o = no_key n
factories_are n entry.Function o = none_first n 0
factories_are n entry.Global o = no_key n
factories_are n entry.Enumeration o = no_key n
factories_are n (entry.EnumValue v) o = no_key n

methods_are : (n : ℕ) (k : EntryKind) (o : Option EntityNo) → (key_of (sort_by k o) == 4 * n + 2) ≡ (is_method k && is_number n o)
methods_are n entry.HostType o = no_method n
methods_are n entry.Factory None = no_method n
methods_are n entry.Factory (Some e) = apart e.0 n
methods_are n entry.Method None = no_method n
methods_are n entry.Method (Some e) = same_key 2 e.0 n
methods_are n entry.Property o = no_method n
methods_are n entry.Function o = none_first n 1
methods_are n entry.Global o = no_method n
methods_are n entry.Enumeration o = no_method n
methods_are n (entry.EnumValue v) o = no_method n

key_tells : (q : Sought) (o : Option Entry) → (sort_key o == key_of (Some q)) ≡ is_sought q o
key_tells sought.Functions None = refl
key_tells sought.Functions (Some y) = functions_are y.kind y.owner
key_tells (sought.Factories n) None = no_key n
key_tells (sought.Factories n) (Some y) = factories_are n y.kind y.owner
key_tells (sought.Methods n) None = no_method n
key_tells (sought.Methods n) (Some y) = methods_are n y.kind y.owner

-- what is noted at a place tells whether the entry there is one of those
pub sort_there : (q : Sought) (R : RegistrationList) (n : ℕ) → (slice_index_or (map sort_key R) n 3 == key_of (Some q)) ≡ is_sought q (entry_at R n)
sort_there q [] n = key_tells q None
sort_there q (x ∷ xs) zero = key_tells q x
sort_there q (x ∷ xs) (suc n) = sort_there q xs n
