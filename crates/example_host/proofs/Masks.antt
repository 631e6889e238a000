-- What is registered stands last, under the default mask.
use Rattle.std.specs.Prelude.{ℕ, ◌≡◌, ◌==◌, Bool, true, false, if◌then◌else◌, List, [], ◌∷◌, ◌++◌, Option, Some, None}
use Rattle.std.proofs.Common.{refl, ap, ◌∙◌}
use Rattle.std.proofs.lemmas.List.{map-append}
use Rattle.ang_kinds.specs.declared.types.Signature.{Signature}
use Rattle.ang_view.specs.declared.entry.EntryKind.{EntryKind}
use Rattle.ang_registry.specs.declared.error.RegError.{RegError}
use Rattle.ang_registry.specs.declared.error.RegError.TheVariants.{Limit, EmptyMask, BadDeclaration}
use Rattle.ang_registry.specs.Registrations.{Registrations}
use Rattle.ang_registry.specs.Refusals.{is_over_limit, refusal_of_own, with_own}
use Rattle.example_host.specs.Offered.{mask_of, masks_of}

some_refusal : (a b : Bool) (x y z : RegError) → (if a then Some x else (if b then Some y else Some z)) ≡ None → ⊥
some_refusal true b x y z h = let e : Some x ≡ None = h in cc
some_refusal false true x y z h = let e : Some y ≡ None = h in cc
some_refusal false false x y z h = let e : Some z ≡ None = h in cc

pub masks_added : (kind : EntryKind) (r : Registrations) (driver f : ℕ) (s : Option Signature) → refusal_of_own kind r driver s ≡ None
    → masks_of (with_own kind r driver f s).entries ≡ masks_of r.entries ++ Some r.default_mask.0 ∷ []
unfolding refusal_of_own
masks_added kind r driver f None h = absurd (some_refusal (is_over_limit r.entries None) (r.default_mask.0 == 0) Limit EmptyMask BadDeclaration h)
masks_added kind r driver f (Some s) h = map-append mask_of r.entries _

mask_kept : (kind : EntryKind) (r : Registrations) (driver f : ℕ) (s : Option Signature) → (with_own kind r driver f s).default_mask.0 ≡ r.default_mask.0
mask_kept kind r driver f None = refl
mask_kept kind r driver f (Some s) = refl

-- one entry more, under the mask m
pub one_more : (kind : EntryKind) (r new : Registrations) (driver f : ℕ) (s : Option Signature) (ms : List (Option ℕ)) (m : ℕ)
    → refusal_of_own kind r driver s ≡ None → new ≡ with_own kind r driver f s → masks_of r.entries ≡ ms → r.default_mask.0 ≡ m
    → (masks_of new.entries ≡ ms ++ Some m ∷ []) × (new.default_mask.0 ≡ m)
one_more kind r new driver f s ms m taken is have under = (
  ap (λ (q : Registrations). masks_of q.entries) is ∙ masks_added kind r driver f s taken ∙ (λ i. have i ++ Some (under i) ∷ []),
  ap (λ (q : Registrations). q.default_mask.0) is ∙ mask_kept kind r driver f s ∙ under,
)
