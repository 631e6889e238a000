-- Each row of the report tells of a use that is refused, and that a hidden entry would help.
use Rattle.std.specs.Prelude.{◌≡◌, ℕ, Bool, true, false, not, ◌&&◌, All, Contains, List, Some, IfSome}
use Rattle.std.proofs.Common.{refl, ap, sym, subst}
use Rattle.ang_kinds.specs.declared.error.Denial.{Denial}
use Rattle.ang_types.specs.declared.asks.Asks.{Asks}
use Rattle.ang_types.specs.declared.asks.Refused.{Refused}
use Rattle.ang_view.specs.Hidden.{is_hidden, is_unmet, is_with}
use Rattle.ang_view.specs.Registration.{RegistrationList, entry_at, seen}
use Rattle.ang_names_listed.specs.Sources.{Source}
use Rattle.ang_check_denials.specs.Denials.{helps, means_entry, stays}
use Rattle.ang_check_uses.specs.declared.uses.Resolution.TheVariants as resolution
use Rattle.ang_check_uses.specs.Uses.{resolution_of}
use Rattle.ang_check_contest.specs.Scopes.{Scope}
use Rattle.ang_check.specs.Denials.{denials_of, scope_over, script_refusals, IsRowOf}
use Rattle.ang_check.proofs.Listed.{each_help_is_listed}
use Rattle.ang_check.proofs.Rows.{row_helps}
use Rattle.ang_check_laws.specs.Asked.{IsAskedAgain}
use Rattle.ang_check_laws.specs.Rows.{scope_with, TellsOfUse}
use Rattle.ang_check_laws.proofs.Scripts.{asked_again}

and_parts : (a b : Bool) → (a && b) ≡ true → (a ≡ true) × (b ≡ true)
and_parts true b e = (refl, e)
and_parts false b e = cc

listed_holds : {A : Type 0} (P : A → Type 0) (xs : List A) (x : A) → All P xs → Contains xs x → P x
listed_holds P xs x h c = subst P c.2 (h c.0 x c.1)

module _ (R : RegistrationList) (m : ℕ) (ss : List Source) where
  abbrev over : Scope
  over = scope_over (seen R m) ss

  is_refused : (r : Refused) (a : Asks) → Contains (script_refusals (seen R m) ss) r → r.asks ≡ Some a
      → resolution_of over r.error.name a ≡ resolution.Refused r.error.kind
  is_refused r a c e =
      subst (λ o. IfSome o (λ (b : Asks). resolution_of over r.error.name b ≡ resolution.Refused r.error.kind)) e
      (listed_holds (IsAskedAgain over) (script_refusals (seen R m) ss) r (asked_again (seen R m) ss) c)

  -- what an entry that helps would be
  would_mean : (r : Refused) (a : Asks) (x : ℕ) → helps R m over r a x ≡ true
      → (is_hidden R m x ≡ true) × (means_entry x (resolution_of (scope_with R m ss x) r.error.name a) ≡ true)
  would_mean r a x e =
      let parts = and_parts (is_hidden R m x) _ e in
      let others = and_parts (not (stays over r a (entry_at R x))) (means_entry x (resolution_of (scope_with R m ss x) r.error.name a)) parts.1 in
      (parts.0, others.1)

  by_row : (d : Denial) → IsRowOf R m ss d → TellsOfUse R m ss d
  by_row d h =
      let r = h.0 in
      let a = h.1 in
      let y = h.2 in
      let told = (row_helps R m over r a y).0 h.6 in
      let x = told.1.0 in
      let helped = would_mean r a x told.1.2 in
      let same : d.entity.0 ≡ y = ap (λ (z : Denial). z.entity.0) h.7 in
      record {
        refusal = r;
        asks = a;
        entry = x;
        listed = h.3;
        place = ap (λ (z : Denial). z.place) h.7;
        refused = is_refused r a h.3 h.4;
        hidden = helped.0;
        meant = helped.1;
        comes = subst (λ n. is_with R x n ≡ true) (sym same) told.1.3;
        unmet = subst (λ n. is_unmet R m n ≡ true) (sym same) told.0;
      }

pub row_tells : (R : RegistrationList) (m : ℕ) (ss : List Source) (d : Denial) → Contains (denials_of R m ss) d → TellsOfUse R m ss d
row_tells R m ss d c = by_row R m ss d ((each_help_is_listed R m ss d).0 c)
