-- What makes objects of a base class, and what a constructor ends with.
use Rattle.std.proofs.Common.{◌≡◌, ◌≤◌, ◌+◌, ◌-◌, refl, ap, sym, ◌∙◌, ℕ, Bool, false, cond, nat_lt, arith, List, [], ◌∷◌, ◌++◌, length, Some, None, map as list_map}
use Rattle.std.proofs.lemmas.List.{map-append}
use Rattle.std.proofs.lemmas.Option.{slice_get_past}
use Rattle.ang_typed.specs.Typed as t
use Rattle.ang_typed.specs.View.{view_stmt}
use Rattle.ang_typed.specs.declared.statement.TypedStatement.{TypedStatement}
use Rattle.ang_names_known.specs.Spaces.{family_type, family_of_type}
use Rattle.ang_kinds.specs.declared.error.ErrorKind.{ErrorKind}
use Rattle.ang_types.specs.declared.arg_type.ArgType.{ArgType}
use Rattle.ang_types.specs.Best.{best_of}
use Rattle.ang_types.specs.Ranks.{Ancestors}
use Rattle.ang_check_uses.specs.declared.uses.Resolution.TheVariants as resolution
use Rattle.ang_check_uses.specs.Uses.{best_of_those, makers_of, makers_for, makers_in}
use Rattle.ang_check_contest.specs.Scopes.{Scope}
use Rattle.ang_check.specs.Typing.{with_last}

not_lt : (a b : ℕ) → b ≤ a → nat_lt a b ≡ false
not_lt a b h = search arith

not_below : (b : ℕ) → nat_lt (1024 + b) 1024 ≡ false
not_below b = not_lt (1024 + b) 1024 (omega arith)

family_again : (b : ℕ) → family_of_type (family_type b) ≡ Some b
family_again b =
    ap (λ (low : Bool). cond low None (Some (1024 + b - 1024))) (not_below b) ∙ ap (λ n. Some n) (omega arith)

nothing_beyond : (s : Scope) (b : ℕ) → length s.names.families ≤ b → [] ≡ makers_of s (family_type b)
unfolding makers_of
nothing_beyond s b le =
    sym (ap (makers_for s (family_type b)) (family_again b) ∙ ap (makers_in s.names.families b) (slice_get_past s.names.families b le))

-- the best of none
best_of_none : (l : Ancestors) (k : ErrorKind) (args : List ArgType) → resolution.Refused k ≡ best_of_those l k [] args
unfolding best_of_those best_of
best_of_none l k args = refl

-- beyond the families there is nothing that makes an object
pub none_beyond : (l : Ancestors) (k : ErrorKind) (s : Scope) (b : ℕ) (args : List ArgType) → length s.names.families ≤ b
    → resolution.Refused k ≡ best_of_those l k (makers_of s (family_type b)) args
none_beyond l k s b args le = best_of_none l k args ∙ ap (λ cs. best_of_those l k cs args) (nothing_beyond s b le)

-- one statement more at the end
last_of : (ss : List t.Stmt) (s : t.Stmt) → with_last (t.stmts ss) s ≡ t.stmts (ss ++ s ∷ [])
last_of [] s = refl
last_of (x ∷ xs) s = ap (t.then x) (last_of xs s)

pub last_behind : (ss : List TypedStatement) (s : TypedStatement)
    → with_last (t.stmts (list_map view_stmt ss)) (view_stmt s) ≡ t.stmts (list_map view_stmt (ss ++ s ∷ []))
last_behind ss s = last_of (list_map view_stmt ss) (view_stmt s) ∙ ap t.stmts (sym (map-append view_stmt ss (s ∷ [])))
