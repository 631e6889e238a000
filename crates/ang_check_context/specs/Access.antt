-- Who may use a member (docs/LANGUAGE.md, "Expressions"; the AngelScript manual, "Script classes").
use Rattle.std.specs.Prelude.{ℕ, if◌then◌else◌, Option, Some, None, Err}
use Rattle.ang_kinds.specs.declared.error.ErrorKind.{ErrorKind}
use Rattle.ang_kinds.specs.declared.error.ErrorKind.TheVariants as kind
use Rattle.ang_lex.specs.declared.token.Token.{Token}
use Rattle.ang_names_known.specs.declared.names.Access.{Access}
use Rattle.ang_names_known.specs.declared.names.Access.TheVariants as access
use Rattle.ang_check_uses.specs.declared.uses.Reach.{Reach}
use Rattle.ang_names_known.specs.Lookup.{may_use}
use Rattle.ang_check_operators.specs.Refusals.{Typing, refused}
use Rattle.ang_check_context.specs.Scope.{BodyContext, family_of}

abbrev pub access_error : Access → ErrorKind
access_error access.Protected = kind.Protected
access_error _ = kind.Private

-- what follows where the body may use the member of this name; else `Private` or `Protected` at the name
abbrev pub if_reached : {A : Type 0} → BodyContext → Token → ℕ → Access → Typing A → Typing A
if_reached s x owner a next = if may_use s.names.families (family_of s.within) owner a then next else Err (refused (access_error a) x)

abbrev pub if_in_reach : {A : Type 0} → BodyContext → Token → Option Reach → Typing A → Typing A
if_in_reach s x None next = next
if_in_reach s x (Some r) next = if_reached s x r.owner r.access next
