-- What a refusal asks of its name (docs/LANGUAGE.md, "Denials"), asked again over the same view.
use Rattle.std.specs.Prelude.{◌≡◌, Bool, true, false, ◌&&◌, List, IfSome}
use Rattle.ang_kinds.specs.declared.error.ErrorKind.{ErrorKind}
use Rattle.ang_kinds.specs.declared.error.ErrorKind.TheVariants as kind
use Rattle.ang_lex.specs.declared.token.Token.{Token}
use Rattle.ang_types.specs.declared.asks.Asks.{Asks}
use Rattle.ang_types.specs.declared.asks.Refused.{Refused}
use Rattle.ang_lex.specs.Text.{text_of}
use Rattle.ang_check_operators.specs.declared.refusal.TypingRefusal.{TypingRefusal}
use Rattle.ang_check_operators.specs.Refusals.{use_refused}
use Rattle.ang_check_context.specs.declared.scope.LocalVariable.{LocalVariable}
use Rattle.ang_check_context.specs.Scope.{BodyContext, scope_of, is_there}
use Rattle.ang_check_uses.specs.declared.uses.Resolution.TheVariants as resolution
use Rattle.ang_check_uses.specs.Uses.{resolution_of}
use Rattle.ang_check_contest.specs.Scopes.{Scope}
use Rattle.ang_check_denials.specs.Denials.{is_bare}

-- What is asked of the error's name, where anything is, means nothing over this scope, for just the reason that the error gives.
abbrev pub IsAskedAgain : Scope → Refused → Type 0
IsAskedAgain s r = IfSome r.asks (λ a. resolution_of s r.error.name a ≡ resolution.Refused r.error.kind)

-- The refusal of a use in a body, where these parameters and locals are alive: at its name, which as this means nothing for just this
-- reason. Of a bare name it says whether a local, a parameter or a member has it too.
pub record IsRefusedUse (s : BodyContext) (ps : List LocalVariable) (r : TypingRefusal) (a : Asks) : Type 0 where
  pub name : Token
  pub means_nothing : resolution_of (scope_of s) (text_of s.text name) a ≡ resolution.Refused r.kind
  pub refusal : r ≡ use_refused r.kind name a (is_bare a && is_there s ps (text_of s.text name))

-- A refusal is such, if it asks anything.
abbrev pub IsAskedThere : BodyContext → List LocalVariable → TypingRefusal → Type 0
IsAskedThere s ps r = IfSome r.asks (IsRefusedUse s ps r)

-- ---- errors of uses

-- what the refusal of a use can be
abbrev pub refuses_use : ErrorKind → Bool
refuses_use kind.UnknownName = true
refuses_use kind.UnknownType = true
refuses_use kind.NoMatch = true
refuses_use kind.Ambiguous = true
refuses_use kind.NoDefault = true
refuses_use kind.Const = true
refuses_use _ = false

abbrev pub IsOfUse : Refused → Type 0
IsOfUse r = IfSome r.asks (λ a. refuses_use r.error.kind ≡ true)
