-- What a text declares, by the grammar.
use Rattle.std.specs.Prelude.{◌≡◌, ◌≢◌, ◌↔◌, ℕ, Bool, true, false, List, Result, Ok, Err, IfErr}
use Rattle.ang_kinds.specs.declared.types.Signature.{Signature}
use Rattle.ang_lex.specs.declared.token.Token.{Token}
use Rattle.ang_lex.specs.Tokens.{tokens_of}
use Rattle.ang_decl.specs.declared.error.DeclError.{DeclError}
use Rattle.ang_decl.specs.declared.error.DeclError.TheVariants.{Syntax, Unsupported, Memory}

-- The text is this declaration: it spells the text's tokens, all of them.
pub record IsWritten {A : Type 0} (Spells : A → List Token → Type 0) (text : List ℕ) (x : A) : Type 0 where
  pub tokens : List Token
  pub lexed : tokens_of 0 text ≡ Ok tokens
  pub spelled : Spells x tokens

-- The text is no declaration of the form.
module _ {A : Type 0} (Spells : A → List Token → Type 0) (text : List ℕ) where
  abbrev pub IsNoDeclaration : Type 0
  IsNoDeclaration = (x : A) → IsWritten Spells text x → ⊥

-- The text is a declaration that hosts can use, and this is its signature.
pub record Declares {A : Type 0} (Spells : A → List Token → Type 0) (is_left_out : A → Bool) (signature_of : List ℕ → A → Signature) (text : List ℕ) (s : Signature) : Type 0 where
  pub declaration : A
  pub written : IsWritten Spells text declaration
  pub taken : is_left_out declaration ≡ false
  pub signature : s ≡ signature_of text declaration

-- The text is a declaration that hosts can't use.
pub record IsLeftOut {A : Type 0} (Spells : A → List Token → Type 0) (is_left_out : A → Bool) (text : List ℕ) : Type 0 where
  pub declaration : A
  pub written : IsWritten Spells text declaration
  pub left_out : is_left_out declaration ≡ true

-- The answer to a text that the grammar gives: the signature that it declares, or that it is left out, or that it is no
-- declaration of the form.
pub record IsAnswer {A : Type 0} (Spells : A → List Token → Type 0) (is_left_out : A → Bool) (signature_of : List ℕ → A → Signature) (text : List ℕ) (answer : Result Signature DeclError) : Type 0 where
  pub signature : (s : Signature) → (answer ≡ Ok s) ↔ Declares Spells is_left_out signature_of text s
  pub unsupported : (answer ≡ Err Unsupported) ↔ IsLeftOut Spells is_left_out text
  pub syntax : (answer ≡ Err Syntax) ↔ IsNoDeclaration Spells text
  pub memory : answer ≢ Err Memory

-- ---- what holds where an answer is this error

abbrev pub IfUnsupported : Result Signature DeclError → Type 0 → Type 0
IfUnsupported answer P = IfErr answer (λ e. e ≡ Unsupported → P)

abbrev pub IfSyntax : Result Signature DeclError → Type 0 → Type 0
IfSyntax answer P = IfErr answer (λ e. e ≡ Syntax → P)

-- any but want of memory
abbrev pub IfFault : Result Signature DeclError → (DeclError → Type 0) → Type 0
IfFault answer P = IfErr answer (λ e. e ≢ Memory → P e)
