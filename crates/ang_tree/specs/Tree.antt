-- Expressions as they are written, and the tokens that spell them. (docs/LANGUAGE.md, "Grammar": `assign` to
-- `primary`, and `args`.)
use Rattle.std.specs.Prelude.{◌≡◌, ℕ, ◌≤◌, ◌<◌, List, [], ◌∷◌, Option, None}
use Rattle.ang_lex.specs.declared.token.Token.{Token}
use Rattle.ang_lex.specs.declared.token.TokenKind.TheVariants as k
use Rattle.ang_tree.specs.declared.type_name.TypeName.{TypeName}
use Rattle.ang_tree.specs.Kinds.{Is, IsA, IsComma, optional, literal_kind, primitive_kind, prefix_kind, step_kind, assignment_kind, precedence}
use Rattle.ang_tree.specs.TypeNames.{spelled_type, FitsType}

mutual
  -- an expression, with all its tokens
  pub data Tree : Type 0 where
    literal : Token → Tree
    name : Token → Tree
    call : Token → Args → Tree
    scoped_call : Token → Token → Token → Args → Tree
    scoped_name : Token → Token → Token → Tree
    cast : Token → Token → TypeName → Token → Token → Tree → Token → Tree
    convert : Token → Token → Tree → Token → Tree
    group : Token → Tree → Token → Tree
    postfix : Tree → Token → Tree
    member : Tree → Token → Token → Tree
    method_call : Tree → Token → Token → Args → Tree
    prefix : Token → Tree → Tree
    binary : Tree → Token → Tree → Tree
    conditional : Tree → Token → Tree → Token → Tree → Tree
    assignment : Tree → Token → Tree → Tree

  -- "(" [ assign { "," assign } ] ")"
  pub data Args : Type 0 where
    arguments : Token → Trees → Token → Args

  -- expressions with commas between them: each has the comma in front of it
  pub data Trees : Type 0 where
    none : Trees
    more : Option Token → Tree → Trees → Trees

-- with one more at the end
abbrev pub added : Trees → Option Token → Tree → Trees
added none comma e = more comma e none
added (more c d es) comma e = more c d (added es comma e)

-- The tokens of a tree, and those that follow it.
abbrev mutual
  pub spelled : Tree → List Token → List Token
  spelled (literal t) after = t ∷ after
  spelled (name x) after = x ∷ after
  spelled (call x es) after = x ∷ spelled_args es after
  spelled (scoped_call c s x es) after = c ∷ s ∷ x ∷ spelled_args es after
  spelled (scoped_name c s x) after = c ∷ s ∷ x ∷ after
  spelled (cast word less y greater left e right) after = word ∷ less ∷ spelled_type y (greater ∷ left ∷ spelled e (right ∷ after))
  spelled (convert p left e right) after = p ∷ left ∷ spelled e (right ∷ after)
  spelled (group left e right) after = left ∷ spelled e (right ∷ after)
  spelled (postfix e op) after = spelled e (op ∷ after)
  spelled (member e dot x) after = spelled e (dot ∷ x ∷ after)
  spelled (method_call e dot x es) after = spelled e (dot ∷ x ∷ spelled_args es after)
  spelled (prefix op e) after = op ∷ spelled e after
  spelled (binary l op r) after = spelled l (op ∷ spelled r after)
  spelled (conditional c question l colon r) after = spelled c (question ∷ spelled l (colon ∷ spelled r after))
  spelled (assignment l op r) after = spelled l (op ∷ spelled r after)

  pub spelled_args : Args → List Token → List Token
  spelled_args (arguments left es right) after = left ∷ listed es (right ∷ after)

  pub listed : Trees → List Token → List Token
  listed none after = after
  listed (more comma e es) after = optional comma (spelled e (listed es after))

-- The rule that gives the tree: 0 for `assign` and `cond`, 1 to 10 for the levels of `binary`, 11 for `unary`, 12 for
-- `post`. So k ≤ level x says that x is of the rule of the number k or of a tighter one.
abbrev pub level : Tree → ℕ
level (prefix op e) = 11
level (binary l op r) = precedence op.kind
level (conditional c question l colon r) = 0
level (assignment l op r) = 0
level _ = 12

-- Each token is of its kind, and each part is of the rule that the grammar has at its place. What stands left of an
-- assignment is no `?:`, so that the third operand of `?:` is as long as it can be.
abbrev mutual
  pub Fits : Tree → Type 0
  Fits (literal t) = IsA literal_kind t
  Fits (name x) = Is k.Name x
  Fits (call x es) = Is k.Name x × FitsArgs es
  Fits (scoped_call c s x es) = Is k.Name c × Is k.Scope s × Is k.Name x × FitsArgs es
  Fits (scoped_name c s x) = Is k.Name c × Is k.Scope s × Is k.Name x
  Fits (cast word less y greater left e right) = Is k.Cast word × Is k.Less less × FitsType y × Is k.Greater greater × Is k.LeftParen left × Fits e × Is k.RightParen right
  Fits (convert p left e right) = IsA primitive_kind p × Is k.LeftParen left × Fits e × Is k.RightParen right
  Fits (group left e right) = Is k.LeftParen left × Fits e × Is k.RightParen right
  Fits (postfix e op) = Fits e × (12 ≤ level e) × IsA step_kind op
  Fits (member e dot x) = Fits e × (12 ≤ level e) × Is k.Dot dot × Is k.Name x
  Fits (method_call e dot x es) = Fits e × (12 ≤ level e) × Is k.Dot dot × Is k.Name x × FitsArgs es
  Fits (prefix op e) = IsA prefix_kind op × Fits e × (11 ≤ level e)
  Fits (binary l op r) = Fits l × (1 ≤ precedence op.kind) × Fits r × (precedence op.kind ≤ level l) × (precedence op.kind < level r)
  Fits (conditional c question l colon r) = Fits c × (1 ≤ level c) × Is k.Question question × Fits l × Is k.Colon colon × Fits r
  Fits (assignment l op r) = Fits l × (1 ≤ level l) × IsA assignment_kind op × Fits r

  pub FitsArgs : Args → Type 0
  FitsArgs (arguments left es right) = Is k.LeftParen left × AllFit es × Is k.RightParen right

  -- no comma in front of the first, one in front of each other
  pub AllFit : Trees → Type 0
  AllFit none = Unit {0}
  AllFit (more comma e es) = (comma ≡ None) × Fits e × OthersFit es

  pub OthersFit : Trees → Type 0
  OthersFit none = Unit {0}
  OthersFit (more comma e es) = IsComma comma × Fits e × OthersFit es

-- The grammar of expressions.
pub record Spells (e : Tree) (tokens : List Token) : Type 0 where
  pub fits : Fits e
  pub text : tokens ≡ spelled e []
