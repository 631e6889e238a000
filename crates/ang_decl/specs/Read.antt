-- Reading host declarations from the front of a list of tokens.
use Rattle.std.specs.Prelude.{ℕ, Bool, true, false, if◌then◌else◌, List, [], ◌∷◌, ◌++◌, Option, Some, None}
use Rattle.ang_lex.specs.declared.token.Token.{Token}
use Rattle.ang_lex.specs.declared.token.TokenKind.{TokenKind}
use Rattle.ang_lex.specs.declared.token.TokenKind.TheVariants as k
use Rattle.ang_tree.specs.declared.declaration.Reference.{Reference}
use Rattle.ang_tree.specs.Kinds.{type_kind}
use Rattle.ang_parse_read.specs.Read.{Parser, ◌>>=◌, pure, Choice, look, Turn, ready, repeat}
use Rattle.ang_parse_read.specs.References.{a_reference}
use Rattle.ang_parse_read.specs.Tokens.{a_token, perhaps, is_const, is_name, is_left_paren, is_right_paren}
use Rattle.ang_decl.specs.declared.tree.HostType.{HostType}
use Rattle.ang_decl.specs.declared.tree.HostHandle.{HostHandle}
use Rattle.ang_decl.specs.declared.tree.HostParameter.{HostParameter}
use Rattle.ang_decl.specs.declared.tree.HostParameters.{HostParameters}
use Rattle.ang_decl.specs.declared.tree.HostFunction.{HostFunction}
use Rattle.ang_decl.specs.declared.tree.HostProperty.{HostProperty}
use Rattle.ang_decl.specs.Grammar.{is_bare_void}

abbrev pub is_plus : TokenKind → Bool
is_plus k.Plus = true
is_plus _ = false

-- ---- types

abbrev pub handle_of : Token → Option Token → Option Token → HostHandle
handle_of sign plus constant = record { at = sign; plus = plus; constant = constant }

abbrev pub handle_by : TokenKind → Choice (Option HostHandle)
handle_by k.At = Some (λ sign. do p ← perhaps is_plus; c ← perhaps is_const; pure (Some (handle_of sign p c)))
handle_by _ = None

-- [ "@" [ "+" ] [ "const" ] ]
unfoldable pub a_handle : Parser (Option HostHandle)
a_handle = look handle_by (pure None)

abbrev pub host_type_of : Option Token → Token → Option HostHandle → HostType
host_type_of constant x handle = record { constant = constant; name = x; handle = handle }

unfoldable pub a_type : Parser HostType
a_type = do c ← perhaps is_const; x ← a_token type_kind; h ← a_handle; pure (host_type_of c x h)

-- ---- parameters

abbrev pub parameter_of : Option Token → HostType → Option Reference → Option Token → HostParameter
parameter_of comma y r x = record { comma = comma; declared_type = y; reference = r; name = x }

-- a parameter, after its comma
unfoldable pub a_param : Option Token → Parser HostParameter
a_param comma = do y ← a_type; r ← a_reference; x ← perhaps is_name; pure (parameter_of comma y r x)

-- one more, after the comma
unfoldable pub another_param : List HostParameter → Token → Turn (List HostParameter)
another_param ps comma = do p ← a_param (Some comma); pure (ps ++ p ∷ [], true)

abbrev pub other_param_by : List HostParameter → TokenKind → Choice (List HostParameter × Bool)
other_param_by ps k.Comma = Some (another_param ps)
other_param_by ps _ = None

unfoldable pub other_param : List HostParameter → Turn (List HostParameter)
other_param ps = look (other_param_by ps) (ready ps)

abbrev pub parameters_of : Token → Option Token → List HostParameter → Token → HostParameters
parameters_of left word ps right = record { «open» = left; void_word = word; items = ps; close = right }

-- the word `void` alone is the empty list
abbrev pub settled : Token → List HostParameter → Token → HostParameters
settled left [] right = parameters_of left None [] right
settled left (p ∷ []) right = if is_bare_void p then parameters_of left (Some p.declared_type.name) [] right else parameters_of left None (p ∷ []) right
settled left (p ∷ q ∷ ps) right = parameters_of left None (p ∷ q ∷ ps) right

-- By the bound of the loop.
module _ (limit : ℕ) where
  -- one parameter or more, and the right parenthesis
  unfoldable pub some_params : Token → Parser HostParameters
  some_params left = do p ← a_param None; ps ← repeat other_param limit (p ∷ []); right ← a_token is_right_paren; pure (settled left ps right)

  abbrev pub params_by : Token → TokenKind → Choice HostParameters
  params_by left k.RightParen = Some (λ right. pure (parameters_of left None [] right))
  params_by left _ = None

  -- after the left parenthesis
  unfoldable pub params : Token → Parser HostParameters
  params left = look (params_by left) (some_params left)

  -- ---- declarations

  abbrev pub function_of : HostType → Token → HostParameters → Option Token → HostFunction
  function_of y x ps c = record { result = y; name = x; parameters = ps; constant = c }

  -- type NAME params [ "const" ]
  unfoldable pub a_function : Parser HostFunction
  a_function = do y ← a_type; x ← a_token is_name; left ← a_token is_left_paren; ps ← params left; c ← perhaps is_const; pure (function_of y x ps c)

abbrev pub property_of : HostType → Token → HostProperty
property_of y x = record { declared_type = y; name = x }

-- type NAME
unfoldable pub a_property : Parser HostProperty
a_property = do y ← a_type; x ← a_token is_name; pure (property_of y x)
