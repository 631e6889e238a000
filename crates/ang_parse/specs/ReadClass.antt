-- Reading classes and interfaces. (docs/LANGUAGE.md, "Grammar": `class`, `member`, `access`, `interface`.)
use Rattle.std.specs.Prelude.{ℕ, Bool, true, false, List, [], ◌∷◌, ◌++◌, Option, Some, None}
use Rattle.ang_lex.specs.declared.token.Token.{Token}
use Rattle.ang_lex.specs.declared.token.TokenKind.{TokenKind}
use Rattle.ang_lex.specs.declared.token.TokenKind.TheVariants as k
use Rattle.ang_tree.specs.declared.type_name.TypeName.{TypeName}
use Rattle.ang_tree.specs.declared.declaration.BaseName.{BaseName}
use Rattle.ang_tree.specs.declared.declaration.FieldName.{FieldName}
use Rattle.ang_tree.specs.Kinds.{access_kind, attribute_kind}
use Rattle.ang_tree.specs.Tree.{Args}
use Rattle.ang_tree.specs.Stmt.{Body, Stmts}
use Rattle.ang_tree.specs.Declarations as tree
use Rattle.ang_parse_read.specs.Read.{Parser, ◌>>=◌, pure, Choice, given, look, Turn, ready, repeat}
use Rattle.ang_parse_read.specs.Tokens.{a_token, perhaps, is_name, is_left_paren, is_left_brace, is_right_brace, is_semicolon, is_const}
use Rattle.ang_parse_expr.specs.ReadType.{a_type, type_named}
use Rattle.ang_parse_expr.specs.ReadExpr.{expr, args}
use Rattle.ang_parse_stmt.specs.Ahead.{ahead}
use Rattle.ang_parse_stmt.specs.ReadStmt.{stmt, statements, a_body}
use Rattle.ang_parse_stmt.specs.ReadParams.{params, a_params}
use Rattle.ang_parse.specs.declared.parts.MemberStart.{MemberStart}

-- NAME [ ":" NAME { "," NAME } ] "{"
pub record Heading : Type 0 where
  pub name : Token
  pub bases : List BaseName
  pub left : Token

-- [ "const" ] { "final" | "override" } block
pub record MethodEnd : Type 0 where
  pub constant : Option Token
  pub attributes : List Token
  pub body : Body

-- [ "super" args ";" ] { stmt } "}"
pub record ConstructorEnd : Type 0 where
  pub super_call : Option tree.SuperTree
  pub statements : Stmts
  pub right : Token

abbrev pub base_of : Token → Token → BaseName
base_of separator x = record { separator = separator; name = x }

abbrev pub field_of : Option Token → Token → FieldName
field_of comma x = record { comma = comma; name = x }

abbrev pub start_of : Option Token → TypeName → Token → MemberStart
start_of access y x = record { access = access; declared_type = y; name = x }

abbrev pub super_of : Token → Args → Token → tree.SuperTree
super_of word es semicolon = record { word = word; arguments = es; semicolon = semicolon }

abbrev pub heading_of : Token → List BaseName → Token → Heading
heading_of x bs left = record { name = x; bases = bs; left = left }

abbrev pub method_end_of : Option Token → List Token → Body → MethodEnd
method_end_of c ws b = record { constant = c; attributes = ws; body = b }

abbrev pub constructor_end_of : Option tree.SuperTree → Stmts → Token → ConstructorEnd
constructor_end_of s ss right = record { super_call = s; statements = ss; right = right }

abbrev pub fields_made : MemberStart → List FieldName → Token → tree.MemberTree
fields_made start fs semicolon = tree.fields start.access start.declared_type fs semicolon

abbrev pub method_made : MemberStart → tree.Params → MethodEnd → tree.MemberTree
method_made start ps e = tree.method start.access start.declared_type start.name ps e.constant e.attributes e.body

abbrev pub constructor_made : Token → tree.Params → Token → ConstructorEnd → tree.MemberTree
constructor_made x ps left e = tree.constructor x ps left e.super_call e.statements e.right

abbrev pub interface_method_of : TypeName → Token → tree.Params → Option Token → Token → tree.MethodTree
interface_method_of y x ps c semicolon = record { result_type = y; name = x; parameters = ps; constant = c; semicolon = semicolon }

abbrev pub class_made : Option Token → Token → Heading → List tree.MemberTree → Token → tree.Decl
class_made final word h ms right = tree.class final word h.name h.bases h.left ms right

abbrev pub interface_made : Token → Heading → List tree.MethodTree → Token → tree.Decl
interface_made word h ms right = tree.interface word h.name h.bases h.left ms right

abbrev pub is_class : TokenKind → Bool
is_class k.Class = true
is_class _ = false

-- ---- one more of a list

-- a base, after the comma
unfoldable pub another_base : List BaseName → Token → Turn (List BaseName)
another_base bs comma = do x ← a_token is_name; pure (bs ++ base_of comma x ∷ [], true)

abbrev pub other_base_by : List BaseName → TokenKind → Choice (List BaseName × Bool)
other_base_by bs k.Comma = Some (another_base bs)
other_base_by bs _ = None

unfoldable pub other_base : List BaseName → Turn (List BaseName)
other_base bs = look (other_base_by bs) (ready bs)

-- a field, after the comma
unfoldable pub another_field : List FieldName → Token → Turn (List FieldName)
another_field fs comma = do x ← a_token is_name; pure (fs ++ field_of (Some comma) x ∷ [], true)

abbrev pub other_field_by : List FieldName → TokenKind → Choice (List FieldName × Bool)
other_field_by fs k.Comma = Some (another_field fs)
other_field_by fs _ = None

unfoldable pub other_field : List FieldName → Turn (List FieldName)
other_field fs = look (other_field_by fs) (ready fs)

-- `final` or `override`
abbrev pub attribute_by : List Token → TokenKind → Choice (List Token × Bool)
attribute_by ws kind = given (attribute_kind kind) (λ word. pure (ws ++ word ∷ [], true))

unfoldable pub attribute : List Token → Turn (List Token)
attribute ws = look (attribute_by ws) (ready ws)

-- By the bound of expressions and of loops.
module _ (limit : ℕ) where
  -- ---- names and bases

  -- after `:`
  unfoldable pub some_bases : Token → Parser (List BaseName)
  some_bases colon = do x ← a_token is_name; repeat other_base limit (base_of colon x ∷ [])

  abbrev pub bases_by : TokenKind → Choice (List BaseName)
  bases_by k.Colon = Some some_bases
  bases_by _ = None

  -- [ ":" NAME { "," NAME } ]
  unfoldable pub bases : Parser (List BaseName)
  bases = look bases_by (pure [])

  unfoldable pub heading : Parser Heading
  heading = do x ← a_token is_name; bs ← bases; left ← a_token is_left_brace; pure (heading_of x bs left)

  -- ---- parts of members

  -- fields, after the name of the first
  unfoldable pub fields : MemberStart → Parser tree.MemberTree
  fields start = do fs ← repeat other_field limit (field_of None start.name ∷ []); semicolon ← a_token is_semicolon; pure (fields_made start fs semicolon)

  -- { "final" | "override" }
  abbrev pub attributes : Parser (List Token)
  attributes = repeat attribute limit []

  -- after `super`
  unfoldable pub super_called : Token → Parser (Option tree.SuperTree)
  super_called word = do left ← a_token is_left_paren; es ← args (expr limit) limit left; semicolon ← a_token is_semicolon; pure (Some (super_of word es semicolon))

  abbrev pub super_by : TokenKind → Choice (Option tree.SuperTree)
  super_by k.Super = Some super_called
  super_by _ = None

  -- [ "super" args ";" ]
  unfoldable pub super_call : Parser (Option tree.SuperTree)
  super_call = look super_by (pure None)

  -- ---- interfaces

  -- type NAME params [ "const" ] ";"
  unfoldable pub method : Parser tree.MethodTree
  method = do y ← a_type; x ← a_token is_name; ps ← a_params limit; c ← perhaps is_const; semicolon ← a_token is_semicolon; pure (interface_method_of y x ps c semicolon)

  unfoldable pub next_method : List tree.MethodTree → Turn (List tree.MethodTree)
  next_method ms = do m ← method; pure (ms ++ m ∷ [], true)

  unfoldable pub other_method : List tree.MethodTree → Turn (List tree.MethodTree)
  other_method ms = ahead is_right_brace (ready ms) (next_method ms)

  -- { type NAME params [ "const" ] ";" }, up to a right brace
  abbrev pub methods : Parser (List tree.MethodTree)
  methods = repeat other_method limit []

  -- after `interface`
  unfoldable pub interface : Token → Parser tree.Decl
  interface word = do h ← heading; ms ← methods; right ← a_token is_right_brace; pure (interface_made word h ms right)

-- By the bound of nested statements, and that of expressions and of loops.
module _ (depth limit : ℕ) where
  -- ---- members

  unfoldable pub method_end : Parser MethodEnd
  method_end = do c ← perhaps is_const; ws ← attributes limit; left ← a_token is_left_brace; b ← a_body (stmt depth limit) limit left; pure (method_end_of c ws b)

  -- a method, after the left parenthesis of its parameters
  unfoldable pub method_of : MemberStart → Token → Parser tree.MemberTree
  method_of start left = do ps ← params limit left; e ← method_end; pure (method_made start ps e)

  unfoldable pub constructor_end : Parser ConstructorEnd
  constructor_end = do s ← super_call limit; ss ← statements (stmt depth limit) limit; right ← a_token is_right_brace; pure (constructor_end_of s ss right)

  -- a constructor, after the left parenthesis of its parameters
  unfoldable pub constructor_of : Token → Token → Parser tree.MemberTree
  constructor_of x left = do ps ← params limit left; brace ← a_token is_left_brace; e ← constructor_end; pure (constructor_made x ps brace e)

  -- After `access type NAME`, a left parenthesis tells a method from fields.
  abbrev pub started_by : MemberStart → TokenKind → Choice tree.MemberTree
  started_by start k.LeftParen = Some (method_of start)
  started_by start _ = None

  unfoldable pub started : MemberStart → Parser tree.MemberTree
  started start = look (started_by start) (fields limit start)

  -- after its type
  unfoldable pub typed : Option Token → TypeName → Parser tree.MemberTree
  typed access y = do x ← a_token is_name; started (start_of access y x)

  -- after its access
  unfoldable pub accessed : Option Token → Parser tree.MemberTree
  accessed access = do y ← a_type; typed access y

  -- after the name of its type
  unfoldable pub type_started : Token → Parser tree.MemberTree
  type_started x = do y ← type_named None x; typed None y

  -- After a name, a left parenthesis tells a constructor from a member whose type the name is.
  abbrev pub named_by : Token → TokenKind → Choice tree.MemberTree
  named_by x k.LeftParen = Some (constructor_of x)
  named_by x _ = None

  unfoldable pub named : Token → Parser tree.MemberTree
  named x = look (named_by x) (type_started x)

  abbrev pub member_by : TokenKind → Choice tree.MemberTree
  member_by k.Name = Some named
  member_by kind = given (access_kind kind) (λ word. accessed (Some word))

  unfoldable pub member : Parser tree.MemberTree
  member = look member_by (accessed None)

  unfoldable pub next_member : List tree.MemberTree → Turn (List tree.MemberTree)
  next_member ms = do m ← member; pure (ms ++ m ∷ [], true)

  unfoldable pub other_member : List tree.MemberTree → Turn (List tree.MemberTree)
  other_member ms = ahead is_right_brace (ready ms) (next_member ms)

  -- { member }, up to a right brace
  abbrev pub members : Parser (List tree.MemberTree)
  members = repeat other_member limit []

  -- ---- classes

  -- after `class`, with the word `final` where it stands in front
  unfoldable pub class : Option Token → Token → Parser tree.Decl
  class final word = do h ← heading limit; ms ← members; right ← a_token is_right_brace; pure (class_made final word h ms right)

  -- after `final`
  unfoldable pub final_class : Token → Parser tree.Decl
  final_class final = do word ← a_token is_class; class (Some final) word
