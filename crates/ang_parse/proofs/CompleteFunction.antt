-- What is spelled as a function, as global variables or as an import is read.
use Rattle.std.proofs.Common.{◌≡◌, ℕ, ◌+◌, ◌<◌, ◌≤◌, Bool, true, false, List, [], ◌∷◌, length, Option, Some, None, Ok, Err, refl, ap, ◌∙◌, arith}
use Rattle.std.proofs.lemmas.List.{length-append}
use Rattle.ang_lex.specs.declared.token.Token.{Token}
use Rattle.ang_lex.specs.declared.token.TokenKind.{TokenKind}
use Rattle.ang_lex.specs.declared.token.TokenKind.TheVariants as k
use Rattle.ang_tree.specs.declared.type_name.TypeName.{TypeName}
use Rattle.ang_tree.specs.Kinds.{Is, IsA, IsComma, IfWritten, optional, type_kind}
use Rattle.ang_tree.specs.TypeNames.{spelled_handle, spelled_type, FitsType}
use Rattle.ang_tree.specs.Tree.{Args, Trees, arguments, listed, FitsArgs}
use Rattle.ang_tree.specs.Stmt.{each, Every, Init, absent, value, constructor, Var, Vars, Body, Stmts, body, spelled_init, spelled_var, spelled_vars, spelled_stmts, FitsInit, FitsVar, FitsVars, FitsBody}
use Rattle.ang_tree.specs.Declarations.{Params, spelled_params, FitsParams, Decl, spelled_decl, FitsDecl}
use Rattle.ang_tree.specs.Declarations as decl
use Rattle.ang_parse_read.specs.Read.{at, deep, Outcome, and_then, pure, ◌>>=◌}
use Rattle.ang_parse_read.specs.Tokens.{a_token, is_name, is_left_paren, is_left_brace, is_semicolon, is_from, is_text, is_const}
use Rattle.ang_parse_read.specs.Law.{finish}
use Rattle.ang_parse_read.specs.Group.{merged, both_at, both}
use Rattle.ang_parse_read.proofs.Outcomes.{Reads}
use Rattle.ang_parse_read.proofs.Tokens.{begins, look_is, look_at, a_token_is}
use Rattle.ang_parse_expr.proofs.SoundType.{type-length}
use Rattle.ang_parse_expr.proofs.Grip.{First}
use Rattle.ang_parse_expr.proofs.CompleteType.{is_at, EndsType, type_read}
use Rattle.ang_parse_expr.proofs.Complete.{args_read}
use Rattle.ang_parse_expr.proofs.Exactly.{listed-size}
use Rattle.ang_parse_stmt.specs.ReadVars.{variable_of, variables_of}
use Rattle.ang_parse_stmt.proofs.VariableLengths.{init-length}
use Rattle.ang_parse_stmt.proofs.CompleteVars.{variables_behind_read, variables_named_read}
use Rattle.ang_parse_stmt.proofs.CompleteStmt.{body_read}
use Rattle.ang_parse_stmt.proofs.SoundParams.{params-length}
use Rattle.ang_parse_stmt.proofs.CompleteParams.{params_complete, a_params_complete}
use Rattle.ang_parse.specs.ReadFunction as r
use Rattle.ang_parse.proofs.Groups.{params_inside, params_split, params_joined, args_split, args_joined}
use Rattle.ang_parse.proofs.SoundFunction.{whole_params_reads, whole_args_reads}

-- ---- what a type begins with

abbrev pub type_start : TokenKind → Bool
type_start k.Const = true
type_start k.Void = true
type_start k.Name = true
type_start (k.Primitive p) = true
type_start _ = false

type_starts : (kind : TokenKind) → type_kind kind ≡ true → type_start kind ≡ true
type_starts k.Void h = refl
type_starts k.Name h = refl
type_starts (k.Primitive p) h = refl
type_starts _ h = absurd cc

first_of : (c : Option Token) (x : Token) (ts : List Token) → IfWritten k.Const c → IsA type_kind x → First type_start (optional c (x ∷ ts))
first_of None x ts C X = record { token = x; rest = ts; is = refl; kind = type_starts x.kind X }
first_of (Some word) x ts C X = record { token = word; rest = x ∷ ts; is = refl; kind = ap type_start C }

pub type_first : (y : TypeName) (ts : List Token) → FitsType y → First type_start (spelled_type y ts)
type_first y ts f = first_of y.constant y.name (spelled_handle y.handle ts) f.0 f.1

name_ends : (x : Token) (ts : List Token) → Is k.Name x → EndsType (x ∷ ts)
name_ends x ts is = record { no_handle = ap is_at is; no_const = ap is_const is }

-- ---- the group

-- what is read as parameters, whatever it is as arguments
params_found : (ps : Params) (ts a : List Token) (l : ℕ) (R : Args → List Token → Type 0) (o : Outcome Args) → Reads l a R o → length a < l → (es : Option Args) × (merged (Ok (ps, [])) o ts ≡ Ok ((Some ps, es), ts))
params_found ps ts a l R (Ok y) h lt = (Some y.0, refl)
params_found ps ts a l R (Err (at u)) h lt = (None, refl)
params_found ps ts a l R (Err deep) h lt = absurd (omega arith)

-- what is read as arguments, whatever it is as parameters
args_found : (es : Args) (ts a : List Token) (l : ℕ) (R : Params → List Token → Type 0) (o : Outcome Params) → Reads l a R o → length a < l → (ps : Option Params) × (merged o (Ok (es, [])) ts ≡ Ok ((ps, Some es), ts))
args_found es ts a l R (Ok y) h lt = (Some y.0, refl)
args_found es ts a l R (Err (at u)) h lt = (None, refl)
args_found es ts a l R (Err deep) h lt = absurd (omega arith)

whole_params_read : (ps : Params) (l : ℕ) → FitsParams ps → length (spelled_params ps []) < l → r.whole_params l ps.left (params_inside ps []) ≡ Ok (ps, [])
unfolding r.whole_params
whole_params_read ps l f le = ap (λ v. and_then v finish) (params_complete ps l [] f le)

whole_args_read : (left : Token) (es : Trees) (right : Token) (l : ℕ) → FitsArgs (arguments left es right) → length (listed es (right ∷ [])) < l → r.whole_args l left (listed es (right ∷ [])) ≡ Ok (arguments left es right, [])
unfolding r.whole_args
whole_args_read left es right l f le = ap (λ v. and_then v finish) (args_read left es right l [] f (omega (arith, listed-size es (right ∷ []) f.1)))

group_of_params : (ps : Params) (l : ℕ) (ts : List Token) → FitsParams ps → length (params_inside ps ts) + 1 < l → (es : Option Args) × (r.group l ps.left (params_inside ps ts) ≡ Ok ((Some ps, es), ts))
unfolding r.group both
group_of_params ps l ts f le =
    let a = params_inside ps [] in
    let short : length a + 1 < l = omega (arith, ap length (params_joined ps ts f), length-append (params_inside ps []) ts) in
    let found = params_found ps ts a l _ (r.whole_args l ps.left a) (whole_args_reads l l (omega arith) ps.left f.left a) (omega arith) in (
      found.0,
      ap (both_at (r.whole_params l ps.left) (r.whole_args l ps.left)) (params_split ps ts f)
          ∙ ap (λ v. merged v (r.whole_args l ps.left a) ts) (whole_params_read ps l f (omega arith))
          ∙ found.1,
    )

args_length : (left : Token) (es : Trees) (right : Token) (ts : List Token) → FitsArgs (arguments left es right) → length (listed es (right ∷ [])) ≤ length (listed es (right ∷ ts))
args_length left es right ts f = omega (arith, ap length (args_joined (arguments left es right) ts f), length-append (left ∷ listed es (right ∷ [])) ts)

group_of_args : (left : Token) (es : Trees) (right : Token) (l : ℕ) (ts : List Token) → FitsArgs (arguments left es right) → length (listed es (right ∷ ts)) < l
    → (ps : Option Params) × (r.group l left (listed es (right ∷ ts)) ≡ Ok ((ps, Some (arguments left es right)), ts))
unfolding r.group both
group_of_args left es right l ts f le =
    let a = listed es (right ∷ []) in
    let short : length a < l = omega (arith, args_length left es right ts f) in
    let found = args_found (arguments left es right) ts a l _ (r.whole_params l left a) (whole_params_reads l l (omega arith) left f.0 a) short in (
      found.0,
      ap (both_at (r.whole_params l left) (r.whole_args l left)) (args_split left es right ts f)
          ∙ ap (λ v. merged (r.whole_params l left a) v ts) (whole_args_read left es right l f short)
          ∙ found.1,
    )

-- ---- function and globals

abbrev Commas : List Var → Type 0
Commas vs = Every (λ (v : Var). IsComma v.comma) vs

-- what goes on with variables
comma_first : (test : TokenKind → Bool) (o : Option Token) (ts : List Token) → test k.Comma ≡ false → IsComma o → begins test (optional o ts) ≡ false
comma_first test None ts h c = absurd c
comma_first test (Some t) ts h c = ap test c ∙ h

rest_begins : (test : TokenKind → Bool) (vs : List Var) (semicolon : Token) (ts : List Token) → test k.Comma ≡ false → test k.Semicolon ≡ false → Commas vs → Is k.Semicolon semicolon → begins test (each spelled_var vs (semicolon ∷ ts)) ≡ false
rest_begins test [] semicolon ts h g c is = ap test is ∙ g
rest_begins test (v ∷ vs) semicolon ts h g c is = comma_first test v.comma (v.name ∷ spelled_init v.initializer (each spelled_var vs (semicolon ∷ ts))) h c.0

module _ (n l : ℕ) (y : TypeName) (x : Token) where
  typed_read : (ts : List Token) → FitsType y → Is k.Name x → r.function_or_globals n l (spelled_type y (x ∷ ts)) ≡ r.named n l y x ts
  unfolding r.function_or_globals
  typed_read ts Y X =
      ap (λ v. and_then v (λ y. a_token is_name >>= r.named n l y)) (type_read y (x ∷ ts) Y (name_ends x ts X))
      ∙ ap (λ v. and_then v (r.named n l y)) (a_token_is is_name x ts (ap is_name X))

  named_group : (left : Token) (ts : List Token) → Is k.LeftParen left → r.named n l y x (left ∷ ts) ≡ r.grouped n l y x left ts
  unfolding r.named
  named_group left ts is = look_is (r.named_by n l y x) (r.declared l y x) k.LeftParen left ts is

  -- ---- function

  told_function : (ps : Params) (es : Option Args) (left : Token) (ts : List Token) → Is k.LeftBrace left → r.told n l y x (Some ps, es) (left ∷ ts) ≡ r.bodied n l y x ps left ts
  unfolding r.told
  told_function ps es left ts is = look_is (r.told_by n l y x (Some ps)) (r.perhaps_constructed l y x es) k.LeftBrace left ts is

  bodied_read : (ps : Params) (left : Token) (ss : Stmts) (right : Token) (ts : List Token) → FitsBody (body left ss right) → length (spelled_stmts ss (right ∷ ts)) < n → length (spelled_stmts ss (right ∷ ts)) < l
      → r.bodied n l y x ps left (spelled_stmts ss (right ∷ ts)) ≡ Ok (decl.function y x ps (body left ss right), ts)
  unfolding r.bodied
  bodied_read ps left ss right ts f a b = ap (λ v. and_then v (λ b. pure (decl.function y x ps b))) (body_read left ss right n l ts f a b)

  grouped_function : (ps : Params) (left : Token) (ss : Stmts) (right : Token) (ts : List Token) → FitsParams ps → FitsBody (body left ss right)
      → length (params_inside ps (left ∷ spelled_stmts ss (right ∷ ts))) + 1 < l → length (spelled_stmts ss (right ∷ ts)) < n → length (spelled_stmts ss (right ∷ ts)) < l
      → r.grouped n l y x ps.left (params_inside ps (left ∷ spelled_stmts ss (right ∷ ts))) ≡ Ok (decl.function y x ps (body left ss right), ts)
  unfolding r.grouped
  grouped_function ps left ss right ts P f le a b =
      let g = group_of_params ps l (left ∷ spelled_stmts ss (right ∷ ts)) P le in
      ap (λ v. and_then v (r.told n l y x)) g.1
      ∙ told_function ps g.0 left (spelled_stmts ss (right ∷ ts)) f.0
      ∙ bodied_read ps left ss right ts f a b

  -- ---- globals

  named_passes : (kind : TokenKind) → is_left_paren kind ≡ false → r.named_by n l y x kind ≡ None
  named_passes k.LeftParen h = absurd cc
  named_passes _ h = refl

  named_declares : (ts : List Token) → begins is_left_paren ts ≡ false → r.named n l y x ts ≡ r.declared l y x ts
  unfolding r.named
  named_declares [] h = refl
  named_declares (t ∷ u) h = look_at (r.named_by n l y x) (r.declared l y x) None t u (named_passes t.kind h)

  told_passes : (o : Option Params) (kind : TokenKind) → is_left_brace kind ≡ false → r.told_by n l y x o kind ≡ None
  told_passes o k.LeftBrace h = absurd cc
  told_passes o _ h = refl

  told_globals : (ps : Option Params) (es : Args) (ts : List Token) → begins is_left_brace ts ≡ false → r.told n l y x (ps, Some es) ts ≡ r.constructed l y x es ts
  unfolding r.told
  told_globals ps es [] h = refl
  told_globals ps es (t ∷ u) h = look_at (r.told_by n l y x ps) (r.perhaps_constructed l y x (Some es)) None t u (told_passes ps t.kind h)

  module _ (vs : List Var) (c : Commas vs) (f : Every FitsVar vs) (semicolon : Token) (is : Is k.Semicolon semicolon) (ts : List Token) where
    abbrev rest : List Token
    rest = each spelled_var vs (semicolon ∷ ts)

    abbrev all : Init → Decl
    all i = decl.globals (variables_of y (variable_of None x i ∷ vs) semicolon)

    constructed_read : (es : Args) → length rest < l → r.constructed l y x es rest ≡ Ok (all (constructor es), ts)
    unfolding r.constructed
    constructed_read es le = ap (λ v. and_then v (λ vs. pure (decl.globals vs))) (variables_behind_read y (variable_of None x (constructor es)) vs semicolon l ts c f is le)

    grouped_globals : (left : Token) (es : Trees) (right : Token) → FitsArgs (arguments left es right) → length (listed es (right ∷ rest)) < l → length rest < l
        → r.grouped n l y x left (listed es (right ∷ rest)) ≡ Ok (all (constructor (arguments left es right)), ts)
    unfolding r.grouped
    grouped_globals left es right E le short =
        let g = group_of_args left es right l rest E le in
        ap (λ v. and_then v (r.told n l y x)) g.1
        ∙ told_globals g.0 (arguments left es right) rest (rest_begins is_left_brace vs semicolon ts refl refl c is)
        ∙ constructed_read (arguments left es right) short

    declared_read : (i : Init) → FitsInit i → length (spelled_init i rest) < l → r.declared l y x (spelled_init i rest) ≡ Ok (all i, ts)
    unfolding r.declared
    declared_read i I le = ap (λ v. and_then v (λ vs. pure (decl.globals vs))) (variables_named_read y x i vs semicolon l ts I c f is le)

    named_read : (i : Init) → FitsInit i → length (spelled_init i rest) < l → r.named n l y x (spelled_init i rest) ≡ Ok (all i, ts)
    named_read absent I le = named_declares rest (rest_begins is_left_paren vs semicolon ts refl refl c is) ∙ declared_read absent I le
    named_read (value equals e) I le = named_declares (spelled_init (value equals e) rest) (ap is_left_paren I.0) ∙ declared_read (value equals e) I le
    named_read (constructor (arguments left es right)) I le =
        named_group left (listed es (right ∷ rest)) I.0
        ∙ grouped_globals left es right I (omega arith) (omega (arith, init-length (constructor (arguments left es right)) rest))

pub function_complete : (y : TypeName) (x : Token) (ps : Params) (b : Body) (n l : ℕ) (ts : List Token) → FitsDecl (decl.function y x ps b)
    → length (spelled_decl (decl.function y x ps b) ts) < n → length (spelled_decl (decl.function y x ps b) ts) < l
    → r.function_or_globals n l (spelled_decl (decl.function y x ps b) ts) ≡ Ok (decl.function y x ps b, ts)
function_complete y x ps (body left ss right) n l ts f ln ll =
    let behind = left ∷ spelled_stmts ss (right ∷ ts) in
    let a = type-length y (x ∷ spelled_params ps behind) in
    let b = params-length ps behind in
    typed_read n l y x (spelled_params ps behind) f.0 f.1
    ∙ named_group n l y x ps.left (params_inside ps behind) f.2.left
    ∙ grouped_function n l y x ps left ss right ts f.2 f.3 (omega (arith, a, b)) (omega (arith, a, b)) (omega (arith, a, b))

-- variables by their parts, of which the first has no comma
parts_read : (n l : ℕ) (y : TypeName) (o : Option Token) (x : Token) (i : Init) (vs : List Var) (semicolon : Token) (ts : List Token) → FitsType y → o ≡ None → Is k.Name x → FitsInit i → Commas vs → Every FitsVar vs → Is k.Semicolon semicolon
    → length (spelled_type y (optional o (x ∷ spelled_init i (each spelled_var vs (semicolon ∷ ts))))) < l
    → r.function_or_globals n l (spelled_type y (optional o (x ∷ spelled_init i (each spelled_var vs (semicolon ∷ ts))))) ≡ Ok (decl.globals (variables_of y (variable_of o x i ∷ vs) semicolon), ts)
parts_read n l y None x i vs semicolon ts Y e X I c f is le =
    typed_read n l y x (spelled_init i (each spelled_var vs (semicolon ∷ ts))) Y X
    ∙ named_read n l y x vs c f semicolon is ts i I (omega (arith, type-length y (x ∷ spelled_init i (each spelled_var vs (semicolon ∷ ts)))))
parts_read n l y (Some comma) x i vs semicolon ts Y e X I c f is le = absurd cc

variables_read : (n l : ℕ) (y : TypeName) (items : List Var) (semicolon : Token) (ts : List Token) → FitsVars (variables_of y items semicolon) → length (spelled_type y (each spelled_var items (semicolon ∷ ts))) < l
    → r.function_or_globals n l (spelled_type y (each spelled_var items (semicolon ∷ ts))) ≡ Ok (decl.globals (variables_of y items semicolon), ts)
variables_read n l y [] semicolon ts f le = absurd f.filled
variables_read n l y (v ∷ vs) semicolon ts f le = parts_read n l y v.comma v.name v.initializer vs semicolon ts f.of_type f.parted.0 f.items.0.0 f.items.0.1 f.parted.1 f.items.1 f.semicolon le

pub globals_complete : (vs : Vars) (n l : ℕ) (ts : List Token) → FitsVars vs → length (spelled_vars vs ts) < l → r.function_or_globals n l (spelled_vars vs ts) ≡ Ok (decl.globals vs, ts)
globals_complete vs n l ts f le = variables_read n l vs.declared_type vs.items vs.semicolon ts f le

-- ---- import

origin_read : (word text semicolon : Token) (ts : List Token) → Is k.From word → Is k.Text text → Is k.Semicolon semicolon → r.origin (word ∷ text ∷ semicolon ∷ ts) ≡ Ok ((word, text, semicolon), ts)
unfolding r.origin
origin_read word text semicolon ts W T S =
    rw (a_token_is is_from word (text ∷ semicolon ∷ ts) (ap is_from W), a_token_is is_text text (semicolon ∷ ts) (ap is_text T), a_token_is is_semicolon semicolon ts (ap is_semicolon S)) refl

pub import_complete : (word : Token) (y : TypeName) (x : Token) (ps : Params) (origin text semicolon : Token) (l : ℕ) (ts : List Token) → FitsDecl (decl.import word y x ps origin text semicolon)
    → length (spelled_decl (decl.import word y x ps origin text semicolon) ts) < l
    → r.import l word (spelled_type y (x ∷ spelled_params ps (origin ∷ text ∷ semicolon ∷ ts))) ≡ Ok (decl.import word y x ps origin text semicolon, ts)
unfolding r.import
import_complete word y x ps origin text semicolon l ts f le =
    let behind = origin ∷ text ∷ semicolon ∷ ts in
    let lt : length (spelled_params ps behind) < l = omega (arith, type-length y (x ∷ spelled_params ps behind)) in
    rw (type_read y (x ∷ spelled_params ps behind) f.1 (name_ends x (spelled_params ps behind) f.2), a_token_is is_name x (spelled_params ps behind) (ap is_name f.2), a_params_complete ps l behind f.3 lt, origin_read origin text semicolon ts f.4 f.5 f.6) refl
