-- What is spelled as variables, or as what may stand where they may, is read.
use Rattle.std.proofs.Common.{◌≡◌, ℕ, zero, suc, ◌<◌, ◌≤◌, Bool, true, false, List, [], ◌∷◌, ◌++◌, length, Option, Some, None, Ok, refl, ap, sym, ◌∙◌, append_assoc, append-nil, arith}
use Rattle.ang_lex.specs.declared.token.Token.{Token}
use Rattle.ang_lex.specs.declared.token.TokenKind.{TokenKind}
use Rattle.ang_lex.specs.declared.token.TokenKind.TheVariants as k
use Rattle.ang_tree.specs.declared.type_name.TypeName.{TypeName}
use Rattle.ang_tree.specs.declared.type_name.Handle.{Handle}
use Rattle.ang_tree.specs.Kinds.{Is, IsA, IsComma, IfWritten, optional, literal_kind, primitive_kind, type_kind, prefix_kind, step_kind, assignment_kind, precedence}
use Rattle.ang_tree.specs.TypeNames.{spelled_handle, spelled_type, FitsHandle, FitsType}
use Rattle.ang_tree.specs.Tree.{Tree, Args, literal, name, call, scoped_call, scoped_name, cast, convert, group, postfix, member, method_call, prefix, binary, conditional, assignment, arguments, spelled, spelled_args, listed, Fits}
use Rattle.ang_tree.specs.Stmt.{each, Every, Init, absent, value, constructor, Var, Start, with_variables, with_expression, spelled_init, spelled_var, spelled_option, spelled_start, FitsInit, FitsVar, FitsVars, FitsOption, FitsStart}
use Rattle.ang_parse_read.specs.Read.{Parser, and_then, pure, ◌>>=◌, repeat}
use Rattle.ang_parse_read.specs.Tokens.{a_token, perhaps, is_name, is_semicolon, is_const, is_left_paren}
use Rattle.ang_parse_read.proofs.Tokens.{begins, look_is, look_at, a_token_is, perhaps_is, perhaps_not}
use Rattle.ang_parse_read.proofs.Loops.{repeat_stops, repeat_goes_on}
use Rattle.ang_parse_expr.specs.ReadType.{handle_of, type_of}
use Rattle.ang_parse_expr.specs.ReadExpr.{expr, args}
use Rattle.ang_parse_expr.proofs.SoundType.{type-length}
use Rattle.ang_parse_expr.proofs.Grip.{grip, grip_of, grip_is, starter_kind, starts, passed}
use Rattle.ang_parse_expr.proofs.Stops.{is_comma, EndsList}
use Rattle.ang_parse_expr.proofs.CompleteType.{is_at, EndsType, type_named_read}
use Rattle.ang_parse_expr.proofs.Complete.{expr_complete, args_read}
use Rattle.ang_parse_expr.proofs.Exactly.{size-length, listed-size}
use Rattle.ang_parse_stmt.specs.ReadVars as r
use Rattle.ang_parse_stmt.proofs.VariableLengths.{init-length}

-- ---- expressions, by the number of the tokens

pub expression_read : (x : Tree) (l : ℕ) (ts : List Token) → Fits x → length (spelled x ts) < l → grip ts ≤ 0 → expr l 0 (spelled x ts) ≡ Ok (x, ts)
expression_read x l ts f le g = expr_complete x l ts f (omega (arith, size-length x ts f)) g

pub low_at : (kind : TokenKind) (t : Token) (ts : List Token) → t.kind ≡ kind → grip_of kind ≤ 0 → grip (t ∷ ts) ≤ 0
low_at kind t ts is h = omega (arith, grip_is kind t ts is)

-- ---- variables

init_stops_by : (l : ℕ) (kind : TokenKind) → grip_of kind ≤ 0 → r.init_by l kind ≡ None
init_stops_by l k.Assign h = absurd (omega arith)
init_stops_by l k.LeftParen h = absurd (omega arith)
init_stops_by l _ h = refl

init_stops : (l : ℕ) (ts : List Token) → grip ts ≤ 0 → r.init l ts ≡ Ok (absent, ts)
unfolding r.init
init_stops l [] h = refl
init_stops l (t ∷ u) h = look_at (r.init_by l) (pure absent) None t u (init_stops_by l t.kind h)

value_done : (l : ℕ) (equals : Token) (e : Tree) (ts us : List Token) → Is k.Assign equals → expr l 0 ts ≡ Ok (e, us) → r.init l (equals ∷ ts) ≡ Ok (value equals e, us)
unfolding r.init r.valued
value_done l equals e ts us is h = look_is (r.init_by l) (pure absent) k.Assign equals ts is ∙ ap (λ v. and_then v (λ e. pure (value equals e))) h

constructor_done : (l : ℕ) (left : Token) (es : Args) (ts us : List Token) → Is k.LeftParen left → args (expr l) l left ts ≡ Ok (es, us) → r.init l (left ∷ ts) ≡ Ok (constructor es, us)
unfolding r.init r.constructed
constructor_done l left es ts us is h = look_is (r.init_by l) (pure absent) k.LeftParen left ts is ∙ ap (λ v. and_then v (λ es. pure (constructor es))) h

pub init_read : (i : Init) (l : ℕ) (ts : List Token) → FitsInit i → length (spelled_init i ts) < l → grip ts ≤ 0 → r.init l (spelled_init i ts) ≡ Ok (i, ts)
init_read absent l ts f le g = init_stops l ts g
init_read (value equals e) l ts f le g = value_done l equals e (spelled e ts) ts f.0 (expression_read e l ts f.1 (omega arith) g)
init_read (constructor (arguments left es right)) l ts f le g =
    constructor_done l left (arguments left es right) (listed es (right ∷ ts)) ts f.0 (args_read left es right l ts f (omega (arith, listed-size es (right ∷ ts) f.1)))

pub variable_named_read : (comma : Option Token) (x : Token) (i : Init) (l : ℕ) (ts : List Token) → FitsInit i → length (spelled_init i ts) < l → grip ts ≤ 0
    → r.variable_named l comma x (spelled_init i ts) ≡ Ok (r.variable_of comma x i, ts)
unfolding r.variable_named
variable_named_read comma x i l ts f le g = ap (λ v. and_then v (λ i. pure (r.variable_of comma x i))) (init_read i l ts f le g)

other_stops_by : (l : ℕ) (us : List Var) (kind : TokenKind) → is_comma kind ≡ false → r.other_variable_by l us kind ≡ None
other_stops_by l us k.Comma h = absurd cc
other_stops_by l us _ h = refl

other_stops : (l : ℕ) (us : List Var) (ts : List Token) → begins is_comma ts ≡ false → r.other_variable l us ts ≡ Ok ((us, false), ts)
unfolding r.other_variable
other_stops l us [] h = refl
other_stops l us (t ∷ u) h = look_at (r.other_variable_by l us) (pure (us, false)) None t u (other_stops_by l us t.kind h)

other_done : (l : ℕ) (us : List Var) (comma x : Token) (v : Var) (ts rest : List Token) → Is k.Comma comma → Is k.Name x → r.variable_named l (Some comma) x ts ≡ Ok (v, rest)
    → r.other_variable l us (comma ∷ x ∷ ts) ≡ Ok ((us ++ v ∷ [], true), rest)
unfolding r.other_variable r.another_variable
other_done l us comma x v ts rest is X h =
    look_is (r.other_variable_by l us) (pure (us, false)) k.Comma comma (x ∷ ts) is
    ∙ ap (λ w. and_then w (λ x. r.variable_named l (Some comma) x >>= (λ v. pure (us ++ v ∷ [], true)))) (a_token_is is_name x ts (ap is_name X))
    ∙ ap (λ w. and_then w (λ v. pure (us ++ v ∷ [], true))) h

one_read : (o : Option Token) (x : Token) (i : Init) (l j : ℕ) (us : List Var) (rest : List Token) → IsComma o → Is k.Name x → FitsInit i → length (spelled_init i rest) < l → grip rest ≤ 0
    → repeat (r.other_variable l) (suc j) us (optional o (x ∷ spelled_init i rest)) ≡ repeat (r.other_variable l) j (us ++ r.variable_of o x i ∷ []) rest
one_read None x i l j us rest c X f le g = absurd c
one_read (Some comma) x i l j us rest c X f le g =
    repeat_goes_on (r.other_variable l) us (us ++ r.variable_of (Some comma) x i ∷ []) j (comma ∷ x ∷ spelled_init i rest) rest
    (other_done l us comma x (r.variable_of (Some comma) x i) (spelled_init i rest) rest c X (variable_named_read (Some comma) x i l rest f le g))

comma_low : (o : Option Token) (u : List Token) → IsComma o → grip (optional o u) ≤ 0
comma_low None u h = absurd h
comma_low (Some t) u h = low_at k.Comma t u h (omega arith)

abbrev Commas : List Var → Type 0
Commas vs = Every (λ (v : Var). IsComma v.comma) vs

commas_low : (vs : List Var) (ts : List Token) → Commas vs → grip ts ≤ 0 → grip (each spelled_var vs ts) ≤ 0
commas_low [] ts c h = h
commas_low (v ∷ vs) ts c h = comma_low v.comma (v.name ∷ spelled_init v.initializer (each spelled_var vs ts)) c.0

comma-length : (o : Option Token) (u : List Token) → IsComma o → length (optional o u) ≡ suc (length u)
comma-length None u h = absurd h
comma-length (Some t) u h = refl

others_read : (vs : List Var) (l j : ℕ) (us : List Var) (ts : List Token) → Commas vs → Every FitsVar vs → length (each spelled_var vs ts) < l → length (each spelled_var vs ts) < j → EndsList ts
    → repeat (r.other_variable l) j us (each spelled_var vs ts) ≡ Ok (us ++ vs, ts)
others_read [] l j us ts c f le lt e = repeat_stops (r.other_variable l) us j ts (omega arith) (other_stops l us ts e.no_comma) ∙ ap (λ v. Ok (v, ts)) (sym (append-nil us))
others_read (v ∷ vs) l zero us ts c f le lt e = absurd (omega arith)
others_read (v ∷ vs) l (suc j) us ts c f le lt e =
    let rest = each spelled_var vs ts in
    let n : length (optional v.comma (v.name ∷ spelled_init v.initializer rest)) ≡ suc (length (v.name ∷ spelled_init v.initializer rest)) = comma-length v.comma (v.name ∷ spelled_init v.initializer rest) c.0 in
    let m : length rest ≤ length (spelled_init v.initializer rest) = init-length v.initializer rest in
    one_read v.comma v.name v.initializer l j us rest c.0 f.0.0 f.0.1 (omega arith) (commas_low vs ts c.1 e.low)
    ∙ others_read vs l j (us ++ v ∷ []) ts c.1 f.1 (omega arith) (omega arith) e
    ∙ ap (λ w. Ok (w, ts)) (append_assoc us (v ∷ []) vs)

semicolon_ends : (semicolon : Token) (ts : List Token) → Is k.Semicolon semicolon → EndsList (semicolon ∷ ts)
semicolon_ends semicolon ts is = record { low = low_at k.Semicolon semicolon ts is (omega arith); no_comma = ap is_comma is }

pub variables_behind_read : (y : TypeName) (v : Var) (vs : List Var) (semicolon : Token) (l : ℕ) (ts : List Token) → Commas vs → Every FitsVar vs → Is k.Semicolon semicolon
    → length (each spelled_var vs (semicolon ∷ ts)) < l → r.variables_behind l y v (each spelled_var vs (semicolon ∷ ts)) ≡ Ok (r.variables_of y (v ∷ vs) semicolon, ts)
unfolding r.variables_behind
variables_behind_read y v vs semicolon l ts c f is le =
    ap (λ w. and_then w (λ vs. a_token is_semicolon >>= (λ semicolon. pure (r.variables_of y vs semicolon)))) (others_read vs l l (v ∷ []) (semicolon ∷ ts) c f le le (semicolon_ends semicolon ts is))
    ∙ ap (λ w. and_then w (λ semicolon. pure (r.variables_of y (v ∷ vs) semicolon))) (a_token_is is_semicolon semicolon ts (ap is_semicolon is))

pub variables_named_read : (y : TypeName) (x : Token) (i : Init) (vs : List Var) (semicolon : Token) (l : ℕ) (ts : List Token) → FitsInit i → Commas vs → Every FitsVar vs → Is k.Semicolon semicolon
    → length (spelled_init i (each spelled_var vs (semicolon ∷ ts))) < l
    → r.variables_named l y x (spelled_init i (each spelled_var vs (semicolon ∷ ts))) ≡ Ok (r.variables_of y (r.variable_of None x i ∷ vs) semicolon, ts)
unfolding r.variables_named
variables_named_read y x i vs semicolon l ts fi c f is le =
    let rest = each spelled_var vs (semicolon ∷ ts) in
    ap (λ w. and_then w (r.variables_behind l y)) (variable_named_read None x i l rest fi le (commas_low vs (semicolon ∷ ts) c ((semicolon_ends semicolon ts is).low)))
    ∙ variables_behind_read y (r.variable_of None x i) vs semicolon l ts c f is (omega (arith, init-length i rest))

-- ---- an expression is not taken for variables

-- a name or `@`, after a name
abbrev names_kind : TokenKind → Bool
names_kind k.At = true
names_kind k.Name = true
names_kind _ = false

step_names : (kind : TokenKind) → step_kind kind ≡ true → names_kind kind ≡ false
step_names k.At h = absurd cc
step_names k.Name h = absurd cc
step_names _ h = refl

operator_names : (kind : TokenKind) → 1 ≤ precedence kind → names_kind kind ≡ false
operator_names k.At h = absurd (omega arith)
operator_names k.Name h = absurd (omega arith)
operator_names _ h = refl

assignment_names : (kind : TokenKind) → assignment_kind kind ≡ true → names_kind kind ≡ false
assignment_names k.At h = absurd cc
assignment_names k.Name h = absurd cc
assignment_names _ h = refl

module _ (l : ℕ) where
  literal_passes : (kind : TokenKind) → literal_kind kind ≡ true → r.start_by l kind ≡ None
  literal_passes k.Semicolon h = absurd cc
  literal_passes k.Const h = absurd cc
  literal_passes k.Void h = absurd cc
  literal_passes k.Name h = absurd cc
  literal_passes (k.Primitive p) h = absurd cc
  literal_passes _ h = refl

  prefix_passes : (kind : TokenKind) → prefix_kind kind ≡ true → r.start_by l kind ≡ None
  prefix_passes k.Semicolon h = absurd cc
  prefix_passes k.Const h = absurd cc
  prefix_passes k.Void h = absurd cc
  prefix_passes k.Name h = absurd cc
  prefix_passes (k.Primitive p) h = absurd cc
  prefix_passes _ h = refl

  primitive_starts : (kind : TokenKind) → primitive_kind kind ≡ true → r.start_by l kind ≡ Some (r.primitive l)
  primitive_starts (k.Primitive p) h = refl
  primitive_starts _ h = absurd cc

  passes : (t : Token) (ts : List Token) → r.start_by l t.kind ≡ None → r.start l (t ∷ ts) ≡ r.ran l (t ∷ ts)
  unfolding r.start
  passes t ts h = look_at (r.start_by l) (r.ran l) None t ts h

  starts_at : (kind : TokenKind) (p : Token → Parser Start) (t : Token) (ts : List Token) → r.start_by l kind ≡ Some p → t.kind ≡ kind → r.start l (t ∷ ts) ≡ p t ts
  unfolding r.start
  starts_at kind p t ts h is = look_at (r.start_by l) (r.ran l) (Some p) t ts (ap (r.start_by l) is ∙ h)

  named_passes : (x : Token) (kind : TokenKind) → names_kind kind ≡ false → r.named_by l x kind ≡ None
  named_passes x k.At h = absurd cc
  named_passes x k.Name h = absurd cc
  named_passes x _ h = refl

  named_runs : (x : Token) (ts : List Token) → begins names_kind ts ≡ false → r.named l x ts ≡ r.ran l (x ∷ ts)
  unfolding r.named
  named_runs x [] h = refl
  named_runs x (t ∷ u) h = look_at (r.named_by l x) (λ ts. r.ran l (x ∷ ts)) None t u (named_passes x t.kind h)

  name_runs : (x : Token) (ts : List Token) → Is k.Name x → begins names_kind ts ≡ false → r.start l (x ∷ ts) ≡ r.ran l (x ∷ ts)
  name_runs x ts is h = starts_at k.Name (r.named l) x ts refl is ∙ named_runs x ts h

  primitive_runs : (p left : Token) (ts : List Token) → Is k.LeftParen left → r.primitive l p (left ∷ ts) ≡ r.ran l (p ∷ left ∷ ts)
  unfolding r.primitive
  primitive_runs p left ts is = look_is (r.primitive_by l p) (r.typed l None p) k.LeftParen left ts is

  runs : (x : Tree) (ts : List Token) → Fits x → begins names_kind ts ≡ false → r.start l (spelled x ts) ≡ r.ran l (spelled x ts)
  runs (literal t) ts f h = passes t ts (literal_passes t.kind f)
  runs (name x) ts f h = name_runs x ts f h
  runs (call x (arguments left es right)) ts f h = name_runs x (left ∷ listed es (right ∷ ts)) f.0 (ap names_kind f.1.0)
  runs (scoped_call c scope x es) ts f h = name_runs c (scope ∷ x ∷ spelled_args es ts) f.0 (ap names_kind f.1)
  runs (scoped_name c scope x) ts f h = name_runs c (scope ∷ x ∷ ts) f.0 (ap names_kind f.1)
  runs (cast word less y greater left e right) ts f h = passes word _ (ap (r.start_by l) f.0)
  runs (convert p left e right) ts f h = starts_at p.kind (r.primitive l) p (left ∷ spelled e (right ∷ ts)) (primitive_starts p.kind f.0) refl ∙ primitive_runs p left (spelled e (right ∷ ts)) f.1
  runs (group left e right) ts f h = passes left _ (ap (r.start_by l) f.0)
  runs (postfix e op) ts f h = runs e (op ∷ ts) f.0 (step_names op.kind f.2)
  runs (member e dot x) ts f h = runs e (dot ∷ x ∷ ts) f.0 (ap names_kind f.2)
  runs (method_call e dot x es) ts f h = runs e (dot ∷ x ∷ spelled_args es ts) f.0 (ap names_kind f.2)
  runs (prefix op e) ts f h = passes op _ (prefix_passes op.kind f.0)
  runs (binary a op b) ts f h = runs a (op ∷ spelled b ts) f.0 (operator_names op.kind f.1)
  runs (conditional c question a colon b) ts f h = runs c (question ∷ spelled a (colon ∷ spelled b ts)) f.0 (ap names_kind f.2)
  runs (assignment a op b) ts f h = runs a (op ∷ spelled b ts) f.0 (assignment_names op.kind f.2)

  -- ---- nor variables for an expression

  const_read : (c : Option Token) (ts : List Token) → IfWritten k.Const c → begins is_const ts ≡ false → perhaps is_const (optional c ts) ≡ Ok (c, ts)
  const_read None ts f h = perhaps_not is_const ts h
  const_read (Some t) ts f h = perhaps_is is_const t ts (ap is_const f)

  declared_of_done : (y : TypeName) (x : Token) (ts : List Token) → Is k.Name x → r.declared_of l y (x ∷ ts) ≡ r.declared l y x ts
  unfolding r.declared_of
  declared_of_done y x ts is = ap (λ v. and_then v (r.declared l y)) (a_token_is is_name x ts (ap is_name is))

  name_ends : (x : Token) (ts : List Token) → Is k.Name x → EndsType (x ∷ ts)
  name_ends x ts is = record { no_handle = ap is_at is; no_const = ap is_const is }

  typed_done : (c : Option Token) (n : Token) (h : Option Handle) (x : Token) (ts : List Token) → FitsHandle h → Is k.Name x → r.typed l c n (spelled_handle h (x ∷ ts)) ≡ r.declared l (type_of c n h) x ts
  unfolding r.typed
  typed_done c n h x ts f is = ap (λ v. and_then v (r.declared_of l)) (type_named_read c n h (x ∷ ts) f (name_ends x ts is)) ∙ declared_of_done (type_of c n h) x ts is

  constant_typed_done : (word n : Token) (h : Option Handle) (x : Token) (ts : List Token) → IsA type_kind n → FitsHandle h → Is k.Name x
      → r.constant_typed l word (n ∷ spelled_handle h (x ∷ ts)) ≡ r.declared l (type_of (Some word) n h) x ts
  unfolding r.constant_typed
  constant_typed_done word n h x ts N f is = ap (λ v. and_then v (r.typed l (Some word))) (a_token_is type_kind n (spelled_handle h (x ∷ ts)) N) ∙ typed_done (Some word) n h x ts f is

  handled_done : (n sign : Token) (c : Option Token) (x : Token) (ts : List Token) → IfWritten k.Const c → Is k.Name x → r.handled l n sign (optional c (x ∷ ts)) ≡ r.declared l (type_of None n (Some (handle_of sign c))) x ts
  unfolding r.handled
  handled_done n sign c x ts C is =
      ap (λ v. and_then v (λ c. r.declared_of l (type_of None n (Some (handle_of sign c))))) (const_read c (x ∷ ts) C (ap is_const is))
      ∙ declared_of_done (type_of None n (Some (handle_of sign c))) x ts is

  named_declares : (n : Token) (h : Option Handle) (x : Token) (ts : List Token) → FitsHandle h → Is k.Name x → r.named l n (spelled_handle h (x ∷ ts)) ≡ r.declared l (type_of None n h) x ts
  unfolding r.named
  named_declares n None x ts f is = look_is (r.named_by l n) (λ ts. r.ran l (n ∷ ts)) k.Name x ts is
  named_declares n (Some h) x ts f is = look_is (r.named_by l n) (λ ts. r.ran l (n ∷ ts)) k.At h.at (optional h.constant (x ∷ ts)) f.0 ∙ handled_done n h.at h.constant x ts f.1 is

  handle_opens : (h : Option Handle) (x : Token) (ts : List Token) → FitsHandle h → Is k.Name x → begins is_left_paren (spelled_handle h (x ∷ ts)) ≡ false
  handle_opens None x ts f is = ap is_left_paren is
  handle_opens (Some h) x ts f is = ap is_left_paren f.0

  primitive_passes : (p : Token) (kind : TokenKind) → is_left_paren kind ≡ false → r.primitive_by l p kind ≡ None
  primitive_passes p k.LeftParen h = absurd cc
  primitive_passes p _ h = refl

  primitive_declares : (p : Token) (ts : List Token) → begins is_left_paren ts ≡ false → r.primitive l p ts ≡ r.typed l None p ts
  unfolding r.primitive
  primitive_declares p [] h = refl
  primitive_declares p (t ∷ u) h = look_at (r.primitive_by l p) (r.typed l None p) None t u (primitive_passes p t.kind h)

  worded_declares : (n : Token) (kind : TokenKind) (h : Option Handle) (x : Token) (ts : List Token) → n.kind ≡ kind → type_kind kind ≡ true → FitsHandle h → Is k.Name x
      → r.start l (n ∷ spelled_handle h (x ∷ ts)) ≡ r.declared l (type_of None n h) x ts
  worded_declares n (k.Primitive p) h x ts is t f X = starts_at (k.Primitive p) (r.primitive l) n (spelled_handle h (x ∷ ts)) refl is ∙ primitive_declares n (spelled_handle h (x ∷ ts)) (handle_opens h x ts f X) ∙ typed_done None n h x ts f X
  worded_declares n k.Void h x ts is t f X = starts_at k.Void (r.typed l None) n (spelled_handle h (x ∷ ts)) refl is ∙ typed_done None n h x ts f X
  worded_declares n k.Name h x ts is t f X = starts_at k.Name (r.named l) n (spelled_handle h (x ∷ ts)) refl is ∙ named_declares n h x ts f X
  worded_declares n _ h x ts is t f X = absurd cc

  declares_at : (c : Option Token) (n : Token) (h : Option Handle) (x : Token) (ts : List Token) → IfWritten k.Const c → IsA type_kind n → FitsHandle h → Is k.Name x
      → r.start l (optional c (n ∷ spelled_handle h (x ∷ ts))) ≡ r.declared l (type_of c n h) x ts
  declares_at None n h x ts C N f X = worded_declares n n.kind h x ts refl N f X
  declares_at (Some word) n h x ts C N f X = starts_at k.Const (r.constant_typed l) word (n ∷ spelled_handle h (x ∷ ts)) refl C ∙ constant_typed_done word n h x ts N f X

  declares : (y : TypeName) (x : Token) (ts : List Token) → FitsType y → Is k.Name x → r.start l (spelled_type y (x ∷ ts)) ≡ r.declared l y x ts
  declares y x ts f X = declares_at y.constant y.name y.handle x ts f.0 f.1 f.2 X

  -- ---- vars | [ assign ] ";"

  some_ended_done : (e : Tree) (semicolon : Token) (ts us : List Token) → Is k.Semicolon semicolon → expr l 0 ts ≡ Ok (e, semicolon ∷ us) → r.some_ended l ts ≡ Ok ((Some e, semicolon), us)
  unfolding r.some_ended
  some_ended_done e semicolon ts us is h = rw (h, a_token_is is_semicolon semicolon us (ap is_semicolon is)) refl

  some_ended_read : (e : Tree) (semicolon : Token) (ts : List Token) → Fits e → Is k.Semicolon semicolon → length (spelled e (semicolon ∷ ts)) < l → r.some_ended l (spelled e (semicolon ∷ ts)) ≡ Ok ((Some e, semicolon), ts)
  some_ended_read e semicolon ts f is le = some_ended_done e semicolon (spelled e (semicolon ∷ ts)) ts is (expression_read e l (semicolon ∷ ts) f le (low_at k.Semicolon semicolon ts is (omega arith)))

  ran_read : (e : Tree) (semicolon : Token) (ts : List Token) → Fits e → Is k.Semicolon semicolon → length (spelled e (semicolon ∷ ts)) < l → r.ran l (spelled e (semicolon ∷ ts)) ≡ Ok (with_expression (Some e) semicolon, ts)
  unfolding r.ran
  ran_read e semicolon ts f is le = ap (λ v. and_then v (λ e. pure (with_expression e.0 e.1))) (some_ended_read e semicolon ts f is le)

  declared_read : (y : TypeName) (x : Token) (i : Init) (vs : List Var) (semicolon : Token) (ts : List Token) → FitsInit i → Commas vs → Every FitsVar vs → Is k.Semicolon semicolon
      → length (spelled_init i (each spelled_var vs (semicolon ∷ ts))) < l
      → r.declared l y x (spelled_init i (each spelled_var vs (semicolon ∷ ts))) ≡ Ok (with_variables (r.variables_of y (r.variable_of None x i ∷ vs) semicolon), ts)
  unfolding r.declared
  declared_read y x i vs semicolon ts fi c f is le = ap (λ v. and_then v (λ vs. pure (with_variables vs))) (variables_named_read y x i vs semicolon l ts fi c f is le)

  -- variables by their parts, of which the first has no comma
  parts_read : (y : TypeName) (o : Option Token) (x : Token) (i : Init) (vs : List Var) (semicolon : Token) (ts : List Token) → FitsType y → o ≡ None → Is k.Name x → FitsInit i → Commas vs → Every FitsVar vs → Is k.Semicolon semicolon
      → length (spelled_type y (optional o (x ∷ spelled_init i (each spelled_var vs (semicolon ∷ ts))))) < l
      → r.start l (spelled_type y (optional o (x ∷ spelled_init i (each spelled_var vs (semicolon ∷ ts))))) ≡ Ok (with_variables (r.variables_of y (r.variable_of o x i ∷ vs) semicolon), ts)
  parts_read y None x i vs semicolon ts Y e X fi c f is le =
      declares y x (spelled_init i (each spelled_var vs (semicolon ∷ ts))) Y X
      ∙ declared_read y x i vs semicolon ts fi c f is (omega (arith, type-length y (x ∷ spelled_init i (each spelled_var vs (semicolon ∷ ts)))))
  parts_read y (Some comma) x i vs semicolon ts Y e X fi c f is le = absurd cc

  variables_read : (y : TypeName) (items : List Var) (semicolon : Token) (ts : List Token) → FitsVars (r.variables_of y items semicolon) → length (spelled_type y (each spelled_var items (semicolon ∷ ts))) < l
      → r.start l (spelled_type y (each spelled_var items (semicolon ∷ ts))) ≡ Ok (with_variables (r.variables_of y items semicolon), ts)
  variables_read y [] semicolon ts f le = absurd f.filled
  variables_read y (v ∷ vs) semicolon ts f le = parts_read y v.comma v.name v.initializer vs semicolon ts f.of_type f.parted.0 f.items.0.0 f.items.0.1 f.parted.1 f.items.1 f.semicolon le

  pub start_read : (b : Start) (ts : List Token) → FitsStart b → length (spelled_start b ts) < l → r.start l (spelled_start b ts) ≡ Ok (b, ts)
  start_read (with_variables vs) ts f le = variables_read vs.declared_type vs.items vs.semicolon ts f le
  start_read (with_expression None semicolon) ts f le = starts_at k.Semicolon (λ semicolon. pure (with_expression None semicolon)) semicolon ts refl f.1
  start_read (with_expression (Some e) semicolon) ts f le = runs e (semicolon ∷ ts) f.0 (ap names_kind f.1) ∙ ran_read e semicolon ts f.0 f.1 le

  -- ---- [ assign ] ";"

  ended_passes : (kind : TokenKind) → starter_kind kind ≡ true → r.ended_by l kind ≡ None
  ended_passes k.Semicolon h = absurd cc
  ended_passes _ h = refl

  pub ended_read : (e : Option Tree) (semicolon : Token) (ts : List Token) → FitsOption e → Is k.Semicolon semicolon → length (spelled_option e (semicolon ∷ ts)) < l
      → r.ended l (spelled_option e (semicolon ∷ ts)) ≡ Ok ((e, semicolon), ts)
  unfolding r.ended
  ended_read None semicolon ts f is le = look_is (r.ended_by l) (r.some_ended l) k.Semicolon semicolon ts is
  ended_read (Some e) semicolon ts f is le = passed starter_kind (r.ended_by l) (r.some_ended l) (spelled e (semicolon ∷ ts)) (starts e (semicolon ∷ ts) f) ended_passes ∙ some_ended_read e semicolon ts f is le
