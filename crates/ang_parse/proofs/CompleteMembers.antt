-- What is spelled as a member of a class, or as a method of an interface, is read.
use Rattle.std.proofs.Common.{◌≡◌, ℕ, zero, suc, ◌<◌, ◌≤◌, Bool, true, false, List, [], ◌∷◌, ◌++◌, length, Option, Some, None, Ok, refl, ap, sym, ◌∙◌, append_assoc, append-nil, arith}
use Rattle.ang_lex.specs.declared.token.Token.{Token}
use Rattle.ang_lex.specs.declared.token.TokenKind.{TokenKind}
use Rattle.ang_lex.specs.declared.token.TokenKind.TheVariants as k
use Rattle.ang_tree.specs.declared.type_name.TypeName.{TypeName}
use Rattle.ang_tree.specs.declared.type_name.Handle.{Handle}
use Rattle.ang_tree.specs.declared.declaration.FieldName.{FieldName}
use Rattle.ang_tree.specs.Kinds.{Is, IsA, IsComma, IfWritten, IfWrittenA, optional, access_kind, attribute_kind, type_kind}
use Rattle.ang_tree.specs.TypeNames.{spelled_handle, spelled_type, FitsHandle, FitsType}
use Rattle.ang_tree.specs.Tree.{Args, arguments, spelled_args, listed, FitsArgs}
use Rattle.ang_tree.specs.Stmt.{each, Every, Stmts, Body, body, end, then, spelled_stmt, spelled_body, spelled_stmts, FitsBody, FitsStmts}
use Rattle.ang_tree.specs.Declarations as tree
use Rattle.ang_parse_read.specs.Read.{and_then, pure, repeat}
use Rattle.ang_parse_read.specs.Tokens.{a_token, perhaps, is_name, is_left_paren, is_left_brace, is_right_brace, is_semicolon, is_const}
use Rattle.ang_parse_read.proofs.Tokens.{begins, look_is, look_at, a_token_is, perhaps_is, perhaps_not}
use Rattle.ang_parse_read.proofs.Loops.{repeat_stops, repeat_goes_on}
use Rattle.ang_parse_expr.specs.ReadType.{a_type, type_of}
use Rattle.ang_parse_expr.specs.ReadExpr.{expr, args}
use Rattle.ang_parse_expr.proofs.SoundType.{optional-length, type-length}
use Rattle.ang_parse_expr.proofs.Grip.{First}
use Rattle.ang_parse_expr.proofs.Stops.{is_comma}
use Rattle.ang_parse_expr.proofs.CompleteType.{is_at, EndsType, type_named_read, type_read}
use Rattle.ang_parse_expr.proofs.Complete.{args_read}
use Rattle.ang_parse_expr.proofs.Exactly.{listed-size}
use Rattle.ang_parse_stmt.specs.ReadStmt.{stmt, statements, a_body}
use Rattle.ang_parse_stmt.proofs.CompleteStmt.{stmt_kind, stmt_first, statements_read, body_read}
use Rattle.ang_parse_stmt.specs.ReadParams.{params, a_params}
use Rattle.ang_parse_stmt.proofs.SoundParams.{params-length}
use Rattle.ang_parse_stmt.proofs.CompleteParams.{params_complete, a_params_complete}
use Rattle.ang_parse.specs.declared.parts.MemberStart.{MemberStart}
use Rattle.ang_parse.specs.ReadClass as r
use Rattle.ang_parse.proofs.Lengths.{super-length, words-length}

-- ---- tokens

pub name_read : (x : Token) (ts : List Token) → Is k.Name x → a_token is_name (x ∷ ts) ≡ Ok (x, ts)
name_read x ts is = a_token_is is_name x ts (ap is_name is)

pub left_brace_read : (left : Token) (ts : List Token) → Is k.LeftBrace left → a_token is_left_brace (left ∷ ts) ≡ Ok (left, ts)
left_brace_read left ts is = a_token_is is_left_brace left ts (ap is_left_brace is)

pub right_brace_read : (right : Token) (ts : List Token) → Is k.RightBrace right → a_token is_right_brace (right ∷ ts) ≡ Ok (right, ts)
right_brace_read right ts is = a_token_is is_right_brace right ts (ap is_right_brace is)

semicolon_read : (semicolon : Token) (ts : List Token) → Is k.Semicolon semicolon → a_token is_semicolon (semicolon ∷ ts) ≡ Ok (semicolon, ts)
semicolon_read semicolon ts is = a_token_is is_semicolon semicolon ts (ap is_semicolon is)

const_read : (c : Option Token) (ts : List Token) → IfWritten k.Const c → begins is_const ts ≡ false → perhaps is_const (optional c ts) ≡ Ok (c, ts)
const_read None ts f h = perhaps_not is_const ts h
const_read (Some t) ts f h = perhaps_is is_const t ts (ap is_const f)

name_ends : (x : Token) (ts : List Token) → Is k.Name x → EndsType (x ∷ ts)
name_ends x ts is = record { no_handle = ap is_at is; no_const = ap is_const is }

-- ---- names of fields

other_field_stops_by : (fs : List FieldName) (kind : TokenKind) → is_comma kind ≡ false → r.other_field_by fs kind ≡ None
other_field_stops_by fs k.Comma h = absurd cc
other_field_stops_by fs _ h = refl

other_field_stops : (fs : List FieldName) (t : Token) (ts : List Token) → is_comma t.kind ≡ false → r.other_field fs (t ∷ ts) ≡ Ok ((fs, false), t ∷ ts)
unfolding r.other_field
other_field_stops fs t ts h = look_at (r.other_field_by fs) (pure (fs, false)) None t ts (other_field_stops_by fs t.kind h)

other_field_done : (fs : List FieldName) (comma x : Token) (ts : List Token) → Is k.Comma comma → Is k.Name x → r.other_field fs (comma ∷ x ∷ ts) ≡ Ok ((fs ++ r.field_of (Some comma) x ∷ [], true), ts)
unfolding r.other_field r.another_field
other_field_done fs comma x ts is X =
    look_is (r.other_field_by fs) (pure (fs, false)) k.Comma comma (x ∷ ts) is
    ∙ ap (λ w. and_then w (λ x. pure (fs ++ r.field_of (Some comma) x ∷ [], true))) (name_read x ts X)

one_field_read : (o : Option Token) (x : Token) (j : ℕ) (fs : List FieldName) (rest : List Token) → IsComma o → Is k.Name x
    → repeat r.other_field (suc j) fs (optional o (x ∷ rest)) ≡ repeat r.other_field j (fs ++ r.field_of o x ∷ []) rest
one_field_read None x j fs rest c X = absurd c
one_field_read (Some comma) x j fs rest c X = repeat_goes_on r.other_field fs (fs ++ r.field_of (Some comma) x ∷ []) j (comma ∷ x ∷ rest) rest (other_field_done fs comma x rest c X)

abbrev Commas : List FieldName → Type 0
Commas fs = Every (λ (f : FieldName). IsComma f.comma) fs

abbrev Names : List FieldName → Type 0
Names fs = Every (λ (f : FieldName). Is k.Name f.name) fs

other_fields_read : (gs : List FieldName) (j : ℕ) (fs : List FieldName) (semicolon : Token) (ts : List Token) → Commas gs → Names gs → Is k.Semicolon semicolon → length (each tree.spelled_field gs (semicolon ∷ ts)) < j
    → repeat r.other_field j fs (each tree.spelled_field gs (semicolon ∷ ts)) ≡ Ok (fs ++ gs, semicolon ∷ ts)
other_fields_read [] j fs semicolon ts c f is lt =
    repeat_stops r.other_field fs j (semicolon ∷ ts) (omega arith) (other_field_stops fs semicolon ts (ap is_comma is)) ∙ ap (λ v. Ok (v, semicolon ∷ ts)) (sym (append-nil fs))
other_fields_read (g ∷ gs) zero fs semicolon ts c f is lt = absurd (omega arith)
other_fields_read (g ∷ gs) (suc j) fs semicolon ts c f is lt =
    let rest = each tree.spelled_field gs (semicolon ∷ ts) in
    let m : length (g.name ∷ rest) ≤ length (optional g.comma (g.name ∷ rest)) = optional-length g.comma (g.name ∷ rest) in
    one_field_read g.comma g.name j fs rest c.0 f.0
    ∙ other_fields_read gs j (fs ++ g ∷ []) semicolon ts c.1 f.1 is (omega arith)
    ∙ ap (λ w. Ok (w, semicolon ∷ ts)) (append_assoc fs (g ∷ []) gs)

-- ---- `final` and `override`

attribute_goes_on : (ws : List Token) (word : Token) (ts : List Token) → IsA attribute_kind word → r.attribute ws (word ∷ ts) ≡ Ok ((ws ++ word ∷ [], true), ts)
unfolding r.attribute
attribute_goes_on ws word ts is = rw is refl

attribute_stops : (ws : List Token) (left : Token) (ts : List Token) → Is k.LeftBrace left → r.attribute ws (left ∷ ts) ≡ Ok ((ws, false), left ∷ ts)
unfolding r.attribute
attribute_stops ws left ts is = look_is (r.attribute_by ws) (pure (ws, false)) k.LeftBrace left ts is

attributes_read : (vs : List Token) (j : ℕ) (ws : List Token) (left : Token) (ts : List Token) → Every (IsA attribute_kind) vs → Is k.LeftBrace left → length (each tree.spelled_word vs (left ∷ ts)) < j
    → repeat r.attribute j ws (each tree.spelled_word vs (left ∷ ts)) ≡ Ok (ws ++ vs, left ∷ ts)
attributes_read [] j ws left ts f is lt = repeat_stops r.attribute ws j (left ∷ ts) (omega arith) (attribute_stops ws left ts is) ∙ ap (λ v. Ok (v, left ∷ ts)) (sym (append-nil ws))
attributes_read (v ∷ vs) zero ws left ts f is lt = absurd (omega arith)
attributes_read (v ∷ vs) (suc j) ws left ts f is lt =
    let rest = each tree.spelled_word vs (left ∷ ts) in
    repeat_goes_on r.attribute ws (ws ++ v ∷ []) j (v ∷ rest) rest (attribute_goes_on ws v rest f.0)
    ∙ attributes_read vs j (ws ++ v ∷ []) left ts f.1 is (omega arith)
    ∙ ap (λ w. Ok (w, left ∷ ts)) (append_assoc ws (v ∷ []) vs)

no_const_at : (kind : TokenKind) → attribute_kind kind ≡ true → is_const kind ≡ false
no_const_at k.Const h = absurd cc
no_const_at _ h = refl

-- no `const` stands where `final`, `override` or a left brace does
attributes_no_const : (ws : List Token) (left : Token) (ts : List Token) → Every (IsA attribute_kind) ws → Is k.LeftBrace left → begins is_const (each tree.spelled_word ws (left ∷ ts)) ≡ false
attributes_no_const [] left ts f is = ap is_const is
attributes_no_const (w ∷ ws) left ts f is = no_const_at w.kind f.0

-- ---- what begins so

abbrev is_super : TokenKind → Bool
is_super k.Super = true
is_super _ = false

stmt_no_super : (kind : TokenKind) → stmt_kind kind ≡ true → is_super kind ≡ false
stmt_no_super k.Super h = absurd cc
stmt_no_super _ h = refl

-- no statement begins with `super`
stmts_no_super : (ss : Stmts) (right : Token) (ts : List Token) → FitsStmts ss → Is k.RightBrace right → begins is_super (spelled_stmts ss (right ∷ ts)) ≡ false
stmts_no_super end right ts f is = ap is_super is
stmts_no_super (then x ss) right ts f is =
    let h : First stmt_kind (spelled_stmt x (spelled_stmts ss (right ∷ ts))) = stmt_first x (spelled_stmts ss (right ∷ ts)) f.0 in
    ap (begins is_super) h.is ∙ stmt_no_super h.token.kind h.kind

access_no_brace : (kind : TokenKind) → access_kind kind ≡ true → is_right_brace kind ≡ false
access_no_brace k.RightBrace h = absurd cc
access_no_brace _ h = refl

type_no_brace : (kind : TokenKind) → type_kind kind ≡ true → is_right_brace kind ≡ false
type_no_brace k.RightBrace h = absurd cc
type_no_brace _ h = refl

-- nor does a member or a method begin with a right brace
begun_no_brace : (access c : Option Token) (x : Token) (u : List Token) → IfWrittenA access_kind access → IfWritten k.Const c → IsA type_kind x → begins is_right_brace (optional access (optional c (x ∷ u))) ≡ false
begun_no_brace (Some word) c x u A C X = access_no_brace word.kind A
begun_no_brace None (Some word) x u A C X = ap is_right_brace C
begun_no_brace None None x u A C X = type_no_brace x.kind X

pub member_no_brace : (m : tree.MemberTree) (ts : List Token) → tree.FitsMember m → begins is_right_brace (tree.spelled_member m ts) ≡ false
member_no_brace (tree.fields access y fs semicolon) ts f = begun_no_brace access y.constant y.name _ f.0 f.1.0 f.1.1
member_no_brace (tree.method access y x ps c ws b) ts f = begun_no_brace access y.constant y.name _ f.0 f.1.0 f.1.1
member_no_brace (tree.constructor x ps left o ss right) ts f = ap is_right_brace f.0

pub method_no_brace : (m : tree.MethodTree) (ts : List Token) → tree.FitsMethod m → begins is_right_brace (tree.spelled_method m ts) ≡ false
method_no_brace m ts f = begun_no_brace None m.result_type.constant m.result_type.name _ tt f.result_type.0 f.result_type.1

comma_no_paren : (o : Option Token) (u : List Token) → IsComma o → begins is_left_paren (optional o u) ≡ false
comma_no_paren None u h = absurd h
comma_no_paren (Some t) u h = ap is_left_paren h

fields_no_paren : (gs : List FieldName) (semicolon : Token) (ts : List Token) → Commas gs → Is k.Semicolon semicolon → begins is_left_paren (each tree.spelled_field gs (semicolon ∷ ts)) ≡ false
fields_no_paren [] semicolon ts c is = ap is_left_paren is
fields_no_paren (g ∷ gs) semicolon ts c is = comma_no_paren g.comma (g.name ∷ each tree.spelled_field gs (semicolon ∷ ts)) c.0

-- ---- the parts of members

module _ (n l : ℕ) where
  fields_done : (start : MemberStart) (fs : List FieldName) (semicolon : Token) (ts us : List Token) → Is k.Semicolon semicolon
      → repeat r.other_field l (r.field_of None start.name ∷ []) ts ≡ Ok (fs, semicolon ∷ us) → r.fields l start ts ≡ Ok (r.fields_made start fs semicolon, us)
  unfolding r.fields
  fields_done start fs semicolon ts us is h = rw (h, semicolon_read semicolon us is) refl

  method_end_done : (c : Option Token) (ws : List Token) (left : Token) (x : Body) (ts u v us : List Token) → Is k.LeftBrace left
      → perhaps is_const ts ≡ Ok (c, u) → r.attributes l u ≡ Ok (ws, left ∷ v) → a_body (stmt n l) l left v ≡ Ok (x, us) → r.method_end n l ts ≡ Ok (r.method_end_of c ws x, us)
  unfolding r.method_end
  method_end_done c ws left x ts u v us is hc hw hb = rw (hc, hw, left_brace_read left v is, hb) refl

  method_end_read : (c : Option Token) (ws : List Token) (x : Body) (ts : List Token) → IfWritten k.Const c → Every (IsA attribute_kind) ws → FitsBody x
      → length (optional c (each tree.spelled_word ws (spelled_body x ts))) < n → length (optional c (each tree.spelled_word ws (spelled_body x ts))) < l
      → r.method_end n l (optional c (each tree.spelled_word ws (spelled_body x ts))) ≡ Ok (r.method_end_of c ws x, ts)
  method_end_read c ws (body left ss right) ts C W B lt le =
      let v = spelled_stmts ss (right ∷ ts) in
      let u = each tree.spelled_word ws (left ∷ v) in
      let m1 : length u ≤ length (optional c u) = optional-length c u in
      let m2 : length (left ∷ v) ≤ length u = words-length ws (left ∷ v) in
      method_end_done c ws left (body left ss right) (optional c u) u v ts B.0
      (const_read c u C (attributes_no_const ws left v W B.0))
      (attributes_read ws l [] left v W B.0 (omega arith))
      (body_read left ss right n l ts B (omega arith) (omega arith))

  method_of_done : (start : MemberStart) (left : Token) (ps : tree.Params) (e : r.MethodEnd) (ts u us : List Token) → params l left ts ≡ Ok (ps, u) → r.method_end n l u ≡ Ok (e, us)
      → r.method_of n l start left ts ≡ Ok (r.method_made start ps e, us)
  unfolding r.method_of
  method_of_done start left ps e ts u us hp he = rw (hp, he) refl

  super_called_done : (word left : Token) (es : Args) (semicolon : Token) (ts us : List Token) → Is k.LeftParen left → Is k.Semicolon semicolon → args (expr l) l left ts ≡ Ok (es, semicolon ∷ us)
      → r.super_called l word (left ∷ ts) ≡ Ok (Some (r.super_of word es semicolon), us)
  unfolding r.super_called
  super_called_done word left es semicolon ts us L S h = rw (a_token_is is_left_paren left ts (ap is_left_paren L), h, semicolon_read semicolon us S) refl

  super_by_stops : (kind : TokenKind) → is_super kind ≡ false → r.super_by l kind ≡ None
  super_by_stops k.Super h = absurd cc
  super_by_stops _ h = refl

  super_none : (ts : List Token) → begins is_super ts ≡ false → r.super_call l ts ≡ Ok (None, ts)
  unfolding r.super_call
  super_none [] h = refl
  super_none (t ∷ u) h = look_at (r.super_by l) (pure None) None t u (super_by_stops t.kind h)

  super_some : (word : Token) (o : Option tree.SuperTree) (ts us : List Token) → Is k.Super word → r.super_called l word ts ≡ Ok (o, us) → r.super_call l (word ∷ ts) ≡ Ok (o, us)
  unfolding r.super_call
  super_some word o ts us is h = look_is (r.super_by l) (pure None) k.Super word ts is ∙ h

  super_args_read : (word : Token) (es : Args) (semicolon : Token) (ts : List Token) → FitsArgs es → Is k.Semicolon semicolon → length (spelled_args es (semicolon ∷ ts)) < l
      → r.super_called l word (spelled_args es (semicolon ∷ ts)) ≡ Ok (Some (r.super_of word es semicolon), ts)
  super_args_read word (arguments left es right) semicolon ts f is le =
      super_called_done word left (arguments left es right) semicolon (listed es (right ∷ semicolon ∷ ts)) ts f.0 is
      (args_read left es right l (semicolon ∷ ts) f (omega (arith, listed-size es (right ∷ semicolon ∷ ts) f.1)))

  super_read : (o : Option tree.SuperTree) (ts : List Token) → tree.FitsSuper o → begins is_super ts ≡ false → length (tree.spelled_super o ts) < l → r.super_call l (tree.spelled_super o ts) ≡ Ok (o, ts)
  super_read None ts f h le = super_none ts h
  super_read (Some s) ts f h le = super_some s.word (Some s) (spelled_args s.arguments (s.semicolon ∷ ts)) ts f.0 (super_args_read s.word s.arguments s.semicolon ts f.1 f.2 (omega arith))

  constructor_end_done : (o : Option tree.SuperTree) (ss : Stmts) (right : Token) (ts u us : List Token) → Is k.RightBrace right → r.super_call l ts ≡ Ok (o, u) → statements (stmt n l) l u ≡ Ok (ss, right ∷ us)
      → r.constructor_end n l ts ≡ Ok (r.constructor_end_of o ss right, us)
  unfolding r.constructor_end
  constructor_end_done o ss right ts u us is ho hs = rw (ho, hs, right_brace_read right us is) refl

  constructor_end_read : (o : Option tree.SuperTree) (ss : Stmts) (right : Token) (ts : List Token) → tree.FitsSuper o → FitsStmts ss → Is k.RightBrace right
      → length (tree.spelled_super o (spelled_stmts ss (right ∷ ts))) < n → length (tree.spelled_super o (spelled_stmts ss (right ∷ ts))) < l
      → r.constructor_end n l (tree.spelled_super o (spelled_stmts ss (right ∷ ts))) ≡ Ok (r.constructor_end_of o ss right, ts)
  constructor_end_read o ss right ts O S R lt le =
      let u = spelled_stmts ss (right ∷ ts) in
      let m : length u ≤ length (tree.spelled_super o u) = super-length o u in
      constructor_end_done o ss right (tree.spelled_super o u) u ts R (super_read o u O (stmts_no_super ss right ts S R) le) (statements_read ss n l right ts S R (omega arith) (omega arith))

  constructor_of_done : (x left : Token) (ps : tree.Params) (brace : Token) (e : r.ConstructorEnd) (ts u us : List Token) → Is k.LeftBrace brace → params l left ts ≡ Ok (ps, brace ∷ u) → r.constructor_end n l u ≡ Ok (e, us)
      → r.constructor_of n l x left ts ≡ Ok (r.constructor_made x ps brace e, us)
  unfolding r.constructor_of
  constructor_of_done x left ps brace e ts u us is hp he = rw (hp, left_brace_read brace u is, he) refl

  -- ---- members

  started_by_stops : (start : MemberStart) (kind : TokenKind) → is_left_paren kind ≡ false → r.started_by n l start kind ≡ None
  started_by_stops start k.LeftParen h = absurd cc
  started_by_stops start _ h = refl

  started_fields : (start : MemberStart) (ts : List Token) → begins is_left_paren ts ≡ false → r.started n l start ts ≡ r.fields l start ts
  unfolding r.started
  started_fields start [] h = refl
  started_fields start (t ∷ u) h = look_at (r.started_by n l start) (r.fields l start) None t u (started_by_stops start t.kind h)

  started_method : (start : MemberStart) (left : Token) (ts : List Token) → Is k.LeftParen left → r.started n l start (left ∷ ts) ≡ r.method_of n l start left ts
  unfolding r.started
  started_method start left ts is = look_is (r.started_by n l start) (r.fields l start) k.LeftParen left ts is

  typed_done : (access : Option Token) (y : TypeName) (x : Token) (ts : List Token) → Is k.Name x → r.typed n l access y (x ∷ ts) ≡ r.started n l (r.start_of access y x) ts
  unfolding r.typed
  typed_done access y x ts is = ap (λ v. and_then v (λ x. r.started n l (r.start_of access y x))) (name_read x ts is)

  accessed_done : (access : Option Token) (y : TypeName) (x : Token) (ts : List Token) → FitsType y → Is k.Name x → r.accessed n l access (spelled_type y (x ∷ ts)) ≡ r.started n l (r.start_of access y x) ts
  unfolding r.accessed
  accessed_done access y x ts f is = ap (λ v. and_then v (r.typed n l access)) (type_read y (x ∷ ts) f (name_ends x ts is)) ∙ typed_done access y x ts is

  type_started_done : (y : Token) (h : Option Handle) (x : Token) (ts : List Token) → FitsHandle h → Is k.Name x → r.type_started n l y (spelled_handle h (x ∷ ts)) ≡ r.started n l (r.start_of None (type_of None y h) x) ts
  unfolding r.type_started
  type_started_done y h x ts f is = ap (λ v. and_then v (r.typed n l None)) (type_named_read None y h (x ∷ ts) f (name_ends x ts is)) ∙ typed_done None (type_of None y h) x ts is

  named_by_stops : (y : Token) (kind : TokenKind) → is_left_paren kind ≡ false → r.named_by n l y kind ≡ None
  named_by_stops y k.LeftParen h = absurd cc
  named_by_stops y _ h = refl

  named_types : (y : Token) (h : Option Handle) (x : Token) (ts : List Token) → FitsHandle h → Is k.Name x → r.named n l y (spelled_handle h (x ∷ ts)) ≡ r.started n l (r.start_of None (type_of None y h) x) ts
  unfolding r.named
  named_types y None x ts f is = look_at (r.named_by n l y) (r.type_started n l y) None x ts (named_by_stops y x.kind (ap is_left_paren is)) ∙ type_started_done y None x ts f is
  named_types y (Some h) x ts f is = look_at (r.named_by n l y) (r.type_started n l y) None h.at (optional h.constant (x ∷ ts)) (named_by_stops y h.at.kind (ap is_left_paren f.0)) ∙ type_started_done y (Some h) x ts f is

  named_constructs : (x left : Token) (ts : List Token) → Is k.LeftParen left → r.named n l x (left ∷ ts) ≡ r.constructor_of n l x left ts
  unfolding r.named
  named_constructs x left ts is = look_is (r.named_by n l x) (r.type_started n l x) k.LeftParen left ts is

  member_named : (x : Token) (ts : List Token) → Is k.Name x → r.member n l (x ∷ ts) ≡ r.named n l x ts
  unfolding r.member
  member_named x ts is = look_is (r.member_by n l) (r.accessed n l None) k.Name x ts is

  access_by : (kind : TokenKind) → access_kind kind ≡ true → r.member_by n l kind ≡ Some (λ word. r.accessed n l (Some word))
  access_by k.Private h = refl
  access_by k.Protected h = refl
  access_by _ h = absurd cc

  member_accessed : (word : Token) (ts : List Token) → IsA access_kind word → r.member n l (word ∷ ts) ≡ r.accessed n l (Some word) ts
  unfolding r.member
  member_accessed word ts is = look_at (r.member_by n l) (r.accessed n l None) (Some (λ word. r.accessed n l (Some word))) word ts (access_by word.kind is)

  member_passes : (t : Token) (ts : List Token) → r.member_by n l t.kind ≡ None → r.member n l (t ∷ ts) ≡ r.accessed n l None (t ∷ ts)
  unfolding r.member
  member_passes t ts h = look_at (r.member_by n l) (r.accessed n l None) None t ts h

  worded : (y : Token) (kind : TokenKind) (h : Option Handle) (x : Token) (ts : List Token) → y.kind ≡ kind → type_kind kind ≡ true → FitsHandle h → Is k.Name x
      → r.member n l (y ∷ spelled_handle h (x ∷ ts)) ≡ r.started n l (r.start_of None (type_of None y h) x) ts
  worded y (k.Primitive p) h x ts is t f X = member_passes y (spelled_handle h (x ∷ ts)) (ap (r.member_by n l) is) ∙ accessed_done None (type_of None y h) x ts (tt, ap type_kind is, f) X
  worded y k.Void h x ts is t f X = member_passes y (spelled_handle h (x ∷ ts)) (ap (r.member_by n l) is) ∙ accessed_done None (type_of None y h) x ts (tt, ap type_kind is, f) X
  worded y k.Name h x ts is t f X = member_named y (spelled_handle h (x ∷ ts)) is ∙ named_types y h x ts f X
  worded y _ h x ts is t f X = absurd cc

  begun_at : (access c : Option Token) (y : Token) (h : Option Handle) (x : Token) (ts : List Token) → IfWrittenA access_kind access → IfWritten k.Const c → IsA type_kind y → FitsHandle h → Is k.Name x
      → r.member n l (optional access (spelled_type (type_of c y h) (x ∷ ts))) ≡ r.started n l (r.start_of access (type_of c y h) x) ts
  begun_at (Some word) c y h x ts A C Y H X = member_accessed word (spelled_type (type_of c y h) (x ∷ ts)) A ∙ accessed_done (Some word) (type_of c y h) x ts (C, Y, H) X
  begun_at None (Some word) y h x ts A C Y H X = member_passes word (y ∷ spelled_handle h (x ∷ ts)) (ap (r.member_by n l) C) ∙ accessed_done None (type_of (Some word) y h) x ts (C, Y, H) X
  begun_at None None y h x ts A C Y H X = worded y y.kind h x ts refl Y H X

  begun : (access : Option Token) (y : TypeName) (x : Token) (ts : List Token) → IfWrittenA access_kind access → FitsType y → Is k.Name x
      → r.member n l (optional access (spelled_type y (x ∷ ts))) ≡ r.started n l (r.start_of access y x) ts
  begun access y x ts A Y X = begun_at access y.constant y.name y.handle x ts A Y.0 Y.1 Y.2 X

  -- fields by their parts, of which the first has no comma
  fields_read : (access : Option Token) (y : TypeName) (o : Option Token) (x : Token) (gs : List FieldName) (semicolon : Token) (ts : List Token)
      → IfWrittenA access_kind access → FitsType y → o ≡ None → Is k.Name x → Commas gs → Names gs → Is k.Semicolon semicolon
      → length (optional access (spelled_type y (optional o (x ∷ each tree.spelled_field gs (semicolon ∷ ts))))) < l
      → r.member n l (optional access (spelled_type y (optional o (x ∷ each tree.spelled_field gs (semicolon ∷ ts))))) ≡ Ok (tree.fields access y (r.field_of o x ∷ gs) semicolon, ts)
  fields_read access y None x gs semicolon ts A Y e X C N S le =
      let rest = each tree.spelled_field gs (semicolon ∷ ts) in
      let m1 : length (spelled_type y (x ∷ rest)) ≤ length (optional access (spelled_type y (x ∷ rest))) = optional-length access (spelled_type y (x ∷ rest)) in
      let m2 : length (x ∷ rest) < length (spelled_type y (x ∷ rest)) = type-length y (x ∷ rest) in
      begun access y x rest A Y X
      ∙ started_fields (r.start_of access y x) rest (fields_no_paren gs semicolon ts C S)
      ∙ fields_done (r.start_of access y x) (r.field_of None x ∷ gs) semicolon rest ts S (other_fields_read gs l (r.field_of None x ∷ []) semicolon ts C N S (omega arith))
  fields_read access y (Some comma) x gs semicolon ts A Y e X C N S le = absurd cc

  pub member_read : (m : tree.MemberTree) (ts : List Token) → tree.FitsMember m → length (tree.spelled_member m ts) < n → length (tree.spelled_member m ts) < l → r.member n l (tree.spelled_member m ts) ≡ Ok (m, ts)
  member_read (tree.fields access y [] semicolon) ts f lt le = absurd f.2
  member_read (tree.fields access y (g ∷ gs) semicolon) ts f lt le = fields_read access y g.comma g.name gs semicolon ts f.0 f.1 f.3.0 f.4.0 f.3.1 f.4.1 f.5 le
  member_read (tree.method access y x ps c ws b) ts f lt le =
      let u = optional c (each tree.spelled_word ws (spelled_body b ts)) in
      let v = tree.spelled_params ps u in
      let w = optional ps.void_word (each tree.spelled_param ps.items (ps.right ∷ u)) in
      let m1 : length (spelled_type y (x ∷ v)) ≤ length (optional access (spelled_type y (x ∷ v))) = optional-length access (spelled_type y (x ∷ v)) in
      let m2 : length (x ∷ v) < length (spelled_type y (x ∷ v)) = type-length y (x ∷ v) in
      let m3 : length u < length v = params-length ps u in
      begun access y x v f.0 f.1 f.2
      ∙ started_method (r.start_of access y x) ps.left w f.3.left
      ∙ method_of_done (r.start_of access y x) ps.left ps (r.method_end_of c ws b) w u ts (params_complete ps l u f.3 (omega arith)) (method_end_read c ws b ts f.4 f.5 f.6 (omega arith) (omega arith))
  member_read (tree.constructor x ps left o ss right) ts f lt le =
      let u = tree.spelled_super o (spelled_stmts ss (right ∷ ts)) in
      let v = tree.spelled_params ps (left ∷ u) in
      let w = optional ps.void_word (each tree.spelled_param ps.items (ps.right ∷ left ∷ u)) in
      let m : length (left ∷ u) < length v = params-length ps (left ∷ u) in
      member_named x (ps.left ∷ w) f.0
      ∙ named_constructs x ps.left w f.1.left
      ∙ constructor_of_done x ps.left ps left (r.constructor_end_of o ss right) w u ts f.2 (params_complete ps l (left ∷ u) f.1 (omega arith)) (constructor_end_read o ss right ts f.3 f.4 f.5 (omega arith) (omega arith))

  -- ---- methods of interfaces

  method_done : (y : TypeName) (x : Token) (ps : tree.Params) (c : Option Token) (semicolon : Token) (ts u v us : List Token) → Is k.Name x → Is k.Semicolon semicolon
      → a_type ts ≡ Ok (y, x ∷ u) → a_params l u ≡ Ok (ps, v) → perhaps is_const v ≡ Ok (c, semicolon ∷ us) → r.method l ts ≡ Ok (r.interface_method_of y x ps c semicolon, us)
  unfolding r.method
  method_done y x ps c semicolon ts u v us X S hy hp hc = rw (hy, name_read x u X, hp, hc, semicolon_read semicolon us S) refl

  pub method_read : (m : tree.MethodTree) (ts : List Token) → tree.FitsMethod m → length (tree.spelled_method m ts) < l → r.method l (tree.spelled_method m ts) ≡ Ok (m, ts)
  method_read m ts f le =
      let v = optional m.constant (m.semicolon ∷ ts) in
      let u = tree.spelled_params m.parameters v in
      let m1 : length (m.name ∷ u) < length (spelled_type m.result_type (m.name ∷ u)) = type-length m.result_type (m.name ∷ u) in
      method_done m.result_type m.name m.parameters m.constant m.semicolon (tree.spelled_method m ts) u v ts f.name f.semicolon
      (type_read m.result_type (m.name ∷ u) f.result_type (name_ends m.name u f.name))
      (a_params_complete m.parameters l v f.parameters (omega arith))
      (const_read m.constant (m.semicolon ∷ ts) f.constant (ap is_const f.semicolon))
