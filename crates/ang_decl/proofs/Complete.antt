-- What is spelled as a declaration is read.
use Rattle.std.proofs.Common.{◌≡◌, ℕ, zero, suc, ◌+◌, ◌<◌, ◌≤◌, Bool, true, false, if◌then◌else◌, List, [], ◌∷◌, ◌++◌, length, Option, Some, None, Ok, refl, ap, sym, ◌∙◌, append_assoc, append-nil, arith}
use Rattle.std.specs.Prelude.{◌&&◌}
use Rattle.ang_lex.specs.declared.token.Token.{Token}
use Rattle.ang_lex.specs.declared.token.TokenKind.{TokenKind}
use Rattle.ang_lex.specs.declared.token.TokenKind.TheVariants as k
use Rattle.ang_tree.specs.declared.declaration.Reference.{Reference}
use Rattle.ang_tree.specs.Kinds.{Is, IsComma, IfWritten, IfWrittenA, optional, type_kind, direction_kind}
use Rattle.ang_tree.specs.Stmt.{each, Every}
use Rattle.ang_tree.specs.Declarations.{spelled_reference, FitsReference}
use Rattle.ang_parse_read.specs.Read.{and_then, pure, ◌>>=◌, repeat}
use Rattle.ang_parse_read.specs.References.{a_reference}
use Rattle.ang_parse_read.specs.Tokens.{a_token, perhaps, is_name, is_left_paren, is_right_paren, is_const}
use Rattle.ang_parse_read.proofs.Tokens.{begins, look_is, look_at, a_token_is}
use Rattle.ang_parse_read.proofs.Referred.{is_ampersand, perhaps_read, reference_read}
use Rattle.ang_parse_read.proofs.Loops.{repeat_stops, repeat_goes_on}
use Rattle.ang_decl.specs.declared.tree.HostType.{HostType}
use Rattle.ang_decl.specs.declared.tree.HostHandle.{HostHandle}
use Rattle.ang_decl.specs.declared.tree.HostParameter.{HostParameter}
use Rattle.ang_decl.specs.declared.tree.HostParameters.{HostParameters}
use Rattle.ang_decl.specs.declared.tree.HostFunction.{HostFunction}
use Rattle.ang_decl.specs.declared.tree.HostProperty.{HostProperty}
use Rattle.ang_decl.specs.Grammar.{spelled_handle, spelled_type, spelled_param, spelled_function, spelled_property, FitsHandle, FitsType, FitsParam, FitsItems, is_void, is_bare_void, is_void_alone}
use Rattle.ang_decl.specs.Read as r
use Rattle.ang_decl.proofs.Sound.{FitsFunction, FitsProperty}

abbrev pub is_at : TokenKind → Bool
is_at k.At = true
is_at _ = false

abbrev pub is_comma : TokenKind → Bool
is_comma k.Comma = true
is_comma _ = false

-- ---- tokens that may be left out

-- of one kind
if_of : (test : TokenKind → Bool) (kind : TokenKind) (o : Option Token) → test kind ≡ true → IfWritten kind o → IfWrittenA test o
if_of test kind None h f = tt
if_of test kind (Some t) h f = ap test f ∙ h

-- what does not begin ts does not begin a token of another kind and ts
passed : (test : TokenKind → Bool) (kind : TokenKind) (o : Option Token) (ts : List Token) → IfWritten kind o → test kind ≡ false → begins test ts ≡ false → begins test (optional o ts) ≡ false
passed test kind None ts f h e = e
passed test kind (Some t) ts f h e = ap test f ∙ h

-- ---- types

-- what stands after a type is no part of it
pub record EndsType (ts : List Token) : Type 0 where
  pub no_handle : begins is_at ts ≡ false
  pub no_plus : begins r.is_plus ts ≡ false
  pub no_const : begins is_const ts ≡ false

ends_at : (kind : TokenKind) (t : Token) (ts : List Token) → Is kind t → is_at kind ≡ false → r.is_plus kind ≡ false → is_const kind ≡ false → EndsType (t ∷ ts)
ends_at kind t ts is a b c = record { no_handle = ap is_at is ∙ a; no_plus = ap r.is_plus is ∙ b; no_const = ap is_const is ∙ c }

handle_stops_by : (kind : TokenKind) → is_at kind ≡ false → r.handle_by kind ≡ None
handle_stops_by k.At h = absurd cc
handle_stops_by _ h = refl

handle_stops : (ts : List Token) → begins is_at ts ≡ false → r.a_handle ts ≡ Ok (None, ts)
unfolding r.a_handle
handle_stops [] h = refl
handle_stops (t ∷ ts) h = look_at r.handle_by (pure None) None t ts (handle_stops_by t.kind h)

handle_done : (sign : Token) (p c : Option Token) (ts us vs : List Token) → Is k.At sign → perhaps r.is_plus ts ≡ Ok (p, us) → perhaps is_const us ≡ Ok (c, vs)
    → r.a_handle (sign ∷ ts) ≡ Ok (Some (r.handle_of sign p c), vs)
unfolding r.a_handle
handle_done sign p c ts us vs is h i =
    look_is r.handle_by (pure None) k.At sign ts is
    ∙ ap (λ v. and_then v (λ p. perhaps is_const >>= (λ c. pure (Some (r.handle_of sign p c))))) h
    ∙ ap (λ v. and_then v (λ c. pure (Some (r.handle_of sign p c)))) i

handle_read : (h : Option HostHandle) (ts : List Token) → FitsHandle h → EndsType ts → r.a_handle (spelled_handle h ts) ≡ Ok (h, ts)
handle_read None ts f e = handle_stops ts e.no_handle
handle_read (Some h) ts f e =
    handle_done h.at h.plus h.constant (optional h.plus (optional h.constant ts)) (optional h.constant ts) ts f.0
    (perhaps_read r.is_plus h.plus (optional h.constant ts) (if_of r.is_plus k.Plus h.plus refl f.1) (passed r.is_plus k.Const h.constant ts f.2 refl e.no_plus))
    (perhaps_read is_const h.constant ts (if_of is_const k.Const h.constant refl f.2) e.no_const)

no_const_by : (kind : TokenKind) → type_kind kind ≡ true → is_const kind ≡ false
no_const_by k.Const h = absurd cc
no_const_by _ h = refl

type_done : (c : Option Token) (x : Token) (h : Option HostHandle) (ts us vs ws : List Token) → perhaps is_const ts ≡ Ok (c, us) → a_token type_kind us ≡ Ok (x, vs) → r.a_handle vs ≡ Ok (h, ws)
    → r.a_type ts ≡ Ok (r.host_type_of c x h, ws)
unfolding r.a_type
type_done c x h ts us vs ws p q e =
    ap (λ v. and_then v (λ c. a_token type_kind >>= (λ x. r.a_handle >>= (λ h. pure (r.host_type_of c x h))))) p
    ∙ ap (λ v. and_then v (λ x. r.a_handle >>= (λ h. pure (r.host_type_of c x h)))) q
    ∙ ap (λ v. and_then v (λ h. pure (r.host_type_of c x h))) e

pub type_read : (y : HostType) (ts : List Token) → FitsType y → EndsType ts → r.a_type (spelled_type y ts) ≡ Ok (y, ts)
type_read y ts f e =
    type_done y.constant y.name y.handle (spelled_type y ts) (y.name ∷ spelled_handle y.handle ts) (spelled_handle y.handle ts) ts
    (perhaps_read is_const y.constant (y.name ∷ spelled_handle y.handle ts) (if_of is_const k.Const y.constant refl f.0) (no_const_by y.name.kind f.1))
    (a_token_is type_kind y.name (spelled_handle y.handle ts) f.1)
    (handle_read y.handle ts f.2 e)

-- ---- parameters

-- what stands after a parameter is no part of it
record EndsParam (ts : List Token) : Type 0 where
  pub ends_type : EndsType ts
  pub no_reference : begins is_ampersand ts ≡ false
  pub no_direction : begins direction_kind ts ≡ false
  pub no_name : begins is_name ts ≡ false

param_done : (comma : Option Token) (y : HostType) (q : Option Reference) (x : Option Token) (ts us vs ws : List Token)
    → r.a_type ts ≡ Ok (y, us) → a_reference us ≡ Ok (q, vs) → perhaps is_name vs ≡ Ok (x, ws) → r.a_param comma ts ≡ Ok (r.parameter_of comma y q x, ws)
unfolding r.a_param
param_done comma y q x ts us vs ws a b c =
    ap (λ v. and_then v (λ y. a_reference >>= (λ q. perhaps is_name >>= (λ x. pure (r.parameter_of comma y q x))))) a
    ∙ ap (λ v. and_then v (λ q. perhaps is_name >>= (λ x. pure (r.parameter_of comma y q x)))) b
    ∙ ap (λ v. and_then v (λ x. pure (r.parameter_of comma y q x))) c

-- a type ends before what may follow it in a parameter
name_ends : (x : Option Token) (ts : List Token) → IfWritten k.Name x → EndsType ts → EndsType (optional x ts)
name_ends None ts f e = e
name_ends (Some x) ts f e = ends_at k.Name x ts f refl refl refl

reference_ends : (q : Option Reference) (ts : List Token) → FitsReference q → EndsType ts → EndsType (spelled_reference q ts)
reference_ends None ts f e = e
reference_ends (Some q) ts f e = ends_at k.Ampersand q.ampersand (optional q.direction ts) f.0 refl refl refl

param_read : (comma : Option Token) (y : HostType) (q : Option Reference) (x : Option Token) (ts : List Token) → FitsType y → FitsReference q → IfWritten k.Name x → EndsParam ts
    → r.a_param comma (spelled_type y (spelled_reference q (optional x ts))) ≡ Ok (r.parameter_of comma y q x, ts)
param_read comma y q x ts f g i e =
    param_done comma y q x (spelled_type y (spelled_reference q (optional x ts))) (spelled_reference q (optional x ts)) (optional x ts) ts
    (type_read y (spelled_reference q (optional x ts)) f (reference_ends q (optional x ts) g (name_ends x ts i e.ends_type)))
    (reference_read q (optional x ts) g (passed is_ampersand k.Name x ts i refl e.no_reference) (passed direction_kind k.Name x ts i refl e.no_direction))
    (perhaps_read is_name x ts (if_of is_name k.Name x refl i) e.no_name)

param_ends_at : (kind : TokenKind) (t : Token) (ts : List Token) → Is kind t → EndsType (t ∷ ts) → is_ampersand kind ≡ false → direction_kind kind ≡ false → is_name kind ≡ false → EndsParam (t ∷ ts)
param_ends_at kind t ts is e a b c = record { ends_type = e; no_reference = ap is_ampersand is ∙ a; no_direction = ap direction_kind is ∙ b; no_name = ap is_name is ∙ c }

comma_ends : (o : Option Token) (u : List Token) → IsComma o → EndsParam (optional o u)
comma_ends None u h = absurd h
comma_ends (Some t) u h = param_ends_at k.Comma t u h (ends_at k.Comma t u h refl refl refl) refl refl refl

right_ends : (t : Token) (u : List Token) → Is k.RightParen t → EndsParam (t ∷ u)
right_ends t u h = param_ends_at k.RightParen t u h (ends_at k.RightParen t u h refl refl refl) refl refl refl

abbrev Commas : List HostParameter → Type 0
Commas ps = Every (λ (p : HostParameter). IsComma p.comma) ps

items_end : (ps : List HostParameter) (right : Token) (s : List Token) → Commas ps → Is k.RightParen right → EndsParam (each spelled_param ps (right ∷ s))
items_end [] right s c R = right_ends right s R
items_end (p ∷ ps) right s c R = comma_ends p.comma _ c.0

other_stops_by : (us : List HostParameter) (kind : TokenKind) → is_comma kind ≡ false → r.other_param_by us kind ≡ None
other_stops_by us k.Comma h = absurd cc
other_stops_by us _ h = refl

other_stops : (us : List HostParameter) (t : Token) (ts : List Token) → is_comma t.kind ≡ false → r.other_param us (t ∷ ts) ≡ Ok ((us, false), t ∷ ts)
unfolding r.other_param
other_stops us t ts h = look_at (r.other_param_by us) (pure (us, false)) None t ts (other_stops_by us t.kind h)

other_done : (us : List HostParameter) (comma : Token) (p : HostParameter) (ts rest : List Token) → Is k.Comma comma → r.a_param (Some comma) ts ≡ Ok (p, rest)
    → r.other_param us (comma ∷ ts) ≡ Ok ((us ++ p ∷ [], true), rest)
unfolding r.other_param r.another_param
other_done us comma p ts rest is h =
    look_is (r.other_param_by us) (pure (us, false)) k.Comma comma ts is
    ∙ ap (λ w. and_then w (λ p. pure (us ++ p ∷ [], true))) h

one_read : (o : Option Token) (y : HostType) (q : Option Reference) (x : Option Token) (j : ℕ) (us : List HostParameter) (rest : List Token)
    → IsComma o → FitsType y → FitsReference q → IfWritten k.Name x → EndsParam rest
    → repeat r.other_param (suc j) us (optional o (spelled_type y (spelled_reference q (optional x rest)))) ≡ repeat r.other_param j (us ++ r.parameter_of o y q x ∷ []) rest
one_read None y q x j us rest c f g i e = absurd c
one_read (Some comma) y q x j us rest c f g i e =
    repeat_goes_on r.other_param us (us ++ r.parameter_of (Some comma) y q x ∷ []) j (comma ∷ spelled_type y (spelled_reference q (optional x rest))) rest
    (other_done us comma (r.parameter_of (Some comma) y q x) (spelled_type y (spelled_reference q (optional x rest))) rest c (param_read (Some comma) y q x rest f g i e))

others_read : (ps : List HostParameter) (j : ℕ) (us : List HostParameter) (right : Token) (s : List Token) → Commas ps → Every FitsParam ps → Is k.RightParen right → length ps < j
    → repeat r.other_param j us (each spelled_param ps (right ∷ s)) ≡ Ok (us ++ ps, right ∷ s)
others_read [] j us right s c f R lt =
    repeat_stops r.other_param us j (right ∷ s) (omega arith) (other_stops us right s (ap is_comma R)) ∙ ap (λ v. Ok (v, right ∷ s)) (sym (append-nil us))
others_read (p ∷ ps) zero us right s c f R lt = absurd (omega arith)
others_read (p ∷ ps) (suc j) us right s c f R lt =
    one_read p.comma p.declared_type p.reference p.name j us (each spelled_param ps (right ∷ s)) c.0 f.0.0 f.0.1 f.0.2 (items_end ps right s c.1 R)
    ∙ others_read ps j (us ++ p ∷ []) right s c.1 f.1 R (omega arith)
    ∙ ap (λ w. Ok (w, right ∷ s)) (append_assoc us (p ∷ []) ps)

-- ---- lists of parameters

no_right_by : (kind : TokenKind) → type_kind kind ≡ true → is_right_paren kind ≡ false
no_right_by k.RightParen h = absurd cc
no_right_by _ h = refl

type_begins : (y : HostType) (ts : List Token) → FitsType y → begins is_right_paren (spelled_type y ts) ≡ false
type_begins y ts f = passed is_right_paren k.Const y.constant (y.name ∷ spelled_handle y.handle ts) f.0 refl (no_right_by y.name.kind f.1)

params_stop_by : (limit : ℕ) (left : Token) (kind : TokenKind) → is_right_paren kind ≡ false → r.params_by limit left kind ≡ None
params_stop_by limit left k.RightParen h = absurd cc
params_stop_by limit left _ h = refl

params_go_on : (limit : ℕ) (left : Token) (ts : List Token) → begins is_right_paren ts ≡ false → r.params limit left ts ≡ r.some_params limit left ts
unfolding r.params
params_go_on limit left [] h = refl
params_go_on limit left (t ∷ ts) h = look_at (r.params_by limit left) (r.some_params limit left) None t ts (params_stop_by limit left t.kind h)

no_params : (limit : ℕ) (left right : Token) (s : List Token) → Is k.RightParen right → r.params limit left (right ∷ s) ≡ Ok (r.parameters_of left None [] right, s)
unfolding r.params
no_params limit left right s R = look_is (r.params_by limit left) (r.some_params limit left) k.RightParen right s R

some_done : (limit : ℕ) (left : Token) (p : HostParameter) (ps : List HostParameter) (right : Token) (ts us s : List Token)
    → r.a_param None ts ≡ Ok (p, us) → repeat r.other_param limit (p ∷ []) us ≡ Ok (ps, right ∷ s) → Is k.RightParen right
    → r.some_params limit left ts ≡ Ok (r.settled left ps right, s)
unfolding r.some_params
some_done limit left p ps right ts us s a b R =
    ap (λ w. and_then w (λ p. repeat r.other_param limit (p ∷ []) >>= (λ ps. a_token is_right_paren >>= (λ right. pure (r.settled left ps right))))) a
    ∙ ap (λ w. and_then w (λ ps. a_token is_right_paren >>= (λ right. pure (r.settled left ps right)))) b
    ∙ ap (λ w. and_then w (λ right. pure (r.settled left ps right))) (a_token_is is_right_paren right s (ap is_right_paren R))

no_comma : (o : Option Token) (u : List Token) → o ≡ None → optional o u ≡ u
no_comma None u h = refl
no_comma (Some t) u h = absurd cc

chosen_by : (b : Bool) (x y : HostParameters) → b ≡ false → (if b then x else y) ≡ y
chosen_by true x y h = absurd cc
chosen_by false x y h = refl

several : (left : Token) (p : HostParameter) (ps : List HostParameter) (right : Token) → is_void_alone (p ∷ ps) ≡ false → r.settled left (p ∷ ps) right ≡ r.parameters_of left None (p ∷ ps) right
several left p [] right h = chosen_by (is_bare_void p) _ _ h
several left p (q ∷ ps) right h = refl

first_read : (p : HostParameter) (rest : List Token) → p.comma ≡ None → FitsParam p → EndsParam rest → r.a_param None (spelled_param p rest) ≡ Ok (p, rest)
first_read p rest c f e =
    ap (r.a_param None) (no_comma p.comma _ c)
    ∙ param_read None p.declared_type p.reference p.name rest f.0 f.1 f.2 e
    ∙ ap (λ o. Ok (r.parameter_of o p.declared_type p.reference p.name, rest)) (sym c)

-- the word `void`, as a parameter
abbrev bare : Token → HostParameter
bare word = r.parameter_of None (r.host_type_of None word None) None None

is_type_word : (kind : TokenKind) → kind ≡ k.Void → type_kind kind ≡ true
is_type_word kind h = ap type_kind h

bare_read : (word right : Token) (s : List Token) → Is k.Void word → Is k.RightParen right → r.a_param None (word ∷ right ∷ s) ≡ Ok (bare word, right ∷ s)
bare_read word right s V R = param_read None (r.host_type_of None word None) None None (right ∷ s) (tt, is_type_word word.kind V, tt) tt tt (right_ends right s R)

bare_alone : (kind : TokenKind) (x y : HostParameters) → kind ≡ k.Void → (if is_void kind && true && true && true && true then x else y) ≡ x
bare_alone k.Void x y h = refl
bare_alone _ x y h = absurd cc

pub params_read : (limit : ℕ) (left : Token) (word : Option Token) (items : List HostParameter) (right : Token) (s : List Token)
    → FitsItems word items → Is k.RightParen right → length items < limit
    → r.params limit left (optional word (each spelled_param items (right ∷ s))) ≡ Ok (r.parameters_of left word items right, s)
params_read limit left (Some word) [] right s f R lt =
    params_go_on limit left (word ∷ right ∷ s) (ap is_right_paren f.0)
    ∙ some_done limit left (bare word) (bare word ∷ []) right (word ∷ right ∷ s) (right ∷ s) s (bare_read word right s f.0 R) (others_read [] limit (bare word ∷ []) right s tt tt R lt) R
    ∙ ap (λ v. Ok (v, s)) (bare_alone word.kind (r.parameters_of left (Some word) [] right) (r.parameters_of left None (bare word ∷ []) right) f.0)
params_read limit left (Some word) (p ∷ ps) right s f R lt = absurd cc
params_read limit left None [] right s f R lt = no_params limit left right s R
params_read limit left None (p ∷ ps) right s f R lt =
    params_go_on limit left (spelled_param p (each spelled_param ps (right ∷ s))) (ap (begins is_right_paren) (no_comma p.comma _ f.0.0) ∙ type_begins p.declared_type _ f.1.0.0)
    ∙ some_done limit left p (p ∷ ps) right (spelled_param p (each spelled_param ps (right ∷ s))) (each spelled_param ps (right ∷ s)) s
    (first_read p (each spelled_param ps (right ∷ s)) f.0.0 f.1.0 (items_end ps right s f.0.1 R))
    (others_read ps limit (p ∷ []) right s f.0.1 f.1.1 R (omega arith)) R
    ∙ ap (λ v. Ok (v, s)) (several left p ps right f.2)

-- ---- declarations

function_done : (limit : ℕ) (y : HostType) (x left : Token) (ps : HostParameters) (c : Option Token) (ts us s : List Token)
    → r.a_type ts ≡ Ok (y, x ∷ left ∷ us) → Is k.Name x → Is k.LeftParen left → r.params limit left us ≡ Ok (ps, optional c s) → IfWritten k.Const c → begins is_const s ≡ false
    → r.a_function limit ts ≡ Ok (r.function_of limit y x ps c, s)
unfolding r.a_function
function_done limit y x left ps c ts us s a X L b C e =
    ap (λ w. and_then w (λ y. a_token is_name >>= (λ x. a_token is_left_paren >>= (λ left. r.params limit left >>= (λ ps. perhaps is_const >>= (λ c. pure (r.function_of limit y x ps c))))))) a
    ∙ ap (λ w. and_then w (λ x. a_token is_left_paren >>= (λ left. r.params limit left >>= (λ ps. perhaps is_const >>= (λ c. pure (r.function_of limit y x ps c)))))) (a_token_is is_name x (left ∷ us) (ap is_name X))
    ∙ ap (λ w. and_then w (λ left. r.params limit left >>= (λ ps. perhaps is_const >>= (λ c. pure (r.function_of limit y x ps c))))) (a_token_is is_left_paren left us (ap is_left_paren L))
    ∙ ap (λ w. and_then w (λ ps. perhaps is_const >>= (λ c. pure (r.function_of limit y x ps c)))) b
    ∙ ap (λ w. and_then w (λ c. pure (r.function_of limit y x ps c))) (perhaps_read is_const c s (if_of is_const k.Const c refl C) e)

pub function_read : (f : HostFunction) (limit : ℕ) → FitsFunction f → length f.parameters.items < limit → r.a_function limit (spelled_function f []) ≡ Ok (f, [])
function_read f limit h lt =
    let ps = f.parameters in
    let behind = optional ps.void_word (each spelled_param ps.items (ps.close ∷ optional f.constant [])) in
    function_done limit f.result f.name ps.«open» ps f.constant (spelled_function f []) behind []
    (type_read f.result (f.name ∷ ps.«open» ∷ behind) h.result (ends_at k.Name f.name (ps.«open» ∷ behind) h.name refl refl refl))
    h.name h.parameters.0 (params_read limit ps.«open» ps.void_word ps.items ps.close (optional f.constant []) h.parameters.1 h.parameters.2 lt) h.constant refl

pub property_read : (p : HostProperty) → FitsProperty p → r.a_property (spelled_property p []) ≡ Ok (p, [])
unfolding r.a_property
property_read p h =
    ap (λ w. and_then w (λ y. a_token is_name >>= (λ x. pure (r.property_of y x)))) (type_read p.declared_type (p.name ∷ []) h.declared_type (ends_at k.Name p.name [] h.name refl refl refl))
    ∙ ap (λ w. and_then w (λ x. pure (r.property_of p.declared_type x))) (a_token_is is_name p.name [] (ap is_name h.name))

pub whole_type_read : (y : HostType) → FitsType y → r.a_type (spelled_type y []) ≡ Ok (y, [])
whole_type_read y f = type_read y [] f (record { no_handle = refl; no_plus = refl; no_const = refl })

-- ---- lengths

optional-length : (o : Option Token) (s : List Token) → length s ≤ length (optional o s)
optional-length None s = omega arith
optional-length (Some t) s = omega arith

handle-length : (h : Option HostHandle) (s : List Token) → length s ≤ length (spelled_handle h s)
handle-length None s = omega arith
handle-length (Some h) s = omega (arith, optional-length h.plus (optional h.constant s), optional-length h.constant s)

type-length : (y : HostType) (s : List Token) → length s < length (spelled_type y s)
type-length y s = omega (arith, optional-length y.constant (y.name ∷ spelled_handle y.handle s), handle-length y.handle s)

reference-length : (q : Option Reference) (s : List Token) → length s ≤ length (spelled_reference q s)
reference-length None s = omega arith
reference-length (Some q) s = omega (arith, optional-length q.direction s)

param-length : (p : HostParameter) (s : List Token) → length s < length (spelled_param p s)
param-length p s =
    omega (
      arith,
      optional-length p.comma (spelled_type p.declared_type (spelled_reference p.reference (optional p.name s))),
      type-length p.declared_type (spelled_reference p.reference (optional p.name s)),
      reference-length p.reference (optional p.name s),
      optional-length p.name s,
    )

items-length : (ps : List HostParameter) (s : List Token) → length ps + length s ≤ length (each spelled_param ps s)
items-length [] s = omega arith
items-length (p ∷ ps) s = omega (arith, param-length p (each spelled_param ps s), items-length ps s)

pub function-length : (f : HostFunction) → length f.parameters.items < length (spelled_function f [])
function-length f =
    let ps = f.parameters in
    let s = optional f.constant [] in
    let items = each spelled_param ps.items (ps.close ∷ s) in
    omega (arith, type-length f.result (f.name ∷ ps.«open» ∷ optional ps.void_word items), optional-length ps.void_word items, items-length ps.items (ps.close ∷ s))
