-- What is read as a declaration is spelled so.
use Rattle.std.proofs.Common.{◌≡◌, ℕ, Bool, true, false, if◌then◌else◌, List, [], ◌∷◌, ◌++◌, Option, Some, None, refl, ap, sym, subst, ◌∙◌}
use Rattle.std.specs.Prelude.{IfSome, is_none, ◌&&◌}
use Rattle.ang_lex.specs.declared.token.Token.{Token}
use Rattle.ang_lex.specs.declared.token.TokenKind.{TokenKind}
use Rattle.ang_lex.specs.declared.token.TokenKind.TheVariants as k
use Rattle.ang_tree.specs.declared.declaration.Reference.{Reference}
use Rattle.ang_tree.specs.Kinds.{Is, IsComma, IfWritten, IfWrittenA, optional, type_kind, direction_kind}
use Rattle.ang_tree.specs.Stmt.{each, Every, Parted, Filled}
use Rattle.ang_tree.specs.Declarations.{spelled_reference, FitsReference}
use Rattle.ang_parse_read.specs.Read.{pure, repeat}
use Rattle.ang_parse_read.specs.References.{reference_of, reference_by, a_reference}
use Rattle.ang_parse_read.specs.Tokens.{a_token, perhaps, is_name, is_left_paren, is_right_paren, is_const}
use Rattle.ang_parse_read.proofs.Tokens.{name_is, left_paren_is, right_paren_is, const_is}
use Rattle.ang_decl.specs.declared.tree.HostHandle.{HostHandle}
use Rattle.ang_decl.specs.declared.tree.HostParameter.{HostParameter}
use Rattle.ang_decl.specs.declared.tree.HostFunction.{HostFunction}
use Rattle.ang_decl.specs.declared.tree.HostProperty.{HostProperty}
use Rattle.ang_decl.specs.Grammar.{spelled_handle, spelled_type, spelled_param, spelled_params, spelled_function, spelled_property, FitsHandle, FitsType, FitsParam, FitsParams, is_void, is_bare_void}
use Rattle.ang_decl.specs.Read as r
use Rattle.ang_decl.proofs.Found.{Found, and_found, ChoiceFound, look_found, look_found_at, Token_found, a_token_found, Perhaps_found, written, unwritten, perhaps_found, Turned, repeat_found}

-- what is read of w is x, and s is left
pub record Reads {A : Type 0} (spell : A → List Token → List Token) (Fits : A → Type 0) (w : List Token) (x : A) (s : List Token) : Type 0 where
  pub text : w ≡ spell x s
  pub fits : Fits x

-- ---- tokens that may be left out

perhaps_text : (test : TokenKind → Bool) (w s : List Token) (o : Option Token) → Perhaps_found test w o s → w ≡ optional o s
perhaps_text test w s o (written x u e h) = e
perhaps_text test w s o unwritten = refl

perhaps_fits : (test : TokenKind → Bool) (kind : TokenKind) → ((other : TokenKind) → test other ≡ true → other ≡ kind)
    → (w s : List Token) (o : Option Token) → Perhaps_found test w o s → IfWritten kind o
perhaps_fits test kind only w s o (written x u e h) = only x.kind h
perhaps_fits test kind only w s o unwritten = tt

perhaps_is_a : (test : TokenKind → Bool) (w s : List Token) (o : Option Token) → Perhaps_found test w o s → IfWrittenA test o
perhaps_is_a test w s o (written x u e h) = h
perhaps_is_a test w s o unwritten = tt

plus_is : (kind : TokenKind) → r.is_plus kind ≡ true → kind ≡ k.Plus
plus_is k.Plus h = refl
plus_is _ h = absurd cc

-- ---- types

handle_by_found : ChoiceFound (Reads spelled_handle FitsHandle) r.handle_by
handle_by_found k.At t u is =
    and_found (Perhaps_found r.is_plus u) (Reads spelled_handle FitsHandle (t ∷ u)) (perhaps r.is_plus u) _ (perhaps_found r.is_plus u)
    (λ p s a. and_found (Perhaps_found is_const s) (Reads spelled_handle FitsHandle (t ∷ u)) (perhaps is_const s) (λ c. pure (Some (r.handle_of t p c))) (perhaps_found is_const s)
    (λ c v b. record {
      text = ap (λ x. t ∷ x) (perhaps_text r.is_plus u s p a ∙ ap (optional p) (perhaps_text is_const s v c b));
      fits = (is, perhaps_fits r.is_plus k.Plus plus_is u s p a, perhaps_fits is_const k.Const const_is s v c b);
    }))
handle_by_found _ t u is = tt

a_handle_found : (ts : List Token) → Found (Reads spelled_handle FitsHandle ts) (r.a_handle ts)
unfolding r.a_handle
a_handle_found ts = look_found (Reads spelled_handle FitsHandle) r.handle_by (pure None) handle_by_found (λ ts. record { text = refl; fits = tt }) ts

pub a_type_found : (ts : List Token) → Found (Reads spelled_type FitsType ts) (r.a_type ts)
unfolding r.a_type
a_type_found ts =
    and_found (Perhaps_found is_const ts) (Reads spelled_type FitsType ts) (perhaps is_const ts) _ (perhaps_found is_const ts)
    (λ c s a. and_found (Token_found type_kind s) (Reads spelled_type FitsType ts) (a_token type_kind s) _ (a_token_found type_kind s)
    (λ x u b. and_found (Reads spelled_handle FitsHandle u) (Reads spelled_type FitsType ts) (r.a_handle u) (λ h. pure (r.host_type_of c x h)) (a_handle_found u)
    (λ h v d. record {
      text = perhaps_text is_const ts s c a ∙ ap (optional c) (b.text ∙ ap (λ w. x ∷ w) d.text);
      fits = (perhaps_fits is_const k.Const const_is ts s c a, b.kind, d.fits);
    })))

-- ---- parameters

reference_by_found : ChoiceFound (Reads spelled_reference FitsReference) reference_by
reference_by_found k.Ampersand t u is =
    and_found (Perhaps_found direction_kind u) (Reads spelled_reference FitsReference (t ∷ u)) (perhaps direction_kind u) (λ d. pure (Some (reference_of t d))) (perhaps_found direction_kind u)
    (λ d s a. record { text = ap (λ x. t ∷ x) (perhaps_text direction_kind u s d a); fits = (is, perhaps_is_a direction_kind u s d a) })
reference_by_found _ t u is = tt

a_reference_found : (ts : List Token) → Found (Reads spelled_reference FitsReference ts) (a_reference ts)
unfolding a_reference
a_reference_found ts = look_found (Reads spelled_reference FitsReference) reference_by (pure None) reference_by_found (λ ts. record { text = refl; fits = tt }) ts

-- a parameter with this comma in front
pub record Param_read (comma : Option Token) (w : List Token) (p : HostParameter) (s : List Token) : Type 0 where
  pub text : optional comma w ≡ spelled_param p s
  pub fits : FitsParam p
  pub front : p.comma ≡ comma

a_param_found : (comma : Option Token) (ts : List Token) → Found (Param_read comma ts) (r.a_param comma ts)
unfolding r.a_param
a_param_found comma ts =
    and_found (Reads spelled_type FitsType ts) (Param_read comma ts) (r.a_type ts) _ (a_type_found ts)
    (λ y s a. and_found (Reads spelled_reference FitsReference s) (Param_read comma ts) (a_reference s) _ (a_reference_found s)
    (λ q u b. and_found (Perhaps_found is_name u) (Param_read comma ts) (perhaps is_name u) (λ x. pure (r.parameter_of comma y q x)) (perhaps_found is_name u)
    (λ x v d. record {
      text = ap (optional comma) (a.text ∙ ap (spelled_type y) (b.text ∙ ap (spelled_reference q) (perhaps_text is_name u v x d)));
      fits = (a.fits, b.fits, perhaps_fits is_name k.Name name_is u v x d);
      front = refl;
    })))

-- parameters of which there is one, with commas between
pub record Params_read (w : List Token) (ps : List HostParameter) (s : List Token) : Type 0 where
  pub text : w ≡ each spelled_param ps s
  pub filled : Filled ps
  pub parted : Parted (λ (p : HostParameter). p.comma) ps
  pub fits : Every FitsParam ps

each-one_more : (ps : List HostParameter) (p : HostParameter) (s : List Token) → each spelled_param (ps ++ p ∷ []) s ≡ each spelled_param ps (spelled_param p s)
each-one_more [] p s = refl
each-one_more (q ∷ ps) p s = ap (spelled_param q) (each-one_more ps p s)

every-one_more : (P : HostParameter → Type 0) (ps : List HostParameter) (p : HostParameter) → Every P ps → P p → Every P (ps ++ p ∷ [])
every-one_more P [] p h q = (q, tt)
every-one_more P (x ∷ ps) p h q = (h.0, every-one_more P ps p h.1 q)

filled-one_more : (ps : List HostParameter) (p : HostParameter) → Filled (ps ++ p ∷ [])
filled-one_more [] p = tt
filled-one_more (q ∷ ps) p = tt

parted-one_more : (ps : List HostParameter) (p : HostParameter) → Filled ps → Parted (λ (q : HostParameter). q.comma) ps → IsComma p.comma → Parted (λ (q : HostParameter). q.comma) (ps ++ p ∷ [])
parted-one_more [] p filled h c = absurd filled
parted-one_more (q ∷ ps) p filled h c = (h.0, every-one_more (λ z. IsComma z.comma) ps p h.1 c)

one_more : (w : List Token) (ps : List HostParameter) (p : HostParameter) (comma : Token) (ts s : List Token)
    → Params_read w ps (comma ∷ ts) → Is k.Comma comma → Param_read (Some comma) ts p s → Params_read w (ps ++ p ∷ []) s
one_more w ps p comma ts s h is q = record {
  text = h.text ∙ ap (each spelled_param ps) q.text ∙ sym (each-one_more ps p s);
  filled = filled-one_more ps p;
  parted = parted-one_more ps p h.filled h.parted (subst (λ o. IsComma o) (sym q.front) is);
  fits = every-one_more FitsParam ps p h.fits q.fits;
}

another_param_found : (w : List Token) (ps : List HostParameter) (comma : Token) (ts : List Token) → Params_read w ps (comma ∷ ts) → Is k.Comma comma
    → Found (Turned (Params_read w)) (r.another_param ps comma ts)
unfolding r.another_param
another_param_found w ps comma ts h is =
    and_found (Param_read (Some comma) ts) (Turned (Params_read w)) (r.a_param (Some comma) ts) (λ p. pure (ps ++ p ∷ [], true)) (a_param_found (Some comma) ts)
    (λ p s q. one_more w ps p comma ts s h is q)

other_param_by_found : (w : List Token) (ps : List HostParameter) (ts : List Token) → Params_read w ps ts
    → (kind : TokenKind) (t : Token) (u : List Token) → ts ≡ t ∷ u → t.kind ≡ kind → IfSome (r.other_param_by ps kind) (λ q. Found (Turned (Params_read w)) (q t u))
other_param_by_found w ps ts h k.Comma t u e is = another_param_found w ps t u (subst (Params_read w ps) e h) is
other_param_by_found w ps ts h _ t u e is = tt

other_param_found : (w : List Token) (ps : List HostParameter) (ts : List Token) → Params_read w ps ts → Found (Turned (Params_read w)) (r.other_param ps ts)
unfolding r.other_param
other_param_found w ps ts h = look_found_at (Turned (Params_read w)) (r.other_param_by ps) (pure (ps, false)) ts (other_param_by_found w ps ts h) h

pub other_params_found : (limit : ℕ) (w : List Token) (ps : List HostParameter) (ts : List Token) → Params_read w ps ts → Found (Params_read w) (repeat r.other_param limit ps ts)
other_params_found limit w ps ts h = repeat_found (Params_read w) r.other_param (other_param_found w) limit ps ts h

-- ---- lists of parameters

void_is : (kind : TokenKind) → is_void kind ≡ true → kind ≡ k.Void
void_is k.Void h = refl
void_is _ h = absurd cc

-- the word `void` alone
bare_kind : (kind : TokenKind) (c : Option Token) (h : Option HostHandle) (q : Option Reference) (x : Option Token)
    → is_void kind && is_none c && is_none h && is_none q && is_none x ≡ true → kind ≡ k.Void
bare_kind k.Void c h q x e = refl
bare_kind _ c h q x e = absurd cc

bare_text : (kind : TokenKind) (t : Token) (c : Option Token) (h : Option HostHandle) (q : Option Reference) (x : Option Token) (s : List Token)
    → is_void kind && is_none c && is_none h && is_none q && is_none x ≡ true
    → optional c (t ∷ spelled_handle h (spelled_reference q (optional x s))) ≡ t ∷ s
bare_text k.Void t None None None None s e = refl
bare_text k.Void t (Some c) h q x s e = absurd cc
bare_text k.Void t None (Some h) q x s e = absurd cc
bare_text k.Void t None None (Some q) x s e = absurd cc
bare_text k.Void t None None None (Some x) s e = absurd cc
bare_text _ t c h q x s e = absurd cc

no_comma : (o : Option Token) (u : List Token) → o ≡ None → optional o u ≡ u
no_comma None u h = refl
no_comma (Some t) u h = absurd cc

bare_spelled : (p : HostParameter) (s : List Token) → p.comma ≡ None → is_bare_void p ≡ true → spelled_param p s ≡ p.declared_type.name ∷ s
bare_spelled p s c e =
    no_comma p.comma _ c ∙ bare_text p.declared_type.name.kind p.declared_type.name p.declared_type.constant p.declared_type.handle p.reference p.name s e

one_settled : (left : Token) (w : List Token) (p : HostParameter) (right : Token) (s : List Token) (b : Bool)
    → Is k.LeftParen left → Params_read w (p ∷ []) (right ∷ s) → Is k.RightParen right → is_bare_void p ≡ b
    → Reads spelled_params FitsParams (left ∷ w) (if b then r.parameters_of left (Some p.declared_type.name) [] right else r.parameters_of left None (p ∷ []) right) s
one_settled left w p right s true L h R e = record {
  text = ap (λ x. left ∷ x) (h.text ∙ bare_spelled p (right ∷ s) h.parted.0 e);
  fits = (L, (bare_kind p.declared_type.name.kind p.declared_type.constant p.declared_type.handle p.reference p.name e, refl), R);
}
one_settled left w p right s false L h R e = record {
  text = ap (λ x. left ∷ x) h.text;
  fits = (L, (h.parted, h.fits, e), R);
}

settled_found : (left : Token) (w : List Token) (ps : List HostParameter) (right : Token) (s : List Token)
    → Is k.LeftParen left → Params_read w ps (right ∷ s) → Is k.RightParen right → Reads spelled_params FitsParams (left ∷ w) (r.settled left ps right) s
settled_found left w [] right s L h R = absurd h.filled
settled_found left w (p ∷ []) right s L h R = one_settled left w p right s (is_bare_void p) L h R refl
settled_found left w (p ∷ q ∷ ps) right s L h R = record { text = ap (λ x. left ∷ x) h.text; fits = (L, (h.parted, h.fits, refl), R) }

first_read : (ts : List Token) (p : HostParameter) (s : List Token) → Param_read None ts p s → Params_read ts (p ∷ []) s
first_read ts p s h = record { text = h.text; filled = tt; parted = (h.front, tt); fits = (h.fits, tt) }

right_read : (w : List Token) (ps : List HostParameter) (s : List Token) (right : Token) (u : List Token)
    → Params_read w ps s → s ≡ right ∷ u → Params_read w ps (right ∷ u)
right_read w ps s right u h e = subst (Params_read w ps) e h

some_params_found : (limit : ℕ) (left : Token) → Is k.LeftParen left → (ts : List Token) → Found (Reads spelled_params FitsParams (left ∷ ts)) (r.some_params limit left ts)
unfolding r.some_params
some_params_found limit left L ts =
    and_found (Param_read None ts) (Reads spelled_params FitsParams (left ∷ ts)) (r.a_param None ts) _ (a_param_found None ts)
    (λ p s a. and_found (Params_read ts) (Reads spelled_params FitsParams (left ∷ ts)) (repeat r.other_param limit (p ∷ []) s) _ (other_params_found limit ts (p ∷ []) s (first_read ts p s a))
    (λ ps u b. and_found (Token_found is_right_paren u) (Reads spelled_params FitsParams (left ∷ ts)) (a_token is_right_paren u) (λ right. pure (r.settled left ps right)) (a_token_found is_right_paren u)
    (λ right v d. settled_found left ts ps right v L (right_read ts ps u right v b d.text) (right_paren_is right.kind d.kind))))

params_by_found : (limit : ℕ) (left : Token) → Is k.LeftParen left → ChoiceFound (λ ts. Reads spelled_params FitsParams (left ∷ ts)) (r.params_by limit left)
params_by_found limit left L k.RightParen t u is = record { text = refl; fits = (L, (tt, tt, refl), is) }
params_by_found limit left L _ t u is = tt

params_found : (limit : ℕ) (left : Token) → Is k.LeftParen left → (ts : List Token) → Found (Reads spelled_params FitsParams (left ∷ ts)) (r.params limit left ts)
unfolding r.params
params_found limit left L ts = look_found (λ ts. Reads spelled_params FitsParams (left ∷ ts)) (r.params_by limit left) (r.some_params limit left) (params_by_found limit left L) (some_params_found limit left L) ts

-- ---- declarations

-- type NAME params [ "const" ]
pub record FitsFunction (f : HostFunction) : Type 0 where
  pub result : FitsType f.result
  pub name : Is k.Name f.name
  pub parameters : FitsParams f.parameters
  pub constant : IfWritten k.Const f.constant

pub a_function_found : (limit : ℕ) (ts : List Token) → Found (Reads spelled_function FitsFunction ts) (r.a_function limit ts)
unfolding r.a_function
a_function_found limit ts =
    and_found (Reads spelled_type FitsType ts) (Reads spelled_function FitsFunction ts) (r.a_type ts) _ (a_type_found ts)
    (λ y s a. and_found (Token_found is_name s) (Reads spelled_function FitsFunction ts) (a_token is_name s) _ (a_token_found is_name s)
    (λ x u b. and_found (Token_found is_left_paren u) (Reads spelled_function FitsFunction ts) (a_token is_left_paren u) _ (a_token_found is_left_paren u)
    (λ left v d. and_found (Reads spelled_params FitsParams (left ∷ v)) (Reads spelled_function FitsFunction ts) (r.params limit left v) _ (params_found limit left (left_paren_is left.kind d.kind) v)
    (λ ps z e. and_found (Perhaps_found is_const z) (Reads spelled_function FitsFunction ts) (perhaps is_const z) (λ c. pure (r.function_of limit y x ps c)) (perhaps_found is_const z)
    (λ c q f. record {
      text = a.text ∙ ap (spelled_type y) (b.text ∙ ap (λ w. x ∷ w) (d.text ∙ e.text ∙ ap (spelled_params ps) (perhaps_text is_const z q c f)));
      fits = record { result = a.fits; name = name_is x.kind b.kind; parameters = e.fits; constant = perhaps_fits is_const k.Const const_is z q c f };
    })))))

-- type NAME
pub record FitsProperty (p : HostProperty) : Type 0 where
  pub declared_type : FitsType p.declared_type
  pub name : Is k.Name p.name

pub a_property_found : (ts : List Token) → Found (Reads spelled_property FitsProperty ts) (r.a_property ts)
unfolding r.a_property
a_property_found ts =
    and_found (Reads spelled_type FitsType ts) (Reads spelled_property FitsProperty ts) (r.a_type ts) _ (a_type_found ts)
    (λ y s a. and_found (Token_found is_name s) (Reads spelled_property FitsProperty ts) (a_token is_name s) (λ x. pure (r.property_of y x)) (a_token_found is_name s)
    (λ x u b. record { text = a.text ∙ ap (spelled_type y) b.text; fits = record { declared_type = a.fits; name = name_is x.kind b.kind } }))
