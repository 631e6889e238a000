-- What is read as variables, or as what may stand where they may, is spelled so.
use Rattle.std.proofs.Common.{◌≡◌, ℕ, ◌≤◌, Bool, true, false, List, [], ◌∷◌, ◌++◌, length, Option, Some, None, refl, ap, sym, subst, ◌∙◌, arith}
use Rattle.std.specs.Prelude.{IfSome}
use Rattle.ang_lex.specs.declared.token.Token.{Token}
use Rattle.ang_lex.specs.declared.token.TokenKind.{TokenKind}
use Rattle.ang_lex.specs.declared.token.TokenKind.TheVariants as k
use Rattle.ang_tree.specs.declared.type_name.TypeName.{TypeName}
use Rattle.ang_tree.specs.Kinds.{Is, IsA, IsComma, IfWritten, optional, type_kind}
use Rattle.ang_tree.specs.TypeNames.{spelled_type, FitsType}
use Rattle.ang_tree.specs.Tree.{Tree, spelled}
use Rattle.ang_tree.specs.Stmt.{each, Every, Parted, Filled, Init, absent, value, constructor, Var, Vars, Start, with_variables, with_expression, spelled_init, spelled_var, spelled_vars, spelled_option, spelled_start, FitsInit, FitsVar, FitsVars, FitsOption, FitsStart}
use Rattle.ang_parse_read.specs.Read.{pure, repeat}
use Rattle.ang_parse_read.specs.Tokens.{a_token, perhaps, is_name, is_semicolon, is_const}
use Rattle.ang_parse_read.proofs.Outcomes.{Reads, and_reads, along, further, chosen_reads, ChoiceReads, look_reads, Turns, repeat_reads_to, From-self, From-one, From-length}
use Rattle.ang_parse_read.proofs.Tokens.{Always, Token_read, a_token_reads, Perhaps_read, written, absent as unwritten, perhaps_reads, name_is, semicolon_is, const_is}
use Rattle.ang_parse_expr.specs.ReadType.{handle_of, type_of, type_named}
use Rattle.ang_parse_expr.specs.ReadExpr.{expr, args}
use Rattle.ang_parse_expr.proofs.SoundType.{Type_read, type_named_reads}
use Rattle.ang_parse_expr.proofs.Sound.{IsExpr, IsArgs, expr_reads, args_at_reads}
use Rattle.ang_parse_stmt.specs.ReadVars as r

-- ---- lists of items

pub each-one_more : {A : Type 0} (spell : A → List Token → List Token) (xs : List A) (x : A) (s : List Token) → each spell (xs ++ x ∷ []) s ≡ each spell xs (spell x s)
each-one_more spell [] x s = refl
each-one_more spell (y ∷ xs) x s = ap (spell y) (each-one_more spell xs x s)

pub Every-one_more : {A : Type 0} (P : A → Type 0) (xs : List A) (x : A) → Every P xs → P x → Every P (xs ++ x ∷ [])
Every-one_more P [] x h p = (p, tt)
Every-one_more P (y ∷ xs) x h p = (h.0, Every-one_more P xs x h.1 p)

pub Filled-one_more : {A : Type 0} (xs : List A) (x : A) → Filled xs → Filled (xs ++ x ∷ [])
Filled-one_more [] x h = absurd h
Filled-one_more (y ∷ xs) x h = tt

pub Parted-one_more : {A : Type 0} (comma : A → Option Token) (xs : List A) (x : A) → Filled xs → Parted comma xs → IsComma (comma x) → Parted comma (xs ++ x ∷ [])
Parted-one_more comma [] x filled h c = absurd filled
Parted-one_more comma (y ∷ xs) x filled h c = (h.0, Every-one_more (λ z. IsComma (comma z)) xs x h.1 c)

-- ---- what is read

pub record IsInit (w : List Token) (i : Init) (s : List Token) : Type 0 where
  pub text : w ≡ spelled_init i s
  pub fits : FitsInit i

pub record IsVar (w : List Token) (comma : Option Token) (v : Var) (s : List Token) : Type 0 where
  pub text : w ≡ spelled_var v s
  pub fits : FitsVar v
  pub front : v.comma ≡ comma

-- variables of a type, of which there is one
pub record AreVars (w : List Token) (vs : List Var) (s : List Token) : Type 0 where
  pub text : w ≡ each spelled_var vs s
  pub filled : Filled vs
  pub parted : Parted (λ (v : Var). v.comma) vs
  pub fits : Every FitsVar vs

pub record IsVars (w : List Token) (vs : Vars) (s : List Token) : Type 0 where
  pub text : w ≡ spelled_vars vs s
  pub fits : FitsVars vs

-- [ assign ] ";"
pub record IsEnded (w : List Token) (e : Option Tree × Token) (s : List Token) : Type 0 where
  pub text : w ≡ spelled_option e.0 (e.1 ∷ s)
  pub fits : FitsOption e.0
  pub semicolon : Is k.Semicolon e.1

pub record IsStart (w : List Token) (b : Start) (s : List Token) : Type 0 where
  pub text : w ≡ spelled_start b s
  pub fits : FitsStart b

-- the same, of a list that is written otherwise
start_retold : (w v : List Token) → w ≡ v → (b : Start) (s : List Token) → IsStart v b s → IsStart w b s
start_retold w v e b s q = record { text = e ∙ q.text; fits = q.fits }

one_more : (w : List Token) (vs : List Var) (v : Var) (comma : Token) (ts s : List Token) → AreVars w vs (comma ∷ ts) → Is k.Comma comma → IsVar (comma ∷ ts) (Some comma) v s → AreVars w (vs ++ v ∷ []) s
one_more w vs v comma ts s h is q = record {
  text = h.text ∙ ap (λ u. each spelled_var vs u) q.text ∙ sym (each-one_more spelled_var vs v s);
  filled = Filled-one_more vs v h.filled;
  parted = Parted-one_more (λ (u : Var). u.comma) vs v h.filled h.parted (subst (λ o. IsComma o) (sym q.front) is);
  fits = Every-one_more FitsVar vs v h.fits q.fits;
}

const_text : (w s : List Token) (o : Option Token) → Perhaps_read is_const w o s → w ≡ optional o s
const_text w s o (written x u e h) = e
const_text w s o unwritten = refl

const_fits : (w s : List Token) (o : Option Token) → Perhaps_read is_const w o s → IfWritten k.Const o
const_fits w s o (written x u e h) = const_is x.kind h
const_fits w s o unwritten = tt

module _ (n l : ℕ) (le : n ≤ l) where
  pub expression_reads : (ts : List Token) → Reads n ts (IsExpr ts 0) (expr l 0 ts)
  expression_reads ts = along l n ts ts (IsExpr ts 0) _ _ (From-self ts) (λ d. omega arith) (λ x s q. q) (expr_reads l 0 ts (omega arith))

  arguments_reads : (left : Token) → Is k.LeftParen left → (ts : List Token) → Reads n ts (IsArgs left ts) (args (expr l) l left ts)
  arguments_reads left L ts = along l n ts ts (IsArgs left ts) _ _ (From-self ts) (λ d. omega arith) (λ x s q. q) (args_at_reads l left L ts)

  -- ---- variables

  valued_reads : (equals : Token) → Is k.Assign equals → (ts : List Token) → Reads n ts (IsInit (equals ∷ ts)) (r.valued l equals ts)
  unfolding r.valued
  valued_reads equals is ts =
      and_reads n ts (IsExpr ts 0) (IsInit (equals ∷ ts)) (expr l 0 ts) (λ e. pure (value equals e)) (expression_reads ts)
      (λ e s q f. (record { text = ap (λ v. equals ∷ v) q.text; fits = (is, q.fits) }, f))

  constructed_reads : (left : Token) → Is k.LeftParen left → (ts : List Token) → Reads n ts (IsInit (left ∷ ts)) (r.constructed l left ts)
  unfolding r.constructed
  constructed_reads left is ts =
      and_reads n ts (IsArgs left ts) (IsInit (left ∷ ts)) (args (expr l) l left ts) (λ es. pure (constructor es)) (arguments_reads left is ts)
      (λ es s q f. (record { text = q.text; fits = q.fits }, f))

  init_by_reads : ChoiceReads n Always IsInit (r.init_by l)
  init_by_reads k.Assign t u is z = further n (t ∷ u) u (IsInit (t ∷ u)) _ _ (From-one t u) (λ y s q. q) (valued_reads t is u)
  init_by_reads k.LeftParen t u is z = further n (t ∷ u) u (IsInit (t ∷ u)) _ _ (From-one t u) (λ y s q. q) (constructed_reads t is u)
  init_by_reads _ t u is z = tt

  pub init_reads : (ts : List Token) → Reads n ts (IsInit ts) (r.init l ts)
  unfolding r.init
  init_reads ts = look_reads n Always IsInit (r.init_by l) (pure absent) init_by_reads (λ ts z. (record { text = refl; fits = tt }, From-self ts)) ts tt

  pub variable_named_reads : (comma : Option Token) (x : Token) → Is k.Name x → (ts : List Token) → Reads n ts (IsVar (optional comma (x ∷ ts)) comma) (r.variable_named l comma x ts)
  unfolding r.variable_named
  variable_named_reads comma x X ts =
      and_reads n ts (IsInit ts) (IsVar (optional comma (x ∷ ts)) comma) (r.init l ts) (λ i. pure (r.variable_of comma x i)) (init_reads ts)
      (λ i s q f. (record { text = ap (λ v. optional comma (x ∷ v)) q.text; fits = (X, q.fits); front = refl }, f))

  abbrev More : List Token → ℕ → List Var × Bool → List Token → Type 0
  More w len = Turns (AreVars w) (AreVars w) len

  another_variable_reads : (w : List Token) (vs : List Var) (comma : Token) (ts : List Token) → Is k.Comma comma → AreVars w vs (comma ∷ ts) → Reads n ts (More w (length (comma ∷ ts))) (r.another_variable l vs comma ts)
  unfolding r.another_variable
  another_variable_reads w vs comma ts is h =
      and_reads n ts (Token_read is_name ts) (More w (length (comma ∷ ts))) (a_token is_name ts) _ (a_token_reads is_name n ts)
      (λ x s p f. further n ts s (More w (length (comma ∷ ts))) _ _ f (λ y u q. q)
      (and_reads n s (IsVar (comma ∷ x ∷ s) (Some comma)) (More w (length (comma ∷ ts))) (r.variable_named l (Some comma) x s) (λ v. pure (vs ++ v ∷ [], true)) (variable_named_reads (Some comma) x (name_is x.kind p.kind) s)
      (λ v u q g. ((one_more w vs v comma ts u h is (record { text = ap (λ y. comma ∷ y) p.text ∙ q.text; fits = q.fits; front = q.front }), omega (arith, From-length ts s f, From-length s u g)), g))))

  other_variable_by_reads : (w : List Token) (vs : List Var) → ChoiceReads n (AreVars w vs) (λ ts. More w (length ts)) (r.other_variable_by l vs)
  other_variable_by_reads w vs k.Comma t u is h = further n (t ∷ u) u (More w (length (t ∷ u))) _ _ (From-one t u) (λ y s q. q) (another_variable_reads w vs t u is h)
  other_variable_by_reads w vs _ t u is h = tt

  other_variable_reads : (w : List Token) (vs : List Var) (ts : List Token) → AreVars w vs ts → Reads n ts (More w (length ts)) (r.other_variable l vs ts)
  unfolding r.other_variable
  other_variable_reads w vs ts h = look_reads n (AreVars w vs) (λ ts. More w (length ts)) (r.other_variable_by l vs) (pure (vs, false)) (other_variable_by_reads w vs) (λ ts q. (q, From-self ts)) ts h

  -- what the first variable begins
  first_of : (w : List Token) (v : Var) (s : List Token) → IsVar w None v s → AreVars w (v ∷ []) s
  first_of w v s h = record { text = h.text; filled = tt; parted = (h.front, tt); fits = (h.fits, tt) }

  pub variables_behind_reads : (y : TypeName) (v : Var) (w u ts : List Token) → FitsType y → w ≡ spelled_type y u → IsVar u None v ts → Reads n ts (IsVars w) (r.variables_behind l y v ts)
  unfolding r.variables_behind
  variables_behind_reads y v w u ts Y e h =
      and_reads n ts (AreVars u) (IsVars w) (repeat (r.other_variable l) l (v ∷ []) ts) _
      (repeat_reads_to (AreVars u) (AreVars u) n (r.other_variable l) (other_variable_reads u) l n (omega arith) le (v ∷ []) ts (first_of u v ts h))
      (λ vs s q f. further n ts s (IsVars w) _ _ f (λ y u q. q)
      (and_reads n s (Token_read is_semicolon s) (IsVars w) (a_token is_semicolon s) (λ semicolon. pure (r.variables_of y vs semicolon)) (a_token_reads is_semicolon n s)
      (λ semicolon t p g. (
        record {
          text = e ∙ ap (λ x. spelled_type y x) (q.text ∙ ap (λ x. each spelled_var vs x) p.text);
          fits = record { of_type = Y; filled = q.filled; parted = q.parted; items = q.fits; semicolon = semicolon_is semicolon.kind p.kind };
        },
        g,
      ))))

  pub variables_named_reads : (y : TypeName) (x : Token) (w ts : List Token) → FitsType y → Is k.Name x → w ≡ spelled_type y (x ∷ ts) → Reads n ts (IsVars w) (r.variables_named l y x ts)
  unfolding r.variables_named
  variables_named_reads y x w ts Y X e =
      and_reads n ts (IsVar (x ∷ ts) None) (IsVars w) (r.variable_named l None x ts) (r.variables_behind l y) (variable_named_reads None x X ts)
      (λ v s q f. further n ts s (IsVars w) _ _ f (λ y u q. q) (variables_behind_reads y v w (x ∷ ts) s Y e q))

  -- ---- vars | [ assign ] ";"

  pub some_ended_reads : (ts : List Token) → Reads n ts (IsEnded ts) (r.some_ended l ts)
  unfolding r.some_ended
  some_ended_reads ts =
      and_reads n ts (IsExpr ts 0) (IsEnded ts) (expr l 0 ts) _ (expression_reads ts)
      (λ e s q f. further n ts s (IsEnded ts) _ _ f (λ y u z. z)
      (and_reads n s (Token_read is_semicolon s) (IsEnded ts) (a_token is_semicolon s) (λ semicolon. pure (Some e, semicolon)) (a_token_reads is_semicolon n s)
      (λ semicolon u p g. (record { text = q.text ∙ ap (λ v. spelled e v) p.text; fits = q.fits; semicolon = semicolon_is semicolon.kind p.kind }, g))))

  ended_by_reads : ChoiceReads n Always IsEnded (r.ended_by l)
  ended_by_reads k.Semicolon t u is z = (record { text = refl; fits = tt; semicolon = is }, From-one t u)
  ended_by_reads _ t u is z = tt

  pub ended_reads : (ts : List Token) → Reads n ts (IsEnded ts) (r.ended l ts)
  unfolding r.ended
  ended_reads ts = look_reads n Always IsEnded (r.ended_by l) (r.some_ended l) ended_by_reads (λ ts z. some_ended_reads ts) ts tt

  ran_reads : (ts : List Token) → Reads n ts (IsStart ts) (r.ran l ts)
  unfolding r.ran
  ran_reads ts =
      and_reads n ts (IsEnded ts) (IsStart ts) (r.some_ended l ts) (λ e. pure (with_expression e.0 e.1)) (some_ended_reads ts)
      (λ e s q f. (record { text = q.text; fits = (q.fits, q.semicolon) }, f))

  declared_reads : (y : TypeName) (x : Token) (w ts : List Token) → FitsType y → Is k.Name x → w ≡ spelled_type y (x ∷ ts) → Reads n ts (IsStart w) (r.declared l y x ts)
  unfolding r.declared
  declared_reads y x w ts Y X e =
      and_reads n ts (IsVars w) (IsStart w) (r.variables_named l y x ts) (λ vs. pure (with_variables vs)) (variables_named_reads y x w ts Y X e)
      (λ vs s q f. (record { text = q.text; fits = q.fits }, f))

  declared_of_reads : (y : TypeName) (w ts : List Token) → FitsType y → w ≡ spelled_type y ts → Reads n ts (IsStart w) (r.declared_of l y ts)
  unfolding r.declared_of
  declared_of_reads y w ts Y e =
      and_reads n ts (Token_read is_name ts) (IsStart w) (a_token is_name ts) (r.declared l y) (a_token_reads is_name n ts)
      (λ x s p f. further n ts s (IsStart w) _ _ f (λ y u q. q) (declared_reads y x w s Y (name_is x.kind p.kind) (e ∙ ap (λ v. spelled_type y v) p.text)))

  typed_reads : (c : Option Token) (x : Token) (ts : List Token) → IfWritten k.Const c → IsA type_kind x → Reads n ts (IsStart (optional c (x ∷ ts))) (r.typed l c x ts)
  unfolding r.typed
  typed_reads c x ts C X =
      and_reads n ts (Type_read (optional c (x ∷ ts))) (IsStart (optional c (x ∷ ts))) (type_named c x ts) (r.declared_of l) (type_named_reads n c x ts C X)
      (λ y s q f. further n ts s (IsStart (optional c (x ∷ ts))) _ _ f (λ y u q. q) (declared_of_reads y (optional c (x ∷ ts)) s q.fits q.text))

  constant_typed_reads : (word : Token) → Is k.Const word → (ts : List Token) → Reads n ts (IsStart (word ∷ ts)) (r.constant_typed l word ts)
  unfolding r.constant_typed
  constant_typed_reads word W ts =
      and_reads n ts (Token_read type_kind ts) (IsStart (word ∷ ts)) (a_token type_kind ts) (r.typed l (Some word)) (a_token_reads type_kind n ts)
      (λ x s p f. further n ts s (IsStart (word ∷ x ∷ s)) (IsStart (word ∷ ts)) (r.typed l (Some word) x s) f
      (start_retold (word ∷ ts) (word ∷ x ∷ s) (ap (λ v. word ∷ v) p.text)) (typed_reads (Some word) x s W p.kind))

  handled_reads : (x sign : Token) → Is k.Name x → Is k.At sign → (ts : List Token) → Reads n ts (IsStart (x ∷ sign ∷ ts)) (r.handled l x sign ts)
  unfolding r.handled
  handled_reads x sign X A ts =
      and_reads n ts (Perhaps_read is_const ts) (IsStart (x ∷ sign ∷ ts)) (perhaps is_const ts) _ (perhaps_reads is_const n ts)
      (λ c s p f. further n ts s (IsStart (x ∷ sign ∷ ts)) _ _ f (λ y u q. q)
      (declared_of_reads (type_of None x (Some (handle_of sign c))) (x ∷ sign ∷ ts) s (tt, ap type_kind X, (A, const_fits ts s c p)) (ap (λ v. x ∷ sign ∷ v) (const_text ts s c p))))

  named_by_reads : (x : Token) → Is k.Name x → (kind : TokenKind) (t : Token) (u : List Token) → t.kind ≡ kind → IfSome (r.named_by l x kind) (λ q. Reads n (x ∷ t ∷ u) (IsStart (x ∷ t ∷ u)) (q t u))
  named_by_reads x X k.At t u is = further n (x ∷ t ∷ u) u (IsStart (x ∷ t ∷ u)) _ _ (record { front = x ∷ t ∷ []; parts = refl }) (λ y s q. q) (handled_reads x t X is u)
  named_by_reads x X k.Name t u is = further n (x ∷ t ∷ u) u (IsStart (x ∷ t ∷ u)) _ _ (record { front = x ∷ t ∷ []; parts = refl }) (λ y s q. q) (declared_reads (type_of None x None) t (x ∷ t ∷ u) u (tt, ap type_kind X, tt) is refl)
  named_by_reads x X _ t u is = tt

  named_reads : (x : Token) → Is k.Name x → (ts : List Token) → Reads n (x ∷ ts) (IsStart (x ∷ ts)) (r.named l x ts)
  unfolding r.named
  named_reads x X [] = ran_reads (x ∷ [])
  named_reads x X (t ∷ u) = chosen_reads n (x ∷ t ∷ u) t u (IsStart (x ∷ t ∷ u)) (r.named_by l x t.kind) (r.ran l (x ∷ t ∷ u)) (named_by_reads x X t.kind t u refl) (ran_reads (x ∷ t ∷ u))

  primitive_by_reads : (p : Token) (kind : TokenKind) (t : Token) (u : List Token) → IfSome (r.primitive_by l p kind) (λ q. Reads n (p ∷ t ∷ u) (IsStart (p ∷ t ∷ u)) (q t u))
  primitive_by_reads p k.LeftParen t u = ran_reads (p ∷ t ∷ u)
  primitive_by_reads p _ t u = tt

  -- variables of a type that is a lone word
  worded_reads : (p : Token) → IsA type_kind p → (ts : List Token) → Reads n (p ∷ ts) (IsStart (p ∷ ts)) (r.typed l None p ts)
  worded_reads p P ts = further n (p ∷ ts) ts (IsStart (p ∷ ts)) _ _ (From-one p ts) (λ y s q. q) (typed_reads None p ts tt P)

  primitive_reads : (p : Token) → IsA type_kind p → (ts : List Token) → Reads n (p ∷ ts) (IsStart (p ∷ ts)) (r.primitive l p ts)
  unfolding r.primitive
  primitive_reads p P [] = worded_reads p P []
  primitive_reads p P (t ∷ u) = chosen_reads n (p ∷ t ∷ u) t u (IsStart (p ∷ t ∷ u)) (r.primitive_by l p t.kind) (r.typed l None p (t ∷ u)) (primitive_by_reads p t.kind t u) (worded_reads p P (t ∷ u))

  start_by_reads : ChoiceReads n Always IsStart (r.start_by l)
  start_by_reads k.Semicolon t u is z = (record { text = refl; fits = (tt, is) }, From-one t u)
  start_by_reads k.Const t u is z = further n (t ∷ u) u (IsStart (t ∷ u)) _ _ (From-one t u) (λ y s q. q) (constant_typed_reads t is u)
  start_by_reads k.Void t u is z = worded_reads t (ap type_kind is) u
  start_by_reads k.Name t u is z = named_reads t is u
  start_by_reads (k.Primitive p) t u is z = primitive_reads t (ap type_kind is) u
  start_by_reads _ t u is z = tt

  pub start_reads : (ts : List Token) → Reads n ts (IsStart ts) (r.start l ts)
  unfolding r.start
  start_reads ts = look_reads n Always IsStart (r.start_by l) (r.ran l) start_by_reads (λ ts z. ran_reads ts) ts tt
