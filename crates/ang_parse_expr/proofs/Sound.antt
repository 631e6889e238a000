-- What is read is spelled so.
use Rattle.std.proofs.Common.{◌≡◌, ℕ, zero, suc, ◌+◌, ◌-◌, ◌<◌, ◌≤◌, Bool, true, false, List, [], ◌∷◌, length, Option, Some, None, refl, ap, sym, ◌∙◌, arith}
use Rattle.std.proofs.lemmas.Bool.{leb-true, leb-false}
use Rattle.ang_lex.specs.declared.token.Token.{Token}
use Rattle.ang_lex.specs.declared.token.TokenKind.{TokenKind}
use Rattle.ang_lex.specs.declared.token.TokenKind.TheVariants as k
use Rattle.ang_tree.specs.Kinds.{Is, IsA, IsComma, optional, literal_kind, primitive_kind, prefix_kind, step_kind, assignment_kind, precedence}
use Rattle.ang_tree.specs.TypeNames.{spelled_type}
use Rattle.ang_tree.specs.Tree.{Tree, Args, Trees, literal, name, call, scoped_call, scoped_name, cast, convert, group, postfix, member, method_call, prefix, binary, conditional, assignment, arguments, none, more, added, spelled, spelled_args, listed, level, Fits, FitsArgs, AllFit, OthersFit}
use Rattle.ang_parse_read.specs.Read.{Parser, pure, ◌>>=◌, refuse, given, repeat}
use Rattle.ang_parse_read.specs.Tokens.{a_token, is_name, is_left_paren, is_right_paren, is_less, is_greater, is_colon}
use Rattle.ang_parse_read.proofs.Outcomes.{Reads, and_reads, along, behind, further, ChoiceReads, look_reads, look_or_pass_reads, given_reads, Passes, Turns, repeat_reads, From-self, From-one, From-length}
use Rattle.ang_parse_read.proofs.Tokens.{Always, Token_read, a_token_reads, name_is, left_paren_is, right_paren_is, less_is, greater_is, colon_is}
use Rattle.ang_parse_expr.specs.ReadType.{a_type}
use Rattle.ang_parse_expr.specs.ReadExpr as r
use Rattle.ang_parse_expr.proofs.SoundType.{optional-length, type-length, Type_read, a_type_reads}

-- how tightly the first token binds as an operator
abbrev pub pull : List Token → ℕ
pull [] = 0
pull (t ∷ ts) = precedence t.kind

pub record IsRead (w : List Token) (rule : ℕ) (x : Tree) (s : List Token) : Type 0 where
  pub text : w ≡ spelled x s
  pub fits : Fits x
  pub at_least : rule ≤ level x

pub record IsExpr (w : List Token) (least : ℕ) (x : Tree) (s : List Token) : Type 0 where
  pub text : w ≡ spelled x s
  pub fits : Fits x
  pub at_least : least ≤ level x
  pub stops : pull s ≤ least - 1

-- one expression or more
pub record AreListed (w : List Token) (es : Trees) (s : List Token) : Type 0 where
  pub text : w ≡ listed es s
  pub fits : AllFit es

-- arguments, after the left parenthesis
pub record IsArgs (left : Token) (w : List Token) (es : Args) (s : List Token) : Type 0 where
  pub text : left ∷ w ≡ spelled_args es s
  pub fits : FitsArgs es

mutual
  pub spelled-length : (x : Tree) (s : List Token) → length s < length (spelled x s)
  spelled-length (literal t) s = omega arith
  spelled-length (name x) s = omega arith
  spelled-length (call x es) s = omega (arith, args-length es s)
  spelled-length (scoped_call c scope x es) s = omega (arith, args-length es s)
  spelled-length (scoped_name c scope x) s = omega arith
  spelled-length (cast word less y greater left e right) s = omega (arith, type-length y (greater ∷ left ∷ spelled e (right ∷ s)), spelled-length e (right ∷ s))
  spelled-length (convert p left e right) s = omega (arith, spelled-length e (right ∷ s))
  spelled-length (group left e right) s = omega (arith, spelled-length e (right ∷ s))
  spelled-length (postfix e op) s = omega (arith, spelled-length e (op ∷ s))
  spelled-length (member e dot x) s = omega (arith, spelled-length e (dot ∷ x ∷ s))
  spelled-length (method_call e dot x es) s = omega (arith, spelled-length e (dot ∷ x ∷ spelled_args es s), args-length es s)
  spelled-length (prefix op e) s = omega (arith, spelled-length e s)
  spelled-length (binary a op b) s = omega (arith, spelled-length a (op ∷ spelled b s), spelled-length b s)
  spelled-length (conditional c question a colon b) s = omega (arith, spelled-length c (question ∷ spelled a (colon ∷ spelled b s)), spelled-length a (colon ∷ spelled b s), spelled-length b s)
  spelled-length (assignment a op b) s = omega (arith, spelled-length a (op ∷ spelled b s), spelled-length b s)

  pub args-length : (es : Args) (s : List Token) → length s < length (spelled_args es s)
  args-length (arguments left es right) s = omega (arith, listed-length es (right ∷ s))

  pub listed-length : (es : Trees) (s : List Token) → length s ≤ length (listed es s)
  listed-length none s = omega arith
  listed-length (more comma e es) s = omega (arith, optional-length comma (spelled e (listed es s)), spelled-length e (listed es s), listed-length es s)

pub shorter : (w s : List Token) (rule : ℕ) (x : Tree) → IsRead w rule x s → length s < length w
shorter w s rule x h = omega (arith, ap length h.text, spelled-length x s)

pub listed-added : (es : Trees) (comma : Option Token) (e : Tree) (s : List Token) → listed (added es comma e) s ≡ listed es (optional comma (spelled e s))
listed-added none comma e s = refl
listed-added (more c d es) comma e s = ap (λ u. optional c (spelled d u)) (listed-added es comma e s)

OthersFit-added : (es : Trees) (comma : Option Token) (e : Tree) → OthersFit es → IsComma comma → Fits e → OthersFit (added es comma e)
OthersFit-added none comma e h c f = (c, f, tt)
OthersFit-added (more d x es) comma e h c f = (h.0, h.1, OthersFit-added es comma e h.2 c f)

-- the expressions so far, of which there is one
abbrev pub Some_so_far : List Token → Trees → List Token → Type 0
Some_so_far w none s = ⊥
Some_so_far w (more comma e es) s = (w ≡ listed (more comma e es) s) × AllFit (more comma e es)

one_more : (w : List Token) (es : Trees) (comma : Token) (e : Tree) (ts s : List Token) → Some_so_far w es (comma ∷ ts) → Is k.Comma comma → ts ≡ spelled e s → Fits e → Some_so_far w (added es (Some comma) e) s
one_more w none comma e ts s h is text fits = absurd h
one_more w (more c d es) comma e ts s h is text fits = (
  h.0 ∙ ap (λ u. optional c (spelled d (listed es (comma ∷ u)))) text ∙ ap (λ u. optional c (spelled d u)) (sym (listed-added es (Some comma) e s)),
  (h.1.0, h.1.1, OthersFit-added es (Some comma) e h.1.2 is fits),
)

all_listed : (w : List Token) (es : Trees) (s : List Token) → Some_so_far w es s → AreListed w es s
all_listed w none s h = absurd h
all_listed w (more comma e es) s h = record { text = h.0; fits = h.1 }

pub precedence-top : (kind : TokenKind) → precedence kind ≤ 10
precedence-top k.Or = omega arith
precedence-top _ = omega arith

pub pull-top : (ts : List Token) → pull ts ≤ 10
pull-top [] = omega arith
pull-top (t ∷ u) = precedence-top t.kind

pub binds-true : (least p : ℕ) → r.binds least p ≡ true → (1 ≤ p) × (least ≤ p)
binds-true least zero h = absurd cc
binds-true least (suc p) h = (omega arith, leb-true least (suc p) h)

pub binds-false : (least p : ℕ) → r.binds least p ≡ false → p ≤ least - 1
binds-false least zero h = omega arith
binds-false least (suc p) h = omega (arith, leb-false least (suc p) h)

given-none : {A : Type 0} (b : Bool) (p : Token → Parser A) → given b p ≡ None → b ≡ false
given-none true p h = absurd cc
given-none false p h = refl

module _ (n : ℕ) (e : ℕ → Parser Tree) (E : (least : ℕ) (ts : List Token) → least ≤ 11 → Reads n ts (IsExpr ts least) (e least ts)) where
  -- ---- expressions with commas between them, and arguments

  abbrev More : List Token → ℕ → Trees × Bool → List Token → Type 0
  More w len = Turns (Some_so_far w) (AreListed w) len

  another_reads : (w : List Token) (es : Trees) (comma : Token) (u : List Token) → Is k.Comma comma → Some_so_far w es (comma ∷ u) → Reads n u (More w (length (comma ∷ u))) (r.another e n es comma u)
  unfolding r.another
  another_reads w es comma u is h =
      and_reads n u (IsExpr u 0) (More w (length (comma ∷ u))) (e 0 u) (λ x. pure (added es (Some comma) x, true)) (E 0 u (omega arith))
      (λ x s q f. ((one_more w es comma x u s h is q.text q.fits, omega (arith, From-length u s f)), f))

  others_by_reads : (w : List Token) (es : Trees) → ChoiceReads n (Some_so_far w es) (λ ts. More w (length ts)) (r.others_by e n es)
  others_by_reads w es k.Comma t u is h = further n (t ∷ u) u (More w (length (t ∷ u))) _ _ (From-one t u) (λ y s q. q) (another_reads w es t u is h)
  others_by_reads w es _ t u is h = tt

  other_expression_reads : (w : List Token) (es : Trees) (ts : List Token) → Some_so_far w es ts → Reads n ts (More w (length ts)) (r.other_expression e n es ts)
  unfolding r.other_expression
  other_expression_reads w es ts h = look_reads n (Some_so_far w es) (λ ts. More w (length ts)) (r.others_by e n es) (pure (es, false)) (others_by_reads w es) (λ ts h. (all_listed w es ts h, From-self ts)) ts h

  expressions_reads : (ts : List Token) → Reads n ts (AreListed ts) (r.expressions e n ts)
  unfolding r.expressions
  expressions_reads ts =
      and_reads n ts (IsExpr ts 0) (AreListed ts) (e 0 ts) (λ x. repeat (r.other_expression e n) n (more None x none)) (E 0 ts (omega arith))
      (λ x s q f. further n ts s (AreListed ts) _ _ f (λ y u z. z)
      (repeat_reads (Some_so_far ts) (AreListed ts) n (r.other_expression e n) (other_expression_reads ts) n (omega arith) (more None x none) s (q.text, (refl, q.fits, tt))))

  args_by_reads : (left : Token) → Is k.LeftParen left → ChoiceReads n Always (IsArgs left) (r.args_by e n left)
  args_by_reads left L k.RightParen t u is z = (record { text = refl; fits = (L, tt, is) }, From-one t u)
  args_by_reads left L _ t u is z = tt

  some_args_reads : (left : Token) → Is k.LeftParen left → (ts : List Token) → Reads n ts (IsArgs left ts) (r.some_args e n left ts)
  unfolding r.some_args
  some_args_reads left L ts =
      and_reads n ts (AreListed ts) (IsArgs left ts) (r.expressions e n ts) _ (expressions_reads ts)
      (λ es s q f. further n ts s (IsArgs left ts) _ _ f (λ y u z. z)
      (and_reads n s (Token_read is_right_paren s) (IsArgs left ts) (a_token is_right_paren s) (λ right. pure (arguments left es right)) (a_token_reads is_right_paren n s)
      (λ right u t g. (record { text = ap (λ v. left ∷ v) (q.text ∙ ap (λ v. listed es v) t.text); fits = (L, q.fits, right_paren_is right.kind t.kind) }, g))))

  args_reads : (left : Token) → Is k.LeftParen left → (ts : List Token) → Reads n ts (IsArgs left ts) (r.args e n left ts)
  unfolding r.args
  args_reads left L ts = look_reads n Always (IsArgs left) (r.args_by e n left) (r.some_args e n left) (args_by_reads left L) (λ ts z. some_args_reads left L ts) ts tt

  -- ---- primary

  scoped_by_reads : (w : List Token) (c scope x : Token) → Is k.Name c → Is k.Scope scope → Is k.Name x → ChoiceReads n (λ s. w ≡ c ∷ scope ∷ x ∷ s) (λ s. IsRead w 12) (r.scoped_by e n c scope x)
  scoped_by_reads w c scope x C S X k.LeftParen t u is h =
      further n (t ∷ u) u (IsRead w 12) _ _ (From-one t u) (λ y s q. q)
      (and_reads n u (IsArgs t u) (IsRead w 12) (r.args e n t u) (λ es. pure (scoped_call c scope x es)) (args_reads t is u)
      (λ es s q f. (record { text = h ∙ ap (λ v. c ∷ scope ∷ x ∷ v) q.text; fits = (C, S, X, q.fits); at_least = omega arith }, f)))
  scoped_by_reads w c scope x C S X _ t u is h = tt

  scoped_reads : (c scope : Token) → Is k.Name c → Is k.Scope scope → (ts : List Token) → Reads n ts (IsRead (c ∷ scope ∷ ts) 12) (r.scoped e n c scope ts)
  unfolding r.scoped
  scoped_reads c scope C S ts =
      and_reads n ts (Token_read is_name ts) (IsRead (c ∷ scope ∷ ts) 12) (a_token is_name ts) _ (a_token_reads is_name n ts)
      (λ x s p f. further n ts s (IsRead (c ∷ scope ∷ ts) 12) _ _ f (λ y u z. z)
      (look_reads n (λ s. c ∷ scope ∷ ts ≡ c ∷ scope ∷ x ∷ s) (λ s. IsRead (c ∷ scope ∷ ts) 12) (r.scoped_by e n c scope x) (pure (scoped_name c scope x)) (scoped_by_reads (c ∷ scope ∷ ts) c scope x C S (name_is x.kind p.kind))
      (λ s q. (record { text = q; fits = (C, S, name_is x.kind p.kind); at_least = omega arith }, From-self s)) s
      (ap (λ v. c ∷ scope ∷ v) p.text)))

  named_by_reads : (x : Token) → Is k.Name x → ChoiceReads n Always (λ ts. IsRead (x ∷ ts) 12) (r.named_by e n x)
  named_by_reads x X k.LeftParen t u is z =
      further n (t ∷ u) u (IsRead (x ∷ t ∷ u) 12) _ _ (From-one t u) (λ y s q. q)
      (and_reads n u (IsArgs t u) (IsRead (x ∷ t ∷ u) 12) (r.args e n t u) (λ es. pure (call x es)) (args_reads t is u)
      (λ es s q f. (record { text = ap (λ v. x ∷ v) q.text; fits = (X, q.fits); at_least = omega arith }, f)))
  named_by_reads x X k.Scope t u is z = further n (t ∷ u) u (IsRead (x ∷ t ∷ u) 12) _ _ (From-one t u) (λ y s q. q) (scoped_reads x t X is u)
  named_by_reads x X _ t u is z = tt

  pub named_reads : (x : Token) → Is k.Name x → (ts : List Token) → Reads n ts (IsRead (x ∷ ts) 12) (r.named e n x ts)
  unfolding r.named
  named_reads x X ts = look_reads n Always (λ ts. IsRead (x ∷ ts) 12) (r.named_by e n x) (pure (name x)) (named_by_reads x X) (λ ts z. (record { text = refl; fits = X; at_least = omega arith }, From-self ts)) ts tt

  -- an expression and the right parenthesis
  record Inside (ts : List Token) (i : Tree × Token) (s : List Token) : Type 0 where
    text : ts ≡ spelled i.0 (i.1 ∷ s)
    fits : Fits i.0
    right : Is k.RightParen i.1

  inside_reads : (ts : List Token) → Reads n ts (Inside ts) (r.inside e n ts)
  unfolding r.inside
  inside_reads ts =
      and_reads n ts (IsExpr ts 0) (Inside ts) (e 0 ts) _ (E 0 ts (omega arith))
      (λ x s q f. further n ts s (Inside ts) _ _ f (λ y u z. z)
      (and_reads n s (Token_read is_right_paren s) (Inside ts) (a_token is_right_paren s) (λ right. pure (x, right)) (a_token_reads is_right_paren n s)
      (λ right u t g. (record { text = q.text ∙ ap (λ v. spelled x v) t.text; fits = q.fits; right = right_paren_is right.kind t.kind }, g))))

  converted_reads : (p : Token) → IsA primitive_kind p → (ts : List Token) → Reads n ts (IsRead (p ∷ ts) 12) (r.converted e n p ts)
  unfolding r.converted
  converted_reads p P ts =
      and_reads n ts (Token_read is_left_paren ts) (IsRead (p ∷ ts) 12) (a_token is_left_paren ts) _ (a_token_reads is_left_paren n ts)
      (λ left s l f. further n ts s (IsRead (p ∷ ts) 12) _ _ f (λ y u z. z)
      (and_reads n s (Inside s) (IsRead (p ∷ ts) 12) (r.inside e n s) (λ i. pure (convert p left i.0 i.1)) (inside_reads s)
      (λ i u q g. (record { text = ap (λ v. p ∷ v) (l.text ∙ ap (λ v. left ∷ v) q.text); fits = (P, left_paren_is left.kind l.kind, q.fits, q.right); at_least = omega arith }, g))))

  casted_reads : (word : Token) → Is k.Cast word → (ts : List Token) → Reads n ts (IsRead (word ∷ ts) 12) (r.casted e n word ts)
  unfolding r.casted
  casted_reads word W ts =
      and_reads n ts (Token_read is_less ts) (IsRead (word ∷ ts) 12) (a_token is_less ts) _ (a_token_reads is_less n ts)
      (λ less s1 l f1. further n ts s1 (IsRead (word ∷ ts) 12) _ _ f1 (λ y u z. z)
      (and_reads n s1 (Type_read s1) (IsRead (word ∷ ts) 12) (a_type s1) _ (a_type_reads n s1)
      (λ y s2 t f2. further n s1 s2 (IsRead (word ∷ ts) 12) _ _ f2 (λ y u z. z)
      (and_reads n s2 (Token_read is_greater s2) (IsRead (word ∷ ts) 12) (a_token is_greater s2) _ (a_token_reads is_greater n s2)
      (λ greater s3 g f3. further n s2 s3 (IsRead (word ∷ ts) 12) _ _ f3 (λ y u z. z)
      (and_reads n s3 (Token_read is_left_paren s3) (IsRead (word ∷ ts) 12) (a_token is_left_paren s3) _ (a_token_reads is_left_paren n s3)
      (λ left s4 p f4. further n s3 s4 (IsRead (word ∷ ts) 12) _ _ f4 (λ y u z. z)
      (and_reads n s4 (Inside s4) (IsRead (word ∷ ts) 12) (r.inside e n s4) (λ i. pure (cast word less y greater left i.0 i.1)) (inside_reads s4)
      (λ i s5 q f5. (
        record {
          text = ap (λ v. word ∷ v) (l.text ∙ ap (λ v. less ∷ v) (t.text ∙ ap (λ v. spelled_type y v) (g.text ∙ ap (λ v. greater ∷ v) (p.text ∙ ap (λ v. left ∷ v) q.text))));
          fits = (W, less_is less.kind l.kind, t.fits, greater_is greater.kind g.kind, left_paren_is left.kind p.kind, q.fits, q.right);
          at_least = omega arith;
        },
        f5,
      ))))))))))

  grouped_reads : (left : Token) → Is k.LeftParen left → (ts : List Token) → Reads n ts (IsRead (left ∷ ts) 12) (r.grouped e n left ts)
  unfolding r.grouped
  grouped_reads left L ts =
      and_reads n ts (Inside ts) (IsRead (left ∷ ts) 12) (r.inside e n ts) _ (inside_reads ts)
      (λ i s q f. (record { text = ap (λ v. left ∷ v) q.text; fits = (L, q.fits, q.right); at_least = omega arith }, f))

  literal_reads : (m : ℕ) (t : Token) (u : List Token) (kind : TokenKind) → t.kind ≡ kind → literal_kind kind ≡ true → Reads m (t ∷ u) (IsRead (t ∷ u) 12) (pure (literal t) u)
  literal_reads m t u kind is h = (record { text = refl; fits = ap literal_kind is ∙ h; at_least = omega arith }, From-one t u)

  primary_by_reads : ChoiceReads (suc n) Always (λ ts. IsRead ts 12) (r.primary_by e n)
  primary_by_reads k.Name t u is z = behind n t u (IsRead (t ∷ u) 12) _ _ (λ y s q. q) (named_reads t is u)
  primary_by_reads k.Cast t u is z = behind n t u (IsRead (t ∷ u) 12) _ _ (λ y s q. q) (casted_reads t is u)
  primary_by_reads (k.Primitive p) t u is z = behind n t u (IsRead (t ∷ u) 12) _ _ (λ y s q. q) (converted_reads t (ap primitive_kind is) u)
  primary_by_reads k.LeftParen t u is z = behind n t u (IsRead (t ∷ u) 12) _ _ (λ y s q. q) (grouped_reads t is u)
  primary_by_reads kind t u is z = given_reads (suc n) (t ∷ u) t u (IsRead (t ∷ u) 12) (literal_kind kind) (λ t. pure (literal t)) (literal_reads (suc n) t u kind is)

  primary_reads : (ts : List Token) → Reads (suc n) ts (IsRead ts 12) (r.primary e n ts)
  unfolding r.primary
  primary_reads ts = look_reads (suc n) Always (λ ts. IsRead ts 12) (r.primary_by e n) refuse primary_by_reads (λ ts z. From-self ts) ts tt

  -- ---- post

  membered_by_reads : (w : List Token) (x : Tree) (dot m : Token) → Is k.Dot dot → Is k.Name m → ChoiceReads n (λ s. IsRead w 12 x (dot ∷ m ∷ s)) (λ s. IsRead w 12) (r.membered_by e n x dot m)
  membered_by_reads w x dot m D M k.LeftParen t u is h =
      further n (t ∷ u) u (IsRead w 12) _ _ (From-one t u) (λ y s q. q)
      (and_reads n u (IsArgs t u) (IsRead w 12) (r.args e n t u) (λ es. pure (method_call x dot m es)) (args_reads t is u)
      (λ es s q f. (record { text = h.text ∙ ap (λ v. spelled x (dot ∷ m ∷ v)) q.text; fits = (h.fits, h.at_least, D, M, q.fits); at_least = omega arith }, f)))
  membered_by_reads w x dot m D M _ t u is h = tt

  membered_reads : (w : List Token) (x : Tree) (dot : Token) (ts : List Token) → Is k.Dot dot → IsRead w 12 x (dot ∷ ts) → Reads n ts (IsRead w 12) (r.membered e n x dot ts)
  unfolding r.membered
  membered_reads w x dot ts D h =
      and_reads n ts (Token_read is_name ts) (IsRead w 12) (a_token is_name ts) _ (a_token_reads is_name n ts)
      (λ m s p f. further n ts s (IsRead w 12) _ _ f (λ y u q. q)
      (look_reads n (λ s. IsRead w 12 x (dot ∷ m ∷ s)) (λ s. IsRead w 12) (r.membered_by e n x dot m) (pure (member x dot m)) (membered_by_reads w x dot m D (name_is m.kind p.kind))
      (λ s q. (record { text = q.text; fits = (q.fits, q.at_least, D, name_is m.kind p.kind); at_least = omega arith }, From-self s)) s
      (record { text = h.text ∙ ap (λ v. spelled x (dot ∷ v)) p.text; fits = h.fits; at_least = h.at_least })))

  abbrev Suffix : List Token → ℕ → Tree × Bool → List Token → Type 0
  Suffix w len = Turns (IsRead w 12) (IsRead w 12) len

  step_reads : (w : List Token) (x : Tree) (t : Token) (u : List Token) (kind : TokenKind) → t.kind ≡ kind → IsRead w 12 x (t ∷ u) → step_kind kind ≡ true → Reads (suc n) (t ∷ u) (Suffix w (length (t ∷ u))) (pure (postfix x t, true) u)
  step_reads w x t u kind is h b = ((record { text = h.text; fits = (h.fits, h.at_least, ap step_kind is ∙ b); at_least = omega arith }, omega arith), From-one t u)

  suffix_by_reads : (w : List Token) (x : Tree) → ChoiceReads (suc n) (IsRead w 12 x) (λ ts. Suffix w (length ts)) (r.suffix_by e n x)
  suffix_by_reads w x k.Dot t u is h =
      behind n t u (Suffix w (length (t ∷ u))) _ _ (λ y s q. q)
      (and_reads n u (IsRead w 12) (Suffix w (length (t ∷ u))) (r.membered e n x t u) (λ m. pure (m, true)) (membered_reads w x t u is h)
      (λ m s q f. ((q, omega (arith, From-length u s f)), f)))
  suffix_by_reads w x kind t u is h = given_reads (suc n) (t ∷ u) t u (Suffix w (length (t ∷ u))) (step_kind kind) (λ op. pure (postfix x op, true)) (step_reads w x t u kind is h)

  suffix_reads : (w : List Token) (x : Tree) (ts : List Token) → IsRead w 12 x ts → Reads (suc n) ts (Suffix w (length ts)) (r.suffix e n x ts)
  unfolding r.suffix
  suffix_reads w x ts h = look_reads (suc n) (IsRead w 12 x) (λ ts. Suffix w (length ts)) (r.suffix_by e n x) (pure (x, false)) (suffix_by_reads w x) (λ ts q. (q, From-self ts)) ts h

  post_reads : (ts : List Token) → Reads (suc n) ts (IsRead ts 12) (r.post e n ts)
  unfolding r.post
  post_reads ts =
      and_reads (suc n) ts (IsRead ts 12) (IsRead ts 12) (r.primary e n ts) (repeat (r.suffix e n) n) (primary_reads ts)
      (λ x s q f. along n (suc n) ts s (IsRead ts 12) _ _ f (λ d. omega (arith, shorter ts s 12 x q)) (λ y u z. z)
      (repeat_reads (IsRead ts 12) (IsRead ts 12) (suc n) (r.suffix e n) (suffix_reads ts) n (omega arith) x s q))

  -- ---- unary and the levels of binary

  unary_by_reads : ChoiceReads (suc n) Always (λ ts. IsRead ts 11) (r.unary_by e n)
  unary_by_reads kind t u is z = given_reads (suc n) (t ∷ u) t u (IsRead (t ∷ u) 11) (prefix_kind kind) (λ op. e 11 >>= (λ x. pure (prefix op x)))
      (λ b. behind n t u (IsRead (t ∷ u) 11) _ _ (λ y s q. q)
      (and_reads n u (IsExpr u 11) (IsRead (t ∷ u) 11) (e 11 u) (λ x. pure (prefix t x)) (E 11 u (omega arith))
      (λ x s q f. (record { text = ap (λ v. t ∷ v) q.text; fits = (ap prefix_kind is ∙ b, q.fits, q.at_least); at_least = omega arith }, f))))

  unary_reads : (ts : List Token) → Reads (suc n) ts (IsRead ts 11) (r.unary e n ts)
  unfolding r.unary
  unary_reads ts = look_reads (suc n) Always (λ ts. IsRead ts 11) (r.unary_by e n) (r.post e n) unary_by_reads
      (λ ts z. further (suc n) ts ts (IsRead ts 12) _ _ (From-self ts) (λ x s q. record { text = q.text; fits = q.fits; at_least = omega (arith, q.at_least) }) (post_reads ts)) ts tt

  -- Between two operators: what was read binds as tightly as the next operator at least.
  record Operand (w : List Token) (least : ℕ) (x : Tree) (s : List Token) : Type 0 where
    text : w ≡ spelled x s
    fits : Fits x
    at_least : least ≤ level x
    tight : 1 ≤ level x
    pulled : pull s ≤ level x

  record IsTerm (w : List Token) (least : ℕ) (x : Tree) (s : List Token) : Type 0 where
    text : w ≡ spelled x s
    fits : Fits x
    at_least : least ≤ level x
    tight : 1 ≤ level x
    stops : pull s ≤ least - 1

  abbrev Operation : List Token → ℕ → ℕ → Tree × Bool → List Token → Type 0
  Operation w least len = Turns (Operand w least) (IsTerm w least) len

  operated_reads : (w : List Token) (least : ℕ) (x : Tree) (t : Token) (u : List Token) → (1 ≤ precedence t.kind) × (least ≤ precedence t.kind) → Operand w least x (t ∷ u) → Reads n u (Operation w least (length (t ∷ u))) (r.operated e n x t u)
  unfolding r.operated
  operated_reads w least x t u b h =
      and_reads n u (IsExpr u (precedence t.kind + 1)) (Operation w least (length (t ∷ u))) (e (precedence t.kind + 1) u) (λ y. pure (binary x t y, true)) (E (precedence t.kind + 1) u (omega (arith, precedence-top t.kind)))
      (λ y s q f. ((record { text = h.text ∙ ap (λ v. spelled x (t ∷ v)) q.text; fits = (h.fits, b.0, q.fits, h.pulled, omega (arith, q.at_least)); at_least = b.1; tight = b.0; pulled = omega (arith, q.stops) }, omega (arith, From-length u s f)), f))

  operation_by_reads : (w : List Token) (least : ℕ) (x : Tree) → ChoiceReads n (Operand w least x) (λ ts. Operation w least (length ts)) (r.operation_by e n least x)
  operation_by_reads w least x kind t u is h = given_reads n (t ∷ u) t u (Operation w least (length (t ∷ u))) (r.binds least (precedence kind)) (r.operated e n x)
      (λ b. further n (t ∷ u) u (Operation w least (length (t ∷ u))) _ _ (From-one t u) (λ y s q. q)
      (operated_reads w least x t u (binds-true least (precedence t.kind) (ap (λ v. r.binds least (precedence v)) is ∙ b)) h))

  low : (least : ℕ) (x : Tree) (ts : List Token) → Passes (r.operation_by e n least x) ts → pull ts ≤ least - 1
  low least x [] h = omega arith
  low least x (t ∷ u) h = binds-false least (precedence t.kind) (given-none (r.binds least (precedence t.kind)) (r.operated e n x) h)

  operation_reads : (w : List Token) (least : ℕ) (x : Tree) (ts : List Token) → Operand w least x ts → Reads n ts (Operation w least (length ts)) (r.operation e n least x ts)
  unfolding r.operation
  operation_reads w least x ts h =
      look_or_pass_reads n (Operand w least x) (λ ts. Operation w least (length ts)) (r.operation_by e n least x) (pure (x, false)) (operation_by_reads w least x)
      (λ ts h passes. (record { text = h.text; fits = h.fits; at_least = h.at_least; tight = h.tight; stops = low least x ts passes }, From-self ts)) ts h

  term_reads : (least : ℕ) (ts : List Token) → least ≤ 11 → Reads (suc n) ts (IsTerm ts least) (r.term e n least ts)
  unfolding r.term
  term_reads least ts le =
      and_reads (suc n) ts (IsRead ts 11) (IsTerm ts least) (r.unary e n ts) (repeat (r.operation e n least) n) (unary_reads ts)
      (λ x s q f. along n (suc n) ts s (IsTerm ts least) _ _ f (λ d. omega (arith, shorter ts s 11 x q)) (λ y u z. z)
      (repeat_reads (Operand ts least) (IsTerm ts least) n (r.operation e n least) (operation_reads ts least) n (omega arith) x s
      (record { text = q.text; fits = q.fits; at_least = omega (arith, q.at_least); tight = omega (arith, q.at_least); pulled = omega (arith, pull-top s, q.at_least) })))

  -- ---- cond and assign

  record Branches (ts : List Token) (b : Tree × Token × Tree) (s : List Token) : Type 0 where
    text : ts ≡ spelled b.0 (b.1 ∷ spelled b.2 s)
    first : Fits b.0
    colon : Is k.Colon b.1
    second : Fits b.2
    stops : pull s ≤ 0

  branches_reads : (ts : List Token) → Reads n ts (Branches ts) (r.branches e n ts)
  unfolding r.branches
  branches_reads u =
      and_reads n u (IsExpr u 0) (Branches u) (e 0 u) _ (E 0 u (omega arith))
      (λ a s q f. further n u s (Branches u) _ _ f (λ y v z. z)
      (and_reads n s (Token_read is_colon s) (Branches u) (a_token is_colon s) _ (a_token_reads is_colon n s)
      (λ colon v t g. further n s v (Branches u) _ _ g (λ y v z. z)
      (and_reads n v (IsExpr v 0) (Branches u) (e 0 v) (λ b. pure (a, colon, b)) (E 0 v (omega arith))
      (λ b z p i. (record { text = q.text ∙ ap (λ v. spelled a v) (t.text ∙ ap (λ v. colon ∷ v) p.text); first = q.fits; colon = colon_is colon.kind t.kind; second = p.fits; stops = p.stops }, i))))))

  conditioned_reads : (w : List Token) (c : Tree) (question : Token) (u : List Token) → Is k.Question question → IsTerm w 0 c (question ∷ u) → Reads n u (IsExpr w 0) (r.conditioned e n c question u)
  unfolding r.conditioned
  conditioned_reads w c question u Q h =
      and_reads n u (Branches u) (IsExpr w 0) (r.branches e n u) (λ b. pure (conditional c question b.0 b.1 b.2)) (branches_reads u)
      (λ b s q f. (record { text = h.text ∙ ap (λ v. spelled c (question ∷ v)) q.text; fits = (h.fits, h.tight, Q, q.first, q.colon, q.second); at_least = omega arith; stops = q.stops }, f))

  assigned_reads : (w : List Token) (c : Tree) (op : Token) (u : List Token) → IsA assignment_kind op → IsTerm w 0 c (op ∷ u) → Reads n u (IsExpr w 0) (r.assigned e n c op u)
  unfolding r.assigned
  assigned_reads w c op u O h =
      and_reads n u (IsExpr u 0) (IsExpr w 0) (e 0 u) (λ b. pure (assignment c op b)) (E 0 u (omega arith))
      (λ b s q f. (record { text = h.text ∙ ap (λ v. spelled c (op ∷ v)) q.text; fits = (h.fits, h.tight, O, q.fits); at_least = omega arith; stops = q.stops }, f))

  tail_by_reads : (w : List Token) (c : Tree) → ChoiceReads n (IsTerm w 0 c) (λ ts. IsExpr w 0) (r.tail_by e n c)
  tail_by_reads w c k.Question t u is h = further n (t ∷ u) u (IsExpr w 0) _ _ (From-one t u) (λ y s q. q) (conditioned_reads w c t u is h)
  tail_by_reads w c kind t u is h = given_reads n (t ∷ u) t u (IsExpr w 0) (assignment_kind kind) (r.assigned e n c)
      (λ b. further n (t ∷ u) u (IsExpr w 0) _ _ (From-one t u) (λ y s q. q) (assigned_reads w c t u (ap assignment_kind is ∙ b) h))

  tail_reads : (w : List Token) (c : Tree) (ts : List Token) → IsTerm w 0 c ts → Reads n ts (IsExpr w 0) (r.tail e n c ts)
  unfolding r.tail
  tail_reads w c ts h = look_reads n (IsTerm w 0 c) (λ ts. IsExpr w 0) (r.tail_by e n c) (pure c) (tail_by_reads w c)
      (λ ts h. (record { text = h.text; fits = h.fits; at_least = h.at_least; stops = h.stops }, From-self ts)) ts h

  tail_at_reads : (least : ℕ) (w : List Token) (c : Tree) (ts : List Token) → IsTerm w least c ts → Reads n ts (IsExpr w least) (r.tail_at e n least c ts)
  tail_at_reads zero w c ts h = tail_reads w c ts h
  tail_at_reads (suc l) w c ts h = (record { text = h.text; fits = h.fits; at_least = h.at_least; stops = h.stops }, From-self ts)

  level_reads : (least : ℕ) (ts : List Token) → least ≤ 11 → Reads (suc n) ts (IsExpr ts least) (r.level e n least ts)
  unfolding r.level
  level_reads least ts le =
      and_reads (suc n) ts (IsTerm ts least) (IsExpr ts least) (r.term e n least ts) (r.tail_at e n least) (term_reads least ts le)
      (λ x s q f. along n (suc n) ts s (IsExpr ts least) _ _ f (λ d. omega (arith, ap length q.text, spelled-length x s)) (λ y u z. z) (tail_at_reads least ts x s q))

pub expr_reads : (n least : ℕ) (ts : List Token) → least ≤ 11 → Reads n ts (IsExpr ts least) (r.expr n least ts)
unfolding r.expr
expr_reads zero least ts le = omega arith
expr_reads (suc n) least ts le = level_reads n (r.expr n) (expr_reads n) least ts le

pub args_at_reads : (n : ℕ) (left : Token) → Is k.LeftParen left → (ts : List Token) → Reads n ts (IsArgs left ts) (r.args (r.expr n) n left ts)
args_at_reads n left L ts = args_reads n (r.expr n) (expr_reads n) left L ts

pub expressions_at_reads : (n : ℕ) (ts : List Token) → Reads n ts (AreListed ts) (r.expressions (r.expr n) n ts)
expressions_at_reads n ts = expressions_reads n (r.expr n) (expr_reads n) ts
