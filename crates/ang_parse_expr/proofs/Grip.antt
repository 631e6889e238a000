-- Which tokens continue an expression, and which begin one.
use Rattle.std.proofs.Common.{◌≡◌, ℕ, zero, suc, ◌-◌, ◌≤◌, Bool, true, false, List, [], ◌∷◌, None, refl, ap, sym, subst, arith}
use Rattle.std.proofs.lemmas.Bool.{le-leb, lt-leb}
use Rattle.ang_lex.specs.declared.token.Token.{Token}
use Rattle.ang_lex.specs.declared.token.TokenKind.{TokenKind}
use Rattle.ang_lex.specs.declared.token.TokenKind.TheVariants as k
use Rattle.ang_tree.specs.Kinds.{IsA, literal_kind, primitive_kind, prefix_kind, assignment_kind, precedence}
use Rattle.ang_tree.specs.Tree.{Tree, literal, name, call, scoped_call, scoped_name, cast, convert, group, postfix, member, method_call, prefix, binary, conditional, assignment, spelled, spelled_args, level, Fits}
use Rattle.ang_parse_read.specs.Read.{Parser, Choice, look}
use Rattle.ang_parse_read.proofs.Tokens.{look_at}
use Rattle.ang_parse_expr.specs.ReadExpr as r
use Rattle.ang_parse_expr.proofs.Sound.{precedence-top}

-- ---- what continues one

abbrev looser : Bool → ℕ → ℕ
looser true p = 1
looser false zero = 0
looser false (suc p) = suc (suc p)

-- The loosest rule that a token continues, from 1 for `?` and the assignments, or 0 where it ends each; what can stand after a
-- primary or a name alone is above all.
abbrev pub grip_of : TokenKind → ℕ
grip_of k.LeftParen = 14
grip_of k.Scope = 14
grip_of k.Increment = 14
grip_of k.Decrement = 14
grip_of k.Dot = 14
grip_of k.Question = 1
grip_of kind = looser (assignment_kind kind) (precedence kind)

abbrev pub grip : List Token → ℕ
grip [] = 0
grip (t ∷ u) = grip_of t.kind

pub grip_is : (kind : TokenKind) (t : Token) (u : List Token) → t.kind ≡ kind → grip (t ∷ u) ≡ grip_of kind
grip_is kind t u is = ap grip_of is

-- `(` and `::`, after a name
abbrev pub opens_by : TokenKind → Bool
opens_by k.LeftParen = true
opens_by k.Scope = true
opens_by _ = false

abbrev pub opens : List Token → Bool
opens [] = false
opens (t ∷ u) = opens_by t.kind

low_opens_by : (kind : TokenKind) → grip_of kind ≤ 13 → opens_by kind ≡ false
low_opens_by k.LeftParen h = absurd (omega arith)
low_opens_by k.Scope h = absurd (omega arith)
low_opens_by _ h = refl

pub low_opens : (ts : List Token) → grip ts ≤ 13 → opens ts ≡ false
low_opens [] h = refl
low_opens (t ∷ u) h = low_opens_by t.kind h

gap_by : (kind : TokenKind) → grip_of kind ≤ 13 → grip_of kind ≤ 11
gap_by k.LeftParen h = absurd (omega arith)
gap_by k.Scope h = absurd (omega arith)
gap_by k.Increment h = absurd (omega arith)
gap_by k.Decrement h = absurd (omega arith)
gap_by k.Dot h = absurd (omega arith)
gap_by _ h = omega arith

pub gap : (ts : List Token) → grip ts ≤ 13 → grip ts ≤ 11
gap [] h = omega arith
gap (t ∷ u) h = gap_by t.kind h

-- a binary operator grips by its precedence
pub grip_operator : (kind : TokenKind) → 1 ≤ precedence kind → grip_of kind ≡ suc (precedence kind)
grip_operator k.Or h = refl
grip_operator _ h = omega arith

looser_assignment : (is : Bool) (p : ℕ) → is ≡ true → looser is p ≤ 1
looser_assignment true p h = omega arith
looser_assignment false p h = absurd cc

grip_assignment : (kind : TokenKind) → assignment_kind kind ≡ true → grip_of kind ≤ 1
grip_assignment k.LeftParen h = absurd cc
grip_assignment k.Scope h = absurd cc
grip_assignment k.Increment h = absurd cc
grip_assignment k.Decrement h = absurd cc
grip_assignment k.Dot h = absurd cc
grip_assignment k.Question h = absurd cc
grip_assignment kind h = looser_assignment (assignment_kind kind) (precedence kind) h

pub no_assignment : (is : Bool) (p : ℕ) → looser is p ≤ 0 → is ≡ false
no_assignment true p h = absurd (omega arith)
no_assignment false p h = refl

pub low_assignment : (op : Token) (u : List Token) → IsA assignment_kind op → grip (op ∷ u) ≤ 1
low_assignment op u h = grip_assignment op.kind h

-- an operator that binds less tightly is left
binds_low : (least p : ℕ) → (1 ≤ p → suc p ≤ suc (least - 1)) → r.binds least p ≡ false
binds_low least zero h = refl
binds_low least (suc p) h = let q : suc (suc p) ≤ suc (least - 1) = h (omega arith) in lt-leb least (suc p) (omega arith)

pub not_bound : (least : ℕ) (kind : TokenKind) → grip_of kind ≤ suc (least - 1) → r.binds least (precedence kind) ≡ false
not_bound least kind h = binds_low least (precedence kind) (λ p. omega (arith, h, grip_operator kind p))

-- one that binds as tightly is taken
pub bound : (least p : ℕ) → 1 ≤ p → least ≤ p → r.binds least p ≡ true
bound least zero h k = absurd (omega arith)
bound least (suc p) h k = le-leb least (suc p) k

-- ---- what begins one

abbrev pub primary_kind : TokenKind → Bool
primary_kind k.Name = true
primary_kind k.Cast = true
primary_kind (k.Primitive p) = true
primary_kind k.LeftParen = true
primary_kind kind = literal_kind kind

abbrev pub starter_kind : TokenKind → Bool
starter_kind k.Name = true
starter_kind k.Cast = true
starter_kind (k.Primitive p) = true
starter_kind k.LeftParen = true
starter_kind k.Number = true
starter_kind k.True = true
starter_kind k.False = true
starter_kind k.Null = true
starter_kind k.This = true
starter_kind kind = prefix_kind kind

pub primary_starts : (kind : TokenKind) → primary_kind kind ≡ true → starter_kind kind ≡ true
primary_starts k.Name h = refl
primary_starts k.Cast h = refl
primary_starts (k.Primitive p) h = refl
primary_starts k.LeftParen h = refl
primary_starts k.Number h = refl
primary_starts k.True h = refl
primary_starts k.False h = refl
primary_starts k.Null h = refl
primary_starts k.This h = refl
primary_starts _ h = absurd cc

prefix_starts : (kind : TokenKind) → prefix_kind kind ≡ true → starter_kind kind ≡ true
prefix_starts k.Not h = refl
prefix_starts k.Minus h = refl
prefix_starts k.Plus h = refl
prefix_starts k.Tilde h = refl
prefix_starts k.At h = refl
prefix_starts k.Increment h = refl
prefix_starts k.Decrement h = refl
prefix_starts _ h = absurd cc

literal_primary : (kind : TokenKind) → literal_kind kind ≡ true → primary_kind kind ≡ true
literal_primary k.Number h = refl
literal_primary k.True h = refl
literal_primary k.False h = refl
literal_primary k.Null h = refl
literal_primary k.This h = refl
literal_primary _ h = absurd cc

primitive_primary : (kind : TokenKind) → primitive_kind kind ≡ true → primary_kind kind ≡ true
primitive_primary (k.Primitive p) h = refl
primitive_primary _ h = absurd cc

pub primary_no_prefix : (kind : TokenKind) → primary_kind kind ≡ true → prefix_kind kind ≡ false
primary_no_prefix k.Not h = absurd cc
primary_no_prefix k.Minus h = absurd cc
primary_no_prefix k.Plus h = absurd cc
primary_no_prefix k.Tilde h = absurd cc
primary_no_prefix k.At h = absurd cc
primary_no_prefix k.Increment h = absurd cc
primary_no_prefix k.Decrement h = absurd cc
primary_no_prefix _ h = refl

-- the first token is of such a kind
pub record First (test : TokenKind → Bool) (ts : List Token) : Type 0 where
  pub token : Token
  pub rest : List Token
  pub is : ts ≡ token ∷ rest
  pub kind : test token.kind ≡ true

first_at : (test : TokenKind → Bool) (t : Token) (u : List Token) → test t.kind ≡ true → First test (t ∷ u)
first_at test t u h = record { token = t; rest = u; is = refl; kind = h }

pub first_primary : (x : Tree) (ts : List Token) → Fits x → 12 ≤ level x → First primary_kind (spelled x ts)
first_primary (literal t) ts f h = first_at primary_kind t ts (literal_primary t.kind f)
first_primary (name x) ts f h = first_at primary_kind x ts (ap primary_kind f)
first_primary (call x es) ts f h = first_at primary_kind x (spelled_args es ts) (ap primary_kind f.0)
first_primary (scoped_call c scope x es) ts f h = first_at primary_kind c (scope ∷ x ∷ spelled_args es ts) (ap primary_kind f.0)
first_primary (scoped_name c scope x) ts f h = first_at primary_kind c (scope ∷ x ∷ ts) (ap primary_kind f.0)
first_primary (cast word less y greater left e right) ts f h = first_at primary_kind word _ (ap primary_kind f.0)
first_primary (convert p left e right) ts f h = first_at primary_kind p _ (primitive_primary p.kind f.0)
first_primary (group left e right) ts f h = first_at primary_kind left _ (ap primary_kind f.0)
first_primary (postfix e op) ts f h = first_primary e (op ∷ ts) f.0 f.1
first_primary (member e dot x) ts f h = first_primary e (dot ∷ x ∷ ts) f.0 f.1
first_primary (method_call e dot x es) ts f h = first_primary e (dot ∷ x ∷ spelled_args es ts) f.0 f.1
first_primary (prefix op e) ts f h = absurd (omega arith)
first_primary (binary a op b) ts f h = absurd (omega (arith, precedence-top op.kind))
first_primary (conditional c question a colon b) ts f h = absurd (omega arith)
first_primary (assignment a op b) ts f h = absurd (omega arith)

widened : (ts : List Token) → First primary_kind ts → First starter_kind ts
widened ts h = record { token = h.token; rest = h.rest; is = h.is; kind = primary_starts h.token.kind h.kind }

-- the first token of an expression may begin one
pub starts : (x : Tree) (ts : List Token) → Fits x → First starter_kind (spelled x ts)
starts (literal t) ts f = widened _ (first_primary (literal t) ts f (omega arith))
starts (name x) ts f = widened _ (first_primary (name x) ts f (omega arith))
starts (call x es) ts f = widened _ (first_primary (call x es) ts f (omega arith))
starts (scoped_call c scope x es) ts f = widened _ (first_primary (scoped_call c scope x es) ts f (omega arith))
starts (scoped_name c scope x) ts f = widened _ (first_primary (scoped_name c scope x) ts f (omega arith))
starts (cast word less y greater left e right) ts f = widened _ (first_primary (cast word less y greater left e right) ts f (omega arith))
starts (convert p left e right) ts f = widened _ (first_primary (convert p left e right) ts f (omega arith))
starts (group left e right) ts f = widened _ (first_primary (group left e right) ts f (omega arith))
starts (postfix e op) ts f = widened _ (first_primary (postfix e op) ts f (omega arith))
starts (member e dot x) ts f = widened _ (first_primary (member e dot x) ts f (omega arith))
starts (method_call e dot x es) ts f = widened _ (first_primary (method_call e dot x es) ts f (omega arith))
starts (prefix op e) ts f = first_at starter_kind op (spelled e ts) (prefix_starts op.kind f.0)
starts (binary a op b) ts f = starts a (op ∷ spelled b ts) f.0
starts (conditional c question a colon b) ts f = starts c (question ∷ spelled a (colon ∷ spelled b ts)) f.0
starts (assignment a op b) ts f = starts a (op ∷ spelled b ts) f.0

-- a look that such a token passes
pub passed : {A : Type 0} (test : TokenKind → Bool) (f : TokenKind → Choice A) (p : Parser A) (ts : List Token) → First test ts → ((kind : TokenKind) → test kind ≡ true → f kind ≡ None) → look f p ts ≡ p ts
passed test f p ts h g = subst (λ v. look f p v ≡ p v) (sym h.is) (look_at f p None h.token h.rest (g h.token.kind h.kind))
