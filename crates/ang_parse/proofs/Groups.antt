-- The group of parameters or of arguments ends at its own right parenthesis.
use Rattle.std.proofs.Common.{◌≡◌, ℕ, suc, ◌≤◌, Bool, true, false, List, [], ◌∷◌, ◌++◌, Option, Some, None, refl, ap, ◌∙◌, arith}
use Rattle.ang_lex.specs.declared.token.Token.{Token}
use Rattle.ang_lex.specs.declared.token.TokenKind.{TokenKind}
use Rattle.ang_lex.specs.declared.token.TokenKind.TheVariants as k
use Rattle.ang_tree.specs.declared.type_name.TypeName.{TypeName}
use Rattle.ang_tree.specs.declared.type_name.Handle.{Handle}
use Rattle.ang_tree.specs.declared.declaration.Parameter.{Parameter}
use Rattle.ang_tree.specs.declared.declaration.Reference.{Reference}
use Rattle.ang_tree.specs.Kinds.{Is, IsComma, IfWritten, IfWrittenA, optional, literal_kind, primitive_kind, type_kind, prefix_kind, step_kind, assignment_kind, precedence, direction_kind}
use Rattle.ang_tree.specs.TypeNames.{spelled_handle, spelled_type, FitsHandle, FitsType}
use Rattle.ang_tree.specs.Tree.{Tree, Args, Trees, literal, name, call, scoped_call, scoped_name, cast, convert, group, postfix, member, method_call, prefix, binary, conditional, assignment, arguments, none, more, spelled, spelled_args, listed, Fits, FitsArgs, AllFit, OthersFit}
use Rattle.ang_tree.specs.Stmt.{each, Every}
use Rattle.ang_tree.specs.Declarations.{Params, spelled_reference, spelled_param, FitsReference, FitsParam, FitsItems, FitsParams}
use Rattle.ang_parse_read.specs.Group.{fronted, deeper, cut, split}
use Rattle.ang_parse_read.proofs.PrefixGroup.{parts}

-- ---- what holds no parenthesis, or closes those that it opens

-- The scan for a right parenthesis passes over what is spelled, and goes on after it.
abbrev Over : (List Token → List Token) → Type 0
Over spell = (s : List Token) (d : ℕ) → split (spell s) d ≡ (spell (split s d).0, (split s d).1)

over_nothing : Over (λ s. s)
over_nothing s d = refl

over_both : (f g : List Token → List Token) → Over f → Over g → Over (λ s. f (g s))
over_both f g F G s d = F (g s) d ∙ ap (λ (p : List Token × List Token). (f p.0, p.1)) (G s d)

-- not a parenthesis
abbrev plain : TokenKind → Bool
plain k.LeftParen = false
plain k.RightParen = false
plain _ = true

plain_deeper : (kind : TokenKind) (d : ℕ) → plain kind ≡ true → deeper kind d ≡ Some d
plain_deeper k.LeftParen d h = absurd cc
plain_deeper k.RightParen d h = absurd cc
plain_deeper _ d h = refl

over_token : (t : Token) → plain t.kind ≡ true → (spell : List Token → List Token) → Over spell → Over (λ s. t ∷ spell s)
over_token t h spell H s d = ap (cut t (spell s) (split (spell s))) (plain_deeper t.kind d h) ∙ ap (fronted t) (H s d)

over_one : (t : Token) → plain t.kind ≡ true → Over (λ s. t ∷ s)
over_one t h = over_token t h (λ s. s) over_nothing

right_inside : (right : Token) (s : List Token) (d : ℕ) → Is k.RightParen right → split (right ∷ s) (suc d) ≡ fronted right (split s d)
right_inside right s d R = ap (λ kind. cut right s (split s) (deeper kind (suc d))) R

over_group : (left right : Token) → Is k.LeftParen left → Is k.RightParen right → (spell : List Token → List Token) → Over spell → Over (λ s. left ∷ spell (right ∷ s))
over_group left right L R spell H s d =
    ap (λ kind. cut left (spell (right ∷ s)) (split (spell (right ∷ s))) (deeper kind d)) L
    ∙ ap (fronted left) (H (right ∷ s) (suc d) ∙ ap (λ (p : List Token × List Token). (spell p.0, p.1)) (right_inside right s d R))

-- ---- kinds that are no parenthesis

literal_plain : (kind : TokenKind) → literal_kind kind ≡ true → plain kind ≡ true
literal_plain k.LeftParen h = absurd cc
literal_plain k.RightParen h = absurd cc
literal_plain _ h = refl

primitive_plain : (kind : TokenKind) → primitive_kind kind ≡ true → plain kind ≡ true
primitive_plain k.LeftParen h = absurd cc
primitive_plain k.RightParen h = absurd cc
primitive_plain _ h = refl

type_plain : (kind : TokenKind) → type_kind kind ≡ true → plain kind ≡ true
type_plain k.LeftParen h = absurd cc
type_plain k.RightParen h = absurd cc
type_plain _ h = refl

prefix_plain : (kind : TokenKind) → prefix_kind kind ≡ true → plain kind ≡ true
prefix_plain k.LeftParen h = absurd cc
prefix_plain k.RightParen h = absurd cc
prefix_plain _ h = refl

step_plain : (kind : TokenKind) → step_kind kind ≡ true → plain kind ≡ true
step_plain k.LeftParen h = absurd cc
step_plain k.RightParen h = absurd cc
step_plain _ h = refl

assignment_plain : (kind : TokenKind) → assignment_kind kind ≡ true → plain kind ≡ true
assignment_plain k.LeftParen h = absurd cc
assignment_plain k.RightParen h = absurd cc
assignment_plain _ h = refl

direction_plain : (kind : TokenKind) → direction_kind kind ≡ true → plain kind ≡ true
direction_plain k.LeftParen h = absurd cc
direction_plain k.RightParen h = absurd cc
direction_plain _ h = refl

operator_plain : (kind : TokenKind) → 1 ≤ precedence kind → plain kind ≡ true
operator_plain k.LeftParen h = absurd (omega arith)
operator_plain k.RightParen h = absurd (omega arith)
operator_plain _ h = refl

-- ---- types

over_written : (kind : TokenKind) → plain kind ≡ true → (o : Option Token) → IfWritten kind o → Over (optional o)
over_written kind p None f s d = refl
over_written kind p (Some t) f s d = over_one t (ap plain f ∙ p) s d

over_comma : (o : Option Token) → IsComma o → Over (optional o)
over_comma None f s d = absurd f
over_comma (Some t) f s d = over_one t (ap plain f) s d

over_absent : (o : Option Token) → o ≡ None → Over (optional o)
over_absent None e s d = refl
over_absent (Some t) e s d = absurd cc

over_handle : (h : Option Handle) → FitsHandle h → Over (spelled_handle h)
over_handle None f s d = refl
over_handle (Some h) f s d = over_token h.at (ap plain f.0) (optional h.constant) (over_written k.Const refl h.constant f.1) s d

over_type : (y : TypeName) → FitsType y → Over (spelled_type y)
over_type y f =
    over_both (optional y.constant) (λ s. y.name ∷ spelled_handle y.handle s) (over_written k.Const refl y.constant f.0)
    (over_token y.name (type_plain y.name.kind f.1) (spelled_handle y.handle) (over_handle y.handle f.2))

-- ---- expressions

mutual
  over_tree : (x : Tree) → Fits x → Over (spelled x)
  over_tree (literal t) f = over_one t (literal_plain t.kind f)
  over_tree (name x) f = over_one x (ap plain f)
  over_tree (call x es) f = over_token x (ap plain f.0) (spelled_args es) (over_args es f.1)
  over_tree (scoped_call c scope x es) f =
      over_token c (ap plain f.0) (λ s. scope ∷ x ∷ spelled_args es s)
      (over_token scope (ap plain f.1) (λ s. x ∷ spelled_args es s) (over_token x (ap plain f.2) (spelled_args es) (over_args es f.3)))
  over_tree (scoped_name c scope x) f = over_token c (ap plain f.0) (λ s. scope ∷ x ∷ s) (over_token scope (ap plain f.1) (λ s. x ∷ s) (over_one x (ap plain f.2)))
  over_tree (cast word less y greater left e right) f =
      over_token word (ap plain f.0) (λ s. less ∷ spelled_type y (greater ∷ left ∷ spelled e (right ∷ s)))
      (over_token less (ap plain f.1) (λ s. spelled_type y (greater ∷ left ∷ spelled e (right ∷ s)))
      (over_both (spelled_type y) (λ s. greater ∷ left ∷ spelled e (right ∷ s)) (over_type y f.2)
      (over_token greater (ap plain f.3) (λ s. left ∷ spelled e (right ∷ s)) (over_group left right f.4 f.6 (spelled e) (over_tree e f.5)))))
  over_tree (convert p left e right) f = over_token p (primitive_plain p.kind f.0) (λ s. left ∷ spelled e (right ∷ s)) (over_group left right f.1 f.3 (spelled e) (over_tree e f.2))
  over_tree (group left e right) f = over_group left right f.0 f.2 (spelled e) (over_tree e f.1)
  over_tree (postfix e op) f = over_both (spelled e) (λ s. op ∷ s) (over_tree e f.0) (over_one op (step_plain op.kind f.2))
  over_tree (member e dot x) f = over_both (spelled e) (λ s. dot ∷ x ∷ s) (over_tree e f.0) (over_token dot (ap plain f.2) (λ s. x ∷ s) (over_one x (ap plain f.3)))
  over_tree (method_call e dot x es) f =
      over_both (spelled e) (λ s. dot ∷ x ∷ spelled_args es s) (over_tree e f.0)
      (over_token dot (ap plain f.2) (λ s. x ∷ spelled_args es s) (over_token x (ap plain f.3) (spelled_args es) (over_args es f.4)))
  over_tree (prefix op e) f = over_token op (prefix_plain op.kind f.0) (spelled e) (over_tree e f.1)
  over_tree (binary a op b) f = over_both (spelled a) (λ s. op ∷ spelled b s) (over_tree a f.0) (over_token op (operator_plain op.kind f.1) (spelled b) (over_tree b f.2))
  over_tree (conditional c question a colon b) f =
      over_both (spelled c) (λ s. question ∷ spelled a (colon ∷ spelled b s)) (over_tree c f.0)
      (over_token question (ap plain f.2) (λ s. spelled a (colon ∷ spelled b s))
      (over_both (spelled a) (λ s. colon ∷ spelled b s) (over_tree a f.3) (over_token colon (ap plain f.4) (spelled b) (over_tree b f.5))))
  over_tree (assignment a op b) f = over_both (spelled a) (λ s. op ∷ spelled b s) (over_tree a f.0) (over_token op (assignment_plain op.kind f.2) (spelled b) (over_tree b f.3))

  over_args : (es : Args) → FitsArgs es → Over (spelled_args es)
  over_args (arguments left es right) f = over_group left right f.0 f.2 (listed es) (over_all es f.1)

  over_all : (es : Trees) → AllFit es → Over (listed es)
  over_all none f = over_nothing
  over_all (more comma e es) f = over_both (optional comma) (λ s. spelled e (listed es s)) (over_absent comma f.0) (over_both (spelled e) (listed es) (over_tree e f.1) (over_others es f.2))

  over_others : (es : Trees) → OthersFit es → Over (listed es)
  over_others none f = over_nothing
  over_others (more comma e es) f = over_both (optional comma) (λ s. spelled e (listed es s)) (over_comma comma f.0) (over_both (spelled e) (listed es) (over_tree e f.1) (over_others es f.2))

-- ---- parameters

over_direction : (o : Option Token) → IfWrittenA direction_kind o → Over (optional o)
over_direction None f s d = refl
over_direction (Some t) f s d = over_one t (direction_plain t.kind f) s d

over_reference : (o : Option Reference) → FitsReference o → Over (spelled_reference o)
over_reference None f s d = refl
over_reference (Some a) f s d = over_token a.ampersand (ap plain f.0) (optional a.direction) (over_direction a.direction f.1) s d

over_param : (p : Parameter) → Over (optional p.comma) → FitsParam p → Over (spelled_param p)
over_param p c f =
    over_both (optional p.comma) (λ s. spelled_type p.declared_type (spelled_reference p.reference (optional p.name s))) c
    (over_both (spelled_type p.declared_type) (λ s. spelled_reference p.reference (optional p.name s)) (over_type p.declared_type f.0)
    (over_both (spelled_reference p.reference) (optional p.name) (over_reference p.reference f.1) (over_written k.Name refl p.name f.2)))

over_other_params : (ps : List Parameter) → Every (λ (p : Parameter). IsComma p.comma) ps → Every FitsParam ps → Over (each spelled_param ps)
over_other_params [] c f = over_nothing
over_other_params (p ∷ ps) c f = over_both (spelled_param p) (each spelled_param ps) (over_param p (over_comma p.comma c.0) f.0) (over_other_params ps c.1 f.1)

over_items : (v : Option Token) (items : List Parameter) → FitsItems v items → Over (λ s. optional v (each spelled_param items s))
over_items (Some word) [] f = over_one word (ap plain f.0)
over_items (Some word) (p ∷ ps) f = let e : p ∷ ps ≡ [] = f.1 in absurd cc
over_items None [] f = over_nothing
over_items None (p ∷ ps) f = over_both (spelled_param p) (each spelled_param ps) (over_param p (over_absent p.comma f.0.0) f.1.0) (over_other_params ps f.0.1 f.1.1)

-- ---- the group

right_ends : (right : Token) (s : List Token) → Is k.RightParen right → split (right ∷ s) 0 ≡ (right ∷ [], s)
right_ends right s R = ap (λ kind. cut right s (split s) (deeper kind 0)) R

closes : (spell : List Token → List Token) (right : Token) (s : List Token) → Over spell → Is k.RightParen right → split (spell (right ∷ s)) 0 ≡ (spell (right ∷ []), s)
closes spell right s H R = H (right ∷ s) 0 ∙ ap (λ (p : List Token × List Token). (spell p.0, p.1)) (right_ends right s R)

joins : (spell : List Token → List Token) (right : Token) (s : List Token) → Over spell → Is k.RightParen right → spell (right ∷ s) ≡ spell (right ∷ []) ++ s
joins spell right s H R = parts (spell (right ∷ s)) 0 ∙ ap (λ (p : List Token × List Token). p.0 ++ p.1) (closes spell right s H R)

-- what stands after the left parenthesis
abbrev pub params_inside : Params → List Token → List Token
params_inside ps s = optional ps.void_word (each spelled_param ps.items (ps.right ∷ s))

pub params_split : (ps : Params) (s : List Token) → FitsParams ps → split (params_inside ps s) 0 ≡ (params_inside ps [], s)
params_split ps s f = closes (λ u. optional ps.void_word (each spelled_param ps.items u)) ps.right s (over_items ps.void_word ps.items f.items) f.right

pub params_joined : (ps : Params) (s : List Token) → FitsParams ps → params_inside ps s ≡ params_inside ps [] ++ s
params_joined ps s f = joins (λ u. optional ps.void_word (each spelled_param ps.items u)) ps.right s (over_items ps.void_word ps.items f.items) f.right

pub args_split : (left : Token) (es : Trees) (right : Token) (s : List Token) → FitsArgs (arguments left es right) → split (listed es (right ∷ s)) 0 ≡ (listed es (right ∷ []), s)
args_split left es right s f = closes (listed es) right s (over_all es f.1) f.2

pub args_joined : (es : Args) (s : List Token) → FitsArgs es → spelled_args es s ≡ spelled_args es [] ++ s
args_joined (arguments left es right) s f = ap (λ v. left ∷ v) (joins (listed es) right s (over_all es f.1) f.2)
