-- What is spelled as an expression is read.
use Rattle.std.proofs.Common.{◌≡◌, ℕ, zero, suc, ◌+◌, ◌-◌, ◌<◌, ◌≤◌, true, false, List, ◌∷◌, Option, Some, None, Ok, refl, ap, sym, ◌∙◌, arith}
use Rattle.ang_lex.specs.declared.token.Token.{Token}
use Rattle.ang_lex.specs.declared.token.TokenKind.{TokenKind}
use Rattle.ang_lex.specs.declared.token.TokenKind.TheVariants as k
use Rattle.ang_tree.specs.declared.type_name.TypeName.{TypeName}
use Rattle.ang_tree.specs.Kinds.{Is, step_kind, precedence}
use Rattle.ang_tree.specs.TypeNames.{spelled_type}
use Rattle.ang_tree.specs.Tree.{Tree, Args, Trees, literal, name, call, scoped_call, scoped_name, cast, convert, group, postfix, member, method_call, prefix, binary, conditional, assignment, arguments, none, more, added, spelled, listed, level, Fits, FitsArgs, AllFit, OthersFit}
use Rattle.ang_parse_read.specs.Read.{Parser, and_then, repeat}
use Rattle.ang_parse_read.specs.Tokens.{is_const}
use Rattle.ang_parse_read.proofs.Loops.{repeat_stops, repeat_goes_on}
use Rattle.ang_parse_expr.specs.ReadExpr as r
use Rattle.ang_parse_expr.proofs.Sound.{precedence-top}
use Rattle.ang_parse_expr.proofs.CompleteType.{is_at, EndsType, type_read}
use Rattle.ang_parse_expr.proofs.Grip.{grip, grip_of, grip_is, opens, opens_by, low_opens, gap, grip_operator, low_assignment, primary_kind, starter_kind, primary_no_prefix, First, first_primary, starts, passed}
use Rattle.ang_parse_expr.proofs.Stops as s
use Rattle.ang_parse_expr.proofs.Stops.{is_comma, EndsList}

-- ---- sizes

abbrev mutual
  pub size : Tree → ℕ
  size (literal t) = 1
  size (name x) = 1
  size (call x es) = suc (size_args es)
  size (scoped_call c scope x es) = suc (size_args es)
  size (scoped_name c scope x) = 1
  size (cast word less y greater left e right) = suc (size e)
  size (convert p left e right) = suc (size e)
  size (group left e right) = suc (size e)
  size (postfix e op) = suc (size e)
  size (member e dot x) = suc (size e)
  size (method_call e dot x es) = suc (size e + size_args es)
  size (prefix op e) = suc (size e)
  size (binary a op b) = suc (size a + size b)
  size (conditional c question a colon b) = suc (size c + size a + size b)
  size (assignment a op b) = suc (size a + size b)

  pub size_args : Args → ℕ
  size_args (arguments left es right) = size_all es

  pub size_all : Trees → ℕ
  size_all none = 0
  size_all (more comma x es) = suc (size x + size_all es)

-- the turns of the loops that read it
abbrev pub turns : Tree → ℕ
turns (postfix x op) = suc (turns x)
turns (member x dot m) = suc (turns x)
turns (method_call x dot m es) = suc (turns x)
turns _ = 0

abbrev pub spine : Tree → ℕ
spine (binary a op b) = suc (spine a)
spine _ = 0

turns-size : (x : Tree) → turns x < size x
turns-size (postfix x op) = omega (arith, turns-size x)
turns-size (member x dot m) = omega (arith, turns-size x)
turns-size (method_call x dot m es) = omega (arith, turns-size x)
turns-size _ = omega arith

spine-size : (x : Tree) → spine x < size x
spine-size (binary a op b) = omega (arith, spine-size a)
spine-size _ = omega arith

level-top : (x : Tree) → level x ≤ 12
level-top (prefix op e) = omega arith
level-top (binary a op b) = omega (arith, precedence-top op.kind)
level-top (conditional c question a colon b) = omega arith
level-top (assignment a op b) = omega arith
level-top _ = omega arith

-- ---- the three readers at what a tree spells

abbrev AsPost : Tree → Type 0
AsPost x = (n j i : ℕ) (ts : List Token) → Fits x → 12 ≤ level x → size x ≤ n → j ≡ turns x + i → opens ts ≡ false
    → and_then (r.primary (r.expr n) n (spelled x ts)) (repeat (r.suffix (r.expr n) n) j) ≡ repeat (r.suffix (r.expr n) n) i x ts

abbrev AsTerm : Tree → Type 0
AsTerm x = (n least j i : ℕ) (ts : List Token) → Fits x → 1 ≤ level x → least ≤ level x → size x ≤ n → j ≡ spine x + i → grip ts ≤ suc (level x)
    → and_then (r.unary (r.expr n) n (spelled x ts)) (repeat (r.operation (r.expr n) n least) j) ≡ repeat (r.operation (r.expr n) n least) i x ts

abbrev pub Whole : Tree → Type 0
Whole x = (n least : ℕ) (ts : List Token) → Fits x → least ≤ level x → size x ≤ n → grip ts ≤ least → r.expr (suc n) least (spelled x ts) ≡ Ok (x, ts)

pub record Complete (x : Tree) : Type 0 where
  pub as_post : AsPost x
  pub as_term : AsTerm x
  pub whole : Whole x

unary_post : (e : ℕ → Parser Tree) (n : ℕ) (x : Tree) (ts : List Token) → Fits x → 12 ≤ level x → r.unary e n (spelled x ts) ≡ r.post e n (spelled x ts)
unary_post e n x ts f h =
    let p : First primary_kind (spelled x ts) = first_primary x ts f h in
    ap (r.unary e n) p.is ∙ s.unary_passes e n p.token p.rest (primary_no_prefix p.token.kind p.kind) ∙ ap (r.post e n) (sym p.is)

-- what reads a suffixed tree reads it as an operand
term_from_post : (x : Tree) → 12 ≤ level x → spine x ≡ 0 → AsPost x → AsTerm x
unfolding r.post
term_from_post x lev flat p n least j i ts f l1 l2 sz e g =
    let c = turns-size x in
    let ok : r.unary (r.expr n) n (spelled x ts) ≡ Ok (x, ts) =
    unary_post (r.expr n) n x ts f lev
    ∙ p n n (n - turns x) ts f lev sz (omega arith) (low_opens ts (omega (arith, level-top x)))
    ∙ repeat_stops (r.suffix (r.expr n) n) x (n - turns x) ts (omega arith) (s.suffix_stops (r.expr n) n x ts (omega (arith, level-top x))) in
    ap (λ v. and_then v (repeat (r.operation (r.expr n) n least) j)) ok ∙ ap (λ m. repeat (r.operation (r.expr n) n least) m x ts) (let q : j ≡ i = omega (arith, e, flat) in q)

tail_at_stops : (n least : ℕ) (x : Tree) (ts : List Token) → grip ts ≤ least → r.tail_at (r.expr n) n least x ts ≡ Ok (x, ts)
tail_at_stops n zero x ts g = s.tail_stops (r.expr n) n x ts g
tail_at_stops n (suc l) x ts g = refl

-- what reads an operand reads the whole
whole_from_term : (x : Tree) → 1 ≤ level x → AsTerm x → Whole x
unfolding r.expr r.level r.term
whole_from_term x lev t n least ts f le sz g =
    let c = spine-size x in
    ap (λ v. and_then v (r.tail_at (r.expr n) n least))
    (t n least n (n - spine x) ts f lev le sz (omega arith) (omega arith)
    ∙ repeat_stops (r.operation (r.expr n) n least) x (n - spine x) ts (omega arith) (s.operation_stops (r.expr n) n least x ts (omega arith)))
    ∙ tail_at_stops n least x ts g

-- ---- tree by tree

pub inner : (x : Tree) → Whole x → (n least : ℕ) (ts : List Token) → Fits x → least ≤ level x → size x < n → grip ts ≤ least → r.expr n least (spelled x ts) ≡ Ok (x, ts)
inner x w zero least ts f le sz g = absurd (omega arith)
inner x w (suc n) least ts f le sz g = w n least ts f le (omega arith) g

-- a tree that `primary` reads
post_base : (x : Tree) → turns x ≡ 0 → ((n : ℕ) (ts : List Token) → Fits x → size x ≤ n → opens ts ≡ false → r.primary (r.expr n) n (spelled x ts) ≡ Ok (x, ts)) → AsPost x
post_base x flat p n j i ts f lev sz e op =
    ap (λ v. and_then v (repeat (r.suffix (r.expr n) n) j)) (p n ts f sz op) ∙ ap (λ m. repeat (r.suffix (r.expr n) n) m x ts) (let q : j ≡ i = omega (arith, e, flat) in q)

posts : (x : Tree) → 12 ≤ level x → spine x ≡ 0 → AsPost x → Complete x
posts x lev flat p =
    let t : AsTerm x = term_from_post x lev flat p in
    record { as_post = p; as_term = t; whole = whole_from_term x (omega arith) t }

terms : (x : Tree) → (Fits x → (level x < 12) × (1 ≤ level x)) → AsTerm x → Complete x
terms x low t = record {
  as_post = λ n j i ts f five. absurd (omega (arith, (low f).0));
  as_term = t;
  whole = λ n least ts f le sz g. whole_from_term x (low f).1 t n least ts f le sz g;
}

wholes : (x : Tree) → level x ≡ 0 → Whole x → Complete x
wholes x lev w = record { as_post = λ n j i ts f five. absurd (omega (arith, lev)); as_term = λ n least j i ts f one. absurd (omega (arith, lev)); whole = w }

complete_literal : (t : Token) → Complete (literal t)
complete_literal t = posts (literal t) (omega arith) refl (post_base (literal t) refl (λ n ts f sz op. s.literal_done (r.expr n) n t ts f))

complete_name : (x : Token) → Complete (name x)
complete_name x = posts (name x) (omega arith) refl (post_base (name x) refl (λ n ts f sz op. s.name_done (r.expr n) n x ts f op))

complete_scoped_name : (c scope x : Token) → Complete (scoped_name c scope x)
complete_scoped_name c scope x = posts (scoped_name c scope x) (omega arith) refl (post_base (scoped_name c scope x) refl (λ n ts f sz op. s.scoped_name_done (r.expr n) n c scope x ts f.0 f.1 f.2 op))

low_at : (kind : TokenKind) (t : Token) (ts : List Token) → t.kind ≡ kind → grip_of kind ≤ 0 → grip (t ∷ ts) ≤ 0
low_at kind t ts is h = omega (arith, grip_is kind t ts is)

inside_read : (n : ℕ) (x : Tree) (right : Token) (ts : List Token) → Complete x → Fits x → Is k.RightParen right → size x < n → r.inside (r.expr n) n (spelled x (right ∷ ts)) ≡ Ok ((x, right), ts)
inside_read n x right ts c f is sz = s.inside_done (r.expr n) n x right (spelled x (right ∷ ts)) ts is (inner x c.whole n 0 (right ∷ ts) f (omega arith) sz (low_at k.RightParen right ts is (omega arith)))

complete_group : (left : Token) (x : Tree) (right : Token) → Complete x → Complete (group left x right)
complete_group left x right c = posts (group left x right) (omega arith) refl (post_base (group left x right) refl (λ n ts f sz op.
    s.group_done (r.expr n) n left right x (spelled x (right ∷ ts)) ts f.0 (inside_read n x right ts c f.1 f.2 (omega arith))))

complete_convert : (p left : Token) (x : Tree) (right : Token) → Complete x → Complete (convert p left x right)
complete_convert p left x right c = posts (convert p left x right) (omega arith) refl (post_base (convert p left x right) refl (λ n ts f sz op.
    s.convert_done (r.expr n) n p left right x (spelled x (right ∷ ts)) ts f.0 f.1 (inside_read n x right ts c f.2 f.3 (omega arith))))

ends_at_greater : (greater : Token) (ts : List Token) → Is k.Greater greater → EndsType (greater ∷ ts)
ends_at_greater greater ts is = record { no_handle = ap is_at is; no_const = ap is_const is }

complete_cast : (word less : Token) (y : TypeName) (greater left : Token) (x : Tree) (right : Token) → Complete x → Complete (cast word less y greater left x right)
complete_cast word less y greater left x right c = posts (cast word less y greater left x right) (omega arith) refl (post_base (cast word less y greater left x right) refl (λ n ts f sz op.
    let rest = left ∷ spelled x (right ∷ ts) in
    s.cast_done (r.expr n) n word less greater left right y x (spelled_type y (greater ∷ rest)) (spelled x (right ∷ ts)) ts f.0 f.1 f.3 f.4
    (type_read y (greater ∷ rest) f.2 (ends_at_greater greater rest f.3)) (inside_read n x right ts c f.5 f.6 (omega arith))))

-- ---- lists of expressions, and arguments

abbrev pub joined : Trees → Trees → Trees
joined before none = before
joined before (more comma x es) = joined (added before comma x) es

joined-more : (comma : Option Token) (x : Tree) (before es : Trees) → joined (more comma x before) es ≡ more comma x (joined before es)
joined-more comma x before none = refl
joined-more comma x before (more c y es) = joined-more comma x (added before c y) es

joined-none : (es : Trees) → joined none es ≡ es
joined-none none = refl
joined-none (more comma x es) = joined-more comma x none es ∙ ap (λ u. more comma x u) (joined-none es)

listed_low : (es : Trees) (ts : List Token) → OthersFit es → grip ts ≤ 0 → grip (listed es ts) ≤ 0
listed_low none ts f g = g
listed_low (more None x es) ts f g = absurd f.0
listed_low (more (Some comma) x es) ts f g = low_at k.Comma comma (spelled x (listed es ts)) f.0 (omega arith)

abbrev pub AllRead : Trees → Type 0
AllRead es = (n j : ℕ) (before : Trees) (ts : List Token) → OthersFit es → size_all es < n → size_all es < j → EndsList ts
    → repeat (r.other_expression (r.expr n) n) j before (listed es ts) ≡ Ok (joined before es, ts)

all_read_none : AllRead none
all_read_none n j before ts f sz le g = repeat_stops (r.other_expression (r.expr n) n) before j ts (omega arith) (s.others_stop (r.expr n) n before ts g.no_comma)

all_read_more : (comma : Option Token) (x : Tree) (es : Trees) → Complete x → AllRead es → AllRead (more comma x es)
all_read_more None x es c a n j before ts f sz le g = absurd f.0
all_read_more (Some comma) x es c a n zero before ts f sz le g = absurd (omega arith)
all_read_more (Some comma) x es c a n (suc j) before ts f sz le g =
    repeat_goes_on (r.other_expression (r.expr n) n) before (added before (Some comma) x) j (comma ∷ spelled x (listed es ts)) (listed es ts)
    (s.others_go_on (r.expr n) n before comma x (spelled x (listed es ts)) (listed es ts) f.0 (inner x c.whole n 0 (listed es ts) f.1 (omega arith) (omega arith) (listed_low es ts f.2 g.low)))
    ∙ a n j (added before (Some comma) x) ts f.2 (omega arith) (omega arith) g

-- one expression or more
abbrev pub Listed : Trees → Type 0
Listed none = Unit {0}
Listed (more comma x es) = (n : ℕ) (ts : List Token) → AllFit (more comma x es) → size_all (more comma x es) < n → EndsList ts → r.expressions (r.expr n) n (listed (more comma x es) ts) ≡ Ok (more comma x es, ts)

listed_more : (comma : Option Token) (x : Tree) (es : Trees) → Complete x → AllRead es → Listed (more comma x es)
unfolding r.expressions
listed_more (Some comma) x es c a n ts f sz g = let e : Some comma ≡ None = f.0 in absurd cc
listed_more None x es c a n ts f sz g =
    ap (λ v. and_then v (λ y. repeat (r.other_expression (r.expr n) n) n (more None y none))) (inner x c.whole n 0 (listed es ts) f.1 (omega arith) (omega arith) (listed_low es ts f.2 g.low))
    ∙ a n n (more None x none) ts f.2 (omega arith) (omega arith) g
    ∙ ap (λ u. Ok (u, ts)) (joined-more None x none es ∙ ap (λ u. more None x u) (joined-none es))

pub ends_at_right : (right : Token) (ts : List Token) → Is k.RightParen right → EndsList (right ∷ ts)
ends_at_right right ts is = record { low = low_at k.RightParen right ts is (omega arith); no_comma = ap is_comma is }

no_right : (e : ℕ → Parser Tree) (n : ℕ) (left : Token) (kind : TokenKind) → starter_kind kind ≡ true → r.args_by e n left kind ≡ None
no_right e n left k.RightParen h = absurd cc
no_right e n left _ h = refl

starts_list : (comma : Option Token) (x : Tree) (es : Trees) (ts : List Token) → AllFit (more comma x es) → First starter_kind (listed (more comma x es) ts)
starts_list None x es ts f = starts x (listed es ts) f.1
starts_list (Some comma) x es ts f = let e : Some comma ≡ None = f.0 in absurd cc

some_args_read : (n : ℕ) (left : Token) (comma : Option Token) (x : Tree) (es : Trees) (right : Token) (ts : List Token) → Listed (more comma x es) → AllFit (more comma x es) → size_all (more comma x es) < n → Is k.RightParen right
    → r.args (r.expr n) n left (listed (more comma x es) (right ∷ ts)) ≡ Ok (arguments left (more comma x es) right, ts)
unfolding r.args
some_args_read n left comma x es right ts w f sz is =
    passed starter_kind (r.args_by (r.expr n) n left) (r.some_args (r.expr n) n left) (listed (more comma x es) (right ∷ ts)) (starts_list comma x es (right ∷ ts) f) (no_right (r.expr n) n left)
    ∙ s.args_some (r.expr n) n left right (more comma x es) (listed (more comma x es) (right ∷ ts)) ts is (w n (right ∷ ts) f sz (ends_at_right right ts is))

-- after the left parenthesis
abbrev pub ArgsRead : Args → Type 0
ArgsRead (arguments left es right) = (n : ℕ) (ts : List Token) → FitsArgs (arguments left es right) → size_all es < n → r.args (r.expr n) n left (listed es (right ∷ ts)) ≡ Ok (arguments left es right, ts)

args_complete : (left : Token) (es : Trees) (right : Token) → Listed es → ArgsRead (arguments left es right)
args_complete left none right w n ts f sz = s.args_none (r.expr n) n left right ts f.2
args_complete left (more comma x es) right w n ts f sz = some_args_read n left comma x es right ts w f.1 sz f.2

pub record CompleteAll (es : Trees) : Type 0 where
  pub all : AllRead es
  pub whole : Listed es

-- ---- calls

complete_call : (x : Token) (es : Args) → ArgsRead es → Complete (call x es)
complete_call x (arguments left es right) c = posts (call x (arguments left es right)) (omega arith) refl (post_base (call x (arguments left es right)) refl (λ n ts f sz op.
    s.call_done (r.expr n) n x left (arguments left es right) (listed es (right ∷ ts)) ts f.0 f.1.0 (c n ts f.1 (omega arith))))

complete_scoped : (c scope x : Token) (es : Args) → ArgsRead es → Complete (scoped_call c scope x es)
complete_scoped c scope x (arguments left es right) a = posts (scoped_call c scope x (arguments left es right)) (omega arith) refl (post_base (scoped_call c scope x (arguments left es right)) refl (λ n ts f sz op.
    s.scoped_done (r.expr n) n c scope x left (arguments left es right) (listed es (right ∷ ts)) ts f.0 f.1 f.2 f.3.0 (a n ts f.3 (omega arith))))

-- ---- suffixes

step_opens : (kind : TokenKind) → step_kind kind ≡ true → opens_by kind ≡ false
step_opens k.Increment h = refl
step_opens k.Decrement h = refl
step_opens _ h = absurd cc

complete_postfix : (x : Tree) (op : Token) → Complete x → Complete (postfix x op)
complete_postfix x op c = posts (postfix x op) (omega arith) refl (λ n j i ts f lev sz e o.
    c.as_post n j (suc i) (op ∷ ts) f.0 f.1 (omega arith) (omega arith) (step_opens op.kind f.2)
    ∙ repeat_goes_on (r.suffix (r.expr n) n) x (postfix x op) i (op ∷ ts) ts (s.step_done (r.expr n) n x op ts f.2))

complete_member : (x : Tree) (dot m : Token) → Complete x → Complete (member x dot m)
complete_member x dot m c = posts (member x dot m) (omega arith) refl (λ n j i ts f lev sz e o.
    c.as_post n j (suc i) (dot ∷ m ∷ ts) f.0 f.1 (omega arith) (omega arith) (ap opens_by f.2)
    ∙ repeat_goes_on (r.suffix (r.expr n) n) x (member x dot m) i (dot ∷ m ∷ ts) ts
    (s.dot_done (r.expr n) n x (member x dot m) dot (m ∷ ts) ts f.2 (s.member_done (r.expr n) n x dot m ts f.3 o)))

complete_method : (x : Tree) (dot m : Token) (es : Args) → Complete x → ArgsRead es → Complete (method_call x dot m es)
complete_method x dot m (arguments left es right) c a = posts (method_call x dot m (arguments left es right)) (omega arith) refl (λ n j i ts f lev sz e o.
    let rest = listed es (right ∷ ts) in
    c.as_post n j (suc i) (dot ∷ m ∷ left ∷ rest) f.0 f.1 (omega arith) (omega arith) (ap opens_by f.2)
    ∙ repeat_goes_on (r.suffix (r.expr n) n) x (method_call x dot m (arguments left es right)) i (dot ∷ m ∷ left ∷ rest) ts
    (s.dot_done (r.expr n) n x (method_call x dot m (arguments left es right)) dot (m ∷ left ∷ rest) ts f.2
    (s.method_done (r.expr n) n x dot m left (arguments left es right) rest ts f.3 f.4.0 (a n ts f.4 (omega arith)))))

-- ---- operators

complete_prefix : (op : Token) (x : Tree) → Complete x → Complete (prefix op x)
complete_prefix op x c = terms (prefix op x) (λ f. (omega arith, omega arith)) (λ n least j i ts f one le sz e g.
    ap (λ v. and_then v (repeat (r.operation (r.expr n) n least) j)) (s.prefix_done (r.expr n) n op x (spelled x ts) ts f.0 (inner x c.whole n 11 ts f.1 f.2 (omega arith) (gap ts (omega arith))))
    ∙ ap (λ m. repeat (r.operation (r.expr n) n least) m (prefix op x) ts) (let q : j ≡ i = omega (arith, e) in q))

complete_binary : (a : Tree) (op : Token) (b : Tree) → Complete a → Complete b → Complete (binary a op b)
complete_binary a op b c d =
    let top = precedence-top op.kind in
    terms (binary a op b) (λ f. (omega arith, f.1)) (λ n least j i ts f one le sz e g.
    let lev : precedence op.kind ≤ level a = f.3 in
    c.as_term n least j (suc i) (op ∷ spelled b ts) f.0 (omega arith) (omega arith) (omega arith) (omega arith) (omega (arith, grip_operator op.kind f.1))
    ∙ repeat_goes_on (r.operation (r.expr n) n least) a (binary a op b) i (op ∷ spelled b ts) ts
    (s.operation_goes_on (r.expr n) n least a b op (spelled b ts) ts f.1 le (inner b d.whole n (precedence op.kind + 1) ts f.2 (omega (arith, f.4)) (omega arith) (omega arith))))

-- ---- the loosest level

term_done : (n : ℕ) (x : Tree) (ts : List Token) → Complete x → Fits x → 1 ≤ level x → size x ≤ n → grip ts ≤ 1 → r.term (r.expr n) n 0 (spelled x ts) ≡ Ok (x, ts)
unfolding r.term
term_done n x ts c f lev sz g =
    let p = spine-size x in
    c.as_term n 0 n (n - spine x) ts f lev (omega arith) sz (omega arith) (omega arith)
    ∙ repeat_stops (r.operation (r.expr n) n 0) x (n - spine x) ts (omega arith) (s.operation_stops (r.expr n) n 0 x ts (omega arith))

whole_at_zero : (x : Tree) → level x ≡ 0 → ((n : ℕ) (ts : List Token) → Fits x → size x ≤ n → grip ts ≤ 0 → r.expr (suc n) 0 (spelled x ts) ≡ Ok (x, ts)) → Whole x
whole_at_zero x lev h n zero ts f le sz g = h n ts f sz g
whole_at_zero x lev h n (suc l) ts f le sz g = absurd (omega (arith, lev))

low_question : (question : Token) (ts : List Token) → Is k.Question question → grip (question ∷ ts) ≤ 1
low_question question ts is = omega (arith, grip_is k.Question question ts is)

complete_conditional : (c : Tree) (question : Token) (a : Tree) (colon : Token) (b : Tree) → Complete c → Complete a → Complete b → Complete (conditional c question a colon b)
unfolding r.expr r.level
complete_conditional c question a colon b p q t = wholes (conditional c question a colon b) refl (whole_at_zero (conditional c question a colon b) refl (λ n ts f sz g.
    let rest = spelled a (colon ∷ spelled b ts) in
    ap (λ v. and_then v (r.tail_at (r.expr n) n 0)) (term_done n c (question ∷ rest) p f.0 f.1 (omega arith) (low_question question rest f.2))
    ∙ s.conditional_done (r.expr n) n c a b question colon rest (spelled b ts) ts f.2 f.4
    (inner a q.whole n 0 (colon ∷ spelled b ts) f.3 (omega arith) (omega arith) (low_at k.Colon colon (spelled b ts) f.4 (omega arith)))
    (inner b t.whole n 0 ts f.5 (omega arith) (omega arith) g)))

complete_assignment : (a : Tree) (op : Token) (b : Tree) → Complete a → Complete b → Complete (assignment a op b)
unfolding r.expr r.level
complete_assignment a op b p q = wholes (assignment a op b) refl (whole_at_zero (assignment a op b) refl (λ n ts f sz g.
    ap (λ v. and_then v (r.tail_at (r.expr n) n 0)) (term_done n a (op ∷ spelled b ts) p f.0 f.1 (omega arith) (low_assignment op (spelled b ts) f.2))
    ∙ s.assignment_done (r.expr n) n a b op (spelled b ts) ts f.2 (inner b q.whole n 0 ts f.3 (omega arith) (omega arith) g)))

mutual
  pub complete : (x : Tree) → Complete x
  complete (literal t) = complete_literal t
  complete (name x) = complete_name x
  complete (call x es) = complete_call x es (complete_args es)
  complete (scoped_call c scope x es) = complete_scoped c scope x es (complete_args es)
  complete (scoped_name c scope x) = complete_scoped_name c scope x
  complete (cast word less y greater left x right) = complete_cast word less y greater left x right (complete x)
  complete (convert p left x right) = complete_convert p left x right (complete x)
  complete (group left x right) = complete_group left x right (complete x)
  complete (postfix x op) = complete_postfix x op (complete x)
  complete (member x dot m) = complete_member x dot m (complete x)
  complete (method_call x dot m es) = complete_method x dot m es (complete x) (complete_args es)
  complete (prefix op x) = complete_prefix op x (complete x)
  complete (binary a op b) = complete_binary a op b (complete a) (complete b)
  complete (conditional c question a colon b) = complete_conditional c question a colon b (complete c) (complete a) (complete b)
  complete (assignment a op b) = complete_assignment a op b (complete a) (complete b)

  pub complete_args : (es : Args) → ArgsRead es
  complete_args (arguments left es right) = args_complete left es right (complete_all es).whole

  pub complete_all : (es : Trees) → CompleteAll es
  complete_all none = record { all = all_read_none; whole = tt }
  complete_all (more comma x es) = record { all = all_read_more comma x es (complete x) (complete_all es).all; whole = listed_more comma x es (complete x) (complete_all es).all }

-- an expression, in front of what continues none
pub expr_complete : (x : Tree) (l : ℕ) (ts : List Token) → Fits x → size x < l → grip ts ≤ 0 → r.expr l 0 (spelled x ts) ≡ Ok (x, ts)
expr_complete x l ts f sz g = inner x (complete x).whole l 0 ts f (omega arith) sz g

-- one expression or more, with commas between them
pub expressions_complete : (comma : Option Token) (x : Tree) (es : Trees) (n : ℕ) (ts : List Token) → AllFit (more comma x es) → size_all (more comma x es) < n → EndsList ts
    → r.expressions (r.expr n) n (listed (more comma x es) ts) ≡ Ok (more comma x es, ts)
expressions_complete comma x es = (complete_all (more comma x es)).whole

-- arguments, after their left parenthesis
pub args_read : (left : Token) (es : Trees) (right : Token) (n : ℕ) (ts : List Token) → FitsArgs (arguments left es right) → size_all es < n → r.args (r.expr n) n left (listed es (right ∷ ts)) ≡ Ok (arguments left es right, ts)
args_read left es right = complete_args (arguments left es right)
