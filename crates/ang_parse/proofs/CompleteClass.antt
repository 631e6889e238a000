-- What is spelled as a class or an interface is read.
use Rattle.std.proofs.Common.{◌≡◌, ℕ, zero, suc, ◌<◌, ◌≤◌, true, false, List, [], ◌∷◌, ◌++◌, length, Option, Some, None, Ok, refl, ap, sym, ◌∙◌, append_assoc, append-nil, arith}
use Rattle.ang_lex.specs.declared.token.Token.{Token}
use Rattle.ang_lex.specs.declared.token.TokenKind.{TokenKind}
use Rattle.ang_lex.specs.declared.token.TokenKind.TheVariants as k
use Rattle.ang_tree.specs.declared.declaration.BaseName.{BaseName}
use Rattle.ang_tree.specs.Kinds.{Is}
use Rattle.ang_tree.specs.Stmt.{each, Every}
use Rattle.ang_tree.specs.Declarations as tree
use Rattle.ang_parse_read.specs.Read.{and_then, pure, repeat}
use Rattle.ang_parse_read.specs.Tokens.{is_right_brace}
use Rattle.ang_parse_read.proofs.Tokens.{begins, look_is, look_at, a_token_is}
use Rattle.ang_parse_read.proofs.Loops.{repeat_stops, repeat_goes_on}
use Rattle.ang_parse_expr.proofs.Stops.{is_comma}
use Rattle.ang_parse_stmt.proofs.Ahead.{ahead_is, ahead_not}
use Rattle.ang_parse.specs.ReadClass as r
use Rattle.ang_parse.proofs.Lengths.{member-length, method-length, bases-length}
use Rattle.ang_parse.proofs.CompleteMembers.{name_read, left_brace_read, right_brace_read, member_no_brace, method_no_brace, member_read, method_read}

-- ---- bases

-- a base after a comma
abbrev Follows : BaseName → Type 0
Follows c = Is k.Comma c.separator × Is k.Name c.name

other_base_stops_by : (bs : List BaseName) (kind : TokenKind) → is_comma kind ≡ false → r.other_base_by bs kind ≡ None
other_base_stops_by bs k.Comma h = absurd cc
other_base_stops_by bs _ h = refl

other_base_stops : (bs : List BaseName) (t : Token) (ts : List Token) → is_comma t.kind ≡ false → r.other_base bs (t ∷ ts) ≡ Ok ((bs, false), t ∷ ts)
unfolding r.other_base
other_base_stops bs t ts h = look_at (r.other_base_by bs) (pure (bs, false)) None t ts (other_base_stops_by bs t.kind h)

other_base_done : (bs : List BaseName) (comma x : Token) (ts : List Token) → Is k.Comma comma → Is k.Name x → r.other_base bs (comma ∷ x ∷ ts) ≡ Ok ((bs ++ r.base_of comma x ∷ [], true), ts)
unfolding r.other_base r.another_base
other_base_done bs comma x ts is X =
    look_is (r.other_base_by bs) (pure (bs, false)) k.Comma comma (x ∷ ts) is
    ∙ ap (λ w. and_then w (λ x. pure (bs ++ r.base_of comma x ∷ [], true))) (name_read x ts X)

other_bases_read : (cs : List BaseName) (j : ℕ) (bs : List BaseName) (left : Token) (ts : List Token) → Every Follows cs → Is k.LeftBrace left → length (each tree.spelled_base cs (left ∷ ts)) < j
    → repeat r.other_base j bs (each tree.spelled_base cs (left ∷ ts)) ≡ Ok (bs ++ cs, left ∷ ts)
other_bases_read [] j bs left ts f is lt =
    repeat_stops r.other_base bs j (left ∷ ts) (omega arith) (other_base_stops bs left ts (ap is_comma is)) ∙ ap (λ v. Ok (v, left ∷ ts)) (sym (append-nil bs))
other_bases_read (c ∷ cs) zero bs left ts f is lt = absurd (omega arith)
other_bases_read (c ∷ cs) (suc j) bs left ts f is lt =
    let rest = each tree.spelled_base cs (left ∷ ts) in
    repeat_goes_on r.other_base bs (bs ++ c ∷ []) j (c.separator ∷ c.name ∷ rest) rest (other_base_done bs c.separator c.name rest f.0.0 f.0.1)
    ∙ other_bases_read cs j (bs ++ c ∷ []) left ts f.1 is (omega arith)
    ∙ ap (λ w. Ok (w, left ∷ ts)) (append_assoc bs (c ∷ []) cs)

module _ (l : ℕ) where
  some_bases_done : (colon x : Token) (bs : List BaseName) (ts us : List Token) → Is k.Name x → repeat r.other_base l (r.base_of colon x ∷ []) ts ≡ Ok (bs, us) → r.some_bases l colon (x ∷ ts) ≡ Ok (bs, us)
  unfolding r.some_bases
  some_bases_done colon x bs ts us X h = ap (λ w. and_then w (λ x. repeat r.other_base l (r.base_of colon x ∷ []))) (name_read x ts X) ∙ h

  bases_read : (bs : List BaseName) (left : Token) (ts : List Token) → tree.FitsBases bs → Is k.LeftBrace left → length (each tree.spelled_base bs (left ∷ ts)) < l
      → r.bases l (each tree.spelled_base bs (left ∷ ts)) ≡ Ok (bs, left ∷ ts)
  unfolding r.bases
  bases_read [] left ts f is le = look_is (r.bases_by l) (pure []) k.LeftBrace left ts is
  bases_read (b ∷ bs) left ts f is le =
      let rest = each tree.spelled_base bs (left ∷ ts) in
      look_is (r.bases_by l) (pure []) k.Colon b.separator (b.name ∷ rest) f.0
      ∙ some_bases_done b.separator b.name (b ∷ bs) rest (left ∷ ts) f.1 (other_bases_read bs l (b ∷ []) left ts f.2 is (omega arith))

  heading_done : (x : Token) (bs : List BaseName) (left : Token) (ts us : List Token) → Is k.Name x → Is k.LeftBrace left → r.bases l ts ≡ Ok (bs, left ∷ us) → r.heading l (x ∷ ts) ≡ Ok (r.heading_of x bs left, us)
  unfolding r.heading
  heading_done x bs left ts us X L h = rw (name_read x ts X, h, left_brace_read left us L) refl

  heading_read : (x : Token) (bs : List BaseName) (left : Token) (ts : List Token) → Is k.Name x → tree.FitsBases bs → Is k.LeftBrace left → length (x ∷ each tree.spelled_base bs (left ∷ ts)) < l
      → r.heading l (x ∷ each tree.spelled_base bs (left ∷ ts)) ≡ Ok (r.heading_of x bs left, ts)
  heading_read x bs left ts X B L le = heading_done x bs left (each tree.spelled_base bs (left ∷ ts)) ts X L (bases_read bs left ts B L (omega arith))

  -- ---- interfaces

  other_method_stops : (ms : List tree.MethodTree) (right : Token) (ts : List Token) → Is k.RightBrace right → r.other_method l ms (right ∷ ts) ≡ Ok ((ms, false), right ∷ ts)
  unfolding r.other_method
  other_method_stops ms right ts is = ahead_is is_right_brace (pure (ms, false)) (r.next_method l ms) right ts (ap is_right_brace is)

  next_method_done : (ms : List tree.MethodTree) (m : tree.MethodTree) (ts rest : List Token) → begins is_right_brace ts ≡ false → r.method l ts ≡ Ok (m, rest) → r.other_method l ms ts ≡ Ok ((ms ++ m ∷ [], true), rest)
  unfolding r.other_method r.next_method
  next_method_done ms m ts rest b h = ahead_not is_right_brace (pure (ms, false)) (r.next_method l ms) ts b ∙ ap (λ v. and_then v (λ m. pure (ms ++ m ∷ [], true))) h

  methods_read : (qs : List tree.MethodTree) (j : ℕ) (ms : List tree.MethodTree) (right : Token) (ts : List Token) → Every tree.FitsMethod qs → Is k.RightBrace right
      → length (each tree.spelled_method qs (right ∷ ts)) < l → length (each tree.spelled_method qs (right ∷ ts)) < j
      → repeat (r.other_method l) j ms (each tree.spelled_method qs (right ∷ ts)) ≡ Ok (ms ++ qs, right ∷ ts)
  methods_read [] j ms right ts f is le lt = repeat_stops (r.other_method l) ms j (right ∷ ts) (omega arith) (other_method_stops ms right ts is) ∙ ap (λ v. Ok (v, right ∷ ts)) (sym (append-nil ms))
  methods_read (q ∷ qs) zero ms right ts f is le lt = absurd (omega arith)
  methods_read (q ∷ qs) (suc j) ms right ts f is le lt =
      let rest = each tree.spelled_method qs (right ∷ ts) in
      let m : length rest < length (tree.spelled_method q rest) = method-length q rest in
      repeat_goes_on (r.other_method l) ms (ms ++ q ∷ []) j (tree.spelled_method q rest) rest (next_method_done ms q (tree.spelled_method q rest) rest (method_no_brace q rest f.0) (method_read l l q rest f.0 le))
      ∙ methods_read qs j (ms ++ q ∷ []) right ts f.1 is (omega arith) (omega arith)
      ∙ ap (λ w. Ok (w, right ∷ ts)) (append_assoc ms (q ∷ []) qs)

  interface_done : (word : Token) (h : r.Heading) (ms : List tree.MethodTree) (right : Token) (ts u us : List Token) → Is k.RightBrace right → r.heading l ts ≡ Ok (h, u) → r.methods l u ≡ Ok (ms, right ∷ us)
      → r.interface l word ts ≡ Ok (r.interface_made word h ms right, us)
  unfolding r.interface
  interface_done word h ms right ts u us is hh hm = rw (hh, hm, right_brace_read right us is) refl

pub interface_complete : (word x : Token) (bs : List BaseName) (left : Token) (ms : List tree.MethodTree) (right : Token) (l : ℕ) (ts : List Token) → tree.FitsDecl (tree.interface word x bs left ms right)
    → length (x ∷ each tree.spelled_base bs (left ∷ each tree.spelled_method ms (right ∷ ts))) < l
    → r.interface l word (x ∷ each tree.spelled_base bs (left ∷ each tree.spelled_method ms (right ∷ ts))) ≡ Ok (tree.interface word x bs left ms right, ts)
interface_complete word x bs left ms right l ts f le =
    let u = each tree.spelled_method ms (right ∷ ts) in
    let m : length (left ∷ u) ≤ length (each tree.spelled_base bs (left ∷ u)) = bases-length bs (left ∷ u) in
    interface_done l word (r.heading_of x bs left) ms right (x ∷ each tree.spelled_base bs (left ∷ u)) u ts f.5 (heading_read l x bs left u f.1 f.2 f.3 le) (methods_read l ms l [] right ts f.4 f.5 (omega arith) (omega arith))

-- ---- classes

module _ (n l : ℕ) where
  other_member_stops : (ms : List tree.MemberTree) (right : Token) (ts : List Token) → Is k.RightBrace right → r.other_member n l ms (right ∷ ts) ≡ Ok ((ms, false), right ∷ ts)
  unfolding r.other_member
  other_member_stops ms right ts is = ahead_is is_right_brace (pure (ms, false)) (r.next_member n l ms) right ts (ap is_right_brace is)

  next_member_done : (ms : List tree.MemberTree) (m : tree.MemberTree) (ts rest : List Token) → begins is_right_brace ts ≡ false → r.member n l ts ≡ Ok (m, rest) → r.other_member n l ms ts ≡ Ok ((ms ++ m ∷ [], true), rest)
  unfolding r.other_member r.next_member
  next_member_done ms m ts rest b h = ahead_not is_right_brace (pure (ms, false)) (r.next_member n l ms) ts b ∙ ap (λ v. and_then v (λ m. pure (ms ++ m ∷ [], true))) h

  members_read : (qs : List tree.MemberTree) (j : ℕ) (ms : List tree.MemberTree) (right : Token) (ts : List Token) → Every tree.FitsMember qs → Is k.RightBrace right
      → length (each tree.spelled_member qs (right ∷ ts)) < n → length (each tree.spelled_member qs (right ∷ ts)) < l → length (each tree.spelled_member qs (right ∷ ts)) < j
      → repeat (r.other_member n l) j ms (each tree.spelled_member qs (right ∷ ts)) ≡ Ok (ms ++ qs, right ∷ ts)
  members_read [] j ms right ts f is low le lt = repeat_stops (r.other_member n l) ms j (right ∷ ts) (omega arith) (other_member_stops ms right ts is) ∙ ap (λ v. Ok (v, right ∷ ts)) (sym (append-nil ms))
  members_read (q ∷ qs) zero ms right ts f is low le lt = absurd (omega arith)
  members_read (q ∷ qs) (suc j) ms right ts f is low le lt =
      let rest = each tree.spelled_member qs (right ∷ ts) in
      let m : length rest < length (tree.spelled_member q rest) = member-length q rest in
      repeat_goes_on (r.other_member n l) ms (ms ++ q ∷ []) j (tree.spelled_member q rest) rest (next_member_done ms q (tree.spelled_member q rest) rest (member_no_brace q rest f.0) (member_read n l q rest f.0 low le))
      ∙ members_read qs j (ms ++ q ∷ []) right ts f.1 is (omega arith) (omega arith) (omega arith)
      ∙ ap (λ w. Ok (w, right ∷ ts)) (append_assoc ms (q ∷ []) qs)

  class_done : (final : Option Token) (word : Token) (h : r.Heading) (ms : List tree.MemberTree) (right : Token) (ts u us : List Token) → Is k.RightBrace right → r.heading l ts ≡ Ok (h, u) → r.members n l u ≡ Ok (ms, right ∷ us)
      → r.class n l final word ts ≡ Ok (r.class_made final word h ms right, us)
  unfolding r.class
  class_done final word h ms right ts u us is hh hm = rw (hh, hm, right_brace_read right us is) refl

  final_class_done : (final word : Token) (ts : List Token) → Is k.Class word → r.final_class n l final (word ∷ ts) ≡ r.class n l (Some final) word ts
  unfolding r.final_class
  final_class_done final word ts is = ap (λ v. and_then v (r.class n l (Some final))) (a_token_is r.is_class word ts (ap r.is_class is))

pub class_complete : (final : Option Token) (word x : Token) (bs : List BaseName) (left : Token) (ms : List tree.MemberTree) (right : Token) (n l : ℕ) (ts : List Token) → tree.FitsDecl (tree.class final word x bs left ms right)
    → length (x ∷ each tree.spelled_base bs (left ∷ each tree.spelled_member ms (right ∷ ts))) < n → length (x ∷ each tree.spelled_base bs (left ∷ each tree.spelled_member ms (right ∷ ts))) < l
    → r.class n l final word (x ∷ each tree.spelled_base bs (left ∷ each tree.spelled_member ms (right ∷ ts))) ≡ Ok (tree.class final word x bs left ms right, ts)
class_complete final word x bs left ms right n l ts f lt le =
    let u = each tree.spelled_member ms (right ∷ ts) in
    let m : length (left ∷ u) ≤ length (each tree.spelled_base bs (left ∷ u)) = bases-length bs (left ∷ u) in
    class_done n l final word (r.heading_of x bs left) ms right (x ∷ each tree.spelled_base bs (left ∷ u)) u ts f.6 (heading_read l x bs left u f.2 f.3 f.4 le) (members_read n l ms l [] right ts f.5 f.6 (omega arith) (omega arith) (omega arith))

pub final_class_complete : (final word x : Token) (bs : List BaseName) (left : Token) (ms : List tree.MemberTree) (right : Token) (n l : ℕ) (ts : List Token) → tree.FitsDecl (tree.class (Some final) word x bs left ms right)
    → length (x ∷ each tree.spelled_base bs (left ∷ each tree.spelled_member ms (right ∷ ts))) < n → length (x ∷ each tree.spelled_base bs (left ∷ each tree.spelled_member ms (right ∷ ts))) < l
    → r.final_class n l final (word ∷ x ∷ each tree.spelled_base bs (left ∷ each tree.spelled_member ms (right ∷ ts))) ≡ Ok (tree.class (Some final) word x bs left ms right, ts)
final_class_complete final word x bs left ms right n l ts f lt le =
    final_class_done n l final word (x ∷ each tree.spelled_base bs (left ∷ each tree.spelled_member ms (right ∷ ts))) f.1 ∙ class_complete (Some final) word x bs left ms right n l ts f lt le
