-- What is read as a class or an interface is spelled so.
use Rattle.std.proofs.Common.{◌≡◌, ℕ, ◌≤◌, Bool, true, false, List, [], ◌∷◌, ◌++◌, length, Option, Some, refl, ap, sym, ◌∙◌, arith}
use Rattle.ang_lex.specs.declared.token.Token.{Token}
use Rattle.ang_lex.specs.declared.token.TokenKind.{TokenKind}
use Rattle.ang_lex.specs.declared.token.TokenKind.TheVariants as k
use Rattle.ang_tree.specs.declared.declaration.BaseName.{BaseName}
use Rattle.ang_tree.specs.Kinds.{Is, IfWritten, optional}
use Rattle.ang_tree.specs.Stmt.{each, Every, Filled}
use Rattle.ang_tree.specs.Declarations as tree
use Rattle.ang_parse_read.specs.Read.{pure, repeat}
use Rattle.ang_parse_read.specs.Tokens.{a_token, is_name, is_left_brace, is_right_brace}
use Rattle.ang_parse_read.proofs.Outcomes.{Reads, and_reads, further, ChoiceReads, look_reads, Turns, repeat_reads_to, From-self, From-one, From-length}
use Rattle.ang_parse_read.proofs.Tokens.{Always, Token_read, a_token_reads, name_is, left_brace_is, right_brace_is}
use Rattle.ang_parse_stmt.proofs.Ahead.{ahead_reads}
use Rattle.ang_parse_stmt.proofs.SoundVars.{each-one_more, Every-one_more, Filled-one_more}
use Rattle.ang_parse.specs.ReadClass as r
use Rattle.ang_parse.proofs.Lengths.{member-length, method-length}
use Rattle.ang_parse.proofs.SoundMembers.{IsMember, IsMethod, member_reads, method_reads}

pub record IsDecl (w : List Token) (d : tree.Decl) (s : List Token) : Type 0 where
  pub text : w ≡ tree.spelled_decl d s
  pub fits : tree.FitsDecl d

-- bases, of which there is one
record AreBases (w : List Token) (bs : List BaseName) (s : List Token) : Type 0 where
  text : w ≡ each tree.spelled_base bs s
  filled : Filled bs
  fits : tree.FitsBases bs

record IsBases (w : List Token) (bs : List BaseName) (s : List Token) : Type 0 where
  text : w ≡ each tree.spelled_base bs s
  fits : tree.FitsBases bs

record IsHeading (w : List Token) (h : r.Heading) (s : List Token) : Type 0 where
  text : w ≡ h.name ∷ each tree.spelled_base h.bases (h.left ∷ s)
  name : Is k.Name h.name
  bases : tree.FitsBases h.bases
  left : Is k.LeftBrace h.left

record AreMembers (w : List Token) (ms : List tree.MemberTree) (s : List Token) : Type 0 where
  text : w ≡ each tree.spelled_member ms s
  fits : Every tree.FitsMember ms

record AreMethods (w : List Token) (ms : List tree.MethodTree) (s : List Token) : Type 0 where
  text : w ≡ each tree.spelled_method ms s
  fits : Every tree.FitsMethod ms

-- ---- bases

-- a base after a comma
abbrev Follows : BaseName → Type 0
Follows c = Is k.Comma c.separator × Is k.Name c.name

FitsBases-one_more : (bs : List BaseName) (c : BaseName) → Filled bs → tree.FitsBases bs → Follows c → tree.FitsBases (bs ++ c ∷ [])
FitsBases-one_more [] c filled h f = absurd filled
FitsBases-one_more (b ∷ bs) c filled h f = (h.0, h.1, Every-one_more Follows bs c h.2 f)

one_base_more : (w : List Token) (bs : List BaseName) (comma x : Token) (ts s : List Token) → AreBases w bs (comma ∷ ts) → Is k.Comma comma → Token_read is_name ts x s → AreBases w (bs ++ r.base_of comma x ∷ []) s
one_base_more w bs comma x ts s h is p = record {
  text = h.text ∙ ap (λ u. each tree.spelled_base bs (comma ∷ u)) p.text ∙ sym (each-one_more tree.spelled_base bs (r.base_of comma x) s);
  filled = Filled-one_more bs (r.base_of comma x) h.filled;
  fits = FitsBases-one_more bs (r.base_of comma x) h.filled h.fits (is, name_is x.kind p.kind);
}

abbrev MoreBases : List Token → ℕ → List BaseName × Bool → List Token → Type 0
MoreBases w len = Turns (AreBases w) (AreBases w) len

another_base_reads : (n : ℕ) (w : List Token) (bs : List BaseName) (comma : Token) (ts : List Token) → Is k.Comma comma → AreBases w bs (comma ∷ ts) → Reads n ts (MoreBases w (length (comma ∷ ts))) (r.another_base bs comma ts)
unfolding r.another_base
another_base_reads n w bs comma ts is h =
    and_reads n ts (Token_read is_name ts) (MoreBases w (length (comma ∷ ts))) (a_token is_name ts) (λ x. pure (bs ++ r.base_of comma x ∷ [], true)) (a_token_reads is_name n ts)
    (λ x s p f. ((one_base_more w bs comma x ts s h is p, omega (arith, From-length ts s f)), f))

other_base_by_reads : (n : ℕ) (w : List Token) (bs : List BaseName) → ChoiceReads n (AreBases w bs) (λ ts. MoreBases w (length ts)) (r.other_base_by bs)
other_base_by_reads n w bs k.Comma t u is h = further n (t ∷ u) u (MoreBases w (length (t ∷ u))) _ _ (From-one t u) (λ y s q. q) (another_base_reads n w bs t u is h)
other_base_by_reads n w bs _ t u is h = tt

other_base_reads : (n : ℕ) (w : List Token) (bs : List BaseName) (ts : List Token) → AreBases w bs ts → Reads n ts (MoreBases w (length ts)) (r.other_base bs ts)
unfolding r.other_base
other_base_reads n w bs ts h = look_reads n (AreBases w bs) (λ ts. MoreBases w (length ts)) (r.other_base_by bs) (pure (bs, false)) (other_base_by_reads n w bs) (λ ts q. (q, From-self ts)) ts h

module _ (n l : ℕ) (le : n ≤ l) where
  some_bases_reads : (colon : Token) → Is k.Colon colon → (ts : List Token) → Reads n ts (IsBases (colon ∷ ts)) (r.some_bases l colon ts)
  unfolding r.some_bases
  some_bases_reads colon is ts =
      and_reads n ts (Token_read is_name ts) (IsBases (colon ∷ ts)) (a_token is_name ts) (λ x. repeat r.other_base l (r.base_of colon x ∷ [])) (a_token_reads is_name n ts)
      (λ x s p f. further n ts s (AreBases (colon ∷ ts)) (IsBases (colon ∷ ts)) (repeat r.other_base l (r.base_of colon x ∷ []) s) f (λ y u q. record { text = q.text; fits = q.fits })
      (repeat_reads_to (AreBases (colon ∷ ts)) (AreBases (colon ∷ ts)) n r.other_base (other_base_reads n (colon ∷ ts)) l n (omega arith) le (r.base_of colon x ∷ []) s
      (record { text = ap (λ v. colon ∷ v) p.text; filled = tt; fits = (is, name_is x.kind p.kind, tt) })))

  bases_by_reads : ChoiceReads n Always IsBases (r.bases_by l)
  bases_by_reads k.Colon t u is z = further n (t ∷ u) u (IsBases (t ∷ u)) _ _ (From-one t u) (λ y s q. q) (some_bases_reads t is u)
  bases_by_reads _ t u is z = tt

  bases_reads : (ts : List Token) → Reads n ts (IsBases ts) (r.bases l ts)
  unfolding r.bases
  bases_reads ts = look_reads n Always IsBases (r.bases_by l) (pure []) bases_by_reads (λ ts z. (record { text = refl; fits = tt }, From-self ts)) ts tt

  heading_reads : (ts : List Token) → Reads n ts (IsHeading ts) (r.heading l ts)
  unfolding r.heading
  heading_reads ts =
      and_reads n ts (Token_read is_name ts) (IsHeading ts) (a_token is_name ts) _ (a_token_reads is_name n ts)
      (λ x s1 p f1. further n ts s1 (IsHeading ts) _ _ f1 (λ y u z. z)
      (and_reads n s1 (IsBases s1) (IsHeading ts) (r.bases l s1) _ (bases_reads s1)
      (λ bs s2 q f2. further n s1 s2 (IsHeading ts) _ _ f2 (λ y u z. z)
      (and_reads n s2 (Token_read is_left_brace s2) (IsHeading ts) (a_token is_left_brace s2) (λ left. pure (r.heading_of x bs left)) (a_token_reads is_left_brace n s2)
      (λ left s3 t f3. (
        record {
          text = p.text ∙ ap (λ v. x ∷ v) (q.text ∙ ap (λ v. each tree.spelled_base bs v) t.text);
          name = name_is x.kind p.kind;
          bases = q.fits;
          left = left_brace_is left.kind t.kind;
        },
        f3,
      ))))))

  -- ---- members and methods

  abbrev MoreMembers : List Token → ℕ → List tree.MemberTree × Bool → List Token → Type 0
  MoreMembers w len = Turns (AreMembers w) (AreMembers w) len

  next_member_reads : (w : List Token) (ms : List tree.MemberTree) (ts : List Token) → AreMembers w ms ts → Reads n ts (MoreMembers w (length ts)) (r.next_member n l ms ts)
  unfolding r.next_member
  next_member_reads w ms ts h =
      and_reads n ts (IsMember ts) (MoreMembers w (length ts)) (r.member n l ts) (λ m. pure (ms ++ m ∷ [], true)) (member_reads n l le ts)
      (λ m s q f. ((record { text = h.text ∙ ap (λ v. each tree.spelled_member ms v) q.text ∙ sym (each-one_more tree.spelled_member ms m s); fits = Every-one_more tree.FitsMember ms m h.fits q.fits }, omega (arith, ap length q.text, member-length m s)), f))

  other_member_reads : (w : List Token) (ms : List tree.MemberTree) (ts : List Token) → AreMembers w ms ts → Reads n ts (MoreMembers w (length ts)) (r.other_member n l ms ts)
  unfolding r.other_member
  other_member_reads w ms ts h = ahead_reads n (MoreMembers w (length ts)) is_right_brace (pure (ms, false)) (r.next_member n l ms) ts (λ e. (h, From-self ts)) (λ e. next_member_reads w ms ts h)

  members_reads : (ts : List Token) → Reads n ts (AreMembers ts) (r.members n l ts)
  members_reads ts = repeat_reads_to (AreMembers ts) (AreMembers ts) n (r.other_member n l) (other_member_reads ts) l n (omega arith) le [] ts (record { text = refl; fits = tt })

  abbrev MoreMethods : List Token → ℕ → List tree.MethodTree × Bool → List Token → Type 0
  MoreMethods w len = Turns (AreMethods w) (AreMethods w) len

  next_method_reads : (w : List Token) (ms : List tree.MethodTree) (ts : List Token) → AreMethods w ms ts → Reads n ts (MoreMethods w (length ts)) (r.next_method l ms ts)
  unfolding r.next_method
  next_method_reads w ms ts h =
      and_reads n ts (IsMethod ts) (MoreMethods w (length ts)) (r.method l ts) (λ m. pure (ms ++ m ∷ [], true)) (method_reads n l le ts)
      (λ m s q f. ((record { text = h.text ∙ ap (λ v. each tree.spelled_method ms v) q.text ∙ sym (each-one_more tree.spelled_method ms m s); fits = Every-one_more tree.FitsMethod ms m h.fits q.fits }, omega (arith, ap length q.text, method-length m s)), f))

  other_method_reads : (w : List Token) (ms : List tree.MethodTree) (ts : List Token) → AreMethods w ms ts → Reads n ts (MoreMethods w (length ts)) (r.other_method l ms ts)
  unfolding r.other_method
  other_method_reads w ms ts h = ahead_reads n (MoreMethods w (length ts)) is_right_brace (pure (ms, false)) (r.next_method l ms) ts (λ e. (h, From-self ts)) (λ e. next_method_reads w ms ts h)

  methods_reads : (ts : List Token) → Reads n ts (AreMethods ts) (r.methods l ts)
  methods_reads ts = repeat_reads_to (AreMethods ts) (AreMethods ts) n (r.other_method l) (other_method_reads ts) l n (omega arith) le [] ts (record { text = refl; fits = tt })

  -- ---- classes and interfaces

  pub class_reads : (final : Option Token) (word : Token) → IfWritten k.Final final → Is k.Class word → (ts : List Token) → Reads n ts (IsDecl (optional final (word ∷ ts))) (r.class n l final word ts)
  unfolding r.class
  class_reads final word F W ts =
      and_reads n ts (IsHeading ts) (IsDecl (optional final (word ∷ ts))) (r.heading l ts) _ (heading_reads ts)
      (λ h s1 p f1. further n ts s1 (IsDecl (optional final (word ∷ ts))) _ _ f1 (λ y u z. z)
      (and_reads n s1 (AreMembers s1) (IsDecl (optional final (word ∷ ts))) (r.members n l s1) _ (members_reads s1)
      (λ ms s2 q f2. further n s1 s2 (IsDecl (optional final (word ∷ ts))) _ _ f2 (λ y u z. z)
      (and_reads n s2 (Token_read is_right_brace s2) (IsDecl (optional final (word ∷ ts))) (a_token is_right_brace s2) (λ right. pure (r.class_made final word h ms right)) (a_token_reads is_right_brace n s2)
      (λ right s3 t f3. (
        record {
          text = ap (λ v. optional final (word ∷ v)) (p.text ∙ ap (λ v. h.name ∷ each tree.spelled_base h.bases (h.left ∷ v)) (q.text ∙ ap (λ v. each tree.spelled_member ms v) t.text));
          fits = (F, W, p.name, p.bases, p.left, q.fits, right_brace_is right.kind t.kind);
        },
        f3,
      ))))))

  class_is : (kind : TokenKind) → r.is_class kind ≡ true → kind ≡ k.Class
  class_is k.Class h = refl
  class_is _ h = absurd cc

  decl_retold : (w v : List Token) → w ≡ v → (d : tree.Decl) (s : List Token) → IsDecl v d s → IsDecl w d s
  decl_retold w v e d s q = record { text = e ∙ q.text; fits = q.fits }

  pub final_class_reads : (final : Token) → Is k.Final final → (ts : List Token) → Reads n ts (IsDecl (final ∷ ts)) (r.final_class n l final ts)
  unfolding r.final_class
  final_class_reads final F ts =
      and_reads n ts (Token_read r.is_class ts) (IsDecl (final ∷ ts)) (a_token r.is_class ts) (r.class n l (Some final)) (a_token_reads r.is_class n ts)
      (λ word s p f. further n ts s (IsDecl (final ∷ word ∷ s)) (IsDecl (final ∷ ts)) (r.class n l (Some final) word s) f
      (decl_retold (final ∷ ts) (final ∷ word ∷ s) (ap (λ v. final ∷ v) p.text))
      (class_reads (Some final) word F (class_is word.kind p.kind) s))

  pub interface_reads : (word : Token) → Is k.Interface word → (ts : List Token) → Reads n ts (IsDecl (word ∷ ts)) (r.interface l word ts)
  unfolding r.interface
  interface_reads word W ts =
      and_reads n ts (IsHeading ts) (IsDecl (word ∷ ts)) (r.heading l ts) _ (heading_reads ts)
      (λ h s1 p f1. further n ts s1 (IsDecl (word ∷ ts)) _ _ f1 (λ y u z. z)
      (and_reads n s1 (AreMethods s1) (IsDecl (word ∷ ts)) (r.methods l s1) _ (methods_reads s1)
      (λ ms s2 q f2. further n s1 s2 (IsDecl (word ∷ ts)) _ _ f2 (λ y u z. z)
      (and_reads n s2 (Token_read is_right_brace s2) (IsDecl (word ∷ ts)) (a_token is_right_brace s2) (λ right. pure (r.interface_made word h ms right)) (a_token_reads is_right_brace n s2)
      (λ right s3 t f3. (
        record {
          text = ap (λ v. word ∷ v) (p.text ∙ ap (λ v. h.name ∷ each tree.spelled_base h.bases (h.left ∷ v)) (q.text ∙ ap (λ v. each tree.spelled_method ms v) t.text));
          fits = (W, p.name, p.bases, p.left, q.fits, right_brace_is right.kind t.kind);
        },
        f3,
      ))))))
