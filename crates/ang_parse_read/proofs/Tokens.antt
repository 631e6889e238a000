-- The laws of the readers of single tokens.
use Rattle.std.proofs.Common.{◌≡◌, ℕ, Bool, true, false, List, [], ◌∷◌, Option, Some, None, Ok, refl, ap, ◌∙◌}
use Rattle.ang_lex.specs.declared.token.Token.{Token}
use Rattle.ang_lex.specs.declared.token.TokenKind.{TokenKind}
use Rattle.ang_lex.specs.declared.token.TokenKind.TheVariants as k
use Rattle.ang_parse_read.specs.Read.{Parser, pure, refuse, Choice, given, chosen, look}
use Rattle.ang_parse_read.specs.Tokens.{a_token, perhaps, is_name, is_left_paren, is_right_paren, is_left_brace, is_right_brace, is_semicolon, is_colon, is_less, is_greater, is_while, is_from, is_text, is_const}
use Rattle.ang_parse_read.proofs.Outcomes.{Reads, From-self, From-one, look_reads, given_reads}
use Rattle.ang_parse_read.proofs.DependsOnPrefix.{DependsOnPrefix, prefix_pure, prefix_refuse, prefix_look, both_given}

-- ---- what is read

-- nothing is asked of the tokens
abbrev pub Always : List Token → Type 0
Always ts = Unit {0}

-- what was read is the first token, and of such a kind
pub record Token_read (test : TokenKind → Bool) (w : List Token) (x : Token) (s : List Token) : Type 0 where
  pub text : w ≡ x ∷ s
  pub kind : test x.kind ≡ true

accepted : (test : TokenKind → Bool) (kind : TokenKind) (t : Token) → t.kind ≡ kind → test kind ≡ true → test t.kind ≡ true
accepted test kind t is h = ap test is ∙ h

pub a_token_reads : (test : TokenKind → Bool) (n : ℕ) (ts : List Token) → Reads n ts (Token_read test ts) (a_token test ts)
unfolding a_token
a_token_reads test n ts = look_reads n Always (Token_read test) (λ kind. given (test kind) pure) refuse
    (λ kind t u is z. given_reads n (t ∷ u) t u (Token_read test (t ∷ u)) (test kind) pure (λ h. (record { text = refl; kind = accepted test kind t is h }, From-one t u)))
    (λ ts z. From-self ts) ts tt

-- the first token, if it is of such a kind
pub data Perhaps_read (test : TokenKind → Bool) (w : List Token) : Option Token → List Token → Type 0 where
  written : (x : Token) (s : List Token) → w ≡ x ∷ s → test x.kind ≡ true → Perhaps_read test w (Some x) s
  absent : Perhaps_read test w None w

pub perhaps_reads : (test : TokenKind → Bool) (n : ℕ) (ts : List Token) → Reads n ts (Perhaps_read test ts) (perhaps test ts)
unfolding perhaps
perhaps_reads test n ts = look_reads n Always (Perhaps_read test) (λ kind. given (test kind) (λ t. pure (Some t))) (pure None)
    (λ kind t u is z. given_reads n (t ∷ u) t u (Perhaps_read test (t ∷ u)) (test kind) (λ t. pure (Some t)) (λ h. (written t u refl (accepted test kind t is h), From-one t u)))
    (λ ts z. (absent, From-self ts)) ts tt

-- ---- what is there is read

-- at a token of this kind
pub look_is : {A : Type 0} (f : TokenKind → Choice A) (p : Parser A) (kind : TokenKind) (t : Token) (ts : List Token) → t.kind ≡ kind → look f p (t ∷ ts) ≡ chosen (f kind) t ts (p (t ∷ ts))
look_is f p kind t ts is = ap (λ v. chosen (f v) t ts (p (t ∷ ts))) is

-- at a token whose kind chooses this
pub look_at : {A : Type 0} (f : TokenKind → Choice A) (p : Parser A) (c : Choice A) (t : Token) (ts : List Token) → f t.kind ≡ c → look f p (t ∷ ts) ≡ chosen c t ts (p (t ∷ ts))
look_at f p c t ts is = ap (λ v. chosen v t ts (p (t ∷ ts))) is

pub a_token_is : (test : TokenKind → Bool) (t : Token) (ts : List Token) → test t.kind ≡ true → a_token test (t ∷ ts) ≡ Ok (t, ts)
unfolding a_token
a_token_is test t ts h = ap (λ b. chosen (given b pure) t ts (refuse (t ∷ ts))) h

pub perhaps_is : (test : TokenKind → Bool) (t : Token) (ts : List Token) → test t.kind ≡ true → perhaps test (t ∷ ts) ≡ Ok (Some t, ts)
unfolding perhaps
perhaps_is test t ts h = ap (λ b. chosen (given b (λ t. pure (Some t))) t ts (pure None (t ∷ ts))) h

-- whether a token of such a kind stands first
abbrev pub begins : (TokenKind → Bool) → List Token → Bool
begins test [] = false
begins test (t ∷ ts) = test t.kind

pub perhaps_not : (test : TokenKind → Bool) (ts : List Token) → begins test ts ≡ false → perhaps test ts ≡ Ok (None, ts)
unfolding perhaps
perhaps_not test [] h = refl
perhaps_not test (t ∷ ts) h = ap (λ b. chosen (given b (λ t. pure (Some t))) t ts (pure None (t ∷ ts))) h

-- ---- they look no further

pub a_token_prefix : (r z : List Token) (test : TokenKind → Bool) → DependsOnPrefix r z (a_token test) (a_token test)
unfolding a_token
a_token_prefix r z test = prefix_look r z (λ kind. given (test kind) pure) (λ kind. given (test kind) pure) refuse refuse
    (λ kind. both_given r z (test kind) pure pure (λ t. prefix_pure r z t)) (prefix_refuse r z)

pub perhaps_prefix : (r z : List Token) (test : TokenKind → Bool) → DependsOnPrefix r z (perhaps test) (perhaps test)
unfolding perhaps
perhaps_prefix r z test = prefix_look r z (λ kind. given (test kind) (λ t. pure (Some t))) (λ kind. given (test kind) (λ t. pure (Some t))) (pure None) (pure None)
    (λ kind. both_given r z (test kind) (λ t. pure (Some t)) (λ t. pure (Some t)) (λ t. prefix_pure r z (Some t))) (prefix_pure r z None)

-- ---- what a test accepts

pub name_is : (kind : TokenKind) → is_name kind ≡ true → kind ≡ k.Name
name_is k.Name h = refl
name_is _ h = absurd cc

pub left_paren_is : (kind : TokenKind) → is_left_paren kind ≡ true → kind ≡ k.LeftParen
left_paren_is k.LeftParen h = refl
left_paren_is _ h = absurd cc

pub right_paren_is : (kind : TokenKind) → is_right_paren kind ≡ true → kind ≡ k.RightParen
right_paren_is k.RightParen h = refl
right_paren_is _ h = absurd cc

pub left_brace_is : (kind : TokenKind) → is_left_brace kind ≡ true → kind ≡ k.LeftBrace
left_brace_is k.LeftBrace h = refl
left_brace_is _ h = absurd cc

pub right_brace_is : (kind : TokenKind) → is_right_brace kind ≡ true → kind ≡ k.RightBrace
right_brace_is k.RightBrace h = refl
right_brace_is _ h = absurd cc

pub semicolon_is : (kind : TokenKind) → is_semicolon kind ≡ true → kind ≡ k.Semicolon
semicolon_is k.Semicolon h = refl
semicolon_is _ h = absurd cc

pub colon_is : (kind : TokenKind) → is_colon kind ≡ true → kind ≡ k.Colon
colon_is k.Colon h = refl
colon_is _ h = absurd cc

pub less_is : (kind : TokenKind) → is_less kind ≡ true → kind ≡ k.Less
less_is k.Less h = refl
less_is _ h = absurd cc

pub greater_is : (kind : TokenKind) → is_greater kind ≡ true → kind ≡ k.Greater
greater_is k.Greater h = refl
greater_is _ h = absurd cc

pub while_is : (kind : TokenKind) → is_while kind ≡ true → kind ≡ k.While
while_is k.While h = refl
while_is _ h = absurd cc

pub from_is : (kind : TokenKind) → is_from kind ≡ true → kind ≡ k.From
from_is k.From h = refl
from_is _ h = absurd cc

pub text_is : (kind : TokenKind) → is_text kind ≡ true → kind ≡ k.Text
text_is k.Text h = refl
text_is _ h = absurd cc

pub const_is : (kind : TokenKind) → is_const kind ≡ true → kind ≡ k.Const
const_is k.Const h = refl
const_is _ h = absurd cc
