-- What is read as a type is spelled so.
use Rattle.std.proofs.Common.{◌≡◌, ℕ, ◌<◌, ◌≤◌, List, ◌∷◌, length, Option, Some, None, refl, ap, ◌∙◌, arith}
use Rattle.ang_lex.specs.declared.token.Token.{Token}
use Rattle.ang_lex.specs.declared.token.TokenKind.TheVariants as k
use Rattle.ang_tree.specs.declared.type_name.TypeName.{TypeName}
use Rattle.ang_tree.specs.declared.type_name.Handle.{Handle}
use Rattle.ang_tree.specs.Kinds.{IsA, IfWritten, optional, type_kind}
use Rattle.ang_tree.specs.TypeNames.{spelled_handle, spelled_type, FitsHandle, FitsType}
use Rattle.ang_parse_read.specs.Read.{pure}
use Rattle.ang_parse_read.specs.Tokens.{a_token, perhaps, is_const}
use Rattle.ang_parse_read.proofs.Outcomes.{Reads, and_reads, further, look_reads, ChoiceReads, From-self, From-one}
use Rattle.ang_parse_read.proofs.Tokens.{Always, Token_read, Perhaps_read, written, absent, a_token_reads, perhaps_reads, const_is}
use Rattle.ang_parse_expr.specs.ReadType as r

pub optional-length : (o : Option Token) (s : List Token) → length s ≤ length (optional o s)
optional-length None s = omega arith
optional-length (Some t) s = omega arith

handle-length : (h : Option Handle) (s : List Token) → length s ≤ length (spelled_handle h s)
handle-length None s = omega arith
handle-length (Some h) s = omega (arith, optional-length h.constant s)

pub type-length : (y : TypeName) (s : List Token) → length s < length (spelled_type y s)
type-length y s = omega (arith, optional-length y.constant (y.name ∷ spelled_handle y.handle s), handle-length y.handle s)

perhaps_text : (w s : List Token) (o : Option Token) → Perhaps_read is_const w o s → w ≡ optional o s
perhaps_text w s o (written x u e h) = e
perhaps_text w s o absent = refl

perhaps_fits : (w s : List Token) (o : Option Token) → Perhaps_read is_const w o s → IfWritten k.Const o
perhaps_fits w s o (written x u e h) = const_is x.kind h
perhaps_fits w s o absent = tt

pub record Handle_read (w : List Token) (h : Option Handle) (s : List Token) : Type 0 where
  pub text : w ≡ spelled_handle h s
  pub fits : FitsHandle h

handle_by_reads : (n : ℕ) → ChoiceReads n Always Handle_read r.handle_by
handle_by_reads n k.At t u is z =
    further n (t ∷ u) u (Handle_read (t ∷ u)) _ _ (From-one t u) (λ y s q. q)
    (and_reads n u (Perhaps_read is_const u) (Handle_read (t ∷ u)) (perhaps is_const u) (λ c. pure (Some (r.handle_of t c))) (perhaps_reads is_const n u)
    (λ c s q f. (record { text = ap (λ v. t ∷ v) (perhaps_text u s c q); fits = (is, perhaps_fits u s c q) }, f)))
handle_by_reads n _ t u is z = tt

pub a_handle_reads : (n : ℕ) (ts : List Token) → Reads n ts (Handle_read ts) (r.a_handle ts)
unfolding r.a_handle
a_handle_reads n ts = look_reads n Always Handle_read r.handle_by (pure None) (handle_by_reads n) (λ ts z. (record { text = refl; fits = tt }, From-self ts)) ts tt

pub record Type_read (w : List Token) (y : TypeName) (s : List Token) : Type 0 where
  pub text : w ≡ spelled_type y s
  pub fits : FitsType y

-- after a type's name
pub type_named_reads : (n : ℕ) (c : Option Token) (x : Token) (ts : List Token) → IfWritten k.Const c → IsA type_kind x → Reads n ts (Type_read (optional c (x ∷ ts))) (r.type_named c x ts)
unfolding r.type_named
type_named_reads n c x ts C X =
    and_reads n ts (Handle_read ts) (Type_read (optional c (x ∷ ts))) (r.a_handle ts) (λ h. pure (r.type_of c x h)) (a_handle_reads n ts)
    (λ h s q f. (record { text = ap (λ v. optional c (x ∷ v)) q.text; fits = (C, X, q.fits) }, f))

type_retold : (w v : List Token) → w ≡ v → (y : TypeName) (s : List Token) → Type_read v y s → Type_read w y s
type_retold w v e y s q = record { text = e ∙ q.text; fits = q.fits }

pub a_type_reads : (n : ℕ) (ts : List Token) → Reads n ts (Type_read ts) (r.a_type ts)
unfolding r.a_type
a_type_reads n ts =
    and_reads n ts (Perhaps_read is_const ts) (Type_read ts) (perhaps is_const ts) _ (perhaps_reads is_const n ts)
    (λ c s p f. further n ts s (Type_read ts) _ _ f (λ y u q. q)
    (and_reads n s (Token_read type_kind s) (Type_read ts) (a_token type_kind s) (r.type_named c) (a_token_reads type_kind n s)
    (λ x u q g. further n s u (Type_read (optional c (x ∷ u))) (Type_read ts) (r.type_named c x u) g
    (type_retold ts (optional c (x ∷ u)) (perhaps_text ts s c p ∙ ap (optional c) q.text))
    (type_named_reads n c x u (perhaps_fits ts s c p) q.kind))))
