-- What is spelled as a type is read.
use Rattle.std.proofs.Common.{◌≡◌, Bool, true, false, List, [], ◌∷◌, Option, Some, None, Ok, refl, ap, ◌∙◌}
use Rattle.ang_lex.specs.declared.token.Token.{Token}
use Rattle.ang_lex.specs.declared.token.TokenKind.{TokenKind}
use Rattle.ang_lex.specs.declared.token.TokenKind.TheVariants as k
use Rattle.ang_tree.specs.declared.type_name.TypeName.{TypeName}
use Rattle.ang_tree.specs.declared.type_name.Handle.{Handle}
use Rattle.ang_tree.specs.Kinds.{Is, IsA, IfWritten, optional, type_kind}
use Rattle.ang_tree.specs.TypeNames.{spelled_handle, spelled_type, FitsHandle, FitsType}
use Rattle.ang_parse_read.specs.Read.{and_then, pure}
use Rattle.ang_parse_read.specs.Tokens.{perhaps, is_const}
use Rattle.ang_parse_read.proofs.Tokens.{look_is, a_token_is, perhaps_is, perhaps_not, begins}
use Rattle.ang_parse_expr.specs.ReadType as r

abbrev pub is_at : TokenKind → Bool
is_at k.At = true
is_at _ = false

-- what stands after a type without these words is no part of it
pub record EndsType (ts : List Token) : Type 0 where
  pub no_handle : begins is_at ts ≡ false
  pub no_const : begins is_const ts ≡ false

const_read : (c : Option Token) (ts : List Token) → IfWritten k.Const c → begins is_const ts ≡ false → perhaps is_const (optional c ts) ≡ Ok (c, ts)
const_read None ts f h = perhaps_not is_const ts h
const_read (Some t) ts f h = perhaps_is is_const t ts (ap is_const f)

handle_stops_by : (kind : TokenKind) → is_at kind ≡ false → r.handle_by kind ≡ None
handle_stops_by k.At h = absurd cc
handle_stops_by _ h = refl

handle_stops : (ts : List Token) → begins is_at ts ≡ false → r.a_handle ts ≡ Ok (None, ts)
unfolding r.a_handle
handle_stops [] h = refl
handle_stops (t ∷ ts) h = rw (handle_stops_by t.kind h) refl

handle_done : (sign : Token) (c : Option Token) (ts us : List Token) → Is k.At sign → perhaps is_const ts ≡ Ok (c, us) → r.a_handle (sign ∷ ts) ≡ Ok (Some (r.handle_of sign c), us)
unfolding r.a_handle
handle_done sign c ts us is h = look_is r.handle_by (pure None) k.At sign ts is ∙ ap (λ v. and_then v (λ c. pure (Some (r.handle_of sign c)))) h

pub handle_read : (h : Option Handle) (ts : List Token) → FitsHandle h → EndsType ts → r.a_handle (spelled_handle h ts) ≡ Ok (h, ts)
handle_read None ts f e = handle_stops ts e.no_handle
handle_read (Some h) ts f e = handle_done h.at h.constant (optional h.constant ts) ts f.0 (const_read h.constant ts f.1 e.no_const)

-- after a type's name
pub type_named_read : (c : Option Token) (x : Token) (h : Option Handle) (ts : List Token) → FitsHandle h → EndsType ts → r.type_named c x (spelled_handle h ts) ≡ Ok (r.type_of c x h, ts)
unfolding r.type_named
type_named_read c x h ts f e = ap (λ v. and_then v (λ h. pure (r.type_of c x h))) (handle_read h ts f e)

no_const_by : (kind : TokenKind) → type_kind kind ≡ true → is_const kind ≡ false
no_const_by k.Const h = absurd cc
no_const_by _ h = refl

type_done : (c : Option Token) (x : Token) (h : Option Handle) (ts us : List Token) → perhaps is_const ts ≡ Ok (c, x ∷ spelled_handle h us) → IsA type_kind x → FitsHandle h → EndsType us → r.a_type ts ≡ Ok (r.type_of c x h, us)
unfolding r.a_type
type_done c x h ts us p is f e = rw (p, a_token_is type_kind x (spelled_handle h us) is, type_named_read c x h us f e) refl

pub type_read : (y : TypeName) (ts : List Token) → FitsType y → EndsType ts → r.a_type (spelled_type y ts) ≡ Ok (y, ts)
type_read y ts f e = type_done y.constant y.name y.handle (spelled_type y ts) ts (const_read y.constant (y.name ∷ spelled_handle y.handle ts) f.0 (no_const_by y.name.kind f.1)) f.1 f.2 e
