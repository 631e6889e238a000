-- The test of two kinds says whether they are equal.
use Rattle.std.proofs.Common.{◌≡◌, ℕ, Bool, true, ◌==◌, ◌&&◌, cond, eqb, Decides, refl, sym, ap, ◌∙◌}
use Rattle.std.specs.Cmp.{booleans_Decides}
use Rattle.std.proofs.Math.Bool.{beq}
use Rattle.std.proofs.lemmas.Bool.Decides.{Decides-and, Decides-eqb, Decides-like}
use Rattle.ang_kinds.specs.declared.primitive.Primitive.{Primitive}
use Rattle.ang_kinds.specs.declared.primitive.Primitive.TheVariants.{I8, I16, I32, I64, U8, U16, U32, U64, Bool as Truth}
use Rattle.ang_kinds.specs.declared.types.Pass.{Pass}
use Rattle.ang_kinds.specs.declared.types.Pass.TheVariants.{Value, RefIn, RefOut, RefInOut}
use Rattle.ang_view.specs.Numbers.{pass_number, primitive_number}
use Rattle.ang_types.specs.declared.arg_type.ArgType.{ArgType}
use Rattle.ang_types.specs.declared.arg_type.ArgType.TheVariants.{Void, Null, Plain, Enumeration, Object, Handle}
use Rattle.ang_names_known.specs.Kinds.{Kind, is_kind}
use Rattle.ang_names_known.specs.Lookup.{same_type}

-- ---- primitive types by their numbers

primitive_at : ℕ → Primitive
primitive_at n =
    cond (eqb n 0) I8 (cond (eqb n 1) I16 (cond (eqb n 2) I32 (cond (eqb n 3) I64 (cond (eqb n 4) U8 (cond (eqb n 5) U16 (cond (eqb n 6) U32 (cond (eqb n 7) U64 Truth)))))))

primitive_back : (p : Primitive) → primitive_at (primitive_number p) ≡ p
unfolding primitive_at
primitive_back I8 = refl
primitive_back I16 = refl
primitive_back I32 = refl
primitive_back I64 = refl
primitive_back U8 = refl
primitive_back U16 = refl
primitive_back U32 = refl
primitive_back U64 = refl
primitive_back Truth = refl

primitive-Decides : (p q : Primitive) → Decides (primitive_number p == primitive_number q) (p ≡ q)
primitive-Decides p q =
    Decides-like (primitive_number p == primitive_number q) (λ e. sym (primitive_back p) ∙ ap primitive_at e ∙ primitive_back q) (λ e. ap primitive_number e) (Decides-eqb (primitive_number p) (primitive_number q))

-- ---- types

object-Decides : (m n : ℕ) (r s : Bool) → Decides (m == n && beq r s) (Object m r ≡ Object n s)
object-Decides m n r s =
    Decides-like (m == n && beq r s) (λ h. λ i. Object (h.0 i) (h.1 i)) (λ e. (cc, cc)) (Decides-and (m == n) (beq r s) (Decides-eqb m n) (booleans_Decides r s))

handle-Decides : (m n : ℕ) (r s : Bool) → Decides (m == n && beq r s) (Handle m r ≡ Handle n s)
handle-Decides m n r s =
    Decides-like (m == n && beq r s) (λ h. λ i. Handle (h.0 i) (h.1 i)) (λ e. (cc, cc)) (Decides-and (m == n) (beq r s) (Decides-eqb m n) (booleans_Decides r s))

type-Decides : (t u : ArgType) → Decides (same_type t u) (t ≡ u)
type-Decides Void Void = (λ e. refl, λ e. refl)
type-Decides Void Null = (λ e. cc, λ e. cc)
type-Decides Void (Plain q) = (λ e. cc, λ e. cc)
type-Decides Void (Enumeration n) = (λ e. cc, λ e. cc)
type-Decides Void (Object n s) = (λ e. cc, λ e. cc)
type-Decides Void (Handle n s) = (λ e. cc, λ e. cc)
type-Decides Null Void = (λ e. cc, λ e. cc)
type-Decides Null Null = (λ e. refl, λ e. refl)
type-Decides Null (Plain q) = (λ e. cc, λ e. cc)
type-Decides Null (Enumeration n) = (λ e. cc, λ e. cc)
type-Decides Null (Object n s) = (λ e. cc, λ e. cc)
type-Decides Null (Handle n s) = (λ e. cc, λ e. cc)
type-Decides (Plain p) Void = (λ e. cc, λ e. cc)
type-Decides (Plain p) Null = (λ e. cc, λ e. cc)
type-Decides (Plain p) (Plain q) = Decides-like (primitive_number p == primitive_number q) (λ e. ap Plain e) (λ e. cc) (primitive-Decides p q)
type-Decides (Plain p) (Enumeration n) = (λ e. cc, λ e. cc)
type-Decides (Plain p) (Object n s) = (λ e. cc, λ e. cc)
type-Decides (Plain p) (Handle n s) = (λ e. cc, λ e. cc)
type-Decides (Enumeration m) Void = (λ e. cc, λ e. cc)
type-Decides (Enumeration m) Null = (λ e. cc, λ e. cc)
type-Decides (Enumeration m) (Plain q) = (λ e. cc, λ e. cc)
type-Decides (Enumeration m) (Enumeration n) = Decides-like (m == n) (λ e. ap Enumeration e) (λ e. cc) (Decides-eqb m n)
type-Decides (Enumeration m) (Object n s) = (λ e. cc, λ e. cc)
type-Decides (Enumeration m) (Handle n s) = (λ e. cc, λ e. cc)
type-Decides (Object m r) Void = (λ e. cc, λ e. cc)
type-Decides (Object m r) Null = (λ e. cc, λ e. cc)
type-Decides (Object m r) (Plain q) = (λ e. cc, λ e. cc)
type-Decides (Object m r) (Enumeration n) = (λ e. cc, λ e. cc)
type-Decides (Object m r) (Object n s) = object-Decides m n r s
type-Decides (Object m r) (Handle n s) = (λ e. cc, λ e. cc)
type-Decides (Handle m r) Void = (λ e. cc, λ e. cc)
type-Decides (Handle m r) Null = (λ e. cc, λ e. cc)
type-Decides (Handle m r) (Plain q) = (λ e. cc, λ e. cc)
type-Decides (Handle m r) (Enumeration n) = (λ e. cc, λ e. cc)
type-Decides (Handle m r) (Object n s) = (λ e. cc, λ e. cc)
type-Decides (Handle m r) (Handle n s) = handle-Decides m n r s

-- ---- passings

pass_at : ℕ → Pass
pass_at n = cond (eqb n 0) Value (cond (eqb n 1) RefIn (cond (eqb n 2) RefOut RefInOut))

pass_back : (p : Pass) → pass_at (pass_number p) ≡ p
unfolding pass_at
pass_back Value = refl
pass_back RefIn = refl
pass_back RefOut = refl
pass_back RefInOut = refl

pass-Decides : (p q : Pass) → Decides (pass_number p == pass_number q) (p ≡ q)
pass-Decides p q =
    Decides-like (pass_number p == pass_number q) (λ e. sym (pass_back p) ∙ ap pass_at e ∙ pass_back q) (λ e. ap pass_number e) (Decides-eqb (pass_number p) (pass_number q))

-- ---- kinds

pub kind_is : (k : Kind) (t : ArgType) (p : Pass) → is_kind k t p ≡ true → k ≡ (t, p)
kind_is k t p e =
    let same = (Decides-and (same_type k.0 t) (pass_number k.1 == pass_number p) (type-Decides k.0 t) (pass-Decides k.1 p)).0 e in
    λ i. (same.0 i, same.1 i)
