-- A typed tree is of each type above its own.
use Rattle.std.proofs.Common.{◌≡◌, ℕ, Some, None, refl, sym, ◌∙◌, subst}
use Rattle.ang_typed.specs.Typed as t
use Rattle.ang_meaning.specs.Environment.{Environment}
use Rattle.ang_source_typed.specs.Types.{SlotType, Number, Key, Family, Modules, IsUnder, IsA}
use Rattle.ang_source_typed.specs.TypedProgram.{AreClasses, IsHandle, Types}
use Rattle.ang_check_laws.specs.Typed.{IsOwn, TypesGoUp}

module _ (z : Environment) (ms : Modules) where
  number_up : (s ty : SlotType) → IsA z ms s ty → s ≡ Number → ty ≡ Number
  number_up Number Number i h = refl
  number_up Number (Key d) i h = absurd i
  number_up Number (Family m c) i h = absurd i
  number_up (Key d) ty i h = absurd (let x : ⊥ = cc in x)
  number_up (Family m c) ty i h = absurd (let x : ⊥ = cc in x)

  handle_up : (s ty : SlotType) → IsA z ms s ty → IsHandle s → IsHandle ty
  handle_up Number ty i h = absurd h
  handle_up (Key d) Number i h = absurd i
  handle_up (Key d) (Key e) i h = tt
  handle_up (Key d) (Family m c) i h = absurd i
  handle_up (Family m c) Number i h = absurd i
  handle_up (Family m c) (Key e) i h = absurd i
  handle_up (Family m c) (Family k d) i h = tt

  module _ (m : ℕ) (classes : AreClasses z ms m) where
    pub above : (s t u : SlotType) → IsOwn m t → IsA z ms s t → IsA z ms t u → IsA z ms s u
    above Number Number u o h k = k
    above Number (Key e) u o h k = absurd h
    above Number (Family i c) u o h k = absurd h
    above (Key d) Number u o h k = absurd h
    above (Key d) (Key e) u o h k = subst (λ x. IsA z ms (Key x) u) (sym h) k
    above (Key d) (Family i c) u o h k = absurd h
    above (Family i c) Number u o h k = absurd h
    above (Family i c) (Key e) u o h k = absurd h
    above (Family i c) (Family j d) Number o h k = absurd k
    above (Family i c) (Family j d) (Key e) o h k = absurd k
    above (Family i c) (Family j d) (Family l e) o h k = (
      h.0 ∙ k.0,
      let own : m ≡ i = sym o ∙ sym h.0 in
          subst (λ x. IsUnder z ms x c e) own
          (classes.above c d e (subst (λ x. IsUnder z ms x c d) (sym own) h.1) (subst (λ x. IsUnder z ms x d e) o k.1)),
    )

    up : (locals : _) (s ty : SlotType) (e : t.Expr) → IsOwn m s → IsA z ms s ty → Types z ms m locals s e → Types z ms m locals ty e
    up locals s ty (t.number p n) w i h = number_up s ty i h
    up locals s ty (t.truth b) w i h = number_up s ty i h
    up locals s ty (t.read (t.named x) a) w i h = (h.0, h.1, above h.0 s ty w h.2 i)
    up locals s ty (t.read (t.member_of o x) a) w i h = (h.0, h.1, h.2, h.3, above h.0 s ty w h.4 i)
    up locals s ty t.null w i h = handle_up s ty i h
    up locals s ty (t.convert from to e) w i h = (number_up s ty i h.0, h.1)
    up locals s ty (t.negate p e) w i h = (number_up s ty i h.0, h.1)
    up locals s ty (t.complement p e) w i h = (number_up s ty i h.0, h.1)
    up locals s ty (t.not e) w i h = (number_up s ty i h.0, h.1)
    up locals s ty (t.operate op p l r) w i h = (number_up s ty i h.0, h.1, h.2)
    up locals s ty (t.compare op p l r) w i h = (number_up s ty i h.0, h.1, h.2)
    up locals s ty (t.and l r) w i h = (number_up s ty i h.0, h.1, h.2)
    up locals s ty (t.or l r) w i h = (number_up s ty i h.0, h.1, h.2)
    up locals s ty (t.choose a l r) w i h = (h.0, up locals s ty l w i h.1, up locals s ty r w i h.2)
    up locals s ty (t.same l r) w i h = (number_up s ty i h.0, h.1)
    up locals s ty (t.cast n e) w i h = (h.0, h.1, above (Family m n) s ty w h.2 i)
    up locals s ty (t.naming x e) w i h = up locals s ty e w i h
    up locals s ty (t.make n None args) w i h = (h.0, above (Family m n) s ty w h.1 i)
    up locals s ty (t.make n (Some k) args) w i h = (h.0, (h.1.0, h.1.1, h.1.2, h.1.3, h.1.4, above (h.1.0).result s ty w h.1.5 i))
    up locals s ty (t.assign (t.named x) a e) w i h = (h.0, h.1, h.2, h.3, above h.0 s ty w h.4 i)
    up locals s ty (t.assign (t.member_of o x) a e) w i h = (h.0, h.1, h.2, h.3, h.4, h.5, above h.0 s ty w h.6 i)
    up locals s ty (t.compound (t.named x) p op at e) w i h = (number_up s ty i h.0, h.1, h.2, h.3)
    up locals s ty (t.compound (t.member_of o x) p op at e) w i h = (number_up s ty i h.0, h.1, h.2)
    up locals s ty (t.step (t.named x) p kind) w i h = (number_up s ty i h.0, h.1, h.2)
    up locals s ty (t.step (t.member_of o x) p kind) w i h = (number_up s ty i h.0, h.1)
    up locals s ty (t.call f a args) w i h = (h.0, h.1, h.2, above (h.0).result s ty w h.3 i)
    up locals s ty (t.host_call g a args) w i h = (h.0, h.1, h.2, h.3, above _ s ty w h.4 i)

pub types_go_up : (z : Environment) (ms : Modules) (m : ℕ) → TypesGoUp z ms m
types_go_up z ms m classes locals s ty e w i h = up z ms m classes locals s ty e w i h
