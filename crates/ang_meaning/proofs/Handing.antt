-- What is handed to a driver is live, where each operand is counted.
use Rattle.std.proofs.Common.{◌≡◌, ℕ, ◌≤◌, List, [], ◌∷◌, Some, None, refl, sym, ap, subst, arith}
use Rattle.std.specs.Prelude.{Bool, true, false, cond, nat_eq, reverse}
use mathlib.Core.List.{reverse-cons}
use Rattle.std.proofs.lemmas.Bool.{eqb-true}
use Rattle.ang_kinds.specs.declared.value.Value.TheVariants.{Key}
use Rattle.ang_kinds.specs.declared.primitive.Primitive.{Primitive}
use Rattle.ang_kinds.specs.declared.primitive.Primitive.TheVariants.{I8, I16, I32, I64, U8, U16, U32, U64, Bool as TruthType}
use Rattle.ang_host.specs.State.{State}
use Rattle.ang_host.specs.Laws.{IsLive, IsLiveValue, AreLive}
use Rattle.ang_host.specs.Members.{state_at}
use Rattle.ang_meaning.specs.declared.slot.Slot.{Slot}
use Rattle.ang_meaning.specs.declared.slot.Slot.TheVariants.{Bits, Script, Host}
use Rattle.ang_meaning.specs.declared.host.HostValueType.{HostValueType}
use Rattle.ang_meaning.specs.declared.host.HostValueType.TheVariants.{Nothing, Plain, Handle}
use Rattle.ang_meaning.specs.declared.host.HostUse.{HostUse}
use Rattle.ang_meaning.specs.Hosts.{plain_value, value_of, values_of}
use Rattle.ang_meaning.specs.Perform.{Receiver, Of, key_at, receiver_of, behind_first, arguments_of, NoReceiver, NullReceiver}
use Rattle.ang_meaning.specs.Counting.{Thing, names, how_many, HasKey, counts_by}
use Rattle.ang_meaning.proofs.Counting.{many_append}
use Rattle.ang_meaning.proofs.Driving.{live_of}

pub many_reverse : (x : Thing) (vs : List Slot) → how_many x (reverse vs) ≡ how_many x vs
many_reverse x [] = refl
many_reverse x (v ∷ vs) = omega (arith, ap (how_many x) (reverse-cons v vs), many_append x (reverse vs) (v ∷ []), many_reverse x vs)

module _ (ss : List State) where
  plain_live : (s : State) (p : Primitive) (n : ℕ) → IsLiveValue s (plain_value p n)
  plain_live s I8 n = tt
  plain_live s I16 n = tt
  plain_live s I32 n = tt
  plain_live s I64 n = tt
  plain_live s U8 n = tt
  plain_live s U16 n = tt
  plain_live s U32 n = tt
  plain_live s U64 n = tt
  plain_live s TruthType n = tt

  handle_live : (d e k : ℕ) (b : Bool) → nat_eq d e ≡ b → HasKey (Host e (Some k)) (counts_by ss) → IsLiveValue (state_at ss d) (cond b (Key (Some k)) (Key None))
  handle_live d e k true t h = subst (λ i. IsLive (state_at ss i) k) (sym (eqb-true d e t)) (live_of ss e k h)
  handle_live d e k false t h = tt

  value_live : (d : ℕ) (ty : HostValueType) (v : Slot) → HasKey v (counts_by ss) → IsLiveValue (state_at ss d) (value_of d ty v)
  value_live d Nothing (Bits n) h = tt
  value_live d Nothing (Script j) h = tt
  value_live d Nothing (Host e j) h = tt
  value_live d (Plain p) (Bits n) h = plain_live (state_at ss d) p n
  value_live d (Plain p) (Script j) h = tt
  value_live d (Plain p) (Host e j) h = tt
  value_live d Handle (Bits n) h = tt
  value_live d Handle (Script j) h = tt
  value_live d Handle (Host e None) h = tt
  value_live d Handle (Host e (Some k)) h = handle_live d e k (nat_eq d e) refl h

  module _ (s : List Slot) (keys : (v : Slot) → ((x : Thing) → names x v ≤ how_many x s) → HasKey v (counts_by ss)) where
    pub value_handed : (d : ℕ) (ty : HostValueType) (v : Slot) → ((x : Thing) → names x v ≤ how_many x s) → IsLiveValue (state_at ss d) (value_of d ty v)
    value_handed d ty v h = value_live d ty v (keys v h)

    pub values_handed : (d : ℕ) (types : List HostValueType) (vs : List Slot) → ((x : Thing) → how_many x vs ≤ how_many x s) → AreLive (state_at ss d) (values_of d types vs)
    values_handed d [] vs h = tt
    values_handed d (ty ∷ types) [] h = tt
    values_handed d (ty ∷ types) (v ∷ vs) h =
        (value_handed d ty v (λ x. let q = h x in omega (arith, q)), values_handed d types vs (λ x. let q = h x in omega (arith, q)))

    -- the object that an entity is asked of
    abbrev pub IsLiveReceiver : ℕ → Receiver → Type 0
    IsLiveReceiver d NoReceiver = Unit {0}
    IsLiveReceiver d (Of k) = IsLive (state_at ss d) k
    IsLiveReceiver d NullReceiver = Unit {0}

    of_live : (d e k : ℕ) (b : Bool) → nat_eq d e ≡ b → HasKey (Host e (Some k)) (counts_by ss) → IsLiveReceiver d (cond b (Of k) NullReceiver)
    of_live d e k true t h = subst (λ i. IsLive (state_at ss i) k) (sym (eqb-true d e t)) (live_of ss e k h)
    of_live d e k false t h = tt

    key_handed : (d : ℕ) (vs : List Slot) → ((x : Thing) → how_many x vs ≤ how_many x s) → IsLiveReceiver d (key_at d vs)
    key_handed d [] h = tt
    key_handed d (Bits n ∷ vs) h = tt
    key_handed d (Script j ∷ vs) h = tt
    key_handed d (Host e None ∷ vs) h = tt
    key_handed d (Host e (Some k) ∷ vs) h =
        of_live d e k (nat_eq d e) refl (keys (Host e (Some k)) (λ x. let q = h x in omega (arith, q)))

    receiver_at : (b : Bool) (d : ℕ) (vs : List Slot) → ((x : Thing) → how_many x vs ≤ how_many x s) → IsLiveReceiver d (cond b (key_at d vs) NoReceiver)
    receiver_at true d vs h = key_handed d vs h
    receiver_at false d vs h = tt

    pub receiver_handed : (u : HostUse) (vs : List Slot) → ((x : Thing) → how_many x vs ≤ how_many x s) → IsLiveReceiver u.driver (receiver_of u vs)
    receiver_handed u vs h = receiver_at u.member u.driver vs h

  behind_at : (b : Bool) (x : Thing) (vs : List Slot) → how_many x (cond b (behind_first vs) vs) ≤ how_many x vs
  behind_at true x [] = omega arith
  behind_at true x (v ∷ vs) = omega arith
  behind_at false x vs = omega arith

  pub arguments_fewer : (x : Thing) (u : HostUse) (vs : List Slot) → how_many x (arguments_of u vs) ≤ how_many x vs
  arguments_fewer x u vs = behind_at u.member x vs
