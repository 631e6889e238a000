-- What is handed to a driver is live: all of it stands among the operands.
use Rattle.std.proofs.Common.{◌≡◌, ℕ, zero, suc, ◌≤◌, List, [], ◌∷◌, length, reverse, Option, Some, None, refl, sym, ap, ◌∙◌, subst, arith, slice_get}
use Rattle.std.specs.Prelude.{Result, Ok, Err}
use Rattle.std.proofs.lemmas.List.{length-reverse}
use Rattle.ang_kinds.specs.declared.fault.Fault.{Fault}
use Rattle.ang_host.specs.State.{State}
use Rattle.ang_host.specs.Laws.{IsLiveOption, IsLiveValue, AreLive}
use Rattle.ang_host.specs.Members.{state_at}
use Rattle.ang_code.specs.Machine.{take_some}
use Rattle.ang_meaning.specs.declared.slot.Slot.{Slot}
use Rattle.ang_meaning.specs.declared.host.HostValueType.{HostValueType}
use Rattle.ang_meaning.specs.declared.host.HostUse.{HostUse}
use Rattle.ang_meaning.specs.World.{World, ScriptObjects}
use Rattle.ang_meaning.specs.Hosts.{value_of, values_of}
use Rattle.ang_meaning.specs.Perform.{Receiver, NoReceiver, Of, NullReceiver, receiver_of, behind_first, arguments_of}
use Rattle.ang_meaning.specs.Counting.{Thing, names, how_many, CanGive, EachEnoughIn, CanGiveEach, IsCounted, HasKey, counts_by}
use Rattle.ang_meaning.proofs.Enough.{counted_enough, rest_enough, each_enough, each_fewer, each_key, each_still}
use Rattle.ang_meaning.proofs.Handing.{many_reverse, value_handed, values_handed, receiver_handed, arguments_fewer, IsLiveReceiver}
use Rattle.ang_vm_stack.specs.Stacks.{values}
use Rattle.ang_vm_stack.proofs.Values.{values_length}
use Rattle.ang_vm_ask.specs.Handing.{object_in}
use Rattle.ang_vm_ask.specs.Replies.{with_result}

behind_fewer : (x : Thing) (ops : List Slot) → how_many x (behind_first ops) ≤ how_many x ops
behind_fewer x [] = omega arith
behind_fewer x (v ∷ ops) = omega arith

first_fewer : (x : Thing) (ops : List Slot) (v : Slot) → slice_get ops 0 ≡ Some v → names x v ≤ how_many x ops
first_fewer x [] v h = absurd (let y : ⊥ = cc in y)
first_fewer x (u ∷ ops) v h = let same : u ≡ v = cc in omega (arith, ap (names x) same)

module _ (ss : List State) (os : ScriptObjects) (ops : List Slot) (enough : EachEnoughIn ops os (counts_by ss)) (u : HostUse) where
  abbrev keys : (v : Slot) → ((x : Thing) → names x v ≤ how_many x ops) → HasKey v (counts_by ss)
  keys = each_key ops os (counts_by ss) enough

  live_as : (r : Receiver) (object : Option ℕ) → object_in r ≡ Ok object → IsLiveReceiver ss ops keys u.driver r → IsLiveOption (state_at ss u.driver) object
  live_as NoReceiver object e h = let same : None ≡ object = cc in subst (IsLiveOption (state_at ss u.driver)) same tt
  live_as (Of k) object e h = let same : Some k ≡ object = cc in subst (IsLiveOption (state_at ss u.driver)) same h
  live_as NullReceiver object e h = absurd (let y : ⊥ = cc in y)

  pub object_live : (object : Option ℕ) → object_in (receiver_of u ops) ≡ Ok object → IsLiveOption (state_at ss u.driver) object
  object_live object e = live_as (receiver_of u ops) object e (receiver_handed ss ops keys u ops (λ x. omega arith))

  pub object_behind : (object : Option ℕ) → object_in (receiver_of u (behind_first ops)) ≡ Ok object → IsLiveOption (state_at ss u.driver) object
  object_behind object e = live_as (receiver_of u (behind_first ops)) object e (receiver_handed ss ops keys u (behind_first ops) (λ x. behind_fewer x ops))

  pub args_live : (args : List Slot) → args ≡ arguments_of u ops → AreLive (state_at ss u.driver) (values_of u.driver u.params args)
  args_live args e =
      subst (λ l. AreLive (state_at ss u.driver) (values_of u.driver u.params l)) (sym e)
      (values_handed ss ops keys u.driver u.params (arguments_of u ops) (λ x. arguments_fewer ss x u ops))

  pub first_live : (ty : HostValueType) (v : Slot) → slice_get ops 0 ≡ Some v → IsLiveValue (state_at ss u.driver) (value_of u.driver ty v)
  first_live ty v e = value_handed ss ops keys u.driver ty v (λ x. first_fewer x ops v e)

-- the others, without the result, and each on its own
pub kept_can : (r : Result Slot Fault) (vs : List Slot) (w : World) → CanGive (with_result r vs) w → CanGive vs w
kept_can (Ok v) vs w c = rest_enough v vs w.objects w.hosts c
kept_can (Err f) vs w c = c

pub kept_each : (r : Result Slot Fault) (vs : List Slot) (w w' : World) → ((us : List Slot) → CanGive us w → CanGive (with_result r us) w') → CanGiveEach vs w → CanGiveEach vs w'
kept_each r vs w w' h p = each_still vs w w' (λ us c. kept_can r us w' (h us c)) p

-- ---- the operands among all values

take_fewer : (x : Thing) (n : ℕ) (s : List Slot) → how_many x (take_some n s) ≤ how_many x s
take_fewer x zero s = omega arith
take_fewer x (suc n) [] = omega arith
take_fewer x (suc n) (v ∷ s) = omega (arith, take_fewer x n s)

pub operands_can : (n top : ℕ) (stack ops : List Slot) (w : World) → reverse ops ≡ take_some n (values stack top) → CanGiveEach (take_some n (values stack top)) w → CanGiveEach ops w
operands_can n top stack ops w e c =
    each_fewer (take_some n (values stack top)) ops w (λ x. let q = ap (how_many x) e in omega (arith, many_reverse x ops, q)) c

pub some_each : (n : ℕ) (s : List Slot) (w : World) → CanGiveEach s w → CanGiveEach (take_some n s) w
some_each n s w c = each_fewer s (take_some n s) w (λ x. take_fewer x n s) c

-- where all values are counted
pub counted_each : (s : List Slot) (w : World) → IsCounted s w → CanGiveEach s w
counted_each s w c = each_enough s w (counted_enough s w c)

pub take_length : (n : ℕ) (s : List Slot) → n ≤ length s → length (take_some n s) ≡ n
take_length zero s h = refl
take_length (suc n) [] h = absurd (omega (arith, h))
take_length (suc n) (v ∷ s) h = ap suc (take_length n s (omega (arith, h)))

pub operands_length : (n top : ℕ) (stack ops : List Slot) → reverse ops ≡ take_some n (values stack top) → n ≤ top → top ≤ length stack → length ops ≡ n
operands_length n top stack ops e h k =
    sym (length-reverse ops) ∙ ap length e ∙ take_length n (values stack top) (let q = values_length stack top k in omega (arith, q, h))
