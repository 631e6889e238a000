-- Operations on the host by the one host call or the two that each of them makes.
use Rattle.std.proofs.Common.{◌≡◌, ℕ, ◌≤◌, List, [], ◌∷◌, Bool, true, false, not, ◌&&◌, cond, length, reverse, Option, Some, None, refl, sym, ap, ◌∙◌, arith, slice_get}
use Rattle.std.specs.Prelude.{Result, Ok, Err}
use Rattle.std.proofs.lemmas.List.{reverse-reverse}
use Rattle.ang_kinds.specs.declared.mask.EntityNo.{EntityNo}
use Rattle.ang_kinds.specs.declared.value.Value.{Value}
use Rattle.ang_kinds.specs.declared.fault.Fault.{Fault}
use Rattle.ang_kinds.specs.declared.fault.Fault.TheVariants.{Null}
use Rattle.ang_host.specs.declared.event.Role.{Role}
use Rattle.ang_host.specs.declared.event.Role.TheVariants.{Making as MakingRole, Calling as CallingRole, Property as PropertyRole}
use Rattle.ang_meaning.specs.declared.slot.Slot.{Slot}
use Rattle.ang_meaning.specs.declared.slot.Slot.TheVariants.{Bits}
use Rattle.ang_meaning.specs.declared.host.HostValueType.TheVariants.{Nothing}
use Rattle.ang_meaning.specs.declared.host.HostUse.{HostUse}
use Rattle.ang_meaning.specs.declared.operation.Update.{Update}
use Rattle.ang_meaning.specs.declared.operation.Operation.TheVariants.{Ask, Read, Write, Alter}
use Rattle.ang_meaning.specs.Numbers.{Changed, Into, Never}
use Rattle.ang_meaning.specs.World.{World, Input, with_inputs, give}
use Rattle.ang_meaning.specs.Environment.{Environment, use_at, is_called_by, is_property, may_call, may_access, may_write, is_fit}
use Rattle.ang_meaning.specs.Hosts.{Done, Fails, value_of, values_of, asked}
use Rattle.ang_meaning.specs.Perform.{Receiver, NoReceiver, Of, NullReceiver, key_at, receiver_of, behind_first, arguments_of, called_of, read_of, write_of, in_place_of, altered_to, altered_of, change_of, member_count, operands}
use Rattle.ang_meaning.specs.Told.{Told}
use Rattle.ang_meaning.proofs.Telling.{told_same, told_then, told_map}
use Rattle.ang_vm_numbers.specs.declared.changes.Updated.{Updated}
use Rattle.ang_vm_numbers.specs.Answers as answers
use Rattle.ang_vm_stack.specs.Arms.{done}
use Rattle.ang_vm_ask.specs.Asks.{asks}
use Rattle.ang_vm_ask.specs.Askings.{Sees, Performed}
use Rattle.ang_vm_ask.specs.Handing.{object_in, in_place}
use Rattle.ang_vm_ask.proofs.Asks.{use_is}

-- ---- operands by their number

one_place : (b : Bool) (d : ℕ) (ops : List Slot) → length ops ≡ member_count b → cond b (key_at d (reverse ops)) NoReceiver ≡ cond b (key_at d ops) NoReceiver
one_place false d ops h = refl
one_place true d [] h = absurd (let x : 0 ≡ 1 = h in omega arith)
one_place true d (o ∷ []) h = refl
one_place true d (o ∷ (p ∷ ps)) h = absurd (omega (arith, h))

count_small : (b : Bool) → member_count b ≤ 1
count_small true = omega arith
count_small false = omega arith

both_true : (a b : Bool) → (a && b) ≡ true → a ≡ true
both_true true b h = refl
both_true false b h = h

-- ---- each operation by what it asks

module _ (z : Environment) (m : ℕ) (caller : List ℕ) (e : EntityNo) (u : HostUse) (sees : Sees z m caller e u) where
  called_as : (r : Receiver) (object : Option ℕ) (args : List Slot) (w : World) → object_in r ≡ Ok object
      → called_of z m e r args w ≡ asked z m e object (values_of u.driver u.params args) u.result w
  called_as NoReceiver object args w h =
      let o : None ≡ object = cc in
      ap (λ x. asked z m e None (values_of x.driver x.params args) x.result w) (use_is z m caller e u sees) ∙ ap (λ k. asked z m e k (values_of u.driver u.params args) u.result w) o
  called_as (Of k) object args w h =
      let o : Some k ≡ object = cc in
      ap (λ x. asked z m e (Some k) (values_of x.driver x.params args) x.result w) (use_is z m caller e u sees) ∙ ap (λ k. asked z m e k (values_of u.driver u.params args) u.result w) o
  called_as NullReceiver object args w h = absurd (let x : ⊥ = cc in x)

  called_null : (r : Receiver) (f : Fault) (args : List Slot) (w : World) → object_in r ≡ Err f → called_of z m e r args w ≡ Fails f w
  called_null NoReceiver f args w h = absurd (let x : ⊥ = cc in x)
  called_null (Of k) f args w h = absurd (let x : ⊥ = cc in x)
  called_null NullReceiver f args w h = let n : Null ≡ f = cc in ap (λ x. Fails x w) n

  pub read_as : (r : Receiver) (object : Option ℕ) (w : World) → object_in r ≡ Ok object → read_of z m e r w ≡ asked z m e object [] u.result w
  read_as NoReceiver object w h =
      let o : None ≡ object = cc in ap (λ x. asked z m e None [] x.result w) (use_is z m caller e u sees) ∙ ap (λ k. asked z m e k [] u.result w) o
  read_as (Of k) object w h =
      let o : Some k ≡ object = cc in ap (λ x. asked z m e (Some k) [] x.result w) (use_is z m caller e u sees) ∙ ap (λ k. asked z m e k [] u.result w) o
  read_as NullReceiver object w h = absurd (let x : ⊥ = cc in x)

  read_null : (r : Receiver) (f : Fault) (w : World) → object_in r ≡ Err f → read_of z m e r w ≡ Fails f w
  read_null NoReceiver f w h = absurd (let x : ⊥ = cc in x)
  read_null (Of k) f w h = absurd (let x : ⊥ = cc in x)
  read_null NullReceiver f w h = let n : Null ≡ f = cc in ap (λ x. Fails x w) n

  write_as : (r : Receiver) (object : Option ℕ) (v : Slot) (w : World) → object_in r ≡ Ok object
      → write_of z m e r v w ≡ asked z m e object (value_of u.driver u.result v ∷ []) Nothing w
  write_as NoReceiver object v w h =
      let o : None ≡ object = cc in
      ap (λ x. asked z m e None (value_of x.driver x.result v ∷ []) Nothing w) (use_is z m caller e u sees) ∙ ap (λ k. asked z m e k (value_of u.driver u.result v ∷ []) Nothing w) o
  write_as (Of k) object v w h =
      let o : Some k ≡ object = cc in
      ap (λ x. asked z m e (Some k) (value_of x.driver x.result v ∷ []) Nothing w) (use_is z m caller e u sees) ∙ ap (λ k. asked z m e k (value_of u.driver u.result v ∷ []) Nothing w) o
  write_as NullReceiver object v w h = absurd (let x : ⊥ = cc in x)

  write_null : (r : Receiver) (f : Fault) (v : Slot) (w : World) → object_in r ≡ Err f → write_of z m e r v w ≡ Fails f w
  write_null NoReceiver f v w h = absurd (let x : ⊥ = cc in x)
  write_null (Of k) f v w h = absurd (let x : ⊥ = cc in x)
  write_null NullReceiver f v w h = let n : Null ≡ f = cc in ap (λ x. Fails x w) n

  ask_is : (ops : List Slot) (w : World) → asks z m (Ask e) (reverse ops) w ≡ called_of z m e (receiver_of u ops) (arguments_of u ops) w
  unfolding asks
  ask_is ops w =
      ap (λ l. called_of z m e (receiver_of (use_at z m e) l) (arguments_of (use_at z m e) l) w) (reverse-reverse ops)
      ∙ ap (λ x. called_of z m e (receiver_of x ops) (arguments_of x ops) w) (use_is z m caller e u sees)

  read_is : (ops : List Slot) (w : World) → length ops ≡ operands z m (Read e) → asks z m (Read e) (reverse ops) w ≡ read_of z m e (receiver_of u ops) w
  unfolding asks operands
  read_is ops w h =
      let is = use_is z m caller e u sees in
      ap (λ x. read_of z m e (receiver_of x (reverse ops)) w) is ∙ ap (λ r. read_of z m e r w) (one_place u.member u.driver ops (h ∙ ap (λ x. member_count x.member) is))

  write_count : (ops : List Slot) → length ops ≡ operands z m (Write e) → length ops ≤ 2
  unfolding operands
  write_count ops h = omega (arith, h, count_small (use_at z m e).member)

  alter_count : (by : Update) (ops : List Slot) → length ops ≡ operands z m (Alter e by) → length ops ≤ 2
  unfolding operands
  alter_count by ops h = omega (arith, h, count_small (use_at z m e).member)

  write_is : (ops : List Slot) (v : Slot) (w : World) → slice_get ops 0 ≡ Some v → length ops ≤ 2
      → asks z m (Write e) (reverse ops) w ≡ in_place_of v (write_of z m e (receiver_of u (behind_first ops)) v w)
  unfolding asks
  write_is [] v w f h = absurd (let x : ⊥ = cc in x)
  write_is (x ∷ []) v w f h =
      let same : x ≡ v = cc in
      ap (λ y. in_place_of x (write_of z m e (receiver_of y []) x w)) (use_is z m caller e u sees) ∙ ap (λ y. in_place_of y (write_of z m e (receiver_of u []) y w)) same
  write_is (x ∷ (o ∷ [])) v w f h =
      let same : x ≡ v = cc in
      ap (λ y. in_place_of x (write_of z m e (receiver_of y (o ∷ [])) x w)) (use_is z m caller e u sees) ∙ ap (λ y. in_place_of y (write_of z m e (receiver_of u (o ∷ [])) y w)) same
  write_is (x ∷ (o ∷ (p ∷ ps))) v w f h = absurd (omega (arith, h))

  alter_is : (by : Update) (ops : List Slot) (v : Slot) (w : World) → slice_get ops 0 ≡ Some v → length ops ≤ 2
      → asks z m (Alter e by) (reverse ops) w ≡ altered_of z m e (receiver_of u (behind_first ops)) by v (read_of z m e (receiver_of u (behind_first ops)) w)
  unfolding asks
  alter_is by [] v w f h = absurd (let x : ⊥ = cc in x)
  alter_is by (x ∷ []) v w f h =
      let same : x ≡ v = cc in
      ap (λ y. altered_of z m e (receiver_of y []) by x (read_of z m e (receiver_of y []) w)) (use_is z m caller e u sees)
      ∙ ap (λ y. altered_of z m e (receiver_of u []) by y (read_of z m e (receiver_of u []) w)) same
  alter_is by (x ∷ (o ∷ [])) v w f h =
      let same : x ≡ v = cc in
      ap (λ y. altered_of z m e (receiver_of y (o ∷ [])) by x (read_of z m e (receiver_of y (o ∷ [])) w)) (use_is z m caller e u sees)
      ∙ ap (λ y. altered_of z m e (receiver_of u (o ∷ [])) by y (read_of z m e (receiver_of u (o ∷ [])) w)) same
  alter_is by (x ∷ (o ∷ (p ∷ ps))) v w f h = absurd (omega (arith, h))

  -- the operation is fit by the entity's role
  call_fit : is_fit z m (Ask e) ≡ true → is_called_by u.role u.member ≡ true
  unfolding is_fit
  call_fit h = sym (ap may_call sees.host) ∙ h

  read_fit : is_fit z m (Read e) ≡ true → is_property u.role ≡ true
  unfolding is_fit
  read_fit h = sym (ap may_access sees.host) ∙ h

  write_fit : is_fit z m (Write e) ≡ true → is_property u.role ≡ true
  unfolding is_fit
  write_fit h = both_true (is_property u.role) (not u.read_only) (sym (ap may_write sees.host) ∙ h)

  alter_fit : (by : Update) → is_fit z m (Alter e by) ≡ true → is_property u.role ≡ true
  unfolding is_fit
  alter_fit by h = both_true (is_property u.role) (not u.read_only) (sym (ap may_write sees.host) ∙ h)

-- ---- no property, or no call

not_property : (role : Role) → ((f : ℕ) → role ≡ PropertyRole f → ⊥) → is_property role ≡ true → ⊥
not_property (MakingRole f) other h = let x : ⊥ = cc in x
not_property (CallingRole f) other h = let x : ⊥ = cc in x
not_property (PropertyRole f) other h = other f refl

pub not_called : (f : ℕ) (role : Role) (member : Bool) → role ≡ PropertyRole f → is_called_by role member ≡ true → ⊥
not_called f role member e h = let x : false ≡ true = sym (ap (λ r. is_called_by r member) e) ∙ h in let y : ⊥ = cc in y

pub made_alone : (f : ℕ) (role : Role) (member : Bool) → role ≡ MakingRole f → is_called_by role member ≡ true → member ≡ false
made_alone f role true e h = absurd (let x : false ≡ true = sym (ap (λ r. is_called_by r true) e) ∙ h in let y : ⊥ = cc in y)
made_alone f role false e h = refl

pub no_receiver : (b : Bool) (d : ℕ) (ops : List Slot) (object : Option ℕ) → b ≡ false → object_in (cond b (key_at d ops) NoReceiver) ≡ Ok object → object ≡ None
no_receiver true d ops object e h = absurd (let x : ⊥ = cc in x)
no_receiver false d ops object e h = let o : None ≡ object = cc in sym o

in_place_done : (v : Slot) (r : Result Slot Fault) (w : World) → in_place_of v (done r w) ≡ done (in_place v r) w
in_place_done v (Ok x) w = refl
in_place_done v (Err f) w = refl

no_first : (ops : List Slot) → slice_get ops 0 ≡ None → length ops ≡ 0
no_first [] h = refl
no_first (x ∷ ops) h = absurd (let y : ⊥ = cc in y)

-- ---- as records, by how the code goes

module _ (caller : List ℕ) (e : EntityNo) (u : HostUse) (ops : List Slot) (w w' : World) where
  -- what each module that sees the entity so is told
  abbrev pub AskedSo : Option ℕ → List Slot → Result Slot Fault → Type 0
  AskedSo object args r = (z : Environment) (m : ℕ) → Sees z m caller e u
      → Told (λ is. asked z m e object (values_of u.driver u.params args) u.result (with_inputs is w)) (λ is. done r (with_inputs is w'))

  -- a call with these values, for one module
  pub ask_with : (z : Environment) (m : ℕ) → Sees z m caller e u → (object : Option ℕ) (args : List Value) (r : Result Slot Fault) → object_in (receiver_of u ops) ≡ Ok object
      → values_of u.driver u.params (arguments_of u ops) ≡ args → Told (λ is. asked z m e object args u.result (with_inputs is w)) (λ is. done r (with_inputs is w'))
      → Told (λ is. asks z m (Ask e) (reverse ops) (with_inputs is w)) (λ is. done r (with_inputs is w'))
  ask_with z m sees object args r is same t =
      told_then
      (told_same (λ ins. ask_is z m caller e u sees ops (with_inputs ins w) ∙ called_as z m caller e u sees (receiver_of u ops) object (arguments_of u ops) (with_inputs ins w) is
      ∙ ap (λ vs. asked z m e object vs u.result (with_inputs ins w)) same))
      t

  pub ask_performed : (object : Option ℕ) (args : List Slot) (r : Result Slot Fault) → object_in (receiver_of u ops) ≡ Ok object → args ≡ arguments_of u ops → AskedSo object args r
      → Performed caller e u (Ask e) ops w r w'
  ask_performed object args r is same t = record {
    told = λ z m sees fit count. ask_with z m sees object (values_of u.driver u.params args) r is (ap (values_of u.driver u.params) (sym same)) (t z m sees);
  }

  pub make_performed : (f : ℕ) (object : Option ℕ) (args : List Slot) (r : Result Slot Fault) → u.role ≡ MakingRole f → object_in (receiver_of u ops) ≡ Ok object → args ≡ arguments_of u ops
      → AskedSo None args r → Performed caller e u (Ask e) ops w r w'
  make_performed f object args r role is same t = record {
    told = λ z m sees fit count.
        let alone = made_alone f u.role u.member role (call_fit z m caller e u sees fit) in
        let none = no_receiver u.member u.driver ops object alone is in
        told_then
        (told_same (λ ins. ask_is z m caller e u sees ops (with_inputs ins w) ∙ ap (λ l. called_of z m e (receiver_of u ops) l (with_inputs ins w)) (sym same)
        ∙ called_as z m caller e u sees (receiver_of u ops) None args (with_inputs ins w) (is ∙ ap Ok none)))
        (t z m sees);
  }

  pub read_performed : (object : Option ℕ) (r : Result Slot Fault) → object_in (receiver_of u ops) ≡ Ok object
      → ((z : Environment) (m : ℕ) → Sees z m caller e u → Told (λ is. asked z m e object [] u.result (with_inputs is w)) (λ is. done r (with_inputs is w')))
      → Performed caller e u (Read e) ops w r w'
  read_performed object r is t = record {
    told = λ z m sees fit count. told_then
        (told_same (λ ins. read_is z m caller e u sees ops (with_inputs ins w) count ∙ read_as z m caller e u sees (receiver_of u ops) object (with_inputs ins w) is))
        (t z m sees);
  }

  pub write_performed : (object : Option ℕ) (v : Slot) (r : Result Slot Fault) → slice_get ops 0 ≡ Some v → object_in (receiver_of u (behind_first ops)) ≡ Ok object
      → ((z : Environment) (m : ℕ) → Sees z m caller e u
      → Told (λ is. in_place_of v (asked z m e object (value_of u.driver u.result v ∷ []) Nothing (with_inputs is w))) (λ is. done r (with_inputs is w')))
      → Performed caller e u (Write e) ops w r w'
  write_performed object v r first is t = record {
    told = λ z m sees fit count. told_then
        (told_same (λ ins. write_is z m caller e u sees ops v (with_inputs ins w) first (write_count z m caller e u sees ops count)
        ∙ ap (in_place_of v) (write_as z m caller e u sees (receiver_of u (behind_first ops)) object v (with_inputs ins w) is)))
        (t z m sees);
  }

  pub alter_performed : (by : Update) (object : Option ℕ) (v : Slot) (r : Result Slot Fault) → slice_get ops 0 ≡ Some v → object_in (receiver_of u (behind_first ops)) ≡ Ok object
      → ((z : Environment) (m : ℕ) (o : Receiver) → Sees z m caller e u → object_in o ≡ Ok object
      → Told (λ is. altered_of z m e o by v (read_of z m e o (with_inputs is w))) (λ is. done r (with_inputs is w')))
      → Performed caller e u (Alter e by) ops w r w'
  alter_performed by object v r first is t = record {
    told = λ z m sees fit count. told_then
        (told_same (λ ins. alter_is z m caller e u sees by ops v (with_inputs ins w) first (alter_count z m caller e u sees by ops count)))
        (t z m (receiver_of u (behind_first ops)) sees is);
  }

module _ (caller : List ℕ) (e : EntityNo) (u : HostUse) (ops : List Slot) (w : World) where
  -- ---- nothing is asked

  pub ask_nobody : (f : Fault) → object_in (receiver_of u ops) ≡ Err f → Performed caller e u (Ask e) ops w (Err f) w
  ask_nobody f is = record {
    told = λ z m sees fit count. told_same (λ ins. ask_is z m caller e u sees ops (with_inputs ins w) ∙ called_null z m caller e u sees (receiver_of u ops) f (arguments_of u ops) (with_inputs ins w) is);
  }

  pub read_nobody : (f : Fault) → object_in (receiver_of u ops) ≡ Err f → Performed caller e u (Read e) ops w (Err f) w
  read_nobody f is = record {
    told = λ z m sees fit count. told_same (λ ins. read_is z m caller e u sees ops (with_inputs ins w) count ∙ read_null z m caller e u sees (receiver_of u ops) f (with_inputs ins w) is);
  }

  pub write_nobody : (v : Slot) (f : Fault) → slice_get ops 0 ≡ Some v → object_in (receiver_of u (behind_first ops)) ≡ Err f → Performed caller e u (Write e) ops w (Err f) w
  write_nobody v f first is = record {
    told = λ z m sees fit count. told_same (λ ins. write_is z m caller e u sees ops v (with_inputs ins w) first (write_count z m caller e u sees ops count)
        ∙ ap (in_place_of v) (write_null z m caller e u sees (receiver_of u (behind_first ops)) f v (with_inputs ins w) is));
  }

  pub alter_nobody : (by : Update) (v : Slot) (f : Fault) → slice_get ops 0 ≡ Some v → object_in (receiver_of u (behind_first ops)) ≡ Err f → Performed caller e u (Alter e by) ops w (Err f) w
  alter_nobody by v f first is = record {
    told = λ z m sees fit count. told_same (λ ins. alter_is z m caller e u sees by ops v (with_inputs ins w) first (alter_count z m caller e u sees by ops count)
        ∙ ap (altered_of z m e (receiver_of u (behind_first ops)) by v) (read_null z m caller e u sees (receiver_of u (behind_first ops)) f (with_inputs ins w) is));
  }

  module _ (r : Result Slot Fault) (w' : World) where
    -- no code that is fit comes here
    pub ask_property : (f : ℕ) → u.role ≡ PropertyRole f → Performed caller e u (Ask e) ops w r w'
    ask_property f role = record {
      told = λ z m sees fit count. absurd (let x : false ≡ true = sym (ap (λ y. is_called_by y u.member) role) ∙ call_fit z m caller e u sees fit in let y : ⊥ = cc in y);
    }

    pub read_other : ((f : ℕ) → u.role ≡ PropertyRole f → ⊥) → Performed caller e u (Read e) ops w r w'
    read_other other = record { told = λ z m sees fit count. absurd (not_property u.role other (read_fit z m caller e u sees fit)) }

    pub write_other : ((f : ℕ) → u.role ≡ PropertyRole f → ⊥) → Performed caller e u (Write e) ops w r w'
    write_other other = record { told = λ z m sees fit count. absurd (not_property u.role other (write_fit z m caller e u sees fit)) }

    pub alter_other : (by : Update) → ((f : ℕ) → u.role ≡ PropertyRole f → ⊥) → Performed caller e u (Alter e by) ops w r w'
    alter_other by other = record { told = λ z m sees fit count. absurd (not_property u.role other (alter_fit z m caller e u sees by fit)) }

    pub write_none : slice_get ops 0 ≡ None → Performed caller e u (Write e) ops w r w'
    unfolding operands
    write_none empty = record { told = λ z m sees fit count. absurd (omega (arith, count, no_first ops empty)) }

    pub alter_none : (by : Update) → slice_get ops 0 ≡ None → Performed caller e u (Alter e by) ops w r w'
    unfolding operands
    alter_none by empty = record { told = λ z m sees fit count. absurd (omega (arith, count, no_first ops empty)) }

-- ---- a property that is written, and one that is altered

pub put_told : (given : Slot) (r s : Result Slot Fault) (w' : World) {before : List Input → Done} → s ≡ in_place given r → Told before (λ is. done r (with_inputs is w'))
    → Told (λ is. in_place_of given (before is)) (λ is. done s (with_inputs is w'))
put_told given r s w' same t =
    told_then (told_map (in_place_of given) t) (told_same (λ is. in_place_done given r (with_inputs is w') ∙ ap (λ x. done x (with_inputs is w')) (sym same)))

module _ (z : Environment) (m : ℕ) (caller : List ℕ) (e : EntityNo) (u : HostUse) (sees : Sees z m caller e u) (r : Receiver) (object : Option ℕ) (is : object_in r ≡ Ok object) where
  pub changed_told : (x : Slot) (to : Changed) (stored given : ℕ) (s : Result Slot Fault) (w w' : World) → to ≡ Into stored given
      → Told (λ ins. in_place_of (Bits given) (asked z m e object (value_of u.driver u.result (Bits stored) ∷ []) Nothing (with_inputs ins w))) (λ ins. done s (with_inputs ins w'))
      → Told (λ ins. altered_to z m e r x to (with_inputs ins w)) (λ ins. done s (with_inputs ins w'))
  changed_told x to stored given s w w' goes t =
      told_then (told_same (λ ins. ap (λ y. altered_to z m e r x y (with_inputs ins w)) goes
      ∙ ap (in_place_of (Bits given)) (write_as z m caller e u sees r object (Bits stored) (with_inputs ins w) is))) t

  -- it can't be changed, and what was read is given up
  pub unchanged_told : (x : Slot) (to : Changed) (f : Fault) (w w' : World) → to ≡ Never f → ((ins : List Input) → give x (with_inputs ins w) ≡ with_inputs ins w')
      → Told (λ ins. altered_to z m e r x to (with_inputs ins w)) (λ ins. Fails f (with_inputs ins w'))
  unchanged_told x to f w w' goes gives =
      told_same (λ ins. ap (λ y. altered_to z m e r x y (with_inputs ins w)) goes ∙ ap (Fails f) (gives ins))

  pub alter_read : (by : Update) (v x : Slot) (old s : Result Slot Fault) (w w1 w' : World) → old ≡ Ok x
      → Told (λ ins. asked z m e object [] u.result (with_inputs ins w)) (λ ins. done old (with_inputs ins w1))
      → Told (λ ins. altered_to z m e r x (change_of by x v) (with_inputs ins w1)) (λ ins. done s (with_inputs ins w'))
      → Told (λ ins. altered_of z m e r by v (read_of z m e r (with_inputs ins w))) (λ ins. done s (with_inputs ins w'))
  alter_read by v x old s w w1 w' goes t p =
      told_then (told_same (λ ins. ap (altered_of z m e r by v) (read_as z m caller e u sees r object (with_inputs ins w) is)))
      (told_then (told_map (altered_of z m e r by v) t)
      (told_then (told_same (λ ins. ap (λ y. altered_of z m e r by v (done y (with_inputs ins w1))) goes)) p))

  pub alter_unread : (by : Update) (v : Slot) (f : Fault) (old : Result Slot Fault) (w w1 : World) → old ≡ Err f
      → Told (λ ins. asked z m e object [] u.result (with_inputs ins w)) (λ ins. done old (with_inputs ins w1))
      → Told (λ ins. altered_of z m e r by v (read_of z m e r (with_inputs ins w))) (λ ins. Fails f (with_inputs ins w1))
  alter_unread by v f old w w1 goes t =
      told_then (told_same (λ ins. ap (altered_of z m e r by v) (read_as z m caller e u sees r object (with_inputs ins w) is)))
      (told_then (told_map (altered_of z m e r by v) t) (told_same (λ ins. ap (λ y. altered_of z m e r by v (done y (with_inputs ins w1))) goes)))

pub never_of : (to : Changed) (f : Fault) → answers.altered_of to ≡ Err f → to ≡ Never f
never_of (Into stored given) f h = absurd (let x : ⊥ = cc in x)
never_of (Never g) f h = let same : g ≡ f = cc in ap Never same

pub into_of : (to : Changed) (a : Updated) → answers.altered_of to ≡ Ok a → to ≡ Into a.stored a.given
into_of (Into stored given) a h = let same : record { stored = stored; given = given } ≡ a = cc in ap (λ x. Into x.stored x.given) same
into_of (Never g) a h = absurd (let x : ⊥ = cc in x)
