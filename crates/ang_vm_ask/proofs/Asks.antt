-- One host call, over worlds.
use Rattle.std.proofs.Common.{◌≡◌, ◌<◌, ◌+◌, ℕ, suc, List, [], ◌∷◌, ◌++◌, Bool, true, false, cond, Option, Some, refl, sym, ap, ◌∙◌, arith}
use Rattle.std.specs.Prelude.{◌&&◌, Err}
use Rattle.std.proofs.lemmas.Bool.{lt-ltb, le-leb}
use Rattle.ang_kinds.specs.declared.mask.EntityNo.{EntityNo}
use Rattle.ang_kinds.specs.declared.value.Value.{Value}
use Rattle.ang_kinds.specs.declared.fault.Fault.TheVariants.{Memory}
use Rattle.ang_host.specs.declared.answer.Made.{Made}
use Rattle.ang_host.specs.declared.answer.Made.TheVariants.{Key as MadeKey, Nothing as MadeNothing, Fault as MadeFault, Memory as MadeMemory, Full as MadeFull}
use Rattle.ang_host.specs.declared.answer.Answer.{Answer}
use Rattle.ang_host.specs.declared.answer.HostReply.{HostReply}
use Rattle.ang_host.specs.declared.answer.HostReply.TheVariants.{Making, Asking}
use Rattle.ang_host.specs.declared.event.HostEvent.{HostEvent}
use Rattle.ang_host.specs.declared.event.HostEvent.TheVariants.{Called}
use Rattle.ang_host.specs.declared.event.Role.{Role}
use Rattle.ang_host.specs.declared.event.Role.TheVariants.{Making as MakingRole, Calling as CallingRole, Property as PropertyRole}
use Rattle.ang_meaning.specs.declared.slot.Slot.{Slot}
use Rattle.ang_meaning.specs.declared.slot.Slot.TheVariants.{Host}
use Rattle.ang_meaning.specs.declared.host.HostValueType.{HostValueType}
use Rattle.ang_meaning.specs.declared.host.HostUse.{HostUse}
use Rattle.ang_meaning.specs.World.{World, Input, HostCounts, Room, Said, or_else, memory_step, with_inputs, one_more, live_hosts}
use Rattle.ang_meaning.specs.Environment.{Environment, host_in, use_at}
use Rattle.ang_meaning.specs.Hosts.{Fails, is_reply_to, replied_by, may_ask, asked_from, asked}
use Rattle.ang_meaning.specs.Told.{Told}
use Rattle.ang_meaning.specs.Counting.{CanGive}
use Rattle.ang_meaning.proofs.Enough.{more_can}
use Rattle.ang_meaning.proofs.Telling.{told_same, told_then}
use Rattle.ang_heap.proofs.Hosting.{made_by}
use Rattle.ang_vm_ask.specs.Askings.{Sees}
use Rattle.ang_vm_stack.specs.Arms.{done}
use Rattle.ang_vm_ask.specs.Replies.{with_result, made_as, objects_made}

-- how many events are listed or owed once a driver has answered so: a made object will end
abbrev pub owed_by : Made → ℕ → ℕ
owed_by (MadeKey k) n = suc n
owed_by MadeNothing n = n
owed_by (MadeFault f) n = n
owed_by MadeMemory n = n
owed_by MadeFull n = n

pub owed_as : (r : Made) (n : ℕ) → owed_by r n ≡ n + objects_made r
owed_as (MadeKey k) n = omega arith
owed_as MadeNothing n = omega arith
owed_as (MadeFault f) n = omega arith
owed_as MadeMemory n = omega arith
owed_as MadeFull n = omega arith

-- what a making gives, and what it leaves
made_reply : (d : ℕ) (result : HostValueType) (r : Made) (w : World)
    → replied_by d result (Making r) w ≡ done (made_as d r) (record w { hosts = made_by r d w.hosts; reserved = owed_by r w.reserved })
unfolding replied_by one_more
made_reply d result (MadeKey k) w = refl
made_reply d result MadeNothing w = refl
made_reply d result (MadeFault n) w = refl
made_reply d result MadeMemory w = refl
made_reply d result MadeFull w = refl

-- ---- what the host's bounds allow

-- it is seen without the inputs
asked_apart : (role : Role) (is : List Input) (w : World) → may_ask role (with_inputs is w) ≡ may_ask role w
asked_apart (MakingRole f) is w = refl
asked_apart (CallingRole f) is w = refl
asked_apart (PropertyRole f) is w = refl

-- one event more for a call or for a property
pub call_allowed : (role : Role) (f : ℕ) (w : World) → role ≡ CallingRole f → w.reserved < w.bounds.events → may_ask role w ≡ true
call_allowed role f w e few = ap (λ r. may_ask r w) e ∙ le-leb (w.reserved + 1) w.bounds.events (omega (arith, few))

pub property_allowed : (role : Role) (f : ℕ) (w : World) → role ≡ PropertyRole f → w.reserved < w.bounds.events → may_ask role w ≡ true
property_allowed role f w e few = ap (λ r. may_ask r w) e ∙ le-leb (w.reserved + 1) w.bounds.events (omega (arith, few))

-- one object more for a factory, with its end
pub making_allowed : (role : Role) (f : ℕ) (w : World) → role ≡ MakingRole f → live_hosts w < w.bounds.objects → w.reserved + 1 < w.bounds.events → may_ask role w ≡ true
making_allowed role f w e few ends =
    ap (λ r. may_ask r w) e
    ∙ (λ j. (lt-ltb (live_hosts w) w.bounds.objects few) j && (le-leb (w.reserved + 2) w.bounds.events (omega (arith, ends))) j)

-- ---- one host call

module _ (z : Environment) (m : ℕ) (caller : List ℕ) (e : EntityNo) (u : HostUse) (sees : Sees z m caller e u) where
  pub use_is : use_at z m e ≡ u
  use_is = ap host_in sees.host

  module _ (object : Option ℕ) (args : List Value) (result : HostValueType) where
    -- it is asked or refused, as the bounds allow
    asked_where : (b : Bool) (is : List Input) (w : World) → may_ask u.role w ≡ b
        → asked z m e object args result (with_inputs is w)
        ≡ cond b (or_else (memory_step (with_inputs is w)) (Fails Memory) (λ x. asked_from z m e object args result x.inputs x)) (Fails Memory (with_inputs is w))
    unfolding asked
    asked_where b is w h =
        let v = with_inputs is w in
        let either = λ (x : Bool). cond x (or_else (memory_step v) (Fails Memory) (λ x. asked_from z m e object args result x.inputs x)) (Fails Memory v) in
        ap (λ x. either (may_ask x.role v)) use_is ∙ ap either (asked_apart u.role is w ∙ h)

    -- there is no memory for the event, or it would be beyond a bound, where no input is used
    unheard : (b : Bool) (w : World) → may_ask u.role w ≡ b → Told (λ is. asked z m e object args result (with_inputs is w)) (λ is. Fails Memory (with_inputs is w))
    unfolding memory_step
    unheard true w h = record { used = Room false ∷ []; tells = λ rest. asked_where true (Room false ∷ rest) w h }
    unheard false w h = record { used = []; tells = λ rest. asked_where false rest w h }

    pub refused : (w : World) (es : List HostEvent) (n : ℕ) → es ≡ w.events → n ≡ w.reserved
        → Told (λ is. asked z m e object args result (with_inputs is w)) (λ is. done (Err Memory) (with_inputs is (record w { events = es; reserved = n })))
    refused w es n same level =
        told_then (unheard (may_ask u.role w) w refl) (told_same (λ is. (λ j. Fails Memory (with_inputs is (record w { events = (sym same) j; reserved = (sym level) j })))))

    -- the driver says this
    said : (reply : HostReply) (w : World) → may_ask u.role w ≡ true → is_reply_to u.role reply ≡ true
        → Told (λ is. asked z m e object args result (with_inputs is w))
        (λ is. replied_by u.driver result reply (with_inputs is (record w { events = w.events ++ Called caller e u.driver object args reply ∷ []; reserved = suc w.reserved })))
    unfolding memory_step
    said reply w allowed kind = record {
      used = Room true ∷ (Said reply ∷ []);
      tells = λ rest.
          let left = λ (n : List ℕ) (d : ℕ). record w { inputs = rest; events = w.events ++ Called n e d object args reply ∷ []; reserved = suc w.reserved } in
          let unsaid = Fails Memory (with_inputs (Said reply ∷ rest) w) in
          asked_where true (Room true ∷ Said reply ∷ rest) w allowed
          ∙ ap (λ h. cond (is_reply_to h.role reply) (replied_by h.driver result reply (left (z.name m) h.driver)) unsaid) use_is
          ∙ ap (λ b. cond b (replied_by u.driver result reply (left (z.name m) u.driver)) unsaid) kind
          ∙ ap (λ n. replied_by u.driver result reply (left n u.driver)) sees.name;
    }

    -- the same, in a world with these counts and events
    pub told_by : (reply : HostReply) (w : World) (hs : HostCounts) (es : List HostEvent) (n : ℕ) → may_ask u.role w ≡ true → is_reply_to u.role reply ≡ true → hs ≡ w.hosts
        → es ≡ w.events ++ Called caller e u.driver object args reply ∷ [] → n ≡ suc w.reserved
        → Told (λ is. asked z m e object args result (with_inputs is w)) (λ is. replied_by u.driver result reply (with_inputs is (record w { hosts = hs; events = es; reserved = n })))
    told_by reply w hs es n allowed kind same listed level =
        told_then (said reply w allowed kind)
        (told_same (λ is. (λ j. replied_by u.driver result reply (with_inputs is (record w { hosts = (sym same) j; events = (sym listed) j; reserved = (sym level) j })))))

    -- a making
    pub made_told : (r : Made) (w : World) (hs : HostCounts) (es : List HostEvent) (n : ℕ) → may_ask u.role w ≡ true → is_reply_to u.role (Making r) ≡ true → hs ≡ made_by r u.driver w.hosts
        → es ≡ w.events ++ Called caller e u.driver object args (Making r) ∷ [] → n ≡ suc w.reserved + objects_made r
        → Told (λ is. asked z m e object args result (with_inputs is w)) (λ is. done (made_as u.driver r) (with_inputs is (record w { hosts = hs; events = es; reserved = n })))
    made_told r w hs es n allowed kind now listed level =
        told_then (told_by (Making r) w w.hosts es (suc w.reserved) allowed kind refl listed refl)
        (told_same (λ is. made_reply u.driver result r (with_inputs is (record w { events = es; reserved = suc w.reserved }))
        ∙ (λ j. done (made_as u.driver r) (with_inputs is (record w { hosts = (sym now) j; events = es; reserved = (owed_as r (suc w.reserved) ∙ sym level) j })))))

-- of which kind a reply is
pub by_making : (role : Role) (f : ℕ) (r : Made) → role ≡ MakingRole f → is_reply_to role (Making r) ≡ true
by_making role f r e = ap (λ x. is_reply_to x (Making r)) e

pub by_calling : (role : Role) (f : ℕ) (a : Answer) → role ≡ CallingRole f → is_reply_to role (Asking a) ≡ true
by_calling role f a e = ap (λ x. is_reply_to x (Asking a)) e

pub by_property : (role : Role) (f : ℕ) (a : Answer) → role ≡ PropertyRole f → is_reply_to role (Asking a) ≡ true
by_property role f a e = ap (λ x. is_reply_to x (Asking a)) e

-- the event with the arguments as they were handed over
pub listed_by : (es fs gs : List HostEvent) (name : List ℕ) (e : EntityNo) (d : ℕ) (object : Option ℕ) (args args' : List Value) (reply : HostReply)
    → es ≡ fs ++ Called name e d object args' reply ∷ [] → fs ≡ gs → args' ≡ args → es ≡ gs ++ Called name e d object args reply ∷ []
listed_by es fs gs name e d object args args' reply h p r = h ∙ (λ j. p j ++ Called name e d object (r j) reply ∷ [])

-- there is enough for the new object's first place too
pub made_can : (d : ℕ) (r : Made) (vs : List Slot) (w : World) → CanGive vs w → CanGive (with_result (made_as d r) vs) (record w { hosts = made_by r d w.hosts })
unfolding one_more
made_can d (MadeKey k) vs w c = more_can (Host d (Some k)) vs w c
made_can d MadeNothing vs w c = c
made_can d (MadeFault n) vs w c = c
made_can d MadeMemory vs w c = c
made_can d MadeFull vs w c = c
