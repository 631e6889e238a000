-- Calls of the host and its properties: what is handed on is of the declared types, and what comes back is.
use Rattle.std.proofs.Common.{◌≡◌, ℕ, List, [], ◌∷◌, ◌++◌, Option, Some, None, refl, sym, ap, ◌∙◌, subst}
use Rattle.std.specs.Prelude.{Bool, true, false, ◌&&◌, map as list_map, reverse}
use mathlib.Core.List.{reverse_aux}
use Rattle.std.proofs.lemmas.List.{reverse-reverse}
use Rattle.std.proofs.lemmas.Bool.{eq-eqb}
use Rattle.ang_kinds.specs.declared.mask.EntityNo.{EntityNo}
use Rattle.ang_host.specs.declared.event.Role.{Role}
use Rattle.ang_host.specs.declared.event.Role.TheVariants.{Making, Calling, Property}
use Rattle.ang_meaning.specs.declared.slot.Slot.{Slot}
use Rattle.ang_meaning.specs.declared.slot.Slot.TheVariants.{Bits, Script, Host}
use Rattle.ang_meaning.specs.declared.host.HostValueType.{HostValueType}
use Rattle.ang_meaning.specs.declared.host.HostValueType.TheVariants.{Nothing, Plain, Handle}
use Rattle.ang_meaning.specs.declared.host.HostUse.{HostUse}
use Rattle.ang_meaning.specs.declared.operation.Operation.TheVariants.{Ask, Read, Write, Alter}
use Rattle.ang_meaning.specs.declared.operation.Update.{Update}
use Rattle.ang_meaning.specs.Numbers.{Changed, Into, Never}
use Rattle.ang_meaning.specs.World.{World, ScriptObjects}
use Rattle.ang_meaning.specs.Environment.{Environment, host_in, is_property, is_fit, may_call, may_access, may_write, use_at}
use Rattle.ang_meaning.specs.Hosts.{Done, Fine, Fails}
use Rattle.ang_meaning.specs.Perform.{perform, change_of, Receiver, NoReceiver, Of, NullReceiver, receiver_of, arguments_of, called_of, read_of, write_of, altered_to, altered_of, gives_up, in_place_of}
use Rattle.ang_meaning.specs.Counting.{IsCounted}
use Rattle.ang_source_typed.specs.Types.{SlotType, Number, Key, Modules, Owners, HasType, AllTyped, IsTypedWorld}
use Rattle.ang_source_typed.specs.TypedProgram.{Parameter, types_of, by_value, host_type, receiver_params, host_params, result_by}
use Rattle.ang_source_typed.specs.Guarded.{is_number_type, is_of_driver, is_of_host, are_of_host, with_receiver, fits}
use Rattle.ang_source_typed.proofs.Values.{leads_same, give_leads, DoneTyped, DoneLeads, done_of, later_leads, gives_up_leads, in_place_leads, asked_leads}
use Rattle.ang_source_typed.proofs.Operations.{DoesWell, both_true, number_fits}

module _ (z : Environment) (ms : Modules) (own : Owners) where
  -- ---- what is handed on

  driver_fits : (os : ScriptObjects) (d : ℕ) (v : Slot) → HasType z ms own os (Key d) v → is_of_driver d v ≡ true
  driver_fits os d (Bits n) h = absurd h
  driver_fits os d (Script None) h = refl
  driver_fits os d (Script (Some n)) h = absurd h
  driver_fits os d (Host e None) h = refl
  driver_fits os d (Host e (Some k)) h = eq-eqb d e h

  host_fits : (os : ScriptObjects) (d : ℕ) (ty : HostValueType) (v : Slot) → HasType z ms own os (host_type d ty) v → is_of_host d ty v ≡ true
  host_fits os d Nothing v h = number_fits z ms own os v h
  host_fits os d (Plain p) v h = number_fits z ms own os v h
  host_fits os d Handle v h = driver_fits os d v h

  each_fits : (os : ScriptObjects) (d : ℕ) (types : List HostValueType) (vs : List Slot) → AllTyped z ms own os (types_of (list_map (λ ty. by_value (host_type d ty)) types)) vs
      → are_of_host d types vs ≡ true
  each_fits os d [] [] h = refl
  each_fits os d [] (v ∷ vs) h = absurd h
  each_fits os d (ty ∷ types) [] h = absurd h
  each_fits os d (ty ∷ types) (v ∷ vs) h = both_true (is_of_host d ty v) (are_of_host d types vs) (host_fits os d ty v h.0) (each_fits os d types vs h.1)

  all_fit : (os : ScriptObjects) (u : HostUse) (b : Bool) (vs : List Slot)
      → AllTyped z ms own os (types_of (receiver_params u b ++ list_map (λ ty. by_value (host_type u.driver ty)) u.params)) vs
      → are_of_host u.driver (with_receiver b u.params) vs ≡ true
  all_fit os u true [] h = absurd h
  all_fit os u true (v ∷ vs) h =
      both_true (is_of_driver u.driver v) (are_of_host u.driver u.params vs) (driver_fits os u.driver v h.0) (each_fits os u.driver u.params vs h.1)
  all_fit os u false vs h = each_fits os u.driver u.params vs h

  turned_onto : (os : ScriptObjects) (a b : List SlotType) (xs ys : List Slot) → AllTyped z ms own os a xs → AllTyped z ms own os b ys
      → AllTyped z ms own os (reverse_aux a b) (reverse_aux xs ys)
  turned_onto os [] b [] ys h k = k
  turned_onto os [] b (x ∷ xs) ys h k = absurd h
  turned_onto os (s ∷ a) b [] ys h k = absurd h
  turned_onto os (s ∷ a) b (x ∷ xs) ys h k = turned_onto os a (s ∷ b) xs (x ∷ ys) h.1 (h.0, k)

types_turned : (a b : List Parameter) → types_of (reverse_aux a b) ≡ reverse_aux (types_of a) (types_of b)
types_turned [] b = refl
types_turned (p ∷ a) b = types_turned a (p ∷ b)

left_true : (a b : Bool) → (a && b) ≡ true → a ≡ true
left_true true b h = refl
left_true false b h = h

-- ---- calls

module _ (z : Environment) (ms : Modules) (m : ℕ) (e : EntityNo) where
  abbrev U : HostUse
  U = use_at z m e

  called_leads : (own : Owners) (r : Receiver) (args : List Slot) (w : World) → DoneLeads z ms own (result_by U.driver U.result U.role) w (called_of z m e r args w)
  called_leads own NoReceiver args w = asked_leads z ms own m e None _ U.result w
  called_leads own (Of k) args w = asked_leads z ms own m e (Some k) _ U.result w
  called_leads own NullReceiver args w = leads_same w

  ask_does : (own : Owners) (vs s : List Slot) (w : World) → AllTyped z ms own w.objects (types_of (host_params U)) vs → IsTypedWorld z ms own w → IsCounted (vs ++ s) w
      → (fits z m (Ask e) vs w ≡ true) × DoneTyped z ms own (result_by U.driver U.result U.role) w (perform z m (Ask e) vs w)
  unfolding perform fits
  ask_does own vs s w h t p =
      let all = receiver_params U U.member ++ list_map (λ ty. by_value (host_type U.driver ty)) U.params in
      let back : reverse (types_of (host_params U)) ≡ types_of all = ap reverse (types_turned all []) ∙ reverse-reverse (types_of all) in
      let typed : AllTyped z ms own w.objects (types_of all) (reverse vs) = subst (λ x. AllTyped z ms own w.objects x (reverse vs)) back
      (turned_onto z ms own w.objects (types_of (host_params U)) [] vs [] h tt) in
      let r = receiver_of U (reverse vs) in
      let args = arguments_of U (reverse vs) in (
        all_fit z ms own w.objects U U.member (reverse vs) typed,
        done_of z ms own (result_by U.driver U.result U.role) w _ t
            (gives_up_leads z ms own (result_by U.driver U.result U.role) vs w (called_of z m e r args w) (called_leads own r args w)),
      )

  pub asks : may_call (z.host m e.0) ≡ true → DoesWell z ms m (Ask e) (types_of (host_params U)) (result_by U.driver U.result U.role)
  unfolding is_fit
  asks f = record { fit = f; does = ask_does }

  -- ---- properties

  property_type : (role : Role) (d : ℕ) (result : HostValueType) → is_property role ≡ true → result_by d result role ≡ host_type d result
  property_type (Making f) d result h = absurd (let x : ⊥ = cc in x)
  property_type (Calling f) d result h = refl
  property_type (Property f) d result h = refl

  access_role : (o : Option HostUse) → may_access o ≡ true → is_property (host_in o).role ≡ true
  access_role None h = absurd (let x : ⊥ = cc in x)
  access_role (Some u) h = h

  pub write_role : (o : Option HostUse) → may_write o ≡ true → is_property (host_in o).role ≡ true
  write_role None h = absurd (let x : ⊥ = cc in x)
  write_role (Some u) h = left_true (is_property u.role) _ h

  -- the operands of a property: an object where it is one of objects, above what is written
  abbrev pub property_types : Bool → List SlotType → List SlotType
  property_types true types = Key U.driver ∷ types
  property_types false types = types

  pub read_leads : (own : Owners) (r : Receiver) (w : World) → is_property U.role ≡ true → DoneLeads z ms own (host_type U.driver U.result) w (read_of z m e r w)
  read_leads own NoReceiver w h = subst (λ x. DoneLeads z ms own x w (read_of z m e NoReceiver w)) (property_type U.role U.driver U.result h) (asked_leads z ms own m e None [] U.result w)
  read_leads own (Of k) w h = subst (λ x. DoneLeads z ms own x w (read_of z m e (Of k) w)) (property_type U.role U.driver U.result h) (asked_leads z ms own m e (Some k) [] U.result w)
  read_leads own NullReceiver w h = leads_same w

  write_leads : (own : Owners) (r : Receiver) (v : Slot) (w : World) → DoneLeads z ms own (result_by U.driver Nothing U.role) w (write_of z m e r v w)
  write_leads own NoReceiver v w = asked_leads z ms own m e None _ Nothing w
  write_leads own (Of k) v w = asked_leads z ms own m e (Some k) _ Nothing w
  write_leads own NullReceiver v w = leads_same w

  written_leads : (own : Owners) (ty : SlotType) (r : Receiver) (v given : Slot) (w : World) → HasType z ms own w.objects ty given → DoneLeads z ms own ty w (in_place_of given (write_of z m e r v w))
  written_leads own ty r v given w h = in_place_leads z ms own ty (result_by U.driver Nothing U.role) given w (write_of z m e r v w) h (write_leads own r v w)

  change_leads : (own : Owners) (r : Receiver) (x : Slot) (c : Changed) (w : World) → DoneLeads z ms own Number w (altered_to z m e r x c w)
  change_leads own r x (Into stored given) w = written_leads own Number r (Bits stored) (Bits given) w tt
  change_leads own r x (Never f) w = give_leads x w

  altered_leads : (own : Owners) (ty : SlotType) (r : Receiver) (c : Update) (v : Slot) (w : World) (d : Done) → DoneLeads z ms own ty w d → DoneLeads z ms own Number w (altered_of z m e r c v d)
  altered_leads own ty r c v w (Fine x u) h = later_leads z ms own Number w u (altered_to z m e r x (change_of c x v) u) h.1 (change_leads own r x (change_of c x v) u)
  altered_leads own ty r c v w (Fails f u) h = h

  operands_fit : (own : Owners) (os : ScriptObjects) (b : Bool) (types : List HostValueType) (vs : List Slot)
      → AllTyped z ms own os (property_types b (types_of (list_map (λ ty. by_value (host_type U.driver ty)) types))) vs → are_of_host U.driver (with_receiver b types) vs ≡ true
  operands_fit own os true types [] h = absurd h
  operands_fit own os true types (v ∷ vs) h =
      both_true (is_of_driver U.driver v) (are_of_host U.driver types vs) (driver_fits z ms own os U.driver v h.0) (each_fits z ms own os U.driver types vs h.1)
  operands_fit own os false types vs h = each_fits z ms own os U.driver types vs h

  read_does : (b : Bool) → U.member ≡ b → is_property U.role ≡ true → (own : Owners) (vs s : List Slot) (w : World) → AllTyped z ms own w.objects (property_types b []) vs
      → IsTypedWorld z ms own w → IsCounted (vs ++ s) w → (fits z m (Read e) vs w ≡ true) × DoneTyped z ms own (host_type U.driver U.result) w (perform z m (Read e) vs w)
  unfolding perform fits
  read_does b k f own vs s w h t p =
      let r = receiver_of U vs in (
        subst (λ x. are_of_host U.driver (with_receiver x []) vs ≡ true) (sym k) (operands_fit own w.objects b [] vs h),
        done_of z ms own (host_type U.driver U.result) w _ t (gives_up_leads z ms own (host_type U.driver U.result) vs w (read_of z m e r w) (read_leads own r w f)),
      )

  pub reads : (b : Bool) → U.member ≡ b → may_access (z.host m e.0) ≡ true → DoesWell z ms m (Read e) (property_types b []) (host_type U.driver U.result)
  unfolding is_fit
  reads b k f = record { fit = f; does = read_does b k (access_role (z.host m e.0) f) }

  write_done : (own : Owners) (ty : SlotType) (vs : List Slot) (r : Receiver) (v : Slot) (w : World) → HasType z ms own w.objects ty v → IsTypedWorld z ms own w
      → DoneTyped z ms own ty w (gives_up vs (in_place_of v (write_of z m e r v w)))
  write_done own ty vs r v w h t =
      done_of z ms own ty w _ t (gives_up_leads z ms own ty vs w (in_place_of v (write_of z m e r v w)) (written_leads own ty r v v w h))

  write_does : (b : Bool) → U.member ≡ b → (own : Owners) (vs s : List Slot) (w : World) → AllTyped z ms own w.objects (property_types b (host_type U.driver U.result ∷ [])) vs
      → IsTypedWorld z ms own w → IsCounted (vs ++ s) w → (fits z m (Write e) vs w ≡ true) × DoneTyped z ms own (host_type U.driver U.result) w (perform z m (Write e) vs w)
  unfolding perform fits
  write_does true k own [] s w h t p = absurd h
  write_does true k own (o ∷ []) s w h t p = absurd h.1
  write_does true k own (o ∷ (v ∷ [])) s w h t p = (
    subst (λ x. are_of_host U.driver (with_receiver x (U.result ∷ [])) (o ∷ v ∷ []) ≡ true) (sym k) (operands_fit own w.objects true (U.result ∷ []) (o ∷ v ∷ []) h),
    write_done own (host_type U.driver U.result) (o ∷ []) (receiver_of U (o ∷ [])) v w h.1.0 t,
  )
  write_does true k own (o ∷ (v ∷ (u ∷ us))) s w h t p = absurd h.1.1
  write_does false k own [] s w h t p = absurd h
  write_does false k own (v ∷ []) s w h t p = (
    subst (λ x. are_of_host U.driver (with_receiver x (U.result ∷ [])) (v ∷ []) ≡ true) (sym k) (operands_fit own w.objects false (U.result ∷ []) (v ∷ []) h),
    done_of z ms own (host_type U.driver U.result) w _ t (written_leads own (host_type U.driver U.result) (receiver_of U []) v v w h.0),
  )
  write_does false k own (v ∷ (u ∷ us)) s w h t p = absurd h.1

  pub writes : (b : Bool) → U.member ≡ b → may_write (z.host m e.0) ≡ true
      → DoesWell z ms m (Write e) (property_types b (host_type U.driver U.result ∷ [])) (host_type U.driver U.result)
  unfolding is_fit
  writes b k f = record { fit = f; does = write_does b k }

  number_type : (d : ℕ) (ty : HostValueType) → host_type d ty ≡ Number → is_number_type ty ≡ true
  number_type d Nothing h = refl
  number_type d (Plain p) h = refl
  number_type d Handle h = absurd (let x : ⊥ = cc in x)

  alter_does : (b : Bool) (c : Update) → U.member ≡ b → is_property U.role ≡ true → host_type U.driver U.result ≡ Number → (own : Owners) (vs s : List Slot) (w : World)
      → AllTyped z ms own w.objects (property_types b (host_type U.driver U.result ∷ [])) vs → IsTypedWorld z ms own w → IsCounted (vs ++ s) w
      → (fits z m (Alter e c) vs w ≡ true) × DoneTyped z ms own Number w (perform z m (Alter e c) vs w)
  unfolding perform fits
  alter_does true c k f n own [] s w h t p = absurd h
  alter_does true c k f n own (o ∷ []) s w h t p = absurd h.1
  alter_does true c k f n own (o ∷ (v ∷ [])) s w h t p =
      let r = receiver_of U (o ∷ []) in (
        both_true (is_number_type U.result) (are_of_host U.driver (with_receiver U.member (U.result ∷ [])) (o ∷ v ∷ [])) (number_type U.driver U.result n)
            (subst (λ x. are_of_host U.driver (with_receiver x (U.result ∷ [])) (o ∷ v ∷ []) ≡ true) (sym k) (operands_fit own w.objects true (U.result ∷ []) (o ∷ v ∷ []) h)),
        done_of z ms own Number w _ t
            (gives_up_leads z ms own Number (o ∷ []) w _ (altered_leads own (host_type U.driver U.result) r c v w (read_of z m e r w) (read_leads own r w f))),
      )
  alter_does true c k f n own (o ∷ (v ∷ (u ∷ us))) s w h t p = absurd h.1.1
  alter_does false c k f n own [] s w h t p = absurd h
  alter_does false c k f n own (v ∷ []) s w h t p =
      let r = receiver_of U [] in (
        both_true (is_number_type U.result) (are_of_host U.driver (with_receiver U.member (U.result ∷ [])) (v ∷ [])) (number_type U.driver U.result n)
            (subst (λ x. are_of_host U.driver (with_receiver x (U.result ∷ [])) (v ∷ []) ≡ true) (sym k) (operands_fit own w.objects false (U.result ∷ []) (v ∷ []) h)),
        done_of z ms own Number w _ t (altered_leads own (host_type U.driver U.result) r c v w (read_of z m e r w) (read_leads own r w f)),
      )
  alter_does false c k f n own (v ∷ (u ∷ us)) s w h t p = absurd h.1

  pub alters : (b : Bool) (c : Update) → U.member ≡ b → may_write (z.host m e.0) ≡ true → host_type U.driver U.result ≡ Number
      → DoesWell z ms m (Alter e c) (property_types b (host_type U.driver U.result ∷ [])) Number
  unfolding is_fit
  alters b c k f n = record { fit = f; does = alter_does b c k (write_role (z.host m e.0) f) n }
