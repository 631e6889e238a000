-- Variables and members are read, stored into and changed: what comes of it is typed, and the same whatever a misfit does.
use Rattle.std.proofs.Common.{◌≡◌, ℕ, suc, List, [], ◌∷◌, length, Some, refl, sym, ap, ◌∙◌, subst}
use Rattle.std.specs.Prelude.{Bool, true, false, ◌-◌, slice_get}
use Rattle.ang_typed.specs.declared.expression.HostEntity.{HostEntity}
use Rattle.ang_typed.specs.declared.expression.TypedVariable.{TypedVariable}
use Rattle.ang_typed.specs.declared.expression.TypedVariable.TheVariants as variable
use Rattle.ang_typed.specs.declared.expression.TypedMember.{TypedMember}
use Rattle.ang_typed.specs.declared.expression.TypedMember.TheVariants as member
use Rattle.ang_meaning.specs.declared.slot.Slot.{Slot}
use Rattle.ang_meaning.specs.declared.host.HostUse.{HostUse}
use Rattle.ang_meaning.specs.declared.operation.Operation.{Operation}
use Rattle.ang_meaning.specs.declared.operation.Operation.TheVariants.{GlobalGet, GlobalSet, GlobalChange, Read, Write, Alter, FieldGet, FieldSet, FieldChange}
use Rattle.ang_meaning.specs.declared.operation.Update.{Update}
use Rattle.ang_meaning.specs.World.{World}
use Rattle.ang_meaning.specs.Environment.{Environment, host_in, use_at, may_access, may_write}
use Rattle.ang_meaning.specs.Perform.{perform}
use Rattle.ang_meaning.specs.Results.{Evaluated, Ready, assigned, applied}
use Rattle.ang_source.specs.Meaning.{inner, one, two, this_of, read_variable, read_member, stored, member_stored, changed_by, member_changed}
use Rattle.ang_source_typed.specs.Types.{SlotType, Number, Key, Family, Modules}
use Rattle.ang_source_typed.specs.TypedProgram.{AreClasses, host_type, IsProperty, IsVariable, IsMember, IsStored, IsStoredMember}
use Rattle.ang_source_typed.specs.Guarded.{Guard, misfits}
use Rattle.ang_source_typed.specs.Guarded as guarded
use Rattle.ang_source_typed.proofs.Values.{typed_length}
use Rattle.ang_source_typed.proofs.Operations.{DoesWell, gets_global, sets_global, changes_global}
use Rattle.ang_source_typed.proofs.Fields.{gets_field, sets_field, changes_field}
use Rattle.ang_source_typed.proofs.HostCalls.{reads, writes, alters}
use Rattle.ang_source_typed.proofs.Ends.{At, IsGoodEnd, GoesWell, Go, applied_good, one_good, two_good, loaded_good, assigned_good, altered_good}

-- the place of a local, by how many there are
pub placed : (locals : List SlotType) (i n : ℕ) (ty : SlotType) → length locals ≡ n → slice_get locals (length locals - suc i) ≡ Some ty → slice_get locals (n - suc i) ≡ Some ty
placed locals i n ty e h = subst (λ k. slice_get locals (k - suc i) ≡ Some ty) e h

module _ (z : Environment) (ms : Modules) (T m : ℕ) (classes : (k : ℕ) → AreClasses z ms k) (y : Guard) where
  -- it gives a value of the type, and is the same in the guarded meaning
  abbrev pub Both : SlotType → List SlotType → List SlotType → List Slot → Evaluated → Evaluated → Type 0
  Both ty locals below under e other = IsGoodEnd z ms T ty locals below under e × (other ≡ e)

  -- ---- operations on none, one and two operands

  pub none_op : (o : Operation) (ty : SlotType) (locals below : List SlotType) (ls under : List Slot) (t : ℕ) (w : World) → DoesWell z ms m o [] ty → At z ms T t locals below ls under w
      → Both ty locals below under (applied (perform z m o) (Ready [] ls t w)) (applied (guarded.perform (misfits y) z m o) (Ready [] ls t w))
  none_op o ty locals below ls under t w k g = applied_good z ms T m y o [] locals below ty under (Ready [] ls t w) k (refl, g)

  pub one_op : (o : Operation) (a ty : SlotType) (locals below : List SlotType) (under : List Slot) (e other : Evaluated) → DoesWell z ms m o (a ∷ []) ty → Both a locals below under e other
      → Both ty locals below under (applied (perform z m o) (one e)) (applied (guarded.perform (misfits y) z m o) (one other))
  one_op o a ty locals below under e other k h =
      let q = applied_good z ms T m y o (a ∷ []) locals below ty under (one e) k (one_good z ms T a locals below under e h.0) in
      (q.0, ap (λ x. applied (guarded.perform (misfits y) z m o) (one x)) h.1 ∙ q.1)

  pub two_op : (o : Operation) (a b ty : SlotType) (locals below : List SlotType) (under : List Slot) (e other : Evaluated) (go go' : Go) → DoesWell z ms m o (b ∷ a ∷ []) ty
      → Both a locals below under e other → ((v : Slot) → GoesWell z ms T b locals (a ∷ below) (v ∷ under) go go')
      → Both ty locals below under (applied (perform z m o) (two e go)) (applied (guarded.perform (misfits y) z m o) (two other go'))
  two_op o a b ty locals below under e other go go' k h n =
      let t = two_good z ms T a b locals below under e go go' h.0 n in
      let q = applied_good z ms T m y o (b ∷ a ∷ []) locals below ty under (two e go) k t.0 in
      (q.0, ap (λ x. applied (guarded.perform (misfits y) z m o) (two x go')) h.1 ∙ ap (λ x. applied (guarded.perform (misfits y) z m o) x) t.1 ∙ q.1)

  -- `this`
  pub this_goes : (c : ℕ) (locals below : List SlotType) (under : List Slot) → slice_get locals (length locals - 1) ≡ Some (Family m c) → GoesWell z ms T (Family m c) locals below under this_of this_of
  this_goes c locals below under e ls t w g =
      (loaded_good z ms T (length ls - 1) (Family m c) locals below ls under t w (placed locals 0 (length ls) (Family m c) (typed_length z ms (g.1).own w.objects locals ls (g.1).locals_typed) e) g, refl)

  -- ---- properties of the host

  entity_is : (h : HostEntity) (b : Bool) (d : ℕ) (ty : SlotType) (p : IsProperty z ms m h b d ty) → use_at z m h.entity ≡ p.entity
  entity_is h b d ty p = ap host_in p.there

  member_is : (h : HostEntity) (b : Bool) (d : ℕ) (ty : SlotType) → IsProperty z ms m h b d ty → (use_at z m h.entity).member ≡ b
  member_is h b d ty p = ap (λ (u : HostUse). u.member) (entity_is h b d ty p) ∙ p.of_objects

  type_is : (h : HostEntity) (b : Bool) (d : ℕ) (ty : SlotType) → IsProperty z ms m h b d ty → host_type (use_at z m h.entity).driver (use_at z m h.entity).result ≡ ty
  type_is h b d ty p = ap (λ (u : HostUse). host_type u.driver u.result) (entity_is h b d ty p) ∙ sym p.type

  driver_is : (h : HostEntity) (b : Bool) (d : ℕ) (ty : SlotType) → IsProperty z ms m h b d ty → (use_at z m h.entity).driver ≡ d
  driver_is h b d ty p = ap (λ (u : HostUse). u.driver) (entity_is h b d ty p) ∙ p.by

  access_is : (h : HostEntity) (b : Bool) (d : ℕ) (ty : SlotType) → IsProperty z ms m h b d ty → may_access (z.host m h.entity.0) ≡ true
  access_is h b d ty p = ap may_access p.there ∙ p.property

  property_read : (h : HostEntity) (d : ℕ) (ty : SlotType) → IsProperty z ms m h false d ty → DoesWell z ms m (Read h.entity) [] ty
  property_read h d ty p = subst (λ x. DoesWell z ms m (Read h.entity) [] x) (type_is h false d ty p) (reads z ms m h.entity false (member_is h false d ty p) (access_is h false d ty p))

  object_read : (h : HostEntity) (d : ℕ) (ty : SlotType) → IsProperty z ms m h true d ty → DoesWell z ms m (Read h.entity) (Key d ∷ []) ty
  object_read h d ty p =
      subst (λ x. DoesWell z ms m (Read h.entity) (Key x ∷ []) ty) (driver_is h true d ty p)
      (subst (λ x. DoesWell z ms m (Read h.entity) (Key (use_at z m h.entity).driver ∷ []) x) (type_is h true d ty p)
      (reads z ms m h.entity true (member_is h true d ty p) (access_is h true d ty p)))

  property_write : (h : HostEntity) (d : ℕ) (ty : SlotType) → IsProperty z ms m h false d ty → may_write (z.host m h.entity.0) ≡ true → DoesWell z ms m (Write h.entity) (ty ∷ []) ty
  property_write h d ty p f =
      subst (λ x. DoesWell z ms m (Write h.entity) (x ∷ []) x) (type_is h false d ty p) (writes z ms m h.entity false (member_is h false d ty p) f)

  object_write : (h : HostEntity) (d : ℕ) (ty : SlotType) → IsProperty z ms m h true d ty → may_write (z.host m h.entity.0) ≡ true → DoesWell z ms m (Write h.entity) (Key d ∷ ty ∷ []) ty
  object_write h d ty p f =
      subst (λ x. DoesWell z ms m (Write h.entity) (Key x ∷ ty ∷ []) ty) (driver_is h true d ty p)
      (subst (λ x. DoesWell z ms m (Write h.entity) (Key (use_at z m h.entity).driver ∷ x ∷ []) x) (type_is h true d ty p)
      (writes z ms m h.entity true (member_is h true d ty p) f))

  property_alter : (h : HostEntity) (d : ℕ) (c : Update) → IsProperty z ms m h false d Number → may_write (z.host m h.entity.0) ≡ true → DoesWell z ms m (Alter h.entity c) (Number ∷ []) Number
  property_alter h d c p f =
      subst (λ x. DoesWell z ms m (Alter h.entity c) (x ∷ []) Number) (type_is h false d Number p)
      (alters z ms m h.entity false c (member_is h false d Number p) f (type_is h false d Number p))

  object_alter : (h : HostEntity) (d : ℕ) (c : Update) → IsProperty z ms m h true d Number → may_write (z.host m h.entity.0) ≡ true
      → DoesWell z ms m (Alter h.entity c) (Key d ∷ Number ∷ []) Number
  object_alter h d c p f =
      subst (λ x. DoesWell z ms m (Alter h.entity c) (Key x ∷ Number ∷ []) Number) (driver_is h true d Number p)
      (subst (λ x. DoesWell z ms m (Alter h.entity c) (Key (use_at z m h.entity).driver ∷ x ∷ []) Number) (type_is h true d Number p)
      (alters z ms m h.entity true c (member_is h true d Number p) f (type_is h true d Number p)))

  -- ---- variables

  pub read_good : (x : TypedVariable) (s : SlotType) (locals below : List SlotType) (ls under : List Slot) (t : ℕ) (w : World) → IsVariable z ms m locals x s → At z ms T t locals below ls under w
      → Both s locals below under (read_variable z m x ls t w) (guarded.read_variable (misfits y) z m x ls t w)
  read_good (variable.Local i) s locals below ls under t w h g =
      (loaded_good z ms T (length ls - suc i) s locals below ls under t w (placed locals i (length ls) s (typed_length z ms (g.1).own w.objects locals ls (g.1).locals_typed) h) g, refl)
  read_good (variable.Global n) s locals below ls under t w h g = none_op (GlobalGet n) s locals below ls under t w (gets_global z ms m n s h) g
  read_good (variable.Property p) s locals below ls under t w h g = none_op (Read p.entity) s locals below ls under t w (property_read p h.0 s h.1) g
  read_good (variable.Field i) s locals below ls under t w h g =
      one_op (FieldGet i) (Family m h.0) s locals below under (this_of ls t w) (this_of ls t w) (gets_field z ms m (classes m) h.0 i s h.2) (this_goes h.0 locals below under h.1 ls t w g)

  pub stored_good : (x : TypedVariable) (s : SlotType) (locals below : List SlotType) (first under : List Slot) (e other : Evaluated) → length locals ≡ length first → IsVariable z ms m locals x s
      → IsStored z ms m x → Both s locals below under e other → Both s locals below under (stored z m x first e) (guarded.stored (misfits y) z m x first other)
  stored_good (variable.Local i) s locals below first under e other n h k b =
      (assigned_good z ms T (length first - suc i) s locals below under e (placed locals i (length first) s n h) b.0, ap (assigned (inner first i)) b.1)
  stored_good (variable.Global j) s locals below first under e other n h k b = one_op (GlobalSet j) s s locals below under e other (sets_global z ms m j s h) b
  stored_good (variable.Property p) s locals below first under e other n h k b = one_op (Write p.entity) s s locals below under e other (property_write p h.0 s h.1 k) b
  stored_good (variable.Field i) s locals below first under e other n h k b =
      two_op (FieldSet i) s (Family m h.0) s locals below under e other this_of this_of (sets_field z ms m (classes m) h.0 i s h.2) b (λ v. this_goes h.0 locals (s ∷ below) (v ∷ under) h.1)

  pub changed_good : (x : TypedVariable) (c : Update) (locals below : List SlotType) (first under : List Slot) (e other : Evaluated) → length locals ≡ length first
      → IsVariable z ms m locals x Number → IsStored z ms m x → Both Number locals below under e other
      → Both Number locals below under (changed_by z m x first c e) (guarded.changed_by (misfits y) z m x first c other)
  changed_good (variable.Local i) c locals below first under e other n h k b =
      let q = altered_good z ms T y (length first - suc i) c locals below under e (placed locals i (length first) Number n h) b.0 in
      (q.0, ap (guarded.altered (misfits y) z (inner first i) c) b.1 ∙ q.1)
  changed_good (variable.Global j) c locals below first under e other n h k b = one_op (GlobalChange c j) Number Number locals below under e other (changes_global z ms m j c h) b
  changed_good (variable.Property p) c locals below first under e other n h k b = one_op (Alter p.entity c) Number Number locals below under e other (property_alter p h.0 c h.1 k) b
  changed_good (variable.Field i) c locals below first under e other n h k b =
      two_op (FieldChange c i) Number (Family m h.0) Number locals below under e other this_of this_of (changes_field z ms m (classes m) h.0 i c h.2) b
      (λ v. this_goes h.0 locals (Number ∷ below) (v ∷ under) h.1)

  -- ---- members

  pub member_read_good : (x : TypedMember) (object s : SlotType) (locals below : List SlotType) (under : List Slot) (e other : Evaluated) → IsMember z ms m object x s
      → Both object locals below under e other → Both s locals below under (read_member z m x e) (guarded.read_member (misfits y) z m x other)
  member_read_good (member.Field i) object s locals below under e other h b =
      one_op (FieldGet i) (Family m h.0) s locals below under e other (gets_field z ms m (classes m) h.0 i s h.2) (subst (λ a. Both a locals below under e other) h.1 b)
  member_read_good (member.Property p) object s locals below under e other h b =
      one_op (Read p.entity) (Key h.0) s locals below under e other (object_read p h.0 s h.2) (subst (λ a. Both a locals below under e other) h.1 b)

  -- the object comes after the value
  abbrev pub Next : SlotType → SlotType → List SlotType → List SlotType → List Slot → Go → Go → Type 0
  Next a object locals below under go go' = (v : Slot) → GoesWell z ms T object locals (a ∷ below) (v ∷ under) go go'

  pub member_stored_good : (x : TypedMember) (object s : SlotType) (locals below : List SlotType) (under : List Slot) (e other : Evaluated) (go go' : Go) → IsMember z ms m object x s
      → IsStoredMember z ms m x → Both s locals below under e other → Next s object locals below under go go'
      → Both s locals below under (member_stored z m x e go) (guarded.member_stored (misfits y) z m x other go')
  member_stored_good (member.Field i) object s locals below under e other go go' h k b n =
      two_op (FieldSet i) s (Family m h.0) s locals below under e other go go' (sets_field z ms m (classes m) h.0 i s h.2) b (subst (λ a. Next s a locals below under go go') h.1 n)
  member_stored_good (member.Property p) object s locals below under e other go go' h k b n =
      two_op (Write p.entity) s (Key h.0) s locals below under e other go go' (object_write p h.0 s h.2 k) b (subst (λ a. Next s a locals below under go go') h.1 n)

  pub member_changed_good : (x : TypedMember) (c : Update) (object : SlotType) (locals below : List SlotType) (under : List Slot) (e other : Evaluated) (go go' : Go) → IsMember z ms m object x Number
      → IsStoredMember z ms m x → Both Number locals below under e other → Next Number object locals below under go go'
      → Both Number locals below under (member_changed z m x c e go) (guarded.member_changed (misfits y) z m x c other go')
  member_changed_good (member.Field i) c object locals below under e other go go' h k b n =
      two_op (FieldChange c i) Number (Family m h.0) Number locals below under e other go go' (changes_field z ms m (classes m) h.0 i c h.2) b
      (subst (λ a. Next Number a locals below under go go') h.1 n)
  member_changed_good (member.Property p) c object locals below under e other go go' h k b n =
      two_op (Alter p.entity c) Number (Key h.0) Number locals below under e other go go' (object_alter p h.0 c h.2 k) b (subst (λ a. Next Number a locals below under go go') h.1 n)
