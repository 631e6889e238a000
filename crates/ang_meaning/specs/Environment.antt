-- What stays the same while a run goes on: the modules, the registered entities, the functions and where the imports lead.
use Rattle.std.specs.FinMap as map
use Rattle.std.specs.Prelude.{ℕ, ◌-◌, Bool, true, false, ◌&&◌, not, is_some, List, [], ◌∷◌, length, take, slice_index_or, Option, Some, None}
use Rattle.ang_kinds.specs.declared.fault.Fault.{Fault}
use Rattle.ang_kinds.specs.declared.fault.Fault.TheVariants.{Null, Unbound}
use Rattle.ang_meaning.specs.declared.slot.Slot.{Slot}
use Rattle.ang_meaning.specs.declared.slot.Slot.TheVariants.{Bits, Script, Host}
use Rattle.ang_kinds.specs.declared.mask.EntityNo.{EntityNo}
use Rattle.ang_host.specs.declared.event.Role.TheVariants.{Making as MakingRole, Calling as CallingRole, Property as PropertyRole}
use Rattle.ang_host.specs.declared.event.Role.{Role}
use Rattle.ang_meaning.specs.declared.class.Class.{Class}
use Rattle.ang_meaning.specs.declared.class.ValueKind.{ValueKind}
use Rattle.ang_meaning.specs.declared.class.ValueKind.TheVariants.{Number as NumberField, Handle as HandleField}
use Rattle.ang_meaning.specs.declared.host.HostValueType.TheVariants.{Nothing}
use Rattle.ang_meaning.specs.declared.operation.Operation.{Operation}
use Rattle.ang_meaning.specs.declared.operation.Operation.TheVariants.{Binary, Compare, Convert, Negate, Complement, Not, Same, GlobalGet, GlobalSet, GlobalChange, Ask, Read, Write, Alter, Make, FieldGet, FieldSet, FieldChange, Cast}
use Rattle.ang_meaning.specs.declared.host.HostUse.{HostUse}
use Rattle.ang_meaning.specs.World.{World, ScriptRecord}
use Rattle.ang_meaning.specs.declared.routine.Routine.{Routine}
use Rattle.ang_meaning.specs.declared.routine.Callee.{Callee}
use Rattle.ang_meaning.specs.declared.routine.Callee.TheVariants.{Own, Import, Virtual}
use Rattle.ang_meaning.specs.declared.routine.Passing.{Passing}
use Rattle.ang_meaning.specs.declared.routine.Passing.TheVariants.{Object}

-- The first number of each is a module's. The values of a function's parameters come with the last one first, here and everywhere.
pub record Environment : Type 0 where
  -- a module's name
  pub name : ℕ → List ℕ
  -- the registered entities that the module sees, by their numbers (docs/CLAIMS.md, "Masks and views")
  pub host : ℕ → ℕ → Option HostUse
  -- an import's parameters as the module declares them (the AngelScript manual, "Imports"): it takes no objects but handles, so its call never faults with `Null`
  pub imported : ℕ → ℕ → Option (List Passing)
  -- where an import leads, if it is bound
  pub linked : ℕ → ℕ → Option Routine
  -- the classes of a module, by their numbers
  pub class : ℕ → ℕ → Option Class
  -- the method that a class has in a slot, its own or an inherited one (the manual, "Inheritance and polymorphism")
  pub method : ℕ → ℕ → ℕ → Option Routine
  -- the parameters of the methods in a slot, of which the receiver is the first one, so the last of the list
  pub slot : ℕ → ℕ → Option (List Passing)
  -- a function's parameters, where there is such a function
  pub params : Routine → Option (List Passing)
  -- how many functions may stand one inside the other: 200, and 201 where the outermost is an initializer, which does not count
  pub nesting : ℕ

-- what a field holds while nothing was stored in it: a variable without an initializer is 0, false or null (the manual, "Variable declarations")
abbrev pub default_of : ValueKind → Slot
default_of NumberField = Bits 0
default_of HandleField = Script None

-- stands where there is no class; no operation that is fit makes one
abbrev pub class_in : Option Class → Class
class_in None = record { number = 0; rank = 0; fields = []; under = [] }
class_in (Some c) = c

-- the class of a number, as its objects have it
abbrev pub class_at : Environment → ℕ → ℕ → Class
class_at z m c = record (class_in (z.class m c)) { number = c }

-- stands where there is no entity; no sound code asks it
abbrev pub nobody : HostUse
nobody = record { driver = 0; role = CallingRole 0; member = false; params = []; result = Nothing; read_only = false }

abbrev pub host_in : Option HostUse → HostUse
host_in None = nobody
host_in (Some u) = u

abbrev pub use_at : Environment → ℕ → EntityNo → HostUse
use_at z m e = host_in (z.host m e.0)

-- the function that a call enters, or why it enters none
pub data Found : Type 0 where
  Enters : Routine → Found
  Misses : Fault → Found

abbrev pub bound : Option Routine → Found
bound (Some g) = Enters g
bound None = Misses Unbound

-- the parameters there are, and none where there is no such function or slot
abbrev pub params_in : Option (List Passing) → List Passing
params_in (Some ps) = ps
params_in None = []

-- the method of an object's class in a slot; null where there is no object
abbrev pub method_of : Environment → ℕ → ℕ → Option ScriptRecord → Found
method_of z m s None = Misses Null
method_of z m s (Some o) = bound (z.method m o.class s)

abbrev pub virtual_of : Environment → ℕ → ℕ → Slot → World → Found
virtual_of z m s (Script (Some n)) w = method_of z m s (map.get w.objects n)
virtual_of z m s _ w = Misses Null

-- the value of the first parameter: the last of as many values as there are parameters, and 0 where there are none or too few
abbrev pub receiver_in : List Passing → List Slot → Slot
receiver_in ps vs = slice_index_or (take (length ps) vs) (length ps - 1) (Bits 0)

-- What a callee means in a module, where the values on top are its arguments, the last one first. A method is that of the receiver's class (the
-- AngelScript manual, "Inheritance and polymorphism").
unfoldable pub target : Environment → ℕ → Callee → List Slot → World → Found
target z m (Own g) vs w = Enters (record { home = m; number = g })
target z m (Import i) vs w = bound (z.linked m i)
target z m (Virtual s) vs w = virtual_of z m s (receiver_in (params_in (z.slot m s)) vs) w

unfoldable pub is_null : Slot → Bool
is_null (Script None) = true
is_null (Host d None) = true
is_null _ = false

-- whether each parameter that wants an object has one; both lists have the last one first
abbrev pub has_objects : List Passing → List Slot → Bool
has_objects [] vs = true
has_objects (p ∷ ps) [] = true
has_objects (Object ∷ ps) (v ∷ vs) = not (is_null v) && has_objects ps vs
has_objects (p ∷ ps) (v ∷ vs) = has_objects ps vs

abbrev pub params_of : Environment → Routine → List Passing
params_of z g = params_in (z.params g)

-- whether an entity is asked by a call: a function or method, or a factory, which makes an object and has no receiver
abbrev pub is_called_by : Role → Bool → Bool
is_called_by (MakingRole f) member = not member
is_called_by (CallingRole f) member = true
is_called_by (PropertyRole f) member = false

abbrev pub is_property : Role → Bool
is_property (PropertyRole f) = true
is_property _ = false

abbrev pub may_call : Option HostUse → Bool
may_call None = false
may_call (Some u) = is_called_by u.role u.member

abbrev pub may_access : Option HostUse → Bool
may_access None = false
may_access (Some u) = is_property u.role

-- a property that is not `const` (the AngelScript manual, "Registering global properties")
abbrev pub may_write : Option HostUse → Bool
may_write None = false
may_write (Some u) = is_property u.role && not u.read_only

-- Whether an operation asks an entity that there is, in the way of its role, or makes an object of a class that there is.
unfoldable pub is_fit : Environment → ℕ → Operation → Bool
is_fit z m (Binary a p) = true
is_fit z m (Compare c signed) = true
is_fit z m (Convert p) = true
is_fit z m (Negate p) = true
is_fit z m (Complement p) = true
is_fit z m Not = true
is_fit z m Same = true
is_fit z m (GlobalGet g) = true
is_fit z m (GlobalSet g) = true
is_fit z m (GlobalChange c g) = true
is_fit z m (Ask e) = may_call (z.host m e.0)
is_fit z m (Read e) = may_access (z.host m e.0)
is_fit z m (Write e) = may_write (z.host m e.0)
is_fit z m (Alter e c) = may_write (z.host m e.0)
is_fit z m (Make c) = is_some (z.class m c)
is_fit z m (FieldGet i) = true
is_fit z m (FieldSet i) = true
is_fit z m (FieldChange c i) = true
is_fit z m (Cast c) = true
