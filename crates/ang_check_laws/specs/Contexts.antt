-- What a body is typed in: what holds of the host's declarations, the names and the classes of its module. The typing of expressions and statements stands on
-- these facts alone; that a build gives them is said elsewhere.
use Rattle.std.specs.Prelude.{◌≡◌, ◌≢◌, ℕ, suc, ◌-◌, ◌≤◌, ◌<◌, ◌==◌, true, false, List, [], ◌∷◌, ◌++◌, map, length, reverse, Option, Some, None, IfSome, slice_get}
use Rattle.std.specs.List.{list_any}
use Rattle.ang_kinds.specs.declared.types.Pass.{Pass}
use Rattle.ang_kinds.specs.declared.types.Pass.TheVariants as pass
use Rattle.ang_view.specs.Values.{TakesValues}
use Rattle.ang_types.specs.declared.arg_type.ArgType.{ArgType}
use Rattle.ang_types.specs.declared.arg_type.ArgType.TheVariants as type
use Rattle.ang_types.specs.Overloads.{Params}
use Rattle.ang_types.specs.Ranks.{Ancestors, is_above}
use Rattle.ang_tree.specs.Stmt.{Every}
use Rattle.ang_names_known.specs.declared.names.Default.TheVariants as default
use Rattle.ang_names_known.specs.declared.names.Family.{Family as ScriptFamily}
use Rattle.ang_names_known.specs.declared.names.FoundField.{FoundField}
use Rattle.ang_names_known.specs.declared.names.Names.{Names}
use Rattle.ang_names_known.specs.declared.names.ScriptFunction.{ScriptFunction}
use Rattle.ang_names_known.specs.declared.names.ScriptGlobal.{ScriptGlobal}
use Rattle.ang_names_known.specs.Lookup.{FoundMethod, field_named, methods_named, is_under, default_of}
use Rattle.ang_names_known.specs.Spaces.{family_type}
use Rattle.ang_check_uses.specs.declared.uses.Callable.{Callable}
use Rattle.ang_check_uses.specs.declared.uses.Called.{Called}
use Rattle.ang_check_uses.specs.declared.uses.Called.TheVariants as calls
use Rattle.ang_check_uses.specs.Uses.{own_function, imported_function, makers_in}
use Rattle.ang_check.specs.Typing.{typed_parameters}
use Rattle.ang_check_stmt.specs.declared.frame.Returns.{Returns}
use Rattle.ang_check_stmt.specs.declared.frame.Returns.TheVariants as returns
use Rattle.ang_check_stmt.specs.Typing.{FunctionContext}
use Rattle.ang_check_context.specs.declared.scope.LocalVariable.{LocalVariable}
use Rattle.ang_check_context.specs.declared.scope.Within.{Within}
use Rattle.ang_check_context.specs.Scope.{BodyContext}
use Rattle.ang_check_typing.specs.Calls.{virtual_method, direct_method}
use Rattle.ang_meaning.specs.declared.host.HostUse.{HostUse}
use Rattle.ang_meaning.specs.declared.routine.Passing.{Passing}
use Rattle.ang_meaning.specs.declared.routine.Passing.TheVariants.{Out, Object}
use Rattle.ang_meaning.specs.Environment.{Environment, may_call}
use Rattle.ang_source.specs.Hosts.{HasView}
use Rattle.ang_source_typed.specs.Types.{SlotType, Family, Modules, slot_type, object_type, first_family, field_types, global_types, IsA, IsUnder}
use Rattle.ang_source_typed.specs.TypedProgram.{Parameter, Signature, host_params, result_by, parameter_of, HasSignature, IsCallee, IsMethod, AreClasses}
use Rattle.ang_check_laws.specs.HostTypes.{HandlesAreOwn}

-- In a setting with these modules, in module m:
module _ (z : Environment) (ms : Modules) (m : ℕ) where
  -- what a place of a declared type holds
  abbrev pub place_type : ArgType → SlotType
  place_type ty = slot_type (ms m).view m ty

  -- A type that something is declared with: no variable has that of `null`, and a class or an interface is there, so that it stands under itself.
  pub record IsDeclared (ty : ArgType) : Type 0 where
    pub not_null : ty ≢ type.Null
    pub itself : IsA z ms (place_type ty) (place_type ty)

  -- ---- calls

  -- What is an argument for the first parameter is one for the second.
  pub record TakesOne (p : ArgType × Pass) (q : Parameter) : Type 0 where
    pub value : IsA z ms (place_type p.0) q.type
    pub out : p.1 ≡ pass.RefOut → (q.passing ≡ Out) × (q.type ≡ place_type p.0) × (p.0 ≢ type.Null)
    pub only : q.passing ≡ Out → p.1 ≡ pass.RefOut

  abbrev pub Takes : Params → List Parameter → Type 0
  Takes [] [] = Unit {0}
  Takes [] (q ∷ qs) = ⊥
  Takes (p ∷ ps) [] = ⊥
  Takes (p ∷ ps) (q ∷ qs) = TakesOne p q × Takes ps qs

  -- Body k makes an object of class c of arguments for these parameters, and gives a value of this type.
  abbrev pub IsMaker : ℕ → ℕ → Params → SlotType → Type 0
  IsMaker c k ps ty =
      (s : Signature) × (qs : List Parameter) × (this : Passing) × HasSignature z ms m k s × (this ≢ Out)
      × (s.params ≡ reverse qs ++ (record { passing = this; type = Family m c } ∷ [])) × Takes ps qs × IsA z ms s.result ty

  -- It takes arguments for these parameters, the first one first, and gives a value of this type.
  abbrev pub Gives : Called → Params → SlotType → Type 0
  Gives (calls.Script f) ps ty =
      (s : Signature) × (qs : List Parameter) × IsCallee z ms m f s × (s.params ≡ reverse qs) × Takes ps qs × IsA z ms s.result ty
  Gives (calls.Host h) ps ty =
      (u : HostUse) × (qs : List Parameter) × (z.host m h.entity.0 ≡ Some u) × (may_call (Some u) ≡ true) × (host_params u ≡ reverse qs) × Takes ps qs
      × IsA z ms (result_by u.driver u.result u.role) ty
  Gives (calls.Makes c None) ps ty = ((ms m).is_class c ≡ true) × IsA z ms (Family m c) ty
  Gives (calls.Makes c (Some k)) ps ty = ((ms m).is_class c ≡ true) × IsMaker c k ps ty

  pub record IsTypedCallable (c : Callable) : Type 0 where
    pub declared : IsDeclared c.result
    pub gives : Gives c.called c.candidate.params (place_type c.result)

  -- ---- a body's module

  -- What stands above a type among these is of a family above it.
  abbrev pub AreAbove : Ancestors → Type 0
  AreAbove ancestors =
      (n k : ℕ) → is_above ancestors n k ≡ true → IsA z ms (object_type (ms m).view m n) (object_type (ms m).view m k)

  pub record IsTypedContext (s : BodyContext) : Type 0 where
    -- of the host
    pub values : TakesValues s.view
    pub own : HandlesAreOwn s.view
    pub few : length s.view ≤ first_family
    pub view : (ms m).view ≡ s.view
    pub host : HasView z m s.view
    -- of the classes
    pub classes : AreClasses z ms m
    pub ancestors : AreAbove s.ancestors
    pub families : (c : ℕ) → c < length s.names.families → IsUnder z ms m c c
    -- of the names
    pub globals : (g : ℕ) (x : ScriptGlobal) → slice_get s.names.globals g ≡ Some x
        → IsDeclared x.written.ty × (slice_get (global_types ms m) g ≡ Some (place_type x.written.ty))
    pub fields : (c : ℕ) (name : List ℕ) (f : FoundField) → field_named s.names.families c name ≡ Some f
        → IsDeclared f.written.ty × (slice_get (field_types ms m c) f.number ≡ Some (place_type f.written.ty))
    pub functions : (i : ℕ) (f : ScriptFunction) → slice_get s.names.functions i ≡ Some f → IsTypedCallable (own_function i f)
    pub imports : (i : ℕ) (f : ScriptFunction) → slice_get s.names.imports i ≡ Some f → IsTypedCallable (imported_function i f)
    -- a method on an object of its family or of one under it, by the object's class
    pub methods : (c : ℕ) (name : List ℕ) → Every (λ x. IsTypedCallable (virtual_method (family_type c) x)) (methods_named s.names.families c name)
    -- and one as a class d has it, on an object of class c
    pub direct : (c d : ℕ) (name : List ℕ) → is_under s.names.families c d ≡ true
        → Every (λ x. Every IsTypedCallable (direct_method (family_type c) x)) (methods_named s.names.families d name)
    pub makers : (c : ℕ) → Every IsTypedCallable (makers_in s.names.families c (slice_get s.names.families c))
    pub defaults : (c k : ℕ) → default_of s.names.families c ≡ default.Written k → IsMaker c k [] (Family m c)

  -- ---- a body's locals

  -- A local of a type that its declaration has, or, where it is never stored into, of a narrower one: `this`, in a body that runs for a class under its own.
  pub record IsLocal (locals : List SlotType) (i : ℕ) (p : LocalVariable) : Type 0 where
    pub declared : IsDeclared p.ty
    pub held : SlotType
    pub there : slice_get locals (length locals - suc i) ≡ Some held
    pub is : IsA z ms held (place_type p.ty)
    pub exact : p.read_only ≡ false → held ≡ place_type p.ty

  -- in a body of class w, the first of all is an object of a class at or under it
  pub record HasThisOf (locals : List SlotType) (w : Within) : Type 0 where
    pub class : ℕ
    pub there : slice_get locals (length locals - 1) ≡ Some (Family m class)
    pub under : IsUnder z ms m class w.family
    pub itself : IsUnder z ms m w.family w.family

  pub record AreLocals (within : Option Within) (ps : List LocalVariable) (locals : List SlotType) : Type 0 where
    pub count : length locals ≡ length ps
    pub each : (i : ℕ) (p : LocalVariable) → slice_get ps i ≡ Some p → IsLocal locals i p
    pub this : IfSome within (HasThisOf locals)

  -- A value of this type is returned, where these locals are alive: that which is written, or `this`.
  abbrev pub CanReturn : SlotType → Returns → List SlotType → Type 0
  CanReturn result (returns.Value ty) locals = result ≡ place_type ty
  CanReturn result (returns.Own ty) locals = (slice_get locals (length locals - 1) ≡ Some result) × IsA z ms result result

  -- what is alive in a function of which this type is wanted
  pub record IsAlive (f : FunctionContext) (result : SlotType) (ps : List LocalVariable) (locals : List SlotType) : Type 0 where
    pub are : AreLocals f.context.within ps locals
    pub returns : CanReturn result f.returns locals

  -- ---- a build's classes

  -- a method as it is called on an object of family c
  abbrev pub method_signature : ℕ → ScriptFunction → Signature
  method_signature c f = record {
    params = reverse (map (parameter_of z ms m) (typed_parameters f)) ++ (record { passing = Object; type = Family m c } ∷ []);
    result = place_type f.result.ty;
  }

  -- Of the classes of a build: a family has members of itself and of what stands above it; a base class stands above; each field stands where its number says; and
  -- a method of a family is in each class at or under it.
  pub record ClassesAre (names : Names) : Type 0 where
    pub classes : AreClasses z ms m
    pub orders : (c k : ℕ) (f : ScriptFamily) → slice_get names.families c ≡ Some f → list_any (λ j. j == k) f.order ≡ true → is_under names.families c k ≡ true
    pub bases : (c b : ℕ) (f : ScriptFamily) → slice_get names.families c ≡ Some f → f.base ≡ Some b → list_any (λ k. k == b) f.above ≡ true
    pub fields : (c : ℕ) (name : List ℕ) (f : FoundField) → field_named names.families c name ≡ Some f
        → slice_get (field_types ms m c) f.number ≡ Some (place_type f.written.ty)
    pub methods : (c : ℕ) (name : List ℕ) → Every (λ (x : FoundMethod). IsMethod z ms m x.method.slot (method_signature c x.method.function)) (methods_named names.families c name)
