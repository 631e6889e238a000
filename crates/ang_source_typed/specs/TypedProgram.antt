-- What a typed program is (docs/CLAIMS.md, "What a script means"): each expression gives what is wanted where it stands, each class has what the families above
-- it have, and each body ends as its function's result wants. A derived class's object stands for one of a family above without a node of its own.
use Rattle.std.specs.Prelude.{◌≡◌, ◌≢◌, ◌-◌, ◌<◌, ℕ, suc, Bool, true, false, List, [], ◌∷◌, ◌++◌, length, map as list_map, reverse, Option, Some, None, slice_get}
use Rattle.ang_typed.specs.declared.expression.HostEntity.{HostEntity}
use Rattle.ang_typed.specs.declared.expression.TypedCallee.{TypedCallee}
use Rattle.ang_typed.specs.declared.expression.TypedCallee.TheVariants as callee
use Rattle.ang_typed.specs.declared.expression.TypedMember.{TypedMember}
use Rattle.ang_typed.specs.declared.expression.TypedMember.TheVariants as member
use Rattle.ang_typed.specs.declared.expression.TypedVariable.{TypedVariable}
use Rattle.ang_typed.specs.declared.expression.TypedVariable.TheVariants as variable
use Rattle.ang_typed.specs.declared.program.Heading.{Heading}
use Rattle.ang_typed.specs.declared.program.TypedParameter.{TypedParameter}
use Rattle.ang_types.specs.declared.arg_type.ArgType.{ArgType}
use Rattle.ang_typed.specs.Typed as t
use Rattle.ang_host.specs.declared.event.Role.{Role}
use Rattle.ang_host.specs.declared.event.Role.TheVariants.{Making, Calling, Property}
use Rattle.ang_meaning.specs.declared.class.ValueKind.{ValueKind}
use Rattle.ang_meaning.specs.declared.class.ValueKind.TheVariants as holds_a
use Rattle.ang_meaning.specs.declared.host.HostValueType.{HostValueType}
use Rattle.ang_meaning.specs.declared.host.HostValueType.TheVariants.{Nothing, Plain, Handle}
use Rattle.ang_meaning.specs.declared.host.HostUse.{HostUse}
use Rattle.ang_meaning.specs.declared.routine.Passing.{Passing}
use Rattle.ang_meaning.specs.declared.routine.Passing.TheVariants.{In, Out}
use Rattle.ang_meaning.specs.Environment.{Environment, class_in, may_call, may_access, may_write}
use Rattle.ang_source.specs.Meaning.{kind_of, passing_of, passings_of, routine}
use Rattle.ang_source_typed.specs.Types.{SlotType, Number, Key, Family, Modules, slot_type, field_types, global_types, IsUnder, IsA}
use Rattle.ang_source_typed.specs.Paths.{some_ends}

-- ---- signatures

-- how a parameter takes its argument, and what it holds
pub record Parameter : Type 0 where
  pub passing : Passing
  pub type : SlotType

abbrev pub types_of : List Parameter → List SlotType
types_of [] = []
types_of (p ∷ ps) = p.type ∷ types_of ps

abbrev pub passings_among : List Parameter → List Passing
passings_among [] = []
passings_among (p ∷ ps) = p.passing ∷ passings_among ps

-- a callee's parameters, the last one first, as their values come, and the type of its value
pub record Signature : Type 0 where
  pub params : List Parameter
  pub result : SlotType

-- ---- the host

-- what a driver's own values of a declared type are; each handle is to an object of the entity's driver
abbrev pub host_type : ℕ → HostValueType → SlotType
host_type d Nothing = Number
host_type d (Plain p) = Number
host_type d Handle = Key d

abbrev pub by_value : SlotType → Parameter
by_value ty = record { passing = In; type = ty }

-- what an entity takes, the last one first; a receiver is the first of all
abbrev pub receiver_params : HostUse → Bool → List Parameter
receiver_params u true = by_value (Key u.driver) ∷ []
receiver_params u false = []

abbrev pub host_params : HostUse → List Parameter
host_params u = reverse (receiver_params u u.member ++ list_map (λ ty. by_value (host_type u.driver ty)) u.params)

-- what a call of it gives: a factory gives an object of its driver
abbrev pub result_by : ℕ → HostValueType → Role → SlotType
result_by d result (Making f) = Key d
result_by d result (Calling f) = host_type d result
result_by d result (Property f) = host_type d result

-- handles, of scripts or of the host
abbrev pub IsHandle : SlotType → Type 0
IsHandle Number = ⊥
IsHandle (Key d) = Unit {0}
IsHandle (Family m c) = Unit {0}

-- what kind of value a place of this type holds
abbrev pub kind_in : SlotType → ValueKind
kind_in Number = holds_a.Number
kind_in (Key d) = holds_a.Handle
kind_in (Family m c) = holds_a.Handle

-- In a setting with these modules, in module m:
module _ (z : Environment) (ms : Modules) (m : ℕ) where
  abbrev pub parameter_of : TypedParameter → Parameter
  parameter_of p = record { passing = passing_of p; type = slot_type (ms m).view m p.ty }

  abbrev pub signature_of : List TypedParameter → ArgType → Signature
  signature_of ps result = record { params = reverse (list_map parameter_of ps); result = slot_type (ms m).view m result }

  -- A constructor runs on objects of its class and of each class under it, whose object it gives back.
  abbrev pub constructor_signature : TypedParameter → List TypedParameter → ℕ → Signature
  constructor_signature this ps c = record {
    params = reverse (list_map parameter_of ps) ++ (record { passing = passing_of this; type = Family m c } ∷ []);
    result = Family m c;
  }

  abbrev pub IsConstructorSignature : List TypedParameter → Signature → Type 0
  IsConstructorSignature [] s = ⊥
  IsConstructorSignature (this ∷ ps) s =
      (c d : ℕ) × (slot_type (ms m).view m this.ty ≡ Family m d) × IsUnder z ms m c d × (s ≡ constructor_signature this ps c)

  abbrev pub IsSignature : Bool → t.TypedFunction → Signature → Type 0
  IsSignature false f s = s ≡ signature_of f.parameters f.result
  IsSignature true f s = IsConstructorSignature f.parameters s

  -- body k of the module may be called so
  pub record HasSignature (k : ℕ) (s : Signature) : Type 0 where
    pub function : t.TypedFunction
    pub there : slice_get (ms m).program.functions k ≡ Some function
    pub signature : IsSignature ((ms m).is_constructor k) function s

  pub record IsImport (i : ℕ) (s : Signature) : Type 0 where
    pub heading : Heading
    pub there : slice_get (ms m).program.imports i ≡ Some heading
    pub signature : s ≡ signature_of heading.parameters heading.result

  -- Each class at or under the receiver's family has a body in the slot, which takes what the call gives: its own receiver is of a family above that class.
  pub record IsMethod (slot : ℕ) (s : Signature) : Type 0 where
    pub heading : Heading
    pub there : slice_get (ms m).program.methods slot ≡ Some heading
    pub takes : passings_of heading.parameters ≡ passings_among s.params
    pub others : List Parameter
    pub passing : Passing
    pub family : ℕ
    pub taken : passing ≢ Out
    pub params : s.params ≡ others ++ (record { passing = passing; type = Family m family } ∷ [])
    pub body : (c : ℕ) → (ms m).is_class c ≡ true → IsUnder z ms m c family →
        (k d : ℕ) × (z.method m c slot ≡ Some (routine m k)) × IsUnder z ms m c d
        × HasSignature k (record { params = others ++ (record { passing = passing; type = Family m d } ∷ []); result = s.result })

  abbrev pub IsCallee : TypedCallee → Signature → Type 0
  IsCallee (callee.Own k) s = HasSignature k s
  IsCallee (callee.Import i) s = IsImport i s
  IsCallee (callee.Chosen slot) s = IsMethod slot s

  -- ---- variables and members

  -- a property of the host that holds this type, of objects or of none
  pub record IsProperty (h : HostEntity) (member : Bool) (driver : ℕ) (ty : SlotType) : Type 0 where
    pub entity : HostUse
    pub there : z.host m h.entity.0 ≡ Some entity
    pub property : may_access (Some entity) ≡ true
    pub of_objects : entity.member ≡ member
    pub by : entity.driver ≡ driver
    pub type : ty ≡ host_type entity.driver entity.result

  -- what a variable holds, where locals of these types are alive, the innermost one first
  abbrev pub IsVariable : List SlotType → TypedVariable → SlotType → Type 0
  IsVariable locals (variable.Local i) ty = slice_get locals (length locals - suc i) ≡ Some ty
  IsVariable locals (variable.Global g) ty = slice_get (global_types ms m) g ≡ Some ty
  IsVariable locals (variable.Property h) ty = (d : ℕ) × IsProperty h false d ty
  IsVariable locals (variable.Field i) ty =
      (c : ℕ) × (slice_get locals (length locals - 1) ≡ Some (Family m c)) × (slice_get (field_types ms m c) i ≡ Some ty)

  -- what a member of an object of the first type holds
  abbrev pub IsMember : SlotType → TypedMember → SlotType → Type 0
  IsMember object (member.Field i) ty = (c : ℕ) × (object ≡ Family m c) × (slice_get (field_types ms m c) i ≡ Some ty)
  IsMember object (member.Property h) ty = (d : ℕ) × (object ≡ Key d) × IsProperty h true d ty

  -- what is stored into is no `const` property
  abbrev pub IsStored : TypedVariable → Type 0
  IsStored (variable.Local i) = Unit {0}
  IsStored (variable.Global g) = Unit {0}
  IsStored (variable.Property h) = may_write (z.host m h.entity.0) ≡ true
  IsStored (variable.Field i) = Unit {0}

  abbrev pub IsStoredMember : TypedMember → Type 0
  IsStoredMember (member.Field i) = Unit {0}
  IsStoredMember (member.Property h) = may_write (z.host m h.entity.0) ≡ true

  -- an `&out` value moves into a variable that is no host property
  abbrev pub IsTarget : TypedVariable → Type 0
  IsTarget (variable.Local i) = Unit {0}
  IsTarget (variable.Global g) = Unit {0}
  IsTarget (variable.Property h) = ⊥
  IsTarget (variable.Field i) = Unit {0}

  -- ---- expressions

  -- Where locals of these types are alive, the innermost one first, the expression gives a value of this type.
  abbrev mutual
    pub Types : List SlotType → SlotType → t.Expr → Type 0
    Types locals ty (t.number p n) = ty ≡ Number
    Types locals ty (t.truth b) = ty ≡ Number
    Types locals ty (t.read (t.named x) a) = (s : SlotType) × IsVariable locals x s × IsA z ms s ty
    Types locals ty (t.read (t.member_of o x) a) = (s object : SlotType) × Types locals object o × IsMember object x s × IsA z ms s ty
    Types locals ty t.null = IsHandle ty
    Types locals ty (t.convert from to e) = (ty ≡ Number) × Types locals Number e
    Types locals ty (t.negate p e) = (ty ≡ Number) × Types locals Number e
    Types locals ty (t.complement p e) = (ty ≡ Number) × Types locals Number e
    Types locals ty (t.not e) = (ty ≡ Number) × Types locals Number e
    Types locals ty (t.operate op p l r) = (ty ≡ Number) × Types locals Number l × Types locals Number r
    Types locals ty (t.compare op p l r) = (ty ≡ Number) × Types locals Number l × Types locals Number r
    Types locals ty (t.and l r) = (ty ≡ Number) × Types locals Number l × Types locals Number r
    Types locals ty (t.or l r) = (ty ≡ Number) × Types locals Number l × Types locals Number r
    Types locals ty (t.choose a l r) = Types locals Number a × Types locals ty l × Types locals ty r
    Types locals ty (t.same l r) = (ty ≡ Number) × ((first second : SlotType) × IsHandle first × Types locals first l × IsHandle second × Types locals second r)
    Types locals ty (t.cast n e) = (c : ℕ) × Types locals (Family m c) e × IsA z ms (Family m n) ty
    Types locals ty (t.naming x e) = Types locals ty e
    Types locals ty (t.make n None args) = ((ms m).is_class n ≡ true) × IsA z ms (Family m n) ty
    Types locals ty (t.make n (Some k) args) = ((ms m).is_class n ≡ true) × ((s : Signature) × (this : Passing) × HasSignature k s × (this ≢ Out)
        × TypesAll locals (record { passing = this; type = Family m n } ∷ []) s.params args × IsA z ms s.result ty)
    Types locals ty (t.assign (t.named x) a e) = (s : SlotType) × IsVariable locals x s × IsStored x × Types locals s e × IsA z ms s ty
    Types locals ty (t.assign (t.member_of o x) a e) =
        (s object : SlotType) × Types locals s e × Types locals object o × IsMember object x s × IsStoredMember x × IsA z ms s ty
    Types locals ty (t.compound (t.named x) p op at e) = (ty ≡ Number) × IsVariable locals x Number × IsStored x × Types locals Number e
    Types locals ty (t.compound (t.member_of o x) p op at e) =
        (ty ≡ Number) × Types locals Number e × ((object : SlotType) × Types locals object o × IsMember object x Number × IsStoredMember x)
    Types locals ty (t.step (t.named x) p kind) = (ty ≡ Number) × IsVariable locals x Number × IsStored x
    Types locals ty (t.step (t.member_of o x) p kind) =
        (ty ≡ Number) × ((object : SlotType) × Types locals object o × IsMember object x Number × IsStoredMember x)
    Types locals ty (t.call f a args) = (s : Signature) × IsCallee f s × TypesAll locals [] s.params args × IsA z ms s.result ty
    Types locals ty (t.host_call h a args) = (u : HostUse) × (z.host m h.entity.0 ≡ Some u) × (may_call (Some u) ≡ true)
        × TypesAll locals [] (host_params u) args × IsA z ms (result_by u.driver u.result u.role) ty

    -- arguments for all of these parameters, after those that are there: the last one first
    pub TypesAll : List SlotType → List Parameter → List Parameter → t.Args → Type 0
    TypesAll locals before all t.none = all ≡ before
    TypesAll locals before all (t.more a args) = (p : Parameter) × TypesArgument locals p a × TypesAll locals (p ∷ before) all args

    -- An `&out` parameter begins with 0 or null, as its type does, and its variable may hold what is of the type.
    pub TypesArgument : List SlotType → Parameter → t.Arg → Type 0
    TypesArgument locals p (t.by_value a e) = (p.passing ≢ Out) × Types locals p.type e
    TypesArgument locals p (t.out x from to) = (p.passing ≡ Out) × (kind_in p.type ≡ kind_of from)
        × ((s : SlotType) × IsVariable locals x s × IsTarget x × IsA z ms p.type s)

  abbrev pub TypesOption : List SlotType → SlotType → Option t.Expr → Type 0
  TypesOption locals ty None = Unit {0}
  TypesOption locals ty (Some e) = Types locals ty e

  -- values that nobody takes
  abbrev pub TypesEach : List SlotType → List t.Expr → Type 0
  TypesEach locals [] = Unit {0}
  TypesEach locals (e ∷ es) = ((ty : SlotType) × Types locals ty e) × TypesEach locals es

  -- ---- statements

  -- the types of the locals that are alive after new ones
  abbrev pub with_locals : List SlotType → List t.Local → List SlotType
  with_locals locals [] = locals
  with_locals locals (l ∷ ls) = with_locals (slot_type (ms m).view m l.ty ∷ locals) ls

  abbrev pub after : List SlotType → t.Stmt → List SlotType
  after locals (t.block ss) = locals
  after locals (t.locals ls) = with_locals locals ls
  after locals (t.expression e) = locals
  after locals t.break = locals
  after locals t.continue = locals
  after locals (t.return e) = locals
  after locals (t.either c ss otherwise) = locals
  after locals (t.while c ss) = locals
  after locals (t.do_while ss c) = locals
  after locals (t.for start c steps ss) = locals

  abbrev pub after_all : List SlotType → t.Stmts → List SlotType
  after_all locals t.end = locals
  after_all locals (t.then s ss) = after_all (after locals s) ss

  abbrev pub TypesLocals : List SlotType → List t.Local → Type 0
  TypesLocals locals [] = Unit {0}
  TypesLocals locals (l ∷ ls) =
      TypesOption locals (slot_type (ms m).view m l.ty) l.initializer × TypesLocals (slot_type (ms m).view m l.ty ∷ locals) ls

  -- a body whose function gives a value of this type
  abbrev mutual
    pub TypesStatement : SlotType → Bool → List SlotType → t.Stmt → Type 0
    TypesStatement result loop locals (t.block ss) = TypesStatements result loop locals ss
    TypesStatement result loop locals (t.locals ls) = TypesLocals locals ls
    TypesStatement result loop locals (t.expression None) = Unit {0}
    TypesStatement result loop locals (t.expression (Some e)) = (ty : SlotType) × Types locals ty e
    TypesStatement result loop locals t.break = loop ≡ true
    TypesStatement result loop locals t.continue = loop ≡ true
    TypesStatement result loop locals (t.return None) = result ≡ Number
    TypesStatement result loop locals (t.return (Some e)) = Types locals result e
    TypesStatement result loop locals (t.either c ss otherwise) =
        Types locals Number c × TypesStatements result loop locals ss × TypesStatements result loop locals otherwise
    TypesStatement result loop locals (t.while c ss) = Types locals Number c × TypesStatements result true locals ss
    TypesStatement result loop locals (t.do_while ss c) = TypesStatements result true locals ss × Types locals Number c
    TypesStatement result loop locals (t.for start c steps ss) =
        let inside = after_all locals start in
        TypesStatements result loop locals start × TypesOption inside Number c × TypesEach inside steps × TypesStatements result true inside ss

    pub TypesStatements : SlotType → Bool → List SlotType → t.Stmts → Type 0
    TypesStatements result loop locals t.end = Unit {0}
    TypesStatements result loop locals (t.then s ss) = TypesStatement result loop locals s × TypesStatements result loop (after locals s) ss

  -- a body without a `return` at its end gives 0
  pub record TypesBody (s : Signature) (ss : t.Stmts) : Type 0 where
    pub statements : TypesStatements s.result false (types_of s.params) ss
    pub ends : s.result ≢ Number → some_ends ss ≡ true

  -- ---- modules

  -- A class has the fields of each family above it at the same places, what stands above such a family stands above it, and what its fields can hold is of a
  -- lower rank.
  pub record AreClasses : Type 0 where
    pub itself : (c : ℕ) → (ms m).is_class c ≡ true → IsUnder z ms m c c
    pub above : (c d e : ℕ) → IsUnder z ms m c d → IsUnder z ms m d e → IsUnder z ms m c e
    pub inherits : (c d i : ℕ) (ty : SlotType) → IsUnder z ms m c d → slice_get (field_types ms m d) i ≡ Some ty → slice_get (field_types ms m c) i ≡ Some ty
    pub falls : (c d e i : ℕ) → slice_get (field_types ms m c) i ≡ Some (Family m d) → IsUnder z ms m e d
        → (class_in (z.class m e)).rank < (class_in (z.class m c)).rank

  -- The tree of module m is typed.
  pub record TypedProgram : Type 0 where
    pub classes : AreClasses
    pub functions : (k : ℕ) (s : Signature) (f : HasSignature k s) → TypesBody s f.function.body
    pub globals : (g : ℕ) (x : t.Global) → slice_get (ms m).program.globals g ≡ Some x → TypesOption [] (slot_type (ms m).view m x.ty) x.initializer
