-- What a checker promises of a resolved tree (docs/CLAIMS.md, "What a script means"): each local is alive, each global, function, class, slot and import is
-- there, each call has an argument for each parameter, each host call is of an entity that the view has, no property that is declared `const` is written, and
-- `break` and `continue` stand in a loop. The view has each entry that is named, and the type of each local, where that is the host's. It says nothing else of
-- types: operations are total, a field of no object and a slot that a class has not fault.
use Rattle.std.specs.List.{list_any}
use Rattle.std.specs.Prelude.{◌≡◌, ◌≢◌, ℕ, suc, ◌+◌, ◌<◌, ◌==◌, Bool, true, false, IsTrue, List, [], ◌∷◌, length, map, Option, Some, None, IfSome, IsSome, slice_get}
use Rattle.ang_kinds.specs.declared.types.Pass.{Pass}
use Rattle.ang_kinds.specs.declared.types.Pass.TheVariants.{RefOut}
use Rattle.ang_view.specs.declared.entry.Entry.{Entry}
use Rattle.ang_view.specs.declared.entry.EntryKind.{EntryKind}
use Rattle.ang_view.specs.declared.entry.EntryKind.TheVariants.{HostType, Factory, Method, Property, Function, Global, Enumeration, EnumValue}
use Rattle.ang_view.specs.Registration.{RegistrationList, entry_at}
use Rattle.ang_types.specs.declared.arg_type.ArgType.{ArgType}
use Rattle.ang_types.specs.declared.arg_type.ArgType.TheVariants as type
use Rattle.ang_typed.specs.declared.expression.HostEntity.{HostEntity}
use Rattle.ang_typed.specs.declared.expression.TypedCallee.{TypedCallee}
use Rattle.ang_typed.specs.declared.expression.TypedCallee.TheVariants as callee
use Rattle.ang_typed.specs.declared.expression.TypedMember.{TypedMember}
use Rattle.ang_typed.specs.declared.expression.TypedMember.TheVariants as member
use Rattle.ang_typed.specs.declared.expression.TypedVariable.{TypedVariable}
use Rattle.ang_typed.specs.declared.expression.TypedVariable.TheVariants as variable
use Rattle.ang_typed.specs.declared.program.TypedClass.{TypedClass}
use Rattle.ang_typed.specs.declared.program.TypedParameter.{TypedParameter}
use Rattle.ang_typed.specs.Typed as t
use Rattle.ang_source.specs.Meaning.{passings_of}

-- ---- the host's entities

-- the view has an entity of this kind under its number, with its driver and the driver's number for it
pub record IsEntity (V : RegistrationList) (kind : EntryKind) (h : HostEntity) : Type 0 where
  pub entry : Entry
  pub in_view : entry_at V h.entity.0 ≡ Some entry
  pub same_kind : entry.kind ≡ kind
  pub driver : h.driver ≡ entry.driver
  pub number : h.f ≡ entry.f

-- a property of the host that may be written: one that is not declared `const` (the AngelScript manual, "Registering global properties" and
-- "Registering object properties")
pub record IsWritable (V : RegistrationList) (kind : EntryKind) (h : HostEntity) : Type 0 where
  pub entity : IsEntity V kind h
  pub not_const : entity.entry.signature.read_only ≡ false

-- how many arguments a call of an entity of this kind has, by how many parameters it declares: a receiver is one more
abbrev pub argument_number : EntryKind → ℕ → Option ℕ
argument_number HostType n = None
argument_number Factory n = Some n
argument_number Method n = Some (suc n)
argument_number Property n = None
argument_number Function n = Some n
argument_number Global n = None
argument_number Enumeration n = None
argument_number (EnumValue v) n = None

-- a function, a factory or a method of the host that is called with `count` arguments
pub record IsHostCallee (V : RegistrationList) (h : HostEntity) (count : ℕ) : Type 0 where
  pub kind : EntryKind
  pub entity : IsEntity V kind h
  pub params : argument_number kind (length entity.entry.signature.params) ≡ Some count

-- ---- entries that are named

-- no blank of the view has this number; the numbers of classes and interfaces as types are past its end
abbrev pub IsNoBlank : RegistrationList → ℕ → Type 0
IsNoBlank V n = n < length V → IsSome (entry_at V n)

-- a type whose entry, if it is the host's, the view has
abbrev pub IsSeenType : RegistrationList → ArgType → Type 0
IsSeenType V type.Void = Unit {0}
IsSeenType V type.Null = Unit {0}
IsSeenType V (type.Plain p) = Unit {0}
IsSeenType V (type.Enumeration n) = IsNoBlank V n
IsSeenType V (type.Object n c) = IsNoBlank V n
IsSeenType V (type.Handle n c) = IsNoBlank V n

-- ---- what a module has

-- its view of the host, the parameters of its functions, of the methods by slot and of its imports, how many globals and classes it has
pub record Module : Type 0 where
  pub view : RegistrationList
  pub parameters : List (List TypedParameter)
  pub methods : List (List TypedParameter)
  pub imports : List (List TypedParameter)
  pub globals : ℕ
  pub classes : ℕ

abbrev pub module_of : RegistrationList → t.Program → Module
module_of V p = record {
  view = V;
  parameters = map (λ f. f.parameters) p.functions;
  methods = map (λ h. h.parameters) p.methods;
  imports = map (λ h. h.parameters) p.imports;
  globals = length p.globals;
  classes = length p.classes;
}

-- how many arguments stand in a list
abbrev pub argument_count : t.Args → ℕ
argument_count t.none = 0
argument_count (t.more a args) = suc (argument_count args)

-- how many locals a statement leaves alive
abbrev pub declared : t.Stmt → ℕ
declared (t.block ss) = 0
declared (t.locals ls) = length ls
declared (t.expression e) = 0
declared t.break = 0
declared t.continue = 0
declared (t.return e) = 0
declared (t.either c ss otherwise) = 0
declared (t.while c ss) = 0
declared (t.do_while ss c) = 0
declared (t.for start c steps ss) = 0

-- the same of statements in turn
abbrev pub declared_by : t.Stmts → ℕ
declared_by t.end = 0
declared_by (t.then s ss) = declared_by ss + declared s

-- Over a module:
module _ (M : Module) where
  -- ---- expressions, where n locals are alive

  abbrev pub IsVariable : ℕ → TypedVariable → Type 0
  IsVariable n (variable.Local i) = i < n
  IsVariable n (variable.Global g) = g < M.globals
  IsVariable n (variable.Property h) = IsEntity M.view Global h
  IsVariable n (variable.Field i) = 0 < n

  -- a variable that is stored into
  abbrev pub IsStored : ℕ → TypedVariable → Type 0
  IsStored n (variable.Local i) = i < n
  IsStored n (variable.Global g) = g < M.globals
  IsStored n (variable.Property h) = IsWritable M.view Global h
  IsStored n (variable.Field i) = 0 < n

  -- a variable that an `&out` value moves into, which is no host property
  abbrev pub IsTarget : ℕ → TypedVariable → Type 0
  IsTarget n (variable.Local i) = i < n
  IsTarget n (variable.Global g) = g < M.globals
  IsTarget n (variable.Property h) = ⊥
  IsTarget n (variable.Field i) = 0 < n

  -- a member that is read, and one that is stored into; the fields of an object are its class's
  abbrev pub IsMember : TypedMember → Type 0
  IsMember (member.Field i) = Unit {0}
  IsMember (member.Property h) = IsEntity M.view Property h

  abbrev pub IsStoredMember : TypedMember → Type 0
  IsStoredMember (member.Field i) = Unit {0}
  IsStoredMember (member.Property h) = IsWritable M.view Property h

  -- the parameters of what is called, the receiver's first
  abbrev pub parameters_of : TypedCallee → Option (List TypedParameter)
  parameters_of (callee.Own f) = slice_get M.parameters f
  parameters_of (callee.Import i) = slice_get M.imports i
  parameters_of (callee.Chosen s) = slice_get M.methods s

  abbrev mutual
    pub Sound : ℕ → t.Expr → Type 0
    Sound n (t.number ty value) = Unit {0}
    Sound n (t.truth b) = Unit {0}
    Sound n (t.read (t.named x) ty) = IsVariable n x
    Sound n (t.read (t.member_of o a) ty) = IsMember a × Sound n o
    Sound n t.null = Unit {0}
    Sound n (t.convert from to e) = Sound n e
    Sound n (t.negate ty e) = Sound n e
    Sound n (t.complement ty e) = Sound n e
    Sound n (t.not e) = Sound n e
    Sound n (t.operate op ty l r) = Sound n l × Sound n r
    Sound n (t.compare op ty l r) = Sound n l × Sound n r
    Sound n (t.and l r) = Sound n l × Sound n r
    Sound n (t.or l r) = Sound n l × Sound n r
    Sound n (t.choose c l r) = Sound n c × Sound n l × Sound n r
    Sound n (t.same l r) = Sound n l × Sound n r
    Sound n (t.cast c e) = (c < M.classes) × Sound n e
    Sound n (t.naming x e) = IsSome (entry_at M.view x.0) × Sound n e
    Sound n (t.make c None args) = (c < M.classes) × (args ≡ t.none)
    Sound n (t.make c (Some k) args) =
        (c < M.classes) × ((own : TypedParameter) × (ps : List TypedParameter) × (slice_get M.parameters k ≡ Some (own ∷ ps)) × (own.pass ≢ RefOut) × SoundArguments n ps args)
    Sound n (t.assign (t.named x) ty e) = IsStored n x × Sound n e
    Sound n (t.assign (t.member_of o a) ty e) = IsStoredMember a × Sound n o × Sound n e
    Sound n (t.compound (t.named x) ty op operating e) = IsStored n x × Sound n e
    Sound n (t.compound (t.member_of o a) ty op operating e) = IsStoredMember a × Sound n o × Sound n e
    Sound n (t.step (t.named x) ty kind) = IsStored n x
    Sound n (t.step (t.member_of o a) ty kind) = IsStoredMember a × Sound n o
    Sound n (t.call f result args) = (ps : List TypedParameter) × (parameters_of f ≡ Some ps) × SoundArguments n ps args
    Sound n (t.host_call h result args) = IsHostCallee M.view h (argument_count args) × SoundValues n args

    -- an argument for each parameter, a variable for each `&out`
    pub SoundArguments : ℕ → List TypedParameter → t.Args → Type 0
    SoundArguments n [] t.none = Unit {0}
    SoundArguments n [] (t.more a args) = ⊥
    SoundArguments n (p ∷ ps) t.none = ⊥
    SoundArguments n (p ∷ ps) (t.more a args) = SoundArgument n p.pass a × SoundArguments n ps args

    pub SoundArgument : ℕ → Pass → t.Arg → Type 0
    SoundArgument n pass (t.by_value ty e) = (pass ≢ RefOut) × Sound n e
    SoundArgument n pass (t.out x from to) = (pass ≡ RefOut) × IsTarget n x

    -- values alone
    pub SoundValues : ℕ → t.Args → Type 0
    SoundValues n t.none = Unit {0}
    SoundValues n (t.more a args) = SoundValue n a × SoundValues n args

    pub SoundValue : ℕ → t.Arg → Type 0
    SoundValue n (t.by_value ty e) = Sound n e
    SoundValue n (t.out x from to) = ⊥

  abbrev pub SoundOption : ℕ → Option t.Expr → Type 0
  SoundOption n None = Unit {0}
  SoundOption n (Some e) = Sound n e

  abbrev pub SoundEach : ℕ → List t.Expr → Type 0
  SoundEach n [] = Unit {0}
  SoundEach n (e ∷ es) = Sound n e × SoundEach n es

  -- ---- statements, where n locals are alive, in a loop or not

  -- each local is known after its own initializer
  abbrev pub SoundLocals : ℕ → List t.Local → Type 0
  SoundLocals n [] = Unit {0}
  SoundLocals n (l ∷ ls) = IsSeenType M.view l.ty × SoundOption n l.initializer × SoundLocals (suc n) ls

  abbrev mutual
    pub SoundStatement : Bool → ℕ → t.Stmt → Type 0
    SoundStatement loop n (t.block ss) = SoundStatements loop n ss
    SoundStatement loop n (t.locals ls) = SoundLocals n ls
    SoundStatement loop n (t.expression e) = SoundOption n e
    SoundStatement loop n t.break = IsTrue loop
    SoundStatement loop n t.continue = IsTrue loop
    SoundStatement loop n (t.return e) = SoundOption n e
    SoundStatement loop n (t.either c ss otherwise) = Sound n c × SoundStatements loop n ss × SoundStatements loop n otherwise
    SoundStatement loop n (t.while c ss) = Sound n c × SoundStatements true n ss
    SoundStatement loop n (t.do_while ss c) = SoundStatements true n ss × Sound n c
    SoundStatement loop n (t.for start c steps ss) =
        SoundStatements loop n start × SoundOption (declared_by start + n) c × SoundEach (declared_by start + n) steps
        × SoundStatements true (declared_by start + n) ss

    pub SoundStatements : Bool → ℕ → t.Stmts → Type 0
    SoundStatements loop n t.end = Unit {0}
    SoundStatements loop n (t.then s ss) = SoundStatement loop n s × SoundStatements loop (declared s + n) ss

  -- ---- modules

  abbrev pub SoundFunction : t.TypedFunction → Type 0
  SoundFunction f = SoundStatements false (length f.parameters) f.body

  abbrev pub SoundFunctions : List t.TypedFunction → Type 0
  SoundFunctions [] = Unit {0}
  SoundFunctions (f ∷ fs) = SoundFunction f × SoundFunctions fs

  -- an initializer has no locals
  abbrev pub SoundGlobals : List t.Global → Type 0
  SoundGlobals [] = Unit {0}
  SoundGlobals (g ∷ gs) = SoundOption 0 g.initializer × SoundGlobals gs

  -- the body in a slot of a class takes what the methods of the slot take
  pub record IsChosen (slot body : ℕ) : Type 0 where
    pub heading : List TypedParameter
    pub slot_is : slice_get M.methods slot ≡ Some heading
    pub parameters : List TypedParameter
    pub body_is : slice_get M.parameters body ≡ Some parameters
    pub alike : passings_of parameters ≡ passings_of heading

  abbrev pub AreChosen : List (ℕ × ℕ) → Type 0
  AreChosen [] = Unit {0}
  AreChosen (r ∷ rs) = IsChosen r.0 r.1 × AreChosen rs

  -- all bodies that a class has are so, and its base class and the families above it are there
  pub record SoundClass (c : TypedClass) : Type 0 where
    pub chosen : AreChosen c.chosen
    pub base : IfSome c.base (λ b. b < M.classes)
    pub above : (n : ℕ) → list_any (λ k. k == n) c.above ≡ true → n < M.classes

  abbrev pub SoundClasses : List TypedClass → Type 0
  SoundClasses [] = Unit {0}
  SoundClasses (c ∷ cs) = SoundClass c × SoundClasses cs

-- the resolved tree of a module, over its view of the host
pub record SoundProgram (V : RegistrationList) (p : t.Program) : Type 0 where
  pub functions : SoundFunctions (module_of V p) p.functions
  pub globals : SoundGlobals (module_of V p) p.globals
  pub classes : SoundClasses (module_of V p) p.classes
