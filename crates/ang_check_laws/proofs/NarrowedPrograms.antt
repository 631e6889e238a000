-- A program that is typed over one view is typed over any view that has what it uses of the first.
use Rattle.std.specs.Prelude.{◌≡◌, ◌-◌, ℕ, zero, suc, nat_lt, Bool, true, false, if◌then◌else◌, List, [], ◌∷◌, ◌++◌, length, map, reverse, option_and_then, Option, Some, None, IfSome, slice_get}
use Rattle.std.specs.List.{AllByRecursion, flat_map}
use Rattle.std.proofs.Common.{refl, sym, ap, ◌∙◌, subst}
use Rattle.ang_view.specs.declared.entry.Entry.{Entry}
use Rattle.ang_view.specs.Registration.{RegistrationList, entry_at}
use Rattle.ang_tree.specs.Stmt.{Every}
use Rattle.ang_types.specs.declared.arg_type.ArgType.{ArgType}
use Rattle.ang_types.specs.declared.arg_type.ArgType.TheVariants as type
use Rattle.ang_typed.specs.declared.expression.HostEntity.{HostEntity}
use Rattle.ang_typed.specs.declared.expression.TypedCallee.{TypedCallee}
use Rattle.ang_typed.specs.declared.expression.TypedCallee.TheVariants as callee
use Rattle.ang_typed.specs.declared.expression.TypedMember.{TypedMember}
use Rattle.ang_typed.specs.declared.expression.TypedMember.TheVariants as member
use Rattle.ang_typed.specs.declared.expression.TypedVariable.{TypedVariable}
use Rattle.ang_typed.specs.declared.expression.TypedVariable.TheVariants as variable
use Rattle.ang_typed.specs.declared.program.Heading.{Heading}
use Rattle.ang_typed.specs.declared.program.TypedClass.{TypedClass}
use Rattle.ang_typed.specs.declared.program.TypedParameter.{TypedParameter}
use Rattle.ang_typed.specs.Typed as t
use Rattle.ang_typed.specs.Uses.{args_uses, arg_uses, class_uses, expr_uses, function_uses, global_uses, heading_uses, local_uses, member_uses, option_uses, parameter_uses, stmt_uses, stmts_uses, type_uses, variable_uses}
use Rattle.ang_meaning.specs.Environment.{Environment, may_write}
use Rattle.ang_source.specs.Hosts.{HasView, asked_as}
use Rattle.ang_source.specs.Meaning.{fields_by, passing_of}
use Rattle.ang_source_typed.specs.Types.{SlotType, Number, Key, Family, Modules, first_family, driver_of, object_type, slot_type, field_types, global_types, IsA}
use Rattle.ang_source_typed.specs.TypedProgram.{Parameter, Signature, types_of, host_params, result_by, parameter_of, signature_of, constructor_signature, IsConstructorSignature, IsSignature, HasSignature, IsImport, IsMethod, IsCallee, IsProperty, IsVariable, IsMember, IsStored, IsStoredMember, IsTarget, Types, TypesAll, TypesArgument, TypesOption, TypesEach, TypesLocals, TypesStatement, TypesStatements, TypesBody, AreClasses, TypedProgram, with_locals, after, after_all}
use Rattle.ang_check_sound.proofs.Items.{every_at, every_joined}
use Rattle.ang_check_laws.specs.Narrowed.{asking, seeing, HasUses, UsesAreEnough, NarrowedIsTyped}
use Rattle.ang_check_laws.proofs.NarrowedUses.{front_of, back_of, each_of, EachUses, each_uses, narrowed_has}

every_get : {A : Type 0} (P : A → Type 0) (xs : List A) (i : ℕ) → Every P xs → IfSome (slice_get xs i) P
every_get P [] i h = tt
every_get P (x ∷ xs) zero h = h.0
every_get P (x ∷ xs) (suc i) h = every_get P xs i h.1

-- In a setting where module m sees what its program uses of this view:
module _ (V : RegistrationList) (z : Environment) (ms : Modules) (m : ℕ) (view : HasView z m (ms m).view) (enough : HasUses V (ms m).view (ms m).program) where
  -- the setting and the modules over the view
  abbrev y : Environment
  y = asking V z

  abbrev ls : Modules
  ls = seeing V ms

  abbrev Stays : ℕ → Type 0
  Stays n = entry_at (ms m).view n ≡ entry_at V n

  abbrev Stay : List ℕ → Type 0
  Stay = AllByRecursion Stays

  -- of two parts of a use
  abbrev first : (ns ks : List ℕ) → Stay (ns ++ ks) → Stay ns
  first = front_of Stays

  abbrev second : (ns ks : List ℕ) → Stay (ns ++ ks) → Stay ks
  second = back_of Stays

  abbrev p : t.Program
  p = (ms m).program

  all_kept : EachUses Stays (ms m).program
  all_kept = each_uses Stays (ms m).program enough

  -- ---- types

  object_same : (n : ℕ) → Stays n → object_type (ms m).view m n ≡ object_type V m n
  object_same n stays = ap (λ (o : Option Entry). if nat_lt n first_family then Key (driver_of o) else Family m (n - first_family)) stays

  type_same : (ty : ArgType) → Stay (type_uses ty) → slot_type (ms m).view m ty ≡ slot_type V m ty
  type_same type.Void u = refl
  type_same type.Null u = refl
  type_same (type.Plain q) u = refl
  type_same (type.Enumeration n) u = refl
  type_same (type.Object n c) u = object_same n u.0
  type_same (type.Handle n c) u = object_same n u.0

  abbrev IsKeptType : ArgType → Type 0
  IsKeptType ty = Stay (type_uses ty)

  types_same : (tys : List ArgType) → Every IsKeptType tys → map (slot_type (ms m).view m) tys ≡ map (slot_type V m) tys
  types_same [] u = refl
  types_same (ty ∷ tys) u =
      let here : slot_type (ms m).view m ty ≡ slot_type V m ty = type_same ty u.0 in
      let rest = types_same tys u.1 in
      λ i. here i ∷ rest i

  globals_from : (gs : List t.Global) → Every (λ (g : t.Global). Stay (global_uses g)) gs
      → map (λ (g : t.Global). slot_type (ms m).view m g.ty) gs ≡ map (λ (g : t.Global). slot_type V m g.ty) gs
  globals_from [] u = refl
  globals_from (g ∷ gs) u =
      let here : slot_type (ms m).view m g.ty ≡ slot_type V m g.ty = type_same g.ty (first (type_uses g.ty) (option_uses g.initializer) u.0) in
      let rest = globals_from gs u.1 in
      λ i. here i ∷ rest i

  globals_same : global_types ms m ≡ global_types ls m
  globals_same = globals_from p.globals all_kept.globals

  abbrev IsKeptClass : TypedClass → Type 0
  IsKeptClass c = Stay (class_uses c)

  base_kept : (o : Option ℕ) → IfSome (option_and_then (slice_get p.classes) o) IsKeptClass
  base_kept None = tt
  base_kept (Some i) = every_get IsKeptClass p.classes i all_kept.classes

  fields_kept : (n : ℕ) (o : Option TypedClass) → IfSome o IsKeptClass → Every IsKeptType (fields_by p.classes n o)
  fields_kept n None h = tt
  fields_kept zero (Some c) h = each_of Stays type_uses c.fields h
  fields_kept (suc n) (Some c) h =
      let base = option_and_then (slice_get p.classes) c.base in
      every_joined IsKeptType (fields_by p.classes n base) c.fields (fields_kept n base (base_kept c.base)) (each_of Stays type_uses c.fields h)

  fields_same : (c : ℕ) → field_types ms m c ≡ field_types ls m c
  fields_same c =
      types_same (fields_by p.classes (length p.classes) (slice_get p.classes c))
      (fields_kept (length p.classes) (slice_get p.classes c) (every_get IsKeptClass p.classes c all_kept.classes))

  global_kept : (i : ℕ) (g : t.Global) → slice_get (ms m).program.globals i ≡ Some g → Stay (global_uses g)
  global_kept i g e = every_at (λ (x : t.Global). Stay (global_uses x)) p.globals i g all_kept.globals e

  -- what stands above what is the same
  is_a : (s u : SlotType) → IsA y ls s u → IsA z ms s u
  is_a Number Number h = h
  is_a Number (Key e) h = h
  is_a Number (Family k d) h = h
  is_a (Key d) Number h = h
  is_a (Key d) (Key e) h = h
  is_a (Key d) (Family k e) h = h
  is_a (Family i c) Number h = h
  is_a (Family i c) (Key e) h = h
  is_a (Family i c) (Family k d) h = h

  -- ---- what is called

  abbrev taking : TypedParameter → SlotType → Parameter
  taking q s = record { passing = passing_of q; type = s }

  abbrev giving : List Parameter → SlotType → Signature
  giving ps s = record { params = reverse ps; result = s }

  abbrev making : Parameter → ℕ → List Parameter → Signature
  making this c ps = record { params = reverse ps ++ (this ∷ []); result = Family m c }

  abbrev AreKept : List TypedParameter → Type 0
  AreKept qs = Every (λ (q : TypedParameter). Stay (parameter_uses q)) qs

  parameters_same : (qs : List TypedParameter) → AreKept qs → map (parameter_of z ms m) qs ≡ map (parameter_of y ls m) qs
  parameters_same [] u = refl
  parameters_same (q ∷ qs) u =
      let here : slot_type (ms m).view m q.ty ≡ slot_type V m q.ty = type_same q.ty u.0 in
      let rest = parameters_same qs u.1 in
      λ i. taking q (here i) ∷ rest i

  signature_same : (qs : List TypedParameter) (ty : ArgType) → AreKept qs → IsKeptType ty → signature_of z ms m qs ty ≡ signature_of y ls m qs ty
  signature_same qs ty u v =
      let params = parameters_same qs u in
      let result : slot_type (ms m).view m ty ≡ slot_type V m ty = type_same ty v in
      λ i. giving (params i) (result i)

  constructor_same : (this : TypedParameter) (qs : List TypedParameter) (c : ℕ) → AreKept qs
      → constructor_signature z ms m this qs c ≡ constructor_signature y ls m this qs c
  constructor_same this qs c u = ap (making (taking this (Family m c)) c) (parameters_same qs u)

  constructor_is : (qs : List TypedParameter) (s : Signature) → AreKept qs → IsConstructorSignature y ls m qs s → IsConstructorSignature z ms m qs s
  constructor_is [] s u h = h
  constructor_is (this ∷ qs) s u h = (h.0, h.1, type_same this.ty u.0 ∙ h.2, h.3, h.4 ∙ sym (constructor_same this qs h.0 u.1))

  constructor_was : (qs : List TypedParameter) (s : Signature) → AreKept qs → IsConstructorSignature z ms m qs s → IsConstructorSignature y ls m qs s
  constructor_was [] s u h = h
  constructor_was (this ∷ qs) s u h = (h.0, h.1, sym (type_same this.ty u.0) ∙ h.2, h.3, h.4 ∙ constructor_same this qs h.0 u.1)

  signature_is : (b : Bool) (f : t.TypedFunction) (s : Signature) → AreKept f.parameters → IsKeptType f.result → IsSignature y ls m b f s → IsSignature z ms m b f s
  signature_is false f s u v h = h ∙ sym (signature_same f.parameters f.result u v)
  signature_is true f s u v h = constructor_is f.parameters s u h

  signature_was : (b : Bool) (f : t.TypedFunction) (s : Signature) → AreKept f.parameters → IsKeptType f.result → IsSignature z ms m b f s → IsSignature y ls m b f s
  signature_was false f s u v h = h ∙ signature_same f.parameters f.result u v
  signature_was true f s u v h = constructor_was f.parameters s u h

  record IsKeptFunction (f : t.TypedFunction) : Type 0 where
    parameters : AreKept f.parameters
    result : IsKeptType f.result
    body : Stay (stmts_uses f.body)

  function_kept : (k : ℕ) (f : t.TypedFunction) → slice_get (ms m).program.functions k ≡ Some f → IsKeptFunction f
  function_kept k f e =
      let u = every_at (λ (g : t.TypedFunction). Stay (function_uses g)) p.functions k f all_kept.functions e in
      let ps = flat_map parameter_uses f.parameters in
      let rest = second ps (type_uses f.result ++ stmts_uses f.body) u in
      record {
        parameters = each_of Stays parameter_uses f.parameters (first ps (type_uses f.result ++ stmts_uses f.body) u);
        result = first (type_uses f.result) (stmts_uses f.body) rest;
        body = second (type_uses f.result) (stmts_uses f.body) rest;
      }

  has_signature : (k : ℕ) (s : Signature) → HasSignature y ls m k s → HasSignature z ms m k s
  has_signature k s h =
      let u = function_kept k h.function h.there in
      record { function = h.function; there = h.there; signature = signature_is ((ms m).is_constructor k) h.function s u.parameters u.result h.signature }

  is_import : (i : ℕ) (s : Signature) → IsImport y ls m i s → IsImport z ms m i s
  is_import i s h =
      let x = h.heading in
      let u = every_at (λ (g : Heading). Stay (heading_uses g)) p.imports i x all_kept.imports h.there in
      let ps = flat_map parameter_uses x.parameters in
      record {
        heading = x;
        there = h.there;
        signature =
            h.signature
            ∙ sym (signature_same x.parameters x.result (each_of Stays parameter_uses x.parameters (first ps (type_uses x.result) u)) (second ps (type_uses x.result) u));
      }

  is_method : (slot : ℕ) (s : Signature) → IsMethod y ls m slot s → IsMethod z ms m slot s
  is_method slot s h = record {
    heading = h.heading;
    there = h.there;
    takes = h.takes;
    others = h.others;
    passing = h.passing;
    family = h.family;
    taken = h.taken;
    params = h.params;
    body = λ c is under. let b = h.body c is under in (b.0, b.1, b.2, b.3, has_signature b.0 _ b.4);
  }

  is_callee : (f : TypedCallee) (s : Signature) → IsCallee y ls m f s → IsCallee z ms m f s
  is_callee (callee.Own k) s h = has_signature k s h
  is_callee (callee.Import i) s h = is_import i s h
  is_callee (callee.Chosen slot) s h = is_method slot s h

  -- ---- the host, variables and members

  -- what is asked under a number is the same
  asked : (n : ℕ) → Stays n → z.host m n ≡ (asking V z).host m n
  asked n stays = view.each n ∙ ap asked_as stays

  is_property : (x : HostEntity) (of : Bool) (d : ℕ) (s : SlotType) → Stays x.entity.0 → IsProperty y ls m x of d s → IsProperty z ms m x of d s
  is_property x of d s u h = record {
    entity = h.entity;
    there = asked x.entity.0 u ∙ h.there;
    property = h.property;
    of_objects = h.of_objects;
    by = h.by;
    type = h.type;
  }

  is_variable : (locals : List SlotType) (x : TypedVariable) (s : SlotType) → Stay (variable_uses x) → IsVariable y ls m locals x s → IsVariable z ms m locals x s
  is_variable locals (variable.Local i) s u h = h
  is_variable locals (variable.Global g) s u h = ap (λ (l : List SlotType). slice_get l g) globals_same ∙ h
  is_variable locals (variable.Property x) s u h = (h.0, is_property x false h.0 s u.0 h.1)
  is_variable locals (variable.Field i) s u h = (h.0, h.1, ap (λ (l : List SlotType). slice_get l i) (fields_same h.0) ∙ h.2)

  is_member : (object : SlotType) (x : TypedMember) (s : SlotType) → Stay (member_uses x) → IsMember y ls m object x s → IsMember z ms m object x s
  is_member object (member.Field i) s u h = (h.0, h.1, ap (λ (l : List SlotType). slice_get l i) (fields_same h.0) ∙ h.2)
  is_member object (member.Property x) s u h = (h.0, h.1, is_property x true h.0 s u.0 h.2)

  is_stored : (x : TypedVariable) → Stay (variable_uses x) → IsStored y ls m x → IsStored z ms m x
  is_stored (variable.Local i) u h = h
  is_stored (variable.Global g) u h = h
  is_stored (variable.Property x) u h = ap may_write (asked x.entity.0 u.0) ∙ h
  is_stored (variable.Field i) u h = h

  is_stored_member : (x : TypedMember) → Stay (member_uses x) → IsStoredMember y ls m x → IsStoredMember z ms m x
  is_stored_member (member.Field i) u h = h
  is_stored_member (member.Property x) u h = ap may_write (asked x.entity.0 u.0) ∙ h

  is_target : (x : TypedVariable) → IsTarget y ls m x → IsTarget z ms m x
  is_target (variable.Local i) h = h
  is_target (variable.Global g) h = h
  is_target (variable.Property x) h = h
  is_target (variable.Field i) h = h

  -- ---- expressions

  mutual
    typed : (locals : List SlotType) (ty : SlotType) (e : t.Expr) → Stay (expr_uses e) → Types y ls m locals ty e → Types z ms m locals ty e
    typed locals ty (t.number q n) u h = h
    typed locals ty (t.truth b) u h = h
    typed locals ty (t.read (t.named x) a) u h = (h.0, is_variable locals x h.0 u h.1, is_a h.0 ty h.2)
    typed locals ty (t.read (t.member_of o x) a) u h = (
      h.0,
      h.1,
      typed locals h.1 o (first (expr_uses o) (member_uses x) u) h.2,
      is_member h.1 x h.0 (second (expr_uses o) (member_uses x) u) h.3,
      is_a h.0 ty h.4,
    )
    typed locals ty t.null u h = h
    typed locals ty (t.convert from to e) u h = (h.0, typed locals Number e u h.1)
    typed locals ty (t.negate q e) u h = (h.0, typed locals Number e u h.1)
    typed locals ty (t.complement q e) u h = (h.0, typed locals Number e u h.1)
    typed locals ty (t.not e) u h = (h.0, typed locals Number e u h.1)
    typed locals ty (t.operate op q l r) u h =
        (h.0, typed locals Number l (first (expr_uses l) (expr_uses r) u) h.1, typed locals Number r (second (expr_uses l) (expr_uses r) u) h.2)
    typed locals ty (t.compare op q l r) u h =
        (h.0, typed locals Number l (first (expr_uses l) (expr_uses r) u) h.1, typed locals Number r (second (expr_uses l) (expr_uses r) u) h.2)
    typed locals ty (t.and l r) u h =
        (h.0, typed locals Number l (first (expr_uses l) (expr_uses r) u) h.1, typed locals Number r (second (expr_uses l) (expr_uses r) u) h.2)
    typed locals ty (t.or l r) u h =
        (h.0, typed locals Number l (first (expr_uses l) (expr_uses r) u) h.1, typed locals Number r (second (expr_uses l) (expr_uses r) u) h.2)
    typed locals ty (t.choose c l r) u h =
        let rest = second (expr_uses c) (expr_uses l ++ expr_uses r) u in (
          typed locals Number c (first (expr_uses c) (expr_uses l ++ expr_uses r) u) h.0,
          typed locals ty l (first (expr_uses l) (expr_uses r) rest) h.1,
          typed locals ty r (second (expr_uses l) (expr_uses r) rest) h.2,
        )
    typed locals ty (t.same l r) u h = (
      h.0,
      (
        h.1.0,
        h.1.1,
        h.1.2,
        typed locals h.1.0 l (first (expr_uses l) (expr_uses r) u) h.1.3,
        h.1.4,
        typed locals h.1.1 r (second (expr_uses l) (expr_uses r) u) h.1.5,
      ),
    )
    typed locals ty (t.cast n e) u h = (h.0, typed locals (Family m h.0) e u h.1, is_a (Family m n) ty h.2)
    typed locals ty (t.naming x e) u h = typed locals ty e u.1 h
    typed locals ty (t.make n None args) u h = (h.0, is_a (Family m n) ty h.1)
    typed locals ty (t.make n (Some k) args) u h = (
      h.0,
      (
        h.1.0,
        h.1.1,
        has_signature k h.1.0 h.1.2,
        h.1.3,
        all_typed locals (record { passing = h.1.1; type = Family m n } ∷ []) (h.1.0).params args u h.1.4,
        is_a (h.1.0).result ty h.1.5,
      ),
    )
    typed locals ty (t.assign (t.named x) a e) u h = (
      h.0,
      is_variable locals x h.0 (first (variable_uses x) (expr_uses e) u) h.1,
      is_stored x (first (variable_uses x) (expr_uses e) u) h.2,
      typed locals h.0 e (second (variable_uses x) (expr_uses e) u) h.3,
      is_a h.0 ty h.4,
    )
    typed locals ty (t.assign (t.member_of o x) a e) u h =
        let site = first (expr_uses o ++ member_uses x) (expr_uses e) u in
        let at = second (expr_uses o) (member_uses x) site in (
          h.0,
          h.1,
          typed locals h.0 e (second (expr_uses o ++ member_uses x) (expr_uses e) u) h.2,
          typed locals h.1 o (first (expr_uses o) (member_uses x) site) h.3,
          is_member h.1 x h.0 at h.4,
          is_stored_member x at h.5,
          is_a h.0 ty h.6,
        )
    typed locals ty (t.compound (t.named x) q op operating e) u h = (
      h.0,
      is_variable locals x Number (first (variable_uses x) (expr_uses e) u) h.1,
      is_stored x (first (variable_uses x) (expr_uses e) u) h.2,
      typed locals Number e (second (variable_uses x) (expr_uses e) u) h.3,
    )
    typed locals ty (t.compound (t.member_of o x) q op operating e) u h =
        let site = first (expr_uses o ++ member_uses x) (expr_uses e) u in
        let at = second (expr_uses o) (member_uses x) site in (
          h.0,
          typed locals Number e (second (expr_uses o ++ member_uses x) (expr_uses e) u) h.1,
          (h.2.0, typed locals h.2.0 o (first (expr_uses o) (member_uses x) site) h.2.1, is_member h.2.0 x Number at h.2.2, is_stored_member x at h.2.3),
        )
    typed locals ty (t.step (t.named x) q kind) u h = (h.0, is_variable locals x Number u h.1, is_stored x u h.2)
    typed locals ty (t.step (t.member_of o x) q kind) u h =
        let at = second (expr_uses o) (member_uses x) u in
        (h.0, (h.1.0, typed locals h.1.0 o (first (expr_uses o) (member_uses x) u) h.1.1, is_member h.1.0 x Number at h.1.2, is_stored_member x at h.1.3))
    typed locals ty (t.call f a args) u h = (h.0, is_callee f h.0 h.1, all_typed locals [] (h.0).params args u h.2, is_a (h.0).result ty h.3)
    typed locals ty (t.host_call x a args) u h = (
      h.0,
      asked x.entity.0 u.0 ∙ h.1,
      h.2,
      all_typed locals [] (host_params h.0) args u.1 h.3,
      is_a (result_by (h.0).driver (h.0).result (h.0).role) ty h.4,
    )

    all_typed : (locals : List SlotType) (before all : List Parameter) (args : t.Args) → Stay (args_uses args) → TypesAll y ls m locals before all args
        → TypesAll z ms m locals before all args
    all_typed locals before all t.none u h = h
    all_typed locals before all (t.more a args) u h = (
      h.0,
      argument_typed locals h.0 a (first (arg_uses a) (args_uses args) u) h.1,
      all_typed locals (h.0 ∷ before) all args (second (arg_uses a) (args_uses args) u) h.2,
    )

    argument_typed : (locals : List SlotType) (q : Parameter) (a : t.Arg) → Stay (arg_uses a) → TypesArgument y ls m locals q a → TypesArgument z ms m locals q a
    argument_typed locals q (t.by_value a e) u h = (h.0, typed locals q.type e u h.1)
    argument_typed locals q (t.out x from to) u h = (h.0, h.1, (h.2.0, is_variable locals x h.2.0 u h.2.1, is_target x h.2.2, is_a q.type h.2.0 h.2.3))

  option_typed : (locals : List SlotType) (ty : SlotType) (o : Option t.Expr) → Stay (option_uses o) → TypesOption y ls m locals ty o → TypesOption z ms m locals ty o
  option_typed locals ty None u h = tt
  option_typed locals ty (Some e) u h = typed locals ty e u h

  each_typed : (locals : List SlotType) (es : List t.Expr) → Stay (flat_map expr_uses es) → TypesEach y ls m locals es → TypesEach z ms m locals es
  each_typed locals [] u h = tt
  each_typed locals (e ∷ es) u h = (
    (h.0.0, typed locals h.0.0 e (first (expr_uses e) (flat_map expr_uses es) u) h.0.1),
    each_typed locals es (second (expr_uses e) (flat_map expr_uses es) u) h.1,
  )

  -- ---- statements

  local_same : (l : t.Local) → Stay (local_uses l) → slot_type (ms m).view m l.ty ≡ slot_type V m l.ty
  local_same l u = type_same l.ty (first (type_uses l.ty) (option_uses l.initializer) u)

  locals_typed : (locals : List SlotType) (ns : List t.Local) → Stay (flat_map local_uses ns) → TypesLocals y ls m locals ns → TypesLocals z ms m locals ns
  locals_typed locals [] u h = tt
  locals_typed locals (l ∷ ns) u h =
      let here = first (local_uses l) (flat_map local_uses ns) u in
      subst (λ (s : SlotType). TypesOption z ms m locals s l.initializer × TypesLocals z ms m (s ∷ locals) ns) (sym (local_same l here)) (
        option_typed locals (slot_type V m l.ty) l.initializer (second (type_uses l.ty) (option_uses l.initializer) here) h.0,
        locals_typed (slot_type V m l.ty ∷ locals) ns (second (local_uses l) (flat_map local_uses ns) u) h.1,
      )

  with_same : (locals : List SlotType) (ns : List t.Local) → Stay (flat_map local_uses ns) → with_locals y ls m locals ns ≡ with_locals z ms m locals ns
  with_same locals [] u = refl
  with_same locals (l ∷ ns) u =
      ap (λ (s : SlotType). with_locals y ls m (s ∷ locals) ns) (sym (local_same l (first (local_uses l) (flat_map local_uses ns) u)))
      ∙ with_same (slot_type (ms m).view m l.ty ∷ locals) ns (second (local_uses l) (flat_map local_uses ns) u)

  after_same : (locals : List SlotType) (x : t.Stmt) → Stay (stmt_uses x) → after y ls m locals x ≡ after z ms m locals x
  after_same locals (t.block ss) u = refl
  after_same locals (t.locals ns) u = with_same locals ns u
  after_same locals (t.expression e) u = refl
  after_same locals t.break u = refl
  after_same locals t.continue u = refl
  after_same locals (t.return e) u = refl
  after_same locals (t.either c ss otherwise) u = refl
  after_same locals (t.while c ss) u = refl
  after_same locals (t.do_while ss c) u = refl
  after_same locals (t.for start c steps ss) u = refl

  after_all_same : (locals : List SlotType) (ss : t.Stmts) → Stay (stmts_uses ss) → after_all y ls m locals ss ≡ after_all z ms m locals ss
  after_all_same locals t.end u = refl
  after_all_same locals (t.then x ss) u =
      ap (λ (l : List SlotType). after_all y ls m l ss) (after_same locals x (first (stmt_uses x) (stmts_uses ss) u))
      ∙ after_all_same (after z ms m locals x) ss (second (stmt_uses x) (stmts_uses ss) u)

  mutual
    statement_typed : (result : SlotType) (loop : Bool) (locals : List SlotType) (x : t.Stmt) → Stay (stmt_uses x) → TypesStatement y ls m result loop locals x
        → TypesStatement z ms m result loop locals x
    statement_typed result loop locals (t.block ss) u h = statements_typed result loop locals ss u h
    statement_typed result loop locals (t.locals ns) u h = locals_typed locals ns u h
    statement_typed result loop locals (t.expression None) u h = tt
    statement_typed result loop locals (t.expression (Some e)) u h = (h.0, typed locals h.0 e u h.1)
    statement_typed result loop locals t.break u h = h
    statement_typed result loop locals t.continue u h = h
    statement_typed result loop locals (t.return None) u h = h
    statement_typed result loop locals (t.return (Some e)) u h = typed locals result e u h
    statement_typed result loop locals (t.either c ss otherwise) u h =
        let rest = second (expr_uses c) (stmts_uses ss ++ stmts_uses otherwise) u in (
          typed locals Number c (first (expr_uses c) (stmts_uses ss ++ stmts_uses otherwise) u) h.0,
          statements_typed result loop locals ss (first (stmts_uses ss) (stmts_uses otherwise) rest) h.1,
          statements_typed result loop locals otherwise (second (stmts_uses ss) (stmts_uses otherwise) rest) h.2,
        )
    statement_typed result loop locals (t.while c ss) u h =
        (typed locals Number c (first (expr_uses c) (stmts_uses ss) u) h.0, statements_typed result true locals ss (second (expr_uses c) (stmts_uses ss) u) h.1)
    statement_typed result loop locals (t.do_while ss c) u h =
        (statements_typed result true locals ss (second (expr_uses c) (stmts_uses ss) u) h.0, typed locals Number c (first (expr_uses c) (stmts_uses ss) u) h.1)
    statement_typed result loop locals (t.for start c steps ss) u h =
        let begun = first (stmts_uses start) (option_uses c ++ (flat_map expr_uses steps ++ stmts_uses ss)) u in
        let rest = second (stmts_uses start) (option_uses c ++ (flat_map expr_uses steps ++ stmts_uses ss)) u in
        let last = second (option_uses c) (flat_map expr_uses steps ++ stmts_uses ss) rest in
        let inside = after_all y ls m locals start in
        let same = after_all_same locals start begun in (
          statements_typed result loop locals start begun h.0,
          subst (λ (l : List SlotType). TypesOption z ms m l Number c) same
              (option_typed inside Number c (first (option_uses c) (flat_map expr_uses steps ++ stmts_uses ss) rest) h.1),
          subst (λ (l : List SlotType). TypesEach z ms m l steps) same (each_typed inside steps (first (flat_map expr_uses steps) (stmts_uses ss) last) h.2),
          subst (λ (l : List SlotType). TypesStatements z ms m result true l ss) same
              (statements_typed result true inside ss (second (flat_map expr_uses steps) (stmts_uses ss) last) h.3),
        )

    statements_typed : (result : SlotType) (loop : Bool) (locals : List SlotType) (ss : t.Stmts) → Stay (stmts_uses ss)
        → TypesStatements y ls m result loop locals ss → TypesStatements z ms m result loop locals ss
    statements_typed result loop locals t.end u h = tt
    statements_typed result loop locals (t.then x ss) u h = (
      statement_typed result loop locals x (first (stmt_uses x) (stmts_uses ss) u) h.0,
      subst (λ (l : List SlotType). TypesStatements z ms m result loop l ss) (after_same locals x (first (stmt_uses x) (stmts_uses ss) u))
          (statements_typed result loop (after y ls m locals x) ss (second (stmt_uses x) (stmts_uses ss) u) h.1),
    )

  -- ---- the program

  body_typed : (s : Signature) (ss : t.Stmts) → Stay (stmts_uses ss) → TypesBody y ls m s ss → TypesBody z ms m s ss
  body_typed s ss u h = record { statements = statements_typed s.result false (types_of s.params) ss u h.statements; ends = h.ends }

  classes_typed : AreClasses y ls m → AreClasses z ms m
  classes_typed h = record {
    itself = h.itself;
    above = h.above;
    inherits = λ c d i ty under at.
        ap (λ (l : List SlotType). slice_get l i) (fields_same c) ∙ h.inherits c d i ty under (sym (ap (λ (l : List SlotType). slice_get l i) (fields_same d)) ∙ at);
    falls = λ c d e i at under. h.falls c d e i (sym (ap (λ (l : List SlotType). slice_get l i) (fields_same c)) ∙ at) under;
  }

  function_typed : TypedProgram y ls m → (k : ℕ) (s : Signature) (f : HasSignature z ms m k s) → TypesBody z ms m s f.function.body
  function_typed h k s f =
      let u = function_kept k f.function f.there in
      let was : HasSignature y ls m k s = record {
        function = f.function;
        there = f.there;
        signature = signature_was ((ms m).is_constructor k) f.function s u.parameters u.result f.signature;
      } in
      body_typed s f.function.body u.body (h.functions k s was)

  global_typed : TypedProgram y ls m → (i : ℕ) (x : t.Global) → slice_get (ms m).program.globals i ≡ Some x
      → TypesOption z ms m [] (slot_type (ms m).view m x.ty) x.initializer
  global_typed h i x at =
      let u = global_kept i x at in
      let same : slot_type (ms m).view m x.ty ≡ slot_type V m x.ty = type_same x.ty (first (type_uses x.ty) (option_uses x.initializer) u) in
      subst (λ (s : SlotType). TypesOption z ms m [] s x.initializer) (sym same)
      (option_typed [] (slot_type V m x.ty) x.initializer (second (type_uses x.ty) (option_uses x.initializer) u) (h.globals i x at))

  pub program_typed : TypedProgram y ls m → TypedProgram z ms m
  program_typed h = record { classes = classes_typed h.classes; functions = function_typed h; globals = global_typed h }

pub uses_enough : UsesAreEnough
uses_enough V z ms m enough view h = program_typed V z ms m view enough h

pub narrowed_typed : NarrowedIsTyped
narrowed_typed V z ms m same view h =
    uses_enough V z ms m (subst (λ (W : RegistrationList). HasUses V W (ms m).program) (sym same) (narrowed_has V (ms m).program)) view h
