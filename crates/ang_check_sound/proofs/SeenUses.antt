-- No number that a resolved tree uses is that of a blank of its view.
use Rattle.std.specs.Prelude.{◌≡◌, ℕ, zero, suc, ◌+◌, ◌≤◌, ◌<◌, ◌||◌, All, Bool, true, false, List, [], ◌∷◌, ◌++◌, length, map, option_and_then, Option, Some, None, IfSome, is_some, Ok, Err, IfOk, slice_get}
use Rattle.std.specs.List.{filter_map, flat_map}
use Rattle.std.proofs.Common.{ap, sym, subst, arith}
use Rattle.ang_kinds.specs.declared.position.Position.{Position}
use Rattle.ang_kinds.specs.declared.types.Pass.{Pass}
use Rattle.ang_lex.specs.declared.token.Token.{Token}
use Rattle.ang_view.specs.declared.entry.EntryKind.{EntryKind}
use Rattle.ang_view.specs.declared.entry.EntryKind.TheVariants.{Property, Global}
use Rattle.ang_view.specs.Registration.{RegistrationList}
use Rattle.ang_view.specs.Values.{TakesValues}
use Rattle.ang_tree.specs.declared.type_name.TypeName.{TypeName}
use Rattle.ang_tree.specs.Declarations.{SuperTree}
use Rattle.ang_tree.specs.Stmt.{Every, Init, Body, Stmts}
use Rattle.ang_types.specs.declared.arg_type.ArgType.{ArgType}
use Rattle.ang_types.specs.declared.arg_type.ArgType.TheVariants as type
use Rattle.ang_typed.specs.declared.expression.HostEntity.{HostEntity}
use Rattle.ang_typed.specs.declared.expression.TypedMember.{TypedMember}
use Rattle.ang_typed.specs.declared.expression.TypedMember.TheVariants as member
use Rattle.ang_typed.specs.declared.expression.TypedVariable.{TypedVariable}
use Rattle.ang_typed.specs.declared.expression.TypedVariable.TheVariants as variable
use Rattle.ang_typed.specs.declared.program.Heading.{Heading}
use Rattle.ang_typed.specs.declared.program.TypedParameter.{TypedParameter}
use Rattle.ang_typed.specs.Typed as t
use Rattle.ang_typed.specs.Uses.{args_uses, arg_uses, class_uses, expr_uses, function_uses, global_uses, heading_uses, host_uses, local_uses, member_uses, option_uses, parameter_uses, stmt_uses, stmts_uses, type_uses, uses, variable_uses}
use Rattle.ang_names_known.specs.declared.names.ScriptConstructor.{ScriptConstructor}
use Rattle.ang_names_known.specs.declared.names.Family.{Family}
use Rattle.ang_names_known.specs.declared.names.Field.{Field}
use Rattle.ang_names_known.specs.declared.names.ScriptMethod.{ScriptMethod}
use Rattle.ang_names_known.specs.declared.names.Names.{Names}
use Rattle.ang_names_known.specs.declared.names.ScriptFunction.{ScriptFunction}
use Rattle.ang_names_known.specs.declared.names.ScriptGlobal.{ScriptGlobal}
use Rattle.ang_names_known.specs.Items.{each_after}
use Rattle.ang_names_known.specs.Spaces.{first_family}
use Rattle.ang_names_listed.specs.Sources.{Source}
use Rattle.ang_names_listed.specs.Declarations.{declarations_of}
use Rattle.ang_names_classes.specs.Resolved.{names_of, space_of_declared}
use Rattle.ang_check_operators.specs.Refusals.{Typing}
use Rattle.ang_check_context.specs.declared.scope.Within.{Within}
use Rattle.ang_check_context.specs.Names.{own_type}
use Rattle.ang_check_context.specs.Scope.{BodyContext}
use Rattle.ang_check_stmt.specs.Paths.{body_ends}
use Rattle.ang_check_stmt.specs.Positions.{inner_positions}
use Rattle.ang_check_stmt.specs.Typing.{initializer_typing, block_typing, stmts_typing}
use Rattle.ang_check.specs.Typing.{typed_parameter, typed_parameters, parameter_local, this_local, this_parameter, ending, frame_of, maker_frame, base_typing, function_typing, method_body_typing, constructor_typing, global_typing}
use Rattle.ang_types.specs.ArgTypes.{is_void}
use Rattle.ang_check.specs.Bodies.{Part, a_function, a_global, a_method, a_constructor, a_default, parts_of, Judgement, of_function, of_global, of_member, of_default, context_in, within_of, base_of, base_name, judged_function, judged_global, method_at, judged_method, constructor_at, judged_constructor, judged, judgements, given, function_given, member_given, global_given, body_refusals, typed_class, method_heading, import_heading, program_of}
use Rattle.ang_source.specs.Sound as s
use Rattle.ang_source.specs.Sound.{Module, module_of, IsEntity, IsNoBlank, IsSeenType, declared, declared_by, SoundProgram}
use Rattle.ang_check_sound.proofs.Items.{every_joined, every_mapped, every_flat, every_other}
use Rattle.ang_check_sound.proofs.Judged.{holds, either_holds, any}
use Rattle.ang_check_sound.proofs.Places.{all_of_each}
use Rattle.ang_check_sound.proofs.DeclaredTypes.{every_given, ParameterHas, FunctionHas, MethodHas, ConstructorHas, GlobalHas, FamilyHas, NamesHave, names_have}
use Rattle.ang_check_sound.proofs.Types.{written_seen}
use Rattle.ang_check_sound.proofs.Soundness.{program_is_sound}

-- ---- the types of headings

module _ (V : RegistrationList) where
  abbrev IsSeenTyped : TypedParameter → Type 0
  IsSeenTyped p = IsSeenType V p.ty

  -- the types of parameters and of a result
  abbrev AreSeenTypes : List TypedParameter → ArgType → Type 0
  AreSeenTypes ps ty = Every IsSeenTyped ps × IsSeenType V ty

  abbrev HasSeenTypes : t.TypedFunction → Type 0
  HasSeenTypes f = AreSeenTypes f.parameters f.result

  abbrev IsSeenHeading : Heading → Type 0
  IsSeenHeading h = AreSeenTypes h.parameters h.result

  abbrev HasSeenType : t.Global → Type 0
  HasSeenType g = IsSeenType V g.ty

  -- those of what a part of a build gives
  abbrev GivesSeenTypes : Judgement → Type 0
  GivesSeenTypes (of_function text f) = IfOk f HasSeenTypes
  GivesSeenTypes (of_global text g) = IfOk g HasSeenType
  GivesSeenTypes (of_member text f) = IfOk f HasSeenTypes
  GivesSeenTypes (of_default text b) = Unit {0}

  if_given : {A : Type 0} (P : A → Type 0) (x : Typing A) → IfOk x P → IfSome (given x) P
  if_given P (Ok a) h = h
  if_given P (Err r) h = tt

  function_has : (j : Judgement) → GivesSeenTypes j → IfSome (function_given j) HasSeenTypes
  function_has (of_function text f) h = if_given HasSeenTypes f h
  function_has (of_global text g) h = tt
  function_has (of_member text f) h = tt
  function_has (of_default text b) h = tt

  member_has : (j : Judgement) → GivesSeenTypes j → IfSome (member_given j) HasSeenTypes
  member_has (of_function text f) h = tt
  member_has (of_global text g) h = tt
  member_has (of_member text f) h = if_given HasSeenTypes f h
  member_has (of_default text b) h = tt

  global_has : (j : Judgement) → GivesSeenTypes j → IfSome (global_given j) HasSeenType
  global_has (of_function text f) h = tt
  global_has (of_global text g) h = if_given HasSeenType g h
  global_has (of_member text f) h = tt
  global_has (of_default text b) h = tt

every_get : {A : Type 0} (P : A → Type 0) (xs : List A) (i : ℕ) → Every P xs → IfSome (slice_get xs i) P
every_get P [] i h = tt
every_get P (x ∷ xs) zero h = h.0
every_get P (x ∷ xs) (suc i) h = every_get P xs i h.1

-- In a view whose types have numbers below those of families:
module _ (V : RegistrationList) (few : length V ≤ first_family) where
  -- a family's number is past the view's end
  own_seen : (w : Within) → IsSeenType V (own_type w)
  own_seen w = λ within.
      let below : length V ≤ 1024 = few in
      let past : 1024 + w.family < length V = within in
      absurd (omega (arith, below, past))

  parameters_seen : (f : ScriptFunction) → FunctionHas (IsSeenType V) f → Every (IsSeenTyped V) (typed_parameters f)
  parameters_seen f h = every_mapped (ParameterHas (IsSeenType V)) (IsSeenTyped V) typed_parameter f.params (λ p k. k) h.params

  ending_seen : (ty : ArgType) (x : Token) (ends : Bool) (ps : List TypedParameter) (qs : List Position) (ss : t.Stmts) → AreSeenTypes V ps ty → IfOk (ending ty x ends ps qs ss) (HasSeenTypes V)
  ending_seen ty x ends ps qs ss h = either_holds (HasSeenTypes V) (ends || is_void ty) _ _ h tt

  function_seen : (c : BodyContext) (f : ScriptFunction) (x : Token) (b : Body) → FunctionHas (IsSeenType V) f → IfOk (function_typing c f x b) (HasSeenTypes V)
  unfolding function_typing
  function_seen c f x b h =
      let ps = map parameter_local f.params in
      let typing = block_typing (frame_of c f.result.ty ps) false ps b in
      holds (λ ss. Unit {0}) (HasSeenTypes V) typing _ (any typing) (λ ss k. ending_seen f.result.ty x (body_ends b) (typed_parameters f) (inner_positions b) ss (parameters_seen f h, h.result))

  method_seen : (c : BodyContext) (w : Within) (f : ScriptFunction) (x : Token) (b : Body) → FunctionHas (IsSeenType V) f → IfOk (method_body_typing c w f x b) (HasSeenTypes V)
  unfolding method_body_typing
  method_seen c w f x b h =
      let ps = this_local w ∷ map parameter_local f.params in
      let typing = block_typing (frame_of c f.result.ty ps) false ps b in
      holds (λ ss. Unit {0}) (HasSeenTypes V) typing _ (any typing)
      (λ ss k. ending_seen f.result.ty x (body_ends b) (this_parameter w ∷ typed_parameters f) (inner_positions b) ss ((own_seen w, parameters_seen f h), h.result))

  constructor_seen : (c : BodyContext) (w : Within) (f : ScriptFunction) (x base : Token) (b : Option ℕ) (u : Option SuperTree) (ss : Stmts) (close : Token) → FunctionHas (IsSeenType V) f
      → IfOk (constructor_typing c w f x base b u ss close) (HasSeenTypes V)
  unfolding constructor_typing
  constructor_seen c w f x base b u ss close h =
      let ps = this_local w ∷ map parameter_local f.params in
      let first = base_typing c ps x base b u in
      let rest = stmts_typing (maker_frame c w ps) false (length ps) ps ss in
      holds (λ y. Unit {0}) (HasSeenTypes V) first _ (any first)
      (λ y k. holds (λ xs. Unit {0}) (HasSeenTypes V) rest _ (any rest) (λ xs l. ((own_seen w, parameters_seen f h), own_seen w)))

  global_seen : (c : BodyContext) (g : ScriptGlobal) (y : TypeName) (i : Init) → GlobalHas (IsSeenType V) g → IfOk (global_typing c g y i) (HasSeenType V)
  unfolding global_typing
  global_seen c g y i h =
      let typing = initializer_typing c [] y g.written.ty i in
      holds (λ x. Unit {0}) (HasSeenType V) typing _ (any typing) (λ x k. h)

  -- ---- what the parts of a build give

  module _ (names : Names) (seen : NamesHave (IsSeenType V) names) where
    one_function : (text : List ℕ) (x : Token) (b : Body) (o : Option ScriptFunction) → IfSome o (FunctionHas (IsSeenType V)) → Every (GivesSeenTypes V) (judged_function V names text x b o)
    one_function text x b None h = tt
    one_function text x b (Some f) h = (function_seen (context_in V names text None) f x b h, tt)

    one_global : (text : List ℕ) (y : TypeName) (i : Init) (o : Option ScriptGlobal) → IfSome o (GlobalHas (IsSeenType V)) → Every (GivesSeenTypes V) (judged_global V names text y i o)
    one_global text y i None h = tt
    one_global text y i (Some g) h = (global_seen (context_in V names text None) g y i h, tt)

    one_method : (c : ℕ) (text : List ℕ) (x : Token) (b : Body) (o : Option ScriptMethod) → IfSome o (MethodHas (IsSeenType V)) → Every (GivesSeenTypes V) (judged_method V names c text x b o)
    one_method c text x b None h = tt
    one_method c text x b (Some m) h =
        let w = within_of V names c m.read_only in (method_seen (context_in V names text (Some w)) w m.function x b h, tt)

    one_constructor : (c : ℕ) (text : List ℕ) (x base : Token) (n : Option ℕ) (u : Option SuperTree) (ss : Stmts) (close : Token) (o : Option ScriptConstructor) → IfSome o (ConstructorHas (IsSeenType V))
        → Every (GivesSeenTypes V) (judged_constructor V names c text x base n u ss close o)
    one_constructor c text x base n u ss close None h = tt
    one_constructor c text x base n u ss close (Some k) h =
        let w = within_of V names c false in (constructor_seen (context_in V names text (Some w)) w k.function x base n u ss close h, tt)

    method_of : (m : ℕ) (o : Option Family) → IfSome o (FamilyHas (IsSeenType V)) → IfSome (option_and_then (λ (f : Family). slice_get f.methods m) o) (MethodHas (IsSeenType V))
    method_of m None h = tt
    method_of m (Some f) h = every_get (MethodHas (IsSeenType V)) f.methods m h.methods

    constructor_of : (m : ℕ) (o : Option Family) → IfSome o (FamilyHas (IsSeenType V)) → IfSome (option_and_then (λ (f : Family). slice_get f.constructors m) o) (ConstructorHas (IsSeenType V))
    constructor_of m None h = tt
    constructor_of m (Some f) h = every_get (ConstructorHas (IsSeenType V)) f.constructors m h.constructors

    part_seen : (p : Part) → Every (GivesSeenTypes V) (judged V names p)
    part_seen (a_function n text x b) = one_function text x b (slice_get names.functions n) (every_get (FunctionHas (IsSeenType V)) names.functions n seen.functions)
    part_seen (a_global n text y i) = one_global text y i (slice_get names.globals n) (every_get (GlobalHas (IsSeenType V)) names.globals n seen.globals)
    part_seen (a_method c m text x b) =
        one_method c text x b (method_at V names c m) (method_of m (slice_get names.families c) (every_get (FamilyHas (IsSeenType V)) names.families c seen.families))
    part_seen (a_constructor c m text x own bases u ss close) =
        one_constructor c text x (base_name V names c text own bases) (base_of V names c) u ss close (constructor_at V names c m)
        (constructor_of m (slice_get names.families c) (every_get (FamilyHas (IsSeenType V)) names.families c seen.families))
    part_seen (a_default c text x bases) = (tt, tt)

    parts_seen : (ps : List Part) → Every (GivesSeenTypes V) (flat_map (judged V names) ps)
    parts_seen ps = every_flat (GivesSeenTypes V) (judged V names) ps part_seen

  -- ---- what families declare

  heading_seen : (c : ℕ) (m : ScriptMethod) → MethodHas (IsSeenType V) m → IsSeenHeading V (method_heading c m)
  heading_seen c m h = ((own_seen (record { family = c; read_only = m.read_only }), parameters_seen m.function h), h.result)

  headings_seen : (before fs : List Family) → Every (FamilyHas (IsSeenType V)) fs → Every (IsSeenHeading V) (each_after (λ before (f : Family). map (method_heading (length before)) f.methods) before fs)
  headings_seen before [] h = tt
  headings_seen before (f ∷ fs) h =
      every_joined (IsSeenHeading V) _ _ (every_mapped (MethodHas (IsSeenType V)) (IsSeenHeading V) (method_heading (length before)) f.methods (heading_seen (length before)) h.0.methods)
      (headings_seen (before ++ f ∷ []) fs h.1)

  imports_seen : (fs : List ScriptFunction) → Every (FunctionHas (IsSeenType V)) fs → Every (IsSeenHeading V) (map import_heading fs)
  imports_seen fs h = every_mapped (FunctionHas (IsSeenType V)) (IsSeenHeading V) import_heading fs (λ f k. (parameters_seen f k, k.result)) h

-- ---- what is used

module _ (M : Module) where
  abbrev NoBlank : ℕ → Type 0
  NoBlank = IsNoBlank M.view

  abbrev NoBlanks : List ℕ → Type 0
  NoBlanks = Every NoBlank

  abbrev joined : (ms ns : List ℕ) → NoBlanks ms → NoBlanks ns → NoBlanks (ms ++ ns)
  joined = every_joined NoBlank

  type_used : (ty : ArgType) → IsSeenType M.view ty → NoBlanks (type_uses ty)
  type_used type.Void h = tt
  type_used type.Null h = tt
  type_used (type.Plain p) h = tt
  type_used (type.Enumeration n) h = (h, tt)
  type_used (type.Object n c) h = (h, tt)
  type_used (type.Handle n c) h = (h, tt)

  entity_used : (kind : EntryKind) (h : HostEntity) → IsEntity M.view kind h → NoBlanks (host_uses h)
  entity_used kind h e = ((λ within. ap is_some e.in_view), tt)

  variable_used : (n : ℕ) (x : TypedVariable) → s.IsVariable M n x → NoBlanks (variable_uses x)
  variable_used n (variable.Local i) h = tt
  variable_used n (variable.Global g) h = tt
  variable_used n (variable.Property x) h = entity_used Global x h
  variable_used n (variable.Field i) h = tt

  stored_used : (n : ℕ) (x : TypedVariable) → s.IsStored M n x → NoBlanks (variable_uses x)
  stored_used n (variable.Local i) h = tt
  stored_used n (variable.Global g) h = tt
  stored_used n (variable.Property x) h = entity_used Global x h.entity
  stored_used n (variable.Field i) h = tt

  target_used : (n : ℕ) (x : TypedVariable) → s.IsTarget M n x → NoBlanks (variable_uses x)
  target_used n (variable.Local i) h = tt
  target_used n (variable.Global g) h = tt
  target_used n (variable.Property x) h = absurd h
  target_used n (variable.Field i) h = tt

  member_used : (m : TypedMember) → s.IsMember M m → NoBlanks (member_uses m)
  member_used (member.Field i) h = tt
  member_used (member.Property x) h = entity_used Property x h

  stored_member_used : (m : TypedMember) → s.IsStoredMember M m → NoBlanks (member_uses m)
  stored_member_used (member.Field i) h = tt
  stored_member_used (member.Property x) h = entity_used Property x h.entity

  mutual
    used : (n : ℕ) (e : t.Expr) → s.Sound M n e → NoBlanks (expr_uses e)
    used n (t.number ty x) h = tt
    used n (t.truth b) h = tt
    used n (t.read (t.named x) ty) h = variable_used n x h
    used n (t.read (t.member_of o a) ty) h = joined (expr_uses o) (member_uses a) (used n o h.1) (member_used a h.0)
    used n t.null h = tt
    used n (t.convert from to e) h = used n e h
    used n (t.negate ty e) h = used n e h
    used n (t.complement ty e) h = used n e h
    used n (t.not e) h = used n e h
    used n (t.operate op ty l r) h = joined (expr_uses l) (expr_uses r) (used n l h.0) (used n r h.1)
    used n (t.compare op ty l r) h = joined (expr_uses l) (expr_uses r) (used n l h.0) (used n r h.1)
    used n (t.and l r) h = joined (expr_uses l) (expr_uses r) (used n l h.0) (used n r h.1)
    used n (t.or l r) h = joined (expr_uses l) (expr_uses r) (used n l h.0) (used n r h.1)
    used n (t.choose c l r) h =
        joined (expr_uses c) (expr_uses l ++ expr_uses r) (used n c h.0) (joined (expr_uses l) (expr_uses r) (used n l h.1) (used n r h.2))
    used n (t.same l r) h = joined (expr_uses l) (expr_uses r) (used n l h.0) (used n r h.1)
    used n (t.cast c e) h = used n e h.1
    used n (t.naming x e) h = ((λ within. h.0), used n e h.1)
    used n (t.make c None args) h = subst (λ (xs : t.Args). NoBlanks (args_uses xs)) (sym h.1) tt
    used n (t.make c (Some k) args) h = arguments_used n h.1.1 args h.1.4
    used n (t.assign (t.named x) ty e) h = joined (variable_uses x) (expr_uses e) (stored_used n x h.0) (used n e h.1)
    used n (t.assign (t.member_of o a) ty e) h =
        joined (expr_uses o ++ member_uses a) (expr_uses e) (joined (expr_uses o) (member_uses a) (used n o h.1) (stored_member_used a h.0)) (used n e h.2)
    used n (t.compound (t.named x) ty op at e) h = joined (variable_uses x) (expr_uses e) (stored_used n x h.0) (used n e h.1)
    used n (t.compound (t.member_of o a) ty op at e) h =
        joined (expr_uses o ++ member_uses a) (expr_uses e) (joined (expr_uses o) (member_uses a) (used n o h.1) (stored_member_used a h.0)) (used n e h.2)
    used n (t.step (t.named x) ty kind) h = stored_used n x h
    used n (t.step (t.member_of o a) ty kind) h = joined (expr_uses o) (member_uses a) (used n o h.1) (stored_member_used a h.0)
    used n (t.call f result args) h = arguments_used n h.0 args h.2
    used n (t.host_call x result args) h = joined (host_uses x) (args_uses args) (entity_used h.0.kind x h.0.entity) (values_used n args h.1)

    arguments_used : (n : ℕ) (ps : List TypedParameter) (args : t.Args) → s.SoundArguments M n ps args → NoBlanks (args_uses args)
    arguments_used n [] t.none h = tt
    arguments_used n [] (t.more a args) h = absurd h
    arguments_used n (p ∷ ps) t.none h = tt
    arguments_used n (p ∷ ps) (t.more a args) h = joined (arg_uses a) (args_uses args) (argument_used n p.pass a h.0) (arguments_used n ps args h.1)

    argument_used : (n : ℕ) (pass : Pass) (a : t.Arg) → s.SoundArgument M n pass a → NoBlanks (arg_uses a)
    argument_used n pass (t.by_value ty e) h = used n e h.1
    argument_used n pass (t.out x from to) h = target_used n x h.1

    values_used : (n : ℕ) (args : t.Args) → s.SoundValues M n args → NoBlanks (args_uses args)
    values_used n t.none h = tt
    values_used n (t.more a args) h = joined (arg_uses a) (args_uses args) (value_used n a h.0) (values_used n args h.1)

    value_used : (n : ℕ) (a : t.Arg) → s.SoundValue M n a → NoBlanks (arg_uses a)
    value_used n (t.by_value ty e) h = used n e h
    value_used n (t.out x from to) h = absurd h

  option_used : (n : ℕ) (o : Option t.Expr) → s.SoundOption M n o → NoBlanks (option_uses o)
  option_used n None h = tt
  option_used n (Some e) h = used n e h

  each_used : (n : ℕ) (es : List t.Expr) → s.SoundEach M n es → NoBlanks (flat_map expr_uses es)
  each_used n [] h = tt
  each_used n (e ∷ es) h = joined (expr_uses e) (flat_map expr_uses es) (used n e h.0) (each_used n es h.1)

  locals_used : (n : ℕ) (ls : List t.Local) → s.SoundLocals M n ls → NoBlanks (flat_map local_uses ls)
  locals_used n [] h = tt
  locals_used n (l ∷ ls) h =
      joined (local_uses l) (flat_map local_uses ls) (joined (type_uses l.ty) (option_uses l.initializer) (type_used l.ty h.0) (option_used n l.initializer h.1))
      (locals_used (suc n) ls h.2)

  mutual
    statement_used : (loop : Bool) (n : ℕ) (x : t.Stmt) → s.SoundStatement M loop n x → NoBlanks (stmt_uses x)
    statement_used loop n (t.block ss) h = statements_used loop n ss h
    statement_used loop n (t.locals ls) h = locals_used n ls h
    statement_used loop n (t.expression e) h = option_used n e h
    statement_used loop n t.break h = tt
    statement_used loop n t.continue h = tt
    statement_used loop n (t.return e) h = option_used n e h
    statement_used loop n (t.either c ss otherwise) h =
        joined (expr_uses c) (stmts_uses ss ++ stmts_uses otherwise) (used n c h.0)
        (joined (stmts_uses ss) (stmts_uses otherwise) (statements_used loop n ss h.1) (statements_used loop n otherwise h.2))
    statement_used loop n (t.while c ss) h = joined (expr_uses c) (stmts_uses ss) (used n c h.0) (statements_used true n ss h.1)
    statement_used loop n (t.do_while ss c) h = joined (expr_uses c) (stmts_uses ss) (used n c h.1) (statements_used true n ss h.0)
    statement_used loop n (t.for start c steps ss) h =
        let m = declared_by start + n in
        joined (stmts_uses start) (option_uses c ++ (flat_map expr_uses steps ++ stmts_uses ss)) (statements_used loop n start h.0)
        (joined (option_uses c) (flat_map expr_uses steps ++ stmts_uses ss) (option_used m c h.1)
        (joined (flat_map expr_uses steps) (stmts_uses ss) (each_used m steps h.2) (statements_used true m ss h.3)))

    statements_used : (loop : Bool) (n : ℕ) (ss : t.Stmts) → s.SoundStatements M loop n ss → NoBlanks (stmts_uses ss)
    statements_used loop n t.end h = tt
    statements_used loop n (t.then x ss) h = joined (stmt_uses x) (stmts_uses ss) (statement_used loop n x h.0) (statements_used loop (declared x + n) ss h.1)

  parameters_used : (ps : List TypedParameter) → Every (IsSeenTyped M.view) ps → NoBlanks (flat_map parameter_uses ps)
  parameters_used [] h = tt
  parameters_used (p ∷ ps) h = joined (type_uses p.ty) (flat_map parameter_uses ps) (type_used p.ty h.0) (parameters_used ps h.1)

  functions_used : (fs : List t.TypedFunction) → Every (HasSeenTypes M.view) fs → s.SoundFunctions M fs → NoBlanks (flat_map function_uses fs)
  functions_used [] h k = tt
  functions_used (f ∷ fs) h k =
      joined (function_uses f) (flat_map function_uses fs)
      (joined (flat_map parameter_uses f.parameters) (type_uses f.result ++ stmts_uses f.body) (parameters_used f.parameters h.0.0)
      (joined (type_uses f.result) (stmts_uses f.body) (type_used f.result h.0.1) (statements_used false (length f.parameters) f.body k.0)))
      (functions_used fs h.1 k.1)

  globals_used : (gs : List t.Global) → Every (HasSeenType M.view) gs → s.SoundGlobals M gs → NoBlanks (flat_map global_uses gs)
  globals_used [] h k = tt
  globals_used (g ∷ gs) h k =
      joined (global_uses g) (flat_map global_uses gs) (joined (type_uses g.ty) (option_uses g.initializer) (type_used g.ty h.0) (option_used 0 g.initializer k.0))
      (globals_used gs h.1 k.1)

  fields_used : (xs : List Field) → Every (λ x. IsSeenType M.view x.written.ty) xs → NoBlanks (flat_map type_uses (map (λ (x : Field). x.written.ty) xs))
  fields_used [] h = tt
  fields_used (x ∷ xs) h = joined (type_uses x.written.ty) (flat_map type_uses (map (λ (y : Field). y.written.ty) xs)) (type_used x.written.ty h.0) (fields_used xs h.1)

  classes_used : (fs : List Family) → Every (FamilyHas (IsSeenType M.view)) fs → NoBlanks (flat_map class_uses (map typed_class fs))
  classes_used [] h = tt
  classes_used (f ∷ fs) h = joined (class_uses (typed_class f)) (flat_map class_uses (map typed_class fs)) (fields_used f.fields h.0.fields) (classes_used fs h.1)

  headings_used : (hs : List Heading) → Every (IsSeenHeading M.view) hs → NoBlanks (flat_map heading_uses hs)
  headings_used [] k = tt
  headings_used (h ∷ hs) k =
      joined (heading_uses h) (flat_map heading_uses hs) (joined (flat_map parameter_uses h.parameters) (type_uses h.result) (parameters_used h.parameters k.0.0) (type_used h.result k.0.1))
      (headings_used hs k.1)

-- ---- all of it

record SeesAll (V : RegistrationList) (p : t.Program) : Type 0 where
  functions : Every (HasSeenTypes V) p.functions
  globals : Every (HasSeenType V) p.globals
  classes : Every (IsNoBlank V) (flat_map class_uses p.classes)
  methods : Every (IsSeenHeading V) p.methods
  imports : Every (IsSeenHeading V) p.imports

types_seen : (V : RegistrationList) (names : Names) (sources : List Source) → length V ≤ first_family → NamesHave (IsSeenType V) names → SeesAll V (program_of V names sources)
unfolding judgements program_of
types_seen V names sources few seen =
    let js = judgements V names sources in
    let all = parts_seen V few names seen (parts_of sources) in
    record {
      functions =
          every_joined (HasSeenTypes V) (filter_map function_given js) (filter_map member_given js)
          (every_given (HasSeenTypes V) function_given js (every_other (GivesSeenTypes V) (λ j. IfSome (function_given j) (HasSeenTypes V)) js (function_has V) all))
          (every_given (HasSeenTypes V) member_given js (every_other (GivesSeenTypes V) (λ j. IfSome (member_given j) (HasSeenTypes V)) js (member_has V) all));
      globals = every_given (HasSeenType V) global_given js (every_other (GivesSeenTypes V) (λ j. IfSome (global_given j) (HasSeenType V)) js (global_has V) all);
      classes = classes_used (module_of V (program_of V names sources)) names.families seen.families;
      methods = headings_seen V few [] names.families seen.families;
      imports = imports_seen V few names.imports seen.imports;
    }

used_by : (V : RegistrationList) (p : t.Program) → SoundProgram V p → SeesAll V p → Every (IsNoBlank V) (uses p)
unfolding uses
used_by V p sound seen =
    let M = module_of V p in
    every_joined (IsNoBlank V) (flat_map function_uses p.functions) _ (functions_used M p.functions seen.functions sound.functions)
    (every_joined (IsNoBlank V) (flat_map global_uses p.globals) _ (globals_used M p.globals seen.globals sound.globals)
    (every_joined (IsNoBlank V) (flat_map class_uses p.classes) _ seen.classes
    (every_joined (IsNoBlank V) (flat_map heading_uses p.methods) _ (headings_used M p.methods seen.methods) (headings_used M p.imports seen.imports))))

pub uses_seen : (V : RegistrationList) (names : Names) (sources : List Source) → TakesValues V → length V ≤ first_family
    → names ≡ names_of V (declarations_of sources) → body_refusals V names sources ≡ [] → All (IsNoBlank V) (uses (program_of V names sources))
uses_seen V names sources values few e none =
    let p = program_of V names sources in
    all_of_each (IsNoBlank V) (uses p)
    (used_by V p (program_is_sound V names sources values few e none)
    (types_seen V names sources few (subst (NamesHave (IsSeenType V)) (sym e)
    (names_have V (declarations_of sources) (IsSeenType V) (written_seen (space_of_declared V (declarations_of sources)) few) tt))))
