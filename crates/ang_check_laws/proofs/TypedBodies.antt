-- A body and an initializer that were typed are typed bodies, of what they were declared with.
use Rattle.std.specs.Prelude.{◌≡◌, ◌≢◌, ℕ, zero, suc, ◌-◌, ◌<◌, Bool, true, false, ◌||◌, if◌then◌else◌, length, List, [], ◌∷◌, ◌++◌, map, reverse, Option, Some, None, IfSome, Ok, Err, IfOk, slice_get}
use Rattle.std.proofs.Common.{refl, sym, ap, ◌∙◌, subst, arith, length-append}
use Rattle.std.proofs.lemmas.List.{reverse-append, append_assoc, append-nil}
use Rattle.std.proofs.lemmas.Option.{same_Some}
use Rattle.ang_kinds.specs.declared.error.ErrorKind.TheVariants as kind
use Rattle.ang_kinds.specs.declared.place.Place.{Place}
use Rattle.ang_kinds.specs.declared.position.Position.{Position}
use Rattle.ang_lex.specs.declared.token.Token.{Token}
use Rattle.ang_tree.specs.declared.type_name.TypeName.{TypeName}
use Rattle.ang_tree.specs.Declarations.{SuperTree}
use Rattle.ang_tree.specs.Stmt.{Init, Body, Stmts, Every}
use Rattle.ang_types.specs.declared.arg_type.ArgType.{ArgType}
use Rattle.ang_types.specs.declared.arg_type.ArgType.TheVariants as type
use Rattle.ang_types.specs.Overloads.{Params}
use Rattle.ang_types.specs.ArgTypes.{is_void}
use Rattle.ang_typed.specs.declared.program.TypedParameter.{TypedParameter}
use Rattle.ang_typed.specs.Typed as t
use Rattle.ang_names_known.specs.declared.names.Default.{Default}
use Rattle.ang_names_known.specs.declared.names.Default.TheVariants as default
use Rattle.ang_names_known.specs.declared.names.ScriptFunction.{ScriptFunction}
use Rattle.ang_names_known.specs.declared.names.ScriptGlobal.{ScriptGlobal}
use Rattle.ang_names_known.specs.declared.names.ScriptParameter.{ScriptParameter}
use Rattle.ang_names_known.specs.Lookup.{default_of}
use Rattle.ang_names_known.specs.Spaces.{family_type}
use Rattle.ang_check_operators.specs.Refusals.{Typing, ◌>>=◌, refused}
use Rattle.ang_check_operators.specs.Operands.{Operand}
use Rattle.ang_check_context.specs.declared.scope.LocalVariable.{LocalVariable}
use Rattle.ang_check_context.specs.declared.scope.Within.{Within}
use Rattle.ang_check_context.specs.Names.{own_type}
use Rattle.ang_check_context.specs.Operands.{types_of as argument_types}
use Rattle.ang_check_context.specs.Scope.{BodyContext, scope_of}
use Rattle.ang_check_typing.specs.Calls.{arguments_for}
use Rattle.ang_check_typing.specs.Typing.{typing_of_args}
use Rattle.ang_check_uses.specs.declared.uses.Called.{Called}
use Rattle.ang_check_uses.specs.declared.uses.Called.TheVariants as calls
use Rattle.ang_check_uses.specs.declared.uses.Resolution.{Resolution}
use Rattle.ang_check_uses.specs.declared.uses.Resolution.TheVariants as resolution
use Rattle.ang_check_uses.specs.Uses.{makers_of}
use Rattle.ang_check_stmt.specs.declared.frame.Returns.TheVariants as returns
use Rattle.ang_check_stmt.specs.Paths.{body_breaks, body_ends}
use Rattle.ang_check_stmt.specs.Typing.{block_typing, stmts_typing, initializer_typing, own_object}
use Rattle.ang_check.specs.Typing.{Base, parameter_local, typed_parameter, typed_parameters, this_local, this_parameter, ending, frame_of, function_typing, method_body_typing, base_call, body_called, super_chosen, super_by, super_typing, default_base, implicit_super, base_typing, with_last, maker_frame, constructor_typing, global_typing}
use Rattle.ang_meaning.specs.declared.routine.Passing.{Passing}
use Rattle.ang_meaning.specs.declared.routine.Passing.TheVariants.{Out}
use Rattle.ang_meaning.specs.Environment.{Environment}
use Rattle.ang_source.specs.Meaning.{passing_of}
use Rattle.ang_source_typed.specs.Types.{SlotType, Number, Family, Modules, IsA, IsUnder}
use Rattle.ang_source_typed.specs.Paths as paths
use Rattle.ang_source_typed.specs.TypedProgram.{Parameter, Signature, types_of, parameter_of, signature_of, constructor_signature, HasSignature, TypesOption, TypesAll, TypesArgument, TypesStatements, TypesBody, with_locals, after}
use Rattle.ang_check_sound.specs.Checked.{with_this}
use Rattle.ang_check_sound.proofs.Judged.{holds, any}
use Rattle.ang_check_laws.specs.Contexts.{place_type, IsDeclared, IsTypedContext, Takes, Gives, IsMaker, IsLocal, HasThisOf, AreLocals, CanReturn}
use Rattle.ang_check_laws.proofs.Arguments.{AreRanked, AreFor, arguments_typed, all_typed}
use Rattle.ang_check_laws.proofs.Operands.{TypedOperand}
use Rattle.ang_check_laws.proofs.TypedCalls.{family_place}
use Rattle.ang_check_laws.proofs.Uses.{IsMeantCall, makers_typed, those_typed}
use Rattle.ang_check_laws.proofs.Made.{IsOfClass, IsMade, class_makers, those_made}
use Rattle.ang_check_laws.proofs.TypedExpressions.{args_typed}
use Rattle.ang_check_laws.proofs.Locals.{further, one_more}
use Rattle.ang_check_laws.proofs.TypedStatements.{return_further, initializer_typed, block_typed, statements_typed}
use Rattle.ang_check_laws.proofs.Ends.{AllFollow, block_follows}

-- two things that hold of a value
pair_holds : {A : Type 0} (P Q : A → Type 0) (x : Typing A) → IfOk x P → IfOk x Q → IfOk x (λ a. P a × Q a)
pair_holds P Q (Ok a) h k = (h, k)
pair_holds P Q (Err r) h k = tt

-- ---- parameters as locals

types_joined : (xs ys : List Parameter) → types_of (xs ++ ys) ≡ types_of xs ++ types_of ys
types_joined [] ys = refl
types_joined (x ∷ xs) ys = ap (λ rest. x.type ∷ rest) (types_joined xs ys)

turned_types : (q : Parameter) (qs : List Parameter) (locals : List SlotType) → types_of (reverse qs) ++ (q.type ∷ locals) ≡ types_of (reverse (q ∷ qs)) ++ locals
turned_types q qs locals =
    let e : types_of (reverse (q ∷ qs)) ≡ types_of (reverse qs) ++ (q.type ∷ []) = ap types_of (reverse-append (q ∷ []) qs) ∙ types_joined (reverse qs) (q ∷ []) in
    sym (append_assoc (types_of (reverse qs)) (q.type ∷ []) locals) ∙ ap (λ xs. xs ++ locals) (sym e)

module _ (z : Environment) (ms : Modules) (m : ℕ) where
  abbrev T : ArgType → SlotType
  T ty = place_type z ms m ty

  abbrev AreDeclared : List ScriptParameter → Type 0
  AreDeclared ps = Every (λ (p : ScriptParameter). IsDeclared z ms m p.written.ty) ps

  abbrev params_of : List ScriptParameter → List Parameter
  params_of ps = map (parameter_of z ms m) (map typed_parameter ps)

  all_alive : (within : Option Within) (before : List LocalVariable) (locals : List SlotType) (ps : List ScriptParameter) → AreDeclared ps → AreLocals z ms m within before locals
      → AreLocals z ms m within (before ++ map parameter_local ps) (types_of (reverse (params_of ps)) ++ locals)
  all_alive within before locals [] d are = subst (λ b. AreLocals z ms m within b locals) (sym (append-nil before)) are
  all_alive within before locals (p ∷ ps) d are =
      let q = parameter_of z ms m (typed_parameter p) in
      subst (λ l. AreLocals z ms m within (before ++ (parameter_local p ∷ map parameter_local ps)) l) (turned_types q (params_of ps) locals)
      (subst (λ b. AreLocals z ms m within b (types_of (reverse (params_of ps)) ++ (T p.written.ty ∷ locals)))
      (append_assoc before (parameter_local p ∷ []) (map parameter_local ps))
      (all_alive within (before ++ (parameter_local p ∷ [])) (T p.written.ty ∷ locals) ps d.1
      (one_more z ms m within before locals (parameter_local p) d.0 are)))

  no_locals : AreLocals z ms m None [] []
  no_locals = record { count = refl; each = λ i p e. cc; this = tt }

  -- ---- ends

  void_is : (ty : ArgType) → is_void ty ≡ true → T ty ≡ Number
  void_is type.Void e = refl
  void_is type.Null e = cc
  void_is (type.Plain p) e = cc
  void_is (type.Enumeration n) e = cc
  void_is (type.Object n c) e = cc
  void_is (type.Handle n c) e = cc

  ends_by : (ty : ArgType) (a b : Bool) (o : Bool) → is_void ty ≡ b → (a || b) ≡ true → T ty ≢ Number → (a ≡ true → o ≡ true) → o ≡ true
  ends_by ty true b o is e ne h = h refl
  ends_by ty false b o is e ne h = absurd (ne (void_is ty (is ∙ e)))

  -- ---- functions

  body_made : (sig : Signature) (ty : ArgType) (ends : Bool) (ss : t.Stmts) → sig.result ≡ T ty → (ends || is_void ty) ≡ true → (ends ≡ true → paths.some_ends ss ≡ true)
      → TypesStatements z ms m sig.result false (types_of sig.params) ss → TypesBody z ms m sig ss
  body_made sig ty ends ss is e h ssh =
      record { statements = ssh; ends = λ ne. ends_by ty ends (is_void ty) (paths.some_ends ss) refl e (λ num. ne (is ∙ num)) h }

  ending_typed : (sig : Signature) (ty : ArgType) (x : Token) (ends : Bool) (b : Bool) (ps : List TypedParameter) (qs : List Position) (ss : t.Stmts) → (ends || is_void ty) ≡ b
      → sig.result ≡ T ty → (ends ≡ true → paths.some_ends ss ≡ true) → TypesStatements z ms m sig.result false (types_of sig.params) ss
      → IfOk (if b then Ok (record { parameters = ps; result = ty; body = ss; positions = qs }) else Err (refused kind.NoReturn x)) (λ (g : t.TypedFunction). TypesBody z ms m sig g.body)
  ending_typed sig ty x ends true ps qs ss e is h ssh = body_made sig ty ends ss is e h ssh
  ending_typed sig ty x ends false ps qs ss e is h ssh = tt

  -- a body of statements for these parameters and locals
  block_body : (s : BodyContext) → IsTypedContext z ms m s → (sig : Signature) (ty : ArgType) (x : Token) (b : Body) (ps : List LocalVariable) (typed : List TypedParameter)
      (qs : List Position) → sig.result ≡ T ty → AreLocals z ms m s.within ps (types_of sig.params)
      → IfOk (block_typing (frame_of s ty ps) false ps b >>= (λ ss. ending ty x (body_ends b) typed qs ss)) (λ (g : t.TypedFunction). TypesBody z ms m sig g.body)
  block_body s built sig ty x b ps typed qs is are =
      let Types : t.Stmts → Type 0 = TypesStatements z ms m sig.result false (types_of sig.params) in
      holds (λ ss. Types ss × AllFollow (body_breaks b) (body_ends b) ss) (λ (g : t.TypedFunction). TypesBody z ms m sig g.body)
      (block_typing (frame_of s ty ps) false ps b) _
      (pair_holds Types (AllFollow (body_breaks b) (body_ends b)) (block_typing (frame_of s ty ps) false ps b)
      (block_typed z ms m (frame_of s ty ps) built sig.result b false ps (types_of sig.params) (record { are = are; returns = is }))
      (block_follows (frame_of s ty ps) b false ps))
      (λ ss h. ending_typed sig ty x (body_ends b) (body_ends b || is_void ty) typed qs ss refl is (h.1).ends_too h.0)

  -- ---- in a class's body

  -- `this` alone, an object of a class c at or under that of the body
  this_alive : (s : BodyContext) → IsTypedContext z ms m s → (w : Within) (c : ℕ) → IsUnder z ms m c w.family → IsUnder z ms m w.family w.family
      → AreLocals z ms m (Some w) (this_local w ∷ []) (Family m c ∷ [])
  this_alive s built w c under itself = record {
    count = refl;
    each = only (IsLocal z ms m (Family m c ∷ [])) (this_local w) (record {
      declared = record {
        not_null = λ e. cc;
        itself = subst (λ u. IsA z ms u u) (sym (family_place z ms m s built [] w.family)) (refl, itself);
      };
      held = Family m c;
      there = refl;
      is = subst (λ u. IsA z ms (Family m c) u) (sym (family_place z ms m s built [] w.family)) (refl, under);
      exact = λ free. cc;
    });
    this = record { class = c; there = refl; under = under; itself = itself };
  }
    where
      only : (P : ℕ → LocalVariable → Type 0) (x : LocalVariable) → P 0 x → (i : ℕ) (p : LocalVariable) → slice_get (x ∷ []) i ≡ Some p → P i p
      only P x h zero p e = subst (P 0) (same_Some x p e) h
      only P x h (suc i) p e = cc

  -- and then the parameters
  this_and_params : (s : BodyContext) → IsTypedContext z ms m s → (w : Within) (c : ℕ) (ps : List ScriptParameter) → IsUnder z ms m c w.family → IsUnder z ms m w.family w.family
      → AreDeclared ps → AreLocals z ms m (Some w) (this_local w ∷ map parameter_local ps) (types_of (reverse (params_of ps)) ++ (Family m c ∷ []))
  this_and_params s built w c ps under itself d =
      all_alive (Some w) (this_local w ∷ []) (Family m c ∷ []) ps d (this_alive s built w c under itself)

  with_this_types : (q : Parameter) (ps : List ScriptParameter) → types_of (reverse (params_of ps) ++ (q ∷ [])) ≡ types_of (reverse (params_of ps)) ++ (q.type ∷ [])
  with_this_types q ps = types_joined (reverse (params_of ps)) (q ∷ [])

  -- ---- a function, a method and an initializer

  pub function_body : (s : BodyContext) → IsTypedContext z ms m s → s.within ≡ None → (f : ScriptFunction) (x : Token) (b : Body)
      → Every (λ (p : ScriptParameter). IsDeclared z ms m p.written.ty) f.params
      → IfOk (function_typing s f x b) (λ (g : t.TypedFunction). TypesBody z ms m (signature_of z ms m (typed_parameters f) f.result.ty) g.body)
  unfolding function_typing
  function_body s built outside f x b d =
      let sig = signature_of z ms m (typed_parameters f) f.result.ty in
      block_body s built sig f.result.ty x b (map parameter_local f.params) (typed_parameters f) _ refl
      (subst (λ w. AreLocals z ms m w (map parameter_local f.params) (types_of sig.params)) (sym outside)
      (subst (λ l. AreLocals z ms m None (map parameter_local f.params) l) (append-nil (types_of sig.params))
      (all_alive None [] [] f.params d no_locals)))

  pub method_body : (s : BodyContext) → IsTypedContext z ms m s → (w : Within) → s.within ≡ Some w → IsUnder z ms m w.family w.family → (f : ScriptFunction) (x : Token) (b : Body)
      → Every (λ (p : ScriptParameter). IsDeclared z ms m p.written.ty) f.params
      → IfOk (method_body_typing s w f x b) (λ (g : t.TypedFunction). TypesBody z ms m (signature_of z ms m (with_this w f) f.result.ty) g.body)
  unfolding method_body_typing
  method_body s built w inside itself f x b d =
      let sig = signature_of z ms m (with_this w f) f.result.ty in
      let this = parameter_of z ms m (this_parameter w) in
      let types : types_of sig.params ≡ types_of (reverse (params_of f.params)) ++ (Family m w.family ∷ []) =
      ap types_of (reverse-append (this ∷ []) (params_of f.params)) ∙ with_this_types this f.params
      ∙ ap (λ u. types_of (reverse (params_of f.params)) ++ (u ∷ [])) (family_place z ms m s built [] w.family) in
      block_body s built sig f.result.ty x b (this_local w ∷ map parameter_local f.params) (this_parameter w ∷ typed_parameters f) _ refl
      (subst (λ v. AreLocals z ms m v (this_local w ∷ map parameter_local f.params) (types_of sig.params)) (sym inside)
      (subst (λ l. AreLocals z ms m (Some w) (this_local w ∷ map parameter_local f.params) l) (sym types)
      (this_and_params s built w w.family f.params itself itself d)))

  pub global_body : (s : BodyContext) → IsTypedContext z ms m s → s.within ≡ None → (g : ScriptGlobal) (y : TypeName) (i : Init)
      → IfOk (global_typing s g y i) (λ (x : t.Global). TypesOption z ms m [] (place_type z ms m x.ty) x.initializer)
  unfolding global_typing
  global_body s built outside g y i =
      holds (TypesOption z ms m [] (place_type z ms m g.written.ty)) (λ (x : t.Global). TypesOption z ms m [] (place_type z ms m x.ty) x.initializer)
      (initializer_typing s [] y g.written.ty i) _
      (initializer_typed z ms m s built [] [] (subst (λ w. AreLocals z ms m w [] []) (sym outside) no_locals) y g.written.ty i) (λ x sx. sx)

-- ---- constructors

module _ (z : Environment) (ms : Modules) (m : ℕ) (s : BodyContext) (built : IsTypedContext z ms m s) (w : Within) (locals : List SlotType) (this : HasThisOf z ms m locals w) where
  abbrev Own : t.Expr
  Own = own_object (own_type w)

  -- a base class's constructor, which takes `this` and these arguments
  abbrev pub IsBase : Base → Type 0
  IsBase b = IfSome b.0 (λ k. (sig : Signature) × (ty : SlotType) × HasSignature z ms m k sig
      × TypesAll z ms m locals [] sig.params (t.args (t.by_value (own_type w) (own_object (own_type w)) ∷ b.1)) × IsA z ms sig.result ty)

  this_argument : (d : ℕ) (way : Passing) → IsUnder z ms m w.family d → way ≢ Out
      → TypesArgument z ms m locals (record { passing = way; type = Family m d }) (t.by_value (own_type w) Own)
  this_argument d way under ne = (ne, (Family m this.class, this.there, (refl, built.classes.above this.class w.family d this.under under)))

  maker_base : (d k : ℕ) (ps : Params) (ty : SlotType) (xs : List t.Arg) → IsUnder z ms m w.family d → (h : IsMaker z ms m d k ps ty)
      → AreFor z ms m locals built.classes s.ancestors built.ancestors h.1 xs → IsBase (Some k, xs)
  maker_base d k ps ty xs under h fits =
      let p : Parameter = record { passing = h.2; type = Family m d } in (
        h.0,
        ty,
        h.3,
        (
          p,
          this_argument d h.2 under h.4,
          subst (λ all. TypesAll z ms m locals (p ∷ []) all (t.args xs)) (sym h.5)
              (all_typed z ms m locals built.classes s.ancestors built.ancestors (p ∷ []) h.1 xs fits),
        ),
        h.7,
      )

  none_taken : (qs : List Parameter) → Takes z ms m [] qs → AreFor z ms m locals built.classes s.ancestors built.ancestors qs []
  none_taken [] h = tt
  none_taken (q ∷ qs) h = absurd h

  no_base : (ps : Params) (operands : List Operand) → IfOk (arguments_for s.ancestors ps operands >>= (λ xs. Ok (None, xs))) IsBase
  no_base ps operands = holds (λ xs. Unit {0}) IsBase (arguments_for s.ancestors ps operands) _ (any _) (λ xs h. tt)

  called_base : (d : ℕ) (c : Called) (ps : Params) (ty : SlotType) (operands : List Operand) → IsUnder z ms m w.family d → Gives z ms m c ps ty → IsOfClass d c
      → AreRanked s.ancestors ps (argument_types operands) → Every (TypedOperand z ms m locals) operands
      → IfOk (arguments_for s.ancestors ps operands >>= (λ xs. Ok (body_called c, xs))) IsBase
  called_base d (calls.Script f) ps ty operands under h is r all = no_base ps operands
  called_base d (calls.Host x) ps ty operands under h is r all = no_base ps operands
  called_base d (calls.Makes e None) ps ty operands under h is r all = no_base ps operands
  called_base d (calls.Makes e (Some k)) ps ty operands under h is r all =
      holds (AreFor z ms m locals built.classes s.ancestors built.ancestors h.1.1) IsBase (arguments_for s.ancestors ps operands) _
      (arguments_typed z ms m locals built.classes s.ancestors built.ancestors ps h.1.1 operands h.1.6 r all)
      (λ xs fits. maker_base e k ps ty xs (subst (λ u. IsUnder z ms m w.family u) (sym is) under) h.1 fits)

  chosen_base : (d : ℕ) (word : Token) (operands : List Operand) (r : Resolution) → IsUnder z ms m w.family d → IsMeantCall z ms m s built (argument_types operands) r
      → IsMade d r → Every (TypedOperand z ms m locals) operands → IfOk (super_chosen s word operands r) IsBase
  chosen_base d word operands (resolution.Call c) under h is all =
      called_base d c.called c.candidate.params (place_type z ms m c.result) operands under (h.0).gives is h.1 all
  chosen_base d word operands (resolution.Variable v ty read_only) under h is all = tt
  chosen_base d word operands (resolution.Property p) under h is all = tt
  chosen_base d word operands (resolution.Type k) under h is all = tt
  chosen_base d word operands (resolution.Enumeration k) under h is all = tt
  chosen_base d word operands (resolution.Value v) under h is all = tt
  chosen_base d word operands (resolution.Refused why) under h is all = tt

  -- the base class stands above the body's
  abbrev pub IsBaseClass : Option ℕ → Type 0
  IsBaseClass b = IfSome b (λ d. IsUnder z ms m w.family d)

  super_base : (word : Token) (operands : List Operand) (b : Option ℕ) → IsBaseClass b → Every (TypedOperand z ms m locals) operands
      → IfOk (super_by s word operands b) IsBase
  super_base word operands None under all = tt
  super_base word operands (Some d) under all =
      chosen_base d word operands _ under
      (those_typed z ms m s built kind.NoMatch (makers_of (scope_of s) (family_type d)) (argument_types operands) (makers_typed z ms m s built (family_type d)))
      (those_made d s.ancestors kind.NoMatch (makers_of (scope_of s) (family_type d)) (argument_types operands) (class_makers d s)) all

  written_base : (ps : List LocalVariable) → AreLocals z ms m s.within ps locals → (b : Option ℕ) (u : SuperTree) → IsBaseClass b → IfOk (super_typing s ps b u) IsBase
  unfolding super_typing
  written_base ps are b u under =
      holds (Every (TypedOperand z ms m locals)) IsBase (typing_of_args s ps u.arguments) _ (args_typed z ms m s built ps locals are u.arguments)
      (λ operands all. super_base u.word operands b under all)

  default_base_typed : (place : Place) (base : Token) (d : ℕ) (o : Default) → default_of s.names.families d ≡ o → IsUnder z ms m w.family d
      → IfOk (default_base place base o) IsBase
  default_base_typed place base d default.Missing e under = tt
  default_base_typed place base d default.Unwritten e under = tt
  default_base_typed place base d (default.Written k) e under =
      let h = built.defaults d k e in maker_base d k [] (Family m d) [] under h (none_taken h.1 h.6)

  implicit_base : (place : Place) (base : Token) (b : Option ℕ) → IsBaseClass b → IfOk (implicit_super s.names place base b) IsBase
  unfolding implicit_super
  implicit_base place base None under = tt
  implicit_base place base (Some d) under = default_base_typed place base d (default_of s.names.families d) refl under

  base_typed : (ps : List LocalVariable) → AreLocals z ms m s.within ps locals → (x base : Token) (b : Option ℕ) (u : Option SuperTree) → IsBaseClass b
      → IfOk (base_typing s ps x base b u) IsBase
  base_typed ps are x base b None under = implicit_base x.place base b under
  base_typed ps are x base b (Some u) under = written_base ps are b u under

  base_called : (result : SlotType) (b : Option ℕ) (xs : List t.Arg) (ss : t.Stmts) → IsBase (b, xs) → TypesStatements z ms m result false locals ss
      → TypesStatements z ms m result false locals (base_call w b xs ss)
  base_called result None xs ss h k = k
  base_called result (Some n) xs ss h k = ((h.1, (h.0, h.2, h.3, h.4)), k)

  base_ends : (b : Option ℕ) (xs : List t.Arg) (ss : t.Stmts) → paths.some_ends ss ≡ true → paths.some_ends (base_call w b xs ss) ≡ true
  base_ends None xs ss e = e
  base_ends (Some n) xs ss e = e

last_ends : (ss : t.Stmts) (e : Option t.Expr) → paths.some_ends (with_last ss (t.return e)) ≡ true
last_ends t.end e = refl
last_ends (t.then x ss) e = ends_either (paths.ends x) (paths.some_ends (with_last ss (t.return e))) (last_ends ss e)
  where
    ends_either : (a b : Bool) → b ≡ true → (a || b) ≡ true
    ends_either true b h = refl
    ends_either false b h = h

module _ (z : Environment) (ms : Modules) (m : ℕ) (result : SlotType) (ty : ArgType) where
  abbrev Returns : List SlotType → Type 0
  Returns locals = CanReturn z ms m result (returns.Own ty) locals

  after_locals : (locals : List SlotType) (ls : List t.Local) → Returns locals → Returns (with_locals z ms m locals ls)
  after_locals locals [] h = h
  after_locals locals (l ∷ ls) h =
      after_locals (place_type z ms m l.ty ∷ locals) ls (return_further z ms m result (returns.Own ty) locals (place_type z ms m l.ty) h)

  after_any : (locals : List SlotType) (x : t.Stmt) → Returns locals → Returns (after z ms m locals x)
  after_any locals (t.block ss) h = h
  after_any locals (t.locals ls) h = after_locals locals ls h
  after_any locals (t.expression e) h = h
  after_any locals t.break h = h
  after_any locals t.continue h = h
  after_any locals (t.return e) h = h
  after_any locals (t.either c ss otherwise) h = h
  after_any locals (t.while c ss) h = h
  after_any locals (t.do_while ss c) h = h
  after_any locals (t.for start c steps ss) h = h

  -- and then the object is given back
  last_typed : (locals : List SlotType) (ss : t.Stmts) → Returns locals → TypesStatements z ms m result false locals ss
      → TypesStatements z ms m result false locals (with_last ss (t.return (Some (own_object ty))))
  last_typed locals t.end h k = ((result, h.0, h.1), tt)
  last_typed locals (t.then x ss) h k = (k.0, last_typed (after z ms m locals x) ss (after_any locals x h) k.1)

-- the last of a list that ends so
last_of : (xs : List SlotType) (x : SlotType) → slice_get (xs ++ (x ∷ [])) (length (xs ++ (x ∷ [])) - 1) ≡ Some x
last_of [] x = refl
last_of (y ∷ xs) x =
    let n = length-append xs (x ∷ []) in
    further (xs ++ (x ∷ [])) y 0 (Some x) (let some : 0 < length (xs ++ (x ∷ [])) = omega (arith, n) in some) (last_of xs x)

-- A constructor's body, for objects of class c at or under its own.
pub constructor_body : (z : Environment) (ms : Modules) (m : ℕ) (s : BodyContext) → IsTypedContext z ms m s → (w : Within) → s.within ≡ Some w → (c : ℕ)
    → IsUnder z ms m c w.family → IsUnder z ms m w.family w.family → IsUnder z ms m c c
    → (f : ScriptFunction) (x base : Token) (b : Option ℕ) (u : Option SuperTree) (ss : Stmts) (close : Token)
    → Every (λ (p : ScriptParameter). IsDeclared z ms m p.written.ty) f.params → IfSome b (λ d. IsUnder z ms m w.family d)
    → IfOk (constructor_typing s w f x base b u ss close)
    (λ (g : t.TypedFunction). TypesBody z ms m (constructor_signature z ms m (this_parameter w) (typed_parameters f) c) g.body)
unfolding constructor_typing
constructor_body z ms m s built w inside c under itself own f x base b u ss close d above =
    let ps = this_local w ∷ map parameter_local f.params in
    let sig = constructor_signature z ms m (this_parameter w) (typed_parameters f) c in
    let q : Parameter = record { passing = passing_of (this_parameter w); type = Family m c } in
    let types : types_of sig.params ≡ types_of (reverse (map (parameter_of z ms m) (map typed_parameter f.params))) ++ (Family m c ∷ []) = with_this_types z ms m q f.params in
    let in_class : AreLocals z ms m (Some w) ps (types_of sig.params) =
    subst (λ l. AreLocals z ms m (Some w) ps l) (sym types) (this_and_params z ms m s built w c f.params under itself d) in
    let are : AreLocals z ms m s.within ps (types_of sig.params) = subst (λ v. AreLocals z ms m v ps (types_of sig.params)) (sym inside) in_class in
    let this = in_class.this in
    let first_local : slice_get (types_of sig.params) (length (types_of sig.params) - 1) ≡ Some (Family m c) =
    subst (λ l. slice_get l (length l - 1) ≡ Some (Family m c)) (sym types) (last_of (types_of (reverse (map (parameter_of z ms m) (map typed_parameter f.params)))) (Family m c)) in
    let can : CanReturn z ms m (Family m c) (returns.Own (own_type w)) (types_of sig.params) = (first_local, (refl, own)) in
    holds (IsBase z ms m s built w (types_of sig.params) this) (λ (g : t.TypedFunction). TypesBody z ms m sig g.body) (base_typing s ps x base b u) _
    (base_typed z ms m s built w (types_of sig.params) this ps are x base b u above)
    (λ first hf. holds (TypesStatements z ms m (Family m c) false (types_of sig.params)) (λ (g : t.TypedFunction). TypesBody z ms m sig g.body)
    (stmts_typing (maker_frame s w ps) false (length ps) ps ss) _
    (statements_typed z ms m (maker_frame s w ps) built (Family m c) ss false (length ps) ps (types_of sig.params) (record { are = are; returns = can }))
    (λ xs h. record {
      statements = base_called z ms m s built w (types_of sig.params) this (Family m c) first.0 first.1 _ hf
          (last_typed z ms m (Family m c) (own_type w) (types_of sig.params) xs can h);
      ends = λ ne. base_ends z ms m s built w (types_of sig.params) this first.0 first.1 _ (last_ends xs (Some (own_object (own_type w))));
    }))
