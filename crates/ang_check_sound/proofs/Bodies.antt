-- A body and an initializer that were typed have what they were declared with, and are sound.
use Rattle.std.specs.Prelude.{◌≡◌, ◌≢◌, ℕ, suc, ◌+◌, ◌≤◌, ◌<◌, Bool, false, ◌||◌, length, List, [], ◌∷◌, map, Option, Some, None, IfSome, IfOk, slice_get}
use Rattle.std.proofs.Common.{refl, sym, ◌∙◌, subst, arith}
use Rattle.std.proofs.lemmas.List.{length-map}
use Rattle.ang_kinds.specs.declared.error.ErrorKind.TheVariants as kind
use Rattle.ang_kinds.specs.declared.place.Place.{Place}
use Rattle.ang_kinds.specs.declared.position.Position.{Position}
use Rattle.ang_kinds.specs.declared.types.Pass.TheVariants as pass
use Rattle.ang_lex.specs.declared.token.Token.{Token}
use Rattle.ang_tree.specs.declared.type_name.TypeName.{TypeName}
use Rattle.ang_tree.specs.Declarations.{SuperTree}
use Rattle.ang_tree.specs.Stmt.{Init, Body, Stmts, Every}
use Rattle.ang_types.specs.declared.arg_type.ArgType.{ArgType}
use Rattle.ang_types.specs.Overloads.{Params}
use Rattle.ang_typed.specs.declared.program.TypedParameter.{TypedParameter}
use Rattle.ang_typed.specs.Typed as t
use Rattle.ang_names_known.specs.declared.names.Default.{Default}
use Rattle.ang_names_known.specs.declared.names.Default.TheVariants as default
use Rattle.ang_names_known.specs.declared.names.ScriptFunction.{ScriptFunction}
use Rattle.ang_names_known.specs.declared.names.ScriptGlobal.{ScriptGlobal}
use Rattle.ang_names_known.specs.Lookup.{default_of}
use Rattle.ang_names_known.specs.Spaces.{family_type}
use Rattle.ang_check_operators.specs.Operands.{Operand}
use Rattle.ang_check_context.specs.declared.scope.LocalVariable.{LocalVariable}
use Rattle.ang_check_context.specs.declared.scope.Within.{Within}
use Rattle.ang_check_context.specs.Names.{own_type}
use Rattle.ang_check_context.specs.Operands.{types_of}
use Rattle.ang_check_typing.specs.Calls.{arguments_for}
use Rattle.ang_check_context.specs.Scope.{BodyContext, scope_of}
use Rattle.ang_check_typing.specs.Typing.{typing_of_args}
use Rattle.ang_check_uses.specs.declared.uses.Called.{Called}
use Rattle.ang_check_uses.specs.declared.uses.Called.TheVariants as calls
use Rattle.ang_check_uses.specs.declared.uses.Resolution.{Resolution}
use Rattle.ang_check_uses.specs.declared.uses.Resolution.TheVariants as resolution
use Rattle.ang_check_uses.specs.Uses.{makers_of}
use Rattle.ang_check_stmt.specs.declared.frame.Returns.TheVariants as returns
use Rattle.ang_check_stmt.specs.Typing.{block_typing, stmts_typing, initializer_typing, own_object}
use Rattle.ang_check.specs.Typing.{Base, parameter_local, typed_parameter, typed_parameters, this_local, ending, frame_of, function_typing, method_body_typing, base_call, body_called, super_chosen, super_by, super_typing, default_base, implicit_super, base_typing, with_last, constructed, maker_frame, constructor_typing, global_typing}
use Rattle.ang_types.specs.ArgTypes.{is_void}
use Rattle.ang_source.specs.Sound.{Module, SoundOption, SoundStatement, SoundStatements, SoundArguments, SoundFunction, declared}
use Rattle.ang_check_sound.specs.Checked.{with_this}
use Rattle.ang_check_sound.specs.Built.{IsBuiltContext, HasThis}
use Rattle.ang_check_sound.proofs.Judged.{holds, either_holds, any}
use Rattle.ang_check_sound.proofs.Families.{IfWritten}
use Rattle.ang_check_sound.proofs.Operators.{SoundOperand}
use Rattle.ang_check_sound.proofs.Uses.{Here, IsCallee, IsMaker, default_made, makers_there, IsMeantCall, those_there}
use Rattle.ang_check_sound.proofs.Calls.{Fit, arguments_sound, script_arguments, types_counted}
use Rattle.ang_check_sound.proofs.Expressions.{args_typed}
use Rattle.ang_check_sound.proofs.Statements.{CanReturn, initializer_sound, block_sound, statements_sound}

-- ---- what was declared

-- a function's parameters and result are these
pub record IsOf (ps : List TypedParameter) (ty : ArgType) (g : t.TypedFunction) : Type 0 where
  pub parameters : g.parameters ≡ ps
  pub result : g.result ≡ ty

-- a global's type is that of its declaration
abbrev pub IsGlobal : ScriptGlobal → t.Global → Type 0
IsGlobal g x = x.ty ≡ g.written.ty

ending_declared : (ty : ArgType) (x : Token) (ends : Bool) (ps : List TypedParameter) (qs : List Position) (ss : t.Stmts) → IfOk (ending ty x ends ps qs ss) (IsOf ps ty)
ending_declared ty x ends ps qs ss = either_holds (IsOf ps ty) (ends || is_void ty) _ _ (record { parameters = refl; result = refl }) tt

pub function_declared : (s : BodyContext) (f : ScriptFunction) (x : Token) (b : Body)
    → IfOk (function_typing s f x b) (IsOf (typed_parameters f) f.result.ty)
unfolding function_typing
function_declared s f x b =
    let ps = map parameter_local f.params in
    holds (λ (ss : t.Stmts). Unit {0}) (IsOf (typed_parameters f) f.result.ty) (block_typing (frame_of s f.result.ty ps) false ps b) _ (any _)
    (λ ss h. ending_declared f.result.ty x _ (typed_parameters f) _ ss)

pub method_declared : (s : BodyContext) (w : Within) (f : ScriptFunction) (x : Token) (b : Body)
    → IfOk (method_body_typing s w f x b) (IsOf (with_this w f) f.result.ty)
unfolding method_body_typing
method_declared s w f x b =
    let ps = this_local w ∷ map parameter_local f.params in
    holds (λ (ss : t.Stmts). Unit {0}) (IsOf (with_this w f) f.result.ty) (block_typing (frame_of s f.result.ty ps) false ps b) _ (any _)
    (λ ss h. ending_declared f.result.ty x _ (with_this w f) _ ss)

pub constructor_declared : (s : BodyContext) (w : Within) (f : ScriptFunction) (x base : Token) (b : Option ℕ) (u : Option SuperTree) (ss : Stmts) (close : Token)
    → IfOk (constructor_typing s w f x base b u ss close) (λ g. g.parameters ≡ with_this w f)
unfolding constructor_typing
constructor_declared s w f x base b u ss close =
    let ps = this_local w ∷ map parameter_local f.params in
    holds (λ (first : Base). Unit {0}) (λ (g : t.TypedFunction). g.parameters ≡ with_this w f) (base_typing s ps x base b u) _ (any _)
    (λ first h. holds (λ (xs : t.Stmts). Unit {0}) (λ (g : t.TypedFunction). g.parameters ≡ with_this w f)
    (stmts_typing (maker_frame s w ps) false (length ps) ps ss) _ (any _) (λ xs k. refl))

pub global_declared : (s : BodyContext) (g : ScriptGlobal) (y : TypeName) (i : Init) → IfOk (global_typing s g y i) (IsGlobal g)
unfolding global_typing
global_declared s g y i =
    holds (λ (x : Option t.Expr). Unit {0}) (IsGlobal g) (initializer_typing s [] y g.written.ty i) _ (any _) (λ x h. refl)

-- ---- soundness

ending_sound : (M : Module) (ty : ArgType) (x : Token) (ends : Bool) (ps : List TypedParameter) (qs : List Position) (ss : t.Stmts) → SoundStatements M false (length ps) ss
    → IfOk (ending ty x ends ps qs ss) (SoundFunction M)
ending_sound M ty x ends ps qs ss h = either_holds (SoundFunction M) (ends || is_void ty) _ _ h tt

-- a parameter as a local for each
as_many : (f : ScriptFunction) → length (map parameter_local f.params) ≡ length (typed_parameters f)
as_many f = length-map f.params parameter_local ∙ sym (length-map f.params typed_parameter)

-- Outside of classes:
module _ (s : BodyContext) (built : IsBuiltContext s) (outside : s.within ≡ None) where
  -- no `this` is wanted
  no_this : (n : ℕ) → HasThis s n
  no_this n = subst (λ (w : Option Within). IfSome w (λ v. 0 < n)) (sym outside) tt

  pub function_sound : (f : ScriptFunction) (x : Token) (b : Body) → IfOk (function_typing s f x b) (SoundFunction (Here s))
  unfolding function_typing
  function_sound f x b =
      let ps = map parameter_local f.params in
      holds (SoundStatements (Here s) false (length ps)) (SoundFunction (Here s)) (block_typing (frame_of s f.result.ty ps) false ps b) _
      (block_sound (frame_of s f.result.ty ps) built tt b false ps (no_this (length ps)))
      (λ ss h. ending_sound (Here s) f.result.ty x _ (typed_parameters f) _ ss (subst (λ n. SoundStatements (Here s) false n ss) (as_many f) h))

  -- an initializer has no locals
  pub global_sound : (g : ScriptGlobal) (y : TypeName) (i : Init) → IfOk (global_typing s g y i) (λ x. SoundOption (Here s) 0 x.initializer)
  unfolding global_typing
  global_sound g y i =
      holds (SoundOption (Here s) 0) (λ (x : t.Global). SoundOption (Here s) 0 x.initializer) (initializer_typing s [] y g.written.ty i) _
      (initializer_sound s built [] (no_this 0) y g.written.ty i) (λ x sx. sx)

-- ---- a constructor's call of its base class's, where n locals are alive

module _ (s : BodyContext) (built : IsBuiltContext s) where
  abbrev IsBase : ℕ → Base → Type 0
  IsBase n b = IfSome b.0 (λ k. (own : TypedParameter) × (qs : List TypedParameter) × (slice_get (Here s).parameters k ≡ Some (own ∷ qs))
      × (own.pass ≢ pass.RefOut) × SoundArguments (Here s) n qs (t.args b.1))

  called_base : (n : ℕ) (c : Called) (ps : Params) (xs : List t.Arg) → IsCallee s c ps → Fit (Here s) n ps xs → IsBase n (body_called c, xs)
  called_base n (calls.Script f) ps xs h fits = tt
  called_base n (calls.Host h) ps xs k fits = tt
  called_base n (calls.Makes c None) ps xs h fits = tt
  called_base n (calls.Makes c (Some k)) ps xs h fits = (h.1.0, h.1.1, h.1.2, h.1.3, script_arguments (Here s) n ps h.1.1 xs h.1.4 fits)

  chosen_base : (n : ℕ) (word : Token) (operands : List Operand) (r : Resolution) → IsMeantCall s (types_of operands) r
      → Every (SoundOperand (Here s) n) operands → IfOk (super_chosen s word operands r) (IsBase n)
  chosen_base n word operands (resolution.Call c) h all =
      holds (Fit (Here s) n c.candidate.params) (IsBase n) (arguments_for s.ancestors c.candidate.params operands) _
      (arguments_sound (Here s) n s.ancestors c.candidate.params operands all (h.1 ∙ types_counted s n operands))
      (λ xs fits. called_base n c.called c.candidate.params xs h.0 fits)
  chosen_base n word operands (resolution.Variable v ty read_only) h all = tt
  chosen_base n word operands (resolution.Property p) h all = tt
  chosen_base n word operands (resolution.Type k) h all = tt
  chosen_base n word operands (resolution.Enumeration k) h all = tt
  chosen_base n word operands (resolution.Value v) h all = tt
  chosen_base n word operands (resolution.Refused why) h all = tt

  super_base : (n : ℕ) (word : Token) (operands : List Operand) (b : Option ℕ) → Every (SoundOperand (Here s) n) operands
      → IfOk (super_by s word operands b) (IsBase n)
  super_base n word operands None all = tt
  super_base n word operands (Some b) all =
      chosen_base n word operands _
      (those_there s kind.NoMatch (makers_of (scope_of s) (family_type b)) (types_of operands) (makers_there s built (family_type b))) all

  written_base : (ps : List LocalVariable) (b : Option ℕ) (u : SuperTree) → HasThis s (length ps) → IfOk (super_typing s ps b u) (IsBase (length ps))
  unfolding super_typing
  written_base ps b u alive =
      holds (Every (SoundOperand (Here s) (length ps))) (IsBase (length ps)) (typing_of_args s ps u.arguments) _ (args_typed s ps built alive u.arguments)
      (λ operands all. super_base (length ps) u.word operands b all)

  default_base_sound : (n : ℕ) (place : Place) (base : Token) (d : Default) → IfWritten (λ k. IsMaker s k []) d → IfOk (default_base place base d) (IsBase n)
  default_base_sound n place base default.Missing h = tt
  default_base_sound n place base default.Unwritten h = tt
  default_base_sound n place base (default.Written k) h = (h.0, h.1, h.2, h.3, script_arguments (Here s) n [] h.1 [] h.4 tt)

  implicit_base : (n : ℕ) (place : Place) (base : Token) (b : Option ℕ) → IfOk (implicit_super s.names place base b) (IsBase n)
  unfolding implicit_super
  implicit_base n place base None = tt
  implicit_base n place base (Some b) = default_base_sound n place base (default_of s.names.families b) (default_made s built b)

  base_sound : (ps : List LocalVariable) (x base : Token) (b : Option ℕ) (u : Option SuperTree) → HasThis s (length ps)
      → IfOk (base_typing s ps x base b u) (IsBase (length ps))
  base_sound ps x base b None alive = implicit_base (length ps) x.place base b
  base_sound ps x base b (Some u) alive = written_base ps b u alive

  base_called : (n : ℕ) (w : Within) (b : Option ℕ) (xs : List t.Arg) (ss : t.Stmts) → 0 < n → IsBase n (b, xs) → SoundStatements (Here s) false n ss
      → SoundStatements (Here s) false n (base_call w b xs ss)
  base_called n w None xs ss alive h k = k
  base_called n w (Some b) xs ss alive h k =
      let same : n ≡ 0 + n = omega arith in
      ((h.0 ∷ h.1, h.2, ((h.3, alive), h.4)), subst (λ m. SoundStatements (Here s) false m ss) same k)

with_last_sound : (M : Module) (n : ℕ) (ss : t.Stmts) (y : t.Stmt) → SoundStatements M false n ss → ((m : ℕ) → n ≤ m → SoundStatement M false m y)
    → SoundStatements M false n (with_last ss y)
with_last_sound M n t.end y h last = (last n (omega arith), tt)
with_last_sound M n (t.then x ss) y h last =
    (h.0, with_last_sound M (declared x + n) ss y h.1 (λ m more. last m (let less : n ≤ m = omega (arith, more) in less)))

-- ---- in a class's body

module _ (s : BodyContext) (built : IsBuiltContext s) (w : Within) (inside : s.within ≡ Some w) where
  has_this : (n : ℕ) → HasThis s (suc n)
  has_this n = subst (λ (v : Option Within). IfSome v (λ u. 0 < suc n)) (sym inside) (omega arith)

  pub method_sound : (f : ScriptFunction) (x : Token) (b : Body) → IfOk (method_body_typing s w f x b) (SoundFunction (Here s))
  unfolding method_body_typing
  method_sound f x b =
      let ps = this_local w ∷ map parameter_local f.params in
      holds (SoundStatements (Here s) false (length ps)) (SoundFunction (Here s)) (block_typing (frame_of s f.result.ty ps) false ps b) _
      (block_sound (frame_of s f.result.ty ps) built tt b false ps (has_this (length (map parameter_local f.params))))
      (λ ss h. ending_sound (Here s) f.result.ty x _ (with_this w f) _ ss (subst (λ n. SoundStatements (Here s) false (suc n) ss) (as_many f) h))

  pub constructor_sound : (f : ScriptFunction) (x base : Token) (b : Option ℕ) (u : Option SuperTree) (ss : Stmts) (close : Token)
      → IfOk (constructor_typing s w f x base b u ss close) (SoundFunction (Here s))
  unfolding constructor_typing
  constructor_sound f x base b u ss close =
      let ps = this_local w ∷ map parameter_local f.params in
      let n = length (map parameter_local f.params) in
      holds (IsBase s built (suc n)) (SoundFunction (Here s)) (base_typing s ps x base b u) _ (base_sound s built ps x base b u (has_this n))
      (λ first hf. holds (SoundStatements (Here s) false (suc n)) (SoundFunction (Here s)) (stmts_typing (maker_frame s w ps) false (length ps) ps ss) _
      (statements_sound (maker_frame s w ps) built (subst (CanReturn (returns.Own (own_type w))) (sym inside) tt) ss false (length ps) ps (has_this n))
      (λ xs h. subst (λ m. SoundStatements (Here s) false (suc m) (constructed w f first [] xs).body) (as_many f)
      (base_called s built (suc n) w first.0 first.1 _ (omega arith) hf
      (with_last_sound (Here s) (suc n) xs (t.return (Some (own_object (own_type w)))) h (λ m more. let alive : 0 < m = omega (arith, more) in alive)))))
