-- A name and a call make sound trees of sound operands.
use Rattle.std.specs.Prelude.{◌≡◌, ◌≢◌, ℕ, suc, ◌<◌, ◌==◌, Bool, true, false, not, ◌&&◌, if◌then◌else◌, length, List, [], ◌∷◌, map, option_map, option_and_then, Option, Some, None, IfSome, IsSome, Err, IfOk, slice_get}
use Rattle.std.specs.List.{flat_map}
use Rattle.std.proofs.Common.{refl, ap, sym, ◌∙◌, subst}
use Rattle.std.proofs.lemmas.List.{length-map}
use Rattle.std.proofs.lemmas.Option.{slice_get_within}
use Rattle.ang_kinds.specs.declared.error.ErrorKind.TheVariants as kind
use Rattle.ang_kinds.specs.declared.place.Place.{Place}
use Rattle.ang_kinds.specs.declared.primitive.Primitive.TheVariants as primitive
use Rattle.ang_kinds.specs.declared.types.Pass.{Pass}
use Rattle.ang_kinds.specs.declared.types.Pass.TheVariants as pass
use Rattle.ang_lex.specs.declared.token.Token.{Token}
use Rattle.ang_view.specs.Registration.{entry_at}
use Rattle.ang_types.specs.declared.arg_type.ArgType.{ArgType}
use Rattle.ang_types.specs.declared.arg_type.ArgType.TheVariants as type
use Rattle.ang_types.specs.declared.asks.Asks.{Asks}
use Rattle.ang_types.specs.declared.asks.Asks.TheVariants as asks
use Rattle.ang_types.specs.Ranks.{Ancestors}
use Rattle.ang_typed.specs.declared.expression.TypedVariable.{TypedVariable}
use Rattle.ang_typed.specs.declared.expression.TypedVariable.TheVariants as variable
use Rattle.ang_typed.specs.declared.program.TypedParameter.{TypedParameter}
use Rattle.ang_typed.specs.Typed as t
use Rattle.ang_names_known.specs.declared.names.Family.{Family}
use Rattle.ang_names_known.specs.declared.names.FoundField.{FoundField}
use Rattle.ang_names_known.specs.Items.{is_empty}
use Rattle.ang_names_known.specs.Lookup.{FoundMethod, field_named, methods_named, parameters_of, is_under, may_use}
use Rattle.ang_names_known.specs.Spaces.{family_type}
use Rattle.ang_lex.specs.Text.{text_of}
use Rattle.ang_check_operators.specs.declared.operand.SiteUse.{SiteUse}
use Rattle.ang_check_operators.specs.Refusals.{Typing, fault}
use Rattle.ang_check_operators.specs.Operands.{Operand, fit, integer, site_in}
use Rattle.ang_check_context.specs.declared.scope.LocalVariable.{LocalVariable}
use Rattle.ang_check_context.specs.declared.scope.Within.{Within}
use Rattle.ang_check_context.specs.Scope.{BodyContext, scope_of, last_named, family_of, is_there}
use Rattle.ang_check_context.specs.Access.{if_in_reach}
use Rattle.ang_check_context.specs.Names.{own_type, this_operand, int_bits, value_or_unknown, scoped_name_use, scoped_name_typing, value_use, field_within, field_or_global, local_at, local_named, local_or, name_typing, this_in, this_typing}
use Rattle.ang_check_context.specs.Operands.{types_of}
use Rattle.ang_check_typing.specs.Calls.{is_out_variable, is_out_type, is_out, variable_in, out_or, out_of, value_for, out_for, argument_by, argument, arguments_for, call_of, call_with, called_use, called_own, virtual_method, direct_by, direct_method, own_method, enumerated_of, bare_use, named_methods, call_by, call_typing, ancestor_by, ancestor_in, scoped_by, scoped_typing}
use Rattle.ang_check_uses.specs.declared.uses.Callable.{Callable}
use Rattle.ang_check_uses.specs.declared.uses.Called.{Called}
use Rattle.ang_check_uses.specs.declared.uses.Called.TheVariants as calls
use Rattle.ang_check_uses.specs.declared.uses.EnumerationValue.{EnumerationValue}
use Rattle.ang_check_uses.specs.declared.uses.Reach.{Reach}
use Rattle.ang_check_uses.specs.declared.uses.Resolution.{Resolution}
use Rattle.ang_check_uses.specs.declared.uses.Resolution.TheVariants as resolution
use Rattle.ang_check_uses.specs.Uses.{resolution_of, value_of}
use Rattle.ang_tree.specs.Stmt.{Every}
use Rattle.ang_source.specs.Sound.{Module, IsStored, IsTarget, Sound, SoundArguments, SoundArgument, SoundValues, argument_count}
use Rattle.ang_meaning.specs.declared.routine.Passing.TheVariants as passing
use Rattle.ang_source.specs.Meaning.{passing_by, passing_of}
use Rattle.ang_check_sound.specs.Built.{IsMethodIn, IsBuiltContext, HasThis}
use Rattle.ang_check_sound.specs.Checked.{with_this}
use Rattle.ang_check_sound.proofs.Judged.{holds, either_holds, any}
use Rattle.ang_check_sound.proofs.Families.{named_hold}
use Rattle.ang_check_sound.proofs.Passings.{takes, TakeAlike, params_alike, only_out, in_order}
use Rattle.ang_check_sound.proofs.Items.{every_mapped, every_flat_of, first_true, second_true, not_true}
use Rattle.ang_check_sound.proofs.Operators.{IsStoredSite, IsTargeted, SoundOperand, no_site, read_sound, fit_sound}
use Rattle.ang_check_sound.proofs.Hosts.{Values}
use Rattle.ang_check_sound.proofs.Uses.{HasValue, value_of_there, Here, IsMeant, global_sound, IsCallee, IsCallable, IsMeantCall, call_there, best_method_there}

-- ---- arguments, in a module where n locals are alive

module _ (M : Module) (n : ℕ) where
  -- a variable that is no host property
  target_variable : (x : TypedVariable) → IsStored M n x → IfSome (if is_out_variable x then Some x else None) (IsTarget M n)
  target_variable (variable.Local i) s = s
  target_variable (variable.Global g) s = s
  target_variable (variable.Property h) s = tt
  target_variable (variable.Field i) s = s

  target_at : (x : Option t.Site) → IfSome x (IsStoredSite M n) → IfSome (variable_in x) (IsTarget M n)
  target_at None s = tt
  target_at (Some (t.named x)) s = target_variable x s
  target_at (Some (t.member_of o a)) s = tt

  target_there : (place : Place) (x : Option TypedVariable) → IfSome x (IsTarget M n) → IfOk (out_or place x) (IsTarget M n)
  target_there place None s = tt
  target_there place (Some x) s = s

  out_there : (a : Operand) (x : Option SiteUse) (b : Bool) → is_out a x ≡ b → IsTargeted M n x a.tree
      → IfOk (if b then out_or a.place (variable_in (site_in a.tree)) else Err (fault kind.BadOut a.place)) (IsTarget M n)
  out_there a x false e s = tt
  out_there a None true e s = cc
  out_there a (Some x) true e s =
      let free = not_true x.read_only (first_true (not x.read_only) (is_out_type a.ty) (second_true x.bare (not x.read_only && is_out_type a.ty) e)) in
      target_there a.place (variable_in (site_in a.tree)) (target_at (site_in a.tree) (s free))

  out_sound : (a : Operand) → SoundOperand M n a → IfOk (out_of a) (IsTarget M n)
  unfolding out_of
  out_sound a s = out_there a a.target (is_out a a.target) refl s.target

  value_for_sound : (ancestors : Ancestors) (way : Pass) (ty : ArgType) (a : Operand) → way ≢ pass.RefOut → SoundOperand M n a
      → IfOk (value_for ancestors ty a) (SoundArgument M n way)
  value_for_sound ancestors way ty a ne s =
      holds (Sound M n) (SoundArgument M n way) (fit ancestors ty a) _ (fit_sound M n ancestors ty a s) (λ x sx. (ne, sx))

  out_for_sound : (ty : ArgType) (a : Operand) → SoundOperand M n a → IfOk (out_for ty a) (SoundArgument M n pass.RefOut)
  out_for_sound ty a s = holds (IsTarget M n) (SoundArgument M n pass.RefOut) (out_of a) _ (out_sound a s) (λ x sx. (refl, sx))

  argument_by_sound : (ancestors : Ancestors) (way : Pass) (ty : ArgType) (a : Operand) → SoundOperand M n a
      → IfOk (argument_by ancestors way ty a) (SoundArgument M n way)
  argument_by_sound ancestors pass.Value ty a s = value_for_sound ancestors pass.Value ty a (λ e. cc) s
  argument_by_sound ancestors pass.RefIn ty a s = value_for_sound ancestors pass.RefIn ty a (λ e. cc) s
  argument_by_sound ancestors pass.RefOut ty a s = out_for_sound ty a s
  argument_by_sound ancestors pass.RefInOut ty a s = value_for_sound ancestors pass.RefInOut ty a (λ e. cc) s

  argument_sound : (ancestors : Ancestors) (p : ArgType × Pass) (a : Operand) → SoundOperand M n a → IfOk (argument ancestors p a) (SoundArgument M n p.1)
  unfolding argument
  argument_sound ancestors p a s = argument_by_sound ancestors p.1 p.0 a s

  -- an argument for each parameter
  abbrev pub Fit : List (ArgType × Pass) → List t.Arg → Type 0
  Fit [] [] = Unit {0}
  Fit [] (x ∷ xs) = ⊥
  Fit (p ∷ ps) [] = ⊥
  Fit (p ∷ ps) (x ∷ xs) = SoundArgument M n p.1 x × Fit ps xs

  pub arguments_sound : (ancestors : Ancestors) (ps : List (ArgType × Pass)) (operands : List Operand) → Every (SoundOperand M n) operands
      → length ps ≡ length operands → IfOk (arguments_for ancestors ps operands) (Fit ps)
  arguments_sound ancestors [] [] s e = tt
  arguments_sound ancestors [] (a ∷ rest) s e = cc
  arguments_sound ancestors (p ∷ ps) [] s e = cc
  arguments_sound ancestors (p ∷ ps) (a ∷ rest) s e =
      holds (SoundArgument M n p.1) (Fit (p ∷ ps)) (argument ancestors p a) _ (argument_sound ancestors p a s.0)
      (λ x sx. holds (Fit ps) (Fit (p ∷ ps)) (arguments_for ancestors ps rest) _ (arguments_sound ancestors ps rest s.1 (let same : length ps ≡ length rest = cc in same))
      (λ xs sxs. (sx, sxs)))

  -- a parameter that takes its argument alike
  argument_alike : (p : ArgType × Pass) (q : TypedParameter) (x : t.Arg) → takes p ≡ passing_of q → SoundArgument M n p.1 x → SoundArgument M n q.pass x
  argument_alike p q (t.by_value ty e) same s = (λ out. s.0 (only_out p.1 p.0 (same ∙ ap (λ way. passing_by way q.ty) out)), s.1)
  argument_alike p q (t.out x from to) same s = (only_out q.pass q.ty (sym same ∙ ap (λ way. passing_by way p.0) s.0), s.1)

  pub script_arguments : (ps : List (ArgType × Pass)) (qs : List TypedParameter) (xs : List t.Arg) → TakeAlike ps qs → Fit ps xs → SoundArguments M n qs (t.args xs)
  script_arguments [] [] [] same f = tt
  script_arguments [] [] (x ∷ xs) same f = absurd f
  script_arguments [] (q ∷ qs) xs same f = cc
  script_arguments (p ∷ ps) [] xs same f = cc
  script_arguments (p ∷ ps) (q ∷ qs) [] same f = absurd f
  script_arguments (p ∷ ps) (q ∷ qs) (x ∷ xs) same f =
      (argument_alike p q x (let one : takes p ≡ passing_of q = cc in one) f.0, script_arguments ps qs xs (let others : TakeAlike ps qs = cc in others) f.1)

  nothing_given : (xs : List t.Arg) → Fit [] xs → t.args xs ≡ t.none
  nothing_given [] f = refl
  nothing_given (x ∷ xs) f = absurd f

  host_argument : (way : Pass) (x : t.Arg) → way ≢ pass.RefOut → SoundArgument M n way x → SoundValues M n (t.more x t.none)
  host_argument way (t.by_value ty e) ne s = (s.1, tt)
  host_argument way (t.out x from to) ne s = absurd (ne s.0)

  host_arguments : (ps : List (ArgType × Pass)) (xs : List t.Arg) → Values ps → Fit ps xs → SoundValues M n (t.args xs)
  host_arguments [] [] v f = tt
  host_arguments [] (x ∷ xs) v f = absurd f
  host_arguments (p ∷ ps) [] v f = absurd f
  host_arguments (p ∷ ps) (x ∷ xs) v f = ((host_argument p.1 x v.0 f.0).0, host_arguments ps xs v.1 f.1)

  host_count : (ps : List (ArgType × Pass)) (xs : List t.Arg) → Fit ps xs → length ps ≡ argument_count (t.args xs)
  host_count [] [] f = refl
  host_count [] (x ∷ xs) f = absurd f
  host_count (p ∷ ps) [] f = absurd f
  host_count (p ∷ ps) (x ∷ xs) f = ap suc (host_count ps xs f.1)

-- ---- in a body, where n locals are alive

module _ (s : BodyContext) (n : ℕ) where
  abbrev M : Module
  M = Here s

  call_sound : (c : Called) (result : ArgType) (ps : List (ArgType × Pass)) (xs : List t.Arg) → IsCallee s c ps → Fit M n ps xs
      → Sound M n (call_of c result xs)
  call_sound (calls.Script f) result ps xs h fit =
      (h.0, h.1, script_arguments M n ps h.0 xs h.2 fit)
  call_sound (calls.Host h) result ps xs k fit = (
    record { kind = k.0.kind; entity = k.0.entity; params = k.0.params ∙ ap Some (host_count M n ps xs fit) },
    host_arguments M n ps xs k.1 fit,
  )
  call_sound (calls.Makes c None) result ps xs h fit =
      (h.0, nothing_given M n xs (subst (λ (qs : List (ArgType × Pass)). Fit M n qs xs) h.1 fit))
  call_sound (calls.Makes c (Some k)) result ps xs h fit =
      (h.0, (h.1.0, h.1.1, h.1.2, h.1.3, script_arguments M n ps h.1.1 xs h.1.4 fit))

  called_sound : (place : Place) (c : Callable) (operands : List Operand) → IsCallable s c → length c.candidate.params ≡ length operands
      → Every (SoundOperand M n) operands → IfOk (call_with s place c operands) (SoundOperand M n)
  called_sound place c operands h count all =
      holds (Fit M n c.candidate.params) (SoundOperand M n) (arguments_for s.ancestors c.candidate.params operands) _
      (arguments_sound M n s.ancestors c.candidate.params operands all count)
      (λ xs sxs. no_site M n place c.result (call_of c.called c.result xs) (call_sound c.called c.result c.candidate.params xs h sxs))

  -- where the body may use it
  reached_sound : (x : Token) (r : Option Reach) (next : Typing Operand) → IfOk next (SoundOperand M n) → IfOk (if_in_reach s x r next) (SoundOperand M n)
  reached_sound x None next h = h
  reached_sound x (Some r) next h = either_holds (SoundOperand M n) (may_use s.names.families (family_of s.within) r.owner r.access) next _ h tt

  -- what is meant, with an argument for each type that it was chosen by
  pub use_sound : (place : Place) (x : Token) (a : Asks) (there : Bool) (operands : List Operand) (args : List ArgType) (r : Resolution) → IsMeantCall s args r
      → length args ≡ length operands → Every (SoundOperand M n) operands → IfOk (called_use s place x a there operands r) (SoundOperand M n)
  use_sound place x a there operands args (resolution.Call c) h count all =
      reached_sound x c.reach (call_with s place c operands) (called_sound place c operands h.0 (h.1 ∙ count) all)
  use_sound place x a there operands args (resolution.Variable v ty read_only) h count all = tt
  use_sound place x a there operands args (resolution.Property p) h count all = tt
  use_sound place x a there operands args (resolution.Type k) h count all = tt
  use_sound place x a there operands args (resolution.Enumeration k) h count all = tt
  use_sound place x a there operands args (resolution.Value v) h count all = tt
  use_sound place x a there operands args (resolution.Refused why) h count all = tt

  pub own_use_sound : (place : Place) (x : Token) (operands : List Operand) (args : List ArgType) (r : Resolution) → IsMeantCall s args r
      → length args ≡ length operands → Every (SoundOperand M n) operands → IfOk (called_own s place x operands r) (SoundOperand M n)
  own_use_sound place x operands args (resolution.Call c) h count all =
      reached_sound x c.reach (call_with s place c operands) (called_sound place c operands h.0 (h.1 ∙ count) all)
  own_use_sound place x operands args (resolution.Variable v ty read_only) h count all = tt
  own_use_sound place x operands args (resolution.Property p) h count all = tt
  own_use_sound place x operands args (resolution.Type k) h count all = tt
  own_use_sound place x operands args (resolution.Enumeration k) h count all = tt
  own_use_sound place x operands args (resolution.Value v) h count all = tt
  own_use_sound place x operands args (resolution.Refused why) h count all = tt

  pub types_counted : (operands : List Operand) → length (types_of operands) ≡ length operands
  types_counted operands = length-map operands (λ (a : Operand). a.ty)

  -- ---- methods of the scripts

  -- it is one of a family of the module
  abbrev IsFound : FoundMethod → Type 0
  IsFound x = (c : ℕ) × IsMethodIn M c x.method

  found : IsBuiltContext s → (d : ℕ) (name : List ℕ) → Every IsFound (methods_named s.names.families d name)
  found built d name = named_hold s.names.families IsFound (λ c f there m y at. (c, (built.families c f there).methods m y at)) d name

  -- with its receiver it takes what its slot takes
  virtual_one : (number : ℕ) (x : FoundMethod) → IsFound x → IsCallable s (virtual_method number x)
  unfolding parameters_of
  virtual_one number x h =
      let own = with_this (record { family = h.0; read_only = x.method.read_only }) x.method.function in (
        h.1.heading,
        h.1.slot_is,
        ap (λ ps. passing.Object ∷ ps) (params_alike x.method.function.params) ∙ sym (in_order h.1.heading own h.1.alike),
      )

  direct_one : (number : ℕ) (x : FoundMethod) (k : Option ℕ) → x.method.body ≡ k → IsFound x → Every (IsCallable s) (direct_by number x k)
  unfolding parameters_of
  direct_one number x None e h = tt
  direct_one number x (Some k) e h =
      let own = with_this (record { family = h.0; read_only = x.method.read_only }) x.method.function in
      ((own, h.1.body k e, ap (λ ps. passing.Object ∷ ps) (params_alike x.method.function.params)), tt)

  methods_callable : IsBuiltContext s → (number d : ℕ) (name : List ℕ) → Every (IsCallable s) (map (virtual_method number) (methods_named s.names.families d name))
  methods_callable built number d name =
      every_mapped IsFound (IsCallable s) (virtual_method number) (methods_named s.names.families d name) (virtual_one number) (found built d name)

  direct_callable : IsBuiltContext s → (number d : ℕ) (name : List ℕ) → Every (IsCallable s) (flat_map (direct_method number) (methods_named s.names.families d name))
  direct_callable built number d name =
      every_flat_of IsFound (IsCallable s) (direct_method number) (methods_named s.names.families d name) (λ x h. direct_one number x x.method.body refl h)
      (found built d name)

  pub own_method_sound : IsBuiltContext s → (d number : ℕ) (c : Bool) (x : Token) (receiver : Operand) (operands : List Operand)
      → SoundOperand M n receiver → Every (SoundOperand M n) operands → IfOk (own_method s d number c x receiver operands) (SoundOperand M n)
  own_method_sound built d number c x receiver operands sr all =
      own_use_sound receiver.place x (receiver ∷ operands) (type.Object number c ∷ types_of operands) _
      (best_method_there s (map (virtual_method number) (methods_named s.names.families d (text_of s.text x))) number c (types_of operands)
      (methods_callable built number d (text_of s.text x))) (ap suc (types_counted operands)) (sr, all)

  -- `this`, where it is alive
  this_sound : (place : Place) (w : Within) → 0 < n → SoundOperand M n (this_operand place w)
  this_sound place w alive = no_site M n place (own_type w) (t.read (t.named (variable.Local 0)) (own_type w)) alive

  this_by_sound : (x : Token) (w : Option Within) → IfSome w (λ v. 0 < n) → IfOk (this_in x w) (SoundOperand M n)
  this_by_sound x None alive = tt
  this_by_sound x (Some w) alive = this_sound x.place w alive

  pub this_typed : (x : Token) → HasThis s n → IfOk (this_typing s x) (SoundOperand M n)
  unfolding this_typing
  this_typed x alive = this_by_sound x s.within alive

  -- ---- a bare call

  -- a conversion to an enumeration, of one operand
  enumerated_sound : (x : Token) (k : ℕ) (operands : List Operand) → IsSome (entry_at s.view k) → Every (SoundOperand M n) operands
      → IfOk (enumerated_of x k operands) (SoundOperand M n)
  enumerated_sound x k [] there all = tt
  enumerated_sound x k (a ∷ []) there all =
      holds (λ q. Unit {0}) (SoundOperand M n) (integer a) _ (any (integer a))
      (λ q h. no_site M n x.place (type.Enumeration k) (t.naming (record { 0 = k }) (t.convert q primitive.I32 a.tree)) (there, all.0.tree))
  enumerated_sound x k (a ∷ b ∷ rest) there all = tt

  bare_sound : (x : Token) (a : Asks) (there : Bool) (operands : List Operand) (args : List ArgType) (r : Resolution) → IsMeantCall s args r
      → length args ≡ length operands → Every (SoundOperand M n) operands → IfOk (bare_use s x a there operands r) (SoundOperand M n)
  bare_sound x a there operands args (resolution.Enumeration k) h count all = enumerated_sound x k operands h all
  bare_sound x a there operands args (resolution.Call c) h count all = use_sound x.place x a there operands args (resolution.Call c) h count all
  bare_sound x a there operands args (resolution.Variable v ty read_only) h count all = tt
  bare_sound x a there operands args (resolution.Property q) h count all = tt
  bare_sound x a there operands args (resolution.Type k) h count all = tt
  bare_sound x a there operands args (resolution.Value v) h count all = tt
  bare_sound x a there operands args (resolution.Refused why) h count all = tt

  call_by_name : (ps : List LocalVariable) (x : Token) (operands : List Operand) → IsBuiltContext s → Every (SoundOperand M n) operands
      → IfOk (call_by s ps x operands None) (SoundOperand M n)
  call_by_name ps x operands built all =
      bare_sound x (asks.Call (types_of operands)) (is_there s ps (text_of s.text x)) operands (types_of operands)
      (resolution_of (scope_of s) (text_of s.text x) (asks.Call (types_of operands)))
      (call_there s built (text_of s.text x) (types_of operands)) (types_counted operands) all

  call_within : (ps : List LocalVariable) (x : Token) (operands : List Operand) (w : Option Within) → IsBuiltContext s → IfSome w (λ v. 0 < n)
      → Every (SoundOperand M n) operands → IfOk (call_by s ps x operands (named_methods s w (text_of s.text x))) (SoundOperand M n)
  call_within ps x operands None built alive all = call_by_name ps x operands built all
  call_within ps x operands (Some w) built alive all = by (is_empty found)
    where
      found : List FoundMethod
      found = methods_named s.names.families w.family (text_of s.text x)

      by : (b : Bool) → IfOk (call_by s ps x operands (if b then None else Some (w, found))) (SoundOperand M n)
      by true = call_by_name ps x operands built all
      by false =
          own_method_sound built w.family (family_type w.family) w.read_only x (this_operand x.place w) operands (this_sound x.place w alive) all

  pub call_typed : (ps : List LocalVariable) (x : Token) (operands : List Operand) → IsBuiltContext s → HasThis s n → Every (SoundOperand M n) operands
      → IfOk (call_typing s ps x operands) (SoundOperand M n)
  unfolding call_typing
  call_typed ps x operands built alive all = call_within ps x operands s.within built alive all

  -- ---- `B::f(..)`

  -- the class of the body, where some class above it is meant
  abbrev IsAbove : Option (Within × ℕ) → Type 0
  IsAbove a = IfSome a (λ b. 0 < n)

  ancestor_by_there : (w : Within) (d : Option ℕ) (f : Option Family) → 0 < n → IsAbove (ancestor_by s w d f)
  ancestor_by_there w d None alive = tt
  ancestor_by_there w None (Some f) alive = tt
  ancestor_by_there w (Some d) (Some f) alive = by (f.is_class && (not (d == w.family) && is_under s.names.families w.family d))
    where
      by : (b : Bool) → IsAbove (if b then Some (w, d) else None)
      by true = alive
      by false = tt

  ancestor_there : (c : Token) (w : Option Within) → IfSome w (λ v. 0 < n) → IsAbove (ancestor_in s c w)
  ancestor_there c None alive = tt
  ancestor_there c (Some w) alive = ancestor_by_there w _ _ alive

  scoped_by_sound : (c x : Token) (operands : List Operand) (a : Option (Within × ℕ)) → IsBuiltContext s → IsAbove a → Every (SoundOperand M n) operands
      → IfOk (scoped_by s c x operands a) (SoundOperand M n)
  scoped_by_sound c x operands None built alive all = tt
  scoped_by_sound c x operands (Some a) built alive all =
      let number = family_type a.0.family in
      let own = type.Object number a.0.read_only in
      own_use_sound c.place x (this_operand c.place a.0 ∷ operands) (own ∷ types_of operands) _
      (best_method_there s (flat_map (direct_method number) (methods_named s.names.families a.1 (text_of s.text x))) number a.0.read_only (types_of operands)
      (direct_callable built number a.1 (text_of s.text x))) (ap suc (types_counted operands)) (this_sound c.place a.0 alive, all)

  pub scoped_typed : (c x : Token) (operands : List Operand) → IsBuiltContext s → HasThis s n → Every (SoundOperand M n) operands
      → IfOk (scoped_typing s c x operands) (SoundOperand M n)
  unfolding scoped_typing
  scoped_typed c x operands built alive all = scoped_by_sound c x operands (ancestor_in s c s.within) built (ancestor_there c s.within alive) all

  -- ---- names

  value_sound : (x : Token) (there : Bool) (r : Resolution) → IsMeant s n r → IfOk (value_use s x there r) (SoundOperand M n)
  value_sound x there (resolution.Variable v ty read_only) h = read_sound M n x.place v ty _ h.0 h.1
  value_sound x there (resolution.Property p) h = tt
  value_sound x there (resolution.Call c) h = tt
  value_sound x there (resolution.Type k) h = tt
  value_sound x there (resolution.Enumeration k) h = tt
  value_sound x there (resolution.Value v) h = no_site M n x.place (type.Enumeration v.enumeration) (t.naming v.entity (t.number primitive.I32 (int_bits v.number))) (h, tt)
  value_sound x there (resolution.Refused why) h = tt

  -- `E::V`
  or_unknown : (c x : Token) (v : Option EnumerationValue) → IfSome v (HasValue s.view) → IfOk (value_or_unknown c x v) (SoundOperand M n)
  or_unknown c x None h = tt
  or_unknown c x (Some v) h =
      no_site M n c.place (type.Enumeration v.enumeration) (t.naming v.entity (t.number primitive.I32 (int_bits v.number))) (h, tt)

  scoped_name_sound : (c x : Token) (there : Bool) (r : Resolution) → IfOk (scoped_name_use s c x there r) (SoundOperand M n)
  scoped_name_sound c x there (resolution.Enumeration k) =
      or_unknown c x (value_of s.view k (text_of s.text x)) (value_of_there s.view k (text_of s.text x))
  scoped_name_sound c x there (resolution.Variable v ty read_only) = tt
  scoped_name_sound c x there (resolution.Property q) = tt
  scoped_name_sound c x there (resolution.Call k) = tt
  scoped_name_sound c x there (resolution.Type k) = tt
  scoped_name_sound c x there (resolution.Value v) = tt
  scoped_name_sound c x there (resolution.Refused why) = tt

  pub scoped_name_typed : (ps : List LocalVariable) (c x : Token) → IfOk (scoped_name_typing s ps c x) (SoundOperand M n)
  unfolding scoped_name_typing
  scoped_name_typed ps c x =
      let name = text_of s.text c in scoped_name_sound c x (is_there s ps name) (resolution_of (scope_of s) name asks.Enumeration)

  -- a field of `this`, else a global
  global_typed : (x : Token) (there : Bool) → IfOk (field_or_global s x there None) (SoundOperand M n)
  global_typed x there =
      value_sound x there (resolution_of (scope_of s) (text_of s.text x) asks.Value) (global_sound s n (text_of s.text x))

  field_typed : (x : Token) (there : Bool) (w : Within) (f : Option FoundField) → 0 < n
      → IfOk (field_or_global s x there (option_map (λ (g : FoundField). (w, g)) f)) (SoundOperand M n)
  field_typed x there w None alive = global_typed x there
  field_typed x there w (Some f) alive =
      either_holds (SoundOperand M n) (may_use s.names.families (family_of s.within) f.owner f.access) _ _
      (read_sound M n x.place (variable.Field f.number) f.written.ty _ alive (λ writable. alive)) tt

  within_typed : (x : Token) (there : Bool) (w : Option Within) → IfSome w (λ v. 0 < n)
      → IfOk (field_or_global s x there (field_within s w (text_of s.text x))) (SoundOperand M n)
  within_typed x there None alive = global_typed x there
  within_typed x there (Some w) alive = field_typed x there w (field_named s.names.families w.family (text_of s.text x)) alive

  found_or : (o : Option Operand) (otherwise : Typing Operand) → IfSome o (SoundOperand M n) → IfOk otherwise (SoundOperand M n)
      → IfOk (local_or o otherwise) (SoundOperand M n)
  found_or None otherwise h k = k
  found_or (Some a) otherwise h k = h

module _ (s : BodyContext) (ps : List LocalVariable) where
  local_there : (x : Token) (i : ℕ) (p : Option LocalVariable) → slice_get ps i ≡ p
      → IfSome (option_map (local_at x i) p) (SoundOperand (Here s) (length ps))
  local_there x i None e = tt
  local_there x i (Some p) e =
      let there = slice_get_within ps i p e in
      read_sound (Here s) (length ps) x.place (variable.Local i) p.ty _ there (λ writable. there)

  local_by : (x : Token) (o : Option ℕ) → IfSome (option_and_then (λ i. option_map (local_at x i) (slice_get ps i)) o) (SoundOperand (Here s) (length ps))
  local_by x None = tt
  local_by x (Some i) = local_there x i (slice_get ps i) refl

  pub name_typed : (x : Token) → HasThis s (length ps) → IfOk (name_typing s ps x) (SoundOperand (Here s) (length ps))
  unfolding name_typing
  name_typed x alive =
      let name = text_of s.text x in
      found_or s (length ps) (local_named x name ps) (field_or_global s x (is_there s ps name) (field_within s s.within name))
      (local_by x (last_named name 0 ps)) (within_typed s (length ps) x (is_there s ps name) s.within alive)
