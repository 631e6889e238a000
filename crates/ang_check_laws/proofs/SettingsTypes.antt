-- The types of a build's functions: each one of the host's is there. The body of a member of a family has `this` in front.
use Rattle.std.specs.Prelude.{◌≡◌, ◌⊎◌, ℕ, zero, suc, false, List, [], ◌∷◌, Option, Some, None, IfSome, IsSome, Ok, Err, IfOk, length, ◌≤◌, slice_get}
use Rattle.std.specs.List.{filter_map}
use Rattle.std.proofs.Common.{sym, subst, inl, inr}
use Rattle.ang_lex.specs.declared.token.Token.{Token}
use Rattle.ang_view.specs.Registration.{RegistrationList, entry_at}
use Rattle.ang_tree.specs.declared.type_name.TypeName.{TypeName}
use Rattle.ang_tree.specs.Declarations.{SuperTree}
use Rattle.ang_tree.specs.Stmt.{Body, Every, Init, Stmts}
use Rattle.ang_types.specs.declared.arg_type.ArgType.{ArgType}
use Rattle.ang_types.specs.declared.arg_type.ArgType.TheVariants as type
use Rattle.ang_typed.specs.declared.program.TypedParameter.{TypedParameter}
use Rattle.ang_typed.specs.Typed as t
use Rattle.ang_names_known.specs.declared.names.Names.{Names}
use Rattle.ang_names_known.specs.declared.names.ScriptConstructor.{ScriptConstructor}
use Rattle.ang_names_known.specs.declared.names.ScriptFunction.{ScriptFunction}
use Rattle.ang_names_known.specs.declared.names.ScriptGlobal.{ScriptGlobal}
use Rattle.ang_names_known.specs.declared.names.ScriptMethod.{ScriptMethod}
use Rattle.ang_names_known.specs.Spaces.{family_of_type, first_family}
use Rattle.ang_names_listed.specs.declared.listed.ListedDeclaration.{ListedDeclaration}
use Rattle.ang_names_listed.specs.declared.role.TypePosition.{TypePosition}
use Rattle.ang_names_listed.specs.Declarations.{declarations_of}
use Rattle.ang_names_listed.specs.Sources.{Source}
use Rattle.ang_names_listed.specs.Types.{settled, type_in}
use Rattle.ang_names_classes.specs.Resolved.{names_of, space_of_declared}
use Rattle.ang_check_operators.specs.Refusals.{Typing}
use Rattle.ang_check_context.specs.declared.scope.Within.{Within}
use Rattle.ang_check.specs.Typing.{constructor_typing, function_typing, method_body_typing, this_parameter, typed_parameter, typed_parameters}
use Rattle.ang_check.specs.Bodies.{Part, a_function, a_global, a_method, a_constructor, a_default, parts_of, Judgement, of_function, of_global, of_member, of_default, base_name, base_of, constructor_at, context_in, function_given, given, judged, judged_constructor, judged_function, judged_global, judged_method, judgements, member_given, method_at, program_of, within_of}
use Rattle.ang_check_sound.specs.Checked.{with_this}
use Rattle.ang_check_sound.proofs.Bodies.{IsOf, constructor_declared, function_declared, method_declared}
use Rattle.ang_check_sound.proofs.DeclaredTypes.{FunctionHas, NamesHave, ParameterHas, every_given, names_have}
use Rattle.ang_check_sound.proofs.Items.{every_flat, every_joined, every_mapped, every_other}
use Rattle.ang_check_sound.proofs.Types.{IsNameThere, TypeHas, name_there, settled_has}
use Rattle.ang_check_laws.proofs.Arguments.{follows}

every_get : {A : Type 0} (P : A → Type 0) (xs : List A) (i : ℕ) → Every P xs → IfSome (slice_get xs i) P
every_get P [] i h = tt
every_get P (x ∷ xs) zero h = h.0
every_get P (x ∷ xs) (suc i) h = every_get P xs i h.1

-- ---- a type of the host is there

abbrev pub IsThere : RegistrationList → ArgType → Type 0
IsThere V type.Void = Unit {0}
IsThere V type.Null = Unit {0}
IsThere V (type.Plain p) = Unit {0}
IsThere V (type.Enumeration n) = Unit {0}
IsThere V (type.Object n c) = family_of_type n ≡ None → IsSome (entry_at V n)
IsThere V (type.Handle n c) = family_of_type n ≡ None → IsSome (entry_at V n)

module _ (V : RegistrationList) (few : length V ≤ first_family) (ds : List ListedDeclaration) where
  there_by : (ty : ArgType) → TypeHas (IsNameThere (space_of_declared V ds) few) (Unit {0}) ty → IsThere V ty
  there_by type.Void h = tt
  there_by type.Null h = tt
  there_by (type.Plain p) h = tt
  there_by (type.Enumeration n) h = tt
  there_by (type.Object n c) h = h.1
  there_by (type.Handle n c) h = h.1

  written_there : (r : TypePosition) (text : List ℕ) (y : TypeName) → IsThere V (settled (type_in (space_of_declared V ds) r text y))
  written_there r text y =
      let E = space_of_declared V ds in
      there_by (settled (type_in E r text y)) (settled_has E (IsNameThere E few) (name_there E few) r text y)

  names_there : NamesHave (IsThere V) (names_of V ds)
  names_there = names_have V ds (IsThere V) written_there tt

-- ---- functions and bodies

-- the types of its parameters and of its result are there
pub record HasThere (V : RegistrationList) (g : t.TypedFunction) : Type 0 where
  pub parameters : Every (λ (q : TypedParameter). IsThere V q.ty) g.parameters
  pub result : IsThere V g.result

pub record BeginsWithThis (g : t.TypedFunction) : Type 0 where
  pub class : Within
  pub rest : List TypedParameter
  pub parameters : g.parameters ≡ this_parameter class ∷ rest

-- In a view, of these names:
module _ (V : RegistrationList) (names : Names) (functions : Every (FunctionHas (IsThere V)) names.functions) where
  abbrev Gives : Judgement → Type 0
  Gives (of_function text f) = IfOk f (HasThere V)
  Gives (of_global text g) = Unit {0}
  Gives (of_member text f) = IfOk f BeginsWithThis
  Gives (of_default text b) = Unit {0}

  if_given : {A : Type 0} (P : A → Type 0) (x : Typing A) → IfOk x P → IfSome (given x) P
  if_given P (Ok a) h = h
  if_given P (Err r) h = tt

  function_has : (j : Judgement) → Gives j → IfSome (function_given j) (HasThere V)
  function_has (of_function text f) h = if_given (HasThere V) f h
  function_has (of_global text g) h = tt
  function_has (of_member text f) h = tt
  function_has (of_default text b) h = tt

  member_has : (j : Judgement) → Gives j → IfSome (member_given j) BeginsWithThis
  member_has (of_function text f) h = tt
  member_has (of_global text g) h = tt
  member_has (of_member text f) h = if_given BeginsWithThis f h
  member_has (of_default text b) h = tt

  own_there : (f : ScriptFunction) (g : t.TypedFunction) → FunctionHas (IsThere V) f → IsOf (typed_parameters f) f.result.ty g → HasThere V g
  own_there f g h is = record {
    parameters =
        subst (Every (λ (q : TypedParameter). IsThere V q.ty)) (sym is.parameters)
        (every_mapped (ParameterHas (IsThere V)) (λ (q : TypedParameter). IsThere V q.ty) typed_parameter f.params (λ p k. k) h.params);
    result = subst (IsThere V) (sym is.result) h.result;
  }

  one_function : (text : List ℕ) (x : Token) (b : Body) (o : Option ScriptFunction) → IfSome o (FunctionHas (IsThere V)) → Every Gives (judged_function V names text x b o)
  one_function text x b None h = tt
  one_function text x b (Some f) h =
      let c = context_in V names text None in
      (follows (IsOf (typed_parameters f) f.result.ty) (HasThere V) (function_typing c f x b) (function_declared c f x b) (λ g is. own_there f g h is), tt)

  one_global : (text : List ℕ) (y : TypeName) (i : Init) (o : Option ScriptGlobal) → Every Gives (judged_global V names text y i o)
  one_global text y i None = tt
  one_global text y i (Some g) = (tt, tt)

  one_method : (c : ℕ) (text : List ℕ) (x : Token) (b : Body) (o : Option ScriptMethod) → Every Gives (judged_method V names c text x b o)
  one_method c text x b None = tt
  one_method c text x b (Some m) =
      let w = within_of V names c m.read_only in
      let s = context_in V names text (Some w) in (
        follows (IsOf (with_this w m.function) m.function.result.ty) BeginsWithThis (method_body_typing s w m.function x b) (method_declared s w m.function x b)
            (λ g is. record { class = w; rest = typed_parameters m.function; parameters = is.parameters }),
        tt,
      )

  one_constructor : (c : ℕ) (text : List ℕ) (x base : Token) (n : Option ℕ) (u : Option SuperTree) (ss : Stmts) (close : Token) (o : Option ScriptConstructor)
      → Every Gives (judged_constructor V names c text x base n u ss close o)
  one_constructor c text x base n u ss close None = tt
  one_constructor c text x base n u ss close (Some k) =
      let w = within_of V names c false in
      let s = context_in V names text (Some w) in (
        follows (λ (g : t.TypedFunction). g.parameters ≡ with_this w k.function) BeginsWithThis (constructor_typing s w k.function x base n u ss close)
            (constructor_declared s w k.function x base n u ss close) (λ g is. record { class = w; rest = typed_parameters k.function; parameters = is }),
        tt,
      )

  part_gives : (p : Part) → Every Gives (judged V names p)
  part_gives (a_function n text x b) = one_function text x b (slice_get names.functions n) (every_get (FunctionHas (IsThere V)) names.functions n functions)
  part_gives (a_global n text y i) = one_global text y i (slice_get names.globals n)
  part_gives (a_method c m text x b) = one_method c text x b (method_at V names c m)
  part_gives (a_constructor c k text x own bases u ss close) =
      one_constructor c text x (base_name V names c text own bases) (base_of V names c) u ss close (constructor_at V names c k)
  part_gives (a_default c text x bases) = (tt, tt)

  -- each function is one or the other
  pub all_there : (ss : List Source) → Every (λ (g : t.TypedFunction). HasThere V g ⊎ BeginsWithThis g) (program_of V names ss).functions
  unfolding program_of judgements
  all_there ss =
      let js = judgements V names ss in
      let all = every_flat Gives (judged V names) (parts_of ss) part_gives in
      let Q : t.TypedFunction → Type 0 = λ g. HasThere V g ⊎ BeginsWithThis g in
      every_joined Q (filter_map function_given js) (filter_map member_given js)
      (every_other (HasThere V) Q (filter_map function_given js) (λ g h. inl h)
      (every_given (HasThere V) function_given js (every_other Gives (λ j. IfSome (function_given j) (HasThere V)) js function_has all)))
      (every_other BeginsWithThis Q (filter_map member_given js) (λ g h. inr h)
      (every_given BeginsWithThis member_given js (every_other Gives (λ j. IfSome (member_given j) BeginsWithThis) js member_has all)))

-- of a build's names
pub functions_there : (V : RegistrationList) (ss : List Source) → length V ≤ first_family
    → Every (λ (g : t.TypedFunction). HasThere V g ⊎ BeginsWithThis g) (program_of V (names_of V (declarations_of ss)) ss).functions
functions_there V ss few =
    let h = names_there V few (declarations_of ss) in all_there V (names_of V (declarations_of ss)) h.functions ss
