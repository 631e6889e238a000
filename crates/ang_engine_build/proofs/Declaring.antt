-- Names declare the same over a view and over what a tree uses of it.
use Rattle.std.proofs.Common.{◌≡◌, ℕ, zero, suc, ◌<◌, Bool, true, false, List, [], ◌∷◌, ◌++◌, length, get_or, Option, Some, None, refl, sym, ap, subst, ◌∙◌, arith}
use Rattle.std.specs.Prelude.{IfOk, Ok, Err, is_some, map, option_map, slice_get, codes, flat_map}
use Rattle.std.specs.Option.{option_or}
use Rattle.std.proofs.lemmas.List.Quantifiers.{position-Some}
use Rattle.ang_lex.specs.declared.token.Token.{Token}
use Rattle.ang_lex.specs.declared.token.TokenKind.{TokenKind}
use Rattle.ang_lex.specs.declared.token.TokenKind.TheVariants as k
use Rattle.ang_lex.specs.Text.{text_of, name_of}
use Rattle.ang_tree.specs.declared.declaration.Parameter.{Parameter}
use Rattle.ang_tree.specs.declared.type_name.TypeName.{TypeName}
use Rattle.ang_tree.specs.declared.type_name.Handle.{Handle}
use Rattle.ang_tree.specs.Declarations.{Decl, class, interface, import, function, globals, empty}
use Rattle.ang_tree.specs.Stmt.{Every}
use Rattle.ang_view.specs.Only.{only}
use Rattle.ang_view.specs.Registration.{RegistrationList}
use Rattle.ang_view.proofs.Keeping.{kept_stays}
use Rattle.ang_types.specs.declared.arg_type.ArgType.{ArgType}
use Rattle.ang_types.specs.declared.arg_type.ArgType.TheVariants as type
use Rattle.ang_types.specs.declared.asks.Refused.{Refused}
use Rattle.ang_names_known.specs.declared.names.Family.{Family}
use Rattle.ang_names_known.specs.declared.names.Names.{Names}
use Rattle.ang_names_known.specs.declared.names.ScriptFunction.{ScriptFunction}
use Rattle.ang_names_known.specs.declared.names.ScriptGlobal.{ScriptGlobal}
use Rattle.ang_names_known.specs.declared.names.ScriptParameter.{ScriptParameter}
use Rattle.ang_names_known.specs.declared.names.Written.{Written}
use Rattle.ang_names_known.specs.declared.space.Named.{Named}
use Rattle.ang_names_known.specs.declared.space.Named.TheVariants as named
use Rattle.ang_names_known.specs.Lookup.{function_with, same_heading}
use Rattle.ang_names_known.specs.Spaces.{Space, family_of_type, type_of_name}
use Rattle.ang_names_listed.specs.declared.role.TypePosition.{TypePosition}
use Rattle.ang_names_listed.specs.declared.role.TypePosition.TheVariants as role
use Rattle.ang_names_listed.specs.Types.{TypeOrError, ◌and_then◌, admitted, is_const_handle, object_type, pass_of, settled, type_in, written_type}
use Rattle.ang_names_classes.specs.Headings.{function_with as declared_with, heading_of, parameter_of, parameter_role}
use Rattle.ang_names.specs.Refusals.{heading_refusal, parameter_limit, parameters_refusal, why_refused}
use Rattle.ang_engine_call.specs.declared.declarations.DeclarationKind.{DeclarationKind}
use Rattle.ang_engine_call.specs.declared.declarations.DeclarationKind.TheVariants.{Function, Global, Import}
use Rattle.ang_engine_call.specs.Declaration.{declarations_in, declared_by, heading_alone, heading_by, nowhere, unless_refused, with_empty_body}
use Rattle.ang_engine_call.specs.Declarations.{bindable, declared_text}
use Rattle.ang_engine_call.specs.Headings.{Heading, Passed, passed_of, heading_of as shape_of}
use Rattle.ang_engine_call.specs.Named.{function_named_by, import_named_by, number_of}
use Rattle.ang_engine_call.specs.Texts.{const_handle_text, const_text, entry_name, function_text, global_text, name_text, object_name, parameter_text, parameters_text, pass_text, type_text, written_text}
use Rattle.ang_engine_call.proofs.SameHeading.{heading-Decides}
use Rattle.ang_check_sound.proofs.DeclaredTypes.{FunctionHas, GlobalHas, ParameterHas}
use Rattle.ang_check_sound.proofs.Types.{TypeHas, admitted_has, object_has, then_has}
use Rattle.ang_engine_build.specs.Declares.{DeclareSame}
use Rattle.ang_engine_build.proofs.Lookups.{Whole, Narrow, KeptName, IsMeant, means_still, meant_in_whole}

-- ---- lists

every_within : {A : Type 0} (P : A → Type 0) (xs : List A) (i : ℕ) (d : A) → Every P xs → i < length xs → P (get_or xs i d)
every_within P [] i d h within = absurd (omega (arith, within))
every_within P (x ∷ xs) zero d h within = h.0
every_within P (x ∷ xs) (suc i) d h within = every_within P xs i d h.1 (omega (arith, within))

mapped_same : {A B : Type 0} (P : A → Type 0) (f g : A → B) → ((a : A) → P a → f a ≡ g a) → (xs : List A) (n : ℕ) → Every P xs
    → option_map f (slice_get xs n) ≡ option_map g (slice_get xs n)
mapped_same P f g same [] n h = refl
mapped_same P f g same (x ∷ xs) zero h = ap Some (same x h.0)
mapped_same P f g same (x ∷ xs) (suc n) h = mapped_same P f g same xs n h.1

none_of_either : {A : Type 0} (a b : Option A) → option_or a b ≡ None → (a ≡ None) × (b ≡ None)
none_of_either None b e = (refl, e)
none_of_either (Some x) b e = cc

-- what gives the same numbers both ways is the same
both_ways : (a b : Option ℕ) → ((n : ℕ) → a ≡ Some n → b ≡ Some n) → ((n : ℕ) → b ≡ Some n → a ≡ Some n) → b ≡ a
both_ways None None f g = refl
both_ways None (Some n) f g = let x : None ≡ Some n = g n refl in cc
both_ways (Some n) b f g = f n refl

-- ---- headings by what they are the same by

-- Of types of which this holds:
module _ (Q : ArgType → Type 0) where
  passed_have : (ps : List ScriptParameter) → Every (ParameterHas Q) ps → Every (λ (x : Passed). Q x.written.ty) (map passed_of ps)
  passed_have [] h = tt
  passed_have (p ∷ ps) h = (h.0, passed_have ps h.1)

  have_passed : (ps : List ScriptParameter) → Every (λ (x : Passed). Q x.written.ty) (map passed_of ps) → Every (ParameterHas Q) ps
  have_passed [] h = tt
  have_passed (p ∷ ps) h = (h.0, have_passed ps h.1)

  same_has : (f g : ScriptFunction) → shape_of f ≡ shape_of g → FunctionHas Q g → FunctionHas Q f
  same_has f g same has = record {
    params = have_passed f.params (subst (λ (h : Heading). Every (λ (x : Passed). Q x.written.ty) h.params) (sym same) (passed_have g.params has.params));
    result = subst (λ (h : Heading). Q h.result_type.ty) (sym same) has.result;
  }

  -- what has the heading of one of these
  found_has : (fs : List ScriptFunction) (f : ScriptFunction) (n : ℕ) → Every (FunctionHas Q) fs → function_with fs f ≡ Some n → FunctionHas Q f
  unfolding function_with
  found_has fs f n all e =
      let at = position-Some (same_heading f) fs n f e in
      same_has f (get_or fs n f) ((heading-Decides f (get_or fs n f)).0 at.1) (every_within (FunctionHas Q) fs n f all at.0)

-- ---- a text's heading in two spaces

abbrev written_as : TypeName → TypeOrError → Written
written_as y m = record { ty = settled m; constant = is_some y.constant; const_handle = is_const_handle y.handle }

abbrev parameter_as : List ℕ → Parameter → TypeOrError → ScriptParameter
parameter_as text p m = record { written = written_as p.declared_type m; pass = pass_of p.reference; name = name_of text p.name }

-- In the second a name means what it means in the first, where this holds of its meaning there:
module _ (E F : Space) (Q : Named → Type 0)
    (follows : (name : List ℕ) → Q (type_of_name E name) → (type_of_name E name ≡ named.Unknown → ⊥) → type_of_name F name ≡ type_of_name E name) where
  abbrev QType : ArgType → Type 0
  QType = TypeHas Q (Unit {0})

  named_by : (d : Named) (ty : ArgType) → TypeHas (λ e. e ≡ d) ⊥ ty → QType ty → Q d
  named_by d type.Void h q = absurd h
  named_by d type.Null h q = absurd h
  named_by d (type.Plain p) h q = absurd h
  named_by d (type.Enumeration n) h q = subst Q h q
  named_by d (type.Object n c) h q = subst Q h q
  named_by d (type.Handle n c) h q = subst Q h q

  meaning_has : (d : Named) (r : TypePosition) (constant : Bool) (h : Option Handle) (ty : ArgType) → (object_type d constant h and_then admitted r) ≡ Ok ty → QType ty → Q d
  meaning_has d r constant h ty e q =
      named_by d ty
      (subst (λ m. IfOk m (TypeHas (λ e. e ≡ d) ⊥)) e
      (then_has (λ e. e ≡ d) ⊥ (object_type d constant h) (admitted r) (object_has (λ e. e ≡ d) ⊥ d constant h refl) (admitted_has (λ e. e ≡ d) ⊥ r))) q

  meaning_known : (d : Named) (r : TypePosition) (constant : Bool) (h : Option Handle) (ty : ArgType) → (object_type d constant h and_then admitted r) ≡ Ok ty → d ≡ named.Unknown → ⊥
  meaning_known named.Unknown r constant h ty e is = cc
  meaning_known (named.Object n) r constant h ty e is = cc
  meaning_known (named.Enumeration n) r constant h ty e is = cc

  kind_same : (r : TypePosition) (text : List ℕ) (y : TypeName) (kind : TokenKind) (ty : ArgType) → (written_type E text y kind and_then admitted r) ≡ Ok ty → QType ty
      → written_type F text y kind ≡ written_type E text y kind
  kind_same r text y (k.Primitive p) ty e q = refl
  kind_same r text y k.Void ty e q = refl
  kind_same r text y _ ty e q =
      let d = type_of_name E (text_of text y.name) in
      ap (λ d. object_type d (is_some y.constant) y.handle)
      (follows (text_of text y.name) (meaning_has d r (is_some y.constant) y.handle ty e q) (meaning_known d r (is_some y.constant) y.handle ty e))

  type_in_same : (r : TypePosition) (text : List ℕ) (y : TypeName) (ty : ArgType) → type_in E r text y ≡ Ok ty → QType ty → type_in F r text y ≡ type_in E r text y
  unfolding type_in
  type_in_same r text y ty e q = ap (λ m. m and_then admitted r) (kind_same r text y y.name.kind ty e q)

  accepted_same : (r : TypePosition) (text : List ℕ) (y : TypeName) (m : TypeOrError) → type_in E r text y ≡ m → why_refused text y.name m ≡ None → QType (settled m)
      → type_in F r text y ≡ type_in E r text y
  accepted_same r text y (Ok ty) is e q = type_in_same r text y ty is q
  accepted_same r text y (Err why) is e q = cc

  one_same : (r : TypePosition) (text : List ℕ) (y : TypeName) → why_refused text y.name (type_in E r text y) ≡ None → QType (settled (type_in E r text y))
      → type_in F r text y ≡ type_in E r text y
  one_same r text y e q = accepted_same r text y (type_in E r text y) refl e q

  record SameParameters (text : List ℕ) (ps : List Parameter) : Type 0 where
    refusal : parameters_refusal F text false ps ≡ parameters_refusal E text false ps
    same : map (parameter_of F text false) ps ≡ map (parameter_of E text false) ps

  parameters_same : (text : List ℕ) (ps : List Parameter) → parameters_refusal E text false ps ≡ None → Every (ParameterHas QType) (map (parameter_of E text false) ps) → SameParameters text ps
  parameters_same text [] e q = record { refusal = refl; same = refl }
  parameters_same text (p ∷ ps) e q =
      let none = none_of_either (why_refused text p.declared_type.name (type_in E (parameter_role false p) text p.declared_type)) (parameters_refusal E text false ps) e in
      let here = one_same (parameter_role false p) text p.declared_type none.0 q.0 in
      let rest = parameters_same text ps none.1 q.1 in
      record {
        refusal = λ i. option_or (why_refused text p.declared_type.name (here i)) (rest.refusal i);
        same = λ i. parameter_as text p (here i) ∷ rest.same i;
      }

  heading_accepted : (r : Option Refused) (h f : ScriptFunction) → unless_refused r h ≡ Some f → (r ≡ None) × (h ≡ f)
  heading_accepted None h f e = (refl, cc)
  heading_accepted (Some x) h f e = cc

  heading_same : (text : List ℕ) (x : Token) (y : TypeName) (ps : List Parameter) (f : ScriptFunction)
      → unless_refused (heading_refusal E text false x y ps) (heading_of E nowhere text x y ps) ≡ Some f → FunctionHas QType f
      → unless_refused (heading_refusal F text false x y ps) (heading_of F nowhere text x y ps) ≡ Some f
  heading_same text x y ps f e has =
      let taken = heading_accepted (heading_refusal E text false x y ps) (heading_of E nowhere text x y ps) f e in
      let own = subst (FunctionHas QType) (sym taken.1) has in
      let first = none_of_either (why_refused text y.name (type_in E role.Result text y)) (option_or (parameter_limit text x ps) (parameters_refusal E text false ps)) taken.0 in
      let later = none_of_either (parameter_limit text x ps) (parameters_refusal E text false ps) first.1 in
      let result = one_same role.Result text y first.0 own.result in
      let rest = parameters_same text ps later.1 own.params in
      (λ i. unless_refused (option_or (why_refused text y.name (result i)) (option_or (parameter_limit text x ps) (rest.refusal i)))
      (declared_with nowhere text x (written_as y (result i)) (rest.same i))) ∙ e

  declaration_same : (text : List ℕ) (d : Decl) (f : ScriptFunction) → heading_by E text d ≡ Some f → FunctionHas QType f → heading_by F text d ≡ Some f
  declaration_same text (class final word x bases left members right) f e has = cc
  declaration_same text (interface word x bases left methods right) f e has = cc
  declaration_same text (import word y x ps from module_name semicolon) f e has = cc
  declaration_same text (function y x ps b) f e has = heading_same text x y ps.items f e has
  declaration_same text (globals vs) f e has = cc
  declaration_same text (empty semicolon) f e has = cc

  alone_same : (text : List ℕ) (o : Option (List Decl)) (f : ScriptFunction) → heading_alone E text o ≡ Some f → FunctionHas QType f → heading_alone F text o ≡ Some f
  alone_same text None f e has = cc
  alone_same text (Some []) f e has = cc
  alone_same text (Some (d ∷ [])) f e has = declaration_same text d f e has
  alone_same text (Some (d ∷ d' ∷ ds)) f e has = cc

  declared_same : (decl : List ℕ) (f : ScriptFunction) → declared_by E decl ≡ Some f → FunctionHas QType f → declared_by F decl ≡ Some f
  unfolding declared_by
  declared_same decl f e has = alone_same (with_empty_body decl) (declarations_in (with_empty_body decl)) f e has

  number_by : (decl : List ℕ) (fs : List ScriptFunction) (o : Option ScriptFunction) (n : ℕ) → declared_by E decl ≡ o → Every (FunctionHas QType) fs → number_of o fs ≡ Some n
      → number_of (declared_by F decl) fs ≡ Some n
  number_by decl fs None n is all e = cc
  number_by decl fs (Some f) n is all e = ap (λ o. number_of o fs) (declared_same decl f is (found_has QType fs f n all e)) ∙ e

  -- the number of a function of that heading, whose types are so
  number_same : (decl : List ℕ) (fs : List ScriptFunction) → Every (FunctionHas QType) fs → (n : ℕ) → number_of (declared_by E decl) fs ≡ Some n
      → number_of (declared_by F decl) fs ≡ Some n
  number_same decl fs all n e = number_by decl fs (declared_by E decl) n refl all e

-- ---- texts

-- Over a view of which these entries are kept, in a module with these classes and interfaces:
module _ (V : RegistrationList) (keep : ℕ → Bool) (fs : List Family) where
  abbrev Kept : ArgType → Type 0
  Kept = TypeHas (KeptName V (map (λ (f : Family). f.name) fs) keep) (Unit {0})

  abbrev W : RegistrationList
  W = only keep V

  object_same : (n : ℕ) (c : Option ℕ) → keep n ≡ true → object_name W fs n c ≡ object_name V fs n c
  object_same n None kept = ap entry_name (kept_stays keep V n kept)
  object_same n (Some c) kept = refl

  type_same : (ty : ArgType) (const_handle : Bool) → Kept ty → type_text W fs ty const_handle ≡ type_text V fs ty const_handle
  unfolding type_text
  type_same type.Void const_handle kept = refl
  type_same type.Null const_handle kept = refl
  type_same (type.Plain p) const_handle kept = refl
  type_same (type.Enumeration n) const_handle kept = ap entry_name (kept_stays keep V n kept)
  type_same (type.Object n c) const_handle kept = object_same n (family_of_type n) kept
  type_same (type.Handle n c) const_handle kept = ap (λ (name : List ℕ). name ++ const_handle_text const_handle) (object_same n (family_of_type n) kept)

  written_same : (w : Written) → Kept w.ty → written_text W fs w ≡ written_text V fs w
  written_same w kept = ap (λ (t : List ℕ). const_text w.constant ++ t) (type_same w.ty w.const_handle kept)

  parameter_same : (p : ScriptParameter) → Kept p.written.ty → parameter_text W fs p ≡ parameter_text V fs p
  parameter_same p kept = ap (λ (t : List ℕ). t ++ (pass_text p.pass ++ name_text p.name)) (written_same p.written kept)

  others_same : (ps : List ScriptParameter) → Every (ParameterHas Kept) ps
      → flat_map (λ q. codes ", " ++ parameter_text W fs q) ps ≡ flat_map (λ q. codes ", " ++ parameter_text V fs q) ps
  others_same [] kept = refl
  others_same (p ∷ ps) kept = λ i. (codes ", " ++ parameter_same p kept.0 i) ++ others_same ps kept.1 i

  params_same : (ps : List ScriptParameter) → Every (ParameterHas Kept) ps → parameters_text W fs ps ≡ parameters_text V fs ps
  unfolding parameters_text
  params_same [] kept = refl
  params_same (p ∷ ps) kept = λ i. parameter_same p kept.0 i ++ others_same ps kept.1 i

  function_same : (f : ScriptFunction) → FunctionHas Kept f → function_text W fs f ≡ function_text V fs f
  function_same f kept = λ i. written_same f.result kept.result i ++ (codes " " ++ (f.name ++ (codes "(" ++ (params_same f.params kept.params i ++ codes ")"))))

  global_same : (g : ScriptGlobal) → GlobalHas Kept g → global_text W fs g ≡ global_text V fs g
  global_same g kept = ap (λ (t : List ℕ). t ++ (codes " " ++ g.name)) (written_same g.written kept)

-- ---- all of it

-- Of names whose types are kept, and are what the names of their entries mean:
module _ (V : RegistrationList) (keep : ℕ → Bool) (names : Names) where
  abbrev families : List (List ℕ)
  families = map (λ (f : Family). f.name) names.families

  abbrev pub KeptType : ArgType → Type 0
  KeptType = TypeHas (KeptName V families keep) (Unit {0})

  abbrev pub MeantType : ArgType → Type 0
  MeantType = TypeHas (IsMeant V families keep) (Unit {0})

  numbers_same : (decl : List ℕ) (fs : List ScriptFunction) → Every (FunctionHas KeptType) fs → Every (FunctionHas MeantType) fs
      → number_of (declared_by (Narrow V families keep) decl) fs ≡ number_of (declared_by (Whole V families keep) decl) fs
  numbers_same decl fs kept meant =
      both_ways (number_of (declared_by (Whole V families keep) decl) fs) (number_of (declared_by (Narrow V families keep) decl) fs)
      (number_same (Whole V families keep) (Narrow V families keep) (KeptName V families keep) (λ name has known. means_still V families keep name has) decl fs kept)
      (number_same (Narrow V families keep) (Whole V families keep) (IsMeant V families keep) (meant_in_whole V families keep) decl fs meant)

  pub record AreKept : Type 0 where
    pub functions : Every (FunctionHas KeptType) names.functions
    pub imports : Every (FunctionHas KeptType) names.imports
    pub globals : Every (GlobalHas KeptType) names.globals

  text_same : AreKept → (kind : DeclarationKind) (n : ℕ) → declared_text kind n (only keep V) names ≡ declared_text kind n V names
  text_same kept Function n =
      mapped_same (FunctionHas KeptType) (function_text (only keep V) names.families) (function_text V names.families) (function_same V keep names.families) names.functions n kept.functions
  text_same kept Global n =
      mapped_same (GlobalHas KeptType) (global_text (only keep V) names.families) (global_text V names.families) (global_same V keep names.families) names.globals n kept.globals
  text_same kept Import n =
      mapped_same (FunctionHas KeptType) (function_text (only keep V) names.families) (function_text V names.families) (function_same V keep names.families) names.imports n kept.imports

  pub declare_same : AreKept → Every (FunctionHas MeantType) names.functions → Every (FunctionHas MeantType) names.imports → DeclareSame V (only keep V) names
  unfolding function_named_by import_named_by
  declare_same kept functions imports = record {
    texts = text_same kept;
    functions = λ decl. numbers_same decl names.functions kept.functions functions;
    imports = λ decl. ap bindable (numbers_same decl names.imports kept.imports imports);
  }
