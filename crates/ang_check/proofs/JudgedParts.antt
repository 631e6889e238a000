-- Parts that were judged.
use Rattle.std.proofs.Common.{◌≡◌, ◌<◌, ◌≤◌, ◌+◌, ◌-◌, refl, ap, sym, ◌∙◌, ℕ, Bool, true, false, add-one, add-zero, arith, List, [], ◌∷◌, ◌++◌, append_assoc, append-nil, length, get_or, drop, take, subst, map as list_map}
use Rattle.std.specs.Prelude.{filter, sum_by, slice_get, if◌then◌else◌, option_and_then, Option, Some, None}
use Rattle.std.specs.List.{filter_map, flat_map, list_any}
use Rattle.std.proofs.lemmas.Grind.{flat_map-append}
use Rattle.std.proofs.lemmas.List.{length-append, length-drop, map-append}
use Rattle.ang_view.specs.Registration.{RegistrationList}
use Rattle.ang_lex.specs.declared.token.Token.{Token}
use Rattle.ang_tree.specs.declared.type_name.TypeName.{TypeName}
use Rattle.ang_tree.specs.declared.declaration.BaseName.{BaseName}
use Rattle.ang_tree.specs.Declarations.{Decl, Params, MemberTree, MethodTree, class, interface, import, function, globals, empty, fields, method, constructor}
use Rattle.ang_tree.specs.Stmt.{Body, Var, Vars}
use Rattle.ang_typed.specs.View.{view_function, view_global}
use Rattle.ang_names_known.specs.declared.names.Family.{Family}
use Rattle.ang_names_known.specs.declared.names.Names.{Names}
use Rattle.ang_names_known.specs.declared.names.ScriptFunction.{ScriptFunction}
use Rattle.ang_names_known.specs.declared.names.ScriptGlobal.{ScriptGlobal}
use Rattle.ang_names_known.specs.Items.{each_after}
use Rattle.ang_names_known.specs.Spaces.{ancestors_of}
use Rattle.ang_check_context.specs.Scope.{BodyContext}
use Rattle.ang_check_context.specs.declared.scope.Within.{Within}
use Rattle.ang_check.specs.declared.found.Found.{Found}
use Rattle.ang_check.specs.declared.parts.Left.{Left}
use Rattle.ang_check.specs.Typing.{implicit_super, function_typing, global_typing}
use Rattle.ang_check.specs.Bodies.{InSection, Judgement, of_function, of_global, of_default, a_function, a_global, a_default, base_of, base_name, is_method_tree, is_constructor_tree, member_parts, class_parts, judged_method, judged_constructor, context_in, function_count, global_count, family_count, initializer_parts, declaration_parts, judged, judged_function, judged_global, function_given, member_given, global_given, refusal_in}
use Rattle.ang_check.specs.Judging.{Noted, Adds, IsLeft, Judges, Initializes, Holds, tail}
use Rattle.ang_check.proofs.Lists.{grown, grown_by_one, each_on, first_left, rest_left, none_left, still_none, drop_tail, counted, not_counted, map_turn, map_all}

add_groups : (i j k : ℕ) → i + (j + k) ≡ i + j + k
add_groups i j k = omega arith

some_and_none : {A X : Type 0} (o : Option X) (x : X) → o ≡ Some x → o ≡ None → A
some_and_none None x e f = cc
some_and_none (Some y) x e f = cc

-- ---- judgements

pub adds_none : (f : Found) → Adds f f []
adds_none f = record {
  functions = sym (append-nil (list_map view_function f.functions.items));
  members = sym (append-nil (list_map view_function f.members.items));
  globals = sym (append-nil (list_map view_global f.globals.items));
  refused = sym (append-nil f.refused.items);
}

pub adds_on : (a b c : Found) (js ks : List Judgement) → Adds a b js → Adds b c ks → Adds a c (js ++ ks)
adds_on a b c js ks f g = record {
  functions = grown function_given (list_map view_function a.functions.items) (list_map view_function b.functions.items) (list_map view_function c.functions.items) js ks f.functions g.functions;
  members = grown member_given (list_map view_function a.members.items) (list_map view_function b.members.items) (list_map view_function c.members.items) js ks f.members g.members;
  globals = grown global_given (list_map view_global a.globals.items) (list_map view_global b.globals.items) (list_map view_global c.globals.items) js ks f.globals g.globals;
  refused = grown refusal_in a.refused.items b.refused.items c.refused.items js ks f.refused g.refused;
}

pub adds_noted : (a b : Found) (j : Judgement) → Noted a b j → Adds a b (j ∷ [])
adds_noted a b j n = record {
  functions = grown_by_one function_given (list_map view_function a.functions.items) (list_map view_function b.functions.items) j n.functions;
  members = grown_by_one member_given (list_map view_function a.members.items) (list_map view_function b.members.items) j n.members;
  globals = grown_by_one global_given (list_map view_global a.globals.items) (list_map view_global b.globals.items) j n.globals;
  refused = grown_by_one refusal_in a.refused.items b.refused.items j n.refused;
}

-- the same judgements in other words
adds_same : (a b : Found) (js ks : List Judgement) → ks ≡ js → Adds a b js → Adds a b ks
adds_same a b js ks e f = subst (λ xs. Adds a b xs) (sym e) f

module _ (V : RegistrationList) (names : Names) where
  -- the context of a body by its parts
  pub context_is : (s : BodyContext) (text : List ℕ) (w : Option Within)
      → s.view ≡ V → s.names ≡ names → s.ancestors ≡ ancestors_of names → s.text ≡ text → s.within ≡ w → s ≡ context_in V names text w
  context_is s text w a b c d e = λ j. record { view = a j; names = b j; ancestors = c j; text = d j; within = e j }

  -- ---- declarations

  left_same : (l k : Left) (before : List InSection) (d : InSection) → function_count d ≡ 0 → global_count d ≡ 0 → family_count d ≡ 0
      → k.functions.now ≡ l.functions.now → k.globals.now ≡ l.globals.now → k.families.now ≡ l.families.now
      → IsLeft V names l before → IsLeft V names k (before ++ d ∷ [])
  left_same l k before d f g c functions variables families h = record {
    functions = functions ∙ h.functions ∙ ap (λ n. drop n names.functions) (sym (not_counted function_count before d f));
    globals = variables ∙ h.globals ∙ ap (λ n. drop n names.globals) (sym (not_counted global_count before d g));
    families = families ∙ h.families ∙ ap (λ n. drop n names.families) (sym (not_counted family_count before d c));
  }

  -- nothing was judged
  pub judges_none : (l : Left) (f : Found) → Judges V names l l f f []
  judges_none l f = record {
    left = λ before h. subst (λ b. IsLeft V names l b) (sym (append-nil before)) h;
    added = λ before h. adds_none f;
  }

  -- some declarations and then some more
  pub judges_more : (l m k : Left) (a b c : Found) (first more : List InSection)
      → Judges V names l m a b first → Judges V names m k b c more → Judges V names l k a c (first ++ more)
  judges_more l m k a b c first more f g = record {
    left = λ before h. subst (λ x. IsLeft V names k x) (append_assoc before first more) (g.left (before ++ first) (f.left before h));
    added = λ before h.
        let js = flat_map (judged V names) (each_after declaration_parts before first) in
        let ks = flat_map (judged V names) (each_after declaration_parts (before ++ first) more) in
        adds_same a c (js ++ ks) (flat_map (judged V names) (each_after declaration_parts before (first ++ more)))
        (ap (flat_map (judged V names)) (each_on declaration_parts before first more)
        ∙ flat_map-append (judged V names) (each_after declaration_parts before first) (each_after declaration_parts (before ++ first) more))
        (adds_on a b c js ks (f.added before h) (g.added (before ++ first) (f.left before h)));
  }

  -- one declaration, by what it gives after those before it
  pub judges_one : (l k : Left) (a b : Found) (d : InSection)
      → ((before : List InSection) → IsLeft V names l before → IsLeft V names k (before ++ d ∷ []))
      → ((before : List InSection) → IsLeft V names l before → Adds a b (flat_map (judged V names) (declaration_parts before d)))
      → Judges V names l k a b (d ∷ [])
  judges_one l k a b d left added = record {
    left = left;
    added = λ before h. adds_same a b (flat_map (judged V names) (declaration_parts before d)) (flat_map (judged V names) (declaration_parts before d ++ []))
        (ap (flat_map (judged V names)) (append-nil (declaration_parts before d))) (added before h);
  }

  -- a declaration without parts, which is no family
  judges_nothing : (l : Left) (f : Found) (d : InSection) → function_count d ≡ 0 → global_count d ≡ 0 → family_count d ≡ 0
      → ((before : List InSection) → declaration_parts before d ≡ []) → Judges V names l l f f (d ∷ [])
  judges_nothing l f d n g c e = judges_one l l f f d
      (λ before h. left_same l l before d n g c refl refl refl h)
      (λ before h. adds_same f f [] (flat_map (judged V names) (declaration_parts before d)) (ap (flat_map (judged V names)) (e before)) (adds_none f))

  pub import_judged : (l : Left) (f : Found) (text : List ℕ) (word : Token) (y : TypeName) (x : Token) (ps : Params) (from named semicolon : Token)
      → Judges V names l l f f ((text, import word y x ps from named semicolon) ∷ [])
  import_judged l f text word y x ps from named semicolon =
      judges_nothing l f (text, import word y x ps from named semicolon) refl refl refl (λ before. refl)

  pub empty_judged : (l : Left) (f : Found) (text : List ℕ) (semicolon : Token) → Judges V names l l f f ((text, empty semicolon) ∷ [])
  empty_judged l f text semicolon = judges_nothing l f (text, empty semicolon) refl refl refl (λ before. refl)

  -- a family whose parts are known
  family_left : (l k : Left) (before : List InSection) (d : InSection) → function_count d ≡ 0 → global_count d ≡ 0 → family_count d ≡ 1
      → k.functions.now ≡ l.functions.now → k.globals.now ≡ l.globals.now → k.families.now ≡ drop (sum_by family_count before + 1) names.families
      → IsLeft V names l before → IsLeft V names k (before ++ d ∷ [])
  family_left l k before d f g c functions variables families h = record {
    functions = functions ∙ h.functions ∙ ap (λ n. drop n names.functions) (sym (not_counted function_count before d f));
    globals = variables ∙ h.globals ∙ ap (λ n. drop n names.globals) (sym (not_counted global_count before d g));
    families = families ∙ ap (λ n. drop n names.families) (sym (counted family_count before d 1 c));
  }

  -- an interface, which the names have or not
  pub interface_judged : (l k : Left) (a : Found) (text : List ℕ) (word x : Token) (bases : List BaseName) (left : Token) (methods : List MethodTree) (right : Token)
      → k.families.now ≡ tail l.families.now → k.functions.now ≡ l.functions.now → k.globals.now ≡ l.globals.now
      → Judges V names l k a a ((text, interface word x bases left methods right) ∷ [])
  interface_judged l k a text word x bases left methods right families functions variables =
      let d : InSection = (text, interface word x bases left methods right) in judges_one l k a a d
      (λ before h. let n = sum_by family_count before in
      family_left l k before d refl refl refl functions variables
      (families ∙ ap tail h.families ∙ sym (ap (λ i. drop i names.families) (add-one n) ∙ drop_tail names.families n)) h)
      (λ before h. adds_none a)

  number_is : (all left rest : List Family) (f : Family) (i : ℕ) → left ≡ f ∷ rest → left ≡ drop i all → length all - length left ≡ i
  number_is all left rest f i e l = omega (arith, ap length e, ap length l, length-drop i all)

  -- the next class, by its number
  pub class_judged : (l k : Left) (a b : Found) (n : ℕ) (f : Family) (text : List ℕ) (final : Option Token) (word x : Token) (bases : List BaseName) (left : Token) (members : List MemberTree) (right : Token)
      → n ≡ length names.families - length l.families.now → l.families.now ≡ f ∷ k.families.now
      → k.functions.now ≡ l.functions.now → k.globals.now ≡ l.globals.now
      → Adds a b (flat_map (judged V names) (class_parts n text x bases members))
      → Judges V names l k a b ((text, class final word x bases left members right) ∷ [])
  class_judged l k a b n f text final word x bases left members right number split functions variables added =
      let d : InSection = (text, class final word x bases left members right) in judges_one l k a b d
      (λ before h. family_left l k before d refl refl refl functions variables
      (rest_left names.families l.families.now k.families.now f (sum_by family_count before) split h.families) h)
      (λ before h. subst (λ c. Adds a b (flat_map (judged V names) (class_parts c text x bases members)))
      (number ∙ number_is names.families l.families.now k.families.now f (sum_by family_count before) split h.families) added)

  -- A class that is left has its number among the families.
  pub class_absent : (l k : Left) (a : Found) (n : ℕ) (f : Family) (text : List ℕ) (final : Option Token) (word x : Token) (bases : List BaseName) (left : Token) (members : List MemberTree) (right : Token)
      → n ≡ length names.families - length l.families.now → l.families.now ≡ f ∷ k.families.now
      → k.functions.now ≡ l.functions.now → k.globals.now ≡ l.globals.now → slice_get names.families n ≡ None
      → Judges V names l k a a ((text, class final word x bases left members right) ∷ [])
  class_absent l k a n f text final word x bases left members right number split functions variables none =
      let d : InSection = (text, class final word x bases left members right) in judges_one l k a a d
      (λ before h. family_left l k before d refl refl refl functions variables
      (rest_left names.families l.families.now k.families.now f (sum_by family_count before) split h.families) h)
      (λ before h. let i = sum_by family_count before in
      some_and_none (slice_get names.families n) f
      (ap (slice_get names.families) (number ∙ number_is names.families l.families.now k.families.now f i split h.families)
      ∙ first_left names.families l.families.now k.families.now f i split h.families) none)

  -- a class that the names don't have
  member_of_none : (c : ℕ) (text : List ℕ) (x : Token) (bases : List BaseName) → slice_get names.families c ≡ None → (before : List MemberTree) (m : MemberTree)
      → flat_map (judged V names) (member_parts c text x bases before m) ≡ []
  member_of_none c text x bases e before (fields access y xs semicolon) = refl
  member_of_none c text x bases e before (method access y z ps constant attributes b) =
      ap (λ o. judged_method V names c text z b (option_and_then (λ (f : Family). slice_get f.methods (length (filter is_method_tree before))) o) ++ []) e
  member_of_none c text x bases e before (constructor z ps left u ss right) =
      ap (λ o. judged_constructor V names c text z (base_name V names c text x bases) (base_of V names c) u ss right
      (option_and_then (λ (f : Family). slice_get f.constructors (length (filter is_constructor_tree before))) o) ++ []) e

  members_of_none : (c : ℕ) (text : List ℕ) (x : Token) (bases : List BaseName) → slice_get names.families c ≡ None → (before members : List MemberTree)
      → flat_map (judged V names) (each_after (member_parts c text x bases) before members) ≡ []
  members_of_none c text x bases e before [] = refl
  members_of_none c text x bases e before (m ∷ ms) =
      flat_map-append (judged V names) (member_parts c text x bases before m) (each_after (member_parts c text x bases) (before ++ m ∷ []) ms)
      ∙ ap (λ js. js ++ flat_map (judged V names) (each_after (member_parts c text x bases) (before ++ m ∷ []) ms)) (member_of_none c text x bases e before m)
      ∙ members_of_none c text x bases e (before ++ m ∷ []) ms

  adds_default : (a : Found) (text : List ℕ) (c : ℕ) (x : Token) (bases : List BaseName) (o : Option ℕ) → o ≡ None
      → Adds a a (of_default text (implicit_super names x.place (base_name V names c text x bases) o) ∷ [])
  unfolding implicit_super
  adds_default a text c x bases o e =
      let none : Adds a a (of_default text (implicit_super names x.place (base_name V names c text x bases) None) ∷ []) = record {
        functions = sym (append-nil (list_map view_function a.functions.items));
        members = sym (append-nil (list_map view_function a.members.items));
        globals = sym (append-nil (list_map view_global a.globals.items));
        refused = sym (append-nil a.refused.items);
      } in
      subst (λ q. Adds a a (of_default text (implicit_super names x.place (base_name V names c text x bases) q) ∷ [])) (sym e) none

  default_of_none : (a : Found) (c : ℕ) (text : List ℕ) (x : Token) (bases : List BaseName) (there : Bool) → slice_get names.families c ≡ None
      → Adds a a (flat_map (judged V names) (if there then [] else a_default c text x bases ∷ []))
  default_of_none a c text x bases true e = adds_none a
  default_of_none a c text x bases false e =
      adds_default a text c x bases (base_of V names c) (ap (option_and_then (λ (f : Family). f.base)) e)

  class_of_none : (a : Found) (c : ℕ) (text : List ℕ) (x : Token) (bases : List BaseName) (members : List MemberTree) → slice_get names.families c ≡ None
      → Adds a a (flat_map (judged V names) (class_parts c text x bases members))
  class_of_none a c text x bases members e =
      let first = if list_any is_constructor_tree members then [] else a_default c text x bases ∷ [] in
      adds_same a a (flat_map (judged V names) first) (flat_map (judged V names) (class_parts c text x bases members))
      (flat_map-append (judged V names) first (each_after (member_parts c text x bases) [] members)
      ∙ ap (λ js. flat_map (judged V names) first ++ js) (members_of_none c text x bases e [] members)
      ∙ append-nil (flat_map (judged V names) first))
      (default_of_none a c text x bases (list_any is_constructor_tree members) e)

  pub class_unknown : (l : Left) (a : Found) (text : List ℕ) (final : Option Token) (word x : Token) (bases : List BaseName) (left : Token) (members : List MemberTree) (right : Token)
      → l.families.now ≡ [] → Judges V names l l a a ((text, class final word x bases left members right) ∷ [])
  class_unknown l a text final word x bases left members right none =
      let d : InSection = (text, class final word x bases left members right) in judges_one l l a a d
      (λ before h. family_left l l before d refl refl refl refl refl
      (still_none names.families l.families.now (sum_by family_count before) none h.families) h)
      (λ before h. class_of_none a (sum_by family_count before) text x bases members
      (none_left names.families l.families.now (sum_by family_count before) none h.families))

  -- ---- functions

  function_left : (l k : Left) (before : List InSection) (text : List ℕ) (y : TypeName) (x : Token) (ps : Params) (b : Body)
      → k.functions.now ≡ drop (sum_by function_count before + 1) names.functions → k.globals.now ≡ l.globals.now → k.families.now ≡ l.families.now
      → IsLeft V names l before → IsLeft V names k (before ++ (text, function y x ps b) ∷ [])
  function_left l k before text y x ps b functions variables families h =
      let d : InSection = (text, function y x ps b) in record {
        functions = functions ∙ ap (λ n. drop n names.functions) (sym (counted function_count before d 1 refl));
        globals = variables ∙ h.globals ∙ ap (λ n. drop n names.globals) (sym (not_counted global_count before d refl));
        families = families ∙ h.families ∙ ap (λ n. drop n names.families) (sym (not_counted family_count before d refl));
      }

  -- a function that the names don't have
  pub function_unknown : (l : Left) (f : Found) (text : List ℕ) (y : TypeName) (x : Token) (ps : Params) (b : Body)
      → l.functions.now ≡ [] → Judges V names l l f f ((text, function y x ps b) ∷ [])
  function_unknown l f text y x ps b none = judges_one l l f f (text, function y x ps b)
      (λ before h. function_left l l before text y x ps b (still_none names.functions l.functions.now (sum_by function_count before) none h.functions) refl refl h)
      (λ before h. adds_same f f [] (judged V names (a_function (sum_by function_count before) text x b) ++ [])
      (ap (λ o. judged_function V names text x b o ++ []) (none_left names.functions l.functions.now (sum_by function_count before) none h.functions)) (adds_none f))

  -- the body of the next function
  pub function_judged : (l k : Left) (old new : Found) (f : ScriptFunction) (s : BodyContext) (text : List ℕ) (y : TypeName) (x : Token) (ps : Params) (b : Body)
      → l.functions.now ≡ f ∷ k.functions.now → k.globals.now ≡ l.globals.now → k.families.now ≡ l.families.now
      → s ≡ context_in V names text None → Noted old new (of_function text (function_typing s f x b))
      → Judges V names l k old new ((text, function y x ps b) ∷ [])
  function_judged l k old new f s text y x ps b split variables families is n =
      let m : Noted old new (of_function text (function_typing (context_in V names text None) f x b)) =
      subst (λ (q : BodyContext). Noted old new (of_function text (function_typing q f x b))) is n in
      judges_one l k old new (text, function y x ps b)
      (λ before h. function_left l k before text y x ps b (rest_left names.functions l.functions.now k.functions.now f (sum_by function_count before) split h.functions) variables families h)
      (λ before h. adds_same old new (of_function text (function_typing (context_in V names text None) f x b) ∷ [])
      (judged V names (a_function (sum_by function_count before) text x b) ++ [])
      (ap (λ o. judged_function V names text x b o ++ []) (first_left names.functions l.functions.now k.functions.now f (sum_by function_count before) split h.functions))
      (adds_noted old new (of_function text (function_typing (context_in V names text None) f x b)) m))

  -- ---- globals

  pub initializes_none : (l : Left) (f : Found) (text : List ℕ) (y : TypeName) → Initializes V names l l f f text y []
  initializes_none l f text y = record {
    functions = refl;
    families = refl;
    globals = λ n h. h ∙ ap (λ i. drop i names.globals) (sym (add-zero n));
    added = λ n h. adds_none f;
  }

  initializer_parts_on : (n : ℕ) (text : List ℕ) (y : TypeName) (vs : List Var) (v : Var)
      → each_after (initializer_parts n text y) [] (vs ++ v ∷ []) ≡ each_after (initializer_parts n text y) [] vs ++ a_global (n + length vs) text y v.initializer ∷ []
  initializer_parts_on n text y vs v = each_on (initializer_parts n text y) [] vs (v ∷ [])

  -- some globals and then one more
  pub initializes_more : (l m k : Left) (a b c : Found) (text : List ℕ) (y : TypeName) (vs : List Var) (v : Var)
      → Initializes V names l m a b text y vs → Initializes V names m k b c text y (v ∷ []) → Initializes V names l k a c text y (vs ++ v ∷ [])
  initializes_more l m k a b c text y vs v f g = record {
    functions = g.functions ∙ f.functions;
    families = g.families ∙ f.families;
    globals = λ n h. g.globals (n + length vs) (f.globals n h)
        ∙ ap (λ i. drop i names.globals) (sym (ap (λ i. n + i) (length-append vs (v ∷ [])) ∙ add_groups n (length vs) (length (v ∷ []))));
    added = λ n h.
        let js = flat_map (judged V names) (each_after (initializer_parts n text y) [] vs) in
        let ks = flat_map (judged V names) (each_after (initializer_parts (n + length vs) text y) [] (v ∷ [])) in
        adds_same a c (js ++ ks) (flat_map (judged V names) (each_after (initializer_parts n text y) [] (vs ++ v ∷ [])))
        (ap (flat_map (judged V names)) (initializer_parts_on n text y vs v)
        ∙ flat_map-append (judged V names) (each_after (initializer_parts n text y) [] vs) (a_global (n + length vs) text y v.initializer ∷ [])
        ∙ ap (λ i. js ++ flat_map (judged V names) (a_global i text y v.initializer ∷ [])) (sym (add-zero (n + length vs))))
        (adds_on a b c js ks (f.added n h) (g.added (n + length vs) (f.globals n h)));
  }

  -- a global that the names don't have
  pub global_unknown : (l : Left) (f : Found) (text : List ℕ) (y : TypeName) (v : Var) → l.globals.now ≡ [] → Initializes V names l l f f text y (v ∷ [])
  global_unknown l f text y v none = record {
    functions = refl;
    families = refl;
    globals = λ n h. still_none names.globals l.globals.now n none h;
    added = λ n h. adds_same f f [] (judged V names (a_global (n + 0) text y v.initializer) ++ [])
        (ap (λ i. judged V names (a_global i text y v.initializer) ++ []) (add-zero n)
        ∙ ap (λ o. judged_global V names text y v.initializer o ++ []) (none_left names.globals l.globals.now n none h)) (adds_none f);
  }

  -- the initializer of the next global
  pub global_judged : (l k : Left) (old new : Found) (g : ScriptGlobal) (s : BodyContext) (text : List ℕ) (y : TypeName) (v : Var)
      → l.globals.now ≡ g ∷ k.globals.now → k.functions.now ≡ l.functions.now → k.families.now ≡ l.families.now
      → s ≡ context_in V names text None → Noted old new (of_global text (global_typing s g y v.initializer))
      → Initializes V names l k old new text y (v ∷ [])
  global_judged l k old new g s text y v split functions families is n =
      let j : Judgement = of_global text (global_typing (context_in V names text None) g y v.initializer) in
      let m : Noted old new j = subst (λ (q : BodyContext). Noted old new (of_global text (global_typing q g y v.initializer))) is n in record {
        functions = functions;
        families = families;
        globals = λ i h. rest_left names.globals l.globals.now k.globals.now g i split h;
        added = λ i h. adds_same old new (j ∷ []) (judged V names (a_global (i + 0) text y v.initializer) ++ [])
            (ap (λ e. judged V names (a_global e text y v.initializer) ++ []) (add-zero i)
            ∙ ap (λ o. judged_global V names text y v.initializer o ++ []) (first_left names.globals l.globals.now k.globals.now g i split h))
            (adds_noted old new j m);
      }

  -- the globals of a declaration
  pub globals_judged : (l k : Left) (a b : Found) (text : List ℕ) (vs : Vars)
      → Initializes V names l k a b text vs.declared_type vs.items → Judges V names l k a b ((text, globals vs) ∷ [])
  globals_judged l k a b text vs f = judges_one l k a b (text, globals vs)
      (λ before h. record {
        functions = f.functions ∙ h.functions ∙ ap (λ n. drop n names.functions) (sym (not_counted function_count before (text, globals vs) refl));
        globals = f.globals (sum_by global_count before) h.globals
            ∙ ap (λ n. drop n names.globals) (sym (counted global_count before (text, globals vs) (length vs.items) refl));
        families = f.families ∙ h.families ∙ ap (λ n. drop n names.families) (sym (not_counted family_count before (text, globals vs) refl));
      })
      (λ before h. f.added (sum_by global_count before) h.globals)

  -- ---- loops

  -- one global more
  pub initializes_turn : {S : Type 0} (view : S → Var) (ss : List S) (i : ℕ) (s : S) (l m k : Left) (a b c : Found) (text : List ℕ) (y : TypeName)
      → Initializes V names l m a b text y (list_map view (take i ss))
      → i < length ss → s ≡ get_or ss i s → Initializes V names m k b c text y (view s ∷ [])
      → Initializes V names l k a c text y (list_map view (take (i + 1) ss))
  initializes_turn view ss i s l m k a b c text y f lt is g =
      subst (λ vs. Initializes V names l k a c text y vs) (sym (map_turn view ss i s lt is))
      (initializes_more l m k a b c text y (list_map view (take i ss)) (view s) f g)

  pub initializes_all : {S : Type 0} (view : S → Var) (ss : List S) (i : ℕ) (l k : Left) (a b : Found) (text : List ℕ) (y : TypeName)
      → Initializes V names l k a b text y (list_map view (take i ss)) → length ss ≤ i → Initializes V names l k a b text y (list_map view ss)
  initializes_all view ss i l k a b text y f le = subst (λ vs. Initializes V names l k a b text y vs) (map_all view ss i le) f

  -- one declaration more
  pub judges_turn : {S : Type 0} (view : S → Decl) (ss : List S) (i : ℕ) (s : S) (l m k : Left) (a b c : Found) (text : List ℕ)
      → Judges V names l m a b (list_map (λ d. (text, d)) (list_map view (take i ss)))
      → i < length ss → s ≡ get_or ss i s → Judges V names m k b c ((text, view s) ∷ [])
      → Judges V names l k a c (list_map (λ d. (text, d)) (list_map view (take (i + 1) ss)))
  judges_turn view ss i s l m k a b c text f lt is g =
      subst (λ ds. Judges V names l k a c ds)
      (sym (ap (list_map (λ d. (text, d))) (map_turn view ss i s lt is) ∙ map-append (λ d. (text, d)) (list_map view (take i ss)) (view s ∷ [])))
      (judges_more l m k a b c (list_map (λ d. (text, d)) (list_map view (take i ss))) ((text, view s) ∷ []) f g)

  pub judges_all : {S : Type 0} (view : S → Decl) (ss : List S) (i : ℕ) (l k : Left) (a b : Found) (text : List ℕ)
      → Judges V names l k a b (list_map (λ d. (text, d)) (list_map view (take i ss))) → length ss ≤ i
      → Judges V names l k a b (list_map (λ d. (text, d)) (list_map view ss))
  judges_all view ss i l k a b text f le =
      subst (λ ds. Judges V names l k a b ds) (ap (list_map (λ d. (text, d))) (map_all view ss i le)) f

  -- one section more
  pub sections_turn : {A S : Type 0} (parts : A → List InSection) (view : S → A) (ss : List S) (i : ℕ) (s : S) (l m k : Left) (a b c : Found)
      → Judges V names l m a b (flat_map parts (list_map view (take i ss)))
      → i < length ss → s ≡ get_or ss i s → Judges V names m k b c (parts (view s))
      → Judges V names l k a c (flat_map parts (list_map view (take (i + 1) ss)))
  sections_turn parts view ss i s l m k a b c f lt is g =
      subst (λ ds. Judges V names l k a c ds)
      (sym (ap (flat_map parts) (map_turn view ss i s lt is) ∙ flat_map-append parts (list_map view (take i ss)) (view s ∷ [])
      ∙ ap (λ ds. flat_map parts (list_map view (take i ss)) ++ ds) (append-nil (parts (view s)))))
      (judges_more l m k a b c (flat_map parts (list_map view (take i ss))) (parts (view s)) f g)

  -- ---- all of them, from nothing on

  nothing_before : (l : Left) → l.functions.now ≡ names.functions → l.globals.now ≡ names.globals → l.families.now ≡ names.families → IsLeft V names l []
  nothing_before l f g c = record { functions = f; globals = g; families = c }

  pub all_judged : {A S : Type 0} (parts : A → List InSection) (view : S → A) (ss : List S) (i : ℕ) (l k : Left) (a b : Found)
      → Judges V names l k a b (flat_map parts (list_map view (take i ss))) → length ss ≤ i
      → l.functions.now ≡ names.functions → l.globals.now ≡ names.globals → l.families.now ≡ names.families
      → a.functions.items ≡ [] → a.members.items ≡ [] → a.globals.items ≡ [] → a.refused.items ≡ []
      → Holds b (flat_map (judged V names) (each_after declaration_parts [] (flat_map parts (list_map view ss))))
  all_judged parts view ss i l k a b f le functions variables families no_functions no_members no_globals no_refused =
      let whole : Judges V names l k a b (flat_map parts (list_map view ss)) =
      subst (λ ds. Judges V names l k a b ds) (ap (flat_map parts) (map_all view ss i le)) f in
      let m = whole.added [] (nothing_before l functions variables families) in
      let js = flat_map (judged V names) (each_after declaration_parts [] (flat_map parts (list_map view ss))) in record {
        functions = m.functions ∙ ap (λ xs. list_map view_function xs ++ filter_map function_given js) no_functions;
        members = m.members ∙ ap (λ xs. list_map view_function xs ++ filter_map member_given js) no_members;
        globals = m.globals ∙ ap (λ xs. list_map view_global xs ++ filter_map global_given js) no_globals;
        refused = m.refused ∙ ap (λ xs. xs ++ filter_map refusal_in js) no_refused;
      }
