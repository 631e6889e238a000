-- Each part of a build belongs to what the names have at its number, and is judged; each body has the number that it is given.
use Rattle.std.specs.Prelude.{◌≡◌, ℕ, suc, ◌+◌, Bool, All, length, List, [], ◌∷◌, ◌++◌, map, sum_by, Option}
use Rattle.std.specs.List.{filter_map, flat_map}
use Rattle.std.proofs.Common.{refl, ap, sym, ◌∙◌, subst, arith, append_assoc, append-nil, length-append}
use Rattle.std.proofs.lemmas.Grind.{flat_map-append}
use Rattle.std.proofs.lemmas.List.Elements.{Contains-append_left, Contains-append_right}
use Rattle.ang_view.specs.Registration.{RegistrationList}
use Rattle.ang_tree.specs.declared.type_name.TypeName.{TypeName}
use Rattle.ang_tree.specs.Stmt.{Var, Every}
use Rattle.ang_tree.specs.Declarations.{Decl, class, interface, import, function, globals, empty}
use Rattle.ang_names_known.specs.declared.names.ScriptConstructor.{ScriptConstructor}
use Rattle.ang_names_known.specs.declared.names.Family.{Family}
use Rattle.ang_names_known.specs.declared.names.ScriptMethod.{ScriptMethod}
use Rattle.ang_names_known.specs.declared.names.Names.{Names}
use Rattle.ang_names_known.specs.declared.names.ScriptFunction.{ScriptFunction}
use Rattle.ang_names_known.specs.declared.names.ScriptGlobal.{ScriptGlobal}
use Rattle.ang_names_known.specs.Items.{each_after}
use Rattle.ang_names_known.specs.Spaces.{Space, space_of_names}
use Rattle.ang_names_known.specs.declared.names.Written.{Written}
use Rattle.ang_names_listed.specs.declared.role.TypePosition.TheVariants as role
use Rattle.ang_names_listed.specs.Types.{written_in}
use Rattle.ang_names_listed.specs.Sources.{Source}
use Rattle.ang_names_listed.specs.declared.listed.ListedDeclaration.{ListedDeclaration}
use Rattle.ang_names_listed.specs.Declarations.{Declaring, stands_at, class_shape, interface_shape, globals_from, declared_at, declarations_of, declaring_of, families_of, family_name}
use Rattle.ang_names_classes.specs.Headings.{signatures_of}
use Rattle.ang_names_classes.specs.Resolved.{function_of, global_of, body_members, families_after, family_with, functions_in, families_in, names_of, space_of_declared}
use Rattle.ang_check.specs.Bodies.{Part, a_function, a_global, a_method, a_constructor, a_default, InSection, function_count, global_count, family_count, initializer_parts, class_parts, declaration_parts, in_sections, parts_of, judged_method, judged_constructor, judged_function, judged_global, base_name, base_of, judged, judgements}
use Rattle.ang_check_sound.specs.Parts.{IsPartOf}
use Rattle.ang_check_sound.proofs.Declared.{Declare, all_declared}
use Rattle.ang_check_sound.proofs.Members.{AreNumbered, IsMethodWritten, IsConstructorWritten, class_numbered, class_written, interface_methods, interface_constructors, interface_bodies}
use Rattle.ang_check_sound.proofs.Places.{Behind, all_left, at_same, next_item, next_left, none_left, sum_more, EachFrom, IsIn, all_of_each}

sum_same : (f : InSection → ℕ) (before : List InSection) (x : InSection) → f x ≡ 0 → sum_by f before ≡ sum_by f (before ++ x ∷ [])
sum_same f before x e =
    let more : sum_by f before + 0 ≡ sum_by f (before ++ x ∷ []) = sum_more f before x 0 e in omega (arith, more)

pub bodies_more : (before : List Declaring) (d : Declaring) (n : ℕ) → length (body_members d) ≡ n
    → length (flat_map body_members before) + n ≡ length (flat_map body_members (before ++ d ∷ []))
bodies_more before d n e =
    let one : length (flat_map body_members (d ∷ [])) ≡ n = ap length (append-nil (body_members d)) ∙ e in
    let all = ap length (flat_map-append body_members before (d ∷ [])) ∙ length-append (flat_map body_members before) (flat_map body_members (d ∷ [])) in
    omega (arith, all, one)

-- ---- globals of one declaration

module _ (E : Space) (script : ℕ) (text : List ℕ) (n : ℕ) (y : TypeName) (rest : List ListedDeclaration) where
  no_functions : (i : ℕ) (vs : List Var) → filter_map (function_of E) (globals_from script text n y i vs ++ rest) ≡ filter_map (function_of E) rest
  unfolding function_of
  no_functions i [] = refl
  no_functions i (v ∷ vs) = no_functions (i + 1) vs

  no_families : (i : ℕ) (vs : List Var) → filter_map declaring_of (globals_from script text n y i vs ++ rest) ≡ filter_map declaring_of rest
  no_families i [] = refl
  no_families i (v ∷ vs) = no_families (i + 1) vs

  globals_left : (gs : List ScriptGlobal) (m i : ℕ) (vs : List Var)
      → Behind ScriptGlobal m gs (filter_map (global_of E) (globals_from script text n y i vs ++ rest))
      → Behind ScriptGlobal (m + length vs) gs (filter_map (global_of E) rest)
  unfolding global_of
  globals_left gs m i [] b = let same : m ≡ m + 0 = omega arith in subst (λ k. Behind ScriptGlobal k gs (filter_map (global_of E) rest)) same b
  globals_left gs m i (v ∷ vs) b =
      let same : m + 1 + length vs ≡ m + suc (length vs) = omega arith in
      subst (λ k. Behind ScriptGlobal k gs (filter_map (global_of E) rest)) same
      (globals_left gs (m + 1) (i + 1) vs (next_left m gs _ (filter_map (global_of E) (globals_from script text n y (i + 1) vs ++ rest)) b))

-- ---- all declarations

-- The bodies of family c have their parts.
pub record IsFamilyWritten (parts : List Part) (c : ℕ) (f : Family) : Type 0 where
  pub methods : EachFrom (IsMethodWritten parts c) 0 f.methods
  pub constructors : EachFrom (IsConstructorWritten parts c) 0 f.constructors

-- Over a view and names, in the space of these families, which are all that are declared:
module _ (V : RegistrationList) (names : Names) (declared : List (List ℕ)) (fs : List Declaring) (same_space : (space_of_names V names).families ≡ declared) where
  abbrev E : Space
  E = record { view = V; families = declared }

  abbrev total : ℕ
  total = length (flat_map body_members fs)

  abbrev families_from : List Declaring → List Declaring → List Family
  families_from before ds = each_after (families_after E fs (signatures_of E fs) (length names.functions)) before ds

  -- What the names have for these declarations, where others stand in front, with i functions, g globals and these families.
  record Left (before : List InSection) (i g : ℕ) (front : List Declaring) (ds : List ListedDeclaration) : Type 0 where
    functions : Behind ScriptFunction i names.functions (filter_map (function_of E) ds)
    globals : Behind ScriptGlobal g names.globals (filter_map (global_of E) ds)
    families : Behind Family (length front) names.families (families_from front (filter_map declaring_of ds))
    all : fs ≡ front ++ filter_map declaring_of ds
    function_number : i ≡ sum_by function_count before
    global_number : g ≡ sum_by global_count before
    family_number : length front ≡ sum_by family_count before

  -- The parts that follow there are numbered, and the bodies of the families have parts among them.
  record Follow (i g : ℕ) (front ds : List Declaring) (ps : List Part) : Type 0 where
    numbered : AreNumbered V names total i g (length (flat_map body_members front)) ps
    written : (parts : List Part) → IsIn Part ps parts → EachFrom (IsFamilyWritten parts) (length front) (families_from front ds)

  written_at : List (List ℕ) → List ℕ → TypeName → Written
  written_at f text y = written_in (record { view = V; families = f }) role.Variable text y

  globals_numbered : (i g j first : ℕ) (script : ℕ) (text : List ℕ) (n : ℕ) (y : TypeName) (rest : List ListedDeclaration) (before vs : List Var) (k : ℕ) (ps : List Part)
      → g ≡ first + length before → Behind ScriptGlobal g names.globals (filter_map (global_of E) (globals_from script text n y k vs ++ rest))
      → AreNumbered V names total i (g + length vs) j ps → AreNumbered V names total i g j (each_after (initializer_parts first text y) before vs ++ ps)
  unfolding global_of written_at
  globals_numbered i g j first script text n y rest before [] k ps is b h =
      let same : g + 0 ≡ g = omega arith in subst (λ q. AreNumbered V names total i q j ps) same h
  globals_numbered i g j first script text n y rest before (v ∷ vs) k ps is b h =
      let more = filter_map (global_of E) (globals_from script text n y (k + 1) vs ++ rest) in
      let next : g + 1 ≡ first + length (before ++ v ∷ []) = omega (arith, is, length-append before (v ∷ [])) in
      let end : g + suc (length vs) ≡ g + 1 + length vs = omega arith in (
        sym is,
        (_, at_same names.globals g (first + length before) _ is (next_item g names.globals _ more b), ap (λ f. written_at f text y) (sym same_space)),
        globals_numbered i (g + 1) j first script text n y rest (before ++ v ∷ []) vs (k + 1) ps next (next_left g names.globals _ more b)
            (subst (λ q. AreNumbered V names total i q j ps) end h),
      )

  -- what follows after the declaration
  abbrev Then : List InSection → ℕ → ℕ → List Declaring → List ListedDeclaration → List Part → Type 0
  Then before i g front rest ps = Left before i g front rest → Follow i g front (filter_map declaring_of rest) ps

  declaration_follows : (before : List InSection) (text : List ℕ) (d : Decl) (script n i g : ℕ) (rest : List ListedDeclaration) (front : List Declaring) (ps : List Part)
      → Left before i g front (declared_at script text n d ++ rest)
      → ((i' g' : ℕ) (front' : List Declaring) → Then (before ++ (text, d) ∷ []) i' g' front' rest ps)
      → Follow i g front (filter_map declaring_of (declared_at script text n d ++ rest)) (declaration_parts before (text, d) ++ ps)
  unfolding function_of global_of
  declaration_follows before text (class final word x bases left members right) script n i g rest front ps l go =
      let d = class final word x bases left members right in
      let new : Declaring = record { origin = stands_at script n 0; text = text; name = x; shape = class_shape final bases members } in
      let j = length (flat_map body_members front) in
      let f : Family = family_with E fs (signatures_of E fs) (length front) (length names.functions + j) new in
      let after = families_from (front ++ new ∷ []) (filter_map declaring_of rest) in
      let there = next_item (length front) names.families f after l.families in
      let longer : length front + 1 ≡ length (front ++ new ∷ []) = omega (arith, length-append front (new ∷ [])) in
      let behind = go i g (front ++ new ∷ []) (record {
        functions = l.functions;
        globals = l.globals;
        families = subst (λ k. Behind Family k names.families after) longer (next_left (length front) names.families f after l.families);
        all = l.all ∙ sym (append_assoc front (new ∷ []) (filter_map declaring_of rest));
        function_number = l.function_number ∙ sum_same function_count before (text, d) refl;
        global_number = l.global_number ∙ sum_same global_count before (text, d) refl;
        family_number = sym longer ∙ ap (λ k. k + 1) l.family_number ∙ sum_more family_count before (text, d) 1 refl;
      }) in
      let here = class_parts (length front) text x bases members in
      subst (λ c. Follow i g front (new ∷ filter_map declaring_of rest) (class_parts c text x bases members ++ ps)) l.family_number
      (record {
        numbered = class_numbered V names E (signatures_of E fs) (stands_at script n 0) text x final bases members total i g (length front) j f there ps
            refl refl refl refl (subst (λ k. AreNumbered V names total i g k ps) (sym (bodies_more front new _ refl)) behind.numbered);
        written = λ parts inside.
            let own = class_written V names E (signatures_of E fs) (stands_at script n 0) text x final bases members total i g (length front) j f there
            parts (λ p h. inside p (Contains-append_left here ps p h)) in (
              record { methods = own.0; constructors = own.1 },
              subst (λ k. EachFrom (IsFamilyWritten parts) k after) (sym longer) (behind.written parts (λ p h. inside p (Contains-append_right here ps p h))),
            );
      })
  declaration_follows before text (interface word x bases left methods right) script n i g rest front ps l go =
      let d = interface word x bases left methods right in
      let new : Declaring = record { origin = stands_at script n 0; text = text; name = x; shape = interface_shape bases methods } in
      let j = length (flat_map body_members front) in
      let f : Family = family_with E fs (signatures_of E fs) (length front) (length names.functions + j) new in
      let after = families_from (front ++ new ∷ []) (filter_map declaring_of rest) in
      let longer : length front + 1 ≡ length (front ++ new ∷ []) = omega (arith, length-append front (new ∷ [])) in
      let none : length (flat_map body_members (front ++ new ∷ [])) ≡ j =
      let more = bodies_more front new 0 (interface_bodies methods) in omega (arith, more) in
      let behind = go i g (front ++ new ∷ []) (record {
        functions = l.functions;
        globals = l.globals;
        families = subst (λ k. Behind Family k names.families after) longer (next_left (length front) names.families f after l.families);
        all = l.all ∙ sym (append_assoc front (new ∷ []) (filter_map declaring_of rest));
        function_number = l.function_number ∙ sum_same function_count before (text, d) refl;
        global_number = l.global_number ∙ sum_same global_count before (text, d) refl;
        family_number = sym longer ∙ ap (λ k. k + 1) l.family_number ∙ sum_more family_count before (text, d) 1 refl;
      }) in
      record {
        numbered = subst (λ k. AreNumbered V names total i g k ps) none behind.numbered;
        written = λ parts inside. (
          record {
            methods = interface_methods E (signatures_of E fs) (stands_at script n 0) text x bases methods (length names.functions + j) parts (length front) 0 [] methods;
            constructors = subst (EachFrom (IsConstructorWritten parts (length front)) 0)
                (sym (interface_constructors E (signatures_of E fs) (stands_at script n 0) text x bases methods (length names.functions + j) [] methods)) tt;
          },
          subst (λ k. EachFrom (IsFamilyWritten parts) k after) (sym longer) (behind.written parts inside),
        );
      }
  declaration_follows before text (import word y x params from module_name semicolon) script n i g rest front ps l go =
      let d = import word y x params from module_name semicolon in
      go i g front (record {
        functions = l.functions;
        globals = l.globals;
        families = l.families;
        all = l.all;
        function_number = l.function_number ∙ sum_same function_count before (text, d) refl;
        global_number = l.global_number ∙ sum_same global_count before (text, d) refl;
        family_number = l.family_number ∙ sum_same family_count before (text, d) refl;
      })
  declaration_follows before text (function y x params b) script n i g rest front ps l go =
      let d = function y x params b in
      let after = filter_map (function_of E) rest in
      let behind = go (i + 1) g front (record {
        functions = next_left i names.functions _ after l.functions;
        globals = l.globals;
        families = l.families;
        all = l.all;
        function_number = ap (λ k. k + 1) l.function_number ∙ sum_more function_count before (text, d) 1 refl;
        global_number = l.global_number ∙ sum_same global_count before (text, d) refl;
        family_number = l.family_number ∙ sum_same family_count before (text, d) refl;
      }) in
      record {
        numbered = (
          sym l.function_number,
          (_, at_same names.functions i (sum_by function_count before) _ l.function_number (next_item i names.functions _ after l.functions), refl, refl),
          behind.numbered,
        );
        written = λ parts inside. behind.written parts (λ p h. inside p (Contains-append_right (declaration_parts before (text, d)) ps p h));
      }
  declaration_follows before text (globals vs) script n i g rest front ps l go =
      let d = globals vs in
      let first = sum_by global_count before in
      let start : g ≡ first + length {A = Var} [] = omega (arith, l.global_number) in
      let none = no_families E script text n vs.declared_type rest 0 vs.items in
      let behind = go i (g + length vs.items) front (record {
        functions = subst (Behind ScriptFunction i names.functions) (no_functions E script text n vs.declared_type rest 0 vs.items) l.functions;
        globals = globals_left E script text n vs.declared_type rest names.globals g 0 vs.items l.globals;
        families = subst (λ (ds : List Declaring). Behind Family (length front) names.families (families_from front ds)) none l.families;
        all = l.all ∙ ap (λ (ds : List Declaring). front ++ ds) none;
        function_number = l.function_number ∙ sum_same function_count before (text, d) refl;
        global_number = ap (λ k. k + length vs.items) l.global_number ∙ sum_more global_count before (text, d) (length vs.items) refl;
        family_number = l.family_number ∙ sum_same family_count before (text, d) refl;
      }) in
      subst (λ (ds : List Declaring). Follow i g front ds (declaration_parts before (text, d) ++ ps)) (sym none)
      (record {
        numbered = globals_numbered i g (length (flat_map body_members front)) first script text n vs.declared_type rest [] vs.items 0 ps start l.globals behind.numbered;
        written = λ parts inside. behind.written parts (λ p h. inside p (Contains-append_right (declaration_parts before (text, d)) ps p h));
      })
  declaration_follows before text (empty semicolon) script n i g rest front ps l go =
      let d = empty semicolon in
      go i g front (record {
        functions = l.functions;
        globals = l.globals;
        families = l.families;
        all = l.all;
        function_number = l.function_number ∙ sum_same function_count before (text, d) refl;
        global_number = l.global_number ∙ sum_same global_count before (text, d) refl;
        family_number = l.family_number ∙ sum_same family_count before (text, d) refl;
      })

  nothing_follows : (before : List InSection) (i g : ℕ) (front : List Declaring) → Left before i g front [] → Follow i g front [] []
  nothing_follows before i g front l = record {
    numbered = (
      none_left i names.functions l.functions,
      none_left g names.globals l.globals,
      ap (λ (ds : List Declaring). length (flat_map body_members ds)) (l.all ∙ append-nil front),
    );
    written = λ parts inside. tt;
  }

  all_follow : (before xs : List InSection) (i g : ℕ) (front : List Declaring) (ds : List ListedDeclaration) → Declare xs ds → Left before i g front ds
      → Follow i g front (filter_map declaring_of ds) (each_after declaration_parts before xs)
  all_follow before [] i g front ds d l =
      subst (λ (es : List ListedDeclaration). Follow i g front (filter_map declaring_of es) []) (sym d)
      (nothing_follows before i g front (subst (Left before i g front) d l))
  all_follow before (x ∷ xs) i g front ds d l =
      subst (λ (es : List ListedDeclaration). Follow i g front (filter_map declaring_of es) (each_after declaration_parts before (x ∷ xs))) (sym d.3)
      (declaration_follows before x.0 x.1 d.0 d.1 i g d.2 front (each_after declaration_parts (before ++ x ∷ []) xs)
      (subst (Left before i g front) d.3 l)
      (λ i' g' front' l'. all_follow (before ++ x ∷ []) xs i' g' front' d.2 d.4 l'))

-- ---- the parts of a build

pub names_same : (E : Space) (fs : List Declaring) (all : List (ScriptFunction × Bool)) (n : ℕ) (before ds : List Declaring)
    → map (λ (f : Family). f.name) (each_after (families_after E fs all n) before ds) ≡ map family_name ds
names_same E fs all n before [] = refl
names_same E fs all n before (d ∷ ds) = ap (λ xs. family_name d ∷ xs) (names_same E fs all n (before ++ d ∷ []) ds)

-- how many bodies members have
abbrev pub total_of : List Source → ℕ
total_of sources = length (flat_map body_members (families_of (declarations_of sources)))

pub record HasParts (V : RegistrationList) (names : Names) (sources : List Source) : Type 0 where
  pub numbered : AreNumbered V names (total_of sources) 0 0 0 (parts_of sources)
  pub written : EachFrom (IsFamilyWritten (parts_of sources)) 0 names.families

has_parts : (V : RegistrationList) (sources : List Source) → HasParts V (names_of V (declarations_of sources)) sources
unfolding names_of families_in families_of parts_of
has_parts V sources =
    let ds = declarations_of sources in
    let fs = families_of ds in
    let E = space_of_declared V ds in
    let follow = all_follow V (names_of V ds) (map family_name fs) fs
    (names_same E fs (signatures_of E fs) (length (functions_in E ds)) [] fs) [] (in_sections sources) 0 0 [] ds (all_declared sources)
    (record {
      functions = all_left _;
      globals = all_left _;
      families = all_left _;
      all = refl;
      function_number = refl;
      global_number = refl;
      family_number = refl;
    }) in
    record { numbered = follow.numbered; written = follow.written (parts_of sources) (λ p h. h) }

pub names_have_parts : (V : RegistrationList) (names : Names) (sources : List Source) → names ≡ names_of V (declarations_of sources) → HasParts V names sources
names_have_parts V names sources e = subst (λ (m : Names). HasParts V m sources) (sym e) (has_parts V sources)

-- ---- each belongs to what has its number, and is judged

module _ (V : RegistrationList) (names : Names) where
  each_belongs : (many i g j : ℕ) (ps : List Part) → AreNumbered V names many i g j ps → Every (IsPartOf V names) ps
  each_belongs many i g j [] h = tt
  each_belongs many i g j (a_function n text x b ∷ ps) h = (h.1, each_belongs many (i + 1) g j ps h.2)
  each_belongs many i g j (a_global n text y init ∷ ps) h = (h.1, each_belongs many i (g + 1) j ps h.2)
  each_belongs many i g j (a_method c m text x b ∷ ps) h = ((h.0.method, h.0.there, h.0.name, h.0.place), each_belongs many i g (j + 1) ps h.1)
  each_belongs many i g j (a_constructor c m text x own bases u ss close ∷ ps) h =
      ((h.0.constructor, h.0.there, h.0.name, h.0.place), each_belongs many i g (j + 1) ps h.1)
  each_belongs many i g j (a_default c text x bases ∷ ps) h = (h.0, each_belongs many i g j ps h.1)

  one_judged : (p : Part) → IsPartOf V names p → length (judged V names p) ≡ 1
  one_judged (a_function n text x b) h = ap (λ (f : Option ScriptFunction). length (judged_function V names text x b f)) h.1
  one_judged (a_global n text y i) h = ap (λ (g : Option ScriptGlobal). length (judged_global V names text y i g)) h.1
  one_judged (a_method c m text x b) h = ap (λ (y : Option ScriptMethod). length (judged_method V names c text x b y)) h.1
  one_judged (a_constructor c m text x own bases u ss close) h =
      ap (λ (k : Option ScriptConstructor). length (judged_constructor V names c text x (base_name V names c text own bases) (base_of V names c) u ss close k)) h.1
  one_judged (a_default c text x bases) h = refl

  each_judged : (ps : List Part) → Every (IsPartOf V names) ps → length (flat_map (judged V names) ps) ≡ length ps
  each_judged [] h = refl
  each_judged (p ∷ ps) h =
      let one : length (judged V names p) ≡ 1 = one_judged p h.0 in
      let others : length (flat_map (judged V names) ps) ≡ length ps = each_judged ps h.1 in
      let joined = length-append (judged V names p) (flat_map (judged V names) ps) in
      omega (arith, joined, one, others)

pub all_belong : (V : RegistrationList) (names : Names) (sources : List Source) → names ≡ names_of V (declarations_of sources)
    → All (IsPartOf V names) (parts_of sources)
all_belong V names sources e =
    all_of_each (IsPartOf V names) (parts_of sources)
    (each_belongs V names (total_of sources) 0 0 0 (parts_of sources) (names_have_parts V names sources e).numbered)

pub all_judged : (V : RegistrationList) (names : Names) (sources : List Source) → names ≡ names_of V (declarations_of sources)
    → length (judgements V names sources) ≡ length (parts_of sources)
unfolding judgements
all_judged V names sources e =
    each_judged V names (parts_of sources)
    (each_belongs V names (total_of sources) 0 0 0 (parts_of sources) (names_have_parts V names sources e).numbered)
