-- The parts of a class are those of its methods and constructors, each with its number and its body's.
use Rattle.std.specs.Prelude.{◌≡◌, ℕ, ◌+◌, Bool, true, false, if◌then◌else◌, Contains, length, filter, List, [], ◌∷◌, ◌++◌, map, option_and_then, Option, Some, slice_get}
use Rattle.std.specs.List.{flat_map, list_any}
use Rattle.std.proofs.Common.{refl, ap, sym, ◌∙◌, subst, arith, append_assoc, append-nil}
use Rattle.ang_lex.specs.declared.token.Token.{Token}
use Rattle.ang_view.specs.Registration.{RegistrationList}
use Rattle.ang_tree.specs.declared.type_name.TypeName.{TypeName}
use Rattle.ang_tree.specs.declared.declaration.BaseName.{BaseName}
use Rattle.ang_tree.specs.declared.declaration.FieldName.{FieldName}
use Rattle.ang_tree.specs.Declarations.{MemberTree, fields, method, constructor, SuperTree, MethodTree}
use Rattle.ang_tree.specs.Stmt.{Body, Stmts}
use Rattle.ang_names_known.specs.declared.names.Access.{Access}
use Rattle.ang_names_known.specs.declared.names.Access.TheVariants as access
use Rattle.ang_names_known.specs.declared.names.ScriptConstructor.{ScriptConstructor}
use Rattle.ang_names_known.specs.declared.names.Family.{Family}
use Rattle.ang_names_known.specs.declared.names.ScriptMethod.{ScriptMethod}
use Rattle.ang_names_known.specs.declared.names.Names.{Names}
use Rattle.ang_names_known.specs.declared.names.Origin.{Origin}
use Rattle.ang_names_known.specs.declared.names.ScriptFunction.{ScriptFunction}
use Rattle.ang_names_known.specs.Items.{each_after}
use Rattle.ang_names_known.specs.Spaces.{Space}
use Rattle.ang_lex.specs.Text.{text_of}
use Rattle.ang_names_listed.specs.declared.listed.ListedMember.{ListedMember}
use Rattle.ang_names_listed.specs.declared.listed.MemberKind.TheVariants as member
use Rattle.ang_names_listed.specs.Declarations.{Declaring, access_of, attributes_of, field_as, members_by, member_of, class_shape, interface_shape}
use Rattle.ang_names_classes.specs.Resolved.{has_body, with_bodies, methods_after, constructors_after}
use Rattle.ang_check.specs.Bodies.{Part, a_function, a_global, a_method, a_constructor, a_default, is_method_tree, is_constructor_tree, member_parts, class_parts, method_at, constructor_at}
use Rattle.ang_check.specs.Judging.{default_parts}
use Rattle.ang_check_sound.specs.Parts.{IsPartOf}
use Rattle.std.proofs.lemmas.List.Elements.{Contains-append_right}
use Rattle.ang_check_sound.proofs.Places.{Behind, all_left, next_item, next_left, counted, not_counted, EachFrom, has_first, has_later, IsIn}

-- ---- parts by number

module _ (V : RegistrationList) (names : Names) where
  -- A body's number comes after those of the functions and of j others.
  abbrev pub number_of : ℕ → ℕ
  number_of j = length names.functions + j

  pub record IsMethod (j c m : ℕ) (text : List ℕ) (x : Token) : Type 0 where
    pub method : ScriptMethod
    pub there : method_at V names c m ≡ Some method
    pub name : method.function.name ≡ text_of text x
    pub place : method.function.place ≡ x.place
    pub body : method.body ≡ Some (number_of j)

  pub record IsConstructor (j c m : ℕ) (text : List ℕ) (x : Token) : Type 0 where
    pub constructor : ScriptConstructor
    pub there : constructor_at V names c m ≡ Some constructor
    pub name : constructor.function.name ≡ text_of text x
    pub place : constructor.function.place ≡ x.place
    pub body : constructor.body ≡ number_of j

-- Over a view and names, with `total` bodies of members in all:
module _ (V : RegistrationList) (names : Names) (total : ℕ) where
  -- These parts are of what has their numbers, in their order, where i functions, g globals and j bodies of members stand before them.
  abbrev pub AreNumbered : ℕ → ℕ → ℕ → List Part → Type 0
  AreNumbered i g j [] = (length names.functions ≡ i) × (length names.globals ≡ g) × (total ≡ j)
  AreNumbered i g j (a_function n text x b ∷ ps) = (n ≡ i) × IsPartOf V names (a_function n text x b) × AreNumbered (i + 1) g j ps
  AreNumbered i g j (a_global n text y init ∷ ps) = (n ≡ g) × IsPartOf V names (a_global n text y init) × AreNumbered i (g + 1) j ps
  AreNumbered i g j (a_method c m text x b ∷ ps) = IsMethod V names j c m text x × AreNumbered i g (j + 1) ps
  AreNumbered i g j (a_constructor c m text x own bases u ss close ∷ ps) = IsConstructor V names j c m text x × AreNumbered i g (j + 1) ps
  AreNumbered i g j (a_default c text x bases ∷ ps) = IsPartOf V names (a_default c text x bases) × AreNumbered i g j ps

-- ---- members that are listed

-- In the space of a build, whose methods are these, of a family before whose bodies stand `first` others:
module _ (E : Space) (all : List (ScriptFunction × Bool)) (d : Declaring) (first : ℕ) where
  -- fields are no methods and no constructors
  methods_of_fields : (a : Access) (y : TypeName) (names : List FieldName) (before rest : List ListedMember)
      → each_after (methods_after E all d first) before (map (field_as a y) names ++ rest)
      ≡ each_after (methods_after E all d first) (before ++ map (field_as a y) names) rest
  methods_of_fields a y [] before rest = ap (λ xs. each_after (methods_after E all d first) xs rest) (sym (append-nil before))
  methods_of_fields a y (f ∷ names) before rest =
      methods_of_fields a y names (before ++ field_as a y f ∷ []) rest
      ∙ ap (λ xs. each_after (methods_after E all d first) xs rest) (append_assoc before (field_as a y f ∷ []) (map (field_as a y) names))

  constructors_of_fields : (a : Access) (y : TypeName) (names : List FieldName) (before rest : List ListedMember)
      → each_after (constructors_after E d first) before (map (field_as a y) names ++ rest)
      ≡ each_after (constructors_after E d first) (before ++ map (field_as a y) names) rest
  constructors_of_fields a y [] before rest = ap (λ xs. each_after (constructors_after E d first) xs rest) (sym (append-nil before))
  constructors_of_fields a y (f ∷ names) before rest =
      constructors_of_fields a y names (before ++ field_as a y f ∷ []) rest
      ∙ ap (λ xs. each_after (constructors_after E d first) xs rest) (append_assoc before (field_as a y f ∷ []) (map (field_as a y) names))

-- and have no bodies
no_bodies : (is_class : Bool) (a : Access) (y : TypeName) (names : List FieldName) (before : List ListedMember)
    → length (with_bodies is_class (before ++ map (field_as a y) names)) ≡ length (with_bodies is_class before)
no_bodies is_class a y [] before = ap (λ xs. length (with_bodies is_class xs)) (append-nil before)
no_bodies is_class a y (f ∷ names) before =
    ap (λ xs. length (with_bodies is_class xs)) (sym (append_assoc before (field_as a y f ∷ []) (map (field_as a y) names)))
    ∙ no_bodies is_class a y names (before ++ field_as a y f ∷ [])
    ∙ sym (not_counted (λ (m : ListedMember). has_body is_class m.kind) before (field_as a y f) refl)

-- ---- each method and each constructor has its part

-- Among all parts there is that of method m of class c, if it has a body, and that of constructor m.
module _ (parts : List Part) (c : ℕ) where
  pub record MethodPart (m : ℕ) : Type 0 where
    pub text : List ℕ
    pub name : Token
    pub tree : Body
    pub written : Contains parts (a_method c m text name tree)

  abbrev pub IsMethodWritten : ℕ → ScriptMethod → Type 0
  IsMethodWritten m y = (k : ℕ) → y.body ≡ Some k → MethodPart m

  pub record ConstructorPart (m : ℕ) : Type 0 where
    pub text : List ℕ
    pub name : Token
    pub own : Token
    pub bases : List BaseName
    pub super : Option SuperTree
    pub tree : Stmts
    pub close : Token
    pub written : Contains parts (a_constructor c m text name own bases super tree close)

  abbrev pub IsConstructorWritten : ℕ → ScriptConstructor → Type 0
  IsConstructorWritten m y = ConstructorPart m

-- ---- a class

-- Over a view and names, class c as it is written, before whose members' bodies stand j others:
module _ (V : RegistrationList) (names : Names) (E : Space) (all : List (ScriptFunction × Bool)) (origin : Origin) (text : List ℕ) (x : Token)
    (final : Option Token) (bases : List BaseName) (members : List MemberTree) (total i g c j : ℕ) (f : Family)
    (there : slice_get names.families c ≡ Some f) where
  abbrev pub class_of : Declaring
  class_of = record { origin = origin; text = text; name = x; shape = class_shape final bases members }

  abbrev first : ℕ
  first = length names.functions + j

  abbrev methods_from : List ListedMember → List ListedMember → List ScriptMethod
  methods_from before ms = each_after (methods_after E all class_of first) before ms

  abbrev constructors_from : List ListedMember → List ListedMember → List ScriptConstructor
  constructors_from before ms = each_after (constructors_after E class_of first) before ms

  method_there : (m : ℕ) (y : ScriptMethod) → slice_get f.methods m ≡ Some y → method_at V names c m ≡ Some y
  method_there m y e = ap (option_and_then (λ (g : Family). slice_get g.methods m)) there ∙ e

  constructor_there : (m : ℕ) (k : ScriptConstructor) → slice_get f.constructors m ≡ Some k → constructor_at V names c m ≡ Some k
  constructor_there m k e = ap (option_and_then (λ (g : Family). slice_get g.constructors m)) there ∙ e

  -- These members come next, where those before them are listed so.
  members_numbered : (before rest : List MemberTree) (listed : List ListedMember) (ps : List Part)
      → Behind ScriptMethod (length (filter is_method_tree before)) f.methods (methods_from listed (flat_map members_by rest))
      → Behind ScriptConstructor (length (filter is_constructor_tree before)) f.constructors (constructors_from listed (flat_map members_by rest))
      → AreNumbered V names total i g (j + length (with_bodies true (listed ++ flat_map members_by rest))) ps
      → AreNumbered V names total i g (j + length (with_bodies true listed)) (each_after (member_parts c text x bases) before rest ++ ps)
  members_numbered before [] listed ps ms ks h =
      subst (λ xs. AreNumbered V names total i g (j + length (with_bodies true xs)) ps) (append-nil listed) h
  members_numbered before (fields a y ns semicolon ∷ rest) listed ps ms ks h =
      let tree = fields a y ns semicolon in
      let more = map (field_as (access_of a) y) ns in
      let after = flat_map members_by rest in
      subst (λ n. AreNumbered V names total i g (j + n) (each_after (member_parts c text x bases) (before ++ tree ∷ []) rest ++ ps))
      (no_bodies true (access_of a) y ns listed)
      (members_numbered (before ++ tree ∷ []) rest (listed ++ more) ps
      (subst (λ n. Behind ScriptMethod n f.methods (methods_from (listed ++ more) after)) (not_counted is_method_tree before tree refl)
      (subst (Behind ScriptMethod (length (filter is_method_tree before)) f.methods) (methods_of_fields E all class_of first (access_of a) y ns listed after) ms))
      (subst (λ n. Behind ScriptConstructor n f.constructors (constructors_from (listed ++ more) after)) (not_counted is_constructor_tree before tree refl)
      (subst (Behind ScriptConstructor (length (filter is_constructor_tree before)) f.constructors)
      (constructors_of_fields E all class_of first (access_of a) y ns listed after) ks))
      (subst (λ xs. AreNumbered V names total i g (j + length (with_bodies true xs)) ps) (sym (append_assoc listed more after)) h))
  members_numbered before (method a y z params constant attributes b ∷ rest) listed ps ms ks h =
      let tree = method a y z params constant attributes b in
      let new : ListedMember = record { name = z; access = access_of a; kind = member.Method y params.items (attributes_of constant attributes) } in
      let after = flat_map members_by rest in
      let n = length (filter is_method_tree before) in
      let k = length (with_bodies true listed) in (
        record {
          method = _;
          there = method_there n _ (next_item n f.methods _ (methods_from (listed ++ new ∷ []) after) ms);
          name = refl;
          place = refl;
          body = let same : length names.functions + j + k ≡ length names.functions + (j + k) = omega arith in ap Some same;
        },
        subst (λ q. AreNumbered V names total i g q (each_after (member_parts c text x bases) (before ++ tree ∷ []) rest ++ ps))
            (let one : k + 1 ≡ length (with_bodies true (listed ++ new ∷ [])) = counted (λ (m : ListedMember). has_body true m.kind) listed new refl in
            let same : j + length (with_bodies true (listed ++ new ∷ [])) ≡ j + k + 1 = omega arith in same)
            (members_numbered (before ++ tree ∷ []) rest (listed ++ new ∷ []) ps
            (subst (λ q. Behind ScriptMethod q f.methods (methods_from (listed ++ new ∷ []) after)) (counted is_method_tree before tree refl)
            (next_left n f.methods _ (methods_from (listed ++ new ∷ []) after) ms))
            (subst (λ q. Behind ScriptConstructor q f.constructors (constructors_from (listed ++ new ∷ []) after))
            (not_counted is_constructor_tree before tree refl) ks)
            (subst (λ xs. AreNumbered V names total i g (j + length (with_bodies true xs)) ps) (sym (append_assoc listed (new ∷ []) after)) h)),
      )
  members_numbered before (constructor z params left u ss right ∷ rest) listed ps ms ks h =
      let tree = constructor z params left u ss right in
      let new : ListedMember = record { name = z; access = access.Public; kind = member.Constructor params.items } in
      let after = flat_map members_by rest in
      let n = length (filter is_constructor_tree before) in
      let k = length (with_bodies true listed) in (
        record {
          constructor = _;
          there = constructor_there n _ (next_item n f.constructors _ (constructors_from (listed ++ new ∷ []) after) ks);
          name = refl;
          place = refl;
          body = let same : length names.functions + j + k ≡ length names.functions + (j + k) = omega arith in same;
        },
        subst (λ q. AreNumbered V names total i g q (each_after (member_parts c text x bases) (before ++ tree ∷ []) rest ++ ps))
            (let one : k + 1 ≡ length (with_bodies true (listed ++ new ∷ [])) = counted (λ (m : ListedMember). has_body true m.kind) listed new refl in
            let same : j + length (with_bodies true (listed ++ new ∷ [])) ≡ j + k + 1 = omega arith in same)
            (members_numbered (before ++ tree ∷ []) rest (listed ++ new ∷ []) ps
            (subst (λ q. Behind ScriptMethod q f.methods (methods_from (listed ++ new ∷ []) after)) (not_counted is_method_tree before tree refl) ms)
            (subst (λ q. Behind ScriptConstructor q f.constructors (constructors_from (listed ++ new ∷ []) after)) (counted is_constructor_tree before tree refl)
            (next_left n f.constructors _ (constructors_from (listed ++ new ∷ []) after) ks))
            (subst (λ xs. AreNumbered V names total i g (j + length (with_bodies true xs)) ps) (sym (append_assoc listed (new ∷ []) after)) h)),
      )

  -- a class without a constructor has none
  no_constructors : (trees : List MemberTree) (listed : List ListedMember) → list_any is_constructor_tree trees ≡ false
      → constructors_from listed (flat_map members_by trees) ≡ []
  no_constructors [] listed e = refl
  no_constructors (fields a y ns semicolon ∷ rest) listed e =
      constructors_of_fields E all class_of first (access_of a) y ns listed (flat_map members_by rest)
      ∙ no_constructors rest (listed ++ map (field_as (access_of a) y) ns) e
  no_constructors (method a y z params constant attributes b ∷ rest) listed e =
      no_constructors rest
      (listed ++ record { name = z; access = access_of a; kind = member.Method y params.items (attributes_of constant attributes) } ∷ []) e
  no_constructors (constructor z params left u ss right ∷ rest) listed e = cc

  -- All these parts are among others.
  methods_written : (parts : List Part) (before rest : List MemberTree) (listed : List ListedMember)
      → IsIn Part (each_after (member_parts c text x bases) before rest) parts
      → EachFrom (IsMethodWritten parts c) (length (filter is_method_tree before)) (methods_from listed (flat_map members_by rest))
  methods_written parts before [] listed inside = tt
  methods_written parts before (fields a y ns semicolon ∷ rest) listed inside =
      let more = map (field_as (access_of a) y) ns in
      subst (EachFrom (IsMethodWritten parts c) (length (filter is_method_tree before)))
      (sym (methods_of_fields E all class_of first (access_of a) y ns listed (flat_map members_by rest)))
      (subst (λ n. EachFrom (IsMethodWritten parts c) n (methods_from (listed ++ more) (flat_map members_by rest)))
      (sym (not_counted is_method_tree before (fields a y ns semicolon) refl))
      (methods_written parts (before ++ fields a y ns semicolon ∷ []) rest (listed ++ more) inside))
  methods_written parts before (method a y z params constant attributes b ∷ rest) listed inside =
      let tree = method a y z params constant attributes b in
      let new : ListedMember = record { name = z; access = access_of a; kind = member.Method y params.items (attributes_of constant attributes) } in (
        λ k e. record { text = text; name = z; tree = b; written = inside _ (has_first _ _) },
        subst (λ n. EachFrom (IsMethodWritten parts c) n (methods_from (listed ++ new ∷ []) (flat_map members_by rest)))
            (sym (counted is_method_tree before tree refl))
            (methods_written parts (before ++ tree ∷ []) rest (listed ++ new ∷ []) (λ p h. inside p (has_later _ _ p h))),
      )
  methods_written parts before (constructor z params left u ss right ∷ rest) listed inside =
      let tree = constructor z params left u ss right in
      let new : ListedMember = record { name = z; access = access.Public; kind = member.Constructor params.items } in
      subst (λ n. EachFrom (IsMethodWritten parts c) n (methods_from (listed ++ new ∷ []) (flat_map members_by rest)))
      (sym (not_counted is_method_tree before tree refl))
      (methods_written parts (before ++ tree ∷ []) rest (listed ++ new ∷ []) (λ p h. inside p (has_later _ _ p h)))

  constructors_written : (parts : List Part) (before rest : List MemberTree) (listed : List ListedMember)
      → IsIn Part (each_after (member_parts c text x bases) before rest) parts
      → EachFrom (IsConstructorWritten parts c) (length (filter is_constructor_tree before)) (constructors_from listed (flat_map members_by rest))
  constructors_written parts before [] listed inside = tt
  constructors_written parts before (fields a y ns semicolon ∷ rest) listed inside =
      let more = map (field_as (access_of a) y) ns in
      subst (EachFrom (IsConstructorWritten parts c) (length (filter is_constructor_tree before)))
      (sym (constructors_of_fields E all class_of first (access_of a) y ns listed (flat_map members_by rest)))
      (subst (λ n. EachFrom (IsConstructorWritten parts c) n (constructors_from (listed ++ more) (flat_map members_by rest)))
      (sym (not_counted is_constructor_tree before (fields a y ns semicolon) refl))
      (constructors_written parts (before ++ fields a y ns semicolon ∷ []) rest (listed ++ more) inside))
  constructors_written parts before (method a y z params constant attributes b ∷ rest) listed inside =
      let tree = method a y z params constant attributes b in
      let new : ListedMember = record { name = z; access = access_of a; kind = member.Method y params.items (attributes_of constant attributes) } in
      subst (λ n. EachFrom (IsConstructorWritten parts c) n (constructors_from (listed ++ new ∷ []) (flat_map members_by rest)))
      (sym (not_counted is_constructor_tree before tree refl))
      (constructors_written parts (before ++ tree ∷ []) rest (listed ++ new ∷ []) (λ p h. inside p (has_later _ _ p h)))
  constructors_written parts before (constructor z params left u ss right ∷ rest) listed inside =
      let tree = constructor z params left u ss right in
      let new : ListedMember = record { name = z; access = access.Public; kind = member.Constructor params.items } in (
        record { text = text; name = z; own = x; bases = bases; super = u; tree = ss; close = right; written = inside _ (has_first _ _) },
        subst (λ n. EachFrom (IsConstructorWritten parts c) n (constructors_from (listed ++ new ∷ []) (flat_map members_by rest)))
            (sym (counted is_constructor_tree before tree refl))
            (constructors_written parts (before ++ tree ∷ []) rest (listed ++ new ∷ []) (λ p h. inside p (has_later _ _ p h))),
      )

  -- the parts of the class, in front of others
  default_numbered : (b : Bool) (ps : List Part) → list_any is_constructor_tree members ≡ b → f.is_class ≡ true
      → f.constructors ≡ constructors_from [] (flat_map members_by members) → f.place ≡ x.place → AreNumbered V names total i g j ps
      → AreNumbered V names total i g j ((if b then [] else a_default c text x bases ∷ []) ++ ps)
  default_numbered true ps e is_class made place h = h
  default_numbered false ps e is_class made place h = ((f, there, is_class, made ∙ no_constructors members [] e, place), h)

  pub class_numbered : (ps : List Part) → f.is_class ≡ true → f.methods ≡ methods_from [] (flat_map members_by members)
      → f.constructors ≡ constructors_from [] (flat_map members_by members) → f.place ≡ x.place
      → AreNumbered V names total i g (j + length (with_bodies true (flat_map members_by members))) ps
      → AreNumbered V names total i g j (class_parts c text x bases members ++ ps)
  class_numbered ps is_class methods made place h =
      let none : j + length (with_bodies true []) ≡ j = omega arith in
      let inner : AreNumbered V names total i g j (each_after (member_parts c text x bases) [] members ++ ps) =
      subst (λ n. AreNumbered V names total i g n (each_after (member_parts c text x bases) [] members ++ ps)) none
      (members_numbered [] members [] ps (subst (Behind ScriptMethod 0 f.methods) methods (all_left f.methods))
      (subst (Behind ScriptConstructor 0 f.constructors) made (all_left f.constructors)) h) in
      subst (AreNumbered V names total i g j) (sym (append_assoc (default_parts c text x bases members) (each_after (member_parts c text x bases) [] members) ps))
      (default_numbered (list_any is_constructor_tree members) _ refl is_class made place inner)

  pub class_written : (parts : List Part) → IsIn Part (class_parts c text x bases members) parts
      → EachFrom (IsMethodWritten parts c) 0 (methods_from [] (flat_map members_by members))
      × EachFrom (IsConstructorWritten parts c) 0 (constructors_from [] (flat_map members_by members))
  class_written parts inside =
      let among : IsIn Part (each_after (member_parts c text x bases) [] members) parts =
      λ p h. inside p (Contains-append_right (default_parts c text x bases members) (each_after (member_parts c text x bases) [] members) p h) in
      (methods_written parts [] members [] among, constructors_written parts [] members [] among)

-- ---- an interface, whose methods have no bodies

module _ (E : Space) (all : List (ScriptFunction × Bool)) (origin : Origin) (text : List ℕ) (x : Token) (bases : List BaseName)
    (methods : List MethodTree) (first : ℕ) where
  abbrev pub interface_of : Declaring
  interface_of = record { origin = origin; text = text; name = x; shape = interface_shape bases methods }

  pub interface_methods : (parts : List Part) (c n : ℕ) (listed : List ListedMember) (trees : List MethodTree)
      → EachFrom (IsMethodWritten parts c) n (each_after (methods_after E all interface_of first) listed (map member_of trees))
  interface_methods parts c n listed [] = tt
  interface_methods parts c n listed (m ∷ trees) = (λ k e. cc, interface_methods parts c (n + 1) (listed ++ member_of m ∷ []) trees)

  pub interface_constructors : (listed : List ListedMember) (trees : List MethodTree)
      → each_after (constructors_after E interface_of first) listed (map member_of trees) ≡ []
  interface_constructors listed [] = refl
  interface_constructors listed (m ∷ trees) = interface_constructors (listed ++ member_of m ∷ []) trees

pub interface_bodies : (trees : List MethodTree) → length (with_bodies false (map member_of trees)) ≡ 0
interface_bodies [] = refl
interface_bodies (m ∷ trees) = interface_bodies trees
