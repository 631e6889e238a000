-- The names that a section declares stand at its tokens, and so do the statements of its bodies.
use Rattle.std.specs.Prelude.{◌≡◌, ℕ, ◌+◌, Bool, true, false, if◌then◌else◌, ◌<◌, Contains, List, [], ◌∷◌, ◌++◌, map, Option, Some, None, slice_get}
use Rattle.std.specs.List.{list_any}
use Rattle.std.proofs.Common.{ap, sym, ◌∙◌, subst}
use Rattle.std.proofs.lemmas.List.{length-map, get_or-map}
use Rattle.std.proofs.lemmas.Option.{slice_get_within, get_or_from_slice_get}
use Rattle.ang_kinds.specs.declared.position.Position.{Position}
use Rattle.ang_lex.specs.declared.token.Token.{Token}
use Rattle.ang_tree.specs.declared.type_name.TypeName.{TypeName}
use Rattle.ang_tree.specs.declared.declaration.Parameter.{Parameter}
use Rattle.ang_tree.specs.declared.declaration.Reference.{Reference}
use Rattle.ang_tree.specs.declared.declaration.BaseName.{BaseName}
use Rattle.ang_tree.specs.declared.declaration.FieldName.{FieldName}
use Rattle.ang_tree.specs.Kinds.{optional}
use Rattle.ang_tree.specs.TypeNames.{spelled_type}
use Rattle.ang_tree.specs.Stmt.{Var, each, Every, spelled_init, spelled_var, spelled_body, spelled_stmts}
use Rattle.ang_tree.specs.Declarations.{Params, SuperTree, MemberTree, fields, method, constructor, MethodTree, Decl, class, interface, import, function, globals, empty, spelled_reference, spelled_param, spelled_params, spelled_super, spelled_field, spelled_word, spelled_member, spelled_method, spelled_base, spelled_decl}
use Rattle.ang_names_known.specs.Items.{each_after}
use Rattle.ang_names_listed.specs.Sources.{Source}
use Rattle.ang_names_listed.specs.declared.listed.ListedDeclaration.{ListedDeclaration}
use Rattle.ang_names_listed.specs.Declarations.{globals_from, declared_at, declarations_of}
use Rattle.ang_check_stmt.specs.Positions.{token_position, positions_of, inner_positions}
use Rattle.ang_check.specs.Positions.{base_positions, constructor_positions}
use Rattle.ang_check.specs.Bodies.{Part, a_function, a_global, a_method, a_constructor, a_default, InSection, initializer_parts, is_constructor_tree, member_parts, declaration_parts, in_sections, parts_of}
use Rattle.ang_check_sound.specs.Placed.{tokens_in, StandsIn}
use Rattle.ang_check_sound.proofs.Declared.{Declare, all_declared}
use Rattle.ang_check_sound.proofs.Items.{every_joined, every_placed}
use Rattle.ang_check_sound.proofs.Places.{Behind, all_left, next_item, next_left, all_of_each}
use Rattle.ang_check_sound.proofs.PlacesTrees.{optional_rest, each_rest, type_rest, arguments_rest, var_rest, vars_rest, block_rest, statements_rest, statements_stand, inner_stand}

-- ---- what follows a declaration

-- Of any tokens:
module _ (Q : Token → Type 0) where
  reference_rest : (r : Option Reference) (after : List Token) → Every Q (spelled_reference r after) → Every Q after
  reference_rest None after h = h
  reference_rest (Some r) after h = optional_rest Q r.direction after h.1

  param_rest : (p : Parameter) (after : List Token) → Every Q (spelled_param p after) → Every Q after
  param_rest p after h =
      let named = optional p.name after in
      let referred = spelled_reference p.reference named in
      optional_rest Q p.name after
      (reference_rest p.reference named (type_rest Q p.declared_type referred (optional_rest Q p.comma (spelled_type p.declared_type referred) h)))

  params_rest : (ps : Params) (after : List Token) → Every Q (spelled_params ps after) → Every Q after
  params_rest ps after h =
      let closed = ps.right ∷ after in
      (each_rest Q spelled_param param_rest ps.items closed (optional_rest Q ps.void_word (each spelled_param ps.items closed) h.1)).1

  super_rest : (u : Option SuperTree) (after : List Token) → Every Q (spelled_super u after) → Every Q after
  super_rest None after h = h
  super_rest (Some u) after h = (arguments_rest Q u.arguments (u.semicolon ∷ after) h.1).1

  field_rest : (f : FieldName) (after : List Token) → Every Q (spelled_field f after) → Every Q after
  field_rest f after h = (optional_rest Q f.comma (f.name ∷ after) h).1

  word_rest : (t : Token) (after : List Token) → Every Q (spelled_word t after) → Every Q after
  word_rest t after h = h.1

  -- a method from its name on, and from its body on
  method_name : (a : Option Token) (y : TypeName) (rest : List Token) → Every Q (optional a (spelled_type y rest)) → Every Q rest
  method_name a y rest h = type_rest Q y rest (optional_rest Q a (spelled_type y rest) h)

  method_block : (ps : Params) (constant : Option Token) (attributes : List Token) (rest : List Token)
      → Every Q (spelled_params ps (optional constant (each spelled_word attributes rest))) → Every Q rest
  method_block ps constant attributes rest h =
      each_rest Q spelled_word word_rest attributes rest
      (optional_rest Q constant (each spelled_word attributes rest) (params_rest ps (optional constant (each spelled_word attributes rest)) h))

  member_rest : (m : MemberTree) (after : List Token) → Every Q (spelled_member m after) → Every Q after
  member_rest (fields a y names semicolon) after h =
      (each_rest Q spelled_field field_rest names (semicolon ∷ after) (method_name a y (each spelled_field names (semicolon ∷ after)) h)).1
  member_rest (method a y x ps constant attributes b) after h =
      let named = x ∷ spelled_params ps (optional constant (each spelled_word attributes (spelled_body b after))) in
      block_rest Q b after (method_block ps constant attributes (spelled_body b after) (method_name a y named h).1)
  member_rest (constructor x ps left u ss right) after h =
      let inside = spelled_stmts ss (right ∷ after) in
      (statements_rest Q ss (right ∷ after) (super_rest u inside (params_rest ps (left ∷ spelled_super u inside) h.1).1)).1

  interface_method_rest : (m : MethodTree) (after : List Token) → Every Q (spelled_method m after) → Every Q after
  interface_method_rest m after h =
      let last = optional m.constant (m.semicolon ∷ after) in
      (optional_rest Q m.constant (m.semicolon ∷ after)
      (params_rest m.parameters last (type_rest Q m.result_type (m.name ∷ spelled_params m.parameters last) h).1)).1

  base_rest : (b : BaseName) (after : List Token) → Every Q (spelled_base b after) → Every Q after
  base_rest b after h = h.1.1

  -- the name of a class, and its members
  class_name : (final : Option Token) (word : Token) (rest : List Token) → Every Q (optional final (word ∷ rest)) → Every Q rest
  class_name final word rest h = (optional_rest Q final (word ∷ rest) h).1

  class_members : (bases : List BaseName) (left : Token) (rest : List Token) → Every Q (each spelled_base bases (left ∷ rest)) → Every Q rest
  class_members bases left rest h = (each_rest Q spelled_base base_rest bases (left ∷ rest) h).1

  pub decl_rest : (d : Decl) (after : List Token) → Every Q (spelled_decl d after) → Every Q after
  decl_rest (class final word x bases left members right) after h =
      let inside = each spelled_member members (right ∷ after) in
      (each_rest Q spelled_member member_rest members (right ∷ after)
      (class_members bases left inside (class_name final word (x ∷ each spelled_base bases (left ∷ inside)) h).1)).1
  decl_rest (interface word x bases left methods right) after h =
      (each_rest Q spelled_method interface_method_rest methods (right ∷ after)
      (class_members bases left (each spelled_method methods (right ∷ after)) h.1.1)).1
  decl_rest (import word y x ps from text semicolon) after h =
      let last = from ∷ text ∷ semicolon ∷ after in
      (params_rest ps last (type_rest Q y (x ∷ spelled_params ps last) h.1).1).1.1.1
  decl_rest (function y x ps b) after h =
      block_rest Q b after (params_rest ps (spelled_body b after) (type_rest Q y (x ∷ spelled_params ps (spelled_body b after)) h).1)
  decl_rest (globals vs) after h = vars_rest Q vs after h
  decl_rest (empty semicolon) after h = h.1

-- ---- what stands in a section

-- what has an item has what it gives
contains_mapped : {A B : Type 0} (f : A → B) (xs : List A) (x : A) → Contains xs x → Contains (map f xs) (f x)
contains_mapped f xs x c = (c.0, subst (λ n. c.0 < n) (sym (length-map xs f)) c.1, get_or-map f xs c.0 x (f x) c.1 ∙ ap f c.2)

pub each_is : {A : Type 0} (P : A → Type 0) (xs : List A) (x : A) → Every P xs → Contains xs x → P x
each_is P xs x h c = subst P c.2 (all_of_each P xs h c.0 x c.1)

contains_itself : {A : Type 0} (xs : List A) → Every (Contains xs) xs
contains_itself xs = every_placed (Contains xs) xs (λ i a e. (i, slice_get_within xs i a e, get_or_from_slice_get xs i a a e))

-- Over these sections:
module _ (sources : List Source) where
  -- The name of a part stands in one, with the statements of its body. A constructor's are told with those of the base class's call, if there
  -- is one.
  abbrev pub PartStands : Part → Type 0
  PartStands (a_function n text x b) = StandsIn sources x.place (inner_positions b)
  PartStands (a_global n text y i) = Unit {0}
  PartStands (a_method c m text x b) = StandsIn sources x.place (inner_positions b)
  PartStands (a_constructor c m text x own bases u ss close) = (base : Option ℕ) → StandsIn sources x.place (constructor_positions base x u ss close)
  PartStands (a_default c text x bases) = Unit {0}

  abbrev pub NameStands : ListedDeclaration → Type 0
  NameStands d = StandsIn sources d.name.place []

  -- In one of them:
  module _ (number : ℕ) (source : Source) (there : slice_get sources number ≡ Some source) where
    abbrev Q : Token → Type 0
    Q = Contains (tokens_in source)

    abbrev R : Position → Type 0
    R = Contains (map token_position (tokens_in source))

    at : (t : Token) → Contains (tokens_in source) t → Contains (map token_position (tokens_in source)) (token_position t)
    at t h = contains_mapped token_position (tokens_in source) t h

    stands : (x : Token) (qs : List Position) → Contains (tokens_in source) x → Every (Contains (map token_position (tokens_in source))) qs
        → StandsIn sources x.place qs
    stands x qs h hs = record {
      number = number;
      source = source;
      there = there;
      among = record {
        name_is = contains_mapped (λ (t : Token). t.place) (tokens_in source) x h;
        statements_are = λ q c. each_is R qs q hs c;
      };
    }

    base_stands : (base : Option ℕ) (x : Token) (u : Option SuperTree) (rest : List Token) → Q x → Every Q (spelled_super u rest)
        → Every R (base_positions base x u)
    base_stands None x u rest own h = tt
    base_stands (Some k) x None rest own h = (at x own, tt)
    base_stands (Some k) x (Some u) rest own h = (at u.word h.0, tt)

    member_stands : (c : ℕ) (text : List ℕ) (own : Token) (bases : List BaseName) (before : List MemberTree) (m : MemberTree) (after : List Token)
        → Every Q (spelled_member m after) → Every PartStands (member_parts c text own bases before m)
    member_stands c text own bases before (fields a y names semicolon) after h = tt
    member_stands c text own bases before (method a y x ps constant attributes b) after h =
        let named = method_name Q a y (x ∷ spelled_params ps (optional constant (each spelled_word attributes (spelled_body b after)))) h in
        let inside = method_block Q ps constant attributes (spelled_body b after) named.1 in
        (stands x (inner_positions b) named.0 (inner_stand Q R at b after inside), tt)
    member_stands c text own bases before (constructor x ps left u ss right) after h =
        let body = spelled_stmts ss (right ∷ after) in
        let inside = (params_rest Q ps (left ∷ spelled_super u body) h.1).1 in
        let statements = super_rest Q u body inside in (
          λ base.
              stands x (constructor_positions base x u ss right) h.0
              (every_joined R (base_positions base x u ++ positions_of ss) (token_position right ∷ [])
              (every_joined R (base_positions base x u) (positions_of ss) (base_stands base x u body h.0 inside)
              (statements_stand Q R at ss (right ∷ after) statements))
              (at right (statements_rest Q ss (right ∷ after) statements).0, tt)),
          tt,
        )

    members_stand : (c : ℕ) (text : List ℕ) (own : Token) (bases : List BaseName) (before ms : List MemberTree) (after : List Token)
        → Every Q (each spelled_member ms after) → Every PartStands (each_after (member_parts c text own bases) before ms)
    members_stand c text own bases before [] after h = tt
    members_stand c text own bases before (m ∷ ms) after h =
        every_joined PartStands (member_parts c text own bases before m) (each_after (member_parts c text own bases) (before ++ m ∷ []) ms)
        (member_stands c text own bases before m (each spelled_member ms after) h)
        (members_stand c text own bases (before ++ m ∷ []) ms after (member_rest Q m (each spelled_member ms after) h))

    default_stands : (b : Bool) (c : ℕ) (text : List ℕ) (x : Token) (bases : List BaseName)
        → Every PartStands (if b then [] else a_default c text x bases ∷ [])
    default_stands true c text x bases = tt
    default_stands false c text x bases = (tt, tt)

    initializers_stand : (first : ℕ) (text : List ℕ) (y : TypeName) (before vs : List Var)
        → Every PartStands (each_after (initializer_parts first text y) before vs)
    initializers_stand first text y before [] = tt
    initializers_stand first text y before (v ∷ vs) = (tt, initializers_stand first text y (before ++ v ∷ []) vs)

    pub declaration_stands : (before : List InSection) (text : List ℕ) (d : Decl) (after : List Token) → Every (Contains (tokens_in source)) (spelled_decl d after)
        → Every PartStands (declaration_parts before (text, d))
    declaration_stands before text (class final word x bases left members right) after h =
        let inside = each spelled_member members (right ∷ after) in
        every_joined PartStands (if list_any is_constructor_tree members then [] else a_default _ text x bases ∷ [])
        (each_after (member_parts _ text x bases) [] members) (default_stands (list_any is_constructor_tree members) _ text x bases)
        (members_stand _ text x bases [] members (right ∷ after)
        (class_members Q bases left inside (class_name Q final word (x ∷ each spelled_base bases (left ∷ inside)) h).1))
    declaration_stands before text (interface word x bases left methods right) after h = tt
    declaration_stands before text (import word y x ps from name semicolon) after h = tt
    declaration_stands before text (function y x ps b) after h =
        let named = type_rest Q y (x ∷ spelled_params ps (spelled_body b after)) h in
        (stands x (inner_positions b) named.0 (inner_stand Q R at b after (params_rest Q ps (spelled_body b after) named.1)), tt)
    declaration_stands before text (globals vs) after h = initializers_stand _ text vs.declared_type [] vs.items
    declaration_stands before text (empty semicolon) after h = tt

    variables_stand : (script : ℕ) (text : List ℕ) (n : ℕ) (y : TypeName) (i : ℕ) (vs : List Var) (after : List Token)
        → Every Q (each spelled_var vs after) → Every NameStands (globals_from script text n y i vs)
    variables_stand script text n y i [] after h = tt
    variables_stand script text n y i (v ∷ vs) after h = (
      stands v.name [] (optional_rest Q v.comma (v.name ∷ spelled_init v.initializer (each spelled_var vs after)) h).0 tt,
      variables_stand script text n y (i + 1) vs after (var_rest Q v (each spelled_var vs after) h),
    )

    pub names_of_declaration : (script : ℕ) (text : List ℕ) (n : ℕ) (d : Decl) (after : List Token) → Every (Contains (tokens_in source)) (spelled_decl d after)
        → Every NameStands (declared_at script text n d)
    names_of_declaration script text n (class final word x bases left members right) after h =
        let rest = each spelled_base bases (left ∷ each spelled_member members (right ∷ after)) in
        (stands x [] (class_name Q final word (x ∷ rest) h).0 tt, tt)
    names_of_declaration script text n (interface word x bases left methods right) after h = (stands x [] h.1.0 tt, tt)
    names_of_declaration script text n (import word y x ps from name semicolon) after h =
        (stands x [] (type_rest Q y (x ∷ spelled_params ps (from ∷ name ∷ semicolon ∷ after)) h.1).0 tt, tt)
    names_of_declaration script text n (function y x ps b) after h =
        (stands x [] (type_rest Q y (x ∷ spelled_params ps (spelled_body b after)) h).0 tt, tt)
    names_of_declaration script text n (globals vs) after h =
        let items = each spelled_var vs.items (vs.semicolon ∷ after) in
        variables_stand script text n vs.declared_type 0 vs.items (vs.semicolon ∷ after) (type_rest Q vs.declared_type items h)
    names_of_declaration script text n (empty semicolon) after h = tt

  -- ---- all of them

  -- the tokens of a declaration are of one section
  record IsWritten (x : InSection) : Type 0 where
    number : ℕ
    source : Source
    there : slice_get sources number ≡ Some source
    after : List Token
    tokens : Every (Contains (tokens_in source)) (spelled_decl x.1 after)

  section_written : (number : ℕ) (source : Source) → slice_get sources number ≡ Some source → (text : List ℕ) (ds : List Decl) (others : List InSection)
      → Every (Contains (tokens_in source)) (each spelled_decl ds []) → Every IsWritten others → Every IsWritten (map (λ d. (text, d)) ds ++ others)
  section_written number source there text [] others h rest = rest
  section_written number source there text (d ∷ ds) others h rest = (
    record { number = number; source = source; there = there; after = each spelled_decl ds []; tokens = h },
    section_written number source there text ds others (decl_rest (Contains (tokens_in source)) d (each spelled_decl ds []) h) rest,
  )

  sections_written : (number : ℕ) (xs : List Source) → Behind Source number sources xs → Every IsWritten (in_sections xs)
  sections_written number [] b = tt
  sections_written number (x ∷ xs) b =
      section_written number x (next_item number sources x xs b) x.text x.declarations (in_sections xs) (contains_itself (tokens_in x))
      (sections_written (number + 1) xs (next_left number sources x xs b))

  each_part : (before xs : List InSection) → Every IsWritten xs → Every PartStands (each_after declaration_parts before xs)
  each_part before [] h = tt
  each_part before (x ∷ xs) h =
      every_joined PartStands (declaration_parts before x) (each_after declaration_parts (before ++ x ∷ []) xs)
      (declaration_stands h.0.number h.0.source h.0.there before x.0 x.1 h.0.after h.0.tokens) (each_part (before ++ x ∷ []) xs h.1)

  each_name : (xs : List InSection) (ds : List ListedDeclaration) → Every IsWritten xs → Declare xs ds → Every NameStands ds
  each_name [] ds h d = subst (λ (es : List ListedDeclaration). Every NameStands es) (sym d) tt
  each_name (x ∷ xs) ds h d =
      subst (λ (es : List ListedDeclaration). Every NameStands es) (sym d.3)
      (every_joined NameStands (declared_at d.0 x.0 d.1 x.1) d.2
      (names_of_declaration h.0.number h.0.source h.0.there d.0 x.0 d.1 x.1 h.0.after h.0.tokens) (each_name xs d.2 h.1 d.4))

  -- each part stands in its section
  pub parts_stand : Every PartStands (parts_of sources)
  unfolding parts_of
  parts_stand = each_part [] (in_sections sources) (sections_written 0 sources (all_left sources))

  -- and so does each name
  pub names_stand : Every NameStands (declarations_of sources)
  names_stand = each_name (in_sections sources) (declarations_of sources) (sections_written 0 sources (all_left sources)) (all_declared sources)
