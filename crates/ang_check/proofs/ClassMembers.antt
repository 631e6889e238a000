-- Members that were judged.
use Rattle.std.proofs.Common.{◌≡◌, ◌<◌, ◌≤◌, ◌+◌, refl, ap, sym, ◌∙◌, ℕ, Bool, true, false, arith, List, [], ◌∷◌, ◌++◌, append_assoc, append-nil, length, get_or, drop, take, subst, Option, Some, None, map as list_map}
use Rattle.std.specs.Prelude.{filter, slice_get, if◌then◌else◌, option_and_then}
use Rattle.std.specs.List.{flat_map, list_any}
use Rattle.std.proofs.lemmas.Grind.{flat_map-append}
use Rattle.std.proofs.lemmas.List.{length-append}
use Rattle.std.proofs.lemmas.List.Elements.{filter-append}
use Rattle.ang_view.specs.Registration.{RegistrationList}
use Rattle.ang_lex.specs.declared.token.Token.{Token}
use Rattle.ang_tree.specs.declared.declaration.BaseName.{BaseName}
use Rattle.ang_tree.specs.declared.declaration.FieldName.{FieldName}
use Rattle.ang_tree.specs.declared.type_name.TypeName.{TypeName}
use Rattle.ang_tree.specs.Declarations.{Params, MemberTree, SuperTree, fields, method, constructor}
use Rattle.ang_tree.specs.Stmt.{Body, Stmts}
use Rattle.ang_names_known.specs.declared.names.ScriptConstructor.{ScriptConstructor}
use Rattle.ang_names_known.specs.declared.names.Family.{Family}
use Rattle.ang_names_known.specs.declared.names.ScriptMethod.{ScriptMethod}
use Rattle.ang_names_known.specs.declared.names.Names.{Names}
use Rattle.ang_names_known.specs.Items.{each_after}
use Rattle.ang_check_context.specs.Scope.{BodyContext}
use Rattle.ang_check_context.specs.declared.scope.Within.{Within}
use Rattle.ang_check.specs.declared.found.Found.{Found}
use Rattle.ang_check.specs.declared.members.MembersLeft.{MembersLeft}
use Rattle.ang_check.specs.declared.members.OfClass.{OfClass}
use Rattle.ang_check.specs.Typing.{method_body_typing, constructor_typing, implicit_super}
use Rattle.ang_check.specs.Bodies.{Judgement, of_member, of_default, a_method, a_constructor, a_default, context_in, within_of, base_of, base_name, method_at, constructor_at, is_method_tree, is_constructor_tree, member_parts, class_parts, judged, judged_method, judged_constructor}
use Rattle.ang_check.specs.Judging.{Noted, Adds, IsMemberLeft, IsOf, JudgesMembers, default_parts}
use Rattle.ang_check.proofs.Lists.{each_on, first_left, rest_left, none_left, still_none, map_turn, map_all}
use Rattle.ang_check.proofs.JudgedParts.{adds_none, adds_on, adds_noted}

-- the same judgements in other words
adds_same : (a b : Found) (js ks : List Judgement) → ks ≡ js → Adds a b js → Adds a b ks
adds_same a b js ks e f = subst (λ xs. Adds a b xs) (sym e) f

-- how many of a kind stand before, with one more
one_more : (p : MemberTree → Bool) (before : List MemberTree) (m : MemberTree) (n : ℕ) → length (filter p (m ∷ [])) ≡ n
    → length (filter p (before ++ m ∷ [])) ≡ length (filter p before) + n
one_more p before m n e =
    ap length (filter-append p before (m ∷ [])) ∙ length-append (filter p before) (filter p (m ∷ [])) ∙ ap (λ k. length (filter p before) + k) e

none_more : (p : MemberTree → Bool) (before : List MemberTree) (m : MemberTree) → length (filter p (m ∷ [])) ≡ 0
    → length (filter p (before ++ m ∷ [])) ≡ length (filter p before)
none_more p before m e = omega (arith, one_more p before m 0 e)

module _ (V : RegistrationList) (names : Names) where
  pub members_none : (class : OfClass) (f : Family) (own : Token) (bases : List BaseName) (l : MembersLeft) (a : Found) → JudgesMembers V names class f own bases l l a a []
  members_none class f own bases l a = record {
    left = λ before h. subst (λ b. IsMemberLeft f l b) (sym (append-nil before)) h;
    added = λ before h. adds_none a;
  }

  members_more : (class : OfClass) (f : Family) (own : Token) (bases : List BaseName) (l m k : MembersLeft) (a b c : Found) (first more : List MemberTree)
      → JudgesMembers V names class f own bases l m a b first → JudgesMembers V names class f own bases m k b c more
      → JudgesMembers V names class f own bases l k a c (first ++ more)
  members_more class f own bases l m k a b c first more g h =
      let parts = member_parts class.number class.text.now own bases in record {
        left = λ before e. subst (λ x. IsMemberLeft f k x) (append_assoc before first more) (h.left (before ++ first) (g.left before e));
        added = λ before e.
            let js = flat_map (judged V names) (each_after parts before first) in
            let ks = flat_map (judged V names) (each_after parts (before ++ first) more) in
            adds_same a c (js ++ ks) (flat_map (judged V names) (each_after parts before (first ++ more)))
            (ap (flat_map (judged V names)) (each_on parts before first more)
            ∙ flat_map-append (judged V names) (each_after parts before first) (each_after parts (before ++ first) more))
            (adds_on a b c js ks (g.added before e) (h.added (before ++ first) (g.left before e)));
      }

  -- one member more
  pub members_turn : {S : Type 0} (class : OfClass) (f : Family) (own : Token) (bases : List BaseName) (view : S → MemberTree) (ss : List S) (i : ℕ) (s : S)
      (l m k : MembersLeft) (a b c : Found) → JudgesMembers V names class f own bases l m a b (list_map view (take i ss))
      → i < length ss → s ≡ get_or ss i s → JudgesMembers V names class f own bases m k b c (view s ∷ [])
      → JudgesMembers V names class f own bases l k a c (list_map view (take (i + 1) ss))
  members_turn class f own bases view ss i s l m k a b c g lt is h =
      subst (λ ms. JudgesMembers V names class f own bases l k a c ms) (sym (map_turn view ss i s lt is))
      (members_more class f own bases l m k a b c (list_map view (take i ss)) (view s ∷ []) g h)

  pub members_all : {S : Type 0} (class : OfClass) (f : Family) (own : Token) (bases : List BaseName) (view : S → MemberTree) (ss : List S) (i : ℕ)
      (l k : MembersLeft) (a b : Found) → JudgesMembers V names class f own bases l k a b (list_map view (take i ss)) → length ss ≤ i
      → JudgesMembers V names class f own bases l k a b (list_map view ss)
  members_all class f own bases view ss i l k a b g le =
      subst (λ ms. JudgesMembers V names class f own bases l k a b ms) (map_all view ss i le) g

  -- ---- one member

  member_judged : (class : OfClass) (f : Family) (own : Token) (bases : List BaseName) (l k : MembersLeft) (a b : Found) (m : MemberTree)
      → ((before : List MemberTree) → IsMemberLeft f l before → IsMemberLeft f k (before ++ m ∷ []))
      → ((before : List MemberTree) → IsMemberLeft f l before → Adds a b (flat_map (judged V names) (member_parts class.number class.text.now own bases before m)))
      → JudgesMembers V names class f own bases l k a b (m ∷ [])
  member_judged class f own bases l k a b m left added =
      let parts = member_parts class.number class.text.now own bases in record {
        left = left;
        added = λ before h. adds_same a b (flat_map (judged V names) (parts before m)) (flat_map (judged V names) (parts before m ++ []))
            (ap (flat_map (judged V names)) (append-nil (parts before m))) (added before h);
      }

  pub fields_judged : (class : OfClass) (f : Family) (own : Token) (bases : List BaseName) (l : MembersLeft) (a : Found)
      (access : Option Token) (y : TypeName) (xs : List FieldName) (semicolon : Token)
      → JudgesMembers V names class f own bases l l a a (fields access y xs semicolon ∷ [])
  fields_judged class f own bases l a access y xs semicolon =
      let m = fields access y xs semicolon in member_judged class f own bases l l a a m
      (λ before h. record {
        methods = h.methods ∙ ap (λ n. drop n f.methods) (sym (none_more is_method_tree before m refl));
        constructors = h.constructors ∙ ap (λ n. drop n f.constructors) (sym (none_more is_constructor_tree before m refl));
      })
      (λ before h. adds_none a)

  -- the method of a place in a family that is there
  method_found : (c m : ℕ) (f : Family) (o : Option ScriptMethod) → slice_get names.families c ≡ Some f → slice_get f.methods m ≡ o → method_at V names c m ≡ o
  method_found c m f o e h = ap (option_and_then (λ (g : Family). slice_get g.methods m)) e ∙ h

  constructor_found : (c m : ℕ) (f : Family) (o : Option ScriptConstructor) → slice_get names.families c ≡ Some f → slice_get f.constructors m ≡ o → constructor_at V names c m ≡ o
  constructor_found c m f o e h = ap (option_and_then (λ (g : Family). slice_get g.constructors m)) e ∙ h

  method_left : (f : Family) (l k : MembersLeft) (before : List MemberTree) (access : Option Token) (y : TypeName) (x : Token) (ps : Params) (constant : Option Token) (attributes : List Token) (b : Body)
      → k.methods.now ≡ drop (length (filter is_method_tree before) + 1) f.methods → k.constructors.now ≡ l.constructors.now
      → IsMemberLeft f l before → IsMemberLeft f k (before ++ method access y x ps constant attributes b ∷ [])
  method_left f l k before access y x ps constant attributes b methods constructors h =
      let m = method access y x ps constant attributes b in record {
        methods = methods ∙ ap (λ n. drop n f.methods) (sym (one_more is_method_tree before m 1 refl));
        constructors = constructors ∙ h.constructors ∙ ap (λ n. drop n f.constructors) (sym (none_more is_constructor_tree before m refl));
      }

  pub method_unknown : (class : OfClass) (f : Family) (own : Token) (bases : List BaseName) (l : MembersLeft) (a : Found)
      (access : Option Token) (y : TypeName) (x : Token) (ps : Params) (constant : Option Token) (attributes : List Token) (b : Body)
      → IsOf V names class f own bases → l.methods.now ≡ [] → JudgesMembers V names class f own bases l l a a (method access y x ps constant attributes b ∷ [])
  method_unknown class f own bases l a access y x ps constant attributes b is none =
      member_judged class f own bases l l a a (method access y x ps constant attributes b)
      (λ before h. method_left f l l before access y x ps constant attributes b (still_none f.methods l.methods.now (length (filter is_method_tree before)) none h.methods) refl h)
      (λ before h. let i = length (filter is_method_tree before) in
      adds_same a a [] (judged V names (a_method class.number i class.text.now x b) ++ [])
      (ap (λ o. judged_method V names class.number class.text.now x b o ++ [])
      (method_found class.number i f None is.family (none_left f.methods l.methods.now i none h.methods))) (adds_none a))

  pub method_judged : (class : OfClass) (f : Family) (own : Token) (bases : List BaseName) (l k : MembersLeft) (a c : Found) (m : ScriptMethod) (w : Within) (s : BodyContext)
      (access : Option Token) (y : TypeName) (x : Token) (ps : Params) (constant : Option Token) (attributes : List Token) (b : Body)
      → IsOf V names class f own bases → l.methods.now ≡ m ∷ k.methods.now → k.constructors.now ≡ l.constructors.now
      → w ≡ within_of V names class.number m.read_only → s ≡ context_in V names class.text.now (Some w)
      → Noted a c (of_member class.text.now (method_body_typing s w m.function x b))
      → JudgesMembers V names class f own bases l k a c (method access y x ps constant attributes b ∷ [])
  method_judged class f own bases l k a c m w s access y x ps constant attributes b is split constructors in_class in_context n =
      let v = within_of V names class.number m.read_only in
      let j : Judgement = of_member class.text.now (method_body_typing (context_in V names class.text.now (Some v)) v m.function x b) in
      let first : Noted a c (of_member class.text.now (method_body_typing (context_in V names class.text.now (Some w)) w m.function x b)) =
      subst (λ (q : BodyContext). Noted a c (of_member class.text.now (method_body_typing q w m.function x b))) in_context n in
      let noted : Noted a c j =
      subst (λ (q : Within). Noted a c (of_member class.text.now (method_body_typing (context_in V names class.text.now (Some q)) q m.function x b))) in_class first in
      member_judged class f own bases l k a c (method access y x ps constant attributes b)
      (λ before h. method_left f l k before access y x ps constant attributes b (rest_left f.methods l.methods.now k.methods.now m (length (filter is_method_tree before)) split h.methods) constructors h)
      (λ before h. let i = length (filter is_method_tree before) in
      adds_same a c (j ∷ []) (judged V names (a_method class.number i class.text.now x b) ++ [])
      (ap (λ o. judged_method V names class.number class.text.now x b o ++ [])
      (method_found class.number i f (Some m) is.family (first_left f.methods l.methods.now k.methods.now m i split h.methods))) (adds_noted a c j noted))

  constructor_left : (f : Family) (l k : MembersLeft) (before : List MemberTree) (x : Token) (ps : Params) (left : Token) (u : Option SuperTree) (ss : Stmts) (right : Token)
      → k.constructors.now ≡ drop (length (filter is_constructor_tree before) + 1) f.constructors → k.methods.now ≡ l.methods.now
      → IsMemberLeft f l before → IsMemberLeft f k (before ++ constructor x ps left u ss right ∷ [])
  constructor_left f l k before x ps left u ss right constructors methods h =
      let m = constructor x ps left u ss right in record {
        methods = methods ∙ h.methods ∙ ap (λ n. drop n f.methods) (sym (none_more is_method_tree before m refl));
        constructors = constructors ∙ ap (λ n. drop n f.constructors) (sym (one_more is_constructor_tree before m 1 refl));
      }

  pub constructor_unknown : (class : OfClass) (f : Family) (own : Token) (bases : List BaseName) (l : MembersLeft) (a : Found)
      (x : Token) (ps : Params) (left : Token) (u : Option SuperTree) (ss : Stmts) (right : Token)
      → IsOf V names class f own bases → l.constructors.now ≡ [] → JudgesMembers V names class f own bases l l a a (constructor x ps left u ss right ∷ [])
  constructor_unknown class f own bases l a x ps left u ss right is none =
      member_judged class f own bases l l a a (constructor x ps left u ss right)
      (λ before h. constructor_left f l l before x ps left u ss right (still_none f.constructors l.constructors.now (length (filter is_constructor_tree before)) none h.constructors) refl h)
      (λ before h. let i = length (filter is_constructor_tree before) in let c = class.number in
      adds_same a a [] (judged V names (a_constructor c i class.text.now x own bases u ss right) ++ [])
      (ap (λ o. judged_constructor V names c class.text.now x (base_name V names c class.text.now own bases) (base_of V names c) u ss right o ++ [])
      (constructor_found c i f None is.family (none_left f.constructors l.constructors.now i none h.constructors))) (adds_none a))

  pub constructor_judged : (class : OfClass) (f : Family) (own : Token) (bases : List BaseName) (l k : MembersLeft) (a c : Found) (m : ScriptConstructor) (w : Within) (s : BodyContext)
      (x : Token) (ps : Params) (left : Token) (u : Option SuperTree) (ss : Stmts) (right : Token)
      → IsOf V names class f own bases → l.constructors.now ≡ m ∷ k.constructors.now → k.methods.now ≡ l.methods.now
      → w ≡ within_of V names class.number false → s ≡ context_in V names class.text.now (Some w)
      → Noted a c (of_member class.text.now (constructor_typing s w m.function x class.base_name class.base u ss right))
      → JudgesMembers V names class f own bases l k a c (constructor x ps left u ss right ∷ [])
  constructor_judged class f own bases l k a c m w s x ps left u ss right is split methods in_class in_context n =
      let d = class.number in
      let v = within_of V names d false in
      let first : Noted a c (of_member class.text.now (constructor_typing (context_in V names class.text.now (Some w)) w m.function x class.base_name class.base u ss right)) =
      subst (λ (q : BodyContext). Noted a c (of_member class.text.now (constructor_typing q w m.function x class.base_name class.base u ss right))) in_context n in
      let second : Noted a c (of_member class.text.now (constructor_typing (context_in V names class.text.now (Some v)) v m.function x class.base_name class.base u ss right)) =
      subst (λ (q : Within). Noted a c (of_member class.text.now (constructor_typing (context_in V names class.text.now (Some q)) q m.function x class.base_name class.base u ss right))) in_class first in
      let third : Noted a c (of_member class.text.now (constructor_typing (context_in V names class.text.now (Some v)) v m.function x (base_name V names d class.text.now own bases) class.base u ss right)) =
      subst (λ (q : Token). Noted a c (of_member class.text.now (constructor_typing (context_in V names class.text.now (Some v)) v m.function x q class.base u ss right))) is.name second in
      let j : Judgement = of_member class.text.now (constructor_typing (context_in V names class.text.now (Some v)) v m.function x (base_name V names d class.text.now own bases) (base_of V names d) u ss right) in
      let noted : Noted a c j =
      subst (λ (q : Option ℕ). Noted a c (of_member class.text.now (constructor_typing (context_in V names class.text.now (Some v)) v m.function x (base_name V names d class.text.now own bases) q u ss right))) is.base third in
      member_judged class f own bases l k a c (constructor x ps left u ss right)
      (λ before h. constructor_left f l k before x ps left u ss right (rest_left f.constructors l.constructors.now k.constructors.now m (length (filter is_constructor_tree before)) split h.constructors) methods h)
      (λ before h. let i = length (filter is_constructor_tree before) in
      adds_same a c (j ∷ []) (judged V names (a_constructor d i class.text.now x own bases u ss right) ++ [])
      (ap (λ o. judged_constructor V names d class.text.now x (base_name V names d class.text.now own bases) (base_of V names d) u ss right o ++ [])
      (constructor_found d i f (Some m) is.family (first_left f.constructors l.constructors.now k.constructors.now m i split h.constructors))) (adds_noted a c j noted))

  -- ---- the whole class

  no_members_yet : (f : Family) (l : MembersLeft) → l.methods.now ≡ f.methods → l.constructors.now ≡ f.constructors → IsMemberLeft f l []
  no_members_yet f l methods constructors = record { methods = methods; constructors = constructors }

  -- the part of its own and then the members
  pub class_added : (class : OfClass) (n : ℕ) (text : List ℕ) (f : Family) (own : Token) (bases : List BaseName) (members : List MemberTree) (l k : MembersLeft) (a b c : Found)
      → class.number ≡ n → class.text.now ≡ text → class.base ≡ base_of V names n → class.base_name ≡ base_name V names n text own bases
      → l.methods.now ≡ f.methods → l.constructors.now ≡ f.constructors
      → ((g : Family) → IsOf V names class g own bases → Adds a b (flat_map (judged V names) (default_parts class.number class.text.now own bases members)))
      → ((g : Family) (o : Token) (bs : List BaseName) → IsOf V names class g o bs → JudgesMembers V names class g o bs l k b c members)
      → slice_get names.families n ≡ Some f → Adds a c (flat_map (judged V names) (class_parts n text own bases members))
  class_added class n text f own bases members l k a b c number in_text base name methods constructors default judged_members there =
      let of_it : IsOf V names class f own bases = record {
        family = ap (slice_get names.families) number ∙ there;
        base = base ∙ ap (base_of V names) (sym number);
        name = name ∙ ap (λ i. base_name V names i text own bases) (sym number) ∙ ap (λ t. base_name V names class.number t own bases) (sym in_text);
      } in
      let parts = member_parts class.number class.text.now own bases in
      let js = flat_map (judged V names) (default_parts class.number class.text.now own bases members) in
      let ks = flat_map (judged V names) (each_after parts [] members) in
      let both : Adds a c (js ++ ks) = adds_on a b c js ks (default f of_it) ((judged_members f own bases of_it).added [] (no_members_yet f l methods constructors)) in
      let whole : Adds a c (flat_map (judged V names) (class_parts class.number class.text.now own bases members)) =
      adds_same a c (js ++ ks) (flat_map (judged V names) (class_parts class.number class.text.now own bases members))
      (flat_map-append (judged V names) (default_parts class.number class.text.now own bases members) (each_after parts [] members)) both in
      subst (λ t. Adds a c (flat_map (judged V names) (class_parts n t own bases members))) in_text
      (subst (λ i. Adds a c (flat_map (judged V names) (class_parts i class.text.now own bases members))) number whole)

  -- the part of a class without a constructor
  pub default_added : (class : OfClass) (f : Family) (own : Token) (bases : List BaseName) (members : List MemberTree) (a b : Found)
      → list_any is_constructor_tree members ≡ false → IsOf V names class f own bases
      → Noted a b (of_default class.text.now (implicit_super names own.place class.base_name class.base))
      → Adds a b (flat_map (judged V names) (default_parts class.number class.text.now own bases members))
  default_added class f own bases members a b none is n =
      let c = class.number in
      let first : Noted a b (of_default class.text.now (implicit_super names own.place (base_name V names c class.text.now own bases) class.base)) =
      subst (λ (q : Token). Noted a b (of_default class.text.now (implicit_super names own.place q class.base))) is.name n in
      let j : Judgement = of_default class.text.now (implicit_super names own.place (base_name V names c class.text.now own bases) (base_of V names c)) in
      let noted : Noted a b j =
      subst (λ (q : Option ℕ). Noted a b (of_default class.text.now (implicit_super names own.place (base_name V names c class.text.now own bases) q))) is.base first in
      adds_same a b (j ∷ []) (flat_map (judged V names) (default_parts c class.text.now own bases members))
      (ap (λ (there : Bool). flat_map (judged V names) (if there then [] else a_default c class.text.now own bases ∷ [])) none) (adds_noted a b j noted)

  pub no_default_added : (class : OfClass) (own : Token) (bases : List BaseName) (members : List MemberTree) (a : Found)
      → list_any is_constructor_tree members ≡ true → Adds a a (flat_map (judged V names) (default_parts class.number class.text.now own bases members))
  no_default_added class own bases members a some =
      adds_same a a [] (flat_map (judged V names) (default_parts class.number class.text.now own bases members))
      (ap (λ (there : Bool). flat_map (judged V names) (if there then [] else a_default class.number class.text.now own bases ∷ [])) some) (adds_none a)
