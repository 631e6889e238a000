-- What is refused of declarations is a type's name that means no type, or no use: so what holds of both holds of each refusal.
use Rattle.std.specs.Prelude.{◌≡◌, ℕ, Bool, true, false, not, ◌||◌, if◌then◌else◌, bytes_eq, nat_lt, length, List, [], ◌∷◌, ◌++◌, Option, Some, None, Ok, Err, IfErr, IfSome, slice_get, option_and_then}
use Rattle.std.specs.List.{list_any}
use Rattle.std.specs.Option.{option_or}
use Rattle.std.proofs.Common.{refl, ap, ◌∙◌}
use Rattle.ang_kinds.specs.declared.error.ErrorKind.{ErrorKind}
use Rattle.ang_kinds.specs.declared.error.ErrorKind.TheVariants as kind
use Rattle.ang_lex.specs.declared.token.Token.{Token}
use Rattle.ang_tree.specs.Stmt.{Every}
use Rattle.ang_tree.specs.declared.declaration.Parameter.{Parameter}
use Rattle.ang_tree.specs.declared.type_name.TypeName.{TypeName}
use Rattle.ang_types.specs.declared.asks.Asks.{Asks}
use Rattle.ang_types.specs.declared.asks.Refused.{Refused}
use Rattle.ang_view.specs.Registration.{RegistrationList}
use Rattle.ang_names_known.specs.declared.names.Family.{Family}
use Rattle.ang_names_known.specs.declared.names.Field.{Field}
use Rattle.ang_names_known.specs.declared.names.ScriptMethod.{ScriptMethod}
use Rattle.ang_names_known.specs.declared.space.Named.TheVariants as named
use Rattle.ang_names_known.specs.Lookup.{families_at}
use Rattle.ang_names_known.specs.Spaces.{Space, space_of_names, type_of_name}
use Rattle.ang_names_listed.specs.declared.listed.ListedDeclaration.{ListedDeclaration}
use Rattle.ang_names_listed.specs.declared.listed.ListedMember.{ListedMember}
use Rattle.ang_names_listed.specs.declared.listed.MemberKind.{MemberKind}
use Rattle.ang_names_listed.specs.declared.listed.MemberKind.TheVariants as member
use Rattle.ang_names_listed.specs.declared.listed.Part.{Part}
use Rattle.ang_names_listed.specs.declared.listed.Part.TheVariants as part
use Rattle.ang_names_listed.specs.declared.listed.ListedFamily.{ListedFamily}
use Rattle.ang_names_listed.specs.Declarations.{Declaring, declarations_of, families_of}
use Rattle.ang_names_listed.specs.Taken.{is_taken, is_first_above, name_refusal}
use Rattle.ang_names_classes.specs.Headings.{parameter_role}
use Rattle.ang_names_classes.specs.Resolved.{families_in, space_of_declared}
use Rattle.ang_names_listed.specs.declared.role.TypePosition.{TypePosition}
use Rattle.ang_names_listed.specs.declared.role.TypePosition.TheVariants as role
use Rattle.ang_lex.specs.Text.{text_of}
use Rattle.ang_names_listed.specs.Sources.{Source}
use Rattle.ang_names_listed.specs.Types.{TypeOrError, type_in}
use Rattle.ang_names.specs.Heirs.{at_name, ancestor_refusal, of_interfaces, missing_among, missing_by, missing_method, inherits, field_refusal, overridden, is_bad_override, method_refusal, first_refused, is_before, earlier, class_refusal, heir_refusal, cycle_refusal}
use Rattle.ang_names.specs.Refusals.{refusal_if, type_refused, why_refused, most_parameters, parameter_limit, type_refusal_of, parameters_refusal, parameter_list_refusal, result_role, heading_refusal, clashes_with_member, duplicate, member_refusal, members_refusal, most_members, shape_named, names_class, is_bad_base, bases_refusal, member_limit, family_refusal, part_refusal, type_refusal}
use Rattle.ang_names.specs.Phases.{Phase, Names, Types, Ancestors, Heirs, Cycles, of_family, refusal, refusals, first_refusals, all_phases, refusals_of}
use Rattle.ang_check_uses.specs.declared.uses.Resolution.TheVariants as resolution
use Rattle.ang_check_uses.specs.Uses.{resolution_of, type_meant}
use Rattle.ang_check_contest.specs.Scopes.{Scope}
use Rattle.ang_check_laws.specs.Asked.{IsAskedAgain, refuses_use}
use Rattle.ang_check_laws.proofs.Items.{every_after, every_or}
use Rattle.ang_check_laws.proofs.Types.{IfUnknown, type_refused_so}

-- what holds of refusals that are no use, and of a name that means no type in this space
pub record HoldsOfDeclared (E : Space) (P : Refused → Type 0) : Type 0 where
  pub plain : (r : Refused) → r.asks ≡ None → refuses_use r.error.kind ≡ false → P r
  pub unknown : (text : List ℕ) (t : Token) → type_of_name E (text_of text t) ≡ named.Unknown → P (type_refused kind.UnknownType text t)

module _ (E : Space) (P : Refused → Type 0) (holds : HoldsOfDeclared E P) where
  abbrev Again : Option Refused → Type 0
  Again r = IfSome r P

  or_again : (a b : Option Refused) → Again a → Again b → Again (option_or a b)
  or_again None b h k = k
  or_again (Some r) b h k = h

  either_again : (b : Bool) (x y : Option Refused) → Again x → Again y → Again (if b then x else y)
  either_again true x y h k = h
  either_again false x y h k = k

  test_again : (b : Bool) (why : ErrorKind) (text : List ℕ) (t : Token) → refuses_use why ≡ false → Again (refusal_if b why text t)
  test_again true why text t e = holds.plain _ refl e
  test_again false why text t e = tt

  -- ---- types and headings

  why_again : (text : List ℕ) (t : Token) (y : TypeOrError) → IfErr y (IfUnknown (type_of_name E (text_of text t))) → Again (why_refused text t y)
  why_again text t (Ok y) h = tt
  why_again text t (Err kind.UnknownType) h = holds.unknown text t h
  why_again text t (Err _) h = holds.plain _ refl h

  type_again : (text : List ℕ) (r : TypePosition) (y : TypeName) → Again (type_refusal_of E text r y)
  type_again text r y = why_again text y.name (type_in E r text y) (type_refused_so E r text y)

  parameters_again : (text : List ℕ) (imported : Bool) (ps : List Parameter) → Again (parameters_refusal E text imported ps)
  parameters_again text imported [] = tt
  parameters_again text imported (p ∷ ps) =
      or_again (type_refusal_of E text (parameter_role imported p) p.declared_type) (parameters_refusal E text imported ps)
      (type_again text (parameter_role imported p) p.declared_type) (parameters_again text imported ps)

  list_again : (text : List ℕ) (imported : Bool) (name : Token) (ps : List Parameter) → Again (parameter_list_refusal E text imported name ps)
  list_again text imported name ps =
      or_again (parameter_limit text name ps) (parameters_refusal E text imported ps)
      (test_again (nat_lt most_parameters (length ps)) kind.Limit text name refl) (parameters_again text imported ps)

  heading_again : (text : List ℕ) (imported : Bool) (name : Token) (y : TypeName) (ps : List Parameter)
      → Again (heading_refusal E text imported name y ps)
  heading_again text imported name y ps =
      or_again (type_refusal_of E text (result_role imported) y) (parameter_list_refusal E text imported name ps)
      (type_again text (result_role imported) y) (list_again text imported name ps)

  -- ---- members and bases

  duplicate_again : (text : List ℕ) (before : List ListedMember) (m : ListedMember) → Again (duplicate text before m)
  duplicate_again text before m = test_again (list_any (clashes_with_member text m) before) kind.Duplicate text m.name refl

  member_again : (text family : List ℕ) (before : List ListedMember) (m : ListedMember) (x : MemberKind) → Again (member_refusal E text family before m x)
  member_again text family before m (member.Field y) =
      or_again (type_refusal_of E text role.Field y) (duplicate text before m) (type_again text role.Field y) (duplicate_again text before m)
  member_again text family before m (member.Method y ps a) =
      or_again (type_refusal_of E text role.Result y) (option_or (duplicate text before m) (parameter_list_refusal E text false m.name ps))
      (type_again text role.Result y)
      (or_again (duplicate text before m) (parameter_list_refusal E text false m.name ps) (duplicate_again text before m)
      (list_again text false m.name ps))
  member_again text family before m (member.Constructor ps) =
      or_again (refusal_if (not (bytes_eq (text_of text m.name) family)) kind.BadType text m.name)
      (option_or (duplicate text before m) (parameter_list_refusal E text false m.name ps))
      (test_again (not (bytes_eq (text_of text m.name) family)) kind.BadType text m.name refl)
      (or_again (duplicate text before m) (parameter_list_refusal E text false m.name ps) (duplicate_again text before m)
      (list_again text false m.name ps))

  members_again : (text family : List ℕ) (before ms : List ListedMember) → Again (members_refusal E text family before ms)
  members_again text family before [] = tt
  members_again text family before (m ∷ ms) =
      or_again (member_refusal E text family before m m.kind) (members_refusal E text family (before ++ m ∷ []) ms)
      (member_again text family before m m.kind) (members_again text family (before ++ m ∷ []) ms)

  bases_again : (families : List Declaring) (text : List ℕ) (is_class has_class : Bool) (bs : List Token)
      → Again (bases_refusal families text is_class has_class bs)
  bases_again families text is_class has_class [] = tt
  bases_again families text is_class has_class (b ∷ bs) =
      let s = shape_named families (text_of text b) in
      or_again (refusal_if (is_bad_base is_class has_class s) kind.BadBase text b)
      (bases_refusal families text is_class (has_class || names_class s) bs)
      (test_again (is_bad_base is_class has_class s) kind.BadBase text b refl)
      (bases_again families text is_class (has_class || names_class s) bs)

  family_again : (families : List Declaring) (d : ListedDeclaration) (s : ListedFamily) → Again (family_refusal E families d s)
  family_again families d s =
      or_again (member_limit d s)
      (option_or (bases_refusal families d.text s.is_class false s.bases) (members_refusal E d.text (text_of d.text d.name) [] s.members))
      (test_again (nat_lt most_members (length s.members)) kind.Limit d.text d.name refl)
      (or_again (bases_refusal families d.text s.is_class false s.bases) (members_refusal E d.text (text_of d.text d.name) [] s.members)
      (bases_again families d.text s.is_class false s.bases) (members_again d.text (text_of d.text d.name) [] s.members))

  part_again : (families : List Declaring) (d : ListedDeclaration) (p : Part) → Again (part_refusal E families d p)
  part_again families d (part.Family s) = family_again families d s
  part_again families d (part.Function y ps) = heading_again d.text false d.name y ps
  part_again families d (part.Import y ps) = heading_again d.text true d.name y ps
  part_again families d (part.Global y) = type_again d.text role.Variable y

  types_again : (all : List ListedDeclaration) (d : ListedDeclaration) → Again (type_refusal E all d)
  unfolding type_refusal
  types_again all d = part_again (families_of all) d d.part

  -- ---- names

  names_again : (V : RegistrationList) (before : List ListedDeclaration) (d : ListedDeclaration) → Again (name_refusal V before d)
  unfolding name_refusal
  names_again V before d =
      either_again (is_taken V before d) _ _ (holds.plain _ refl refl) (either_again (is_first_above before d.part) _ _ (holds.plain _ refl refl) tt)

  -- ---- heirs

  at_name_again : (why : ErrorKind) (b : Bool) (f : Family) → refuses_use why ≡ false → Again (at_name why b f)
  at_name_again why true f e = holds.plain _ refl e
  at_name_again why false f e = tt

  numbered_again : (p : ℕ → Family → Option Refused) (c : ℕ) (f : Option Family) → ((n : ℕ) (g : Family) → Again (p n g)) → Again (option_and_then (p c) f)
  numbered_again p c None h = tt
  numbered_again p c (Some f) h = h c f

  of_family_again : (p : ℕ → Family → Option Refused) (fs : List Family) (before : List ListedDeclaration) (x : Part)
      → ((n : ℕ) (g : Family) → Again (p n g)) → Again (of_family p fs before x)
  of_family_again p fs before (part.Family s) h =
      numbered_again p (length (families_of before)) (slice_get fs (length (families_of before))) h
  of_family_again p fs before (part.Function y ps) h = tt
  of_family_again p fs before (part.Import y ps) h = tt
  of_family_again p fs before (part.Global y) h = tt

  missing_by_again : (f : Family) (m : Option ScriptMethod) → Again (missing_by f m)
  missing_by_again f None = tt
  missing_by_again f (Some m) = holds.plain _ refl refl

  first_again : {A : Type 0} (p : A → Option Refused) (xs : List A) → ((a : A) → Again (p a)) → Again (first_refused p xs)
  first_again p [] h = tt
  first_again p (x ∷ xs) h = or_again (p x) (first_refused p xs) (h x) (first_again p xs h)

  earlier_again : (a b : Option Refused) → Again a → Again b → Again (earlier a b)
  earlier_again None b h k = k
  earlier_again (Some r) None h k = h
  earlier_again (Some r) (Some s) h k = either_again (is_before s.error.place r.error.place) (Some s) (Some r) k h

  class_again : (fs : List Family) (c : ℕ) (f : Family) → Again (class_refusal fs c f)
  class_again fs c f =
      or_again (missing_method fs c f) _
      (missing_by_again f (missing_among fs c (of_interfaces (families_at fs f.above))))
      (earlier_again (first_refused (field_refusal fs f) f.fields) (first_refused (method_refusal fs f) f.methods)
      (first_again (field_refusal fs f) f.fields (λ (x : Field). either_again (inherits fs f.base x.name) _ None (holds.plain _ refl refl) tt))
      (first_again (method_refusal fs f) f.methods (λ (m : ScriptMethod). either_again (is_bad_override m (overridden fs f m)) _ None (holds.plain _ refl refl) tt)))

  heir_again : (fs : List Family) (c : ℕ) (f : Family) → Again (heir_refusal fs c f)
  unfolding heir_refusal
  heir_again fs c f = either_again f.is_class (class_refusal fs c f) None (class_again fs c f) tt

-- ---- the phases

module _ (V : RegistrationList) (all : List ListedDeclaration) (P : Refused → Type 0) (holds : HoldsOfDeclared (space_of_declared V all) P) where
  abbrev E : Space
  E = space_of_declared V all

  abbrev fs : List Family
  fs = families_in E all

  phase_again : (p : Phase) (before : List ListedDeclaration) (d : ListedDeclaration) → IfSome (refusal V all p before d) P
  phase_again Names before d = names_again E P holds V before d
  phase_again Types before d = types_again E P holds all d
  phase_again Ancestors before d =
      of_family_again E P holds (ancestor_refusal (families_of all)) fs before d.part
      (λ c f. at_name_again E P holds kind.BadBase _ f refl)
  phase_again Heirs before d = of_family_again E P holds (heir_refusal fs) fs before d.part (λ c f. heir_again E P holds fs c f)
  phase_again Cycles before d =
      of_family_again E P holds (cycle_refusal E (families_of all)) fs before d.part
      (λ c f. at_name_again E P holds kind.Cyclic _ f refl)

  phases_again : (ps : List Phase) → Every P (first_refusals V all ps)
  phases_again [] = tt
  phases_again (p ∷ ps) =
      every_or P (refusals V all p) (first_refusals V all ps) (every_after P (refusal V all p) [] all (phase_again p)) (phases_again ps)

pub each_declared : (V : RegistrationList) (ss : List Source) (P : Refused → Type 0) → HoldsOfDeclared (space_of_declared V (declarations_of ss)) P
    → Every P (refusals_of V ss)
unfolding refusals_of
each_declared V ss P holds = phases_again V (declarations_of ss) P holds all_phases

-- What they ask means nothing over a scope whose names have the families of this space.
nothing_asked : (S : Scope) (r : Refused) (o : Option Asks) → o ≡ None
    → IfSome o (λ (a : Asks). resolution_of S r.error.name a ≡ resolution.Refused r.error.kind)
nothing_asked S r None e = tt
nothing_asked S r (Some a) e = cc

pub declarations_again : (S : Scope) (V : RegistrationList) (ss : List Source) → space_of_names S.view S.names ≡ space_of_declared V (declarations_of ss)
    → Every (IsAskedAgain S) (refusals_of V ss)
declarations_again S V ss same = each_declared V ss (IsAskedAgain S) (record {
  plain = λ r e f. nothing_asked S r r.asks e;
  unknown = λ text t e. ap type_meant (ap (λ (F : Space). type_of_name F (text_of text t)) same ∙ e);
})
