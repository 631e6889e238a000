-- Methods of one slot have one name and the same parameters.
use Rattle.std.specs.Prelude.{◌≡◌, ℕ, zero, suc, ◌+◌, ◌<◌, ◌==◌, nat_lt, Bool, true, false, not, ◌&&◌, cond, length, List, [], ◌∷◌, ◌++◌, map, bytes_eq, unwrap_or, option_map, Some, None, slice_get}
use Rattle.std.specs.List.{cons_option, filter_map, flat_map, position_or_len}
use Rattle.std.specs.Cmp.Lexicographic.{pointwise}
use Rattle.std.proofs.Common.{refl, ap, sym, ◌∙◌, subst, arith}
use Rattle.std.proofs.Math.Bool.{beq}
use Rattle.std.proofs.lemmas.Bool.{eq-eqb}
use Rattle.std.proofs.lemmas.Slice.Eq.{bytes_eq-Decides}
use Rattle.std.proofs.lemmas.Option.{same_Some, slice_get_within, slice_get-map}
use Rattle.ang_kinds.specs.declared.types.Pass.{Pass}
use Rattle.ang_kinds.specs.declared.types.Pass.TheVariants as pass
use Rattle.ang_tree.specs.Stmt.{Every}
use Rattle.ang_types.specs.declared.arg_type.ArgType.{ArgType}
use Rattle.ang_types.specs.declared.arg_type.ArgType.TheVariants as type
use Rattle.ang_view.specs.Numbers.{primitive_number, pass_number}
use Rattle.ang_names_known.specs.declared.names.Family.{Family}
use Rattle.ang_names_known.specs.declared.names.ScriptMethod.{ScriptMethod}
use Rattle.ang_names_known.specs.declared.names.ScriptFunction.{ScriptFunction}
use Rattle.ang_names_known.specs.declared.names.ScriptParameter.{ScriptParameter}
use Rattle.ang_names_known.specs.Items.{each_after}
use Rattle.ang_names_known.specs.Lookup.{same_type, same_written, same_parameter, same_parameters}
use Rattle.ang_names_known.specs.Spaces.{Space}
use Rattle.ang_names_listed.specs.declared.listed.ListedMember.{ListedMember}
use Rattle.ang_names_listed.specs.declared.listed.MemberKind.{MemberKind}
use Rattle.ang_names_listed.specs.declared.listed.MemberKind.TheVariants as member
use Rattle.ang_names_listed.specs.Declarations.{Declaring, families_of}
use Rattle.ang_names_classes.specs.Headings.{heading_of as written_as, signature_by, signatures_of, same_signature, slot_of}
use Rattle.ang_names_classes.specs.Resolved.{with_bodies, body_members, methods_by, methods_after, families_after, functions_in, families_in}
use Rattle.ang_check.specs.Typing.{typed_parameter}
use Rattle.ang_check_sound.proofs.Items.{first_true, second_true, every_joined, every_at, at_front}
use Rattle.ang_check_sound.proofs.Places.{in_second}
use Rattle.ang_check_laws.specs.Methods.{AreAlike, SlotsAreAlike}
use Rattle.ang_check_denials.proofs.SameUses.{same_types}

-- ---- a test that a thing passes with itself

same_number : (n : ℕ) → (n == n) ≡ true
same_number n = eq-eqb n n refl

same_truth : (b : Bool) → beq b b ≡ true
same_truth true = refl
same_truth false = refl

both : (a b : Bool) → a ≡ true → b ≡ true → (a && b) ≡ true
both true b e h = h
both false b e h = cc

own_type : (ty : ArgType) → same_type ty ty ≡ true
own_type type.Void = refl
own_type type.Null = refl
own_type (type.Plain p) = same_number (primitive_number p)
own_type (type.Enumeration n) = same_number n
own_type (type.Object n c) = both (n == n) (beq c c) (same_number n) (same_truth c)
own_type (type.Handle n c) = both (n == n) (beq c c) (same_number n) (same_truth c)

own_parameter : (p : ScriptParameter) → same_parameter p p ≡ true
own_parameter p =
    let w = p.written in
    both (same_written w w) (pass_number p.pass == pass_number p.pass)
    (both (same_type w.ty w.ty && beq w.constant w.constant) (beq w.const_handle w.const_handle)
    (both (same_type w.ty w.ty) (beq w.constant w.constant) (own_type w.ty) (same_truth w.constant)) (same_truth w.const_handle))
    (same_number (pass_number p.pass))

each_own : {A : Type 0} (test : A → A → Bool) → ((a : A) → test a a ≡ true) → (xs : List A) → pointwise test xs xs ≡ true
each_own test h [] = refl
each_own test h (x ∷ xs) = both (test x x) (pointwise test xs xs) (h x) (each_own test h xs)

own_signature : (s : ScriptFunction × Bool) → same_signature s s ≡ true
own_signature s =
    both (bytes_eq s.0.name s.0.name && same_parameters s.0.params s.0.params) (beq s.1 s.1)
    (both (bytes_eq s.0.name s.0.name) (same_parameters s.0.params s.0.params) (each_own _ same_number s.0.name)
    (each_own same_parameter own_parameter s.0.params)) (same_truth s.1)

-- ---- the first item that passes a test

record Passes {A : Type 0} (p : A → Bool) (xs : List A) (k : ℕ) : Type 0 where
  item : A
  there : slice_get xs k ≡ Some item
  passes : p item ≡ true

passes_behind : {A : Type 0} (p : A → Bool) (x : A) (xs : List A) (k : ℕ) (b : Bool) → p x ≡ b → (b ≡ false → Passes p xs k)
    → Passes p (x ∷ xs) (cond (not b) (1 + k) 0)
passes_behind p x xs k true e h = record { item = x; there = refl; passes = e }
passes_behind p x xs k false e h =
    let r = h refl in
    let next : suc k ≡ 1 + k = omega arith in
    record { item = r.item; there = subst (λ n. slice_get (x ∷ xs) n ≡ Some r.item) next r.there; passes = r.passes }

first_passing : {A : Type 0} (p : A → Bool) (xs : List A) (i : ℕ) (a : A) → slice_get xs i ≡ Some a → p a ≡ true → Passes p xs (position_or_len p xs)
first_passing p [] i a e h = cc
first_passing p (x ∷ xs) zero a e h =
    let passes : p x ≡ true = ap p (same_Some x a e) ∙ h in
    passes_behind p x xs (position_or_len p xs) (p x) refl (λ no. cc)
first_passing p (x ∷ xs) (suc i) a e h = passes_behind p x xs (position_or_len p xs) (p x) refl (λ no. first_passing p xs i a e h)

is_below : (k n : ℕ) → k < n → nat_lt k n ≡ true
is_below k n h = search arith

-- the number of the first item that passes, where one does
at_first : (k n d : ℕ) → k < n → unwrap_or (cond (nat_lt k n) (Some k) None) d ≡ k
at_first k n d h = ap (λ b. unwrap_or (cond b (Some k) None) d) (is_below k n h)

-- ---- the methods of the declarations are those of the names

abbrev pub signature : ScriptMethod → ScriptFunction × Bool
signature y = (y.function, y.read_only)

abbrev signatures : List Family → List (ScriptFunction × Bool)
signatures fs = flat_map (λ (f : Family). map signature f.methods) fs

module _ (E : Space) (all : List (ScriptFunction × Bool)) where
  abbrev IsSlotted : ScriptMethod → Type 0
  IsSlotted y = y.slot ≡ slot_of all (signature y)

  abbrev signed_members : Declaring → List ListedMember → List (ScriptFunction × Bool)
  signed_members d ms = filter_map (λ (m : ListedMember). signature_by E d m m.kind) ms

  kind_signed : (d : Declaring) (m : ListedMember) (n : ℕ) (kind : MemberKind) (ms : List ScriptMethod) (others : List (ScriptFunction × Bool)) → map signature ms ≡ others
      → map signature (methods_by E all d m n kind ++ ms) ≡ cons_option (signature_by E d m kind) others
  kind_signed d m n (member.Field y) ms others e = e
  kind_signed d m n (member.Method y ps a) ms others e =
      ap (λ (xs : List (ScriptFunction × Bool)). (written_as E d.origin d.text m.name y ps, a.read_only) ∷ xs) e
  kind_signed d m n (member.Constructor ps) ms others e = e

  members_signed : (d : Declaring) (first : ℕ) (before ms : List ListedMember)
      → map signature (each_after (methods_after E all d first) before ms) ≡ signed_members d ms
  members_signed d first before [] = refl
  members_signed d first before (m ∷ ms) =
      kind_signed d m (first + length (with_bodies d.shape.is_class before)) m.kind (each_after (methods_after E all d first) (before ++ m ∷ []) ms)
      (signed_members d ms) (members_signed d first (before ++ m ∷ []) ms)

  kind_slotted : (d : Declaring) (m : ListedMember) (n : ℕ) (kind : MemberKind) → Every IsSlotted (methods_by E all d m n kind)
  kind_slotted d m n (member.Field y) = tt
  kind_slotted d m n (member.Method y ps a) = (refl, tt)
  kind_slotted d m n (member.Constructor ps) = tt

  members_slotted : (d : Declaring) (first : ℕ) (before ms : List ListedMember) → Every IsSlotted (each_after (methods_after E all d first) before ms)
  members_slotted d first before [] = tt
  members_slotted d first before (m ∷ ms) =
      let n = first + length (with_bodies d.shape.is_class before) in
      every_joined IsSlotted (methods_by E all d m n m.kind) (each_after (methods_after E all d first) (before ++ m ∷ []) ms) (kind_slotted d m n m.kind)
      (members_slotted d first (before ++ m ∷ []) ms)

  module _ (families : List Declaring) (functions : ℕ) where
    abbrev families_from : List Declaring → List Declaring → List Family
    families_from front ds = each_after (families_after E families all functions) front ds

    all_signed : (front ds : List Declaring) → signatures (families_from front ds) ≡ flat_map (λ (d : Declaring). signed_members d d.shape.members) ds
    all_signed front [] = refl
    all_signed front (d ∷ ds) =
        let first = functions + length (flat_map body_members front) in
        let rest = signatures (families_from (front ++ d ∷ []) ds) in
        ap (λ (xs : List (ScriptFunction × Bool)). xs ++ rest) (members_signed d first [] d.shape.members)
        ∙ ap (λ (xs : List (ScriptFunction × Bool)). signed_members d d.shape.members ++ xs) (all_signed (front ++ d ∷ []) ds)

    all_slotted : (front ds : List Declaring) → Every (λ (f : Family). Every IsSlotted f.methods) (families_from front ds)
    all_slotted front [] = tt
    all_slotted front (d ∷ ds) =
        (members_slotted d (functions + length (flat_map body_members front)) [] d.shape.members, all_slotted (front ++ d ∷ []) ds)

-- ---- each method has a slot

record Stands (fs : List Family) (y : ScriptMethod) : Type 0 where
  number : ℕ
  there : slice_get (signatures fs) number ≡ Some (signature y)

method_stands : (fs : List Family) (c : ℕ) (f : Family) (m : ℕ) (y : ScriptMethod) → slice_get fs c ≡ Some f → slice_get f.methods m ≡ Some y → Stands fs y
method_stands [] c f m y e h = cc
method_stands (g ∷ fs) zero f m y e h =
    let own : slice_get g.methods m ≡ Some y = ap (λ (x : Family). slice_get x.methods m) (same_Some g f e) ∙ h in
    record {
      number = m;
      there = at_front (map signature g.methods) (signatures fs) m (signature y) (slice_get-map signature g.methods m ∙ ap (option_map signature) own);
    }
method_stands (g ∷ fs) (suc c) f m y e h =
    let r = method_stands fs c f m y e h in
    record {
      number = length (map signature g.methods) + r.number;
      there = in_second (map signature g.methods) (signatures fs) (length (map signature g.methods)) r.number (signature y) refl r.there;
    }

-- ---- equal signatures

first_type : (t u : ArgType) (ts us : List ArgType) → t ∷ ts ≡ u ∷ us → t ≡ u
first_type t u ts us e = cc

pub type_is : (t u : ArgType) → same_type t u ≡ true → t ≡ u
type_is t u e = first_type t u [] [] (same_types (t ∷ []) (u ∷ []) (both (same_type t u) true e refl))

pass_is : (a b : Pass) → (pass_number a == pass_number b) ≡ true → a ≡ b
pass_is pass.Value pass.Value e = refl
pass_is pass.Value pass.RefIn e = cc
pass_is pass.Value pass.RefOut e = cc
pass_is pass.Value pass.RefInOut e = cc
pass_is pass.RefIn pass.Value e = cc
pass_is pass.RefIn pass.RefIn e = refl
pass_is pass.RefIn pass.RefOut e = cc
pass_is pass.RefIn pass.RefInOut e = cc
pass_is pass.RefOut pass.Value e = cc
pass_is pass.RefOut pass.RefIn e = cc
pass_is pass.RefOut pass.RefOut e = refl
pass_is pass.RefOut pass.RefInOut e = cc
pass_is pass.RefInOut pass.Value e = cc
pass_is pass.RefInOut pass.RefIn e = cc
pass_is pass.RefInOut pass.RefOut e = cc
pass_is pass.RefInOut pass.RefInOut e = refl

one_alike : (p q : ScriptParameter) → same_parameter p q ≡ true → typed_parameter p ≡ typed_parameter q
one_alike p q e =
    let written = first_true (same_written p.written q.written) (pass_number p.pass == pass_number q.pass) e in
    let ways = pass_is p.pass q.pass (second_true (same_written p.written q.written) (pass_number p.pass == pass_number q.pass) e) in
    let types = type_is p.written.ty q.written.ty
    (first_true (same_type p.written.ty q.written.ty) (beq p.written.constant q.written.constant)
    (first_true (same_type p.written.ty q.written.ty && beq p.written.constant q.written.constant) (beq p.written.const_handle q.written.const_handle) written)) in
    cc

all_alike : (ps qs : List ScriptParameter) → same_parameters ps qs ≡ true → map typed_parameter ps ≡ map typed_parameter qs
all_alike [] [] e = refl
all_alike [] (q ∷ qs) e = cc
all_alike (p ∷ ps) [] e = cc
all_alike (p ∷ ps) (q ∷ qs) e =
    let one = one_alike p q (first_true (same_parameter p q) (pointwise same_parameter ps qs) e) in
    let rest = all_alike ps qs (second_true (same_parameter p q) (pointwise same_parameter ps qs) e) in
    cc

bytes_are : (xs ys : List ℕ) → bytes_eq xs ys ≡ true → xs ≡ ys
bytes_are xs ys e = (bytes_eq-Decides xs ys).0 e

alike : (a b : ScriptFunction × Bool) → same_signature a b ≡ true → AreAlike a.0 b.0
alike a b e =
    let front = first_true (bytes_eq a.0.name b.0.name && same_parameters a.0.params b.0.params) (beq a.1 b.1) e in record {
      name = bytes_are a.0.name b.0.name (first_true (bytes_eq a.0.name b.0.name) (same_parameters a.0.params b.0.params) front);
      parameters = all_alike a.0.params b.0.params (second_true (bytes_eq a.0.name b.0.name) (same_parameters a.0.params b.0.params) front);
    }

-- ---- methods of one slot

-- the method of the slot's number, where a method stands among all
slot_first : (fs : List Family) (all : List (ScriptFunction × Bool)) (y : ScriptMethod) → signatures fs ≡ all → y.slot ≡ slot_of all (signature y) → Stands fs y
    → (t : ScriptFunction × Bool) × (slice_get all y.slot ≡ Some t) × (same_signature (signature y) t ≡ true)
slot_first fs all y same slotted stands =
    let s = signature y in
    let k = position_or_len (same_signature s) all in
    let first = first_passing (same_signature s) all stands.number s (ap (λ (xs : List (ScriptFunction × Bool)). slice_get xs stands.number) (sym same) ∙ stands.there)
    (own_signature s) in
    let slot : y.slot ≡ k = slotted ∙ at_first k (length all) (length all) (slice_get_within all k first.item first.there) in
    (first.item, ap (slice_get all) slot ∙ first.there, first.passes)

-- Among the families of declarations:
pub in_one_slot : SlotsAreAlike
unfolding families_in signatures_of
in_one_slot E ds c d i j f g x y e h k l same =
    let families = families_of ds in
    let all = signatures_of E families in
    let count = length (functions_in E ds) in
    let fs = families_from E all families count [] families in
    let signed = all_signed E all families count [] families in
    let slotted = all_slotted E all families count [] families in
    let one = slot_first fs all x signed (every_at (IsSlotted E all) f.methods i x (every_at (λ (u : Family). Every (IsSlotted E all) u.methods) fs c f slotted e) h)
    (method_stands fs c f i x e h) in
    let other = slot_first fs all y signed (every_at (IsSlotted E all) g.methods j y (every_at (λ (u : Family). Every (IsSlotted E all) u.methods) fs d g slotted k) l)
    (method_stands fs d g j y k l) in
    let is : one.0 ≡ other.0 = same_Some one.0 other.0 (sym one.1 ∙ ap (slice_get all) same ∙ other.1) in
    let a = alike (signature x) one.0 one.2 in
    let b = alike (signature y) other.0 other.2 in record {
      name = a.name ∙ ap (λ (t : ScriptFunction × Bool). t.0.name) is ∙ sym b.name;
      parameters = a.parameters ∙ ap (λ (t : ScriptFunction × Bool). map typed_parameter t.0.params) is ∙ sym b.parameters;
    }
