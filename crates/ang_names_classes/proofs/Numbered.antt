-- Members and families with their numbers, turn by turn.
use Rattle.std.specs.Prelude.{ℕ, ◌≡◌, ◌<◌, ◌+◌, Bool, true, false, if◌then◌else◌, List, [], ◌∷◌, ◌++◌, length, take, get_or, filter, Option, Some, None, option_to_list}
use Rattle.std.specs.List.{cons_option, filter_map, flat_map}
use Rattle.std.proofs.Common.{arith, refl, sym, ap, ◌∙◌, append_assoc, length-append}
use Rattle.std.proofs.lemmas.List.{append-nil, length-take-le, take_more}
use Rattle.std.proofs.lemmas.List.Elements.{filter_map-append}
use Rattle.ang_tree.specs.declared.declaration.Parameter.{Parameter}
use Rattle.ang_tree.specs.declared.type_name.TypeName.{TypeName}
use Rattle.ang_names_known.specs.declared.names.ScriptConstructor.{ScriptConstructor}
use Rattle.ang_names_known.specs.declared.names.Family.{Family}
use Rattle.ang_names_known.specs.declared.names.Field.{Field}
use Rattle.ang_names_known.specs.declared.names.ScriptMethod.{ScriptMethod}
use Rattle.ang_names_known.specs.declared.names.ScriptFunction.{ScriptFunction}
use Rattle.ang_names_known.specs.declared.names.Written.{Written}
use Rattle.ang_names_known.specs.Items.{each_after}
use Rattle.ang_names_known.specs.Spaces.{Space}
use Rattle.ang_names_listed.specs.declared.listed.Attributes.{Attributes}
use Rattle.ang_names_listed.specs.declared.listed.ListedMember.{ListedMember}
use Rattle.ang_names_listed.specs.declared.listed.MemberKind.{MemberKind}
use Rattle.ang_names_listed.specs.declared.listed.MemberKind.TheVariants as member
use Rattle.ang_names_listed.specs.Declarations.{Declaring}
use Rattle.ang_names_classes.specs.Headings.{heading_of}
use Rattle.ang_names_classes.specs.Hierarchy.{field_type}
use Rattle.ang_names_classes.specs.Resolved.{body_members, constructors_after, constructors_by, families_after, family_with, field_numbered, fields_after, has_body, method_with, methods_after, methods_by, with_bodies}

module _ {A B : Type 0} (f : List A → A → List B) where
  after_more : (before xs : List A) (x : A) → each_after f before (xs ++ x ∷ []) ≡ each_after f before xs ++ f (before ++ xs) x
  after_more before [] x = append-nil (f before x) ∙ ap (λ b. f b x) (sym (append-nil before))
  after_more before (y ∷ ys) x =
      ap (λ r. f before y ++ r) (after_more (before ++ y ∷ []) ys x ∙ ap (λ b. each_after f (before ++ y ∷ []) ys ++ f b x) (append_assoc before (y ∷ []) ys))
      ∙ sym (append_assoc (f before y) (each_after f (before ++ y ∷ []) ys) (f (before ++ y ∷ ys) x))

one_taken : {A : Type 0} (xs : List A) (i : ℕ) (x : A) → i < length xs → x ≡ get_or xs i x → take (i + 1) xs ≡ take i xs ++ x ∷ []
one_taken xs i x lt is = take_more xs i x lt ∙ ap (λ y. take i xs ++ y ∷ []) (sym is)

-- one item more of those so far
pub turned : {A B : Type 0} (f : List A → A → List B) (xs : List A) (i : ℕ) (x : A) (was now : List B)
    → was ≡ each_after f [] (take i xs) → i < length xs → x ≡ get_or xs i x → now ≡ was ++ f (take i xs) x → now ≡ each_after f [] (take (i + 1) xs)
turned f xs i x was now h lt is pushed =
    pushed ∙ ap (λ ys. ys ++ f (take i xs) x) h ∙ sym (after_more f [] (take i xs) x) ∙ ap (each_after f []) (sym (one_taken xs i x lt is))

one_counted : {A : Type 0} (o : Option A) → length (cons_option o []) ≡ length (option_to_list o)
one_counted None = refl
one_counted (Some x) = refl

-- how many give something, with one more
found_more : {A B : Type 0} (f : A → Option B) (xs : List A) (x : A) → length (filter_map f (xs ++ x ∷ [])) ≡ length (filter_map f xs) + length (option_to_list (f x))
found_more f xs x =
    ap length (filter_map-append f xs (x ∷ [])) ∙ length-append (filter_map f xs) (cons_option (f x) []) ∙ ap (λ n. length (filter_map f xs) + n) (one_counted (f x))

counted : {A : Type 0} (b : Bool) (x : A) → length (if b then x ∷ [] else []) ≡ (if b then 1 else 0)
counted true x = refl
counted false x = refl

put_in_front : {A : Type 0} (b : Bool) (y : A) (all front last : List A) → all ≡ front ++ last → (if b then y ∷ all else all) ≡ (if b then y ∷ front else front) ++ last
put_in_front true y all front last h = ap (λ zs. y ∷ zs) h
put_in_front false y all front last h = h

filter_more : {A : Type 0} (p : A → Bool) (xs : List A) (x : A) → filter p (xs ++ x ∷ []) ≡ filter p xs ++ (if p x then x ∷ [] else [])
filter_more p [] x = refl
filter_more p (y ∷ ys) x = put_in_front (p y) y (filter p (ys ++ x ∷ [])) (filter p ys) _ (filter_more p ys x)

passed_more : {A : Type 0} (p : A → Bool) (xs : List A) (x : A) → length (filter p (xs ++ x ∷ [])) ≡ length (filter p xs) + (if p x then 1 else 0)
passed_more p xs x =
    ap length (filter_more p xs x) ∙ length-append (filter p xs) (if p x then x ∷ [] else []) ∙ ap (λ n. length (filter p xs) + n) (counted (p x) x)

-- ---- members

numbered : (d : Declaring) (m : ListedMember) (number : ℕ) (o : Option Written) → length (field_numbered d m number o) ≡ length (option_to_list o)
numbered d m number None = refl
numbered d m number (Some w) = refl

pub field_number : (E : Space) (d : Declaring) (ms : List ListedMember) (i : ℕ) (m : ListedMember) (number : ℕ) (was now : List Field)
    → length was ≡ length (filter_map (λ (x : ListedMember). field_type E d x.kind) (take i ms)) → i < length ms → m ≡ get_or ms i m
    → now ≡ was ++ field_numbered d m number (field_type E d m.kind) → length now ≡ length (filter_map (λ (x : ListedMember). field_type E d x.kind) (take (i + 1) ms))
field_number E d ms i m number was now h lt is pushed =
    let more = ap (λ xs. length (filter_map (λ (x : ListedMember). field_type E d x.kind) xs)) (one_taken ms i m lt is) ∙ found_more (λ (x : ListedMember). field_type E d x.kind) (take i ms) m in
    let grown = ap length pushed ∙ length-append was (field_numbered d m number (field_type E d m.kind)) in
    let one = numbered d m number (field_type E d m.kind) in
    omega (arith, h, grown, one, more)

pub next_fields : (E : Space) (d : Declaring) (inherited : ℕ) (ms : List ListedMember) (i : ℕ) (m : ListedMember) (number : ℕ) (was now : List Field)
    → number ≡ inherited + length was → length was ≡ length (filter_map (λ (x : ListedMember). field_type E d x.kind) (take i ms))
    → was ≡ each_after (fields_after E d inherited) [] (take i ms) → i < length ms → m ≡ get_or ms i m
    → now ≡ was ++ field_numbered d m number (field_type E d m.kind) → now ≡ each_after (fields_after E d inherited) [] (take (i + 1) ms)
next_fields E d inherited ms i m number was now n count h lt is pushed =
    turned (fields_after E d inherited) ms i m was now h lt is (pushed ∙ ap (λ k. was ++ field_numbered d m k (field_type E d m.kind)) (n ∙ ap (λ k. inherited + k) count))

pub body_next : (is_class : Bool) (ms : List ListedMember) (i : ℕ) (m : ListedMember) (bodies next : ℕ)
    → bodies ≡ length (with_bodies is_class (take i ms)) → i < length ms → m ≡ get_or ms i m
    → next ≡ bodies + (if has_body is_class m.kind then 1 else 0) → next ≡ length (with_bodies is_class (take (i + 1) ms))
body_next is_class ms i m bodies next h lt is e =
    let more = ap (λ xs. length (with_bodies is_class xs)) (one_taken ms i m lt is) ∙ passed_more (λ (x : ListedMember). has_body is_class x.kind) (take i ms) m in
    omega (arith, h, e, more)

-- a method after those before it
pub one_method : (E : Space) (all : List (ScriptFunction × Bool)) (d : Declaring) (m : ListedMember) (body : ℕ) (y : TypeName) (ps : List Parameter) (a : Attributes) (k : MemberKind)
    (f : ScriptFunction) (method : ScriptMethod) (was now : List ScriptMethod) → k ≡ member.Method y ps a → f ≡ heading_of E d.origin d.text m.name y ps
    → method ≡ method_with all d m body f a → now ≡ was ++ method ∷ [] → now ≡ was ++ methods_by E all d m body k
one_method E all d m body y ps a k f method was now kind heading made pushed =
    pushed ∙ ap (λ x. was ++ x ∷ []) (made ∙ ap (λ g. method_with all d m body g a) heading) ∙ ap (λ o. was ++ methods_by E all d m body o) (sym kind)

pub next_methods : (E : Space) (all : List (ScriptFunction × Bool)) (d : Declaring) (first : ℕ) (ms : List ListedMember) (i : ℕ) (m : ListedMember) (body bodies : ℕ) (was now : List ScriptMethod)
    → body ≡ first + bodies → bodies ≡ length (with_bodies d.shape.is_class (take i ms))
    → was ≡ each_after (methods_after E all d first) [] (take i ms) → i < length ms → m ≡ get_or ms i m
    → now ≡ was ++ methods_by E all d m body m.kind → now ≡ each_after (methods_after E all d first) [] (take (i + 1) ms)
next_methods E all d first ms i m body bodies was now n count h lt is pushed =
    turned (methods_after E all d first) ms i m was now h lt is (pushed ∙ ap (λ k. was ++ methods_by E all d m k m.kind) (n ∙ ap (λ k. first + k) count))

pub next_constructors : (E : Space) (d : Declaring) (first : ℕ) (ms : List ListedMember) (i : ℕ) (m : ListedMember) (body bodies : ℕ) (was now : List ScriptConstructor)
    → body ≡ first + bodies → bodies ≡ length (with_bodies d.shape.is_class (take i ms))
    → was ≡ each_after (constructors_after E d first) [] (take i ms) → i < length ms → m ≡ get_or ms i m
    → now ≡ was ++ constructors_by E d m body m.kind → now ≡ each_after (constructors_after E d first) [] (take (i + 1) ms)
next_constructors E d first ms i m body bodies was now n count h lt is pushed =
    turned (constructors_after E d first) ms i m was now h lt is (pushed ∙ ap (λ k. was ++ constructors_by E d m k m.kind) (n ∙ ap (λ k. first + k) count))

-- ---- families

flat_more : {A B : Type 0} (f : A → List B) (xs : List A) (x : A) → length (flat_map f (xs ++ x ∷ [])) ≡ length (flat_map f xs) + length (f x)
flat_more f [] x = ap length (append-nil (f x)) ∙ omega arith
flat_more f (y ∷ ys) x =
    let h = flat_more f ys x in
    let a = length-append (f y) (flat_map f (ys ++ x ∷ [])) in
    let b = length-append (f y) (flat_map f ys) in
    omega (arith, h, a, b)

pub body_of_next : (functions : ℕ) (ds : List Declaring) (i : ℕ) (d : Declaring) (first next : ℕ)
    → first ≡ functions + length (flat_map body_members (take i ds)) → i < length ds → d ≡ get_or ds i d
    → next ≡ first + length (body_members d) → next ≡ functions + length (flat_map body_members (take (i + 1) ds))
body_of_next functions ds i d first next h lt is e =
    let more = ap (λ xs. length (flat_map body_members xs)) (one_taken ds i d lt is) ∙ flat_more body_members (take i ds) d in
    omega (arith, h, e, more)

pub next_families : (E : Space) (ds : List Declaring) (all : List (ScriptFunction × Bool)) (functions i : ℕ) (d : Declaring) (first : ℕ) (was now : List Family)
    → first ≡ functions + length (flat_map body_members (take i ds))
    → was ≡ each_after (families_after E ds all functions) [] (take i ds) → i < length ds → d ≡ get_or ds i d
    → now ≡ was ++ family_with E ds all i first d ∷ [] → now ≡ each_after (families_after E ds all functions) [] (take (i + 1) ds)
next_families E ds all functions i d first was now n h lt is pushed =
    let number : length (take i ds) ≡ i = length-take-le i ds (omega (arith, lt)) in
    turned (families_after E ds all functions) ds i d was now h lt is
    (pushed ∙ ap (λ k. was ++ family_with E ds all i k d ∷ []) n ∙ ap (λ k. was ++ family_with E ds all k (functions + length (flat_map body_members (take i ds))) d ∷ []) (sym number))
