-- The classes of a table are those of the tree, each under its number, and so are their methods.
use Rattle.std.proofs.Common.{◌≡◌, ◌+◌, ℕ, zero, suc, List, [], ◌∷◌, length, refl, ap, ◌∙◌, arith, Option, Some, None}
use Rattle.std.specs.Prelude.{Bool, true, false, cond, nat_eq, ◌==◌, if◌then◌else◌, find, option_map, option_and_then, slice_get, map as list_map}
use Rattle.std.specs.Option.{option_or}
use Rattle.std.proofs.lemmas.Bool.{eq-eqb}
use Rattle.std.proofs.lemmas.List.Folds.{find-append}
use Rattle.ang_typed.specs.declared.program.TypedClass as families
use Rattle.ang_meaning.specs.declared.class.Class.{Class}
use Rattle.ang_source.specs.Meaning.{class_of as class_in, class_among, own_body, body_by, method_among, routine}
use Rattle.ang_vm_stack.specs.declared.table.ClassCode.{ClassCode}
use Rattle.ang_vm_stack.specs.declared.methods.MethodEntry.{MethodEntry}
use Rattle.ang_vm_stack.specs.Tables.{numbered, methods_in, method_in}
use Rattle.ang_engine_modules.specs.Loaded.{class_of}
use Rattle.ang_engine_modules.specs.Trees.{own_methods, methods_by, ScriptClass, script_class, classes_from}

-- ---- methods

row_method : (m s : ℕ) (r : ℕ × ℕ) (rows : List (ℕ × ℕ)) (here : Bool) → method_in (own_methods m rows) s ≡ option_map (routine m) (own_body s rows)
    → option_map (λ (x : MethodEntry). x.function) (cond here (Some (record { slot = r.0; function = routine m r.1 })) (find (λ (x : MethodEntry). nat_eq x.slot s) (own_methods m rows)))
    ≡ option_map (routine m) (option_map (λ (q : ℕ × ℕ). q.1) (cond here (Some r) (find (λ (q : ℕ × ℕ). q.0 == s) rows)))
row_method m s r rows true rest = refl
row_method m s r rows false rest = rest

own_method : (m s : ℕ) (rows : List (ℕ × ℕ)) → method_in (own_methods m rows) s ≡ option_map (routine m) (own_body s rows)
own_method m s [] = refl
own_method m s (r ∷ rows) = row_method m s r rows (nat_eq r.0 s) (own_method m s rows)

first_method : (x y : Option MethodEntry) → option_map (λ (r : MethodEntry). r.function) (option_or x y) ≡ option_or (option_map (λ (r : MethodEntry). r.function) x) (option_map (λ (r : MethodEntry). r.function) y)
first_method None y = refl
first_method (Some r) y = refl

first_body : (m : ℕ) (x y : Option ℕ) → option_or (option_map (routine m) x) (option_map (routine m) y) ≡ option_map (routine m) (option_or x y)
first_body m None y = refl
first_body m (Some b) y = refl

method_by : (m : ℕ) (cs : List families.TypedClass) (s n : ℕ) (c : Option families.TypedClass) → method_in (methods_by m cs n c) s ≡ option_map (routine m) (body_by cs s n c)
method_by m cs s n None = refl
method_by m cs s zero (Some c) = own_method m s c.chosen
method_by m cs s (suc n) (Some c) =
    let above : List MethodEntry = methods_by m cs n (option_and_then (slice_get cs) c.base) in
    let p : MethodEntry → Bool = λ x. nat_eq x.slot s in
    ap (option_map (λ (r : MethodEntry). r.function)) (find-append p (own_methods m c.chosen) above)
    ∙ first_method (find p (own_methods m c.chosen)) (find p above)
    ∙ ap (λ o. option_or o (method_in above s)) (own_method m s c.chosen)
    ∙ ap (option_or (option_map (routine m) (own_body s c.chosen))) (method_by m cs s n (option_and_then (slice_get cs) c.base))
    ∙ first_body m (own_body s c.chosen) (body_by cs s n (option_and_then (slice_get cs) c.base))

-- ---- a class by its number

class_from : (m : ℕ) (all cs : List families.TypedClass) (first i n : ℕ) → n ≡ first + i → slice_get (classes_from m all first cs) i ≡ option_map (script_class m all n) (slice_get cs i)
class_from m all [] first i n at = refl
class_from m all (c ∷ cs) first zero n at = let same : first ≡ n = omega (arith, at) in ap (λ k. Some (script_class m all k c)) same
class_from m all (c ∷ cs) first (suc i) n at = class_from m all cs (suc first) i n (omega (arith, at))

class_item : (ys : List ClassCode) (i : ℕ) → option_map class_of (slice_get ys i) ≡ slice_get (list_map class_of ys) i
class_item [] i = refl
class_item (y ∷ ys) zero = refl
class_item (y ∷ ys) (suc i) = class_item ys i

-- a class that has its number
in_place : (n : ℕ) (x y : Class) → x ≡ y → y.number ≡ n → (if nat_eq x.number n then Some x else None) ≡ Some y
in_place n x y same at =
    ap (λ (k : Class). if nat_eq k.number n then Some k else None) same
    ∙ ap (λ b. if b then Some y else None) (eq-eqb y.number n at)

class_as : (m n : ℕ) (all : List families.TypedClass) (o : Option ClassCode) (q : Option families.TypedClass) → option_map class_of o ≡ option_map (script_class m all n) q
    → numbered n o ≡ option_map (class_in all n) q
class_as m n all None None e = refl
class_as m n all None (Some c) e = absurd (cc)
class_as m n all (Some y) None e = absurd (cc)
class_as m n all (Some y) (Some c) e =
    let same : class_of y ≡ script_class m all n c = cc in
    in_place n y.class (class_in all n c) (ap (λ (x : ScriptClass). x.class) same) refl

methods_as : (m n s : ℕ) (all : List families.TypedClass) (o : Option ClassCode) (q : Option families.TypedClass) → option_map class_of o ≡ option_map (script_class m all n) q
    → method_in (methods_in o) s ≡ method_in (methods_by m all (length all) q) s
methods_as m n s all None None e = refl
methods_as m n s all None (Some c) e = absurd (cc)
methods_as m n s all (Some y) None e = absurd (cc)
methods_as m n s all (Some y) (Some c) e =
    let same : class_of y ≡ script_class m all n c = cc in
    ap (λ (x : ScriptClass). x.method s) same

module _ (m : ℕ) (all : List families.TypedClass) (ys : List ClassCode) (same : list_map class_of ys ≡ classes_from m all 0 all) where
  there : (n : ℕ) → option_map class_of (slice_get ys n) ≡ option_map (script_class m all n) (slice_get all n)
  there n = class_item ys n ∙ ap (λ l. slice_get l n) same ∙ class_from m all all 0 n n (omega arith)

  pub class_same : (n : ℕ) → numbered n (slice_get ys n) ≡ class_among all n
  class_same n = class_as m n all (slice_get ys n) (slice_get all n) (there n)

  pub method_same : (n s : ℕ) → method_in (methods_in (slice_get ys n)) s ≡ method_among m all n s
  method_same n s =
      methods_as m n s all (slice_get ys n) (slice_get all n) (there n)
      ∙ method_by m all s (length all) (slice_get all n)
