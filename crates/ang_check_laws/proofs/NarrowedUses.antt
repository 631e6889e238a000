-- What a program uses is in what is kept of a view.
use Rattle.std.specs.Prelude.{◌≡◌, ℕ, ◌==◌, All, Bool, true, false, ◌||◌, List, [], ◌∷◌, ◌++◌}
use Rattle.std.specs.List.{AllByRecursion, flat_map}
use Rattle.std.proofs.Common.{refl}
use Rattle.std.proofs.lemmas.Bool.{eq-eqb}
use Rattle.std.proofs.lemmas.List.Elements.{All-from_recursion, recursion_from_All}
use Rattle.ang_view.specs.Only.{only}
use Rattle.ang_view.specs.Registration.{RegistrationList, entry_at}
use Rattle.ang_view.proofs.Keeping.{kept_stays}
use Rattle.ang_tree.specs.Stmt.{Every}
use Rattle.ang_typed.specs.declared.program.Heading.{Heading}
use Rattle.ang_typed.specs.declared.program.TypedClass.{TypedClass}
use Rattle.ang_typed.specs.Typed as t
use Rattle.ang_typed.specs.Uses.{class_uses, function_uses, global_uses, heading_uses, uses}
use Rattle.ang_engine_build.specs.Narrowed.{is_among, narrowed}
use Rattle.ang_check_laws.specs.Narrowed.{HasUses}

-- ---- parts of a list of numbers

pub front_of : (P : ℕ → Type 0) (ms ns : List ℕ) → AllByRecursion P (ms ++ ns) → AllByRecursion P ms
front_of P [] ns h = tt
front_of P (m ∷ ms) ns h = (h.0, front_of P ms ns h.1)

pub back_of : (P : ℕ → Type 0) (ms ns : List ℕ) → AllByRecursion P (ms ++ ns) → AllByRecursion P ns
back_of P [] ns h = h
back_of P (m ∷ ms) ns h = back_of P ms ns h.1

-- those of each item
pub each_of : {A : Type 0} (P : ℕ → Type 0) (f : A → List ℕ) (xs : List A) → AllByRecursion P (flat_map f xs) → Every (λ (x : A). AllByRecursion P (f x)) xs
each_of P f [] h = tt
each_of P f (x ∷ xs) h = (front_of P (f x) (flat_map f xs) h, each_of P f xs (back_of P (f x) (flat_map f xs) h))

-- of each of its functions, globals, classes and imports
pub record EachUses (P : ℕ → Type 0) (p : t.Program) : Type 0 where
  pub functions : Every (λ (f : t.TypedFunction). AllByRecursion P (function_uses f)) p.functions
  pub globals : Every (λ (g : t.Global). AllByRecursion P (global_uses g)) p.globals
  pub classes : Every (λ (c : TypedClass). AllByRecursion P (class_uses c)) p.classes
  pub imports : Every (λ (h : Heading). AllByRecursion P (heading_uses h)) p.imports

each_by : (P : ℕ → Type 0) (p : t.Program) → AllByRecursion P (uses p) → EachUses P p
unfolding uses
each_by P p u =
    let fs = flat_map function_uses p.functions in
    let gs = flat_map global_uses p.globals in
    let cs = flat_map class_uses p.classes in
    let hs = flat_map heading_uses p.methods in
    let is = flat_map heading_uses p.imports in
    let v = back_of P fs (gs ++ (cs ++ (hs ++ is))) u in
    let w = back_of P gs (cs ++ (hs ++ is)) v in
    record {
      functions = each_of P function_uses p.functions (front_of P fs (gs ++ (cs ++ (hs ++ is))) u);
      globals = each_of P global_uses p.globals (front_of P gs (cs ++ (hs ++ is)) v);
      classes = each_of P class_uses p.classes (front_of P cs (hs ++ is) w);
      imports = each_of P heading_uses p.imports (back_of P hs is (back_of P cs (hs ++ is) w));
    }

pub each_uses : (P : ℕ → Type 0) (p : t.Program) → All P (uses p) → EachUses P p
each_uses P p h = each_by P p (recursion_from_All P (uses p) h)

-- ---- what is kept

first_of : (a b : Bool) → a ≡ true → (a || b) ≡ true
first_of true b e = refl
first_of false b e = cc

second_of : (a b : Bool) → b ≡ true → (a || b) ≡ true
second_of true b e = refl
second_of false b e = e

each_among : (P : ℕ → Type 0) (ns : List ℕ) → ((n : ℕ) → is_among ns n ≡ true → P n) → AllByRecursion P ns
each_among P [] h = tt
each_among P (n ∷ ns) h =
    (h n (first_of (n == n) (is_among ns n) (eq-eqb n n refl)), each_among P ns (λ k e. h k (second_of (n == k) (is_among ns k) e)))

pub narrowed_has : (V : RegistrationList) (p : t.Program) → HasUses V (narrowed V p) p
unfolding narrowed
narrowed_has V p =
    let P : ℕ → Type 0 = λ n. entry_at (only (is_among (uses p)) V) n ≡ entry_at V n in
    All-from_recursion P (uses p) (each_among P (uses p) (λ n e. kept_stays (is_among (uses p)) V n e))
