-- A worked example. The tree of these scripts is typed, in a setting where all modules are of them; so is a world in which null is handed on, and the run faults there.
--
--     class Leaf { int n; }
--     class Branch { Leaf@ leaf; }
--     int number_of(Branch@ b) { return b.leaf.n; }
use Rattle.std.proofs.Common.{◌≡◌, ◌≢◌, ℕ, zero, suc, ◌<◌, List, [], ◌∷◌, Option, Some, None, refl, sym, ap, ◌∙◌, subst, unwrap_or, arith}
use Rattle.std.specs.Prelude.{Bool, true, false, ◌||◌, nat_eq, slice_get}
use Rattle.std.specs.FinMap as map
use Rattle.std.specs.FinMap.{get-empty}
use Rattle.std.specs.Ordering.{nat_cmp}
use Rattle.std.proofs.lemmas.Bool.{eqb-true}
use Rattle.ang_kinds.specs.declared.primitive.Primitive.TheVariants.{I32}
use Rattle.ang_kinds.specs.declared.fault.Fault.TheVariants.{Null, Unbound, Budget, NoObject, Memory}
use Rattle.ang_kinds.specs.declared.types.Pass.TheVariants as pass
use Rattle.ang_host.specs.State.{count_of}
use Rattle.ang_types.specs.declared.arg_type.ArgType.{ArgType}
use Rattle.ang_types.specs.declared.arg_type.ArgType.TheVariants as type
use Rattle.ang_typed.specs.declared.expression.TypedMember.TheVariants as member
use Rattle.ang_typed.specs.declared.expression.TypedVariable.TheVariants as variable
use Rattle.ang_typed.specs.declared.program.TypedClass as families
use Rattle.ang_typed.specs.Typed as t
use Rattle.ang_meaning.specs.declared.routine.Routine.{Routine}
use Rattle.ang_meaning.specs.declared.slot.Slot.TheVariants.{Script}
use Rattle.ang_meaning.specs.World.{World, ScriptRecord, Input, Room, hold, tally_step, one_more, memory_step, give, given}
use Rattle.ang_meaning.specs.Environment.{Environment, class_in}
use Rattle.ang_meaning.specs.Perform.{perform}
use Rattle.ang_meaning.specs.Results.{Raises}
use Rattle.ang_meaning.specs.Counting.{Thing, KeyOf, NumberOf, names, IsCounted}
use Rattle.ang_meaning.proofs.Counted.{counted_as}
use Rattle.ang_meaning.proofs.Roots.{nothing_counted}
use Rattle.ang_source.specs.Meaning.{class_among, heading_among, method_among, passings_in, routine, called_with}
use Rattle.ang_source_typed.specs.Types.{SlotType, Number, Key, Family, Modules, IsUnder, IsGood, field_types}
use Rattle.ang_source_typed.specs.TypedProgram.{Signature, HasSignature, signature_of, TypesBody, AreClasses, TypedProgram}
use Rattle.ang_source_typed.specs.Guarded.{causes}
use Rattle.ang_source_typed.specs.Guarded as guarded
use Rattle.ang_source_typed.specs.Runs.{IsTypedSetting, sources, reply_named}
use Rattle.ang_source_typed.proofs.Causes.{calls_tell_causes}

-- ---- the scripts

abbrev leaf : ArgType
leaf = type.Handle 1024 false

abbrev branch : ArgType
branch = type.Handle 1025 false

abbrev family : List ArgType → ℕ → families.TypedClass
family fields rank = record { fields = fields; base = None; above = []; chosen = []; rank = rank }

abbrev families_here : List families.TypedClass
families_here = family (type.Plain I32 ∷ []) 0 ∷ family (leaf ∷ []) 1 ∷ []

abbrev field_of : t.Expr → ArgType → t.Expr
field_of o ty = t.read (t.member_of o (member.Field 0)) ty

abbrev number_of : t.TypedFunction
number_of = record {
  parameters = record { ty = branch; pass = pass.Value } ∷ [];
  result = type.Plain I32;
  body = t.then (t.return (Some (field_of (field_of (t.read (t.named (variable.Local 0)) branch) leaf) (type.Plain I32)))) t.end;
  positions = [];
}

abbrev program : t.Program
program = record { functions = number_of ∷ []; globals = []; classes = families_here; methods = []; imports = [] }

abbrev is_one_of_two : ℕ → Bool
is_one_of_two zero = true
is_one_of_two (suc zero) = true
is_one_of_two (suc (suc c)) = false

abbrev modules : Modules
modules = λ m. record { view = []; program = program; is_class = is_one_of_two; is_constructor = λ k. false }

abbrev setting : Environment
setting = record {
  name = λ m. [];
  host = λ m e. None;
  imported = λ m i. None;
  linked = λ m i. None;
  class = λ m c. class_among families_here c;
  method = λ m c s. method_among m families_here c s;
  slot = λ m s. heading_among [] s;
  params = λ g. slice_get (passings_in program) g.number;
  nesting = 200;
}

-- ---- they are typed

one_of : (b : Bool) (d k : ℕ) → nat_eq d k ≡ b → (b || false) ≡ true → d ≡ k
one_of true d k e h = eqb-true d k e
one_of false d k e h = absurd (let x : ⊥ = cc in x)

-- neither class stands under the other
itself_alone : (m c d : ℕ) → IsUnder setting modules m c d → d ≡ c
itself_alone m zero d h = one_of (nat_eq d 0) d 0 refl h
itself_alone m (suc zero) d h = one_of (nat_eq d 1) d 1 refl h
itself_alone m (suc (suc c)) d h = absurd (let x : ⊥ = cc in x)

is_itself : (m c : ℕ) → is_one_of_two c ≡ true → IsUnder setting modules m c c
is_itself m zero h = refl
is_itself m (suc zero) h = refl
is_itself m (suc (suc c)) h = absurd (let x : ⊥ = cc in x)

abbrev family_in : Option SlotType → ℕ
family_in None = 0
family_in (Some Number) = 0
family_in (Some (Key d)) = 0
family_in (Some (Family m c)) = c

-- what a leaf's number holds is no object; a branch holds leaves
ranks_fall : (m c d e i : ℕ) → slice_get (field_types modules m c) i ≡ Some (Family m d) → IsUnder setting modules m e d
    → (class_in (setting.class m e)).rank < (class_in (setting.class m c)).rank
ranks_fall m zero d e zero h u = absurd (let x : ⊥ = cc in x)
ranks_fall m zero d e (suc i) h u = absurd (let x : ⊥ = cc in x)
ranks_fall m (suc zero) d zero zero h u = omega arith
ranks_fall m (suc zero) d (suc zero) zero h u = let held : 0 ≡ d = ap family_in h in let other : 1 ≡ d = sym (itself_alone m 1 d u) in absurd (omega (arith, held, other))
ranks_fall m (suc zero) d (suc (suc e)) zero h u = absurd (let x : ⊥ = cc in x)
ranks_fall m (suc zero) d e (suc i) h u = absurd (let x : ⊥ = cc in x)
ranks_fall m (suc (suc c)) d e i h u = absurd (let x : ⊥ = cc in x)

classes_typed : (m : ℕ) → AreClasses setting modules m
classes_typed m = record {
  itself = is_itself m;
  above = λ c d e h k. subst (λ x. IsUnder setting modules m x e) (itself_alone m c d h) k;
  inherits = λ c d i ty h k. subst (λ x. slice_get (field_types modules m x) i ≡ Some ty) (itself_alone m c d h) k;
  falls = ranks_fall m;
}

body_typed : (m : ℕ) → TypesBody setting modules m (signature_of setting modules m number_of.parameters number_of.result) number_of.body
body_typed m = record {
  statements = ((Number, Family m 0, (Family m 0, Family m 1, (Family m 1, refl, (refl, refl)), (1, refl, refl), (refl, refl)), (0, refl, refl), tt), tt);
  ends = λ h. refl;
}

function_typed : (m k : ℕ) (s : Signature) (f : t.TypedFunction) → slice_get (number_of ∷ []) k ≡ Some f → s ≡ signature_of setting modules m f.parameters f.result → TypesBody setting modules m s f.body
function_typed m zero s f h e =
    let same : number_of ≡ f = ap (λ o. unwrap_or o number_of) h in
    subst (λ q. TypesBody setting modules m q f.body) (sym e) (subst (λ (g : t.TypedFunction). TypesBody setting modules m (signature_of setting modules m g.parameters g.result) g.body) same (body_typed m))
function_typed m (suc k) s f h e = absurd (let x : ⊥ = cc in x)

program_typed : (m : ℕ) → TypedProgram setting modules m
program_typed m = record {
  classes = classes_typed m;
  functions = λ k s f. function_typed m k s f.function f.there f.signature;
  globals = λ g x h. absurd (let x : ⊥ = cc in x);
}

pub setting_typed : IsTypedSetting setting modules
setting_typed = record {
  trees = λ m. record { bodies = λ k. refl; slots = λ s. refl; classes = λ c. refl };
  programs = program_typed;
  links = λ m i g s h k. absurd (let x : ⊥ = cc in x);
}

-- ---- null is handed on

abbrev start : List Input → World
start is = record { objects = map.empty; hosts = λ d. map.empty; globals = []; events = []; reserved = 0; spent = false; bounds = record { events = 10; slots = 10; objects = 10 }; inputs = is }

null_names : (x : Thing) → names x (Script None) ≡ 0
null_names (KeyOf d k) = refl
null_names (NumberOf n) = refl

start_counted : (is : List Input) → IsCounted [] (start is)
start_counted is = nothing_counted (start is) refl (λ d k. ap count_of (get-empty nat_cmp k)) (λ x. refl)

nothing_there : (n : ℕ) (o : ScriptRecord) → map.get (map.empty {X = ScriptRecord} {R = nat_cmp}) n ≡ Some o → ⊥
nothing_there n o h = let e : None ≡ Some o = sym (get-empty nat_cmp n) ∙ h in let x : ⊥ = cc in x

pub start_good : (is : List Input) → IsGood setting modules (Family 0 1 ∷ []) (Script None ∷ []) (start is)
start_good is = record {
  own = λ n. 0;
  places = (tt, tt);
  world = record { objects = λ n o h. absurd (nothing_there n o h); globals = λ m. tt };
  counted = counted_as [] (Script None ∷ []) (start is) (λ x. omega (arith, null_names x)) (start_counted is);
}

abbrev first : Routine
first = routine 0 0

-- the run on one tick, where there is room for its frame
pub run_faults : called_with setting (sources modules) 1 first (Script None ∷ []) (start (Room true ∷ [])) ≡ Raises Null (start [])
unfolding hold tally_step one_more memory_step give given perform
run_faults = refl

has_number_of : HasSignature setting modules 0 0 (signature_of setting modules 0 number_of.parameters number_of.result)
has_number_of = record { function = number_of; there = refl; signature = refl }

budget_no_null : Budget ≢ Null
budget_no_null h = let x : ⊥ = cc in x

budget_no_unbound : Budget ≢ Unbound
budget_no_unbound h = let x : ⊥ = cc in x

-- it is of null: where that has another fault, so has the run
pub null_told : guarded.called_with (causes Budget NoObject Memory) setting (sources modules) 1 first (Script None ∷ []) (start (Room true ∷ [])) ≡ Raises NoObject (start [])
null_told =
    calls_tell_causes setting modules Budget NoObject Memory budget_no_null budget_no_unbound setting_typed 1 first (signature_of setting modules 0 number_of.parameters number_of.result) (Script None ∷ [])
    (start (Room true ∷ [])) has_number_of (start_good (Room true ∷ []))
    ∙ ap (reply_named NoObject Memory) run_faults
