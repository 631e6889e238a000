-- A worked example. The list has types `A` and `C`, and between them a type of the driver of `A` that the module's mask hides. The module makes an `A` and does not
-- write its name, so of the types it keeps none; its program is typed over what it keeps, of which handles are not own.
--
--     int one() { return number(A()); }
use Rattle.std.specs.Prelude.{◌≡◌, ℕ, zero, suc, false, [], ◌∷◌, Some, None, slice_get, unwrap_or}
use Rattle.std.proofs.Common.{arith, refl, sym, ap, subst}
use Rattle.ang_kinds.specs.declared.primitive.Primitive.TheVariants.{I32}
use Rattle.ang_kinds.specs.declared.types.Pass.TheVariants as pass
use Rattle.ang_kinds.specs.declared.types.Shape.TheVariants as shape
use Rattle.ang_kinds.specs.declared.types.TypeRef.{TypeRef}
use Rattle.ang_kinds.specs.declared.types.TypeRef.TheVariants as ref
use Rattle.ang_view.specs.declared.entry.Entry.{Entry}
use Rattle.ang_view.specs.declared.entry.EntryKind.TheVariants as entry
use Rattle.ang_view.specs.Only.{only}
use Rattle.ang_view.specs.Registration.{RegistrationList}
use Rattle.ang_types.specs.declared.arg_type.ArgType.TheVariants as type
use Rattle.ang_typed.specs.declared.expression.HostEntity.{HostEntity}
use Rattle.ang_typed.specs.Typed as t
use Rattle.ang_typed.specs.Uses.{uses}
use Rattle.ang_meaning.specs.Environment.{Environment}
use Rattle.ang_source.specs.Hosts.{use_in, use_of}
use Rattle.ang_source.specs.Meaning.{class_among, heading_among, method_among, passings_in}
use Rattle.ang_source_typed.specs.Types.{Key, Modules, IsUnder}
use Rattle.ang_source_typed.specs.TypedProgram.{AreClasses, Signature, TypesBody, TypedProgram, by_value, signature_of}
use Rattle.ang_engine_build.specs.Narrowed.{narrowed}
use Rattle.ang_check_laws.specs.HostTypes.{HandlesAreOwn}
use Rattle.ang_check_laws.specs.Narrowed.{asking, seeing}
use Rattle.ang_check_laws.proofs.NarrowedPrograms.{narrowed_typed}

-- ---- the list

abbrev handle : TypeRef
handle = ref.Object (65 ∷ []) shape.Handle false false

abbrev host_type_entry : ℕ → ℕ → Entry
host_type_entry name driver = record {
  kind = entry.HostType;
  owner = None;
  driver = driver;
  f = 0;
  signature = record { name = name ∷ []; result = ref.Void; params = []; read_only = false };
  mask = record { 0 = 1 };
}

abbrev maker : Entry
maker = record {
  kind = entry.Factory;
  owner = Some (record { 0 = 0 });
  driver = 1;
  f = 7;
  signature = record { name = 65 ∷ []; result = handle; params = []; read_only = false };
  mask = record { 0 = 1 };
}

abbrev number : Entry
number = record {
  kind = entry.Function;
  owner = None;
  driver = 1;
  f = 8;
  signature = record { name = 110 ∷ []; result = ref.Plain I32; params = record { ty = handle; pass = pass.Value; read_only = false; name = [] } ∷ []; read_only = false };
  mask = record { 0 = 1 };
}

abbrev list : RegistrationList
list = Some (host_type_entry 65 1) ∷ None ∷ Some (host_type_entry 67 2) ∷ Some maker ∷ Some number ∷ []

-- ---- the program

abbrev entity : ℕ → ℕ → HostEntity
entity n f = record { entity = record { 0 = n }; driver = 1; f = f }

abbrev one : t.TypedFunction
one = record {
  parameters = [];
  result = type.Plain I32;
  body = t.then (t.return (Some (t.host_call (entity 4 8) (type.Plain I32) (t.more (t.by_value (type.Handle 0 false) (t.host_call (entity 3 7) (type.Handle 0 false) t.none)) t.none)))) t.end;
  positions = [];
}

abbrev program : t.Program
program = record { functions = one ∷ []; globals = []; classes = []; methods = []; imports = [] }

abbrev modules : Modules
modules = λ m. record { view = narrowed list program; program = program; is_class = λ c. false; is_constructor = λ k. false }

abbrev setting : Environment
setting = record {
  name = λ m. [];
  host = λ m e. use_in (narrowed list program) e;
  imported = λ m i. None;
  linked = λ m i. None;
  class = λ m c. class_among [] c;
  method = λ m c s. method_among m [] c s;
  slot = λ m s. heading_among [] s;
  params = λ g. slice_get (passings_in program) g.number;
  nesting = 200;
}

-- ---- over all of the list

no_class : (m c d : ℕ) → IsUnder (asking list setting) (seeing list modules) m c d → ⊥
no_class m c d h = let x : ⊥ = cc in x

whole_classes : (m : ℕ) → AreClasses (asking list setting) (seeing list modules) m
whole_classes m = record {
  itself = λ c h. absurd (let x : ⊥ = cc in x);
  above = λ c d e h k. absurd (no_class m c d h);
  inherits = λ c d i ty h k. absurd (no_class m c d h);
  falls = λ c d e i h k. absurd (no_class m e d k);
}

whole_body : (m : ℕ) → TypesBody (asking list setting) (seeing list modules) m (signature_of (asking list setting) (seeing list modules) m [] (type.Plain I32)) one.body
whole_body m = record {
  statements = ((use_of number, refl, refl, (by_value (Key 1), ((λ e. cc), (use_of maker, refl, refl, refl, refl)), refl), tt), tt);
  ends = λ h. refl;
}

whole_function : (m k : ℕ) (s : Signature) (f : t.TypedFunction) → slice_get (one ∷ []) k ≡ Some f
    → s ≡ signature_of (asking list setting) (seeing list modules) m f.parameters f.result → TypesBody (asking list setting) (seeing list modules) m s f.body
whole_function m zero s f h e =
    let same : one ≡ f = ap (λ o. unwrap_or o one) h in
    subst (λ q. TypesBody (asking list setting) (seeing list modules) m q f.body) (sym e)
    (subst (λ (g : t.TypedFunction). TypesBody (asking list setting) (seeing list modules) m (signature_of (asking list setting) (seeing list modules) m g.parameters g.result) g.body) same (whole_body m))
whole_function m (suc k) s f h e = absurd (let x : ⊥ = cc in x)

whole_typed : (m : ℕ) → TypedProgram (asking list setting) (seeing list modules) m
whole_typed m = record {
  classes = whole_classes m;
  functions = λ k s f. whole_function m k s f.function f.there f.signature;
  globals = λ g x h. absurd (let no' : ⊥ = cc in no');
}

-- ---- over what is kept

kept_is : narrowed list program ≡ None ∷ None ∷ None ∷ Some maker ∷ Some number ∷ []
unfolding narrowed uses only
kept_is = refl

pub kept_typed : (m : ℕ) → TypedProgram setting modules m
kept_typed m = narrowed_typed list setting modules m refl (record { each = λ e. refl }) (whole_typed m)

-- the type of what the factory makes is not there
pub kept_not_own : HandlesAreOwn (narrowed list program) → ⊥
kept_not_own h =
    let own : HandlesAreOwn (None ∷ None ∷ None ∷ Some maker ∷ Some number ∷ []) = subst HandlesAreOwn kept_is h in
    let wrong : 0 ≡ 1 = (own 3 maker refl).owner in
    omega (arith, wrong)
