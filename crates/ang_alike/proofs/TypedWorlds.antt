-- Objects and globals keep their types where other modules stand: those of a module that is not there any more are gone, since only its own globals and
-- objects held them.
use Rattle.std.proofs.Common.{◌≡◌, ◌≢◌, ◌<◌, ◌+◌, ◌-◌, ◌==◌, refl, sym, ap, ◌∙◌, subst, arith, ℕ, zero, suc, Bool, true, false, List, [], ◌∷◌, map, Some, None}
use Rattle.std.specs.Prelude.{cond, nat_eq, nat_lt, if◌then◌else◌, length, slice_get, slice_set, slice_index_or}
use Rattle.std.specs.List.{list_any}
use Rattle.std.specs.FinMap as finmap
use Rattle.std.proofs.lemmas.Bool.{eqb-true}
use Rattle.ang_view.specs.Registration.{RegistrationList, entry_at}
use Rattle.ang_types.specs.declared.arg_type.ArgType.{ArgType}
use Rattle.ang_types.specs.declared.arg_type.ArgType.TheVariants as type
use Rattle.ang_typed.specs.Typed as t
use Rattle.ang_meaning.specs.declared.slot.Slot.{Slot}
use Rattle.ang_meaning.specs.declared.slot.Slot.TheVariants.{Bits, Script, Host}
use Rattle.ang_meaning.specs.World.{World, ScriptRecord, ScriptObjects, give}
use Rattle.ang_meaning.specs.Environment.{Environment, class_in}
use Rattle.ang_meaning.specs.Results.{give_back}
use Rattle.ang_meaning.specs.Counting.{Thing, NumberOf, names, how_many, in_lists, sum_over, in_fields, count_of_object, count_in, IsBelow, AreBelow, IsCounted}
use Rattle.ang_meaning.proofs.Tables.{sum-bound, entry_of_sum}
use Rattle.ang_meaning.proofs.Typed.{AreKept, kept_same, kept_then, give_kept_all}
use Rattle.ang_source.specs.Meaning.{fields_by, default_in}
use Rattle.ang_source_typed.specs.Types.{SlotType, Number, Key, Family, TypedModule, Modules, Owners, HasType, AllTyped, IsTypedObject, IsTypedWorld, IsGood, driver_of, first_family, slot_type, field_types, global_types}
use Rattle.ang_source_typed.proofs.Values.{Leads, leads_world}
use Rattle.ang_source_typed.proofs.Making.{default_typed}
use Rattle.ang_engine_modules.specs.Executed.{first_globals}
use Rattle.ang_engine_modules.specs.World.{globals_ended}
use Rattle.ang_alike.proofs.Globals.{back_globals, ended_counted, ended_none}
use Rattle.ang_alike.proofs.ByNumber.{by_number}

-- ---- types of one module

-- of no other module's family
abbrev IsOf : ℕ → SlotType → Type 0
IsOf m Number = Unit {0}
IsOf m (Key d) = Unit {0}
IsOf m (Family k c) = k ≡ m

abbrev AreOf : ℕ → List SlotType → Type 0
AreOf m [] = Unit {0}
AreOf m (ty ∷ types) = IsOf m ty × AreOf m types

object_is_of : (V : RegistrationList) (m n : ℕ) (b : Bool) → IsOf m (if b then Key (driver_of (entry_at V n)) else Family m (n - first_family))
object_is_of V m n true = tt
object_is_of V m n false = refl

slot_is_of : (V : RegistrationList) (m : ℕ) (ty : ArgType) → IsOf m (slot_type V m ty)
slot_is_of V m type.Void = tt
slot_is_of V m type.Null = tt
slot_is_of V m (type.Plain p) = tt
slot_is_of V m (type.Enumeration n) = tt
slot_is_of V m (type.Object n c) = object_is_of V m n (nat_lt n first_family)
slot_is_of V m (type.Handle n c) = object_is_of V m n (nat_lt n first_family)

slots_are_of : (V : RegistrationList) (m : ℕ) (tys : List ArgType) → AreOf m (map (slot_type V m) tys)
slots_are_of V m [] = tt
slots_are_of V m (ty ∷ tys) = (slot_is_of V m ty, slots_are_of V m tys)

-- the types of a module's fields and globals, by what typing knows of it alone
abbrev fields_in : TypedModule → ℕ → ℕ → List SlotType
fields_in x m c = map (slot_type x.view m) (fields_by x.program.classes (length x.program.classes) (slice_get x.program.classes c))

abbrev pub globals_in : TypedModule → ℕ → List SlotType
globals_in x m = map (λ (g : t.Global). slot_type x.view m g.ty) x.program.globals

fields_are_of : (ms : Modules) (m c : ℕ) → AreOf m (field_types ms m c)
fields_are_of ms m c = slots_are_of (ms m).view m (fields_by (ms m).program.classes (length (ms m).program.classes) (slice_get (ms m).program.classes c))

each_global_is_of : (V : RegistrationList) (m : ℕ) (gs : List t.Global) → AreOf m (map (λ (g : t.Global). slot_type V m g.ty) gs)
each_global_is_of V m [] = tt
each_global_is_of V m (g ∷ gs) = (slot_is_of V m g.ty, each_global_is_of V m gs)

globals_are_of : (ms : Modules) (m : ℕ) → AreOf m (global_types ms m)
globals_are_of ms m = each_global_is_of (ms m).view m (ms m).program.globals

-- ---- in another setting

-- a module has the same classes in both
abbrev pub SameClasses : Environment → Environment → ℕ → Type 0
SameClasses z u m = (c : ℕ) → u.class m c ≡ z.class m c

module _ (z u : Environment) (ms ns : Modules) (own : Owners) where
  again : (os : ScriptObjects) (m : ℕ) (ty : SlotType) (v : Slot) → SameClasses z u m → IsOf m ty → HasType z ms own os ty v → HasType u ns own os ty v
  again os m Number (Bits n) s i h = tt
  again os m Number (Script k) s i h = h
  again os m Number (Host d k) s i h = h
  again os m (Key d) (Bits n) s i h = h
  again os m (Key d) (Script None) s i h = tt
  again os m (Key d) (Script (Some n)) s i h = h
  again os m (Key d) (Host e None) s i h = tt
  again os m (Key d) (Host e (Some k)) s i h = h
  again os m (Family k c) (Bits n) s i h = h
  again os m (Family k c) (Script None) s i h = tt
  again os m (Family k c) (Script (Some n)) s i h = λ o g.
      let p = h o g in
      let same : u.class k o.class ≡ z.class k o.class = subst (λ j. u.class j o.class ≡ z.class j o.class) (sym i) (s o.class) in
      (p.0, subst (λ x. list_any (nat_eq c) (class_in x).under ≡ true) (sym same) p.1)
  again os m (Family k c) (Host d j) s i h = h

  pub all_again : (os : ScriptObjects) (m : ℕ) (types : List SlotType) (vs : List Slot) → SameClasses z u m → AreOf m types → AllTyped z ms own os types vs → AllTyped u ns own os types vs
  all_again os m [] [] s i h = tt
  all_again os m [] (v ∷ vs) s i h = h
  all_again os m (ty ∷ types) [] s i h = h
  all_again os m (ty ∷ types) (v ∷ vs) s i h = (again os m ty v s i.0 h.0, all_again os m types vs s i.1 h.1)

  object_again : (os : ScriptObjects) (n : ℕ) (o : ScriptRecord) → SameClasses z u (own n) → ns (own n) ≡ ms (own n) → IsTypedObject z ms own os n o → IsTypedObject u ns own os n o
  object_again os n o s e h = record {
    fields = subst (λ (types : List SlotType). AllTyped u ns own os types o.fields) (sym (ap (λ (x : TypedModule). fields_in x (own n) o.class) e))
        (all_again os (own n) (field_types ms (own n) o.class) o.fields s (fields_are_of ms (own n) o.class) h.fields);
    rank = h.rank ∙ ap (λ c. (class_in c).rank) (sym (s o.class));
    made = ap (λ (x : TypedModule). x.is_class o.class) e ∙ h.made;
  }

  -- the globals of a module that stays
  globals_again : (os : ScriptObjects) (m : ℕ) (vs ws : List Slot) → SameClasses z u m → ns m ≡ ms m → ws ≡ vs → AllTyped z ms own os (global_types ms m) vs
      → AllTyped u ns own os (global_types ns m) ws
  globals_again os m vs ws s e same h =
      subst (λ (xs : List Slot). AllTyped u ns own os (global_types ns m) xs) (sym same)
      (subst (λ (types : List SlotType). AllTyped u ns own os types vs) (sym (ap (λ (x : TypedModule). globals_in x m) e)) (all_again os m (global_types ms m) vs s (globals_are_of ms m) h))

-- where all modules stay
pub good_again : (z u : Environment) (ms ns : Modules) (w : World) → ((m : ℕ) → SameClasses z u m) → ((m : ℕ) → ns m ≡ ms m) → IsGood z ms [] [] w → IsGood u ns [] [] w
good_again z u ms ns w s e g = record {
  own = g.own;
  places = tt;
  world = record {
    objects = λ n o there. object_again z u ms ns g.own w.objects n o (s (g.own n)) (e (g.own n)) (g.world.objects n o there);
    globals = λ m. globals_again z u ms ns g.own w.objects m (slice_index_or w.globals m []) (slice_index_or w.globals m []) (s m) (e m) refl (g.world.globals m);
  };
  counted = g.counted;
}

-- ---- what is left without a module

names_if : (b : Bool) (k : ℕ) → (b ≡ true → ⊥) → cond b (suc k) 0 ≡ 0
names_if true k h = absurd (h refl)
names_if false k h = refl

-- an object that stands among fields is below them
below_if : (b : Bool) (os : ScriptObjects) (r j n : ℕ) (o : ScriptRecord) (rest : ℕ) → nat_eq j n ≡ b → finmap.get os n ≡ Some o → IsBelow os r (Script (Some j))
    → (0 < rest → o.rank < r) → 0 < cond b 1 0 + rest → o.rank < r
below_if true os r j n o rest e g p h lt = p o (ap (finmap.get os) (eqb-true j n e) ∙ g)
below_if false os r j n o rest e g p h lt = h (omega (arith, lt))

named_below : (os : ScriptObjects) (r n : ℕ) (o : ScriptRecord) (vs : List Slot) → finmap.get os n ≡ Some o → AreBelow os r vs → 0 < how_many (NumberOf n) vs → o.rank < r
named_below os r n o [] g p lt = absurd (omega (arith, lt))
named_below os r n o (Bits x ∷ vs) g p lt = named_below os r n o vs g p.1 (omega (arith, lt))
named_below os r n o (Script None ∷ vs) g p lt = named_below os r n o vs g p.1 (omega (arith, lt))
named_below os r n o (Script (Some j) ∷ vs) g p lt = below_if (nat_eq j n) os r j n o (how_many (NumberOf n) vs) refl g p.0 (named_below os r n o vs g p.1) lt
named_below os r n o (Host d k ∷ vs) g p lt = named_below os r n o vs g p.1 (omega (arith, lt))

lists_none : (x : Thing) (gs : List (List Slot)) → ((m : ℕ) → how_many x (slice_index_or gs m []) ≡ 0) → in_lists x gs ≡ 0
lists_none x [] h = refl
lists_none x (l ∷ ls) h =
    let first : how_many x l ≡ 0 = h 0 in
    let rest : in_lists x ls ≡ 0 = lists_none x ls (λ m. h (suc m)) in
    omega (arith, first, rest)

other_list : (gs : List (List Slot)) (i m : ℕ) (l : List Slot) → m ≢ i → slice_index_or (slice_set gs i l) m [] ≡ slice_index_or gs m []
other_list [] i m l ne = refl
other_list (g ∷ gs) zero zero l ne = absurd (ne refl)
other_list (g ∷ gs) zero (suc m) l ne = refl
other_list (g ∷ gs) (suc i) zero l ne = refl
other_list (g ∷ gs) (suc i) (suc m) l ne = other_list gs i m l (λ e. ne (ap suc e))

module _ (z : Environment) (ms : Modules) (own : Owners) where
  -- no place of another module names an object
  script_not_named : (os : ScriptObjects) (m j n : ℕ) (ty : SlotType) (o : ScriptRecord) → finmap.get os n ≡ Some o → own n ≢ m → IsOf m ty → HasType z ms own os ty (Script (Some j))
      → nat_eq j n ≡ true → ⊥
  script_not_named os m j n Number o g ne i h e = h
  script_not_named os m j n (Key d) o g ne i h e = h
  script_not_named os m j n (Family k c) o g ne i h e =
      let same : j ≡ n = eqb-true j n e in
      let p = h o (ap (finmap.get os) same ∙ g) in
      ne (ap own (sym same) ∙ p.0 ∙ i)

  one_not_named : (os : ScriptObjects) (m n : ℕ) (ty : SlotType) (v : Slot) (o : ScriptRecord) → finmap.get os n ≡ Some o → own n ≢ m → IsOf m ty → HasType z ms own os ty v → names (NumberOf n) v ≡ 0
  one_not_named os m n ty (Bits k) o g ne i h = refl
  one_not_named os m n ty (Script None) o g ne i h = refl
  one_not_named os m n ty (Script (Some j)) o g ne i h = names_if (nat_eq j n) 0 (λ e. script_not_named os m j n ty o g ne i h e)
  one_not_named os m n ty (Host d k) o g ne i h = refl

  not_named : (os : ScriptObjects) (m n : ℕ) (types : List SlotType) (vs : List Slot) (o : ScriptRecord) → finmap.get os n ≡ Some o → own n ≢ m → AreOf m types → AllTyped z ms own os types vs
      → how_many (NumberOf n) vs ≡ 0
  not_named os m n types [] o g ne i h = refl
  not_named os m n [] (v ∷ vs) o g ne i h = absurd h
  not_named os m n (ty ∷ types) (v ∷ vs) o g ne i h =
      let first : names (NumberOf n) v ≡ 0 = one_not_named os m n ty v o g ne i.0 h.0 in
      let rest : how_many (NumberOf n) vs ≡ 0 = not_named os m n types vs o g ne i.1 h.1 in
      omega (arith, first, rest)

  -- Where the globals of module i are gone:
  module _ (i : ℕ) (w : World) (counted : IsCounted [] w) (objects : (n : ℕ) (o : ScriptRecord) → finmap.get w.objects n ≡ Some o → IsTypedObject z ms own w.objects n o)
      (globals : (m : ℕ) → m ≢ i → AllTyped z ms own w.objects (global_types ms m) (slice_index_or w.globals m [])) (none : slice_index_or w.globals i [] ≡ []) where
    no_global : (n : ℕ) (o : ScriptRecord) → finmap.get w.objects n ≡ Some o → own n ≡ i → (m : ℕ) → how_many (NumberOf n) (slice_index_or w.globals m []) ≡ 0
    no_global n o g is m =
        by_number m i (λ e. subst (λ k. how_many (NumberOf n) (slice_index_or w.globals k []) ≡ 0) (sym e) (ap (how_many (NumberOf n)) none))
        (λ ne. not_named w.objects m n (global_types ms m) (slice_index_or w.globals m []) o g (λ q. ne (sym q ∙ is)) (globals_are_of ms m) (globals m ne)) (m == i) refl

    -- an object of it is in a field of one of a greater rank, which is of it too, and so on without end
    no_chain : (d n : ℕ) (o : ScriptRecord) → finmap.get w.objects n ≡ Some o → own n ≡ i → sum_over (λ (x : ScriptRecord). x.rank) w.objects < o.rank + d → ⊥
    no_chain zero n o g is lt = absurd (omega (arith, lt, sum-bound (λ (x : ScriptRecord). x.rank) w.objects n o g))
    no_chain (suc d) n o g is lt =
        let c : count_in (NumberOf n) w ≡ o.count = ap count_of_object g in
        let held : 0 < in_fields (NumberOf n) w.objects = omega (arith, counted.counts.counts (NumberOf n), lists_none (NumberOf n) w.globals (no_global n o g is), c, counted.ordered.alive n o g) in
        let e = entry_of_sum (λ (x : ScriptRecord). how_many (NumberOf n) x.fields) w.objects held in
        let up : o.rank < e.value.rank = named_below w.objects e.value.rank n o e.value.fields g (counted.ordered.falls e.key e.value e.there) e.counts in
        by_number (own e.key) i (λ q. no_chain d e.key e.value e.there q (omega (arith, lt, up)))
        (λ ne.
        let absent : how_many (NumberOf n) e.value.fields ≡ 0 =
        not_named w.objects (own e.key) n (field_types ms (own e.key) e.value.class) e.value.fields o g (λ q. ne (sym q ∙ is)) (fields_are_of ms (own e.key) e.value.class)
        (objects e.key e.value e.there).fields in
        let some : 0 < how_many (NumberOf n) e.value.fields = e.counts in
        absurd (omega (arith, absent, some)))
        (own e.key == i) refl

    none_of_it : (n : ℕ) (o : ScriptRecord) → finmap.get w.objects n ≡ Some o → own n ≢ i
    none_of_it n o g is = no_chain (suc (sum_over (λ (x : ScriptRecord). x.rank) w.objects)) n o g is (omega arith)

-- ---- a module's globals end

-- What is left of a world without module i.
pub record IsLeft (z : Environment) (ms : Modules) (i : ℕ) (w : World) : Type 0 where
  pub own : Owners
  pub objects : (n : ℕ) (o : ScriptRecord) → finmap.get w.objects n ≡ Some o → IsTypedObject z ms own w.objects n o
  pub others : (n : ℕ) (o : ScriptRecord) → finmap.get w.objects n ≡ Some o → own n ≢ i
  pub globals : (m : ℕ) → m ≢ i → AllTyped z ms own w.objects (global_types ms m) (slice_index_or w.globals m [])
  pub none : slice_index_or w.globals i [] ≡ []
  pub counted : IsCounted [] w

back_kept : (vs : List Slot) (w : World) → AreKept w.objects (give_back vs w).objects
back_kept [] w = kept_same w.objects
back_kept (v ∷ vs) w = kept_then w.objects (give_back vs w).objects (give v (give_back vs w)).objects (back_kept vs w) (give_kept_all v (give_back vs w))

pub ended_left : (z : Environment) (ms : Modules) (i : ℕ) (w : World) → IsGood z ms [] [] w → IsLeft z ms i (globals_ended i w)
ended_left z ms i w g =
    let vs = slice_index_or w.globals i [] in
    let bare : World = record w { globals = slice_set w.globals i [] } in
    let v : World = globals_ended i w in
    let kept : Leads w (record v { globals = w.globals }) = (back_kept vs bare, refl) in
    let typed : IsTypedWorld z ms g.own (record v { globals = w.globals }) = leads_world z ms g.own w (record v { globals = w.globals }) kept g.world in
    let same : v.globals ≡ slice_set w.globals i [] = back_globals vs bare in
    let globals : (m : ℕ) → m ≢ i → AllTyped z ms g.own v.objects (global_types ms m) (slice_index_or v.globals m []) =
    λ m ne. subst (λ (xs : List Slot). AllTyped z ms g.own v.objects (global_types ms m) xs) (sym (ap (λ gs. slice_index_or gs m []) same ∙ other_list w.globals i m [] ne)) (typed.globals m) in
    let counted : IsCounted [] v = ended_counted i w g.counted in
    record {
      own = g.own;
      objects = typed.objects;
      others = none_of_it z ms g.own i v counted typed.objects globals (ended_none i w);
      globals = globals;
      none = ended_none i w;
      counted = counted;
    }

-- ---- another module stands in its place

module _ (z u : Environment) (ms ns : Modules) (i : ℕ) (w : World) (h : IsLeft z ms i w) (s : (m : ℕ) → m ≢ i → SameClasses z u m) (e : (m : ℕ) → m ≢ i → ns m ≡ ms m) where
  pub placed_good : (gs : List (List Slot)) → AllTyped u ns h.own w.objects (global_types ns i) (slice_index_or gs i [])
      → ((m : ℕ) → m ≢ i → slice_index_or gs m [] ≡ slice_index_or w.globals m []) → IsCounted [] (record w { globals = gs }) → IsGood u ns [] [] (record w { globals = gs })
  placed_good gs here same counted = record {
    own = h.own;
    places = tt;
    world = record {
      objects = λ n o g. let ne = h.others n o g in object_again z u ms ns h.own w.objects n o (s (h.own n) ne) (e (h.own n) ne) (h.objects n o g);
      globals = λ m.
          by_number m i (λ q. subst (λ k. AllTyped u ns h.own w.objects (global_types ns k) (slice_index_or gs k [])) (sym q) here)
          (λ ne. globals_again z u ms ns h.own w.objects m (slice_index_or w.globals m []) (slice_index_or gs m []) (s m ne) (e m ne) (same m ne) (h.globals m ne)) (m == i) refl;
    };
    counted = counted;
  }

  -- or none
  pub emptied_good : globals_in (ns i) i ≡ [] → IsGood u ns [] [] w
  emptied_good none =
      let here : AllTyped u ns h.own w.objects (global_types ns i) (slice_index_or w.globals i []) =
      subst (λ (types : List SlotType). AllTyped u ns h.own w.objects types (slice_index_or w.globals i [])) (sym none)
      (subst (λ (vs : List Slot). AllTyped u ns h.own w.objects [] vs) (sym h.none) tt) in
      let g = placed_good w.globals here (λ m ne. refl) h.counted in
      record { own = g.own; places = tt; world = record { objects = g.world.objects; globals = g.world.globals }; counted = h.counted }

  -- its globals are of their types before its initializers
  first_typed : (V : RegistrationList) (gs : List t.Global) → AllTyped u ns h.own w.objects (map (λ (g : t.Global). slot_type V i g.ty) gs) (map (λ (g : t.Global). default_in g.ty) gs)
  first_typed V [] = tt
  first_typed V (g ∷ gs) = (default_typed u ns h.own w.objects V i g.ty, first_typed V gs)

  pub begun_good : (p : t.Program) (V : RegistrationList) → globals_in (ns i) i ≡ map (λ (g : t.Global). slot_type V i g.ty) p.globals
      → slice_index_or (slice_set w.globals i (first_globals p)) i [] ≡ first_globals p → IsCounted [] (record w { globals = slice_set w.globals i (first_globals p) })
      → IsGood u ns [] [] (record w { globals = slice_set w.globals i (first_globals p) })
  begun_good p V types there counted =
      placed_good (slice_set w.globals i (first_globals p))
      (subst (λ (vs : List Slot). AllTyped u ns h.own w.objects (global_types ns i) vs) (sym there)
      (subst (λ (tys : List SlotType). AllTyped u ns h.own w.objects tys (first_globals p)) (sym types) (first_typed V p.globals)))
      (λ m ne. other_list w.globals i m (first_globals p) ne) counted
