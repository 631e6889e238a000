-- Where no place outside the fields holds anything, nothing is left: a field cannot hold an object of the greatest rank.
use Rattle.std.proofs.Common.{◌≡◌, ℕ, zero, suc, ◌+◌, ◌<◌, List, [], ◌∷◌, Option, Some, None, refl, sym, ap, ◌∙◌, arith}
use Rattle.std.specs.Prelude.{Bool, true, false, cond, nat_eq}
use Rattle.std.specs.Ordering.{nat_cmp}
use Rattle.std.specs.FinMap as map
use Rattle.std.specs.FinMap.{get-empty, same_map, nat_cmp-IsAntisymmetric}
use Rattle.std.proofs.lemmas.Cmp.{nat_cmp_total}
use Rattle.std.proofs.lemmas.Bool.{eqb-true}
use Rattle.ang_host.specs.State.{count_at}
use Rattle.ang_meaning.specs.declared.slot.Slot.{Slot}
use Rattle.ang_meaning.specs.declared.slot.Slot.TheVariants.{Bits, Script, Host}
use Rattle.ang_meaning.specs.World.{World, ScriptRecord, ScriptObjects}
use Rattle.ang_meaning.specs.Counting.{Thing, KeyOf, NumberOf, how_many, in_lists, sum_over, in_fields, count_of_object, count_in, IsBelow, AreBelow, AreSoundObjects, IsCounted}
use Rattle.ang_meaning.proofs.Tables.{sum-bound, entry_of_sum}

below_if : (b : Bool) (os : ScriptObjects) (r j n : ℕ) (o : ScriptRecord) (rest : ℕ) → nat_eq j n ≡ b → map.get os n ≡ Some o → IsBelow os r (Script (Some j))
    → (0 < rest → o.rank < r) → 0 < cond b 1 0 + rest → o.rank < r
below_if true os r j n o rest t g p h lt = p o (ap (map.get os) (eqb-true j n t) ∙ g)
below_if false os r j n o rest t g p h lt = h (omega (arith, lt))

-- an object that stands among fields is below them
named_below : (os : ScriptObjects) (r n : ℕ) (o : ScriptRecord) (vs : List Slot) → map.get os n ≡ Some o → AreBelow os r vs → 0 < how_many (NumberOf n) vs → o.rank < r
named_below os r n o [] g p lt = absurd (omega (arith, lt))
named_below os r n o (Bits x ∷ vs) g p lt = named_below os r n o vs g p.1 (omega (arith, lt))
named_below os r n o (Script None ∷ vs) g p lt = named_below os r n o vs g p.1 (omega (arith, lt))
named_below os r n o (Script (Some j) ∷ vs) g p lt = below_if (nat_eq j n) os r j n o (how_many (NumberOf n) vs) refl g p.0 (named_below os r n o vs g p.1) lt
named_below os r n o (Host d k ∷ vs) g p lt = named_below os r n o vs g p.1 (omega (arith, lt))

module _ (os : ScriptObjects) (ordered : AreSoundObjects os) (held : (n : ℕ) (o : ScriptRecord) → map.get os n ≡ Some o → 0 < in_fields (NumberOf n) os) where
  -- each object is in a field of one of a greater rank, and so on without end
  no_chain : (d n : ℕ) (o : ScriptRecord) → map.get os n ≡ Some o → sum_over (λ x. x.rank) os < o.rank + d → ⊥
  no_chain zero n o g lt = absurd (omega (arith, lt, sum-bound (λ x. x.rank) os n o g))
  no_chain (suc d) n o g lt =
      let e = entry_of_sum (λ x. how_many (NumberOf n) x.fields) os (held n o g) in
      let up : o.rank < e.value.rank = named_below os e.value.rank n o e.value.fields g (ordered.falls e.key e.value e.there) e.counts in
      no_chain d e.key e.value e.there (omega (arith, lt, up))

  none_there : (n : ℕ) (o : Option ScriptRecord) → map.get os n ≡ o → o ≡ None
  none_there n None g = refl
  none_there n (Some o) g = absurd (no_chain (suc (sum_over (λ x. x.rank) os)) n o g (omega arith))

  no_objects : os ≡ map.empty
  no_objects = same_map nat_cmp_total nat_cmp-IsAntisymmetric os map.empty (λ n. none_there n (map.get os n) refl ∙ sym (get-empty nat_cmp n))

zero_or : (n : ℕ) → (0 < n → ⊥) → n ≡ 0
zero_or zero h = refl
zero_or (suc n) h = absurd (h (omega arith))

none_some : (x : ScriptRecord) → None ≡ Some x → ⊥
none_some x e = let y : ⊥ = cc in y

empty_fields : (x : Thing) → in_fields x map.empty ≡ 0
empty_fields x = zero_or _ (λ lt. let e = entry_of_sum (λ o. how_many x o.fields) map.empty lt in none_some e.value (sym (get-empty nat_cmp e.key) ∙ e.there))

pub no_roots : (w : World) → IsCounted [] w → ((x : Thing) → in_lists x w.globals ≡ 0) → (w.objects ≡ map.empty) × ((d k : ℕ) → count_at (w.hosts d) k ≡ 0)
no_roots w p none =
    let held : (n : ℕ) (o : ScriptRecord) → map.get w.objects n ≡ Some o → 0 < in_fields (NumberOf n) w.objects =
    λ n o g. let c : count_in (NumberOf n) w ≡ o.count = ap count_of_object g in
    omega (arith, p.counts.counts (NumberOf n), none (NumberOf n), c, p.ordered.alive n o g) in
    let e : w.objects ≡ map.empty = no_objects w.objects p.ordered held in
    (e, λ d k. omega (arith, p.counts.counts (KeyOf d k), none (KeyOf d k), ap (in_fields (KeyOf d k)) e, empty_fields (KeyOf d k)))

no_object : (n : ℕ) (o : ScriptRecord) (os : ScriptObjects) → os ≡ map.empty → map.get os n ≡ Some o → ⊥
no_object n o os e g = none_some o (sym (get-empty nat_cmp n) ∙ ap (λ m. map.get m n) (sym e) ∙ g)

count_none : (x : Thing) (w : World) → w.objects ≡ map.empty → ((d k : ℕ) → count_at (w.hosts d) k ≡ 0) → count_in x w ≡ 0
count_none (KeyOf d k) w e h = h d k
count_none (NumberOf n) w e h = ap (λ os. count_of_object (map.get os n)) e ∙ ap count_of_object (get-empty nat_cmp n)

-- and where nothing is there and nothing is held, all is counted
pub nothing_counted : (w : World) → w.objects ≡ map.empty → ((d k : ℕ) → count_at (w.hosts d) k ≡ 0) → ((x : Thing) → in_lists x w.globals ≡ 0) → IsCounted [] w
nothing_counted w e h none = record {
  counts = record { counts = λ x. omega (arith, count_none x w e h, none x, ap (in_fields x) e, empty_fields x) };
  ordered = record {
    alive = λ n o g. absurd (no_object n o w.objects e g);
    falls = λ n o g. absurd (no_object n o w.objects e g);
  };
}
