-- A class above a class is one of its base classes.
use Rattle.std.specs.Prelude.{ℕ, zero, suc, ◌≡◌, ◌<◌, ◌≤◌, ◌+◌, ◌-◌, true, false, List, length}
use Rattle.std.proofs.Common.{arith, refl, sym, subst, inl, inr, ◌∙◌}
use Rattle.std.proofs.lemmas.Bool.{cases_Bool}
use Rattle.ang_names_graph.specs.Graphs.{is_near, leads, reach_of, Way, IsWithin}
use Rattle.ang_names_graph.proofs.Closure.{least, falls}
use Rattle.ang_names_known.specs.Spaces.{Space}
use Rattle.ang_names_listed.specs.Declarations.{Declaring}
use Rattle.ang_names_classes.specs.Hierarchy.{is_base, is_class_at, is_parent}
use Rattle.ang_check_laws.proofs.ClassesGraph.{both_true, reach_within, near_later}
use Rattle.ang_check_laws.proofs.ClassesDeclared.{IsAccepted, parent_there}
use Rattle.ang_check_laws.proofs.MethodsWalk.{Up, near_of, base_from}

module _ (E : Space) (ds : List Declaring) (accepted : IsAccepted E ds) (free : (c : ℕ) → leads (is_parent ds) (length ds) c c ≡ false) where
  abbrev reach : ℕ → ℕ
  reach c = reach_of (is_parent ds) (length ds) c

  within : IsWithin (is_parent ds) (length ds)
  within = record { below = parent_there ds }

  lower : (i j : ℕ) → is_parent ds i j ≡ true → reach j < reach i
  lower i j edge = falls (is_parent ds) (length ds) within i j ((least (is_parent ds) (length ds) within i j).1 (zero, edge)) (free j)

  way_short : (m i j : ℕ) → Way (is_parent ds) m i j → m < reach i
  way_short zero i j w = let less = lower i j w in omega (arith, less)
  way_short (suc m) i j w =
      let less = lower i w.0 w.1 in
      let rest = way_short m w.0 j w.2 in
      omega (arith, less, rest)

  base_class : (i j : ℕ) → is_base ds i j ≡ true → is_class_at ds i ≡ true
  base_class i j edge =
      elim (cases_Bool (is_class_at ds i)) [
        | inl is ↦ is
        | inr isnt ↦ absurd (let no' : false ≡ true = sym (accepted.no_base i j isnt) ∙ edge in cc)
      ]

  way_up : (m i j : ℕ) → Way (is_parent ds) m i j → is_class_at ds j ≡ true → Up (is_base ds) (suc m) i j × (is_class_at ds i ≡ true)
  way_up zero i j w is =
      let base = both_true (is_parent ds i j) (is_class_at ds j) w is in (inr (j, base, refl), base_class i j base)
  way_up (suc m) i j w is =
      let rest = way_up m w.0 j w.2 is in
      let base = both_true (is_parent ds i w.0) (is_class_at ds w.0) w.1 rest.1 in
      (inr (w.0, base, rest.0), base_class i w.0 base)

  pub class_near : (i j : ℕ) → leads (is_parent ds) (length ds) i j ≡ true → is_class_at ds j ≡ true → is_near (is_base ds) (length ds) (length ds) i j ≡ true
  class_near i j over is =
      let way = (least (is_parent ds) (length ds) within i j).0 over in
      let near = near_of (is_base ds) (length ds) (base_from ds) (suc way.0) i j (way_up way.0 i j way.1 is).0 in
      let short = way_short way.0 i j way.1 in
      let few = reach_within (is_parent ds) (length ds) i in
      let fits : suc way.0 ≤ length ds = omega (arith, short, few) in
      let sum : suc way.0 + (length ds - suc way.0) ≡ length ds = omega (arith, fits) in
      subst (λ k. is_near (is_base ds) (length ds) k i j ≡ true) sum (near_later (is_base ds) (length ds) (suc way.0) (length ds - suc way.0) i j near)
