use Rattle.std.proofs.Common.{◌≡◌, ◌≤◌, ◌<◌, ◌==◌, ◌++◌, ◌∷◌, [], List, true, cond, nat_eq, length, arith, sym, ap, ◌∙◌}
use Rattle.std.specs.HashSet.{contains}
use Rattle.ang_names_known.specs.declared.methods.MethodPlace.{MethodPlace}
use Rattle.ang_names_known.specs.declared.names.Family.{Family}
use Rattle.ang_names_known.specs.Lookup.{FoundMethod}
use Rattle.ang_names_known.specs.MethodPlaces.{found_in}
use Rattle.ang_names_known.proofs.MethodPlaces.{as_many, found_more}
use Rattle.ang_names_known.proofs.NearestMethods.{slot_more, slots_stay}
use Rattle.ang_names_known.proofs.methods.push_nearest.Goals as goal
use Rattle.ang_names_known.proofs.methods.push_nearest.Goals.{then-len-ge-FEW+in_ok-insert, else-len-ge-FEW}

pub returns-clause-slots : goal.returns-clause-slots
returns-clause-slots c = λ slot.
    let fs : List Family = c.args.families.now in
    let before : List MethodPlace = c.args.found.now.items in
    let after : List MethodPlace = c.push.new.self.items in
    let x : FoundMethod = c.requires.method.0 in
    let as_found : length before ≡ length (found_in fs before) = as_many fs before c.requires.there in
    let more : found_in fs after ≡ found_in fs before ++ x ∷ []
    = ap (found_in fs) c.in_ok-push.ensures.items ∙ found_more fs before c.args.at x c.requires.method.1.0 in
    elim c.if-len-ge-FEW.branch [
      | then-len-ge-FEW+in_ok-insert w ↦
          let many : 8 ≤ length (found_in fs before) = omega arith in
          let put = w.in_ok-insert.ensures.updates.0 slot ∙ ap (λ k. cond (k == slot) true (contains nat_eq c.args.slots.now slot)) (sym c.requires.method.1.1) in
          rw w.slots-is (slot_more (found_in fs before) (found_in fs after) x slot _ _ many more put (c.requires.slots slot))
      | else-len-ge-FEW w ↦
          let few : length (found_in fs before) < 8 = omega arith in
          rw w.slots-is (slots_stay (found_in fs before) (found_in fs after) x slot _ few more (c.requires.slots slot))
    ]
