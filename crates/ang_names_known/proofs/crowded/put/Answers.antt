use Rattle.std.proofs.Common.{◌≡◌, ◌++◌, ◌∷◌, [], ℕ, List, Vec, length, map, sym, ap, subst, rules, ◌∙◌}
use Rattle.std.specs.declared.alloc.Global.{Global}
use Rattle.std.proofs.lemmas.List.{length-map, map-append}
use Rattle.std.proofs.lemmas.Result.{on_ok_weaker}
use Rattle.ang_index.specs.Rows.{Puts}
use Rattle.ang_names_known.specs.declared.crowded.CrowdedMethods.{CrowdedMethods}
use Rattle.ang_names_known.specs.declared.methods.MethodPlace.{MethodPlace}
use Rattle.ang_names_known.specs.declared.names.Family.{Family}
use Rattle.ang_names_known.specs.Crowded.{lists_of}
use Rattle.ang_names_known.specs.MethodPlaces.{AreFound, found_in}
use Rattle.ang_names_known.proofs.CrowdedLists.{right_more}
use Rattle.ang_names_known.proofs.crowded.put.Goals as goal

pub returns : goal.returns
returns c =
    let fs : List Family = c.args.families.now in
    let old : CrowdedMethods = c.args.crowded.now in
    let new : CrowdedMethods = record { lists = c.push.new.self; numbers = c.push-2.new.self } in
    let list : List MethodPlace = c.in_ok-list.list.items in
    let same : list ≡ c.in_ok-found.found.items = search rules in
    let number : ℕ = c.len-number.result in
    let items : Vec MethodPlace Global → List MethodPlace = λ v. v.items in
    let pushed : lists_of new ≡ lists_of old ++ list ∷ [] = ap (map items) c.in_ok-push.ensures.items ∙ map-append items old.lists.items (c.in_ok-list.list ∷ []) in
    let has : number ≡ length old.lists.items = search rules in
    let counted : number ≡ length (lists_of old) = has ∙ sym (length-map old.lists.items items) in
    record {
      right = on_ok_weaker c.push-2.result
          (λ (puts : Puts old.numbers c.push-2.new.self c.args.family c.args.name.now number).
          right_more fs old new c.args.family number c.args.name.now list c.requires.right
          (record { there = subst (AreFound fs) (sym same) c.in_ok-found.ensures.there; exact = ap (found_in fs) same ∙ c.in_ok-found.ensures.exact }) pushed counted puts)
          c.push-2.ensures.pushed;
    }
