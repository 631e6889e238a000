use Rattle.std.specs.Prelude.{◌==◌, ◌||◌, ◌&&◌, Vec, Option}
use Rattle.std.specs.declared.alloc.Global.{Global}
use Rattle.std.proofs.Common.{ap, ◌∙◌, arith}
use Rattle.ang_check_added.specs.declared.sets.EntrySet.{EntrySet}
use Rattle.ang_check_added.specs.Sets.{in_kind}
use Rattle.ang_check_added.proofs.SetLaws.{place_set}
use Rattle.ang_check_added.proofs.kind_sets.insert_place.Goals as goal

pub returns-then-place-len : goal.returns-then-place-len
returns-then-place-len c =
    let kind = c.args.kind in
    let number = c.args.number in
    record {
      added = λ t. place_set c.args.places.now.items c.args.place c.insert_kind.new.sets c.index_mut.result.now (λ k n. (kind == k) && (number == n)) (omega arith)
          (λ k n. c.insert_kind.ensures.added t k n ∙ ap (λ (v : Vec (Option EntrySet) Global). in_kind v.items k n || ((kind == k) && (number == n))) c.index_mut.ensures.value);
    }
