use Rattle.std.proofs.Common.{◌≡◌, Some, sym, ◌∙◌}
use Rattle.ang_view.specs.Named.{scope_in}
use Rattle.ang_view.proofs.Named.{entry_popped}
use Rattle.ang_view.proofs.by_name.take_entry.Goals as goal

pub returns-in-Some : goal.returns-in-Some
returns-in-Some c =
    let at : Some c.in-Some.scope ≡ scope_in c.args.entry.now = sym c.in-Some.is ∙ c.scope_in.ensures.exact in
    record {
      taken =
          entry_popped scope_in c.args.entry.now c.in-Some.scope c.name_in.result.now c.pop.result c.args.index.now c.pop.new.self at c.name_in.ensures.exact c.pop.ensures.popped
          c.pop.ensures.none;
    }
