use Rattle.std.proofs.Common.{sym, ap, ◌∙◌}
use Rattle.std.specs.Option.{option_copied}
use Rattle.ang_heap.proofs.Heaping.{class_at, no_class}
use Rattle.ang_heap.proofs.heap.Heap.class.Goals as goal

pub returns-in-Some : goal.returns-in-Some
returns-in-Some c = record { exact = class_at c.args.self.now.records c.args.number c.in-Some.object.now (sym c.get.ensures ∙ ap option_copied c.in-Some.is) }

pub returns-in-None : goal.returns-in-None
returns-in-None c = record { exact = no_class c.args.self.now.records c.args.number (sym c.get.ensures ∙ ap option_copied c.in-None.is) }
