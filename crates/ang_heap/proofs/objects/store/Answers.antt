use Rattle.std.proofs.Common.{sym, refl}
use Rattle.ang_heap.proofs.Heaping.{lent_stored}
use Rattle.ang_heap.proofs.objects.store.Goals as goal

pub returns-in-Some-clause-stored : goal.returns-in-Some-clause-stored
returns-in-Some-clause-stored c = lent_stored c.args.records.now _ c.args.number c.args.index c.args.value c.in-Some.object.now c.put_field.new.object (sym c.in-Some.ensures.value) refl c.put_field.ensures.put
