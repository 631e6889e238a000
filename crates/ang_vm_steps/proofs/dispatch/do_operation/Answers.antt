use Rattle.std.proofs.Common.{refl, ap, []}
use Rattle.ang_meaning.specs.declared.operation.Operation.TheVariants.{Binary, Compare, Convert, Negate, Complement, Not, Same, GlobalGet, GlobalSet, GlobalChange, Make, FieldGet, FieldSet, FieldChange, Cast}
use Rattle.ang_heap.specs.Stores.{world_of}
use Rattle.ang_heap.proofs.Storing.{moves_none}
use Rattle.ang_vm_ask.specs.Asks.{asks_host}
use Rattle.ang_vm_stack.specs.Tables.{setting_of, texts_of}
use Rattle.ang_vm_steps.proofs.Turning.{turned_do, turned_act, same_count, next_if_ok}
use Rattle.ang_vm_steps.proofs.dispatch.do_operation.Goals as goal

pub returns-in-Binary : goal.returns-in-Binary
returns-in-Binary g c = record {
  turned = λ there.
      let w = world_of (λ v. (g.dyn-1.0.entry v).1) c.args.store.now in
      turned_do c.args.table.now c.args.body c.args.room c.args.here c.args.operation.now (Binary c.in-Binary.what c.in-Binary.at) c.args.size c.args.stack.now _ w w c.in-Binary.is there c.requires.in_room c.do_work.result c.next.result
      (turned_act c.args.table.now c.args.body c.args.room c.args.here (Binary c.in-Binary.what c.in-Binary.at) c.args.stack.now _ w w c.do_work.result (λ nesting. c.do_work.ensures.acts (setting_of c.args.table.now nesting) (texts_of c.args.table.now) w)) c.do_work.ensures.in_room c.next.ensures.exact;
  made = λ class e. absurd (let f : ⊥ = cc in f);
  moves = λ roles h. moves_none (λ v. (g.dyn-1.0.entry v).1) roles c.args.store.now;
  ready = c.requires.ready;
  count = refl;
}

pub returns-in-Compare : goal.returns-in-Compare
returns-in-Compare g c = record {
  turned = λ there.
      let w = world_of (λ v. (g.dyn-1.0.entry v).1) c.args.store.now in
      turned_do c.args.table.now c.args.body c.args.room c.args.here c.args.operation.now (Compare c.in-Compare.what c.in-Compare.signed) c.args.size c.args.stack.now _ w w c.in-Compare.is there c.requires.in_room c.do_compare.result c.next-in-Compare.result
      (turned_act c.args.table.now c.args.body c.args.room c.args.here (Compare c.in-Compare.what c.in-Compare.signed) c.args.stack.now _ w w c.do_compare.result (λ nesting. c.do_compare.ensures.acts (setting_of c.args.table.now nesting) (texts_of c.args.table.now) w)) c.do_compare.ensures.in_room c.next-in-Compare.ensures.exact;
  made = λ class e. absurd (let f : ⊥ = cc in f);
  moves = λ roles h. moves_none (λ v. (g.dyn-1.0.entry v).1) roles c.args.store.now;
  ready = c.requires.ready;
  count = refl;
}

pub returns-in-Convert : goal.returns-in-Convert
returns-in-Convert g c = record {
  turned = λ there.
      let w = world_of (λ v. (g.dyn-1.0.entry v).1) c.args.store.now in
      turned_do c.args.table.now c.args.body c.args.room c.args.here c.args.operation.now (Convert c.in-Convert.to) c.args.size c.args.stack.now _ w w c.in-Convert.is there c.requires.in_room c.do_convert.result c.next-in-Convert.result
      (turned_act c.args.table.now c.args.body c.args.room c.args.here (Convert c.in-Convert.to) c.args.stack.now _ w w c.do_convert.result (λ nesting. c.do_convert.ensures.acts (setting_of c.args.table.now nesting) (texts_of c.args.table.now) w)) c.do_convert.ensures.in_room c.next-in-Convert.ensures.exact;
  made = λ class e. absurd (let f : ⊥ = cc in f);
  moves = λ roles h. moves_none (λ v. (g.dyn-1.0.entry v).1) roles c.args.store.now;
  ready = c.requires.ready;
  count = refl;
}

pub returns-in-Negate : goal.returns-in-Negate
returns-in-Negate g c = record {
  turned = λ there.
      let w = world_of (λ v. (g.dyn-1.0.entry v).1) c.args.store.now in
      turned_do c.args.table.now c.args.body c.args.room c.args.here c.args.operation.now (Negate c.in-Negate.at) c.args.size c.args.stack.now _ w w c.in-Negate.is there c.requires.in_room c.do_negate.result c.next-in-Negate.result
      (turned_act c.args.table.now c.args.body c.args.room c.args.here (Negate c.in-Negate.at) c.args.stack.now _ w w c.do_negate.result (λ nesting. c.do_negate.ensures.acts (setting_of c.args.table.now nesting) (texts_of c.args.table.now) w)) c.do_negate.ensures.in_room c.next-in-Negate.ensures.exact;
  made = λ class e. absurd (let f : ⊥ = cc in f);
  moves = λ roles h. moves_none (λ v. (g.dyn-1.0.entry v).1) roles c.args.store.now;
  ready = c.requires.ready;
  count = refl;
}

pub returns-in-Complement : goal.returns-in-Complement
returns-in-Complement g c = record {
  turned = λ there.
      let w = world_of (λ v. (g.dyn-1.0.entry v).1) c.args.store.now in
      turned_do c.args.table.now c.args.body c.args.room c.args.here c.args.operation.now (Complement c.in-Complement.at) c.args.size c.args.stack.now _ w w c.in-Complement.is there c.requires.in_room c.do_complement.result c.next-in-Complement.result
      (turned_act c.args.table.now c.args.body c.args.room c.args.here (Complement c.in-Complement.at) c.args.stack.now _ w w c.do_complement.result (λ nesting. c.do_complement.ensures.acts (setting_of c.args.table.now nesting) (texts_of c.args.table.now) w)) c.do_complement.ensures.in_room c.next-in-Complement.ensures.exact;
  made = λ class e. absurd (let f : ⊥ = cc in f);
  moves = λ roles h. moves_none (λ v. (g.dyn-1.0.entry v).1) roles c.args.store.now;
  ready = c.requires.ready;
  count = refl;
}

pub returns-in-Not : goal.returns-in-Not
returns-in-Not g c = record {
  turned = λ there.
      let w = world_of (λ v. (g.dyn-1.0.entry v).1) c.args.store.now in
      turned_do c.args.table.now c.args.body c.args.room c.args.here c.args.operation.now Not c.args.size c.args.stack.now _ w w c.in-Not.is there c.requires.in_room c.do_not.result c.next-in-Not.result
      (turned_act c.args.table.now c.args.body c.args.room c.args.here Not c.args.stack.now _ w w c.do_not.result (λ nesting. c.do_not.ensures.acts (setting_of c.args.table.now nesting) (texts_of c.args.table.now) w)) c.do_not.ensures.in_room c.next-in-Not.ensures.exact;
  made = λ class e. absurd (let f : ⊥ = cc in f);
  moves = λ roles h. moves_none (λ v. (g.dyn-1.0.entry v).1) roles c.args.store.now;
  ready = c.requires.ready;
  count = refl;
}

pub returns-in-Same : goal.returns-in-Same
returns-in-Same g c = record {
  turned = λ there.
      let w = world_of (λ v. (g.dyn-1.0.entry v).1) c.args.store.now in
      let u = world_of (λ v. (g.dyn-1.0.entry v).1) c.do_same.new.store in
      turned_do c.args.table.now c.args.body c.args.room c.args.here c.args.operation.now Same c.args.size c.args.stack.now _ w u c.in-Same.is there c.requires.in_room c.do_same.result c.next-in-Same.result
      (turned_act c.args.table.now c.args.body c.args.room c.args.here Same c.args.stack.now _ w u c.do_same.result (λ nesting. c.do_same.ensures.acts (setting_of c.args.table.now nesting) (texts_of c.args.table.now))) c.do_same.ensures.in_room c.next-in-Same.ensures.exact;
  made = λ class e. absurd (let f : ⊥ = cc in f);
  moves = λ roles h. c.do_same.ensures.moves roles;
  ready = (c.do_same.ensures.moves []).ready c.requires.ready;
  count = same_count (λ v. (g.dyn-1.0.entry v).1) [] c.args.store.now c.do_same.new.store (c.do_same.ensures.moves []);
}

pub returns-in-GlobalGet : goal.returns-in-GlobalGet
returns-in-GlobalGet g c = record {
  turned = λ there.
      let w = world_of (λ v. (g.dyn-1.0.entry v).1) c.args.store.now in
      let u = world_of (λ v. (g.dyn-1.0.entry v).1) c.get_global.new.store in
      turned_do c.args.table.now c.args.body c.args.room c.args.here c.args.operation.now (GlobalGet c.in-GlobalGet.number) c.args.size c.args.stack.now _ w u c.in-GlobalGet.is there c.requires.in_room c.get_global.result c.next-in-GlobalGet.result
      (λ nesting. c.get_global.ensures.acts (setting_of c.args.table.now nesting) (texts_of c.args.table.now)) c.get_global.ensures.in_room c.next-in-GlobalGet.ensures.exact;
  made = λ class e. absurd (let f : ⊥ = cc in f);
  moves = λ roles h. c.get_global.ensures.moves roles;
  ready = (c.get_global.ensures.moves []).ready c.requires.ready;
  count = same_count (λ v. (g.dyn-1.0.entry v).1) [] c.args.store.now c.get_global.new.store (c.get_global.ensures.moves []);
}

pub returns-in-GlobalSet : goal.returns-in-GlobalSet
returns-in-GlobalSet g c = record {
  turned = λ there.
      let w = world_of (λ v. (g.dyn-1.0.entry v).1) c.args.store.now in
      let u = world_of (λ v. (g.dyn-1.0.entry v).1) c.set_global.new.store in
      turned_do c.args.table.now c.args.body c.args.room c.args.here c.args.operation.now (GlobalSet c.in-GlobalSet.number) c.args.size c.args.stack.now _ w u c.in-GlobalSet.is there c.requires.in_room c.set_global.result c.next-in-GlobalSet.result
      (λ nesting. c.set_global.ensures.acts (setting_of c.args.table.now nesting) (texts_of c.args.table.now)) c.set_global.ensures.in_room c.next-in-GlobalSet.ensures.exact;
  made = λ class e. absurd (let f : ⊥ = cc in f);
  moves = λ roles h. c.set_global.ensures.moves roles;
  ready = (c.set_global.ensures.moves []).ready c.requires.ready;
  count = same_count (λ v. (g.dyn-1.0.entry v).1) [] c.args.store.now c.set_global.new.store (c.set_global.ensures.moves []);
}

pub returns-in-GlobalChange : goal.returns-in-GlobalChange
returns-in-GlobalChange g c = record {
  turned = λ there.
      let w = world_of (λ v. (g.dyn-1.0.entry v).1) c.args.store.now in
      let u = world_of (λ v. (g.dyn-1.0.entry v).1) c.change_global.new.store in
      turned_do c.args.table.now c.args.body c.args.room c.args.here c.args.operation.now (GlobalChange c.in-GlobalChange.by c.in-GlobalChange.number) c.args.size c.args.stack.now _ w u c.in-GlobalChange.is there c.requires.in_room c.change_global.result c.next-in-GlobalChange.result
      (λ nesting. c.change_global.ensures.acts (setting_of c.args.table.now nesting) (texts_of c.args.table.now)) c.change_global.ensures.in_room c.next-in-GlobalChange.ensures.exact;
  made = λ class e. absurd (let f : ⊥ = cc in f);
  moves = λ roles h. c.change_global.ensures.moves roles;
  ready = (c.change_global.ensures.moves []).ready c.requires.ready;
  count = same_count (λ v. (g.dyn-1.0.entry v).1) [] c.args.store.now c.change_global.new.store (c.change_global.ensures.moves []);
}

pub returns-in-Make : goal.returns-in-Make
returns-in-Make g c = record {
  turned = λ there.
      let w = world_of (λ v. (g.dyn-1.0.entry v).1) c.args.store.now in
      let u = world_of (λ v. (g.dyn-1.0.entry v).1) c.make_object.new.store in
      turned_do c.args.table.now c.args.body c.args.room c.args.here c.args.operation.now (Make c.in-Make.class) c.args.size c.args.stack.now _ w u c.in-Make.is there c.requires.in_room c.make_object.result c.next-in-Make.result
      (λ nesting. c.make_object.ensures.acts nesting (texts_of c.args.table.now)) c.make_object.ensures.in_room c.next-in-Make.ensures.exact;
  made = λ class e. next_if_ok c.args.here c.make_object.result _ _ c.next-in-Make.ensures.exact c.make_object.ensures.made;
  moves = λ roles h. c.make_object.ensures.moves roles;
  ready = (c.make_object.ensures.moves []).ready c.requires.ready;
  count = same_count (λ v. (g.dyn-1.0.entry v).1) [] c.args.store.now c.make_object.new.store (c.make_object.ensures.moves []);
}

pub returns-in-FieldGet : goal.returns-in-FieldGet
returns-in-FieldGet g c = record {
  turned = λ there.
      let w = world_of (λ v. (g.dyn-1.0.entry v).1) c.args.store.now in
      let u = world_of (λ v. (g.dyn-1.0.entry v).1) c.get_field.new.store in
      turned_do c.args.table.now c.args.body c.args.room c.args.here c.args.operation.now (FieldGet c.in-FieldGet.number) c.args.size c.args.stack.now _ w u c.in-FieldGet.is there c.requires.in_room c.get_field.result c.next-in-FieldGet.result
      (turned_act c.args.table.now c.args.body c.args.room c.args.here (FieldGet c.in-FieldGet.number) c.args.stack.now _ w u c.get_field.result (λ nesting. c.get_field.ensures.acts (setting_of c.args.table.now nesting) (texts_of c.args.table.now))) c.get_field.ensures.in_room c.next-in-FieldGet.ensures.exact;
  made = λ class e. absurd (let f : ⊥ = cc in f);
  moves = λ roles h. c.get_field.ensures.moves roles;
  ready = (c.get_field.ensures.moves []).ready c.requires.ready;
  count = same_count (λ v. (g.dyn-1.0.entry v).1) [] c.args.store.now c.get_field.new.store (c.get_field.ensures.moves []);
}

pub returns-in-FieldSet : goal.returns-in-FieldSet
returns-in-FieldSet g c = record {
  turned = λ there.
      let w = world_of (λ v. (g.dyn-1.0.entry v).1) c.args.store.now in
      let u = world_of (λ v. (g.dyn-1.0.entry v).1) c.set_field.new.store in
      turned_do c.args.table.now c.args.body c.args.room c.args.here c.args.operation.now (FieldSet c.in-FieldSet.number) c.args.size c.args.stack.now _ w u c.in-FieldSet.is there c.requires.in_room c.set_field.result c.next-in-FieldSet.result
      (turned_act c.args.table.now c.args.body c.args.room c.args.here (FieldSet c.in-FieldSet.number) c.args.stack.now _ w u c.set_field.result (λ nesting. c.set_field.ensures.acts (setting_of c.args.table.now nesting) (texts_of c.args.table.now))) c.set_field.ensures.in_room c.next-in-FieldSet.ensures.exact;
  made = λ class e. absurd (let f : ⊥ = cc in f);
  moves = λ roles h. c.set_field.ensures.moves roles;
  ready = (c.set_field.ensures.moves []).ready c.requires.ready;
  count = same_count (λ v. (g.dyn-1.0.entry v).1) [] c.args.store.now c.set_field.new.store (c.set_field.ensures.moves []);
}

pub returns-in-FieldChange : goal.returns-in-FieldChange
returns-in-FieldChange g c = record {
  turned = λ there.
      let w = world_of (λ v. (g.dyn-1.0.entry v).1) c.args.store.now in
      let u = world_of (λ v. (g.dyn-1.0.entry v).1) c.change_field.new.store in
      turned_do c.args.table.now c.args.body c.args.room c.args.here c.args.operation.now (FieldChange c.in-FieldChange.by c.in-FieldChange.number) c.args.size c.args.stack.now _ w u c.in-FieldChange.is there c.requires.in_room c.change_field.result c.next-in-FieldChange.result
      (turned_act c.args.table.now c.args.body c.args.room c.args.here (FieldChange c.in-FieldChange.by c.in-FieldChange.number) c.args.stack.now _ w u c.change_field.result (λ nesting. c.change_field.ensures.acts (setting_of c.args.table.now nesting) (texts_of c.args.table.now))) c.change_field.ensures.in_room c.next-in-FieldChange.ensures.exact;
  made = λ class e. absurd (let f : ⊥ = cc in f);
  moves = λ roles h. c.change_field.ensures.moves roles;
  ready = (c.change_field.ensures.moves []).ready c.requires.ready;
  count = same_count (λ v. (g.dyn-1.0.entry v).1) [] c.args.store.now c.change_field.new.store (c.change_field.ensures.moves []);
}

pub returns-in-Cast : goal.returns-in-Cast
returns-in-Cast g c = record {
  turned = λ there.
      let w = world_of (λ v. (g.dyn-1.0.entry v).1) c.args.store.now in
      let u = world_of (λ v. (g.dyn-1.0.entry v).1) c.cast.new.store in
      turned_do c.args.table.now c.args.body c.args.room c.args.here c.args.operation.now (Cast c.in-Cast.class) c.args.size c.args.stack.now _ w u c.in-Cast.is there c.requires.in_room c.cast.result c.next-in-Cast.result
      (λ nesting. c.cast.ensures.acts nesting (texts_of c.args.table.now)) c.cast.ensures.in_room c.next-in-Cast.ensures.exact;
  made = λ class e. absurd (let f : ⊥ = cc in f);
  moves = λ roles h. c.cast.ensures.moves roles;
  ready = (c.cast.ensures.moves []).ready c.requires.ready;
  count = same_count (λ v. (g.dyn-1.0.entry v).1) [] c.args.store.now c.cast.new.store (c.cast.ensures.moves []);
}

pub ask_host-requires-clause-asks : goal.ask_host-requires-clause-asks
ask_host-requires-clause-asks g c = ap asks_host c.in-Ask.is

pub returns-in-Ask : goal.returns-in-Ask
returns-in-Ask g c = record {
  turned = λ there.
      let w = world_of (λ v. (g.dyn-1.0.entry v).1) c.args.store.now in
      let u = world_of (λ v. (g.dyn-1.0.entry v).1) c.ask_host.new.store in
      turned_do c.args.table.now c.args.body c.args.room c.args.here c.args.operation.now c.args.operation.now c.args.size c.args.stack.now _ w u refl there c.requires.in_room c.ask_host.result c.next-in-Ask.result
      (λ nesting. c.ask_host.ensures.acts nesting (texts_of c.args.table.now)) c.ask_host.ensures.in_room c.next-in-Ask.ensures.exact;
  made = λ class e. absurd (let f : ⊥ = cc in f);
  moves = c.ask_host.ensures.moves;
  ready = c.ask_host.ensures.ready;
  count = c.ask_host.ensures.count;
}

pub ask_host-requires-in-Read-clause-asks : goal.ask_host-requires-in-Read-clause-asks
ask_host-requires-in-Read-clause-asks g c = ap asks_host c.in-Read.is

pub returns-in-Read : goal.returns-in-Read
returns-in-Read g c = record {
  turned = λ there.
      let w = world_of (λ v. (g.dyn-1.0.entry v).1) c.args.store.now in
      let u = world_of (λ v. (g.dyn-1.0.entry v).1) c.ask_host-in-Read.new.store in
      turned_do c.args.table.now c.args.body c.args.room c.args.here c.args.operation.now c.args.operation.now c.args.size c.args.stack.now _ w u refl there c.requires.in_room c.ask_host-in-Read.result c.next-in-Read.result
      (λ nesting. c.ask_host-in-Read.ensures.acts nesting (texts_of c.args.table.now)) c.ask_host-in-Read.ensures.in_room c.next-in-Read.ensures.exact;
  made = λ class e. absurd (let f : ⊥ = cc in f);
  moves = c.ask_host-in-Read.ensures.moves;
  ready = c.ask_host-in-Read.ensures.ready;
  count = c.ask_host-in-Read.ensures.count;
}

pub ask_host-requires-in-Write-clause-asks : goal.ask_host-requires-in-Write-clause-asks
ask_host-requires-in-Write-clause-asks g c = ap asks_host c.in-Write.is

pub returns-in-Write : goal.returns-in-Write
returns-in-Write g c = record {
  turned = λ there.
      let w = world_of (λ v. (g.dyn-1.0.entry v).1) c.args.store.now in
      let u = world_of (λ v. (g.dyn-1.0.entry v).1) c.ask_host-in-Write.new.store in
      turned_do c.args.table.now c.args.body c.args.room c.args.here c.args.operation.now c.args.operation.now c.args.size c.args.stack.now _ w u refl there c.requires.in_room c.ask_host-in-Write.result c.next-in-Write.result
      (λ nesting. c.ask_host-in-Write.ensures.acts nesting (texts_of c.args.table.now)) c.ask_host-in-Write.ensures.in_room c.next-in-Write.ensures.exact;
  made = λ class e. absurd (let f : ⊥ = cc in f);
  moves = c.ask_host-in-Write.ensures.moves;
  ready = c.ask_host-in-Write.ensures.ready;
  count = c.ask_host-in-Write.ensures.count;
}

pub ask_host-requires-in-Alter-clause-asks : goal.ask_host-requires-in-Alter-clause-asks
ask_host-requires-in-Alter-clause-asks g c = ap asks_host c.in-Alter.is

pub returns-in-Alter : goal.returns-in-Alter
returns-in-Alter g c = record {
  turned = λ there.
      let w = world_of (λ v. (g.dyn-1.0.entry v).1) c.args.store.now in
      let u = world_of (λ v. (g.dyn-1.0.entry v).1) c.ask_host-in-Alter.new.store in
      turned_do c.args.table.now c.args.body c.args.room c.args.here c.args.operation.now c.args.operation.now c.args.size c.args.stack.now _ w u refl there c.requires.in_room c.ask_host-in-Alter.result c.next-in-Alter.result
      (λ nesting. c.ask_host-in-Alter.ensures.acts nesting (texts_of c.args.table.now)) c.ask_host-in-Alter.ensures.in_room c.next-in-Alter.ensures.exact;
  made = λ class e. absurd (let f : ⊥ = cc in f);
  moves = c.ask_host-in-Alter.ensures.moves;
  ready = c.ask_host-in-Alter.ensures.ready;
  count = c.ask_host-in-Alter.ensures.count;
}
