use Rattle.std.proofs.Common.{◌≡◌, sym, ◌∙◌, length, map as list_map, rules}
use Rattle.std.specs.Vec.Iter.{into_iter_items}
use Rattle.ang_engine_modules.specs.Loaded.{class_of}
use Rattle.ang_engine_modules.proofs.Joining.{no_class_left, no_parts_left, none_over, one_joined, one_less}
use Rattle.ang_engine_modules.proofs.classes.codes_with.Goals as goal

pub returns-in_default : goal.returns-in_default
returns-in_default c =
    record {
      exact =
          no_class_left (list_map class_of c.loop-number.codes.items) _ c.loop-number.number (into_iter_items c.loop-number.left) _
          (sym c.loop-number.left.rest.ok.0 ∙ c.in_default.ensures.cases.0) c.loop-number.invariant.0;
    }

pub returns-in_default-next : goal.returns-in_default-next
returns-in_default-next c =
    record {
      exact =
          no_parts_left (list_map class_of c.loop-number.codes.items) _ c.loop-number.number (into_iter_items c.loop-number.left) (into_iter_items c.loop-number.rest)
          (sym c.loop-number.rest.rest.ok.0 ∙ c.in_default-next.ensures.cases.0) c.loop-number.invariant.0;
    }

pub loop-number-preserved : goal.loop-number-preserved
loop-number-preserved c = (
  one_joined c.loop-number.number c.in-Some.class c.in-Some-next.part (into_iter_items c.loop-number.left) (into_iter_items c.next.new.self)
      (into_iter_items c.loop-number.rest) (into_iter_items c.next-in-loop-number.new.self) c.loop-number.codes.items c.push.new.self.items c.in_ok-code.code _
      c.loop-number.invariant.0 c.in-Some.ensures.cases.0 c.in-Some-next.ensures.cases.0 c.in_ok-code.ensures.exact c.in_ok-push.ensures.items,
  one_less c.loop-number.number _ c.in-Some.class (into_iter_items c.loop-number.left) (into_iter_items c.next.new.self) c.loop-number.invariant.1 c.in-Some.ensures.cases.0,
)

pub returns : goal.returns
returns c =
    let e : c.loop-number.number ≡ length c.args.classes.items = search rules in
    record {
      exact =
          no_class_left (list_map class_of c.loop-number.codes.items) _ c.loop-number.number (into_iter_items c.loop-number.left) _
          (none_over c.loop-number.number _ _ c.loop-number.invariant.1 e) c.loop-number.invariant.0;
    }
