use Rattle.std.proofs.Common.{◌≡◌, ◌+◌, ◌++◌, length, map as list_map}
use Rattle.std.specs.Vec.Iter.{into_iter_items}
use Rattle.ang_engine_modules.specs.Joining.{classes_with, parts_in}
use Rattle.ang_engine_modules.specs.Loaded.{class_of}
use Rattle.ang_engine_modules.proofs.classes.codes_with.Given as goal

abbrev pub invariant-loop-number : goal.invariant-loop-number
invariant-loop-number l =
    (list_map class_of l.codes.items ++ classes_with l.number (into_iter_items l.left) (list_map parts_in (into_iter_items l.rest))
    ≡ classes_with 0 l.fn.classes.items (list_map parts_in l.fn.parts.items))
    × (l.number + length (into_iter_items l.left) ≡ length l.fn.classes.items)
