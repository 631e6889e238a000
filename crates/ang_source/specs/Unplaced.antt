-- A resolved tree without the places of its statements.
use Rattle.std.specs.Prelude.{[], map}
use Rattle.ang_typed.specs.Typed as t

abbrev pub unplaced : t.TypedFunction → t.TypedFunction
unplaced f = record f { positions = [] }

abbrev pub without_places : t.Program → t.Program
without_places p = record p { functions = map unplaced p.functions }
