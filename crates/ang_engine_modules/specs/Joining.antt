-- The classes of a module, each joined from what the tree says of it and what it has by those above it.
use Rattle.std.specs.Prelude.{ℕ, suc, List, [], ◌∷◌, length, map, Option, Some}
use Rattle.ang_typed.specs.declared.program.TypedClass.{TypedClass}
use Rattle.ang_meaning.specs.declared.class.ValueKind.{ValueKind}
use Rattle.ang_meaning.specs.declared.routine.Routine.{Routine}
use Rattle.ang_source.specs.Meaning.{kind_of, fields_by}
use Rattle.ang_vm_stack.specs.Tables.{method_in}
use Rattle.ang_engine_modules.specs.declared.classes.ClassParts.{ClassParts}
use Rattle.ang_engine_modules.specs.Trees.{ScriptClass, methods_by}

-- what the fields of its objects hold, and the method that it has in each slot
abbrev pub Parts : Type 0
Parts = List ValueKind × (ℕ → Option Routine)

abbrev pub parts_in : ClassParts → Parts
parts_in p = (p.fields.items, λ s. method_in p.methods s)

-- those of a class of module m
abbrev pub parts_of : ℕ → List TypedClass → TypedClass → Parts
parts_of m classes c =
    (map kind_of (fields_by classes (length classes) (Some c)), λ s. method_in (methods_by m classes (length classes) (Some c)) s)

-- the class of number n with these parts
abbrev pub class_with : ℕ → TypedClass → Parts → ScriptClass
class_with n c p = record { class = record { number = n; rank = c.rank; fields = p.0; under = n ∷ c.above }; method = p.1 }

-- classes counted from number n on, each with the parts of its place
abbrev pub classes_with : ℕ → List TypedClass → List Parts → List ScriptClass
classes_with n [] ps = []
classes_with n (c ∷ cs) [] = []
classes_with n (c ∷ cs) (p ∷ ps) = class_with n c p ∷ classes_with (suc n) cs ps
