-- What a module's tree declares beside its bodies, as the machine's table has it: its imports, the
-- methods of its slots, and its classes.
use Rattle.std.specs.Prelude.{ℕ, zero, suc, List, [], ◌∷◌, ◌++◌, length, map, Option, Some, None, option_and_then, slice_get}
use Rattle.ang_typed.specs.declared.program.TypedClass as families
use Rattle.ang_typed.specs.declared.program.Heading.{Heading}
use Rattle.ang_typed.specs.Typed as t
use Rattle.ang_meaning.specs.declared.class.Class.{Class}
use Rattle.ang_meaning.specs.declared.routine.Routine.{Routine}
use Rattle.ang_meaning.specs.declared.routine.Passing.{Passing}
use Rattle.ang_source.specs.Meaning.{passings_of, class_of, routine}
use Rattle.ang_vm_stack.specs.declared.methods.MethodEntry.{MethodEntry}
use Rattle.ang_vm_stack.specs.Tables.{method_in}

-- how functions of these headings take their arguments, the last one first
abbrev pub headings_in : List Heading → List (List Passing)
headings_in hs = map (λ (h : Heading). passings_of h.parameters) hs

-- the methods that a class of module m has itself, by slot
abbrev pub own_methods : ℕ → List (ℕ × ℕ) → List MethodEntry
own_methods m rows = map (λ (r : ℕ × ℕ). record { slot = r.0; function = routine m r.1 }) rows

-- And after them those of the classes above it, so that the nearest one of a slot is the first.
-- The class and n above it are asked.
abbrev pub methods_by : ℕ → List families.TypedClass → ℕ → Option families.TypedClass → List MethodEntry
methods_by m classes n None = []
methods_by m classes zero (Some c) = own_methods m c.chosen
methods_by m classes (suc n) (Some c) =
    own_methods m c.chosen ++ methods_by m classes n (option_and_then (slice_get classes) c.base)

-- a class, and the method that it has in each slot
pub record ScriptClass : Type 0 where
  pub class : Class
  pub method : ℕ → Option Routine

abbrev pub script_class : ℕ → List families.TypedClass → ℕ → families.TypedClass → ScriptClass
script_class m classes n c =
    record {
      class = class_of classes n c;
      method = λ s. method_in (methods_by m classes (length classes) (Some c)) s;
    }

-- some of the classes of module m, counted from this number on
abbrev pub classes_from : ℕ → List families.TypedClass → ℕ → List families.TypedClass → List ScriptClass
classes_from m classes n [] = []
classes_from m classes n (c ∷ cs) = script_class m classes n c ∷ classes_from m classes (suc n) cs

abbrev pub classes_in : ℕ → t.Program → List ScriptClass
classes_in m p = classes_from m p.classes 0 p.classes
