-- What the bodies of a module are declared as, by number: those of functions, then those of methods and
-- constructors, then the initializers of globals (docs/CLAIMS.md, "A run of a built module").
use Rattle.std.specs.Prelude.{ℕ, ◌==◌, ◌+◌, ◌-◌, nat_le, nat_lt, if◌then◌else◌, Bool, true, false, List, [], length, Option, Some, None, is_some, option_map, position, reverse, slice_get, slice_index_or, Contains, ◌≡◌}
use Rattle.std.specs.List.{prefix_len}
use Rattle.std.specs.Option.{option_or, option_and_then}
use Rattle.ang_kinds.specs.declared.place.Place.{Place}
use Rattle.ang_kinds.specs.declared.position.Position.{Position}
use Rattle.ang_code.specs.declared.instruction.Mark.{Mark}
use Rattle.ang_code.specs.declared.instruction.RoutineCode.{RoutineCode}
use Rattle.ang_typed.specs.View.{view_typed}
use Rattle.ang_lower.specs.Positions.{of_module}
use Rattle.ang_names_known.specs.declared.names.Family.{Family}
use Rattle.ang_names_known.specs.declared.names.ScriptConstructor.{ScriptConstructor}
use Rattle.ang_names_known.specs.declared.names.ScriptFunction.{ScriptFunction}
use Rattle.ang_names_known.specs.declared.names.ScriptGlobal.{ScriptGlobal}
use Rattle.ang_names_known.specs.declared.names.ScriptMethod.{ScriptMethod}
use Rattle.ang_code.specs.declared.instruction.Frame.{Frame as RunFrame}
use Rattle.ang_vm.specs.declared.last.LastRun.{LastRun}
use Rattle.ang_engine_modules.specs.declared.failed.FailedModule.{FailedModule}
use Rattle.ang_engine_modules.specs.declared.modules.LoadedModule.{LoadedModule}
use Rattle.ang_engine_modules.specs.declared.traced.TraceFrame.{TraceFrame}
use Rattle.ang_engine_modules.specs.Loaded.{loaded_at}
use Rattle.ang_gen.specs.Initialized.{initialized_from}

-- a body: the name of its module; the class of a method or a constructor, else nothing; the name of the function, or
-- of the global whose initializer it is; and the place of that name
pub record Frame : Type 0 where
  pub own : List ℕ
  pub class : List ℕ
  pub name : List ℕ
  pub is_global : Bool
  pub declared : Place

-- the frame that is lent
abbrev pub frame_of : TraceFrame → Frame
frame_of t = record {
  own = t.module.now;
  class = t.class.now;
  name = t.name.now;
  is_global = t.is_global;
  declared = t.declared;
}

abbrev pub function_frame : List ℕ → List ℕ → ScriptFunction → Frame
function_frame own class f = record {
  own = own;
  class = class;
  name = f.name;
  is_global = false;
  declared = f.place;
}

abbrev pub global_frame : List ℕ → ScriptGlobal → Frame
global_frame own g = record {
  own = own;
  class = [];
  name = g.name;
  is_global = true;
  declared = g.place;
}

-- ---- the method or constructor that has the body of number n

abbrev pub is_number : ℕ → Option ℕ → Bool
is_number n None = false
is_number n (Some b) = b == n

abbrev pub has_method_body : ℕ → ScriptMethod → Bool
has_method_body n m = is_number n m.body

abbrev pub has_constructor_body : ℕ → ScriptConstructor → Bool
has_constructor_body n c = c.body == n

abbrev pub method_of : ℕ → List ScriptMethod → Option ScriptFunction
method_of n ms =
    option_and_then (λ i. option_map (λ m. m.function) (slice_get ms i))
    (position (has_method_body n) ms)

abbrev pub constructor_of : ℕ → List ScriptConstructor → Option ScriptFunction
constructor_of n cs =
    option_and_then (λ i. option_map (λ c. c.function) (slice_get cs i))
    (position (has_constructor_body n) cs)

abbrev pub member_of : ℕ → Family → Option ScriptFunction
member_of n f = option_or (method_of n f.methods) (constructor_of n f.constructors)

abbrev pub has_member : ℕ → Family → Bool
has_member n f = is_some (member_of n f)

abbrev pub family_frame : List ℕ → ℕ → Family → Option Frame
family_frame own n f = option_map (function_frame own f.name) (member_of n f)

abbrev pub member_frame : List ℕ → ℕ → List Family → Option Frame
member_frame own n fs =
    option_and_then (λ i. option_and_then (family_frame own n) (slice_get fs i))
    (position (has_member n) fs)

-- ---- any body

-- that of a global, of whose initializers the first has this number: those without one have no body
abbrev pub initializer_frame : List ℕ → ℕ → List ℕ → ℕ → List ScriptGlobal → Option Frame
initializer_frame own first numbers n gs =
    if nat_le first n then option_and_then (λ i. option_map (global_frame own) (slice_get gs i)) (slice_get numbers (n - first))
    else None

-- the body of number n of a module
abbrev pub frame_in : LoadedModule → ℕ → Option Frame
frame_in l n =
    option_or (option_map (function_frame l.name []) (slice_get l.names.functions n))
    (option_or (member_frame l.name n l.names.families)
    (initializer_frame l.name (length l.tree.functions) (initialized_from 0 l.tree.globals) n l.names.globals))

-- ---- where a body stands

-- a place within a section, whose lines and columns count from 0
abbrev pub place_in : ℕ → Position → Place
place_in section p = record { sect = section; line = p.line + 1; column = p.column + 1 }

-- the places of the statements of body n of a module; an initializer has none
abbrev pub places_of : LoadedModule → ℕ → List Position
places_of l n = slice_index_or (of_module (view_typed l.tree)) n []

-- in a section, one of those places
pub record StandsIn (l : LoadedModule) (n section : ℕ) (p : Place) : Type 0 where
  pub at : Position
  pub among : Contains (places_of l n) at
  pub is : p ≡ place_in section at

-- the marks of a body, if there is one
abbrev pub marks_in : Option RoutineCode → List Mark
marks_in None = []
marks_in (Some c) = c.marks.items

-- whether a statement begins before an instruction
abbrev pub begins_before : ℕ → Mark → Bool
begins_before at m = nat_lt m.at at

-- How many of a body's statements begin before an instruction. Marks are in the order of the instructions, so these are
-- the first ones.
abbrev pub count_before : List Mark → ℕ → ℕ
count_before marks at = prefix_len (begins_before at) marks

-- The mark of the statement of which instruction `at - 1` is: the last one that begins at it or before it, so before
-- instruction `at`.
abbrev pub mark_before : List Mark → ℕ → Option Mark
mark_before marks at =
    if nat_lt 0 (count_before marks at) then slice_get marks (count_before marks at - 1) else None

-- where that statement stands, in the section of its body
abbrev pub statement_place : List Mark → ℕ → ℕ → Option Place
statement_place marks at section = option_map (λ m. place_in section m.position) (mark_before marks at)

-- ---- a module whose initializer failed

abbrev pub failed_at : ℕ → LoadedModule → FailedModule
failed_at home l = record { home = home; loaded = l }

-- what the one that failed was loaded with, where it has this number
abbrev pub failed_in : Option FailedModule → ℕ → Option LoadedModule
failed_in None home = None
failed_in (Some f) home = if f.home == home then Some f.loaded else None

-- what a trace names of the module of this number: what it is loaded with, or else was when it failed
abbrev pub traced_in : List (Option LoadedModule) → Option FailedModule → ℕ → Option LoadedModule
traced_in code failed home = option_or (loaded_at code home) (failed_in failed home)

-- ---- the frames of a run that faulted

-- that of the body that faulted first, then that of its caller, and so on
abbrev pub frames_of : LastRun → List RunFrame
frames_of last = reverse last.frames.items
