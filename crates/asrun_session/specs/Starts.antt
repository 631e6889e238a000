-- What the lines of a profile declare, where none of them is refused.
use Rattle.std.specs.Prelude.{ℕ, List, [], ◌∷◌, Option, Some, None, if◌then◌else◌}
use Rattle.ang_registry.specs.Groups.{with_opened, with_ended}
use Rattle.ang_registry.specs.Registrations.{Registrations}
use Rattle.ang_registry.specs.Declarations.{declared_type, declared_factory, declared_method, declared_property, declared_function}
use Rattle.ang_registry.specs.Refusals.{with_type, with_factory, with_method, with_property, with_function, with_global, with_enumeration, with_value, with_blank}
use Rattle.ang_engine.specs.Limited.{no_limits}
use Rattle.asrun_lines.specs.Lines.{lines_of, shown_of, is_skipped}
use Rattle.asrun_lines.specs.ProfileLines.{Entry, DefaultMask, Limit, HostType, Factory, Method, Property, Function, Posted, Global, Enumeration, EnumValue, Group, EndGroup, Blank, entry_of}
use Rattle.asrun_session.specs.Limits.{limits_of}
use Rattle.asrun_session.specs.Whole.{Start, start_by, list_begun, fresh}

-- what a line adds to what is registered
abbrev pub with_line : Registrations → Option Entry → Registrations
with_line r None = r
with_line r (Some (DefaultMask m)) = record r { default_mask = m }
with_line r (Some (Limit limit)) = r
with_line r (Some (HostType name driver)) = with_type r driver (declared_type name)
with_line r (Some (Factory t f decl)) = with_factory r t f (declared_factory decl)
with_line r (Some (Method t f decl)) = with_method r t f (declared_method decl)
with_line r (Some (Property t f decl)) = with_property r t f (declared_property decl)
with_line r (Some (Function driver f decl)) = with_function r driver f (declared_function decl)
with_line r (Some (Posted driver f decl)) = with_function r driver f (declared_function decl)
with_line r (Some (Global driver f decl)) = with_global r driver f (declared_property decl)
with_line r (Some (Enumeration name)) = with_enumeration r (declared_type name)
with_line r (Some (EnumValue enumeration name value)) =
    with_value r enumeration value (declared_type name)
with_line r (Some (Group name)) = with_opened r name
with_line r (Some EndGroup) = with_ended r
with_line r (Some Blank) = with_blank r

abbrev pub with_shown : Registrations → List ℕ → Registrations
with_shown r line = if is_skipped line then r else with_line r (entry_of line)

abbrev pub with_lines : Registrations → List (List ℕ) → Registrations
with_lines r [] = r
with_lines r (line ∷ lines) = with_lines (with_shown r (shown_of line)) lines

-- The list that a profile declares, and the limits that it sets.
abbrev pub declared_start : List ℕ → Start
declared_start profile =
    start_by (list_begun (with_lines fresh (lines_of profile)))
    (limits_of no_limits (lines_of profile))
