-- What a profile registers (docs/HOST.md, "The program").
use Rattle.std.specs.Prelude.{◌≡◌, ◌≢◌, IsOk, ℕ, ◌+◌, Bool, true, false, List, [], ◌∷◌, length, Option, Some, None, Result, Ok, Err, if◌then◌else◌}
use Rattle.ang_registry.specs.declared.error.GroupError.{GroupError}
use Rattle.ang_registry.specs.declared.error.GroupError.TheVariants.{Memory as NoGroupMemory}
use Rattle.ang_registry.specs.declared.error.RegError.{RegError}
use Rattle.ang_registry.specs.Groups.{refusal_of_begin, with_opened, refusal_of_end, with_ended}
use Rattle.ang_registry.specs.Registrations.{Registrations}
use Rattle.ang_kinds.specs.declared.mask.EntityNo.{EntityNo}
use Rattle.ang_kinds.specs.declared.types.TypeRef.{TypeRef}
use Rattle.ang_kinds.specs.declared.types.TypeRef.TheVariants as ref
use Rattle.ang_view.specs.declared.entry.Entry as view
use Rattle.ang_view.specs.Registration.{RegistrationList, entry_at}
use Rattle.ang_registry.specs.Declarations.{declared_type, declared_factory, declared_method, declared_property, declared_function}
use Rattle.ang_registry.specs.Refusals.{refusal_of_type, with_type, refusal_of_factory, with_factory, refusal_of_method, with_method, refusal_of_property, with_property, refusal_of_function, with_function, refusal_of_global, with_global, refusal_of_enumeration, with_enumeration, refusal_of_value, with_value, refusal_of_blank, with_blank}
use Rattle.ang_registry.specs.declared.error.RegError.TheVariants.{Memory as NoMemory}
use Rattle.asrun_lines.specs.Lines.{shown_of, is_skipped}
use Rattle.asrun_lines.specs.ProfileLines.{Entry, DefaultMask, Limit, HostType, Factory, Method, Property, Function, Posted, Global, Enumeration, EnumValue, Group, EndGroup, Blank, entry_of}
use Rattle.asrun_session.specs.declared.profile.ProfileFault.{ProfileFault}
use Rattle.asrun_session.specs.declared.profile.ProfileFault.TheVariants.{BadLine, Refused, GroupRefused, NotVoid}
use Rattle.asrun_session.specs.declared.profile.ProfileStop.{ProfileStop}
use Rattle.asrun_session.specs.declared.profile.ProfileStop.TheVariants as stop

abbrev pub on_ok : {A B E : Type 0} → Result A E → (A → Result B E) → Result B E
on_ok (Ok x) f = f x
on_ok (Err e) f = Err e

-- something is registered, or line n is refused
abbrev pub registered : ℕ → Option RegError → Registrations → Result Registrations ProfileFault
registered n None after = Ok after
registered n (Some why) after = Err (Refused n why)

-- a group is begun or ended, or line n is refused
abbrev pub grouped : ℕ → Option GroupError → Registrations → Result Registrations ProfileFault
grouped n None after = Ok after
grouped n (Some why) after = Err (GroupRefused n why)

abbrev pub is_void : TypeRef → Bool
is_void ref.Void = true
is_void _ = false

-- whether an entry is there, and has no result
abbrev pub gives_none : Option view.Entry → Bool
gives_none None = false
gives_none (Some x) = is_void x.signature.result

-- A function that is posted is registered at this place, or line n is refused, also where the function has a result.
abbrev pub posted : ℕ → Option RegError → ℕ → Registrations → Result Registrations ProfileFault
posted n (Some why) place after = Err (Refused n why)
posted n None place after =
    if gives_none (entry_at after.entries place) then Ok after else Err (NotVoid n)

-- what line n does to what is registered
abbrev pub entered : ℕ → Registrations → Option Entry → Result Registrations ProfileFault
entered n r None = Err (BadLine n)
entered n r (Some (DefaultMask m)) = Ok (record r { default_mask = m })
entered n r (Some (Limit limit)) = Ok r
entered n r (Some (HostType name driver)) =
    registered n (refusal_of_type r driver (declared_type name))
    (with_type r driver (declared_type name))
entered n r (Some (Factory t f decl)) =
    registered n (refusal_of_factory r t (declared_factory decl))
    (with_factory r t f (declared_factory decl))
entered n r (Some (Method t f decl)) =
    registered n (refusal_of_method r t (declared_method decl))
    (with_method r t f (declared_method decl))
entered n r (Some (Property t f decl)) =
    registered n (refusal_of_property r t (declared_property decl))
    (with_property r t f (declared_property decl))
entered n r (Some (Function driver f decl)) =
    registered n (refusal_of_function r driver (declared_function decl))
    (with_function r driver f (declared_function decl))
entered n r (Some (Posted driver f decl)) =
    posted n (refusal_of_function r driver (declared_function decl)) (length r.entries)
    (with_function r driver f (declared_function decl))
entered n r (Some (Global driver f decl)) =
    registered n (refusal_of_global r driver (declared_property decl))
    (with_global r driver f (declared_property decl))
entered n r (Some (Enumeration name)) =
    registered n (refusal_of_enumeration r (declared_type name))
    (with_enumeration r (declared_type name))
entered n r (Some (EnumValue enumeration name value)) =
    registered n (refusal_of_value r enumeration value (declared_type name))
    (with_value r enumeration value (declared_type name))
entered n r (Some (Group name)) = grouped n (refusal_of_begin r name) (with_opened r name)
entered n r (Some EndGroup) = grouped n (refusal_of_end r) (with_ended r)
entered n r (Some Blank) = registered n (refusal_of_blank r) (with_blank r)

abbrev pub line_entered : ℕ → Registrations → List ℕ → Result Registrations ProfileFault
line_entered n r line = if is_skipped line then Ok r else entered n r (entry_of line)

-- the lines from number n on, in turn; the first that is refused or of another form ends the run
unfoldable pub loaded : ℕ → Registrations → List (List ℕ) → Result Registrations ProfileFault
loaded n r [] = Ok r
loaded n r (line ∷ lines) = on_ok (line_entered n r (shown_of line)) (λ s. loaded (n + 1) s lines)

-- What was loaded is as stated, unless memory ran out.
abbrev pub Loads :
    {U : Type 0} → Result U ProfileStop → Registrations → Result Registrations ProfileFault → Type 0
Loads (Ok u) r stated = stated ≡ Ok r
Loads (Err (stop.Fault fault)) r stated = stated ≡ Err fault
Loads (Err stop.Memory) r stated = Unit {0}

-- What a registration at line n answered ends the run there, where it is an error.
abbrev pub IsJudged : {U : Type 0} → Result U ProfileStop → ℕ → Result EntityNo RegError → Type 0
IsJudged (Ok u) n answer = IsOk answer
IsJudged (Err (stop.Fault fault)) n answer =
    (why : RegError) × (answer ≡ Err why) × (why ≢ NoMemory) × (fault ≡ Refused n why)
IsJudged (Err stop.Memory) n answer = answer ≡ Err NoMemory

-- The same of a function that is posted, where the list is that after the registration.
abbrev pub IsJudgedPosted :
    Result (Unit {0}) ProfileStop → ℕ → RegistrationList → Result EntityNo RegError → Type 0
IsJudgedPosted r n list (Ok number) =
    r ≡ (if gives_none (entry_at list number.0) then Ok tt else Err (stop.Fault (NotVoid n)))
IsJudgedPosted r n list (Err why) = IsJudged r n (Err why)

-- The same of a group that is begun or ended.
abbrev pub IsGroupJudged : {U : Type 0} → Result U ProfileStop → ℕ → Result (Unit {0}) GroupError → Type 0
IsGroupJudged (Ok u) n answer = IsOk answer
IsGroupJudged (Err (stop.Fault fault)) n answer =
    (why : GroupError) × (answer ≡ Err why) × (why ≢ NoGroupMemory) × (fault ≡ GroupRefused n why)
IsGroupJudged (Err stop.Memory) n answer = answer ≡ Err NoGroupMemory
