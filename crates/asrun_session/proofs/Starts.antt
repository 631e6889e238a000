-- A profile that is not refused declares what a session starts with.
use Rattle.std.proofs.Common.{◌≡◌, ℕ, ◌+◌, List, [], ◌∷◌, length, Option, Some, None, true, false, Result, Ok, Err, ap, sym, refl, ◌∙◌}
use Rattle.std.specs.Prelude.{Bool, nat_lt, if◌then◌else◌}
use Rattle.ang_view.specs.Registration.{entry_at}
use Rattle.ang_registry.specs.declared.error.GroupError.{GroupError}
use Rattle.ang_registry.specs.declared.error.RegError.{RegError}
use Rattle.ang_registry.specs.Declarations.{declared_type, declared_factory, declared_method, declared_property, declared_function}
use Rattle.ang_registry.specs.Groups.{refusal_of_begin, with_opened, refusal_of_end, with_ended}
use Rattle.ang_registry.specs.Refusals.{refusal_of_type, with_type, refusal_of_factory, with_factory, refusal_of_method, with_method, refusal_of_property, with_property, refusal_of_function, with_function, refusal_of_global, with_global, refusal_of_enumeration, with_enumeration, refusal_of_value, with_value, refusal_of_blank, with_blank}
use Rattle.ang_registry.specs.Registrations.{Registrations}
use Rattle.ang_engine.specs.Limited.{no_limits}
use Rattle.asrun_lines.specs.Lines.{lines_of, shown_of, is_skipped}
use Rattle.asrun_lines.specs.ProfileLines.{Entry, DefaultMask, Limit, HostType, Factory, Method, Property, Function, Posted, Global, Enumeration, EnumValue, Group, EndGroup, Blank, entry_of}
use Rattle.asrun_session.specs.Starts.{with_line, with_shown, with_lines, declared_start}
use Rattle.asrun_session.specs.Limits.{limits_of}
use Rattle.asrun_session.specs.Profile.{on_ok, registered, grouped, posted, gives_none, entered, line_entered, loaded}
use Rattle.asrun_session.specs.Whole.{Start, start_by, list_begun, fresh, started_by, start_by_lines, start_of, most_profile, long_profile_text}
use Rattle.asrun_session.specs.declared.profile.ProfileFault.{ProfileFault}
use Rattle.asrun_session.specs.declared.profile.ProfileFault.TheVariants.{NotVoid}

-- ---- what is not refused is what was to stand after it

registered_as : (n : ℕ) (o : Option RegError) (after s : Registrations) → registered n o after ≡ Ok s → after ≡ s
registered_as n None after s e = cc
registered_as n (Some why) after s e = cc

grouped_as : (n : ℕ) (o : Option GroupError) (after s : Registrations) → grouped n o after ≡ Ok s → after ≡ s
grouped_as n None after s e = cc
grouped_as n (Some why) after s e = cc

chosen_as : (b : Bool) (n : ℕ) (after s : Registrations) → (if b then Ok after else Err (NotVoid n)) ≡ Ok s → after ≡ s
chosen_as true n after s e = cc
chosen_as false n after s e = cc

posted_as : (n : ℕ) (o : Option RegError) (place : ℕ) (after s : Registrations) → posted n o place after ≡ Ok s → after ≡ s
posted_as n (Some why) place after s e = cc
posted_as n None place after s e = chosen_as (gives_none (entry_at after.entries place)) n after s e

-- ---- line by line

entered_as : (n : ℕ) (r : Registrations) (o : Option Entry) (s : Registrations) → entered n r o ≡ Ok s → with_line r o ≡ s
entered_as n r None s e = cc
entered_as n r (Some (DefaultMask m)) s e = cc
entered_as n r (Some (Limit limit)) s e = cc
entered_as n r (Some (HostType name driver)) s e =
    registered_as n (refusal_of_type r driver (declared_type name)) (with_type r driver (declared_type name)) s e
entered_as n r (Some (Factory t f decl)) s e =
    registered_as n (refusal_of_factory r t (declared_factory decl)) (with_factory r t f (declared_factory decl)) s e
entered_as n r (Some (Method t f decl)) s e =
    registered_as n (refusal_of_method r t (declared_method decl)) (with_method r t f (declared_method decl)) s e
entered_as n r (Some (Property t f decl)) s e =
    registered_as n (refusal_of_property r t (declared_property decl)) (with_property r t f (declared_property decl)) s e
entered_as n r (Some (Function driver f decl)) s e =
    registered_as n (refusal_of_function r driver (declared_function decl)) (with_function r driver f (declared_function decl)) s e
entered_as n r (Some (Posted driver f decl)) s e =
    posted_as n (refusal_of_function r driver (declared_function decl)) (length r.entries) (with_function r driver f (declared_function decl)) s e
entered_as n r (Some (Global driver f decl)) s e =
    registered_as n (refusal_of_global r driver (declared_property decl)) (with_global r driver f (declared_property decl)) s e
entered_as n r (Some (Enumeration name)) s e =
    registered_as n (refusal_of_enumeration r (declared_type name)) (with_enumeration r (declared_type name)) s e
entered_as n r (Some (EnumValue enumeration name value)) s e =
    registered_as n (refusal_of_value r enumeration value (declared_type name)) (with_value r enumeration value (declared_type name)) s e
entered_as n r (Some (Group name)) s e = grouped_as n (refusal_of_begin r name) (with_opened r name) s e
entered_as n r (Some EndGroup) s e = grouped_as n (refusal_of_end r) (with_ended r) s e
entered_as n r (Some Blank) s e = registered_as n (refusal_of_blank r) (with_blank r) s e

line_as : (b : Bool) (n : ℕ) (r : Registrations) (o : Option Entry) (s : Registrations)
    → (if b then Ok r else entered n r o) ≡ Ok s → (if b then r else with_line r o) ≡ s
line_as true n r o s e = cc
line_as false n r o s e = entered_as n r o s e

step_as : (x : Result Registrations ProfileFault) (n : ℕ) (lines : List (List ℕ)) (q t : Registrations)
    → ((s : Registrations) → x ≡ Ok s → q ≡ s)
    → ((s : Registrations) → loaded (n + 1) s lines ≡ Ok t → with_lines s lines ≡ t)
    → on_ok x (λ s. loaded (n + 1) s lines) ≡ Ok t → with_lines q lines ≡ t
step_as (Ok s) n lines q t same rest e = ap (λ p. with_lines p lines) (same s refl) ∙ rest s e
step_as (Err fault) n lines q t same rest e = cc

lines_as : (n : ℕ) (r : Registrations) (lines : List (List ℕ)) (t : Registrations) → loaded n r lines ≡ Ok t → with_lines r lines ≡ t
unfolding loaded
lines_as n r [] t e = cc
lines_as n r (line ∷ lines) t e =
    step_as (line_entered n r (shown_of line)) n lines (with_shown r (shown_of line)) t
    (λ s h. line_as (is_skipped (shown_of line)) n r (entry_of (shown_of line)) s h)
    (λ s h. lines_as (n + 1) s lines t h) e

-- ---- the whole

by_lines : (x : Result Registrations ProfileFault) (profile : List ℕ) (s : Start)
    → ((t : Registrations) → x ≡ Ok t → with_lines fresh (lines_of profile) ≡ t)
    → started_by x (limits_of no_limits (lines_of profile)) ≡ Ok s → s ≡ declared_start profile
by_lines (Ok t) profile s same e =
    let whole : start_by (list_begun t) (limits_of no_limits (lines_of profile)) ≡ s = cc in
    sym whole ∙ ap (λ q. start_by (list_begun q) (limits_of no_limits (lines_of profile))) (sym (same t refl))
by_lines (Err fault) profile s same e = cc

chosen_start : (b : Bool) (profile : List ℕ) (s : Start)
    → (if b then Err long_profile_text else start_by_lines fresh no_limits (lines_of profile)) ≡ Ok s → s ≡ declared_start profile
chosen_start true profile s e = cc
chosen_start false profile s e =
    by_lines (loaded 1 fresh (lines_of profile)) profile s (λ t h. lines_as 1 fresh (lines_of profile) t h) e

pub declared : (profile : List ℕ) (s : Start) → start_of profile ≡ Ok s → s ≡ declared_start profile
declared profile s e = chosen_start (nat_lt most_profile (length profile)) profile s e
