-- A setting of builds is typed.
use Rattle.std.specs.Prelude.{◌≡◌, ◌⊎◌, ℕ, List, Option, Some, None, Result, Ok, Err, slice_get}
use Rattle.std.proofs.Common.{sym, ap, subst, inl, inr}
use Rattle.ang_kinds.specs.declared.error.Error.{Error}
use Rattle.ang_view.specs.Registration.{RegistrationList}
use Rattle.ang_tree.specs.Stmt.{Every}
use Rattle.ang_typed.specs.declared.program.TypedParameter.{TypedParameter}
use Rattle.ang_names_listed.specs.Sources.{Source}
use Rattle.ang_meaning.specs.declared.routine.Routine.{Routine}
use Rattle.ang_meaning.specs.Environment.{Environment}
use Rattle.ang_source_typed.specs.Types.{TypedModule, Modules}
use Rattle.ang_source_typed.specs.TypedProgram.{Signature, HasSignature, IsImport, TypedProgram}
use Rattle.ang_source_typed.specs.Runs.{HasTree}
use Rattle.ang_engine_build.specs.Build.{Resolved, Compiled, after_reading, resolution_of}
use Rattle.ang_engine_build.specs.Script.{sources_of}
use Rattle.ang_engine_build.proofs.Programs.{IsResolution, scripts_resolve}
use Rattle.ang_check_laws.specs.HostTypes.{IsSeenType}
use Rattle.ang_check_laws.specs.Narrowed.{IsKept}
use Rattle.ang_check_laws.specs.Settings.{IsDeclaredSo, IsStanding, IsUnbuilt, SettingsAreTyped}
use Rattle.ang_check_laws.specs.Typed.{ProgramIsTyped}
use Rattle.ang_check_laws.proofs.NarrowedBuilds.{builds_typed, unbuilt_typed}
use Rattle.ang_check_laws.proofs.SettingsLinks.{has_there, import_seen, is_plain, kept_has, kept_stands, link_typed}

-- the scripts that were read
read_by : (V : RegistrationList) (read : Result (List Source) Error) (r : Resolved) → after_reading V read ≡ Compiled r → (ss : List Source) × IsResolution V ss r
read_by V (Ok ss) r is = (ss, scripts_resolve V ss r is)
read_by V (Err e) r is = absurd (let x : ⊥ = cc in x)

nothing_there : {A : Type 0} (o : Option A) (a : A) → o ≡ Some a → o ≡ None → ⊥
nothing_there None a h k = cc
nothing_there (Some x) a h k = cc

module _ (R : RegistrationList) (z : Environment) (ms : Modules) where
  abbrev IsThere : ℕ → Type 0
  IsThere m = IsUnbuilt z ms m ⊎ IsStanding R z ms m

  tree_of : (m : ℕ) → IsThere m → HasTree z m (ms m).program
  tree_of m (inl h) = subst (λ (x : TypedModule). HasTree z m x.program) (sym h.known) h.tree
  tree_of m (inr h) = subst (λ (x : TypedModule). HasTree z m x.program) (sym h.kept.known) h.kept.tree

  module _ (program_is_typed : ProgramIsTyped) where
    program_of_module : (m : ℕ) → IsThere m → TypedProgram z ms m
    program_of_module m (inl h) = unbuilt_typed z ms m h.known h.tree
    program_of_module m (inr h) =
        builds_typed program_is_typed h.sight h.sections h.resolved z ms m h.takes.values h.own h.takes.few h.built h.kept

  -- between two modules that are built
  link_of : (m i : ℕ) (g : Routine) (u : Signature) → IsStanding R z ms m → IsStanding R z ms g.home → IsDeclaredSo ms m i g → IsImport z ms m i u
      → HasSignature z ms g.home g.number u
  link_of m i g u a b d is =
      let first = read_by a.sight (sources_of 0 a.sections) a.resolved a.built in
      let second = read_by b.sight (sources_of 0 b.sections) b.resolved b.built in
      let kept : IsKept z ms m a.sight (resolution_of a.sight first.0) = subst (IsKept z ms m a.sight) (sym (first.1).is) a.kept in
      let other : IsKept z ms g.home b.sight (resolution_of b.sight second.0) = subst (IsKept z ms g.home b.sight) (sym (second.1).is) b.kept in
      let seen = import_seen z ms m a.sight first.0 kept i d.heading d.declared in
      let passes : Every (λ (q : TypedParameter). IsSeenType a.sight q.ty) (d.function).parameters =
      subst (Every (λ (q : TypedParameter). IsSeenType a.sight q.ty)) (sym d.parameters) seen.parameters in
      let there = has_there z ms g.home b.sight second.0 other b.takes.few (second.1).accepted a.sight g.number d.function d.there passes in
      let plain = is_plain z ms g.home b.sight second.0 other b.takes.few (second.1).accepted a.sight g.number d.function d.there passes in
      link_typed R a.sight b.sight z ms m g.home (kept_has z ms m a.sight a.resolved a.kept) (kept_has z ms g.home b.sight b.resolved b.kept)
      (kept_stands R z ms m a.sight a.resolved a.kept a.stands) (kept_stands R z ms g.home b.sight b.resolved b.kept b.stands) i g.number u d.heading d.function d.declared
      d.there d.parameters d.result seen there plain is

  link_by : (m i : ℕ) (g : Routine) (u : Signature) → IsThere m → IsThere g.home → IsDeclaredSo ms m i g → IsImport z ms m i u → HasSignature z ms g.home g.number u
  link_by m i g u (inl a) b d is =
      absurd (nothing_there (slice_get (ms m).program.imports i) d.heading d.declared (ap (λ (x : TypedModule). slice_get x.program.imports i) a.known))
  link_by m i g u (inr a) (inl b) d is =
      absurd (nothing_there (slice_get (ms g.home).program.functions g.number) d.function d.there (ap (λ (x : TypedModule). slice_get x.program.functions g.number) b.known))
  link_by m i g u (inr a) (inr b) d is = link_of m i g u a b d is

pub settings_typed : ProgramIsTyped → SettingsAreTyped
settings_typed program_is_typed R z ms modules links = record {
  trees = λ m. tree_of R z ms m (modules m);
  programs = λ m. program_of_module R z ms program_is_typed m (modules m);
  links = λ m i g u at is. link_by R z ms m i g u (modules m) (modules g.home) (links m i g at) is;
}
