-- What holds of each program that a build gives.
use Rattle.std.proofs.Common.{◌≡◌, ◌≤◌, ◌<◌, refl, sym, ap, subst, ◌∙◌, ℕ, true, List, [], ◌∷◌, length}
use Rattle.std.specs.Prelude.{Result, Ok, Err, Some, slice_get}
use Rattle.ang_kinds.specs.declared.error.Error.{Error}
use Rattle.ang_view.specs.Registration.{RegistrationList}
use Rattle.ang_view.specs.Values.{TakesValues}
use Rattle.ang_types.specs.declared.asks.Refused.{Refused}
use Rattle.ang_source.specs.Sound.{SoundProgram}
use Rattle.ang_names_known.specs.declared.names.Family.{Family}
use Rattle.ang_names_known.specs.Items.{list_or}
use Rattle.ang_names_known.specs.Spaces.{AreFamilies}
use Rattle.ang_names_listed.specs.Sources.{Source}
use Rattle.ang_names_listed.specs.Declarations.{declarations_of}
use Rattle.ang_names.specs.Phases.{errors_in, refusals_of}
use Rattle.ang_names_classes.specs.Resolved.{names_of}
use Rattle.ang_names.specs.Ranks.{can_hold}
use Rattle.ang_names.proofs.Few.{accepted_families}
use Rattle.ang_names.proofs.Ranks.{ranks}
use Rattle.ang_check.specs.Bodies.{body_refusals, program_of}
use Rattle.ang_check.specs.Denials.{script_refusals}
use Rattle.ang_check_sound.specs.Checked.{HasNames}
use Rattle.ang_check_sound.proofs.Program.{has_names}
use Rattle.ang_check_sound.proofs.Soundness.{program_is_sound}
use Rattle.ang_engine_build.specs.Script.{sources_of}
use Rattle.ang_engine_build.specs.Build.{Resolved, Compiled, resolution_of, script_errors, unless_refused, build_of_scripts, after_reading, build_of}
use Rattle.ang_engine_build.specs.Named.{HasNamesOf}

-- ---- what a built program is

-- These scripts are resolved to it, and each declaration, body and initializer is accepted.
pub record IsResolution (V : RegistrationList) (ss : List Source) (r : Resolved) : Type 0 where
  pub declared : refusals_of V ss ≡ []
  pub accepted : body_refusals V (names_of V (declarations_of ss)) ss ≡ []
  pub is : resolution_of V ss ≡ r

none_of_both : (first later : List Refused) → list_or first later ≡ [] → (first ≡ []) × (later ≡ [])
none_of_both [] later h = (refl, h)
none_of_both (x ∷ xs) later h = cc

none_refused : (rs : List Refused) → errors_in rs ≡ [] → rs ≡ []
none_refused [] h = refl
none_refused (r ∷ rs) h = cc

passed : (es : List Error) (r s : Resolved) → unless_refused es r ≡ Compiled s → (es ≡ []) × (r ≡ s)
passed [] r s is = (refl, cc)
passed (e ∷ es) r s is = cc

pub scripts_resolve : (V : RegistrationList) (ss : List Source) (r : Resolved) → build_of_scripts V ss ≡ Compiled r → IsResolution V ss r
unfolding script_refusals
scripts_resolve V ss r is =
    let p = passed (script_errors V ss) (resolution_of V ss) r is in
    let none = none_of_both (refusals_of V ss) (body_refusals V (names_of V (declarations_of ss)) ss) (none_refused (script_refusals V ss) p.0) in
    record { declared = none.0; accepted = none.1; is = p.1 }

-- ---- the laws, of scripts

sound_scripts : (V : RegistrationList) (ss : List Source) (r : Resolved) → TakesValues V → length V ≤ 1024 → IsResolution V ss r → SoundProgram V r.tree
sound_scripts V ss r values few h =
    let names = names_of V (declarations_of ss) in
    let sound : SoundProgram V (program_of V names ss) = program_is_sound V names ss values few refl h.accepted in
    subst (λ (q : Resolved). SoundProgram V q.tree) h.is sound

named_scripts : (V : RegistrationList) (ss : List Source) (r : Resolved) → IsResolution V ss r → HasNames V r.names ss r.tree
named_scripts V ss r h =
    subst (λ (q : Resolved). HasNames V q.names ss q.tree) h.is (has_names V (names_of V (declarations_of ss)) ss refl h.accepted)

few_scripts : (V : RegistrationList) (ss : List Source) (r : Resolved) → IsResolution V ss r → AreFamilies r.names.families
few_scripts V ss r h = subst (λ (q : Resolved). AreFamilies q.names.families) h.is (accepted_families V ss h.declared)

ranks_in_scripts : (V : RegistrationList) (ss : List Source) (r : Resolved) (i j : ℕ) (f g : Family) → IsResolution V ss r
    → slice_get r.names.families i ≡ Some f → slice_get r.names.families j ≡ Some g → can_hold V ss i j ≡ true → g.rank < f.rank
ranks_in_scripts V ss r i j f g h =
    subst (λ (q : Resolved). slice_get q.names.families i ≡ Some f → slice_get q.names.families j ≡ Some g → can_hold V ss i j ≡ true → g.rank < f.rank) h.is
    (λ at_i at_j holds. ranks V ss i j f g h.declared at_i at_j holds)

-- ---- the laws, of sections

sound_read : (V : RegistrationList) (read : Result (List Source) Error) (r : Resolved) → TakesValues V → length V ≤ 1024
    → after_reading V read ≡ Compiled r → SoundProgram V r.tree
sound_read V (Ok ss) r values few is = sound_scripts V ss r values few (scripts_resolve V ss r is)
sound_read V (Err e) r values few is = cc

named_read : (V : RegistrationList) (sections : List (List ℕ)) (read : Result (List Source) Error) (r : Resolved) → sources_of 0 sections ≡ read
    → after_reading V read ≡ Compiled r → HasNamesOf V sections r
named_read V sections (Ok ss) r same is = record { sources = ss; are_read = same; names = named_scripts V ss r (scripts_resolve V ss r is) }
named_read V sections (Err e) r same is = cc

few_read : (V : RegistrationList) (read : Result (List Source) Error) (r : Resolved) → after_reading V read ≡ Compiled r → AreFamilies r.names.families
few_read V (Ok ss) r is = few_scripts V ss r (scripts_resolve V ss r is)
few_read V (Err e) r is = cc

-- the tree is sound over the view
pub program-sound : (V : RegistrationList) (sections : List (List ℕ)) (r : Resolved) → TakesValues V → length V ≤ 1024
    → build_of V sections ≡ Compiled r → SoundProgram V r.tree
program-sound V sections r values few is = sound_read V (sources_of 0 sections) r values few is

-- the functions and globals of the tree are those of the names
pub program-named : (V : RegistrationList) (sections : List (List ℕ)) (r : Resolved) → build_of V sections ≡ Compiled r → HasNamesOf V sections r
program-named V sections r is = named_read V sections (sources_of 0 sections) r refl is

-- the families are few
pub program-families : (V : RegistrationList) (sections : List (List ℕ)) (r : Resolved) → build_of V sections ≡ Compiled r → AreFamilies r.names.families
program-families V sections r is = few_read V (sources_of 0 sections) r is

-- what a field can hold is of a lower rank
pub program-ranks : (V : RegistrationList) (sections : List (List ℕ)) (r : Resolved) (ss : List Source) (i j : ℕ) (f g : Family)
    → build_of V sections ≡ Compiled r → sources_of 0 sections ≡ Ok ss
    → slice_get r.names.families i ≡ Some f → slice_get r.names.families j ≡ Some g → can_hold V ss i j ≡ true → g.rank < f.rank
program-ranks V sections r ss i j f g is read =
    let built : build_of_scripts V ss ≡ Compiled r = sym (ap (after_reading V) read) ∙ is in
    ranks_in_scripts V ss r i j f g (scripts_resolve V ss r built)
