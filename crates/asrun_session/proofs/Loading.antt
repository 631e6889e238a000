-- A profile's lines, one after the other.
use Rattle.std.proofs.Common.{◌≡◌, ◌≢◌, ℕ, ◌+◌, List, [], ◌∷◌, Option, Some, None, true, false, Result, Ok, Err, ap, ap₂, sym, refl, ◌∙◌, subst}
use Rattle.std.specs.Prelude.{Bool, OnOk, IfOk, IfErr, if◌then◌else◌}
use Rattle.ang_view.specs.Registration.{entry_at}
use Rattle.ang_kinds.specs.declared.mask.EntityNo.{EntityNo}
use Rattle.ang_registry.specs.declared.error.GroupError.{GroupError}
use Rattle.ang_registry.specs.declared.error.GroupError.TheVariants.{Memory as NoGroupMemory}
use Rattle.ang_registry.specs.declared.error.RegError.{RegError}
use Rattle.ang_registry.specs.declared.error.RegError.TheVariants.{Memory as NoMemory}
use Rattle.ang_registry.specs.Registrations.{Registrations}
use Rattle.ang_heap.specs.declared.limits.Limits.{Limits}
use Rattle.asrun_lines.specs.Lines.{shown_of}
use Rattle.asrun_session.specs.Limits.{limits_of, line_limits}
use Rattle.asrun_session.specs.Profile.{loaded, line_entered, Loads, registered, grouped, posted, gives_none, IsGroupJudged, IsJudged, IsJudgedPosted}
use Rattle.asrun_session.specs.declared.profile.ProfileFault.{ProfileFault}
use Rattle.asrun_session.specs.declared.profile.ProfileFault.TheVariants.{Refused, GroupRefused, NotVoid}
use Rattle.asrun_session.specs.declared.profile.ProfileStop.{ProfileStop}
use Rattle.asrun_session.specs.declared.profile.ProfileStop.TheVariants as stop

-- a line was taken
pub loads_more : (n : ℕ) (r s : Registrations) (line : List ℕ) (all lines : List (List ℕ)) (whole : Result Registrations ProfileFault)
    → all ≡ line ∷ lines → line_entered n r (shown_of line) ≡ Ok s → loaded n r all ≡ whole → loaded (n + 1) s lines ≡ whole
unfolding loaded
loads_more n r s line all lines whole a e h = rw (a, e) at h

-- a line ended the run
pub loads_stopped : (U : Type 0) (n : ℕ) (r s : Registrations) (line : List ℕ) (all lines : List (List ℕ)) (whole : Result Registrations ProfileFault) (why : ProfileStop)
    → all ≡ line ∷ lines → Loads {U = U} (Err why) s (line_entered n r (shown_of line)) → loaded n r all ≡ whole → Loads {U = U} (Err why) s whole
unfolding loaded
loads_stopped U n r s line all lines whole (stop.Fault f) a e h = sym (rw (a, e) at h)
loads_stopped U n r s line all lines whole stop.Memory a e h = tt

-- no line is left
pub loads_all : (n : ℕ) (r : Registrations) (all : List (List ℕ)) (whole : Result Registrations ProfileFault)
    → all ≡ [] → loaded n r all ≡ whole → whole ≡ Ok r
unfolding loaded
loads_all n r all whole a h = sym (rw a at h)

-- the same of the limits: a line was taken
pub limits_more : (l k : Limits) (line : List ℕ) (all lines : List (List ℕ)) (whole : Limits)
    → all ≡ line ∷ lines → k ≡ line_limits l (shown_of line) → limits_of l all ≡ whole → limits_of k lines ≡ whole
unfolding limits_of
limits_more l k line all lines whole a e h = ap (λ x. limits_of x lines) e ∙ sym (ap (limits_of l) a) ∙ h

-- no line is left
pub limits_all : (l : Limits) (all : List (List ℕ)) (whole : Limits) → all ≡ [] → limits_of l all ≡ whole → l ≡ whole
unfolding limits_of
limits_all l all whole a h = sym (ap (limits_of l) a) ∙ h

-- what a registration answered, where it adds where nothing refuses it, and else answers the refusal
pub loads_judged : {U : Type 0} (r : Result U ProfileStop) (n : ℕ) (answer : Result EntityNo RegError) (refusal : Option RegError) (after now : Registrations)
    → IsJudged r n answer → OnOk answer (refusal ≡ None) → OnOk answer (now ≡ after) → IfErr answer (λ why. why ≢ NoMemory → refusal ≡ Some why)
    → Loads r now (registered n refusal after)
loads_judged (Ok u) n (Ok number) refusal after now j none added first = ap (λ o. registered n o after) none ∙ ap Ok (sym added)
loads_judged (Ok u) n (Err why) refusal after now j none added first = let differ : false ≡ true = j in cc
loads_judged (Err (stop.Fault fault)) n (Ok number) refusal after now (why, e, other, is) none added first = absurd (cc)
loads_judged (Err (stop.Fault fault)) n (Err was) refusal after now (why, e, other, is) none added first =
    let same : was ≡ why = cc in
    ap (λ o. registered n o after) (first (subst (λ w. w ≢ NoMemory) (sym same) other)) ∙ ap Err (ap (λ w. Refused n w) same ∙ sym is)
loads_judged (Err stop.Memory) n answer refusal after now j none added first = tt

-- what the registry answered where a group is begun
pub loads_grouped : {U : Type 0} (r : Result U ProfileStop) (n : ℕ) (answer : Result (Unit {0}) GroupError) (refusal : Option GroupError) (after now : Registrations)
    → IsGroupJudged r n answer → OnOk answer (refusal ≡ None) → OnOk answer (now ≡ after) → IfErr answer (λ why. why ≢ NoGroupMemory → refusal ≡ Some why)
    → Loads r now (grouped n refusal after)
loads_grouped (Ok u) n (Ok x) refusal after now j none added first = ap (λ o. grouped n o after) none ∙ ap Ok (sym added)
loads_grouped (Ok u) n (Err why) refusal after now j none added first = let differ : false ≡ true = j in cc
loads_grouped (Err (stop.Fault fault)) n (Ok x) refusal after now (why, e, other, is) none added first = absurd (cc)
loads_grouped (Err (stop.Fault fault)) n (Err was) refusal after now (why, e, other, is) none added first =
    let same : was ≡ why = cc in
    ap (λ o. grouped n o after) (first (subst (λ w. w ≢ NoGroupMemory) (sym same) other)) ∙ ap Err (ap (λ w. GroupRefused n w) same ∙ sym is)
loads_grouped (Err stop.Memory) n answer refusal after now j none added first = tt

-- and where one is ended, which wants no memory
pub loads_ended : {U : Type 0} (r : Result U ProfileStop) (n : ℕ) (answer : Result (Unit {0}) GroupError) (refusal : Option GroupError) (after now : Registrations)
    → IsGroupJudged r n answer → OnOk answer (refusal ≡ None) → OnOk answer (now ≡ after) → IfErr answer (λ why. refusal ≡ Some why) → Loads r now (grouped n refusal after)
loads_ended r n (Ok x) refusal after now j none ended first = loads_grouped r n (Ok x) refusal after now j none ended tt
loads_ended r n (Err why) refusal after now j none ended first = loads_grouped r n (Err why) refusal after now j tt tt (λ other. first)

-- the same of a function that is posted
loads_chosen : (b : Bool) (r : Result (Unit {0}) ProfileStop) (n : ℕ) (now : Registrations)
    → r ≡ (if b then Ok tt else Err (stop.Fault (NotVoid n))) → Loads r now (if b then Ok now else Err (NotVoid n))
loads_chosen true r n now is = subst (λ x. Loads x now (Ok now)) (sym is) refl
loads_chosen false r n now is = subst (λ x. Loads x now (Err (NotVoid n))) (sym is) refl

pub loads_posted : (r : Result (Unit {0}) ProfileStop) (n : ℕ) (answer : Result EntityNo RegError) (refusal : Option RegError) (place : ℕ) (after now : Registrations)
    → IsJudgedPosted r n now.entries answer → OnOk answer (refusal ≡ None) → IfOk answer (λ number. number.0 ≡ place) → OnOk answer (now ≡ after)
    → IfErr answer (λ why. why ≢ NoMemory → refusal ≡ Some why) → Loads r now (posted n refusal place after)
loads_posted r n (Ok number) refusal place after now j none at added first =
    subst (λ w. Loads r now w) (sym (ap (λ o. posted n o place after) none ∙ ap₂ (λ p a. posted n None p a) (sym at) (sym added)))
    (loads_chosen (gives_none (entry_at now.entries number.0)) r n now j)
loads_posted (Ok u) n (Err why) refusal place after now j none at added first = let differ : false ≡ true = j in cc
loads_posted (Err (stop.Fault fault)) n (Err was) refusal place after now (why, e, other, is) none at added first =
    let same : was ≡ why = cc in
    ap (λ o. posted n o place after) (first (subst (λ w. w ≢ NoMemory) (sym same) other)) ∙ ap Err (ap (λ w. Refused n w) same ∙ sym is)
loads_posted (Err stop.Memory) n (Err was) refusal place after now j none at added first = tt
