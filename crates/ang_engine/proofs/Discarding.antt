-- An engine that is given up.
use Rattle.std.proofs.Common.{◌≡◌, ◌⊎◌, inl, inr, ℕ, zero, suc, ◌<◌, ◌≤◌, List, [], ◌∷◌, ◌++◌, length, refl, sym, ap, ◌∙◌, subst, arith, All, Option, Some, None}
use Rattle.std.specs.Prelude.{Contains, slice_get, slice_index_or}
use Rattle.std.specs.declared.alloc.Global.{Global}
use Rattle.std.specs.declared.dyn_box.DynBox.{DynBox}
use Rattle.ang_host.specs.declared.event.HostEvent.{HostEvent}
use Rattle.ang_host.specs.declared.event.Role.{Role}
use Rattle.ang_host.specs.State.{State}
use Rattle.ang_host.specs.Laws.{IsSound}
use Rattle.ang_host.specs.Meanings.{Meanings}
use Rattle.ang_host.specs.Members.{state_at, AreFresh}
use Rattle.ang_host.specs.Counts.{IsBalanced}
use Rattle.ang_host.specs.Events.{DriversFollow}
use Rattle.ang_view.specs.Registration.{RegistrationList}
use Rattle.ang_meaning.specs.declared.slot.Slot.{Slot}
use Rattle.ang_meaning.specs.World.{World as RunWorld}
use Rattle.ang_meaning.specs.Counting.{IsCounted, counts_by}
use Rattle.ang_heap.specs.Parts.{PartsMove}
use Rattle.ang_engine_modules.specs.declared.module.Module.{Module}
use Rattle.ang_engine_modules.specs.declared.module.ModuleList.{ModuleList}
use Rattle.ang_engine_modules.specs.Sound.{HaveGlobals}
use Rattle.ang_engine_modules.specs.World.{all_ended}
use Rattle.ang_engine.specs.Sound.{AreSoundModules}
use Rattle.ang_engine.proofs.GlobalsEnd.{all_given_back}
use Rattle.ang_engine.proofs.States.{All-state_at, fresh-balanced}

-- nothing of the drivers is alive
pub record AreGivenBack (ss : List State) : Type 0 where
  pub balanced : All IsBalanced ss
  pub fresh : AreFresh ss

-- A module whose globals are not none is one of those of the order.
abbrev pub AreListed : List ℕ → List (List Slot) → Type 0
AreListed is gs = (j : ℕ) → Contains is j ⊎ (slice_index_or gs j [] ≡ [])

not_there : (ms : List (Option Module)) (j : ℕ) → slice_get ms j ≡ None → length ms ≤ j
not_there [] j at = omega arith
not_there (m ∷ ms) zero at = absurd (cc)
not_there (m ∷ ms) (suc j) at = omega (arith, not_there ms j at)

past_all : (gs : List (List Slot)) (j : ℕ) → length gs ≤ j → slice_index_or gs j [] ≡ []
past_all [] j le = refl
past_all (g ∷ gs) zero le = absurd (omega (arith, le))
past_all (g ∷ gs) (suc j) le = past_all gs j (omega (arith, le))

one_listed : (R : RegistrationList) (x : ModuleList) (gs : List (List Slot)) (j : ℕ) (o : Option (Option Module)) → slice_get x.places.items j ≡ o → AreSoundModules R x → HaveGlobals x gs
    → Contains x.order.items j ⊎ (slice_index_or gs j [] ≡ [])
one_listed R x gs j None at sound h = inr (past_all gs j (omega (arith, h.count, not_there x.places.items j at)))
one_listed R x gs j (Some None) at sound h = inr (h.none j at)
one_listed R x gs j (Some (Some m)) at sound h = inl (sound.listed j m at)

pub all_listed : (R : RegistrationList) (x : ModuleList) (gs : List (List Slot)) → AreSoundModules R x → HaveGlobals x gs → AreListed x.order.items gs
all_listed R x gs sound h j = one_listed R x gs j (slice_get x.places.items j) refl sound h

pub discarded : (ss : List State) (is : List ℕ) (r x : RunWorld) → IsCounted [] r → AreListed is r.globals → all_ended is r ≡ x → x.hosts ≡ counts_by ss
    → ((i : ℕ) → i < length ss → IsSound (state_at ss i)) → AreGivenBack ss
discarded ss is r x counted listed ended hosts sound =
    let each : (i : ℕ) → i < length ss → IsBalanced (state_at ss i) = λ i lt. all_given_back ss is r counted listed (ap (λ w. w.hosts) ended ∙ hosts) i (sound i lt) in
    record { balanced = All-state_at IsBalanced ss each; fresh = fresh-balanced ss sound each }

-- the drivers follow the ends, which are all that was listed
pub discarded-follow : {V : Type 0} {P : V → Type 0} (m : Meanings P) (roles : List Role) (xs ys : List (DynBox V Global P)) (es fs gs : List HostEvent)
    → es ≡ [] → gs ≡ fs → PartsMove m roles xs es ys fs → DriversFollow m roles xs gs ys
discarded-follow m roles xs ys es fs gs none same p =
    subst (λ l. DriversFollow m roles xs l ys) (sym (same ∙ p.events ∙ ap (λ l. l ++ p.more) none)) p.follow
