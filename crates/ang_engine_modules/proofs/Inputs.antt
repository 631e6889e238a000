-- What a run is told, after what it was told before; and that giving up neither asks nor answers.
use Rattle.std.proofs.Common.{◌≡◌, ℕ, zero, suc, List, [], ◌∷◌, ◌++◌, Some, None, refl, ap, ◌∙◌, append-nil}
use Rattle.std.specs.Prelude.{true, false}
use Rattle.std.specs.FinMap as map
use Rattle.ang_host.specs.declared.event.HostEvent.{HostEvent}
use Rattle.ang_host.specs.declared.event.HostEvent.TheVariants.{Called, Ended}
use Rattle.ang_meaning.specs.declared.slot.Slot.{Slot}
use Rattle.ang_meaning.specs.declared.slot.Slot.TheVariants.{Bits, Script, Host}
use Rattle.ang_meaning.specs.World.{World, Input, Room, Said, Tallied, Fresh, with_inputs, Lowered, Gone, Kept, each_given, script_given, script_lowered, given, give}
use Rattle.ang_meaning.specs.Told.{has_room, stopped_by, answers_told, answers_listed}
use Rattle.ang_meaning.proofs.Moving.{give_moves}

-- ---- inputs after inputs

pub room_append : (a b : List Input) → has_room a ≡ true → has_room (a ++ b) ≡ has_room b
room_append [] b h = refl
room_append (Said r ∷ a) b h = room_append a b h
room_append (Room true ∷ a) b h = room_append a b h
room_append (Room false ∷ a) b h = absurd (cc)
room_append (Tallied true ∷ a) b h = room_append a b h
room_append (Tallied false ∷ a) b h = absurd (cc)
room_append (Fresh n ∷ a) b h = room_append a b h

pub stopped_append : (a b : List Input) → has_room a ≡ true → stopped_by (a ++ b) ≡ stopped_by b
stopped_append [] b h = refl
stopped_append (Said r ∷ a) b h = stopped_append a b h
stopped_append (Room true ∷ a) b h = stopped_append a b h
stopped_append (Room false ∷ a) b h = absurd (cc)
stopped_append (Tallied true ∷ a) b h = stopped_append a b h
stopped_append (Tallied false ∷ a) b h = absurd (cc)
stopped_append (Fresh n ∷ a) b h = stopped_append a b h

pub told_append : (a b : List Input) → answers_told (a ++ b) ≡ answers_told a ++ answers_told b
told_append [] b = refl
told_append (Said r ∷ a) b = ap (λ l. r ∷ l) (told_append a b)
told_append (Room x ∷ a) b = told_append a b
told_append (Tallied x ∷ a) b = told_append a b
told_append (Fresh n ∷ a) b = told_append a b

pub listed_append : (a b : List HostEvent) → answers_listed (a ++ b) ≡ answers_listed a ++ answers_listed b
listed_append [] b = refl
listed_append (Called c e d o args r ∷ a) b = ap (λ l. r ∷ l) (listed_append a b)
listed_append (Ended d k ∷ a) b = listed_append a b

-- ---- giving up

-- each of these keeps the inputs, whatever they are
abbrev Keeps : (Slot → World → World) → Type 0
Keeps go = (v : Slot) (is : List Input) (w : World) → go v (with_inputs is w) ≡ with_inputs is (go v w)

each_inputs : (go : Slot → World → World) → Keeps go → (vs : List Slot) (is : List Input) (w : World) → each_given go vs (with_inputs is w) ≡ with_inputs is (each_given go vs w)
each_inputs go h [] is w = refl
each_inputs go h (v ∷ vs) is w = ap (each_given go vs) (h v is w) ∙ each_inputs go h vs is (go v w)

script_inputs : (go : Slot → World → World) → Keeps go → (l : Lowered) (is : List Input) (w : World) → script_given go l (with_inputs is w) ≡ with_inputs is (script_given go l w)
script_inputs go h (Kept os) is w = refl
script_inputs go h (Gone vs os) is w = each_inputs go h vs is (record w { objects = os })

given_inputs : (n : ℕ) → Keeps (given n)
unfolding given
given_inputs n (Bits x) is w = refl
given_inputs n (Script None) is w = refl
given_inputs n (Host d None) is w = refl
given_inputs n (Host d (Some k)) is w = refl
given_inputs zero (Script (Some k)) is w = refl
given_inputs (suc n) (Script (Some k)) is w = script_inputs (given n) (given_inputs n) (script_lowered k w.objects) is w

pub give_inputs : Keeps give
unfolding give
give_inputs v is w = given_inputs (map.len w.objects) v is w

-- it answers nothing
pub give_listed : (v : Slot) (w : World) → answers_listed (give v w).events ≡ answers_listed w.events
give_listed v w =
    let p = give_moves v w in
    ap answers_listed p.events ∙ listed_append w.events p.more ∙ ap (λ l. answers_listed w.events ++ l) p.answers ∙ append-nil (answers_listed w.events)
