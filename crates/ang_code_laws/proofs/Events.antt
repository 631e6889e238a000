-- What giving up, holding and memory list: ends of objects alone.
use Rattle.std.proofs.Common.{◌≡◌, List, [], ◌∷◌, ◌++◌, Some, None, refl, sym, ap, ◌∙◌, append_assoc, append-nil}
use Rattle.std.specs.Prelude.{Bool, true, false}
use Rattle.std.specs.List.{AllByRecursion}
use Rattle.ang_host.specs.declared.event.HostEvent.{HostEvent}
use Rattle.ang_host.specs.declared.event.HostEvent.TheVariants.{Called, Ended}
use Rattle.std.specs.FinMap as map
use Rattle.ang_meaning.specs.declared.slot.Slot.{Slot}
use Rattle.ang_meaning.specs.declared.slot.Slot.TheVariants.{Bits, Script, Host}
use Rattle.ang_meaning.specs.World.{World, Input, Room, Said, Tallied, Fresh, Tried, Yes, No, if_told, memory_told, memory_step, one_more, HoldLimit, Inside, AtEnd, OfDriver, hold_limit_of, refused_at, tally_told, tally_step, hold, with_inputs, or_else}
use Rattle.ang_meaning.specs.Told.{answers_listed, Moves}
use Rattle.ang_meaning.specs.Environment.{Environment}
use Rattle.ang_code_laws.specs.Asked.{IsAskedBy, Asks}

all_append : (P : HostEvent → Type 0) (a b : List HostEvent) → AllByRecursion P a → AllByRecursion P b → AllByRecursion P (a ++ b)
all_append P [] b p q = q
all_append P (x ∷ a) b p q = (p.0, all_append P a b p.1 q)

module _ (z : Environment) where
  pub asks_then : (u v w : World) → Asks z u v → Asks z v w → Asks z u w
  asks_then u v w p q = record {
    more = p.more ++ q.more;
    events = q.events ∙ ap (λ l. l ++ q.more) p.events ∙ append_assoc u.events p.more q.more;
    askings = all_append (IsAskedBy z) p.more q.more p.askings q.askings;
  }

  -- the events stay
  pub quiet : (u v : World) → v.events ≡ u.events → Asks z u v
  quiet u v e = record { more = []; events = e ∙ sym (append-nil u.events); askings = tt }

  pub nothing : (w : World) → Asks z w w
  nothing w = quiet w w refl

  -- where no driver answered, no driver was asked
  only_ends : (events : List HostEvent) → answers_listed events ≡ [] → AllByRecursion (IsAskedBy z) events
  only_ends [] h = tt
  only_ends (Called c e d o args r ∷ events) h = absurd (cc)
  only_ends (Ended d k ∷ events) h = (tt, only_ends events h)

  pub untold : (u v : World) → Moves u [] v → Asks z u v
  untold u v p = record { more = p.more; events = p.events; askings = only_ends p.more p.answers }

  -- a step that may be refused
  abbrev pub TriedAsks : World → Tried → Type 0
  TriedAsks w (Yes w') = Asks z w w'
  TriedAsks w (No w') = Asks z w w'

  told_asks : (b : Bool) (rest : List Input) (w : World) → TriedAsks w (if_told b (with_inputs rest w))
  told_asks true rest w = quiet w _ refl
  told_asks false rest w = quiet w _ refl

  memory_from : (inputs : List Input) (w : World) → TriedAsks w (memory_told inputs w)
  memory_from [] w = nothing w
  memory_from (Room b ∷ rest) w = told_asks b rest w
  memory_from (Said r ∷ rest) w = nothing w
  memory_from (Tallied b ∷ rest) w = nothing w
  memory_from (Fresh n ∷ rest) w = nothing w

  pub memory_asks : (w : World) → TriedAsks w (memory_step w)
  unfolding memory_step
  memory_asks w = memory_from w.inputs w

  refused_from : (x : HoldLimit) (rest : List Input) (w : World) → TriedAsks w (refused_at x rest w)
  refused_from Inside rest w = nothing w
  refused_from AtEnd rest w = quiet w _ refl
  refused_from OfDriver rest w = quiet w _ refl

  tally_from : (x : HoldLimit) (inputs : List Input) (w : World) → TriedAsks w (tally_told x inputs w)
  tally_from x [] w = nothing w
  tally_from x (Tallied true ∷ rest) w = quiet w _ refl
  tally_from x (Tallied false ∷ rest) w = refused_from x rest w
  tally_from x (Said r ∷ rest) w = nothing w
  tally_from x (Room b ∷ rest) w = nothing w
  tally_from x (Fresh n ∷ rest) w = nothing w

  tally_asks : (v : Slot) (w : World) → TriedAsks w (tally_step v w)
  unfolding tally_step
  tally_asks (Bits n) w = nothing w
  tally_asks (Script None) w = nothing w
  tally_asks (Script (Some n)) w = tally_from (hold_limit_of (map.get w.objects n)) w.inputs w
  tally_asks (Host d None) w = nothing w
  tally_asks (Host d (Some k)) w = tally_from OfDriver w.inputs w

  pub more_asks : (v : Slot) (w : World) → Asks z w (one_more v w)
  unfolding one_more
  more_asks (Bits n) w = nothing w
  more_asks (Script None) w = nothing w
  more_asks (Script (Some n)) w = quiet w _ refl
  more_asks (Host d None) w = nothing w
  more_asks (Host d (Some k)) w = quiet w _ refl

  held_asks : (v : Slot) (w : World) (o : Tried) → TriedAsks w o → TriedAsks w (or_else o No (λ u. Yes (one_more v u)))
  held_asks v w (No w') p = p
  held_asks v w (Yes w') p = asks_then w w' (one_more v w') p (more_asks v w')

  pub hold_asks : (v : Slot) (w : World) → TriedAsks w (hold v w)
  unfolding hold
  hold_asks v w = held_asks v w (tally_step v w) (tally_asks v w)
