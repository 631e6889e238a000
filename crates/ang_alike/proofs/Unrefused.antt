-- Commands whose replies tell of no refusal were granted all that they asked for.
use Rattle.std.proofs.Common.{◌≡◌, inl, inr, List, [], ◌∷◌, refl, sym, ap, ◌∙◌}
use Rattle.std.specs.Prelude.{◌⊎◌, true, false, IsSome}
use Rattle.ang_view.specs.Groups.{Grouped}
use Rattle.ang_meaning.specs.World.{Input, Room, Said, Tallied, Fresh}
use Rattle.ang_meaning.specs.Told.{has_room, stopped_by}
use Rattle.ang_engine_modules.specs.declared.command.Command.{Command}
use Rattle.ang_engine_modules.specs.declared.reply.Outcome.{Outcome}
use Rattle.ang_engine_modules.specs.declared.reply.Reply.{Reply}
use Rattle.ang_engine_modules.specs.World.{World, no_modules, bounded_by}
use Rattle.ang_engine.specs.Step.{fault_told, TellsRefusal, list_after}
use Rattle.ang_alike.specs.Alike.{BoundedCommand, BothGranted, BothInTurn, BothUnrefused, Grants, InTurn, tells_of_want, Unrefused, UnrefusedReplyAlike, UnrefusedReplySame}
use Rattle.ang_alike.proofs.Sessions.{hidden_does_not_matter, answers_decide}

-- what stops a run is want of memory or of a tally
stop_is_want : (is : List Input) → IsSome (stopped_by is) → tells_of_want (stopped_by is) ≡ true
stop_is_want [] h = absurd (let q : ⊥ = cc in q)
stop_is_want (Room true ∷ is) h = stop_is_want is h
stop_is_want (Room false ∷ []) h = refl
stop_is_want (Room false ∷ i ∷ is) h = absurd (let q : ⊥ = cc in q)
stop_is_want (Tallied true ∷ is) h = stop_is_want is h
stop_is_want (Tallied false ∷ []) h = refl
stop_is_want (Tallied false ∷ i ∷ is) h = absurd (let q : ⊥ = cc in q)
stop_is_want (Said x ∷ is) h = stop_is_want is h
stop_is_want (Fresh n ∷ is) h = stop_is_want is h

granted_by : (used : List Input) (o : Outcome) → tells_of_want (fault_told o) ≡ false → (has_room used ≡ true) ⊎ TellsRefusal o used → has_room used ≡ true
granted_by used o e (inl h) = h
granted_by used o e (inr h) =
    let wants : true ≡ false = sym (stop_is_want used h.0) ∙ ap tells_of_want h.1 ∙ e in
    absurd (let q : ⊥ = cc in q)

unrefused_grants : (R : Grouped) (w : World) (c : Command) (r : Reply) (t : World) → Unrefused R w c r t → Grants R w c r t
unrefused_grants R w c r t h = (h.0, granted_by h.0.used r.outcome h.1 h.0.told)

in_turn : (cs : List BoundedCommand) (rs : List Reply) (R : Grouped) (w v : World) → InTurn Unrefused R w cs rs v → InTurn Grants R w cs rs v
in_turn [] [] R w v d = d
in_turn [] (r ∷ rs) R w v d = d
in_turn (c ∷ cs) [] R w v d = d
in_turn (c ∷ cs) (r ∷ rs) R w v d =
    let before = bounded_by c.bounds w in
    (d.0, unrefused_grants R before c.command r d.0 d.1, in_turn cs rs (list_after R before c.command) d.0 v d.2)

both_in_turn : (cs : List BoundedCommand) (rs ss : List Reply) (R S : Grouped) (w u v x : World) → BothInTurn BothUnrefused R S w u cs rs ss v x → BothInTurn BothGranted R S w u cs rs ss v x
both_in_turn [] [] [] R S w u v x d = d
both_in_turn [] [] (s ∷ ss) R S w u v x d = d
both_in_turn [] (r ∷ rs) ss R S w u v x d = d
both_in_turn (c ∷ cs) [] ss R S w u v x d = d
both_in_turn (c ∷ cs) (r ∷ rs) [] R S w u v x d = d
both_in_turn (c ∷ cs) (r ∷ rs) (s ∷ ss) R S w u v x d =
    let before = bounded_by c.bounds w in
    let again = bounded_by c.bounds u in (
      d.0,
      d.1,
      (unrefused_grants R before c.command r d.0 d.2.0, unrefused_grants S again c.command s d.1 d.2.1, d.2.2),
      both_in_turn cs rs ss (list_after R before c.command) (list_after S again c.command) d.0 d.1 v x d.3,
    )

pub unrefused_reply_alike : UnrefusedReplyAlike
unrefused_reply_alike R S cs rs ss v w registered d k = hidden_does_not_matter R S cs rs ss v w registered (both_in_turn cs rs ss R S no_modules no_modules v w d) k

pub unrefused_reply_same : UnrefusedReplySame
unrefused_reply_same R cs rs ss v w registered d e k = answers_decide R cs rs ss v w registered (in_turn cs rs R no_modules v d) (in_turn cs ss R no_modules w e) k
