-- Two worlds that are equal up to the numbers of script objects stay so, whatever is held, given up and stored.
use Rattle.std.proofs.Common.{◌≡◌, ℕ, zero, suc, ◌+◌, inl, inr, List, [], ◌∷◌, ◌++◌, Option, Some, None, refl, sym, ap, ap₂, ◌∙◌, subst, length}
use Rattle.std.specs.Prelude.{◌⊎◌, ◌-◌, ◌&&◌, Bool, true, false, cond, nat_lt, nat_le, slice_set, slice_index_or}
use Rattle.std.specs.FinMap as map
use Rattle.ang_kinds.specs.declared.fault.Fault.TheVariants.{Tally}
use Rattle.ang_host.specs.declared.event.HostEvent.TheVariants.{Ended}
use Rattle.ang_host.specs.declared.event.Role.{Role}
use Rattle.ang_host.specs.declared.event.Role.TheVariants.{Making, Calling, Property}
use Rattle.ang_meaning.specs.declared.class.Class.{Class}
use Rattle.ang_meaning.specs.declared.slot.Slot.{Slot}
use Rattle.ang_meaning.specs.declared.slot.Slot.TheVariants.{Bits, Script, Host}
use Rattle.ang_meaning.specs.World.{World, ScriptRecord, ScriptObjects, Input, Room, Said, Tallied, Fresh, with_inputs, Tried, Yes, No, if_told, memory_told, memory_step, HoldLimit, Inside, AtEnd, OfDriver, hold_limit_of, refused_at, raised_at, script_raised, host_raised, one_more, tally_told, tally_step, hold, Lowered, Gone, Kept, one_less, lowered_at, script_lowered, host_lowered, each_given, script_given, given, give, give_all, or_else, has_events, has_object}
use Rattle.ang_meaning.specs.Hosts.{Done, Fine, Fails, holding, one_reserved, may_ask}
use Rattle.ang_meaning.specs.Perform.{global_or, global_put, field_of, field_or, with_field, field_put, is_lower, may_take, member_or, member_put, may_make}
use Rattle.ang_meaning.specs.Alike.{Renaming, renamed, renamed_all, renamed_lists, renamed_record, Tables}
use Rattle.ang_meaning.proofs.Renaming.{tables_insert, tables_remove, slots_alike}
use Rattle.ang_meaning.proofs.Matching.{Match, AlikeUpTo}

-- one of three
pub three : {A B C W : Type 0} → (A → W) → (B → W) → (C → W) → A ⊎ (B ⊎ C) → W
three f g h (inl a) = f a
three f g h (inr (inl b)) = g b
three f g h (inr (inr c)) = h c

-- there are inputs left
pub record HasMore (w : World) : Type 0 where
  pub first : Input
  pub rest : List Input
  pub inputs : w.inputs ≡ first ∷ rest

-- a step that was refused for an input of another sort
abbrev pub TriedLeaves : Type 0 → Tried → Type 0
TriedLeaves apart (Yes w) = ⊥
TriedLeaves apart (No w) = apart × HasMore w

abbrev pub DoneLeaves : Type 0 → Done → Type 0
DoneLeaves apart (Fine x w) = ⊥
DoneLeaves apart (Fails f w) = apart × HasMore w

abbrev pub TriedSame : Type 0 → Renaming → Tried → Tried → Type 0
TriedSame apart r (Yes v) (Yes w) = AlikeUpTo apart r v w
TriedSame apart r (Yes v) (No w) = ⊥
TriedSame apart r (No v) (Yes w) = ⊥
TriedSame apart r (No v) (No w) = AlikeUpTo apart r v w

abbrev pub DoneSame : Type 0 → Renaming → Done → Done → Type 0
DoneSame apart r (Fine x v) (Fine y w) = (y ≡ renamed r x) × AlikeUpTo apart r v w
DoneSame apart r (Fine x v) (Fails g w) = ⊥
DoneSame apart r (Fails f v) (Fine y w) = ⊥
DoneSame apart r (Fails f v) (Fails g w) = (g ≡ f) × AlikeUpTo apart r v w

-- they are the same, or one of them was refused for an input of another sort
abbrev pub TriedAlike : Type 0 → Renaming → Tried → Tried → Type 0
TriedAlike apart r o p = TriedSame apart r o p ⊎ (TriedLeaves apart o ⊎ TriedLeaves apart p)

abbrev pub DoneAlike : Type 0 → Renaming → Done → Done → Type 0
DoneAlike apart r o p = DoneSame apart r o p ⊎ (DoneLeaves apart o ⊎ DoneLeaves apart p)

module _ (apart : Type 0) (r : Renaming) where
  pub told_alike : (is js : List Input) (v w : World) → Match apart is js → AlikeUpTo apart r v w → AlikeUpTo apart r (with_inputs is v) (with_inputs js w)
  told_alike is js v w m p = record { objects = p.objects; hosts = p.hosts; globals = p.globals; events = p.events; reserved = p.reserved; spent = p.spent; bounds = p.bounds; inputs = m }

  pub objects_alike : (os ps : ScriptObjects) (v w : World) → Tables r os ps → AlikeUpTo apart r v w → AlikeUpTo apart r (record v { objects = os }) (record w { objects = ps })
  objects_alike os ps v w t p = record { objects = t; hosts = p.hosts; globals = p.globals; events = p.events; reserved = p.reserved; spent = p.spent; bounds = p.bounds; inputs = p.inputs }

  -- ---- bounds

  pub reserved_alike : (v w : World) → AlikeUpTo apart r v w → AlikeUpTo apart r (one_reserved v) (one_reserved w)
  reserved_alike v w p = record {
    objects = p.objects;
    hosts = p.hosts;
    globals = p.globals;
    events = p.events;
    reserved = ap suc p.reserved;
    spent = p.spent;
    bounds = p.bounds;
    inputs = p.inputs;
  }

  events_same : (n : ℕ) (v w : World) → AlikeUpTo apart r v w → has_events n w ≡ has_events n v
  events_same n v w h = ap₂ (λ k b. nat_le (k + n) b.events) h.reserved h.bounds

  object_same : (v w : World) → AlikeUpTo apart r v w → has_object w ≡ has_object v
  object_same v w h =
      ap₂ (λ k es. nat_lt (k - length es) w.bounds.objects) h.reserved h.events ∙ ap (λ b. nat_lt (v.reserved - length v.events) b.objects) h.bounds

  -- both may ask, or neither
  pub may_ask_alike : (role : Role) (v w : World) → AlikeUpTo apart r v w → may_ask role w ≡ may_ask role v
  may_ask_alike (Making f) v w h = ap₂ (λ a b. a && b) (object_same v w h) (events_same 2 v w h)
  may_ask_alike (Calling f) v w h = events_same 1 v w h
  may_ask_alike (Property f) v w h = events_same 1 v w h

  -- both may make an object of the class, or neither
  pub may_make_alike : (c : Class) (v w : World) → AlikeUpTo apart r v w → may_make c w ≡ may_make c v
  may_make_alike c v w h = ap₂ (λ n b. nat_le (n + (1 + length c.fields)) b.slots) (slots_alike r v.objects w.objects h.objects) h.bounds

  -- ---- inputs

  if_alike : (a b : Bool) (is js : List Input) (v w : World) → a ≡ b → Match apart is js → AlikeUpTo apart r v w → TriedAlike apart r (if_told a (with_inputs is v)) (if_told b (with_inputs js w))
  if_alike true true is js v w e m p = inl (told_alike is js v w m p)
  if_alike true false is js v w e m p = absurd (let x : ⊥ = cc in x)
  if_alike false true is js v w e m p = absurd (let x : ⊥ = cc in x)
  if_alike false false is js v w e m p = inl (told_alike is js v w m p)

  memory_from : (is js : List Input) (v w : World) → v.inputs ≡ is → w.inputs ≡ js → Match apart is js → AlikeUpTo apart r v w → TriedAlike apart r (memory_told is v) (memory_told js w)
  memory_from [] [] v w e f mt h = inl h
  memory_from [] (j ∷ js) v w e f mt h = absurd mt
  memory_from (i ∷ is) [] v w e f mt h = absurd mt
  memory_from (Room a ∷ is) (Room b ∷ js) v w e f mt h = if_alike a b is js v w mt.0 mt.1 h
  memory_from (Room a ∷ is) (Said u ∷ js) v w e f mt h = inr (inr (mt, record { first = Said u; rest = js; inputs = f }))
  memory_from (Room a ∷ is) (Tallied b ∷ js) v w e f mt h = inr (inr (mt, record { first = Tallied b; rest = js; inputs = f }))
  memory_from (Room a ∷ is) (Fresh k ∷ js) v w e f mt h = inr (inr (mt, record { first = Fresh k; rest = js; inputs = f }))
  memory_from (Said q ∷ is) (Room b ∷ js) v w e f mt h = inr (inl (mt, record { first = Said q; rest = is; inputs = e }))
  memory_from (Said q ∷ is) (Said u ∷ js) v w e f mt h = inl h
  memory_from (Said q ∷ is) (Tallied b ∷ js) v w e f mt h = inl h
  memory_from (Said q ∷ is) (Fresh k ∷ js) v w e f mt h = inl h
  memory_from (Tallied a ∷ is) (Room b ∷ js) v w e f mt h = inr (inl (mt, record { first = Tallied a; rest = is; inputs = e }))
  memory_from (Tallied a ∷ is) (Said u ∷ js) v w e f mt h = inl h
  memory_from (Tallied a ∷ is) (Tallied b ∷ js) v w e f mt h = inl h
  memory_from (Tallied a ∷ is) (Fresh k ∷ js) v w e f mt h = inl h
  memory_from (Fresh n ∷ is) (Room b ∷ js) v w e f mt h = inr (inl (mt, record { first = Fresh n; rest = is; inputs = e }))
  memory_from (Fresh n ∷ is) (Said u ∷ js) v w e f mt h = inl h
  memory_from (Fresh n ∷ is) (Tallied b ∷ js) v w e f mt h = inl h
  memory_from (Fresh n ∷ is) (Fresh k ∷ js) v w e f mt h = inl h

  pub memory_alike : (v w : World) → AlikeUpTo apart r v w → TriedAlike apart r (memory_step v) (memory_step w)
  unfolding memory_step
  memory_alike v w h = memory_from v.inputs w.inputs v w refl refl h.inputs h

  refused_from : (x : HoldLimit) (is js : List Input) (v w : World) → Match apart is js → AlikeUpTo apart r v w → TriedAlike apart r (refused_at x is v) (refused_at x js w)
  refused_from Inside is js v w mt h = inl h
  refused_from AtEnd is js v w mt h = inl (told_alike is js v w mt h)
  refused_from OfDriver is js v w mt h = inl (record { objects = h.objects; hosts = h.hosts; globals = h.globals; events = h.events; reserved = h.reserved; spent = refl; bounds = h.bounds; inputs = mt })

  tally_from : (x : HoldLimit) (is js : List Input) (v w : World) → v.inputs ≡ is → w.inputs ≡ js → Match apart is js → AlikeUpTo apart r v w → TriedAlike apart r (tally_told x is v) (tally_told x js w)
  tally_from x [] [] v w e f mt h = inl h
  tally_from x [] (j ∷ js) v w e f mt h = absurd mt
  tally_from x (i ∷ is) [] v w e f mt h = absurd mt
  tally_from x (Room a ∷ is) (Room b ∷ js) v w e f mt h = inl h
  tally_from x (Room a ∷ is) (Said u ∷ js) v w e f mt h = inl h
  tally_from x (Room a ∷ is) (Tallied b ∷ js) v w e f mt h = inr (inl (mt, record { first = Room a; rest = is; inputs = e }))
  tally_from x (Room a ∷ is) (Fresh k ∷ js) v w e f mt h = inl h
  tally_from x (Said q ∷ is) (Room b ∷ js) v w e f mt h = inl h
  tally_from x (Said q ∷ is) (Said u ∷ js) v w e f mt h = inl h
  tally_from x (Said q ∷ is) (Tallied b ∷ js) v w e f mt h = inr (inl (mt, record { first = Said q; rest = is; inputs = e }))
  tally_from x (Said q ∷ is) (Fresh k ∷ js) v w e f mt h = inl h
  tally_from x (Tallied a ∷ is) (Room b ∷ js) v w e f mt h = inr (inr (mt, record { first = Room b; rest = js; inputs = f }))
  tally_from x (Tallied a ∷ is) (Said u ∷ js) v w e f mt h = inr (inr (mt, record { first = Said u; rest = js; inputs = f }))
  tally_from x (Tallied true ∷ is) (Tallied true ∷ js) v w e f mt h = inl (told_alike is js v w mt.1 h)
  tally_from x (Tallied true ∷ is) (Tallied false ∷ js) v w e f mt h = absurd (let y : true ≡ false = mt.0 in let z : ⊥ = cc in z)
  tally_from x (Tallied false ∷ is) (Tallied true ∷ js) v w e f mt h = absurd (let y : false ≡ true = mt.0 in let z : ⊥ = cc in z)
  tally_from x (Tallied false ∷ is) (Tallied false ∷ js) v w e f mt h = refused_from x is js v w mt.1 h
  tally_from x (Tallied a ∷ is) (Fresh k ∷ js) v w e f mt h = inr (inr (mt, record { first = Fresh k; rest = js; inputs = f }))
  tally_from x (Fresh n ∷ is) (Room b ∷ js) v w e f mt h = inl h
  tally_from x (Fresh n ∷ is) (Said u ∷ js) v w e f mt h = inl h
  tally_from x (Fresh n ∷ is) (Tallied b ∷ js) v w e f mt h = inr (inl (mt, record { first = Fresh n; rest = is; inputs = e }))
  tally_from x (Fresh n ∷ is) (Fresh k ∷ js) v w e f mt h = inl h

  same_limit : (o : Option ScriptRecord) → hold_limit_of (renamed_record r o) ≡ hold_limit_of o
  same_limit None = refl
  same_limit (Some o) = refl

  limit_alike : (n : ℕ) (v w : World) → AlikeUpTo apart r v w → hold_limit_of (map.get w.objects (r.to n)) ≡ hold_limit_of (map.get v.objects n)
  limit_alike n v w h = ap hold_limit_of (h.objects.has n) ∙ same_limit (map.get v.objects n)

  tally_alike : (x : Slot) (v w : World) → AlikeUpTo apart r v w → TriedAlike apart r (tally_step x v) (tally_step (renamed r x) w)
  unfolding tally_step
  tally_alike (Bits n) v w h = inl h
  tally_alike (Script None) v w h = inl h
  tally_alike (Script (Some n)) v w h =
      subst (λ e. TriedAlike apart r (tally_told (hold_limit_of (map.get v.objects n)) v.inputs v) (tally_told e w.inputs w)) (sym (limit_alike n v w h))
      (tally_from (hold_limit_of (map.get v.objects n)) v.inputs w.inputs v w refl refl h.inputs h)
  tally_alike (Host d None) v w h = inl h
  tally_alike (Host d (Some k)) v w h = tally_from OfDriver v.inputs w.inputs v w refl refl h.inputs h

  -- ---- one place more

  raised_tables : (n : ℕ) (o : Option ScriptRecord) (os ps : ScriptObjects) → Tables r os ps → Tables r (raised_at n o os) (raised_at (r.to n) (renamed_record r o) ps)
  raised_tables n None os ps t = t
  raised_tables n (Some o) os ps t = tables_insert r os ps n (record o { count = suc o.count }) t

  script_raised_alike : (n : ℕ) (os ps : ScriptObjects) → Tables r os ps → Tables r (script_raised n os) (script_raised (r.to n) ps)
  unfolding script_raised
  script_raised_alike n os ps t = subst (λ o. Tables r (raised_at n (map.get os n) os) (raised_at (r.to n) o ps)) (sym (t.has n)) (raised_tables n (map.get os n) os ps t)

  pub more_alike : (x : Slot) (v w : World) → AlikeUpTo apart r v w → AlikeUpTo apart r (one_more x v) (one_more (renamed r x) w)
  unfolding one_more
  more_alike (Bits n) v w h = h
  more_alike (Script None) v w h = h
  more_alike (Script (Some n)) v w h = objects_alike _ _ v w (script_raised_alike n v.objects w.objects h.objects) h
  more_alike (Host d None) v w h = h
  more_alike (Host d (Some k)) v w h = record { objects = h.objects; hosts = ap (λ hs. host_raised d k hs) h.hosts; globals = h.globals; events = h.events; reserved = h.reserved; spent = h.spent; bounds = h.bounds; inputs = h.inputs }

  held_same : (x : Slot) (o p : Tried) → TriedSame apart r o p → TriedSame apart r (or_else o No (λ u. Yes (one_more x u))) (or_else p No (λ u. Yes (one_more (renamed r x) u)))
  held_same x (Yes v) (Yes w) h = more_alike x v w h
  held_same x (Yes v) (No w) h = absurd h
  held_same x (No v) (Yes w) h = absurd h
  held_same x (No v) (No w) h = h

  held_leaves : (x : Slot) (o : Tried) → TriedLeaves apart o → TriedLeaves apart (or_else o No (λ u. Yes (one_more x u)))
  held_leaves x (Yes w) h = absurd h
  held_leaves x (No w) h = h

  pub hold_alike : (x : Slot) (v w : World) → AlikeUpTo apart r v w → TriedAlike apart r (hold x v) (hold (renamed r x) w)
  unfolding hold
  hold_alike x v w h =
      three (λ s. inl (held_same x (tally_step x v) (tally_step (renamed r x) w) s)) (λ l. inr (inl (held_leaves x (tally_step x v) l))) (λ l. inr (inr (held_leaves (renamed r x) (tally_step (renamed r x) w) l)))
      (tally_alike x v w h)

  -- ---- one place fewer

  abbrev LoweredAlike : Lowered → Lowered → Type 0
  LoweredAlike (Gone vs os) (Gone us ps) = (us ≡ renamed_all r vs) × Tables r os ps
  LoweredAlike (Gone vs os) (Kept ps) = ⊥
  LoweredAlike (Kept os) (Gone us ps) = ⊥
  LoweredAlike (Kept os) (Kept ps) = Tables r os ps

  less_alike : (n : ℕ) (o : ScriptRecord) (c : ℕ) (os ps : ScriptObjects) → Tables r os ps → LoweredAlike (one_less n o c os) (one_less (r.to n) (record o { fields = renamed_all r o.fields }) c ps)
  less_alike n o zero os ps t = (refl, tables_remove r os ps n t)
  less_alike n o (suc zero) os ps t = (refl, tables_remove r os ps n t)
  less_alike n o (suc (suc c)) os ps t = tables_insert r os ps n (record o { count = suc c }) t

  lowered_tables : (n : ℕ) (o : Option ScriptRecord) (os ps : ScriptObjects) → Tables r os ps → LoweredAlike (lowered_at n o os) (lowered_at (r.to n) (renamed_record r o) ps)
  lowered_tables n None os ps t = t
  lowered_tables n (Some o) os ps t = less_alike n o o.count os ps t

  lowered_alike : (n : ℕ) (os ps : ScriptObjects) → Tables r os ps → LoweredAlike (script_lowered n os) (script_lowered (r.to n) ps)
  unfolding script_lowered
  lowered_alike n os ps t = subst (λ o. LoweredAlike (lowered_at n (map.get os n) os) (lowered_at (r.to n) o ps)) (sym (t.has n)) (lowered_tables n (map.get os n) os ps t)

  abbrev Gives : (Slot → World → World) → Type 0
  Gives go = (x : Slot) (v w : World) → AlikeUpTo apart r v w → AlikeUpTo apart r (go x v) (go (renamed r x) w)

  each_alike : (go : Slot → World → World) → Gives go → (vs : List Slot) (v w : World) → AlikeUpTo apart r v w → AlikeUpTo apart r (each_given go vs v) (each_given go (renamed_all r vs) w)
  each_alike go g [] v w h = h
  each_alike go g (x ∷ vs) v w h = each_alike go g vs (go x v) (go (renamed r x) w) (g x v w h)

  script_alike : (go : Slot → World → World) → Gives go → (l k : Lowered) (v w : World) → LoweredAlike l k → AlikeUpTo apart r v w → AlikeUpTo apart r (script_given go l v) (script_given go k w)
  script_alike go g (Gone vs os) (Gone us ps) v w t h =
      subst (λ l. AlikeUpTo apart r (each_given go vs (record v { objects = os })) (each_given go l (record w { objects = ps }))) (sym t.0)
      (each_alike go g vs (record v { objects = os }) (record w { objects = ps }) (objects_alike os ps v w t.1 h))
  script_alike go g (Gone vs os) (Kept ps) v w t h = absurd t
  script_alike go g (Kept os) (Gone us ps) v w t h = absurd t
  script_alike go g (Kept os) (Kept ps) v w t h = objects_alike os ps v w t h

  given_alike : (n : ℕ) → Gives (given n)
  unfolding given
  given_alike n (Bits x) v w h = h
  given_alike n (Script None) v w h = h
  given_alike n (Host d None) v w h = h
  given_alike n (Host d (Some k)) v w h = record {
    objects = h.objects;
    hosts = ap (λ hs. (host_lowered d k hs).hosts) h.hosts;
    globals = h.globals;
    events = ap (λ hs. cond (host_lowered d k hs).ended (w.events ++ Ended d k ∷ []) w.events) h.hosts
        ∙ ap (λ es. cond (host_lowered d k v.hosts).ended (es ++ Ended d k ∷ []) es) h.events;
    reserved = h.reserved;
    spent = h.spent;
    bounds = h.bounds;
    inputs = h.inputs;
  }
  given_alike zero (Script (Some k)) v w h = h
  given_alike (suc n) (Script (Some k)) v w h =
      script_alike (given n) (given_alike n) (script_lowered k v.objects) (script_lowered (r.to k) w.objects) v w (lowered_alike k v.objects w.objects h.objects) h

  pub give_alike : Gives give
  unfolding give
  give_alike x v w h = subst (λ n. AlikeUpTo apart r (given (map.len v.objects) x v) (given n (renamed r x) w)) (sym h.objects.size) (given_alike (map.len v.objects) x v w h)

  pub give_all_alike : (vs : List Slot) (v w : World) → AlikeUpTo apart r v w → AlikeUpTo apart r (give_all vs v) (give_all (renamed_all r vs) w)
  give_all_alike [] v w h = h
  give_all_alike (x ∷ vs) v w h = give_all_alike vs (give x v) (give (renamed r x) w) (give_alike x v w h)

  -- ---- lists

  index_renamed : (l : List Slot) (i : ℕ) (d : Slot) → slice_index_or (renamed_all r l) i (renamed r d) ≡ renamed r (slice_index_or l i d)
  index_renamed [] i d = refl
  index_renamed (x ∷ l) zero d = refl
  index_renamed (x ∷ l) (suc i) d = index_renamed l i d

  set_renamed : (l : List Slot) (i : ℕ) (x : Slot) → slice_set (renamed_all r l) i (renamed r x) ≡ renamed_all r (slice_set l i x)
  set_renamed [] i x = refl
  set_renamed (y ∷ l) zero x = refl
  set_renamed (y ∷ l) (suc i) x = ap (λ k. renamed r y ∷ k) (set_renamed l i x)

  pub lists_index : (ls : List (List Slot)) (m : ℕ) → slice_index_or (renamed_lists r ls) m [] ≡ renamed_all r (slice_index_or ls m [])
  lists_index [] m = refl
  lists_index (l ∷ ls) zero = refl
  lists_index (l ∷ ls) (suc m) = lists_index ls m

  pub lists_set : (ls : List (List Slot)) (m : ℕ) (l : List Slot) → slice_set (renamed_lists r ls) m (renamed_all r l) ≡ renamed_lists r (slice_set ls m l)
  lists_set [] m l = refl
  lists_set (k ∷ ls) zero l = refl
  lists_set (k ∷ ls) (suc m) l = ap (λ t. renamed_all r k ∷ t) (lists_set ls m l)

  -- ---- globals

  pub global_renamed : (m g : ℕ) (d : Slot) (v w : World) → AlikeUpTo apart r v w → global_or m g (renamed r d) w ≡ renamed r (global_or m g d v)
  unfolding global_or
  global_renamed m g d v w h =
      ap (λ ls. slice_index_or (slice_index_or ls m []) g (renamed r d)) h.globals ∙ ap (λ l. slice_index_or l g (renamed r d)) (lists_index v.globals m)
      ∙ index_renamed (slice_index_or v.globals m []) g d

  pub put_alike : (m g : ℕ) (x : Slot) (v w : World) → AlikeUpTo apart r v w → AlikeUpTo apart r (global_put m g x v) (global_put m g (renamed r x) w)
  unfolding global_put
  put_alike m g x v w h = record {
    objects = h.objects;
    hosts = h.hosts;
    globals = ap (λ ls. slice_set ls m (slice_set (slice_index_or ls m []) g (renamed r x))) h.globals
        ∙ ap (λ l. slice_set (renamed_lists r v.globals) m (slice_set l g (renamed r x))) (lists_index v.globals m)
        ∙ ap (λ l. slice_set (renamed_lists r v.globals) m l) (set_renamed (slice_index_or v.globals m []) g x)
        ∙ lists_set v.globals m (slice_set (slice_index_or v.globals m []) g x);
    events = h.events;
    reserved = h.reserved;
    spent = h.spent;
    bounds = h.bounds;
    inputs = h.inputs;
  }

  -- ---- fields

  field_of_renamed : (o : Option ScriptRecord) (i : ℕ) (d : Slot) → field_of (renamed_record r o) i (renamed r d) ≡ renamed r (field_of o i d)
  field_of_renamed None i d = refl
  field_of_renamed (Some o) i d = index_renamed o.fields i d

  pub field_renamed : (n i : ℕ) (d : Slot) (v w : World) → AlikeUpTo apart r v w → field_or (r.to n) i (renamed r d) w ≡ renamed r (field_or n i d v)
  unfolding field_or
  field_renamed n i d v w h = ap (λ o. field_of o i (renamed r d)) (h.objects.has n) ∙ field_of_renamed (map.get v.objects n) i d

  with_tables : (n : ℕ) (o : Option ScriptRecord) (i : ℕ) (x : Slot) (os ps : ScriptObjects) → Tables r os ps → Tables r (with_field n o i x os) (with_field (r.to n) (renamed_record r o) i (renamed r x) ps)
  with_tables n None i x os ps t = t
  with_tables n (Some o) i x os ps t =
      subst (λ l. Tables r (map.insert os n (record o { fields = slice_set o.fields i x })) (map.insert ps (r.to n) (record o { fields = l }))) (sym (set_renamed o.fields i x))
      (tables_insert r os ps n (record o { fields = slice_set o.fields i x }) t)

  pub field_alike : (n i : ℕ) (x : Slot) (v w : World) → AlikeUpTo apart r v w → AlikeUpTo apart r (field_put n i x v) (field_put (r.to n) i (renamed r x) w)
  unfolding field_put
  field_alike n i x v w h =
      objects_alike _ _ v w
      (subst (λ o. Tables r (with_field n (map.get v.objects n) i x v.objects) (with_field (r.to n) o i (renamed r x) w.objects)) (sym (h.objects.has n))
      (with_tables n (map.get v.objects n) i x v.objects w.objects h.objects)) h

  lower_renamed : (a b : Option ScriptRecord) → is_lower (renamed_record r a) (renamed_record r b) ≡ is_lower a b
  lower_renamed None b = refl
  lower_renamed (Some a) None = refl
  lower_renamed (Some a) (Some b) = refl

  pub takes_renamed : (n : ℕ) (x : Slot) (v w : World) → AlikeUpTo apart r v w → may_take (r.to n) (renamed r x) w ≡ may_take n x v
  unfolding may_take
  takes_renamed n (Bits y) v w h = refl
  takes_renamed n (Script None) v w h = refl
  takes_renamed n (Script (Some k)) v w h =
      ap (λ o. is_lower o (map.get w.objects (r.to n))) (h.objects.has k) ∙ ap (λ o. is_lower (renamed_record r (map.get v.objects k)) o) (h.objects.has n)
      ∙ lower_renamed (map.get v.objects k) (map.get v.objects n)
  takes_renamed n (Host d k) v w h = refl

  taken_renamed : (b c : Bool) (n i : ℕ) (x : Slot) (v w : World) → c ≡ b → AlikeUpTo apart r v w
      → cond c (field_or (r.to n) i (renamed r x) w) (renamed r x) ≡ renamed r (cond b (field_or n i x v) x)
  taken_renamed true true n i x v w e h = field_renamed n i x v w h
  taken_renamed true false n i x v w e h = absurd (let y : ⊥ = cc in y)
  taken_renamed false true n i x v w e h = absurd (let y : ⊥ = cc in y)
  taken_renamed false false n i x v w e h = refl

  pub member_renamed : (i : ℕ) (o x : Slot) (v w : World) → AlikeUpTo apart r v w → member_or i (renamed r o) (renamed r x) w ≡ renamed r (member_or i o x v)
  unfolding member_or
  member_renamed i (Bits n) x v w h = refl
  member_renamed i (Script None) x v w h = refl
  member_renamed i (Script (Some n)) x v w h = taken_renamed (may_take n x v) (may_take (r.to n) (renamed r x) w) n i x v w (takes_renamed n x v w h) h
  member_renamed i (Host d k) x v w h = refl

  taken_alike : (b c : Bool) (n i : ℕ) (x : Slot) (v w : World) → c ≡ b → AlikeUpTo apart r v w → AlikeUpTo apart r (cond b (field_put n i x v) v) (cond c (field_put (r.to n) i (renamed r x) w) w)
  taken_alike true true n i x v w e h = field_alike n i x v w h
  taken_alike true false n i x v w e h = absurd (let y : ⊥ = cc in y)
  taken_alike false true n i x v w e h = absurd (let y : ⊥ = cc in y)
  taken_alike false false n i x v w e h = h

  pub member_alike : (i : ℕ) (o x : Slot) (v w : World) → AlikeUpTo apart r v w → AlikeUpTo apart r (member_put i o x v) (member_put i (renamed r o) (renamed r x) w)
  unfolding member_put
  member_alike i (Bits n) x v w h = h
  member_alike i (Script None) x v w h = h
  member_alike i (Script (Some n)) x v w h = taken_alike (may_take n x v) (may_take (r.to n) (renamed r x) w) n i x v w (takes_renamed n x v w h) h
  member_alike i (Host d k) x v w h = h

  -- ---- values that are held

  holding_same : (x y : Slot) (o p : Tried) → y ≡ renamed r x → TriedSame apart r o p → DoneSame apart r (or_else o (Fails Tally) (Fine x)) (or_else p (Fails Tally) (Fine y))
  holding_same x y (Yes v) (Yes w) e h = (e, h)
  holding_same x y (Yes v) (No w) e h = absurd h
  holding_same x y (No v) (Yes w) e h = absurd h
  holding_same x y (No v) (No w) e h = (refl, h)

  holding_leaves : (x : Slot) (o : Tried) → TriedLeaves apart o → DoneLeaves apart (or_else o (Fails Tally) (Fine x))
  holding_leaves x (Yes w) h = absurd h
  holding_leaves x (No w) h = h

  pub holding_alike : (x y : Slot) (v w : World) → y ≡ renamed r x → AlikeUpTo apart r v w → DoneAlike apart r (holding x v) (holding y w)
  holding_alike x y v w e h =
      subst (λ q. DoneAlike apart r (holding x v) (holding q w)) (sym e)
      (three (λ s. inl (holding_same x (renamed r x) (hold x v) (hold (renamed r x) w) refl s)) (λ l. inr (inl (holding_leaves x (hold x v) l)))
      (λ l. inr (inr (holding_leaves (renamed r x) (hold (renamed r x) w) l))) (hold_alike x v w h))
