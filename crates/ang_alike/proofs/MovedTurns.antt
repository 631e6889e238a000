-- Wherever new modules are put, a host is told the same after the same commands.
use Rattle.std.proofs.Common.{◌≡◌, ◌<◌, ◌+◌, inl, refl, sym, ap, ap₂, ◌∙◌, subst, arith, ℕ, suc, Bool, true, false, List, [], ◌∷◌, ◌++◌, length, map, Option, Some, None}
use Rattle.std.specs.Prelude.{IsSome, nat_le, is_none, is_some, option_map, slice_get, slice_set, slice_index_or, if◌then◌else◌}
use Rattle.std.proofs.lemmas.Bool.{leb-false, lt-leb}
use Rattle.std.proofs.lemmas.List.{length-append, length-map, map-append}
use Rattle.std.proofs.lemmas.List.Quantifiers.{position-Some}
use Rattle.std.proofs.lemmas.Option.{slice_get-get_or, slice_get_within, get_or_from_slice_get}
use Rattle.ang_lex.specs.Spelling.{is_identifier}
use Rattle.ang_view.specs.Groups.{Grouped}
use Rattle.ang_meaning.specs.World.{Bounds, Input, Room, Said, Tallied, Fresh}
use Rattle.ang_engine_modules.specs.declared.command.Command.{Command}
use Rattle.ang_engine_modules.specs.declared.command.Command.TheVariants.{NewModule, SetMask, AddSection, Build, Bind, Unbind, Call, Discard, RemoveGroup}
use Rattle.ang_engine_modules.specs.declared.reply.Reply.{Reply}
use Rattle.ang_engine_modules.specs.declared.reply.Outcome.TheVariants.{Done}
use Rattle.ang_engine_modules.specs.declared.reply.Refusal.TheVariants as refusal
use Rattle.ang_engine_modules.specs.World.{ModuleState, World, no_modules, bounded_by, has_name, module_named, engine_ended}
use Rattle.ang_engine_modules.specs.Commands.{Stepped, answered, refused, fresh_module, with_place, with_module, in_place, empty_place, where_free as engine_free}
use Rattle.ang_engine_modules.proofs.Adding.{more_at}
use Rattle.ang_engine_modules.proofs.PlaceLists.{set_at, set_length}
use Rattle.ang_engine.specs.Groups.{list_of}
use Rattle.ang_engine.specs.Step.{Takes, list_after}
use Rattle.ang_engine.specs.Step as engine
use Rattle.ang_alike.specs.Alike.{BoundedCommand, InTurn}
use Rattle.ang_alike.specs.Moved.{Moving}
use Rattle.ang_alike.specs.Places.{PlaceChoice, IsFreePlace, GivesFree, placed_in, put_new, where_free, judged, granted, step, Heard, then_heard, heard_of, PlacesDoNotShow, IsHeardSo}
use Rattle.ang_alike.proofs.ByNumber.{at_more, none_empty, end_none, set_either}
use Rattle.ang_alike.proofs.MovedPlaces.{AreUnder, turned, turned_here, turned_other, unmoved, last_at, under_set, under_as, under_turned, under_back, lists_turned}
use Rattle.ang_alike.proofs.MovedModules.{moved_place}
use Rattle.ang_alike.proofs.MovedKept.{all_still, numbers_agree, place_still, place_agrees, holds_new, places_at, lengths_at, AreKept, IsKept, kept_more, list_empty, not_found}
use Rattle.ang_alike.proofs.MovedOrders.{occupied_less, occupied_full, ordered_new, ordered_more}
use Rattle.ang_alike.proofs.MovedSteps.{some_moved, AreMoved, StepsMoved, if_both, refused_moved, named_moved, set_mask_moved, add_section_moved, build_named_moved, bind_moved, unbind_named_moved, call_named_moved, discard_named_moved, removing_moved, removal_moved, end_same}

-- ---- a new module

no_some : (o : Option ModuleState) → o ≡ None → IsSome o → ⊥
no_some o e h = let s : false ≡ true = sym (ap is_some e) ∙ h in let q : ⊥ = cc in q

was_empty : (p : Moving) (o : Option ModuleState) → moved_place p o ≡ None → o ≡ None
was_empty p None e = refl
was_empty p (Some m) e = absurd (let q : ⊥ = cc in q)

-- the number of an empty place becomes that of another one
module _ (p : Moving) (w v : World) (h : AreMoved p w v) (k j : ℕ) (here : places_at w.modules.places k ≡ None) (there : places_at v.modules.places j ≡ None) where
  abbrev ps : List (Option ModuleState)
  ps = w.modules.places

  abbrev qs : List (Option ModuleState)
  qs = v.modules.places

  abbrev q : Moving
  q = turned p k j

  agrees : (n : ℕ) → IsSome (places_at ps n) → q.to n ≡ p.to n
  agrees n e =
      turned_other p k j n (λ s. no_some (places_at ps n) (ap (places_at ps) s ∙ here) e) (λ s.
      no_some (places_at qs (p.to n)) (ap (places_at qs) s ∙ there) (ap is_some (h.places.each n) ∙ some_moved p (places_at ps n) ∙ e))

  same_place : (n : ℕ) → moved_place q (places_at ps n) ≡ moved_place p (places_at ps n)
  same_place n =
      place_agrees p q (places_at ps n) (place_still (λ i. IsSome (places_at ps i)) (λ i. q.to i ≡ p.to i) (places_at ps n) agrees (h.kept.holds.leads n))

  no_globals : (n : ℕ) → places_at ps n ≡ None → slice_index_or w.globals n [] ≡ []
  no_globals n e = list_empty w.globals n (h.kept.holds.empty n e)

  -- the place that j was before
  back_empty : places_at ps (p.back j) ≡ None
  back_empty = was_empty p (places_at ps (p.back j)) (sym (under_back p (moved_place p) ps qs h.places j) ∙ there)

  same_lists : slice_index_or v.globals (p.to k) [] ≡ slice_index_or v.globals j []
  same_lists =
      h.globals.each k ∙ no_globals k here
      ∙ sym (ap (λ n. slice_index_or v.globals n []) (sym (p.here j)) ∙ h.globals.each (p.back j) ∙ no_globals (p.back j) back_empty)

  pub renumbered : AreMoved q w v
  renumbered = record {
    places = under_as q (moved_place p) ps qs (under_turned p (moved_place p) ps qs h.places k j (h.places.each k ∙ ap (moved_place p) here ∙ sym there)) (moved_place q) same_place;
    globals = lists_turned p w.globals v.globals h.globals k j same_lists;
    rest = h.rest;
    kept = h.kept;
    lists = h.lists;
    orders = record {
      same =
          h.orders.same
          ∙ sym (numbers_agree p q w.modules.order (all_still (λ n. IsSome (places_at ps n)) (λ n. q.to n ≡ p.to n) w.modules.order agrees h.orders.ordered.listed));
      ordered = h.orders.ordered;
    };
  }

-- one more place in the first
more_left : (p : Moving) (w v : World) → AreMoved p w v → length w.modules.places < 64 → AreMoved p (with_place w) v
more_left p w v h less = record {
  places = record { each = λ i. h.places.each i ∙ ap (moved_place p) (sym (at_more w.modules.places i)) };
  globals = record { each = λ i. h.globals.each i ∙ sym (more_at w.globals [] i) };
  rest = h.rest;
  kept = kept_more w.modules.places w.globals h.kept;
  lists = h.lists;
  orders = record { same = h.orders.same; ordered = ordered_more w.modules h.orders.ordered less };
}

-- and in the second
more_right : (p : Moving) (w v : World) → AreMoved p w v → AreMoved p w (with_place v)
more_right p w v h = record {
  places = record { each = λ i. at_more v.modules.places (p.to i) ∙ h.places.each i };
  globals = record { each = λ i. more_at v.globals [] (p.to i) ∙ h.globals.each i };
  rest = ap (λ (u : World). record u { modules = (with_place v).modules; globals = v.globals ++ [] ∷ [] }) h.rest;
  kept = h.kept;
  lists = length-append v.globals ([] ∷ []) ∙ ap (λ n. n + 1) h.lists ∙ sym (length-append v.modules.places (None ∷ []));
  orders = record { same = h.orders.same; ordered = h.orders.ordered };
}

-- a module of a new name in an empty place
module _ (p : Moving) (w v : World) (h : AreMoved p w v) (k : ℕ) (name : List ℕ) (mask : ℕ) (free : slice_get w.modules.places k ≡ Some None)
    (new : (n : ℕ) → has_name name (places_at w.modules.places n) ≡ true → ⊥) where
  abbrev x : ModuleState
  x = fresh_module name mask

  within : k < length w.modules.places
  within = slice_get_within w.modules.places k None free

  new_kept : AreKept (slice_set w.modules.places k (Some x)) w.globals
  new_kept = record {
    lists = h.kept.lists ∙ sym (set_length w.modules.places k (Some x));
    holds = holds_new (places_at w.modules.places) (places_at (slice_set w.modules.places k (Some x))) (lengths_at w.globals) (lengths_at w.globals) k x
        (λ n. set_either w.modules.places k n (Some x) None) (set_at w.modules.places k (Some x) None within) (lengths_at w.globals k) (λ n. inl refl) refl new h.kept.holds;
  }

  new_at : (j : ℕ) → p.to k ≡ j → j < length v.modules.places → AreMoved p (with_module k x w) (with_module j x v)
  new_at j e there = record {
    places = subst (λ n. AreUnder p (moved_place p) (slice_set w.modules.places k (Some x)) (slice_set v.modules.places n (Some x))) e
        (under_set p (moved_place p) w.modules.places v.modules.places h.places k (Some x) (Some x) refl within (omega (arith, e, there)));
    globals = h.globals;
    rest = ap (λ (u : World). record u { modules = (with_module j x v).modules }) h.rest;
    kept = new_kept;
    lists = h.lists ∙ sym (set_length v.modules.places j (Some x));
    orders = record {
      same = ap (λ l. l ++ j ∷ []) h.orders.same ∙ ap (λ n. map p.to w.modules.order ++ n ∷ []) (sym e) ∙ sym (map-append p.to w.modules.order (k ∷ []));
      ordered = ordered_new w.modules k x h.orders.ordered free;
    };
  }

place_by : (w : World) (i : ℕ) → empty_place w ≡ Some i → slice_get w.modules.places i ≡ Some None
place_by w i e =
    let found = position-Some is_none w.modules.places i None e in
    slice_get-get_or w.modules.places i None found.0 ∙ ap (λ x. Some x) (none_empty (slice_index_or w.modules.places i None) found.1)

module _ (name : List ℕ) (mask : ℕ) (inputs : List Input) where
  abbrev y : ModuleState
  y = fresh_module name mask

  -- an empty place of the second, or one more
  filled : (p : Moving) (w v : World) → AreMoved p w v → (k j : ℕ) → slice_get w.modules.places k ≡ Some None → ((n : ℕ) → has_name name (places_at w.modules.places n) ≡ true → ⊥)
      → places_at v.modules.places j ≡ None → j < length v.modules.places
      → StepsMoved (answered (Done None) (with_module k y w) inputs) (answered (Done None) (with_module j y v) inputs)
  filled p w v h k j free new there within =
      let again : AreMoved (turned p k j) w v = renumbered p w v h k j (get_or_from_slice_get w.modules.places k None None free) there in
      record { by = turned p k j; reply = refl; left = refl; worlds = new_at (turned p k j) w v again k name mask free new j (turned_here p k j) within }

  placed : (p : Moving) (w v : World) → AreMoved p w v → (k : ℕ) → slice_get w.modules.places k ≡ Some None → ((n : ℕ) → has_name name (places_at w.modules.places n) ≡ true → ⊥)
      → (o : Option ℕ) → IsFreePlace v o
      → StepsMoved (answered (Done None) (with_module k y w) inputs) (answered (Done None) (placed_in o y v) inputs)
  placed p w v h k free new (Some j) there =
      filled p w v h k j free new (get_or_from_slice_get v.modules.places j None None there) (slice_get_within v.modules.places j None there)
  placed p w v h k free new None there =
      filled p w (with_place v) (more_right p w v h) k (length v.modules.places) free new
      (at_more v.modules.places (length v.modules.places) ∙ end_none v.modules.places) (omega (arith, length-append v.modules.places (None ∷ [])))

  module _ (choose : PlaceChoice) (gives : GivesFree choose) (p : Moving) (w v : World) (h : AreMoved p w v) (free : module_named name w ≡ None) where
    new_name : (n : ℕ) → has_name name (places_at w.modules.places n) ≡ true → ⊥
    new_name n e = not_found name w.modules.places free n e

    as_many : length v.modules.order ≡ length w.modules.order
    as_many = ap length h.orders.same ∙ length-map w.modules.order p.to

    -- there are as many modules in both
    as_full : (o : Option Stepped) (b : Bool) → nat_le 64 (length v.modules.order) ≡ b
        → StepsMoved o (if b then refused refusal.Limit v inputs else answered (Done None) (placed_in (choose v) y v) inputs) → StepsMoved o (put_new choose y v inputs)
    as_full o b e =
        subst (λ c. StepsMoved o (if c then refused refusal.Limit v inputs else answered (Done None) (placed_in (choose v) y v) inputs)) (sym e)

    more_by : (b : Bool) → nat_le 64 (length w.modules.places) ≡ b
        → StepsMoved (if b then refused refusal.Limit w inputs else answered (Done None) (with_module (length w.modules.places) y (with_place w)) inputs)
        (if b then refused refusal.Limit v inputs else answered (Done None) (placed_in (choose v) y v) inputs)
    more_by true e = refused_moved p w v h refusal.Limit inputs
    more_by false e =
        placed p (with_place w) v (more_left p w v h (leb-false 64 (length w.modules.places) e)) (length w.modules.places) (last_at w.modules.places None)
        (λ n a. new_name n (ap (has_name name) (sym (at_more w.modules.places n)) ∙ a)) (choose v) (gives v)

    in_place_by : (o : Option ℕ) → empty_place w ≡ o → StepsMoved (in_place o y w inputs) (put_new choose y v inputs)
    in_place_by (Some k) e =
        let at = place_by w k e in
        let less = lt-leb 64 (length v.modules.order) (omega (arith, as_many, h.orders.ordered.count, occupied_less w.modules.places k at, h.orders.ordered.few)) in
        as_full (answered (Done None) (with_module k y w) inputs) false less (placed p w v h k at new_name (choose v) (gives v))
    in_place_by None e =
        let many : length v.modules.order ≡ length w.modules.places = as_many ∙ h.orders.ordered.count ∙ occupied_full w.modules.places e in
        as_full (in_place None y w inputs) (nat_le 64 (length w.modules.places)) (ap (nat_le 64) many) (more_by (nat_le 64 (length w.modules.places)) refl)

-- ---- one command

module _ (choose : PlaceChoice) (gives : GivesFree choose) where
  module _ (R : Grouped) (p : Moving) (w v : World) (h : AreMoved p w v) where
    free_by : (name : List ℕ) (mask : ℕ) (inputs : List Input) (o : Option ℕ) → module_named name w ≡ o
        → StepsMoved (engine_free o name mask w inputs) (where_free choose (option_map p.to o) name mask v inputs)
    free_by name mask inputs (Some i) e = refused_moved p w v h refusal.ModuleExists inputs
    free_by name mask inputs None e = in_place_by name mask inputs choose gives p w v h e (empty_place w) refl

    free_moved : (name : List ℕ) (mask : ℕ) (inputs : List Input)
        → StepsMoved (engine_free (module_named name w) name mask w inputs) (where_free choose (module_named name v) name mask v inputs)
    free_moved name mask inputs =
        subst (λ o. StepsMoved (engine_free (module_named name w) name mask w inputs) (where_free choose o name mask v inputs)) (sym (named_moved p w v h name))
        (free_by name mask inputs (module_named name w) refl)

    judged_moved : (c : Command) (inputs : List Input) → StepsMoved (engine.judged R w c inputs) (judged choose R v c inputs)
    judged_moved (NewModule name mask) inputs = if_both (is_identifier name) _ _ _ _ (free_moved name mask.0 inputs) (refused_moved p w v h refusal.BadName inputs)
    judged_moved (SetMask name mask) inputs = set_mask_moved p w v h name mask.0 inputs
    judged_moved (AddSection name text) inputs = add_section_moved p w v h name text inputs
    judged_moved (Build name budget) inputs = build_named_moved p w v h name budget R.entries inputs
    judged_moved (Bind name index exporter decl) inputs = bind_moved p w v h name exporter index decl inputs
    judged_moved (Unbind name index) inputs = unbind_named_moved p w v h name index inputs
    judged_moved (Call name decl args budget) inputs = call_named_moved p w v h name decl args budget inputs
    judged_moved (Discard name) inputs = discard_named_moved p w v h name inputs
    judged_moved (RemoveGroup name) inputs = removing_moved p w v h R name inputs

    granted_moved : (c : Command) (inputs : List Input) → StepsMoved (engine.granted R w c inputs) (granted choose R v c inputs)
    granted_moved c [] = tt
    granted_moved c (Said x ∷ is) = tt
    granted_moved c (Tallied x ∷ is) = tt
    granted_moved c (Fresh x ∷ is) = tt
    granted_moved c (Room true ∷ is) = judged_moved c is
    granted_moved c (Room false ∷ is) = refused_moved p w v h refusal.Memory is

    step_moved : (c : Command) (inputs : List Input) → StepsMoved (engine.step R w c inputs) (step choose R v c inputs)
    step_moved (NewModule name mask) inputs = granted_moved (NewModule name mask) inputs
    step_moved (SetMask name mask) inputs = judged_moved (SetMask name mask) inputs
    step_moved (AddSection name text) inputs = granted_moved (AddSection name text) inputs
    step_moved (Build name budget) inputs = granted_moved (Build name budget) inputs
    step_moved (Bind name index exporter decl) inputs = granted_moved (Bind name index exporter decl) inputs
    step_moved (Unbind name index) inputs = judged_moved (Unbind name index) inputs
    step_moved (Call name decl args budget) inputs = granted_moved (Call name decl args budget) inputs
    step_moved (Discard name) inputs = granted_moved (Discard name) inputs
    step_moved (RemoveGroup name) inputs = judged_moved (RemoveGroup name) inputs

    list_moved : (c : Command) → list_after R v c ≡ list_after R w c
    list_moved (NewModule name mask) = refl
    list_moved (SetMask name mask) = refl
    list_moved (AddSection name text) = refl
    list_moved (Build name budget) = refl
    list_moved (Bind name index exporter decl) = refl
    list_moved (Unbind name index) = refl
    list_moved (Call name decl args budget) = refl
    list_moved (Discard name) = refl
    list_moved (RemoveGroup name) = ap (list_of R) (removal_moved p w v h R name)

-- ---- commands in turn

then_by : (o n : Option Stepped) → StepsMoved o n → (go on : World → List Input → Option Heard)
    → ((q : Moving) (a b : World) → AreMoved q a b → (inputs : List Input) → on b inputs ≡ go a inputs) → then_heard n on ≡ then_heard o go
then_by None None h go on k = refl
then_by None (Some b) h go on k = absurd h
then_by (Some a) None h go on k = absurd h
then_by (Some a) (Some b) h go on k =
    ap₂ (λ (r : Reply) (o : Option Heard). option_map (λ (t : Heard). record t { replies = r ∷ t.replies }) o) h.reply (ap (on b.world) h.left ∙ k h.by a.world b.world h.worlds a.left)

within_bounds : (b : Bounds) (p : Moving) (w v : World) → AreMoved p w v → AreMoved p (bounded_by b w) (bounded_by b v)
within_bounds b p w v h = record { places = h.places; globals = h.globals; rest = ap (bounded_by b) h.rest; kept = h.kept; lists = h.lists; orders = record { same = h.orders.same; ordered = h.orders.ordered } }

module _ (choose : ℕ → PlaceChoice) (gives : (n : ℕ) → GivesFree (choose n)) where
  heard_same : (cs : List BoundedCommand) (n : ℕ) (R : Grouped) (p : Moving) (w v : World) → AreMoved p w v → (inputs : List Input)
      → heard_of (λ k. step (choose k)) n R cs v inputs ≡ heard_of (λ k. engine.step) n R cs w inputs
  heard_same [] n R p w v h inputs = ap (λ es. Some (record { replies = []; ended = es })) (end_same p w v h)
  heard_same (c ∷ cs) n R p w v h inputs =
      let a : World = bounded_by c.bounds w in
      let b : World = bounded_by c.bounds v in
      let before : AreMoved p a b = within_bounds c.bounds p w v h in
      then_by (engine.step R a c.command inputs) (step (choose n) R b c.command inputs) (step_moved (choose n) (gives n) R p a b before c.command inputs)
      (heard_of (λ k. engine.step) (suc n) (list_after R a c.command) cs) (heard_of (λ k. step (choose k)) (suc n) (list_after R b c.command) cs)
      (λ q m l moved is.
      ap (λ S. heard_of (λ k. step (choose k)) (suc n) S cs l is) (list_moved (choose n) (gives n) R p a b before c.command)
      ∙ heard_same cs (suc n) (list_after R a c.command) q m l moved is)

nothing_kept : IsKept no_modules
nothing_kept = record {
  lists = refl;
  holds = record {
    empty = λ i e. refl;
    once = λ name i j e f. absurd (let s : false ≡ true = e in let q : ⊥ = cc in q);
    leads = λ i. tt;
  };
}

nothing_moved : AreMoved unmoved no_modules no_modules
nothing_moved = record {
  places = record { each = λ i. refl };
  globals = record { each = λ i. refl };
  rest = refl;
  kept = nothing_kept;
  lists = refl;
  orders = record { same = refl; ordered = record { listed = tt; times = λ n. refl; count = refl; few = omega arith } };
}

pub places_do_not_show : PlacesDoNotShow
places_do_not_show choose gives R cs inputs = heard_same choose gives cs 0 R unmoved no_modules no_modules nothing_moved inputs

-- ---- as an engine takes them

engine_heard : (cs : List BoundedCommand) (rs : List Reply) (n : ℕ) (R : Grouped) (w v : World) → InTurn Takes R w cs rs v
    → (inputs : List Input) × (heard_of (λ k. engine.step) n R cs w inputs ≡ Some (record { replies = rs; ended = (engine_ended v).events }))
engine_heard [] [] n R w v d = ([], ap (λ (u : World). Some (record { replies = []; ended = (engine_ended u).events })) d)
engine_heard [] (r ∷ rs) n R w v d = absurd d
engine_heard (c ∷ cs) [] n R w v d = absurd d
engine_heard (c ∷ cs) (r ∷ rs) n R w v d =
    let before : World = bounded_by c.bounds w in
    let next : World = d.0 in
    let takes : Takes R before c.command r next = d.1 in
    let go : World → List Input → Option Heard = heard_of (λ k. engine.step) (suc n) (list_after R before c.command) cs in
    let rest = engine_heard cs rs (suc n) (list_after R before c.command) next v d.2 in (
      takes.used ++ rest.0,
      ap (λ o. then_heard o go) (takes.tells rest.0) ∙ ap (option_map (λ (t : Heard). record t { replies = r ∷ t.replies })) rest.1,
    )

pub is_heard_so : IsHeardSo
is_heard_so R cs rs v d = engine_heard cs rs 0 R no_modules v d
