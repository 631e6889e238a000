-- Doing a session action by action.
use Rattle.std.proofs.Common.{◌≡◌, ◌≤◌, ◌-◌, ℕ, zero, suc, ◌+◌, Bool, true, false, cond, ◌&&◌, List, [], ◌∷◌, ◌++◌, length, take, map, Option, Some, None, refl, sym, ap, subst, ◌∙◌, append_assoc, arith}
use Rattle.std.specs.List.{list_all}
use Rattle.std.specs.Io.KnownBytes.{Appends}
use Rattle.std.proofs.lemmas.List.{append-nil, length-append, take-append-le}
use Rattle.std.proofs.Math.Seq.{take-append_seam, take-append-add}
use Rattle.std.specs.declared.alloc.Global.{Global}
use Rattle.std.specs.declared.dyn_box.DynBox.{DynBox}
use Rattle.ang_host.specs.Events.{DriversFollow}
use Rattle.ang_host.specs.Meanings.{Meanings, state_in}
use Rattle.ang_host.proofs.Events.{AllFollow-none, AllFollow-join}
use Rattle.ang_host.specs.declared.event.Role.{Role}
use Rattle.ang_view.specs.Groups.{Grouped}
use Rattle.ang_view.specs.Only.{IsWithin}
use Rattle.ang_engine.specs.Roles.{AreRoles}
use Rattle.ang_engine.specs.Step.{Runs, list_after}
use Rattle.ang_engine.proofs.Lists.{all_within, within_join}
use Rattle.ang_engine.proofs.Roles.{roles_still}
use Rattle.ang_engine_modules.specs.World.{World}
use Rattle.asrun_session.specs.Session.{Session, behind_action}
use Rattle.asrun_session.specs.Deeds.{Deed, Ran, Set, Does, list_behind, action_of, commands_in, replies_in, deed_events, events_in, deed_text, text_in, is_ok, bad_line_text, but_last, told_behind, IsDone, IsCut, IsPrinted, IsHalfPrinted}
use Rattle.asrun_session.specs.Drivers.{ByEvents}
use Rattle.asrun_session.specs.Writing.{HasFront}
use Rattle.asrun_session.specs.declared.action.Action.{Action}
use Rattle.asrun_session.specs.declared.ending.Status.TheVariants.{AllOk, SomeRefused, BadInput}
use Rattle.asrun_session.proofs.Appending.{appends_both}
use Rattle.asrun_session.proofs.Lists.{deed_within}

-- deeds one after the other, over the list that those before have left
abbrev DoesAll : Grouped → World → List Deed → Grouped → World → Type 0
DoesAll R w [] S after = (R ≡ S) × (w ≡ after)
DoesAll R w (d ∷ ds) S after = (m : World) × Does R w d m × DoesAll (list_behind R w d) m ds S after

does_more : (R S : Grouped) (w v after : World) (ds : List Deed) (d : Deed) → DoesAll R w ds S v → Does S v d after → DoesAll R w (ds ++ d ∷ []) (list_behind S v d) after
does_more R S w v after [] d h e = rw (h.0, h.1) (after, e, (refl, refl))
does_more R S w v after (x ∷ xs) d h e = (h.0, h.1, does_more (list_behind R w x) S h.0 v after xs d h.2 e)

runs_of : (R S : Grouped) (w after : World) (ds : List Deed) → DoesAll R w ds S after → Runs R w (commands_in ds) (replies_in ds) after
runs_of R S w after [] h = h.1
runs_of R S w after (Ran c r ∷ ds) h = (h.0, h.1, runs_of (list_after R w c) S h.0 after ds h.2)
runs_of R S w after (Set ticks ∷ ds) h = rw h.1 (runs_of R S h.0 after ds h.2)

text_more : (ds : List Deed) (d : Deed) → text_in (ds ++ d ∷ []) ≡ text_in ds ++ deed_text d
text_more [] d = append-nil (deed_text d)
text_more (x ∷ xs) d = ap (λ t. deed_text x ++ t) (text_more xs d) ∙ sym (append_assoc (deed_text x) (text_in xs) (deed_text d))

events_more : (ds : List Deed) (d : Deed) → events_in (ds ++ d ∷ []) ≡ events_in ds ++ deed_events d
events_more [] d = append-nil (deed_events d)
events_more (x ∷ xs) d = ap (λ t. deed_events x ++ t) (events_more xs d) ∙ sym (append_assoc (deed_events x) (events_in xs) (deed_events d))

actions_more : (ds : List Deed) (d : Deed) (left : List Action) → map action_of (ds ++ d ∷ []) ++ left ≡ map action_of ds ++ action_of d ∷ left
actions_more [] d left = refl
actions_more (x ∷ xs) d left = ap (λ t. action_of x ∷ t) (actions_more xs d left)

and_true : (b : Bool) → (b && true) ≡ b
and_true true = refl
and_true false = refl

and_assoc : (a b c : Bool) → (a && (b && c)) ≡ ((a && b) && c)
and_assoc true b c = refl
and_assoc false b c = refl

all_more : (ds : List Deed) (d : Deed) → list_all is_ok (ds ++ d ∷ []) ≡ (list_all is_ok ds && is_ok d)
all_more [] d = and_true (is_ok d)
all_more (x ∷ xs) d = ap (λ b. is_ok x && b) (all_more xs d) ∙ and_assoc (is_ok x) (list_all is_ok xs) (is_ok d)

-- What has been done of a session, and what is left of it, and of the list. The drivers followed the events of what was done, and its text is printed.
pub record HasDone {V : Type 0} {P : V → Type 0} (m : Meanings P) (R : Grouped) (w : World) (xs : List (DynBox V Global P))
    (whole left : Session) (old new : Option (List ℕ)) (ok : Bool) (S : Grouped) (after : World) (ys : List (DynBox V Global P)) : Type 0 where
  pub deeds : List Deed
  pub actions : whole.actions ≡ map action_of deeds ++ left.actions
  pub bad_line : whole.bad_line ≡ left.bad_line
  pub does : DoesAll R w deeds S after
  pub within : IsWithin S.entries R.entries
  pub follow : (roles : List Role) → AreRoles roles R.entries → DriversFollow m roles xs (events_in deeds) ys
  pub printed : Appends old new (text_in deeds)
  pub all_ok : ok ≡ list_all is_ok deeds

appends_nothing : (o : Option (List ℕ)) → Appends o o []
appends_nothing None = tt
appends_nothing (Some xs) = sym (append-nil xs)

pub front_none : (o : Option (List ℕ)) (text : List ℕ) → HasFront o o text
front_none o text = record { count = 0; within = omega arith; printed = appends_nothing o }

-- a text, and a front of one more that stands after it
abbrev front_behind : (old mid new : Option (List ℕ)) (text one tail all : List ℕ) → all ≡ text ++ (one ++ tail)
    → Appends old mid text → HasFront mid new one → HasFront old new all
front_behind old mid new text one tail all e p q = record {
  count = length text + q.count;
  within = omega (arith, q.within, ap length e, length-append text (one ++ tail), length-append one tail);
  printed = rw (e, take-append-add text (one ++ tail) q.count, take-append-le q.count one tail q.within)
      (appends_both old mid new text (take q.count one) p q.printed);
}

-- the first deeds have no more text than all
text_front : (k : ℕ) (ds : List Deed) → length (text_in (take k ds)) ≤ length (text_in ds)
text_front zero ds = omega arith
text_front (suc k) [] = omega arith
text_front (suc k) (d ∷ ds) =
    omega (arith, text_front k ds, length-append (deed_text d) (text_in (take k ds)), length-append (deed_text d) (text_in ds))

-- the deeds before one more
but_last_is : (ds : List Deed) (d : Deed) → but_last (ds ++ d ∷ []) ≡ ds
but_last_is ds d =
    let others : length (ds ++ d ∷ []) - 1 ≡ length ds = omega (arith, length-append ds (d ∷ [])) in
    ap (λ k. take k (ds ++ d ∷ [])) others ∙ take-append_seam ds (d ∷ [])

-- a session that was not begun
pub cut_nothing : (R : Grouped) (w : World) (s : Session) (o : Option (List ℕ)) → IsCut R w s o o [] w
cut_nothing R w s o = record {
  deeds = [];
  left = s.actions;
  actions = refl;
  replies = refl;
  events = refl;
  printed = front_none o (told_behind s.actions s.bad_line);
  whole = omega arith;
}

module _ {V : Type 0} {P : V → Type 0} (m : Meanings P) where
  follow_more : (roles : List Role) (xs ys zs : List (DynBox V Global P)) (ds : List Deed) (d : Deed)
      → DriversFollow m roles xs (events_in ds) ys → DriversFollow m roles ys (deed_events d) zs
      → DriversFollow m roles xs (events_in (ds ++ d ∷ [])) zs
  follow_more roles xs ys zs ds d p q =
      rw (events_more ds d)
      (AllFollow-join (λ b. state_in m b) (λ b. b.vtable) (λ v. (m v).meaning.fits) roles xs ys zs (events_in ds) (deed_events d) p q)

  pub follow_nothing : (roles : List Role) (xs : List (DynBox V Global P)) → DriversFollow m roles xs [] xs
  follow_nothing roles xs = AllFollow-none (λ b. state_in m b) (λ b. b.vtable) (λ v. (m v).meaning.fits) roles xs

module _ {V : Type 0} {P : V → Type 0} (m : Meanings P) (R : Grouped) where
  -- roles that fit a list fit what is left of it
  follow_both : (S : Grouped) (xs ys zs : List (DynBox V Global P)) (ds : List Deed) (d : Deed) → IsWithin S.entries R.entries
      → ((roles : List Role) → AreRoles roles R.entries → DriversFollow m roles xs (events_in ds) ys)
      → ((roles : List Role) → AreRoles roles S.entries → DriversFollow m roles ys (deed_events d) zs)
      → (roles : List Role) → AreRoles roles R.entries → DriversFollow m roles xs (events_in (ds ++ d ∷ [])) zs
  follow_both S xs ys zs ds d within p q roles fit =
      follow_more m roles xs ys zs ds d (p roles fit) (q roles (roles_still roles R.entries S.entries within fit))

  pub done_nothing : (w : World) (xs : List (DynBox V Global P)) (s : Session) (o : Option (List ℕ)) → HasDone m R w xs s s o o true R w xs
  done_nothing w xs s o =
      record { deeds = []; actions = refl; bad_line = refl; does = (refl, refl); within = all_within R.entries; follow = λ roles fit. follow_nothing m roles xs; printed = appends_nothing o; all_ok = refl }

  -- one action more
  pub done_more : (S T : Grouped) (w v after : World) (xs ys zs : List (DynBox V Global P)) (whole left next : Session) (old mid new : Option (List ℕ)) (ok one : Bool) (a : Action)
      → HasDone m R w xs whole left old mid ok S v ys → left ≡ behind_action a next → (p : IsPrinted m S v ys a mid new one after zs) → T ≡ list_behind S v p.deed
      → HasDone m R w xs whole next old new (ok && one) T after zs
  done_more S T w v after xs ys zs whole left next old mid new ok one a h e p list = record {
    deeds = h.deeds ++ p.deed ∷ [];
    actions = h.actions ∙ ap (λ s. map action_of h.deeds ++ s.actions) e ∙ ap (λ x. map action_of h.deeds ++ x ∷ next.actions) (sym p.action) ∙ sym (actions_more h.deeds p.deed next.actions);
    bad_line = h.bad_line ∙ ap (λ s. s.bad_line) e;
    does = subst (λ l. DoesAll R w (h.deeds ++ p.deed ∷ []) l after) (sym list) (does_more R S w v after h.deeds p.deed h.does p.does);
    within = within_join R.entries S.entries T.entries h.within (deed_within S T v p.deed list);
    follow = follow_both S xs ys zs h.deeds p.deed h.within h.follow p.follow;
    printed = rw (text_more h.deeds p.deed) (appends_both old mid new (text_in h.deeds) (deed_text p.deed) h.printed p.printed);
    all_ok = rw (all_more h.deeds p.deed, h.all_ok, p.ended) refl;
  }

  -- an action was cut short
  pub done_half : (S : Grouped) (w v after : World) (xs ys zs : List (DynBox V Global P)) (whole left next : Session) (old mid new : Option (List ℕ)) (ok : Bool) (a : Action)
      → HasDone m R w xs whole left old mid ok S v ys → left ≡ behind_action a next → IsHalfPrinted m S v ys a mid new after zs
      → ByEvents m R.entries xs (λ es. IsCut R w whole old new es after) zs
  done_half S w v after xs ys zs whole left next old mid new ok a h e p = (
    events_in (h.deeds ++ p.deed ∷ []),
    record {
      deeds = h.deeds ++ p.deed ∷ [];
      left = next.actions;
      actions = h.actions ∙ ap (λ s. map action_of h.deeds ++ s.actions) e ∙ ap (λ x. map action_of h.deeds ++ x ∷ next.actions) (sym p.action) ∙ sym (actions_more h.deeds p.deed next.actions);
      replies = runs_of R (list_behind S v p.deed) w after (h.deeds ++ p.deed ∷ []) (does_more R S w v after h.deeds p.deed h.does p.does);
      events = refl;
      printed = front_behind old mid new (text_in h.deeds) (deed_text p.deed) (told_behind next.actions whole.bad_line) _
          (ap (λ t. t ++ told_behind next.actions whole.bad_line) (text_more h.deeds p.deed)
          ∙ append_assoc (text_in h.deeds) (deed_text p.deed) (told_behind next.actions whole.bad_line)) h.printed p.front;
      whole = rw (but_last_is h.deeds p.deed) (omega arith);
    },
    follow_both S xs ys zs h.deeds p.deed h.within h.follow p.follow,
  )

  -- nothing more was done
  pub done_cut : (S : Grouped) (w after : World) (xs ys : List (DynBox V Global P)) (whole left : Session) (old new : Option (List ℕ)) (ok : Bool)
      → HasDone m R w xs whole left old new ok S after ys → ByEvents m R.entries xs (λ es. IsCut R w whole old new es after) ys
  done_cut S w after xs ys whole left old new ok h = (
    events_in h.deeds,
    record {
      deeds = h.deeds;
      left = left.actions;
      actions = h.actions;
      replies = runs_of R S w after h.deeds h.does;
      events = refl;
      printed = record {
        count = length (text_in h.deeds);
        within = omega (arith, length-append (text_in h.deeds) (told_behind left.actions whole.bad_line));
        printed = rw (take-append_seam (text_in h.deeds) (told_behind left.actions whole.bad_line)) h.printed;
      };
      whole = text_front (length h.deeds - 1) h.deeds;
    },
    h.follow,
  )

  -- a line of another form ends it
  pub done_bad : (S : Grouped) (w after : World) (xs ys : List (DynBox V Global P)) (whole left : Session) (old mid new : Option (List ℕ)) (ok : Bool) (n : ℕ)
      → HasDone m R w xs whole left old mid ok S after ys → left ≡ record { actions = []; bad_line = Some n } → Appends mid new (bad_line_text (Some n))
      → ByEvents m R.entries xs (λ es. IsDone R w whole old new BadInput es after) ys
  done_bad S w after xs ys whole left old mid new ok n h e p =
      let bad : whole.bad_line ≡ Some n = h.bad_line ∙ ap (λ s. s.bad_line) e in (
        events_in h.deeds,
        record {
          deeds = h.deeds;
          actions = h.actions ∙ ap (λ s. map action_of h.deeds ++ s.actions) e ∙ append-nil (map action_of h.deeds);
          replies = runs_of R S w after h.deeds h.does;
          events = refl;
          printed = rw bad (appends_both old mid new (text_in h.deeds) (bad_line_text (Some n)) h.printed p);
          ending = rw bad refl;
        },
        h.follow,
      )

  -- the text that says so was cut short
  pub done_bad_cut : (S : Grouped) (w after : World) (xs ys : List (DynBox V Global P)) (whole left : Session) (old mid new : Option (List ℕ)) (ok : Bool) (n : ℕ)
      → HasDone m R w xs whole left old mid ok S after ys → left ≡ record { actions = []; bad_line = Some n } → HasFront mid new (bad_line_text (Some n))
      → ByEvents m R.entries xs (λ es. IsCut R w whole old new es after) ys
  done_bad_cut S w after xs ys whole left old mid new ok n h e p =
      let bad : whole.bad_line ≡ Some n = h.bad_line ∙ ap (λ s. s.bad_line) e in (
        events_in h.deeds,
        record {
          deeds = h.deeds;
          left = [];
          actions = h.actions ∙ ap (λ s. map action_of h.deeds ++ s.actions) e;
          replies = runs_of R S w after h.deeds h.does;
          events = refl;
          printed = front_behind old mid new (text_in h.deeds) (bad_line_text (Some n)) [] _
              (ap (λ b. text_in h.deeds ++ bad_line_text b) bad ∙ ap (λ t. text_in h.deeds ++ t) (sym (append-nil (bad_line_text (Some n))))) h.printed p;
          whole = omega (arith, text_front (length h.deeds - 1) h.deeds);
        },
        h.follow,
      )

  -- no line is left
  pub done_all : (S : Grouped) (w after : World) (xs ys : List (DynBox V Global P)) (whole left : Session) (old new : Option (List ℕ)) (ok : Bool)
      → HasDone m R w xs whole left old new ok S after ys → left ≡ record { actions = []; bad_line = None }
      → ByEvents m R.entries xs (λ es. IsDone R w whole old new (cond ok AllOk SomeRefused) es after) ys
  done_all S w after xs ys whole left old new ok h e =
      let good : whole.bad_line ≡ None = h.bad_line ∙ ap (λ s. s.bad_line) e in (
        events_in h.deeds,
        record {
          deeds = h.deeds;
          actions = h.actions ∙ ap (λ s. map action_of h.deeds ++ s.actions) e ∙ append-nil (map action_of h.deeds);
          replies = runs_of R S w after h.deeds h.does;
          events = refl;
          printed = rw (good, append-nil (text_in h.deeds)) h.printed;
          ending = rw (good, ← h.all_ok) refl;
        },
        h.follow,
      )
