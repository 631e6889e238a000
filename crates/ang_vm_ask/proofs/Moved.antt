-- A store after a host call, and after several.
use Rattle.std.proofs.Common.{◌≡◌, ℕ, ◌+◌, ◌<◌, ◌≤◌, List, [], ◌∷◌, ◌++◌, length, refl, sym, ap, ◌∙◌, arith, append-nil}
use Rattle.std.proofs.lemmas.List.{length-map}
use Rattle.ang_kinds.specs.declared.mask.EntityNo.{EntityNo}
use Rattle.ang_host.specs.Logs.{listed_in, is_heard, log_len, log_capacity}
use Rattle.ang_host.specs.declared.event_buffer.EventBuffer.{EventBuffer}
use Rattle.ang_host.specs.declared.answer.Answer.{Answer}
use Rattle.ang_host.specs.declared.answer.Made.{Made}
use Rattle.ang_host.specs.declared.answer.Made.TheVariants.{Key as MadeKey, Nothing as MadeNothing, Fault as MadeFault, Memory as MadeMemory, Full as MadeFull}
use Rattle.ang_host.specs.declared.drivers.Drivers.{Drivers}
use Rattle.ang_host.specs.declared.event.HostEvent.{HostEvent}
use Rattle.ang_host.specs.declared.event.Role.{Role}
use Rattle.ang_host.specs.State.{State, Ask}
use Rattle.ang_host.specs.Laws.{Fits, Answered, WasMade}
use Rattle.ang_host.specs.Meanings.{Meanings, state_in}
use Rattle.ang_host.specs.Members.{OneMoved, DriverMoved}
use Rattle.ang_host.specs.Boxes.{members}
use Rattle.ang_host.specs.Events.{role_at, DriversFollow}
use Rattle.ang_host.proofs.Events.{AllFollow-none, AllFollow-length}
use Rattle.ang_heap.specs.declared.store.Store.{Store}
use Rattle.ang_heap.specs.Stores.{IsReady, StoreMoves}
use Rattle.ang_heap.proofs.Spending.{answered_out, made_out}
use Rattle.ang_heap.proofs.Hosting.{answer_live, answer_ready, answer_length, born, made_live, made_ready}
use Rattle.ang_heap.proofs.Storing.{moves_none, moves_join}
use Rattle.ang_vm_ask.specs.Askings.{StoreAsked}
use Rattle.ang_vm_ask.specs.Replies.{objects_made}

born_one : (r : Made) → born r ≤ 1
born_one (MadeKey k) = omega arith
born_one MadeNothing = omega arith
born_one (MadeFault n) = omega arith
born_one MadeMemory = omega arith
born_one MadeFull = omega arith

pub born_as : (r : Made) → objects_made r ≡ born r
born_as (MadeKey k) = refl
born_as MadeNothing = refl
born_as (MadeFault n) = refl
born_as MadeMemory = refl
born_as MadeFull = refl

made_length : {B W : Type 0} (st : B → State) (kind : B → W) (rule : W → Fits) (xs ys : List B) (d : ℕ) {ask : Ask} (r : Made) → OneMoved st kind rule xs d (λ f x y. WasMade f x ask r y) ys
    → length ys ≡ length xs
made_length st kind rule xs ys d r one = sym (length-map ys kind) ∙ ap length one.kinds ∙ length-map xs kind

module _ {V : Type 0} {P : V → Type 0} (m : Meanings P) where
  pub moves_length : (roles : List Role) (s t : Store V P) → StoreMoves m roles s t → length (members t.drivers) ≡ length (members s.drivers)
  moves_length roles s t p = AllFollow-length (λ b. state_in m b) (λ b. b.vtable) (λ v. (m v).meaning.fits) roles (members s.drivers) (members t.drivers) p.parts.more p.parts.follow

  module _ (e : EntityNo) (role : Role) where
    pub asked_then : (s t u : Store V P) → StoreAsked m e role s t → StoreAsked m e role t u → StoreAsked m e role s u
    asked_then s t u p q = record {
      moves = λ roles h. moves_join m roles s t u (p.moves roles h) (q.moves roles h);
      ready = λ r. q.ready (p.ready r);
      same = q.same ∙ p.same;
    }

    -- what moves whatever the roles are
    pub moved_asked : (s t : Store V P) → ((roles : List Role) → StoreMoves m roles s t) → StoreAsked m e role s t
    moved_asked s t p = record { moves = λ roles h. p roles; ready = (p []).ready; same = moves_length [] s t (p []) }

    pub unasked : (s : Store V P) → StoreAsked m e role s s
    unasked s = moved_asked s s (λ roles. moves_none m roles s)

    module _ (s : Store V P) where
      -- more room, and nothing was asked
      pub refused_asked : (es fs : EventBuffer) → listed_in es ≡ listed_in s.events → log_len es ≡ log_len s.events → log_capacity s.events ≤ log_capacity es → is_heard es ≡ is_heard s.events
          → listed_in fs ≡ listed_in s.ends → log_len fs ≡ log_len s.ends → log_capacity s.ends ≤ log_capacity fs → StoreAsked m e role s (record s { events = es; ends = fs })
      refused_asked es fs items len capacity heard items' len' capacity' =
          moved_asked s (record s { events = es; ends = fs }) (λ roles. record {
            parts = record { more = []; events = items ∙ sym (append-nil (listed_in s.events)); follow = AllFollow-none (λ b. state_in m b) (λ b. b.vtable) (λ v. (m v).meaning.fits) roles (members s.drivers) };
            ready = λ r. record {
              kept = record {
                drivers = record { sound = r.kept.drivers.sound; room = omega (arith, r.kept.drivers.room, len', capacity') };
                alive = r.kept.alive;
                none = items' ∙ r.kept.none;
                due = r.kept.due;
                tallied = r.kept.tallied;
              };
              room = omega (arith, r.room, len, capacity);
            };
            heard = heard;
            limits = refl;
            within = λ r n k o a w. record { slots = w.slots; events = omega (arith, w.events, len); objects = w.objects };
            made = λ n l h. h;
          })

      module _ (ds : Drivers V P) (es : EventBuffer) (event : HostEvent) (d : ℕ) (ask : Ask)
          (listed : listed_in es ≡ listed_in s.events ++ event ∷ []) (follow : (roles : List Role) → role_at roles e.0 ≡ role → DriversFollow m roles (members s.drivers) (event ∷ []) (members ds)) where
        pub answered_asked : (r : Answer) → DriverMoved m (members s.drivers) d (λ f x y. Answered f x ask r y) (members ds) → log_len es + s.live ≤ log_capacity es
            → is_heard es ≡ is_heard s.events → log_len es + s.live ≤ s.limits.events → StoreAsked m e role s (record s { drivers = ds; events = es })
        answered_asked r moved room heard limit =
            let readied : IsReady m s → IsReady m (record s { drivers = ds; events = es }) = λ rd. record {
              kept = record {
                drivers = answer_ready _ _ _ _ _ d ask r moved _ _ _ _ rd.kept.drivers rd.kept.drivers.room;
                alive = rd.kept.alive ∙ sym (answer_live _ _ _ _ _ d ask r moved);
                none = rd.kept.none;
                due = λ h. answered_out (λ b. state_in m b) (λ b. b.vtable) (λ v. (m v).meaning.fits) (members s.drivers) (members ds) d ask r moved (rd.kept.due h);
                tallied = rd.kept.tallied;
              };
              room = room;
            } in
            record {
              moves = λ roles h. record {
                parts = record { more = event ∷ []; events = listed; follow = follow roles h };
                ready = readied;
                heard = heard;
                limits = refl;
                within = λ rd n k o a w. record { slots = w.slots; events = omega (arith, limit, a.events); objects = w.objects };
                made = λ n l h. h;
              };
              ready = readied;
              same = answer_length _ _ _ _ _ d ask r moved;
            }

        -- an object more may live then
        pub made_asked : (fs : EventBuffer) (r : Made) → DriverMoved m (members s.drivers) d (λ f x y. WasMade f x ask r y) (members ds) → log_len es + (s.live + 1) ≤ log_capacity es
            → is_heard es ≡ is_heard s.events → log_len es + (s.live + 1) ≤ s.limits.events → s.live < s.limits.objects
            → listed_in fs ≡ listed_in s.ends → log_len fs + (s.live + 1) ≤ log_capacity fs
            → StoreAsked m e role s (record s { drivers = ds; events = es; ends = fs; live = s.live + objects_made r })
        made_asked fs r moved room heard limit few items room' =
            let readied : IsReady m s → IsReady m (record s { drivers = ds; events = es; ends = fs; live = s.live + objects_made r }) = λ rd. record {
              kept = record {
                drivers = made_ready _ _ _ _ _ d ask r moved _ _ _ _ rd.kept.drivers (omega (arith, room', rd.kept.alive, born_one r));
                alive = omega (arith, born_as r, rd.kept.alive, made_live _ _ _ _ _ d ask r moved);
                none = items ∙ rd.kept.none;
                due = λ h. made_out (λ b. state_in m b) (λ b. b.vtable) (λ v. (m v).meaning.fits) (members s.drivers) (members ds) d ask r moved (rd.kept.due h);
                tallied = rd.kept.tallied;
              };
              room = omega (arith, room, born_as r, born_one r);
            } in
            record {
              moves = λ roles h. record {
                parts = record { more = event ∷ []; events = listed; follow = follow roles h };
                ready = readied;
                heard = heard;
                limits = refl;
                within = λ rd n k o a w. record {
                  slots = w.slots;
                  events = omega (arith, limit, a.events, born_as r, born_one r);
                  objects = omega (arith, few, a.objects, born_as r, born_one r);
                };
                made = λ n l h. h;
              };
              ready = readied;
              same = made_length _ _ _ _ _ d r moved;
            }
