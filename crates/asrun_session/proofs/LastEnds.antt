-- Where an engine ends, each object that is alive ends once.
use Rattle.std.proofs.Common.{◌≡◌, ℕ, zero, suc, ◌+◌, Bool, true, false, cond, ◌&&◌, List, [], ◌∷◌, ◌++◌, length, Option, Some, None, refl, sym, ap, ◌∙◌, subst, arith}
use Rattle.std.specs.Prelude.{nat_eq, ◌<◌, ◌≤◌, if◌then◌else◌, is_some, slice_index_or, slice_set}
use Rattle.std.specs.Ordering.{nat_cmp}
use Rattle.std.specs.FinMap as map
use Rattle.std.specs.FinMap.{get-empty}
use Rattle.std.specs.declared.alloc.Global.{Global}
use Rattle.std.specs.declared.dyn_box.DynBox.{DynBox}
use Rattle.std.proofs.lemmas.List.{length-map}
use Rattle.std.proofs.lemmas.Bool.{eqb-true}
use Rattle.ang_host.specs.declared.event.HostEvent.{HostEvent}
use Rattle.ang_host.specs.declared.event.HostEvent.TheVariants.{Ended}
use Rattle.ang_host.specs.Events.{events_of, live_after, live_along, DriversFollow}
use Rattle.ang_host.specs.Meanings.{Meanings}
use Rattle.ang_host.specs.Members.{state_at, states_of, AreFresh}
use Rattle.ang_meaning.specs.declared.slot.Slot.{Slot}
use Rattle.ang_meaning.specs.declared.slot.Slot.TheVariants.{Bits, Script, Host}
use Rattle.ang_meaning.specs.World.{World, HostCounts, Lowered, Gone, Kept, host_put, host_less, host_lowered, script_lowered, script_given, each_given, given, give}
use Rattle.ang_meaning.specs.Counting.{counts_by}
use Rattle.ang_meaning.specs.Results.{give_back}
use Rattle.ang_meaning.proofs.Tables.{get_inserted, get_without}
use Rattle.ang_view.specs.Registration.{RegistrationList}
use Rattle.ang_engine.specs.Roles.{roles_of}
use Rattle.ang_engine.specs.Ending.{ends_of}
use Rattle.ang_engine_modules.specs.World.{World as EngineWorld, running, globals_ended, all_ended, engine_ended}
use Rattle.ang_engine.proofs.GlobalsEnd.{ending_lists_ends}
use Rattle.asrun_session.specs.LastEnds.{ends_in, AreLastEnds}

ends_append : (d k : ℕ) (xs ys : List HostEvent) → ends_in d k (xs ++ ys) ≡ ends_in d k xs + ends_in d k ys
ends_append d k [] ys = omega arith
ends_append d k (x ∷ xs) ys = omega (arith, ends_append d k xs ys)

-- 1 for a key that is alive
abbrev alive : Option ℕ → ℕ
alive None = 0
alive (Some n) = 1

-- how often the object's end is listed, and 1 more while it is alive
abbrev share : ℕ → ℕ → List HostEvent → HostCounts → ℕ
share d k es hs = ends_in d k es + alive (map.get (hs d) k)

one_end : (d k e j : ℕ) (es : List HostEvent) → ends_in d k (es ++ Ended e j ∷ []) ≡ ends_in d k es + cond (nat_eq e d && nat_eq j k) 1 0
one_end d k e j es = omega (arith, ends_append d k es (Ended e j ∷ []))

-- the last place of a key is given up
gone_key : (d k e j n : ℕ) (hs : HostCounts) → map.get (hs e) j ≡ Some n → (b c : Bool) → nat_eq e d ≡ b → nat_eq j k ≡ c
    → cond (b && c) 1 0 + alive (map.get (cond b (map.remove (hs e) j) (hs d)) k) ≡ alive (map.get (hs d) k)
gone_key d k e j n hs g false c t u = omega arith
gone_key d k e j n hs g true true t u =
    let at : map.get (hs d) k ≡ Some n = ap (λ x. map.get (hs x) k) (sym (eqb-true e d t)) ∙ ap (map.get (hs e)) (sym (eqb-true j k u)) ∙ g in
    let none : map.get (map.remove (hs e) j) k ≡ None = get_without (hs e) j k ∙ ap (λ b. cond b None (map.get (hs e) k)) u in
    omega (arith, ap alive none, ap alive at)
gone_key d k e j n hs g true false t u =
    omega (arith, ap alive (get_without (hs e) j k ∙ ap (λ b. cond b None (map.get (hs e) k)) u ∙ ap (λ x. map.get (hs x) k) (eqb-true e d t)))

-- a key has one place fewer and is still held
kept_key : (d k e j n c : ℕ) (hs : HostCounts) → map.get (hs e) j ≡ Some n → (b a : Bool) → nat_eq e d ≡ b → nat_eq j k ≡ a
    → alive (map.get (cond b (map.insert (hs e) j c) (hs d)) k) ≡ alive (map.get (hs d) k)
kept_key d k e j n c hs g false a t u = refl
kept_key d k e j n c hs g true true t u =
    let at : map.get (hs d) k ≡ Some n = ap (λ x. map.get (hs x) k) (sym (eqb-true e d t)) ∙ ap (map.get (hs e)) (sym (eqb-true j k u)) ∙ g in
    ap alive (get_inserted (hs e) j k c ∙ ap (λ b. cond b (Some c) (map.get (hs e) k)) u) ∙ ap alive (sym at)
kept_key d k e j n c hs g true false t u =
    ap alive (get_inserted (hs e) j k c ∙ ap (λ b. cond b (Some c) (map.get (hs e) k)) u ∙ ap (λ x. map.get (hs x) k) (eqb-true e d t))

ended_share : (d k e j n : ℕ) (hs : HostCounts) (es : List HostEvent) → map.get (hs e) j ≡ Some n
    → share d k (es ++ Ended e j ∷ []) (host_put e (map.remove (hs e) j) hs) ≡ share d k es hs
ended_share d k e j n hs es g =
    let x = one_end d k e j es in
    let y = gone_key d k e j n hs g (nat_eq e d) (nat_eq j k) refl refl in
    omega (arith, x, y)

less_share : (d k e j : ℕ) (o : Option ℕ) (hs : HostCounts) (es : List HostEvent) → map.get (hs e) j ≡ o
    → share d k (if (host_less e j o hs).ended then (es ++ Ended e j ∷ []) else es) (host_less e j o hs).hosts ≡ share d k es hs
less_share d k e j None hs es g = refl
less_share d k e j (Some zero) hs es g = ended_share d k e j zero hs es g
less_share d k e j (Some (suc zero)) hs es g = ended_share d k e j (suc zero) hs es g
less_share d k e j (Some (suc (suc c))) hs es g = ap (λ n. ends_in d k es + n) (kept_key d k e j (suc (suc c)) (suc c) hs g (nat_eq e d) (nat_eq j k) refl refl)

abbrev of : ℕ → ℕ → World → ℕ
of d k w = share d k w.events w.hosts

each_share : (d k : ℕ) (go : Slot → World → World) → ((v : Slot) (w : World) → of d k (go v w) ≡ of d k w) → (vs : List Slot) (w : World) → of d k (each_given go vs w) ≡ of d k w
each_share d k go h [] w = refl
each_share d k go h (v ∷ vs) w = each_share d k go h vs (go v w) ∙ h v w

script_share : (d k : ℕ) (go : Slot → World → World) → ((v : Slot) (w : World) → of d k (go v w) ≡ of d k w) → (l : Lowered) (w : World) → of d k (script_given go l w) ≡ of d k w
script_share d k go h (Kept os) w = refl
script_share d k go h (Gone vs os) w = each_share d k go h vs (record w { objects = os })

given_share : (d k n : ℕ) (v : Slot) (w : World) → of d k (given n v w) ≡ of d k w
unfolding given host_lowered
given_share d k n (Bits x) w = refl
given_share d k n (Script None) w = refl
given_share d k n (Host e None) w = refl
given_share d k n (Host e (Some j)) w = less_share d k e j (map.get (w.hosts e) j) w.hosts w.events refl
given_share d k zero (Script (Some j)) w = refl
given_share d k (suc n) (Script (Some j)) w = script_share d k (given n) (given_share d k n) (script_lowered j w.objects) w

give_share : (d k : ℕ) (v : Slot) (w : World) → share d k (give v w).events (give v w).hosts ≡ share d k w.events w.hosts
unfolding give
give_share d k v w = given_share d k (map.len w.objects) v w

back_share : (d k : ℕ) (vs : List Slot) (w : World) → of d k (give_back vs w) ≡ of d k w
back_share d k [] w = refl
back_share d k (v ∷ vs) w = give_share d k v (give_back vs w) ∙ back_share d k vs w

globals_share : (d k i : ℕ) (r : World) → of d k (globals_ended i r) ≡ of d k r
globals_share d k i r = back_share d k (slice_index_or r.globals i []) (record r { globals = slice_set r.globals i [] })

all_share : (d k : ℕ) (is : List ℕ) (r : World) → of d k (all_ended is r) ≡ of d k r
all_share d k [] r = refl
all_share d k (i ∷ is) r = globals_share d k i (all_ended is r) ∙ all_share d k is r

-- ---- an object that was alive and is not any more has ended

first_is : (d k : ℕ) (b0 : Bool) (b : Bool) (e : HostEvent) (es : List HostEvent)
    → live_along k b0 (if b then (e ∷ es) else es) ≡ cond b (live_along k (live_after k b0 e) es) (live_along k b0 es)
first_is d k b0 true e es = refl
first_is d k b0 false e es = refl

one_ended : (k n : ℕ) (b c : Bool) (es : List HostEvent) → (live_along k true es ≡ false → 1 ≤ n)
    → cond b (live_along k (cond c false true) es) (live_along k true es) ≡ false → 1 ≤ cond (b && c) 1 0 + n
one_ended k n true true es go h = omega arith
one_ended k n true false es go h = omega (arith, go h)
one_ended k n false c es go h = omega (arith, go h)

some_end : (d k : ℕ) (ks : List (ℕ × ℕ)) → live_along k true (events_of d (ends_of ks)) ≡ false → 1 ≤ ends_in d k (ends_of ks)
some_end d k [] h = absurd (let x : ⊥ = cc in x)
some_end d k (x ∷ ks) h =
    one_ended k (ends_in d k (ends_of ks)) (nat_eq x.0 d) (nat_eq x.1 k) (events_of d (ends_of ks)) (some_end d k ks)
    (sym (first_is d k true (nat_eq x.0 d) (Ended x.0 x.1) (events_of d (ends_of ks))) ∙ h)

-- an object that is alive before and not after it ends once, and another one never
once : (o : Option ℕ) (n rest : ℕ) (b : Bool) → n + rest ≡ alive o → is_some o ≡ b → (is_some o ≡ true → 1 ≤ n) → n ≡ cond b 1 0
once None n rest true e t some = absurd (let x : ⊥ = cc in x)
once None n rest false e t some = omega (arith, e)
once (Some v) n rest true e t some = omega (arith, e, some refl)
once (Some v) n rest false e t some = absurd (let x : ⊥ = cc in x)

module _ {V : Type 0} {P : V → Type 0} (m : Meanings P) (R : RegistrationList) (xs zs ys : List (DynBox V Global P)) (es : List HostEvent) (w : EngineWorld) where
  ended_once : w.hosts ≡ counts_by (states_of m zs) → AreFresh (states_of m xs) → AreFresh (states_of m ys) → DriversFollow m (roles_of R) xs es zs
      → DriversFollow m (roles_of R) zs (engine_ended w).events ys
      → (d k : ℕ) → d < length xs → ends_in d k (engine_ended w).events ≡ cond (live_along k false (events_of d es)) 1 0
  ended_once hosts begun back p q d k lt =
      let within : d < length (states_of m xs) = subst (λ n. d < n) (sym (length-map xs _)) lt in
      let within_zs : d < length (states_of m zs) = subst (λ n. d < n) (sym p.follow.same_length) within in
      let within_ys : d < length (states_of m ys) = subst (λ n. d < n) (sym q.follow.same_length) within_zs in
      let none : (i : ℕ) → is_some (map.get map.empty i) ≡ false = λ i. ap is_some (get-empty nat_cmp i) in
      let z = map.get (state_at (states_of m zs) d).counts k in
      let before : is_some z ≡ live_along k false (events_of d es) =
      (p.follow.each d within).live k ∙ ap (λ b. live_along k b (events_of d es)) (ap (λ c. map.contains_key c k) (begun.idle d within) ∙ none k) in
      let after : live_along k (is_some z) (events_of d (engine_ended w).events) ≡ false =
      sym ((q.follow.each d within_zs).live k) ∙ ap (λ c. map.contains_key c k) (back.idle d within_ys) ∙ none k in
      let listed = ending_lists_ends w in
      let some : is_some z ≡ true → 1 ≤ ends_in d k (engine_ended w).events = λ t.
      subst (λ l. 1 ≤ ends_in d k l) (sym listed.1)
      (some_end d k listed.0 (subst (λ l. live_along k true (events_of d l) ≡ false) listed.1 (subst (λ b. live_along k b (events_of d (engine_ended w).events) ≡ false) t after))) in
      let total : ends_in d k (engine_ended w).events + alive (map.get ((engine_ended w).hosts d) k) ≡ alive z =
      all_share d k w.modules.order (running w []) ∙ omega arith ∙ ap (λ hs. alive (map.get (hs d) k)) hosts in
      once z (ends_in d k (engine_ended w).events) _ (live_along k false (events_of d es)) total before some

  pub last_ends : w.hosts ≡ counts_by (states_of m zs) → AreFresh (states_of m xs) → AreFresh (states_of m ys) → DriversFollow m (roles_of R) xs es zs
      → DriversFollow m (roles_of R) zs (engine_ended w).events ys → AreLastEnds (length xs) es (engine_ended w).events
  last_ends hosts begun back p q = record { only = ending_lists_ends w; once = ended_once hosts begun back p q }
