-- Whole runs, told the same but for numbers of new objects, or granted all that they asked for.
use Rattle.std.proofs.Common.{◌≡◌, ℕ, ◌+◌, inl, inr, List, [], ◌∷◌, ◌++◌, refl, sym, ap, ◌∙◌, subst, arith, append-nil}
use Rattle.std.specs.Prelude.{◌⊎◌, true, false}
use Rattle.ang_kinds.specs.declared.fault.Fault.{Fault}
use Rattle.ang_kinds.specs.declared.fault.Fault.TheVariants.{Memory}
use Rattle.ang_host.specs.declared.answer.HostReply.{HostReply}
use Rattle.ang_meaning.specs.declared.slot.Slot.{Slot}
use Rattle.ang_meaning.specs.declared.slot.Slot.TheVariants.{Bits}
use Rattle.ang_meaning.specs.declared.routine.Routine.{Routine}
use Rattle.ang_meaning.specs.World.{World, Input, Room, Said, Tallied, Fresh, with_inputs}
use Rattle.ang_meaning.specs.Told.{has_room, answers_told}
use Rattle.ang_meaning.specs.Environment.{Environment}
use Rattle.ang_meaning.specs.Counting.{IsCounted}
use Rattle.ang_meaning.specs.Alike.{Renaming, renamed, renamed_all, SameButNumbers}
use Rattle.ang_meaning.proofs.AlikeWorlds.{three}
use Rattle.ang_code.specs.Machine.{Texts, Config, At, Over, Outcome, Finished, Faulted, Stuck, steps, call_begins, initializer_begins}
use Rattle.ang_code.specs.Runs.{Completion, Gives, Stops, ended, Runs}
use Rattle.ang_code.proofs.Steps.{more_steps, over_stays}
use Rattle.ang_code_laws.specs.Alike.{AreAlike, renamed_end, EndsAlike, CallRunsAlike, InitializerRunsAlike, GrantedAlike, GrantedCallsAlike, GrantedInitializersAlike}
use Rattle.ang_code_laws.specs.Counting.{CountedAt}
use Rattle.ang_code_laws.proofs.Counting.{calls_count, initializers_count}
use Rattle.ang_code_laws.proofs.AlikeSteps.{RunLeaves, RunsAlike, steps_alike, call_alike, initializer_alike, alike_only, ConfigsUpTo}
use Rattle.ang_meaning.proofs.Matching.{Match, AlikeUpTo, match_of, same_of, alike_by}

-- ---- inputs

pub match_then : (apart : Type 0) (a b c d : List Input) → Match ⊥ a b → Match apart c d → Match apart (a ++ c) (b ++ d)
match_then apart [] [] c d h k = k
match_then apart [] (j ∷ b) c d h k = absurd h
match_then apart (i ∷ a) [] c d h k = absurd h
match_then apart (Room x ∷ a) (Room y ∷ b) c d h k = (h.0, match_then apart a b c d h.1 k)
match_then apart (Room x ∷ a) (Said y ∷ b) c d h k = absurd h
match_then apart (Room x ∷ a) (Tallied y ∷ b) c d h k = absurd h
match_then apart (Room x ∷ a) (Fresh y ∷ b) c d h k = absurd h
match_then apart (Said x ∷ a) (Room y ∷ b) c d h k = absurd h
match_then apart (Said x ∷ a) (Said y ∷ b) c d h k = (h.0, match_then apart a b c d h.1 k)
match_then apart (Said x ∷ a) (Tallied y ∷ b) c d h k = absurd h
match_then apart (Said x ∷ a) (Fresh y ∷ b) c d h k = absurd h
match_then apart (Tallied x ∷ a) (Room y ∷ b) c d h k = absurd h
match_then apart (Tallied x ∷ a) (Said y ∷ b) c d h k = absurd h
match_then apart (Tallied x ∷ a) (Tallied y ∷ b) c d h k = (h.0, match_then apart a b c d h.1 k)
match_then apart (Tallied x ∷ a) (Fresh y ∷ b) c d h k = absurd h
match_then apart (Fresh x ∷ a) (Room y ∷ b) c d h k = absurd h
match_then apart (Fresh x ∷ a) (Said y ∷ b) c d h k = absurd h
match_then apart (Fresh x ∷ a) (Tallied y ∷ b) c d h k = absurd h
match_then apart (Fresh x ∷ a) (Fresh y ∷ b) c d h k = match_then apart a b c d h k

pub match_same : (a : List Input) → Match ⊥ a a
match_same [] = λ x. x
match_same (Room b ∷ a) = (refl, match_same a)
match_same (Said q ∷ a) = (refl, match_same a)
match_same (Tallied b ∷ a) = (refl, match_same a)
match_same (Fresh n ∷ a) = match_same a

match_whole : (apart : Type 0) (a b : List Input) → Match apart a b → Match apart (a ++ []) (b ++ [])
match_whole apart a b h = subst (λ l. Match apart l (b ++ [])) (sym (append-nil a)) (subst (λ l. Match apart a l) (sym (append-nil b)) h)

-- the second goes on after inputs that match all of the first
record GoesPast (u v : List Input) : Type 0 where
  front : List Input
  first : Input
  rest : List Input
  parts : v ≡ front ++ (first ∷ rest)
  alike : Match ⊥ u front

-- and the first after all of the second
record GoesPastBack (u v : List Input) : Type 0 where
  front : List Input
  first : Input
  rest : List Input
  parts : u ≡ front ++ (first ∷ rest)
  alike : Match ⊥ front v

abbrev Compared : List Input → List Input → Type 0
Compared u v = Match ⊥ u v ⊎ (Match (Unit {0}) u v ⊎ (GoesPast u v ⊎ GoesPastBack u v))

longer : (i j : Input) (u v : List Input) → ((apart : Type 0) (x y : List Input) → Match apart x y → Match apart (i ∷ x) (j ∷ y)) → Compared u v → Compared (i ∷ u) (j ∷ v)
longer i j u v k (inl m) = inl (k ⊥ u v m)
longer i j u v k (inr (inl m)) = inr (inl (k (Unit {0}) u v m))
longer i j u v k (inr (inr (inl g))) = inr (inr (inl (record { front = j ∷ g.front; first = g.first; rest = g.rest; parts = ap (λ l. j ∷ l) g.parts; alike = k ⊥ u g.front g.alike })))
longer i j u v k (inr (inr (inr g))) = inr (inr (inr (record { front = i ∷ g.front; first = g.first; rest = g.rest; parts = ap (λ l. i ∷ l) g.parts; alike = k ⊥ g.front v g.alike })))

first_answer : HostReply → List HostReply → HostReply
first_answer d [] = d
first_answer d (x ∷ xs) = x

later_answers : List HostReply → List HostReply
later_answers [] = []
later_answers (x ∷ xs) = xs

-- where nothing was refused and the answers are the same
compare : (u v : List Input) → has_room u ≡ true → has_room v ≡ true → answers_told u ≡ answers_told v → Compared u v
unfolding first_answer later_answers
compare [] [] h k e = inl (λ x. x)
compare [] (j ∷ v) h k e = inr (inr (inl (record { front = []; first = j; rest = v; parts = refl; alike = λ x. x })))
compare (i ∷ u) [] h k e = inr (inr (inr (record { front = []; first = i; rest = u; parts = refl; alike = λ x. x })))
compare (Room true ∷ u) (Room true ∷ v) h k e = longer (Room true) (Room true) u v (λ a l m t. (refl, t)) (compare u v h k e)
compare (Room true ∷ u) (Room false ∷ v) h k e = absurd (let q : ⊥ = cc in q)
compare (Room false ∷ u) (Room y ∷ v) h k e = absurd (let q : ⊥ = cc in q)
compare (Room x ∷ u) (Said y ∷ v) h k e = inr (inl tt)
compare (Room x ∷ u) (Tallied y ∷ v) h k e = inr (inl tt)
compare (Room x ∷ u) (Fresh y ∷ v) h k e = inr (inl tt)
compare (Said x ∷ u) (Room y ∷ v) h k e = inr (inl tt)
compare (Said x ∷ u) (Said y ∷ v) h k e = longer (Said x) (Said y) u v (λ a l m t. (ap (first_answer x) e, t)) (compare u v h k (ap later_answers e))
compare (Said x ∷ u) (Tallied y ∷ v) h k e = inr (inl tt)
compare (Said x ∷ u) (Fresh y ∷ v) h k e = inr (inl tt)
compare (Tallied x ∷ u) (Room y ∷ v) h k e = inr (inl tt)
compare (Tallied x ∷ u) (Said y ∷ v) h k e = inr (inl tt)
compare (Tallied true ∷ u) (Tallied true ∷ v) h k e = longer (Tallied true) (Tallied true) u v (λ a l m t. (refl, t)) (compare u v h k e)
compare (Tallied true ∷ u) (Tallied false ∷ v) h k e = absurd (let q : ⊥ = cc in q)
compare (Tallied false ∷ u) (Tallied y ∷ v) h k e = absurd (let q : ⊥ = cc in q)
compare (Tallied x ∷ u) (Fresh y ∷ v) h k e = inr (inl tt)
compare (Fresh x ∷ u) (Room y ∷ v) h k e = inr (inl tt)
compare (Fresh x ∷ u) (Said y ∷ v) h k e = inr (inl tt)
compare (Fresh x ∷ u) (Tallied y ∷ v) h k e = inr (inl tt)
compare (Fresh x ∷ u) (Fresh y ∷ v) h k e = longer (Fresh x) (Fresh y) u v (λ a l m t. t) (compare u v h k e)

-- ---- ends

value_at : Config → Slot
value_at (At f pc room s fr t w) = Bits 0
value_at (Over (Finished v t w)) = v
value_at (Over (Faulted x w)) = Bits 0
value_at (Over Stuck) = Bits 0

ticks_at : Config → ℕ
ticks_at (At f pc room s fr t w) = 0
ticks_at (Over (Finished v t w)) = t
ticks_at (Over (Faulted x w)) = 0
ticks_at (Over Stuck) = 0

fault_at : Config → Fault
fault_at (At f pc room s fr t w) = Memory
fault_at (Over (Finished v t w)) = Memory
fault_at (Over (Faulted x w)) = x
fault_at (Over Stuck) = Memory

world_at : World → Config → World
world_at u (At f pc room s fr t w) = u
world_at u (Over (Finished v t w)) = w
world_at u (Over (Faulted x w)) = w
world_at u (Over Stuck) = u

pub record Joined (apart : Type 0) (e : Completion) (u : World) (d : Completion) (w : World) : Type 0 where
  pub by : Renaming
  pub ending : d ≡ renamed_end by e
  pub alike : AlikeUpTo apart by u w

pub joined : (apart : Type 0) (e d : Completion) (u w : World) → ConfigsUpTo apart (Over (ended e u)) (Over (ended d w)) → Joined apart e u d w
unfolding value_at ticks_at fault_at world_at
joined apart (Gives x t) (Gives y k) u w m = record {
  by = m.by;
  ending = ap (λ c. Gives (value_at c) k) m.same ∙ ap (λ c. Gives (renamed m.by x) (ticks_at c)) m.same;
  alike = subst (λ q. AlikeUpTo apart m.by u q) (sym (ap (world_at w) m.same)) m.alike;
}
joined apart (Gives x t) (Stops f) u w m = absurd (let s : Over (Faulted f w) ≡ Over (Finished (renamed m.by x) t m.world) = m.same in let q : ⊥ = cc in q)
joined apart (Stops f) (Gives y k) u w m = absurd (let s : Over (Finished y k w) ≡ Over (Faulted f m.world) = m.same in let q : ⊥ = cc in q)
joined apart (Stops f) (Stops g) u w m = record {
  by = m.by;
  ending = ap (λ c. Stops (fault_at c)) m.same;
  alike = subst (λ q. AlikeUpTo apart m.by u q) (sym (ap (world_at w) m.same)) m.alike;
}

at_end : (z : Environment) (code : Texts) (m n : ℕ) (c : Config) (o : Outcome) → steps z code m c ≡ Over o → steps z code (m + n) c ≡ Over o
at_end z code m n c o e = more_steps z code m n c ∙ ap (λ x. steps z code n x) e ∙ over_stays z code n o

-- ---- what was granted was told the same

abbrev pub IsMore : List Input → Type 0
IsMore [] = ⊥
IsMore (i ∷ is) = Unit {0}

-- the inputs that are left match, or one side was refused for an input of another sort, which is left
abbrev pub LeftAlike : Type 0 → List Input → List Input → Type 0
LeftAlike apart is js = Match apart is js ⊎ ((apart × IsMore is) ⊎ (apart × IsMore js))

-- whatever further inputs there are, an end is reached that leaves them
abbrev pub LeavesRest : {A : Type 0} → (A → List Input) → (List Input → A → Type 0) → List Input → Type 0
LeavesRest {A} left Reaches used = (rest : List Input) → (a : A) × Reaches (used ++ rest) a × (left a ≡ rest)

left_by : (apart : Type 0) (is js ks ls : List Input) → is ≡ ks → js ≡ ls → LeftAlike apart is js → LeftAlike apart ks ls
left_by apart is js ks ls e f h = subst (λ l. LeftAlike apart ks l) f (subst (λ l. LeftAlike apart l js) e h)

-- Two ways of coming to an end, of whatever kind, told inputs, that leave matching ones wherever theirs match: where both were granted all that they took,
-- with the same answers, they took the same but for numbers.
module _ {A : Type 0} (left : A → List Input) (Reaches Again : List Input → A → Type 0)
    (pairs : (apart : Type 0) (is js : List Input) (a b : A) → Match apart is js → Reaches is a → Again js b → LeftAlike apart (left a) (left b))
    (used told : List Input) (run : LeavesRest left Reaches used) (back : LeavesRest left Again told) where
  leaves : (apart : Type 0) (more rest : List Input) → Match apart (used ++ more) (told ++ rest) → LeftAlike apart more rest
  leaves apart more rest m =
      let a = run more in
      let b = back rest in
      left_by apart (left a.0) (left b.0) more rest a.2 b.2 (pairs apart (used ++ more) (told ++ rest) a.0 b.0 m a.1 b.1)

  never_apart : Match (Unit {0}) used told → ⊥
  never_apart h = three (λ m. m tt) (λ l. l.1) (λ l. l.1) (leaves (Unit {0}) [] [] (match_whole (Unit {0}) used told h))

  never_past : GoesPast used told → ⊥
  never_past g =
      let more = g.first ∷ g.rest in
      three (λ m. m) (λ l. l.0) (λ l. l.0)
      (leaves ⊥ more [] (subst (λ l. Match ⊥ (used ++ more) l) (sym (append-nil told ∙ g.parts)) (match_then ⊥ used g.front more more g.alike (match_same more))))

  never_past_back : GoesPastBack used told → ⊥
  never_past_back g =
      let more = g.first ∷ g.rest in
      three (λ m. m) (λ l. l.0) (λ l. l.0)
      (leaves ⊥ [] more (subst (λ l. Match ⊥ l (told ++ more)) (sym (append-nil used ∙ g.parts)) (match_then ⊥ g.front told more more g.alike (match_same more))))

  only_whole : Compared used told → Match ⊥ used told
  only_whole (inl m) = m
  only_whole (inr (inl m)) = absurd (never_apart m)
  only_whole (inr (inr (inl g))) = absurd (never_past g)
  only_whole (inr (inr (inr g))) = absurd (never_past_back g)

  pub granted_same : GrantedAlike used told → Match ⊥ used told
  granted_same g = only_whole (compare used told g.room g.again g.answers)

-- ---- ends of runs

-- whatever further inputs there are, this end is reached, and they are left
pub record Leading (Reaches : List Input → Outcome → Type 0) (used : List Input) (end : Completion) (w : World) : Type 0 where
  pub each : (rest : List Input) → Reaches (used ++ rest) (ended end (with_inputs rest w))

pub record AtEnd : Type 0 where
  pub end : Completion
  pub world : World

ends_leave : (apart : Type 0) (e : Completion) (w : World) → RunLeaves apart (Over (ended e w)) → apart × IsMore w.inputs
ends_leave apart (Gives x t) w h = absurd h
ends_leave apart (Stops f) w h = (h.0, subst IsMore (sym h.1.inputs) tt)

module _ (Reaches Again : List Input → Outcome → Type 0)
    (pairs : (apart : Type 0) (is js : List Input) (o p : Outcome) → Match apart is js → Reaches is o → Again js p → RunsAlike apart (Over o) (Over p))
    (v' w' : World) (end other : Completion) (used told : List Input) (run : Leading Reaches used end v') (back : Leading Again told other w') where
  pub related : SameButNumbers used told → EndsAlike end v' other w'
  related e =
      let h = match_of used told e in
      let j = joined ⊥ end other (with_inputs [] v') (with_inputs [] w') (alike_only _ _ (pairs ⊥ (used ++ []) (told ++ []) _ _ (match_whole ⊥ used told h) (run.each []) (back.each []))) in
      record { by = j.by; ending = j.ending; worlds = alike_by j.by (with_inputs [] v') (with_inputs [] w') j.alike }

  pub granted : GrantedAlike used told → SameButNumbers used told × EndsAlike end v' other w'
  granted g =
      let m = granted_same {A = AtEnd} (λ a. a.world.inputs) (λ is a. Reaches is (ended a.end a.world)) (λ is a. Again is (ended a.end a.world))
      (λ apart is js a b m x y. three (λ c. inl (joined apart a.end b.end a.world b.world c).alike.inputs) (λ l. inr (inl (ends_leave apart a.end a.world l))) (λ l. inr (inr (ends_leave apart b.end b.world l)))
      (pairs apart is js (ended a.end a.world) (ended b.end b.world) m x y)) used told
      (λ rest. (record { end = end; world = with_inputs rest v' }, run.each rest, refl)) (λ rest. (record { end = other; world = with_inputs rest w' }, back.each rest, refl)) g in
      let e = same_of used told m in
      (e, related e)

-- ---- steps

-- some number of steps leads to it
abbrev pub Comes : Environment → Texts → (List Input → Config) → List Input → Outcome → Type 0
Comes z code from is o = (n : ℕ) × (steps z code n (from is) ≡ Over o)

run_leads : (z : Environment) (code : Texts) (from : List Input → Config) (end : Completion) (w : World) → (run : Runs z code from end w) → Leading (Comes z code from) run.told.used end w
run_leads z code from end w run = record { each = λ rest. (run.count, run.told.tells rest) }

pub together : (z : Environment) (code : Texts) (c d : Config) (apart : Type 0) (m n : ℕ) (o p : Outcome) → CountedAt c → RunsAlike apart c d → steps z code m c ≡ Over o → steps z code n d ≡ Over p → RunsAlike apart (Over o) (Over p)
together z code c d apart m n o p counted h e f =
    let both : m + n ≡ n + m = omega arith in
    subst (λ x. RunsAlike apart (Over o) x) (ap (λ k. steps z code k d) both ∙ at_end z code n m d p f)
    (subst (λ x. RunsAlike apart x (steps z code (m + n) d)) (at_end z code m n c o e) (steps_alike apart z code (m + n) c d counted h))

-- ---- a command's call, and an initializer

pub begun : (apart : Type 0) (r : Renaming) (is js : List Input) (v w : World) → AreAlike r v w → Match apart is js → AlikeUpTo apart r (with_inputs is v) (with_inputs js w)
begun apart r is js v w h m = record { objects = h.objects; hosts = h.hosts; globals = h.globals; events = h.events; reserved = h.reserved; spent = h.spent; bounds = h.bounds; inputs = m }

module _ (z : Environment) (code : Texts) (r : Renaming) (v w : World) (alike : AreAlike r v w) where
  call_pairs : (budget : ℕ) (g : Routine) (vs : List Slot) → IsCounted vs v → (apart : Type 0) (is js : List Input) (o p : Outcome) → Match apart is js
      → Comes z code (λ is. call_begins z code budget g vs (with_inputs is v)) is o → Comes z code (λ is. call_begins z code budget g (renamed_all r vs) (with_inputs is w)) js p → RunsAlike apart (Over o) (Over p)
  call_pairs budget g vs counted apart is js o p m a b =
      together z code (call_begins z code budget g vs (with_inputs is v)) (call_begins z code budget g (renamed_all r vs) (with_inputs js w)) apart a.0 b.0 o p
      (calls_count z code 0 budget g vs (with_inputs is v) counted) (call_alike apart z code budget g vs r (with_inputs is v) (with_inputs js w) (begun apart r is js v w alike m)) a.1 b.1

  initializer_pairs : (t : ℕ) (g : Routine) → IsCounted [] v → (apart : Type 0) (is js : List Input) (o p : Outcome) → Match apart is js
      → Comes z code (λ is. initializer_begins z code t g (with_inputs is v)) is o → Comes z code (λ is. initializer_begins z code t g (with_inputs is w)) js p → RunsAlike apart (Over o) (Over p)
  initializer_pairs t g counted apart is js o p m a b =
      together z code (initializer_begins z code t g (with_inputs is v)) (initializer_begins z code t g (with_inputs js w)) apart a.0 b.0 o p
      (initializers_count z code 0 t g (with_inputs is v) counted) (initializer_alike apart z code t g r (with_inputs is v) (with_inputs js w) (begun apart r is js v w alike m)) a.1 b.1

pub call_runs_alike : CallRunsAlike
call_runs_alike z code budget g vs r v w v' w' end other p h run back m =
    related (Comes z code (λ is. call_begins z code budget g vs (with_inputs is v))) (Comes z code (λ is. call_begins z code budget g (renamed_all r vs) (with_inputs is w)))
    (call_pairs z code r v w h budget g vs p) v' w' end other run.told.used back.told.used (run_leads z code _ end v' run) (run_leads z code _ other w' back) m

pub initializer_runs_alike : InitializerRunsAlike
initializer_runs_alike z code t g r v w v' w' end other p h run back m =
    related (Comes z code (λ is. initializer_begins z code t g (with_inputs is v))) (Comes z code (λ is. initializer_begins z code t g (with_inputs is w)))
    (initializer_pairs z code r v w h t g p) v' w' end other run.told.used back.told.used (run_leads z code _ end v' run) (run_leads z code _ other w' back) m

pub granted_calls_alike : GrantedCallsAlike
granted_calls_alike z code budget g vs r v w v' w' end other p h run back m =
    granted (Comes z code (λ is. call_begins z code budget g vs (with_inputs is v))) (Comes z code (λ is. call_begins z code budget g (renamed_all r vs) (with_inputs is w)))
    (call_pairs z code r v w h budget g vs p) v' w' end other run.told.used back.told.used (run_leads z code _ end v' run) (run_leads z code _ other w' back) m

pub granted_initializers_alike : GrantedInitializersAlike
granted_initializers_alike z code t g r v w v' w' end other p h run back m =
    granted (Comes z code (λ is. initializer_begins z code t g (with_inputs is v))) (Comes z code (λ is. initializer_begins z code t g (with_inputs is w)))
    (initializer_pairs z code r v w h t g p) v' w' end other run.told.used back.told.used (run_leads z code _ end v' run) (run_leads z code _ other w' back) m
