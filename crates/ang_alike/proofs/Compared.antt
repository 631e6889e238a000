-- What is told the same answers, and is granted and refused the same requests, is told the same but for numbers of new objects.
use Rattle.std.proofs.Common.{◌≡◌, inl, inr, List, [], ◌∷◌, ◌++◌, refl, sym, ap, ◌∙◌, subst, append-nil}
use Rattle.std.specs.Prelude.{◌⊎◌, Bool, true, false}
use Rattle.ang_host.specs.declared.answer.HostReply.{HostReply}
use Rattle.ang_meaning.specs.World.{Input, Room, Said, Tallied, Fresh}
use Rattle.ang_meaning.specs.Told.{has_room, answers_told}
use Rattle.ang_meaning.proofs.AlikeWorlds.{three}
use Rattle.ang_meaning.proofs.Matching.{Match}
use Rattle.ang_code_laws.proofs.AlikeRuns.{LeftAlike, LeavesRest, match_then, match_same}
use Rattle.ang_alike.specs.Alike.{grants_in, Agree}

-- ---- where all was granted

AllTrue : List Bool → Type 0
AllTrue [] = Unit {0}
AllTrue (x ∷ xs) = (x ≡ true) × AllTrue xs

all_granted : (is : List Input) → has_room is ≡ true → AllTrue (grants_in is)
unfolding AllTrue
all_granted [] h = tt
all_granted (Room true ∷ is) h = (refl, all_granted is h)
all_granted (Room false ∷ is) h = absurd (let q : ⊥ = cc in q)
all_granted (Tallied true ∷ is) h = (refl, all_granted is h)
all_granted (Tallied false ∷ is) h = absurd (let q : ⊥ = cc in q)
all_granted (Said x ∷ is) h = all_granted is h
all_granted (Fresh n ∷ is) h = all_granted is h

true_agree : (xs ys : List Bool) → AllTrue xs → AllTrue ys → Agree xs ys
unfolding AllTrue
true_agree [] ys h k = tt
true_agree (x ∷ xs) [] h k = tt
true_agree (x ∷ xs) (y ∷ ys) h k = (cc, true_agree xs ys h.1 k.1)

pub granted_agree : (is js : List Input) → has_room is ≡ true → has_room js ≡ true → Agree (grants_in is) (grants_in js)
granted_agree is js h k = true_agree (grants_in is) (grants_in js) (all_granted is h) (all_granted js k)

-- ---- how far they are the same

-- the second goes on after inputs that match all of the first
record GoesPast (u v : List Input) : Type 0 where
  front : List Input
  first : Input
  rest : List Input
  parts : v ≡ front ++ (first ∷ rest)
  alike : Match ⊥ u front

-- and the first after all of the second
record GoesPastBack (u v : List Input) : Type 0 where
  front : List Input
  first : Input
  rest : List Input
  parts : u ≡ front ++ (first ∷ rest)
  alike : Match ⊥ front v

abbrev Compared : List Input → List Input → Type 0
Compared u v = Match ⊥ u v ⊎ (Match (Unit {0}) u v ⊎ (GoesPast u v ⊎ GoesPastBack u v))

longer : (i j : Input) (u v : List Input) → ((apart : Type 0) (x y : List Input) → Match apart x y → Match apart (i ∷ x) (j ∷ y)) → Compared u v → Compared (i ∷ u) (j ∷ v)
longer i j u v k (inl m) = inl (k ⊥ u v m)
longer i j u v k (inr (inl m)) = inr (inl (k (Unit {0}) u v m))
longer i j u v k (inr (inr (inl g))) = inr (inr (inl (record { front = j ∷ g.front; first = g.first; rest = g.rest; parts = ap (λ l. j ∷ l) g.parts; alike = k ⊥ u g.front g.alike })))
longer i j u v k (inr (inr (inr g))) = inr (inr (inr (record { front = i ∷ g.front; first = g.first; rest = g.rest; parts = ap (λ l. i ∷ l) g.parts; alike = k ⊥ g.front v g.alike })))

first_answer : HostReply → List HostReply → HostReply
first_answer d [] = d
first_answer d (x ∷ xs) = x

later_answers : List HostReply → List HostReply
later_answers [] = []
later_answers (x ∷ xs) = xs

compare : (u v : List Input) → Agree (grants_in u) (grants_in v) → answers_told u ≡ answers_told v → Compared u v
unfolding first_answer later_answers
compare [] [] h e = inl (λ x. x)
compare [] (j ∷ v) h e = inr (inr (inl (record { front = []; first = j; rest = v; parts = refl; alike = λ x. x })))
compare (i ∷ u) [] h e = inr (inr (inr (record { front = []; first = i; rest = u; parts = refl; alike = λ x. x })))
compare (Room x ∷ u) (Room y ∷ v) h e = longer (Room x) (Room y) u v (λ a l m t. (h.0, t)) (compare u v h.1 e)
compare (Room x ∷ u) (Said y ∷ v) h e = inr (inl tt)
compare (Room x ∷ u) (Tallied y ∷ v) h e = inr (inl tt)
compare (Room x ∷ u) (Fresh y ∷ v) h e = inr (inl tt)
compare (Said x ∷ u) (Room y ∷ v) h e = inr (inl tt)
compare (Said x ∷ u) (Said y ∷ v) h e = longer (Said x) (Said y) u v (λ a l m t. (ap (first_answer x) e, t)) (compare u v h (ap later_answers e))
compare (Said x ∷ u) (Tallied y ∷ v) h e = inr (inl tt)
compare (Said x ∷ u) (Fresh y ∷ v) h e = inr (inl tt)
compare (Tallied x ∷ u) (Room y ∷ v) h e = inr (inl tt)
compare (Tallied x ∷ u) (Said y ∷ v) h e = inr (inl tt)
compare (Tallied x ∷ u) (Tallied y ∷ v) h e = longer (Tallied x) (Tallied y) u v (λ a l m t. (h.0, t)) (compare u v h.1 e)
compare (Tallied x ∷ u) (Fresh y ∷ v) h e = inr (inl tt)
compare (Fresh x ∷ u) (Room y ∷ v) h e = inr (inl tt)
compare (Fresh x ∷ u) (Said y ∷ v) h e = inr (inl tt)
compare (Fresh x ∷ u) (Tallied y ∷ v) h e = inr (inl tt)
compare (Fresh x ∷ u) (Fresh y ∷ v) h e = longer (Fresh x) (Fresh y) u v (λ a l m t. t) (compare u v h e)

-- ---- what was told alike was told the same

match_whole : (apart : Type 0) (a b : List Input) → Match apart a b → Match apart (a ++ []) (b ++ [])
match_whole apart a b h = subst (λ l. Match apart l (b ++ [])) (sym (append-nil a)) (subst (λ l. Match apart a l) (sym (append-nil b)) h)

left_by : (apart : Type 0) (is js ks ls : List Input) → is ≡ ks → js ≡ ls → LeftAlike apart is js → LeftAlike apart ks ls
left_by apart is js ks ls e f h = subst (λ l. LeftAlike apart ks l) f (subst (λ l. LeftAlike apart l js) e h)

-- Two ways of coming to an end, as in `AlikeRuns.antt` of ang_code_laws.
module _ {A : Type 0} (left : A → List Input) (Reaches Again : List Input → A → Type 0)
    (pairs : (apart : Type 0) (is js : List Input) (a b : A) → Match apart is js → Reaches is a → Again js b → LeftAlike apart (left a) (left b))
    (used told : List Input) (run : LeavesRest left Reaches used) (back : LeavesRest left Again told) where
  leaves : (apart : Type 0) (more rest : List Input) → Match apart (used ++ more) (told ++ rest) → LeftAlike apart more rest
  leaves apart more rest m =
      let a = run more in
      let b = back rest in
      left_by apart (left a.0) (left b.0) more rest a.2 b.2 (pairs apart (used ++ more) (told ++ rest) a.0 b.0 m a.1 b.1)

  never_apart : Match (Unit {0}) used told → ⊥
  never_apart h = three (λ m. m tt) (λ l. l.1) (λ l. l.1) (leaves (Unit {0}) [] [] (match_whole (Unit {0}) used told h))

  never_past : GoesPast used told → ⊥
  never_past g =
      let more = g.first ∷ g.rest in
      three (λ m. m) (λ l. l.0) (λ l. l.0)
      (leaves ⊥ more [] (subst (λ l. Match ⊥ (used ++ more) l) (sym (append-nil told ∙ g.parts)) (match_then ⊥ used g.front more more g.alike (match_same more))))

  never_past_back : GoesPastBack used told → ⊥
  never_past_back g =
      let more = g.first ∷ g.rest in
      three (λ m. m) (λ l. l.0) (λ l. l.0)
      (leaves ⊥ [] more (subst (λ l. Match ⊥ l (told ++ more)) (sym (append-nil used ∙ g.parts)) (match_then ⊥ g.front told more more g.alike (match_same more))))

  only_whole : Compared used told → Match ⊥ used told
  only_whole (inl m) = m
  only_whole (inr (inl m)) = absurd (never_apart m)
  only_whole (inr (inr (inl g))) = absurd (never_past g)
  only_whole (inr (inr (inr g))) = absurd (never_past_back g)

  pub told_same : Agree (grants_in used) (grants_in told) → answers_told used ≡ answers_told told → Match ⊥ used told
  told_same h e = only_whole (compare used told h e)
