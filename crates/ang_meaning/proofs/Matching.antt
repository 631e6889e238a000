-- Inputs that are the same but for the numbers of new objects, and worlds that are alike, up to two inputs of different sorts: so it is proved that runs which
-- were granted all that they asked for were told inputs of the same sorts.
use Rattle.std.proofs.Common.{◌≡◌, List, [], ◌∷◌, refl, ap, ap₂}
use Rattle.std.specs.Prelude.{Bool}
use Rattle.ang_host.specs.declared.answer.HostReply.{HostReply}
use Rattle.ang_meaning.specs.World.{World, Input, Room, Said, Tallied, Fresh}
use Rattle.ang_meaning.specs.Alike.{Renaming, renamed_lists, Tables, SameButNumbers, Alike}

-- Inputs that are the same but for the numbers of new objects. Where some may be apart, they are the same up to two of different sorts, and any after these.
abbrev pub Match : Type 0 → List Input → List Input → Type 0
Match apart [] [] = apart → ⊥
Match apart [] (j ∷ js) = ⊥
Match apart (i ∷ is) [] = ⊥
Match apart (Room a ∷ is) (Room b ∷ js) = (a ≡ b) × Match apart is js
Match apart (Room a ∷ is) (Said q ∷ js) = apart
Match apart (Room a ∷ is) (Tallied b ∷ js) = apart
Match apart (Room a ∷ is) (Fresh m ∷ js) = apart
Match apart (Said q ∷ is) (Room b ∷ js) = apart
Match apart (Said q ∷ is) (Said p ∷ js) = (q ≡ p) × Match apart is js
Match apart (Said q ∷ is) (Tallied b ∷ js) = apart
Match apart (Said q ∷ is) (Fresh m ∷ js) = apart
Match apart (Tallied a ∷ is) (Room b ∷ js) = apart
Match apart (Tallied a ∷ is) (Said q ∷ js) = apart
Match apart (Tallied a ∷ is) (Tallied b ∷ js) = (a ≡ b) × Match apart is js
Match apart (Tallied a ∷ is) (Fresh m ∷ js) = apart
Match apart (Fresh n ∷ is) (Room b ∷ js) = apart
Match apart (Fresh n ∷ is) (Said q ∷ js) = apart
Match apart (Fresh n ∷ is) (Tallied b ∷ js) = apart
Match apart (Fresh n ∷ is) (Fresh m ∷ js) = Match apart is js

-- the second world is the first one renamed, told inputs that match so
pub record AlikeUpTo (apart : Type 0) (r : Renaming) (v w : World) : Type 0 where
  pub objects : Tables r v.objects w.objects
  pub hosts : w.hosts ≡ v.hosts
  pub globals : w.globals ≡ renamed_lists r v.globals
  pub events : w.events ≡ v.events
  pub reserved : w.reserved ≡ v.reserved
  pub spent : w.spent ≡ v.spent
  pub bounds : w.bounds ≡ v.bounds
  pub inputs : Match apart v.inputs w.inputs

-- ---- where none may be apart

rest_same : (i j : Input) (is js : List Input) → i ∷ is ≡ j ∷ js → is ≡ js
rest_same i j is js e = cc

room_same : (x y : Bool) (is js : List Input) → Room x ∷ is ≡ Room y ∷ js → x ≡ y
room_same x y is js e = cc

said_same : (x y : HostReply) (is js : List Input) → Said x ∷ is ≡ Said y ∷ js → x ≡ y
said_same x y is js e = cc

tallied_same : (x y : Bool) (is js : List Input) → Tallied x ∷ is ≡ Tallied y ∷ js → x ≡ y
tallied_same x y is js e = cc

pub match_of : (is js : List Input) → SameButNumbers is js → Match ⊥ is js
match_of [] [] e = λ b. b
match_of [] (j ∷ js) e = absurd (let x : ⊥ = cc in x)
match_of (i ∷ is) [] e = absurd (let x : ⊥ = cc in x)
match_of (Room x ∷ is) (Room y ∷ js) e = (room_same x y _ _ e, match_of is js (rest_same (Room x) (Room y) _ _ e))
match_of (Room x ∷ is) (Said y ∷ js) e = absurd (let x : ⊥ = cc in x)
match_of (Room x ∷ is) (Tallied y ∷ js) e = absurd (let x : ⊥ = cc in x)
match_of (Room x ∷ is) (Fresh y ∷ js) e = absurd (let x : ⊥ = cc in x)
match_of (Said x ∷ is) (Room y ∷ js) e = absurd (let x : ⊥ = cc in x)
match_of (Said x ∷ is) (Said y ∷ js) e = (said_same x y _ _ e, match_of is js (rest_same (Said x) (Said y) _ _ e))
match_of (Said x ∷ is) (Tallied y ∷ js) e = absurd (let x : ⊥ = cc in x)
match_of (Said x ∷ is) (Fresh y ∷ js) e = absurd (let x : ⊥ = cc in x)
match_of (Tallied x ∷ is) (Room y ∷ js) e = absurd (let x : ⊥ = cc in x)
match_of (Tallied x ∷ is) (Said y ∷ js) e = absurd (let x : ⊥ = cc in x)
match_of (Tallied x ∷ is) (Tallied y ∷ js) e = (tallied_same x y _ _ e, match_of is js (rest_same (Tallied x) (Tallied y) _ _ e))
match_of (Tallied x ∷ is) (Fresh y ∷ js) e = absurd (let x : ⊥ = cc in x)
match_of (Fresh x ∷ is) (Room y ∷ js) e = absurd (let x : ⊥ = cc in x)
match_of (Fresh x ∷ is) (Said y ∷ js) e = absurd (let x : ⊥ = cc in x)
match_of (Fresh x ∷ is) (Tallied y ∷ js) e = absurd (let x : ⊥ = cc in x)
match_of (Fresh x ∷ is) (Fresh y ∷ js) e = match_of is js (rest_same (Fresh 0) (Fresh 0) _ _ e)

pub same_of : (is js : List Input) → Match ⊥ is js → SameButNumbers is js
same_of [] [] h = refl
same_of [] (j ∷ js) h = absurd h
same_of (i ∷ is) [] h = absurd h
same_of (Room x ∷ is) (Room y ∷ js) h = ap₂ (λ k l. Room k ∷ l) h.0 (same_of is js h.1)
same_of (Room x ∷ is) (Said y ∷ js) h = absurd h
same_of (Room x ∷ is) (Tallied y ∷ js) h = absurd h
same_of (Room x ∷ is) (Fresh y ∷ js) h = absurd h
same_of (Said x ∷ is) (Room y ∷ js) h = absurd h
same_of (Said x ∷ is) (Said y ∷ js) h = ap₂ (λ k l. Said k ∷ l) h.0 (same_of is js h.1)
same_of (Said x ∷ is) (Tallied y ∷ js) h = absurd h
same_of (Said x ∷ is) (Fresh y ∷ js) h = absurd h
same_of (Tallied x ∷ is) (Room y ∷ js) h = absurd h
same_of (Tallied x ∷ is) (Said y ∷ js) h = absurd h
same_of (Tallied x ∷ is) (Tallied y ∷ js) h = ap₂ (λ k l. Tallied k ∷ l) h.0 (same_of is js h.1)
same_of (Tallied x ∷ is) (Fresh y ∷ js) h = absurd h
same_of (Fresh x ∷ is) (Room y ∷ js) h = absurd h
same_of (Fresh x ∷ is) (Said y ∷ js) h = absurd h
same_of (Fresh x ∷ is) (Tallied y ∷ js) h = absurd h
same_of (Fresh x ∷ is) (Fresh y ∷ js) h = ap (λ l. Fresh 0 ∷ l) (same_of is js h)

pub alike_of : (r : Renaming) (v w : World) → Alike r v w → AlikeUpTo ⊥ r v w
alike_of r v w h = record { objects = h.objects; hosts = h.hosts; globals = h.globals; events = h.events; reserved = h.reserved; spent = h.spent; bounds = h.bounds; inputs = match_of v.inputs w.inputs h.inputs }

pub alike_by : (r : Renaming) (v w : World) → AlikeUpTo ⊥ r v w → Alike r v w
alike_by r v w h = record { objects = h.objects; hosts = h.hosts; globals = h.globals; events = h.events; reserved = h.reserved; spent = h.spent; bounds = h.bounds; inputs = same_of v.inputs w.inputs h.inputs }
