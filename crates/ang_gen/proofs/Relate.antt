-- What it means that code does what a tree does.
use Rattle.std.proofs.Common.{◌≡◌, ℕ, ◌-◌, ◌≤◌, List, ◌∷◌, ◌++◌, length}
use Rattle.std.specs.Prelude.{Bool, IsTrue}
use Rattle.ang_meaning.specs.declared.slot.Slot.{Slot}
use Rattle.ang_meaning.specs.declared.routine.Routine.{Routine}
use Rattle.ang_meaning.specs.declared.routine.Passing.{Passing}
use Rattle.ang_meaning.specs.World.{World}
use Rattle.ang_meaning.specs.Environment.{Environment}
use Rattle.ang_meaning.specs.Results.{Evaluated, Gave, Failed, Gathered, Ready, Broke, Ran, Went, Returned, Halted, Broken, Continued, Reply, Yields, Raises, drop_some, give_some, outs_of, give_others}
use Rattle.ang_code.specs.declared.instruction.Frame.{Frame}
use Rattle.ang_code.specs.Machine.{Texts, Config, At, fault, back}
use Rattle.ang_code.proofs.Steps.{Comes}

-- a body's running: its routine, the callers, how high the stack may stand, and the stack below its frame
pub record Running : Type 0 where
  pub of : Routine
  pub callers : List Frame
  pub room : ℕ
  pub below : List Slot

-- the running body at a place, with its frame's values
abbrev pub at : Running → ℕ → List Slot → ℕ → World → Config
at r pc s t w = At r.of pc r.room s r.callers t w

-- an expression's code: its value on the stack above what was there, or everything given up
abbrev pub EvalGoes : Environment → Texts → Running → Config → ℕ → List Slot → ℕ → ℕ → Evaluated → Type 0
EvalGoes z code r start pc' s n t (Gave v ls t' w) = Comes z code start (at r pc' (v ∷ (s ++ (ls ++ r.below))) t' w) × (length ls ≡ n) × (t' ≤ t)
EvalGoes z code r start pc' s n t (Failed x ls w) = Comes z code start (fault x (s ++ (ls ++ r.below)) w)

-- the code of arguments: their values on top; m of them and those that were there before
abbrev pub ArgsGo : Environment → Texts → Running → Config → ℕ → List Slot → ℕ → ℕ → ℕ → Gathered → Type 0
ArgsGo z code r start pc' s n m t (Ready vs ls t' w) = Comes z code start (at r pc' ((vs ++ s) ++ (ls ++ r.below)) t' w) × (length ls ≡ n) × (length vs ≡ m) × (t' ≤ t)
ArgsGo z code r start pc' s n m t (Broke x ls w) = Comes z code start (fault x (s ++ (ls ++ r.below)) w)

-- a body, from its first instruction: the value and k `&out` values go to the caller, with the arguments gone
abbrev pub ReplyGoes : Environment → Texts → Config → List Frame → List Slot → ℕ → ℕ → Reply → Type 0
ReplyGoes z code start fr s k t (Yields v outs t' w) = Comes z code start (back fr v outs s t' w) × (t' ≤ t) × (length outs ≡ k)
ReplyGoes z code start fr s k t (Raises x w) = Comes z code start (fault x s w)

-- the loop round a statement, if any: the locals alive at it, the place after it, and the place of its next step
pub record Exits : Type 0 where
  pub loop : Bool
  pub alive : ℕ
  pub out : ℕ
  pub again : ℕ

-- a body's end with a value, where its locals and parameters are ls
abbrev pub returning : Running → List Passing → Slot → List Slot → ℕ → World → Config
returning r ps v ls t w =
    back r.callers v (outs_of ps (drop_some (length ls - length ps) ls)) r.below t
    (give_others ps (drop_some (length ls - length ps) ls) (give_some (length ls - length ps) ls w))

-- a statement's code in a body with the parameters ps, where n0 locals were alive before it, and n are after it
abbrev pub RunGoes : Environment → Texts → Running → List Passing → Config → ℕ → Exits → ℕ → ℕ → ℕ → Ran → Type 0
RunGoes z code r ps start pc' x n0 n t (Went ls t' w) = Comes z code start (at r pc' (ls ++ r.below) t' w) × (length ls ≡ n) × (t' ≤ t)
RunGoes z code r ps start pc' x n0 n t (Returned v ls t' w) = Comes z code start (returning r ps v ls t' w) × (t' ≤ t) × (n0 ≤ length ls)
RunGoes z code r ps start pc' x n0 n t (Halted y ls w) = Comes z code start (fault y (ls ++ r.below) w)
RunGoes z code r ps start pc' x n0 n t (Broken ls t' w) =
    Comes z code start (at r x.out (drop_some (length ls - x.alive) ls ++ r.below) t' (give_some (length ls - x.alive) ls w)) × (t' ≤ t) × (n0 ≤ length ls) × IsTrue x.loop
RunGoes z code r ps start pc' x n0 n t (Continued ls t' w) =
    Comes z code start (at r x.again (drop_some (length ls - x.alive) ls ++ r.below) t' (give_some (length ls - x.alive) ls w)) × (t' ≤ t) × (n0 ≤ length ls) × IsTrue x.loop
