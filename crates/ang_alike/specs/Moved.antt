-- The same modules under other numbers: these name the modules in a setting, and their globals in
-- the world of a run (docs/CLAIMS.md, "The world of a run").
use Rattle.std.specs.Prelude.{ℕ, ◌≡◌, List, [], map, option_map, slice_index_or}
use Rattle.ang_meaning.specs.declared.slot.Slot.{Slot}
use Rattle.ang_meaning.specs.declared.routine.Routine.{Routine}
use Rattle.ang_meaning.specs.World.{World}
use Rattle.ang_meaning.specs.Environment.{Environment}
use Rattle.ang_meaning.specs.Results.{Reply, Yields, Raises}
use Rattle.ang_source.specs.Meaning.{Codes, called_with, initialized_all}

-- a new number for each module, and back
pub record Moving : Type 0 where
  pub to : ℕ → ℕ
  pub back : ℕ → ℕ
  pub there : (m : ℕ) → back (to m) ≡ m
  pub here : (m : ℕ) → to (back m) ≡ m

-- ---- what runs see of numbers

abbrev pub moved_routine : Moving → Routine → Routine
moved_routine p g = record g { home = p.to g.home }

-- Each module has under its new number what it had under the old one.
abbrev pub moved_setting : Moving → Environment → Environment
moved_setting p z = record {
  name = λ m. z.name (p.back m);
  host = λ m e. z.host (p.back m) e;
  imported = λ m i. z.imported (p.back m) i;
  linked = λ m i. option_map (moved_routine p) (z.linked (p.back m) i);
  class = λ m c. z.class (p.back m) c;
  method = λ m c s. option_map (moved_routine p) (z.method (p.back m) c s);
  slot = λ m s. z.slot (p.back m) s;
  params = λ g. z.params (record g { home = p.back g.home });
  nesting = z.nesting;
}

-- each module's globals stand under its new number
pub record AreMovedLists (p : Moving) (gs hs : List (List Slot)) : Type 0 where
  pub each : (m : ℕ) → slice_index_or hs (p.to m) [] ≡ slice_index_or gs m []

-- the same world with these lists of globals
abbrev pub with_lists : List (List Slot) → World → World
with_lists hs w = record w { globals = hs }

-- ---- what runs come to

abbrev pub reply_with : List (List Slot) → Reply → Reply
reply_with hs (Yields v outs t w) = Yields v outs t (with_lists hs w)
reply_with hs (Raises f w) = Raises f (with_lists hs w)

abbrev pub reply_lists : Reply → List (List Slot)
reply_lists (Yields v outs t w) = w.globals
reply_lists (Raises f w) = w.globals

-- The second reply is the first one, but that the lists of globals in its world are moved.
pub record RepliesMoved (p : Moving) (o o' : Reply) : Type 0 where
  pub lists : List (List Slot)
  pub same : o' ≡ reply_with lists o
  pub moved : AreMovedLists p (reply_lists o) lists

-- ---- the laws

-- A call under other numbers gives the same value or fault, the same events and the same world, but
-- that each module's globals stand under its new number.
abbrev pub NumbersDoNotShowInCalls : Type 0
NumbersDoNotShowInCalls = (p : Moving) (z : Environment) (codes other : Codes)
    → ((g : Routine) → other (moved_routine p g) ≡ codes g)
    → (budget : ℕ) (g : Routine) (vs : List Slot) (w : World) (lists : List (List Slot))
    → AreMovedLists p w.globals lists
    → RepliesMoved p (called_with z codes budget g vs w)
    (called_with (moved_setting p z) other budget (moved_routine p g) vs (with_lists lists w))

-- The same of initializers in turn.
abbrev pub NumbersDoNotShowInInitializers : Type 0
NumbersDoNotShowInInitializers = (p : Moving) (z : Environment) (codes other : Codes)
    → ((g : Routine) → other (moved_routine p g) ≡ codes g)
    → (gs : List Routine) (ticks : ℕ) (w : World) (lists : List (List Slot))
    → AreMovedLists p w.globals lists
    → RepliesMoved p (initialized_all z codes gs ticks w)
    (initialized_all (moved_setting p z) other (map (moved_routine p) gs) ticks
    (with_lists lists w))
