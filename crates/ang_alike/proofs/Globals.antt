-- A module's globals end, and others begin, in two worlds that are alike.
use Rattle.std.proofs.Common.{◌≡◌, ◌+◌, ℕ, zero, suc, List, [], ◌∷◌, ◌++◌, refl, sym, ap, ◌∙◌, subst, arith, map}
use Rattle.std.specs.Prelude.{slice_set, slice_index_or}
use Rattle.std.proofs.lemmas.List.{map-append}
use Rattle.ang_typed.specs.Typed as t
use Rattle.ang_meaning.specs.declared.slot.Slot.{Slot}
use Rattle.ang_meaning.specs.World.{World as RunWorld}
use Rattle.ang_meaning.specs.Results.{give_back}
use Rattle.ang_meaning.specs.Environment.{default_of}
use Rattle.ang_meaning.specs.Counting.{Thing, how_many, in_lists, IsCounted}
use Rattle.ang_meaning.specs.Alike.{Renaming, renamed_all, renamed_lists}
use Rattle.ang_meaning.proofs.Counting.{many_append, give_globals}
use Rattle.ang_meaning.proofs.Counted.{defaults_many}
use Rattle.ang_meaning.proofs.AlikeWorlds.{HasMore, lists_index, lists_set}
use Rattle.ang_meaning.proofs.AlikeOperations.{defaults_renamed}
use Rattle.ang_meaning.proofs.Moving.{give_all_moves}
use Rattle.ang_meaning.proofs.Matching.{AlikeUpTo}
use Rattle.ang_code_laws.proofs.Counting.{give_back_with}
use Rattle.ang_code_laws.proofs.AlikeSteps.{back_alike}
use Rattle.ang_source.specs.Meaning.{kind_of, default_in}
use Rattle.ang_alike.proofs.Renamed.{more_gave}
use Rattle.ang_engine_modules.specs.Executed.{first_globals}
use Rattle.ang_engine_modules.specs.World.{Program, globals_ended}
use Rattle.ang_engine.specs.Step.{globals_begun}

lists_emptied : (x : Thing) (ls : List (List Slot)) (m : ℕ) → in_lists x (slice_set ls m []) + how_many x (slice_index_or ls m []) ≡ in_lists x ls
lists_emptied x [] m = refl
lists_emptied x (l ∷ ls) zero = omega arith
lists_emptied x (l ∷ ls) (suc m) = omega (arith, lists_emptied x ls m)

-- another list of as many places
lists_laid : (x : Thing) (ls : List (List Slot)) (m : ℕ) (l : List Slot) → how_many x l ≡ 0 → in_lists x (slice_set ls m l) + how_many x (slice_index_or ls m []) ≡ in_lists x ls
lists_laid x [] m l h = refl
lists_laid x (k ∷ ls) zero l h = omega (arith, h)
lists_laid x (k ∷ ls) (suc m) l h = omega (arith, lists_laid x ls m l h)

emptied_at : (ls : List (List Slot)) (m : ℕ) → slice_index_or (slice_set ls m []) m [] ≡ []
emptied_at [] m = refl
emptied_at (l ∷ ls) zero = refl
emptied_at (l ∷ ls) (suc m) = emptied_at ls m

abbrev pub with_globals : ℕ → List Slot → RunWorld → RunWorld
with_globals m l w = record w { globals = slice_set w.globals m l }

pub back_globals : (vs : List Slot) (w : RunWorld) → (give_back vs w).globals ≡ w.globals
back_globals [] w = refl
back_globals (v ∷ vs) w = give_globals v (give_back vs w) ∙ back_globals vs w

more_back : (vs : List Slot) (w : RunWorld) → HasMore w → HasMore (give_back vs w)
more_back [] w h = h
more_back (v ∷ vs) w h = more_gave v (give_back vs w) (more_back vs w h)

-- ---- globals that end

pub ended_counted : (m : ℕ) (w : RunWorld) → IsCounted [] w → IsCounted [] (globals_ended m w)
ended_counted m w p =
    let vs = slice_index_or w.globals m [] in
    give_back_with vs [] (with_globals m [] w) (record {
      counts = record { counts = λ x. omega (arith, p.counts.counts x, lists_emptied x w.globals m, many_append x vs []) };
      ordered = p.ordered;
    })

pub ended_none : (m : ℕ) (w : RunWorld) → slice_index_or (globals_ended m w).globals m [] ≡ []
ended_none m w = ap (λ ls. slice_index_or ls m []) (back_globals (slice_index_or w.globals m []) (with_globals m [] w)) ∙ emptied_at w.globals m

pub ended_more : (m : ℕ) (w : RunWorld) → HasMore w → HasMore (globals_ended m w)
ended_more m w h = more_back (slice_index_or w.globals m []) (with_globals m [] w) (record { first = h.first; rest = h.rest; inputs = h.inputs })

-- what they were told stays
back_inputs : (vs : List Slot) (w : RunWorld) → (give_back vs w).inputs ≡ w.inputs
back_inputs [] w = refl
back_inputs (v ∷ vs) w = sym (give_all_moves (v ∷ []) (give_back vs w)).inputs ∙ back_inputs vs w

pub ended_inputs : (m : ℕ) (w : RunWorld) → (globals_ended m w).inputs ≡ w.inputs
ended_inputs m w = back_inputs (slice_index_or w.globals m []) (with_globals m [] w)

module _ (apart : Type 0) (r : Renaming) where
  laid_alike : (m : ℕ) (l k : List Slot) (v w : RunWorld) → k ≡ renamed_all r l → AlikeUpTo apart r v w → AlikeUpTo apart r (with_globals m l v) (with_globals m k w)
  laid_alike m l k v w e h = record {
    objects = h.objects;
    hosts = h.hosts;
    globals = ap (λ ls. slice_set ls m k) h.globals ∙ ap (λ q. slice_set (renamed_lists r v.globals) m q) e ∙ lists_set apart r v.globals m l;
    events = h.events;
    reserved = h.reserved;
    spent = h.spent;
    bounds = h.bounds;
    inputs = h.inputs;
  }

  pub ended_alike : (m : ℕ) (v w : RunWorld) → AlikeUpTo apart r v w → AlikeUpTo apart r (globals_ended m v) (globals_ended m w)
  ended_alike m v w h =
      subst (λ l. AlikeUpTo apart r (globals_ended m v) (give_back l (with_globals m [] w))) (sym (ap (λ ls. slice_index_or ls m []) h.globals ∙ lists_index apart r v.globals m))
      (back_alike apart r (slice_index_or v.globals m []) (with_globals m [] v) (with_globals m [] w) (laid_alike m [] [] v w refl h))

  -- ---- globals that begin

  pub begun_alike : (m : ℕ) (p : Program) (v w : RunWorld) → first_globals p.tree ≡ renamed_all r (first_globals p.tree) → AlikeUpTo apart r v w → AlikeUpTo apart r (globals_begun m p v) (globals_begun m p w)
  begun_alike m p v w e h = laid_alike m (first_globals p.tree) (first_globals p.tree) v w e h

defaults_are : (gs : List t.Global) → map (λ (g : t.Global). default_in g.ty) gs ≡ map default_of (map (λ (g : t.Global). kind_of g.ty) gs)
defaults_are [] = refl
defaults_are (g ∷ gs) = ap (λ l. default_in g.ty ∷ l) (defaults_are gs)

pub first_plain : (r : Renaming) (p : Program) → first_globals p.tree ≡ renamed_all r (first_globals p.tree)
first_plain r p =
    let ks = map (λ (g : t.Global). kind_of g.ty) p.tree.globals in
    defaults_are p.tree.globals ∙ sym (defaults_renamed r ks) ∙ ap (renamed_all r) (sym (defaults_are p.tree.globals))

pub begun_counted : (m : ℕ) (p : Program) (w : RunWorld) → slice_index_or w.globals m [] ≡ [] → IsCounted [] w → IsCounted [] (globals_begun m p w)
begun_counted m p w none c = record {
  counts = record {
    counts = λ x.
        let zero_many : how_many x (first_globals p.tree) ≡ 0 = ap (how_many x) (defaults_are p.tree.globals) ∙ defaults_many x (map (λ (g : t.Global). kind_of g.ty) p.tree.globals) in
        omega (arith, c.counts.counts x, lists_laid x w.globals m (first_globals p.tree) zero_many, ap (how_many x) none);
  };
  ordered = c.ordered;
}

-- ---- a place more

pub more_lists : (x : Thing) (ls : List (List Slot)) → in_lists x (ls ++ [] ∷ []) ≡ in_lists x ls
more_lists x [] = refl
more_lists x (l ∷ ls) = ap (λ n. how_many x l + n) (more_lists x ls)

pub place_counted : (w : RunWorld) → IsCounted [] w → IsCounted [] (record w { globals = w.globals ++ [] ∷ [] })
place_counted w p = record { counts = record { counts = λ x. omega (arith, p.counts.counts x, more_lists x w.globals) }; ordered = p.ordered }

pub place_alike : (apart : Type 0) (r : Renaming) (v w : RunWorld) → AlikeUpTo apart r v w → AlikeUpTo apart r (record v { globals = v.globals ++ [] ∷ [] }) (record w { globals = w.globals ++ [] ∷ [] })
place_alike apart r v w h = record {
  objects = h.objects;
  hosts = h.hosts;
  globals = ap (λ ls. ls ++ [] ∷ []) h.globals ∙ sym (map-append (renamed_all r) v.globals ([] ∷ []));
  events = h.events;
  reserved = h.reserved;
  spent = h.spent;
  bounds = h.bounds;
  inputs = h.inputs;
}
