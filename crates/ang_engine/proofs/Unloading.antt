-- Code that is taken out again.
use Rattle.std.proofs.Common.{◌≡◌, refl, ap, sym, ◌∙◌, ℕ, zero, suc, Bool, true, false, List, [], ◌∷◌, Option, Some, None}
use Rattle.std.specs.Prelude.{◌==◌, if◌then◌else◌, option_map, slice_set}
use Rattle.ang_meaning.specs.declared.routine.Routine.{Routine}
use Rattle.ang_engine_modules.specs.declared.modules.LoadedModule.{LoadedModule}
use Rattle.ang_engine_modules.specs.Modules.{unbound_link, unbound_links}
use Rattle.ang_engine_modules.specs.Loaded.{loaded_at, without_links, unbound_in}
use Rattle.ang_engine_modules.proofs.PlaceLists.{set_set}

-- what leads nowhere is unbound once and for all
link_twice_if : (i : ℕ) (g : Routine) (b : Bool) → (g.home == i) ≡ b → unbound_link i (if b then None else Some g) ≡ (if b then None else Some g)
link_twice_if i g true e = refl
link_twice_if i g false e = ap (λ b. if b then None else Some g) e

link_twice : (i : ℕ) (o : Option Routine) → unbound_link i (unbound_link i o) ≡ unbound_link i o
link_twice i None = refl
link_twice i (Some g) = link_twice_if i g (g.home == i) refl

links_twice : (i : ℕ) (ls : List (Option Routine)) → unbound_links i (unbound_links i ls) ≡ unbound_links i ls
links_twice i [] = refl
links_twice i (l ∷ ls) = ap (λ o. o ∷ unbound_links i (unbound_links i ls)) (link_twice i l) ∙ ap (λ os. unbound_link i l ∷ os) (links_twice i ls)

place_twice : (i : ℕ) (o : Option LoadedModule) → option_map (without_links i) (option_map (without_links i) o) ≡ option_map (without_links i) o
place_twice i None = refl
place_twice i (Some l) = ap (λ ls. Some (record l { links = ls })) (links_twice i l.links)

pub unbound_twice : (i : ℕ) (ls : List (Option LoadedModule)) → unbound_in i (unbound_in i ls) ≡ unbound_in i ls
unbound_twice i [] = refl
unbound_twice i (l ∷ ls) = ap (λ o. o ∷ unbound_in i (unbound_in i ls)) (place_twice i l) ∙ ap (λ os. option_map (without_links i) l ∷ os) (unbound_twice i ls)

-- an empty place is emptied
emptied_again : (ls : List (Option LoadedModule)) (i : ℕ) → loaded_at ls i ≡ None → slice_set ls i None ≡ ls
emptied_again [] i e = refl
emptied_again (l ∷ ls) zero e = ap (λ o. o ∷ ls) (sym e)
emptied_again (l ∷ ls) (suc i) e = ap (λ os. l ∷ os) (emptied_again ls i e)

-- what is built in a place that was emptied
pub emptied_place : (m : ℕ) (ls : List (Option LoadedModule)) (i : ℕ) → loaded_at (unbound_in m (slice_set ls i None)) i ≡ None
emptied_place m [] i = refl
emptied_place m (l ∷ ls) zero = refl
emptied_place m (l ∷ ls) (suc i) = emptied_place m ls i

-- nothing was loaded into such a place
pub unloaded_same : (ls ks : List (Option LoadedModule)) (i : ℕ) → loaded_at ls i ≡ None → unbound_in i ls ≡ ls → ks ≡ ls → unbound_in i (slice_set ks i None) ≡ ls
unloaded_same ls ks i empty free same = ap (λ q. unbound_in i (slice_set q i None)) same ∙ ap (unbound_in i) (emptied_again ls i empty) ∙ free

-- a module that was loaded into an empty place to which nothing leads is unloaded: all is as before
pub unloaded_again : (ls ks : List (Option LoadedModule)) (i : ℕ) (l : LoadedModule) → loaded_at ls i ≡ None → unbound_in i ls ≡ ls → ks ≡ slice_set ls i (Some l) → unbound_in i (slice_set ks i None) ≡ ls
unloaded_again ls ks i l empty free loaded =
    ap (λ q. unbound_in i (slice_set q i None)) loaded
    ∙ ap (unbound_in i) (set_set ls i (Some l) None ∙ emptied_again ls i empty)
    ∙ free
