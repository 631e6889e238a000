-- Imports of code that are unbound.
use Rattle.std.proofs.Common.{◌≡◌, ℕ, List, [], ◌∷◌, refl, ap, map}
use Rattle.ang_vm_stack.specs.declared.table.LinkedImport.{LinkedImport}
use Rattle.ang_engine_modules.specs.Modules.{unbound_link, unbound_links}

abbrev pub unbound_import : ℕ → LinkedImport → LinkedImport
unbound_import home y = record y { bound = unbound_link home y.bound }

pub bounds_unbound : (home : ℕ) (ys : List LinkedImport) → map (λ (y : LinkedImport). y.bound) (map (unbound_import home) ys) ≡ unbound_links home (map (λ (y : LinkedImport). y.bound) ys)
bounds_unbound home [] = refl
bounds_unbound home (y ∷ ys) = ap (λ l. unbound_link home y.bound ∷ l) (bounds_unbound home ys)

pub params_unbound : (home : ℕ) (ys : List LinkedImport) → map (λ (y : LinkedImport). y.params.items) (map (unbound_import home) ys) ≡ map (λ (y : LinkedImport). y.params.items) ys
params_unbound home [] = refl
params_unbound home (y ∷ ys) = ap (λ l. y.params.items ∷ l) (params_unbound home ys)
