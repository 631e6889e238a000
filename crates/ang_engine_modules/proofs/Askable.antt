-- The entities of a table that modules may ask.
use Rattle.std.proofs.Common.{◌≡◌, ◌<◌, ℕ, List, Some, sym, ◌∙◌}
use Rattle.ang_host.specs.declared.event.Role.{Role}
use Rattle.ang_host.specs.Events.{role_at}
use Rattle.ang_meaning.specs.declared.host.HostUse.{HostUse}
use Rattle.ang_vm_stack.specs.declared.table.Table.{Table}
use Rattle.ang_vm_stack.specs.Tables.{entity_of}
use Rattle.ang_engine_modules.specs.Modules.{Module, AreDriversThere, AgreesWith}
use Rattle.ang_engine_modules.specs.Loaded.{IsTableOf}
use Rattle.ang_engine_modules.proofs.Settings.{host_same}

module _ (t : Table) (ms : List Module) (is : IsTableOf t ms) where
  -- each is of a driver that is there
  pub drivers_there : (count : ℕ) → AreDriversThere ms count → (m e : ℕ) (u : HostUse) → entity_of t m e ≡ Some u → u.driver < count
  drivers_there count there m e u at = there m e u (sym (host_same t ms is m e) ∙ at)

  -- and has the role of the view
  pub roles_are : (roles : List Role) → AgreesWith roles ms → (m e : ℕ) (u : HostUse) → entity_of t m e ≡ Some u → role_at roles e ≡ u.role
  roles_are roles agrees m e u at = agrees.each m e u (sym (host_same t ms is m e) ∙ at)
