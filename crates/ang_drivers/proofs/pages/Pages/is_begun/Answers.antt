use Rattle.std.proofs.Common.{◌+◌, ◌-◌, ◌/◌, length, sym, subst}
use Rattle.ang_drivers.specs.Pages.{objects_in, IsRising, IsEntryAt}
use Rattle.ang_drivers.proofs.Paging.{numbers}
use Rattle.ang_drivers.proofs.pages.Pages.is_begun.Goals as goal

pub is_last-requires : goal.is_last-requires
is_last-requires g c =
    let s = c.args.self.now in
    record { rises = subst (IsRising 0 (s.next / 64 + 1)) (sym c.deref.ensures.value) (numbers objects_in 0 s.next s.pages.items s.paged) }

pub returns-clause-begun : goal.returns-clause-begun
returns-clause-begun g c t =
    let s = c.args.self.now in
    subst (λ es. IsEntryAt es (s.next / 64) (length es - 1)) c.deref.ensures.value (c.is_last.ensures.there t)

pub returns-clause-ahead : goal.returns-clause-ahead
returns-clause-ahead g c t = subst (IsRising 0 (c.args.self.now.next / 64)) c.deref.ensures.value (c.is_last.ensures.ahead t)
