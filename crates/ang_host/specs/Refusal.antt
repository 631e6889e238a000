-- Why a list of drivers is not taken: too many goes first.
use Rattle.std.specs.Prelude.{◌<◌, ◌≤◌, List, length}
use Rattle.ang_host.specs.declared.drivers.DriversError.{DriversError}
use Rattle.ang_host.specs.declared.drivers.DriversError.TheVariants.{TooMany, Busy}
use Rattle.ang_host.specs.State.{State}
use Rattle.ang_host.specs.Members.{IsBusy}

abbrev pub IsRefusal : DriversError → List State → Type 0
IsRefusal TooMany ss = 64 < length ss
IsRefusal Busy ss = (length ss ≤ 64) × IsBusy ss
