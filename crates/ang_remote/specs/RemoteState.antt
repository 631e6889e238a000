-- The state of a driver whose host is behind a reader and a writer.
use Rattle.std.specs.Prelude.{ℕ, List, Option}
use Rattle.ang_host.specs.State.{State}
use Rattle.ang_remote.specs.declared.remote.Remote.{Remote}
use Rattle.ang_remote.specs.KeysLedger.{ledger}
use Rattle.ang_remote.specs.Wires.{Wire, core_of}

-- its number, the functions that it is posted, its live keys, and what its streams say of themselves
abbrev pub wire_of : {R W : Type 0} → (R → Option (List ℕ)) → (W → Option (List ℕ)) → Remote R W → Wire
wire_of remaining contents r = record {
  number = r.number;
  posted = r.posted.items;
  live = (ledger r.keys).live;
  written = contents r.writer;
  unread = remaining r.reader;
}

abbrev pub state_of : {R W : Type 0} → (R → Option (List ℕ)) → (W → Option (List ℕ)) → Remote R W → State
state_of remaining contents r = record {
  counts = (ledger r.keys).counts;
  core = core_of (wire_of remaining contents r);
  tally = (ledger r.keys).tally;
}
