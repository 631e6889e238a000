-- An event as it is lent for reading, and as it is listed.
use Rattle.ang_host.specs.declared.event.HostEvent.{HostEvent}
use Rattle.ang_host.specs.declared.event.HostEvent.TheVariants.{Called, Ended}
use Rattle.ang_host.specs.declared.event_ref.EventRef.{EventRef}
use Rattle.ang_host.specs.declared.event_ref.EventRef.TheVariants.{Called as CalledRef, Ended as EndedRef}

-- the event that is lent, as it is listed
abbrev pub event_of : EventRef → HostEvent
event_of (CalledRef caller entity driver object args reply) = Called caller.now entity driver object args.now reply
event_of (EndedRef driver key) = Ended driver key
