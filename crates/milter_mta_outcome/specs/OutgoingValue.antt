-- What is sent of a message, as it is borrowed.
use Rattle.milter_mta_outcome.specs.declared.plan_cursor.OutgoingRef.{OutgoingRef}
use Rattle.milter_mta_outcome.specs.PlanCursor.{Outgoing}

abbrev pub outgoing : OutgoingRef → Outgoing
outgoing o =
    record {
      negotiated = o.negotiated.now;
      macros = o.macros.now;
      client = o.client.now;
      helo = o.helo.now;
      message = o.message.now;
    }
