-- The packets of a connection, printed as their bytes come.
use Rattle.std.specs.Prelude.{ℕ, List, [], ◌++◌, Option, None}
use Rattle.milter_fields.specs.Stream.{divide}
use Rattle.milter_trace.specs.declared.direction.Direction.{Direction}
use Rattle.milter_trace.specs.declared.fault.TraceFault.{TraceFault}
use Rattle.milter_trace.specs.PacketText.{plain_form}
use Rattle.milter_trace.specs.Trace.{Trace}
use Rattle.milter_trace.specs.TraceState.{TraceState, division_trace, initial_state, unread_in, with_unread}

-- the packets that aren't whole, the lines, and why nothing more is printed
pub record PrintedPackets : Type 0 where
  pub state : TraceState
  pub text : List ℕ
  pub fault : Option TraceFault

-- before any bytes, in lines with nothing beside what they always have
abbrev pub fresh_packets : PrintedPackets
fresh_packets = record { state = initial_state plain_form; text = []; fault = None }

-- the trace of the packets that become whole with these bytes
abbrev pub bytes_trace : Direction → List ℕ → PrintedPackets → Trace
bytes_trace direction bytes p = division_trace p.state.form 0 direction (divide (unread_in direction p.state ++ bytes))

-- with the lines of these packets
abbrev pub printed : Direction → List ℕ → PrintedPackets → PrintedPackets
printed direction bytes p =
    record {
      state = with_unread p.state direction (divide (unread_in direction p.state ++ bytes)).rest;
      text = p.text ++ (bytes_trace direction bytes p).text;
      fault = None;
    }
