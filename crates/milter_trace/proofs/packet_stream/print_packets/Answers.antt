use Rattle.std.proofs.Common.{◌≢◌, ◌++◌, sym}
use Rattle.std.proofs.lemmas.Bool.{eqb-true}
use Rattle.std.proofs.lemmas.List.{take_rest}
use Rattle.milter_fields.specs.declared.fault.WireFault.TheVariants.{NoMemory}
use Rattle.milter_fields.specs.Splitter.{frame_of}
use Rattle.milter_fields.specs.Stream.{divide}
use Rattle.milter_trace.specs.PacketText.{packet_text_in}
use Rattle.milter_trace.specs.TraceState.{division_trace}
use Rattle.milter_trace.proofs.PacketLaws.{PrintProgress-end, PrintProgress-fault, PrintProgress-handed, PrintProgress-fault_trace, AppendsTrace-whole, AppendsText-fault}
use Rattle.milter_trace.proofs.packet_stream.print_packets.Goals as goal

pub returns-in-Err-put_packet_as-clause-appends : goal.returns-in-Err-put_packet_as-clause-appends
returns-in-Err-put_packet_as-clause-appends c =
    let handed = rw c.in-Ok-Some.field-0-is at c.in-Ok-Some.ensures.packet in
    let whole = c.args.splitter.now ++ c.args.bytes.now in
    rw c.packet_fault.ensures (AppendsTrace-whole c.args.line c.args.direction c.args.text.now.items c.put_packet_as.new.text.items c.in-Err-put_packet_as.fault (division_trace c.args.form c.args.line c.args.direction (divide whole)) (λ (other : c.in-Err-put_packet_as.fault ≢ NoMemory).
    let shown = AppendsText-fault (packet_text_in c.args.form c.args.direction (frame_of c.in-Ok-Some.packet)) c.loop-rest.text.items c.put_packet_as.new.text.items c.in-Err-put_packet_as.fault c.in-Err-put_packet_as.ensures other in
    rw shown.1 (PrintProgress-fault_trace c.args.form c.args.line c.args.direction _ _ _ c.loop-rest.splitter c.loop-rest.rest.now _ c.in_ok-taken.taken (frame_of c.in-Ok-Some.packet) c.in-Err-put_packet_as.fault
    c.loop-rest.invariant.printing c.in_ok-taken.ensures.taken handed.1 handed.0 shown.0)))

pub loop-rest-preserved : goal.loop-rest-preserved
loop-rest-preserved c =
    let handed = rw c.in-Ok-Some.field-0-is at c.in-Ok-Some.ensures.packet in
    let shown = c.in_default.ensures in
    let left = rw (c.in-Ok-Some.is, c.in-Ok-Some.field-0-is) at c.next.follows.holds-at-none in
    record {
      printing = rw (take_rest, left, shown.2) (PrintProgress-handed c.args.form c.args.line c.args.direction _ _ _ c.loop-rest.splitter c.loop-rest.rest.now _ shown.0 c.in_ok-taken.taken (frame_of c.in-Ok-Some.packet)
          c.loop-rest.invariant.printing c.in_ok-taken.ensures.taken handed.1 handed.0 shown.1);
      unfinished = rw left tt;
    }

pub returns-in-Err-clause-appends : goal.returns-in-Err-clause-appends
returns-in-Err-clause-appends c =
    let whole = c.args.splitter.now ++ c.args.bytes.now in
    rw c.packet_fault-in-Err.ensures (AppendsTrace-whole c.args.line c.args.direction c.args.text.now.items c.loop-rest.text.items c.in-Err.fault (division_trace c.args.form c.args.line c.args.direction (divide whole)) (λ (other : c.in-Err.fault ≢ NoMemory).
    PrintProgress-fault c.args.form c.args.line c.args.direction _ _ _ c.loop-rest.splitter c.loop-rest.rest.now _ c.in_ok-taken.taken c.in-Err.fault
    c.loop-rest.invariant.printing c.in_ok-taken.ensures.taken ((c.next.ensures.fault c.in-Err.fault).0 c.in-Err.is)))

pub returns-clause-appends : goal.returns-clause-appends
returns-clause-appends c =
    (PrintProgress-end c.args.form c.args.line c.args.direction _ _ _ c.loop-rest.splitter c.loop-rest.rest.now c.loop-rest.invariant.printing (eqb-true _ _ (sym c.loop-rest-test.ensures)) c.loop-rest.invariant.unfinished).0

pub returns-clause-rest : goal.returns-clause-rest
returns-clause-rest c =
    (PrintProgress-end c.args.form c.args.line c.args.direction _ _ _ c.loop-rest.splitter c.loop-rest.rest.now c.loop-rest.invariant.printing (eqb-true _ _ (sym c.loop-rest-test.ensures)) c.loop-rest.invariant.unfinished).1
