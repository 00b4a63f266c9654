use Rattle.std.proofs.Common.{sym, subst, ap, Ok, refl, ◌∙◌}
use Rattle.milter_fields.specs.Splitter.{frame_of}
use Rattle.milter_fields.specs.Stream.{IsUnfinished, length_fault}
use Rattle.milter_fields.proofs.FirstOfPiece.{first-bytes, first-no_rest, first-within, rest-fault, rest-unfinished}
use Rattle.milter_fields.proofs.splitter.Packet.first_of.Goals as goal

pub returns-in-Ok-Some : goal.returns-in-Ok-Some
returns-in-Ok-Some c =
    let piece = c.args.piece.now in
    let f = frame_of (record { code = c.in-Ok-Some.code; payload = c.in-Ok-Some.payload }) in
    let found = rw c.in-Ok-Some.field-0-is at c.in-Ok-Some.ensures.found in
    let is = sym c.first_bytes.ensures.bytes ∙ found.0 in
    record {
      frame = found.1;
      bytes = first-bytes piece _ f is;
      within = first-within piece _ f is;
      none = (λ h. absurd cc, λ rest. absurd (first-no_rest piece _ f is found.1 rest));
    }

pub returns-in-Ok-None-clause-none : goal.returns-in-Ok-None-clause-none
returns-in-Ok-None-clause-none c =
    let unfinished = c.whole_packet.ensures.none.0 (c.in-Ok-None.is ∙ ap Ok c.in-Ok-None.field-0-is) in
    (λ h. rest-unfinished c.args.piece.now (subst IsUnfinished c.first_bytes.ensures.bytes unfinished), λ rest. refl)

pub returns-in-Err-clause-none : goal.returns-in-Err-clause-none
returns-in-Err-clause-none c =
    let fault = c.in-Err.field-0 in
    let is = (c.whole_packet.ensures.fault fault).0 c.in-Err.is in
    (λ h. rest-fault c.args.piece.now _ fault (ap length_fault (sym c.first_bytes.ensures.bytes) ∙ is), λ rest. refl)
