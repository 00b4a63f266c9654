use Rattle.std.proofs.Common.{◌≡◌, ℕ, ◌-◌, ◌<◌, length, get_or, drop, None, sym, arith, ◌∙◌, length-drop}
use Rattle.std.proofs.lemmas.Grind.{common_steps}
use Rattle.std.proofs.lemmas.List.{length-take, take_rest}
use Rattle.milter_fields.specs.Stream.{fault_of}
use Rattle.milter_fields.proofs.FirstPackets.{whole_packet_is}
use Rattle.milter_fields.proofs.first_packet.whole_packet.Goals as goal

pub returns-clause-found : goal.returns-clause-found
returns-clause-found c =
    let bytes = c.args.bytes.now in
    let fits : (i : ℕ) → get_or bytes i 0 < 256 = λ i. omega (arith, c.type_inv.bytes i) in
    let valid : fault_of c.number_from_bytes-stated.result ≡ None = sym c.fault_of.ensures ∙ c.in_default-fault_of.is in
    rw (take_rest bytes 4, take_rest (drop 4 bytes) 1)
    (whole_packet_is bytes c.number_from_bytes-stated.result fits c.requires (omega arith) c.number_from_bytes-stated.ensures valid (omega (arith, length-drop 4 bytes, length-take (length bytes - 4) (drop 4 bytes))))

pub returns-in-Some-clause-none : goal.returns-in-Some-clause-none
returns-in-Some-clause-none c = grind (arith, common_steps)

pub returns-in-Some-clause-fault : goal.returns-in-Some-clause-fault
returns-in-Some-clause-fault c = grind (arith, common_steps)
