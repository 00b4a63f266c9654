use Rattle.std.proofs.Common.{rules, ◌≡◌, take, refl, arith}
use Rattle.std.proofs.lemmas.Grind.{common_steps}
use Rattle.milter_fields.proofs.NextPacket.{no_fault_at_ok, passed_on}
use Rattle.milter_fields.proofs.splitter.Splitter.next.Goals as goal

pub returns-in-Ok-Some : goal.returns-in-Ok-Some
returns-in-Ok-Some c =
    let same : take c.self.inside.len c.deref.result.now ≡ c.args.self.now = search rules in
    let found = rw (c.in-Ok-Some.field-0-is, same) at c.in-Ok-Some.ensures.found in
    let none = rw same at c.whole_packet.ensures.none in
    let fault = rw same at c.whole_packet.ensures.fault in (
      (refl, λ _. tt, refl),
      record {
        packet = (found.1, found.0);
        none = (λ h. absurd cc, λ u. absurd (let e = none.1 u in cc));
        fault = no_fault_at_ok c.args.self.now _ c.whole_packet.result _ fault c.in-Ok-Some.is;
        after_borrow = tt;
      },
    )

pub returns-in-Err : goal.returns-in-Err
returns-in-Err c =
    let same : take c.self.inside.len c.deref.result.now ≡ c.args.self.now = search rules in
    let none = rw same at c.whole_packet.ensures.none in
    let fault = rw same at c.whole_packet.ensures.fault in (
      (refl, λ _. tt, c.self.view_is),
      record {
        packet = tt;
        none = (λ h. absurd cc, λ u. absurd (let e = none.1 u in cc));
        fault = passed_on c.args.self.now _ c.whole_packet.result c.in-Err.fault fault c.in-Err.is refl;
        after_borrow = tt;
      },
    )

pub returns-in-Ok-None : goal.returns-in-Ok-None
returns-in-Ok-None c = grind (arith, common_steps)
