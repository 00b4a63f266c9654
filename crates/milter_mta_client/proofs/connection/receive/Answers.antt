use Rattle.std.proofs.Common.{Ok, Err, refl, take}
use Rattle.milter_mta_client.proofs.ConnectionTurns.{some-taken}
use Rattle.milter_mta_client.proofs.connection.receive.Goals as goal

pub returns-in-Ok : goal.returns-in-Ok
returns-in-Ok g c =
    let count = c.in_ok-count.count in
    let buffer = c.read_once.new.buffer in
    let within = c.in_ok-count.ensures.count in
    record {
      bytes = take count buffer;
      was_read = c.in_ok-count.ensures.read;
      reception = record { wanted = c.requires; some = some-taken count buffer within.0 within.1; result = Ok tt; receives_bytes = c.in-Ok.ensures };
      result_is = refl;
    }

pub returns-in-Err : goal.returns-in-Err
returns-in-Err g c =
    let count = c.in_ok-count.count in
    let buffer = c.read_once.new.buffer in
    let within = c.in_ok-count.ensures.count in
    let loss = c.in-Err.field-0 in (
      loss,
      record {
        bytes = take count buffer;
        was_read = c.in_ok-count.ensures.read;
        reception = record { wanted = c.requires; some = some-taken count buffer within.0 within.1; result = Err loss; receives_bytes = c.in-Err.ensures };
        result_is = refl;
      },
    )
