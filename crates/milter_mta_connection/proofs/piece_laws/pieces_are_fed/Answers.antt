use Rattle.std.proofs.Common.{List, ℕ, ap, sym}
use Rattle.std.proofs.lemmas.List.{drop-drop}
use Rattle.milter_mta_connection.proofs.FedInPieces.{pieces, pieces-lost, verdict-last}
use Rattle.milter_mta_connection.proofs.piece_laws.pieces_are_fed.Goals as goal

pub returns-clause-connection : goal.returns-clause-connection
returns-clause-connection c connection first second none = pieces connection first second none

pub returns-clause-lost : goal.returns-clause-lost
returns-clause-lost c connection first second loss is = pieces-lost connection first second loss is

pub returns-clause-sent : goal.returns-clause-sent
returns-clause-sent c connection first second =
    ap (λ (bytes : List ℕ). record connection { channel = record connection.channel { pending = bytes } }) (sym (drop-drop second first connection.channel.pending))

pub returns-clause-waits : goal.returns-clause-waits
returns-clause-waits c channel first second verdict new some is = (verdict-last channel first second verdict new some is).waits

pub returns-clause-goes_on : goal.returns-clause-goes_on
returns-clause-goes_on c channel first second verdict new some is = (verdict-last channel first second verdict new some is).no_loss

pub returns-clause-verdict : goal.returns-clause-verdict
returns-clause-verdict c channel first second verdict new some is = (verdict-last channel first second verdict new some is).last_is
