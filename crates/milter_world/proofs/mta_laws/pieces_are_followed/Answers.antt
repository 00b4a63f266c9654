use Rattle.milter_world.proofs.FollowedPieces.{receives_bytes, pends, sends, wants-nothing, wants-receive, wants-send}
use Rattle.milter_world.proofs.mta_laws.pieces_are_followed.Goals as goal

pub returns-clause-receives_bytes : goal.returns-clause-receives_bytes
returns-clause-receives_bytes c = receives_bytes

pub returns-clause-sends : goal.returns-clause-sends
returns-clause-sends c = sends c.sent_bytes_add_up.ensures

pub returns-clause-pends : goal.returns-clause-pends
returns-clause-pends c = pends c.sent_bytes_add_up.ensures

pub returns-clause-wants : goal.returns-clause-wants
returns-clause-wants c = wants-send

pub returns-clause-waits : goal.returns-clause-waits
returns-clause-waits c = wants-receive

pub returns-clause-ends : goal.returns-clause-ends
returns-clause-ends c = wants-nothing
