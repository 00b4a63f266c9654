use Rattle.std.proofs.Common.{ap}
use Rattle.milter_mta.specs.Replies.{After}
use Rattle.milter_world.proofs.PieceMoves.{all-taken, answers-piece, counts-now, fails-not, receives_bytes-piece, none_on_way, sends-piece, takes-piece}
use Rattle.milter_world.proofs.pieces.pieces_move.Goals as goal

pub returns-clause-takes : goal.returns-clause-takes
returns-clause-takes g c b order policy lines k core new pipe piece rest n answers counts is cut none takes =
    let laws = c.cores_go_on.ensures.takes in (
      all-taken b order policy lines answers k counts core pipe is piece rest cut laws none n new takes,
      takes-piece b order policy lines answers k counts core pipe is piece rest cut laws none n new takes,
      counts-now b order policy lines answers k counts core pipe is piece rest cut,
    )

pub returns-clause-fails_not : goal.returns-clause-fails_not
returns-clause-fails_not g c b order policy lines k core pipe piece rest fault answers counts is cut none =
    fails-not b order policy lines answers k counts core pipe is piece rest cut c.cores_go_on.ensures.gives_up none fault

pub returns-clause-none_on_way : goal.returns-clause-none_on_way
returns-clause-none_on_way g c b order policy lines k core pipe answers counts is = none_on_way b order policy lines answers k counts core pipe is

pub returns-clause-answers : goal.returns-clause-answers
returns-clause-answers g c b order policy lines k core pipe n answers counts is =
    answers-piece b order policy lines answers k counts core pipe is c.cores_go_on.ensures.sends n

pub returns-clause-receives_bytes : goal.returns-clause-receives_bytes
returns-clause-receives_bytes g c opened m lines k back piece rest follows counts is on_way cut =
    let h = receives_bytes-piece opened lines follows k counts m is back piece rest on_way cut in
    (ap (λ (a : After). a.loss) h.goes_on, h.is_at)

pub returns-clause-sends : goal.returns-clause-sends
returns-clause-sends g c opened m lines k count follows counts is early le =
    sends-piece opened lines follows k counts m is c.sent_bytes_add_up.ensures early count le
