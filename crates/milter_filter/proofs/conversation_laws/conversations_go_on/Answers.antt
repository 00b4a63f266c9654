use Rattle.milter_filter.proofs.ConversationInputs.{fresh-begins, goes_on-answers, goes_on-ended, goes_on-gives_up, goes_on-joins, goes_on-reports, goes_on-sends, goes_on-stays, goes_on-takes}
use Rattle.milter_filter.proofs.conversation_laws.conversations_go_on.Goals as goal

pub returns-clause-begins : goal.returns-clause-begins
returns-clause-begins c = fresh-begins

pub returns-clause-stays : goal.returns-clause-stays
returns-clause-stays c = goes_on-stays

pub returns-clause-joins : goal.returns-clause-joins
returns-clause-joins c = λ old c new events these input sent more sent_then p serving q.
    goes_on-joins old c new events these input sent more sent_then p q serving

pub returns-clause-takes : goal.returns-clause-takes
returns-clause-takes c = λ old c new events input sent piece n p. goes_on-takes old c events input sent p new piece n

pub returns-clause-answers : goal.returns-clause-answers
returns-clause-answers c = λ old c events input sent stage answer p. goes_on-answers old c events input sent p stage answer

pub returns-clause-reports : goal.returns-clause-reports
returns-clause-reports c = goes_on-reports

pub returns-clause-sends : goal.returns-clause-sends
returns-clause-sends c = λ old c events input sent n p. goes_on-sends old c events input sent p n

pub returns-clause-gives_up : goal.returns-clause-gives_up
returns-clause-gives_up c = λ old c events input sent piece fault p. goes_on-gives_up old c events input sent p piece fault

pub returns-clause-ended : goal.returns-clause-ended
returns-clause-ended c = λ old c events input sent more p. goes_on-ended old c events input sent p more
