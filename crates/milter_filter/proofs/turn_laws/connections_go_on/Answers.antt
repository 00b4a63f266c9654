use Rattle.std.proofs.Common.{[], refl}
use Rattle.std.proofs.KnownBytes.{Appends-nil, Consumes-nil}
use Rattle.milter_filter.proofs.ConversationInputs.{fresh-begins, goes_on-answers, goes_on-reports}
use Rattle.milter_filter.proofs.Turns.{turns-join}
use Rattle.milter_filter.proofs.turn_laws.connections_go_on.Goals as goal

pub returns-clause-begins : goal.returns-clause-begins
returns-clause-begins c = λ order wanted unread written.
    record {
      input = [];
      taken = [];
      was_read = Consumes-nil unread;
      taken_is = refl;
      goes = record { sent = []; goes_on = fresh-begins order wanted; was_written = Appends-nil written };
    }

pub returns-clause-turns : goal.returns-clause-turns
returns-clause-turns c = λ old between new events more unread rest left written then all turn p serves t.
    turns-join old between events more unread rest left written then all p serves.serving.serving new turn t

pub returns-clause-answers : goal.returns-clause-answers
returns-clause-answers c = λ old c events unread left written all stage answer p asked.
    record {
      input = p.input;
      taken = p.taken;
      was_read = p.was_read;
      taken_is = p.taken_is;
      goes = record {
        sent = p.goes.sent;
        goes_on = goes_on-answers old.conversation c.conversation events p.taken p.goes.sent p.goes.goes_on stage answer asked;
        was_written = p.goes.was_written;
      };
    }

pub returns-clause-reports : goal.returns-clause-reports
returns-clause-reports c = λ old c events unread left written all p asked.
    record {
      input = p.input;
      taken = p.taken;
      was_read = p.was_read;
      taken_is = p.taken_is;
      goes = record {
        sent = p.goes.sent;
        goes_on = goes_on-reports old.conversation c.conversation events p.taken p.goes.sent p.goes.goes_on asked;
        was_written = p.goes.was_written;
      };
    }
