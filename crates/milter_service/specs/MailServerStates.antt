-- The mail servers that are connected, as answers that are given later find them.
use Rattle.std.specs.Prelude.{◌≡◌, ℕ, Option, None, Some}
use Rattle.milter_protocol.specs.declared.answer.Answer.{Answer}
use Rattle.milter_filter.specs.Connections.{Connected, connected_answered}
use Rattle.milter_service.specs.declared.key.QuestionKey.{QuestionKey}

-- the number of its connection, the connection, what the host keeps of it, and the number of the question that the host
-- has, if it has one
pub record MailServerState (S : Type 0) : Type 0 where
  pub number : ℕ
  pub connection : Connected
  pub session : S
  pub question : Option ℕ

-- the host has this question, and no other one has its name
pub record HasQuestion {S : Type 0} (mail_server : MailServerState S) (question : QuestionKey) : Type 0 where
  pub number : mail_server.number ≡ question.connection.number
  pub count : mail_server.question ≡ Some question.count

-- after the answer to the question that the host has
abbrev pub answered_by : {S : Type 0} → MailServerState S → Answer → MailServerState S
answered_by mail_server answer =
    record mail_server { connection = connected_answered mail_server.connection answer; question = None }
