-- What is received of a part of an answer.
use Rattle.std.specs.Prelude.{◌≡◌, ℕ, true, List, ◌++◌, map}
use Rattle.std.specs.List.{flat_map}
use Rattle.milter_wire.specs.declared.negotiation.Negotiated.{Negotiated}
use Rattle.milter_wire.specs.declared.command.Command.{Command}
use Rattle.milter_wire.specs.Reply.{encoding}
use Rattle.milter_message.specs.declared.edit.Edit.{Edit}
use Rattle.milter_message.specs.EditReplies.{reply_of}
use Rattle.milter_mta_outcome.specs.declared.acted_verdicts.Acted.{Acted}
use Rattle.milter_mta.specs.Mta.{Mta, at_packet}
use Rattle.milter_mta.specs.Mta.Position.{Sending}
use Rattle.milter_mta.specs.Replies.{After, at, goes_on}

-- While the answer to the first of these commands is awaited, after these verdicts and some edits, some more of the
-- edits came with these bytes, and a beginning of the next reply; all else is as it was.
pub record IsPartReceived (negotiated : Negotiated) (verdicts : List Acted) (left : List Command) (m : Mta)
    (before edits : List Edit) (bytes : List ℕ) (after : After) : Type 0 where
  pub came : List Edit
  pub others : List Edit
  pub unread : List ℕ
  pub edits_are : edits ≡ came ++ others
  pub bytes_are : bytes ≡ flat_map encoding (map reply_of came) ++ unread
  pub received_is : let position = Sending negotiated verdicts (before ++ came) left in
      after ≡ goes_on (at (record (at_packet position) { owed = true; unread = unread }) m)
