-- What the protocol knows of a filter's verdicts.
use Rattle.std.specs.Prelude.{ℕ, Bool, true, false, List, [], ◌∷◌, codes, Option, Result, Ok, Err}
use Rattle.milter_fields.specs.Decoders.{ended}
use Rattle.milter_wire.specs.declared.codes.TheConstants.{SMFIR_ACCEPT, SMFIR_CONTINUE, SMFIR_DISCARD, SMFIR_REJECT, SMFIR_SKIP, SMFIR_TEMPFAIL}
use Rattle.milter_wire.specs.declared.reply.Reply.{Reply}
use Rattle.milter_wire.specs.declared.reply.Reply.TheVariants as replies
use Rattle.milter_wire.specs.declared.stage.Stage.{Stage}
use Rattle.milter_wire.specs.declared.stage.Stage.TheVariants as stages
use Rattle.milter_wire.specs.declared.verdict.Verdict.{Verdict}
use Rattle.milter_wire.specs.declared.verdict.Verdict.TheVariants.{Continue, Accept, Reject, Tempfail, Discard, Skip, Code}
use Rattle.milter_wire.specs.Tables.{Row, read_by}

-- the word of each in text files
abbrev pub verdict_name : Verdict → List ℕ
verdict_name Continue = codes "continue"
verdict_name Accept = codes "accept"
verdict_name Reject = codes "reject"
verdict_name Tempfail = codes "tempfail"
verdict_name Discard = codes "discard"
verdict_name Skip = codes "skip"
verdict_name (Code text) = codes "code"

-- the reply that carries a verdict
abbrev pub reply_of : Verdict → Reply
reply_of Continue = replies.Continue
reply_of Accept = replies.Accept
reply_of Reject = replies.Reject
reply_of Tempfail = replies.Tempfail
reply_of Discard = replies.Discard
reply_of Skip = replies.Skip
reply_of (Code text) = replies.Code text

-- the verdict that a reply carries, or the reply itself
abbrev pub verdict_of : Reply → Result Verdict Reply
verdict_of replies.Continue = Ok Continue
verdict_of replies.Accept = Ok Accept
verdict_of replies.Reject = Ok Reject
verdict_of replies.Tempfail = Ok Tempfail
verdict_of replies.Discard = Ok Discard
verdict_of replies.Skip = Ok Skip
verdict_of (replies.Code text) = Ok (Code text)
verdict_of other = Err other

-- the packets without a payload that carry a verdict
abbrev pub verdict_rows : List (Row Verdict)
verdict_rows =
    (SMFIR_ACCEPT, ended Accept)
    ∷ (SMFIR_CONTINUE, ended Continue)
    ∷ (SMFIR_DISCARD, ended Discard)
    ∷ (SMFIR_REJECT, ended Reject)
    ∷ (SMFIR_SKIP, ended Skip)
    ∷ (SMFIR_TEMPFAIL, ended Tempfail)
    ∷ []

-- the verdict of a packet without a payload, if it carries one
abbrev pub verdict_in : ℕ → List ℕ → Option Verdict
verdict_in code payload = read_by verdict_rows code payload

-- A body's chunks alone can be skipped, and before there is a message nothing can be discarded.
abbrev pub given_at : Verdict → Stage → Bool
given_at Skip stages.Body = true
given_at Skip other = false
given_at Discard stages.Connect = false
given_at Discard stages.Helo = false
given_at other stage = true
