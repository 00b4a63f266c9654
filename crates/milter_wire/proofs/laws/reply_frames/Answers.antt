use Rattle.milter_wire.specs.Reply as replies
use Rattle.milter_wire.specs.Frames.{reply_frame}
use Rattle.milter_wire.proofs.ReplyGrammar.{reply_again, reply_known}
use Rattle.milter_wire.proofs.FrameLaws.{reply-known, bytes-in_all, value-read, value-decoded, frames-divide, frames-divided}
use Rattle.milter_wire.proofs.laws.reply_frames.Goals as goal

pub returns-clause-read_back : goal.returns-clause-read_back
returns-clause-read_back c = λ v fits. reply_again v fits.fields

pub returns-clause-frame : goal.returns-clause-frame
returns-clause-frame c = λ v fits. value-read _ _ _ v (reply_known v) (reply_again v fits.fields)

pub returns-clause-divides : goal.returns-clause-divides
returns-clause-divides c = frames-divided reply_frame replies.Fits (λ v fits. fits.payload)

pub returns-clause-computed : goal.returns-clause-computed
returns-clause-computed c = frames-divide reply_frame replies.Fits (λ v fits. fits.payload)

pub returns-clause-bytes : goal.returns-clause-bytes
returns-clause-bytes c = bytes-in_all replies.encoding

pub returns-clause-decoded : goal.returns-clause-decoded
returns-clause-decoded c = λ f r some d. value-decoded f.code _ _ r (λ v. reply-known f.code f.payload v) some d
