-- What a filter may ask to change of a message: which reply asks it, and which action has to be negotiated for it.
use Rattle.std.specs.Prelude.{ℕ, length, Result, Ok, Err}
use Rattle.milter_wire.specs.declared.reply.Reply.{Reply}
use Rattle.milter_wire.specs.declared.reply.Reply.TheVariants as replies
use Rattle.milter_wire.specs.Reply.{encoding}
use Rattle.milter_message.specs.declared.edit.Edit.{Edit}
use Rattle.milter_message.specs.declared.edit.Edit.TheVariants.{AddHeader, InsertHeader, ChangeHeader, AddRcpt, AddRcptPar, DelRcpt, ChangeFrom, ReplaceBody, Quarantine, Progress}

-- the reply that asks for an edit, of the same name and with the same fields
abbrev pub reply_of : Edit → Reply
reply_of (AddHeader header) = replies.AddHeader header
reply_of (InsertHeader index header) = replies.InsertHeader index header
reply_of (ChangeHeader index header) = replies.ChangeHeader index header
reply_of (AddRcpt address) = replies.AddRcpt address
reply_of (AddRcptPar address arguments) = replies.AddRcptPar address arguments
reply_of (DelRcpt address) = replies.DelRcpt address
reply_of (ChangeFrom address arguments) = replies.ChangeFrom address arguments
reply_of (ReplaceBody bytes) = replies.ReplaceBody bytes
reply_of (Quarantine reason) = replies.Quarantine reason
reply_of Progress = replies.Progress

-- the edit that a reply asks for, or the reply itself
abbrev pub edit_of : Reply → Result Edit Reply
edit_of (replies.AddHeader header) = Ok (AddHeader header)
edit_of (replies.InsertHeader index header) = Ok (InsertHeader index header)
edit_of (replies.ChangeHeader index header) = Ok (ChangeHeader index header)
edit_of (replies.AddRcpt address) = Ok (AddRcpt address)
edit_of (replies.AddRcptPar address arguments) = Ok (AddRcptPar address arguments)
edit_of (replies.DelRcpt address) = Ok (DelRcpt address)
edit_of (replies.ChangeFrom address arguments) = Ok (ChangeFrom address arguments)
edit_of (replies.ReplaceBody bytes) = Ok (ReplaceBody bytes)
edit_of (replies.Quarantine reason) = Ok (Quarantine reason)
edit_of replies.Progress = Ok Progress
edit_of other = Err other

-- the bit of the action that an edit needs: ADDHDRS, CHGHDRS, ADDRCPT, ADDRCPT_PAR, DELRCPT, CHGFROM, CHGBODY,
-- QUARANTINE, and none for progress
abbrev pub needed_by : Edit → ℕ
needed_by (AddHeader header) = 1
needed_by (InsertHeader index header) = 1
needed_by (ChangeHeader index header) = 16
needed_by (AddRcpt address) = 4
needed_by (AddRcptPar address arguments) = 128
needed_by (DelRcpt address) = 8
needed_by (ChangeFrom address arguments) = 64
needed_by (ReplaceBody bytes) = 2
needed_by (Quarantine reason) = 32
needed_by Progress = 0

-- the number of bytes of an edit's packet
abbrev pub weight_of : Edit → ℕ
weight_of edit = length (encoding (reply_of edit))
