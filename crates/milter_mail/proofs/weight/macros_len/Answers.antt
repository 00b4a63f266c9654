use Rattle.std.proofs.Common.{rules}
use Rattle.milter_mail.proofs.weight.macros_len.Goals as goal

pub returns-in_err-len : goal.returns-in_err-len
returns-in_err-len c =
    let known = c.macro_packet_len.ensures c.args.command in
    search (rules, known)

pub returns : goal.returns
returns c =
    let known = c.macro_packet_len.ensures c.args.command in
    search (rules, known)
