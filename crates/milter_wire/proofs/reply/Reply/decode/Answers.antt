-- What is read is what is encoded (ReplyGrammar), so the clauses are those of any such reading (Grammar).
use Rattle.std.proofs.Common.{arith}
use Rattle.milter_wire.proofs.Grammar.{is_found, is_only, is_memory, is_unknown, is_malformed}
use Rattle.milter_wire.proofs.ReplyGrammar.{replies_read}
use Rattle.milter_wire.proofs.reply.Reply.decode.Goals as goal

pub returns-clause-found : goal.returns-clause-found
returns-clause-found c =
    let reads = replies_read c.args.code c.args.payload.now (λ i. omega (arith, c.type_inv.payload i)) c.requires in
    is_found c.args.code _ _ _ c.take_reply.result reads c.take_reply.ensures

pub returns-clause-only : goal.returns-clause-only
returns-clause-only c =
    let reads = replies_read c.args.code c.args.payload.now (λ i. omega (arith, c.type_inv.payload i)) c.requires in
    is_only c.args.code _ _ _ c.take_reply.result reads c.take_reply.ensures

pub returns-clause-unknown : goal.returns-clause-unknown
returns-clause-unknown c =
    let reads = replies_read c.args.code c.args.payload.now (λ i. omega (arith, c.type_inv.payload i)) c.requires in
    is_unknown c.args.code _ _ _ c.take_reply.result reads c.take_reply.ensures

pub returns-clause-malformed : goal.returns-clause-malformed
returns-clause-malformed c =
    let reads = replies_read c.args.code c.args.payload.now (λ i. omega (arith, c.type_inv.payload i)) c.requires in
    is_malformed c.args.code _ _ _ c.take_reply.result reads c.take_reply.ensures

pub returns-clause-memory : goal.returns-clause-memory
returns-clause-memory c =
    let reads = replies_read c.args.code c.args.payload.now (λ i. omega (arith, c.type_inv.payload i)) c.requires in
    is_memory c.args.code _ _ _ c.take_reply.result reads c.take_reply.ensures
