use Rattle.std.proofs.Common.{◌≡◌, [], drop, Option, Some, ap, subst, sym, ◌∙◌}
use Rattle.milter_mta_connection.specs.Channel.{Channel, is_owed}
use Rattle.milter_mta.specs.declared.state.FilterConnection.{FilterConnection as Connected}
use Rattle.milter_mta.specs.CoreParts.{mta_of}
use Rattle.milter_mta.specs.Cores.{IsCore}
use Rattle.milter_mta.specs.Output.{sent}
use Rattle.milter_mta.proofs.CoreSteps.{HasBytes, left-is, next-is, no_bytes, owed-is, some_bytes}
use Rattle.milter_mta.proofs.mta_core.MtaCore.sent.Goals as goal

pub returns-then-not-is_empty : goal.returns-then-not-is_empty
returns-then-not-is_empty c =
    let state = c.self.inside.state in
    let f = c.in-Some.filter_connection in
    let k = c.self.inside.channel in
    let some : HasBytes k.pending = subst HasBytes c.pending.ensures (some_bytes c.pending.result.now c.is_empty.result c.is_empty.ensures c.if-is_empty.false) in
    let core : IsCore state (Some f) k = subst (λ (o : Option Connected). IsCore state o k) c.in-Some.is c.self.invariant in
    let left : HasBytes (drop c.args.count k.pending) =
    subst HasBytes (c.pending-2.ensures ∙ ap (λ (d : Channel). d.pending) c.sent.ensures) (some_bytes c.pending-2.result.now c.is_empty-2.result c.is_empty-2.ensures c.if-not-is_empty.true) in
    ap (λ (d : Channel). mta_of state (Some f) d) c.sent.ensures
    ∙ left-is state f k c.args.count some core.in_step left
    ∙ ap (λ (o : Option Connected). sent c.args.count (mta_of state o k)) (sym c.in-Some.is)
    ∙ ap (sent c.args.count) c.self.view_is

pub returns-then-is_owed : goal.returns-then-is_owed
returns-then-is_owed c =
    let state = c.self.inside.state in
    let f = c.in-Some.filter_connection in
    let k = c.self.inside.channel in
    let some : HasBytes k.pending = subst HasBytes c.pending.ensures (some_bytes c.pending.result.now c.is_empty.result c.is_empty.ensures c.if-is_empty.false) in
    let core : IsCore state (Some f) k = subst (λ (o : Option Connected). IsCore state o k) c.in-Some.is c.self.invariant in
    let none : drop c.args.count k.pending ≡ [] =
    sym (ap (λ (d : Channel). d.pending) c.sent.ensures) ∙ sym c.pending-2.ensures ∙ no_bytes c.pending-2.result.now c.is_empty-2.result c.is_empty-2.ensures c.if-not-is_empty.false in
    ap (λ (d : Channel). mta_of state (Some f) d) c.sent.ensures
    ∙ owed-is state f k c.args.count some core.in_step none (ap is_owed (sym c.sent.ensures) ∙ sym c.is_owed.ensures ∙ c.if-is_owed.true)
    ∙ ap (λ (o : Option Connected). sent c.args.count (mta_of state o k)) (sym c.in-Some.is)
    ∙ ap (sent c.args.count) c.self.view_is

pub returns : goal.returns
returns c =
    let state = c.self.inside.state in
    let f = c.in-Some.filter_connection in
    let k = c.self.inside.channel in
    let some : HasBytes k.pending = subst HasBytes c.pending.ensures (some_bytes c.pending.result.now c.is_empty.result c.is_empty.ensures c.if-is_empty.false) in
    let core : IsCore state (Some f) k = subst (λ (o : Option Connected). IsCore state o k) c.in-Some.is c.self.invariant in
    let none : drop c.args.count k.pending ≡ [] =
    sym (ap (λ (d : Channel). d.pending) c.sent.ensures) ∙ sym c.pending-2.ensures ∙ no_bytes c.pending-2.result.now c.is_empty-2.result c.is_empty-2.ensures c.if-not-is_empty.false in
    ap (λ (d : Channel). mta_of state (Some c.advance.new.self) d) c.sent.ensures
    ∙ next-is state f k c.args.count some core.in_step c.advance.new.self none (ap is_owed (sym c.sent.ensures) ∙ sym c.is_owed.ensures ∙ c.if-is_owed.false)
    c.advance.ensures.aborted c.advance.ensures.after c.advance.ensures.aborts c.advance.ensures.messages
    ∙ ap (λ (o : Option Connected). sent c.args.count (mta_of state o k)) (sym c.in-Some.is)
    ∙ ap (sent c.args.count) c.self.view_is
