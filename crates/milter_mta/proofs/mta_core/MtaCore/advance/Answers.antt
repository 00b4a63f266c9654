use Rattle.std.proofs.Common.{◌≡◌, [], Option, Some, Result, Ok, Err, OnErr, OnOk, ap, subst, sym, ◌∙◌}
use Rattle.milter_fields.specs.declared.fault.NoMemory.{NoMemory}
use Rattle.milter_mta.specs.declared.state.FilterConnection.{FilterConnection as Connected}
use Rattle.milter_mta.specs.CoreParts.{mta_of, position_of}
use Rattle.milter_mta.specs.Cores.{IsCore}
use Rattle.milter_mta.specs.Output.{advanced, want_at}
use Rattle.milter_mta.proofs.CoreSteps.{advanced-is, is_send, no_bytes, queued-core, same-core}
use Rattle.milter_mta.proofs.mta_core.MtaCore.advance.Goals as goal

on_ok : (r : Result Unit NoMemory) (P Q : Type 0) → (P → Q) → OnOk r P → OnOk r Q
on_ok (Ok done) P Q f p = f p
on_ok (Err refused) P Q f p = tt

either : (r : Result Unit NoMemory) (P Q R : Type 0) → OnOk r P → OnErr r Q → (P → R) → (Q → R) → R
either (Ok done) P Q R p q f g = f p
either (Err refused) P Q R p q f g = g q

pub invariant_of-self-2 : goal.invariant_of-self-2
invariant_of-self-2 c =
    let state = c.self.inside.state in
    let f = c.in-Some.filter_connection in
    let k = c.self.inside.channel in
    let new = c.queue_next.new.filter_connection in
    let none : k.pending ≡ [] = sym c.pending.ensures ∙ no_bytes c.pending.result.now c.is_empty.result c.is_empty.ensures c.if-not-is_empty.false in
    let core : IsCore state (Some f) k = subst (λ (o : Option Connected). IsCore state o k) c.in-Some.is c.self.invariant in
    either c.queue_next.result _ _ _ c.queue_next.ensures.ok c.queue_next.ensures.err
    (λ after. queued-core state f new k c.queue_next.new.channel c.queue_next.ensures.same none core (after k.edits))
    (λ same. same-core state f new k c.queue_next.new.channel c.queue_next.ensures.same core same)

pub returns-clause-ok : goal.returns-clause-ok
returns-clause-ok c =
    let state = c.self.inside.state in
    let f = c.in-Some.filter_connection in
    let k = c.self.inside.channel in
    let is : mta_of state (Some f) k ≡ c.args.self.now = ap (λ (o : Option Connected). mta_of state o k) (sym c.in-Some.is) ∙ c.self.view_is in
    let none : k.pending ≡ [] = sym c.pending.ensures ∙ no_bytes c.pending.result.now c.is_empty.result c.is_empty.ensures c.if-not-is_empty.false in
    let wanted = ap (λ (o : _). want_at f.aborts (position_of state.client_info k.edits f.position) o) (sym c.is_owed-is_owed.ensures) ∙ sym (c.want.ensures k.edits) ∙ is_send c.want.result c.if-ne.ensures in
    on_ok c.queue_next.result _ _ (λ after. advanced-is state f c.queue_next.new.filter_connection k c.queue_next.ensures.same c.queue_next.new.channel c.self.invariant.offer none wanted (after k.edits) ∙ ap advanced is) c.queue_next.ensures.ok
