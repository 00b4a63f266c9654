use Rattle.std.proofs.Common.{◌≡◌, Bool, true, false, ℕ, List, [], ◌∷◌, Option, None, Some, Result, Err, ap, arith, refl, sym, ◌∙◌}
use Rattle.std.specs.List.{fold}
use Rattle.std.proofs.lemmas.List.Sums.{fold-append}
use Rattle.milter_fields.specs.declared.fault.WireFault.{WireFault}
use Rattle.milter_fields.specs.declared.fault.WireFault.TheVariants.{Malformed, UnknownCode}
use Rattle.milter_wire.specs.declared.reply.Reply.{Reply}
use Rattle.milter_wire.specs.Frames.{value_or_fault}
use Rattle.milter_wire.specs.Reply.{is_code, reply_in}
use Rattle.milter_mta_outcome.specs.declared.loss.Loss.{Loss}
use Rattle.milter_mta_outcome.specs.declared.loss.MtaFault.TheVariants.{Wire}
use Rattle.milter_mta.specs.Replies.{After, at, framed, goes_on, received, received_byte}
use Rattle.milter_mta.proofs.UnreadReplies.{early, early-at_none, fails-over}
use Rattle.milter_mta.proofs.ReceivedFrames.{received-fault, received-packet, lost-stays, with_unread}
use Rattle.milter_mta.proofs.laws.faults_are_received.Goals as goal

pub returns-clause-packet : goal.returns-clause-packet
returns-clause-packet c m filter_connection f bytes fault owed unfinished fits is read =
    let found = received-packet bytes filter_connection.unread filter_connection m f owed unfinished fits is in
    found.received_is
    ∙ ap (λ (r : Result Reply WireFault). framed filter_connection.position r (at (with_unread filter_connection found.before) m)) read
    ∙ fails-over (with_unread filter_connection found.before) filter_connection m refl (Wire fault)

no_reply : (code : ℕ) (known : Bool) (read : Option Reply) → (value_or_fault code known read ≡ Err (UnknownCode code) → known ≡ false)
    × (known ≡ false → value_or_fault code known read ≡ Err (UnknownCode code))
no_reply code false read = (λ is. refl, λ is. refl)
no_reply code true None = (λ is. absurd cc, λ is. absurd cc)
no_reply code true (Some reply) = (λ is. absurd cc, λ is. absurd cc)

pub returns-clause-unknown_code : goal.returns-clause-unknown_code
returns-clause-unknown_code c f = no_reply f.code (is_code f.code) (reply_in f.code f.payload)

no_value : (code : ℕ) (known : Bool) (read : Option Reply) (fault : WireFault) → known ≡ true → value_or_fault code known read ≡ Err fault → fault ≡ Malformed code
no_value code false read fault is e = absurd cc
no_value code true None fault is e = cc
no_value code true (Some reply) fault is e = absurd cc

pub returns-clause-malformed : goal.returns-clause-malformed
returns-clause-malformed c f fault is e = no_value f.code (is_code f.code) (reply_in f.code f.payload) fault is e

pub returns-clause-length : goal.returns-clause-length
returns-clause-length c m filter_connection bytes fault owed unfinished is =
    let found = received-fault bytes filter_connection.unread filter_connection m fault owed unfinished is in
    found.received_is ∙ fails-over (with_unread filter_connection found.before) filter_connection m refl (Wire fault)

pub returns-clause-early : goal.returns-clause-early
returns-clause-early c m filter_connection [] owed some = absurd (some refl)
returns-clause-early c m filter_connection (x ∷ bytes) owed some = early filter_connection m (x ∷ bytes) owed (omega arith)

pub returns-clause-unconnected : goal.returns-clause-unconnected
returns-clause-unconnected c m [] unconnected some = absurd (some refl)
returns-clause-unconnected c m (x ∷ bytes) unconnected some = early-at_none m x bytes unconnected

stays : (after : After) (loss : Loss) (bytes : List ℕ) → after.loss ≡ Some loss → fold received_byte after bytes ≡ after
stays after loss bytes is =
    let same : after ≡ record { mta = after.mta; loss = Some loss } = ap (λ (l : Option Loss). record { mta = after.mta; loss = l }) is in
    ap (λ (a : After). fold received_byte a bytes) same ∙ lost-stays after.mta loss bytes ∙ sym same

pub returns-clause-lost : goal.returns-clause-lost
returns-clause-lost c m first second loss is =
    fold-append received_byte (goes_on m) first second ∙ stays (received m first) loss second is
