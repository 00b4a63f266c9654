use Rattle.std.proofs.Common.{◌≤◌, [], List, ap, refl, ◌∙◌}
use Rattle.std.specs.List.{list_any}
use Rattle.milter_wire.specs.Negotiation.{negotiate}
use Rattle.milter_wire.specs.declared.options.Options.{Options}
use Rattle.milter_message.specs.MailObject.{MailObject}
use Rattle.milter_mail.specs.MailSession.{MailSession}
use Rattle.milter_mail.specs.Plan.{plan}
use Rattle.milter_protocol.specs.declared.permitted.TheConstants.{VERSION_MAX, VERSION_MIN}
use Rattle.milter_protocol.specs.Behavior.{Behavior}
use Rattle.milter_protocol.specs.Dialogue.{dialogue_with, is_skipping}
use Rattle.milter_protocol.specs.Exchanges.{Exchange, onto}
use Rattle.milter_protocol.specs.Lawful.{IsLawful}
use Rattle.milter_mta_connection.specs.Conversations.{Conversation, opened}
use Rattle.milter_mta_connection.specs.Messages.{opening_of, with_first}
use Rattle.milter_mta_connection.proofs.Answers.{ReadsBack}
use Rattle.milter_mta_connection.proofs.CalledMessages.{IsGivenQuietly, opened-is, session-given}
use Rattle.milter_mta_connection.proofs.FollowingMessages.{all-given, all-ignored, opening-skips, then-ready}
use Rattle.milter_mta_outcome.proofs.NegotiatedOptions.{negotiated-fits, negotiated-received}
use Rattle.milter_mta_connection.proofs.dialogue_laws.sessions_are_dialogues.Goals as goal

pub returns-clause-negotiated : goal.returns-clause-negotiated
returns-clause-negotiated c b offer lawful from to =
    let reads : ReadsBack = λ r fits. c.reply_frames.ensures.frame r fits in
    ap (λ (t : Conversation). t.fed)
    (opened-is reads b lawful (negotiate offer b.wants b.lists) offer (negotiated-fits offer b lawful.wants from to) (negotiated-received offer b lawful.wants from to))

first : ReadsBack → (b : Behavior) (offer : Options) (session : MailSession) (message : MailObject) → IsLawful b → VERSION_MIN ≤ offer.version → offer.version ≤ VERSION_MAX
    → IsGivenQuietly (negotiate offer b.wants b.lists) (dialogue_with b (negotiate offer b.wants b.lists) [] (plan (negotiate offer b.wants b.lists) session message))
    (opened offer (negotiate offer b.wants b.lists)) (with_first b offer session message)
first reads b offer session message lawful from to =
    session-given reads b lawful (negotiate offer b.wants b.lists) offer session message (negotiated-fits offer b lawful.wants from to) (negotiated-received offer b lawful.wants from to)

pub returns-clause-first : goal.returns-clause-first
returns-clause-first c b offer session message lawful from to =
    let reads : ReadsBack = λ r fits. c.reply_frames.ensures.frame r fits in
    (first reads b offer session message lawful from to).given

pub returns-clause-others : goal.returns-clause-others
returns-clause-others c b offer session message messages lawful from to not_over =
    let reads : ReadsBack = λ r fits. c.reply_frames.ensures.frame r fits in
    let is = first reads b offer session message lawful from to in
    let new : Conversation = with_first b offer session message in
    let all : List Exchange = dialogue_with b (negotiate offer b.wants b.lists) [] (plan (negotiate offer b.wants b.lists) session message) in
    let begun = opened-is reads b lawful (negotiate offer b.wants b.lists) offer (negotiated-fits offer b lawful.wants from to) (negotiated-received offer b lawful.wants from to) in
    all-given reads b lawful (negotiate offer b.wants b.lists) session.macros messages new (opening_of new.transcript) refl
    (ap (λ (transcript : List Exchange). list_any is_skipping (opening_of transcript)) is.given.transcript
    ∙ ap (λ (t : Conversation). list_any is_skipping (opening_of (onto all t.transcript))) begun
    ∙ opening-skips reads b lawful (negotiate offer b.wants b.lists) session.macros (plan (negotiate offer b.wants b.lists) session message) [] refl)
    (then-ready (negotiate offer b.wants b.lists) (dialogue_with b (negotiate offer b.wants b.lists) [] (plan (negotiate offer b.wants b.lists) session message))
    (opened offer (negotiate offer b.wants b.lists)) new is not_over)

pub returns-clause-refused : goal.returns-clause-refused
returns-clause-refused c b offer session message messages lawful from to over =
    let reads : ReadsBack = λ r fits. c.reply_frames.ensures.frame r fits in
    all-ignored reads b lawful (negotiate offer b.wants b.lists) session.macros messages (with_first b offer session message)
    (first reads b offer session message lawful from to).quiet over
