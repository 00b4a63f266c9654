use Rattle.std.proofs.Common.{refl}
use Rattle.milter_mta_connection.specs.Messages.{opening_of}
use Rattle.milter_mta_connection.proofs.Answers.{ReadsBack}
use Rattle.milter_mta_connection.proofs.CalledMessages.{message-given}
use Rattle.milter_mta_connection.proofs.FollowingMessages.{all-given, all-ignored, message-ready}
use Rattle.milter_mta_connection.proofs.dialogue_laws.messages_are_dialogues.Goals as goal

pub returns-clause-given : goal.returns-clause-given
returns-clause-given c b negotiated macros message t lawful ready none_skipped =
    let reads : ReadsBack = λ r fits. c.reply_frames.ensures.frame r fits in
    (message-given reads b lawful negotiated macros message t ready none_skipped).given

pub returns-clause-quiet : goal.returns-clause-quiet
returns-clause-quiet c b negotiated macros message t lawful ready none_skipped =
    let reads : ReadsBack = λ r fits. c.reply_frames.ensures.frame r fits in
    (message-given reads b lawful negotiated macros message t ready none_skipped).quiet

pub returns-clause-next : goal.returns-clause-next
returns-clause-next c b negotiated macros message t lawful ready none_skipped =
    let reads : ReadsBack = λ r fits. c.reply_frames.ensures.frame r fits in
    message-ready reads b lawful negotiated macros message t ready none_skipped

pub returns-clause-others : goal.returns-clause-others
returns-clause-others c b negotiated macros messages t lawful ready none_skipped =
    let reads : ReadsBack = λ r fits. c.reply_frames.ensures.frame r fits in
    all-given reads b lawful negotiated macros messages t (opening_of t.transcript) refl none_skipped ready

pub returns-clause-refused : goal.returns-clause-refused
returns-clause-refused c b negotiated macros messages t lawful quiet over =
    let reads : ReadsBack = λ r fits. c.reply_frames.ensures.frame r fits in
    all-ignored reads b lawful negotiated macros messages t quiet over
