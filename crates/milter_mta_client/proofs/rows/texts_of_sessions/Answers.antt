use Rattle.std.proofs.Common.{refl}
use Rattle.std.specs.Fmt.{digits}
use Rattle.milter_text.specs.QuotedText.{quoted}
use Rattle.milter_mail.specs.HeldText.{held_text, line_of}
use Rattle.milter_mta_client.specs.ReportsText.{named_verdict, report_text, texts_from}
use Rattle.milter_mta_client.proofs.rows.texts_of_sessions.Goals as goal

pub returns-clause-none : goal.returns-clause-none
unfolding digits held_text line_of quoted named_verdict report_text texts_from
returns-clause-none c = refl

pub returns-clause-accepted_client : goal.returns-clause-accepted_client
unfolding digits held_text line_of quoted named_verdict report_text texts_from
returns-clause-accepted_client c = refl

pub returns-clause-quarantined : goal.returns-clause-quarantined
unfolding digits held_text line_of quoted named_verdict report_text texts_from
returns-clause-quarantined c = refl

pub returns-clause-refused : goal.returns-clause-refused
unfolding digits held_text line_of quoted named_verdict report_text texts_from
returns-clause-refused c = refl

pub returns-clause-refused_client : goal.returns-clause-refused_client
unfolding digits held_text line_of quoted named_verdict report_text texts_from
returns-clause-refused_client c = refl
