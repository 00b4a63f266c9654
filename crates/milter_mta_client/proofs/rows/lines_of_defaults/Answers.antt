use Rattle.std.proofs.Common.{refl}
use Rattle.std.specs.Fmt.{digits}
use Rattle.milter_text.specs.QuotedText.{quoted}
use Rattle.milter_mail.specs.HeldText.{held_text, line_of}
use Rattle.milter_mta_client.specs.ReportsText.{named_verdict, report_text, texts_from}
use Rattle.milter_mta_client.proofs.rows.lines_of_defaults.Goals as goal

pub returns-clause-reset : goal.returns-clause-reset
unfolding digits held_text line_of quoted named_verdict report_text texts_from
returns-clause-reset c = refl

pub returns-clause-timeout : goal.returns-clause-timeout
unfolding digits held_text line_of quoted named_verdict report_text texts_from
returns-clause-timeout c = refl

pub returns-clause-others : goal.returns-clause-others
unfolding digits held_text line_of quoted named_verdict report_text texts_from
returns-clause-others c = refl
