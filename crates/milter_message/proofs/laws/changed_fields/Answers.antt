use Rattle.std.proofs.Common.{refl}
use Rattle.milter_message.specs.EditedMessage.{occurrence, positions_from}
use Rattle.milter_message.proofs.HeaderChanges.{others_after, values_after}
use Rattle.milter_message.proofs.laws.changed_fields.Goals as goal

pub returns-clause-values : goal.returns-clause-values
returns-clause-values c index header headers = values_after (occurrence index (positions_from 0 header.name headers)) index header headers refl

pub returns-clause-others : goal.returns-clause-others
returns-clause-others c index header headers = others_after (occurrence index (positions_from 0 header.name headers)) index header headers refl
