use Rattle.milter_world.proofs.Reported.{lost-place, reports-place}
use Rattle.milter_world.proofs.mta_laws.places_are_reported.Goals as goal

pub returns-clause-reports : goal.returns-clause-reports
returns-clause-reports c on_loss entries opened m k f by_received is = reports-place on_loss entries opened k m f by_received is

pub returns-clause-losses : goal.returns-clause-losses
returns-clause-losses c on_loss loss entries opened m k f by_received is =
    lost-place on_loss c.sending_settles_nothing.ensures loss entries opened k m f by_received is
