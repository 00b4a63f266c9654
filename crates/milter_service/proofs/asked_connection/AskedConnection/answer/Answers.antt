use Rattle.milter_service.proofs.asked_connection.AskedConnection.answer.Goals as goal

pub returns-clause-fits : goal.returns-clause-fits
returns-clause-fits c = rw (← c.self.view_is) c.answer.ensures.fits

pub returns-clause-breaks : goal.returns-clause-breaks
returns-clause-breaks c = rw (← c.self.view_is) c.answer.ensures.breaks
