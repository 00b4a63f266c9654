use Rattle.milter_service.proofs.mail_server.MailServer.run_turn.Goals as goal

pub returns-in-Inet-clause-turns : goal.returns-in-Inet-clause-turns
returns-in-Inet-clause-turns g c = rw (← c.self.view_is, ← c.self-inside.view_is) c.turn.ensures.turns

pub returns-in-Unix-clause-turns : goal.returns-in-Unix-clause-turns
returns-in-Unix-clause-turns g c = rw (← c.self.view_is, ← c.self-inside.view_is) c.turn-in-Unix.ensures.turns
