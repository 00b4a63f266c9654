use Rattle.milter_mta_connection.proofs.Order.{aborted_in_order, answered_in_order, called_in_order}
use Rattle.milter_mta_connection.proofs.QueuedCommands.{queue_all-pending, with_command-all}
use Rattle.milter_mta_connection.proofs.laws.commands_come_in_order.Goals as goal

pub returns-clause-packets : goal.returns-clause-packets
returns-clause-packets c channel all = queue_all-pending channel all

pub returns-clause-queued : goal.returns-clause-queued
returns-clause-queued c stage command pairs connection = with_command-all stage command pairs connection

pub returns-clause-called : goal.returns-clause-called
returns-clause-called c stage command pairs connection rank is stated less = called_in_order stage command pairs connection rank is stated less

pub returns-clause-aborted : goal.returns-clause-aborted
returns-clause-aborted c connection rank less = aborted_in_order connection rank less

pub returns-clause-answered : goal.returns-clause-answered
returns-clause-answered c stage verdict connection rank less = answered_in_order stage verdict connection rank less
