use Rattle.milter_mta_connection.proofs.Methods.{abort-called, command-called, feed-called, feed-given, feed-lost}
use Rattle.milter_mta_connection.proofs.method_laws.methods_are_calls.Goals as goal

pub returns-clause-command : goal.returns-clause-command
returns-clause-command c stage command pairs old new outcome at_stage leaves = command-called stage command pairs old new at_stage leaves.0 leaves.1

pub returns-clause-abort : goal.returns-clause-abort
returns-clause-abort c old new outcome leaves = abort-called old new leaves.0 leaves.1

pub returns-clause-feed : goal.returns-clause-feed
returns-clause-feed c old piece new fed receives some = feed-called old piece new fed some receives

pub returns-clause-fed : goal.returns-clause-fed
returns-clause-fed c old piece new fed receives some = feed-given old piece new fed some receives

pub returns-clause-lost : goal.returns-clause-lost
returns-clause-lost c old piece new fed loss receives lost = feed-lost old piece new fed loss lost receives
