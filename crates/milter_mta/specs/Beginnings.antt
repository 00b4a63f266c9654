-- What is sent of a plan.
use Rattle.std.specs.Prelude.{◌≡◌, ◌≢◌, true, List, [], ◌++◌}
use Rattle.std.specs.List.{list_any}
use Rattle.milter_wire.specs.declared.command.Command.{Command}
use Rattle.milter_protocol.specs.Exchanges.{Exchange, commands_of, onto}
use Rattle.milter_protocol.specs.Dialogue.{is_skipping}
use Rattle.milter_mta_outcome.specs.PlanCursor.{without_body}

-- the commands of these exchanges, in order, are a beginning of the plan without the chunks of the body after its first
-- commands; and chunks are left out only where the filter answered Skip
pub record IsBeginning (plan : List Command) (sent : List Exchange) : Type 0 where
  pub first : List Command
  pub others : List Command
  pub unsent : List Command
  pub plan_is : plan ≡ first ++ others
  pub sent_is : commands_of sent ++ unsent ≡ first ++ without_body others
  pub skip : others ≢ [] → list_any is_skipping sent ≡ true

-- What was sent of a plan by these exchanges, the latest first, and what is left of it: both together, in order, are
-- the plan without the chunks of the body after its first commands, and chunks are left out only after a Skip.
pub record IsSentOf (plan : List Command) (dialogue : List Exchange) (left : List Command) : Type 0 where
  pub sent : List Command
  pub first : List Command
  pub others : List Command
  pub dialogue_is : commands_of dialogue ≡ onto sent []
  pub plan_is : plan ≡ first ++ others
  pub sent_is : sent ++ left ≡ first ++ without_body others
  pub skip : others ≢ [] → list_any is_skipping dialogue ≡ true
