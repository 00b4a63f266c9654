-- What is sent of a recorded conversation.
use Rattle.std.specs.Prelude.{◌≡◌, ℕ, Bool, true, false, List, [], ◌∷◌, ◌++◌, Option, None, Some, if◌then◌else◌}
use Rattle.std.specs.List.{flat_map}
use Rattle.std.specs.Io.KnownBytes.{Appends}
use Rattle.milter_wire.specs.declared.command.Command.{Command}
use Rattle.milter_wire.specs.declared.negotiation.Negotiated.{Negotiated}
use Rattle.milter_wire.specs.declared.stage.Stage.{Stage}
use Rattle.milter_wire.specs.Command.{encoding}
use Rattle.milter_wire.specs.Negotiation.{is_sent}
use Rattle.milter_wire.specs.Stages.{stage_of}
use Rattle.milter_mta_outcome.specs.declared.loss.Loss.{Loss}
use Rattle.milter_text.specs.WrittenText.{WritesPrefix}
use Rattle.milter_replay.specs.declared.conversation.Exchange.{Exchange}

-- ---- the commands that are sent

-- a filter may leave stages out, and nothing else
abbrev pub is_due_at : Negotiated → Option Stage → Bool
is_due_at terms None = true
is_due_at terms (Some stage) = is_sent terms stage

-- whether a command is sent after the offer; none is where nothing was negotiated
abbrev pub is_due : Option Negotiated → Command → Bool
is_due None command = false
is_due (Some terms) command = is_due_at terms (stage_of command)

-- the packet of a command that is sent
abbrev pub sent_bytes : Option Negotiated → Command → List ℕ
sent_bytes terms command = if is_due terms command then encoding command else []

-- the packets of the commands after the offer that are sent
abbrev pub bytes_after : Option Negotiated → List Exchange → List ℕ
bytes_after terms exchanges = flat_map (λ exchange. sent_bytes terms exchange.recorded.command) exchanges

-- the packet of the offer, and those after it
abbrev pub bytes_to_send : Option Negotiated → List Exchange → List ℕ
bytes_to_send terms [] = []
bytes_to_send terms (offer ∷ others) = encoding offer.recorded.command ++ bytes_after terms others

-- all of them were sent, by what some terms of the filter leave of them
abbrev pub SendsAll : List Exchange → Option (List ℕ) → Option (List ℕ) → Type 0
SendsAll exchanges before after = (terms : Option Negotiated) × Appends before after (bytes_to_send terms exchanges)

-- a prefix of them was sent, and nothing else
abbrev pub SendsSome : List Exchange → Option (List ℕ) → Option (List ℕ) → Type 0
SendsSome exchanges before after =
    (terms : Option Negotiated) × WritesPrefix (bytes_to_send terms exchanges) before after

-- ---- what was sent by each call

-- all of the bytes were sent, or a prefix of them where the filter was lost
abbrev pub Sends : List ℕ → Option (List ℕ) → Option (List ℕ) → Option Loss → Type 0
Sends bytes before after None = Appends before after bytes
Sends bytes before after (Some loss) = WritesPrefix bytes before after

-- the same, but that nothing is sent any more where the filter was lost before
abbrev pub Plays : Option Loss → List ℕ → Option (List ℕ) → Option (List ℕ) → Option Loss → Type 0
Plays None bytes before after loss = Sends bytes before after loss
Plays (Some cause) bytes before after loss = (after ≡ before) × (loss ≡ Some cause)

-- a prefix of the bytes was sent, but nothing where the filter was lost before
abbrev pub PlaysPrefix : Option Loss → List ℕ → Option (List ℕ) → Option (List ℕ) → Type 0
PlaysPrefix None bytes before after = WritesPrefix bytes before after
PlaysPrefix (Some cause) bytes before after = after ≡ before

-- the first loss counts
abbrev pub first_loss : Option Loss → Option Loss → Option Loss
first_loss None next = next
first_loss (Some cause) next = Some cause
