-- What is sent of a message, stage by stage, is its plan.
use Rattle.std.proofs.Common.{◌≡◌, List, [], ◌∷◌, ◌++◌, map, refl, sym, ap, ◌∙◌, flat_map}
use Rattle.std.proofs.lemmas.List.{append-nil, append_assoc}
use Rattle.milter_wire.specs.declared.command.Command.{Command}
use Rattle.milter_wire.specs.declared.command.Command.TheVariants as commands
use Rattle.milter_wire.specs.declared.stage.Stage.{Stage}
use Rattle.milter_wire.specs.declared.stage.Stage.TheVariants.{Connect, Helo, Mail, Rcpt, DataCmd, Header, Eoh, Body, Eob}
use Rattle.milter_wire.specs.Negotiation.{has_leading_space}
use Rattle.milter_message.specs.LeadingSpace.{sent_header}
use Rattle.milter_message.specs.Chunks.{chunks_of}
use Rattle.milter_mail.specs.Steps.{message_steps, step}
use Rattle.milter_mta_outcome.specs.PlanCursor.{Outgoing, steps_at, steps_from}

each_of : {A : Type 0} (f : Command → List Command) (g : A → Command) (xs : List A)
    → flat_map f (map g xs) ≡ flat_map (λ x. f (g x)) xs
each_of f g [] = refl
each_of f g (x ∷ xs) = ap (λ (l : List Command). f (g x) ++ l) (each_of f g xs)

-- lists one after the other, from the left and from the right
in_a_row : (a b c d e f g : List Command)
    → a ++ (b ++ (c ++ (d ++ (e ++ (f ++ (g ++ [])))))) ≡ a ++ b ++ c ++ d ++ e ++ f ++ g
in_a_row a b c d e f g =
    sym (ap (λ (l : List Command). a ++ b ++ c ++ d ++ e ++ f ++ l) (sym (append-nil g))
    ∙ append_assoc (a ++ b ++ c ++ d ++ e) f (g ++ [])
    ∙ append_assoc (a ++ b ++ c ++ d) e (f ++ (g ++ []))
    ∙ append_assoc (a ++ b ++ c) d (e ++ (f ++ (g ++ [])))
    ∙ append_assoc (a ++ b) c (d ++ (e ++ (f ++ (g ++ []))))
    ∙ append_assoc a b (c ++ (d ++ (e ++ (f ++ (g ++ []))))))

same : (a a' b b' c c' d d' e e' f f' g g' : List Command) → a ≡ a' → b ≡ b' → c ≡ c' → d ≡ d' → e ≡ e' → f ≡ f' → g ≡ g'
    → a ++ b ++ c ++ d ++ e ++ f ++ g ≡ a' ++ b' ++ c' ++ d' ++ e' ++ f' ++ g'
same a a' b b' c c' d d' e e' f f' g g' p q r s t u v =
    ap (λ (l : List Command). l ++ b ++ c ++ d ++ e ++ f ++ g) p
    ∙ ap (λ (l : List Command). a' ++ l ++ c ++ d ++ e ++ f ++ g) q
    ∙ ap (λ (l : List Command). a' ++ b' ++ l ++ d ++ e ++ f ++ g) r
    ∙ ap (λ (l : List Command). a' ++ b' ++ c' ++ l ++ e ++ f ++ g) s
    ∙ ap (λ (l : List Command). a' ++ b' ++ c' ++ d' ++ l ++ f ++ g) t
    ∙ ap (λ (l : List Command). a' ++ b' ++ c' ++ d' ++ e' ++ l ++ g) u
    ∙ ap (λ (l : List Command). a' ++ b' ++ c' ++ d' ++ e' ++ f' ++ l) v

module _ (o : Outgoing) where
  single : (stage : Stage) (command : Command) → step o.negotiated o.macros stage command ++ [] ≡ step o.negotiated o.macros stage command
  single stage command = append-nil (step o.negotiated o.macros stage command)

  pub message_by_stages : steps_from o Mail 0 ≡ message_steps o.negotiated o.macros o.message
  message_by_stages =
      in_a_row (steps_at o Mail) (steps_at o Rcpt) (steps_at o DataCmd) (steps_at o Header) (steps_at o Eoh) (steps_at o Body) (steps_at o Eob)
      ∙ same _ _ _ _ _ _ _ _ _ _ _ _ _ _
      (single Mail (commands.Mail o.message.sender))
      (each_of (step o.negotiated o.macros Rcpt) (λ recipient. commands.Rcpt recipient) o.message.recipients)
      (single DataCmd commands.DataCmd)
      (each_of (step o.negotiated o.macros Header) (λ header. commands.Header (sent_header (has_leading_space o.negotiated) header)) o.message.headers)
      (single Eoh commands.Eoh)
      (each_of (step o.negotiated o.macros Body) (λ chunk. commands.Body chunk) (chunks_of o.message.body))
      (single Eob (commands.Eob []))

  pub plan_by_stages : steps_from o Connect 0
      ≡ step o.negotiated o.macros Connect (commands.Connect o.client) ++ step o.negotiated o.macros Helo (commands.Helo o.helo)
      ++ message_steps o.negotiated o.macros o.message
  plan_by_stages =
      ap (λ (l : List Command). l ++ (steps_at o Helo ++ steps_from o Mail 0)) (single Connect (commands.Connect o.client))
      ∙ ap (λ (l : List Command). step o.negotiated o.macros Connect (commands.Connect o.client) ++ (l ++ steps_from o Mail 0)) (single Helo (commands.Helo o.helo))
      ∙ ap (λ (l : List Command). step o.negotiated o.macros Connect (commands.Connect o.client) ++ (step o.negotiated o.macros Helo (commands.Helo o.helo) ++ l)) message_by_stages
      ∙ sym (append_assoc (step o.negotiated o.macros Connect (commands.Connect o.client)) (step o.negotiated o.macros Helo (commands.Helo o.helo)) (message_steps o.negotiated o.macros o.message))
