-- What a caller has of exchanges, one more at a time.
use Rattle.std.proofs.Common.{◌≡◌, ◌≢◌, ◌≤◌, ℕ, Bool, true, false, ◌||◌, List, [], ◌∷◌, ◌++◌, map, Option, None, Some, refl, sym, ap, ◌∙◌, subst, append-nil, append_assoc}
use Rattle.std.specs.List.{flat_map, list_any}
use Rattle.std.proofs.lemmas.Bool.{true≢false}
use Rattle.milter_wire.specs.declared.options.Options.{Options}
use Rattle.milter_wire.specs.declared.negotiation.Negotiated.{Negotiated}
use Rattle.milter_wire.specs.declared.stage.Stage.{Stage}
use Rattle.milter_wire.specs.declared.stage.Stage.TheVariants as stages
use Rattle.milter_wire.specs.Stages.{stage_of}
use Rattle.milter_message.specs.declared.edit.Edit.{Edit}
use Rattle.milter_protocol.specs.declared.answer.Answer.{Answer}
use Rattle.milter_protocol.specs.Exchanges.{Exchange, onto}
use Rattle.milter_mta_connection.specs.declared.filter_event.Fed.{Fed}
use Rattle.milter_mta_connection.specs.declared.call_outcome.CallFault.{CallFault}
use Rattle.milter_mta_connection.specs.declared.phase.Phase.{Phase}
use Rattle.milter_mta_connection.specs.declared.phase.Phase.TheVariants.{NoMessage, ClientOver, Closed}
use Rattle.milter_mta_connection.specs.Connection.{is_of_client, phase_over}
use Rattle.milter_mta_connection.specs.SessionCalls.{answers_in, edits_in, fed_by_answer}
use Rattle.milter_mta_connection.specs.Conversations.{Conversation}
use Rattle.milter_mta_connection.proofs.Answers.{idle}
use Rattle.milter_mta_connection.proofs.CallStages.{RankIn, going-open, is_going}
use Rattle.milter_mta_connection.proofs.OneCall.{at}
use Rattle.milter_mta_connection.proofs.CalledStages.{rank-in}

-- ---- what a caller has

abbrev pub is_client_stage : Option Stage → Bool
is_client_stage None = false
is_client_stage (Some stage) = is_of_client stage

-- an exchange about the client or its greeting
abbrev pub about-client : Exchange → Bool
about-client e = is_client_stage (stage_of e.command)

pub or-true : (a : Bool) → (a || true) ≡ true
or-true true = refl
or-true false = refl

-- where a connection is after this exchange, if that is the last one
pub record EndsIn (e : Exchange) (phase : Phase) (last : ℕ) : Type 0 where
  pub rank : phase ≡ NoMessage → last ≤ 2
  pub no_loss : phase ≢ Closed
  pub by_client : phase ≡ ClientOver → about-client e ≡ true

pub ends-going : (e : Exchange) (phase : Phase) (last : ℕ) → is_going phase ≡ true → RankIn phase last → EndsIn e phase last
ends-going e phase last going rank =
    record {
      rank = rank-in phase last rank;
      no_loss = going-open phase going;
      by_client = λ is. absurd (true≢false (sym going ∙ ap is_going is));
    }

pub ends-over : (e : Exchange) (stage : Stage) (last : ℕ) → stage_of e.command ≡ Some stage → (phase_over stage ≡ NoMessage → last ≤ 2) → EndsIn e (phase_over stage) last
ends-over e stage last at_stage rank =
    record { rank = rank; no_loss = open-over stage; by_client = λ is. ap is_client_stage at_stage ∙ client-over stage is }
  where
    open-over : (stage : Stage) → phase_over stage ≢ Closed
    open-over stages.Connect e = absurd cc
    open-over stages.Helo e = absurd cc
    open-over stages.Eob e = absurd cc
    open-over stage e = absurd cc

    client-over : (stage : Stage) → phase_over stage ≡ ClientOver → is_of_client stage ≡ true
    client-over stages.Connect e = refl
    client-over stages.Helo e = refl
    client-over stages.Eob e = absurd cc
    client-over stage e = absurd cc

module _ (offer : Options) (negotiated : Negotiated) where
  -- these exchanges were given, without a loss; where no message is under way a next one may begin, and where the client
  -- ended all, the filter was asked about it
  pub record HasExchanged (more before : List Exchange) (fed : List Fed) (faults : List CallFault) (t : Conversation) : Type 0 where
    pub transcript_is : t.transcript ≡ onto more before
    pub fed_is : t.fed ≡ fed ++ map fed_by_answer (answers_in more)
    pub channel_is : t.connection.channel ≡ idle offer negotiated (edits_in more)
    pub faults_is : t.faults ≡ faults
    pub rank : t.connection.phase ≡ NoMessage → t.connection.last_rank ≤ 2
    pub no_loss : t.connection.phase ≢ Closed
    pub by_client : t.connection.phase ≡ ClientOver → list_any about-client more ≡ true

  module _ (e : Exchange) (before : List Exchange) (fed : List Fed) (faults : List CallFault) where
    abbrev with_answer : Option Answer → Exchange
    with_answer answer = record { command = e.command; answer = answer }

    pub exchanged-none : e.answer ≡ None → (phase : Phase) (last : ℕ) → EndsIn e phase last
        → HasExchanged (e ∷ []) before fed faults (at offer negotiated phase last [] (e ∷ before) fed faults)
    exchanged-none none phase last ends =
        subst (λ (a : Option Answer). HasExchanged (with_answer a ∷ []) before fed faults (at offer negotiated phase last [] (with_answer a ∷ before) fed faults)) (sym none)
        (record {
          transcript_is = refl;
          fed_is = sym (append-nil fed);
          channel_is = refl;
          faults_is = refl;
          rank = ends.rank;
          no_loss = ends.no_loss;
          by_client = λ is. ap (λ (k : Bool). k || false) (ends.by_client is);
        })

    pub exchanged-some : (answer : Answer) → e.answer ≡ Some answer → (phase : Phase) (last : ℕ) → EndsIn e phase last
        → HasExchanged (e ∷ []) before fed faults (at offer negotiated phase last answer.edits (e ∷ before) (fed ++ fed_by_answer answer ∷ []) faults)
    exchanged-some answer some phase last ends =
        subst (λ (a : Option Answer). HasExchanged (with_answer a ∷ []) before fed faults (at offer negotiated phase last answer.edits (with_answer a ∷ before) (fed ++ fed_by_answer answer ∷ []) faults)) (sym some)
        (record {
          transcript_is = refl;
          fed_is = refl;
          channel_is = ap (idle offer negotiated) (sym (append-nil answer.edits));
          faults_is = refl;
          rank = ends.rank;
          no_loss = ends.no_loss;
          by_client = λ is. ap (λ (k : Bool). k || false) (ends.by_client is);
        })

    pub goes-none : e.answer ≡ None → (more : List Exchange) (t : Conversation) → HasExchanged more (e ∷ before) fed faults t → HasExchanged (e ∷ more) before fed faults t
    goes-none none more t is =
        let same : answers_in (e ∷ more) ≡ answers_in more = ap (λ (a : Option Answer). answers_in (with_answer a ∷ more)) none in
        record {
          transcript_is = is.transcript_is;
          fed_is = is.fed_is ∙ ap (λ (l : List Answer). fed ++ map fed_by_answer l) (sym same);
          channel_is = is.channel_is ∙ ap (λ (l : List Answer). idle offer negotiated (flat_map (λ (answer : Answer). answer.edits) l)) (sym same);
          faults_is = is.faults_is;
          rank = is.rank;
          no_loss = is.no_loss;
          by_client = λ over. ap (λ (k : Bool). about-client e || k) (is.by_client over) ∙ or-true (about-client e);
        }

    pub goes-some : (answer : Answer) → e.answer ≡ Some answer → answer.edits ≡ [] → (more : List Exchange) (t : Conversation)
        → HasExchanged more (e ∷ before) (fed ++ fed_by_answer answer ∷ []) faults t → HasExchanged (e ∷ more) before fed faults t
    goes-some answer some no_edits more t is =
        let same : answers_in (e ∷ more) ≡ answer ∷ answers_in more = ap (λ (a : Option Answer). answers_in (with_answer a ∷ more)) some in
        record {
          transcript_is = is.transcript_is;
          fed_is =
              is.fed_is
              ∙ append_assoc fed (fed_by_answer answer ∷ []) (map fed_by_answer (answers_in more))
              ∙ ap (λ (l : List Answer). fed ++ map fed_by_answer l) (sym same);
          channel_is =
              is.channel_is
              ∙ ap (λ (es : List Edit). idle offer negotiated (es ++ edits_in more)) (sym no_edits)
              ∙ ap (λ (l : List Answer). idle offer negotiated (flat_map (λ (answer : Answer). answer.edits) l)) (sym same);
          faults_is = is.faults_is;
          rank = is.rank;
          no_loss = is.no_loss;
          by_client = λ over. ap (λ (k : Bool). about-client e || k) (is.by_client over) ∙ or-true (about-client e);
        }
