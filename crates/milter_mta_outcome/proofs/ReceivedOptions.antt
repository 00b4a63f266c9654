-- What is received of the reply to an offer is within the offer.
use Rattle.std.specs.Prelude.{nat_le, if◌then◌else◌}
use Rattle.std.proofs.Common.{◌≡◌, ◌≢◌, Bool, true, false, not, ◌&&◌, List, [], ◌∷◌, Ok, Err, Result, refl, ap, subst}
use Rattle.std.specs.Int.Bits.{bit_and}
use Rattle.std.proofs.lemmas.Bool.{and_from, and_parts, eq-eqb, eqb-true, le-leb, leb-true}
use Rattle.milter_wire.specs.declared.options.Actions.{Actions}
use Rattle.milter_wire.specs.declared.options.Options.{Options}
use Rattle.milter_wire.specs.declared.options.TheConstants.Actions.{SETSYMLIST}
use Rattle.milter_wire.specs.declared.symbol_lists.SymList.{SymList}
use Rattle.milter_wire.specs.declared.negotiation.Negotiated.{Negotiated}
use Rattle.milter_wire.specs.declared.reply.Reply.{Reply}
use Rattle.milter_wire.specs.declared.reply.Reply.TheVariants as replies
use Rattle.milter_wire.specs.Negotiation.{has_bit}
use Rattle.milter_protocol.specs.declared.permitted.TheConstants.{VERSION_MAX, VERSION_MIN}
use Rattle.milter_protocol.specs.Replies.{options_reply}
use Rattle.milter_mta_outcome.specs.declared.loss.MtaFault.{MtaFault}
use Rattle.milter_mta_outcome.specs.declared.loss.MtaFault.TheVariants.{Version, ActionsNotOffered, ProtocolNotOffered}
use Rattle.milter_mta_outcome.specs.ReceivedReplies.{IsWithinOffer, negotiated_by, is_known, is_offered, is_version_offered, may_have_lists, options_received}

-- ---- the tests, one after the other

record ArePassed (version actions protocol : Bool) (found negotiated : Negotiated) : Type 0 where
  version_is : version ≡ true
  actions_are : actions ≡ true
  protocol_is : protocol ≡ true
  same : found ≡ negotiated

passed : (version actions protocol : Bool) (found negotiated : Negotiated)
    → (if not version then Err Version else if not actions then Err ActionsNotOffered else if not protocol then Err ProtocolNotOffered else Ok found) ≡ Ok negotiated
    → ArePassed version actions protocol found negotiated
passed false actions protocol found negotiated e = absurd cc
passed true false protocol found negotiated e = absurd cc
passed true true false found negotiated e = absurd cc
passed true true true found negotiated e = record { version_is = refl; actions_are = refl; protocol_is = refl; same = cc }

all_pass : (version actions protocol : Bool) (is : Result Negotiated MtaFault) → version ≡ true → actions ≡ true → protocol ≡ true
    → (if not version then Err Version else if not actions then Err ActionsNotOffered else if not protocol then Err ProtocolNotOffered else is) ≡ is
all_pass false actions protocol is a b c = absurd cc
all_pass true false protocol is a b c = absurd cc
all_pass true true false is a b c = absurd cc
all_pass true true true is a b c = refl

lists-offered : (offer : Actions) (lists : List SymList) → may_have_lists offer lists ≡ true → lists ≢ [] → has_bit offer.0 SETSYMLIST.0 ≡ true
lists-offered offer [] e some = absurd (some refl)
lists-offered offer (list ∷ lists) e some = e

may-have : (offer : Actions) (lists : List SymList) → (lists ≢ [] → has_bit offer.0 SETSYMLIST.0 ≡ true) → may_have_lists offer lists ≡ true
may-have offer [] e = refl
may-have offer (list ∷ lists) e = e (λ none. absurd cc)

-- ---- the reply

pub record IsNegotiated (offer : Options) (reply : Reply) (negotiated : Negotiated) : Type 0 where
  pub reply_is : reply ≡ options_reply negotiated
  pub within : IsWithinOffer offer negotiated

negotiated-options : (offer options : Options) (lists : List SymList) (negotiated : Negotiated) → negotiated_by offer options lists ≡ Ok negotiated
    → IsNegotiated offer (replies.Options options lists) negotiated
negotiated-options offer options lists negotiated e =
    let found : Negotiated = record { options = options; lists = lists } in
    let is = passed (is_version_offered offer.version options.version) (is_offered offer.actions.0 options.actions.0 && may_have_lists offer.actions lists)
    (is_offered offer.protocol.0 options.protocol.0) found negotiated e in
    let version = and_parts (is_known options.version) (nat_le options.version offer.version) is.version_is in
    let known = and_parts (nat_le VERSION_MIN options.version) (nat_le options.version VERSION_MAX) version.0 in
    let actions = and_parts (is_offered offer.actions.0 options.actions.0) (may_have_lists offer.actions lists) is.actions_are in
    let within : IsWithinOffer offer found = record {
      version_from = leb-true VERSION_MIN options.version known.0;
      version_to = leb-true options.version VERSION_MAX known.1;
      version_offered = leb-true options.version offer.version version.1;
      actions = eqb-true (bit_and offer.actions.0 options.actions.0) options.actions.0 actions.0;
      protocol = eqb-true (bit_and offer.protocol.0 options.protocol.0) options.protocol.0 is.protocol_is;
      lists = lists-offered offer.actions lists actions.1;
    } in
    record {
      reply_is = ap options_reply is.same;
      within = subst (IsWithinOffer offer) is.same within;
    }

pub negotiated-on : (offer : Options) (reply : Reply) (negotiated : Negotiated) → options_received offer reply ≡ Ok negotiated → IsNegotiated offer reply negotiated
negotiated-on offer (replies.Options options lists) negotiated e = negotiated-options offer options lists negotiated e
negotiated-on offer other negotiated e = absurd cc

pub within-received : (offer : Options) (negotiated : Negotiated) → IsWithinOffer offer negotiated → options_received offer (options_reply negotiated) ≡ Ok negotiated
within-received offer negotiated is =
    let o = negotiated.options in
    all_pass (is_version_offered offer.version o.version) (is_offered offer.actions.0 o.actions.0 && may_have_lists offer.actions negotiated.lists) (is_offered offer.protocol.0 o.protocol.0) (Ok negotiated)
    (and_from (is_known o.version) (nat_le o.version offer.version)
    (and_from (nat_le VERSION_MIN o.version) (nat_le o.version VERSION_MAX) (le-leb VERSION_MIN o.version is.version_from) (le-leb o.version VERSION_MAX is.version_to))
    (le-leb o.version offer.version is.version_offered))
    (and_from (is_offered offer.actions.0 o.actions.0) (may_have_lists offer.actions negotiated.lists) (eq-eqb _ _ is.actions) (may-have offer.actions negotiated.lists is.lists))
    (eq-eqb _ _ is.protocol)
