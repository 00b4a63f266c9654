-- What a lawful filter answers to an offer is received as what both ends have.
use Rattle.std.specs.Prelude.{if◌then◌else◌}
use Rattle.std.proofs.Common.{◌≡◌, ◌≢◌, ◌≤◌, ℕ, Bool, true, false, [], ◌++◌, length, Ok, refl, sym, ap, ◌∙◌, arith, length-append}
use Rattle.std.specs.Int.Bits.{bit_and}
use Rattle.std.specs.List.{flat_map}
use Rattle.std.proofs.lemmas.List.Elements.{All-nil}
use Rattle.std.proofs.lemmas.Nat.{and_assoc}
use lib.Bits.{and_le_r, and_self}
use Rattle.milter_fields.specs.Number.{number}
use Rattle.milter_fields.proofs.Numbers.{length-number}
use Rattle.milter_wire.specs.declared.options.Options.{Options}
use Rattle.milter_wire.specs.declared.options.TheConstants.Actions.{SETSYMLIST}
use Rattle.milter_wire.specs.SharedOptions.{common}
use Rattle.milter_wire.specs.OptionsPayload.{OptionsFit, SymListFits, options, sym_list}
use Rattle.milter_wire.specs.declared.negotiation.Negotiated.{Negotiated}
use Rattle.milter_wire.specs.declared.reply.Reply.TheVariants as replies
use Rattle.milter_wire.specs.Negotiation.{negotiate, has_bit}
use Rattle.milter_wire.specs.Reply.{Fits}
use Rattle.milter_protocol.specs.Behavior.{Behavior}
use Rattle.milter_protocol.specs.declared.permitted.TheConstants.{VERSION_MAX, VERSION_MIN}
use Rattle.milter_protocol.specs.Lawful.{WantsWithin}
use Rattle.milter_protocol.specs.Replies.{options_reply}
use Rattle.milter_mta_outcome.specs.ReceivedReplies.{IsWithinOffer, options_received}
use Rattle.milter_mta_outcome.proofs.ReceivedOptions.{within-received}

-- bits that both have are among those of each
and-part : (a b : ℕ) → bit_and a (bit_and a b) ≡ bit_and a b
and-part a b = sym (and_assoc b a a) ∙ ap (λ (n : ℕ). bit_and n b) (and_self a)

module _ (offer : Options) (b : Behavior) (wants : WantsWithin b) (from : VERSION_MIN ≤ offer.version) (to : offer.version ≤ VERSION_MAX) where
  abbrev negotiated : Negotiated
  negotiated = negotiate offer b.wants b.lists

  within : IsWithinOffer offer negotiated
  within =
      let low = wants.version_from in
      record {
        version_from = omega (arith, from, low);
        version_to = omega (arith, to);
        version_offered = omega arith;
        actions = and-part offer.actions.0 b.wants.actions.0;
        protocol = and-part offer.protocol.0 b.wants.protocol.0;
        lists = by_bit (has_bit offer.actions.0 SETSYMLIST.0) refl;
      }
    where
      by_bit : (has : Bool) → has_bit offer.actions.0 SETSYMLIST.0 ≡ has → (if has then b.lists else []) ≢ [] → has_bit offer.actions.0 SETSYMLIST.0 ≡ true
      by_bit true e some = e
      by_bit false e some = absurd (some refl)

  pub negotiated-received : options_received offer (options_reply negotiated) ≡ Ok negotiated
  negotiated-received = within-received offer negotiated within

  options_fit : OptionsFit (common offer b.wants)
  options_fit =
      let all = wants.reply.fields.options in
      let version = all.version in
      let actions = all.actions in
      let protocol = all.protocol in
      let fewer = and_le_r offer.actions.0 b.wants.actions.0 in
      let less = and_le_r offer.protocol.0 b.wants.protocol.0 in
      record {
        version = omega (arith, version);
        actions = omega (arith, actions, fewer);
        protocol = omega (arith, protocol, less);
      }

  -- options take twelve bytes
  twelve : (o : Options) → length (options o) ≡ 12
  twelve o =
      let first = length-append (number o.version) (number o.actions.0) in
      let all = length-append (number o.version ++ number o.actions.0) (number o.protocol.0) in
      let v = length-number o.version in
      let a = length-number o.actions.0 in
      let p = length-number o.protocol.0 in
      omega (arith, first, all, v, a, p)

  pub negotiated-fits : Fits (options_reply negotiated)
  negotiated-fits = by_bit (has_bit offer.actions.0 SETSYMLIST.0)
    where
      by_bit : (has : Bool) → Fits (replies.Options (common offer b.wants) (if has then b.lists else []))
      by_bit true =
          let both = length-append (options (common offer b.wants)) (flat_map sym_list b.lists) in
          let whole = length-append (options b.wants) (flat_map sym_list b.lists) in
          let ours = twelve (common offer b.wants) in
          let theirs = twelve b.wants in
          let bound = wants.reply.payload in
          record {
            fields = record { options = options_fit; lists = wants.reply.fields.lists };
            payload = omega (arith, both, whole, ours, theirs, bound);
          }
      by_bit false =
          let both = length-append (options (common offer b.wants)) (flat_map sym_list []) in
          let ours = twelve (common offer b.wants) in
          record {
            fields = record { options = options_fit; lists = All-nil SymListFits };
            payload = omega (arith, both, ours);
          }
