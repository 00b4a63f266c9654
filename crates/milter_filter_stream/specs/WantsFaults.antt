-- The rules that break what a filter wants.
use Rattle.std.specs.Prelude.{◌≡◌, ◌≢◌, ◌<◌, ◌⊎◌, false, [], length}
use Rattle.std.specs.Int.Bits.{bit_and}
use Rattle.milter_fields.specs.declared.number.TheConstants.{PAYLOAD_MAX}
use Rattle.milter_wire.specs.OptionsPayload.{OptionsWithListsFit, options_with_lists}
use Rattle.milter_wire.specs.declared.options.TheConstants.Actions.{SETSYMLIST}
use Rattle.milter_wire.specs.Negotiation.{has_bit}
use Rattle.milter_protocol.specs.Questions.{Wanted}
use Rattle.milter_protocol.specs.declared.permitted.TheConstants.{ACTIONS_MAX, PROTOCOL_MAX, VERSION_MAX, VERSION_MIN}
use Rattle.milter_filter_stream.specs.declared.wants_fault.WantsFault.{WantsFault}
use Rattle.milter_filter_stream.specs.declared.wants_fault.WantsFault.TheVariants as faults

-- the rule of this fault is broken
abbrev pub WantsBreak : Wanted → WantsFault → Type 0
WantsBreak w faults.Version = (w.options.version < VERSION_MIN) ⊎ (VERSION_MAX < w.options.version)
WantsBreak w faults.Action = bit_and w.options.actions.0 ACTIONS_MAX ≢ w.options.actions.0
WantsBreak w faults.Protocol = bit_and w.options.protocol.0 PROTOCOL_MAX ≢ w.options.protocol.0
WantsBreak w faults.Lists = (w.lists ≢ []) × (has_bit w.options.actions.0 SETSYMLIST.0 ≡ false)
WantsBreak w faults.BadText = OptionsWithListsFit w.options w.lists → ⊥
WantsBreak w faults.TooLong = PAYLOAD_MAX < length (options_with_lists w.options w.lists)
