-- The payload of a reply, by its layout: its bytes, and what its layout asks of its parts.
use Rattle.std.specs.Prelude.{ℕ, List, [], ◌++◌}
use Rattle.milter_fields.specs.Number.{number}
use Rattle.milter_fields.specs.Field.{string, HasNoNul}
use Rattle.milter_fields.specs.Layout.{header, HeaderFits, IndexedFits, arguments, AddressedFits, ReplyCodeFits}
use Rattle.milter_wire.specs.OptionsPayload.{options_with_lists, OptionsWithListsFit}
use Rattle.milter_wire.specs.declared.payload.PayloadRef.{PayloadRef}
use Rattle.milter_wire.specs.declared.payload.PayloadRef.TheVariants.{Empty, Bytes, String, Code, Addressed, Header, Indexed, Options}

abbrev pub payload_bytes : PayloadRef → List ℕ
payload_bytes Empty = []
payload_bytes (Bytes bytes) = bytes.now
payload_bytes (String text) = string text.now
payload_bytes (Code text) = string text.now
payload_bytes (Addressed address args) = string address.now ++ arguments args.now
payload_bytes (Header h) = header h.now
payload_bytes (Indexed index h) = number index ++ header h.now
payload_bytes (Options o lists) = options_with_lists o.now lists.now

abbrev pub PayloadFits : PayloadRef → Type 0
PayloadFits Empty = Unit {0}
PayloadFits (Bytes bytes) = Unit {0}
PayloadFits (String text) = HasNoNul text.now
PayloadFits (Code text) = ReplyCodeFits text.now
PayloadFits (Addressed address args) = AddressedFits address.now args.now
PayloadFits (Header h) = HeaderFits h.now
PayloadFits (Indexed index h) = IndexedFits index h.now
PayloadFits (Options o lists) = OptionsWithListsFit o.now lists.now
