-- What the options of two ends have in common: the smaller version, and the actions and the protocol bits that both
-- have.
use Rattle.std.specs.Prelude.{min}
use Rattle.std.specs.Int.Bits.{bit_and}
use Rattle.milter_wire.specs.declared.options.Options.{Options}

abbrev pub common : Options → Options → Options
common offer wants =
    record {
      version = min offer.version wants.version;
      actions = record { 0 = bit_and offer.actions.0 wants.actions.0 };
      protocol = record { 0 = bit_and offer.protocol.0 wants.protocol.0 };
    }
