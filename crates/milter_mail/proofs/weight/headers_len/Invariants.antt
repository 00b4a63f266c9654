use Rattle.std.proofs.Common.{◌≡◌, ◌-◌, ◌^◌, All, min, take}
use Rattle.milter_message.specs.LeadingSpace.{WholeFieldFits}
use Rattle.milter_mail.specs.WeightParts.{fields_weight}
use Rattle.milter_mail.proofs.weight.headers_len.Given as goal

abbrev pub invariant-loop-header : goal.invariant-loop-header
invariant-loop-header l = record {
  fit : All WholeFieldFits (take l.header-index l.headers);
  weight : l.total ≡ min (fields_weight (take l.header-index l.headers)) (2 ^ 64 - 1);
}
