-- The verdicts of a beginning of a dialogue are a beginning of its verdicts, and no answer has an edit that was not
-- negotiated.
use Rattle.std.proofs.Common.{List, [], ◌∷◌, ◌++◌, sym, ◌∙◌, append-nil, append_assoc}
use Rattle.milter_wire.specs.Stages.{stage_of}
use Rattle.milter_protocol.specs.Exchanges.{Exchange, onto}
use Rattle.milter_mta_outcome.specs.Dialogues.{acted, acted_at}
use Rattle.milter_world.specs.DialogueReports.{StartsWith}

pub acted-onto : (more dialogue : List Exchange) → StartsWith (acted dialogue) (acted (onto more dialogue))
acted-onto [] dialogue = record { others = []; whole = append-nil (acted dialogue) }
acted-onto (e ∷ more) dialogue =
    let rest = acted-onto more (e ∷ dialogue) in
    let here = acted_at (stage_of e.command) e.answer (e ∷ dialogue) in
    record { others = here ++ rest.others; whole = sym (append_assoc (acted dialogue) here rest.others) ∙ rest.whole }
