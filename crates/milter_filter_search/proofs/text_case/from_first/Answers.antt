use Rattle.std.proofs.Common.{arith}
use Rattle.std.proofs.lemmas.Bool.{false_from_ne_true}
use Rattle.std.proofs.lemmas.List.{take_rest}
use Rattle.milter_filter_search.proofs.FirstBytes.{nowhere, skipped}
use Rattle.milter_filter_search.proofs.text_case.from_first.Goals as goal

pub returns-in-Some-clause-same : goal.returns-in-Some-clause-same
returns-in-Some-clause-same c = λ tail.
    rw (take_rest c.args.bytes.now c.in-Some.start)
    (skipped c.args.first tail c.args.bytes.now c.in-Some.start (omega (arith, c.in-Some.ensures.0.high))
    (λ i lt. false_from_ne_true _ (c.in-Some.ensures.0.before i (omega arith) lt)))

pub returns-in-None-clause-same : goal.returns-in-None-clause-same
returns-in-None-clause-same c = λ tail.
    nowhere c.args.first tail c.args.bytes.now (λ i lt. false_from_ne_true _ (c.in-None.ensures i (omega arith) lt))
