use Rattle.std.proofs.Common.{◌≡◌, ℕ, ◌+◌, ◌<◌, List, length, take, get_or, All, subst, sym, arith}
use Rattle.std.proofs.lemmas.List.Elements.{All-more}
use Rattle.std.proofs.lemmas.List.Sums.{sum_by_more}
use Rattle.milter_wire.specs.declared.command.Command.TheVariants as commands
use Rattle.milter_fields.specs.declared.header.Header.{Header}
use Rattle.milter_wire.specs.Command.{encoding}
use Rattle.milter_message.specs.LeadingSpace.{WholeFieldFits}
use Rattle.milter_mail.specs.WeightParts.{fields_weight}
use Rattle.milter_mail.proofs.weight.headers_len.Goals as goal

fit_more : (headers : List Header) (i : ℕ) (x : Header) → i < length headers → x ≡ get_or headers i x → All WholeFieldFits (take i headers) → WholeFieldFits x → All WholeFieldFits (take (i + 1) headers)
fit_more headers i x within here h k = All-more WholeFieldFits headers i x within h (subst WholeFieldFits here k)

weight_more : (headers : List Header) (i : ℕ) (x : Header) → i < length headers → x ≡ get_or headers i x → fields_weight (take (i + 1) headers) ≡ fields_weight (take i headers) + length (encoding (commands.Header x))
weight_more headers i x within here =
    subst (λ y. fields_weight (take (i + 1) headers) ≡ fields_weight (take i headers) + length (encoding (commands.Header y))) (sym here)
    (sum_by_more (λ header. length (encoding (commands.Header header))) headers i x within)

pub loop-header-preserved : goal.loop-header-preserved
loop-header-preserved c =
    let headers = c.args.headers.now in
    let i = c.loop-header.header-index in
    let known = c.in-Some.ensures in
    let more = weight_more headers i c.header-item.result c.loop-header-test.true c.header-item.is in
    record {
      fit = fit_more headers i c.header-item.result c.loop-header-test.true c.header-item.is c.loop-header.invariant.fit known.0;
      weight = omega (arith, more, known.1);
    }
