use Rattle.std.specs.List.Sorted.{IsPermutation}
use Rattle.std.proofs.Common.{subst}
use Rattle.milter_lists.specs.Collected.{Collected}
use Rattle.milter_lists.proofs.ListAnswers.{permuted_has, permuted_len}
use Rattle.milter_lists.proofs.list_builder.ListBuilder.build.Goals as goal

pub returns-in-Addresses-clause-len : goal.returns-in-Addresses-clause-len
returns-in-Addresses-clause-len c =
    permuted_len c.args.kind c.args.self c.build.result (λ e. let is = c.in-Addresses.is in cc)
    (subst (λ (k : Collected). IsPermutation k.keys c.build.result) c.self.view_is c.build.ensures.order)

pub returns-in-Addresses-clause-has : goal.returns-in-Addresses-clause-has
returns-in-Addresses-clause-has c =
    permuted_has c.args.kind c.args.self c.build.result (λ e. let is = c.in-Addresses.is in cc)
    (subst (λ (k : Collected). IsPermutation k.keys c.build.result) c.self.view_is c.build.ensures.order)

pub returns-in-Domains-clause-len : goal.returns-in-Domains-clause-len
returns-in-Domains-clause-len c =
    permuted_len c.args.kind c.args.self c.build-in-Domains.result (λ e. let is = c.in-Domains.is in cc)
    (subst (λ (k : Collected). IsPermutation k.keys c.build-in-Domains.result) c.self.view_is c.build-in-Domains.ensures.order)

pub returns-in-Domains-clause-has : goal.returns-in-Domains-clause-has
returns-in-Domains-clause-has c =
    permuted_has c.args.kind c.args.self c.build-in-Domains.result (λ e. let is = c.in-Domains.is in cc)
    (subst (λ (k : Collected). IsPermutation k.keys c.build-in-Domains.result) c.self.view_is c.build-in-Domains.ensures.order)

pub returns-in-Texts-clause-len : goal.returns-in-Texts-clause-len
returns-in-Texts-clause-len c =
    permuted_len c.args.kind c.args.self c.build-in-Texts.result (λ e. let is = c.in-Texts.is in cc)
    (subst (λ (k : Collected). IsPermutation k.keys c.build-in-Texts.result) c.self.view_is c.build-in-Texts.ensures.order)

pub returns-in-Texts-clause-has : goal.returns-in-Texts-clause-has
returns-in-Texts-clause-has c =
    permuted_has c.args.kind c.args.self c.build-in-Texts.result (λ e. let is = c.in-Texts.is in cc)
    (subst (λ (k : Collected). IsPermutation k.keys c.build-in-Texts.result) c.self.view_is c.build-in-Texts.ensures.order)
