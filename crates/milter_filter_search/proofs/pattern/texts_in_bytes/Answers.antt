use Rattle.milter_filter_search.proofs.Occurrences.{around_contained, contains_from}
use Rattle.milter_filter_search.proofs.pattern.texts_in_bytes.Goals as goal

pub returns-clause-around : goal.returns-clause-around
returns-clause-around c = contains_from

pub returns-clause-found : goal.returns-clause-found
returns-clause-found c = around_contained
