use Rattle.milter_filter_search.proofs.text_case.is_text.Goals as goal

pub returns-in-Ignored : goal.returns-in-Ignored
returns-in-Ignored c = rw c.in-Ignored.is c.is_ignoring_case.ensures
