use Rattle.milter_filter_stream.proofs.macro_list.MacroList.value_at.Goals as goal

pub value-requires-clause-all : goal.value-requires-clause-all
value-requires-clause-all c = c.has_looked_at.ensures.0 c.if-has_looked_at.true
