use Rattle.std.proofs.Common.{◌≡◌, Some, arith, refl}
use Rattle.std.proofs.lemmas.Grind.{common_steps}
use Rattle.milter_c_objects.specs.Objects.{answer_of, filter_of}
use Rattle.milter_c.proofs.filter.deiruska_filter_answer.Goals as goal

pub returns-in-Err-clause-refused : goal.returns-in-Err-clause-refused
returns-in-Err-clause-refused c failed =
    let has_filter : filter_of c.args.filter.now ≡ Some c.in-Filter.connection =
    rw (← c.as_mut.ensures.value) (rw c.in-Filter.is refl) in
    let has_answer : answer_of c.args.answer.now ≡ Some c.in-Answer.given =
    rw (← c.as_mut-2.ensures.value) (rw c.in-Answer.is refl) in
    rw has_filter (λ stage asked. rw has_answer (record {
      fault = c.in-Err.fault;
      number = grind (arith, common_steps);
      broken = λ not_memory.
          rw (← c.replace.ensures.value) ((rw c.in-Err.is at (c.answer.ensures.breaks stage asked)) not_memory);
    }))
