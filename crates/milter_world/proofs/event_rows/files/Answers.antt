use Rattle.std.proofs.Common.{[], ◌∷◌, codes, refl, arith}
use Rattle.milter_world.specs.declared.event_line.Event.TheVariants.{Dial, Lose}
use Rattle.milter_world.specs.Rounds.{rounds}
use Rattle.milter_world.specs.EventFile.{LineHasEvents}
use Rattle.milter_world.specs.WorkedEvents.{plain}
use Rattle.milter_world.proofs.WorkedLines.{no_blanks, one_blank, plain_word}
use Rattle.milter_world.proofs.event_rows.files.Goals as goal

dial_line : LineHasEvents (codes "dial") (Dial ∷ [])
dial_line = record {
  words = plain (codes "dial" ∷ []);
  has_words = plain_word [] (codes "dial") [] [] no_blanks refl tt no_blanks;
  events_are = refl;
}

rounds_line : LineHasEvents (codes "rounds 2 100") (rounds 2 100)
rounds_line = record {
  words = plain (codes "rounds" ∷ codes "2" ∷ codes "100" ∷ []);
  has_words =
      plain_word [] (codes "rounds") (codes " 2 100") (plain (codes "2" ∷ codes "100" ∷ [])) no_blanks refl refl
      (plain_word (codes " ") (codes "2") (codes " 100") (plain (codes "100" ∷ [])) one_blank refl refl
      (plain_word (codes " ") (codes "100") [] [] one_blank refl tt no_blanks));
  events_are = refl;
}

spaced_line : LineHasEvents (codes " dial ") (Dial ∷ [])
spaced_line = record {
  words = plain (codes "dial" ∷ []);
  has_words = plain_word (codes " ") (codes "dial") (codes " ") [] one_blank refl refl one_blank;
  events_are = refl;
}

lose_line : LineHasEvents (codes "lose") (Lose ∷ [])
lose_line = record {
  words = plain (codes "lose" ∷ []);
  has_words = plain_word [] (codes "lose") [] [] no_blanks refl tt no_blanks;
  events_are = refl;
}

pub returns-clause-rounds : goal.returns-clause-rounds
returns-clause-rounds c = record {
  parts = (Dial ∷ []) ∷ rounds 2 100 ∷ [];
  have_parts = (dial_line, (rounds_line, tt));
  joined = refl;
  few = omega arith;
}

pub returns-clause-skipped : goal.returns-clause-skipped
returns-clause-skipped c = record {
  parts = (Dial ∷ []) ∷ (Lose ∷ []) ∷ [];
  have_parts = (spaced_line, (lose_line, tt));
  joined = refl;
  few = omega arith;
}
