-- What a line makes of a place in a list of patterns.
use Rattle.std.specs.Prelude.{ℕ, Bool, not, ◌||◌, ◌&&◌, List}
use Rattle.milter_mta_client.specs.Patterns.{is_gap, stands_for}
use Rattle.milter_mta_client.specs.declared.places.Step.{Step}

-- A place stays open where it was, or the one before it stays so, and its pattern is a gap; and it is open where the
-- line led to it. The line leads on from a place that was open, where its pattern stands for the line.
abbrev pub stays_at : Bool → Bool → List ℕ → Bool
stays_at stays is_open pattern = (is_open || stays) && is_gap pattern

abbrev pub step_over : Step → Bool → List ℕ → List ℕ → Step
step_over last was_open pattern line = record {
  is_open = stays_at last.stays was_open pattern || last.leads_on;
  stays = stays_at last.stays was_open pattern;
  leads_on = (was_open || last.stays) && (not (is_gap pattern) && stands_for pattern line);
}
