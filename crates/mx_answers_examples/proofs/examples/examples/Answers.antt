use Rattle.mx_answers_examples.proofs.Proved.{runs_meet_premises, asker_gives_the_input, asker_ends_only_so, input_is_not_held, circle_is_a_ring, no_run_is_allowed, held_is_right, change_drops, same_change_keeps}
use Rattle.mx_answers_examples.proofs.examples.examples.Goals as goal

pub returns : goal.returns
returns c = record {
  runs_meet_premises = runs_meet_premises;
  asker_gives_the_input = asker_gives_the_input;
  asker_ends_only_so = asker_ends_only_so;
  input_is_not_held = input_is_not_held;
  circle_is_a_ring = circle_is_a_ring;
  no_run_is_allowed = no_run_is_allowed;
  held_is_right = held_is_right;
  change_drops = change_drops;
  same_change_keeps = same_change_keeps;
}
