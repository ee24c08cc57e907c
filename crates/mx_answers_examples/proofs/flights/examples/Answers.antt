use Rattle.mx_answers_examples.proofs.FlightsProved.{outer_gives, inner_is_too_deep, held_breaks_the_chain, held_needs_no_run, input_needs_no_run, fault_keeps_the_inner, no_such_keeps_nothing, no_such_is_closed, ring_is_without_the_lead}
use Rattle.mx_answers_examples.proofs.flights.examples.Goals as goal

pub returns : goal.returns
returns c = record {
  outer_gives = outer_gives;
  inner_is_too_deep = inner_is_too_deep;
  held_breaks_the_chain = held_breaks_the_chain;
  held_needs_no_run = held_needs_no_run;
  input_needs_no_run = input_needs_no_run;
  fault_keeps_the_inner = fault_keeps_the_inner;
  no_such_keeps_nothing = no_such_keeps_nothing;
  no_such_is_closed = no_such_is_closed;
  ring_is_without_the_lead = ring_is_without_the_lead;
}
