use Rattle.mx_suspended.proofs.Steps.{answering_held, answering_input, starting, beginning, passing, passing_on, asking, giving, handing_down, answering_value, answering_fault, answering_no_such, answering_wrong_count, answering_ring, answering_too_deep, answering_full, staying_within, wanting_memory, closing}
use Rattle.mx_suspended.proofs.laws.laws.Goals as goal

pub returns : goal.returns
returns c = record {
  answering_held = answering_held;
  answering_input = answering_input;
  starting = starting;
  beginning = beginning;
  passing = passing;
  passing_on = passing_on;
  asking = asking;
  giving = giving;
  handing_down = handing_down;
  answering_value = answering_value;
  answering_fault = answering_fault;
  answering_no_such = answering_no_such;
  answering_wrong_count = answering_wrong_count;
  answering_ring = answering_ring;
  answering_too_deep = answering_too_deep;
  answering_full = answering_full;
  staying_within = staying_within;
  wanting_memory = wanting_memory;
  closing = closing;
}
