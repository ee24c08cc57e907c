use Rattle.mx_state_examples.proofs.Hiding.{parameter_hides, reference_outside}
use Rattle.mx_state_examples.proofs.Multiplying.{items_multiply, item_is_read, whole_decimal_is_bound, no_parameter_outside, too_many_arguments, no_input_in_item}
use Rattle.mx_state_examples.proofs.Choosing.{choice_takes_one, choice_reads_one}
use Rattle.mx_state_examples.proofs.Inheriting.{formula_looks_where_it_runs, taken_over_reads, fixed_target_stays}
use Rattle.mx_state_examples.proofs.Nested.{no_name_above, reference_to_cells, no_space_no_node}
use Rattle.mx_state_examples.proofs.Basing.{base_gives_source, base_gives_cells, added_reference, no_added_reference, wrong_base}
use Rattle.mx_state_examples.proofs.Replacing.{reference_over_parameter, parameter_is_replaced}
use Rattle.mx_state_examples.proofs.Globals.{model_reference_is_found}
use Rattle.mx_state_examples.proofs.Defaults.{default_is_bound, default_is_asked}
use Rattle.mx_state_examples.proofs.Putting.{input_is_bound, input_is_asked}
use Rattle.mx_state_examples.proofs.rows.rows.Goals as goal

pub returns : goal.returns
returns c = record {
  parameter_hides = parameter_hides;
  reference_outside = reference_outside;
  items_multiply = items_multiply;
  item_is_read = item_is_read;
  whole_decimal_is_bound = whole_decimal_is_bound;
  no_parameter_outside = no_parameter_outside;
  too_many_arguments = too_many_arguments;
  no_input_in_item = no_input_in_item;
  choice_takes_one = choice_takes_one;
  choice_reads_one = choice_reads_one;
  formula_looks_where_it_runs = formula_looks_where_it_runs;
  taken_over_reads = taken_over_reads;
  fixed_target_stays = fixed_target_stays;
  no_name_above = no_name_above;
  reference_to_cells = reference_to_cells;
  no_space_no_node = no_space_no_node;
  base_gives_source = base_gives_source;
  base_gives_cells = base_gives_cells;
  added_reference = added_reference;
  no_added_reference = no_added_reference;
  wrong_base = wrong_base;
  reference_over_parameter = reference_over_parameter;
  parameter_is_replaced = parameter_is_replaced;
  model_reference_is_found = model_reference_is_found;
  default_is_bound = default_is_bound;
  default_is_asked = default_is_asked;
  input_is_bound = input_is_bound;
  input_is_asked = input_is_asked;
}
