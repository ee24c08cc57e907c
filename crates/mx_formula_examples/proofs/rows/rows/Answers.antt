use Rattle.mx_formula_examples.proofs.Worked.{reference_alone, parameter_hides, parameter_is_no_key, relative_target, fixed_target, formula_at_home, formula_taken_over, table_entry, base_gives_cells, references_are_added}
use Rattle.mx_formula_examples.proofs.FurtherWorked.{circle_ring, circle_nothing, mended_means, item_ring, chosen, target_at_home, target_taken_over, no_name_found, cells_targeted, item_is_bound}
use Rattle.mx_formula_examples.proofs.LoopWorked.{looped, summed, decided_early, fault_at_line_3, none_is_a_fault, none_is_allowed, bad_base, no_such_item, wrong_item_count}
use Rattle.mx_formula_examples.proofs.rows.rows.Goals as goal

pub returns-clause-reference_alone : goal.returns-clause-reference_alone
returns-clause-reference_alone c = reference_alone

pub returns-clause-parameter_hides : goal.returns-clause-parameter_hides
returns-clause-parameter_hides c = parameter_hides

pub returns-clause-parameter_is_no_key : goal.returns-clause-parameter_is_no_key
returns-clause-parameter_is_no_key c = parameter_is_no_key

pub returns-clause-relative_target : goal.returns-clause-relative_target
returns-clause-relative_target c = relative_target

pub returns-clause-fixed_target : goal.returns-clause-fixed_target
returns-clause-fixed_target c = fixed_target

pub returns-clause-formula_at_home : goal.returns-clause-formula_at_home
returns-clause-formula_at_home c = formula_at_home

pub returns-clause-formula_taken_over : goal.returns-clause-formula_taken_over
returns-clause-formula_taken_over c = formula_taken_over

pub returns-clause-table_entry : goal.returns-clause-table_entry
returns-clause-table_entry c = table_entry

pub returns-clause-base_gives_cells : goal.returns-clause-base_gives_cells
returns-clause-base_gives_cells c = base_gives_cells

pub returns-clause-references_are_added : goal.returns-clause-references_are_added
returns-clause-references_are_added c = references_are_added

pub returns-clause-circle : goal.returns-clause-circle
returns-clause-circle c = circle_ring

pub returns-clause-circle_means_nothing : goal.returns-clause-circle_means_nothing
returns-clause-circle_means_nothing c = circle_nothing

pub returns-clause-mended : goal.returns-clause-mended
returns-clause-mended c = mended_means

pub returns-clause-item_circle : goal.returns-clause-item_circle
returns-clause-item_circle c = item_ring

pub returns-clause-chosen : goal.returns-clause-chosen
returns-clause-chosen c = chosen

pub returns-clause-target_at_home : goal.returns-clause-target_at_home
returns-clause-target_at_home c = target_at_home

pub returns-clause-target_taken_over : goal.returns-clause-target_taken_over
returns-clause-target_taken_over c = target_taken_over

pub returns-clause-no_name_found : goal.returns-clause-no_name_found
returns-clause-no_name_found c = no_name_found

pub returns-clause-cells_targeted : goal.returns-clause-cells_targeted
returns-clause-cells_targeted c = cells_targeted

pub returns-clause-item_is_bound : goal.returns-clause-item_is_bound
returns-clause-item_is_bound c = item_is_bound

pub returns-clause-looped : goal.returns-clause-looped
returns-clause-looped c = looped

pub returns-clause-summed : goal.returns-clause-summed
returns-clause-summed c = summed

pub returns-clause-decided_early : goal.returns-clause-decided_early
returns-clause-decided_early c = decided_early

pub returns-clause-fault_at_line_3 : goal.returns-clause-fault_at_line_3
returns-clause-fault_at_line_3 c = fault_at_line_3

pub returns-clause-none_is_a_fault : goal.returns-clause-none_is_a_fault
returns-clause-none_is_a_fault c = none_is_a_fault

pub returns-clause-none_is_allowed : goal.returns-clause-none_is_allowed
returns-clause-none_is_allowed c = none_is_allowed

pub returns-clause-bad_base : goal.returns-clause-bad_base
returns-clause-bad_base c = bad_base

pub returns-clause-no_such_item : goal.returns-clause-no_such_item
returns-clause-no_such_item c = no_such_item

pub returns-clause-wrong_item_count : goal.returns-clause-wrong_item_count
returns-clause-wrong_item_count c = wrong_item_count
