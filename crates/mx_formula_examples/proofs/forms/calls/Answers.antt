use Rattle.mx_formula_examples.proofs.CallWorked.{default_argument, global_reference_read, input_given, input_asked, generator_test, generator_scope, all_ends_early, no_sum, not_plain_inside, not_called, too_many_inside, too_few_inside, range_too_large, parameter_replaced}
use Rattle.mx_formula_examples.proofs.forms.calls.Goals as goal

pub returns-clause-default_argument : goal.returns-clause-default_argument
returns-clause-default_argument c = default_argument

pub returns-clause-global_reference_read : goal.returns-clause-global_reference_read
returns-clause-global_reference_read c = global_reference_read

pub returns-clause-input_given : goal.returns-clause-input_given
returns-clause-input_given c = input_given

pub returns-clause-input_asked : goal.returns-clause-input_asked
returns-clause-input_asked c = input_asked

pub returns-clause-generator_test : goal.returns-clause-generator_test
returns-clause-generator_test c = generator_test

pub returns-clause-generator_scope : goal.returns-clause-generator_scope
returns-clause-generator_scope c = generator_scope

pub returns-clause-all_ends_early : goal.returns-clause-all_ends_early
returns-clause-all_ends_early c = all_ends_early

pub returns-clause-no_sum : goal.returns-clause-no_sum
returns-clause-no_sum c = no_sum

pub returns-clause-not_plain_inside : goal.returns-clause-not_plain_inside
returns-clause-not_plain_inside c = not_plain_inside

pub returns-clause-not_called : goal.returns-clause-not_called
returns-clause-not_called c = not_called

pub returns-clause-too_many_inside : goal.returns-clause-too_many_inside
returns-clause-too_many_inside c = too_many_inside

pub returns-clause-too_few_inside : goal.returns-clause-too_few_inside
returns-clause-too_few_inside c = too_few_inside

pub returns-clause-range_too_large : goal.returns-clause-range_too_large
returns-clause-range_too_large c = range_too_large

pub returns-clause-parameter_replaced : goal.returns-clause-parameter_replaced
returns-clause-parameter_replaced c = parameter_replaced
