use Rattle.mx_formula_examples.proofs.FormWorked.{powers_from_right, power_asks_from_left, sign_of_power, sign_within_power, chain_of_neighbours, chain_ends_early, chain_asks_once, none_is_none, zero_is_none, zero_is_not_none, or_ends_early, and_ends_early, or_gives_last, and_gives_last, double_not, tuple_from_left}
use Rattle.mx_formula_examples.proofs.ChoiceWorked.{if_taken, elif_taken, else_taken, fault_at_elif, local_set, unset_local, change_reads_first, loop_name_stays, loop_name_unset, end_gives_none}
use Rattle.mx_formula_examples.proofs.forms.forms.Goals as goal

pub returns-clause-powers_from_right : goal.returns-clause-powers_from_right
returns-clause-powers_from_right c = powers_from_right

pub returns-clause-power_asks_from_left : goal.returns-clause-power_asks_from_left
returns-clause-power_asks_from_left c = power_asks_from_left

pub returns-clause-sign_of_power : goal.returns-clause-sign_of_power
returns-clause-sign_of_power c = sign_of_power

pub returns-clause-sign_within_power : goal.returns-clause-sign_within_power
returns-clause-sign_within_power c = sign_within_power

pub returns-clause-chain_of_neighbours : goal.returns-clause-chain_of_neighbours
returns-clause-chain_of_neighbours c = chain_of_neighbours

pub returns-clause-chain_ends_early : goal.returns-clause-chain_ends_early
returns-clause-chain_ends_early c = chain_ends_early

pub returns-clause-chain_asks_once : goal.returns-clause-chain_asks_once
returns-clause-chain_asks_once c = chain_asks_once

pub returns-clause-none_is_none : goal.returns-clause-none_is_none
returns-clause-none_is_none c = none_is_none

pub returns-clause-zero_is_none : goal.returns-clause-zero_is_none
returns-clause-zero_is_none c = zero_is_none

pub returns-clause-zero_is_not_none : goal.returns-clause-zero_is_not_none
returns-clause-zero_is_not_none c = zero_is_not_none

pub returns-clause-or_ends_early : goal.returns-clause-or_ends_early
returns-clause-or_ends_early c = or_ends_early

pub returns-clause-and_ends_early : goal.returns-clause-and_ends_early
returns-clause-and_ends_early c = and_ends_early

pub returns-clause-or_gives_last : goal.returns-clause-or_gives_last
returns-clause-or_gives_last c = or_gives_last

pub returns-clause-and_gives_last : goal.returns-clause-and_gives_last
returns-clause-and_gives_last c = and_gives_last

pub returns-clause-double_not : goal.returns-clause-double_not
returns-clause-double_not c = double_not

pub returns-clause-tuple_from_left : goal.returns-clause-tuple_from_left
returns-clause-tuple_from_left c = tuple_from_left

pub returns-clause-if_taken : goal.returns-clause-if_taken
returns-clause-if_taken c = if_taken

pub returns-clause-elif_taken : goal.returns-clause-elif_taken
returns-clause-elif_taken c = elif_taken

pub returns-clause-else_taken : goal.returns-clause-else_taken
returns-clause-else_taken c = else_taken

pub returns-clause-fault_at_elif : goal.returns-clause-fault_at_elif
returns-clause-fault_at_elif c = fault_at_elif

pub returns-clause-local_set : goal.returns-clause-local_set
returns-clause-local_set c = local_set

pub returns-clause-unset_local : goal.returns-clause-unset_local
returns-clause-unset_local c = unset_local

pub returns-clause-change_reads_first : goal.returns-clause-change_reads_first
returns-clause-change_reads_first c = change_reads_first

pub returns-clause-loop_name_stays : goal.returns-clause-loop_name_stays
returns-clause-loop_name_stays c = loop_name_stays

pub returns-clause-loop_name_unset : goal.returns-clause-loop_name_unset
returns-clause-loop_name_unset c = loop_name_unset

pub returns-clause-end_gives_none : goal.returns-clause-end_gives_none
returns-clause-end_gives_none c = end_gives_none
