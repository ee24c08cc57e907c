use Rattle.mx_answers.proofs.Unique.{one_answer, not_refused}
use Rattle.mx_answers.proofs.Alike.{one_step, right_alike}
use Rattle.mx_answers.proofs.Steps.{stays_right, value_ticks}
use Rattle.mx_answers.proofs.Records.{value_is_recorded, one_record, one_reads, input_reads_none}
use Rattle.mx_answers.proofs.Sifting.{holding, rolling_back}
use Rattle.mx_answers.proofs.Retaining.{record_stays, retained_is_right, sifted_by_keys}
use Rattle.mx_answers.proofs.Clearing.{cleared_is_right, sifted_by_scope, sifted_by_test}
use Rattle.mx_answers.proofs.laws.laws.Goals as goal

pub returns : goal.returns
returns c = record {
  one_answer = one_answer;
  not_refused = not_refused;
  one_step = one_step;
  right_is_alike = right_alike;
  stays_right = stays_right;
  value_ticks = value_ticks;
  retained_is_right = retained_is_right;
  cleared_is_right = cleared_is_right;
  value_is_recorded = value_is_recorded;
  one_record = one_record;
  record_stays = record_stays;
  one_reads = one_reads;
  input_reads_none = input_reads_none;
  holding = holding;
  rolling_back = rolling_back;
  sifted_by_keys = sifted_by_keys;
  sifted_by_scope = sifted_by_scope;
  sifted_by_test = sifted_by_test;
}
