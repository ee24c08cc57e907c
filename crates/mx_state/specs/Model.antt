-- The meaning of a model text: what nodes mean where keys lead to what they lead to there.
use Rattle.mx_runs.specs.Runs.{Model}
use Rattle.mx_meaning.specs.Laws.{model_of as over}
use Rattle.mx_model.specs.Records.{ModelRecord}
use Rattle.mx_model.specs.Keys.{key_result}

abbrev pub model_of : ModelRecord → Model
model_of text = over (key_result text)
