-- Over each text, a run asks the items on the way of a node first, and asks bound forms alone.
use Rattle.mx_model.specs.Records.{ModelRecord}
use Rattle.mx_model.specs.Keys.{key_result}
use Rattle.mx_state.specs.Model.{model_of}
use Rattle.mx_meaning.proofs.Sound.{asked_is_bound}
use Rattle.mx_suspended.specs.ItemsFirst.{ItemsFirst}
use Rattle.mx_frames.specs.Flights.{AsksInOrder}

pub asks_in_order : ItemsFirst → (text : ModelRecord) → AsksInOrder (model_of text)
asks_in_order items_first text = record { items = items_first (key_result text); bound = asked_is_bound (key_result text) }
