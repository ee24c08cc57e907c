use Rattle.mx_memo_laws.proofs.Nodes.{held_is_entered, entered_is_held, new_is_not_entered, entry_is_of_body, body_is_entered, one_under_id, body_is_of_node, asks_are_entered, as_many_entries, order_is_of_held, read_is_entered}
use Rattle.mx_memo_laws.proofs.Growing.{holding, last_is_held, grown_from_itself, grows_by_holding, held_stays, entries_stay, rolling_back}
use Rattle.mx_memo_laws.proofs.Sifting.{retained}
use Rattle.mx_memo_laws.proofs.Scopes.{cleared}
use Rattle.mx_memo_laws.proofs.Stamps.{renumbering}
use Rattle.mx_memo_laws.proofs.Readers.{namespace_is_entered, no_namespace_is_held, askers_are_entered, readers_are_entered}
use Rattle.mx_memo_laws.proofs.laws.laws.Goals as goal

pub returns : goal.returns
returns c = record {
  held_is_entered = held_is_entered;
  entered_is_held = entered_is_held;
  new_is_not_entered = new_is_not_entered;
  entry_is_of_body = entry_is_of_body;
  body_is_entered = body_is_entered;
  one_under_id = one_under_id;
  body_is_of_node = body_is_of_node;
  asks_are_entered = asks_are_entered;
  as_many_entries = as_many_entries;
  order_is_of_held = order_is_of_held;
  read_is_entered = read_is_entered;
  holding = holding;
  last_is_held = last_is_held;
  grown_from_itself = grown_from_itself;
  grows_by_holding = grows_by_holding;
  held_stays = held_stays;
  entries_stay = entries_stay;
  rolling_back = rolling_back;
  retention = retained;
  clearing = cleared;
  renumbering = renumbering;
  namespace_is_entered = namespace_is_entered;
  no_namespace_is_held = no_namespace_is_held;
  askers_are_entered = askers_are_entered;
  readers_are_entered = readers_are_entered;
}
