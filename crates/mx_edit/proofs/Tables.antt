-- Tables: the parts of a look-up together.
use Rattle.std.proofs.Common.{◌≡◌, ℕ, ℤ, List, Option}
use Rattle.mx_value.specs.declared.value.Value.{Value}
use Rattle.mx_edit.specs.Rows.{TableRows}
use Rattle.mx_edit.specs.Table.{item_at, place_of, place_of_key, entry_at}

pub entry_found : (t : TableRows) (columns : List (List ℕ)) (keys : List ℤ) (rows : List (List Value)) (key k : ℤ) (name : List ℕ) (row place : Option ℕ) (answer : Option Value) → k ≡ key → columns ≡ t.columns → keys ≡ t.keys → rows ≡ t.rows → row ≡ place_of_key keys k → place ≡ place_of columns name → answer ≡ item_at rows row place → answer ≡ entry_at t key name
entry_found t columns keys rows key k name row place answer same cs ks rs row_is place_is is = cc
