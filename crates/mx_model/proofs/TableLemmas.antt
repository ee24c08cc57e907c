-- Tables gone over one by one.
use Rattle.std.proofs.Common.{◌≡◌, ◌≤◌, ℕ, ◌+◌, List, Some, length, slice_get, sym, subst}
use Rattle.std.specs.List.{All, AllWithin}
use Rattle.std.proofs.lemmas.Option.{get_or_from_slice_get}
use Rattle.std.proofs.lemmas.List.Elements.{AllWithin-more, AllWithin-upto, All-from_all_within}
use Rattle.mx_edit.specs.Rows.{TableRows}
use Rattle.mx_edit.specs.Table.{IsTable}
use Rattle.mx_model.specs.Records.{Name}

abbrev Keeps : Name × TableRows → Type 0
Keeps t = IsTable t.1

pub one_more : (tables : List (Name × TableRows)) (place : ℕ) (t : Name × TableRows) → slice_get tables place ≡ Some t → IsTable t.1 → AllWithin Keeps tables 0 place → AllWithin Keeps tables 0 (place + 1)
one_more tables place t at is before = AllWithin-more Keeps tables 0 place before (λ d. subst Keeps (sym (get_or_from_slice_get tables place t d at)) is)

pub all_of : (tables : List (Name × TableRows)) (place : ℕ) → length tables ≤ place → AllWithin Keeps tables 0 place → All Keeps tables
all_of tables place l before = All-from_all_within Keeps tables (AllWithin-upto Keeps tables 0 place (length tables) l before)
