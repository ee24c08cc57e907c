-- What becomes of a text after the last line of its model file.
use Rattle.std.proofs.Common.{◌≡◌, ℕ, ◌+◌, Bool, true, false, List, [], ◌∷◌, map, length, Option, Some, None, Result, Ok, Err, inl, inr, refl, sym, ◌∙◌, ap, subst, arith, if◌then◌else◌}
use Rattle.std.specs.Prelude.{sum, nat_lt}
use Rattle.std.specs.List.{sum_by}
use Rattle.std.specs.Option.{option_or}
use Rattle.std.proofs.lemmas.List.Sums.{sum-map, sum_by-cons}
use Rattle.mx_value.specs.declared.value.Value.{Value}
use Rattle.mx_value.specs.declared.node.Node.{Node}
use Rattle.mx_edit.specs.Rows.{TableRows}
use Rattle.mx_edit.specs.declared.reference.RefValue.{RefValue}
use Rattle.mx_edit.specs.declared.refusal.EditRefusal.{EditRefusal}
use Rattle.mx_edit.specs.declared.refusal.EditRefusal.TheVariants as refusal
use Rattle.mx_edit.specs.declared.refusal.Limit.{Limit}
use Rattle.mx_edit.specs.declared.refusal.Limit.TheVariants as limit
use Rattle.mx_c3.specs.Lists.{Has}
use Rattle.mx_model.specs.Records.{Name, CellsRecord, SpaceRecord, ModelRecord}
use Rattle.mx_model.specs.Rings.{HasNoRing}
use Rattle.mx_model.specs.Counts.{cell_total, reference_total, over}
use Rattle.mx_model.specs.Apply.{IsCounted}
use Rattle.mx_whole_edits.specs.Laid.{IsLaid}
use Rattle.mx_prepare.specs.Prepared.{IsWalked}
use Rattle.mx_prepare.specs.Completed.{tables_over, over_with, Becomes, IsStopped, IsComplete, Completes, CountsAreThose}

-- ---- numbers

first_none : (front rest : Option Limit) → option_or front rest ≡ None → front ≡ None
first_none (Some l) rest e = e
first_none None rest e = refl

pub counted : (text : ModelRecord) (tables : ℕ) → HasNoRing text → over_with text tables ≡ None → IsCounted text
counted text tables none few = record { no_ring = none; few = first_none (over text) (tables_over tables) few }

-- the first of these numbers that passes its greatest
abbrev first : ℕ → ℕ → ℕ → ℕ → ℕ → Option Limit
first spaces cells references tables inputs =
    if nat_lt 4000 spaces then Some limit.Spaces
    else if nat_lt 10000 cells then Some limit.Cells
    else if nat_lt 20000 references then Some limit.Refs
    else if nat_lt 100 tables then Some limit.Tables
    else if nat_lt 1000000 inputs then Some limit.Inputs
    else None

-- of spaces and tables, these come after those
either : (b : Bool) (tables : ℕ) → (if b then Some limit.Spaces else tables_over tables) ≡ option_or (if b then Some limit.Spaces else None) (tables_over tables)
either true tables = refl
either false tables = refl

split : (spaces tables : ℕ) → first spaces 0 0 tables 0 ≡ option_or (first spaces 0 0 0 0) (tables_over tables)
split spaces tables = either (nat_lt 4000 spaces) tables

total_none : (f : SpaceRecord → ℕ) (spaces : List SpaceRecord) → ((s : SpaceRecord) → Has spaces s → f s ≡ 0) → sum (map f spaces) ≡ 0
total_none f [] all = refl
total_none f (s ∷ spaces) all =
    let here : f s ≡ 0 = all s (inl refl) in
    let rest : sum (map f spaces) ≡ 0 = total_none f spaces (λ x h. all x (inr h)) in
    let whole : sum (map f (s ∷ spaces)) ≡ sum_by f (s ∷ spaces) = sum-map f (s ∷ spaces) in
    let parts : sum_by f (s ∷ spaces) ≡ f s + sum_by f spaces = sum_by-cons f s spaces in
    let others : sum (map f spaces) ≡ sum_by f spaces = sum-map f spaces in
    omega arith

module _ (text : ModelRecord) (laid : IsLaid text) where
  no_cells : cell_total text.spaces ≡ 0
  no_cells = total_none (λ (s : SpaceRecord). length s.cells) text.spaces (λ s h. ap (λ (z : SpaceRecord). length z.cells) (laid.bare.spaces s h))

  no_references : reference_total text.spaces ≡ 0
  no_references = total_none (λ (s : SpaceRecord). length s.references) text.spaces (λ s h. ap (λ (z : SpaceRecord). length z.references) (laid.bare.spaces s h))

  no_globals : length text.globals ≡ 0
  no_globals = ap (λ (t : ModelRecord). length t.globals) laid.bare.rest

  none_at_all : length text.globals + reference_total text.spaces ≡ 0
  none_at_all =
      let a : length text.globals ≡ 0 = no_globals in
      let b : reference_total text.spaces ≡ 0 = no_references in
      omega arith

  no_inputs : length text.inputs ≡ 0
  no_inputs = ap (λ (t : ModelRecord). length t.inputs) laid.bare.rest

  no_tables : length text.tables ≡ 0
  no_tables = ap (λ (t : ModelRecord). length t.tables) laid.bare.rest

  -- with so many tables
  over_as : (tables : ℕ) → first (length text.spaces) (cell_total text.spaces) (length text.globals + reference_total text.spaces) tables (length text.inputs) ≡ first (length text.spaces) 0 0 tables 0
  over_as tables =
      let spaces = length text.spaces in
      let references = length text.globals + reference_total text.spaces in
      let inputs = length text.inputs in
      ap (λ (n : ℕ). first spaces n references tables inputs) no_cells
      ∙ ap (λ (n : ℕ). first spaces 0 n tables inputs) none_at_all
      ∙ ap (λ (n : ℕ). first spaces 0 0 tables n) no_inputs

  over_alone : over text ≡ first (length text.spaces) 0 0 0 0
  over_alone = over_as (length text.tables) ∙ ap (λ (n : ℕ). first (length text.spaces) 0 0 n 0) no_tables

  over_tables : (tables : List (Name × TableRows)) → over (record text { tables = tables }) ≡ over_with text (length tables)
  over_tables tables =
      over_as (length tables)
      ∙ split (length text.spaces) (length tables)
      ∙ ap (λ (l : Option Limit). option_or l (tables_over (length tables))) (sym over_alone)

pub counts_are_those : CountsAreThose
counts_are_those text tables laid = over_tables text laid tables

-- ---- the walk

module _ (text : ModelRecord) (tables : ℕ) (none : HasNoRing text) (few : over_with text tables ≡ None) where
  stopped : (why : EditRefusal) → IsWalked text (Err why) → Completes text tables (Err why)
  stopped refusal.NoMemory w = tt
  stopped refusal.BadName w = IsStopped refusal.BadName none few w
  stopped refusal.NoSuchSpace w = IsStopped refusal.NoSuchSpace none few w
  stopped refusal.NoSuchMember w = IsStopped refusal.NoSuchMember none few w
  stopped refusal.NameTaken w = IsStopped refusal.NameTaken none few w
  stopped refusal.WrongCount w = IsStopped refusal.WrongCount none few w
  stopped refusal.ItemAddress w = IsStopped refusal.ItemAddress none few w
  stopped refusal.BadValue w = IsStopped refusal.BadValue none few w
  stopped (refusal.InUse path) w = IsStopped (refusal.InUse path) none few w
  stopped (refusal.Cycle ring) w = IsStopped (refusal.Cycle ring) none few w
  stopped (refusal.TooMany l) w = IsStopped (refusal.TooMany l) none few w
  stopped (refusal.NoOrder path) w = IsStopped (refusal.NoOrder path) none few w

  pub completed : (answer : Result ModelRecord EditRefusal) → IsWalked text answer → Completes text tables answer
  completed (Ok made) w = subst (λ (t : ModelRecord). Becomes text tables (Ok t)) (sym w.0) (IsComplete none few w.1)
  completed (Err why) w = stopped why w
