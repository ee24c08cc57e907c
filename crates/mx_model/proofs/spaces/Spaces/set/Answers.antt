use Rattle.std.proofs.Common.{◌≡◌, ◌∙◌, ◌≤◌, ◌+◌, ℕ, length, map, set, sym, ap, arith}
use Rattle.std.specs.Prelude.{sum}
use Rattle.mx_model.specs.Records.{SpaceRecord}
use Rattle.mx_model.specs.Counts.{cell_total, reference_total}
use Rattle.mx_model.proofs.Totals.{part, put}
use Rattle.mx_model.proofs.spaces.Spaces.set.Goals as goal

pub replaced-requires : goal.replaced-requires
replaced-requires c =
    let count : SpaceRecord → ℕ = λ s. length s.cells in
    let all = c.self.inside.all in
    let old = c.in-Some.old.now in
    let sum_is : c.self.inside.cells ≡ sum (map count all) = c.self.invariant.0 in
    let old_is : c.cells_of.result ≡ count old = c.cells_of.ensures in
    let within : count old ≤ sum (map count all) = part count all c.args.at old (sym c.in-Some.ensures) in
    omega arith

pub replaced-requires-2 : goal.replaced-requires-2
replaced-requires-2 c =
    let count : SpaceRecord → ℕ = λ s. length s.references in
    let all = c.self.inside.all in
    let old = c.in-Some.old.now in
    let sum_is : c.self.inside.references ≡ sum (map count all) = c.self.invariant.1 in
    let old_is : c.references_of.result ≡ count old = c.references_of.ensures in
    let within : count old ≤ sum (map count all) = part count all c.args.at old (sym c.in-Some.ensures) in
    omega arith

pub invariant_of-self-2 : goal.invariant_of-self-2
invariant_of-self-2 c =
    let all = c.self.inside.all in
    let at = c.args.at in
    let old = c.in-Some.old.now in
    let new = c.args.space in
    let there = sym c.in-Some.ensures in
    let made : c.set.new.self ≡ set all at new = c.in_ok-set.ensures.ok in
    let cells : SpaceRecord → ℕ = λ s. length s.cells in
    let cells_were : c.self.inside.cells ≡ sum (map cells all) = c.self.invariant.0 in
    let own_cells : c.cells_of.result ≡ cells old = c.cells_of.ensures in
    let new_cells : c.cells_of-2.result ≡ cells new = c.cells_of-2.ensures in
    let cells_more : c.in_ok-cells.cells + c.cells_of.result ≡ c.self.inside.cells + c.cells_of-2.result = c.in_ok-cells.ensures in
    let cells_put : sum (map cells (set all at new)) + cells old ≡ sum (map cells all) + cells new = put cells all at old there new in
    let cells_are : c.in_ok-cells.cells ≡ sum (map cells (set all at new)) = omega arith in
    let references : SpaceRecord → ℕ = λ s. length s.references in
    let references_were : c.self.inside.references ≡ sum (map references all) = c.self.invariant.1 in
    let own_references : c.references_of.result ≡ references old = c.references_of.ensures in
    let new_references : c.references_of-2.result ≡ references new = c.references_of-2.ensures in
    let references_more : c.in_ok-references.references + c.references_of.result ≡ c.self.inside.references + c.references_of-2.result = c.in_ok-references.ensures in
    let references_put : sum (map references (set all at new)) + references old ≡ sum (map references all) + references new = put references all at old there new in
    let references_are : c.in_ok-references.references ≡ sum (map references (set all at new)) = omega arith in
    (cells_are ∙ ap cell_total (sym made), references_are ∙ ap reference_total (sym made))
