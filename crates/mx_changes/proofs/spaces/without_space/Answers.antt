use Rattle.std.proofs.Common.{◌≡◌, ◌∙◌, ◌≤◌, ◌+◌, List, Some, ap, sym, subst, length, slice_get, refl, arith}
use Rattle.std.proofs.lemmas.Option.{slice_get_within}
use Rattle.mx_model.specs.Records.{Path, SpaceRecord}
use Rattle.mx_model.specs.Change.{is_within}
use Rattle.mx_model.specs.Indexed.{Kinds}
use Rattle.mx_model.proofs.KindLemmas.{table_there, tells_at}
use Rattle.mx_changes.specs.Kept.{IsLeft}
use Rattle.mx_changes.proofs.GoneSpaces.{AreLeft, cut_built, left_kept, left_passed}
use Rattle.mx_changes.proofs.spaces.without_space.Goals as goal
use Rattle.mx_changes.proofs.spaces.without_space.Goals.{then-not-is_within+in_ok-left+in_ok-push_left, else-not-is_within}

pub unreachable-requires-in_default-get : goal.unreachable-requires-in_default-get
unreachable-requires-in_default-get c =
    let text = c.args.text.now in
    let n = c.loop-place.place in
    let R : List SpaceRecord → Type 0 = λ zs. slice_get zs n ≡ Some c.in-Some.space.now in
    let at = subst R c.spaces-all.ensures (sym c.in-Some.ensures) in
    table_there text text.spaces c.kinds-tables.result.now n c.kinds-tables.ensures.kinds (slice_get_within text.spaces n c.in-Some.space.now at) (sym c.in_default-get.ensures)

pub loop-place-preserved : goal.loop-place-preserved
loop-place-preserved c =
    let tables = c.kinds-tables.result.now in
    let text = c.args.text.now in
    let path = c.args.path.now in
    let n = c.loop-place.place in
    let s = c.in-Some.space.now in
    let R : List SpaceRecord → Type 0 = λ zs. slice_get zs n ≡ Some s in
    let at = subst R c.spaces-all.ensures (sym c.in-Some.ensures) in
    let place = c.path-at.ensures ∙ ap (λ (z : SpaceRecord). z.path) c.get-in-loop-place-2.ensures in
    let tested = c.is_within.ensures ∙ ap (is_within path) place in
    elim c.if-not-is_within.branch [
      | then-not-is_within+in_ok-left+in_ok-push_left w ↦
          let kinds = c.in-Some-get.table.now in
          let rest = w.in_ok-left.left in
          let tells = tells_at text text.spaces tables n s kinds c.kinds-tables.ensures.kinds at (sym c.in-Some-get.ensures) in
          let Q : Path → Type 0 = λ p. IsLeft path p kinds rest in
          let pushed = w.in_ok-push_left.ensures in
          left_kept text path n s s kinds rest c.loop-place.spaces c.if-not-is_within.spaces c.loop-place.kinds c.if-not-is_within.kinds at refl tells (subst Q place w.in_ok-left.ensures) (sym tested ∙ w.if-not-is_within.true) (w.spaces-is ∙ pushed.spaces) (w.kinds-is ∙ pushed.tables) c.loop-place.invariant
      | else-not-is_within w ↦
          let passed = left_passed text path n s c.loop-place.spaces c.loop-place.kinds at (sym tested ∙ w.if-not-is_within.false) c.loop-place.invariant in
          let S : List SpaceRecord → Type 0 = λ zs. AreLeft text path (n + 1) zs c.loop-place.kinds in
          let T : List Kinds → Type 0 = λ ts. AreLeft text path (n + 1) c.if-not-is_within.spaces ts in
          subst T (sym w.kinds-is) (subst S (sym w.spaces-is) passed)
    ]

pub with_spaces-requires : goal.with_spaces-requires
with_spaces-requires c =
    let text = c.args.text.now in
    let long : length c.spaces-all.result.now ≡ length text.spaces = ap length c.spaces-all.ensures in
    let test = c.loop-place-test.false in
    let all : length text.spaces ≤ c.loop-place.place = omega arith in
    cut_built text _ c.args.path.now c.loop-place.place c.loop-place.spaces c.kinds-tables.result.now c.loop-place.kinds c.kinds-tables.ensures all c.loop-place.invariant refl
