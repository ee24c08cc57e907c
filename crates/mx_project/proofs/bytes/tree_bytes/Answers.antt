use Rattle.std.proofs.Common.{◌≡◌, ◌∙◌, Bool, [], sym, ap}
use Rattle.mx_model.specs.Records.{Path, SpaceRecord}
use Rattle.mx_model.specs.Change.{is_within}
use Rattle.mx_project.specs.Lines.{members_lines}
use Rattle.mx_project.proofs.Pieces.{passing_more, failing_more}
use Rattle.std.specs.List.{concat}
use Rattle.mx_print.specs.Texts.{Text}
use Rattle.std.proofs.Common.{List}
use Rattle.mx_project.proofs.bytes.tree_bytes.Goals as goal
use Rattle.mx_project.proofs.bytes.tree_bytes.Goals.{then-is_within+in_ok-push_members, else-is_within}

pub loop-place-preserved : goal.loop-place-preserved
loop-place-preserved c =
    let space : SpaceRecord = c.in-Some.space.now in
    let p : SpaceRecord → Bool = λ s. is_within c.args.top.now s.path in
    let told : p space ≡ c.is_within.result =
    sym (c.is_within.ensures ∙ ap (λ (path : Path). is_within c.args.top.now path) (c.path.ensures ∙ ap (λ (s : SpaceRecord). s.path) c.get-in-loop-place.ensures)) in
    elim c.if-is_within.branch [
      | then-is_within+in_ok-push_members w ↦
          rw (w.out-is, w.in_ok-push_members.ensures, w.get-then-is_within.ensures, c.loop-place.invariant)
          (passing_more c.args.spaces.now c.loop-place.place space p members_lines [] (sym c.in-Some.ensures) (told ∙ w.if-is_within.true))
      | else-is_within w ↦
          rw (w.out-is, c.loop-place.invariant)
          (ap (λ (ts : List Text). concat ts) (failing_more c.args.spaces.now c.loop-place.place space p members_lines (sym c.in-Some.ensures) (told ∙ w.if-is_within.false)))
    ]
