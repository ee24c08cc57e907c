use Rattle.std.proofs.Common.{◌≡◌, ◌∙◌, sym, ap}
use Rattle.mx_meaning.specs.Namespaces.{Overlay, overlaid}
use Rattle.mx_lookup.proofs.Overlaying.{overlaid_by_more}
use Rattle.mx_lookup.proofs.overlays.overlay_with.Goals as goal

pub loop-name-preserved : goal.loop-name-preserved
loop-name-preserved c =
    let o = c.loop-name-item.result in
    let made : c.overlay.new.all.items ≡ overlaid c.loop-name.all.items o.0 o.1 = rw (c.in_ok-copy.ensures, c.in_ok-copy-2.ensures) at c.in_ok-overlay.ensures in
    made ∙ ap (λ (ps : Overlay). overlaid ps o.0 o.1) c.loop-name.invariant
    ∙ sym (overlaid_by_more c.args.under.now c.as_slice-name-items.result.now c.loop-name.name-index o c.loop-name-test.true c.loop-name-item.is)
