use Rattle.std.proofs.Common.{length, sym, ◌∙◌, ap, Some}
use Rattle.mx_model.specs.Records.{Path}
use Rattle.mx_model.specs.Readers.{path_in}
use Rattle.mx_engine.proofs.Ordering.{below_at, paths_next}
use Rattle.mx_engine.proofs.order.paths_of.Goals as goal

pub path_of-requires : goal.path_of-requires
path_of-requires c = below_at (length c.args.text.now.spaces) c.args.spaces.now c.as_slice-s-items.result.now c.loop-s.s-index (record { 0 = 0 }) c.requires c.as_slice-s-items.ensures c.loop-s-test.true

pub loop-s-preserved : goal.loop-s-preserved
loop-s-preserved c =
    paths_next (path_in c.args.text.now) c.as_slice-s-items.result.now c.loop-s.s-index (record { 0 = 0 }) c.loop-s.paths.items c.push.new.self.items c.in_ok-copy.field-0 c.loop-s.invariant c.loop-s-test.true
    (c.path_of.ensures ∙ ap (λ (p : Path). Some p) (sym c.in_ok-copy.ensures)) c.in_ok-push.ensures.items
