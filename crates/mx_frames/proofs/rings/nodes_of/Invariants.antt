use Rattle.std.proofs.Common.{◌≡◌, take}
use Rattle.mx_frames.specs.Flights.{frame_nodes}
use Rattle.mx_frames.proofs.rings.nodes_of.Given as goal

abbrev pub invariant-loop-frame : goal.invariant-loop-frame
invariant-loop-frame l = l.nodes ≡ frame_nodes (take l.frame-index l.frames)
