use Rattle.std.proofs.Common.{drop}
use Rattle.mx_runs.specs.Lists.{Has}
use Rattle.mx_frames.specs.Flights.{frame_nodes}
use Rattle.mx_frames.proofs.rings.frames_from.Given as goal

abbrev pub invariant-loop-at : goal.invariant-loop-at
invariant-loop-at l = Has (frame_nodes l.frames) l.node → Has (frame_nodes (drop l.at l.frames)) l.node
