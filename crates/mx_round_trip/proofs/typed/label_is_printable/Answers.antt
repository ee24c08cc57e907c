use Rattle.mx_round_trip.proofs.PlainValues.{label_passes}
use Rattle.mx_round_trip.proofs.typed.label_is_printable.Goals as goal

pub returns : goal.returns
returns c = label_passes c.args.label.now c.as_slice-bytes.ensures.printable
