use Rattle.mx_round_trip.proofs.typed.plain_value_reads_back.Goals as goal

pub returns : goal.returns
returns c = λ plain nesting. c.plain_values_read_back.ensures c.args.value.now (record { plain = plain; typed = c.value_is_typed.ensures; nesting = nesting })
