use Rattle.std.proofs.Common.{◌∙◌}
use Rattle.std.specs.Prelude.{option_copied}
use Rattle.mx_engine.proofs.Askers.{input_told, is_some_map}
use Rattle.mx_engine.proofs.successors.is_input.Goals as goal

pub returns : goal.returns
returns c = c.is_some.ensures ∙ is_some_map (λ x. x.now) c.input.result ∙ input_told c.args.world.now c.text.ensures.valid c.args.node.now (option_copied c.input.result) c.input.ensures
