use Rattle.std.proofs.Common.{◌≡◌, length}
use Rattle.mx_grammar.specs.Reading.{turning}
use Rattle.mx_grammar.specs.LiteralParsers.{literal}
use Rattle.mx_grammar.specs.AddressParsers.{node_turn, node_by}
use Rattle.mx_grammar.proofs.address.node.Given as goal

abbrev pub invariant-loop-steps : goal.invariant-loop-steps
invariant-loop-steps l = turning (node_turn (literal l.levels)) l.found l.tokens ≡ node_by (literal l.levels) l.fn.tokens

abbrev pub decreases-loop-steps : goal.decreases-loop-steps
decreases-loop-steps l = length l.tokens
