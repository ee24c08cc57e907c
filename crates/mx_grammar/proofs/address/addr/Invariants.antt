use Rattle.std.proofs.Common.{◌≡◌, length}
use Rattle.mx_grammar.specs.Reading.{turning}
use Rattle.mx_grammar.specs.LiteralParsers.{literal}
use Rattle.mx_grammar.specs.AddressParsers.{addr_turn, addr}
use Rattle.mx_grammar.proofs.address.addr.Given as goal

abbrev pub invariant-loop-found : goal.invariant-loop-found
invariant-loop-found l = turning (addr_turn (literal l.levels)) l.found l.tokens ≡ addr (literal l.levels) l.fn.tokens

abbrev pub decreases-loop-found : goal.decreases-loop-found
decreases-loop-found l = length l.tokens
