use Rattle.std.proofs.Common.{◌≡◌, drop}
use Rattle.mx_lex.specs.Fronts.{place_among}
use Rattle.mx_lex.proofs.front.place_among.Given as goal

abbrev pub invariant-loop-token : goal.invariant-loop-token
invariant-loop-token l = place_among l.source l.mark (drop l.token-index l.tokens) ≡ place_among l.source l.mark l.tokens
