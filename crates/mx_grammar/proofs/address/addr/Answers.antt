use Rattle.std.proofs.Common.{rules, arith, sym, ◌∙◌, ◌≡◌, ap, length, ◌<◌}
use Rattle.std.proofs.lemmas.Grind.{common_steps}
use Rattle.std.proofs.lemmas.Result.{err_from_is_err_and}
use Rattle.mx_grammar.specs.LiteralParsers.{literal}
use Rattle.mx_grammar.specs.AddressParsers.{addr_turn}
use Rattle.mx_grammar.proofs.Exact.{read}
use Rattle.mx_grammar.proofs.Loops.{loop_on, loop_done, loop_err}
use Rattle.mx_grammar.proofs.Languages.{addr_shorter, goes_on, goes_out}
use Rattle.mx_grammar.proofs.address.addr.Goals as goal

pub returns-in_err-addr_turn : goal.returns-in_err-addr_turn
returns-in_err-addr_turn c =
    let p = err_from_is_err_and c.from_residual.result c.from_residual.ensures.1 in
    rw (p.1, p.2) (λ n. sym c.loop-found.invariant ∙ loop_err (addr_turn (literal c.args.levels)) (addr_shorter c.args.levels c.requires) c.loop-found.found c.loop-found.tokens c.in_err-addr_turn.field-0.0 (c.in_err-addr_turn.ensures n))

pub loop-found-smaller : goal.loop-found-smaller
loop-found-smaller c =
    let turn = goes_on (addr_turn (literal c.args.levels) c.loop-found.found c.loop-found.tokens) c.in_ok-addr_turn.field-0 c.addr_turn.new.found c.addr_turn.new.tokens c.if-branch.true c.in_ok-addr_turn.ensures in
    let less : length c.addr_turn.new.tokens < length c.loop-found.tokens = addr_shorter c.args.levels c.requires c.loop-found.found c.loop-found.tokens c.addr_turn.new.tokens c.addr_turn.new.found turn in
    less

pub loop-found-preserved : goal.loop-found-preserved
loop-found-preserved c =
    let turn = goes_on (addr_turn (literal c.args.levels) c.loop-found.found c.loop-found.tokens) c.in_ok-addr_turn.field-0 c.addr_turn.new.found c.addr_turn.new.tokens c.if-branch.true c.in_ok-addr_turn.ensures in
    sym (loop_on (addr_turn (literal c.args.levels)) (addr_shorter c.args.levels c.requires) c.loop-found.found c.addr_turn.new.found c.loop-found.tokens c.addr_turn.new.tokens turn) ∙ c.loop-found.invariant

pub returns : goal.returns
returns c =
    let turn = goes_out (addr_turn (literal c.args.levels) c.loop-found.found c.loop-found.tokens) c.in_ok-addr_turn.field-0 c.addr_turn.new.found c.addr_turn.new.tokens c.if-branch.false c.in_ok-addr_turn.ensures in
    let same : c.addr_turn.new.found ≡ c.in_ok-from_vec.field-0 = first_of (search rules, grind (arith, common_steps)) in
    sym c.loop-found.invariant ∙ loop_done (addr_turn (literal c.args.levels)) (addr_shorter c.args.levels c.requires) c.loop-found.found c.addr_turn.new.found c.loop-found.tokens c.addr_turn.new.tokens turn ∙ ap (λ s. read (s, c.addr_turn.new.tokens)) same
