use Rattle.std.proofs.Common.{◌≢◌, ◌+◌, ◌-◌, ◌/◌, ◌%◌, ◌∷◌, ◌++◌, [], ◌∙◌, sym, ap, append-nil, append_assoc, List, ℕ}
use Rattle.mx_print.specs.Values.{padded}
use Rattle.mx_print.proofs.TextLemmas.{padded_none, padded_more}
use Rattle.mx_print.proofs.nodes.+push_padded.Goals as goal

pub returns-then-digits-eq0 : goal.returns-then-digits-eq0
returns-then-digits-eq0 g t c = rw (padded_none c.args.digits c.args.number c.if-digits-eq0.true) (sym (append-nil (g.S.Sink.written c.args.out.now)))

pub returns : goal.returns
returns g t c =
    let some : c.args.digits ≢ 0 = c.if-digits-eq0.false in
    let front = padded (c.args.digits - 1) (c.args.number / 10) in
    let last = (48 + c.args.number % 10) ∷ [] in
    rw (padded_more c.args.digits c.args.number some)
    (c.in_default-push.ensures ∙ ap (λ (u : List ℕ). u ++ last) c.in_default.ensures ∙ append_assoc (g.S.Sink.written c.args.out.now) front last)
