use Rattle.std.proofs.Common.{◌≡◌, ◌++◌, List, ℕ, sym, subst, arith}
use Rattle.std.specs.Prelude.{OnOk}
use Rattle.mx_print.proofs.TextLemmas.{decimals_short, decimals_last, decimals_more}
use Rattle.mx_print.proofs.nodes.+push_decimals.Goals as goal

pub returns-then-digits-le1 : goal.returns-then-digits-le1
returns-then-digits-le1 g t c =
    subst (λ (u : List ℕ). OnOk c.push_padded.result ((g.S.Sink.written c.push_padded.new.out) ≡ (g.S.Sink.written c.args.out.now) ++ u)) (sym (decimals_short c.args.digits c.args.number c.if-digits-le1.true)) c.push_padded.ensures

pub returns-then-number-ne0 : goal.returns-then-number-ne0
returns-then-number-ne0 g t c =
    subst (λ (u : List ℕ). OnOk c.push_padded-then-number-ne0.result ((g.S.Sink.written c.push_padded-then-number-ne0.new.out) ≡ (g.S.Sink.written c.args.out.now) ++ u)) (sym (decimals_last c.args.digits c.args.number c.if-number-ne0.true)) c.push_padded-then-number-ne0.ensures

pub returns : goal.returns
returns g t c =
    subst (λ (u : List ℕ). OnOk c.push_decimals.result ((g.S.Sink.written c.push_decimals.new.out) ≡ (g.S.Sink.written c.args.out.now) ++ u)) (sym (decimals_more c.args.digits c.args.number (omega arith) c.if-number-ne0.false)) c.push_decimals.ensures
