use Rattle.std.proofs.Common.{◌≡◌, ◌∙◌, ap}
use Rattle.mx_plain.specs.declared.savings.Growth.{Growth}
use Rattle.mx_plain.specs.Figures.{joined, Plus, Times, value}
use Rattle.mx_plain.specs.Savings.{av_in_pp, av_end_pp, invested}
use Rattle.mx_plain.proofs.savings.Account.of.Goals as goal

pub returns : goal.returns
returns c g m v =
    let p = c.args.policy.now in
    let premium = c.premium_pp-premium_pp.ensures in
    let kept = ap (λ (x : Growth). x.kept) g in
    let inv = ap (λ (x : Growth). x.inv_mth) g in
    let paid = c.times.ensures ∙ (λ i. joined Times (premium i) (kept i)) in
    let start : c.plus-av_in_pp.result ≡ value (av_in_pp p c.args.t) = c.plus-av_in_pp.ensures ∙ (λ i. joined Plus (v i) (paid i)) in
    let put : c.invested-invested.result ≡ value (invested p c.args.t (av_in_pp p c.args.t)) = c.invested-invested.ensures c.args.t (av_in_pp p c.args.t) m start in
    let gain = c.times-2.ensures ∙ (λ i. joined Times (put i) (inv i)) in
    let close : c.plus-av_end_pp.result ≡ value (av_end_pp p c.args.t) = c.plus-av_end_pp.ensures ∙ (λ i. joined Plus (put i) (gain i)) in
    λ i. record { premium_pp = premium i; av_pp = v i; av_in_pp = start i; av_end_pp = close i }
