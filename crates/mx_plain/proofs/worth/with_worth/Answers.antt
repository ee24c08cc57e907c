use Rattle.std.proofs.Common.{◌≡◌, ◌∙◌}
use Rattle.mx_plain.specs.Figures.{joined, Plus, Times, value}
use Rattle.mx_plain.specs.Months.{sum_of}
use Rattle.mx_plain.specs.Base.{disc_factor}
use Rattle.mx_plain.proofs.worth.with_worth.Goals as goal

pub returns : goal.returns
unfolding sum_of
returns c b t flow p q m =
    let paid : c.times.result ≡ joined Times (value (flow t)) (value (disc_factor b t)) = c.times.ensures ∙ (λ i. joined Times (q i) ((m i).opening.disc_factor)) in
    c.plus.ensures ∙ (λ i. joined Plus (p i) (paid i))
