use Rattle.std.proofs.Common.{rules, Bool}
use Rattle.std.proofs.lemmas.List.Folds.{list_all-map}
use Rattle.mx_value.specs.Plain.{is_plain}
use Rattle.mx_value.specs.declared.value.Segment.TheFolds.{the_lemmas}
use Rattle.mx_value.proofs.plain.+plain.Goals as goal

pub is_plain-returns-in-Tup : goal.is_plain-returns-in-Tup
is_plain-returns-in-Tup t c = let e = list_all-map (λ (b : Bool). b) is_plain c.in-Tup.items in search (the_lemmas, rules, e)
