use Rattle.std.proofs.Common.{rules, Bool}
use Rattle.std.proofs.lemmas.List.Folds.{list_all-map}
use Rattle.mx_value.specs.declared.value.Segment.TheFolds.{the_lemmas}
use Rattle.mx_round_trip.specs.PlainValues.{is_typed, is_typed_segment}
use Rattle.mx_round_trip.proofs.typed.+typed.Goals as goal

pub cells_are_typed-returns : goal.cells_are_typed-returns
cells_are_typed-returns t c = let e = list_all-map (λ (b : Bool). b) is_typed_segment c.args.cells.now.space in search (the_lemmas, rules, e)

pub segment_is_typed-returns-in-Item : goal.segment_is_typed-returns-in-Item
segment_is_typed-returns-in-Item t c = let e = list_all-map (λ (b : Bool). b) is_typed c.in-Item.items in search (the_lemmas, rules, e)

pub value_is_typed-returns-in-Tup : goal.value_is_typed-returns-in-Tup
value_is_typed-returns-in-Tup t c = let e = list_all-map (λ (b : Bool). b) is_typed c.in-Tup.items in search (the_lemmas, rules, e)

pub value_is_typed-returns-in-Space : goal.value_is_typed-returns-in-Space
value_is_typed-returns-in-Space t c = let e = list_all-map (λ (b : Bool). b) is_typed_segment c.in-Space.at in search (the_lemmas, rules, e)
