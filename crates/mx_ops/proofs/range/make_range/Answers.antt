use Rattle.std.proofs.Common.{◌≡◌, ◌≢◌, ◌∙◌, pos, ap, sym, arith, FitsSigned, to_z-of_z, Ok}
use Rattle.std.specs.Int.{w64}
use Rattle.std.proofs.lemmas.Int.{ints}
use Rattle.mx_value.specs.declared.value.Value.TheVariants as made
use Rattle.mx_ops.specs.Ranges.{range, range_length, numbers_from}
use Rattle.mx_ops.proofs.Counts.{too_large, within, number-fits, is_given}
use Rattle.mx_ops.proofs.range.make_range.Goals as goal

pub returns-then-count-gt-MOST_NUMBERS : goal.returns-then-count-gt-MOST_NUMBERS
returns-then-count-gt-MOST_NUMBERS c =
    let ff : FitsSigned w64 c.args.from = c.ranges.from in
    let ft : FitsSigned w64 c.args.to = c.ranges.to in
    let fs : FitsSigned w64 c.args.step = c.ranges.step in
    let count : c.range_length-count.result ≡ range_length c.args.from c.args.to c.args.step = simp to_z-of_z at c.range_length-count.ensures in
    let e : c.args.step ≢ pos 0 = omega (arith, ints) in
    too_large c.args.from c.args.to c.args.step e (omega (arith, count))

pub numbers_from-requires-clause-fits : goal.numbers_from-requires-clause-fits
numbers_from-requires-clause-fits c =
    let ff : FitsSigned w64 c.args.from = c.ranges.from in
    let ft : FitsSigned w64 c.args.to = c.ranges.to in
    let fs : FitsSigned w64 c.args.step = c.ranges.step in
    let count : c.range_length-count.result ≡ range_length c.args.from c.args.to c.args.step = simp to_z-of_z at c.range_length-count.ensures in
    let e : c.args.step ≢ pos 0 = omega (arith, ints) in
    λ i h. simp to_z-of_z (number-fits c.args.from c.args.to c.args.step ff ft e i (omega (arith, count, h)))

pub returns-in-Ok : goal.returns-in-Ok
returns-in-Ok c =
    let ff : FitsSigned w64 c.args.from = c.ranges.from in
    let ft : FitsSigned w64 c.args.to = c.ranges.to in
    let fs : FitsSigned w64 c.args.step = c.ranges.step in
    let count : c.range_length-count.result ≡ range_length c.args.from c.args.to c.args.step = simp to_z-of_z at c.range_length-count.ensures in
    let e : c.args.step ≢ pos 0 = omega (arith, ints) in
    let numbers : c.in-Ok.numbers ≡ numbers_from c.args.from c.args.step c.range_length-count.result = simp to_z-of_z at c.in-Ok.ensures in
    within c.args.from c.args.to c.args.step e (omega (arith, count))
    ∙ ap (λ items. Ok (made.Tup items)) (sym (numbers ∙ ap (numbers_from c.args.from c.args.step) count))

pub returns-in-Err : goal.returns-in-Err
returns-in-Err c =
    let ff : FitsSigned w64 c.args.from = c.ranges.from in
    let ft : FitsSigned w64 c.args.to = c.ranges.to in
    let fs : FitsSigned w64 c.args.step = c.ranges.step in
    let count : c.range_length-count.result ≡ range_length c.args.from c.args.to c.args.step = simp to_z-of_z at c.range_length-count.ensures in
    let e : c.args.step ≢ pos 0 = omega (arith, ints) in
    is_given (range c.args.from c.args.to c.args.step) _ (within c.args.from c.args.to c.args.step e (omega (arith, count)))
