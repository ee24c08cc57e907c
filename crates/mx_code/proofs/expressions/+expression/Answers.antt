use Rattle.std.proofs.Common.{◌≡◌, ◌-◌, List, [], ◌∷◌, ◌++◌, map, drop, length, reverse, refl, sym, ap, ◌∙◌, subst, arith}
use Rattle.std.specs.Prelude.{OnOk, true, false, option_map}
use Rattle.std.proofs.lemmas.List.{length-reverse}
use Rattle.mx_syntax.specs.declared.expr.Expr.{Expr}
use Rattle.mx_syntax.specs.declared.expr.Expr.TheVariants as form
use Rattle.mx_syntax.specs.declared.expr.Arm.{Arm, out-Arm}
use Rattle.mx_syntax.specs.declared.expr.Comparison.{Comparison}
use Rattle.mx_syntax.specs.declared.expr.PowerPart.{PowerPart, out-PowerPart}
use Rattle.mx_syntax.specs.declared.expr.ProductPart.{ProductPart, out-ProductPart}
use Rattle.mx_syntax.specs.declared.expr.SumPart.{SumPart, out-SumPart}
use Rattle.mx_syntax.specs.declared.expr.Trailer.{Trailer}
use Rattle.mx_syntax.specs.declared.expr.Sign.{Sign}
use Rattle.mx_value.specs.declared.label.Label.{Label}
use Rattle.mx_code.specs.declared.action.Instr.{Instr}
use Rattle.mx_code.specs.declared.action.Action.TheVariants as act
use Rattle.mx_code.specs.declared.action.Local.{Local}
use Rattle.mx_code.specs.Names.{with_name}
use Rattle.mx_code.specs.Operators.{compare_op, sum_op, product_op}
use Rattle.mx_code.specs.Expressions.{at, Coded, Part, Behind, value_of, values_code, beside, choice_code, behind_code, part_code, chain_code, joined_code, powered_code, signs_code, arms_code, trailed_code, called_before, compare_action, Generator, filter_code, first_then, post_part}
use Rattle.mx_code.specs.Parts.{arm_code, comparison_code, power_code, product_code, sum_code, trailer_code, args_code}
use Rattle.mx_code.proofs.Putting.{in_front, one_more, more_put, joined_more, sum_is, product_is, power_is, arm_is, code-called, code-index, code-attr, coded_long, further_more, link_by, link_none, as_part, arms_same, code-op, code-is-none, code-is-not-none, code-gen, code-cond, code-not, code-compare, code-sum, code-product, code-signed, code-power, code-post, over_put}
use Rattle.mx_code.proofs.Stacking.{choice_put}
use Rattle.mx_code.proofs.expressions.+expression.Goals as goal

pub put_chain-loop-i-preserved-in-Continue-branch-3 : goal.put_chain-loop-i-preserved-in-Continue-branch-3
put_chain-loop-i-preserved-in-Continue-branch-3 t c =
    link_by c.args.comparisons.now c.loop-i.i (c.loop-i.i - 1) c.since-behind.result c.len-end.result c.index-comparisons-i.result (compare_op c.in-Op.op) (part_code c.in-Op.right false) c.args.scope.now c.args.line c.args.code.now.items c.loop-i.code.items c.put-in-Op.new.code.items c.put_part.new.code.items
    (omega (arith, c.loop-i-test.true)) c.loop-i.auto.i c.index-comparisons-i.is (ap comparison_code c.in-Op.is ∙ code-op c.in-Op.op c.in-Op.right) (omega (arith, c.len-end.ensures)) c.since-behind.ensures c.loop-i.invariant
    (c.in_ok-put-in-Op.ensures ∙ ap (λ a. at c.args.line a ∷ reverse c.loop-i.code.items) (c.comparing.ensures ∙ ap (λ o. compare_action o c.since-behind.result) c.compare_op.ensures)) c.in_ok-put_part-in-Op.ensures

pub put_chain-loop-i-preserved-in-Continue-branch-4 : goal.put_chain-loop-i-preserved-in-Continue-branch-4
put_chain-loop-i-preserved-in-Continue-branch-4 t c =
    link_none c.args.comparisons.now c.loop-i.i (c.loop-i.i - 1) c.since-behind.result c.len-end.result c.index-comparisons-i.result true c.args.scope.now c.args.line c.args.code.now.items c.loop-i.code.items c.put-in-IsNone.new.code.items
    (omega (arith, c.loop-i-test.true)) c.loop-i.auto.i c.index-comparisons-i.is (ap comparison_code c.in-IsNone.is ∙ code-is-none) (omega (arith, c.len-end.ensures)) c.since-behind.ensures c.loop-i.invariant
    (c.in_ok-put-in-IsNone.ensures ∙ ap (λ a. at c.args.line a ∷ reverse c.loop-i.code.items) c.being_none.ensures)

pub put_chain-loop-i-preserved : goal.put_chain-loop-i-preserved
put_chain-loop-i-preserved t c =
    link_none c.args.comparisons.now c.loop-i.i (c.loop-i.i - 1) c.since-behind.result c.len-end.result c.index-comparisons-i.result false c.args.scope.now c.args.line c.args.code.now.items c.loop-i.code.items c.put-in-IsNotNone.new.code.items
    (omega (arith, c.loop-i-test.true)) c.loop-i.auto.i c.index-comparisons-i.is (ap comparison_code c.in-IsNotNone.is ∙ code-is-not-none) (omega (arith, c.len-end.ensures)) c.since-behind.ensures c.loop-i.invariant
    (c.in_ok-put-in-IsNotNone.ensures ∙ ap (λ a. at c.args.line a ∷ reverse c.loop-i.code.items) c.being_none-in-IsNotNone.ensures)

pub put_deciding-loop-i-preserved : goal.put_deciding-loop-i-preserved
put_deciding-loop-i-preserved t c = (
  omega (arith, c.loop-i-test.true),
  further_more c.args.decides c.args.parts.now c.loop-i.i (c.loop-i.i - 1) c.since-passed.result c.len-end.result c.index-parts-i.result c.args.scope.now c.args.line c.args.code.now.items c.loop-i.code.items c.put_part.new.code.items c.put-in-loop-i.new.code.items (omega (arith, c.loop-i-test.true)) c.loop-i.auto.i c.index-parts-i.is (omega (arith, c.len-end.ensures)) c.since-passed.ensures c.loop-i.invariant.1 c.in_ok-put_part.ensures c.in_ok-put.ensures,
)

pub put_part-returns-in_ok-put_part-in-Cond : goal.put_part-returns-in_ok-put_part-in-Cond
put_part-returns-in_ok-put_part-in-Cond t c =
    let rest = reverse c.args.code.now.items in
    let scope = c.args.scope.now in
    let line = c.args.line in
    let arms = c.in-Cond.arms in
    let last = c.in-Cond.last in
    let e : part_code c.args.e.now c.args.is_called scope line ≡ arms_code (map arm_code arms) (value_of (part_code last)) scope line = ap (λ (p : Part). p c.args.is_called scope line) (ap part_code c.in-Cond.is ∙ code-cond arms last) in
    let mid : reverse c.put_part.new.code.items ≡ part_code last false scope line ++ rest = c.in_ok-put_part-in-Cond.ensures ∙ ap (λ (x : Expr). part_code x false scope line ++ rest) c.get.ensures in
    subst (λ is. OnOk c.put_arms.result (reverse c.put_arms.new.code.items ≡ is ++ rest))
    (ap (λ (as_ : List Arm). arms_code (map arm_code as_) (λ s l. part_code last false scope line) scope line) c.as_slice-in-Cond.ensures ∙ arms_same (map arm_code arms) (value_of (part_code last)) scope line ∙ sym e)
    (c.put_arms.ensures (part_code last false scope line) rest mid (length-reverse c.args.code.now.items ∙ omega (arith, c.len-end.ensures)))

pub put_part-returns-in_ok-put-in-Not : goal.put_part-returns-in_ok-put-in-Not
put_part-returns-in_ok-put-in-Not t c =
    let rest = reverse c.args.code.now.items in
    let scope = c.args.scope.now in
    let line = c.args.line in
    subst (λ is. OnOk c.put_part-in-Not.result (reverse c.put_part-in-Not.new.code.items ≡ is))
    (ap (λ (x : Expr). part_code x false scope line ++ reverse c.put-in-Not.new.code.items) c.get-in-Not.ensures
    ∙ as_part c.args.e.now (form.Not c.in-Not.count c.in-Not.of) (first_then (part_code c.in-Not.of) (λ scope line. at line (act.Not c.in-Not.count) ∷ [])) c.args.is_called scope line (part_code c.in-Not.of false scope line) (reverse c.put-in-Not.new.code.items) (at line (act.Not c.in-Not.count) ∷ []) rest c.in-Not.is (code-not c.in-Not.count c.in-Not.of) (c.in_ok-put-in-Not.ensures) refl)
    c.put_part-in-Not.ensures

pub put_part-returns-in_ok-put_chain-in-Compare : goal.put_part-returns-in_ok-put_chain-in-Compare
put_part-returns-in_ok-put_chain-in-Compare t c =
    let rest = reverse c.args.code.now.items in
    let scope = c.args.scope.now in
    let line = c.args.line in
    subst (λ is. OnOk c.put_part-in-Compare.result (reverse c.put_part-in-Compare.new.code.items ≡ is))
    (ap (λ (x : Expr). part_code x false scope line ++ reverse c.put_chain.new.code.items) c.get-in-Compare.ensures
    ∙ as_part c.args.e.now (form.Compare c.in-Compare.first c.in-Compare.rest) (first_then (part_code c.in-Compare.first) (chain_code (map comparison_code c.in-Compare.rest))) c.args.is_called scope line (part_code c.in-Compare.first false scope line) (reverse c.put_chain.new.code.items) (chain_code (map comparison_code c.in-Compare.rest) scope line) rest c.in-Compare.is (code-compare c.in-Compare.first c.in-Compare.rest) (c.in_ok-put_chain-in-Compare.ensures ∙ ap (λ (xs : List Comparison). chain_code (map comparison_code xs) scope line ++ rest) c.as_slice-in-Compare.ensures) refl)
    c.put_part-in-Compare.ensures

pub put_part-returns-in_ok-put_sum-in-Sum : goal.put_part-returns-in_ok-put_sum-in-Sum
put_part-returns-in_ok-put_sum-in-Sum t c =
    let rest = reverse c.args.code.now.items in
    let scope = c.args.scope.now in
    let line = c.args.line in
    subst (λ is. OnOk c.put_part-in-Sum.result (reverse c.put_part-in-Sum.new.code.items ≡ is))
    (ap (λ (x : Expr). part_code x false scope line ++ reverse c.put_sum.new.code.items) c.get-in-Sum.ensures
    ∙ as_part c.args.e.now (form.Sum c.in-Sum.first c.in-Sum.rest) (first_then (part_code c.in-Sum.first) (joined_code (map sum_code c.in-Sum.rest))) c.args.is_called scope line (part_code c.in-Sum.first false scope line) (reverse c.put_sum.new.code.items) (joined_code (map sum_code c.in-Sum.rest) scope line) rest c.in-Sum.is (code-sum c.in-Sum.first c.in-Sum.rest) (c.in_ok-put_sum-in-Sum.ensures ∙ ap (λ (xs : List SumPart). joined_code (map sum_code xs) scope line ++ rest) c.as_slice-in-Sum.ensures) refl)
    c.put_part-in-Sum.ensures

pub put_part-returns-in_ok-put_product-in-Product : goal.put_part-returns-in_ok-put_product-in-Product
put_part-returns-in_ok-put_product-in-Product t c =
    let rest = reverse c.args.code.now.items in
    let scope = c.args.scope.now in
    let line = c.args.line in
    subst (λ is. OnOk c.put_part-in-Product.result (reverse c.put_part-in-Product.new.code.items ≡ is))
    (ap (λ (x : Expr). part_code x false scope line ++ reverse c.put_product.new.code.items) c.get-in-Product.ensures
    ∙ as_part c.args.e.now (form.Product c.in-Product.first c.in-Product.rest) (first_then (part_code c.in-Product.first) (joined_code (map product_code c.in-Product.rest))) c.args.is_called scope line (part_code c.in-Product.first false scope line) (reverse c.put_product.new.code.items) (joined_code (map product_code c.in-Product.rest) scope line) rest c.in-Product.is (code-product c.in-Product.first c.in-Product.rest) (c.in_ok-put_product-in-Product.ensures ∙ ap (λ (xs : List ProductPart). joined_code (map product_code xs) scope line ++ rest) c.as_slice-in-Product.ensures) refl)
    c.put_part-in-Product.ensures

pub put_part-returns-in_ok-put_powered-in-Power : goal.put_part-returns-in_ok-put_powered-in-Power
put_part-returns-in_ok-put_powered-in-Power t c =
    let rest = reverse c.args.code.now.items in
    let scope = c.args.scope.now in
    let line = c.args.line in
    subst (λ is. OnOk c.put_part-in-Power.result (reverse c.put_part-in-Power.new.code.items ≡ is))
    (ap (λ (x : Expr). part_code x false scope line ++ reverse c.put_powered.new.code.items) c.get-in-Power.ensures
    ∙ as_part c.args.e.now (form.Power c.in-Power.first c.in-Power.rest) (first_then (part_code c.in-Power.first) (powered_code (map power_code c.in-Power.rest))) c.args.is_called scope line (part_code c.in-Power.first false scope line) (reverse c.put_powered.new.code.items) (powered_code (map power_code c.in-Power.rest) scope line) rest c.in-Power.is (code-power c.in-Power.first c.in-Power.rest) (c.in_ok-put_powered-in-Power.ensures ∙ ap (λ (xs : List PowerPart). powered_code (map power_code xs) scope line ++ rest) c.as_slice-in-Power.ensures) refl)
    c.put_part-in-Power.ensures

pub put_part-returns-in_ok-put_signs-in-Signed : goal.put_part-returns-in_ok-put_signs-in-Signed
put_part-returns-in_ok-put_signs-in-Signed t c =
    let rest = reverse c.args.code.now.items in
    let scope = c.args.scope.now in
    let line = c.args.line in
    subst (λ is. OnOk c.put_part-in-Signed.result (reverse c.put_part-in-Signed.new.code.items ≡ is))
    (ap (λ (x : Expr). part_code x false scope line ++ reverse c.put_signs.new.code.items) c.get-in-Signed.ensures
    ∙ as_part c.args.e.now (form.Signed c.in-Signed.signs c.in-Signed.of) (first_then (part_code c.in-Signed.of) (λ scope line. signs_code c.in-Signed.signs line)) c.args.is_called scope line (part_code c.in-Signed.of false scope line) (reverse c.put_signs.new.code.items) (signs_code c.in-Signed.signs line) rest c.in-Signed.is (code-signed c.in-Signed.signs c.in-Signed.of) (c.in_ok-put_signs-in-Signed.ensures ∙ ap (λ (xs : List Sign). signs_code xs line ++ rest) c.as_slice-in-Signed.ensures) refl)
    c.put_part-in-Signed.ensures

pub put_part-returns-in_ok-put_trailers-in-Post : goal.put_part-returns-in_ok-put_trailers-in-Post
put_part-returns-in_ok-put_trailers-in-Post t c =
    let rest = reverse c.args.code.now.items in
    let scope = c.args.scope.now in
    let line = c.args.line in
    let of_ = c.in-Post.of in
    let more = c.in-Post.trailers in
    let before : c.called_before-first.result ≡ called_before (map trailer_code more) c.args.is_called = c.called_before-first.ensures ∙ ap (λ (ts : List Trailer). called_before (map trailer_code ts) c.args.is_called) c.as_slice-trailers.ensures in
    let front = part_code of_ (called_before (map trailer_code more) c.args.is_called) scope line in
    subst (λ is. OnOk c.put_part-in-Post.result (reverse c.put_part-in-Post.new.code.items ≡ is))
    (ap (λ (x : Expr). part_code x c.called_before-first.result scope line ++ reverse c.put_trailers.new.code.items) c.get-in-Post.ensures
    ∙ ap (λ b. part_code of_ b scope line ++ reverse c.put_trailers.new.code.items) before
    ∙ as_part c.args.e.now (form.Post of_ more) (post_part (part_code of_) (map trailer_code more)) c.args.is_called scope line front (reverse c.put_trailers.new.code.items) (trailed_code (map trailer_code more) scope line) rest c.in-Post.is (code-post of_ more)
    (c.in_ok-put_trailers-in-Post.ensures ∙ ap (λ (ts : List Trailer). trailed_code (map trailer_code ts) scope line ++ rest) c.as_slice-trailers.ensures) refl)
    c.put_part-in-Post.ensures

pub put_args-returns-in_ok-put_part-in-Gen-2 : goal.put_args-returns-in_ok-put_part-in-Gen-2
put_args-returns-in_ok-put_part-in-Gen-2 t c =
    let scope = c.args.scope.now in
    let line = c.args.line in
    let element = c.in-Gen.element in
    let name = c.in-Gen.name in
    let over = c.in-Gen.over in
    let test = option_map value_of (option_map part_code c.in-Gen.test) in
    let inner = with_name name scope in
    let g : Generator = record { element = part_code element false; name = name; over = part_code over false; test = test } in
    let first : c.as_slice-in-Gen.result.now ≡ inner = c.as_slice-in-Gen.ensures.value ∙ c.in_ok-inner-in-Gen.ensures in
    let second : c.as_slice-in-Gen-2.result.now ≡ inner = c.as_slice-in-Gen-2.ensures.value ∙ c.in_ok-inner-in-Gen.ensures in
    subst (λ is. OnOk c.put-in-Gen-4.result (reverse c.put-in-Gen-4.new.code.items ≡ is))
    (over_put c.args.args.now g scope line (length scope) c.put_filter.new.code.items c.put_part.new.code.items c.args.code.now.items c.put-in-Gen.new.code.items c.put-in-Gen-2.new.code.items c.put_collected.new.code.items c.put-in-Gen-3.new.code.items c.put_part-in-Gen.new.code.items
    (ap args_code c.in-Gen.is ∙ code-gen element name over c.in-Gen.test) refl
    (c.in_ok-put_part-in-Gen.ensures ∙ ap (λ (x : Expr). part_code x false c.as_slice-in-Gen.result.now line ++ reverse c.new-item.result.items) c.get.ensures
    ∙ ap (λ (ls : List Local). part_code element false ls line ++ reverse c.new-item.result.items) first ∙ ap (λ (xs : List Instr). part_code element false inner line ++ reverse xs) c.new-item.ensures.items)
    (c.in_ok-put_filter-in-Gen.ensures ∙ ap (λ (ls : List Local). filter_code test ls line ++ reverse c.put_part.new.code.items) second)
    c.in_ok-put-in-Gen.ensures c.in_ok-put-in-Gen-2.ensures c.in_ok-put_collected-in-Gen.ensures c.in_ok-put-in-Gen-3.ensures
    (c.in_ok-put_part-in-Gen-2.ensures ∙ ap (λ (x : Expr). part_code x false scope line ++ reverse c.put-in-Gen-3.new.code.items) c.get-in-Gen.ensures))
    c.put-in-Gen-4.ensures

pub put_values-loop-i-preserved : goal.put_values-loop-i-preserved
put_values-loop-i-preserved t c =
    let f : List Expr → List Instr = λ es. values_code (map value_of (map part_code es)) c.args.scope.now c.args.line in
    more_put f c.args.items.now c.loop-i.i (c.loop-i.i - 1) c.index-items-i.result _ _ _ _ (omega (arith, c.loop-i-test.true)) c.loop-i.auto.i c.index-items-i.is refl c.loop-i.invariant c.in_ok-put_part.ensures

pub put_sum-loop-i-preserved : goal.put_sum-loop-i-preserved
put_sum-loop-i-preserved t c =
    let part = out-SumPart c.index-parts-i.result in
    joined_more sum_code c.args.parts.now c.loop-i.i (c.loop-i.i - 1) c.index-parts-i.result (sum_op part.op) (value_of (part_code part.of)) c.args.scope.now c.args.line _ _ _ _ (omega (arith, c.loop-i-test.true)) c.loop-i.auto.i c.index-parts-i.is (sum_is _) c.loop-i.invariant
    (c.in_ok-put.ensures ∙ ap (λ o. at c.args.line (act.Binary o) ∷ reverse c.loop-i.code.items) c.sum_op.ensures) c.in_ok-put_part.ensures

pub put_product-loop-i-preserved : goal.put_product-loop-i-preserved
put_product-loop-i-preserved t c =
    let part = out-ProductPart c.index-parts-i.result in
    joined_more product_code c.args.parts.now c.loop-i.i (c.loop-i.i - 1) c.index-parts-i.result (product_op part.op) (value_of (part_code part.of)) c.args.scope.now c.args.line _ _ _ _ (omega (arith, c.loop-i-test.true)) c.loop-i.auto.i c.index-parts-i.is (product_is _) c.loop-i.invariant
    (c.in_ok-put.ensures ∙ ap (λ o. at c.args.line (act.Binary o) ∷ reverse c.loop-i.code.items) c.product_op.ensures) c.in_ok-put_part.ensures

pub put_powered-loop-i-preserved : goal.put_powered-loop-i-preserved
put_powered-loop-i-preserved t c =
    let scope = c.args.scope.now in
    let line = c.args.line in
    let part = c.index-parts-i.result in
    let f : List PowerPart → List Instr = λ ps. values_code (map beside (map power_code ps)) scope line in
    more_put f c.args.parts.now c.loop-i.i (c.loop-i.i - 1) part (part_code (out-PowerPart part).of false scope line) _ _ _ (omega (arith, c.loop-i-test.true)) c.loop-i.auto.i c.index-parts-i.is
    (ap (λ (p : List Sign × Coded). p.1 scope line ++ f (drop c.loop-i.i c.args.parts.now)) (power_is part)) c.loop-i.invariant
    (c.in_ok-put_part.ensures ∙ ap (λ (p : PowerPart). part_code (out-PowerPart p).of false scope line ++ reverse c.loop-i.code.items) (sym c.index-parts-i.is))

pub put_arms-loop-i-preserved : goal.put_arms-loop-i-preserved
put_arms-loop-i-preserved t c = λ last below e k.
    let scope = c.args.scope.now in
    let line = c.args.line in
    let arm = c.index-arms-i.result in
    let other = arms_code (map arm_code (drop c.loop-i.i c.args.arms.now)) (λ s l. last) scope line in
    choice_put line c.since-other.result c.since-given.result c.args.end (part_code (out-Arm arm).test false scope line) (part_code (out-Arm arm).value false scope line) other below
    c.loop-i.code.items c.put.new.code.items c.put_part.new.code.items c.put-in-loop-i.new.code.items c.put_part-in-loop-i.new.code.items k (c.loop-i.invariant last below e k)
    c.since-other.ensures c.in_ok-put.ensures c.in_ok-put_part.ensures (omega (arith, c.since-given.ensures, c.len-below.ensures)) c.in_ok-put-2.ensures c.in_ok-put_part-2.ensures
    ∙ ap (λ (a : Coded × Coded). choice_code line (a.1 scope line) (a.0 scope line) other ++ below) (sym (arm_is arm))
    ∙ ap (λ (as_ : List Arm). arms_code (map arm_code as_) (λ s l. last) scope line ++ below) (sym (one_more c.args.arms.now c.loop-i.i (c.loop-i.i - 1) arm (omega (arith, c.loop-i-test.true)) c.loop-i.auto.i c.index-arms-i.is))

pub put_trailers-loop-i-preserved-in_ok-put_args-in-Call : goal.put_trailers-loop-i-preserved-in_ok-put_args-in-Call
put_trailers-loop-i-preserved-in_ok-put_args-in-Call t c =
    let f : List Trailer → List Instr = λ ts. trailed_code (map trailer_code ts) c.args.scope.now c.args.line in
    more_put f c.args.trailers.now c.loop-i.i (c.loop-i.i - 1) c.index-trailers-i.result _ _ _ _ (omega (arith, c.loop-i-test.true)) c.loop-i.auto.i c.index-trailers-i.is refl c.loop-i.invariant
    (c.in_ok-put_args-in-Call.ensures ∙ ap (λ (b : Behind). behind_code b c.args.scope.now c.args.line ++ reverse c.loop-i.code.items) (sym (ap trailer_code c.in-Call.is ∙ code-called c.in-Call.args)))

pub put_trailers-loop-i-preserved-in_ok-put_values-in-Index : goal.put_trailers-loop-i-preserved-in_ok-put_values-in-Index
put_trailers-loop-i-preserved-in_ok-put_values-in-Index t c =
    let scope = c.args.scope.now in
    let line = c.args.line in
    let rest = reverse c.loop-i.code.items in
    let f : List Trailer → List Instr = λ ts. trailed_code (map trailer_code ts) scope line in
    let values : List Expr → List Instr = λ es. values_code (map value_of (map part_code es)) scope line in
    more_put f c.args.trailers.now c.loop-i.i (c.loop-i.i - 1) c.index-trailers-i.result _ _ _ _ (omega (arith, c.loop-i-test.true)) c.loop-i.auto.i c.index-trailers-i.is refl c.loop-i.invariant
    (c.in_ok-put_values-in-Index.ensures ∙ ap (λ (es : List Expr). values es ++ reverse c.put.new.code.items) c.as_slice.ensures
    ∙ in_front (values c.in-Index.items) (at line (act.Index (length (map value_of (map part_code c.in-Index.items)))) ∷ []) (reverse c.put.new.code.items) rest (c.in_ok-put-in-Index.ensures ∙ ap (λ n. at line (act.Index n) ∷ rest) (c.len.ensures ∙ sym (coded_long c.in-Index.items)))
    ∙ ap (λ (b : Behind). behind_code b scope line ++ rest) (sym (ap trailer_code c.in-Index.is ∙ code-index c.in-Index.items)))

pub put_trailers-loop-i-preserved : goal.put_trailers-loop-i-preserved
put_trailers-loop-i-preserved t c =
    let f : List Trailer → List Instr = λ ts. trailed_code (map trailer_code ts) c.args.scope.now c.args.line in
    let rest = reverse c.loop-i.code.items in
    more_put f c.args.trailers.now c.loop-i.i (c.loop-i.i - 1) c.index-trailers-i.result _ _ _ _ (omega (arith, c.loop-i-test.true)) c.loop-i.auto.i c.index-trailers-i.is refl c.loop-i.invariant
    (c.in_ok-put-in-Attr.ensures ∙ ap (λ (n : Label). at c.args.line (act.Attr n) ∷ rest) c.in_ok-copy-in-Attr.ensures
    ∙ ap (λ (b : Behind). behind_code b c.args.scope.now c.args.line ++ rest) (sym (ap trailer_code c.in-Attr.is ∙ code-attr c.in-Attr.name)))
