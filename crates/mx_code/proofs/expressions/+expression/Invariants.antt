use Rattle.std.proofs.Common.{◌≡◌, ◌≤◌, List, ◌++◌, map, drop, reverse, length}
use Rattle.mx_code.specs.declared.action.Instr.{Instr}
use Rattle.mx_code.specs.Expressions.{value_of, part_code, values_code, joined_code, signs_of, beside, raised_code, further_code, arms_code, links_code, trailed_code}
use Rattle.mx_code.specs.Parts.{comparison_code, trailer_code, arm_code, power_code, product_code, sum_code}
use Rattle.mx_code.proofs.expressions.+expression.Given as goal

abbrev pub invariant-put_values-loop-i : goal.invariant-put_values-loop-i
invariant-put_values-loop-i l = reverse l.code.items ≡ values_code (map value_of (map part_code (drop l.i l.items))) l.scope l.line ++ reverse l.fn.code.items

abbrev pub invariant-put_sum-loop-i : goal.invariant-put_sum-loop-i
invariant-put_sum-loop-i l = reverse l.code.items ≡ joined_code (map sum_code (drop l.i l.parts)) l.scope l.line ++ reverse l.fn.code.items

abbrev pub invariant-put_product-loop-i : goal.invariant-put_product-loop-i
invariant-put_product-loop-i l = reverse l.code.items ≡ joined_code (map product_code (drop l.i l.parts)) l.scope l.line ++ reverse l.fn.code.items

abbrev pub invariant-put_powered-loop-i : goal.invariant-put_powered-loop-i
invariant-put_powered-loop-i l = reverse l.code.items ≡ values_code (map beside (map power_code (drop l.i l.parts))) l.scope l.line ++ (raised_code (map signs_of (map power_code l.parts)) l.line ++ reverse l.fn.code.items)

abbrev pub invariant-put_chain-loop-i : goal.invariant-put_chain-loop-i
invariant-put_chain-loop-i l = reverse l.code.items ≡ links_code (map comparison_code (drop l.i l.comparisons)) l.scope l.line ++ reverse l.fn.code.items

abbrev pub invariant-put_deciding-loop-i : goal.invariant-put_deciding-loop-i
invariant-put_deciding-loop-i l = (1 ≤ l.i) × (reverse l.code.items ≡ further_code l.decides (map value_of (map part_code (drop l.i l.parts))) l.scope l.line ++ reverse l.fn.code.items)

abbrev pub invariant-put_arms-loop-i : goal.invariant-put_arms-loop-i
invariant-put_arms-loop-i l = (last below : List Instr) → reverse l.fn.code.items ≡ last ++ below → length below ≡ l.end → reverse l.code.items ≡ arms_code (map arm_code (drop l.i l.arms)) (λ scope line. last) l.scope l.line ++ below

abbrev pub invariant-put_trailers-loop-i : goal.invariant-put_trailers-loop-i
invariant-put_trailers-loop-i l = reverse l.code.items ≡ trailed_code (map trailer_code (drop l.i l.trailers)) l.scope l.line ++ reverse l.fn.code.items
