use Rattle.std.proofs.Common.{◌≡◌, ◌≤◌, List, length, map, ◌∙◌, sym, ap, subst, arith, rules, take_all}
use Rattle.std.specs.Cmp.Lexicographic.{nat_list_cmp_total}
use Rattle.std.specs.List.Sorted.{IsPermutation}
use Rattle.std.proofs.lemmas.List.Sorted.{ranks_by, answers_always}
use Rattle.mx_value.specs.declared.node.Node.{Node}
use Rattle.mx_engine.specs.declared.gathering.Row.{Row}
use Rattle.mx_engine.specs.ByText.{AreByText}
use Rattle.mx_engine.proofs.ByText.{row_lt, node_in, sorted_nodes}
use Rattle.mx_engine.proofs.gathering.by_text.Goals as goal

pub returns : goal.returns
returns c nodes is =
    let up = c.in_ok-sort_by.ensures.sorted row_lt (ranks_by nat_list_cmp_total (λ (r : Row). r.text)) (answers_always _ _ _ (λ f a r g h. search rules)) in
    let pair = sorted_nodes nodes c.args.rows.items c.sort_by.new.self.items is c.in_ok-sort_by.ensures.permutation up in
    let past : length c.deref-row-items.result.now ≤ c.loop-row.row-index = let t = c.loop-row-test.false in omega (arith, t) in
    let all : c.loop-row.nodes.items ≡ map node_in c.sort_by.new.self.items =
    c.loop-row.invariant ∙ ap (λ (rows : List Row). map node_in rows) (take_all c.loop-row.row-index c.deref-row-items.result.now past ∙ c.deref-row-items.ensures.value) in
    subst (λ (ns : List Node). IsPermutation nodes ns × AreByText ns) (sym all) pair
