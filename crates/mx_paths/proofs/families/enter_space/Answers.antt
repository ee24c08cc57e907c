use Rattle.std.proofs.Common.{◌≡◌, ◌-◌, ◌+◌, List, [], None, Some, length, take, get_or, slice_set, ◌∙◌, ap, sym, subst}
use Rattle.std.proofs.lemmas.Result.{IfOk-weaker}
use Rattle.std.proofs.lemmas.Bool.{eqb-true, eq-eqb}
use Rattle.mx_model.proofs.Places.{id_within}
use Rattle.mx_model.specs.Layers.{id_of}
use Rattle.mx_paths.specs.declared.child.Child.{Child}
use Rattle.mx_paths.specs.Siblings.{IsRising, named}
use Rattle.mx_paths.specs.Sorting.{IsEntered, AreSorted}
use Rattle.mx_paths.proofs.SortSteps.{no_path, path_split, empty_names, some_names, skipped, new_top, with_top, new_child, with_child, family_at}
use Rattle.mx_paths.proofs.families.enter_space.Goals as goal

pub unreachable-requires : goal.unreachable-requires
unreachable-requires c = no_path c.args.text.now c.args.space c.path_of.result.now c.as_slice.result.now c.requires.named c.path_of.ensures c.as_slice.ensures c.in_default.len_below

pub enter-requires-clause-new : goal.enter-requires-clause-new
enter-requires-clause-new c =
    let text = c.args.text.now in
    let items = c.as_slice.result.now in
    let names = take (length items - 1) items in
    let last = c.in_ok-copy.field-0 in
    let at = path_split text c.args.space c.path_of.result.now items c.last-item.result last c.path_of.ensures c.as_slice.ensures c.in-len1-up.len_at_least c.last-item.is c.in_ok-copy.ensures in
    let none : names ≡ [] = empty_names names (eqb-true (length names) 0 (sym c.is_empty.ensures ∙ c.if-is_empty.true)) in
    new_top text c.requires.named c.requires.sound.paths c.args.space.0 names last at c.args.tops.now c.args.families.now.items c.requires.sorted none

pub returns-then-is_empty : goal.returns-then-is_empty
returns-then-is_empty c =
    let text = c.args.text.now in
    let items = c.as_slice.result.now in
    let names = take (length items - 1) items in
    let last = c.in_ok-copy.field-0 in
    let at = path_split text c.args.space c.path_of.result.now items c.last-item.result last c.path_of.ensures c.as_slice.ensures c.in-len1-up.len_at_least c.last-item.is c.in_ok-copy.ensures in
    let none : names ≡ [] = empty_names names (eqb-true (length names) 0 (sym c.is_empty.ensures ∙ c.if-is_empty.true)) in
    let child : Child = record { name = last; space = c.args.space } in
    IfOk-weaker c.enter.result (λ done. IsEntered child c.args.tops.now c.enter.new.self) (λ done. AreSorted text (c.args.space.0 + 1) c.enter.new.self c.args.families.now.items) (λ done e.
    with_top text c.requires.named c.requires.sound.paths c.args.space.0 names last at c.args.tops.now c.args.families.now.items c.requires.sorted c.enter.new.self none e) c.enter.ensures

pub enter-requires-in-Some-clause-rising : goal.enter-requires-in-Some-clause-rising
enter-requires-in-Some-clause-rising c =
    let text = c.args.text.now in
    let items = c.as_slice.result.now in
    let names = take (length items - 1) items in
    let last = c.in_ok-copy.field-0 in
    let families = c.args.families.now.items in
    let parent = c.in-Some.parent in
    let found : id_of text names ≡ Some parent = ap (id_of text) (sym c.in_ok-copy_names.ensures) ∙ sym c.id_of-2.ensures ∙ c.in-Some.is in
    let family : c.index_mut.result.now ≡ get_or families parent.0 [] = family_at text names parent families c.index_mut.result.now found c.requires.sorted.long c.index_mut.ensures.value in
    subst IsRising (sym family) (c.requires.sorted.rising parent (id_within text names parent found))

pub enter-requires-in-Some-clause-new : goal.enter-requires-in-Some-clause-new
enter-requires-in-Some-clause-new c =
    let text = c.args.text.now in
    let items = c.as_slice.result.now in
    let names = take (length items - 1) items in
    let last = c.in_ok-copy.field-0 in
    let families = c.args.families.now.items in
    let parent = c.in-Some.parent in
    let at = path_split text c.args.space c.path_of.result.now items c.last-item.result last c.path_of.ensures c.as_slice.ensures c.in-len1-up.len_at_least c.last-item.is c.in_ok-copy.ensures in
    let found : id_of text names ≡ Some parent = ap (id_of text) (sym c.in_ok-copy_names.ensures) ∙ sym c.id_of-2.ensures ∙ c.in-Some.is in
    let family : c.index_mut.result.now ≡ get_or families parent.0 [] = family_at text names parent families c.index_mut.result.now found c.requires.sorted.long c.index_mut.ensures.value in
    ap (named last) family ∙ new_child text c.requires.named c.requires.sound.paths c.args.space.0 names last at c.args.tops.now families c.requires.sorted parent found

pub returns-in-Some : goal.returns-in-Some
returns-in-Some c =
    let text = c.args.text.now in
    let items = c.as_slice.result.now in
    let names = take (length items - 1) items in
    let last = c.in_ok-copy.field-0 in
    let families = c.args.families.now.items in
    let parent = c.in-Some.parent in
    let at = path_split text c.args.space c.path_of.result.now items c.last-item.result last c.path_of.ensures c.as_slice.ensures c.in-len1-up.len_at_least c.last-item.is c.in_ok-copy.ensures in
    let found : id_of text names ≡ Some parent = ap (id_of text) (sym c.in_ok-copy_names.ensures) ∙ sym c.id_of-2.ensures ∙ c.in-Some.is in
    let family : c.index_mut.result.now ≡ get_or families parent.0 [] = family_at text names parent families c.index_mut.result.now found c.requires.sorted.long c.index_mut.ensures.value in
    let some : names ≡ [] → ⊥ = some_names names (λ e. let t = eq-eqb (length names) 0 e in let f = c.is_empty.ensures in let g = c.if-is_empty.false in cc) in
    let child : Child = record { name = last; space = c.args.space } in
    let P : List Child → List Child → Type 0 = λ new old. IsEntered child old new in
    IfOk-weaker c.enter-in-Some.result (λ done. IsEntered child c.index_mut.result.now c.enter-in-Some.new.self) (λ done. AreSorted text (c.args.space.0 + 1) c.args.tops.now (slice_set families parent.0 c.enter-in-Some.new.self)) (λ done e.
    with_child text c.requires.named c.requires.sound.paths c.args.space.0 names last at c.args.tops.now families c.requires.sorted parent found c.enter-in-Some.new.self (subst (P c.enter-in-Some.new.self) family e) some) c.enter-in-Some.ensures

pub returns-in-None : goal.returns-in-None
returns-in-None c =
    let text = c.args.text.now in
    let items = c.as_slice.result.now in
    let names = take (length items - 1) items in
    let last = c.in_ok-copy.field-0 in
    let at = path_split text c.args.space c.path_of.result.now items c.last-item.result last c.path_of.ensures c.as_slice.ensures c.in-len1-up.len_at_least c.last-item.is c.in_ok-copy.ensures in
    let some : names ≡ [] → ⊥ = some_names names (λ e. let t = eq-eqb (length names) 0 e in let f = c.is_empty.ensures in let g = c.if-is_empty.false in cc) in
    let none : id_of text names ≡ None = ap (id_of text) (sym c.in_ok-copy_names.ensures) ∙ sym c.id_of-2.ensures ∙ c.in-None.is in
    skipped text c.requires.named c.requires.sound.paths c.args.space.0 names last at c.args.tops.now c.args.families.now.items c.requires.sorted some none
