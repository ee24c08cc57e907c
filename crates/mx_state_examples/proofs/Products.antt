-- Items of a space with a parameter, evaluated.
use Rattle.std.proofs.Common.{◌≡◌, pos, Bool, true, false, ◌&&◌, inl, inr, [], ◌∷◌, ◌++◌, refl, sym, ◌∙◌, ap, subst, arith, codes, rules}
use Rattle.mx_c3.specs.Merge.{merge}
use Rattle.mx_c3.specs.Linearisation.{c3}
use Rattle.mx_value.specs.Normal.{normal_of}
use Rattle.mx_value.specs.declared.value.Value.{Value, out-Value, the_lemmas as values}
use Rattle.mx_value.specs.declared.value.Value.TheVariants.{Fix, Flag}
use Rattle.mx_value.specs.declared.value.Segment.{Segment, out-Segment}
use Rattle.mx_value.specs.declared.value.Segment.TheOpen.{Value-F, Segment-F}
use Rattle.mx_value.specs.declared.value.Segment.TheVariants as segment
use Rattle.mx_value.specs.declared.node.Node.{Node}
use Rattle.mx_edit.specs.declared.key.Key.TheVariants as key
use Rattle.mx_runs.specs.Lists.{Has, Distinct}
use Rattle.mx_runs.specs.Runs.{Looked}
use Rattle.mx_runs.specs.Inputs.{is_input, is_value}
use Rattle.mx_runs.specs.Chains.{Reaches, Itself, Through}
use Rattle.mx_runs.proofs.Events.{asked_is_ask}
use Rattle.mx_meaning.specs.Namespaces.{is_allowed}
use Rattle.mx_meaning.specs.Laws.{BindsTo}
use Rattle.mx_formula_examples.proofs.Equations.{normal_int, out_int}
use Rattle.mx_formula_examples.proofs.NodeRules.{means}
use Rattle.mx_meaning.proofs.Walking.{out_item}
use Rattle.mx_formula_examples.proofs.Worked.{has_item, one_bound, small}
use Rattle.mx_answers.specs.Held.{nodes_of}
use Rattle.mx_answers.specs.Records.{IsRecordOf, IsRightMemo}
use Rattle.mx_state.specs.Model.{model_of}
use Rattle.mx_state.specs.Evaluations.{AsBound}
use Rattle.mx_state.proofs.States.{bound_is_bound}
use Rattle.mx_state.proofs.Evaluated.{value_is_answered}
use Rattle.mx_state_examples.specs.Texts.{space_s, multiplying}
use Rattle.mx_state_examples.specs.Rows.{whole, gives, item, product_in, product_events, in_item}
use Rattle.mx_state_examples.proofs.Multiplying.{flag_normal, flag_small, item_run, walk, two_run, true_run, whole_decimal_is_bound}
use Rattle.mx_state_examples.specs.Evaluations.{holding, item_entry, product_entry, of_two, of_true, ItemsAreEvaluated}
use Rattle.mx_state_examples.proofs.Entries.{asks_nothing, asks_one, right_memo, self_bound}

item_record : (v : Value) → normal_of v ≡ v → is_allowed (in_item v) ≡ true → IsRecordOf (model_of multiplying) (item_entry v)
item_record v normal allowed = asks_nothing (model_of multiplying) (item_entry v) (Looked (key.Params space_s) ∷ []) (item_run v normal allowed).leads refl refl refl refl refl refl

two_item : IsRecordOf (model_of multiplying) (item_entry (whole 2))
two_item = item_record (whole 2) (normal_int (pos 2)) (small (codes "S") (pos 2))

two_product : IsRecordOf (model_of multiplying) (product_entry (whole 2) 2)
two_product = asks_one (model_of multiplying) (product_entry (whole 2) 2) (item (whole 2)) (product_events (whole 2)) two_run.leads refl refl refl refl refl refl

true_item : IsRecordOf (model_of multiplying) (item_entry (Flag true))
true_item = item_record (Flag true) flag_normal flag_small

true_product : IsRecordOf (model_of multiplying) (product_entry (Flag true) 1)
true_product = asks_one (model_of multiplying) (product_entry (Flag true) 1) (item (Flag true)) (product_events (Flag true)) true_run.leads refl refl refl refl refl refl

own : (v : Value) → is_input (model_of multiplying) (product_in v) ≡ false
own v = ap (λ (b : Bool). b && is_value ((model_of multiplying).look (key.Input (product_in v)))) (has_item (codes "S") (v ∷ []) [])

-- ---- the nodes differ

out_flag : (b : Bool) → out-Value (Flag b) ≡ Value-F.Flag b
out_flag b = search (values, rules)

two_not_true : whole 2 ≡ Flag true → ⊥
two_not_true e = let f : Value-F.Int (pos 2) ≡ Value-F.Flag true = sym (out_int (pos 2)) ∙ ap (λ (v : Value). out-Value v) e ∙ out_flag true in cc

items_differ : item (whole 2) ≡ item (Flag true) → ⊥
items_differ e = two_not_true (let f : whole 2 ≡ Flag true = cc in f)

pub segments_differ : segment.Item (whole 2 ∷ []) ≡ segment.Item (Flag true ∷ []) → ⊥
segments_differ e =
    let f : Segment-F.Item (whole 2 ∷ []) ≡ Segment-F.Item (Flag true ∷ []) = sym (out_item (whole 2 ∷ [])) ∙ ap (λ (s : Segment). out-Segment s) e ∙ out_item (Flag true ∷ []) in
    two_not_true (let g : whole 2 ≡ Flag true = cc in g)

products_differ : product_in (whole 2) ≡ product_in (Flag true) → ⊥
products_differ e = segments_differ (let f : segment.Item (whole 2 ∷ []) ≡ segment.Item (Flag true ∷ []) = cc in f)

item_not_product : (v w : Value) → product_in v ≡ item w → ⊥
item_not_product v w e = cc

two_distinct : Distinct (nodes_of of_two)
two_distinct = ((λ h. elim h [ inl e ↦ item_not_product (whole 2) (whole 2) e | inr r ↦ r ]), ((λ h. h), tt))

pub all_distinct : Distinct (nodes_of (of_two ++ of_true))
all_distinct = (
  (λ h. elim h [
    | inl e ↦ item_not_product (whole 2) (whole 2) e
    | inr r ↦ elim r [ inl e ↦ items_differ (sym e) | inr q ↦ elim q [ inl e ↦ item_not_product (Flag true) (whole 2) e | inr z ↦ z ] ]
  ]),
  (
    (λ h. elim h [ inl e ↦ item_not_product (whole 2) (Flag true) (sym e) | inr q ↦ elim q [ inl e ↦ products_differ (sym e) | inr z ↦ z ] ]),
    ((λ h. elim h [ inl e ↦ item_not_product (Flag true) (Flag true) e | inr z ↦ z ]), ((λ h. h), tt)),
  ),
)

-- ---- right memos

two_memo : IsRightMemo (model_of multiplying) of_two
two_memo = right_memo (model_of multiplying) of_two (two_item, (two_product, tt)) ((λ x h. h), ((λ x h. elim h [ inl e ↦ inl e | inr z ↦ absurd z ]), tt)) (refl, (own (whole 2), tt)) two_distinct (omega arith)

pub all_memo : IsRightMemo (model_of multiplying) (of_two ++ of_true)
all_memo =
    right_memo (model_of multiplying) (of_two ++ of_true) (two_item, (two_product, (true_item, (true_product, tt))))
    ((λ x h. h), ((λ x h. elim h [ inl e ↦ inl e | inr z ↦ absurd z ]), ((λ x h. absurd h), ((λ x h. elim h [ inl e ↦ inl e | inr z ↦ absurd z ]), tt))))
    (refl, (own (whole 2), (refl, (own (Flag true), tt)))) all_distinct (omega arith)

-- ---- evaluations

two_bound : BindsTo (model_of multiplying) (product_in (whole 2)) (product_in (whole 2))
two_bound = bound_is_bound multiplying (product_in (Fix (pos 2000000000))) (product_in (whole 2)) whole_decimal_is_bound

true_bound : BindsTo (model_of multiplying) (product_in (Flag true)) (product_in (Flag true))
unfolding c3 merge
true_bound = self_bound (codes "c") (whole 1 ∷ []) (walk (Flag true) flag_normal flag_small) refl refl (one_bound (codes "t") (pos 1))

two_reached : (x : Node) → Has (nodes_of of_two) x → Reaches (model_of multiplying) (product_in (whole 2)) x
two_reached x h =
    elim h [
      | inl e ↦ subst (λ y. Reaches (model_of multiplying) (product_in (whole 2)) y) e (Through (item (whole 2)) (asked_is_ask (model_of multiplying) (product_in (whole 2)) _ (product_events (whole 2)) two_run.leads (item (whole 2)) (inl refl)) Itself)
      | inr r ↦ elim r [ inl e ↦ subst (λ y. Reaches (model_of multiplying) (product_in (whole 2)) y) e Itself | inr z ↦ absurd z ]
    ]

true_reached : (x : Node) → Has (nodes_of of_true) x → Reaches (model_of multiplying) (product_in (Flag true)) x
true_reached x h =
    elim h [
      | inl e ↦ subst (λ y. Reaches (model_of multiplying) (product_in (Flag true)) y) e (Through (item (Flag true)) (asked_is_ask (model_of multiplying) (product_in (Flag true)) _ (product_events (Flag true)) true_run.leads (item (Flag true)) (inl refl)) Itself)
      | inr r ↦ elim r [ inl e ↦ subst (λ y. Reaches (model_of multiplying) (product_in (Flag true)) y) e Itself | inr z ↦ absurd z ]
    ]

pub items_are_evaluated : ItemsAreEvaluated
items_are_evaluated = record {
  first = value_is_answered (holding multiplying []) (product_in (whole 2)) (product_in (whole 2)) (gives (whole 2)) of_two (AsBound two_bound) (means two_run) two_memo (inr (inl refl)) two_reached (omega arith);
  again = value_is_answered (holding multiplying of_two) (product_in (Fix (pos 2000000000))) (product_in (whole 2)) (gives (whole 2)) [] (AsBound whole_decimal_is_bound) (means two_run) two_memo (inr (inl refl)) (λ x h. absurd h) (omega arith);
  other = value_is_answered (holding multiplying of_two) (product_in (Flag true)) (product_in (Flag true)) (gives (whole 1)) of_true (AsBound true_bound) (means true_run) all_memo (inr (inr (inr (inl refl)))) true_reached (omega arith);
}
