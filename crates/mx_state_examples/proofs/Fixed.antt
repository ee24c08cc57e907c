-- What an edit keeps, and an evaluation after it.
use Rattle.std.proofs.Common.{◌≡◌, Bool, true, false, not, ◌&&◌, inl, inr, [], ◌∷◌, ◌++◌, refl, sym, ◌∙◌, ap, subst, arith, codes}
use Rattle.std.specs.Bool.{Decides}
use Rattle.mx_c3.specs.Merge.{merge}
use Rattle.mx_c3.specs.Linearisation.{c3}
use Rattle.mx_value.specs.declared.label.Label.{Label}
use Rattle.mx_value.specs.declared.node.Node.{Node}
use Rattle.mx_edit.specs.Entry.{Entry}
use Rattle.mx_edit.specs.Equality.{key_result_eq}
use Rattle.mx_edit.specs.declared.reference.RefValue.TheVariants as reference
use Rattle.mx_edit.specs.declared.key.Key.{Key}
use Rattle.mx_edit.specs.declared.key.Key.TheVariants as key
use Rattle.mx_edit.specs.declared.key.KeyResult.TheVariants as found
use Rattle.mx_edit.proofs.Results.{key_result_decides}
use Rattle.mx_runs.specs.Lists.{Has}
use Rattle.mx_runs.specs.Inputs.{is_input, is_value}
use Rattle.mx_runs.specs.Chains.{Reaches, Itself}
use Rattle.mx_meaning.specs.Laws.{BindsTo}
use Rattle.mx_formula_examples.proofs.Rules.{top}
use Rattle.mx_formula_examples.proofs.NodeRules.{means}
use Rattle.mx_formula_examples.proofs.Worked.{one_name, two_names}
use Rattle.mx_meaning.proofs.Sound.{tests_are_covered}
use Rattle.mx_answers.specs.Held.{nodes_of}
use Rattle.mx_answers.specs.Records.{IsRecordOf, IsRightMemo}
use Rattle.mx_answers.specs.Retention.{HasChanged, IsTouched, Here, ByAsk, Sifts, NoneLeft, Keeps, Drops}
use Rattle.mx_answers.specs.Laws.{IsRetained}
use Rattle.mx_answers.proofs.Records.{one_record}
use Rattle.mx_answers.proofs.Sifting.{holding}
use Rattle.mx_answers.proofs.Retaining.{sifted_by_keys}
use Rattle.mx_model.specs.Keys.{key_result, is_changed}
use Rattle.mx_state.specs.Model.{model_of}
use Rattle.mx_state.specs.Evaluations.{AsBound}
use Rattle.mx_state.proofs.Bound.{inputs_end}
use Rattle.mx_state.proofs.States.{changes_told}
use Rattle.mx_state.proofs.Evaluated.{value_is_answered}
use Rattle.mx_state_examples.specs.Texts.{space_ab, space_sb, inheriting, inheriting_fixed}
use Rattle.mx_state_examples.specs.Rows as row
use Rattle.mx_state_examples.proofs.Inheriting.{fixed_run}
use Rattle.mx_state_examples.specs.Evaluations as after
use Rattle.mx_state_examples.specs.Evaluations.{v_cell, w_cell, v_entry, w_entry, of_both, kept, FixedTargetIsEvaluated}
use Rattle.mx_state_examples.proofs.Entries.{asks_one, keys_last, asks_last, self_bound}
use Rattle.mx_state_examples.proofs.Inherited.{before, all_memo, v_not_w}

abbrev changed : Key → Bool
changed = is_changed inheriting inheriting_fixed

-- ---- which keys are changed

same_key : (k : Key) → key_result inheriting k ≡ key_result inheriting_fixed k → changed k ≡ false
same_key k e = ap not ((key_result_decides (key_result inheriting k) (key_result inheriting_fixed k)).1 e)

told : (b : Bool) {P : Type 0} → Decides b P → (P → ⊥) → not b ≡ true
told true d n = absurd (n (d.0 refl))
told false d n = refl

other_key : (k : Key) → (key_result inheriting k ≡ key_result inheriting_fixed k → ⊥) → changed k ≡ true
other_key k n = told (key_result_eq (key_result inheriting k) (key_result inheriting_fixed k)) (key_result_decides (key_result inheriting k) (key_result inheriting_fixed k)) n

-- the reference, as A and as S have it
a_changed : changed (key.Name (codes "A" ∷ []) (codes "b")) ≡ true
unfolding c3 merge
a_changed = other_key (key.Name (codes "A" ∷ []) (codes "b")) (λ e. let f : found.Ref (reference.Target space_ab false) (codes "A" ∷ []) ≡ found.Ref (reference.Target space_ab true) (codes "A" ∷ []) = e in cc)

s_changed : changed (key.Name (codes "S" ∷ []) (codes "b")) ≡ true
unfolding c3 merge
s_changed = other_key (key.Name (codes "S" ∷ []) (codes "b")) (λ e. let f : found.Ref (reference.Target space_ab false) (codes "A" ∷ []) ≡ found.Ref (reference.Target space_ab true) (codes "A" ∷ []) = e in cc)

-- ---- what the edit touches

abbrev Out : Node → Type 0
Out = IsTouched (HasChanged changed) of_both

module _ (e : Entry) (among : Has of_both e) (same : (k : Key) → Has e.keys k → changed k ≡ false) (none : e.asks ≡ []) where
  its_own : (d : Entry) → Has of_both d → d.node ≡ e.node → d ≡ e
  its_own d h i = one_record (model_of inheriting) d e (all_memo.records d h) (all_memo.records e among) i

  untouched_at : (n : Node) → Out n → n ≡ e.node → ⊥
  untouched_at n (Here d h c) i =
      let f : true ≡ false = sym c.is ∙ same c.key (subst (λ x. Has x.keys c.key) (its_own d h i) c.among) in cc
  untouched_at n (ByAsk d h m a t) i = subst (λ ns. Has ns m) none (subst (λ x. Has x.asks m) (its_own d h i) a)

  untouched : Out e.node → ⊥
  untouched t = untouched_at e.node t refl

a_same : (k : Key) → Has (v_entry (codes "A") 1).keys k → changed k ≡ false
unfolding c3 merge
a_same k h = elim h [ inl e ↦ subst (λ x. changed x ≡ false) e (same_key (key.Input (v_cell (codes "A"))) refl) | inr r ↦ elim r [ inl e ↦ subst (λ x. changed x ≡ false) e (same_key (key.Cells space_ab (codes "v")) refl) | inr z ↦ absurd z ] ]

s_same : (k : Key) → Has (v_entry (codes "S") 2).keys k → changed k ≡ false
unfolding c3 merge
s_same k h = elim h [ inl e ↦ subst (λ x. changed x ≡ false) e (same_key (key.Input (v_cell (codes "S"))) refl) | inr r ↦ elim r [ inl e ↦ subst (λ x. changed x ≡ false) e (same_key (key.Cells space_sb (codes "v")) refl) | inr z ↦ absurd z ] ]

sifts : Sifts Out of_both kept
sifts =
    Keeps (v_entry (codes "A") 1) _ _ (untouched (v_entry (codes "A") 1) (inl refl) a_same refl)
    (Drops (w_entry (codes "A") (codes "A") 10) _ _ (Here (w_entry (codes "A") (codes "A") 10) (inr (inl refl)) (record { key = key.Name (codes "A" ∷ []) (codes "b"); among = inr (inr (inl refl)); is = a_changed }))
    (Keeps (v_entry (codes "S") 2) _ _ (untouched (v_entry (codes "S") 2) (inr (inr (inl refl))) s_same refl)
    (Drops (w_entry (codes "S") (codes "S") 20) _ _ (Here (w_entry (codes "S") (codes "S") 20) (inr (inr (inr (inl refl)))) (record { key = key.Name (codes "S" ∷ []) (codes "b"); among = inr (inr (inl refl)); is = s_changed }))
    NoneLeft)))

retained : IsRetained (model_of inheriting) (key_result inheriting_fixed) of_both kept
retained =
    sifted_by_keys (model_of inheriting) (key_result inheriting_fixed) changed of_both kept (inputs_end (key_result inheriting)) (inputs_end (key_result inheriting_fixed)) (tests_are_covered (key_result inheriting))
    (changes_told inheriting inheriting_fixed) all_memo sifts

-- ---- the evaluation after it

v_own : (here : Label) → is_input (model_of inheriting_fixed) (v_cell here) ≡ false
v_own here = ap (λ (b : Bool). b && is_value ((model_of inheriting_fixed).look (key.Input (v_cell here)))) (two_names here (codes "B"))

w_own : (here : Label) → is_input (model_of inheriting_fixed) (w_cell here) ≡ false
w_own here = ap (λ (b : Bool). b && is_value ((model_of inheriting_fixed).look (key.Input (w_cell here)))) (one_name here)

abbrev new : Entry
new = w_entry (codes "S") (codes "A") 10

new_record : IsRecordOf (model_of inheriting_fixed) new
new_record =
    asks_one (model_of inheriting_fixed) new (v_cell (codes "A")) (row.w_events (codes "S") (codes "A") 1) fixed_run.leads (keys_last (model_of inheriting_fixed) (v_cell (codes "A")) (row.gives (row.whole 1)) (v_own (codes "A")) (before (codes "S") (codes "A"))) refl
    (asks_last (model_of inheriting_fixed) (v_cell (codes "A")) (row.gives (row.whole 1)) (v_own (codes "A")) (before (codes "S") (codes "A"))) refl refl refl

not_kept : Has (nodes_of kept) (w_cell (codes "S")) → ⊥
not_kept h = elim h [ inl e ↦ v_not_w (codes "S") (codes "A") (sym e) | inr r ↦ elim r [ inl e ↦ v_not_w (codes "S") (codes "S") (sym e) | inr z ↦ z ] ]

new_memo : IsRightMemo (model_of inheriting_fixed) (kept ++ new ∷ [])
new_memo = holding (model_of inheriting_fixed) kept new retained.memo new_record not_kept (w_own (codes "S")) (λ x h. elim h [ inl e ↦ inl e | inr z ↦ absurd z ]) (omega arith)

w_bound : BindsTo (model_of inheriting_fixed) (w_cell (codes "S")) (w_cell (codes "S"))
unfolding c3 merge
w_bound = self_bound (codes "w") [] (top (codes "S")) refl refl refl

reached : (x : Node) → Has (nodes_of (new ∷ [])) x → Reaches (model_of inheriting_fixed) (w_cell (codes "S")) x
reached x h = elim h [ inl e ↦ subst (λ y. Reaches (model_of inheriting_fixed) (w_cell (codes "S")) y) e Itself | inr z ↦ absurd z ]

pub fixed_target_is_evaluated : FixedTargetIsEvaluated
fixed_target_is_evaluated = record {
  retains = retained.retains;
  again = value_is_answered (after.holding inheriting_fixed kept) (w_cell (codes "S")) (w_cell (codes "S")) (row.gives (row.whole 10)) (new ∷ []) (AsBound w_bound) (means fixed_run) new_memo (inr (inr (inl refl))) reached (omega arith);
}
