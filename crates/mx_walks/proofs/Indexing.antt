-- Subscripts of tuples and texts, and the keys of rows.
use Rattle.std.proofs.Common.{◌≡◌, ℤ, List, [], ◌∷◌, length, Some, None, Err, refl, sym, ◌∙◌, ap, rules}
use Rattle.mx_value.specs.declared.label.Label.{Label}
use Rattle.mx_value.specs.declared.value.Value.{Value, roll-Value, out-Value, the_lemmas as values}
use Rattle.mx_value.specs.declared.value.Value.TheVariants as value
use Rattle.mx_value.specs.declared.value.Segment.{Segment}
use Rattle.mx_value.specs.declared.value.Segment.TheOpen.{Value-F}
use Rattle.mx_value.specs.declared.value.Segment.TheFolds.{para-roll-Value}
use Rattle.mx_value.specs.declared.value.Segment.TheViews.{roll-out-Value}
use Rattle.mx_value.specs.declared.fault.FaultKind.TheVariants.{TypeMismatch}
use Rattle.mx_value.specs.Normal.{number_of}
use Rattle.mx_syntax.specs.declared.op.Op.TheVariants as op
use Rattle.mx_ops.specs.Kinds.{Content, bytes_of}
use Rattle.mx_ops.specs.Numbers.{whole_of}
use Rattle.mx_ops.specs.Table.{gives}
use Rattle.mx_meaning.specs.Calls.{row_key}

-- another number of subscripts than one
pub not_one : (v : Value) (args : List Value) → (length args ≡ 1 → ⊥) → gives op.Index (v ∷ args) ≡ Err TypeMismatch
not_one v [] n = refl
not_one v (a ∷ []) n = absurd (n refl)
not_one v (a ∷ b ∷ more) n = refl

whole_space : (at : List Segment) → whole_of (value.Space at) ≡ None
whole_space at = search (values, rules)

whole_tuple : (items : List Value) → whole_of (value.Tup items) ≡ None
whole_tuple items = search (values, rules)

-- a value that is no decimal number is the whole number that its normal form is
whole_kept : (c : Content) → ((x : ℤ) → roll-Value c ≡ value.Fix x → ⊥) → whole_of (roll-Value c) ≡ row_key (roll-Value c)
whole_kept Value-F.Nothing n = ap whole_of (value.rolls-Nothing ∙ sym (para-roll-Value _ _ _ _ _ _ Value-F.Nothing))
whole_kept (Value-F.Flag b) n = ap whole_of (value.rolls-Flag b ∙ sym (para-roll-Value _ _ _ _ _ _ (Value-F.Flag b)))
whole_kept (Value-F.Int i) n = ap whole_of (value.rolls-Int i ∙ sym (para-roll-Value _ _ _ _ _ _ (Value-F.Int i)))
whole_kept (Value-F.Fix x) n = absurd (n x (value.rolls-Fix x))
whole_kept (Value-F.Text t) n = ap whole_of (value.rolls-Text t ∙ sym (para-roll-Value _ _ _ _ _ _ (Value-F.Text t)))
whole_kept (Value-F.Tup items) n = ap whole_of (value.rolls-Tup items) ∙ whole_tuple items ∙ sym (ap whole_of (para-roll-Value _ _ _ _ _ _ (Value-F.Tup items)) ∙ search (values, rules))
whole_kept (Value-F.Space at) n = ap whole_of (value.rolls-Space at) ∙ whole_space at ∙ sym (ap whole_of (para-roll-Value _ _ _ _ _ _ (Value-F.Space at)) ∙ search (values, rules))
whole_kept (Value-F.Cells cells) n = ap whole_of (value.rolls-Cells cells ∙ sym (para-roll-Value _ _ _ _ _ _ (Value-F.Cells cells)))
whole_kept (Value-F.Table t) n = ap whole_of (value.rolls-Table t ∙ sym (para-roll-Value _ _ _ _ _ _ (Value-F.Table t)))

pub whole_key : (v : Value) → ((x : ℤ) → v ≡ value.Fix x → ⊥) → whole_of v ≡ row_key v
whole_key v n = ap whole_of (sym (roll-out-Value v)) ∙ whole_kept (out-Value v) (λ x e. n x (sym (roll-out-Value v) ∙ e)) ∙ ap row_key (roll-out-Value v)

pub decimal_key : (v : Value) (x : ℤ) → v ≡ value.Fix x → whole_of (number_of x) ≡ row_key v
decimal_key v x e = sym (ap row_key (e ∙ sym (value.rolls-Fix x)) ∙ ap whole_of (para-roll-Value _ _ _ _ _ _ (Value-F.Fix x)))

pub bytes_text : (t : Label) → bytes_of (value.Text t) ≡ Some t
bytes_text t = search (values, rules)
