-- `==` on values says that the plain trees are the same.
use Rattle.std.proofs.Common.{◌≡◌, Bool, true, false, int_eq, ◌==◌, refl, sym, ap, subst, inl, inr}
use Rattle.std.specs.Bool.{Decides}
use denote.Enum.Declared.{Choice}
use denote.Enum.Compared.{Each, by}
use Rattle.mx_value.specs.declared.value.Value.{Value}
use Rattle.mx_value.specs.declared.value.Value.TheVariants as made
use Rattle.mx_value.specs.declared.value.Segment.{Segment}
use Rattle.mx_value.specs.declared.value.CellsAt.{CellsAt}
use Rattle.mx_value.specs.declared.value.Segment.TheOpen.{Segment-F, Value-F, CellsAt-F}
use Rattle.mx_value.specs.declared.value.Segment.TheViews.{roll-Value, roll-Segment, roll-CellsAt}
use Rattle.mx_value.specs.declared.value.Segment.TheBlock.{member-Value, member-Segment, member-CellsAt}
use Rattle.mx_value.specs.contracts.value.SegmentPartialEq.TheImpl as s
use Rattle.mx_value.specs.contracts.value.SegmentPartialEq.TheImpl.Laws as sl
use Rattle.mx_value.specs.contracts.value.CellsAtPartialEq.TheImpl as c
use Rattle.mx_value.specs.contracts.value.CellsAtPartialEq.TheImpl.Laws as cl
use Rattle.mx_value.specs.contracts.fixed.FixedPartialEq.TheImpl as fixed
use Rattle.std.specs.Cmp.Lexicographic.{pointwise}
use Rattle.std.specs.Bool.{beq}
use Rattle.std.specs.Cmp.{signed_Decides, booleans_Decides}
use Rattle.mx_value.proofs.Enums.{DecidesAt, enum_decides, items_decide, both_decide, decides_as, last_field, text_decides}
use Rattle.mx_value.specs.declared.value.Segment.TheFolds.{map-Value, map-Segment, map-CellsAt, ind-Value, ind-Segment, ind-CellsAt}
use Rattle.mx_value.specs.declared.value.Segment.TheVariants as made_segment
use Rattle.mx_value.specs.contracts.value.Segment as ss
use Rattle.mx_value.specs.contracts.value.Value as vv
use Rattle.mx_value.specs.contracts.value.ValuePartialEq.TheImpl as v
use Rattle.mx_value.specs.contracts.value.ValuePartialEq.TheImpl.Laws as vl

choice_of : Value-F Segment Value CellsAt → Choice vv.the_parts
choice_of Value-F.Nothing = inl tt
choice_of (Value-F.Flag b) = inr (inl (b, tt))
choice_of (Value-F.Int n) = inr (inr (inl (n, tt)))
choice_of (Value-F.Fix x) = inr (inr (inr (inl (x, tt))))
choice_of (Value-F.Text t) = inr (inr (inr (inr (inl (t, tt)))))
choice_of (Value-F.Tup xs) = inr (inr (inr (inr (inr (inl (xs, tt))))))
choice_of (Value-F.Space xs) = inr (inr (inr (inr (inr (inr (inl (xs, tt)))))))
choice_of (Value-F.Cells c) = inr (inr (inr (inr (inr (inr (inr (inl (c, tt))))))))
choice_of (Value-F.Table t) = inr (inr (inr (inr (inr (inr (inr (inr (inl (t, tt)))))))))

made_of : (l : Value-F Segment Value CellsAt) → vv.enum.make (choice_of l) ≡ roll-Value l
unfolding choice_of
made_of Value-F.Nothing = sym made.rolls-Nothing
made_of (Value-F.Flag b) = sym (made.rolls-Flag b)
made_of (Value-F.Int n) = sym (made.rolls-Int n)
made_of (Value-F.Fix x) = sym (made.rolls-Fix x)
made_of (Value-F.Text t) = sym (made.rolls-Text t)
made_of (Value-F.Tup xs) = sym (made.rolls-Tup xs)
made_of (Value-F.Space xs) = sym (made.rolls-Space xs)
made_of (Value-F.Cells c) = sym (made.rolls-Cells c)
made_of (Value-F.Table t) = sym (made.rolls-Table t)

abbrev each_value : Each Bool vv.the_parts
each_value = (
  (λ x y. true),
  (
    (λ x y. beq x.0 y.0),
    (
      (λ x y. int_eq x.0 y.0),
      (
        (λ x y. (fixed.ghosts).eq x.0 y.0),
        (
          (λ x y. pointwise ◌==◌ x.0 y.0),
          (
            (λ x y. pointwise (vl.family member-Value) x.0 y.0),
            (
              (λ x y. pointwise (vl.family member-Segment) x.0 y.0),
              (
                (λ x y. vl.family member-CellsAt x.0 y.0),
                ((λ x y. pointwise ◌==◌ x.0 y.0), tt),
              ),
            ),
          ),
        ),
      ),
    ),
  ),
)

value_unfolds : (a b : Value) → vl.unfolded a b ≡ by false false vv.the_parts each_value (vv.as_values a) (vv.as_values b)
value_unfolds a b = refl

segment_choice : Segment-F Segment Value CellsAt → Choice ss.the_parts
segment_choice (Segment-F.Name name) = inl (name, tt)
segment_choice (Segment-F.Item items) = inr (inl (items, tt))

segment_made : (l : Segment-F Segment Value CellsAt) → ss.enum.make (segment_choice l) ≡ roll-Segment l
unfolding segment_choice
segment_made (Segment-F.Name name) = sym (made_segment.rolls-Name name)
segment_made (Segment-F.Item items) = sym (made_segment.rolls-Item items)

abbrev each_segment : Each Bool ss.the_parts
each_segment = ((λ x y. pointwise ◌==◌ x.0 y.0), ((λ x y. pointwise (sl.family member-Value) x.0 y.0), tt))

-- `==` decides about this value
abbrev OfSegment : Segment → Type 0
OfSegment a = (b : Segment) → Decides ((s.ghosts).eq a b) (a ≡ b)

abbrev OfValue : Value → Type 0
OfValue a = (b : Value) → Decides ((v.ghosts).eq a b) (a ≡ b)

abbrev OfCells : CellsAt → Type 0
OfCells a = (b : CellsAt) → Decides ((c.ghosts).eq a b) (a ≡ b)

segment_at : (y : Segment-F ((a : Segment) × OfSegment a) ((a : Value) × OfValue a) ((a : CellsAt) × OfCells a)) → DecidesAt ss.the_parts each_segment (segment_choice (map-Segment _ _ _ Segment Value CellsAt (λ e. e.0) (λ e. e.0) (λ e. e.0) y))
unfolding segment_choice
segment_at (Segment-F.Name name) = λ y. last_field (name, tt) y (text_decides name y.0)
segment_at (Segment-F.Item items) = λ y. last_field _ y (items_decide (sl.family member-Value) items y.0)

value_at : (y : Value-F ((a : Segment) × OfSegment a) ((a : Value) × OfValue a) ((a : CellsAt) × OfCells a)) → DecidesAt vv.the_parts each_value (choice_of (map-Value _ _ _ Segment Value CellsAt (λ e. e.0) (λ e. e.0) (λ e. e.0) y))
unfolding choice_of
value_at Value-F.Nothing = λ y. (λ t. refl, λ e. refl)
value_at (Value-F.Flag b) = λ y. last_field (b, tt) y (booleans_Decides b y.0)
value_at (Value-F.Int n) = λ y. last_field (n, tt) y (signed_Decides n y.0)
value_at (Value-F.Fix x) = λ y. last_field (x, tt) y (signed_Decides x y.0)
value_at (Value-F.Text t) = λ y. last_field (t, tt) y (text_decides t y.0)
value_at (Value-F.Tup items) = λ y. last_field _ y (items_decide (vl.family member-Value) items y.0)
value_at (Value-F.Space segments) = λ y. last_field _ y (items_decide (vl.family member-Segment) segments y.0)
value_at (Value-F.Cells at) = λ y. last_field (at.0, tt) y (at.1 y.0)
value_at (Value-F.Table t) = λ y. last_field (t, tt) y (text_decides t y.0)

abbrev SameParts : CellsAt → CellsAt → Type 0
SameParts a b = (a.space ≡ b.space) × (a.name ≡ b.name)

cells_at : (y : CellsAt-F ((a : Segment) × OfSegment a) ((a : Value) × OfValue a) ((a : CellsAt) × OfCells a)) (b : CellsAt) → Decides (cl.unfolded (roll-CellsAt (map-CellsAt _ _ _ Segment Value CellsAt (λ e. e.0) (λ e. e.0) (λ e. e.0) y)) b) (roll-CellsAt (map-CellsAt _ _ _ Segment Value CellsAt (λ e. e.0) (λ e. e.0) (λ e. e.0) y) ≡ b)
cells_at y b =
    decides_as (λ parts. λ i. record { space = parts.0 i; name = parts.1 i }) (λ e. (ap (λ a. a.space) e, ap (λ a. a.name) e))
    (both_decide _ _ (items_decide (cl.family member-Segment) y.space b.space) (text_decides y.name b.name))

segment_step : (x : Segment-F Segment Value CellsAt) (y : Segment-F ((a : Segment) × OfSegment a) ((a : Value) × OfValue a) ((a : CellsAt) × OfCells a)) → map-Segment _ _ _ Segment Value CellsAt (λ e. e.0) (λ e. e.0) (λ e. e.0) y ≡ x → OfSegment (roll-Segment x)
segment_step x y is b =
    let at = subst (λ (z : Segment-F Segment Value CellsAt). DecidesAt ss.the_parts each_segment (segment_choice z)) is (segment_at y) in
    let d = enum_decides ss.enum each_segment (segment_choice x) at (roll-Segment x) b (segment_made x) in
    subst (λ (t : Bool). Decides t (roll-Segment x ≡ b)) (sym (sl.is (roll-Segment x) b)) d

value_step : (x : Value-F Segment Value CellsAt) (y : Value-F ((a : Segment) × OfSegment a) ((a : Value) × OfValue a) ((a : CellsAt) × OfCells a)) → map-Value _ _ _ Segment Value CellsAt (λ e. e.0) (λ e. e.0) (λ e. e.0) y ≡ x → OfValue (roll-Value x)
value_step x y is b =
    let at = subst (λ (z : Value-F Segment Value CellsAt). DecidesAt vv.the_parts each_value (choice_of z)) is (value_at y) in
    let d = enum_decides vv.enum each_value (choice_of x) at (roll-Value x) b (made_of x) in
    subst (λ (t : Bool). Decides t (roll-Value x ≡ b)) (sym (vl.is (roll-Value x) b)) d

cells_step : (x : CellsAt-F Segment Value CellsAt) (y : CellsAt-F ((a : Segment) × OfSegment a) ((a : Value) × OfValue a) ((a : CellsAt) × OfCells a)) → map-CellsAt _ _ _ Segment Value CellsAt (λ e. e.0) (λ e. e.0) (λ e. e.0) y ≡ x → OfCells (roll-CellsAt x)
cells_step x y is b =
    let d = subst (λ (z : CellsAt-F Segment Value CellsAt). Decides (cl.unfolded (roll-CellsAt z) b) (roll-CellsAt z ≡ b)) is (cells_at y b) in
    subst (λ (t : Bool). Decides t (roll-CellsAt x ≡ b)) (sym (cl.is (roll-CellsAt x) b)) d

pub value_decides : (a b : Value) → Decides ((v.ghosts).eq a b) (a ≡ b)
value_decides = ind-Value OfSegment OfValue OfCells segment_step value_step cells_step

pub segment_decides : (a b : Segment) → Decides ((s.ghosts).eq a b) (a ≡ b)
segment_decides = ind-Segment OfSegment OfValue OfCells segment_step value_step cells_step

pub cells_decide : (a b : CellsAt) → Decides ((c.ghosts).eq a b) (a ≡ b)
cells_decide = ind-CellsAt OfSegment OfValue OfCells segment_step value_step cells_step
