-- Chains of operators, read as they are printed.
use Rattle.std.proofs.Common.{◌≡◌, ℕ, ◌<◌, suc, List, [], ◌∷◌, ◌++◌, false, map, refl, sym, ap, ◌∙◌, subst, arith}
use Rattle.std.specs.Prelude.{codes}
use Rattle.mx_lex.specs.Bytes.{first_passes}
use Rattle.mx_syntax.specs.declared.expr.Expr.{Expr, fold-roll-Expr}
use Rattle.mx_syntax.specs.declared.expr.Expr.TheVariants as expr
use Rattle.mx_syntax.specs.declared.expr.Args.TheOpen.{Expr-F, Comparison-F}
use Rattle.mx_syntax.specs.declared.expr.Comparison.{Comparison as Comparisons, fold-roll-Comparison}
use Rattle.mx_syntax.specs.declared.expr.Comparison.TheVariants as made
use Rattle.mx_syntax.specs.declared.expr.CmpOp.{CmpOp}
use Rattle.mx_syntax.specs.declared.expr.SumPart.{SumPart, roll-SumPart, fold-roll-SumPart}
use Rattle.mx_syntax.specs.declared.expr.SumOp.{SumOp}
use Rattle.mx_syntax.specs.declared.expr.ProductPart.{ProductPart, roll-ProductPart, fold-roll-ProductPart}
use Rattle.mx_syntax.specs.declared.expr.ProductOp.{ProductOp}
use Rattle.mx_print.specs.Texts.{Text}
use Rattle.mx_syntax.specs.Lists.{flat}
use Rattle.mx_print.specs.Expressions.{Piece, form, at, spaced, cmp_text, sum_text, product_text, printed, comparison_text, sum_part_text, product_part_text, args_step, comparison_step, piece, trailer_step, arm_step, power_step, product_step, sum_step}
use Rattle.mx_grammar.specs.declared.word.Word.{Word}
use Rattle.mx_grammar.specs.declared.word.Word.TheVariants.{Symbol}
use Rattle.mx_grammar.specs.declared.word.Symbol.TheVariants as symbol
use Rattle.mx_grammar.specs.Grammar.{Spelling, Parts}
use Rattle.mx_expression.specs.Chains.{ProductSign, ProductTail, Product, SumSign, SumTail, Sum, CompareSign, CompareTail, Compare}
use Rattle.mx_round_trip.proofs.Goes.{none, none_first}
use Rattle.mx_round_trip.proofs.Numbers.{glues}
use Rattle.mx_round_trip.proofs.Spans.{reads_none}
use Rattle.mx_round_trip.proofs.Flat.{Flat, flat_both, flat_more}
use Rattle.mx_round_trip.proofs.Operators as sign_text
use Rattle.mx_round_trip.proofs.Sources.{AreSaid, said_split}
use Rattle.mx_round_trip.proofs.Says.{Says, TailSays, PartsSay, parts_say}
use Rattle.mx_round_trip.proofs.ExpressionRules.{Signeds, Rule, Good, stops_glues, begins_at, begins_front, form_alone, descend}

-- what is known of the parts that rule l spells
abbrev pub PartsGood : ℕ → ℕ → Type 0
PartsGood l d = (u : List Word) (x : Expr) → AreSaid u → Rule l d u x → Good l d x (printed x)

-- a part, and parts behind it
pub chain_good : (l d : ℕ) (x y : Expr) (p : Piece) {Y : Type 0} (T : ℕ → Spelling Y) (text : Y → Text) (ys : List Y) → l < 10 → Good (suc l) d x p → PartsSay T d glues text ys
    → ((e : ℕ) (u v : List Word) → Rule (suc l) e u x → Parts (T e) v ys → Rule l e (u ++ v) y) → Good l d y (form l (at (suc l) p ++ flat (map text ys)))
chain_good l d x y p T text ys less g h spells =
    let fit = g.fit in
    let own : Says (Rule l) d glues y (at (suc l) p ++ flat (map text ys)) = record {
      words = fit.words ++ h.words;
      spelled = λ e le. spells e fit.words h.words (fit.spelled e le) (h.spelled e le);
      flat = flat_both fit.flat h.flat h.leads;
    } in
    form_alone l d y (at (suc l) p ++ flat (map text ys)) less own (begins_front (at (suc l) p) (flat (map text ys)) (begins_at (suc l) p g.begins))

-- an operator, and a part
pub tail_says : {Y : Type 0} (l d : ℕ) (T : ℕ → Spelling Y) (text : Y → Text) (y : Y) (x : Expr) (p : Piece) (operator : Text) (u : List Word) → text y ≡ (32 ∷ operator) ++ at l p → Flat none (32 ∷ operator) u → Good l d x p
    → ((e : ℕ) (v : List Word) → Rule l e v x → T e (u ++ v) y) → TailSays T d glues text y
tail_says l d T text y x p operator u is sign g spells =
    let fit = g.fit in
    record {
      says = record {
        words = u ++ fit.words;
        spelled = λ e le. spells e fit.words (fit.spelled e le);
        flat = subst (λ t. Flat glues t (u ++ fit.words)) (sym is) (flat_both sign fit.flat (λ rest _. none_first (at l p ++ rest)));
      };
      leads = λ rest. ap (λ t. first_passes glues (t ++ rest)) is;
    }

-- ---- products

product_is : (x : Expr) (ys : List ProductPart) → printed (expr.Product x ys) ≡ form 6 (at 7 (printed x) ++ flat (map product_part_text ys))
product_is x ys = ap printed (sym (expr.rolls-Product x ys)) ∙ fold-roll-Expr Text Text Piece Text Text Text Text Text args_step comparison_step piece trailer_step arm_step power_step product_step sum_step (Expr-F.Product x ys)

product_part_is : (op : ProductOp) (x : Expr) → product_part_text (roll-ProductPart (record { op = op; of = x })) ≡ spaced (product_text op) ++ at 7 (printed x)
product_part_is op x = fold-roll-ProductPart Text Text Piece Text Text Text Text Text args_step comparison_step piece trailer_step arm_step power_step product_step sum_step (record { op = op; of = x })

product_tail : (d : ℕ) → PartsGood 7 d → (u : List Word) (y : ProductPart) → AreSaid u → ProductTail (Signeds d) u y → TailSays (λ e. ProductTail (Signeds e)) d glues product_part_text y
product_tail d good _ _ said (ProductTail.tail {u} {v} {op} {x} sign h) = by sign (product_part_is op x)
  where
    g : Good 7 d x (printed x)
    g = good v x (said_split u v said).1 h

    by : {o : ProductOp} {w : List Word} → ProductSign w o → product_part_text (roll-ProductPart (record { op = o; of = x })) ≡ spaced (product_text o) ++ at 7 (printed x)
        → TailSays (λ e. ProductTail (Signeds e)) d glues product_part_text (roll-ProductPart (record { op = o; of = x }))
    by ProductSign.times is = tail_says 7 d (λ e. ProductTail (Signeds e)) product_part_text _ x (printed x) (codes "* ") _ is sign_text.flat_times g (λ e w r. ProductTail.tail ProductSign.times r)
    by ProductSign.over is = tail_says 7 d (λ e. ProductTail (Signeds e)) product_part_text _ x (printed x) (codes "/ ") _ is sign_text.flat_over g (λ e w r. ProductTail.tail ProductSign.over r)
    by ProductSign.floor is = tail_says 7 d (λ e. ProductTail (Signeds e)) product_part_text _ x (printed x) (codes "// ") _ is sign_text.flat_floor g (λ e w r. ProductTail.tail ProductSign.floor r)
    by ProductSign.rem is = tail_says 7 d (λ e. ProductTail (Signeds e)) product_part_text _ x (printed x) (codes "% ") _ is sign_text.flat_rem g (λ e w r. ProductTail.tail ProductSign.rem r)

pub product_good : (d : ℕ) → PartsGood 7 d → PartsGood 6 d
product_good d good _ _ said (Product.alone {u} {x} h) = descend 6 d x (printed x) (good u x said h)
product_good d good _ _ said (Product.chain {u} {v} {x} {y} {ys} h k) =
    let split = said_split u v said in
    let parts = parts_say (λ e. ProductTail (Signeds e)) d glues product_part_text (ProductTail (Signeds d)) (product_tail d good) v (y ∷ ys) split.1 k in
    subst (Good 6 d (expr.Product x (y ∷ ys))) (sym (product_is x (y ∷ ys)))
    (chain_good 6 d x (expr.Product x (y ∷ ys)) (printed x) (λ e. ProductTail (Signeds e)) product_part_text (y ∷ ys) (omega arith) (good u x split.0 h) parts (λ e a b r s. Product.chain r s))

-- ---- sums

sum_is : (x : Expr) (ys : List SumPart) → printed (expr.Sum x ys) ≡ form 5 (at 6 (printed x) ++ flat (map sum_part_text ys))
sum_is x ys = ap printed (sym (expr.rolls-Sum x ys)) ∙ fold-roll-Expr Text Text Piece Text Text Text Text Text args_step comparison_step piece trailer_step arm_step power_step product_step sum_step (Expr-F.Sum x ys)

sum_part_is : (op : SumOp) (x : Expr) → sum_part_text (roll-SumPart (record { op = op; of = x })) ≡ spaced (sum_text op) ++ at 6 (printed x)
sum_part_is op x = fold-roll-SumPart Text Text Piece Text Text Text Text Text args_step comparison_step piece trailer_step arm_step power_step product_step sum_step (record { op = op; of = x })

sum_tail : (d : ℕ) → PartsGood 6 d → (u : List Word) (y : SumPart) → AreSaid u → SumTail (Product (Signeds d)) u y → TailSays (λ e. SumTail (Product (Signeds e))) d glues sum_part_text y
sum_tail d good _ _ said (SumTail.tail {u} {v} {op} {x} sign h) = by sign (sum_part_is op x)
  where
    g : Good 6 d x (printed x)
    g = good v x (said_split u v said).1 h

    by : {o : SumOp} {w : List Word} → SumSign w o → sum_part_text (roll-SumPart (record { op = o; of = x })) ≡ spaced (sum_text o) ++ at 6 (printed x)
        → TailSays (λ e. SumTail (Product (Signeds e))) d glues sum_part_text (roll-SumPart (record { op = o; of = x }))
    by SumSign.plus is = tail_says 6 d (λ e. SumTail (Product (Signeds e))) sum_part_text _ x (printed x) (codes "+ ") _ is sign_text.flat_plus g (λ e w r. SumTail.tail SumSign.plus r)
    by SumSign.minus is = tail_says 6 d (λ e. SumTail (Product (Signeds e))) sum_part_text _ x (printed x) (codes "- ") _ is sign_text.flat_minus g (λ e w r. SumTail.tail SumSign.minus r)

pub sum_good : (d : ℕ) → PartsGood 6 d → PartsGood 5 d
sum_good d good _ _ said (Sum.alone {u} {x} h) = descend 5 d x (printed x) (good u x said h)
sum_good d good _ _ said (Sum.chain {u} {v} {x} {y} {ys} h k) =
    let split = said_split u v said in
    let parts = parts_say (λ e. SumTail (Product (Signeds e))) d glues sum_part_text (SumTail (Product (Signeds d))) (sum_tail d good) v (y ∷ ys) split.1 k in
    subst (Good 5 d (expr.Sum x (y ∷ ys))) (sym (sum_is x (y ∷ ys)))
    (chain_good 5 d x (expr.Sum x (y ∷ ys)) (printed x) (λ e. SumTail (Product (Signeds e))) sum_part_text (y ∷ ys) (omega arith) (good u x split.0 h) parts (λ e a b r s. Sum.chain r s))

-- ---- comparisons

compare_is : (x : Expr) (ys : List Comparisons) → printed (expr.Compare x ys) ≡ form 4 (at 5 (printed x) ++ flat (map comparison_text ys))
compare_is x ys = ap printed (sym (expr.rolls-Compare x ys)) ∙ fold-roll-Expr Text Text Piece Text Text Text Text Text args_step comparison_step piece trailer_step arm_step power_step product_step sum_step (Expr-F.Compare x ys)

comparison_is : (op : CmpOp) (x : Expr) → comparison_text (made.Op op x) ≡ spaced (cmp_text op) ++ at 5 (printed x)
comparison_is op x = ap comparison_text (sym (made.rolls-Op op x)) ∙ fold-roll-Comparison Text Text Piece Text Text Text Text Text args_step comparison_step piece trailer_step arm_step power_step product_step sum_step (Comparison-F.Op op x)

is_none_text : comparison_text made.IsNone ≡ codes " is None"
is_none_text = ap comparison_text (sym made.rolls-IsNone) ∙ fold-roll-Comparison Text Text Piece Text Text Text Text Text args_step comparison_step piece trailer_step arm_step power_step product_step sum_step Comparison-F.IsNone

is_not_none_text : comparison_text made.IsNotNone ≡ codes " is not None"
is_not_none_text = ap comparison_text (sym made.rolls-IsNotNone) ∙ fold-roll-Comparison Text Text Piece Text Text Text Text Text args_step comparison_step piece trailer_step arm_step power_step product_step sum_step Comparison-F.IsNotNone

abbrev Compares : ℕ → Spelling Comparisons
Compares e = CompareTail (Sum (Product (Signeds e)))

flat_keyword_none : Flat glues (codes "None") (Symbol symbol.None ∷ [])
flat_keyword_none = flat_more (record { reads = reads_none; plain = refl }) (stops_glues false)

-- a test for None, which has no part behind it
closed_tail : (d : ℕ) (y : Comparisons) (words : List Word) (text : Text) → comparison_text y ≡ 32 ∷ text → ((e : ℕ) → Compares e words y) → Flat glues (32 ∷ text) words → TailSays Compares d glues comparison_text y
closed_tail d y words text is spells flat = record {
  says = record { words = words; spelled = λ e _. spells e; flat = subst (λ t. Flat glues t words) (sym is) flat };
  leads = λ rest. ap (λ t. first_passes glues (t ++ rest)) is;
}

compare_tail : (d : ℕ) → PartsGood 5 d → (u : List Word) (y : Comparisons) → AreSaid u → Compares d u y → TailSays Compares d glues comparison_text y
compare_tail d good _ _ said CompareTail.none = closed_tail d made.IsNone _ (codes "is None") is_none_text (λ e. CompareTail.none) (sign_text.flat_is_before flat_keyword_none)
compare_tail d good _ _ said CompareTail.some = closed_tail d made.IsNotNone _ (codes "is not None") is_not_none_text (λ e. CompareTail.some) (sign_text.flat_is_before (sign_text.flat_not_before flat_keyword_none))
compare_tail d good _ _ said (CompareTail.tail {u} {v} {op} {x} sign h) = by sign (comparison_is op x)
  where
    g : Good 5 d x (printed x)
    g = good v x (said_split u v said).1 h

    by : {o : CmpOp} {w : List Word} → CompareSign w o → comparison_text (made.Op o x) ≡ spaced (cmp_text o) ++ at 5 (printed x) → TailSays Compares d glues comparison_text (made.Op o x)
    by CompareSign.less is = tail_says 5 d Compares comparison_text _ x (printed x) (codes "< ") _ is sign_text.flat_less g (λ e w r. CompareTail.tail CompareSign.less r)
    by CompareSign.at_most is = tail_says 5 d Compares comparison_text _ x (printed x) (codes "<= ") _ is sign_text.flat_at_most g (λ e w r. CompareTail.tail CompareSign.at_most r)
    by CompareSign.greater is = tail_says 5 d Compares comparison_text _ x (printed x) (codes "> ") _ is sign_text.flat_greater g (λ e w r. CompareTail.tail CompareSign.greater r)
    by CompareSign.at_least is = tail_says 5 d Compares comparison_text _ x (printed x) (codes ">= ") _ is sign_text.flat_at_least g (λ e w r. CompareTail.tail CompareSign.at_least r)
    by CompareSign.equal is = tail_says 5 d Compares comparison_text _ x (printed x) (codes "== ") _ is sign_text.flat_equal g (λ e w r. CompareTail.tail CompareSign.equal r)
    by CompareSign.unequal is = tail_says 5 d Compares comparison_text _ x (printed x) (codes "!= ") _ is sign_text.flat_unequal g (λ e w r. CompareTail.tail CompareSign.unequal r)
    by CompareSign.within is = tail_says 5 d Compares comparison_text _ x (printed x) (codes "in ") _ is sign_text.flat_in g (λ e w r. CompareTail.tail CompareSign.within r)
    by CompareSign.outside is = tail_says 5 d Compares comparison_text _ x (printed x) (codes "not in ") _ is sign_text.flat_not_in g (λ e w r. CompareTail.tail CompareSign.outside r)

pub compare_good : (d : ℕ) → PartsGood 5 d → PartsGood 4 d
compare_good d good _ _ said (Compare.alone {u} {x} h) = descend 4 d x (printed x) (good u x said h)
compare_good d good _ _ said (Compare.chain {u} {v} {x} {y} {ys} h k) =
    let split = said_split u v said in
    let parts = parts_say Compares d glues comparison_text (Compares d) (compare_tail d good) v (y ∷ ys) split.1 k in
    subst (Good 4 d (expr.Compare x (y ∷ ys))) (sym (compare_is x (y ∷ ys)))
    (chain_good 4 d x (expr.Compare x (y ∷ ys)) (printed x) Compares comparison_text (y ∷ ys) (omega arith) (good u x split.0 h) parts (λ e a b r s. Compare.chain r s))
