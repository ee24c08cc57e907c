-- Signs and powers, read as they are printed.
use Rattle.std.proofs.Common.{◌≡◌, ℕ, List, [], ◌∷◌, ◌++◌, true, false, map, refl, sym, ap, ◌∙◌, subst, arith}
use Rattle.std.specs.Prelude.{codes}
use Rattle.mx_lex.specs.Bytes.{first_passes}
use Rattle.mx_lex.specs.Spans.{found, mark_at, span_at}
use Rattle.mx_lex.specs.declared.TokenKind.TheVariants.{Mark}
use Rattle.mx_syntax.specs.declared.expr.Expr.{Expr, fold-roll-Expr}
use Rattle.mx_syntax.specs.declared.expr.Expr.TheVariants as expr
use Rattle.mx_syntax.specs.declared.expr.Args.TheOpen.{Expr-F}
use Rattle.mx_syntax.specs.declared.expr.PowerPart.{PowerPart, roll-PowerPart, fold-roll-PowerPart}
use Rattle.mx_syntax.specs.declared.expr.Sign.{Sign}
use Rattle.mx_syntax.specs.declared.expr.Sign.TheVariants as sign
use Rattle.mx_print.specs.Texts.{Text}
use Rattle.mx_syntax.specs.Lists.{flat}
use Rattle.mx_print.specs.Expressions.{Piece, form, at, sign_byte, printed, power_part_text, args_step, comparison_step, piece, trailer_step, arm_step, power_step, product_step, sum_step}
use Rattle.mx_grammar.specs.declared.word.Word.{Word}
use Rattle.mx_grammar.specs.declared.word.Word.TheVariants.{Symbol}
use Rattle.mx_grammar.specs.declared.word.Symbol.TheVariants as symbol
use Rattle.mx_grammar.specs.Grammar.{Spelling, Parts}
use Rattle.mx_expression.specs.Operands.{OneSign, PowerTail, Power, SignedOf}
use Rattle.mx_expression.specs.Expressions.{Ors, Expressions}
use Rattle.mx_round_trip.proofs.Goes.{none_first}
use Rattle.mx_round_trip.proofs.Pieces.{reads_token}
use Rattle.mx_round_trip.proofs.Spans.{is_equals, reads_minus}
use Rattle.mx_round_trip.proofs.Numbers.{glues}
use Rattle.mx_round_trip.proofs.Flat.{Flat, flat_both, flat_nothing}
use Rattle.mx_round_trip.proofs.Operators as sign_text
use Rattle.mx_round_trip.proofs.Sources.{AreSaid, said_split}
use Rattle.mx_round_trip.proofs.Says.{Says, TailSays, parts_say}
use Rattle.mx_round_trip.proofs.ExpressionRules.{Rule, Good, begins, begins_at, no_equals, form_alone, descend}
use Rattle.mx_round_trip.proofs.Chains.{PartsGood, chain_good}

-- ---- signs

plus_span : (at : ℕ) (rest : List ℕ) → first_passes is_equals rest ≡ false → span_at at (43 ∷ rest) ≡ found Mark 1
unfolding span_at mark_at
plus_span at [] h = refl
plus_span at (b ∷ bs) h = rw h refl

flat_sign : (u : List Word) (s : Sign) → OneSign u s → Flat is_equals (sign_byte s ∷ []) u
flat_sign _ _ OneSign.plus = record { reads = λ number brackets stack. reads_token is_equals Mark 43 [] number brackets stack (record { space = refl; line_end = refl; comment = refl }) (λ at rest stops. plus_span at rest stops); plain = refl }
flat_sign _ _ OneSign.minus = record { reads = reads_minus; plain = refl }

no_equals_sign : (s : Sign) → is_equals (sign_byte s) ≡ false
no_equals_sign sign.Plus = refl
no_equals_sign sign.Minus = refl

no_equals_signs : (ss : List Sign) (rest : List ℕ) → first_passes is_equals rest ≡ false → first_passes is_equals (map sign_byte ss ++ rest) ≡ false
no_equals_signs [] rest h = h
no_equals_signs (s ∷ ss) rest h = no_equals_sign s

flat_signs : (u : List Word) (ss : List Sign) → Parts OneSign u ss → Flat is_equals (map sign_byte ss) u
flat_signs _ _ Parts.none = flat_nothing
flat_signs _ _ (Parts.more {u} {v} {x} {xs} h k) = flat_both (flat_sign u x h) (flat_signs v xs k) (no_equals_signs xs)

signs_begin : (s : Sign) → begins (sign_byte s) ≡ true
signs_begin sign.Plus = refl
signs_begin sign.Minus = refl

-- signs, and a part behind them
signs_before : (l d : ℕ) (x : Expr) (u : List Word) (ss : List Sign) → Parts OneSign u ss → (g : Good l d x (printed x)) → Flat glues (map sign_byte ss ++ at l (printed x)) (u ++ g.fit.words)
signs_before l d x u ss h g =
    let fit = g.fit in
    flat_both (flat_signs u ss h) fit.flat (λ rest _. no_equals (at l (printed x)) rest (begins_at l (printed x) g.begins))

signed_is : (ss : List Sign) (x : Expr) → printed (expr.Signed ss x) ≡ form 7 (map sign_byte ss ++ at 8 (printed x))
signed_is ss x = ap printed (sym (expr.rolls-Signed ss x)) ∙ fold-roll-Expr Text Text Piece Text Text Text Text Text args_step comparison_step piece trailer_step arm_step power_step product_step sum_step (Expr-F.Signed ss x)

pub signed_good : (d : ℕ) → PartsGood 8 d → PartsGood 7 d
signed_good d good _ _ said (SignedOf.alone {u} {x} h) = descend 7 d x (printed x) (good u x said h)
signed_good d good _ _ said (SignedOf.signs {u} {v} {s} {ss} {x} h k) =
    let g = good v x (said_split u v said).1 k in
    let fit = g.fit in
    let text : Text = map sign_byte (s ∷ ss) ++ at 8 (printed x) in
    let own : Says (Rule 7) d glues (expr.Signed (s ∷ ss) x) text = record {
      words = u ++ fit.words;
      spelled = λ e le. SignedOf.signs h (fit.spelled e le);
      flat = signs_before 8 d x u (s ∷ ss) h g;
    } in
    subst (Good 7 d (expr.Signed (s ∷ ss) x)) (sym (signed_is (s ∷ ss) x)) (form_alone 7 d (expr.Signed (s ∷ ss) x) text (omega arith) own (signs_begin s))

-- ---- powers

power_is : (x : Expr) (ys : List PowerPart) → printed (expr.Power x ys) ≡ form 8 (at 9 (printed x) ++ flat (map power_part_text ys))
power_is x ys = ap printed (sym (expr.rolls-Power x ys)) ∙ fold-roll-Expr Text Text Piece Text Text Text Text Text args_step comparison_step piece trailer_step arm_step power_step product_step sum_step (Expr-F.Power x ys)

power_part_is : (ss : List Sign) (x : Expr) → power_part_text (roll-PowerPart (record { signs = ss; of = x })) ≡ codes " ** " ++ (map sign_byte ss ++ at 9 (printed x))
power_part_is ss x = fold-roll-PowerPart Text Text Piece Text Text Text Text Text args_step comparison_step piece trailer_step arm_step power_step product_step sum_step (record { signs = ss; of = x })

abbrev PowerTails : ℕ → Spelling PowerPart
PowerTails e = PowerTail (Expressions e) (Ors e)

power_tail : (d : ℕ) → PartsGood 9 d → (u : List Word) (y : PowerPart) → AreSaid u → PowerTails d u y → TailSays PowerTails d glues power_part_text y
power_tail d good _ _ said (PowerTail.power {u} {v} {signs} {x} h k) =
    let g = good v x (said_split u v said.1).1 k in
    let fit = g.fit in
    let inner : Text = map sign_byte signs ++ at 9 (printed x) in
    let words : List Word = Symbol symbol.Power ∷ u ++ fit.words in
    let is = power_part_is signs x in
    record {
      says = record {
        words = words;
        spelled = λ e le. PowerTail.power h (fit.spelled e le);
        flat = subst (λ t. Flat glues t words) (sym is) (flat_both sign_text.flat_power (signs_before 9 d x u signs h g) (λ rest _. none_first (inner ++ rest)));
      };
      leads = λ rest. ap (λ t. first_passes glues (t ++ rest)) is;
    }

pub power_good : (d : ℕ) → PartsGood 9 d → PartsGood 8 d
power_good d good _ _ said (Power.alone {u} {x} h) = descend 8 d x (printed x) (good u x said h)
power_good d good _ _ said (Power.chain {u} {v} {x} {y} {ys} h k) =
    let split = said_split u v said in
    let parts = parts_say PowerTails d glues power_part_text (PowerTails d) (power_tail d good) v (y ∷ ys) split.1 k in
    subst (Good 8 d (expr.Power x (y ∷ ys))) (sym (power_is x (y ∷ ys)))
    (chain_good 8 d x (expr.Power x (y ∷ ys)) (printed x) PowerTails power_part_text (y ∷ ys) (omega arith) (good u x split.0 h) parts (λ e a b r s. Power.chain r s))
