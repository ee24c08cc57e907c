-- `not`, `and`, `or` and conditionals, read as they are printed.
use Rattle.std.proofs.Common.{◌≡◌, ℕ, suc, List, [], ◌∷◌, ◌++◌, true, map, replicate, refl, sym, ap, ◌∙◌, subst, append_assoc, arith}
use Rattle.std.specs.Prelude.{codes}
use Rattle.std.specs.List.{concat}
use Rattle.mx_lex.specs.Bytes.{first_passes}
use Rattle.mx_syntax.specs.declared.expr.Expr.{Expr, fold-roll-Expr}
use Rattle.mx_syntax.specs.declared.expr.Expr.TheVariants as expr
use Rattle.mx_syntax.specs.declared.expr.Args.TheOpen.{Expr-F}
use Rattle.mx_syntax.specs.declared.expr.Arm.{Arm, roll-Arm, fold-roll-Arm}
use Rattle.mx_print.specs.Texts.{Text}
use Rattle.mx_syntax.specs.Lists.{flat}
use Rattle.mx_print.specs.Expressions.{Piece, form, at, all_at, printed, arm_text, args_step, comparison_step, piece, trailer_step, arm_step, power_step, product_step, sum_step}
use Rattle.mx_grammar.specs.declared.word.Word.{Word}
use Rattle.mx_grammar.specs.declared.word.Word.TheVariants.{Symbol}
use Rattle.mx_grammar.specs.declared.word.Symbol.TheVariants as symbol
use Rattle.mx_grammar.specs.Grammar.{Spelling, Parts}
use Rattle.mx_expression.specs.Chains.{Nots, Not, AndTail, And, OrTail, Or, ArmText, Conditional}
use Rattle.mx_round_trip.proofs.Goes.{none, none_first}
use Rattle.mx_round_trip.proofs.Numbers.{glues}
use Rattle.mx_round_trip.proofs.Flat.{Flat, flat_both, flat_nothing}
use Rattle.mx_round_trip.proofs.Operators as sign_text
use Rattle.mx_round_trip.proofs.Sources.{AreSaid, said_split}
use Rattle.mx_round_trip.proofs.Says.{Says, TailSays, parts_say}
use Rattle.mx_round_trip.proofs.ExpressionRules.{Rule, Good, begins, begins_at, begins_front, form_alone, descend}
use Rattle.mx_round_trip.proofs.Chains.{PartsGood, chain_good, tail_says}

-- ---- not

not_is : (n : ℕ) (x : Expr) → printed (expr.Not n x) ≡ form 3 (flat (replicate n (codes "not ")) ++ at 4 (printed x))
not_is n x = ap printed (sym (expr.rolls-Not n x)) ∙ fold-roll-Expr Text Text Piece Text Text Text Text Text args_step comparison_step piece trailer_step arm_step power_step product_step sum_step (Expr-F.Not n x)

flat_nots : (u : List Word) (n : ℕ) → Nots u n → Flat none (flat (replicate n (codes "not "))) u
flat_nots _ _ Nots.none = flat_nothing
flat_nots _ _ (Nots.more {u} {n} h) = sign_text.flat_not_before (flat_nots u n h)

pub not_good : (d : ℕ) → PartsGood 4 d → PartsGood 3 d
not_good d good _ _ said (Not.alone {u} {x} h) = descend 3 d x (printed x) (good u x said h)
not_good d good _ _ said (Not.nots {u} {v} {n} {x} ns h) =
    let g = good v x (said_split u v said).1 h in
    let fit = g.fit in
    let own : Says (Rule 3) d glues (expr.Not (suc n) x) (flat (replicate (suc n) (codes "not ")) ++ at 4 (printed x)) = record {
      words = u ++ fit.words;
      spelled = λ e le. Not.nots ns (fit.spelled e le);
      flat = flat_both (flat_nots u (suc n) ns) fit.flat (λ rest _. none_first (at 4 (printed x) ++ rest));
    } in
    subst (Good 3 d (expr.Not (suc n) x)) (sym (not_is (suc n) x)) (form_alone 3 d (expr.Not (suc n) x) (flat (replicate (suc n) (codes "not ")) ++ at 4 (printed x)) (omega arith) own refl)

-- ---- and, or

-- parts with a separator before each
joined : (separator : Text) (l : ℕ) (xs : List Expr) → concat (map (λ (u : Text). separator ++ u) (all_at l (map printed xs))) ≡ flat (map (λ (y : Expr). separator ++ at l (printed y)) xs)
joined separator l [] = refl
joined separator l (x ∷ xs) = ap (λ (t : Text). (separator ++ at l (printed x)) ++ t) (joined separator l xs)

abbrev and_text : Expr → Text
and_text y = codes " and " ++ at 3 (printed y)

and_is : (x : Expr) (ys : List Expr) → printed (expr.And (x ∷ ys)) ≡ form 2 (at 3 (printed x) ++ flat (map and_text ys))
and_is x ys =
    ap printed (sym (expr.rolls-And (x ∷ ys))) ∙ fold-roll-Expr Text Text Piece Text Text Text Text Text args_step comparison_step piece trailer_step arm_step power_step product_step sum_step (Expr-F.And (x ∷ ys))
    ∙ ap (λ (t : Text). form 2 (at 3 (printed x) ++ t)) (joined (codes " and ") 3 ys)

and_tail : (d : ℕ) → PartsGood 3 d → (u : List Word) (y : Expr) → AreSaid u → AndTail (Rule 3 d) u y → TailSays (λ e. AndTail (Rule 3 e)) d glues and_text y
and_tail d good _ _ said (AndTail.tail {u} {x} h) =
    tail_says 3 d (λ e. AndTail (Rule 3 e)) and_text x x (printed x) (codes "and ") (Symbol symbol.And ∷ []) refl sign_text.flat_and (good u x said.1 h) (λ e w r. AndTail.tail r)

pub and_good : (d : ℕ) → PartsGood 3 d → PartsGood 2 d
and_good d good _ _ said (And.alone {u} {x} h) = descend 2 d x (printed x) (good u x said h)
and_good d good _ _ said (And.chain {u} {v} {x} {y} {ys} h k) =
    let split = said_split u v said in
    let parts = parts_say (λ e. AndTail (Rule 3 e)) d glues and_text (AndTail (Rule 3 d)) (and_tail d good) v (y ∷ ys) split.1 k in
    subst (Good 2 d (expr.And (x ∷ y ∷ ys))) (sym (and_is x (y ∷ ys)))
    (chain_good 2 d x (expr.And (x ∷ y ∷ ys)) (printed x) (λ e. AndTail (Rule 3 e)) and_text (y ∷ ys) (omega arith) (good u x split.0 h) parts (λ e a b r s. And.chain r s))

abbrev or_text : Expr → Text
or_text y = codes " or " ++ at 2 (printed y)

or_is : (x : Expr) (ys : List Expr) → printed (expr.Or (x ∷ ys)) ≡ form 1 (at 2 (printed x) ++ flat (map or_text ys))
or_is x ys =
    ap printed (sym (expr.rolls-Or (x ∷ ys))) ∙ fold-roll-Expr Text Text Piece Text Text Text Text Text args_step comparison_step piece trailer_step arm_step power_step product_step sum_step (Expr-F.Or (x ∷ ys))
    ∙ ap (λ (t : Text). form 1 (at 2 (printed x) ++ t)) (joined (codes " or ") 2 ys)

or_tail : (d : ℕ) → PartsGood 2 d → (u : List Word) (y : Expr) → AreSaid u → OrTail (Rule 2 d) u y → TailSays (λ e. OrTail (Rule 2 e)) d glues or_text y
or_tail d good _ _ said (OrTail.tail {u} {x} h) =
    tail_says 2 d (λ e. OrTail (Rule 2 e)) or_text x x (printed x) (codes "or ") (Symbol symbol.Or ∷ []) refl sign_text.flat_or (good u x said.1 h) (λ e w r. OrTail.tail r)

pub or_good : (d : ℕ) → PartsGood 2 d → PartsGood 1 d
or_good d good _ _ said (Or.alone {u} {x} h) = descend 1 d x (printed x) (good u x said h)
or_good d good _ _ said (Or.chain {u} {v} {x} {y} {ys} h k) =
    let split = said_split u v said in
    let parts = parts_say (λ e. OrTail (Rule 2 e)) d glues or_text (OrTail (Rule 2 d)) (or_tail d good) v (y ∷ ys) split.1 k in
    subst (Good 1 d (expr.Or (x ∷ y ∷ ys))) (sym (or_is x (y ∷ ys)))
    (chain_good 1 d x (expr.Or (x ∷ y ∷ ys)) (printed x) (λ e. OrTail (Rule 2 e)) or_text (y ∷ ys) (omega arith) (good u x split.0 h) parts (λ e a b r s. Or.chain r s))

-- ---- conditionals

cond_is : (ys : List Arm) (x : Expr) → printed (expr.Cond ys x) ≡ form 0 (flat (map arm_text ys) ++ at 1 (printed x))
cond_is ys x = ap printed (sym (expr.rolls-Cond ys x)) ∙ fold-roll-Expr Text Text Piece Text Text Text Text Text args_step comparison_step piece trailer_step arm_step power_step product_step sum_step (Expr-F.Cond ys x)

arm_is : (value test : Expr) → arm_text (roll-Arm (record { value = value; test = test })) ≡ at 1 (printed value) ++ (codes " if " ++ (at 1 (printed test) ++ codes " else "))
arm_is value test = fold-roll-Arm Text Text Piece Text Text Text Text Text args_step comparison_step piece trailer_step arm_step power_step product_step sum_step (record { value = value; test = test })

abbrev Arms : ℕ → Spelling Arm
Arms e = ArmText (Rule 1 e)

arm_tail : (d : ℕ) → PartsGood 1 d → (u : List Word) (y : Arm) → AreSaid u → Arms d u y → TailSays Arms d none arm_text y
arm_tail d good _ _ said (ArmText.arm {u} {v} {value} {test} h k) =
    let front = said_split (u ++ Symbol symbol.If ∷ v) (Symbol symbol.Else ∷ []) said in
    let split = said_split u (Symbol symbol.If ∷ v) front.0 in
    let g = good u value split.0 h in
    let t = good v test split.1.1 k in
    let a = g.fit in
    let b = t.fit in
    let text : Text = at 1 (printed value) ++ (codes " if " ++ (at 1 (printed test) ++ codes " else ")) in
    let words : List Word = a.words ++ Symbol symbol.If ∷ b.words ++ Symbol symbol.Else ∷ [] in
    let rest_flat = flat_both sign_text.flat_if (flat_both b.flat sign_text.flat_else (λ rest _. refl)) (λ rest _. none_first ((at 1 (printed test) ++ codes " else ") ++ rest)) in
    let read : Flat none text (a.words ++ (Symbol symbol.If ∷ (b.words ++ Symbol symbol.Else ∷ []))) = flat_both a.flat rest_flat (λ rest _. refl) in
    let same : a.words ++ (Symbol symbol.If ∷ (b.words ++ Symbol symbol.Else ∷ [])) ≡ words = sym (append_assoc a.words (Symbol symbol.If ∷ b.words) (Symbol symbol.Else ∷ [])) in
    record {
      says = record {
        words = words;
        spelled = λ e le. ArmText.arm (a.spelled e le) (b.spelled e le);
        flat = subst (λ l. Flat none l words) (sym (arm_is value test)) (subst (Flat none text) same read);
      };
      leads = λ rest. none_first (arm_text (roll-Arm (record { value = value; test = test })) ++ rest);
    }

arms_begin : (d : ℕ) → PartsGood 1 d → (u : List Word) (y : Arm) (ys : List Arm) (behind : Text) → AreSaid u → Parts (Arms d) u (y ∷ ys) → first_passes begins (flat (map arm_text (y ∷ ys)) ++ behind) ≡ true
arms_begin d good _ _ _ behind said (Parts.more {u} {v} {x} {xs} h k) = begins_front (arm_text x ++ flat (map arm_text xs)) behind (begins_front (arm_text x) (flat (map arm_text xs)) (one u x (said_split u v said).0 h))
  where
    one : (w : List Word) (z : Arm) → AreSaid w → Arms d w z → first_passes begins (arm_text z) ≡ true
    one _ _ are (ArmText.arm {u} {v} {value} {test} i j) =
        let front = said_split (u ++ Symbol symbol.If ∷ v) (Symbol symbol.Else ∷ []) are in
        let g = good u value (said_split u (Symbol symbol.If ∷ v) front.0).0 i in
        ap (first_passes begins) (arm_is value test) ∙ begins_front (at 1 (printed value)) (codes " if " ++ (at 1 (printed test) ++ codes " else ")) (begins_at 1 (printed value) g.begins)

pub conditional_good : (d : ℕ) → PartsGood 1 d → PartsGood 0 d
conditional_good d good _ _ said (Conditional.alone {u} {x} h) = descend 0 d x (printed x) (good u x said h)
conditional_good d good _ _ said (Conditional.chain {u} {v} {y} {ys} {x} h k) =
    let split = said_split u v said in
    let arms = parts_say Arms d none arm_text (Arms d) (arm_tail d good) u (y ∷ ys) split.0 h in
    let g = good v x split.1 k in
    let fit = g.fit in
    let text : Text = flat (map arm_text (y ∷ ys)) ++ at 1 (printed x) in
    let own : Says (Rule 0) d glues (expr.Cond (y ∷ ys) x) text = record {
      words = arms.words ++ fit.words;
      spelled = λ e le. Conditional.chain (arms.spelled e le) (fit.spelled e le);
      flat = flat_both arms.flat fit.flat (λ rest _. none_first (at 1 (printed x) ++ rest));
    } in
    subst (Good 0 d (expr.Cond (y ∷ ys) x)) (sym (cond_is (y ∷ ys) x)) (form_alone 0 d (expr.Cond (y ∷ ys) x) text (omega arith) own (arms_begin d good u y ys (at 1 (printed x)) split.0 h))
