-- Calls, subscripts and attributes, read as they are printed.
use Rattle.std.proofs.Common.{◌≡◌, ℕ, List, [], ◌∷◌, ◌++◌, Bool, true, false, ◌==◌, ◌&&◌, if◌then◌else◌, map, Option, None, Some, refl, sym, ap, ◌∙◌, subst, arith}
use Rattle.std.specs.Prelude.{codes}
use Rattle.mx_lex.specs.Bytes.{continues_name, first_passes}
use Rattle.mx_lex.specs.Laws.{IsName}
use Rattle.mx_lex.proofs.Cases.{both}
use Rattle.mx_syntax.specs.declared.expr.Expr.{Expr, fold-roll-Expr}
use Rattle.mx_syntax.specs.declared.expr.Expr.TheVariants as expr
use Rattle.mx_syntax.specs.declared.expr.Args.{Args, fold-roll-Args}
use Rattle.mx_syntax.specs.declared.expr.Args.TheVariants as args
use Rattle.mx_syntax.specs.declared.expr.Args.TheOpen.{Expr-F, Args-F, Trailer-F}
use Rattle.mx_syntax.specs.declared.expr.Trailer.{Trailer, fold-roll-Trailer}
use Rattle.mx_syntax.specs.declared.expr.Trailer.TheVariants as trailer
use Rattle.mx_print.specs.Texts.{Text, commas}
use Rattle.mx_syntax.specs.Lists.{flat}
use Rattle.mx_print.specs.Expressions.{Piece, form, at, gap, begins_with_dot, printed, args_text, trailer_text, generator_test_text, args_step, comparison_step, piece, trailer_step, arm_step, power_step, product_step, sum_step}
use Rattle.mx_grammar.specs.declared.word.Word.{Word}
use Rattle.mx_grammar.specs.declared.word.Word.TheVariants as word
use Rattle.mx_grammar.specs.declared.word.Symbol.TheVariants as symbol
use Rattle.mx_grammar.specs.Grammar.{Spelling, Listed, Parts}
use Rattle.mx_expression.specs.Operands.{Test, Arguments, Trailing, Post}
use Rattle.mx_expression.specs.Expressions.{Ors, Expressions}
use Rattle.mx_round_trip.proofs.Goes.{none_first}
use Rattle.mx_round_trip.proofs.Numbers.{glues}
use Rattle.mx_round_trip.proofs.Flat.{Flat, flat_both, flat_more, flat_nothing, flat_round}
use Rattle.mx_round_trip.proofs.Operators as sign_text
use Rattle.mx_round_trip.proofs.Sources.{AreSaid, said_split}
use Rattle.mx_round_trip.proofs.Says.{Says, TailSays, parts_say, some_of}
use Rattle.mx_round_trip.proofs.ExpressionRules.{Rule, Good, stops, stops_glues, begins_at, begins_front, form_alone, descend_atom}
use Rattle.mx_round_trip.proofs.Chains.{PartsGood}
use Rattle.mx_round_trip.proofs.Names.{flat_name, name_no_digit, flat_dot, flat_square}
use Rattle.mx_round_trip.proofs.Atoms.{Inner, item_text, all_at_is, atom_good}

abbrev ArgumentLists : ℕ → Spelling Args
ArgumentLists e = Arguments (Expressions e) (Ors e)

abbrev Trailings : ℕ → Spelling Trailer
Trailings e = Trailing (Expressions e) (Ors e)

-- ---- arguments

list_is : (xs : List Expr) → args_text (args.List xs) ≡ commas (map item_text xs)
list_is xs =
    ap args_text (sym (args.rolls-List xs)) ∙ fold-roll-Args Text Text Piece Text Text Text Text Text args_step comparison_step piece trailer_step arm_step power_step product_step sum_step (Args-F.List xs)
    ∙ ap commas (all_at_is 0 xs)

-- a list with commas between its items
items_say : (d : ℕ) → Inner d → (u : List Word) (xs : List Expr) → AreSaid u → Listed (Expressions d) u xs → Says (λ e. Listed (Expressions e)) d glues xs (commas (map item_text xs))
items_say d inner _ _ said Listed.none = record { words = []; spelled = λ e le. Listed.none; flat = flat_nothing }
items_say d inner _ _ said (Listed.one {u} {x} h) =
    let s = some_of Expressions d glues item_text (Expressions d) refl inner.whole u x [] said (Listed.one h) in
    record { words = s.words; spelled = s.spelled; flat = s.flat }
items_say d inner _ _ said (Listed.more {u} {v} {x} {xs} h k) =
    let s = some_of Expressions d glues item_text (Expressions d) refl inner.whole (u ++ word.Symbol symbol.Comma ∷ v) x xs said (Listed.more h k) in
    record { words = s.words; spelled = s.spelled; flat = s.flat }

generator_is : (element : Expr) (name : List ℕ) (over : Expr) (test : Option Expr)
    → args_text (args.Gen element name over test) ≡ at 0 (printed element) ++ (codes " for " ++ (name ++ (codes " in " ++ (at 1 (printed over) ++ generator_test_text test))))
generator_is element name over None =
    ap args_text (sym (args.rolls-Gen element name over None)) ∙ fold-roll-Args Text Text Piece Text Text Text Text Text args_step comparison_step piece trailer_step arm_step power_step product_step sum_step (Args-F.Gen element name over None)
generator_is element name over (Some test) =
    ap args_text (sym (args.rolls-Gen element name over (Some test))) ∙ fold-roll-Args Text Text Piece Text Text Text Text Text args_step comparison_step piece trailer_step arm_step power_step product_step sum_step (Args-F.Gen element name over (Some test))

record TestSays (d : ℕ) (test : Option Expr) : Type 0 where
  says : Says (λ e. Test (Ors e)) d glues test (generator_test_text test)
  leads : (rest : List ℕ) → first_passes glues rest ≡ false → first_passes glues (generator_test_text test ++ rest) ≡ false

test_says : (d : ℕ) → Inner d → (u : List Word) (test : Option Expr) → AreSaid u → Test (Ors d) u test → TestSays d test
test_says d inner _ _ said Test.none = record { says = record { words = []; spelled = λ e le. Test.none; flat = flat_nothing }; leads = λ rest h. h }
test_says d inner _ _ said (Test.test {u} {x} h) =
    let p = inner.part u x said.1 h in
    record {
      says = record { words = word.Symbol symbol.If ∷ p.words; spelled = λ e le. Test.test (p.spelled e le); flat = flat_both sign_text.flat_if p.flat (λ rest _. none_first (at 1 (printed x) ++ rest)) };
      leads = λ rest _. refl;
    }

arguments_say : (d : ℕ) → Inner d → (u : List Word) (a : Args) → AreSaid u → ArgumentLists d u a → Says ArgumentLists d glues a (args_text a)
arguments_say d inner _ _ said (Arguments.list {u} {xs} h) =
    let s = items_say d inner u xs said h in
    record { words = s.words; spelled = λ e le. Arguments.list (s.spelled e le); flat = subst (λ t. Flat glues t s.words) (sym (list_is xs)) s.flat }
arguments_say d inner _ _ said (Arguments.generator {u} {v} {w} {n} {element} {over} {test} h k l) =
    let front = said_split u (word.Symbol symbol.For ∷ word.Name n ∷ word.Symbol symbol.In ∷ v ++ w) said in
    let name : IsName n = front.1.1.0 in
    let back = said_split v w front.1.1.1.1 in
    let a = inner.whole u element front.0 h in
    let b = inner.part v over back.0 k in
    let c = test_says d inner w test back.1 l in
    let t = c.says in
    let over_text : Text = at 1 (printed over) ++ generator_test_text test in
    let name_text : Text = n ++ (codes " in " ++ over_text) in
    let words : List Word = a.words ++ (word.Symbol symbol.For ∷ word.Name n ∷ word.Symbol symbol.In ∷ b.words ++ t.words) in
    let over_flat : Flat glues over_text (b.words ++ t.words) = flat_both b.flat t.flat c.leads in
    let in_flat : Flat glues (codes " in " ++ over_text) (word.Symbol symbol.In ∷ (b.words ++ t.words)) = flat_both sign_text.flat_in over_flat (λ rest _. none_first (over_text ++ rest)) in
    let name_flat : Flat glues name_text (word.Name n ∷ word.Symbol symbol.In ∷ (b.words ++ t.words)) = flat_both (flat_name n name) in_flat (λ rest _. refl) in
    let for_flat : Flat glues (codes " for " ++ name_text) (word.Symbol symbol.For ∷ word.Name n ∷ word.Symbol symbol.In ∷ (b.words ++ t.words)) = flat_both sign_text.flat_for name_flat (λ rest _. none_first (name_text ++ rest)) in
    record {
      words = words;
      spelled = λ e le. Arguments.generator (a.spelled e le) (b.spelled e le) (t.spelled e le);
      flat = subst (λ x. Flat glues x words) (sym (generator_is element n over test)) (flat_both a.flat for_flat (λ rest _. refl));
    }

-- ---- trailers

call_is : (a : Args) → trailer_text (trailer.Call a) ≡ 40 ∷ (args_text a ++ 41 ∷ [])
call_is a = ap trailer_text (sym (trailer.rolls-Call a)) ∙ fold-roll-Trailer Text Text Piece Text Text Text Text Text args_step comparison_step piece trailer_step arm_step power_step product_step sum_step (Trailer-F.Call a)

index_is : (xs : List Expr) → trailer_text (trailer.Index xs) ≡ 91 ∷ (commas (map item_text xs) ++ 93 ∷ [])
index_is xs =
    ap trailer_text (sym (trailer.rolls-Index xs)) ∙ fold-roll-Trailer Text Text Piece Text Text Text Text Text args_step comparison_step piece trailer_step arm_step power_step product_step sum_step (Trailer-F.Index xs)
    ∙ ap (λ (ts : List Text). 91 ∷ (commas ts ++ 93 ∷ [])) (all_at_is 0 xs)

attribute_is : (n : List ℕ) → trailer_text (trailer.Attr n) ≡ 46 ∷ n
attribute_is n = ap trailer_text (sym (trailer.rolls-Attr n)) ∙ fold-roll-Trailer Text Text Piece Text Text Text Text Text args_step comparison_step piece trailer_step arm_step power_step product_step sum_step (Trailer-F.Attr n)

-- a trailer's first byte goes on with no name, and with a number only where it is a point
record FirstByte (text : Text) : Type 0 where
  byte : ℕ
  more : Text
  is : text ≡ byte ∷ more
  name : continues_name byte ≡ false
  number : glues byte ≡ (byte == 46)

first_of : (d : ℕ) (u : List Word) (y : Trailer) → Trailings d u y → FirstByte (trailer_text y)
first_of d _ _ (Trailing.call {u} {a} h) = record { byte = 40; more = args_text a ++ 41 ∷ []; is = call_is a; name = refl; number = refl }
first_of d _ _ (Trailing.index {u} {x} {xs} h) = record { byte = 91; more = commas (map item_text (x ∷ xs)) ++ 93 ∷ []; is = index_is (x ∷ xs); name = refl; number = refl }
first_of d _ _ (Trailing.attribute {n}) = record { byte = 46; more = n; is = attribute_is n; name = refl; number = refl }

trailing_says : (d : ℕ) → Inner d → (u : List Word) (y : Trailer) → AreSaid u → Trailings d u y → Says Trailings d continues_name y (trailer_text y)
trailing_says d inner _ _ said (Trailing.call {u} {a} h) =
    let s = arguments_say d inner u a (said_split u (word.Symbol symbol.CloseRound ∷ []) said.1).0 h in
    let words : List Word = word.Symbol symbol.OpenRound ∷ s.words ++ word.Symbol symbol.CloseRound ∷ [] in
    record { words = words; spelled = λ e le. Trailing.call (s.spelled e le); flat = subst (λ t. Flat continues_name t words) (sym (call_is a)) (flat_more (flat_round s.flat refl) (λ b _. refl)) }
trailing_says d inner _ _ said (Trailing.index {u} {x} {xs} h) =
    let s = items_say d inner u (x ∷ xs) (said_split u (word.Symbol symbol.CloseSquare ∷ []) said.1).0 h in
    let words : List Word = word.Symbol symbol.OpenSquare ∷ s.words ++ word.Symbol symbol.CloseSquare ∷ [] in
    record { words = words; spelled = λ e le. Trailing.index (s.spelled e le); flat = subst (λ t. Flat continues_name t words) (sym (index_is (x ∷ xs))) (flat_more (flat_square s.flat refl) (λ b _. refl)) }
trailing_says d inner _ _ said (Trailing.attribute {n}) =
    let name : IsName n = said.1.0 in
    let words : List Word = word.Symbol symbol.Dot ∷ word.Name n ∷ [] in
    record { words = words; spelled = λ e le. Trailing.attribute; flat = subst (λ t. Flat continues_name t words) (sym (attribute_is n)) (flat_both flat_dot (flat_name n name) (λ rest _. name_no_digit n rest name)) }

trailer_tail : (d : ℕ) → Inner d → (u : List Word) (y : Trailer) → AreSaid u → Trailings d u y → TailSays Trailings d continues_name trailer_text y
trailer_tail d inner u y said h =
    let first = first_of d u y h in
    record { says = trailing_says d inner u y said h; leads = λ rest. ap (λ t. first_passes continues_name (t ++ rest)) first.is ∙ first.name }

-- ---- a part with trailers

post_is : (x : Expr) (ys : List Trailer) → printed (expr.Post x ys) ≡ form 9 (at 10 (printed x) ++ (gap (printed x) (map trailer_text ys) ++ flat (map trailer_text ys)))
post_is x ys = ap printed (sym (expr.rolls-Post x ys)) ∙ fold-roll-Expr Text Text Piece Text Text Text Text Text args_step comparison_step piece trailer_step arm_step power_step product_step sum_step (Expr-F.Post x ys)

-- the text behind a part, with a space in front where a point would go on with its number
abbrev behind : Bool → List Text → Text
behind number ts = (if number && begins_with_dot ts then codes " " else []) ++ flat ts

post_by : (number : Bool) (t : Text) (ws vs : List Word) (b : ℕ) (more : Text) (ts : List Text) → continues_name b ≡ false → glues b ≡ (b == 46) → Flat (stops number) t ws → Flat glues (flat ((b ∷ more) ∷ ts)) vs
    → Flat glues (t ++ behind number ((b ∷ more) ∷ ts)) (ws ++ vs)
post_by false t ws vs b more ts name number g h = flat_both g h (λ rest _. name)
post_by true t ws vs b more ts name number g h =
    both (λ (space : Text). Flat glues (t ++ (space ++ flat ((b ∷ more) ∷ ts))) (ws ++ vs)) (b == 46) (32 ∷ []) []
    (λ _. flat_both g (sign_text.flat_space h) (λ rest _. refl))
    (λ other. flat_both g h (λ rest _. number ∙ other))

post_flat : (number : Bool) (t : Text) (ws vs : List Word) (first : Text) (ts : List Text) → FirstByte first → Flat (stops number) t ws → Flat glues (flat (first ∷ ts)) vs → Flat glues (t ++ behind number (first ∷ ts)) (ws ++ vs)
post_flat number t ws vs first ts f g h =
    subst (λ l. Flat glues (t ++ behind number (l ∷ ts)) (ws ++ vs)) (sym f.is)
    (post_by number t ws vs f.byte f.more ts f.name f.number g (subst (λ l. Flat glues (flat (l ∷ ts)) vs) f.is h))

first_part : (d : ℕ) (u : List Word) (y : Trailer) (ys : List Trailer) → Parts (Trailings d) u (y ∷ ys) → FirstByte (trailer_text y)
first_part d _ _ _ (Parts.more {u} {v} {x} {xs} h k) = first_of d u x h

pub post_good : (d : ℕ) → Inner d → PartsGood 9 d
post_good d inner _ _ said (Post.alone {u} {x} h) = descend_atom d x (printed x) (atom_good d inner u x said h)
post_good d inner _ _ said (Post.chain {u} {v} {x} {y} {ys} h k) =
    let split = said_split u v said in
    let g = atom_good d inner u x split.0 h in
    let fit = g.fit in
    let parts = parts_say Trailings d continues_name trailer_text (Trailings d) (trailer_tail d inner) v (y ∷ ys) split.1 k in
    let p : Piece = printed x in
    let text : Text = at 10 p ++ behind p.number (map trailer_text (y ∷ ys)) in
    let own : Says (Rule 9) d glues (expr.Post x (y ∷ ys)) text = record {
      words = fit.words ++ parts.words;
      spelled = λ e le. Post.chain (fit.spelled e le) (parts.spelled e le);
      flat = post_flat p.number (at 10 p) fit.words parts.words (trailer_text y) (map trailer_text ys) (first_part d v y ys k) fit.flat (flat_more parts.flat (stops_glues false));
    } in
    subst (Good 9 d (expr.Post x (y ∷ ys))) (sym (post_is x (y ∷ ys)))
    (form_alone 9 d (expr.Post x (y ∷ ys)) text (omega arith) own (begins_front (at 10 p) (behind p.number (map trailer_text (y ∷ ys))) (begins_at 10 p g.begins)))
