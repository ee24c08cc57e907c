-- Statements of one line, read as they are printed.
use Rattle.std.proofs.Common.{◌≡◌, ℕ, ◌≤◌, List, [], ◌∷◌, ◌++◌, true, false, Option, None, Some, refl, sym, ap, ◌∙◌}
use Rattle.std.specs.Prelude.{codes}
use Rattle.mx_lex.specs.Bytes.{first_passes}
use Rattle.mx_lex.specs.Laws.{IsName}
use Rattle.mx_syntax.specs.declared.expr.Expr.{Expr}
use Rattle.mx_syntax.specs.declared.stmt.Stmt.{Stmt, fold-roll-Stmt}
use Rattle.mx_syntax.specs.declared.stmt.Stmt.TheVariants as stmt
use Rattle.mx_syntax.specs.declared.stmt.Stmt.TheOpen.{Stmt-F}
use Rattle.mx_syntax.specs.declared.stmt.ArithOp.{ArithOp}
use Rattle.mx_syntax.specs.declared.stmt.ArithOp.TheVariants as change
use Rattle.mx_syntax.specs.declared.stmt.ItemEntry.{ItemEntry}
use Rattle.mx_print.specs.Texts.{Text}
use Rattle.mx_print.specs.Statements.{whole, arith_text, display_text, return_text, assign_text, change_text, stmt_step, arm_step, stmt_lines, returned_step, any_arm, returned}
use Rattle.mx_grammar.specs.declared.word.Word.{Word}
use Rattle.mx_grammar.specs.declared.word.Word.TheVariants as word
use Rattle.mx_grammar.specs.declared.word.Symbol.TheVariants as symbol
use Rattle.mx_grammar.specs.Grammar.{Spelling}
use Rattle.mx_expression.specs.Expressions.{Expressions}
use Rattle.mx_parse.specs.Statements.{Simple}
use Rattle.mx_round_trip.proofs.Goes.{none, none_first}
use Rattle.mx_round_trip.proofs.Numbers.{glues}
use Rattle.mx_round_trip.proofs.Flat.{Flat, flat_both, flat_more}
use Rattle.mx_round_trip.proofs.Printed.{starts}
use Rattle.mx_round_trip.proofs.Sources.{AreSaid}
use Rattle.mx_round_trip.proofs.Says.{Says}
use Rattle.mx_round_trip.proofs.ExpressionRules.{stops_glues, starts_first}
use Rattle.mx_round_trip.proofs.Names.{flat_name, name_begins}
use Rattle.mx_round_trip.proofs.Blocks.{passes_front}
use Rattle.mx_round_trip.proofs.Expressions.{whole_says}
use Rattle.mx_round_trip.proofs.LineWords as line

-- what a statement returns that is a formula of one line, where it is all of a body
pub data Returns (Item : ℕ → Spelling (List ItemEntry)) (d : ℕ) : Stmt → Type 0 where
  gives : (x : Expr) → Says Expressions d glues x (whole x) → Returns Item d (stmt.Return (Some x))
  shows : (entries : List ItemEntry) → Says Item d none entries (display_text entries) → Returns Item d (stmt.ReturnItem entries)
  otherwise : (s : Stmt) → returned s ≡ None → Returns Item d s

-- a statement of one line
pub record SimpleSays (Item : ℕ → Spelling (List ItemEntry)) (d : ℕ) (s : Stmt) : Type 0 where
  pub words : List Word
  pub spelled : (k : ℕ) → d ≤ k → Simple (Expressions k) (Item k) words s
  pub text : Text
  pub is : stmt_lines s ≡ text ∷ []
  pub flat : Flat glues text words
  pub starts : first_passes starts text ≡ true
  pub returns : Returns Item d s

pass_is : stmt_lines stmt.Pass ≡ codes "pass" ∷ []
pass_is = ap stmt_lines (sym stmt.rolls-Pass) ∙ fold-roll-Stmt (List Text) (List Text) stmt_step arm_step Stmt-F.Pass

return_is : (value : Option Expr) → stmt_lines (stmt.Return value) ≡ return_text value ∷ []
return_is value = ap stmt_lines (sym (stmt.rolls-Return value)) ∙ fold-roll-Stmt (List Text) (List Text) stmt_step arm_step (Stmt-F.Return value)

item_is : (entries : List ItemEntry) → stmt_lines (stmt.ReturnItem entries) ≡ (codes "return " ++ display_text entries) ∷ []
item_is entries = ap stmt_lines (sym (stmt.rolls-ReturnItem entries)) ∙ fold-roll-Stmt (List Text) (List Text) stmt_step arm_step (Stmt-F.ReturnItem entries)

assign_is : (n : List ℕ) (x : Expr) → stmt_lines (stmt.Assign n x) ≡ assign_text n x ∷ []
assign_is n x = ap stmt_lines (sym (stmt.rolls-Assign n x)) ∙ fold-roll-Stmt (List Text) (List Text) stmt_step arm_step (Stmt-F.Assign n x)

change_is : (n : List ℕ) (op : ArithOp) (x : Expr) → stmt_lines (stmt.Change n op x) ≡ change_text n op x ∷ []
change_is n op x = ap stmt_lines (sym (stmt.rolls-Change n op x)) ∙ fold-roll-Stmt (List Text) (List Text) stmt_step arm_step (Stmt-F.Change n op x)

pass_returns : returned stmt.Pass ≡ None
pass_returns = ap returned (sym stmt.rolls-Pass) ∙ fold-roll-Stmt (Option Text) (Unit {0}) returned_step any_arm Stmt-F.Pass

none_returns : returned (stmt.Return None) ≡ None
none_returns = ap returned (sym (stmt.rolls-Return None)) ∙ fold-roll-Stmt (Option Text) (Unit {0}) returned_step any_arm (Stmt-F.Return None)

assign_returns : (n : List ℕ) (x : Expr) → returned (stmt.Assign n x) ≡ None
assign_returns n x = ap returned (sym (stmt.rolls-Assign n x)) ∙ fold-roll-Stmt (Option Text) (Unit {0}) returned_step any_arm (Stmt-F.Assign n x)

change_returns : (n : List ℕ) (op : ArithOp) (x : Expr) → returned (stmt.Change n op x) ≡ None
change_returns n op x = ap returned (sym (stmt.rolls-Change n op x)) ∙ fold-roll-Stmt (Option Text) (Unit {0}) returned_step any_arm (Stmt-F.Change n op x)

pub value_returns : (x : Expr) → returned (stmt.Return (Some x)) ≡ Some (whole x)
value_returns x = ap returned (sym (stmt.rolls-Return (Some x))) ∙ fold-roll-Stmt (Option Text) (Unit {0}) returned_step any_arm (Stmt-F.Return (Some x))

pub item_returns : (entries : List ItemEntry) → returned (stmt.ReturnItem entries) ≡ Some (display_text entries)
item_returns entries = ap returned (sym (stmt.rolls-ReturnItem entries)) ∙ fold-roll-Stmt (Option Text) (Unit {0}) returned_step any_arm (Stmt-F.ReturnItem entries)

module _ (Item : ℕ → Spelling (List ItemEntry)) (d : ℕ) (items : (u : List Word) (entries : List ItemEntry) → AreSaid u → Item d u entries → Says Item d none entries (display_text entries)) where
  change_says : (n : List ℕ) (op : ArithOp) (x : Expr) (sign : Word) (mark : Text) → arith_text op ≡ 32 ∷ mark → Flat none (32 ∷ mark) (sign ∷ []) → IsName n → (g : Says Expressions d glues x (whole x))
      → ((k : ℕ) → d ≤ k → Simple (Expressions k) (Item k) (word.Name n ∷ sign ∷ g.words) (stmt.Change n op x)) → SimpleSays Item d (stmt.Change n op x)
  change_says n op x sign mark is flat name g spells = record {
    words = word.Name n ∷ sign ∷ g.words;
    spelled = spells;
    text = n ++ ((32 ∷ mark) ++ whole x);
    is = change_is n op x ∙ ap (λ (t : Text). (n ++ (t ++ whole x)) ∷ []) is;
    flat = flat_both (flat_name n name) (flat_both flat g.flat (λ rest _. none_first (whole x ++ rest))) (λ rest _. refl);
    starts = passes_front starts n ((32 ∷ mark) ++ whole x) (starts_first n (name_begins n name));
    returns = Returns.otherwise (stmt.Change n op x) (change_returns n op x);
  }

  pub simple_says : (u : List Word) (s : Stmt) → AreSaid u → Simple (Expressions d) (Item d) u s → SimpleSays Item d s
  simple_says _ _ said Simple.pass = record {
    words = word.Symbol symbol.Pass ∷ [];
    spelled = λ k le. Simple.pass;
    text = codes "pass";
    is = pass_is;
    flat = flat_more line.flat_pass (stops_glues false);
    starts = refl;
    returns = Returns.otherwise stmt.Pass pass_returns;
  }
  simple_says _ _ said Simple.leave = record {
    words = word.Symbol symbol.Return ∷ [];
    spelled = λ k le. Simple.leave;
    text = codes "return";
    is = return_is None;
    flat = flat_more line.flat_return (stops_glues false);
    starts = refl;
    returns = Returns.otherwise (stmt.Return None) none_returns;
  }
  simple_says _ _ said (Simple.value {u} {x} h) =
      let g = whole_says d u x said.1 h in
      record {
        words = word.Symbol symbol.Return ∷ g.words;
        spelled = λ k le. Simple.value (g.spelled k le);
        text = codes "return " ++ whole x;
        is = return_is (Some x);
        flat = flat_both line.flat_returns g.flat (λ rest _. none_first (whole x ++ rest));
        starts = refl;
        returns = Returns.gives x g;
      }
  simple_says _ _ said (Simple.item {u} {entries} h) =
      let g = items u entries said.1 h in
      record {
        words = word.Symbol symbol.Return ∷ g.words;
        spelled = λ k le. Simple.item (g.spelled k le);
        text = codes "return " ++ display_text entries;
        is = item_is entries;
        flat = flat_more (flat_both line.flat_returns g.flat (λ rest _. none_first (display_text entries ++ rest))) (λ b _. refl);
        starts = refl;
        returns = Returns.shows entries g;
      }
  simple_says _ _ said (Simple.assign {n} {u} {x} h) =
      let g = whole_says d u x said.1.1 h in
      record {
        words = word.Name n ∷ word.Symbol symbol.Assign ∷ g.words;
        spelled = λ k le. Simple.assign (g.spelled k le);
        text = assign_text n x;
        is = assign_is n x;
        flat = flat_both (flat_name n said.0) (flat_both line.flat_assign g.flat (λ rest _. none_first (whole x ++ rest))) (λ rest _. refl);
        starts = passes_front starts n (codes " = " ++ whole x) (starts_first n (name_begins n said.0));
        returns = Returns.otherwise (stmt.Assign n x) (assign_returns n x);
      }
  simple_says _ _ said (Simple.add {n} {u} {x} h) =
      let g = whole_says d u x said.1.1 h in
      change_says n change.Add x (word.Symbol symbol.PlusAssign) (codes "+= ") refl line.flat_add said.0 g (λ k le. Simple.add (g.spelled k le))
  simple_says _ _ said (Simple.sub {n} {u} {x} h) =
      let g = whole_says d u x said.1.1 h in
      change_says n change.Sub x (word.Symbol symbol.MinusAssign) (codes "-= ") refl line.flat_sub said.0 g (λ k le. Simple.sub (g.spelled k le))
  simple_says _ _ said (Simple.mul {n} {u} {x} h) =
      let g = whole_says d u x said.1.1 h in
      change_says n change.Mul x (word.Symbol symbol.TimesAssign) (codes "*= ") refl line.flat_mul said.0 g (λ k le. Simple.mul (g.spelled k le))
