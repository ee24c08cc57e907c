-- Statements, read as they are printed.
use Rattle.std.proofs.Common.{◌≡◌, ℕ, ◌≤◌, suc, zero, List, [], ◌∷◌, ◌++◌, true, map, Option, None, Some, refl, sym, ap, ◌∙◌, subst, append_assoc, append-nil, arith}
use Rattle.std.specs.Prelude.{codes}
use Rattle.mx_lex.specs.Bytes.{first_passes}
use Rattle.mx_lex.specs.Laws.{IsName}
use Rattle.mx_syntax.specs.declared.expr.Expr.{Expr}
use Rattle.mx_syntax.specs.declared.stmt.Stmt.{Stmt, fold-roll-Stmt}
use Rattle.mx_syntax.specs.declared.stmt.Stmt.TheVariants as stmt
use Rattle.mx_syntax.specs.declared.stmt.Stmt.TheOpen.{Stmt-F}
use Rattle.mx_syntax.specs.declared.stmt.IfArm.{IfArm, roll-IfArm, fold-roll-IfArm}
use Rattle.mx_syntax.specs.declared.stmt.ItemEntry.{ItemEntry}
use Rattle.mx_print.specs.Texts.{Text}
use Rattle.mx_syntax.specs.Lists.{flat}
use Rattle.mx_print.specs.Statements.{whole, display_text, block, front, if_lines, else_lines, for_text, stmt_step, arm_step, stmt_lines, arm_lines, body_lines, returned_step, any_arm, returned, line_text, lines_text}
use Rattle.mx_grammar.specs.declared.word.Word.{Word}
use Rattle.mx_grammar.specs.declared.word.Word.TheVariants as word
use Rattle.mx_grammar.specs.declared.word.Symbol.TheVariants as symbol
use Rattle.mx_grammar.specs.Grammar.{Spelling, Parts, Line}
use Rattle.mx_expression.specs.Expressions.{Expressions}
use Rattle.mx_parse.specs.Statements.{Simple, Elif, Else, Statement, Body, Block, Blocks, Bodies}
use Rattle.mx_round_trip.proofs.Goes.{none, none_first}
use Rattle.mx_round_trip.proofs.Numbers.{glues}
use Rattle.mx_round_trip.proofs.Plain.{is_plain, are_plain, plain_both, line_plain_before, lines_plain_both, inward_plain}
use Rattle.mx_round_trip.proofs.Flat.{Flat, flat_both}
use Rattle.mx_round_trip.proofs.Operators as sign_text
use Rattle.mx_round_trip.proofs.Printed.{starts}
use Rattle.mx_round_trip.proofs.Sources.{AreSaid, said_split}
use Rattle.mx_round_trip.proofs.Says.{Says}
use Rattle.mx_round_trip.proofs.Names.{flat_name}
use Rattle.mx_round_trip.proofs.Expressions.{whole_says}
use Rattle.mx_round_trip.proofs.LineWords as line
use Rattle.mx_round_trip.proofs.Blocks.{Runs, line_runs, block_runs, MayRun, then_may, blocked}
use Rattle.mx_round_trip.proofs.LineTexts.{lines_both, block_in}
use Rattle.mx_round_trip.proofs.SimpleStatements.{Returns, SimpleSays, simple_says}

abbrev pub Items : Type 1
Items = ℕ → Spelling (List ItemEntry)

abbrev pub BodyAt : Items → ℕ → ℕ → Spelling (List Stmt)
BodyAt Item k e = Bodies (Expressions k) (Item k) e

abbrev pub StmtAt : Items → ℕ → ℕ → Spelling Stmt
StmtAt Item k e = Statement (Expressions k) (Item k) (BodyAt Item k e)

-- a statement, and what its lines give at each margin. Their bytes are printable.
pub record StmtSays (Item : Items) (d c : ℕ) (s : Stmt) : Type 0 where
  pub words : List Word
  pub spelled : (k e : ℕ) → d ≤ k → c ≤ e → StmtAt Item k e words s
  pub runs : (m : ℕ) → Runs m (lines_text m (stmt_lines s)) words
  pub plain : are_plain (stmt_lines s) ≡ true
  pub returns : Returns Item d s

-- statements behind others
record RestSays (Item : Items) (d c : ℕ) (ss : List Stmt) : Type 0 where
  words : List Word
  spelled : (k e : ℕ) → d ≤ k → c ≤ e → Parts (StmtAt Item k e) words ss
  runs : (m : ℕ) → MayRun m (lines_text m (body_lines ss)) words
  plain : are_plain (body_lines ss) ≡ true

-- the statements of a block
pub record BlockSays (Item : Items) (d c : ℕ) (s : Stmt) (others : List Stmt) : Type 0 where
  pub words : List Word
  pub spelled : (k e : ℕ) → d ≤ k → c ≤ e → Parts (StmtAt Item k e) words (s ∷ others)
  pub runs : (m : ℕ) → Runs m (lines_text m (body_lines (s ∷ others))) words
  pub plain : are_plain (body_lines (s ∷ others)) ≡ true
  pub returns : Returns Item d s

pub record BodySays (Item : Items) (d c : ℕ) (body : List Stmt) : Type 0 where
  pub first : Stmt
  pub others : List Stmt
  pub is : first ∷ others ≡ body
  pub block : BlockSays Item d c first others

-- a block is a body, in one level more
pub in_block : (Item : Items) (d c : ℕ) (s : Stmt) (others : List Stmt) (h : BlockSays Item d c s others) (k e : ℕ) → d ≤ k → suc c ≤ e → BodyAt Item k e (blocked h.words) (s ∷ others)
in_block Item d c s others h k zero le more = absurd (omega arith)
in_block Item d c s others h k (suc e) le more = Body.block (Block.block (h.spelled k e le (omega arith)))

-- ---- the lines of statements with blocks

for_is : (n : List ℕ) (over : Expr) (body : List Stmt) → stmt_lines (stmt.For n over body) ≡ for_text n over ∷ block (map stmt_lines body)
for_is n over body = ap stmt_lines (sym (stmt.rolls-For n over body)) ∙ fold-roll-Stmt (List Text) (List Text) stmt_step arm_step (Stmt-F.For n over body)

abbrev other_lines : Option (List Stmt) → List Text
other_lines None = else_lines None
other_lines (Some body) = else_lines (Some (map stmt_lines body))

if_is : (arms : List IfArm) (other : Option (List Stmt)) → stmt_lines (stmt.If arms other) ≡ if_lines (map arm_lines arms) ++ other_lines other
if_is arms None = ap stmt_lines (sym (stmt.rolls-If arms None)) ∙ fold-roll-Stmt (List Text) (List Text) stmt_step arm_step (Stmt-F.If arms None)
if_is arms (Some body) = ap stmt_lines (sym (stmt.rolls-If arms (Some body))) ∙ fold-roll-Stmt (List Text) (List Text) stmt_step arm_step (Stmt-F.If arms (Some body))

arm_is : (test : Expr) (body : List Stmt) → arm_lines (roll-IfArm (record { test = test; body = body })) ≡ (whole test ++ codes ":") ∷ block (map stmt_lines body)
arm_is test body = fold-roll-IfArm (List Text) (List Text) stmt_step arm_step (record { test = test; body = body })

pub for_returns : (n : List ℕ) (over : Expr) (body : List Stmt) → returned (stmt.For n over body) ≡ None
for_returns n over body = ap returned (sym (stmt.rolls-For n over body)) ∙ fold-roll-Stmt (Option Text) (Unit {0}) returned_step any_arm (Stmt-F.For n over body)

pub if_returns : (arms : List IfArm) (other : Option (List Stmt)) → returned (stmt.If arms other) ≡ None
if_returns arms None = ap returned (sym (stmt.rolls-If arms None)) ∙ fold-roll-Stmt (Option Text) (Unit {0}) returned_step any_arm (Stmt-F.If arms None)
if_returns arms (Some body) = ap returned (sym (stmt.rolls-If arms (Some body))) ∙ fold-roll-Stmt (Option Text) (Unit {0}) returned_step any_arm (Stmt-F.If arms (Some body))

-- the lines of a block are those of its statements, further in
pub block_plain : (body : List Stmt) → are_plain (body_lines body) ≡ true → are_plain (block (map stmt_lines body)) ≡ true
block_plain body h = inward_plain (body_lines body) ∙ h

module _ (Item : Items) (d : ℕ) (items : (u : List Word) (entries : List ItemEntry) → AreSaid u → Item d u entries → Says Item d none entries (display_text entries)) where
  simple_stmt : (c : ℕ) (s : Stmt) → SimpleSays Item d s → StmtSays Item d c s
  simple_stmt c s h =
      let words : List Word = h.words ++ word.Symbol symbol.Newline ∷ [] in
      record {
        words = words;
        spelled = λ k e le more. Statement.simple (Line.line (h.spelled k le));
        runs = λ m. subst (λ ls. Runs m (lines_text m ls) words) (sym h.is) (subst (λ t. Runs m t words) (sym (append-nil (line_text m h.text))) (line_runs m h.text h.words h.flat refl h.starts));
        plain = subst (λ ls. are_plain ls ≡ true) (sym h.is) (line_plain_before h.text [] h.flat.plain refl);
        returns = h.returns;
      }

  line_stmt : (c : ℕ) (u : List Word) (s : Stmt) → AreSaid u → Line (Simple (Expressions d) (Item d)) u s → StmtSays Item d c s
  line_stmt c _ _ said (Line.line {u} {x} h) = simple_stmt c x (simple_says Item d items u x (said_split u (word.Symbol symbol.Newline ∷ []) said).0 h)

  first_block : (c : ℕ) (s : Stmt) (ss : List Stmt) → StmtSays Item d c s → RestSays Item d c ss → BlockSays Item d c s ss
  first_block c s ss g h = record {
    words = g.words ++ h.words;
    spelled = λ k e le more. Parts.more (g.spelled k e le more) (h.spelled k e le more);
    runs = λ m. subst (λ t. Runs m t (g.words ++ h.words)) (sym (lines_both m (stmt_lines s) (body_lines ss))) (then_may m (lines_text m (stmt_lines s)) (lines_text m (body_lines ss)) g.words h.words (g.runs m) (h.runs m));
    plain = lines_plain_both (stmt_lines s) (body_lines ss) g.plain h.plain;
    returns = g.returns;
  }

  no_rest : (c : ℕ) → RestSays Item d c []
  no_rest c = record { words = []; spelled = λ k e le more. Parts.none; runs = λ m. MayRun.nothing; plain = refl }

  -- a line before a block, with what it says
  head_runs : (c m : ℕ) (t : Text) (ws : List Word) (s : Stmt) (others : List Stmt) → Flat none t ws → first_passes starts t ≡ true → (h : BlockSays Item d c s others) → Runs m (lines_text m (t ∷ block (map stmt_lines (s ∷ others)))) (ws ++ blocked h.words)
  head_runs c m t ws s others flat first h =
      subst (λ u. Runs m (line_text m t ++ u) (ws ++ blocked h.words)) (sym (block_in m (s ∷ others)))
      (block_runs m t (lines_text (suc m) (body_lines (s ∷ others))) ws h.words flat refl first (h.runs (suc m)))

  -- ---- loops

  for_says : (c : ℕ) (n : List ℕ) (over : Expr) (s : Stmt) (others : List Stmt) → IsName n → Says Expressions d glues over (whole over) → BlockSays Item d c s others → StmtSays Item d (suc c) (stmt.For n over (s ∷ others))
  for_says c n over s others name g h =
      let head : List Word = word.Symbol symbol.For ∷ word.Name n ∷ word.Symbol symbol.In ∷ (g.words ++ word.Symbol symbol.Colon ∷ []) in
      let words : List Word = word.Symbol symbol.For ∷ word.Name n ∷ word.Symbol symbol.In ∷ g.words ++ word.Symbol symbol.Colon ∷ blocked h.words in
      let over_text : Text = whole over ++ codes ":" in
      let over_flat : Flat none over_text (g.words ++ word.Symbol symbol.Colon ∷ []) = flat_both g.flat line.flat_colon (λ rest _. refl) in
      let in_flat : Flat none (codes " in " ++ over_text) (word.Symbol symbol.In ∷ (g.words ++ word.Symbol symbol.Colon ∷ [])) = flat_both sign_text.flat_in over_flat (λ rest _. none_first (over_text ++ rest)) in
      let name_text : Text = n ++ (codes " in " ++ over_text) in
      let name_words : List Word = word.Name n ∷ word.Symbol symbol.In ∷ (g.words ++ word.Symbol symbol.Colon ∷ []) in
      let name_flat : Flat none name_text name_words = flat_both (flat_name n name) in_flat (λ rest _. refl) in
      let flat : Flat none (for_text n over) head = flat_both line.flat_each name_flat (λ rest _. none_first (name_text ++ rest)) in
      let same : head ++ blocked h.words ≡ words = ap (λ l. word.Symbol symbol.For ∷ word.Name n ∷ word.Symbol symbol.In ∷ l) (append_assoc g.words (word.Symbol symbol.Colon ∷ []) (blocked h.words)) in
      record {
        words = words;
        spelled = λ k e le more. Statement.each (g.spelled k le) (in_block Item d c s others h k e le more);
        runs = λ m. subst (λ ls. Runs m (lines_text m ls) words) (sym (for_is n over (s ∷ others))) (subst (Runs m (lines_text m (for_text n over ∷ block (map stmt_lines (s ∷ others))))) same (head_runs c m (for_text n over) head s others flat refl h));
        plain = subst (λ ls. are_plain ls ≡ true) (sym (for_is n over (s ∷ others))) (line_plain_before (for_text n over) (block (map stmt_lines (s ∷ others))) flat.plain (block_plain (s ∷ others) h.plain));
        returns = Returns.otherwise (stmt.For n over (s ∷ others)) (for_returns n over (s ∷ others));
      }

  -- ---- branches

  -- an arm with its word
  arm_runs : (c m : ℕ) (keyword : Text) (w : Word) (test : Expr) (s : Stmt) (others : List Stmt) → Flat none keyword (w ∷ []) → first_passes starts (keyword ++ (whole test ++ codes ":")) ≡ true → (g : Says Expressions d glues test (whole test)) → (h : BlockSays Item d c s others)
      → Runs m (lines_text m (front keyword (arm_lines (roll-IfArm (record { test = test; body = s ∷ others }))))) (w ∷ g.words ++ word.Symbol symbol.Colon ∷ blocked h.words)
  arm_runs c m keyword w test s others kw first g h =
      let head : List Word = w ∷ (g.words ++ word.Symbol symbol.Colon ∷ []) in
      let words : List Word = w ∷ g.words ++ word.Symbol symbol.Colon ∷ blocked h.words in
      let test_text : Text = whole test ++ codes ":" in
      let flat : Flat none (keyword ++ test_text) head = flat_both kw (flat_both g.flat line.flat_colon (λ rest _. refl)) (λ rest _. none_first (test_text ++ rest)) in
      let same : head ++ blocked h.words ≡ words = ap (λ l. w ∷ l) (append_assoc g.words (word.Symbol symbol.Colon ∷ []) (blocked h.words)) in
      subst (λ ls. Runs m (lines_text m (front keyword ls)) words) (sym (arm_is test (s ∷ others)))
      (subst (Runs m (lines_text m ((keyword ++ test_text) ∷ block (map stmt_lines (s ∷ others))))) same (head_runs c m (keyword ++ test_text) head s others flat first h))

  arm_plain : (c : ℕ) (keyword : Text) (test : Expr) (s : Stmt) (others : List Stmt) → is_plain keyword ≡ true → Says Expressions d glues test (whole test) → BlockSays Item d c s others → are_plain (front keyword (arm_lines (roll-IfArm (record { test = test; body = s ∷ others })))) ≡ true
  arm_plain c keyword test s others kw g h =
      let head : is_plain (keyword ++ (whole test ++ codes ":")) ≡ true = plain_both keyword (whole test ++ codes ":") kw (plain_both (whole test) (codes ":") g.flat.plain refl) in
      subst (λ ls. are_plain (front keyword ls) ≡ true) (sym (arm_is test (s ∷ others))) (line_plain_before (keyword ++ (whole test ++ codes ":")) (block (map stmt_lines (s ∷ others))) head (block_plain (s ∷ others) h.plain))

  abbrev elif_lines : List IfArm → List Text
  elif_lines arms = flat (map (front (codes "elif ")) (map arm_lines arms))

  record ElifsSay (c : ℕ) (arms : List IfArm) : Type 0 where
    words : List Word
    spelled : (k e : ℕ) → d ≤ k → suc c ≤ e → Parts (Elif (Expressions k) (BodyAt Item k e)) words arms
    runs : (m : ℕ) → MayRun m (lines_text m (elif_lines arms)) words
    plain : are_plain (elif_lines arms) ≡ true

  record ElseSays (c : ℕ) (other : Option (List Stmt)) : Type 0 where
    words : List Word
    spelled : (k e : ℕ) → d ≤ k → suc c ≤ e → Else (BodyAt Item k e) words other
    runs : (m : ℕ) → MayRun m (lines_text m (other_lines other)) words
    plain : are_plain (other_lines other) ≡ true

  no_elifs : (c : ℕ) → ElifsSay c []
  no_elifs c = record { words = []; spelled = λ k e le more. Parts.none; runs = λ m. MayRun.nothing; plain = refl }

  elif_with : (c : ℕ) (test : Expr) (s : Stmt) (others : List Stmt) (xs : List IfArm) → Says Expressions d glues test (whole test) → BlockSays Item d c s others → ElifsSay c xs → ElifsSay c (roll-IfArm (record { test = test; body = s ∷ others }) ∷ xs)
  elif_with c test s others xs g h rest =
      let arm : IfArm = roll-IfArm (record { test = test; body = s ∷ others }) in
      let own : List Word = word.Symbol symbol.Elif ∷ g.words ++ word.Symbol symbol.Colon ∷ blocked h.words in
      let words : List Word = own ++ rest.words in
      record {
        words = words;
        spelled = λ k e le more. Parts.more (Elif.elif (g.spelled k le) (in_block Item d c s others h k e le more)) (rest.spelled k e le more);
        runs = λ m. MayRun.some (subst (λ t. Runs m t words) (sym (lines_both m (front (codes "elif ") (arm_lines arm)) (elif_lines xs)))
            (then_may m (lines_text m (front (codes "elif ") (arm_lines arm))) (lines_text m (elif_lines xs)) own rest.words (arm_runs c m (codes "elif ") (word.Symbol symbol.Elif) test s others line.flat_elif refl g h) (rest.runs m)));
        plain = lines_plain_both (front (codes "elif ") (arm_lines arm)) (elif_lines xs) (arm_plain c (codes "elif ") test s others refl g h) rest.plain;
      }

  else_with : (c : ℕ) (s : Stmt) (others : List Stmt) → BlockSays Item d c s others → ElseSays c (Some (s ∷ others))
  else_with c s others h = record {
    words = word.Symbol symbol.Else ∷ word.Symbol symbol.Colon ∷ blocked h.words;
    spelled = λ k e le more. Else.other (in_block Item d c s others h k e le more);
    runs = λ m. MayRun.some (head_runs c m (codes "else:") (word.Symbol symbol.Else ∷ word.Symbol symbol.Colon ∷ []) s others line.flat_else_colon refl h);
    plain = line_plain_before (codes "else:") (block (map stmt_lines (s ∷ others))) refl (block_plain (s ∷ others) h.plain);
  }

  if_with : (c : ℕ) (test : Expr) (s : Stmt) (others : List Stmt) (arms : List IfArm) (other : Option (List Stmt)) → Says Expressions d glues test (whole test) → BlockSays Item d c s others → ElifsSay c arms → ElseSays c other
      → StmtSays Item d (suc c) (stmt.If (roll-IfArm (record { test = test; body = s ∷ others }) ∷ arms) other)
  if_with c test s others arms other g h es el =
      let arm : IfArm = roll-IfArm (record { test = test; body = s ∷ others }) in
      let first : List Word = word.Symbol symbol.If ∷ g.words ++ word.Symbol symbol.Colon ∷ blocked h.words in
      let words : List Word = first ++ (es.words ++ el.words) in
      let a : List Text = front (codes "if ") (arm_lines arm) in
      let b : List Text = elif_lines arms in
      let same : (m : ℕ) → lines_text m ((a ++ b) ++ other_lines other) ≡ (lines_text m a ++ lines_text m b) ++ lines_text m (other_lines other) = λ m. lines_both m (a ++ b) (other_lines other) ∙ ap (λ (t : Text). t ++ lines_text m (other_lines other)) (lines_both m a b) in
      record {
        words = words;
        spelled = λ k e le more. Statement.branches (g.spelled k le) (in_block Item d c s others h k e le more) (es.spelled k e le more) (el.spelled k e le more);
        runs = λ m.
            subst (λ ls. Runs m (lines_text m ls) words) (sym (if_is (arm ∷ arms) other))
            (subst (λ t. Runs m t words) (sym (same m))
            (subst (Runs m ((lines_text m a ++ lines_text m b) ++ lines_text m (other_lines other))) (append_assoc first es.words el.words)
            (then_may m (lines_text m a ++ lines_text m b) (lines_text m (other_lines other)) (first ++ es.words) el.words
            (then_may m (lines_text m a) (lines_text m b) first es.words (arm_runs c m (codes "if ") (word.Symbol symbol.If) test s others line.flat_where refl g h) (es.runs m))
            (el.runs m))));
        plain = subst (λ ls. are_plain ls ≡ true) (sym (if_is (arm ∷ arms) other)) (lines_plain_both (a ++ b) (other_lines other) (lines_plain_both a b (arm_plain c (codes "if ") test s others refl g h) es.plain) el.plain);
        returns = Returns.otherwise (stmt.If (arm ∷ arms) other) (if_returns (arm ∷ arms) other);
      }

  module _ (b : ℕ) (inner : (u : List Word) (body : List Stmt) → AreSaid u → BodyAt Item d b u body → BodySays Item d b body) where
    one_elif : (u : List Word) (arm : IfArm) → AreSaid u → Elif (Expressions d) (BodyAt Item d b) u arm → (xs : List IfArm) → ElifsSay b xs → ElifsSay b (arm ∷ xs)
    one_elif _ _ said (Elif.elif {u} {v} {test} {body} h k) xs rest =
        let parts = said_split u (word.Symbol symbol.Colon ∷ v) said.1 in
        let i = inner v body parts.1.1 k in
        subst (λ l. ElifsSay b (roll-IfArm (record { test = test; body = l }) ∷ xs)) i.is (elif_with b test i.first i.others xs (whole_says d u test parts.0 h) i.block rest)

    elifs_say : (u : List Word) (arms : List IfArm) → AreSaid u → Parts (Elif (Expressions d) (BodyAt Item d b)) u arms → ElifsSay b arms
    elifs_say _ _ said Parts.none = no_elifs b
    elifs_say _ _ said (Parts.more {u} {v} {x} {xs} h k) =
        let parts = said_split u v said in
        one_elif u x parts.0 h xs (elifs_say v xs parts.1 k)

    else_says : (u : List Word) (other : Option (List Stmt)) → AreSaid u → Else (BodyAt Item d b) u other → ElseSays b other
    else_says _ _ said Else.none = record { words = []; spelled = λ k e le more. Else.none; runs = λ m. MayRun.nothing; plain = refl }
    else_says _ _ said (Else.other {u} {body} h) =
        let i = inner u body said.1.1 h in
        subst (λ l. ElseSays b (Some l)) i.is (else_with b i.first i.others i.block)

    stmt_says : (u : List Word) (s : Stmt) → AreSaid u → StmtAt Item d b u s → StmtSays Item d (suc b) s
    stmt_says _ _ said (Statement.simple {u} {s} h) = line_stmt (suc b) u s said h
    stmt_says _ _ said (Statement.each {n} {u} {v} {over} {body} h k) =
        let parts = said_split u (word.Symbol symbol.Colon ∷ v) said.1.1.1 in
        let i = inner v body parts.1.1 k in
        subst (λ l. StmtSays Item d (suc b) (stmt.For n over l)) i.is (for_says b n over i.first i.others said.1.0 (whole_says d u over parts.0 h) i.block)
    stmt_says _ _ said (Statement.branches {u} {v} {w} {z} {test} {body} {arms} {other} h k l r) =
        let all = said_split (word.Symbol symbol.If ∷ u ++ word.Symbol symbol.Colon ∷ v) (w ++ z) said in
        let parts = said_split u (word.Symbol symbol.Colon ∷ v) all.0.1 in
        let ends = said_split w z all.1 in
        let i = inner v body parts.1.1 k in
        subst (λ x. StmtSays Item d (suc b) (stmt.If (roll-IfArm (record { test = test; body = x }) ∷ arms) other)) i.is
        (if_with b test i.first i.others arms other (whole_says d u test parts.0 h) i.block (elifs_say w arms ends.0 l) (else_says z other ends.1 r))

    rest_says : (u : List Word) (ss : List Stmt) → AreSaid u → Parts (StmtAt Item d b) u ss → RestSays Item d (suc b) ss
    rest_says _ _ said Parts.none = no_rest (suc b)
    rest_says _ _ said (Parts.more {u} {v} {x} {xs} h k) =
        let parts = said_split u v said in
        let all = first_block (suc b) x xs (stmt_says u x parts.0 h) (rest_says v xs parts.1 k) in
        record { words = all.words; spelled = all.spelled; runs = λ m. MayRun.some (all.runs m); plain = all.plain }

    block_says : (u : List Word) (s : Stmt) (others : List Stmt) → AreSaid u → Parts (StmtAt Item d b) u (s ∷ others) → BlockSays Item d (suc b) s others
    block_says _ _ _ said (Parts.more {u} {v} {x} {xs} h k) =
        let parts = said_split u v said in
        first_block (suc b) x xs (stmt_says u x parts.0 h) (rest_says v xs parts.1 k)

  body_line : (b : ℕ) (u : List Word) (s : Stmt) → AreSaid u → Line (Simple (Expressions d) (Item d)) u s → BodySays Item d b (s ∷ [])
  body_line b u s said h = record { first = s; others = []; is = refl; block = first_block b s [] (line_stmt b u s said h) (no_rest b) }

  -- a body, on its line or in a block
  pub body_says : (b : ℕ) (u : List Word) (body : List Stmt) → AreSaid u → BodyAt Item d b u body → BodySays Item d b body
  body_says zero _ _ said (Body.line {u} {s} h) = body_line zero u s said h
  body_says zero _ _ said (Body.block {u} {body} h) = absurd h
  body_says (suc b) _ _ said (Body.line {u} {s} h) = body_line (suc b) u s said h
  body_says (suc b) _ _ said (Body.block {u} {body} h) = go u body said h (λ v l are k. body_says b v l are k)
    where
      go : (w : List Word) (l : List Stmt) → AreSaid w → Block (Expressions d) (Item d) (Blocks (Expressions d) (Item d) b) w l → ((v : List Word) (k : List Stmt) → AreSaid v → BodyAt Item d b v k → BodySays Item d b k) → BodySays Item d (suc b) l
      go _ _ are (Block.block {u = v} {s} {others} parts) inner =
          record { first = s; others = others; is = refl; block = block_says b inner v s others (said_split v (word.Symbol symbol.Dedent ∷ []) are.1.1).0 parts }
