-- The literals of statements that are spelled are arguments.
use Rattle.std.proofs.Common.{◌≡◌, ℕ, zero, suc, List, [], ◌∷◌, ◌++◌, Option, None, Some, map, sym, subst}
use Rattle.mx_syntax.specs.Lists.{flat}
use Rattle.mx_syntax.specs.declared.expr.Expr.{Expr}
use Rattle.mx_syntax.specs.declared.stmt.Stmt.{Stmt}
use Rattle.mx_syntax.specs.declared.stmt.Stmt.TheVariants as stmt
use Rattle.mx_syntax.specs.declared.stmt.Stmt.TheOpen.{Stmt-F}
use Rattle.mx_syntax.specs.declared.stmt.Stmt.TheViews.{roll-Stmt}
use Rattle.mx_syntax.specs.declared.stmt.Stmt.TheFolds.{fold-roll-Stmt}
use Rattle.mx_syntax.specs.declared.stmt.IfArm.{IfArm, roll-IfArm, fold-roll-IfArm}
use Rattle.mx_syntax.specs.declared.stmt.ItemEntry.{ItemEntry}
use Rattle.mx_syntax.specs.declared.stmt.ArithOp.TheVariants as arithmetic
use Rattle.mx_grammar.specs.declared.word.Word.{Word}
use Rattle.mx_grammar.specs.declared.word.Word.TheVariants.{Symbol}
use Rattle.mx_grammar.specs.declared.word.Symbol.TheVariants as symbol
use Rattle.mx_grammar.specs.Grammar.{Spelling, Line}
use Rattle.mx_parse.specs.Following.{Following}
use Rattle.mx_parse.specs.Displays.{RefText, EntryText, Display}
use Rattle.mx_parse.specs.Statements.{Simple, Elif, Else, Statement, Body, Block, Blocks, Bodies}
use Rattle.mx_limit_laws.specs.Literals.{Values, literals_of, named_literals, entry_literals, stmt_literals, if_arm_literals, body_literals}
use Rattle.mx_limit_laws.specs.Literals as literal
use Rattle.mx_limit_laws.proofs.Statements.{stmt_values}
use Rattle.mx_command_laws.proofs.Words.{AreShort}
use Rattle.mx_command_laws.proofs.Expressions.{AreLiterals, SmallBy, Small, left, right, both_small, parts_small}

stmt_small : (z : Stmt-F Stmt IfArm) (s : Stmt) → roll-Stmt z ≡ s → AreLiterals (stmt_values z) → AreLiterals (stmt_literals s)
stmt_small z s is h =
    subst (λ (y : Stmt). AreLiterals (stmt_literals y)) is (subst AreLiterals (sym (fold-roll-Stmt Values Values literal.stmt_step literal.if_arm_step z)) h)

arm_small : (test : Expr) (body : List Stmt) → AreLiterals (literals_of test) → AreLiterals (body_literals body) → AreLiterals (if_arm_literals (roll-IfArm (record { test = test; body = body })))
arm_small test body h k =
    subst AreLiterals (sym (fold-roll-IfArm Values Values literal.stmt_step literal.if_arm_step (record { test = test; body = body }))) (both_small (literals_of test) (body_literals body) h k)

-- items of which each depends on those before it
following_small : {A : Type 0} (values : A → Values) (R : List A → Spelling A) → ((before : List A) → SmallBy values (R before)) → (before : List A) → SmallBy (λ xs. flat (map values xs)) (Following R before)
following_small values R h before _ _ a Following.none = tt
following_small values R h before _ _ a (Following.one {u = u} {x = x} p) = both_small (values x) [] (h before u x a p) tt
following_small values R h before _ _ a (Following.more {u = u} {v = v} {x = x} {xs = xs} p q) =
    both_small (values x) (flat (map values xs)) (h before u x (left u (Symbol symbol.Comma ∷ v) a) p) (following_small values R h (before ++ x ∷ []) v xs (right u (Symbol symbol.Comma ∷ v) a).1 q)

module _ (E : Spelling Expr) (part : Small E) where
  ref_small : (before : List (List ℕ × Expr)) → SmallBy named_literals (RefText E before)
  ref_small before _ _ a (RefText.ref {n} {u} {x} named new h) = part u x a.1.1 h

  entry_small : (before : List ItemEntry) → SmallBy entry_literals (EntryText E before)
  entry_small before _ _ a (EntryText.refs {u} {refs} none h) = following_small named_literals (RefText E) ref_small [] u refs (left u (Symbol symbol.CloseCurly ∷ []) a.1.1.1) h
  entry_small before _ _ a (EntryText.base {u} {x} none h) = part u x a.1.1 h
  entry_small before _ _ a (EntryText.bases {u} {x} none h) = part u x a.1.1 h

  pub display_small : SmallBy (λ entries. flat (map entry_literals entries)) (Display E)
  display_small _ _ a (Display.display {u} {entries} h) = following_small entry_literals (EntryText E) entry_small [] u entries (left u (Symbol symbol.CloseCurly ∷ []) a.1) h

  module _ (Item : Spelling (List ItemEntry)) (item : SmallBy (λ entries. flat (map entry_literals entries)) Item) where
    simple_small : SmallBy stmt_literals (Simple E Item)
    simple_small _ _ a Simple.pass = stmt_small Stmt-F.Pass stmt.Pass stmt.rolls-Pass tt
    simple_small _ _ a Simple.leave = stmt_small (Stmt-F.Return None) (stmt.Return None) (stmt.rolls-Return None) tt
    simple_small _ _ a (Simple.value {u} {x} h) = stmt_small (Stmt-F.Return (Some x)) (stmt.Return (Some x)) (stmt.rolls-Return (Some x)) (part u x a.1 h)
    simple_small _ _ a (Simple.item {u} {entries} h) = stmt_small (Stmt-F.ReturnItem entries) (stmt.ReturnItem entries) (stmt.rolls-ReturnItem entries) (item u entries a.1 h)
    simple_small _ _ a (Simple.assign {n} {u} {x} h) = stmt_small (Stmt-F.Assign n x) (stmt.Assign n x) (stmt.rolls-Assign n x) (part u x a.1.1 h)
    simple_small _ _ a (Simple.add {n} {u} {x} h) = stmt_small (Stmt-F.Change n arithmetic.Add x) (stmt.Change n arithmetic.Add x) (stmt.rolls-Change n arithmetic.Add x) (part u x a.1.1 h)
    simple_small _ _ a (Simple.sub {n} {u} {x} h) = stmt_small (Stmt-F.Change n arithmetic.Sub x) (stmt.Change n arithmetic.Sub x) (stmt.rolls-Change n arithmetic.Sub x) (part u x a.1.1 h)
    simple_small _ _ a (Simple.mul {n} {u} {x} h) = stmt_small (Stmt-F.Change n arithmetic.Mul x) (stmt.Change n arithmetic.Mul x) (stmt.rolls-Change n arithmetic.Mul x) (part u x a.1.1 h)

    line_small : SmallBy stmt_literals (Line (Simple E Item))
    line_small _ _ a (Line.line {u = u} {x = s} h) = simple_small u s (left u (Symbol symbol.Newline ∷ []) a) h

    module _ (In : Spelling (List Stmt)) (body : SmallBy body_literals In) where
      elif_small : SmallBy if_arm_literals (Elif E In)
      elif_small _ _ a (Elif.elif {u = u} {v = v} {test = test} {body = stmts} h k) =
          arm_small test stmts (part u test (left u (Symbol symbol.Colon ∷ v) a.1) h) (body v stmts (right u (Symbol symbol.Colon ∷ v) a.1).1 k)

      branches_small : (arms : List IfArm) (other : Option (List Stmt)) (w z : List Word) → AreShort z → AreLiterals (flat (map if_arm_literals arms)) → Else In z other → AreLiterals (stmt_literals (stmt.If arms other))
      branches_small arms _ w _ a l Else.none = stmt_small (Stmt-F.If arms None) (stmt.If arms None) (stmt.rolls-If arms None) (both_small (flat (map if_arm_literals arms)) [] l tt)
      branches_small arms _ w _ a l (Else.other {u = u} {body = stmts} h) =
          stmt_small (Stmt-F.If arms (Some stmts)) (stmt.If arms (Some stmts)) (stmt.rolls-If arms (Some stmts)) (both_small (flat (map if_arm_literals arms)) (body_literals stmts) l (body u stmts a.1.1 h))

      statement_small : SmallBy stmt_literals (Statement E Item In)
      statement_small _ _ a (Statement.simple {u} {s} h) = line_small u s a h
      statement_small _ _ a (Statement.each {n = n} {u = u} {v = v} {over = over} {body = stmts} h k) =
          let b = a.1.1.1 in
          stmt_small (Stmt-F.For n over stmts) (stmt.For n over stmts) (stmt.rolls-For n over stmts)
          (both_small (literals_of over) (body_literals stmts) (part u over (left u (Symbol symbol.Colon ∷ v) b) h) (body v stmts (right u (Symbol symbol.Colon ∷ v) b).1 k))
      statement_small _ _ a (Statement.branches {u = u} {v = v} {w = w} {z = z} {test = test} {body = stmts} {arms = arms} {other = other} h k p q) =
          let b = left (u ++ Symbol symbol.Colon ∷ v) (w ++ z) a.1 in
          let c = right (u ++ Symbol symbol.Colon ∷ v) (w ++ z) a.1 in
          let first : IfArm = roll-IfArm (record { test = test; body = stmts }) in
          let l : AreLiterals (if_arm_literals first) = arm_small test stmts (part u test (left u (Symbol symbol.Colon ∷ v) b) h) (body v stmts (right u (Symbol symbol.Colon ∷ v) b).1 k) in
          let m : AreLiterals (flat (map if_arm_literals arms)) = parts_small if_arm_literals (Elif E In) elif_small w arms (left w z c) p in
          branches_small (first ∷ arms) other w z (right w z c) (both_small (if_arm_literals first) (flat (map if_arm_literals arms)) l m) q

    body_small : (In : Spelling (List Stmt)) → SmallBy body_literals In → SmallBy body_literals (Body E Item In)
    body_small In inner _ _ a (Body.line {u} {s} h) = both_small (stmt_literals s) [] (line_small u s a h) tt
    body_small In inner _ _ a (Body.block {u = u} {body = stmts} h) = inner u stmts a h

    block_small : (In : Spelling (List Stmt)) → SmallBy body_literals In → SmallBy body_literals (Block E Item In)
    block_small In inner _ _ a (Block.block {u} {s} {others} h) =
        parts_small stmt_literals (Statement E Item (Body E Item In)) (statement_small (Body E Item In) (body_small In inner)) u (s ∷ others) (left u (Symbol symbol.Dedent ∷ []) a.1.1) h

    blocks_small : (levels : ℕ) → SmallBy body_literals (Blocks E Item levels)
    blocks_small zero u x a h = absurd h
    blocks_small (suc d) u x a h = block_small (Blocks E Item d) (blocks_small d) u x a h

    pub bodies_small : (levels : ℕ) → SmallBy body_literals (Bodies E Item levels)
    bodies_small levels = body_small (Blocks E Item levels) (blocks_small levels)

    -- a body that returns one value or one display
    pub value_small : (u : List Word) (x : Expr) → AreShort u → E u x → AreLiterals (body_literals (stmt.Return (Some x) ∷ []))
    value_small u x a h = both_small (stmt_literals (stmt.Return (Some x))) [] (stmt_small (Stmt-F.Return (Some x)) (stmt.Return (Some x)) (stmt.rolls-Return (Some x)) (part u x a h)) tt

    pub item_small : (u : List Word) (entries : List ItemEntry) → AreShort u → Item u entries → AreLiterals (body_literals (stmt.ReturnItem entries ∷ []))
    item_small u entries a h = both_small (stmt_literals (stmt.ReturnItem entries)) [] (stmt_small (Stmt-F.ReturnItem entries) (stmt.ReturnItem entries) (stmt.rolls-ReturnItem entries) (item u entries a h)) tt
