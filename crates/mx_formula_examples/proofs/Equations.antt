-- What each fold gives at a constructor: how each form of expression is read and each form of statement is done.
use Rattle.std.proofs.Common.{ℕ, false, ◌≡◌, rules, Some, None, List, [], ◌∷◌, ℤ, ap, sym, ◌∙◌, Option, Bool, true, if◌then◌else◌, map}
use Rattle.std.specs.Prelude.{◌+◌, sum}
use Rattle.mx_value.specs.declared.label.Label.{Label}
use Rattle.mx_value.specs.declared.value.Value.{Value, out-Value, the_lemmas as values}
use Rattle.mx_value.specs.declared.value.Value.TheVariants as value
use Rattle.mx_value.specs.declared.value.Value.TheVariants.{Tup}
use Rattle.mx_value.specs.declared.value.Segment.{Segment, the_lemmas as segments}
use Rattle.mx_value.specs.declared.value.Segment.TheOpen.{Value-F}
use Rattle.mx_value.specs.declared.value.Segment.TheVariants as segment
use Rattle.mx_value.specs.declared.value.Segment.TheFolds.{para-roll-Value}
use Rattle.mx_value.specs.declared.value.CellsAt.{CellsAt}
use Rattle.mx_value.specs.Plain.{is_plain}
use Rattle.mx_value.specs.Normal.{normal_of}
use Rattle.mx_value.specs.Nesting.{nesting_of, greatest}
use Rattle.mx_value.specs.Size.{size_of, size_of_segment}
use Rattle.mx_syntax.specs.declared.expr.Expr.{Expr, the_lemmas}
use Rattle.mx_syntax.specs.declared.expr.Expr.TheVariants as expr
use Rattle.mx_syntax.specs.declared.expr.Trailer.{Trailer}
use Rattle.mx_syntax.specs.declared.expr.Trailer.TheVariants as trailer
use Rattle.mx_syntax.specs.declared.expr.Args.TheVariants as arguments
use Rattle.mx_syntax.specs.declared.expr.Arm.{Arm, roll-Arm}
use Rattle.mx_syntax.specs.declared.expr.CmpOp.{CmpOp}
use Rattle.mx_syntax.specs.declared.expr.Comparison.{Comparison}
use Rattle.mx_syntax.specs.declared.expr.Comparison.TheVariants as comparison
use Rattle.mx_syntax.specs.declared.expr.Sign.{Sign}
use Rattle.mx_syntax.specs.declared.expr.PowerPart.{PowerPart}
use Rattle.mx_syntax.specs.declared.expr.SumPart.{SumPart, roll-SumPart}
use Rattle.mx_syntax.specs.declared.expr.SumOp.{SumOp}
use Rattle.mx_syntax.specs.declared.expr.ProductPart.{ProductPart, roll-ProductPart}
use Rattle.mx_syntax.specs.declared.expr.ProductOp.{ProductOp}
use Rattle.mx_syntax.specs.declared.stmt.ArithOp.{ArithOp}
use Rattle.mx_syntax.specs.declared.stmt.ItemEntry.{ItemEntry}
use Rattle.mx_syntax.specs.declared.stmt.Stmt.{Stmt, fold-roll-Stmt}
use Rattle.mx_syntax.specs.declared.stmt.Stmt.TheVariants as stmt
use Rattle.mx_syntax.specs.declared.stmt.Stmt.TheOpen.{Stmt-F}
use Rattle.mx_syntax.specs.declared.stmt.Stmt.TheFolds.{para-roll-Stmt}
use Rattle.mx_syntax.specs.Lists.{flat}
use Rattle.mx_syntax.specs.Heights.{first_line, returns, returns_step, any_arm, height, stmt_step as height_step, arm_step as height_arm}
use Rattle.mx_syntax.specs.Locals.{bound_by, stmt_step as bound_step, arm_step as bound_arm}
use Rattle.mx_ops.specs.Answers.{made}
use Rattle.mx_ops.specs.Kinds.{items_of}
use Rattle.mx_runs.specs.Runs.{Run}
use Rattle.mx_meaning.specs.Environments.{Env, computed, with_local}
use Rattle.mx_meaning.specs.Lookup.{Callee, Called, named, valued}
use Rattle.mx_meaning.specs.Operations.{adding, multiplying, comparing, changing, of_two, denied, signed}
use Rattle.mx_meaning.specs.Expressions.{Call, Over, Index, Attr, By, values_from, joined_from, chosen_from, compared_from, deciding, powered_by, applied_from, part_read, reading, items_or_fault}
use Rattle.mx_meaning.specs.Statements.{Doing, ArmDoing, Plain, doing, stmt_step, arm_step, displayed_from, done_by, looped_from}
use Rattle.mx_meaning.proofs.Forms.{trailer_read, sum_read, product_read, arm_read, comparison_read, power_read}

-- ---- values and addresses

pub out_int : (n : ℤ) → out-Value (value.Int n) ≡ Value-F.Int n
out_int n = search (values, rules)

pub out_space : (at : List Segment) → out-Value (value.Space at) ≡ Value-F.Space at
out_space at = search (values, rules)

pub out_cells : (c : CellsAt) → out-Value (value.Cells c) ≡ Value-F.Cells c
out_cells c = search (values, rules)

pub out_table : (name : Label) → out-Value (value.Table name) ≡ Value-F.Table name
out_table name = search (values, rules)

pub plain_int : (n : ℤ) → is_plain (value.Int n) ≡ true
plain_int n = search (values, rules)

pub normal_int : (n : ℤ) → normal_of (value.Int n) ≡ value.Int n
normal_int n = ap normal_of (sym (value.rolls-Int n)) ∙ para-roll-Value _ _ _ _ _ _ (Value-F.Int n)

pub size_space : (at : List Segment) → size_of (value.Space at) ≡ 1 + sum (map size_of_segment at)
size_space at = search (values, rules)

pub size_name : (name : Label) → size_of_segment (segment.Name name) ≡ 0
size_name name = search (segments, rules)

pub size_item : (args : List Value) → size_of_segment (segment.Item args) ≡ sum (map size_of args)
size_item args = search (segments, rules)

pub size_int : (n : ℤ) → size_of (value.Int n) ≡ 1
size_int n = search (values, rules)

-- ---- expressions

pub part-lit : (v : Value) (env : Env) (go : Callee → Run) → part_read (expr.Lit v) env go ≡ go (Called v)
part-lit v env go = search (the_lemmas, rules)

pub part-name : (name : Label) (env : Env) (go : Callee → Run) → part_read (expr.Name name) env go ≡ named name env go
part-name name env go = search (the_lemmas, rules)

pub part-sum : (first : Expr) (rest : List SumPart) (env : Env) (go : Callee → Run) → part_read (expr.Sum first rest) env go ≡ reading first env (λ v. joined_from (map sum_read rest) v env (λ w. go (Called w)))
part-sum first rest env go = search (the_lemmas, rules)

pub sum-part : (op : SumOp) (e : Expr) → sum_read (roll-SumPart (record { op = op; of = e })) ≡ (adding op, reading e)
sum-part op e = search (the_lemmas, rules)

pub part-product : (first : Expr) (rest : List ProductPart) (env : Env) (go : Callee → Run) → part_read (expr.Product first rest) env go ≡ reading first env (λ v. joined_from (map product_read rest) v env (λ w. go (Called w)))
part-product first rest env go = search (the_lemmas, rules)

pub product-part : (op : ProductOp) (e : Expr) → product_read (roll-ProductPart (record { op = op; of = e })) ≡ (multiplying op, reading e)
product-part op e = search (the_lemmas, rules)

pub part-post : (first : Expr) (ts : List Trailer) (env : Env) (go : Callee → Run) → part_read (expr.Post first ts) env go ≡ part_read first env (λ c. applied_from (map trailer_read ts) c env go)
part-post first ts env go = search (the_lemmas, rules)

pub trailer-call : (args : List Expr) → trailer_read (trailer.Call (arguments.List args)) ≡ Call (map valued (map part_read args))
trailer-call args = search (the_lemmas, rules)

pub trailer-index : (args : List Expr) → trailer_read (trailer.Index args) ≡ Index (map valued (map part_read args))
trailer-index args = search (the_lemmas, rules)

pub trailer-attr : (name : Label) → trailer_read (trailer.Attr name) ≡ Attr name
trailer-attr name = search (the_lemmas, rules)

-- ---- statements

pub doing-return : (e : Expr) → doing (stmt.Return (Some e)) ≡ (λ env after back. reading e env (λ v. back (Plain v)))
doing-return e = ap doing (sym (stmt.rolls-Return (Some e))) ∙ para-roll-Stmt Doing ArmDoing stmt_step arm_step (Stmt-F.Return (Some e))

pub bound-return : (e : Option Expr) → bound_by (stmt.Return e) ≡ []
bound-return e = ap bound_by (sym (stmt.rolls-Return e)) ∙ fold-roll-Stmt (List Label) (List Label) bound_step bound_arm (Stmt-F.Return e)

pub first_line-return : (e : Expr) → first_line (stmt.Return (Some e) ∷ []) ≡ 1
first_line-return e = ap (λ (b : Bool). if b then 1 else 2) (ap returns (sym (stmt.rolls-Return (Some e))) ∙ fold-roll-Stmt Bool (Unit {0}) returns_step any_arm (Stmt-F.Return (Some e)))

pub doing-display : (entries : List ItemEntry) → doing (stmt.ReturnItem entries) ≡ (λ env after back. displayed_from entries [] None env back)
doing-display entries = ap doing (sym (stmt.rolls-ReturnItem entries)) ∙ para-roll-Stmt Doing ArmDoing stmt_step arm_step (Stmt-F.ReturnItem entries)

pub bound-display : (entries : List ItemEntry) → bound_by (stmt.ReturnItem entries) ≡ []
bound-display entries = ap bound_by (sym (stmt.rolls-ReturnItem entries)) ∙ fold-roll-Stmt (List Label) (List Label) bound_step bound_arm (Stmt-F.ReturnItem entries)

pub first_line-display : (entries : List ItemEntry) → first_line (stmt.ReturnItem entries ∷ []) ≡ 1
first_line-display entries = ap (λ (b : Bool). if b then 1 else 2) (ap returns (sym (stmt.rolls-ReturnItem entries)) ∙ fold-roll-Stmt Bool (Unit {0}) returns_step any_arm (Stmt-F.ReturnItem entries))

-- ---- further forms

pub part-tuple : (items : List Expr) (env : Env) (go : Callee → Run) → part_read (expr.Tuple items) env go ≡ values_from (map valued (map part_read items)) [] env (λ vs. computed (made (Tup vs)) env (λ v. go (Called v)))
part-tuple items env go = search (the_lemmas, rules)

pub part-cond : (arms : List Arm) (last : Expr) (env : Env) (go : Callee → Run) → part_read (expr.Cond arms last) env go ≡ chosen_from (map arm_read arms) (reading last) env (λ v. go (Called v))
part-cond arms last env go = search (the_lemmas, rules)

pub arm-part : (v t : Expr) → arm_read (roll-Arm (record { value = v; test = t })) ≡ (reading v, reading t)
arm-part v t = search (the_lemmas, rules)

pub part-compare : (first : Expr) (rest : List Comparison) (env : Env) (go : Callee → Run) → part_read (expr.Compare first rest) env go ≡ reading first env (λ v. compared_from (map comparison_read rest) v env (λ w. go (Called w)))
part-compare first rest env go = search (the_lemmas, rules)

pub comparison-op : (op : CmpOp) (e : Expr) → comparison_read (comparison.Op op e) ≡ By (comparing op) (reading e)
comparison-op op e = search (the_lemmas, rules)

pub part-not : (count : ℕ) (e : Expr) (env : Env) (go : Callee → Run) → part_read (expr.Not count e) env go ≡ reading e env (λ v. computed (denied count v) env (λ w. go (Called w)))
part-not count e env go = search (the_lemmas, rules)

pub part-signed : (signs : List Sign) (e : Expr) (env : Env) (go : Callee → Run) → part_read (expr.Signed signs e) env go ≡ reading e env (λ v. computed (signed signs v) env (λ w. go (Called w)))
part-signed signs e env go = search (the_lemmas, rules)

pub part-or : (parts : List Expr) (env : Env) (go : Callee → Run) → part_read (expr.Or parts) env go ≡ deciding true (map valued (map part_read parts)) env (λ v. go (Called v))
part-or parts env go = search (the_lemmas, rules)

pub part-and : (parts : List Expr) (env : Env) (go : Callee → Run) → part_read (expr.And parts) env go ≡ deciding false (map valued (map part_read parts)) env (λ v. go (Called v))
part-and parts env go = search (the_lemmas, rules)

pub part-power : (first : Expr) (rest : List PowerPart) (env : Env) (go : Callee → Run) → part_read (expr.Power first rest) env go ≡ reading first env (λ v. powered_by (map power_read rest) v env (λ w. go (Called w)))
part-power first rest env go = search (the_lemmas, rules)

pub trailer-over : (element : Expr) (name : Label) (over : Expr) → trailer_read (trailer.Call (arguments.Gen element name over None)) ≡ Over (record { element = reading element; name = name; over = reading over; test = None })
trailer-over element name over = search (the_lemmas, rules)

pub doing-assign : (name : Label) (e : Expr) → doing (stmt.Assign name e) ≡ (λ env after back. reading e env (λ v. after (with_local name v env)))
doing-assign name e = ap doing (sym (stmt.rolls-Assign name e)) ∙ para-roll-Stmt Doing ArmDoing stmt_step arm_step (Stmt-F.Assign name e)

pub bound-assign : (name : Label) (e : Expr) → bound_by (stmt.Assign name e) ≡ name ∷ []
bound-assign name e = ap bound_by (sym (stmt.rolls-Assign name e)) ∙ fold-roll-Stmt (List Label) (List Label) bound_step bound_arm (Stmt-F.Assign name e)

pub height-assign : (name : Label) (e : Expr) → height (stmt.Assign name e) ≡ 1
height-assign name e = ap height (sym (stmt.rolls-Assign name e)) ∙ fold-roll-Stmt ℕ ℕ height_step height_arm (Stmt-F.Assign name e)

pub doing-change : (name : Label) (op : ArithOp) (e : Expr) → doing (stmt.Change name op e) ≡ (λ env after back. valued (named name) env (λ old. reading e env (λ v. computed (of_two (changing op) old v) env (λ new. after (with_local name new env)))))
doing-change name op e = ap doing (sym (stmt.rolls-Change name op e)) ∙ para-roll-Stmt Doing ArmDoing stmt_step arm_step (Stmt-F.Change name op e)

pub doing-for : (name : Label) (over : Expr) (stmts : List Stmt) → doing (stmt.For name over stmts) ≡ (λ env after back. reading over env (λ v. items_or_fault (items_of v) env (λ items. looped_from name (map done_by stmts) items (env.line + 1) env after back)))
doing-for name over stmts = ap doing (sym (stmt.rolls-For name over stmts)) ∙ para-roll-Stmt Doing ArmDoing stmt_step arm_step (Stmt-F.For name over stmts)

pub bound-change : (name : Label) (op : ArithOp) (e : Expr) → bound_by (stmt.Change name op e) ≡ name ∷ []
bound-change name op e = ap bound_by (sym (stmt.rolls-Change name op e)) ∙ fold-roll-Stmt (List Label) (List Label) bound_step bound_arm (Stmt-F.Change name op e)

pub bound-for : (name : Label) (over : Expr) (stmts : List Stmt) → bound_by (stmt.For name over stmts) ≡ name ∷ flat (map bound_by stmts)
bound-for name over stmts = ap bound_by (sym (stmt.rolls-For name over stmts)) ∙ fold-roll-Stmt (List Label) (List Label) bound_step bound_arm (Stmt-F.For name over stmts)

-- ---- tuples

pub out_tuple : (items : List Value) → out-Value (Tup items) ≡ Value-F.Tup items
out_tuple items = search (values, rules)

pub out_flag : (b : Bool) → out-Value (value.Flag b) ≡ Value-F.Flag b
out_flag b = search (values, rules)

pub size_tuple : (items : List Value) → size_of (Tup items) ≡ 1 + sum (map size_of items)
size_tuple items = search (values, rules)

pub nesting_tuple : (items : List Value) → nesting_of (Tup items) ≡ 1 + greatest (map nesting_of items)
nesting_tuple items = search (values, rules)

pub nesting_int : (n : ℤ) → nesting_of (value.Int n) ≡ 0
nesting_int n = search (values, rules)

pub height-change : (name : Label) (op : ArithOp) (e : Expr) → height (stmt.Change name op e) ≡ 1
height-change name op e = ap height (sym (stmt.rolls-Change name op e)) ∙ fold-roll-Stmt ℕ ℕ height_step height_arm (Stmt-F.Change name op e)

pub height-for : (name : Label) (over : Expr) (stmts : List Stmt) → height (stmt.For name over stmts) ≡ sum (map height stmts) + 1
height-for name over stmts = ap height (sym (stmt.rolls-For name over stmts)) ∙ fold-roll-Stmt ℕ ℕ height_step height_arm (Stmt-F.For name over stmts)
