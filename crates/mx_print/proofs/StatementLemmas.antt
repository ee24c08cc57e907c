-- Steps of printing statements.
use Rattle.std.proofs.Common.{◌≡◌, ℕ, suc, ◌+◌, ◌<◌, ◌==◌, Bool, true, false, List, [], ◌∷◌, ◌++◌, length, get_or, Option, Some, map, take, refl, sym, ap, ◌∙◌, append_assoc, append-nil, arith}
use Rattle.std.specs.Prelude.{codes}
use Rattle.std.proofs.lemmas.List.{map-append, length-take, length-map}
use Rattle.std.proofs.lemmas.Bool.Decides.{nat_tests}
use Rattle.mx_syntax.specs.declared.expr.Expr.{Expr}
use Rattle.mx_syntax.specs.declared.stmt.Stmt.{Stmt, fold-roll-Stmt}
use Rattle.mx_syntax.specs.declared.stmt.Stmt.TheVariants as made
use Rattle.mx_syntax.specs.declared.stmt.Stmt.TheOpen.{Stmt-F}
use Rattle.mx_syntax.specs.declared.stmt.IfArm.{IfArm}
use Rattle.mx_syntax.specs.Lists.{flat}
use Rattle.mx_print.specs.Texts.{Text}
use Rattle.mx_print.specs.Statements.{margin, line_text, lines_text, block, body_lines, stmt_lines, arm_lines, arm_word, front, if_lines, for_text, stmt_step, arm_step}
use Rattle.mx_syntax.proofs.ListLemmas.{flat_append, flat_next, take_next}
use Rattle.mx_print.proofs.ExprLemmas.{flat_again}

pub lines_append : (d : ℕ) (xs ys : List Text) → lines_text d (xs ++ ys) ≡ lines_text d xs ++ lines_text d ys
lines_append d xs ys = ap flat (map-append (line_text d) xs ys) ∙ flat_append (map (line_text d) xs) (map (line_text d) ys)

-- lines behind lines
pub lines_more : (d : ℕ) (out : Text) (xs ys zs : List Text) → xs ++ ys ≡ zs → (out ++ lines_text d xs) ++ lines_text d ys ≡ out ++ lines_text d zs
lines_more d out xs ys zs is = append_assoc out (lines_text d xs) (lines_text d ys) ∙ ap (λ (t : Text). out ++ t) (sym (lines_append d xs ys) ∙ ap (lines_text d) is)

deeper_line : (d : ℕ) (line : Text) → line_text d (codes "    " ++ line) ≡ line_text (suc d) line
deeper_line d line = sym (append_assoc (margin d) (codes "    ") (line ++ codes "\n")) ∙ ap (λ (t : Text). t ++ (line ++ codes "\n")) (flat_again d (codes "    "))

deeper : (d : ℕ) (lines : List Text) → lines_text d (map (λ (line : Text). codes "    " ++ line) lines) ≡ lines_text (suc d) lines
deeper d [] = refl
deeper d (line ∷ lines) = ap (λ (t : Text). t ++ lines_text d (map (λ (l : Text). codes "    " ++ l) lines)) (deeper_line d line) ∙ ap (λ (t : Text). line_text (suc d) line ++ t) (deeper d lines)

pub block_deeper : (d : ℕ) (bodies : List (List Text)) → lines_text d (block bodies) ≡ lines_text (d + 1) (flat bodies)
block_deeper d bodies = deeper d (flat bodies) ∙ (let e : suc d ≡ d + 1 = omega arith in ap (λ (n : ℕ). lines_text n (flat bodies)) e)

pub body_more : (d : ℕ) (out : Text) (body : List Stmt) (i : ℕ) (stmt : Stmt) → i < length body → stmt ≡ get_or body i stmt
    → (out ++ lines_text d (body_lines (take i body))) ++ lines_text d (stmt_lines stmt) ≡ out ++ lines_text d (body_lines (take (i + 1) body))
body_more d out body i stmt lt is = lines_more d out (body_lines (take i body)) (stmt_lines stmt) (body_lines (take (i + 1) body)) (sym (flat_next stmt_lines body i stmt lt is))

if_last : (first : Bool) (arms : List (List Text)) (arm : List Text) → (first ≡ true → length arms ≡ 0) → (first ≡ false → 0 < length arms) → if_lines arms ++ front (arm_word first) arm ≡ if_lines (arms ++ arm ∷ [])
if_last true [] arm none some = sym (append-nil (front (arm_word true) arm))
if_last true (a ∷ arms) arm none some = let e : suc (length arms) ≡ 0 = none refl in absurd (omega (arith, e))
if_last false [] arm none some = let e : 0 < 0 = some refl in absurd (omega (arith, e))
if_last false (a ∷ arms) arm none some =
    append_assoc (front (arm_word true) a) (flat (map (front (arm_word false)) arms)) (front (arm_word false) arm)
    ∙ ap (λ (lines : List Text). front (arm_word true) a ++ lines) (
    ap (λ (lines : List Text). flat (map (front (arm_word false)) arms) ++ lines) (sym (append-nil (front (arm_word false) arm)))
    ∙ sym (flat_append (map (front (arm_word false)) arms) (front (arm_word false) arm ∷ [])) ∙ ap flat (sym (map-append (front (arm_word false)) arms (arm ∷ [])))
    )

pub arms_more : (d : ℕ) (out : Text) (arms : List IfArm) (i : ℕ) (arm : IfArm) → i < length arms → arm ≡ get_or arms i arm
    → (out ++ lines_text d (if_lines (map arm_lines (take i arms)))) ++ lines_text d (front (arm_word (i == 0)) (arm_lines arm)) ≡ out ++ lines_text d (if_lines (map arm_lines (take (i + 1) arms)))
arms_more d out arms i arm lt is =
    let many : length (map arm_lines (take i arms)) ≡ i = length-map (take i arms) arm_lines ∙ (let e : length (take i arms) ≡ i = omega (arith, length-take i arms) in e) in
    let none : (i == 0) ≡ true → length (map arm_lines (take i arms)) ≡ 0 = λ e. many ∙ (let z : i ≡ 0 = grind (arith, nat_tests) in z) in
    let some : (i == 0) ≡ false → 0 < length (map arm_lines (take i arms)) = λ e. (let z : 0 < i = grind (arith, nat_tests) in omega (arith, many, z)) in
    lines_more d out (if_lines (map arm_lines (take i arms))) (front (arm_word (i == 0)) (arm_lines arm)) (if_lines (map arm_lines (take (i + 1) arms)))
    (if_last (i == 0) (map arm_lines (take i arms)) (arm_lines arm) none some ∙ ap if_lines (sym (map-append arm_lines (take i arms) (arm ∷ [])) ∙ ap (λ (ys : List IfArm). map arm_lines ys) (sym (take_next arms i arm lt is))))

if_else_is : (arms : List IfArm) (body : List Stmt) → stmt_lines (made.If arms (Some body)) ≡ if_lines (map arm_lines arms) ++ (codes "else:" ∷ block (map stmt_lines body))
if_else_is arms body = ap stmt_lines (sym (made.rolls-If arms (Some body))) ∙ fold-roll-Stmt (List Text) (List Text) stmt_step arm_step (Stmt-F.If arms (Some body))

pub for_is : (name : Text) (over : Expr) (body : List Stmt) → stmt_lines (made.For name over body) ≡ for_text name over ∷ block (map stmt_lines body)
for_is name over body = ap stmt_lines (sym (made.rolls-For name over body)) ∙ fold-roll-Stmt (List Text) (List Text) stmt_step arm_step (Stmt-F.For name over body)

pub if_else_whole : (stmt : Stmt) (arms : List IfArm) (other : Option (List Stmt)) (body : List Stmt) (d : ℕ) (out between : Text) → stmt ≡ made.If arms other → other ≡ Some body
    → between ≡ out ++ lines_text d (if_lines (map arm_lines arms)) → between ++ lines_text d (codes "else:" ∷ block (map stmt_lines body)) ≡ out ++ lines_text d (stmt_lines stmt)
if_else_whole stmt arms other body d out between is some here =
    let whole : if_lines (map arm_lines arms) ++ (codes "else:" ∷ block (map stmt_lines body)) ≡ stmt_lines stmt =
    sym (ap stmt_lines (is ∙ ap (λ (o : Option (List Stmt)). made.If arms o) some) ∙ if_else_is arms body) in
    ap (λ (t : Text). t ++ lines_text d (codes "else:" ∷ block (map stmt_lines body))) here
    ∙ lines_more d out (if_lines (map arm_lines arms)) (codes "else:" ∷ block (map stmt_lines body)) (stmt_lines stmt) whole

pub for_whole : (stmt : Stmt) (name : Text) (over : Expr) (body : List Stmt) (d : ℕ) (out between : Text) → stmt ≡ made.For name over body
    → between ≡ out ++ line_text d (for_text name over) → between ++ lines_text d (block (map stmt_lines body)) ≡ out ++ lines_text d (stmt_lines stmt)
for_whole stmt name over body d out between is here =
    ap (λ (t : Text). t ++ lines_text d (block (map stmt_lines body))) here ∙ append_assoc out (line_text d (for_text name over)) (lines_text d (block (map stmt_lines body)))
    ∙ ap (λ (lines : List Text). out ++ lines_text d lines) (sym (ap stmt_lines is ∙ for_is name over body))
