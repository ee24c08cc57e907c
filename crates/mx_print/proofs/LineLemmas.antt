-- Statements stand at their lines.
use Rattle.std.proofs.Common.{◌≡◌, ◌≢◌, ℕ, suc, ◌+◌, ◌==◌, ◌<◌, ◌-◌, ◌^◌, min, Bool, true, false, List, [], ◌∷◌, ◌++◌, Option, None, Some, length, get_or, map, take, refl, sym, ap, subst, ◌∙◌, append_assoc, append-nil, arith}
use Rattle.std.specs.Prelude.{codes, is_some, if◌then◌else◌}
use Rattle.std.proofs.lemmas.Grind.{common_steps}
use Rattle.std.proofs.lemmas.Bool.Decides.{nat_tests}
use Rattle.std.proofs.lemmas.List.{map-append, length-append, length-map}
use Rattle.mx_syntax.specs.declared.stmt.Stmt.{Stmt, fold-roll-Stmt}
use Rattle.mx_syntax.specs.declared.stmt.Stmt.TheVariants as made
use Rattle.mx_syntax.specs.declared.stmt.Stmt.TheOpen.{Stmt-F}
use Rattle.mx_syntax.specs.declared.stmt.IfArm.{IfArm, out-IfArm, fold_out-IfArm}
use Rattle.mx_syntax.specs.Lists.{flat}
use Rattle.mx_print.specs.Texts.{Text}
use Rattle.mx_print.specs.Statements.{margin, block, body_lines, stmt_lines, arm_lines, arm_word, front, if_lines, for_text, stmt_step, arm_step, whole, params_text, lines_by, lines_text}
use Rattle.mx_syntax.specs.Heights.{height, arm_height, body_height, arms_height, is_of_one_line}
use Rattle.mx_print.specs.Lines.{AtLine, deep, Stands, is_first, StatementsStand, ArmsStand, arm_head, split, HasNoFeed, TextHasItsLines}
use Rattle.mx_syntax.proofs.ListLemmas.{flat_append, flat_next, take_next}
use Rattle.mx_print.proofs.StatementLemmas.{for_is}
use Rattle.mx_print.proofs.HeightLemmas.{statement_lines, arms_lines, counts_one}

abbrev indent : List Text → List Text
indent lines = map (λ (line : Text). codes "    " ++ line) lines

deep_none : (lines : List Text) → deep 0 lines ≡ lines
deep_none [] = refl
deep_none (l ∷ ls) = ap (λ (rest : List Text). l ∷ rest) (deep_none ls)

indent_deep : (d : ℕ) (lines : List Text) → indent (deep d lines) ≡ deep (suc d) lines
indent_deep d [] = refl
indent_deep d (l ∷ ls) = ap (λ (rest : List Text). (codes "    " ++ (margin d ++ l)) ∷ rest) (indent_deep d ls)

start : (first : ℕ) (own after : List Text) → Stands first (own ++ after) first own
start first own after = record {
  depth = 0;
  before = [];
  after = after;
  whole = ap (λ (lines : List Text). lines ++ after) (sym (deep_none own));
  place = omega arith;
}

behind : (first line : ℕ) (fronts lines own : List Text) → Stands (first + length fronts) lines line own → Stands first (fronts ++ lines) line own
behind first line fronts lines own h = record {
  depth = h.depth;
  before = fronts ++ h.before;
  after = h.after;
  whole = ap (λ (ls : List Text). fronts ++ ls) h.whole ∙ sym (append_assoc fronts h.before (deep h.depth own ++ h.after));
  place = omega (arith, h.place, length-append fronts h.before);
}

-- the same, where it is known how many lines stand in front
behind_so_many : (first count line : ℕ) (fronts lines own : List Text) → length fronts ≡ count → Stands (first + count) lines line own → Stands first (fronts ++ lines) line own
behind_so_many first count line fronts lines own many h = behind first line fronts lines own (subst (λ (n : ℕ). Stands (first + n) lines line own) (sym many) h)

followed : (first line : ℕ) (lines back own : List Text) → Stands first lines line own → Stands first (lines ++ back) line own
followed first line lines back own h = record {
  depth = h.depth;
  before = h.before;
  after = h.after ++ back;
  whole = ap (λ (ls : List Text). ls ++ back) h.whole ∙ append_assoc h.before (deep h.depth own ++ h.after) back ∙ ap (λ (ls : List Text). h.before ++ ls) (append_assoc (deep h.depth own) h.after back);
  place = h.place;
}

inward : (first line : ℕ) (lines own : List Text) → Stands first lines line own → Stands first (indent lines) line own
inward first line lines own h = record {
  depth = suc h.depth;
  before = indent h.before;
  after = indent h.after;
  whole = ap indent h.whole ∙ map-append (λ (l : Text). codes "    " ++ l) h.before (deep h.depth own ++ h.after)
      ∙ ap (λ (ls : List Text). indent h.before ++ ls) (map-append (λ (l : Text). codes "    " ++ l) (deep h.depth own) h.after ∙ ap (λ (ls : List Text). ls ++ indent h.after) (indent_deep h.depth own));
  place = h.place ∙ ap (λ (n : ℕ). first + n) (sym (length-map h.before (λ (l : Text). codes "    " ++ l)));
}

abbrev else_part : Option (List Stmt) → List Text
else_part None = []
else_part (Some body) = codes "else:" ∷ block (map stmt_lines body)

if_is : (arms : List IfArm) (other : Option (List Stmt)) → stmt_lines (made.If arms other) ≡ if_lines (map arm_lines arms) ++ else_part other
if_is arms None = ap stmt_lines (sym (made.rolls-If arms None)) ∙ fold-roll-Stmt (List Text) (List Text) stmt_step arm_step (Stmt-F.If arms None)
if_is arms (Some body) = ap stmt_lines (sym (made.rolls-If arms (Some body))) ∙ fold-roll-Stmt (List Text) (List Text) stmt_step arm_step (Stmt-F.If arms (Some body))

arm_is : (a : IfArm) → arm_lines a ≡ (whole (out-IfArm a).test ++ codes ":") ∷ block (map stmt_lines (out-IfArm a).body)
arm_is a = fold_out-IfArm (List Text) (List Text) stmt_step arm_step a

abbrev elifs : List (List Text) → List Text
elifs arms = flat (map (front (arm_word false)) arms)

if_split : (arms : List IfArm) (a : IfArm) (more : List IfArm) → if_lines (map arm_lines (arms ++ a ∷ more)) ≡ if_lines (map arm_lines arms) ++ (front (arm_word (is_first arms)) (arm_lines a) ++ elifs (map arm_lines more))
if_split [] a more = refl
if_split (b ∷ arms) a more =
    ap (λ (ls : List (List Text)). front (arm_word true) (arm_lines b) ++ elifs ls) (map-append arm_lines arms (a ∷ more))
    ∙ ap (λ (ls : List Text). front (arm_word true) (arm_lines b) ++ ls) (ap flat (map-append (front (arm_word false)) (map arm_lines arms) (map arm_lines (a ∷ more))) ∙ flat_append (map (front (arm_word false)) (map arm_lines arms)) (map (front (arm_word false)) (map arm_lines (a ∷ more))))
    ∙ sym (append_assoc (front (arm_word true) (arm_lines b)) (elifs (map arm_lines arms)) (elifs (map arm_lines (a ∷ more))))

-- what stands among the lines of an arm stands in its statement
in_arm : (first line : ℕ) (arms more : List IfArm) (a : IfArm) (other : Option (List Stmt)) (own : List Text)
    → Stands (first + arms_height arms) (arm_head (is_first arms) a ∷ block (map stmt_lines (out-IfArm a).body)) line own → Stands first (stmt_lines (made.If (arms ++ a ∷ more) other)) line own
in_arm first line arms more a other own h =
    let here : Stands (first + arms_height arms) (front (arm_word (is_first arms)) (arm_lines a)) line own =
    subst (λ (ls : List Text). Stands (first + arms_height arms) (front (arm_word (is_first arms)) ls) line own) (sym (arm_is a)) h in
    let among : Stands first (if_lines (map arm_lines (arms ++ a ∷ more))) line own =
    subst (λ (ls : List Text). Stands first ls line own) (sym (if_split arms a more))
    (behind_so_many first (arms_height arms) line (if_lines (map arm_lines arms)) (front (arm_word (is_first arms)) (arm_lines a) ++ elifs (map arm_lines more)) own (arms_lines arms) (followed (first + arms_height arms) line (front (arm_word (is_first arms)) (arm_lines a)) (elifs (map arm_lines more)) own here)) in
    subst (λ (ls : List Text). Stands first ls line own) (sym (if_is (arms ++ a ∷ more) other)) (followed first line (if_lines (map arm_lines (arms ++ a ∷ more))) (else_part other) own among)

stands : (first : ℕ) (body : List Stmt) (line : ℕ) (stmt : Stmt) → AtLine first body line stmt → Stands first (body_lines body) line (stmt_lines stmt)
stands first _ _ stmt (AtLine.here {body = body}) = start first (stmt_lines stmt) (body_lines body)
stands first _ line stmt (AtLine.later {before = before} {body = body} h) = behind_so_many first (height before) line (stmt_lines before) (body_lines body) (stmt_lines stmt) (statement_lines before) (stands (first + height before) body line stmt h)
stands first _ line stmt (AtLine.loop {body = body} name over inner h) =
    let within : Stands first (for_text name over ∷ block (map stmt_lines inner)) line (stmt_lines stmt) =
    behind first line (for_text name over ∷ []) (block (map stmt_lines inner)) (stmt_lines stmt) (inward (first + 1) line (body_lines inner) (stmt_lines stmt) (stands (first + 1) inner line stmt h)) in
    followed first line (stmt_lines (made.For name over inner)) (body_lines body) (stmt_lines stmt) (subst (λ (ls : List Text). Stands first ls line (stmt_lines stmt)) (sym (for_is name over inner)) within)
stands first _ line stmt (AtLine.arm {body = body} arms a more other h) =
    let below : Stands (first + arms_height arms + 1) (block (map stmt_lines (out-IfArm a).body)) line (stmt_lines stmt) =
    inward (first + arms_height arms + 1) line (body_lines (out-IfArm a).body) (stmt_lines stmt) (stands (first + arms_height arms + 1) (out-IfArm a).body line stmt h) in
    let within = in_arm first line arms more a other (stmt_lines stmt) (behind (first + arms_height arms) line (arm_head (is_first arms) a ∷ []) (block (map stmt_lines (out-IfArm a).body)) (stmt_lines stmt) below) in
    followed first line (stmt_lines (made.If (arms ++ a ∷ more) other)) (body_lines body) (stmt_lines stmt) within
stands first _ line stmt (AtLine.otherwise {body = body} arms inner h) =
    let below : Stands (first + arms_height arms + 1) (block (map stmt_lines inner)) line (stmt_lines stmt) =
    inward (first + arms_height arms + 1) line (body_lines inner) (stmt_lines stmt) (stands (first + arms_height arms + 1) inner line stmt h) in
    let within : Stands first (if_lines (map arm_lines arms) ++ (codes "else:" ∷ block (map stmt_lines inner))) line (stmt_lines stmt) =
    behind_so_many first (arms_height arms) line (if_lines (map arm_lines arms)) (codes "else:" ∷ block (map stmt_lines inner)) (stmt_lines stmt) (arms_lines arms) (behind (first + arms_height arms) line (codes "else:" ∷ []) (block (map stmt_lines inner)) (stmt_lines stmt) below) in
    followed first line (stmt_lines (made.If arms (Some inner))) (body_lines body) (stmt_lines stmt) (subst (λ (ls : List Text). Stands first ls line (stmt_lines stmt)) (sym (if_is arms (Some inner))) within)

pub statements_stand : StatementsStand
statements_stand params body line stmt many at =
    let from : AtLine 2 body line stmt = subst (λ (one : Bool). AtLine (if one then 1 else 2) body line stmt) (sym (counts_one body) ∙ ap is_some many) at in
    let here : Stands 1 ((params_text params ++ codes ":") ∷ block (map stmt_lines body)) line (stmt_lines stmt) =
    behind 1 line ((params_text params ++ codes ":") ∷ []) (block (map stmt_lines body)) (stmt_lines stmt) (inward 2 line (body_lines body) (stmt_lines stmt) (stands 2 body line stmt from)) in
    subst (λ (t : Option Text). Stands 1 (lines_by params body t) line (stmt_lines stmt)) (sym many) here

pub arms_stand : ArmsStand
arms_stand first arms more a other =
    in_arm first (first + arms_height arms) arms more a other (arm_head (is_first arms) a ∷ []) (start (first + arms_height arms) (arm_head (is_first arms) a ∷ []) (block (map stmt_lines (out-IfArm a).body)))

-- ---- the text and its lines

split_line : (line rest : Text) → HasNoFeed line → split (line ++ 10 ∷ rest) ≡ line ∷ split rest
split_line [] rest free = refl
split_line (b ∷ bs) rest free =
    let other : b ≢ 10 = free.0 in
    let e : (b == 10) ≡ false = grind (arith, nat_tests) in
    let more = split_line bs rest free.1 in
    rw (e, more) refl

pub text_has_its_lines : TextHasItsLines
text_has_its_lines [] free = refl
text_has_its_lines (line ∷ lines) free =
    ap split (append_assoc line (codes "\n") (lines_text 0 lines)) ∙ split_line line (lines_text 0 lines) free.0 ∙ ap (λ (ls : List Text). line ∷ ls) (text_has_its_lines lines free.1)
