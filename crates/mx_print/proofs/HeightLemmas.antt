-- Heights, counted on the trees, are the numbers of printed lines.
use Rattle.std.proofs.Common.{◌≡◌, ℕ, ◌+◌, Bool, true, false, List, [], ◌∷◌, ◌++◌, Option, None, Some, length, map, refl, sym, ap, subst, ◌∙◌, append-nil, arith}
use Rattle.std.specs.Prelude.{codes, is_some}
use Rattle.std.specs.List.{sum}
use Rattle.std.proofs.lemmas.List.{length-append, length-map}
use Rattle.std.proofs.lemmas.List.Sums.{sum-map, sum_by-cons}
use Rattle.mx_syntax.specs.declared.stmt.Stmt.{Stmt, fold-roll-Stmt, roll-Stmt}
use Rattle.mx_syntax.specs.declared.stmt.Stmt.TheOpen.{Stmt-F, IfArm-F}
use Rattle.mx_syntax.specs.declared.stmt.Stmt.TheFolds.{map-Stmt, map-IfArm, ind-Stmt, ind-IfArm}
use Rattle.mx_syntax.specs.declared.stmt.IfArm.{IfArm, fold-IfArm, fold-roll-IfArm, roll-IfArm}
use Rattle.mx_syntax.specs.Lists.{flat}
use Rattle.mx_syntax.specs.Heights as heights
use Rattle.mx_syntax.specs.Heights.{height, arm_height, body_height, arms_height, returns, is_of_one_line}
use Rattle.mx_print.specs.Texts.{Text}
use Rattle.mx_print.specs.Statements.{block, body_lines, stmt_lines, arm_lines, arm_word, front, if_lines, stmt_step, arm_step, returned, returned_step, any_arm, one_line}
use Rattle.mx_print.specs.Lines.{HeightsCountLines}

abbrev OfStmt : Stmt → Type 0
OfStmt stmt = length (stmt_lines stmt) ≡ height stmt

abbrev OfArm : IfArm → Type 0
OfArm arm = length (arm_lines arm) ≡ arm_height arm

abbrev Stmts : Type 0
Stmts = List ((a : Stmt) × OfStmt a)

abbrev Arms : Type 0
Arms = List ((a : IfArm) × OfArm a)

sum_more : {X : Type 0} (f : X → ℕ) (x : X) (xs : List X) → sum (map f (x ∷ xs)) ≡ f x + sum (map f xs)
sum_more f x xs = sum-map f (x ∷ xs) ∙ sum_by-cons f x xs ∙ ap (λ (n : ℕ). f x + n) (sym (sum-map f xs))

block_length : (bodies : List (List Text)) → length (block bodies) ≡ length (flat bodies)
block_length bodies = length-map (flat bodies) (λ (line : Text). codes "    " ++ line)

front_length : (word : Text) (lines : List Text) → length (front word lines) ≡ length lines
front_length word [] = refl
front_length word (l ∷ ls) = refl

stmts_count : (ys : Stmts) → length (flat (map stmt_lines (map (λ e. e.0) ys))) ≡ sum (map height (map (λ e. e.0) ys))
stmts_count [] = refl
stmts_count (y ∷ ys) =
    let more = stmts_count ys in
    let split = length-append (stmt_lines y.0) (flat (map stmt_lines (map (λ e. e.0) ys))) in
    let added = sum_more height y.0 (map (λ e. e.0) ys) in
    let first : length (stmt_lines y.0) ≡ height y.0 = y.1 in
    omega (arith, more, split, added, first)

elifs_count : (ys : Arms) → length (flat (map (front (arm_word false)) (map arm_lines (map (λ e. e.0) ys)))) ≡ sum (map arm_height (map (λ e. e.0) ys))
elifs_count [] = refl
elifs_count (y ∷ ys) =
    let more = elifs_count ys in
    let split = length-append (front (arm_word false) (arm_lines y.0)) (flat (map (front (arm_word false)) (map arm_lines (map (λ e. e.0) ys)))) in
    let same = front_length (arm_word false) (arm_lines y.0) in
    let added = sum_more arm_height y.0 (map (λ e. e.0) ys) in
    let first : length (arm_lines y.0) ≡ arm_height y.0 = y.1 in
    omega (arith, more, split, same, added, first)

arms_count : (ys : Arms) → length (if_lines (map arm_lines (map (λ e. e.0) ys))) ≡ sum (map arm_height (map (λ e. e.0) ys))
arms_count [] = refl
arms_count (y ∷ ys) =
    let more = elifs_count ys in
    let split = length-append (front (arm_word true) (arm_lines y.0)) (flat (map (front (arm_word false)) (map arm_lines (map (λ e. e.0) ys)))) in
    let same = front_length (arm_word true) (arm_lines y.0) in
    let added = sum_more arm_height y.0 (map (λ e. e.0) ys) in
    let first : length (arm_lines y.0) ≡ arm_height y.0 = y.1 in
    omega (arith, more, split, same, added, first)

body_count : (ys : Stmts) → length (block (map stmt_lines (map (λ e. e.0) ys))) ≡ sum (map height (map (λ e. e.0) ys))
body_count ys = block_length (map stmt_lines (map (λ e. e.0) ys)) ∙ stmts_count ys

abbrev Layer : Type 0
Layer = Stmt-F ((a : Stmt) × OfStmt a) ((a : IfArm) × OfArm a)

abbrev ArmLayer : Type 0
ArmLayer = IfArm-F ((a : Stmt) × OfStmt a) ((a : IfArm) × OfArm a)

abbrev bare : Layer → Stmt-F Stmt IfArm
bare y = map-Stmt _ _ Stmt IfArm (λ e. e.0) (λ e. e.0) y

abbrev bare_arm : ArmLayer → IfArm-F Stmt IfArm
bare_arm y = map-IfArm _ _ Stmt IfArm (λ e. e.0) (λ e. e.0) y

abbrev Counted : Stmt-F Stmt IfArm → Type 0
Counted x = length (stmt_step (map-Stmt _ _ (List Text) (List Text) stmt_lines arm_lines x)) ≡ heights.stmt_step (map-Stmt _ _ ℕ ℕ height arm_height x)

abbrev CountedArm : IfArm-F Stmt IfArm → Type 0
CountedArm x = length (arm_step (map-IfArm _ _ (List Text) (List Text) stmt_lines arm_lines x)) ≡ heights.arm_step (map-IfArm _ _ ℕ ℕ height arm_height x)

stmt_at : (y : Layer) → Counted (bare y)
stmt_at Stmt-F.Pass = refl
stmt_at (Stmt-F.Return e) = refl
stmt_at (Stmt-F.ReturnItem entries) = refl
stmt_at (Stmt-F.Assign name e) = refl
stmt_at (Stmt-F.Change name op e) = refl
stmt_at (Stmt-F.If arms None) =
    let count = arms_count arms in
    let split = length-append (if_lines (map arm_lines (map (λ e. e.0) arms))) [] in
    omega (arith, count, split)
stmt_at (Stmt-F.If arms (Some body)) =
    let count = arms_count arms in
    let below = body_count body in
    let split = length-append (if_lines (map arm_lines (map (λ e. e.0) arms))) (codes "else:" ∷ block (map stmt_lines (map (λ e. e.0) body))) in
    omega (arith, count, below, split)
stmt_at (Stmt-F.For name over body) = let below = body_count body in omega (arith, below)

arm_at : (y : ArmLayer) → CountedArm (bare_arm y)
arm_at y = let below = body_count y.body in omega (arith, below)

stmt_counts : (x : Stmt-F Stmt IfArm) (y : Layer) → bare y ≡ x → OfStmt (roll-Stmt x)
stmt_counts x y is =
    let here : Counted x = subst Counted is (stmt_at y) in
    ap length (fold-roll-Stmt (List Text) (List Text) stmt_step arm_step x) ∙ here ∙ sym (fold-roll-Stmt ℕ ℕ heights.stmt_step heights.arm_step x)

arm_counts : (x : IfArm-F Stmt IfArm) (y : ArmLayer) → bare_arm y ≡ x → OfArm (roll-IfArm x)
arm_counts x y is =
    let here : CountedArm x = subst CountedArm is (arm_at y) in
    ap length (fold-roll-IfArm (List Text) (List Text) stmt_step arm_step x) ∙ here ∙ sym (fold-roll-IfArm ℕ ℕ heights.stmt_step heights.arm_step x)

pub statement_lines : (stmt : Stmt) → length (stmt_lines stmt) ≡ height stmt
statement_lines = ind-Stmt OfStmt OfArm stmt_counts arm_counts

pub an_arms_lines : (arm : IfArm) → length (arm_lines arm) ≡ arm_height arm
an_arms_lines = ind-IfArm OfStmt OfArm stmt_counts arm_counts

pub bodys_lines : (body : List Stmt) → length (body_lines body) ≡ body_height body
bodys_lines [] = refl
bodys_lines (stmt ∷ body) =
    let more = bodys_lines body in
    let split = length-append (stmt_lines stmt) (body_lines body) in
    let added = sum_more height stmt body in
    let first = statement_lines stmt in
    omega (arith, more, split, added, first)

elif_lines : (arms : List IfArm) → length (flat (map (front (arm_word false)) (map arm_lines arms))) ≡ arms_height arms
elif_lines [] = refl
elif_lines (arm ∷ arms) =
    let more = elif_lines arms in
    let split = length-append (front (arm_word false) (arm_lines arm)) (flat (map (front (arm_word false)) (map arm_lines arms))) in
    let same = front_length (arm_word false) (arm_lines arm) in
    let added = sum_more arm_height arm arms in
    let first = an_arms_lines arm in
    omega (arith, more, split, same, added, first)

pub arms_lines : (arms : List IfArm) → length (if_lines (map arm_lines arms)) ≡ arms_height arms
arms_lines [] = refl
arms_lines (arm ∷ arms) =
    let more = elif_lines arms in
    let split = length-append (front (arm_word true) (arm_lines arm)) (flat (map (front (arm_word false)) (map arm_lines arms))) in
    let same = front_length (arm_word true) (arm_lines arm) in
    let added = sum_more arm_height arm arms in
    let first = an_arms_lines arm in
    omega (arith, more, split, same, added, first)

-- ---- formulas of one line

abbrev SameEnd : Stmt → Type 0
SameEnd stmt = is_some (returned stmt) ≡ returns stmt

abbrev AnyArm : IfArm → Type 0
AnyArm arm = Unit {0}

end_at : (x : Stmt-F Stmt IfArm) → is_some (returned_step (map-Stmt _ _ (Option Text) (Unit {0}) returned (fold-IfArm (Option Text) (Unit {0}) returned_step any_arm) x)) ≡ heights.returns_step (map-Stmt _ _ Bool (Unit {0}) returns (fold-IfArm Bool (Unit {0}) heights.returns_step heights.any_arm) x)
end_at Stmt-F.Pass = refl
end_at (Stmt-F.Return None) = refl
end_at (Stmt-F.Return (Some e)) = refl
end_at (Stmt-F.ReturnItem entries) = refl
end_at (Stmt-F.Assign name e) = refl
end_at (Stmt-F.Change name op e) = refl
end_at (Stmt-F.If arms other) = refl
end_at (Stmt-F.For name over body) = refl

ends_alike : (x : Stmt-F Stmt IfArm) → SameEnd (roll-Stmt x)
ends_alike x = ap is_some (fold-roll-Stmt (Option Text) (Unit {0}) returned_step any_arm x) ∙ end_at x ∙ sym (fold-roll-Stmt Bool (Unit {0}) heights.returns_step heights.any_arm x)

same_end : (stmt : Stmt) → SameEnd stmt
same_end = ind-Stmt SameEnd AnyArm (λ x y is. ends_alike x) (λ x y is. tt)

pub counts_one : (body : List Stmt) → is_some (one_line (map returned body)) ≡ is_of_one_line body
counts_one [] = refl
counts_one (stmt ∷ []) = same_end stmt
counts_one (stmt ∷ next ∷ body) = refl

pub heights_count_lines : HeightsCountLines
heights_count_lines = record {
  statement = statement_lines;
  arm = an_arms_lines;
  body = bodys_lines;
  arms = arms_lines;
  one = counts_one;
}
