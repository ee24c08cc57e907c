-- The texts of lines: those of two lists, and of lines further in.
use Rattle.std.proofs.Common.{◌≡◌, ℕ, zero, suc, List, [], ◌∷◌, ◌++◌, map, refl, sym, ap, ◌∙◌, append_assoc}
use Rattle.std.specs.Prelude.{codes}
use Rattle.mx_syntax.specs.declared.stmt.Stmt.{Stmt}
use Rattle.mx_print.specs.Texts.{Text}
use Rattle.mx_syntax.specs.Lists.{flat}
use Rattle.mx_print.specs.Statements.{block, margin, line_text, lines_text, stmt_lines, body_lines}

pub lines_both : (m : ℕ) (ls ms : List Text) → lines_text m (ls ++ ms) ≡ lines_text m ls ++ lines_text m ms
lines_both m [] ms = refl
lines_both m (l ∷ ls) ms = ap (λ (t : Text). line_text m l ++ t) (lines_both m ls ms) ∙ sym (append_assoc (line_text m l) (lines_text m ls) (lines_text m ms))

margin_more : (m : ℕ) → margin m ++ codes "    " ≡ codes "    " ++ margin m
margin_more zero = refl
margin_more (suc m) = ap (λ (t : Text). codes "    " ++ t) (margin_more m)

line_in : (m : ℕ) (l : Text) → line_text m (codes "    " ++ l) ≡ line_text (suc m) l
line_in m l = sym (append_assoc (margin m) (codes "    ") (l ++ codes "\n")) ∙ ap (λ (t : Text). t ++ (l ++ codes "\n")) (margin_more m)

lines_in : (m : ℕ) (ls : List Text) → lines_text m (map (λ (l : Text). codes "    " ++ l) ls) ≡ lines_text (suc m) ls
lines_in m [] = refl
lines_in m (l ∷ ls) = ap (λ (t : Text). t ++ lines_text m (map (λ (k : Text). codes "    " ++ k) ls)) (line_in m l) ∙ ap (λ (t : Text). line_text (suc m) l ++ t) (lines_in m ls)

-- the lines of a block stand one level further in
pub block_in : (m : ℕ) (body : List Stmt) → lines_text m (block (map stmt_lines body)) ≡ lines_text (suc m) (body_lines body)
block_in m body = lines_in m (flat (map stmt_lines body))
