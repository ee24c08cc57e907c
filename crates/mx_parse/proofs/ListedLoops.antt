-- What the code answers of a list of parts, and of a part beside one.
use Rattle.std.proofs.Common.{◌≡◌, ℕ, Bool, true, false, nat_le, max, List, sym, ap, ◌∙◌}
use Rattle.mx_expression.specs.Loops.{greatest}
use Rattle.mx_parse.specs.FewLoops.{few}
use Rattle.mx_parse.proofs.FewLoops.{le_both, le_not, le_greatest}

pub listed : (ns : List ℕ) (n most : ℕ) (r : Bool) → n ≡ greatest ns → r ≡ few most ns → r ≡ nat_le n most
listed ns n most r is h = h ∙ sym (le_greatest ns most) ∙ ap (λ (k : ℕ). nat_le k most) (sym is)

-- a part, and then a list
pub then_listed : (a : ℕ) (ns : List ℕ) (n most : ℕ) (r : Bool) → n ≡ max a (greatest ns) → nat_le a most ≡ true → r ≡ few most ns → r ≡ nat_le n most
then_listed a ns n most r is held h = h ∙ sym (le_greatest ns most) ∙ sym (le_both a (greatest ns) most held) ∙ ap (λ (k : ℕ). nat_le k most) (sym is)

pub listed_not : (ns : List ℕ) (b n most : ℕ) → n ≡ max (greatest ns) b → few most ns ≡ false → false ≡ nat_le n most
listed_not ns b n most is held = sym (ap (λ (k : ℕ). nat_le k most) is ∙ le_not (greatest ns) b most (le_greatest ns most ∙ held))
