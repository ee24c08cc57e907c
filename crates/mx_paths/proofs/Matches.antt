-- Facts by the variant of an option, a result or a test.
use Rattle.std.proofs.Common.{◌≡◌, ◌∙◌, sym, Bool, true, false, Option, Some, None, subst}
use Rattle.std.specs.Prelude.{MatchOption}

pub match_none : {X : Type 0} (P : Type 0) (Q : X → Type 0) (o : Option X) → MatchOption o P Q → o ≡ None → P
match_none P Q None m e = m
match_none P Q (Some x) m e = absurd (let f : Some x ≡ None = e in cc)

pub match_some : {X : Type 0} (P : Type 0) (Q : X → Type 0) (o : Option X) (x : X) → MatchOption o P Q → o ≡ Some x → Q x
match_some P Q None x m e = absurd (let f : None ≡ Some x = e in cc)
match_some {X} P Q (Some y) x m e = let f : y ≡ x = cc in subst Q f m

pub none_true : (b : Bool) → b ≡ true → b ≡ false → ⊥
none_true b t f = let g : true ≡ false = sym t ∙ f in cc
