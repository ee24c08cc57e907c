-- A symbol is that of one token alone.
use Rattle.std.proofs.Common.{◌≡◌, ℕ, Bool, true, false, get_or, [], ◌∷◌, Option, Some, None, refl, sym, ap, ◌∙◌}
use Rattle.std.proofs.lemmas.Bool.Decides.{Decides-eqb}
use Rattle.mx_grammar.specs.declared.word.Symbol.{Symbol}
use Rattle.mx_grammar.specs.declared.word.Symbol.TheVariants as symbol
use Rattle.mx_grammar.specs.declared.word.Word.{Word}
use Rattle.mx_grammar.specs.declared.word.Word.TheVariants as word
use Rattle.mx_grammar.specs.Words.{code, is}
use Rattle.mx_grammar.specs.Reading.{Words, sees, seen, says}
use Rattle.mx_grammar.proofs.Exact.{Kinds, Stops}

-- the symbols in the order of their codes
of_code : ℕ → Symbol
of_code n = get_or (symbol.And ∷ symbol.Or ∷ symbol.Not ∷ symbol.If ∷ symbol.Else ∷ symbol.Elif ∷ symbol.For ∷ symbol.In ∷ symbol.Is ∷ symbol.None ∷ symbol.True ∷ symbol.False ∷ symbol.Pass ∷ symbol.Return ∷ symbol.Plus ∷ symbol.Minus ∷ symbol.Times ∷ symbol.Over ∷ symbol.Floor ∷ symbol.Rem ∷ symbol.Power ∷ symbol.OpenRound ∷ symbol.CloseRound ∷ symbol.OpenSquare ∷ symbol.CloseSquare ∷ symbol.OpenCurly ∷ symbol.CloseCurly ∷ symbol.Comma ∷ symbol.Colon ∷ symbol.Dot ∷ symbol.Assign ∷ symbol.PlusAssign ∷ symbol.MinusAssign ∷ symbol.TimesAssign ∷ symbol.Eq ∷ symbol.Ne ∷ symbol.Lt ∷ symbol.Le ∷ symbol.Gt ∷ symbol.Ge ∷ symbol.Newline ∷ symbol.Indent ∷ symbol.Dedent ∷ symbol.End ∷ []) n symbol.Unused

of_code_code : (s : Symbol) → of_code (code s) ≡ s
unfolding of_code
of_code_code symbol.And = refl
of_code_code _ = refl

pub only : (s : Symbol) (w : Word) → is s w ≡ true → w ≡ word.Symbol s
only s (word.Symbol t) h = ap word.Symbol (sym (of_code_code t) ∙ ap of_code ((Decides-eqb (code t) (code s)).0 h) ∙ of_code_code s)
only s _ h = absurd cc

pub here : (s : Symbol) → is s (word.Symbol s) ≡ true
here s = (Decides-eqb (code s) (code s)).1 refl

says_by : (b : Bool) → seen b ≡ Some tt → b ≡ true
says_by true e = refl
says_by false e = absurd cc

pub says_true : (F : Kinds) (t : Word) → says F t ≡ Some tt → F t ≡ true
says_true F t e = says_by (F t) e

-- what is said of a symbol is said of each token of that symbol
pub at : (s : Symbol) (F : Kinds) (b : Bool) → F (word.Symbol s) ≡ b → (t : Word) → is s t ≡ true → F t ≡ b
at s F b h t here = ap F (only s t here) ∙ h

-- no token is of both kinds
pub apart : (F G : Kinds) → ((t : Word) → F t ≡ true → G t ≡ false) → (ts : Words) → sees F ts ≡ true → Stops G ts
apart F G h [] e = refl
apart F G h (t ∷ ts) e = h t e

-- what is of one kind is of another
pub along : (F G : Kinds) → ((t : Word) → F t ≡ true → G t ≡ true) → (ts : Words) → sees F ts ≡ true → sees G ts ≡ true
along F G to [] h = absurd cc
along F G to (t ∷ ts) h = to t h

otherwise : (b : Bool) → (b ≡ true → ⊥) → b ≡ false
otherwise true n = absurd (n refl)
otherwise false n = refl

-- a token of a kind is no symbol that is not of it
pub unlike : (F : Kinds) (s : Symbol) → F (word.Symbol s) ≡ false → (t : Word) → F t ≡ true → is s t ≡ false
unlike F s f t h = otherwise (is s t) (λ e. let k = sym h ∙ at s F false f t e in cc)

-- nor is one that says something a symbol that says nothing
pub unsaid : {A : Type 0} (says : Word → Option A) (s : Symbol) → says (word.Symbol s) ≡ None → (t : Word) (a : A) → says t ≡ Some a → is s t ≡ false
unsaid says s n t a h = otherwise (is s t) (λ e. let k = sym h ∙ ap says (only s t e) ∙ n in cc)
