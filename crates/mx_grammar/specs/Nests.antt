-- A function value that parses in so many levels.
use Rattle.std.specs.Prelude.{ℕ, Result}
use Rattle.std.specs.declared.alloc.Global.{Global}
use denote.Ref.{MutBor}
use Rattle.mx_grammar.specs.declared.trouble.Trouble.{Trouble}
use Rattle.mx_grammar.specs.Reading.{Words, Parser, Reads}

pub record Nests {A : Type 0} (parser : ℕ → Parser A) (levels : ℕ) (pre : Global → MutBor Words → ℕ → Type 0)
    (post : Global → MutBor Words → ℕ → Result A Trouble → MutBor Words → Type 0) : Type 0 where
  pub callable : (alloc : Global) (old : MutBor Words) → pre alloc old levels
  pub reads : (alloc : Global) (old new : MutBor Words) (r : Result A Trouble) → post alloc old levels r new
      → Reads (parser levels old.now) r new.now
