-- The parser of a list where each item depends on those before is exact, where that of each item is.
use Rattle.std.proofs.Common.{ℕ, List, [], ◌∷◌, ◌++◌}
use Rattle.mx_grammar.specs.declared.word.Symbol.{Symbol}
use Rattle.mx_grammar.specs.Reading.{Words, Parser}
use Rattle.mx_grammar.proofs.Exact.{Rel, Kinds, none}
use Rattle.mx_grammar.proofs.Rules.{Knot, Rule, plain}
use Rattle.mx_grammar.proofs.Lists.{Closes, Items, Same, Shut, SomeShut, all_items_rule, some_items_rule}
use Rattle.mx_parse.specs.Following.{Following, following, some_following}

-- the items behind those before, and a symbol that closes
abbrev pub ClosedBehind : {A : Type 0} → (List A → Rel A) → Symbol → List A → Rel (List A)
ClosedBehind R close before = Shut (Following R before) close

-- at least one item
abbrev pub SomeBehind : {A : Type 0} → (List A → Rel A) → Symbol → Rel (List A)
SomeBehind R close = SomeShut (Following R []) close

module _ {A : Type 0} (R : List A → Rel A) where
  to_following : (before : List A) (u : Words) (xs : List A) → Items R before u xs → Following R before u xs
  to_following _ _ _ Items.empty = Following.none
  to_following _ _ _ (Items.one h) = Following.one h
  to_following _ _ _ (Items.more {before} {v} {x} {xs} h others) = Following.more h (to_following (before ++ x ∷ []) v xs others)

  from_following : (before : List A) (u : Words) (xs : List A) → Following R before u xs → Items R before u xs
  from_following _ _ _ Following.none = Items.empty
  from_following _ _ _ (Following.one h) = Items.one h
  from_following _ _ _ (Following.more {before} {v} {x} {xs} h others) = Items.more h (from_following (before ++ x ∷ []) v xs others)

  same_following : Same R (Following R)
  same_following = record { to = to_following; from = from_following }

module _ {E A : Type 0} {K : Knot E} {k : ℕ} {F : Kinds} {R : List A → Rel A} {P : E → List A → Parser A} (close : Symbol)
    (c : (found : List A) → Closes close F (R found)) (p : (found : List A) → Rule K k (plain F) (R found) (λ i. P i found)) where
  pub all_following_rule : Rule K k (plain none) (ClosedBehind R close []) (λ i. following close (P i) [])
  all_following_rule = all_items_rule {P = P} close (same_following R) c p

  pub some_following_rule : Rule K k (plain none) (SomeBehind R close) (λ i. some_following close (P i))
  some_following_rule = some_items_rule {P = P} close (same_following R) c p
