-- Nodes that ask one another in a round are a ring, and mean nothing.
use Rattle.std.proofs.Common.{List, [], ◌∷◌, inl, inr, refl, subst}
use Rattle.mx_value.specs.declared.node.Node.{Node}
use Rattle.mx_runs.specs.Runs.{Model}
use Rattle.mx_runs.specs.Lists.{Has, Distinct}
use Rattle.mx_runs.specs.Chains.{DoesAsk, StuckChain, IsRing, MeansNothing, first_or}
use Rattle.mx_runs.proofs.Meanings.{AsksWithin, lost}

-- each asks the next, and the last asks m
abbrev pub AskRound : Model → List Node → Node → Type 0
AskRound model [] m = Unit {0}
AskRound model (n ∷ ns) m = DoesAsk model n (first_or m ns) × AskRound model ns m

module _ (model : Model) (all : List Node) (m : Node) (last : Has all m) where
  next_in : (ns : List Node) → ((x : Node) → Has ns x → Has all x) → Has all (first_or m ns)
  next_in [] h = last
  next_in (n ∷ ns) h = h n (inl refl)

  within : (ns : List Node) → ((x : Node) → Has ns x → Has all x) → AskRound model ns m → (k : Node) → Has ns k → AsksWithin model all k
  within [] h r k i = absurd i
  within (n ∷ ns) h r k i =
      elim i [
        | inl e ↦ subst (λ z. AsksWithin model all z) e (record { next = first_or m ns; within = next_in ns (λ x j. h x (inr j)); asks = r.0 })
        | inr j ↦ within ns (λ x l. h x (inr l)) r.1 k j
      ]

  stuck : ((k : Node) → Has all k → MeansNothing model k) → (ns : List Node) → ((x : Node) → Has ns x → Has all x) → AskRound model ns m → StuckChain model ns m
  stuck dead [] h r = tt
  stuck dead (n ∷ ns) h r = (record { asks = r.0; lost = dead (first_or m ns) (next_in ns (λ x j. h x (inr j))) }, stuck dead ns (λ x j. h x (inr j)) r.1)

module _ (model : Model) (n : Node) (rest : List Node) (r : AskRound model (n ∷ rest) n) where
  pub round_means_nothing : (k : Node) → Has (n ∷ rest) k → MeansNothing model k
  round_means_nothing = lost model (n ∷ rest) (within model (n ∷ rest) n (inl refl) (n ∷ rest) (λ x i. i) r)

  pub round_is_ring : Distinct (n ∷ rest) → IsRing model n (n ∷ rest)
  round_is_ring d = record { lead = []; again = n; rest = rest; is = refl; begins = refl; distinct = d; stuck = stuck model (n ∷ rest) n (inl refl) round_means_nothing (n ∷ rest) (λ x i. i) r }
