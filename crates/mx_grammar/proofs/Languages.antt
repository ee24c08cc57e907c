-- The parsers of the languages are exact.
use Rattle.std.proofs.Common.{◌≡◌, ℕ, suc, zero, ◌+◌, ◌<◌, ◌≤◌, Bool, true, false, Ok, List, [], ◌∷◌, refl, subst, arith}
use Rattle.mx_value.specs.declared.value.Value.TheVariants as value
use Rattle.mx_grammar.specs.declared.word.Word.TheVariants.{Symbol}
use Rattle.mx_grammar.specs.declared.word.Symbol.TheVariants as symbol
use Rattle.mx_grammar.specs.Grammar.{Line}
use Rattle.mx_grammar.specs.Reading.{Words, Outcome, Turn, On, Done, line}
use Rattle.mx_grammar.specs.Literals.{Literal, literal_text, Addr, addr_text, NodeText, node_text}
use Rattle.mx_grammar.specs.LiteralParsers.{literal}
use Rattle.mx_grammar.specs.AddressParsers.{addr_turn, addr, node_turn, node_by, Goes}
use Rattle.mx_grammar.proofs.Exact.{none, Exists}
use Rattle.mx_grammar.proofs.Meets.{fewer_meets}
use Rattle.mx_grammar.proofs.Loops.{Shrinks}
use Rattle.mx_grammar.proofs.Rules.{Rule, plain}
use Rattle.mx_value.specs.declared.value.Segment.{Segment}
use Rattle.mx_grammar.proofs.Lines.{line_rule, some_line}
use Rattle.mx_grammar.proofs.LiteralRules.{Literals, between, literals_begin, level}
use Rattle.mx_grammar.proofs.AddressRules.{addr_shrinks, addr_rule, some_addr, node_shrinks, node_rule, some_node}
use Rattle.mx_grammar.proofs.Texts.{Exactly}

some_literal : (n : ℕ) → Exists (Literals (suc n))
some_literal n = record { tokens = Symbol symbol.None ∷ []; tree = value.Nothing; spells = Literal.none }

some_at : (d : ℕ) → 0 < d → Exists (Literals d)
some_at zero h = absurd (omega arith)
some_at (suc d) h = some_literal d

pub addr_shorter : (d : ℕ) → 0 < d → Shrinks (addr_turn (literal d))
addr_shorter d h = addr_shrinks {K = between d d} {In = Literals d} (literals_begin d) (some_at d h) (level d d (omega arith))

pub node_shorter : (d : ℕ) → 0 < d → Shrinks (node_turn (literal d))
node_shorter d h = node_shrinks {K = between d d} {In = Literals d} (literals_begin d) (some_at d h) (level d d (omega arith))

pub goes_on : (o : Outcome (Turn (List Segment) (List Segment))) (b : Bool) (found : List Segment) (rest : Words) → b ≡ true → Goes o (Ok b) found rest → o ≡ Ok (On found, rest)
goes_on o true found rest h g = g
goes_on o false found rest h g = absurd cc

pub goes_out : (o : Outcome (Turn (List Segment) (List Segment))) (b : Bool) (found : List Segment) (rest : Words) → b ≡ false → Goes o (Ok b) found rest → o ≡ Ok (Done found, rest)
goes_out o true found rest h g = absurd cc
goes_out o false found rest h g = g

pub literals : Exactly literal_text (λ n. line (literal n))
literals = record {
  exact = λ n. (line_rule refl (level n n (omega arith))).exact;
  meets = λ n m le. (line_rule refl (level n m le)).meets;
  some = λ n. some_line (some_literal n);
}

some_behind : (n : ℕ) → Exists (Literals (n + 1))
some_behind n = let e : suc n ≡ n + 1 = omega arith in subst (λ (k : ℕ). Exists (Literals k)) e (some_literal n)

addr_line : (n m : ℕ) → n ≤ m → Rule (between (n + 1) (m + 1)) (n + 1) (plain none) (Line (Addr (Literals (n + 1)))) (λ i. line (addr i))
addr_line n m le = line_rule refl (addr_rule (literals_begin (n + 1)) (some_behind n) (level (n + 1) (m + 1) (omega arith)))

pub addresses : Exactly addr_text (λ n. line (addr (literal (n + 1))))
addresses = record {
  exact = λ n. (addr_line n n (omega arith)).exact;
  meets = λ n m le. fewer_meets n (n + 1) (line (addr (literal (n + 1)))) (line (addr (literal (m + 1)))) (omega arith) (addr_line n m le).meets;
  some = λ n. some_line (some_addr (literals_begin (suc n + 1)) (some_behind (suc n)) (level (suc n + 1) (suc n + 1) (omega arith)));
}

node_line : (n m : ℕ) → n ≤ m → Rule (between (n + 1) (m + 1)) (n + 1) (plain none) (Line (NodeText (Literals (n + 1)))) (λ i. line (node_by i))
node_line n m le = line_rule refl (node_rule (literals_begin (n + 1)) (some_behind n) (level (n + 1) (m + 1) (omega arith)))

pub nodes : Exactly node_text (λ n. line (node_by (literal (n + 1))))
nodes = record {
  exact = λ n. (node_line n n (omega arith)).exact;
  meets = λ n m le. fewer_meets n (n + 1) (line (node_by (literal (n + 1)))) (line (node_by (literal (m + 1)))) (omega arith) (node_line n m le).meets;
  some = λ n. some_line (some_node (literals_begin (suc n + 1)) (some_behind (suc n)) (level (suc n + 1) (suc n + 1) (omega arith)));
}
