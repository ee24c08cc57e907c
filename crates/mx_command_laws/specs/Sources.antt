-- Laws: what sources spell is within the limits of values.
use Rattle.std.specs.Prelude.{ℕ, List}
use Rattle.mx_value.specs.declared.node.Node.{Node}
use Rattle.mx_syntax.specs.declared.stmt.Formula.{Formula}
use Rattle.mx_syntax.specs.declared.stmt.Params.{Params}
use Rattle.mx_grammar.specs.Spelling.{SpellsIn}
use Rattle.mx_grammar.specs.Literals.{node_text}
use Rattle.mx_parse.specs.Formulas.{formula_text, params_text}
use Rattle.mx_state.specs.Proper.{IsProper}
use Rattle.mx_limit_laws.specs.Replies.{HasSmallLiterals, HasSmallDefaults}

-- the literals and defaults of a formula that a source spells are arguments
abbrev pub FormulasAreSmall : Type 0
FormulasAreSmall = (source : List ℕ) (f : Formula) → SpellsIn formula_text source f → HasSmallLiterals f

-- so are those of a parameter list
abbrev pub ParamsAreSmall : Type 0
ParamsAreSmall = (source : List ℕ) (ps : Params) → SpellsIn params_text source ps → HasSmallDefaults ps

-- a node that a source spells may be handed in
abbrev pub NodesAreProper : Type 0
NodesAreProper = (source : List ℕ) (n : Node) → SpellsIn node_text source n → IsProper n
