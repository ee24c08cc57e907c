-- What keys lead to, where formulas run and what nodes give, within the limits.
use Rattle.std.specs.Prelude.{Option, Some, None}
use Rattle.mx_value.specs.declared.label.Label.{Label}
use Rattle.mx_value.specs.declared.value.Value.{Value}
use Rattle.mx_value.specs.declared.namespace.Namespace.{Namespace}
use Rattle.mx_syntax.specs.declared.stmt.Formula.{Formula}
use Rattle.mx_syntax.specs.declared.stmt.Params.{Params}
use Rattle.mx_edit.specs.Rows.{TableRows}
use Rattle.mx_edit.specs.declared.reference.RefValue.{RefValue}
use Rattle.mx_edit.specs.declared.reference.RefValue.TheVariants as reference
use Rattle.mx_edit.specs.declared.key.Key.{Key}
use Rattle.mx_edit.specs.declared.key.KeyResult.{KeyResult}
use Rattle.mx_edit.specs.declared.key.KeyResult.TheVariants as found
use Rattle.mx_edit.specs.declared.reply.Reply.{Reply}
use Rattle.mx_state.specs.Proper.{IsArgument}
use Rattle.mx_limit_laws.specs.Values.{Each, IsWithin, IsAddress}
use Rattle.mx_limit_laws.specs.Literals.{formula_literals, params_literals}

-- ---- what keys lead to

-- the literals and defaults of a formula are arguments
abbrev pub HasSmallLiterals : Formula → Type 0
HasSmallLiterals f = Each IsArgument (formula_literals f)

-- so are those of a parameter list
abbrev pub HasSmallDefaults : Params → Type 0
HasSmallDefaults ps = Each IsArgument (params_literals ps)

-- so is a plain value of a reference
abbrev pub IsSmallReference : RefValue → Type 0
IsSmallReference (reference.Plain v) = IsArgument v
IsSmallReference (reference.Table name) = Unit {0}
IsSmallReference (reference.Target path fixed) = Unit {0}

-- so is each entry of a table
abbrev pub IsSmallTable : TableRows → Type 0
IsSmallTable t = Each (Each IsArgument) t.rows

abbrev pub IsSmallResult : KeyResult → Type 0
IsSmallResult found.Missing = Unit {0}
IsSmallResult found.CellsHere = Unit {0}
IsSmallResult found.Child = Unit {0}
IsSmallResult (found.Ref value owner) = IsSmallReference value
IsSmallResult (found.Formula f allow) = HasSmallLiterals f
IsSmallResult (found.Params ps) = HasSmallDefaults ps
IsSmallResult found.There = Unit {0}
IsSmallResult (found.Value v) = IsArgument v
IsSmallResult (found.Table t) = IsSmallTable t

-- whatever keys lead to holds only values within the limits
abbrev pub HasSmallResults : (Key → KeyResult) → Type 0
HasSmallResults look = (k : Key) → IsSmallResult (look k)

-- ---- what nodes give

-- a namespace at an address within the limits, each value of whose overlay is within them
pub record IsSmallNamespace (ns : Namespace) : Type 0 where
  pub address : IsAddress ns.at
  pub overlay : Each (λ (o : Label × Value). IsWithin o.1) ns.overlay

abbrev pub IsNoneOrSmall : Option Namespace → Type 0
IsNoneOrSmall None = Unit {0}
IsNoneOrSmall (Some ns) = IsSmallNamespace ns

-- a value within the limits, and with it a namespace within the limits or none
pub record IsSmallReply (r : Reply) : Type 0 where
  pub value : IsWithin r.value
  pub namespace : IsNoneOrSmall r.namespace
