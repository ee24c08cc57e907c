-- Calls and subscripts: what comes of them does what they mean.
use Rattle.std.proofs.Common.{ℕ, List, ◌∷◌, Some, None, length}
use Rattle.std.specs.List.{list_all}
use Rattle.mx_value.specs.Plain.{is_plain}
use Rattle.mx_value.specs.declared.label.Label.{Label}
use Rattle.mx_value.specs.declared.value.Value.{Value, out-Value}
use Rattle.mx_value.specs.declared.value.Segment.{Segment}
use Rattle.mx_value.specs.declared.value.Segment.TheOpen.{Value-F}
use Rattle.mx_value.specs.declared.value.CellsAt.{CellsAt, out-CellsAt}
use Rattle.mx_value.specs.declared.namespace.Namespace.{Namespace}
use Rattle.mx_value.specs.declared.node.Node.TheVariants.{Cell}
use Rattle.mx_syntax.specs.declared.stmt.Param.{Param}
use Rattle.mx_syntax.specs.Binding.{is_wrong_count}
use Rattle.mx_edit.specs.declared.key.KeyResult.{KeyResult}
use Rattle.mx_edit.specs.declared.key.KeyResult.TheVariants as found
use Rattle.mx_syntax.specs.declared.op.Op.TheVariants as op
use Rattle.mx_ops.specs.Kinds.{Content}
use Rattle.mx_ops.specs.Names.{op_of}
use Rattle.mx_ops.specs.Table.{gives}
use Rattle.mx_runs.specs.Runs.{Run}
use Rattle.mx_meaning.specs.Namespaces.{ends_with_name, is_allowed, item_at}
use Rattle.mx_meaning.specs.Environments.{Locals}
use Rattle.mx_meaning.specs.Calls.{arguments_bound, cells_asked, cells_called, item_asked, space_asked, space_sought, space_called, entry_of, table_found, value_called, called, content_indexed, indexed}
use Rattle.mx_meaning.specs.Lookup.{Callee, Called, Function}
use Rattle.mx_code.specs.declared.action.Instr.{Instr}
use Rattle.mx_code_law.specs.States.{State, Next, Home}
use Rattle.mx_code_law.specs.Finding.{Again}
use Rattle.mx_code_law.specs.Calling.{arguments_next, cells_asked_next, cells_called_next, item_asked_next, space_asked_next, space_sought_next, space_called_next, table_found_next, value_called_next, call_next, content_indexed_next, index_next}
use Rattle.mx_code_law.specs.Machine.{Leads, Does, Ended, Looked, Asked, Noted}
use Rattle.mx_code_law.specs.Fits.{here}
use Rattle.mx_code_law.proofs.Steps.{chosen, computes}
use Rattle.mx_code_law.proofs.Finding.{Follows, ComesAgain, walked_does}

module _ (code : List Instr) (h : Home) (line : ℕ) (locals : Locals) where
  arguments_does : (params : List Param) (args : List Value) (to : List Value → Next) (go : List Value → Run) → Follows code h to go → Leads code h (arguments_next h params args line to) (arguments_bound params args (here h line locals) go)
  arguments_does params args to go d =
      chosen code h (list_all is_plain args) _ _ _ _ (chosen code h (is_wrong_count params (length args)) _ _ _ _ (Ended _) (d _)) (Ended _)

  module _ (to : Value → State) (go : Value → Run) (d : (v : Value) → Does code h (to v) (go v)) where
    cells_asked_does : (ns : Namespace) (name : Label) (args : List Value) (q : KeyResult) → Leads code h (cells_asked_next h ns name args line to q) (cells_asked ns name args (here h line locals) go q)
    cells_asked_does ns name args (found.Formula f allow) = arguments_does f.params args _ _ (λ vs. Asked (Cell ns.at name vs) _ _ (λ r. d r.value))
    cells_asked_does ns name args other = Ended _

    cells_called_does : (cells : CellsAt) (args : List Value) (again : Again) → ComesAgain code h again (λ more came. cells_called_next h (Some (more, came)) cells args line again to) → Leads code h (cells_called_next h None cells args line again to) (cells_called cells args (here h line locals) go)
    cells_called_does cells args again comes = walked_does code h again _ _ comes (λ ns. Looked _ _ _ (cells_asked_does ns (out-CellsAt cells).name args)) (out-CellsAt cells).space

    item_asked_does : (ns : Namespace) (args : List Value) → Leads code h (item_asked_next h ns line to args) (item_asked ns (here h line locals) go args)
    item_asked_does ns args = chosen code h (is_allowed (item_at ns args)) _ _ _ _ (Asked _ _ _ (λ r. d r.value)) (Ended _)

    space_asked_does : (ns : Namespace) (args : List Value) (q : KeyResult) → Leads code h (space_asked_next h ns args line to q) (space_asked ns args (here h line locals) go q)
    space_asked_does ns args (found.Params ps) = arguments_does ps.params args _ _ (item_asked_does ns)
    space_asked_does ns args other = Ended _

    space_sought_does : (args : List Value) (ns : Namespace) → Leads code h (space_sought_next h args line to ns) (space_sought args (here h line locals) go ns)
    space_sought_does args ns = chosen code h (ends_with_name ns.at) _ _ _ _ (Looked _ _ _ (space_asked_does ns args)) (Ended _)

    space_called_does : (at : List Segment) (args : List Value) (again : Again) → ComesAgain code h again (λ more came. space_called_next h (Some (more, came)) at args line again to) → Leads code h (space_called_next h None at args line again to) (space_called at args (here h line locals) go)
    space_called_does at args again comes = walked_does code h again _ _ comes (space_sought_does args) at

    table_found_does : (args : List Value) (q : KeyResult) → Leads code h (table_found_next h args line to q) (table_found args (here h line locals) go q)
    table_found_does args (found.Table t) = computes code h (entry_of t args) line locals _ go d
    table_found_does args other = Ended _

    value_called_does : (c : Content) (args : List Value) (again : Again) → ComesAgain code h again (λ more came. value_called_next h (Some (more, came)) c args line again to) → Leads code h (value_called_next h None c args line again to) (value_called c args (here h line locals) go)
    value_called_does (Value-F.Cells cells) args again comes = cells_called_does cells args again comes
    value_called_does (Value-F.Space at) args again comes = space_called_does at args again comes
    value_called_does other args again comes = Ended _

    pub called_does : (c : Callee) (args : List Value) (again : Again) → ComesAgain code h again (λ more came. call_next h (Some (more, came)) c args line again to) → Leads code h (call_next h None c args line again to) (called c args (here h line locals) go)
    called_does (Called v) args again comes = value_called_does (out-Value v) args again comes
    called_does (Function b) args again comes = computes code h (gives (op_of b) args) line locals _ go d

    content_indexed_does : (c : Content) (v : Value) (args : List Value) (again : Again) → ComesAgain code h again (λ more came. content_indexed_next h (Some (more, came)) c v args line again to) → Leads code h (content_indexed_next h None c v args line again to) (content_indexed c v args (here h line locals) go)
    content_indexed_does (Value-F.Cells cells) v args again comes = cells_called_does cells args again comes
    content_indexed_does (Value-F.Space at) v args again comes = space_called_does at args again comes
    content_indexed_does (Value-F.Table name) v args again comes = Noted _ _ _ (Looked _ _ _ (table_found_does args))
    content_indexed_does (Value-F.Tup items) v args again comes = computes code h (gives op.Index (v ∷ args)) line locals _ go d
    content_indexed_does (Value-F.Text bytes) v args again comes = computes code h (gives op.Index (v ∷ args)) line locals _ go d
    content_indexed_does other v args again comes = Ended _

    pub indexed_does : (v : Value) (args : List Value) (again : Again) → ComesAgain code h again (λ more came. index_next h (Some (more, came)) v args line again to) → Leads code h (index_next h None v args line again to) (indexed v args (here h line locals) go)
    indexed_does v args again comes = content_indexed_does (out-Value v) v args again comes
