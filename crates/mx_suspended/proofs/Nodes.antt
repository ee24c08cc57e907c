-- The run of each node asks an item before it asks what lies in its space.
use Rattle.std.proofs.Common.{Bool, true, false, List, Option, None, Some, if◌then◌else◌, length, inr}
use Rattle.mx_value.specs.declared.label.Label.{Label}
use Rattle.mx_value.specs.declared.value.Value.{Value}
use Rattle.mx_value.specs.declared.value.Value.TheVariants as value
use Rattle.mx_value.specs.declared.value.Segment.{Segment}
use Rattle.mx_value.specs.declared.namespace.Namespace.{Namespace}
use Rattle.mx_value.specs.declared.node.Node.{Node}
use Rattle.mx_value.specs.declared.node.Node.TheVariants.{Cell, Item}
use Rattle.mx_syntax.specs.declared.stmt.Stmt.{Stmt}
use Rattle.mx_syntax.specs.Binding.{bound, is_wrong_count}
use Rattle.mx_edit.specs.declared.key.Key.{Key}
use Rattle.mx_edit.specs.declared.key.Key.TheVariants as key
use Rattle.mx_edit.specs.declared.key.KeyResult.{KeyResult}
use Rattle.mx_edit.specs.declared.key.KeyResult.TheVariants as found
use Rattle.mx_runs.specs.Runs.{Run}
use Rattle.mx_runs.specs.Inputs.{is_static}
use Rattle.mx_meaning.specs.Namespaces.{Overlay, ends_with_name, is_allowed, item_at}
use Rattle.mx_meaning.specs.Statements.{Returned, Plain, Display}
use Rattle.mx_meaning.specs.Nodes.{cells_returned, cells_found, input_or, source_or_fault, based, item_given, item_returned, item_done, item_found, body}
use Rattle.mx_meaning.proofs.Keeping.{Keeps}
use Rattle.mx_meaning.proofs.Bodies.{body_kept}
use Rattle.mx_suspended.specs.ItemsFirst.{ItemsFirst}
use Rattle.mx_suspended.proofs.Guarded.{Guarded, asked_first}
use Rattle.mx_suspended.proofs.Walks.{Outside, walked_guarded}

module _ (look : Key → KeyResult) (at : List Segment) (args : List Value) where
  abbrev Keeping : Run → Type 0
  Keeping run = Guarded look at args run

  guarded_keeps : Keeps look (Guarded look at args) (Outside look at args)
  guarded_keeps = record {
    ended = λ o h. tt;
    looked = λ k go h. h;
    noted = λ read run h. h;
    walks = walked_guarded look at args;
    asks_cell = λ ns name f allow vs go o e q k. inr (o.clear, λ r m. k r);
    asks_item = λ ns ps vs go o n e q k. inr (o.clear, λ r m. k r);
  }

  chosen : (b : Bool) (given other : Run) → Keeping given → Keeping other → Keeping (if b then given else other)
  chosen true given other x y = x
  chosen false given other x y = y

  -- ---- cells

  cells_returned_guarded : (allow : Bool) (n : Node) (x : Returned) → Keeping (cells_returned allow n x)
  cells_returned_guarded allow n (Plain value.Nothing) = chosen allow _ _ tt tt
  cells_returned_guarded allow n (Plain v) = tt
  cells_returned_guarded allow n (Display refs base) = tt

  cells_found_guarded : (n : Node) (ns : Namespace) (vs : List Value) (r : KeyResult) → Keeping (cells_found n ns vs r)
  cells_found_guarded n ns vs (found.Formula f allow) =
      chosen (is_wrong_count f.params (length vs)) _ _ tt (body_kept look (Guarded look at args) (Outside look at args) guarded_keeps f.body _ (cells_returned allow n) (cells_returned_guarded allow n))
  cells_found_guarded n ns vs other = tt

  input_guarded : (run : Run) → Keeping run → (r : KeyResult) → Keeping (input_or run r)
  input_guarded run g (found.Value v) = tt
  input_guarded run g other = g

  -- ---- items

  source_guarded : (o : Option (List Label)) (n : Node) (ns : Namespace) (vs : List Value) (over : Overlay) → Keeping (source_or_fault o n (item_given ns vs over))
  source_guarded (Some source) n ns vs over = tt
  source_guarded None n ns vs over = tt

  based_guarded : (base : Option Value) (n : Node) (ns : Namespace) (vs : List Value) (over : Overlay) → Keeping (based base ns n (item_given ns vs over))
  based_guarded None n ns vs over = tt
  based_guarded (Some v) n ns vs over = source_guarded _ n ns vs over

  item_returned_guarded : (n : Node) (ns : Namespace) (vs : List Value) (given : Overlay) (x : Returned) → Keeping (item_returned n ns vs given x)
  item_returned_guarded n ns vs given (Plain value.Nothing) = tt
  item_returned_guarded n ns vs given (Plain v) = tt
  item_returned_guarded n ns vs given (Display refs base) = based_guarded base n ns vs _

  item_done_guarded : (b : Option (List Stmt)) (n : Node) (ns : Namespace) (vs : List Value) (given : Overlay) → Keeping (item_done b n ns vs given)
  item_done_guarded None n ns vs given = tt
  item_done_guarded (Some stmts) n ns vs given =
      body_kept look (Guarded look at args) (Outside look at args) guarded_keeps stmts _ (item_returned n ns vs given) (item_returned_guarded n ns vs given)

  item_found_guarded : (n : Node) (ns : Namespace) (vs : List Value) (r : KeyResult) → Keeping (item_found n ns vs r)
  item_found_guarded n ns vs (found.Params ps) =
      chosen (is_wrong_count ps.params (length vs)) _ _ tt (chosen (is_allowed (item_at ns (bound ps.params vs))) _ _ (item_done_guarded ps.body n ns (bound ps.params vs) _) tt)
  item_found_guarded n ns vs other = tt

  -- ---- nodes

  node_guarded : (n : Node) → Keeping (body n)
  node_guarded (Cell a name vs) =
      let g = walked_guarded look at args a _ (λ ns o. cells_found_guarded (Cell a name vs) ns vs (look (key.Cells ns.source name))) in
      chosen (is_static a) _ _ (input_guarded _ g (look (key.Input (Cell a name vs)))) g
  node_guarded (Item a vs) = walked_guarded look at args a _ (λ ns o. chosen (ends_with_name ns.at) _ _ (item_found_guarded (Item a vs) ns vs (look (key.Params ns.source))) tt)

pub items_first : ItemsFirst
items_first look n m es go at args l p = asked_first look at args (body n) es m go (node_guarded look at args n) l p
