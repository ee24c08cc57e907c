-- Bound forms: what a node that binds has, and that a node with a value binds.
use Rattle.std.proofs.Common.{Bool, true, false, ◌≡◌, ◌&&◌, List, [], ◌∷◌, ◌++◌, inl, inr, if◌then◌else◌, length, refl, sym, ◌∙◌, ap, subst}
use Rattle.mx_value.specs.declared.label.Label.{Label}
use Rattle.mx_value.specs.declared.value.Value.{Value}
use Rattle.mx_value.specs.declared.value.Segment.{Segment}
use Rattle.mx_value.specs.declared.namespace.Namespace.{Namespace}
use Rattle.mx_value.specs.declared.node.Node.{Node}
use Rattle.mx_value.specs.declared.node.Node.TheVariants.{Cell, Item}
use Rattle.mx_value.specs.declared.fault.FaultKind.TheVariants.{ZeroDivision}
use Rattle.mx_syntax.specs.declared.stmt.Params.{Params}
use Rattle.mx_syntax.specs.declared.stmt.Formula.{Formula}
use Rattle.mx_syntax.specs.Binding.{bound, is_wrong_count}
use Rattle.mx_edit.specs.declared.key.Key.{Key}
use Rattle.mx_edit.specs.declared.key.Key.TheVariants as key
use Rattle.mx_edit.specs.declared.key.KeyResult.{KeyResult}
use Rattle.mx_edit.specs.declared.key.KeyResult.TheVariants as found
use Rattle.mx_edit.specs.declared.reply.Reply.{Reply}
use Rattle.mx_runs.specs.Runs.{Run, Ends, Looks, Tests, Gives, Faults, NoSuch, WrongCount, Event, Looked, Tested, Asked, Noted}
use Rattle.mx_runs.specs.Inputs.{is_static, is_value, is_input, InputsEnd}
use Rattle.mx_runs.specs.Meaning.{Means, Leads}
use Rattle.mx_runs.proofs.Levels.{ends_only, leads_append}
use Rattle.mx_runs.proofs.Runs.{comparable}
use Rattle.mx_runs.proofs.Meanings.{whole_at}
use Rattle.mx_meaning.specs.Namespaces.{ends_with_name}
use Rattle.mx_meaning.specs.Walks.{walked}
use Rattle.mx_meaning.specs.Binding.{binding, cell_bound, item_bound, item_sought}
use Rattle.mx_meaning.specs.Nodes.{cells_found, cells_run, input_or, item_found, item_run, body}
use Rattle.mx_meaning.specs.Laws.{model_of, BindsTo}
use Rattle.mx_state.specs.Proper.{IsPlace, address_of}
use Rattle.mx_state.proofs.Alike.{IsAlike}
use Rattle.mx_state.proofs.Walked.{passes, ended, not_refused}

-- the run of an input ends with its value
static_input : (a b : Bool) → (a && b) ≡ true → a ≡ true
static_input true b h = refl
static_input false b h = cc

pub inputs_end : (look : Key → KeyResult) → InputsEnd (model_of look)
inputs_end look (Cell at name args) h =
    let n : Node = Cell at name args in
    let run : Run = cells_run n at name args in
    record {
      go = input_or run;
      starts = ap (λ (b : Bool). if b then Looks (key.Input n) (input_or run) else run) (static_input (is_static at) (is_value (look (key.Input n))) h);
      ends = λ v. refl;
    }
inputs_end look (Item at args) h = cc

module _ (look : Key → KeyResult) where
  -- a run that tells the bound form
  abbrev pub told : Node → Run
  told b = Ends (Faults ZeroDivision b 0)

  told_once : (b c : Node) (es : List Event) → Leads (model_of look) (told c) es (told b) → b ≡ c
  told_once b c es l = let e : Faults ZeroDivision b 0 ≡ Faults ZeroDivision c 0 = ended look (Faults ZeroDivision b 0) (Faults ZeroDivision c 0) es l in cc

  -- ---- cells

  module _ (name : Label) (args : List Value) where
    -- the space has cells of the name, whose parameters bind the arguments
    pub record HasCells (ns : Namespace) : Type 0 where
      pub formula : Formula
      pub allow : Bool
      pub here : look (key.Cells ns.source name) ≡ found.Formula formula allow
      pub count : is_wrong_count formula.params (length args) ≡ false

    -- the node that they give
    abbrev pub cells_node : (ns : Namespace) → HasCells ns → Node
    cells_node ns h = Cell ns.at name (bound h.formula.params args)

    pub record BindsCells (ns : Namespace) (b : Node) : Type 0 where
      pub has : HasCells ns
      pub is : b ≡ cells_node ns has

    module _ (ns : Namespace) (b : Node) where
      counted_cells : (f : Formula) (allow : Bool) → look (key.Cells ns.source name) ≡ found.Formula f allow → (wrong : Bool) → is_wrong_count f.params (length args) ≡ wrong
          → (es : List Event) → Leads (model_of look) (if wrong then Ends WrongCount else told (Cell ns.at name (bound f.params args))) es (told b) → BindsCells ns b
      counted_cells f allow e true q es l = not_refused look (Faults ZeroDivision b 0) WrongCount es tt (λ h. h) l
      counted_cells f allow e false q es l = record { has = record { formula = f; allow = allow; here = e; count = q }; is = told_once b (Cell ns.at name (bound f.params args)) es l }

      found_cells : (r : KeyResult) → look (key.Cells ns.source name) ≡ r → (es : List Event) → Leads (model_of look) (cell_bound ns name args told r) es (told b) → BindsCells ns b
      found_cells (found.Formula f allow) e es l = counted_cells f allow e (is_wrong_count f.params (length args)) refl es l
      found_cells found.Missing e es l = not_refused look (Faults ZeroDivision b 0) NoSuch es tt (λ h. h) l
      found_cells found.CellsHere e es l = not_refused look (Faults ZeroDivision b 0) NoSuch es tt (λ h. h) l
      found_cells found.Child e es l = not_refused look (Faults ZeroDivision b 0) NoSuch es tt (λ h. h) l
      found_cells (found.Ref v w) e es l = not_refused look (Faults ZeroDivision b 0) NoSuch es tt (λ h. h) l
      found_cells (found.Params ps) e es l = not_refused look (Faults ZeroDivision b 0) NoSuch es tt (λ h. h) l
      found_cells found.There e es l = not_refused look (Faults ZeroDivision b 0) NoSuch es tt (λ h. h) l
      found_cells (found.Value v) e es l = not_refused look (Faults ZeroDivision b 0) NoSuch es tt (λ h. h) l
      found_cells (found.Table t) e es l = not_refused look (Faults ZeroDivision b 0) NoSuch es tt (λ h. h) l

      pub tests_cells : (es : List Event) → Leads (model_of look) (Tests (key.Cells ns.source name) (cell_bound ns name args told)) es (told b) → BindsCells ns b
      tests_cells [] l = absurd (cc)
      tests_cells (Looked x ∷ es) l = absurd l
      tests_cells (Asked x r ∷ es) l = absurd l
      tests_cells (Noted x ∷ es) l = absurd l
      tests_cells (Tested x ∷ es) l = found_cells (look (key.Cells ns.source name)) refl es l.1

    -- the same of their run, where it gives a value
    module _ (n : Node) (ns : Namespace) (r : Reply) where
      counted_run : (f : Formula) (allow : Bool) → look (key.Cells ns.source name) ≡ found.Formula f allow → (wrong : Bool) → is_wrong_count f.params (length args) ≡ wrong → (run : Run)
          → (es : List Event) → Leads (model_of look) (if wrong then Ends WrongCount else run) es (Ends (Gives r)) → HasCells ns
      counted_run f allow e true q run es l = not_refused look (Gives r) WrongCount es tt (λ h. h) l
      counted_run f allow e false q run es l = record { formula = f; allow = allow; here = e; count = q }

      found_run : (k : KeyResult) → look (key.Cells ns.source name) ≡ k → (es : List Event) → Leads (model_of look) (cells_found n ns args k) es (Ends (Gives r)) → HasCells ns
      found_run (found.Formula f allow) e es l = counted_run f allow e (is_wrong_count f.params (length args)) refl _ es l
      found_run found.Missing e es l = not_refused look (Gives r) NoSuch es tt (λ h. h) l
      found_run found.CellsHere e es l = not_refused look (Gives r) NoSuch es tt (λ h. h) l
      found_run found.Child e es l = not_refused look (Gives r) NoSuch es tt (λ h. h) l
      found_run (found.Ref v w) e es l = not_refused look (Gives r) NoSuch es tt (λ h. h) l
      found_run (found.Params ps) e es l = not_refused look (Gives r) NoSuch es tt (λ h. h) l
      found_run found.There e es l = not_refused look (Gives r) NoSuch es tt (λ h. h) l
      found_run (found.Value v) e es l = not_refused look (Gives r) NoSuch es tt (λ h. h) l
      found_run (found.Table t) e es l = not_refused look (Gives r) NoSuch es tt (λ h. h) l

      looks_cells : (es : List Event) → Leads (model_of look) (Looks (key.Cells ns.source name) (cells_found n ns args)) es (Ends (Gives r)) → HasCells ns
      looks_cells [] l = absurd (cc)
      looks_cells (Tested x ∷ es) l = absurd l
      looks_cells (Asked x v ∷ es) l = absurd l
      looks_cells (Noted x ∷ es) l = absurd l
      looks_cells (Looked x ∷ es) l = found_run (look (key.Cells ns.source name)) refl es l.1

  -- ---- items

  module _ (args : List Value) where
    -- the space has items, whose parameters bind the arguments
    pub record HasItems (ns : Namespace) : Type 0 where
      pub params : Params
      pub named : ends_with_name ns.at ≡ true
      pub here : look (key.Params ns.source) ≡ found.Params params
      pub count : is_wrong_count params.params (length args) ≡ false

    abbrev pub item_node : (ns : Namespace) → HasItems ns → Node
    item_node ns h = Item ns.at (bound h.params.params args)

    pub record BindsItem (ns : Namespace) (b : Node) : Type 0 where
      pub has : HasItems ns
      pub is : b ≡ item_node ns has

    module _ (ns : Namespace) (b : Node) where
      counted_item : (named : ends_with_name ns.at ≡ true) (ps : Params) → look (key.Params ns.source) ≡ found.Params ps → (wrong : Bool) → is_wrong_count ps.params (length args) ≡ wrong
          → (es : List Event) → Leads (model_of look) (if wrong then Ends WrongCount else told (Item ns.at (bound ps.params args))) es (told b) → BindsItem ns b
      counted_item named ps e true q es l = not_refused look (Faults ZeroDivision b 0) WrongCount es tt (λ h. h) l
      counted_item named ps e false q es l = record { has = record { params = ps; named = named; here = e; count = q }; is = told_once b (Item ns.at (bound ps.params args)) es l }

      found_item : ends_with_name ns.at ≡ true → (r : KeyResult) → look (key.Params ns.source) ≡ r → (es : List Event) → Leads (model_of look) (item_bound ns args told r) es (told b) → BindsItem ns b
      found_item named (found.Params ps) e es l = counted_item named ps e (is_wrong_count ps.params (length args)) refl es l
      found_item named found.Missing e es l = not_refused look (Faults ZeroDivision b 0) NoSuch es tt (λ h. h) l
      found_item named found.CellsHere e es l = not_refused look (Faults ZeroDivision b 0) NoSuch es tt (λ h. h) l
      found_item named found.Child e es l = not_refused look (Faults ZeroDivision b 0) NoSuch es tt (λ h. h) l
      found_item named (found.Ref v w) e es l = not_refused look (Faults ZeroDivision b 0) NoSuch es tt (λ h. h) l
      found_item named (found.Formula f a) e es l = not_refused look (Faults ZeroDivision b 0) NoSuch es tt (λ h. h) l
      found_item named found.There e es l = not_refused look (Faults ZeroDivision b 0) NoSuch es tt (λ h. h) l
      found_item named (found.Value v) e es l = not_refused look (Faults ZeroDivision b 0) NoSuch es tt (λ h. h) l
      found_item named (found.Table t) e es l = not_refused look (Faults ZeroDivision b 0) NoSuch es tt (λ h. h) l

      pub tests_item : (c : Bool) → ends_with_name ns.at ≡ c → (es : List Event) → Leads (model_of look) (if c then Tests (key.Params ns.source) (item_bound ns args told) else Ends NoSuch) es (told b) → BindsItem ns b
      tests_item false n es l = not_refused look (Faults ZeroDivision b 0) NoSuch es tt (λ h. h) l
      tests_item true n [] l = absurd (cc)
      tests_item true n (Looked x ∷ es) l = absurd l
      tests_item true n (Asked x r ∷ es) l = absurd l
      tests_item true n (Noted x ∷ es) l = absurd l
      tests_item true n (Tested x ∷ es) l = found_item n (look (key.Params ns.source)) refl es l.1

    -- the same of their run, where it gives a value
    module _ (n : Node) (ns : Namespace) (r : Reply) where
      counted_item_run : (named : ends_with_name ns.at ≡ true) (ps : Params) → look (key.Params ns.source) ≡ found.Params ps → (wrong : Bool) → is_wrong_count ps.params (length args) ≡ wrong → (run : Run)
          → (es : List Event) → Leads (model_of look) (if wrong then Ends WrongCount else run) es (Ends (Gives r)) → HasItems ns
      counted_item_run named ps e true q run es l = not_refused look (Gives r) WrongCount es tt (λ h. h) l
      counted_item_run named ps e false q run es l = record { params = ps; named = named; here = e; count = q }

      found_item_run : ends_with_name ns.at ≡ true → (k : KeyResult) → look (key.Params ns.source) ≡ k → (es : List Event) → Leads (model_of look) (item_found n ns args k) es (Ends (Gives r)) → HasItems ns
      found_item_run named (found.Params ps) e es l = counted_item_run named ps e (is_wrong_count ps.params (length args)) refl _ es l
      found_item_run named found.Missing e es l = not_refused look (Gives r) NoSuch es tt (λ h. h) l
      found_item_run named found.CellsHere e es l = not_refused look (Gives r) NoSuch es tt (λ h. h) l
      found_item_run named found.Child e es l = not_refused look (Gives r) NoSuch es tt (λ h. h) l
      found_item_run named (found.Ref v w) e es l = not_refused look (Gives r) NoSuch es tt (λ h. h) l
      found_item_run named (found.Formula f a) e es l = not_refused look (Gives r) NoSuch es tt (λ h. h) l
      found_item_run named found.There e es l = not_refused look (Gives r) NoSuch es tt (λ h. h) l
      found_item_run named (found.Value v) e es l = not_refused look (Gives r) NoSuch es tt (λ h. h) l
      found_item_run named (found.Table t) e es l = not_refused look (Gives r) NoSuch es tt (λ h. h) l

      looks_item : (c : Bool) → ends_with_name ns.at ≡ c → (es : List Event) → Leads (model_of look) (if c then Looks (key.Params ns.source) (item_found n ns args) else Ends NoSuch) es (Ends (Gives r)) → HasItems ns
      looks_item false e es l = not_refused look (Gives r) NoSuch es tt (λ h. h) l
      looks_item true e [] l = absurd (cc)
      looks_item true e (Tested x ∷ es) l = absurd l
      looks_item true e (Asked x v ∷ es) l = absurd l
      looks_item true e (Noted x ∷ es) l = absurd l
      looks_item true e (Looked x ∷ es) l = found_item_run e (look (key.Params ns.source)) refl es l.1

  -- ---- what a node that binds has

  -- the run of a node comes by these events to here
  pub record Begins (n : Node) (run : Run) : Type 0 where
    pub front : List Event
    pub leads : Leads (model_of look) (body n) front run

  -- by the walk of its address it comes to a namespace, where it tests a key that its own run looks up, if it is no input
  pub record BoundAs (n b : Node) : Type 0 where
    pub space : Namespace
    pub place : IsPlace space.at
    pub alike : IsAlike look (address_of n) space.at
    pub at : address_of b ≡ space.at
    pub before : List Event
    pub walks : (g : Namespace → Run) → Leads (model_of look) (walked (address_of n) g) before (g space)
    pub key : Key
    pub binds : (go : Node → Run) → Leads (model_of look) (binding n go) (before ++ Tested key ∷ []) (go b)
    pub looks : is_input (model_of look) n ≡ false → (front : List Event) × (go : KeyResult → Run) × Leads (model_of look) (body n) (front ++ before) (Looks key go)

  no_input : (run : Run) (r : KeyResult) → is_value r ≡ false → input_or run r ≡ run
  no_input run (found.Value v) h = cc
  no_input run found.Missing h = refl
  no_input run found.CellsHere h = refl
  no_input run found.Child h = refl
  no_input run (found.Ref v w) h = refl
  no_input run (found.Formula f a) h = refl
  no_input run (found.Params ps) h = refl
  no_input run found.There h = refl
  no_input run (found.Table t) h = refl

  begins_by : (n : Node) (run : Run) (c : Bool) → (c && is_value (look (key.Input n))) ≡ false → (start : Run) → start ≡ (if c then Looks (key.Input n) (input_or run) else run) → (es : List Event) × Leads (model_of look) start es run
  begins_by n run true h start e = (Looked (key.Input n) ∷ [], subst (λ r. Leads (model_of look) r (Looked (key.Input n) ∷ []) run) (sym e) (refl, no_input run (look (key.Input n)) h))
  begins_by n run false h start e = ([], e)

  cells_begin : (at : List Segment) (name : Label) (args : List Value) → is_input (model_of look) (Cell at name args) ≡ false → Begins (Cell at name args) (cells_run (Cell at name args) at name args)
  cells_begin at name args h = let p = begins_by (Cell at name args) (cells_run (Cell at name args) at name args) (is_static at) h (body (Cell at name args)) refl in record { front = p.0; leads = p.1 }

  -- ---- cells and items that are walked to

  module _ (at : List Segment) (space : Namespace) (before : List Event) (walks : (g : Namespace → Run) → Leads (model_of look) (walked at g) before (g space)) where
    -- they bind
    pub cells_bind_there : (name : Label) (args : List Value) (h : HasCells name args space) (go : Node → Run) → Leads (model_of look) (binding (Cell at name args) go) (before ++ Tested (key.Cells space.source name) ∷ []) (go (cells_node name args space h))
    cells_bind_there name args h go =
        let k : Key = key.Cells space.source name in
        let b : Node = cells_node name args space h in
        leads_append (model_of look) _ (Tests k (cell_bound space name args go)) (go b) before (Tested k ∷ []) (walks (λ m. Tests (key.Cells m.source name) (cell_bound m name args go)))
        (refl, ap (cell_bound space name args go) h.here ∙ ap (λ (wrong : Bool). if wrong then Ends WrongCount else go b) h.count)

    pub item_binds_there : (args : List Value) (h : HasItems args space) (go : Node → Run) → Leads (model_of look) (binding (Item at args) go) (before ++ Tested (key.Params space.source) ∷ []) (go (item_node args space h))
    item_binds_there args h go =
        let k : Key = key.Params space.source in
        let b : Node = item_node args space h in
        leads_append (model_of look) _ (item_sought space args go) (go b) before (Tested k ∷ []) (walks (λ m. item_sought m args go))
        (subst (λ (run : Run). Leads (model_of look) run (Tested k ∷ []) (go b)) (sym (ap (λ (c : Bool). if c then Tests k (item_bound space args go) else Ends NoSuch) h.named))
        (refl, ap (item_bound space args go) h.here ∙ ap (λ (wrong : Bool). if wrong then Ends WrongCount else go b) h.count))

    module _ (place : IsPlace space.at) (alike : IsAlike look at space.at) where
      bound_cells : (name : Label) (args : List Value) (h : HasCells name args space) → BoundAs (Cell at name args) (cells_node name args space h)
      bound_cells name args h = record {
        space = space;
        place = place;
        alike = alike;
        at = refl;
        before = before;
        walks = walks;
        key = key.Cells space.source name;
        binds = cells_bind_there name args h;
        looks = λ i. let p = cells_begin at name args i in
            (p.front, cells_found (Cell at name args) space args, leads_append (model_of look) (body (Cell at name args)) (cells_run (Cell at name args) at name args) _ p.front before p.leads (walks (λ m. Looks (key.Cells m.source name) (cells_found (Cell at name args) m args))));
      }

      bound_item : (args : List Value) (h : HasItems args space) → BoundAs (Item at args) (item_node args space h)
      bound_item args h =
          let k : Key = key.Params space.source in
          let n : Node = Item at args in
          record {
            space = space;
            place = place;
            alike = alike;
            at = refl;
            before = before;
            walks = walks;
            key = k;
            binds = item_binds_there args h;
            looks = λ i. ([], item_found n space args, subst (λ (run : Run). Leads (model_of look) (body n) before run) (ap (λ (c : Bool). if c then Looks k (item_found n space args) else Ends NoSuch) h.named) (walks (item_run n args)));
          }

  -- ---- each node that binds, and each with a value, has these

  pub bound_as : (n b : Node) → BindsTo (model_of look) n b → BoundAs n b
  bound_as (Cell at name args) b t =
      let p = passes look (Faults ZeroDivision b 0) tt at (λ ns. Tests (key.Cells ns.source name) (cell_bound ns name args told)) t.events (t.leads told) in
      let c = tests_cells name args p.space b p.after p.rest in
      subst (λ m. BoundAs (Cell at name args) m) (sym c.is) (bound_cells at p.space p.before p.leads p.place p.alike name args c.has)
  bound_as (Item at args) b t =
      let p = passes look (Faults ZeroDivision b 0) tt at (λ ns. item_sought ns args told) t.events (t.leads told) in
      let c = tests_item args p.space b (ends_with_name p.space.at) refl p.after p.rest in
      subst (λ m. BoundAs (Item at args) m) (sym c.is) (bound_item at p.space p.before p.leads p.place p.alike args c.has)

  -- what is left of a whole run
  record Left (run : Run) (r : Reply) : Type 0 where
    events : List Event
    leads : Leads (model_of look) run events (Ends (Gives r))

  left : (n : Node) (run : Run) (r : Reply) → Begins n run → Means (model_of look) n (Gives r) → Left run r
  left n run r p m =
      let w = whole_at (model_of look) n r m.at m.gives in
      elim (comparable (model_of look) (body n) run (Ends (Gives r)) p.front w.events p.leads w.leads) [
        | inl a ↦ record { events = a.more; leads = a.leads }
        | inr a ↦ record { events = []; leads = (ends_only (model_of look) (Gives r) run a.more a.leads).1 }
      ]

  pub record HasBoundAs (n : Node) : Type 0 where
    pub node : Node
    pub is : BoundAs n node

  pub value_bound : (n : Node) (r : Reply) → Means (model_of look) n (Gives r) → is_input (model_of look) n ≡ false → HasBoundAs n
  value_bound (Cell at name args) r m i =
      let n : Node = Cell at name args in
      let l = left n (cells_run n at name args) r (cells_begin at name args i) m in
      let p = passes look (Gives r) tt at (λ ns. Looks (key.Cells ns.source name) (cells_found n ns args)) l.events l.leads in
      let h = looks_cells name args n p.space r p.after p.rest in
      record { node = cells_node name args p.space h; is = bound_cells at p.space p.before p.leads p.place p.alike name args h }
  value_bound (Item at args) r m i =
      let n : Node = Item at args in
      let l = left n (body n) r (record { front = []; leads = refl }) m in
      let p = passes look (Gives r) tt at (item_run n args) l.events l.leads in
      let h = looks_item args n p.space r (ends_with_name p.space.at) refl p.after p.rest in
      record { node = item_node args p.space h; is = bound_item at p.space p.before p.leads p.place p.alike args h }
