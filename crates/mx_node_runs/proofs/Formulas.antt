-- The code of a formula begins, and does what is behind the walk of its node.
use Rattle.std.proofs.Common.{◌≡◌, ℕ, Bool, true, false, List, [], length, Option, refl, sym, ap, subst, ◌∙◌}
use Rattle.std.specs.Prelude.{if◌then◌else◌}
use Rattle.mx_value.specs.declared.label.Label.{Label}
use Rattle.mx_value.specs.declared.value.Value.{Value}
use Rattle.mx_value.specs.declared.value.Segment.{Segment}
use Rattle.mx_value.specs.declared.namespace.Namespace.{Namespace}
use Rattle.mx_value.specs.declared.node.Node.{Node}
use Rattle.mx_value.specs.declared.node.Node.TheVariants.{Cell, Item}
use Rattle.mx_syntax.specs.declared.stmt.Formula.{Formula}
use Rattle.mx_syntax.specs.declared.stmt.Params.{Params}
use Rattle.mx_syntax.specs.declared.stmt.Param.{Param}
use Rattle.mx_syntax.specs.declared.stmt.Stmt.{Stmt}
use Rattle.mx_syntax.specs.Binding.{bound, is_wrong_count}
use Rattle.mx_edit.specs.declared.key.Key.{Key}
use Rattle.mx_edit.specs.declared.key.Key.TheVariants as key
use Rattle.mx_edit.specs.declared.key.KeyResult.{KeyResult}
use Rattle.mx_edit.specs.declared.key.KeyResult.TheVariants as found
use Rattle.mx_runs.specs.Runs.{Model, Run, Ends, Looks, WrongCount, NoSuch}
use Rattle.mx_meaning.specs.Laws.{model_of}
use Rattle.mx_meaning.specs.Namespaces.{Overlay, ends_with_name, is_allowed, item_at}
use Rattle.mx_meaning.specs.Nodes.{arguments_of, cells_found, cells_returned, first_env, item_done, item_found, item_made, item_run}
use Rattle.mx_meaning.specs.Statements.{body_done}
use Rattle.mx_meaning.specs.Walks.{bound_or_refused}
use Rattle.mx_code.specs.declared.action.Instr.{Instr}
use Rattle.mx_code.specs.declared.code.Code.{Code}
use Rattle.mx_code.specs.Statements.{body_of, code_of, size_of}
use Rattle.mx_code.specs.Told.{told}
use Rattle.mx_code_law.specs.States as law
use Rattle.mx_code_law.specs.Laws.{begun}
use Rattle.mx_code_law.specs.Machine.{Does}
use Rattle.mx_code_law.proofs.Formulas.{cells_do, items_do}
use Rattle.mx_read_set.specs.Seen.{Seen, with_key}
use Rattle.mx_stack.specs.Flight.{Flight}
use Rattle.mx_lookup.specs.declared.ending.Ending.TheVariants as ending
use Rattle.mx_lookup.specs.declared.home.Home.{Home}
use Rattle.mx_lookup.specs.declared.home.Work.TheVariants as work
use Rattle.mx_lookup.specs.Homes.{home_of}
use Rattle.mx_node_runs.specs.declared.halt.Halt.{Halt}
use Rattle.mx_node_runs.specs.declared.halt.Halt.TheVariants as halt
use Rattle.mx_node_runs.specs.Begins.{Enters}
use Rattle.mx_node_runs.specs.Behind.{behind}
use Rattle.mx_node_runs.specs.Halts.{HaltsAt, HaltsFrom}
use Rattle.mx_node_runs.proofs.Halting.{ends_unbegun, from_look, of_same}

-- what binding comes to, by the count
pub bound_as : (params : List Param) (args : List Value) (go : List Value → Run) (b : Bool) → is_wrong_count params (length args) ≡ b → bound_or_refused params args go ≡ (if b then Ends WrongCount else go (bound params args))
bound_as params args go b e = ap (λ (c : Bool). if c then Ends WrongCount else go (bound params args)) e

-- how a run halts that does the code of a home
abbrev pub Proceeds : Model → Code → Home → Seen → Seen → Halt → Flight → Flight → Type 0
Proceeds model code h olds news at mid after =
    (run : Run) → Does (told code) (home_of h) mid.top run → HaltsAt model h.node run olds news at after.top

-- the code of a run that begins does it to where it halts
begun_halts : (model : Model) (size : ℕ) (full : List Value) (before mid after : Flight) (code : Code) (h : Home) (run : Run) (olds news : Seen) (at : Halt) → Enters size full before mid → Does (told code) (home_of h) (law.state 0 [] (begun size full)) run → Proceeds model code h olds news at mid after → after.below ≡ mid.below → HaltsFrom model h.node run olds news at before after
begun_halts model size full before mid after code h run olds news at e d on b = λ i.
    (on run (subst (λ (f : Flight). Does (told code) (home_of h) f.top run) (sym (e i)) d), b ∙ ap (λ (f : Flight). f.below) (e i))

-- ---- cells

module _ (look : Key → KeyResult) (n : Node) (ns : Namespace) (name : Label) (args : List Value) (olds : Seen) where
  abbrev pub cells_key : Key
  cells_key = key.Cells ns.source name

  abbrev pub cells_look : Run
  cells_look = Looks cells_key (cells_found n ns args)

  pub no_cells : (f : Flight) → found.Missing ≡ look cells_key → HaltsFrom (model_of look) n cells_look olds (with_key cells_key olds) (halt.Ends ending.NoSuch) f f
  no_cells f e =
      from_look (model_of look) n cells_key (cells_found n ns args) olds (with_key cells_key olds) (halt.Ends ending.NoSuch) f f
      (ends_unbegun (model_of look) n (cells_found n ns args (look cells_key)) (with_key cells_key olds) ending.NoSuch f (ap (cells_found n ns args) (sym e)))

  module _ (formula : Formula) (allow : Bool) (e : found.Formula formula allow ≡ look cells_key) where
    abbrev formula_run : List Value → Run
    formula_run vs = body_done formula.body (first_env n ns (arguments_of formula.params vs) formula.body) (cells_returned allow n)

    found_as : (b : Bool) → is_wrong_count formula.params (length args) ≡ b → cells_found n ns args (look cells_key) ≡ (if b then Ends WrongCount else formula_run (bound formula.params args))
    found_as b c = ap (cells_found n ns args) (sym e) ∙ bound_as formula.params args formula_run b c

    pub cells_unbound : (f g : Flight) → is_wrong_count formula.params (length args) ≡ true → g ≡ f → HaltsFrom (model_of look) n cells_look olds (with_key cells_key olds) (halt.Ends ending.WrongCount) f g
    cells_unbound f g c s =
        subst (λ (x : Flight). HaltsFrom (model_of look) n cells_look olds (with_key cells_key olds) (halt.Ends ending.WrongCount) f x) (sym s)
        (from_look (model_of look) n cells_key (cells_found n ns args) olds (with_key cells_key olds) (halt.Ends ending.WrongCount) f f
        (ends_unbegun (model_of look) n (cells_found n ns args (look cells_key)) (with_key cells_key olds) ending.WrongCount f (found_as true c)))

    pub cells_run : (before mid after : Flight) (own : Node) (home : Home) (mids : Seen) (code : Code) (news : Seen) (at : Halt) → home ≡ record { node = own; space = ns; work = work.Cells allow } → own ≡ n → mids ≡ with_key cells_key olds → is_wrong_count formula.params (length args) ≡ false
        → Enters (size_of formula.params formula.body) (bound formula.params args) before mid → told code ≡ code_of formula.params formula.body
        → Proceeds (model_of look) code home mids news at mid after → after.below ≡ mid.below → HaltsFrom (model_of look) n cells_look olds news at before after
    cells_run before mid after own home mids code news at w o m c s t on b =
        let h : Home = record { node = n; space = ns; work = work.Cells allow } in
        let run : Run = formula_run (bound formula.params args) in
        let here : Proceeds (model_of look) code h (with_key cells_key olds) news at mid after =
        subst (λ (x : Seen). Proceeds (model_of look) code h x news at mid after) m
        (subst (λ (x : Node). Proceeds (model_of look) code (record { node = x; space = ns; work = work.Cells allow }) mids news at mid after) o
        (subst (λ (x : Home). Proceeds (model_of look) code x mids news at mid after) w on)) in
        from_look (model_of look) n cells_key (cells_found n ns args) olds news at before after
        (of_same (model_of look) n (cells_found n ns args (look cells_key)) run (with_key cells_key olds) news at before after (found_as false c)
        (begun_halts (model_of look) (size_of formula.params formula.body) (bound formula.params args) before mid after code h run (with_key cells_key olds) news at s
        (subst (λ (is : List Instr). Does is (home_of h) (law.state 0 [] (begun (size_of formula.params formula.body) (bound formula.params args))) run) (sym t) (cells_do n ns allow formula.params formula.body args c)) here b))

-- ---- items

module _ (look : Key → KeyResult) (n : Node) (ns : Namespace) (args : List Value) (olds : Seen) where
  abbrev pub params_key : Key
  params_key = key.Params ns.source

  run_as : (b : Bool) → ends_with_name ns.at ≡ b → item_run n args ns ≡ (if b then Looks params_key (item_found n ns args) else Ends NoSuch)
  run_as b e = ap (λ (c : Bool). if c then Looks params_key (item_found n ns args) else Ends NoSuch) e

  pub no_name : (f : Flight) → ends_with_name ns.at ≡ false → HaltsFrom (model_of look) n (item_run n args ns) olds olds (halt.Ends ending.NoSuch) f f
  no_name f e = ends_unbegun (model_of look) n (item_run n args ns) olds ending.NoSuch f (run_as false e)

  pub params_looked : (news : Seen) (at : Halt) (before after : Flight) → ends_with_name ns.at ≡ true → HaltsFrom (model_of look) n (item_found n ns args (look params_key)) (with_key params_key olds) news at before after → HaltsFrom (model_of look) n (item_run n args ns) olds news at before after
  params_looked news at before after e h =
      of_same (model_of look) n (item_run n args ns) (Looks params_key (item_found n ns args)) olds news at before after (run_as true e)
      (from_look (model_of look) n params_key (item_found n ns args) olds news at before after h)

  pub no_params : (f : Flight) → ends_with_name ns.at ≡ true → found.Missing ≡ look params_key → HaltsFrom (model_of look) n (item_run n args ns) olds (with_key params_key olds) (halt.Ends ending.NoSuch) f f
  no_params f e m =
      params_looked (with_key params_key olds) (halt.Ends ending.NoSuch) f f e
      (ends_unbegun (model_of look) n (item_found n ns args (look params_key)) (with_key params_key olds) ending.NoSuch f (ap (item_found n ns args) (sym m)))

  pub with_params : (params : Params) (news : Seen) (at : Halt) (before after : Flight) → ends_with_name ns.at ≡ true → found.Params params ≡ look params_key → HaltsFrom (model_of look) n (bound_or_refused params.params args (item_made params.body params.params n ns)) (with_key params_key olds) news at before after → HaltsFrom (model_of look) n (item_run n args ns) olds news at before after
  with_params params news at before after e m h =
      params_looked news at before after e
      (of_same (model_of look) n (item_found n ns args (look params_key)) (bound_or_refused params.params args (item_made params.body params.params n ns)) (with_key params_key olds) news at before after (ap (item_found n ns args) (sym m)) h)

module _ (model : Model) (n : Node) (ns : Namespace) (args : List Value) (params : List Param) (body : Option (List Stmt)) (olds : Seen) where
  abbrev made_run : Run
  made_run = bound_or_refused params args (item_made body params n ns)

  pub item_unbound : (f : Flight) → is_wrong_count params (length args) ≡ true → HaltsFrom model n made_run olds olds (halt.Ends ending.WrongCount) f f
  item_unbound f c = ends_unbegun model n made_run olds ending.WrongCount f (bound_as params args (item_made body params n ns) true c)

  made_as : (full : List Value) → is_wrong_count params (length args) ≡ false → full ≡ bound params args → (b : Bool) → is_allowed (item_at ns full) ≡ b → made_run ≡ (if b then item_done body n ns full (arguments_of params full) else Ends NoSuch)
  made_as full c e b h =
      bound_as params args (item_made body params n ns) false c ∙ ap (item_made body params n ns) (sym e)
      ∙ ap (λ (d : Bool). if d then item_done body n ns full (arguments_of params full) else Ends NoSuch) h

  pub item_too_large : (f : Flight) (full : List Value) → is_wrong_count params (length args) ≡ false → full ≡ bound params args → is_allowed (item_at ns full) ≡ false → HaltsFrom model n made_run olds olds (halt.Ends ending.NoSuch) f f
  item_too_large f full c e h = ends_unbegun model n made_run olds ending.NoSuch f (made_as full c e false h)

  pub item_runs : (before mid after : Flight) (own : Node) (home : Home) (full : List Value) (given : Overlay) (code : Code) (news : Seen) (at : Halt) → home ≡ record { node = own; space = ns; work = work.Item full given } → own ≡ n → is_wrong_count params (length args) ≡ false → full ≡ bound params args → is_allowed (item_at ns full) ≡ true → given ≡ arguments_of params full
      → Enters (size_of params (body_of body)) full before mid → told code ≡ code_of params (body_of body) → Proceeds model code home olds news at mid after → after.below ≡ mid.below → HaltsFrom model n made_run olds news at before after
  item_runs before mid after own home full given code news at w o c e l g s t on b =
      let h : Home = record { node = n; space = ns; work = work.Item full given } in
      let here : Proceeds model code h olds news at mid after = subst (λ (x : Node). Proceeds model code (record { node = x; space = ns; work = work.Item full given }) olds news at mid after) o
      (subst (λ (x : Home). Proceeds model code x olds news at mid after) w on) in
      let run : Run = item_done body n ns full (arguments_of params full) in
      let at_home : (vs : List Value) (over : Overlay) → law.Home = λ vs over. record { node = n; space = ns; work = law.OfItem vs over } in
      let d : Does (told code) (home_of h) (law.state 0 [] (begun (size_of params (body_of body)) full)) run =
      subst (λ (is : List Instr). Does is (home_of h) (law.state 0 [] (begun (size_of params (body_of body)) full)) run) (sym t)
      (subst (λ (over : Overlay). Does (code_of params (body_of body)) (at_home full over) (law.state 0 [] (begun (size_of params (body_of body)) full)) run) (sym g)
      (subst (λ (vs : List Value). Does (code_of params (body_of body)) (at_home vs (arguments_of params vs)) (law.state 0 [] (begun (size_of params (body_of body)) vs)) (item_done body n ns vs (arguments_of params vs))) (sym e)
      (items_do n ns params body args c))) in
      of_same model n made_run run olds news at before after (made_as full c e true l)
      (begun_halts model (size_of params (body_of body)) full before mid after code h run olds news at s d here b)

-- ---- nodes

-- what is behind the walk of cells
pub behind_cells : (n : Node) (at : List Segment) (name : Label) (args : List Value) (ns : Namespace) → n ≡ Cell at name args → behind n ns ≡ Looks (key.Cells ns.source name) (cells_found n ns args)
behind_cells n at name args ns e = subst (λ (m : Node). behind m ns ≡ Looks (key.Cells ns.source name) (cells_found m ns args)) (sym e) refl

-- what is behind the walk of an item
pub behind_item : (n : Node) (at : List Segment) (args : List Value) (ns : Namespace) → n ≡ Item at args → behind n ns ≡ item_run n args ns
behind_item n at args ns e = subst (λ (m : Node). behind m ns ≡ item_run m args ns) (sym e) refl
