-- What an instruction and a run of the meaning do on a walk is what the walk leads to.
use Rattle.std.proofs.Common.{◌≡◌, Bool, true, false, List, [], ◌∷◌, Option, Some, None, length, refl}
use Rattle.std.specs.Prelude.{nat_le, if◌then◌else◌}
use Rattle.mx_value.specs.declared.value.Value.{Value}
use Rattle.mx_value.specs.declared.value.Segment.{Segment, out-Segment}
use Rattle.mx_value.specs.declared.value.Segment.TheOpen.{Segment-F}
use Rattle.mx_value.specs.declared.namespace.Namespace.{Namespace}
use Rattle.mx_syntax.specs.Binding.{is_wrong_count}
use Rattle.mx_edit.specs.Entry.{Entry}
use Rattle.mx_edit.specs.declared.key.Key.TheVariants as key
use Rattle.mx_edit.specs.declared.key.KeyResult.{KeyResult}
use Rattle.mx_edit.specs.declared.key.KeyResult.TheVariants as found
use Rattle.mx_runs.specs.Runs.{Model, Run}
use Rattle.mx_meaning.specs.Namespaces.{Step, root, child, ends_with_name}
use Rattle.mx_meaning.specs.Walks.{Onward, entered, item_entered, stepped, walked, walked_from}
use Rattle.mx_suspended.specs.Recorded.{Recorded, GoesPast, Stays, PastTest}
use Rattle.mx_code_law.specs.States.{Next}
use Rattle.mx_code_law.specs.Finding.{Again, Place, item_next, step_next, walk_next, begun_next, resumed_next, walked_next}
use Rattle.mx_read_set.specs.Seen.{Seen}
use Rattle.mx_read_set.specs.Passed.{passed}
use Rattle.mx_walks.specs.Ways.{Look, Leading, item_way, step_way, way_of, begun_way, resumed_way, walked_way, leading_next, leading_run}

-- ---- instructions

module _ (look : Look) (again : Again) (to : Namespace → Next) (seen : Seen) where
  -- what comes of an instruction goes on as a walk leads
  abbrev Passes : Next → Leading → Type 0
  Passes n l = passed look n seen ≡ passed look (leading_next l again to) seen

  one_passes : (b : Bool) (n m : Next) (l k : Leading) → Passes n l → Passes m k → Passes (if b then n else m) (if b then l else k)
  one_passes true n m l k p q = p
  one_passes false n m l k p q = q

  item_passes : (more : List Segment) (ns : Namespace) (args : List Value) (q : KeyResult) → Passes (item_next ns args (again more) q) (item_way more ns args q)
  item_passes more ns args (found.Params ps) = one_passes (is_wrong_count ps.params (length args)) _ _ _ _ refl refl
  item_passes more ns args other = refl

  step_passes : (more : List Segment) → ((next : Namespace) → Passes (walk_next more next again to) (way_of look more next)) → (ns : Namespace) (s : Step) → Passes (step_next s ns (again more) (λ next. walk_next more next again to)) (step_way look more s ns (λ next. way_of look more next))
  step_passes more on ns (Segment-F.Name name) = on (child name ns)
  step_passes more on ns (Segment-F.Item args) = one_passes (ends_with_name ns.at) _ _ _ _ (item_passes more ns args (look (key.Params ns.source))) refl

  walk_passes : (rest : List Segment) (ns : Namespace) → Passes (walk_next rest ns again to) (way_of look rest ns)
  walk_passes [] ns = refl
  walk_passes (s ∷ more) ns = one_passes (nat_le 64 (length ns.at)) _ _ _ _ refl (step_passes more (walk_passes more) ns (out-Segment s))

  begun_passes : (at : List Segment) → Passes (begun_next at again to) (begun_way look at)
  begun_passes [] = refl
  begun_passes (s ∷ more) = walk_passes (s ∷ more) root

  resumed_passes : (rest : List Segment) (came : Option Namespace) → Passes (resumed_next rest came again to) (resumed_way look rest came)
  resumed_passes rest (Some ns) = walk_passes rest ns
  resumed_passes rest None = refl

  walked_passes : (place : Place) (at : List Segment) → Passes (walked_next place at again to) (walked_way look place at)
  walked_passes None at = begun_passes at
  walked_passes (Some way) at = resumed_passes way.0 way.1

pub instruction_walks : (look : Look) (place : Place) (at : List Segment) (again : Again) (to : Namespace → Next) (seen : Seen) → passed look (walked_next place at again to) seen ≡ passed look (leading_next (walked_way look place at) again to) seen
instruction_walks look place at again to seen = walked_passes look again to seen place at

-- ---- runs

module _ (model : Model) (held : List Entry) (go : Onward) (so_far : Recorded) where
  -- a run goes on as a walk leads
  abbrev GoesOn : Run → Leading → Type 0
  GoesOn run l = GoesPast model held run so_far (leading_run l go) so_far

  one_goes : (b : Bool) (n m : Run) (l k : Leading) → GoesOn n l → GoesOn m k → GoesOn (if b then n else m) (if b then l else k)
  one_goes true n m l k p q = p
  one_goes false n m l k p q = q

  item_goes : (more : List Segment) (ns : Namespace) (args : List Value) (q : KeyResult) → GoesOn (item_entered ns args (λ next. walked_from more next go) q) (item_way more ns args q)
  item_goes more ns args (found.Params ps) = one_goes (is_wrong_count ps.params (length args)) _ _ _ _ (Stays _ _) (Stays _ _)
  item_goes more ns args other = Stays _ _

  step_goes : (more : List Segment) → ((next : Namespace) → GoesOn (walked_from more next go) (way_of model.look more next)) → (ns : Namespace) (s : Step) → GoesOn (stepped s ns (λ next. walked_from more next go)) (step_way model.look more s ns (λ next. way_of model.look more next))
  step_goes more on ns (Segment-F.Name name) = on (child name ns)
  step_goes more on ns (Segment-F.Item args) = one_goes (ends_with_name ns.at) _ _ _ _ (PastTest _ _ _ _ _ (item_goes more ns args (model.look (key.Params ns.source)))) (Stays _ _)

  walk_goes : (rest : List Segment) (ns : Namespace) → GoesOn (walked_from rest ns go) (way_of model.look rest ns)
  walk_goes [] ns = Stays _ _
  walk_goes (s ∷ more) ns = one_goes (nat_le 64 (length ns.at)) _ _ _ _ (Stays _ _) (step_goes more (walk_goes more) ns (out-Segment s))

  walked_goes : (at : List Segment) → GoesOn (walked at go) (begun_way model.look at)
  walked_goes [] = Stays _ _
  walked_goes (s ∷ more) = walk_goes (s ∷ more) root

  entered_goes : (rest : List Segment) (came : Option Namespace) → GoesOn (entered came (λ ns. walked_from rest ns go)) (resumed_way model.look rest came)
  entered_goes rest (Some ns) = walk_goes rest ns
  entered_goes rest None = Stays _ _

pub run_walks : (model : Model) (held : List Entry) (at : List Segment) (go : Onward) (so_far : Recorded) → GoesPast model held (walked at go) so_far (leading_run (begun_way model.look at) go) so_far
run_walks model held at go so_far = walked_goes model held go so_far at

pub run_walks_on : (model : Model) (held : List Entry) (rest : List Segment) (came : Option Namespace) (go : Onward) (so_far : Recorded) → GoesPast model held (entered came (λ ns. walked_from rest ns go)) so_far (leading_run (resumed_way model.look rest came) go) so_far
run_walks_on model held rest came go so_far = entered_goes model held go so_far rest came
