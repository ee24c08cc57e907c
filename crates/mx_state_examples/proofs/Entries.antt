-- Records, and right memos of them.
use Rattle.std.proofs.Common.{◌≡◌, Ok, ℕ, ◌≤◌, Bool, true, false, not, ◌&&◌, if◌then◌else◌, inl, inr, List, [], ◌∷◌, ◌++◌, length, refl, sym, ◌∙◌, ap, subst}
use Rattle.std.specs.Bool.{Decides}
use Rattle.mx_value.specs.Name.{same_name}
use Rattle.mx_value.specs.declared.node.Node.{Node}
use Rattle.mx_value.specs.declared.node.Node.TheVariants.{Cell, Item}
use Rattle.mx_value.specs.declared.read.Read.{Read}
use Rattle.mx_value.specs.declared.read.Read.TheVariants as read
use Rattle.mx_value.proofs.Enums.{text_decides}
use Rattle.mx_edit.specs.Entry.{Entry}
use Rattle.mx_edit.specs.declared.key.Key.{Key}
use Rattle.mx_edit.specs.declared.key.Key.TheVariants as key
use Rattle.mx_edit.specs.declared.reply.Reply.{Reply}
use Rattle.mx_runs.specs.Lists.{Has, Distinct, FirstEach, First, Done}
use Rattle.mx_runs.specs.Runs.{Model, Run, Ends, Tests, WrongCount, Gives, Event, Looked, Tested, Asked, Noted}
use Rattle.mx_runs.specs.Inputs.{is_input}
use Rattle.mx_runs.specs.Meaning.{Leads}
use Rattle.mx_value.specs.declared.label.Label.{Label}
use Rattle.mx_value.specs.declared.value.Value.{Value}
use Rattle.mx_value.specs.declared.namespace.Namespace.{Namespace}
use Rattle.mx_syntax.specs.declared.stmt.Formula.{Formula}
use Rattle.mx_syntax.specs.Binding.{bound, is_wrong_count}
use Rattle.mx_edit.specs.declared.key.KeyResult.{KeyResult}
use Rattle.mx_edit.specs.declared.key.KeyResult.TheVariants as found
use Rattle.mx_runs.proofs.Levels.{leads_append}
use Rattle.mx_meaning.specs.Walks.{walked}
use Rattle.mx_meaning.specs.Binding.{cell_bound}
use Rattle.mx_meaning.specs.Laws.{model_of, BindsTo}
use Rattle.mx_formula_examples.proofs.Rules.{Walks}
use Rattle.mx_answers.specs.Held.{most_held, nodes_of}
use Rattle.mx_answers.specs.Records.{IsRecordOf, HasReads, IsRightMemo, AskBefore, recorded_keys, recorded_asks, reads_of}
use Rattle.mx_answers.proofs.Sifting.{records_right}
use Rattle.mx_state.specs.Model.{model_of as state_model}
use Rattle.mx_state.specs.State.{State}
use Rattle.mx_state.specs.Evaluations.{IsAsked, Evaluates, HasPrecedents}
use Rattle.mx_state.proofs.States.{precedents_as}

-- ---- each once, told by tags

abbrev joined : List (List ℕ) → List ℕ
joined [] = []
joined (name ∷ names) = name ++ 0 ∷ joined names

abbrev name_of : Node → List ℕ
name_of (Cell at name args) = name
name_of (Item at args) = []

-- keys with other tags are other keys
abbrev pub key_tag : Key → List ℕ
key_tag (key.Name path name) = 1 ∷ joined path ++ 0 ∷ name
key_tag (key.Global name) = 2 ∷ name
key_tag (key.Cells path name) = 3 ∷ joined path ++ 0 ∷ name
key_tag (key.Params path) = 4 ∷ joined path
key_tag (key.Exists path) = 5 ∷ joined path
key_tag (key.Input n) = 6 ∷ name_of n
key_tag (key.Table name) = 7 ∷ name

abbrev pub read_tag : Read → List ℕ
read_tag (read.Node n) = 1 ∷ []
read_tag (read.Ref at name) = 2 ∷ name
read_tag (read.Global name) = 3 ∷ name
read_tag (read.Table name) = 4 ∷ name

module _ {X : Type 0} (tag : X → List ℕ) where
  abbrev pub is_new : List X → X → Bool
  is_new [] x = true
  is_new (y ∷ ys) x = not (same_name (tag y) (tag x)) && is_new ys x

  abbrev pub are_new : List X → List X → Bool
  are_new seen [] = true
  are_new seen (x ∷ xs) = is_new seen x && are_new (x ∷ seen) xs

  both : (a b : Bool) → (a && b) ≡ true → (a ≡ true) × (b ≡ true)
  both true true h = (refl, refl)
  both true false h = cc
  both false b h = cc

  other_tag : (b : Bool) {P : Type 0} → Decides b P → not b ≡ true → P → ⊥
  other_tag true d e p = cc
  other_tag false d e p = let i : false ≡ true = d.1 p in cc

  not_seen : (seen : List X) (x : X) → is_new seen x ≡ true → Has seen x → ⊥
  not_seen [] x e h = h
  not_seen (y ∷ ys) x e h =
      let es = both (not (same_name (tag y) (tag x))) (is_new ys x) e in
      elim h [
        | inl i ↦ other_tag (same_name (tag y) (tag x)) (text_decides (tag y) (tag x)) es.0 (ap tag i)
        | inr r ↦ not_seen ys x es.1 r
      ]

  first_each : (seen xs : List X) → are_new seen xs ≡ true → FirstEach seen xs xs
  first_each seen [] e = Done
  first_each seen (x ∷ xs) e = let es = both (is_new seen x) (are_new (x ∷ seen) xs) e in First x (not_seen seen x es.0) (first_each (x ∷ seen) xs es.1)

  pub once : (ys xs : List X) → ys ≡ xs → are_new [] xs ≡ true → FirstEach [] ys xs
  once ys xs e h = subst (λ zs. FirstEach [] zs xs) (sym e) (first_each [] xs h)

-- ---- records

no_asks : FirstEach {X = Node} [] [] []
no_asks = Done

-- of a run that asks nothing
pub asks_nothing : (model : Model) (e : Entry) (es : List Event) → Leads model (model.body e.node) es (Ends (Gives e.reply)) → recorded_keys model es ≡ e.keys → are_new key_tag [] e.keys ≡ true → recorded_asks model es ≡ [] → e.asks ≡ [] → reads_of es ≡ e.reads → are_new read_tag [] e.reads ≡ true → IsRecordOf model e
asks_nothing model e es l keys new none asks reads others = record {
  events = es;
  leads = l;
  keys = once key_tag (recorded_keys model es) e.keys keys new;
  asks = subst (λ ns. FirstEach [] (recorded_asks model es) ns) (sym asks) (subst (λ ns. FirstEach [] ns []) (sym none) no_asks);
  reads = once read_tag (reads_of es) e.reads reads others;
}

-- of a run that asks one node
pub asks_one : (model : Model) (e : Entry) (m : Node) (es : List Event) → Leads model (model.body e.node) es (Ends (Gives e.reply)) → recorded_keys model es ≡ e.keys → are_new key_tag [] e.keys ≡ true → recorded_asks model es ≡ m ∷ [] → e.asks ≡ m ∷ [] → reads_of es ≡ e.reads → are_new read_tag [] e.reads ≡ true → IsRecordOf model e
asks_one model e m es l keys new one asks reads others = record {
  events = es;
  leads = l;
  keys = once key_tag (recorded_keys model es) e.keys keys new;
  asks = subst (λ ns. FirstEach [] (recorded_asks model es) ns) (sym asks) (subst (λ ns. FirstEach [] ns (m ∷ [])) (sym one) (First m (λ h. h) Done));
  reads = once read_tag (reads_of es) e.reads reads others;
}

-- what is recorded where the last event asks a node that is no input
module _ (model : Model) (m : Node) (r : Reply) (own : is_input model m ≡ false) where
  pub keys_last : (es : List Event) → recorded_keys model (es ++ Asked m r ∷ []) ≡ recorded_keys model es
  keys_last [] = ap (λ (b : Bool). if b then key.Input m ∷ [] else []) own
  keys_last (Looked k ∷ es) = ap (λ (ks : List Key). k ∷ ks) (keys_last es)
  keys_last (Tested k ∷ es) = keys_last es
  keys_last (Noted d ∷ es) = keys_last es
  keys_last (Asked x v ∷ es) = ap (λ (ks : List Key). if is_input model x then key.Input x ∷ ks else ks) (keys_last es)

  joined_by : (b : Bool) (x : Node) (xs ys : List Node) → xs ≡ ys ++ m ∷ [] → (if b then xs else x ∷ xs) ≡ (if b then ys else x ∷ ys) ++ m ∷ []
  joined_by true x xs ys e = e
  joined_by false x xs ys e = ap (λ (ns : List Node). x ∷ ns) e

  pub asks_last : (es : List Event) → recorded_asks model (es ++ Asked m r ∷ []) ≡ recorded_asks model es ++ m ∷ []
  asks_last [] = ap (λ (b : Bool). if b then [] else m ∷ []) own
  asks_last (Looked k ∷ es) = asks_last es
  asks_last (Tested k ∷ es) = asks_last es
  asks_last (Noted d ∷ es) = asks_last es
  asks_last (Asked x v ∷ es) = joined_by (is_input model x) x (recorded_asks model (es ++ Asked m r ∷ [])) (recorded_asks model es) (asks_last es)

-- ---- right memos

abbrev pub AllRecords : Model → List Entry → Type 0
AllRecords model [] = Unit {0}
AllRecords model (e ∷ es) = IsRecordOf model e × AllRecords model es

abbrev pub NoInputs : Model → List Entry → Type 0
NoInputs model [] = Unit {0}
NoInputs model (e ∷ es) = (is_input model e.node ≡ false) × NoInputs model es

each_record : (model : Model) (held : List Entry) → AllRecords model held → (e : Entry) → Has held e → IsRecordOf model e
each_record model [] a e h = absurd h
each_record model (d ∷ held) a e h = elim h [ inl i ↦ subst (λ x. IsRecordOf model x) i a.0 | inr r ↦ each_record model held a.1 e r ]

each_own : (model : Model) (held : List Entry) → NoInputs model held → (n : Node) → Has (nodes_of held) n → is_input model n ≡ false
each_own model [] a n h = absurd h
each_own model (d ∷ held) a n h = elim h [ inl i ↦ subst (λ x. is_input model x ≡ false) i a.0 | inr r ↦ each_own model held a.1 n r ]

pub right_memo : (model : Model) (held : List Entry) → AllRecords model held → AskBefore [] held → NoInputs model held → Distinct (nodes_of held) → length held ≤ most_held → IsRightMemo model held
right_memo model held records order own once room = record {
  right = records_right model held (each_record model held records) order (each_own model held own) once room;
  records = each_record model held records;
  order = order;
}

-- ---- bound forms

-- cells have the form that binds their arguments
pub bound_cells : {look : Key → KeyResult} {ns : Namespace} {es : List Event} {f : Formula} {allow : Bool} {us : List Value} (name : Label) (vs : List Value) → Walks look ns es → look (key.Cells ns.source name) ≡ found.Formula f allow → is_wrong_count f.params (length vs) ≡ false → bound f.params vs ≡ us
    → BindsTo (model_of look) (Cell ns.at name vs) (Cell ns.at name us)
bound_cells {look = look} {ns = ns} {es = es} {f = f} {us = us} name vs w e count binds = record {
  events = es ++ Tested (key.Cells ns.source name) ∷ [];
  leads = λ go.
      let on : Namespace → Run = λ m. Tests (key.Cells m.source name) (cell_bound m name vs go) in
      leads_append (model_of look) (walked ns.at on) (on ns) (go (Cell ns.at name us)) es (Tested (key.Cells ns.source name) ∷ []) (w.leads on)
      (refl, ap (cell_bound ns name vs go) e ∙ ap (λ (b : Bool). if b then Ends WrongCount else go (Cell ns.at name (bound f.params vs))) count ∙ ap (λ (xs : List Value). go (Cell ns.at name xs)) binds);
}

-- their own, where these are bound
pub self_bound : {look : Key → KeyResult} {ns : Namespace} {es : List Event} {f : Formula} {allow : Bool} (name : Label) (vs : List Value) → Walks look ns es → look (key.Cells ns.source name) ≡ found.Formula f allow → is_wrong_count f.params (length vs) ≡ false → bound f.params vs ≡ vs
    → BindsTo (model_of look) (Cell ns.at name vs) (Cell ns.at name vs)
self_bound name vs w e count binds = bound_cells name vs w e count binds

-- ---- precedents

-- an evaluation with a value tells the reads of the node that is asked
pub reads_told : (s t : State) (n b : Node) (v : Value) (ticks : ℕ) (reads : List Read) → Evaluates s n (Ok v) ticks t → IsAsked (state_model s.text) n b → HasReads (state_model s.text) b reads → HasPrecedents s n (Ok reads) ticks t
reads_told s t n b v ticks reads ev asked h = precedents_as s t n b (Ok v) (Ok reads) ticks ev asked h
