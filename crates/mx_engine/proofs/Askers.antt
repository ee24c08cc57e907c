-- Which held nodes asked a node, by what a memo records under ids.
use Rattle.std.proofs.Common.{◌≡◌, ℕ, Bool, true, false, ◌&&◌, cond, List, [], ◌∷◌, map, Option, Some, None, is_some, inl, inr, ◌⊎◌, refl, sym, ◌∙◌, ap, subst}
use Rattle.std.specs.Prelude.{IsTrue}
use Rattle.std.specs.Map.{lookup}
use Rattle.std.specs.Option.{option_map}
use Rattle.mx_value.specs.declared.value.Value.{Value}
use Rattle.mx_value.specs.declared.value.Segment.{Segment, out-Segment}
use Rattle.mx_value.specs.declared.value.Segment.TheOpen.{Segment-F}
use Rattle.mx_value.specs.declared.node.Node.{Node}
use Rattle.mx_value.specs.declared.node.Node.TheVariants.{Cell, Item}
use Rattle.mx_value.proofs.NodeSames.{node_decides}
use Rattle.mx_edit.specs.Entry.{Entry}
use Rattle.mx_edit.specs.declared.key.Key.TheVariants.{Input}
use Rattle.mx_graph.specs.declared.ids.NodeId.{NodeId}
use Rattle.mx_c3.specs.Lists.{Has as InText}
use Rattle.mx_vertices.specs.Places as places
use Rattle.mx_vertices.specs.Kept.{looked, asked}
use Rattle.mx_vertices.specs.Found.{IsHeldAs, IsNew}
use Rattle.mx_vertices.specs.Reading.{AreTakers, id_at}
use Rattle.mx_memo.specs.Memos.{Memory}
use Rattle.mx_runs.specs.Lists.{Has}
use Rattle.mx_runs.specs.Inputs.{is_name, is_static, is_value, is_input}
use Rattle.mx_answers.specs.Held.{nodes_of}
use Rattle.mx_answers.specs.Records.{AskBefore}
use Rattle.mx_model.specs.Records.{Name, Path, ModelRecord}
use Rattle.mx_model.specs.Inputs.{name_in, joined, path_of, fits}
use Rattle.mx_model.specs.Keys.{node_eq, input_of, value_of, key_result}
use Rattle.mx_model.specs.Valid.{Valid}
use Rattle.mx_meaning.specs.Namespaces.{Step}
use Rattle.mx_memo_laws.specs.Entries.{entries_of, IsOrdered}
use Rattle.mx_memo_laws.specs.Laws.{HeldOnce, AskersAreEntered, ReadersAreEntered, NewIsNotEntered}
use Rattle.mx_state.specs.Model.{model_of}
use Rattle.mx_engine.specs.Successors.{IsRecordedAs, AreAskers}

-- ---- inputs

record IsIn (es : List (Node × Value)) (n : Node) : Type 0 where
  value : Value
  among : InText es (n, value)

found_by : (e : Node × Value) (es : List (Node × Value)) (n : Node) (v : Value) (b : Bool) → node_eq n e.0 ≡ b → cond b (Some e.1) (lookup (node_eq n) es) ≡ Some v → (lookup (node_eq n) es ≡ Some v → IsIn es n) → IsIn (e ∷ es) n
found_by e es n v true q at rest = record { value = e.1; among = inl (ap (λ (m : Node). (m, e.1)) (sym ((node_decides n e.0).0 q))) }
found_by e es n v false q at rest = let f = rest at in record { value = f.value; among = inr f.among }

found_in : (es : List (Node × Value)) (n : Node) (v : Value) → lookup (node_eq n) es ≡ Some v → IsIn es n
found_in [] n v at = absurd (let f : None ≡ Some v = at in cc)
found_in (e ∷ es) n v at = found_by e es n v (node_eq n e.0) refl at (found_in es n v)

static_by : (s : Step) (o : Option Path) (p : Path) (rest : Bool) → joined (name_in s) o ≡ Some p → ((q : Path) → o ≡ Some q → rest ≡ true) → (is_name s && rest) ≡ true
static_by (Segment-F.Name name) (Some q) p rest e f = f q refl
static_by (Segment-F.Name name) None p rest e f = absurd (let g : None ≡ Some p = e in cc)
static_by (Segment-F.Item args) o p rest e f = absurd (let g : None ≡ Some p = e in cc)

static_at : (at : List Segment) (p : Path) → path_of at ≡ Some p → is_static at ≡ true
static_at [] p e = refl
static_at (s ∷ at) p e = static_by (out-Segment s) (path_of at) p (is_static at) e (static_at at)

fitting : (text : ModelRecord) (at : List Segment) (name : Name) (args : List Value) (o : Option Path) → path_of at ≡ o → IsTrue (fits text (Cell at name args)) → is_static at ≡ true
fitting text at name args (Some p) e f = static_at at p e
fitting text at name args None e f = absurd (let g : false ≡ true = rw e at f in cc)

none_and : (a : Bool) → (a && false) ≡ false
none_and true = refl
none_and false = refl

some_is_value : (r : Option Value) → is_value (value_of r) ≡ is_some r
some_is_value (Some v) = refl
some_is_value None = refl

module _ (text : ModelRecord) (valid : Valid text) where
  put_in : (n : Node) (o : Option Value) → input_of text n ≡ o → is_some o ≡ true → IsTrue (fits text n)
  put_in n (Some v) e s = let f = found_in text.inputs n v e in (valid.inputs.each (n, f.value) f.among).fits
  put_in n None e s = absurd (cc)

  told_by : (n : Node) (b : Bool) → is_some (input_of text n) ≡ b → b ≡ is_input (model_of text) n
  told_by (Cell at name args) true e =
      let f = fitting text at name args (path_of at) refl (put_in (Cell at name args) (input_of text (Cell at name args)) refl e) in
      let v : is_value (key_result text (Input (Cell at name args))) ≡ true = some_is_value (input_of text (Cell at name args)) ∙ e in
      sym (ap (λ (b : Bool). b && is_value (key_result text (Input (Cell at name args)))) f ∙ v)
  told_by (Cell at name args) false e =
      let v : is_value (key_result text (Input (Cell at name args))) ≡ false = some_is_value (input_of text (Cell at name args)) ∙ e in
      sym (ap (λ (b : Bool). is_static at && b) v ∙ none_and (is_static at))
  told_by (Item at args) true e = absurd (let f : false ≡ true = put_in (Item at args) (input_of text (Item at args)) refl e in cc)
  told_by (Item at args) false e = refl

  pub input_told : (n : Node) (r : Option Value) → value_of r ≡ key_result text (Input n) → is_some r ≡ is_input (model_of text) n
  input_told n r e = sym (some_is_value r) ∙ ap is_value e ∙ some_is_value (input_of text n) ∙ told_by n (is_some (input_of text n)) refl

-- what is lent is there where what it points to is
pub is_some_map : {X Y : Type 0} (f : X → Y) (o : Option X) → is_some o ≡ is_some (option_map f o)
is_some_map f (Some x) = refl
is_some_map f None = refl

-- ---- the takers under ids

id_among : (ids : List NodeId) (id : NodeId) → places.Has ids id → places.Has (map id_at ids) id.at
id_among [] id h = absurd h
id_among (x ∷ ids) id h = elim h [ inl e ↦ inl (ap id_at e) | inr r ↦ inr (id_among ids id r) ]

as_recorded : (b c : Bool) (n : Node) (e : Entry) → c ≡ b → IsRecordedAs c n e → IsRecordedAs b n e
as_recorded b c n e is = subst (λ (t : Bool). IsRecordedAs t n e) is

module _ (text : ModelRecord) (m : Memory) (n : Node) (ids : List NodeId) where
  pub input_askers : ReadersAreEntered → IsOrdered m → is_input (model_of text) n ≡ true → AreTakers m.held (looked (Input n)) ids → AreAskers text m n ids
  input_askers law ordered input takers = record {
    held = λ id h. let d = (takers id.at).0 (id_among ids id h) in record { entry = d.entry; among = d.among; is = d.id_is };
    exactly = λ x.
        let r = law m (Input n) ids ordered takers x in (
          λ h. let s = r.0 h in record { entry = s.entry; among = s.among; node_is = s.node_is; asked = as_recorded (is_input (model_of text) n) true n s.entry (sym input) s.reads },
          λ s. r.1 (record { entry = s.entry; among = s.among; node_is = s.node_is; reads = as_recorded true (is_input (model_of text) n) n s.entry input s.asked }),
        );
  }

  pub node_askers : AskersAreEntered → IsOrdered m → HeldOnce m.held → is_input (model_of text) n ≡ false → (id : ℕ) → IsHeldAs m.held id n → AreTakers m.held (asked id) ids → AreAskers text m n ids
  node_askers law ordered once input id held takers = record {
    held = λ id h. let d = (takers id.at).0 (id_among ids id h) in record { entry = d.entry; among = d.among; is = d.id_is };
    exactly = λ x.
        let r = law m id n ids ordered once held takers x in (
          λ h. let s = r.0 h in record { entry = s.entry; among = s.among; node_is = s.node_is; asked = as_recorded (is_input (model_of text) n) false n s.entry (sym input) s.asks },
          λ s. r.1 (record { entry = s.entry; among = s.among; node_is = s.node_is; asks = as_recorded false (is_input (model_of text) n) n s.entry input s.asked }),
        );
  }

-- what an entry asked stands before it
asked_held : (before : List Node) (held : List Entry) → AskBefore before held → (e : Entry) → Has held e → (n : Node) → Has e.asks n → Has before n ⊎ Has (nodes_of held) n
asked_held before [] a e h n k = absurd h
asked_held before (x ∷ held) a e h n k =
    elim h [
      | inl is ↦ inl (a.0 n (subst (λ (y : Entry). Has y.asks n) (sym is) k))
      | inr r ↦
          elim (asked_held (x.node ∷ before) held a.1 e r n k) [
            | inl b ↦ elim b [ inl i ↦ inr (inl i) | inr c ↦ inl c ]
            | inr c ↦ inr (inr c)
          ]
    ]

pub no_askers : NewIsNotEntered → (text : ModelRecord) (m : Memory) (n : Node) → AskBefore [] (entries_of m.held) → is_input (model_of text) n ≡ false → IsNew m.held n → AreAskers text m n []
no_askers law text m n order input new = record {
  held = λ id h. absurd h;
  exactly = λ x. (
    λ h. absurd h,
    λ s. absurd (elim (asked_held [] (entries_of m.held) order s.entry s.among n (as_recorded false (is_input (model_of text) n) n s.entry input s.asked)) [ inl b ↦ b | inr c ↦ (law m.held n).0 new c ]),
  );
}
