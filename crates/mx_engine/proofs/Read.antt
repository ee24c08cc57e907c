-- The reads of the node that is asked, after its evaluation.
use Rattle.std.proofs.Common.{◌≡◌, ℕ, ◌+◌, ◌≤◌, List, [], ◌∷◌, ◌++◌, length, take, Ok, Err, inl, inr, refl, sym, ◌∙◌, ap, subst, arith, length-append}
use Rattle.std.proofs.lemmas.List.{length-map}
use Rattle.mx_value.specs.declared.node.Node.{Node}
use Rattle.mx_value.specs.declared.read.Read.{Read}
use Rattle.mx_value.specs.declared.value.Value.{Value}
use Rattle.mx_value.specs.declared.refusal.EvalRefusal.{EvalRefusal}
use Rattle.mx_value.specs.declared.refusal.EvalRefusal.TheVariants as refusal
use Rattle.mx_edit.specs.Entry.{Entry}
use Rattle.mx_memo.specs.Memos.{Memory}
use Rattle.mx_runs.specs.Runs.{Model}
use Rattle.mx_runs.specs.Chains.{Itself, HasValue}
use Rattle.mx_answers.specs.Held.{nodes_of, IsKnown}
use Rattle.mx_answers.specs.Answers.{Answer, Evaluation}
use Rattle.mx_answers.proofs.Held.{input_or_not, holds_reached}
use Rattle.mx_model.specs.Records.{ModelRecord}
use Rattle.mx_memo_laws.specs.Entries.{entries_of, entry_of}
use Rattle.mx_machine.specs.States.{state_of}
use Rattle.mx_state.specs.Model.{model_of}
use Rattle.mx_state.specs.State.{State}
use Rattle.mx_state.specs.Evaluations.{Evaluates, HasPrecedents}
use Rattle.mx_engine.specs.Engine.{IsSound}
use Rattle.mx_engine.specs.Precedents.{AreReadBy}
use Rattle.mx_engine.proofs.Kept.{same_state}

-- ---- how many are held

pub as_many : (m : Memory) → length (entries_of m.held) ≡ length m.held
as_many m = length-map m.held (entry_of m.held)

take_first : (xs ys : List Entry) → take (length xs) (xs ++ ys) ≡ xs
take_first [] ys = refl
take_first (x ∷ xs) ys = ap (λ (zs : List Entry). x ∷ zs) (take_first xs ys)

-- ---- after a value

-- a node that gave a value has one, and is held or an input
record IsAnswered (model : Model) (after : List Entry) (b : Node) : Type 0 where
  value : HasValue model b
  known : IsKnown model (nodes_of after) b

is_answered : (model : Model) (ev : Evaluation) (v : Value) (after : List Entry) (ticks : ℕ) → Answer model ev (Ok v) after ticks → IsAnswered model after ev.node
is_answered model ev v after ticks a =
    let value : HasValue model ev.node = record { reply = a.0.reply; means = a.0.means } in
    record {
      value = value;
      known = elim (input_or_not model ev.node) [
        | inl i ↦ inr i
        | inr own ↦ inl (holds_reached model ev.held after ev.node a.1.holds ev.node Itself (record { value = value; own = own }))
      ];
    }

pub reads_told : (text : ModelRecord) (m k : Memory) (limit : ℕ) (n : Node) (v : Value) (reads : List Read) (ticks : ℕ) → Evaluates (state_of text m limit) n (Ok v) ticks (state_of text k limit)
    → AreReadBy text k n reads → HasPrecedents (state_of text m limit) n (Ok reads) ticks (state_of text k limit)
reads_told text m k limit n v reads ticks ev are = record {
  value = Ok v;
  evaluates = ev;
  tells = λ b asked.
      let a = is_answered (model_of text) (record { node = b; held = entries_of m.held; limit = limit }) v (entries_of k.held) ticks (ev.answers b asked) in
      are b asked a.value a.known;
}

pub refusal_told : (s t : State) (n : Node) (why : EvalRefusal) (ticks : ℕ) → Evaluates s n (Err why) ticks t → HasPrecedents s n (Err why) ticks t
refusal_told s t n why ticks ev = record { value = Err why; evaluates = ev; tells = λ b asked. refl }

-- ---- where memory lacks after that

-- what is held after a value begins with what was held
record Begins (before after : List Entry) : Type 0 where
  more : List Entry
  is : after ≡ before ++ more

begins : (s t : State) (n : Node) (v : Value) (ticks : ℕ) → Evaluates s n (Ok v) ticks t → Begins s.held t.held
begins s t n v ticks ev = let h = (ev.answers ev.known.node ev.known.asked).1.holds in record { more = h.more; is = h.is }

pub held_before : (text : ModelRecord) (m k : Memory) (limit count : ℕ) (n : Node) (v : Value) (ticks : ℕ) → Evaluates (state_of text m limit) n (Ok v) ticks (state_of text k limit) → count ≡ length m.held → count ≤ length k.held
held_before text m k limit count n v ticks ev is =
    let b = begins (state_of text m limit) (state_of text k limit) n v ticks ev in
    let i : length (entries_of k.held) ≡ length (entries_of m.held) + length b.more = ap length b.is ∙ length-append (entries_of m.held) b.more in
    let j = as_many m in
    let l = as_many k in
    omega (arith, i, j, l, is)

pub first_again : (text : ModelRecord) (m k : Memory) (limit count : ℕ) (n : Node) (v : Value) (ticks : ℕ) → Evaluates (state_of text m limit) n (Ok v) ticks (state_of text k limit) → count ≡ length m.held → take count (entries_of k.held) ≡ entries_of m.held
first_again text m k limit count n v ticks ev is =
    let b = begins (state_of text m limit) (state_of text k limit) n v ticks ev in
    let e : count ≡ length (entries_of m.held) = is ∙ sym (as_many m) in
    ap (λ (c : ℕ). take c (entries_of k.held)) e ∙ ap (take (length (entries_of m.held))) b.is ∙ take_first (entries_of m.held) b.more

pub nothing_told : (text : ModelRecord) (m k : Memory) (limit : ℕ) (n : Node) (ticks : ℕ) → IsSound text m limit → entries_of k.held ≡ entries_of m.held → HasPrecedents (state_of text m limit) n (Err refusal.NoMemory) ticks (state_of text k limit)
nothing_told text m k limit n ticks sound e =
    let P : State → Type 0 = λ t. HasPrecedents (state_of text m limit) n (Err refusal.NoMemory) ticks t in
    subst P (sym (same_state text limit m k e)) (record {
      value = Err refusal.NoMemory;
      evaluates = record {
        known = refl;
        answers = λ b asked. refl;
        recorded = record { records = sound.right.memo.records; order = sound.right.memo.order };
        text = refl;
        limit = refl;
      };
      tells = λ b asked. refl;
    })
