-- From states that are alike a command writes one block.
use Rattle.std.proofs.Common.{◌≡◌, ◌≢◌, ℕ, ◌-◌, ◌++◌, ◌∷◌, [], List, length, map, Option, None, Some, Result, Ok, Err, codes, refl, sym, ◌∙◌, ap, subst, arith}
use Rattle.std.proofs.lemmas.List.{length-map}
use Rattle.std.specs.Fmt.{decimal}
use Rattle.std.specs.FinMap as finite
use Rattle.mx_c3.specs.declared.space.SpaceId.{SpaceId}
use Rattle.mx_value.specs.declared.label.Label.{Label}
use Rattle.mx_value.specs.declared.value.Value.{Value}
use Rattle.mx_value.specs.declared.node.Node.{Node}
use Rattle.mx_value.specs.declared.read.Read.{Read}
use Rattle.mx_value.specs.declared.refusal.EvalRefusal.{EvalRefusal}
use Rattle.mx_value.specs.declared.refusal.EvalRefusal.TheVariants as refusal
use Rattle.mx_syntax.specs.Lists.{flat}
use Rattle.mx_print.specs.Texts.{Text}
use Rattle.mx_print.specs.Values.{node_text}
use Rattle.mx_edit.specs.Entry.{Entry}
use Rattle.mx_edit.specs.Rows.{TableRows}
use Rattle.mx_edit.specs.declared.edit.Edit.{Edit}
use Rattle.mx_edit.specs.declared.edit.Edit.TheVariants as edit
use Rattle.mx_edit.specs.declared.table.TableRefusal.{TableRefusal}
use Rattle.mx_outside.specs.Files.{FileMap, IsFound, most_bytes}
use Rattle.mx_outside.specs.declared.files.Found.{Found}
use Rattle.mx_outside.specs.declared.files.Found.TheVariants as found
use Rattle.mx_tables.specs.Reading.{table_of}
use Rattle.mx_edit.specs.declared.scope.Scope.{Scope}
use Rattle.mx_words.specs.declared.command.Command.{Command as ScriptCommand}
use Rattle.mx_words.specs.declared.command.Command.TheVariants as command
use Rattle.mx_words.specs.declared.command.FormRefusal.{FormRefusal}
use Rattle.mx_words.specs.Words.{every_word}
use Rattle.mx_script.proofs.OneCommand.{only_command}
use Rattle.mx_text.specs.Blocks.{eval_block, reads_block, succs_block, node_line, count_block, cleared_block, accepted_block, refused_block, order_block}
use Rattle.mx_text.specs.Form.{form_block}
use Rattle.mx_runs.specs.Lists.{Has}
use Rattle.mx_runs.specs.Runs.{Model}
use Rattle.mx_model.specs.Records.{Path, ModelRecord}
use Rattle.mx_model.specs.Keys.{key_result}
use Rattle.mx_model.specs.Apply.{Apply}
use Rattle.mx_model.specs.Layers.{layers}
use Rattle.mx_model.specs.Readers.{path_in}
use Rattle.mx_model.specs.declared.layers.Layered.TheVariants.{Layers, NotStatic}
use Rattle.mx_paths.specs.Names.{IsNamed}
use Rattle.mx_answers.specs.Held.{nodes_of, HoldAlike}
use Rattle.mx_answers.specs.Answers.{Answer, IsSettled}
use Rattle.mx_answers.specs.Laws.{EndAlike}
use Rattle.mx_answers.specs.Retention.{Retains, Clears, IsInScope}
use Rattle.mx_answers.proofs.Alike.{one_step}
use Rattle.mx_answers.proofs.Held.{named, entry_of}
use Rattle.mx_answers.proofs.Records.{one_record, one_reads}
use Rattle.mx_answers.specs.Records.{IsRecordOf}
use Rattle.mx_state.specs.Model.{model_of}
use Rattle.mx_state.specs.State.{State}
use Rattle.mx_state.specs.Evaluations.{HasAsked, KnowsAsked, IsAsked, Evaluates, TellsReads}
use Rattle.mx_engine.specs.Successors.{DidAsk, IsSuccessor}
use Rattle.mx_engine.specs.Order.{AreLayers}
use Rattle.mx_commands.specs.Step.{RunState, refused, carried, CarriesOut, SetsSaid, SetsFound, SetsTable, Changes, Accepts, Refuses, TellsValue, TellsPrecedents, TellsSuccessors, TellsHeld, IsHeld, IsNotHeld, Counts, Drops, Limits, Sets, IsPastBounds, TellsOrder, HasLayers, IsNotStatic}
use Rattle.mx_commands.specs.Laws.{IsFaithful, AreAlike, AreRunsAlike, AreTold, Says, OneBlock}
use Rattle.mx_commands.proofs.OneEdit.{told, one_telling}
use Rattle.mx_commands.proofs.KeptAlike.{retained_alike, cleared_alike}
use Rattle.mx_commands.proofs.SameTexts.{same_texts}

-- what is owed: one block, and states that are alike
abbrev Same : Text → Text → State → State → Type 0
Same block other new next = (block ≡ other) × AreAlike new next

pub states_alike : (s t new next : State) → AreAlike s t → new ≡ s → next ≡ t → AreAlike new next
states_alike s t new next a e f = subst (λ q. AreAlike q next) (sym e) (subst (λ q. AreAlike s q) (sym f) a)

-- ---- edits

-- the block of what is told of an edit
abbrev block_of : Result ModelRecord Text → Text
block_of (Ok made) = accepted_block
block_of (Err why) = refused_block why

module _ (s t : State) (l : AreAlike s t) (spaces : IsNamed s.text) where
  edit_alike : (e : Edit) (block other : Text) (new next : State) → Changes s e block new → Changes t e other next → Same block other new next
  edit_alike e block other new next (Accepts x i) (Accepts y j) =
      let there = subst (λ (m : ModelRecord). Apply m e (Ok next.text)) (sym l.text) y.accepted in
      let one : told (Ok new.text) ≡ told (Ok next.text) = one_telling s.text e spaces (Ok new.text) (Ok next.text) x.accepted there in
      let made : new.text ≡ next.text = cc in
      let kept = subst (λ (m : ModelRecord). Retains (model_of m) (key_result new.text) t.held next.held) (sym l.text) (subst (λ (m : ModelRecord). Retains (model_of t.text) (key_result m) t.held next.held) (sym made) y.retains) in (
        i ∙ sym j,
        record { text = made; limit = x.limit ∙ l.limit ∙ sym y.limit; held = retained_alike (model_of s.text) (key_result new.text) s.held t.held new.held next.held l.held x.retains kept },
      )
  edit_alike e block other new next (Accepts x i) (Refuses why a j m) =
      let one : told (Ok new.text) ≡ told (Err why) = one_telling s.text e spaces (Ok new.text) (Err why) x.accepted (subst (λ (m : ModelRecord). Apply m e (Err why)) (sym l.text) a) in absurd cc
  edit_alike e block other new next (Refuses why a i m) (Accepts y j) =
      let one : told (Err why) ≡ told (Ok next.text) = one_telling s.text e spaces (Err why) (Ok next.text) a (subst (λ (m : ModelRecord). Apply m e (Ok next.text)) (sym l.text) y.accepted) in absurd cc
  edit_alike e block other new next (Refuses why a i m) (Refuses but b j n) =
      let one : told (Err why) ≡ told (Err but) = one_telling s.text e spaces (Err why) (Err but) a (subst (λ (m : ModelRecord). Apply m e (Err but)) (sym l.text) b) in
      (i ∙ ap block_of one ∙ sym j, states_alike s t new next l m n)

-- ---- evaluations

abbrev told_reads : List Read → Result (List Read) EvalRefusal
told_reads reads = Ok reads

abbrev no_reads : EvalRefusal → Result (List Read) EvalRefusal
no_reads why = Err why

-- the block of an evaluation tells of its runs where it gave a value alone
same_runs : (a : Result Value EvalRefusal) (ticks runs : ℕ) → ((a ≡ Err refusal.NoSuch → ⊥) → (a ≡ Err refusal.WrongCount → ⊥) → ticks ≡ runs) → eval_block a ticks ≡ eval_block a runs
same_runs (Ok v) ticks runs began = ap (λ (k : ℕ). eval_block (Ok v) k) (began (λ e. absurd cc) (λ e. absurd cc))
same_runs (Err why) ticks runs began = refl

settled_asked : (model : Model) (n : Node) (a : Result Value EvalRefusal) (before after : List Entry) → IsSettled a → KnowsAsked model n a before after → HasAsked model n
settled_asked model n (Ok v) before after i k = k
settled_asked model n (Err (refusal.Fault kind m line)) before after i k = k
settled_asked model n (Err (refusal.Ring ring)) before after i k = k
settled_asked model n (Err refusal.NoSuch) before after i k = k
settled_asked model n (Err refusal.WrongCount) before after i k = k
settled_asked model n (Err (refusal.TooDeep m)) before after i k = absurd i
settled_asked model n (Err refusal.Full) before after i k = absurd i
settled_asked model n (Err refusal.NoMemory) before after i k = absurd i

module _ (s t : State) (l : AreAlike s t) (n : Node) where
  ends_alike : (a b : Result Value EvalRefusal) (ticks runs : ℕ) (new next : State) → (node : Node) → IsAsked (model_of s.text) n node → Evaluates s n a ticks new → Evaluates t n b runs next → IsSettled a → (b ≡ Err refusal.NoMemory → ⊥) → EndAlike a b new.held next.held ticks runs
  ends_alike a b ticks runs new next node asked x y i memory =
      let there : IsAsked (model_of t.text) n node = subst (λ (m : ModelRecord). IsAsked (model_of m) n node) l.text asked in
      let same : Answer (model_of s.text) (record { node = node; held = t.held; limit = s.limit }) b next.held runs =
      subst (λ (k : ℕ). Answer (model_of s.text) (record { node = node; held = t.held; limit = k }) b next.held runs) (sym l.limit)
      (subst (λ (m : ModelRecord). Answer (model_of m) (record { node = node; held = t.held; limit = t.limit }) b next.held runs) (sym l.text) (y.answers node there)) in
      one_step (model_of s.text) (record { node = node; held = s.held; limit = s.limit }) t.held a b new.held next.held ticks runs l.held (x.answers node asked) same i memory

  held_alike : (a b : Result Value EvalRefusal) (ticks runs : ℕ) (new next : State) → Evaluates s n a ticks new → Evaluates t n b runs next → HoldAlike new.held next.held → AreAlike new next
  held_alike a b ticks runs new next x y h = record { text = x.text ∙ l.text ∙ sym y.text; limit = x.limit ∙ l.limit ∙ sym y.limit; held = h }

  value_alike : (block other : Text) (new next : State) → (x : TellsValue s n block new) → TellsValue t n other next → IsSettled x.answer → Same block other new next
  value_alike block other new next x y i =
      let b = settled_asked (model_of s.text) n x.answer s.held new.held i x.evaluates.known in
      let z : EndAlike x.answer y.answer new.held next.held x.ticks y.ticks = ends_alike x.answer y.answer x.ticks y.ticks new next b.node b.asked x.evaluates y.evaluates i (λ e. y.memory e) in
      let k : eval_block x.answer x.ticks ≡ eval_block x.answer y.ticks = same_runs x.answer x.ticks y.ticks z.began in (
        x.text ∙ k ∙ ap (λ (o : Result Value EvalRefusal). eval_block o y.ticks) z.same ∙ sym y.text,
        held_alike x.answer y.answer x.ticks y.ticks new next x.evaluates y.evaluates z.alike,
      )

  -- what is told in place of a value is one
  one_told : (b : Node) (v : Result Value EvalRefusal) (p q : Result (List Read) EvalRefusal) → TellsReads (model_of s.text) b v p → TellsReads (model_of s.text) b v q → p ≡ q
  one_told b (Ok v) (Ok xs) (Ok ys) h k = ap told_reads (one_reads (model_of s.text) b xs ys h k)
  one_told b (Ok v) (Ok xs) (Err why) h k = absurd k
  one_told b (Ok v) (Err why) q h k = absurd h
  one_told b (Err why) (Ok xs) q h k = absurd h
  one_told b (Err why) (Err one) (Ok ys) h k = absurd k
  one_told b (Err why) (Err one) (Err two) h k = ap no_reads (h ∙ sym k)

  no_memory : (b : Node) (v : Result Value EvalRefusal) (p : Result (List Read) EvalRefusal) → TellsReads (model_of s.text) b v p → p ≢ Err refusal.NoMemory → v ≡ Err refusal.NoMemory → ⊥
  no_memory b (Ok v) p h memory i = absurd cc
  no_memory b (Err why) (Ok xs) h memory i = h
  no_memory b (Err why) (Err one) h memory i = memory (let same : why ≡ refusal.NoMemory = cc in ap no_reads (h ∙ same))

  reads_alike : (block other : Text) (new next : State) → (x : TellsPrecedents s n block new) → TellsPrecedents t n other next → IsSettled x.has.value → Same block other new next
  reads_alike block other new next x y i =
      let b = settled_asked (model_of s.text) n x.has.value s.held new.held i x.has.evaluates.known in
      let there : IsAsked (model_of t.text) n b.node = subst (λ (m : ModelRecord). IsAsked (model_of m) n b.node) l.text b.asked in
      let tells : TellsReads (model_of s.text) b.node y.has.value y.answer = subst (λ (m : ModelRecord). TellsReads (model_of m) b.node y.has.value y.answer) (sym l.text) (y.has.tells b.node there) in
      let z : EndAlike x.has.value y.has.value new.held next.held x.ticks y.ticks = ends_alike x.has.value y.has.value x.ticks y.ticks new next b.node b.asked x.has.evaluates y.has.evaluates i (no_memory b.node y.has.value y.answer tells y.memory) in
      let one : x.answer ≡ y.answer = one_told b.node y.has.value x.answer y.answer (subst (λ (v : Result Value EvalRefusal). TellsReads (model_of s.text) b.node v x.answer) z.same (x.has.tells b.node b.asked)) tells in (
        x.text ∙ ap (λ (a : Result (List Read) EvalRefusal). reads_block a) one ∙ sym y.text,
        held_alike x.has.value y.has.value x.ticks y.ticks new next x.has.evaluates y.has.evaluates z.alike,
      )

-- ---- what is held

-- the block of successors is a function of their texts
abbrev succs_by : List Text → Text
succs_by texts = codes "succs " ++ (decimal (length texts) ++ 10 ∷ flat (map (λ (u : Text). u ++ 10 ∷ []) texts))

lines_by : (nodes : List Node) → flat (map node_line nodes) ≡ flat (map (λ (u : Text). u ++ 10 ∷ []) (map node_text nodes))
lines_by [] = refl
lines_by (n ∷ nodes) = ap (λ (rest : Text). (node_text n ++ 10 ∷ []) ++ rest) (lines_by nodes)

succs_told : (nodes : List Node) → succs_block nodes ≡ succs_by (map node_text nodes)
succs_told nodes =
    ap (λ (k : ℕ). codes "succs " ++ (decimal k ++ 10 ∷ flat (map node_line nodes))) (sym (length-map nodes node_text))
    ∙ ap (λ (rest : Text). codes "succs " ++ (decimal (length (map node_text nodes)) ++ 10 ∷ rest)) (lines_by nodes)

-- of held entries of one node that are records one asked what the other asked
module _ (s t : State) (l : AreAlike s t) (records : (e : Entry) → Has s.held e → IsRecordOf (model_of s.text) e) (others : (e : Entry) → Has t.held e → IsRecordOf (model_of t.text) e) where
  asks_too : (n x : Node) → IsSuccessor (model_of s.text) s.held n x → IsSuccessor (model_of t.text) t.held n x
  asks_too n x h =
      let e = entry_of t.held x ((l.held.nodes x).0 (subst (λ (m : Node). Has (nodes_of s.held) m) h.node_is (named s.held h.entry h.among))) in
      let theirs : IsRecordOf (model_of s.text) e.item = subst (λ (r : ModelRecord). IsRecordOf (model_of r) e.item) (sym l.text) (others e.item e.among) in
      let one : h.entry ≡ e.item = one_record (model_of s.text) h.entry e.item (records h.entry h.among) theirs (h.node_is ∙ sym e.is) in
      record {
        entry = e.item;
        among = e.among;
        node_is = e.is;
        asked = subst (λ (r : ModelRecord). DidAsk (model_of r) n e.item) l.text (subst (λ (d : Entry). DidAsk (model_of s.text) n d) one h.asked);
      }

alike_back : (s t : State) → AreAlike s t → AreAlike t s
alike_back s t l = record {
  text = sym l.text;
  limit = sym l.limit;
  held = record { nodes = λ x. ((l.held.nodes x).1, (l.held.nodes x).0); replies = λ d e h k i. sym (l.held.replies e d k h (sym i)); many = sym l.held.many };
}

succs_alike : (s t : State) → IsFaithful s → IsFaithful t → AreAlike s t → (n : Node) (block other : Text) (new next : State) → TellsSuccessors s n block new → TellsSuccessors t n other next → Same block other new next
succs_alike s t f g l n block other new next x y =
    let to = λ (m : Node) (h : Has x.nodes m). (y.are.exactly m).1 (asks_too s t l f.records g.records n m ((x.are.exactly m).0 h)) in
    let from = λ (m : Node) (h : Has y.nodes m). (x.are.exactly m).1 (asks_too t s (alike_back s t l) g.records f.records n m ((y.are.exactly m).0 h)) in
    let one : map node_text x.nodes ≡ map node_text y.nodes = same_texts x.nodes y.nodes x.are.once y.are.once x.are.by_text y.are.by_text to from in
    (x.text ∙ succs_told x.nodes ∙ ap succs_by one ∙ sym (succs_told y.nodes) ∙ sym y.text, states_alike s t new next l x.state y.state)

-- the paths of layers are one
some_same : (xs ys : List Path) → map (λ (p : Path). Some p) xs ≡ map (λ (p : Path). Some p) ys → xs ≡ ys
some_same [] [] i = refl
some_same [] (y ∷ ys) i = absurd cc
some_same (x ∷ xs) [] i = absurd cc
some_same (x ∷ xs) (y ∷ ys) i =
    let first : x ≡ y = cc in
    let rest : map (λ (p : Path). Some p) xs ≡ map (λ (p : Path). Some p) ys = cc in
    let more : xs ≡ ys = some_same xs ys rest in cc

one_layers : (text : ModelRecord) (path : Path) (xs ys : List Path) → AreLayers text path xs → AreLayers text path ys → xs ≡ ys
one_layers text path xs ys a b =
    let both : Layers a.spaces ≡ Layers b.spaces = sym a.layered ∙ b.layered in
    let spaces : a.spaces ≡ b.spaces = cc in
    some_same xs ys (sym a.are ∙ ap (λ (ids : List SpaceId). map (path_in text) ids) spaces ∙ b.are)

module _ (s t : State) (l : AreAlike s t) where
  node_alike : (n : Node) (block other : Text) (new next : State) → TellsHeld s n block new → TellsHeld t n other next → Same block other new next
  node_alike n block other new next (IsHeld h i m) (IsHeld k j o) = (i ∙ sym j, states_alike s t new next l m o)
  node_alike n block other new next (IsHeld h i m) (IsNotHeld k j o) = absurd (k ((l.held.nodes n).0 h))
  node_alike n block other new next (IsNotHeld h i m) (IsHeld k j o) = absurd (h ((l.held.nodes n).1 k))
  node_alike n block other new next (IsNotHeld h i m) (IsNotHeld k j o) = (i ∙ sym j, states_alike s t new next l m o)

  count_alike : (n : Option Node) (block other : Text) (new next : State) → Counts s n block new → Counts t n other next → Same block other new next
  count_alike None block other new next x y = (x.0 ∙ ap count_block l.held.many ∙ sym y.0, states_alike s t new next l x.1 y.1)
  count_alike (Some n) block other new next x y = node_alike n block other new next x y

  drops_alike : (scope : Scope) (block other : Text) (new next : State) → Drops s scope block new → Drops t scope other next → Same block other new next
  drops_alike scope block other new next x y =
      let kept = subst (λ (m : ModelRecord). Clears (model_of m) (IsInScope scope) t.held next.held) (sym l.text) y.clearing.clears in
      let a : HoldAlike new.held next.held = cleared_alike (model_of s.text) scope s.held t.held new.held next.held l.held x.clearing.clears kept in
      let k : length s.held - length new.held ≡ length t.held - length next.held = ap (λ (i : ℕ). i - length new.held) l.held.many ∙ ap (λ (i : ℕ). length t.held - i) a.many in (
        x.text ∙ ap cleared_block k ∙ sym y.text,
        record { text = x.clearing.text ∙ l.text ∙ sym y.clearing.text; limit = x.clearing.limit ∙ l.limit ∙ sym y.clearing.limit; held = a },
      )

  limit_alike : (limit : ℕ) (block other : Text) (new next : State) → Limits s limit block new → Limits t limit other next → Same block other new next
  limit_alike limit block other new next (Sets h i m) (Sets k j o) =
      (i ∙ sym j, subst (λ q. AreAlike q next) (sym m) (subst (λ q. AreAlike (record s { limit = limit }) q) (sym o) (record { text = l.text; limit = refl; held = l.held })))
  limit_alike limit block other new next (Sets h i m) (IsPastBounds k j o) = absurd (k h)
  limit_alike limit block other new next (IsPastBounds h i m) (Sets k j o) = absurd (h k)
  limit_alike limit block other new next (IsPastBounds h i m) (IsPastBounds k j o) = (i ∙ sym j, states_alike s t new next l m o)

  order_alike : (path : Path) (block other : Text) (new next : State) → TellsOrder s path block new → TellsOrder t path other next → Same block other new next
  order_alike path block other new next (HasLayers xs a i m) (HasLayers ys b j o) =
      let one : xs ≡ ys = one_layers s.text path xs ys a (subst (λ (r : ModelRecord). AreLayers r path ys) (sym l.text) b) in
      (i ∙ ap order_block one ∙ sym j, states_alike s t new next l m o)
  order_alike path block other new next (HasLayers xs a i m) (IsNotStatic k j o) =
      let both : Layers a.spaces ≡ NotStatic = sym a.layered ∙ ap (λ (r : ModelRecord). layers r path) l.text ∙ k in absurd cc
  order_alike path block other new next (IsNotStatic h i m) (HasLayers ys b j o) =
      let both : NotStatic ≡ Layers b.spaces = sym h ∙ ap (λ (r : ModelRecord). layers r path) l.text ∙ b.layered in absurd cc
  order_alike path block other new next (IsNotStatic h i m) (IsNotStatic k j o) = (i ∙ sym j, states_alike s t new next l m o)

-- ---- tables from files

module _ (s t : State) (l : AreAlike s t) (spaces : IsNamed s.text) (name file : Label) (block other : Text) (new next : State) where
  said_alike : (says : Result TableRows TableRefusal) → SetsSaid s name says block new → SetsSaid t name says other next → Same block other new next
  said_alike (Ok rows) x y = edit_alike s t l spaces (edit.SetTable name rows) block other new next x y
  said_alike (Err why) x y = (x.0 ∙ sym y.0, states_alike s t new next l x.1 y.1)

  -- what is found of the same bytes, or of none
  found_alike : (bytes : Option (List ℕ)) (a b : Found) → IsFound bytes most_bytes a → IsFound bytes most_bytes b → SetsFound s name file a block new → SetsFound t name file b other next → Same block other new next
  found_alike (Some bytes) (found.Bytes u) (found.Bytes v) p q x y =
      said_alike (table_of u.items) x (subst (λ (text : List ℕ). SetsSaid t name (table_of text) other next) (q.0 ∙ sym p.0) y)
  found_alike (Some bytes) (found.Bytes u) found.TooBig p q x y = absurd (omega (arith, p.1, q))
  found_alike (Some bytes) (found.Bytes u) found.Missing p q x y = absurd q
  found_alike (Some bytes) found.TooBig (found.Bytes v) p q x y = absurd (omega (arith, q.1, p))
  found_alike (Some bytes) found.TooBig found.TooBig p q x y = (x.0 ∙ sym y.0, states_alike s t new next l x.1 y.1)
  found_alike (Some bytes) found.TooBig found.Missing p q x y = absurd q
  found_alike (Some bytes) found.Missing b p q x y = absurd p
  found_alike None (found.Bytes u) b p q x y = absurd p
  found_alike None found.TooBig b p q x y = absurd p
  found_alike None found.Missing (found.Bytes v) p q x y = absurd q
  found_alike None found.Missing found.TooBig p q x y = absurd q
  found_alike None found.Missing found.Missing p q x y = (x.0 ∙ sym y.0, states_alike s t new next l x.1 y.1)

  table_alike : (files : Option FileMap) → AreTold files → SetsTable files s name file block new → SetsTable files t name file other next → Same block other new next
  table_alike None told x y = absurd told
  table_alike (Some files) told x y = found_alike (finite.get files file) x.found y.found x.finds y.finds x.sets y.sets

-- ---- commands

module _ (files : Option FileMap) (s t : State) where
  carry_alike : (k : ScriptCommand) (block other : Text) (new next : State) → IsFaithful s → IsFaithful t → AreAlike s t → (x : CarriesOut files s k block new) → CarriesOut files t k other next → Says files s k block new x
      → Same block other new next
  carry_alike (command.Edit e) block other new next f g l x y i = edit_alike s t l f.named e block other new next x y
  carry_alike (command.Table name file) block other new next f g l x y i = table_alike s t l f.named name file block other new next files i x y
  carry_alike (command.Eval n) block other new next f g l x y i = value_alike s t l n block other new next x y i
  carry_alike (command.Precedents n) block other new next f g l x y i = reads_alike s t l n block other new next x y i
  carry_alike (command.Succs n) block other new next f g l x y i = succs_alike s t f g l n block other new next x y
  carry_alike (command.Held n) block other new next f g l x y i = count_alike s t l n block other new next x y
  carry_alike (command.Clear scope) block other new next f g l x y i = drops_alike s t l scope block other new next x y
  carry_alike (command.Limit limit) block other new next f g l x y i = limit_alike s t l limit block other new next x y
  carry_alike (command.Order path) block other new next f g l x y i = order_alike s t l path block other new next x y

pub runs_alike : (s t new next : RunState) → AreRunsAlike s t → new ≡ s → next ≡ t → AreRunsAlike new next
runs_alike s t new next a e f = subst (λ q. AreRunsAlike q next) (sym e) (subst (λ q. AreRunsAlike s q) (sym f) a)

pub one_block : OneBlock
one_block s t c block other new next f g l (refused e m reads text same) (refused d n others texts sames) i =
    let is : Err d ≡ Err e = only_command every_word c.text (Err e) (λ z. reads) (Err d) others m in
    let is_e : d ≡ e = cc in
    (text ∙ ap (λ (x : FormRefusal). form_block c.number x) (sym is_e) ∙ sym texts, runs_alike s t new next l same sames)
one_block s t c block other new next f g l (refused e m reads text same) (carried j others does kept) i =
    let is : Ok j ≡ Err e = only_command every_word c.text (Err e) (λ z. reads) (Ok j) others m in absurd (cc)
one_block s t c block other new next f g l (carried k reads does kept) (refused d n others texts sames) i =
    let is : Err d ≡ Ok k = only_command every_word c.text (Ok k) (λ z. reads) (Err d) others in absurd (cc)
one_block s t c block other new next f g l (carried k reads does kept) (carried j others done same) i =
    let is : Ok j ≡ Ok k = only_command every_word c.text (Ok k) (λ z. reads) (Ok j) others in
    let is_k : j ≡ k = cc in
    let there = subst (λ (files : Option FileMap). CarriesOut files t.engine j other next.engine) (sym l.files) done in
    let both = carry_alike s.files s.engine t.engine k block other new.engine next.engine f g l.engine does (subst (λ (q : ScriptCommand). CarriesOut s.files t.engine q other next.engine) is_k there) i in
    (both.0, record { engine = both.1; files = kept ∙ l.files ∙ sym same })
