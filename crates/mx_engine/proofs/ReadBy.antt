-- The reads that are held of the bound form of a node are those of the node that is asked.
use Rattle.std.proofs.Common.{◌≡◌, true, List, [], inl, inr, sym, subst}
use Rattle.mx_value.specs.declared.node.Node.{Node}
use Rattle.mx_value.specs.declared.read.Read.{Read}
use Rattle.mx_edit.specs.Entry.{Entry}
use Rattle.mx_memo.specs.Memos.{Memory}
use Rattle.mx_runs.specs.Runs.{Model}
use Rattle.mx_runs.specs.Inputs.{is_input}
use Rattle.mx_runs.specs.Chains.{HasValue}
use Rattle.mx_answers.specs.Held.{nodes_of, IsKnown}
use Rattle.mx_answers.specs.Records.{HasReads}
use Rattle.mx_answers.specs.Laws.{InputReadsNone}
use Rattle.mx_answers.proofs.Held.{input_or_not}
use Rattle.mx_model.specs.Records.{ModelRecord}
use Rattle.mx_memo_laws.specs.Entries.{entries_of, IsKept}
use Rattle.mx_state.specs.Model.{model_of}
use Rattle.mx_state.specs.Evaluations.{IsAsked, AsBound, AsWritten, IsBoundBy}
use Rattle.mx_state.specs.Laws.{TextsHaveRuns, OneIsAsked, BoundIsBound, BoundWalksAlike, ValueBinds}
use Rattle.mx_engine.specs.Precedents.{AreReadBy, AreHeldReads}
use Rattle.mx_engine.proofs.BindingHeld.{binding_held}

module _ (runs : TextsHaveRuns) (none : InputReadsNone) (text : ModelRecord) (m : Memory) (kept : IsKept (model_of text) m) where
  abbrev model : Model
  model = model_of text

  abbrev held : List Entry
  held = entries_of m.held

  -- an input reads nothing
  of_input : (b : Node) (reads : List Read) → is_input model b ≡ true → reads ≡ [] → HasReads model b reads
  of_input b reads i e = subst (λ (xs : List Read). HasReads model b xs) (sym e) (none model b (runs text).inputs_end i)

  -- the reads that are held of a node that is known
  of_held : (b : Node) (reads : List Read) → AreHeldReads held b reads → IsKnown model (nodes_of held) b → HasReads model b reads
  of_held b reads are known =
      elim are [
        | inl e ↦ record { recorded = record { entry = e.entry; of = e.node_is; is = kept.memo.records e.entry e.among }; read = e.reads_are }
        | inr p ↦ elim known [ inl h ↦ absurd (p.0 h) | inr i ↦ of_input b reads i p.1 ]
      ]

  pub read_of_bound : OneIsAsked → (n b : Node) (reads : List Read) → IsBoundBy model (nodes_of held) n b → AreHeldReads held b reads → AreReadBy text m n reads
  read_of_bound one n b reads by are c asked value known =
      let e : b ≡ c = one text n b c (AsBound (record { events = by.events; leads = by.leads })) asked in
      of_held c reads (subst (λ (x : Node). AreHeldReads held x reads) e are) known

  -- a node without a known bound form is an input, where it has a value and is known
  unbound : BoundIsBound → BoundWalksAlike → ValueBinds → (n c : Node) → IsAsked model n c → ((b : Node) → IsBoundBy model (nodes_of held) n b → ⊥) → HasValue model c → IsKnown model (nodes_of held) c → is_input model c ≡ true
  unbound own alike binds n c (AsBound t) unknown value known =
      elim known [ inl h ↦ absurd (unknown c (binding_held own alike text held kept.memo.right n c t h)) | inr i ↦ i ]
  unbound own alike binds n c (AsWritten not) unknown value known =
      elim (input_or_not model c) [
        | inl i ↦ i
        | inr i ↦ let b = binds text c value.reply value.means i in absurd (not b.node b.binds)
      ]

  pub read_of_unbound : BoundIsBound → BoundWalksAlike → ValueBinds → (n : Node) (reads : List Read) → ((b : Node) → IsBoundBy model (nodes_of held) n b → ⊥) → reads ≡ [] → AreReadBy text m n reads
  read_of_unbound own alike binds n reads unknown e c asked value known = of_input c reads (unbound own alike binds n c asked unknown value known) e
