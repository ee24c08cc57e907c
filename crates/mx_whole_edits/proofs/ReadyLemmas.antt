-- Edits keep a text ready.
use Rattle.std.proofs.Common.{List, sym, subst}
use Rattle.mx_edit.specs.declared.edit.Edit.{Edit}
use Rattle.mx_model.specs.Records.{ModelRecord}
use Rattle.mx_model.specs.Inputs.{without_unfit}
use Rattle.mx_model.specs.Change.{change, bound_edit}
use Rattle.mx_model.specs.Apply.{changed}
use Rattle.mx_model.specs.Indexed.{Kinds, ArePlaced}
use Rattle.mx_changes.proofs.Free.{free_of}
use Rattle.mx_apply.specs.Chain.{CanGoOn}
use Rattle.mx_whole_edits.specs.Whole.{IsAccepted}
use Rattle.mx_model.specs.Literals.{IsRead}
use Rattle.mx_whole_edits.specs.Ready.{IsReady, ReadyIsValid, ValidIsReady}
use Rattle.mx_whole_edits.proofs.Fine.{Top, fine_of, top_of, names_from, references_from}
use Rattle.mx_whole_edits.proofs.FineSpaces.{AllFine}
use Rattle.mx_whole_edits.proofs.FineEdits.{Places, well}
use Rattle.mx_whole_edits.proofs.Free.{unused_of}
use Rattle.mx_whole_edits.proofs.GoodInputs.{goods_of, changed_goods, inputs_fit}

fine_kept : (text : ModelRecord) → AllFine text → AllFine (without_unfit text)
fine_kept text all s h =
    let f = all s h in
    record {
      cells_once = f.cells_once;
      refs_once = f.refs_once;
      no_cells = f.no_cells;
      no_refs = f.no_refs;
      apart = f.apart;
      bases = f.bases;
      refs = f.refs;
      literal = f.literal;
    }

top_kept : (text : ModelRecord) → Top text → Top (without_unfit text)
top_kept text top = record { once = top.once; no_globals = top.no_globals; refs = top.refs; tables = top.tables }

pub ready_kept : (text made : ModelRecord) (tables tables' : List Kinds) (e : Edit) → ArePlaced tables text → ArePlaced tables' made → IsReady text → IsRead e → IsAccepted text e made → CanGoOn made → IsReady made
ready_kept text made tables tables' e placed placed' ready read accepted next =
    let P : ModelRecord → Type 0 = λ t. ArePlaced tables' t in
    let Q : ModelRecord → Type 0 = λ t. CanGoOn t in
    let R : ModelRecord → Type 0 = λ t. IsReady t in
    subst R (sym accepted.is) (whole (subst P accepted.is placed') (subst Q accepted.is next))
  where
    whole : ArePlaced tables' (changed text e) → CanGoOn (changed text e) → IsReady (changed text e)
    whole new go =
        let made = change text (bound_edit text e) in
        let places : Places text = record { once = placed.once; parents = placed.parents } in
        let free = free_of text e accepted.free in
        let unused = unused_of text e accepted.free in
        let w = well text places (fine_of text ready) (top_of text ready) e read free unused in
        let fine = fine_kept made w.fine in
        let top = top_kept made w.top in
        record {
          names = names_from (changed text e) new.once new.parents fine top;
          bases = λ s h. (go.ringless.bases s h, (fine s h).bases);
          no_ring = accepted.counted.no_ring;
          few = accepted.counted.few;
          inputs = inputs_fit made (changed_goods text e ready.literals free unused (goods_of text ready.inputs));
          references = references_from (changed text e) fine top;
          literals = λ s c h k. (fine s h).literal c k;
        }

pub ready_valid : ReadyIsValid
ready_valid text ready walked = record {
  names = ready.names;
  bases = ready.bases;
  no_ring = ready.no_ring;
  walked = walked;
  few = ready.few;
  inputs = ready.inputs;
  references = ready.references;
}

pub valid_ready : ValidIsReady
valid_ready text valid literals = record {
  names = valid.names;
  bases = valid.bases;
  no_ring = valid.no_ring;
  few = valid.few;
  inputs = valid.inputs;
  references = valid.references;
  literals = literals;
}
