-- A command leaves a faithful state.
use Rattle.std.proofs.Common.{◌≡◌, ℕ, Option, None, Some, Result, Ok, Err, refl, sym, subst}
use Rattle.mx_value.specs.declared.label.Label.{Label}
use Rattle.mx_value.specs.declared.node.Node.{Node}
use Rattle.mx_print.specs.Texts.{Text}
use Rattle.mx_edit.specs.Entry.{Entry}
use Rattle.mx_edit.specs.Rows.{TableRows}
use Rattle.mx_edit.specs.declared.edit.Edit.{Edit}
use Rattle.mx_edit.specs.declared.edit.Edit.TheVariants as edit
use Rattle.mx_edit.specs.declared.table.TableRefusal.{TableRefusal}
use Rattle.mx_outside.specs.Files.{FileMap}
use Rattle.mx_outside.specs.declared.files.Found.{Found}
use Rattle.mx_outside.specs.declared.files.Found.TheVariants.{Bytes, Missing, TooBig}
use Rattle.mx_tables.specs.Reading.{table_of}
use Rattle.mx_words.specs.declared.command.Command.{Command as ScriptCommand}
use Rattle.mx_words.specs.declared.command.Command.TheVariants as command
use Rattle.mx_runs.specs.Lists.{Has}
use Rattle.mx_model.specs.Records.{Path, ModelRecord}
use Rattle.mx_model.specs.Keys.{key_result}
use Rattle.mx_paths.specs.Names.{IsNamed}
use Rattle.mx_answers.specs.Records.{IsRecordOf}
use Rattle.mx_answers.proofs.Retaining.{record_stays}
use Rattle.mx_state.specs.Laws.{AreRuns}
use Rattle.mx_state.specs.Model.{model_of}
use Rattle.mx_state.specs.State.{State}
use Rattle.mx_state.proofs.States.{texts_have_runs}
use Rattle.mx_commands.specs.Step.{RunState, refused, carried, CarriesOut, SetsSaid, SetsFound, Changes, Accepts, Refuses, IsHeld, IsNotHeld, Counts, Limits, Sets, IsPastBounds, TellsOrder, HasLayers, IsNotStatic}
use Rattle.mx_commands.specs.Laws.{IsFaithful, StaysFaithful}
use Rattle.mx_commands.proofs.OneEdit.{made_named}

unchanged : (s new : State) → IsFaithful s → new ≡ s → IsFaithful new
unchanged s new f i = subst IsFaithful (sym i) f

changed : (s : State) (e : Edit) (block : Text) (new : State) → IsFaithful s → Changes s e block new → IsFaithful new
changed s e block new f (Accepts x i) =
    let before : AreRuns s.text = texts_have_runs s.text in
    let after : AreRuns new.text = texts_have_runs new.text in
    record {
      named = made_named s.text e f.named (Ok new.text) new.text refl x.accepted;
      records = λ d h.
          let k = x.retains.only d h in
          record_stays (model_of s.text) (key_result new.text) d before.inputs_end after.inputs_end before.tests_are_covered (f.records d k.0) k.1;
    }
changed s e block new f (Refuses why a i m) = unchanged s new f m

with_records : (s new : State) → IsFaithful s → new.text ≡ s.text → ((d : Entry) → Has new.held d → IsRecordOf (model_of s.text) d) → IsFaithful new
with_records s new f i records = record {
  named = subst IsNamed (sym i) f.named;
  records = λ d h. subst (λ (r : ModelRecord). IsRecordOf (model_of r) d) (sym i) (records d h);
}

counted : (s : State) (n : Option Node) (block : Text) (new : State) → IsFaithful s → Counts s n block new → IsFaithful new
counted s None block new f x = unchanged s new f x.1
counted s (Some n) block new f (IsHeld h i m) = unchanged s new f m
counted s (Some n) block new f (IsNotHeld h i m) = unchanged s new f m

limited : (s : State) (limit : ℕ) (block : Text) (new : State) → IsFaithful s → Limits s limit block new → IsFaithful new
limited s limit block new f (Sets h i m) = subst IsFaithful (sym m) (record { named = f.named; records = f.records })
limited s limit block new f (IsPastBounds h i m) = unchanged s new f m

ordered : (s : State) (path : Path) (block : Text) (new : State) → IsFaithful s → TellsOrder s path block new → IsFaithful new
ordered s path block new f (HasLayers paths a i m) = unchanged s new f m
ordered s path block new f (IsNotStatic h i m) = unchanged s new f m

-- a table from a file
said : (s : State) (name : Label) (says : Result TableRows TableRefusal) (block : Text) (new : State) → IsFaithful s → SetsSaid s name says block new → IsFaithful new
said s name (Ok rows) block new f x = changed s (edit.SetTable name rows) block new f x
said s name (Err why) block new f x = unchanged s new f x.1

found : (s : State) (name file : Label) (found : Found) (block : Text) (new : State) → IsFaithful s → SetsFound s name file found block new → IsFaithful new
found s name file (Bytes bytes) block new f x = said s name (table_of bytes.items) block new f x
found s name file Missing block new f x = unchanged s new f x.1
found s name file TooBig block new f x = unchanged s new f x.1

carried_out : (files : Option FileMap) (s : State) (k : ScriptCommand) (block : Text) (new : State) → IsFaithful s → CarriesOut files s k block new → IsFaithful new
carried_out files s (command.Edit e) block new f x = changed s e block new f x
carried_out files s (command.Table name file) block new f x = found s name file x.found block new f x.sets
carried_out files s (command.Eval n) block new f x = with_records s new f x.evaluates.text x.evaluates.recorded.records
carried_out files s (command.Precedents n) block new f x = with_records s new f x.has.evaluates.text x.has.evaluates.recorded.records
carried_out files s (command.Succs n) block new f x = unchanged s new f x.state
carried_out files s (command.Held n) block new f x = counted s n block new f x
carried_out files s (command.Clear scope) block new f x = with_records s new f x.clearing.text (λ d h. f.records d (x.clearing.clears.only d h).0)
carried_out files s (command.Limit limit) block new f x = limited s limit block new f x
carried_out files s (command.Order path) block new f x = ordered s path block new f x

pub stays_faithful : StaysFaithful
stays_faithful s c block new f (refused e m reads text same) = subst (λ (r : RunState). IsFaithful r.engine) (sym same) f
stays_faithful s c block new f (carried k reads does kept) = carried_out s.files s.engine k block new.engine f does
