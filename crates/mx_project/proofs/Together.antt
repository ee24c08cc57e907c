-- The files of a project, put together.
use Rattle.std.proofs.Common.{◌≡◌, ◌∙◌, ℕ, ◌+◌, ◌<◌, List, [], ◌∷◌, ◌++◌, length, get_or, take, drop, Result, Option, inl, inr, sym, ap, subst, append_assoc}
use Rattle.std.specs.List.{concat, AllByRecursion}
use Rattle.std.proofs.lemmas.Bool.{cases_lt}
use Rattle.std.proofs.lemmas.List.{take-append-drop}
use Rattle.mx_syntax.proofs.ListLemmas.{take_next}
use Rattle.mx_value.specs.declared.value.Value.{Value}
use Rattle.mx_value.specs.declared.node.Node.{Node}
use Rattle.mx_print.specs.Texts.{Text}
use Rattle.std.specs.Prelude.{IfErr}
use Rattle.std.proofs.lemmas.Result.{IfErr-weaker}
use Rattle.mx_outside.specs.Files.{FileMap, most_bytes}
use Rattle.mx_model.specs.Records.{ModelRecord}
use Rattle.mx_project.specs.Folder.{refs_file, inputs_file}
use Rattle.mx_project.specs.Lines.{refs_lines, input_lines}
use Rattle.mx_project.specs.Inputs.{IsInputsText}
use Rattle.mx_project.specs.Writing.{File, file, file_of_model, table_files, space_files, end_files, AreOrdered, IsProjectText, EndsText, IsShort, IsFirstBig, StopsAt, IsCutShort, IsUnwritten}
use Rattle.mx_project.specs.declared.refusal.ProjectRefusal.{ProjectRefusal}
use Rattle.mx_project.specs.declared.refusal.ProjectRefusal.TheVariants as refusal

pub ends_of : (text : ModelRecord) (before middle after : List File) (given : List (Node × Value)) (refs inputs : Text) → refs ≡ concat (refs_lines text) → middle ≡ before ++ (record { name = refs_file; bytes = refs }) ∷ []
    → given ≡ text.inputs → IsInputsText given inputs → after ≡ middle ++ (record { name = inputs_file; bytes = inputs }) ∷ [] → EndsText text before after
ends_of text before middle after given refs inputs r m g t e = record {
  inputs = t.sorted;
  ordered = subst (λ (is : List (Node × Value)). AreOrdered is t.sorted) g t.ordered;
  are = e
      ∙ ap (λ (fs : List File). fs ++ (record { name = inputs_file; bytes = inputs }) ∷ []) (m ∙ ap (λ (bytes : Text). before ++ (record { name = refs_file; bytes = bytes }) ∷ []) r)
      ∙ ap (λ (bytes : Text). (before ++ file refs_file (refs_lines text) ∷ []) ++ (record { name = inputs_file; bytes = bytes }) ∷ []) t.are
      ∙ append_assoc before (file refs_file (refs_lines text) ∷ []) (file inputs_file (input_lines t.sorted) ∷ []);
}

pub project_of : (text : ModelRecord) (one two three all : List File) → one ≡ file_of_model text ∷ [] → two ≡ one ++ table_files text.tables → three ≡ two ++ space_files text → EndsText text three all → IsProjectText text all
project_of text one two three all a b c e = record {
  inputs = e.inputs;
  ordered = e.ordered;
  are = e.are
      ∙ ap (λ (fs : List File). fs ++ end_files text e.inputs) (c ∙ ap (λ (fs : List File). fs ++ space_files text) (b ∙ ap (λ (fs : List File). fs ++ table_files text.tables) a))
      ∙ append_assoc (file_of_model text ∷ [] ++ table_files text.tables) (space_files text) (end_files text e.inputs)
      ∙ append_assoc (file_of_model text ∷ []) (table_files text.tables) (space_files text ++ end_files text e.inputs);
}

pub big_at : (files : List File) (i : ℕ) (f : File) → AllByRecursion IsShort (take i files) → i < length files → f ≡ get_or files i f → (IsShort f → ⊥) → IsFirstBig files f
big_at files i f short lt is long = record {
  before = take i files;
  after = drop (i + 1) files;
  whole = sym (take-append-drop (i + 1) files) ∙ ap (λ (fs : List File). fs ++ drop (i + 1) files) (take_next files i f lt is) ∙ append_assoc (take i files) (f ∷ []) (drop (i + 1) files);
  short = short;
  long = elim (cases_lt most_bytes (length f.bytes)) [ inl l ↦ l | inr s ↦ absurd (long s) ];
}

-- where a write stopped
unwritten : (text : ModelRecord) (folder : Text) (old new : Option FileMap) (files : List File) → IsProjectText text files → (why : ProjectRefusal) → StopsAt folder files old new why → IsUnwritten text folder old new why
unwritten text folder old new files are refusal.WriteFault s =
    record { before = s.before; broken = s.unset; after = s.after; are = subst (λ (fs : List File). IsProjectText text fs) s.whole are; left = s.left }
unwritten text folder old new files are refusal.NoMemory s = IsCutShort.front s.before (s.unset ∷ s.after) (subst (λ (fs : List File). IsProjectText text fs) s.whole are) s.left
unwritten text folder old new files are why s = absurd s.left

pub unwritten_if : {T : Type 0} (text : ModelRecord) (folder : Text) (old new : Option FileMap) (files : List File) (r : Result T ProjectRefusal) → IsProjectText text files → IfErr r (StopsAt folder files old new) → IfErr r (IsUnwritten text folder old new)
unwritten_if text folder old new files r are stops = IfErr-weaker r (StopsAt folder files old new) (IsUnwritten text folder old new) (unwritten text folder old new files are) stops
