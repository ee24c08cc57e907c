-- What is free of an answer, and what the trouble of a line says.
use Rattle.std.proofs.Common.{◌≡◌, ◌≢◌, ℕ, ◌+◌, length, List, [], ◌∷◌, ◌++◌, Some, IfErr, Ok, Err, refl, sym, subst, arith}
use Rattle.mx_print.specs.Texts.{Text}
use Rattle.mx_edit.specs.declared.edit.Edit.{Edit}
use Rattle.mx_edit.specs.declared.refusal.EditRefusal.{EditRefusal}
use Rattle.mx_edit.specs.declared.refusal.EditRefusal.TheVariants as trouble
use Rattle.mx_words.specs.declared.command.FormRefusal.{FormRefusal}
use Rattle.mx_words.specs.declared.command.FormRefusal.TheVariants as form
use Rattle.mx_script.specs.Script.{Command, commands, without_cr}
use Rattle.mx_script.specs.Commands.{ReadsAs}
use Rattle.mx_model.specs.Records.{Name, ModelRecord}
use Rattle.mx_model.specs.Apply.{Apply}
use Rattle.mx_prepare.specs.Completed.{Becomes, Completes as Ends}
use Rattle.mx_prepare.specs.Prepared.{Prepares}
use Rattle.mx_model.specs.Refused.{record_trouble}
use Rattle.mx_apply.specs.Made.{IsTrouble}
use Rattle.mx_project.specs.Folder.{EditFile, model_file, model_words, project_line}
use Rattle.mx_project.specs.Reading.{Said, InTurn, OneByOne, UnlessFree, UnlessFault, CountsReads, left_by, EditsBy, EditsSay, Puts, edit_trouble, form_trouble, table_trouble, line_at, Laid, laid_of, first_of, behind_first, LaysAll, LaysOut, LaysLine, Completes, ModelSays, IsLaidBy, IsTableLine, NamesTable}
use Rattle.mx_project.specs.declared.refusal.ProjectRefusal.{ProjectRefusal}
use Rattle.mx_project.specs.declared.refusal.ProjectRefusal.TheVariants as refusal

-- a trouble that is not free is handed on
pub handed_on : {A B : Type 0} (P : Said A → Type 0) (Q : Said B → Type 0) (why : ProjectRefusal) → (why ≢ refusal.NoMemory → P (Err why) → Q (Err why)) → UnlessFree P (Err why) → UnlessFree Q (Err why)
handed_on P Q (refusal.Missing file) k h = k (λ e. absurd cc) h
handed_on P Q (refusal.TooBig file) k h = k (λ e. absurd cc) h
handed_on P Q (refusal.BadLine file line) k h = k (λ e. absurd cc) h
handed_on P Q (refusal.BadFormula file line w) k h = k (λ e. absurd cc) h
handed_on P Q (refusal.BadTable file w) k h = k (λ e. absurd cc) h
handed_on P Q (refusal.Refused file line w) k h = k (λ e. absurd cc) h
handed_on P Q refusal.ReadFault k h = k (λ e. absurd cc) h
handed_on P Q refusal.WriteFault k h = k (λ e. absurd cc) h
handed_on P Q refusal.NoMemory k h = tt

-- the same for all answers
pub weaker : {A : Type 0} (P Q : Said A → Type 0) (r : Said A) → ((answer : Said A) → P answer → Q answer) → UnlessFree P r → UnlessFree Q r
weaker P Q (Ok a) k h = k (Ok a) h
weaker P Q (Err why) k h = handed_on P Q why (λ ne p. k (Err why) p) h

-- ---- edits

module _ (file : Text) (text : ModelRecord) (line : ℕ) (e : Edit) where
  put_refused : (why : EditRefusal) (answer : ProjectRefusal) → Apply text e (Err why) → answer ≡ refusal.Refused file line why → Puts file text line e (Err answer)
  put_refused why answer h is = subst (λ (a : ProjectRefusal). Puts file text line e (Err a)) (sym is) (Puts.refused why h)

  pub refused_edit : (why : EditRefusal) (answer : ProjectRefusal) → Prepares text e (Err why) → answer ≢ refusal.NoMemory → answer ≡ edit_trouble file line why → Puts file text line e (Err answer)
  refused_edit trouble.BadName answer h ne is = put_refused trouble.BadName answer h is
  refused_edit trouble.NoSuchSpace answer h ne is = put_refused trouble.NoSuchSpace answer h is
  refused_edit trouble.NoSuchMember answer h ne is = put_refused trouble.NoSuchMember answer h is
  refused_edit trouble.NameTaken answer h ne is = put_refused trouble.NameTaken answer h is
  refused_edit trouble.WrongCount answer h ne is = put_refused trouble.WrongCount answer h is
  refused_edit trouble.ItemAddress answer h ne is = put_refused trouble.ItemAddress answer h is
  refused_edit trouble.BadValue answer h ne is = put_refused trouble.BadValue answer h is
  refused_edit (trouble.InUse path) answer h ne is = put_refused (trouble.InUse path) answer h is
  refused_edit (trouble.Cycle paths) answer h ne is = put_refused (trouble.Cycle paths) answer h is
  refused_edit (trouble.TooMany limit) answer h ne is = put_refused (trouble.TooMany limit) answer h is
  refused_edit (trouble.NoOrder path) answer h ne is = put_refused (trouble.NoOrder path) answer h is
  refused_edit trouble.NoMemory answer h ne is = absurd (ne is)

-- ---- lines of edits

module _ (f : EditFile) (text : ModelRecord) (line : ℕ) where
  module _ (source : List ℕ) where
    ill : (answer said : ProjectRefusal) → answer ≡ said → EditsBy f text (line_at line source) (Err said) → EditsBy f text (line_at line source) (Err answer)
    ill answer said is h = subst (λ (a : ProjectRefusal). EditsBy f text (line_at line source) (Err a)) (sym is) h

    pub ill_line : (why : FormRefusal) (answer : ProjectRefusal) → (why ≢ form.NoMemory → ReadsAs f.words source (Err why)) → answer ≢ refusal.NoMemory → answer ≡ form_trouble f.name line why → EditsBy f text (line_at line source) (Err answer)
    ill_line form.UnknownWord answer h ne is = ill answer _ is (EditsBy.bad_form form.UnknownWord (h (λ e. absurd cc)))
    ill_line (form.BadForm place) answer h ne is = ill answer _ is (EditsBy.bad_form (form.BadForm place) (h (λ e. absurd cc)))
    ill_line (form.Parse why) answer h ne is = ill answer _ is (EditsBy.bad_form (form.Parse why) (h (λ e. absurd cc)))
    ill_line form.NoMemory answer h ne is = absurd (ne is)

-- ---- one after the other

-- what comes of these from here, comes of those from there
abbrev pub Leads : {S X : Type 0} (Step : S → X → Said S → Type 0) → S → List X → S → List X → Type 0
Leads {S} Step first all now left = (answer : Said S) → OneByOne Step now left answer → OneByOne Step first all answer

module _ {S X : Type 0} (Step : S → X → Said S → Type 0) (first : S) (all : List X) (now : S) (left : List X) (leads : Leads Step first all now left) where
  -- the next goes on
  pub leads_on : (x : X) (xs : List X) (next : S) → left ≡ x ∷ xs → Step now x (Ok next) → Leads Step first all next xs
  leads_on x xs next is step answer rest = leads answer (subst (λ (ys : List X). OneByOne Step now ys answer) (sym is) (OneByOne.goes_on next step rest))

  -- or stops
  pub leads_out : (x : X) (xs : List X) (why : ProjectRefusal) → left ≡ x ∷ xs → Step now x (Err why) → OneByOne Step first all (Err why)
  leads_out x xs why is step = leads (Err why) (subst (λ (ys : List X). OneByOne Step now ys (Err why)) (sym is) (OneByOne.stops step))

  -- there is none left
  pub leads_through : left ≡ [] → OneByOne Step first all (Ok now)
  leads_through is = leads (Ok now) (subst (λ (ys : List X). OneByOne Step now ys (Ok now)) (sym is) OneByOne.end)

-- ---- lines of the model file

module _ (l : Laid) (number : ℕ) where
  module _ (e : Edit) where
    lays_refused : (why : EditRefusal) → record_trouble l.text e ≡ Some why → IsLaidBy l number e (Err (refusal.Refused model_file (number + 1) why))
    lays_refused why is source other reads = LaysLine.refused e why other reads is

    lays_told : (answer said : ProjectRefusal) → answer ≡ said → IsLaidBy l number e (Err said) → IsLaidBy l number e (Err answer)
    lays_told answer said is h = subst (λ (a : ProjectRefusal). IsLaidBy l number e (Err a)) (sym is) h

    pub refused_lay : (why : EditRefusal) (answer : ProjectRefusal) → IsTrouble l.text e why → answer ≢ refusal.NoMemory → answer ≡ edit_trouble model_file (number + 1) why → IsLaidBy l number e (Err answer)
    refused_lay trouble.BadName answer h ne is = lays_told answer _ is (lays_refused trouble.BadName h)
    refused_lay trouble.NoSuchSpace answer h ne is = lays_told answer _ is (lays_refused trouble.NoSuchSpace h)
    refused_lay trouble.NoSuchMember answer h ne is = lays_told answer _ is (lays_refused trouble.NoSuchMember h)
    refused_lay trouble.NameTaken answer h ne is = lays_told answer _ is (lays_refused trouble.NameTaken h)
    refused_lay trouble.WrongCount answer h ne is = lays_told answer _ is (lays_refused trouble.WrongCount h)
    refused_lay trouble.ItemAddress answer h ne is = lays_told answer _ is (lays_refused trouble.ItemAddress h)
    refused_lay trouble.BadValue answer h ne is = lays_told answer _ is (lays_refused trouble.BadValue h)
    refused_lay (trouble.InUse path) answer h ne is = lays_told answer _ is (lays_refused (trouble.InUse path) h)
    refused_lay (trouble.Cycle paths) answer h ne is = lays_told answer _ is (lays_refused (trouble.Cycle paths) h)
    refused_lay (trouble.TooMany limit) answer h ne is = lays_told answer _ is (lays_refused (trouble.TooMany limit) h)
    refused_lay (trouble.NoOrder path) answer h ne is = lays_told answer _ is (lays_refused (trouble.NoOrder path) h)
    refused_lay trouble.NoMemory answer h ne is = absurd (ne is)

  module _ (source : List ℕ) where
    lays_ill : (answer said : ProjectRefusal) → answer ≡ said → LaysLine l (line_at number source) (Err said) → LaysLine l (line_at number source) (Err answer)
    lays_ill answer said is h = subst (λ (a : ProjectRefusal). LaysLine l (line_at number source) (Err a)) (sym is) h

    pub ill_lay : (why : FormRefusal) (answer : ProjectRefusal) → (IsTableLine (line_at number source) → ⊥) → (why ≢ form.NoMemory → ReadsAs model_words source (Err why)) → answer ≢ refusal.NoMemory → answer ≡ form_trouble model_file (number + 1) why
        → LaysLine l (line_at number source) (Err answer)
    ill_lay form.UnknownWord answer other h ne is = lays_ill answer _ is (LaysLine.bad_form form.UnknownWord other (h (λ e. absurd cc)))
    ill_lay (form.BadForm place) answer other h ne is = lays_ill answer _ is (LaysLine.bad_form (form.BadForm place) other (h (λ e. absurd cc)))
    ill_lay (form.Parse why) answer other h ne is = lays_ill answer _ is (LaysLine.bad_form (form.Parse why) other (h (λ e. absurd cc)))
    ill_lay form.NoMemory answer other h ne is = absurd (ne is)

    pub ill_table : (why : FormRefusal) (answer : ProjectRefusal) → IsTableLine (line_at number source) → (why ≢ form.NoMemory → NamesTable source (Err why)) → answer ≢ refusal.NoMemory → answer ≡ table_trouble (number + 1) why
        → LaysLine l (line_at number source) (Err answer)
    ill_table form.UnknownWord answer table h ne is = lays_ill answer _ is (LaysLine.bad_table form.UnknownWord table (h (λ e. absurd cc)))
    ill_table (form.BadForm place) answer table h ne is = lays_ill answer _ is (LaysLine.bad_table (form.BadForm place) table (h (λ e. absurd cc)))
    ill_table (form.Parse why) answer table h ne is = lays_ill answer _ is (LaysLine.bad_table (form.Parse why) table (h (λ e. absurd cc)))
    ill_table form.NoMemory answer table h ne is = absurd (ne is)

-- ---- after the last line

module _ (text : ModelRecord) (tables : List Name) where
  pub completed : (made : ModelRecord) → Becomes text (length tables) (Ok made) → Completes (laid_of text tables) (Ok (laid_of made tables))
  completed _ (Becomes.IsComplete ring few walk) = Completes.complete (Becomes.IsComplete ring few walk)

  incomplete : (answer said : ProjectRefusal) → answer ≡ said → Completes (laid_of text tables) (Err said) → Completes (laid_of text tables) (Err answer)
  incomplete answer said is h = subst (λ (a : ProjectRefusal). Completes (laid_of text tables) (Err a)) (sym is) h

  pub uncompleted : (why : EditRefusal) (answer : ProjectRefusal) → Ends text (length tables) (Err why) → answer ≢ refusal.NoMemory → answer ≡ edit_trouble model_file 0 why → Completes (laid_of text tables) (Err answer)
  uncompleted trouble.BadName answer h ne is = incomplete answer _ is (Completes.refused trouble.BadName h)
  uncompleted trouble.NoSuchSpace answer h ne is = incomplete answer _ is (Completes.refused trouble.NoSuchSpace h)
  uncompleted trouble.NoSuchMember answer h ne is = incomplete answer _ is (Completes.refused trouble.NoSuchMember h)
  uncompleted trouble.NameTaken answer h ne is = incomplete answer _ is (Completes.refused trouble.NameTaken h)
  uncompleted trouble.WrongCount answer h ne is = incomplete answer _ is (Completes.refused trouble.WrongCount h)
  uncompleted trouble.ItemAddress answer h ne is = incomplete answer _ is (Completes.refused trouble.ItemAddress h)
  uncompleted trouble.BadValue answer h ne is = incomplete answer _ is (Completes.refused trouble.BadValue h)
  uncompleted (trouble.InUse path) answer h ne is = incomplete answer _ is (Completes.refused (trouble.InUse path) h)
  uncompleted (trouble.Cycle paths) answer h ne is = incomplete answer _ is (Completes.refused (trouble.Cycle paths) h)
  uncompleted (trouble.TooMany limit) answer h ne is = incomplete answer _ is (Completes.refused (trouble.TooMany limit) h)
  uncompleted (trouble.NoOrder path) answer h ne is = incomplete answer _ is (Completes.refused (trouble.NoOrder path) h)
  uncompleted trouble.NoMemory answer h ne is = absurd (ne is)

-- ---- the model file

module _ (bytes : List ℕ) (first : without_cr (first_of bytes) ≡ project_line) where
  pub model_says : (l : Laid) (answer : Said Laid) → LaysAll (behind_first bytes) (Ok l) → Completes l answer → ModelSays bytes answer
  model_says l answer lays h = ModelSays.lays_out first (InTurn.goes_on l lays h)

  pub model_stops : (why : ProjectRefusal) → LaysAll (behind_first bytes) (Err why) → ModelSays bytes (Err why)
  model_stops why lays = ModelSays.lays_out first (InTurn.stops why lays)

-- ---- faults: what bytes say is none

abbrev pub IsNoFault : {A : Type 0} → Said A → Type 0
IsNoFault r = r ≡ Err refusal.ReadFault → ⊥

puts_no_fault : (file : Text) (text : ModelRecord) (line : ℕ) (e : Edit) (answer : Said ModelRecord) → Puts file text line e answer → IsNoFault answer
puts_no_fault file text line e _ (Puts.refused why h) is = absurd cc
puts_no_fault file text line e _ (Puts.made made h) is = absurd cc

form_no_fault : (file : Text) (line : ℕ) (why : FormRefusal) → form_trouble file line why ≡ refusal.ReadFault → ⊥
form_no_fault file line form.UnknownWord is = absurd cc
form_no_fault file line (form.BadForm place) is = absurd cc
form_no_fault file line (form.Parse why) is = absurd cc
form_no_fault file line form.NoMemory is = absurd cc

line_no_fault : (f : EditFile) (text : ModelRecord) (c : Command) (answer : Said ModelRecord) → EditsBy f text c answer → IsNoFault answer
line_no_fault f text c _ (EditsBy.bad_form why reads) is = form_no_fault f.name c.number why cc
line_no_fault f text c answer (EditsBy.edits e reads puts) is = puts_no_fault f.name text c.number e answer puts is

module _ {S X : Type 0} (Step : S → X → Said S → Type 0) (quiet : (s : S) (x : X) (answer : Said S) → Step s x answer → IsNoFault answer) where
  each_no_fault : (s : S) (xs : List X) (answer : Said S) → OneByOne Step s xs answer → IsNoFault answer
  each_no_fault s _ _ OneByOne.end is = absurd cc
  each_no_fault s _ answer (OneByOne.stops {x} {why} step) is = quiet s x (Err why) step is
  each_no_fault s _ answer (OneByOne.goes_on {x} {xs} next step rest) is = each_no_fault next xs answer rest is

pub edits_no_fault : (f : EditFile) (text : ModelRecord) (bytes : List ℕ) (answer : Said ModelRecord) → EditsSay f text bytes answer → IsNoFault answer
edits_no_fault f text bytes answer h = each_no_fault (EditsBy f) (line_no_fault f) text (commands f.words bytes) answer h

-- so the count of faults at reads is as before
module _ {S : Type 0} (Says : Said S → Type 0) (quiet : (answer : Said S) → Says answer → IsNoFault answer) (now : S) (old new : ℕ) (same : new ≡ old) where
  pub quiet_counts : (r : Said (Unit {0})) → UnlessFree Says (left_by r now) → CountsReads r old new
  quiet_counts (Ok u) h = same
  quiet_counts (Err (refusal.Missing file)) h = same
  quiet_counts (Err (refusal.TooBig file)) h = same
  quiet_counts (Err (refusal.BadLine file line)) h = same
  quiet_counts (Err (refusal.BadFormula file line w)) h = same
  quiet_counts (Err (refusal.BadTable file w)) h = same
  quiet_counts (Err (refusal.Refused file line w)) h = same
  quiet_counts (Err refusal.ReadFault) h = absurd (quiet _ h refl)
  quiet_counts (Err refusal.WriteFault) h = same
  quiet_counts (Err refusal.NoMemory) h = omega (arith, same)

-- a trouble of what is read from files
pub faulted : {A B : Type 0} (P : Said A → Type 0) (Q : Said B → Type 0) (why : ProjectRefusal) → (P (Err why) → Q (Err why)) → UnlessFault P (Err why) → UnlessFault Q (Err why)
faulted P Q (refusal.Missing file) k h = k h
faulted P Q (refusal.TooBig file) k h = k h
faulted P Q (refusal.BadLine file line) k h = k h
faulted P Q (refusal.BadFormula file line w) k h = k h
faulted P Q (refusal.BadTable file w) k h = k h
faulted P Q (refusal.Refused file line w) k h = k h
faulted P Q refusal.ReadFault k h = tt
faulted P Q refusal.WriteFault k h = k h
faulted P Q refusal.NoMemory k h = tt

-- the same for all answers
pub weaker_fault : {A : Type 0} (P Q : Said A → Type 0) (r : Said A) → ((answer : Said A) → P answer → Q answer) → UnlessFault P r → UnlessFault Q r
weaker_fault P Q (Ok a) k h = k (Ok a) h
weaker_fault P Q (Err why) k h = faulted P Q why (k (Err why)) h

-- ---- some, and then others

module _ {S X : Type 0} (Step : S → X → Said S → Type 0) where
  pub last_one : (s : S) (x : X) (answer : Said S) → Step s x answer → OneByOne Step s (x ∷ []) answer
  last_one s x (Ok t) h = OneByOne.goes_on t h OneByOne.end
  last_one s x (Err why) h = OneByOne.stops h

  pub and_then : (s : S) (xs : List X) (t : S) (ys : List X) (answer : Said S) → OneByOne Step s xs (Ok t) → OneByOne Step t ys answer → OneByOne Step s (xs ++ ys) answer
  and_then s _ _ ys answer OneByOne.end rest = rest
  and_then s _ t ys answer (OneByOne.goes_on {x} {xs} next step more) rest = OneByOne.goes_on next step (and_then next xs t ys answer more rest)

  pub stops_before : (s : S) (xs ys : List X) (why : ProjectRefusal) → OneByOne Step s xs (Err why) → OneByOne Step s (xs ++ ys) (Err why)
  stops_before s _ ys why (OneByOne.stops step) = OneByOne.stops step
  stops_before s _ ys why (OneByOne.goes_on {x} {xs} next step more) = OneByOne.goes_on next step (stops_before next xs ys why more)

-- ---- what a model file says is no fault

lay_no_fault : (l : Laid) (c : Command) (answer : Said Laid) → LaysLine l c answer → IsNoFault answer
lay_no_fault l c _ (LaysLine.bad_form why other reads) is = form_no_fault model_file (c.number + 1) why cc
lay_no_fault l c _ (LaysLine.refused e why other reads trouble) is = absurd cc
lay_no_fault l c _ (LaysLine.laid e other reads free) is = absurd cc
lay_no_fault l c _ (LaysLine.bad_table why table says) is = absurd cc
lay_no_fault l c _ (LaysLine.bad_name t table says is_not) is = absurd cc
lay_no_fault l c _ (LaysLine.names t table says is_one) is = absurd cc

ends_no_fault : (l : Laid) (answer : Said Laid) → Completes l answer → IsNoFault answer
ends_no_fault l _ (Completes.refused why h) is = absurd cc
ends_no_fault l _ (Completes.complete h) is = absurd cc

out_no_fault : (bytes : List ℕ) (answer : Said Laid) → LaysOut bytes answer → IsNoFault answer
out_no_fault bytes _ (InTurn.stops why h) is = each_no_fault LaysLine lay_no_fault _ _ (Err why) h is
out_no_fault bytes answer (InTurn.goes_on l h rest) is = ends_no_fault l answer rest is

pub model_no_fault : (bytes : List ℕ) (answer : Said Laid) → ModelSays bytes answer → IsNoFault answer
model_no_fault bytes _ (ModelSays.bad_first other) is = absurd cc
model_no_fault bytes answer (ModelSays.lays_out first rest) is = out_no_fault bytes answer rest is

module _ {A S : Type 0} (Says : Said S → Type 0) (quiet : (answer : Said S) → Says answer → IsNoFault answer) (old new : ℕ) (same : new ≡ old) where
  pub quiet_troubles : (r : Said A) → IfErr r (λ why. UnlessFree Says (Err why)) → CountsReads r old new
  quiet_troubles (Ok a) h = same
  quiet_troubles (Err (refusal.Missing file)) h = same
  quiet_troubles (Err (refusal.TooBig file)) h = same
  quiet_troubles (Err (refusal.BadLine file line)) h = same
  quiet_troubles (Err (refusal.BadFormula file line w)) h = same
  quiet_troubles (Err (refusal.BadTable file w)) h = same
  quiet_troubles (Err (refusal.Refused file line w)) h = same
  quiet_troubles (Err refusal.ReadFault) h = absurd (quiet _ h refl)
  quiet_troubles (Err refusal.WriteFault) h = same
  quiet_troubles (Err refusal.NoMemory) h = omega (arith, same)
