-- Laws: what runs give and ask is within the limits, and held nodes stay proper.
use Rattle.std.specs.Prelude.{ℕ, List, [], Result, Ok}
use Rattle.mx_value.specs.declared.node.Node.{Node}
use Rattle.mx_value.specs.declared.value.Value.{Value}
use Rattle.mx_value.specs.declared.refusal.EvalRefusal.{EvalRefusal}
use Rattle.mx_edit.specs.Rows.{TableRows}
use Rattle.mx_edit.specs.Table.{IsTable}
use Rattle.mx_edit.specs.declared.edit.Edit.{Edit}
use Rattle.mx_edit.specs.declared.key.Key.{Key}
use Rattle.mx_edit.specs.declared.key.KeyResult.{KeyResult}
use Rattle.mx_edit.specs.declared.reply.Reply.{Reply}
use Rattle.mx_edit.specs.declared.scope.Scope.{Scope}
use Rattle.mx_syntax.specs.declared.op.Op.{Op}
use Rattle.mx_ops.specs.Table.{gives}
use Rattle.mx_runs.specs.Runs.{Gives}
use Rattle.mx_runs.specs.Meaning.{Means}
use Rattle.mx_runs.specs.Chains.{Reaches}
use Rattle.mx_meaning.specs.Laws.{model_of, BindsTo}
use Rattle.mx_model.specs.Apply.{Apply}
use Rattle.mx_model.specs.Records.{ModelRecord, beginning}
use Rattle.mx_model.specs.Keys.{key_result}
use Rattle.mx_model.specs.Tables.{HasTables}
use Rattle.mx_model.specs.Valid.{Valid}
use Rattle.mx_state.specs.Proper.{HasArguments, IsProper}
use Rattle.mx_state.specs.State.{State, AreProper}
use Rattle.mx_state.specs.Evaluations.{Evaluates}
use Rattle.mx_state.specs.Changes.{Edits, Clearing}
use Rattle.mx_limit_laws.specs.Values.{Each, IsWithin, IsAnswerWithin}
use Rattle.mx_limit_laws.specs.Replies.{IsSmallTable, HasSmallResults, IsSmallReply}
use Rattle.mx_limit_laws.specs.Texts.{HasSmallFormulas, HasSmallTables, IsSmallText, HasSmallFormula, IsSmallEdit}

-- what an operator gives for values within the limits is within them
abbrev pub OperatorsStayWithin : Type 0
OperatorsStayWithin =
    (op : Op) (operands : List Value) → Each IsWithin operands → IsAnswerWithin (gives op operands)

-- ---- runs

-- what a node with arguments means is within the limits
abbrev pub RepliesAreSmall : Type 0
RepliesAreSmall =
    (look : Key → KeyResult) (n : Node) (r : Reply) → HasSmallResults look → HasArguments n
    → Means (model_of look) n (Gives r) → IsSmallReply r

-- its bound form is proper
abbrev pub BoundIsProper : Type 0
BoundIsProper =
    (look : Key → KeyResult) (n b : Node) → HasSmallResults look → HasArguments n
    → BindsTo (model_of look) n b → IsProper b

-- and each node that a proper node reaches
abbrev pub ReachedAreProper : Type 0
ReachedAreProper =
    (look : Key → KeyResult) (n m : Node) → HasSmallResults look → IsProper n
    → Reaches (model_of look) n m → IsProper m

-- ---- texts

-- what keys lead to in a valid text with small literals is within the limits
abbrev pub TextsHaveSmallResults : Type 0
TextsHaveSmallResults = (text : ModelRecord) → Valid text → IsSmallText text → HasSmallResults (key_result text)

-- the entries of a table are numbers
abbrev pub TablesAreSmall : Type 0
TablesAreSmall = (t : TableRows) → IsTable t → IsSmallTable t

-- also those of a text's tables
abbrev pub TextTablesAreSmall : Type 0
TextTablesAreSmall = (text : ModelRecord) → HasTables text → HasSmallTables text

-- a model begins with small literals
abbrev pub BeginsSmall : Type 0
BeginsSmall = IsSmallText beginning

-- an edit with small literals of formulas and parameter lists keeps those of a text small
abbrev pub EditsKeepFormulasSmall : Type 0
EditsKeepFormulasSmall =
    (text next : ModelRecord) (e : Edit) → HasSmallFormulas text → HasSmallFormula e
    → Apply text e (Ok next) → HasSmallFormulas next

-- and one with small literals keeps all of them so
abbrev pub EditsKeepSmall : Type 0
EditsKeepSmall =
    (text next : ModelRecord) (e : Edit) → IsSmallText text → IsSmallEdit e
    → Apply text e (Ok next) → IsSmallText next

-- ---- states

-- nothing held is proper
abbrev pub BeginsProper : Type 0
BeginsProper =
    (text : ModelRecord) (limit : ℕ) → AreProper (record { text = text; held = []; limit = limit })

-- over a valid text, held nodes stay proper in the evaluation of a proper node
abbrev pub ProperAfterEvaluation : Type 0
ProperAfterEvaluation =
    (s t : State) (n : Node) (a : Result Value EvalRefusal) (ticks : ℕ)
    → Valid s.text → IsSmallText s.text → IsProper n → AreProper s → Evaluates s n a ticks t
    → AreProper t

-- in an edit
abbrev pub ProperAfterEdit : Type 0
ProperAfterEdit = (s t : State) (e : Edit) → AreProper s → Edits s e t → AreProper t

-- and in a clearing
abbrev pub ProperAfterClearing : Type 0
ProperAfterClearing = (s t : State) (scope : Scope) → AreProper s → Clearing s scope t → AreProper t
