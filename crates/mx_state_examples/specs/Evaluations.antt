-- The worked examples as evaluations: what is answered, how many runs begin, and what is held.
use Rattle.std.specs.Prelude.{ℕ, pos, true, List, [], ◌∷◌, ◌++◌, Ok, Err, codes}
use Rattle.mx_value.specs.declared.value.Value.{Value}
use Rattle.mx_value.specs.declared.value.Value.TheVariants.{Fix, Flag}
use Rattle.mx_value.specs.declared.node.Node.{Node}
use Rattle.mx_value.specs.declared.node.Node.TheVariants.{Cell}
use Rattle.mx_value.specs.declared.read.Read.TheVariants as read
use Rattle.mx_value.specs.declared.fault.FaultKind.TheVariants.{NoName}
use Rattle.mx_value.specs.declared.refusal.EvalRefusal.TheVariants.{Fault, Ring, TooDeep}
use Rattle.mx_edit.specs.Entry.{Entry}
use Rattle.mx_edit.specs.declared.key.Key.{Key}
use Rattle.mx_edit.specs.declared.key.Key.TheVariants as key
use Rattle.mx_answers.specs.Retention.{Retains}
use Rattle.mx_model.specs.Records.{Path, ModelRecord}
use Rattle.mx_model.specs.Keys.{key_result}
use Rattle.mx_state.specs.Model.{model_of}
use Rattle.mx_state.specs.State.{State}
use Rattle.mx_state.specs.Evaluations.{Evaluates, HasPrecedents}
use Rattle.mx_state_examples.specs.Texts as text
use Rattle.mx_state_examples.specs.Texts.{main, space_s}
use Rattle.mx_state_examples.specs.Rows.{whole, gives, top, two, item, item_reply, product_in, main_cell, in_item, nested_v, short_f, bound_f}

-- with these held, and the limit that a model begins with
abbrev pub holding : ModelRecord → List Entry → State
holding t held = record { text = t; held = held; limit = 5000 }

-- with these held, where a chain may have so many nodes
abbrev pub limited : ℕ → ModelRecord → List Entry → State
limited limit t held = record { text = t; held = held; limit = limit }

-- ---- items of a space with a parameter

-- what is held of S[v], and of c(1) in it, which gives this
abbrev pub item_entry : Value → Entry
item_entry v = record { node = item v; reply = item_reply (codes "x") v; keys = key.Params space_s ∷ []; asks = []; reads = [] }

abbrev pub product_entry : Value → ℕ → Entry
product_entry v n = record { node = product_in v; reply = gives (whole n); keys = key.Cells space_s (codes "c") ∷ []; asks = item v ∷ []; reads = read.Node (item v) ∷ [] }

abbrev pub of_two : List Entry
of_two = item_entry (whole 2) ∷ product_entry (whole 2) 2 ∷ []

abbrev pub of_true : List Entry
of_true = item_entry (Flag true) ∷ product_entry (Flag true) 1 ∷ []

-- S[2].c(1) is 2 by two runs, S[2.0].c(1) is 2 by none, and S[True].c(1) is 1 by two
pub record ItemsAreEvaluated : Type 0 where
  pub first : Evaluates (holding text.multiplying []) (product_in (whole 2)) (Ok (whole 2)) 2 (holding text.multiplying of_two)
  pub again : Evaluates (holding text.multiplying of_two) (product_in (Fix (pos 2000000000))) (Ok (whole 2)) 0 (holding text.multiplying of_two)
  pub other : Evaluates (holding text.multiplying of_two) (product_in (Flag true)) (Ok (whole 1)) 2 (holding text.multiplying (of_two ++ of_true))

-- ---- a choice reads no more than it takes

-- what is held of cells of a literal
abbrev pub literal_entry : Node → Path → List ℕ → ℕ → Entry
literal_entry n path name k = record { node = n; reply = gives (whole k); keys = key.Input n ∷ key.Cells path name ∷ []; asks = []; reads = [] }

abbrev pub a_cell : Node
a_cell = main_cell (codes "a") []

abbrev pub c_cell : Node
c_cell = main_cell (codes "c") []

abbrev pub choice_keys : List Key
choice_keys = key.Input c_cell ∷ key.Cells main (codes "c") ∷ key.Name main (codes "flag") ∷ key.Name main (codes "a") ∷ key.Cells main (codes "a") ∷ []

abbrev pub choice_entry : Entry
choice_entry = record { node = c_cell; reply = gives (whole 1); keys = choice_keys; asks = a_cell ∷ []; reads = read.Ref (top (codes "Main")) (codes "flag") ∷ read.Node a_cell ∷ [] }

-- c() is 1 by two runs: b() is not held
abbrev pub ChoiceIsEvaluated : Type 0
ChoiceIsEvaluated = Evaluates (holding text.choosing []) c_cell (Ok (whole 1)) 2 (holding text.choosing (literal_entry a_cell main (codes "a") 1 ∷ choice_entry ∷ []))

-- its precedents are the reference and a(), by as many runs
abbrev pub ChoiceHasPrecedents : Type 0
ChoiceHasPrecedents = HasPrecedents (holding text.choosing []) c_cell (Ok (read.Ref (top (codes "Main")) (codes "flag") ∷ read.Node a_cell ∷ [])) 2 (holding text.choosing (literal_entry a_cell main (codes "a") 1 ∷ choice_entry ∷ []))

-- ---- a chain that is too deep

-- what is held of a(), and of c() beside it
abbrev pub of_a : List Entry
of_a = literal_entry a_cell main (codes "a") 1 ∷ []

abbrev pub of_choice : List Entry
of_choice = literal_entry a_cell main (codes "a") 1 ∷ choice_entry ∷ []

-- where a chain may have one node, a() is too deep for c(), and nothing is held
abbrev pub AskedIsTooDeep : Type 0
AskedIsTooDeep = (ticks : ℕ) → Evaluates (limited 1 text.choosing []) c_cell (Err (TooDeep a_cell)) ticks (limited 1 text.choosing [])

-- there no evaluation of c() answers its value
abbrev pub NoValueSoDeep : Type 0
NoValueSoDeep = (v : Value) (ticks : ℕ) (t : State) → Evaluates (limited 1 text.choosing []) c_cell (Ok v) ticks t → ⊥

-- a chain of two nodes may have two
abbrev pub TwoAreNotTooDeep : Type 0
TwoAreNotTooDeep = Evaluates (limited 2 text.choosing []) c_cell (Ok (whole 1)) 2 (limited 2 text.choosing of_choice)

-- where a() is held, c() is 1 by one run
abbrev pub HeldIsNotTooDeep : Type 0
HeldIsNotTooDeep = Evaluates (limited 1 text.choosing of_a) c_cell (Ok (whole 1)) 1 (limited 1 text.choosing of_choice)

-- ---- a default and an input

abbrev pub f_keys : List Key
f_keys = key.Input bound_f ∷ key.Cells main (codes "f") ∷ []

abbrev pub f_of_default : Entry
f_of_default = record { node = bound_f; reply = gives (whole 8); keys = f_keys; asks = []; reads = [] }

-- f(1) is 8 by one run, and f(1, 7) is held
abbrev pub DefaultIsEvaluated : Type 0
DefaultIsEvaluated = Evaluates (holding text.with_default []) short_f (Ok (whole 8)) 1 (holding text.with_default (f_of_default ∷ []))

-- what is held of c() that asked the input: a key of it in the place of an ask
abbrev pub asking_keys : List Key
asking_keys = key.Input c_cell ∷ key.Cells main (codes "c") ∷ key.Name main (codes "f") ∷ key.Cells main (codes "f") ∷ key.Input bound_f ∷ []

abbrev pub asking_entry : Entry
asking_entry = record { node = c_cell; reply = gives (whole 9); keys = asking_keys; asks = []; reads = read.Node bound_f ∷ [] }

-- f(1) is 9 by no run, and c() by one, also where a chain may have one node: the input isn't held, and no node of a chain
pub record InputIsEvaluated : Type 0 where
  pub itself : Evaluates (limited 1 text.with_input []) short_f (Ok (whole 9)) 0 (limited 1 text.with_input [])
  pub asker : Evaluates (limited 1 text.with_input []) c_cell (Ok (whole 9)) 1 (limited 1 text.with_input (asking_entry ∷ []))

-- ---- a formula that a space takes over looks names up where it runs

abbrev pub w_cell : List ℕ → Node
w_cell here = Cell (top here) (codes "w") []

abbrev pub v_cell : List ℕ → Node
v_cell here = Cell (two here (codes "B")) (codes "v") []

-- of w() of a space at the top, where b leads below that space or another one
abbrev pub w_keys : List ℕ → List ℕ → List Key
w_keys here there =
    key.Input (w_cell here) ∷ key.Cells (here ∷ []) (codes "w") ∷ key.Name (here ∷ []) (codes "b") ∷ key.Exists (there ∷ codes "B" ∷ [])
    ∷ key.Name (there ∷ codes "B" ∷ []) (codes "v") ∷ key.Cells (there ∷ codes "B" ∷ []) (codes "v") ∷ []

abbrev pub w_entry : List ℕ → List ℕ → ℕ → Entry
w_entry here there n = record { node = w_cell here; reply = gives (whole n); keys = w_keys here there; asks = v_cell there ∷ []; reads = read.Ref (top here) (codes "b") ∷ read.Node (v_cell there) ∷ [] }

abbrev pub v_entry : List ℕ → ℕ → Entry
v_entry here n = literal_entry (v_cell here) (here ∷ codes "B" ∷ []) (codes "v") n

-- v() and w() of a space at the top, which give these
abbrev pub of_space : List ℕ → ℕ → ℕ → List Entry
of_space here v w = v_entry here v ∷ w_entry here here w ∷ []

-- A.w() is 10 by two runs, and then S.w() is 20 by two
pub record TakenOverIsEvaluated : Type 0 where
  pub first : Evaluates (holding text.inheriting []) (w_cell (codes "A")) (Ok (whole 10)) 2 (holding text.inheriting (of_space (codes "A") 1 10))
  pub then_other : Evaluates (holding text.inheriting (of_space (codes "A") 1 10)) (w_cell (codes "S")) (Ok (whole 20)) 2 (holding text.inheriting (of_space (codes "A") 1 10 ++ of_space (codes "S") 2 20))

-- the precedents of S.w(), which is held, are S.b and S.B.v(), by no run
abbrev pub TakenOverHasPrecedents : Type 0
TakenOverHasPrecedents = HasPrecedents (holding text.inheriting (of_space (codes "A") 1 10 ++ of_space (codes "S") 2 20)) (w_cell (codes "S")) (Ok (read.Ref (top (codes "S")) (codes "b") ∷ read.Node (v_cell (codes "S")) ∷ [])) 0 (holding text.inheriting (of_space (codes "A") 1 10 ++ of_space (codes "S") 2 20))

-- what is held of both spaces, and what of it the edit keeps that fixes the target
abbrev pub of_both : List Entry
of_both = of_space (codes "A") 1 10 ++ of_space (codes "S") 2 20

abbrev pub kept : List Entry
kept = v_entry (codes "A") 1 ∷ v_entry (codes "S") 2 ∷ []

-- after it S.w() is 10 by one run, since A.B.v() is held
pub record FixedTargetIsEvaluated : Type 0 where
  pub retains : Retains (model_of text.inheriting) (key_result text.inheriting_fixed) of_both kept
  pub again : Evaluates (holding text.inheriting_fixed kept) (w_cell (codes "S")) (Ok (whole 10)) 1 (holding text.inheriting_fixed (kept ++ w_entry (codes "S") (codes "A") 10 ∷ []))

-- ---- a fault and rings

-- A.B.v() is a fault by one run, and nothing is held
abbrev pub FaultIsEvaluated : Type 0
FaultIsEvaluated = Evaluates (holding text.nested []) nested_v (Err (Fault NoName nested_v 1)) 1 (holding text.nested [])

-- f(1) and g(1)
abbrev pub f_cell : Node
f_cell = main_cell (codes "f") (whole 1 ∷ [])

abbrev pub g_cell : Node
g_cell = main_cell (codes "g") (whole 1 ∷ [])

-- f(1) is a ring by two runs
abbrev pub RingIsEvaluated : Type 0
RingIsEvaluated = Evaluates (holding text.asking_round []) f_cell (Err (Ring (f_cell ∷ g_cell ∷ []))) 2 (holding text.asking_round [])

abbrev pub f_entry : Entry
f_entry = record { node = f_cell; reply = gives (whole 7); keys = key.Input f_cell ∷ key.Cells main (codes "f") ∷ key.Name main (codes "g") ∷ key.Cells main (codes "g") ∷ []; asks = g_cell ∷ []; reads = read.Node g_cell ∷ [] }

-- once g(1) is 7, f(1) is 7 by two runs
abbrev pub MendedIsEvaluated : Type 0
MendedIsEvaluated = Evaluates (holding text.mended []) f_cell (Ok (whole 7)) 2 (holding text.mended (literal_entry g_cell main (codes "g") 7 ∷ f_entry ∷ []))

-- c() in S[1] comes to the ring of S[1] by two runs
abbrev pub itself_cell : Node
itself_cell = Cell (in_item (whole 1)) (codes "c") []

abbrev pub ItemRingIsEvaluated : Type 0
ItemRingIsEvaluated = Evaluates (holding text.asking_itself []) itself_cell (Err (Ring (item (whole 1) ∷ []))) 2 (holding text.asking_itself [])
