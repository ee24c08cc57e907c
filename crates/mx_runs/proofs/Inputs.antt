-- What an input means and does.
use Rattle.std.proofs.Common.{◌≡◌, Bool, true, false, ◌&&◌, [], ◌∷◌, None, inl, inr, refl, sym, ◌∙◌, ap, subst}
use Rattle.mx_value.specs.declared.value.Value.{Value}
use Rattle.mx_value.specs.declared.node.Node.{Node}
use Rattle.mx_value.specs.declared.node.Node.TheVariants.{Cell, Item}
use Rattle.mx_edit.specs.declared.key.Key.{Key}
use Rattle.mx_edit.specs.declared.key.Key.TheVariants.{Input}
use Rattle.mx_edit.specs.declared.key.KeyResult.{KeyResult}
use Rattle.mx_edit.specs.declared.key.KeyResult.TheVariants as found
use Rattle.mx_runs.specs.Runs.{Model, Outcome, Gives, Ends, Looked}
use Rattle.mx_runs.specs.Inputs.{is_input, is_static, is_value, InputsEnd}
use Rattle.mx_runs.specs.Meaning.{Leads}
use Rattle.mx_runs.specs.Chains.{DoesAsk, Reaches, Itself, Through}
use Rattle.mx_runs.specs.Support.{LooksUp}
use Rattle.mx_runs.specs.Laws.{InputIsItsValue}
use Rattle.mx_runs.proofs.Runs.{asked_by_end}
use Rattle.mx_runs.proofs.Events.{looked_by_end}
use Rattle.mx_runs.proofs.Meanings.{finished}

-- the value that a key leads to
pub record LeadsToValue (r : KeyResult) : Type 0 where
  pub value : Value
  pub is : r ≡ found.Value value

value_there : (r : KeyResult) → is_value r ≡ true → LeadsToValue r
value_there (found.Value v) h = record { value = v; is = refl }
value_there r h = absurd (cc)

both : (a b : Bool) → (a && b) ≡ true → b ≡ true
both true b h = h
both false b h = absurd (cc)

pub input_value : (model : Model) (n : Node) → is_input model n ≡ true → LeadsToValue (model.look (Input n))
input_value model (Cell at name arguments) h =
    value_there (model.look (Input (Cell at name arguments))) (both (is_static at) (is_value (model.look (Input (Cell at name arguments)))) h)
input_value model (Item at arguments) h = absurd (cc)

module _ (model : Model) (n : Node) (ends : InputsEnd model) (i : is_input model n ≡ true) where
  abbrev pub v : LeadsToValue (model.look (Input n))
  v = input_value model n i

  abbrev pub gives : Outcome
  gives = Gives (record { value = v.value; namespace = None })

  pub whole : Leads model (model.body n) (Looked (Input n) ∷ []) (Ends gives)
  whole =
      let e = ends n i in
      subst (λ run. Leads model run (Looked (Input n) ∷ []) (Ends gives)) (sym e.starts) (refl, ap e.go v.is ∙ e.ends v.value)

  pub input_asks_none : (m : Node) → DoesAsk model n m → ⊥
  input_asks_none m a = asked_by_end model (model.body n) m a.go gives a.events (Looked (Input n) ∷ []) a.leads whole

  pub its_key : (k : Key) → LooksUp model n k → k ≡ Input n
  its_key k l = elim (looked_by_end model (model.body n) k l.go gives l.events (Looked (Input n) ∷ []) l.leads whole) [ inl e ↦ sym e | inr h ↦ absurd h ]

  pub looks_input_up : LooksUp model n (Input n)
  looks_input_up = let e = ends n i in record { events = []; go = e.go; leads = e.starts }

  -- an input reaches itself alone
  pub input_reaches : (m : Node) → Reaches model n m → n ≡ m
  input_reaches m Itself = refl
  input_reaches m (Through k a r) = absurd (input_asks_none k a)

pub input_is_its_value : InputIsItsValue
input_is_its_value model n ends i = record {
  value = (input_value model n i).value;
  put_in = (input_value model n i).is;
  means = finished model n (Looked (Input n) ∷ []) (gives model n ends i) tt (whole model n ends i);
  looks = λ key. (its_key model n ends i key, (λ e. subst (λ k. LooksUp model n k) (sym e) (looks_input_up model n ends i)));
  asks_none = input_asks_none model n ends i;
}
