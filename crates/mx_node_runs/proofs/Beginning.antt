-- How the code of a formula begins, with its arguments bound.
use Rattle.std.proofs.Common.{◌≡◌, ℕ, Bool, true, false, List, [], refl, sym, ap, ◌∙◌}
use Rattle.std.specs.Prelude.{IsErrOf, IsTrue, ◌↔◌, Result, Ok, Err}
use Rattle.std.specs.Prelude.{length}
use Rattle.mx_value.specs.declared.value.Value.{Value}
use Rattle.mx_syntax.specs.declared.stmt.Param.{Param}
use Rattle.mx_syntax.specs.declared.bind.BindRefusal.{BindRefusal}
use Rattle.mx_syntax.specs.declared.bind.BindRefusal.TheVariants.{WrongCount as BadCount}
use Rattle.mx_syntax.specs.Binding.{bound, is_wrong_count}
use Rattle.mx_code_law.specs.States.{state}
use Rattle.mx_code_law.specs.Laws.{begun}
use Rattle.mx_stack.specs.Flight.{Flight, on_top}
use Rattle.mx_node_runs.specs.Begins.{Enters}

-- a run enters its code, with as many locals and with those first ones that it wants
pub enters : (size other : ℕ) (xs full : List Value) (old new : Flight) → Enters size xs old new → size ≡ other → xs ≡ full → Enters other full old new
enters size other xs full old new e s x = λ i.
    e i ∙ ap (λ (k : ℕ). on_top (state 0 [] (begun k xs)) old) s ∙ ap (λ (ys : List Value). on_top (state 0 [] (begun other ys)) old) x

-- arguments that bind are right in number
right_count : (wrong : Bool) (r : Result (List Value) BindRefusal) (vs : List Value) → (IsErrOf r BadCount ↔ IsTrue wrong) → r ≡ Ok vs → wrong ≡ false
right_count false r vs h e = refl
right_count true r vs h e = absurd (let i : r ≡ Err BadCount = h.1 refl in cc)

module _ (params ps : List Param) (args xs : List Value) (r : Result (List Value) BindRefusal) (same : ps ≡ params) (copied : xs ≡ args) (counts : IsErrOf r BadCount ↔ IsTrue (is_wrong_count ps (length xs))) where
  moved : (b : Bool) → is_wrong_count ps (length xs) ≡ b → is_wrong_count params (length args) ≡ b
  moved b e = sym (ap (λ (qs : List Param). is_wrong_count qs (length xs)) same ∙ ap (λ (vs : List Value). is_wrong_count params (length vs)) copied) ∙ e

  -- arguments that bind
  pub right : (full : List Value) → r ≡ Ok full → is_wrong_count params (length args) ≡ false
  right full e = moved false (right_count (is_wrong_count ps (length xs)) r full counts e)

  pub in_full : (full : List Value) → full ≡ bound ps xs → full ≡ bound params args
  in_full full e = e ∙ ap (λ (qs : List Param). bound qs xs) same ∙ ap (λ (vs : List Value). bound params vs) copied

  -- arguments that do not
  pub wrong : (why : BindRefusal) → r ≡ Err why → why ≡ BadCount → is_wrong_count params (length args) ≡ true
  wrong why e is = moved true (counts.0 (e ∙ ap (λ (w : BindRefusal). Err w) is))
