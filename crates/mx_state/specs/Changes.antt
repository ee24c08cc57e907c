-- What an edit and a clearing make of a state.
use Rattle.std.specs.Prelude.{◌≡◌, Ok}
use Rattle.mx_edit.specs.declared.edit.Edit.{Edit}
use Rattle.mx_edit.specs.declared.scope.Scope.{Scope}
use Rattle.mx_answers.specs.Retention.{Retains, IsInScope, Clears, HasChanged, IsTouched, Sifts}
use Rattle.mx_model.specs.Keys.{key_result, is_changed}
use Rattle.mx_model.specs.Apply.{Apply}
use Rattle.mx_state.specs.Model.{model_of}
use Rattle.mx_state.specs.State.{State}

-- An accepted edit: the text is the edited one, and held are those in whose support no key is changed.
pub record Edits (s : State) (e : Edit) (t : State) : Type 0 where
  pub accepted : Apply s.text e (Ok t.text)
  pub retains : Retains (model_of s.text) (key_result t.text) s.held t.held
  pub limit : t.limit ≡ s.limit

-- from one text to another what is held is sifted: what recorded a changed key goes, and what asked it
pub record IsSifted (s t : State) : Type 0 where
  pub sifts : Sifts (IsTouched (HasChanged (is_changed s.text t.text)) s.held) s.held t.held
  pub limit : t.limit ≡ s.limit

-- A clearing: held are those that reach nothing held in scope.
pub record Clearing (s : State) (scope : Scope) (t : State) : Type 0 where
  pub clears : Clears (model_of s.text) (IsInScope scope) s.held t.held
  pub text : t.text ≡ s.text
  pub limit : t.limit ≡ s.limit

-- what is held is sifted: what is in scope goes, and what asked it
pub record IsSiftedByScope (s : State) (scope : Scope) (t : State) : Type 0 where
  pub sifts : Sifts (IsTouched (IsInScope scope) s.held) s.held t.held
  pub text : t.text ≡ s.text
  pub limit : t.limit ≡ s.limit
