-- What a clearing drops.
use Rattle.std.specs.Prelude.{List}
use Rattle.mx_edit.specs.declared.scope.Scope.{Scope}
use Rattle.mx_vertices.specs.Kept.{Kept, IsToGo, IsTouched, Sifts}
use Rattle.mx_memo_laws.specs.Laws.{test_of}

-- what is in the scope goes, and all that reaches it
abbrev pub DropsScope : Scope → List Kept → List Kept → Type 0
DropsScope scope held kept = Sifts (IsTouched (IsToGo (test_of scope)) held) held kept
