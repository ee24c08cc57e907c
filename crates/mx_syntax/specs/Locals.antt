-- The locals of a formula.
use Rattle.std.specs.Prelude.{ℕ, List, [], ◌∷◌, ◌++◌, Option, None, Some, map, if◌then◌else◌}
use Rattle.std.specs.List.{list_any}
use Rattle.mx_syntax.specs.Lists.{flat}
use Rattle.mx_value.specs.Name.{same_name}
use Rattle.mx_syntax.specs.declared.stmt.Stmt.{Stmt, fold-Stmt}
use Rattle.mx_syntax.specs.declared.stmt.IfArm.{IfArm, fold-IfArm}
use Rattle.mx_syntax.specs.declared.stmt.Stmt.TheOpen.{Stmt-F, IfArm-F}
use Rattle.mx_syntax.specs.declared.stmt.Param.{Param}
use Rattle.mx_syntax.specs.declared.stmt.Formula.{Formula}

abbrev pub Name : Type 0
Name = List ℕ

-- with the name at the end, where it is not among them
abbrev pub add : List Name → Name → List Name
add names name = if list_any (λ (other : Name). same_name other name) names then names else names ++ name ∷ []

abbrev pub add_all : List Name → List Name → List Name
add_all names [] = names
add_all names (n ∷ ns) = add_all (add names n) ns

abbrev pub other_names : Option (List (List Name)) → List Name
other_names None = []
other_names (Some names) = flat names

abbrev pub stmt_step : Stmt-F (List Name) (List Name) → List Name
stmt_step Stmt-F.Pass = []
stmt_step (Stmt-F.Return e) = []
stmt_step (Stmt-F.ReturnItem entries) = []
stmt_step (Stmt-F.Assign name e) = name ∷ []
stmt_step (Stmt-F.Change name op e) = name ∷ []
stmt_step (Stmt-F.If arms other) = flat arms ++ other_names other
stmt_step (Stmt-F.For name over body) = name ∷ flat body

abbrev pub arm_step : IfArm-F (List Name) (List Name) → List Name
arm_step arm = flat arm.body

-- the names that a statement and those within it bind, in the order of the text
abbrev pub bound_by : Stmt → List Name
bound_by = fold-Stmt (List Name) (List Name) stmt_step arm_step

abbrev pub arm_bound : IfArm → List Name
arm_bound = fold-IfArm (List Name) (List Name) stmt_step arm_step

abbrev pub names_of : List Param → List Name
names_of params = map (λ (param : Param). param.name) params

-- the parameters, then the names that the statements bind, each where it is bound first
abbrev pub locals_of : Formula → List Name
locals_of formula = add_all (add_all [] (names_of formula.params)) (flat (map bound_by formula.body))
