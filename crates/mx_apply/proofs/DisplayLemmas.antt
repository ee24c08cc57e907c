-- Whether one of several statements or arms has a display.
use Rattle.std.proofs.Common.{◌≡◌, Bool, List, [], ◌∷◌, map, refl, ap}
use Rattle.std.specs.Prelude.{◌||◌}
use Rattle.std.specs.List.{list_any}
use Rattle.mx_syntax.specs.declared.stmt.Stmt.{Stmt}
use Rattle.mx_syntax.specs.declared.stmt.IfArm.{IfArm}
use Rattle.mx_model.specs.Displays.{any, has_display, arm_display}

pub any_stmt : (body : List Stmt) → any (map has_display body) ≡ list_any has_display body
any_stmt [] = refl
any_stmt (stmt ∷ body) = ap (λ (b : Bool). has_display stmt || b) (any_stmt body)

pub any_arms : (arms : List IfArm) → any (map arm_display arms) ≡ list_any arm_display arms
any_arms [] = refl
any_arms (arm ∷ arms) = ap (λ (b : Bool). arm_display arm || b) (any_arms arms)
