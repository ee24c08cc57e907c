-- Names, added one after the other.
use Rattle.std.proofs.Common.{◌≡◌, ℕ, ◌+◌, ◌<◌, List, [], ◌∷◌, ◌++◌, length, get_or, map, take, Some, refl, sym, ap, ◌∙◌}
use Rattle.std.proofs.lemmas.List.{map-append}
use Rattle.mx_syntax.specs.declared.stmt.Param.{Param}
use Rattle.mx_syntax.specs.declared.stmt.Stmt.{Stmt, fold-roll-Stmt}
use Rattle.mx_syntax.specs.declared.stmt.Stmt.TheVariants as made
use Rattle.mx_syntax.specs.declared.stmt.Stmt.TheOpen.{Stmt-F}
use Rattle.mx_syntax.specs.declared.stmt.IfArm.{IfArm, out-IfArm, fold_out-IfArm}
use Rattle.mx_syntax.specs.Lists.{flat}
use Rattle.mx_syntax.specs.Locals.{Name, add, add_all, names_of, bound_by, arm_bound, stmt_step, arm_step}
use Rattle.mx_syntax.proofs.ListLemmas.{take_next, flat_next}

pub add_all_append : (names ns ms : List Name) → add_all names (ns ++ ms) ≡ add_all (add_all names ns) ms
add_all_append names [] ms = refl
add_all_append names (n ∷ ns) ms = add_all_append (add names n) ns ms

pub add_flat_more : {X : Type 0} (f : X → List Name) (names : List Name) (xs : List X) (i : ℕ) (x : X) → i < length xs → x ≡ get_or xs i x → add_all (add_all names (flat (map f (take i xs)))) (f x) ≡ add_all names (flat (map f (take (i + 1) xs)))
add_flat_more f names xs i x lt is = sym (add_all_append names (flat (map f (take i xs))) (f x)) ∙ ap (λ (ns : List Name). add_all names ns) (sym (flat_next f xs i x lt is))

pub add_param_more : (names : List Name) (params : List Param) (i : ℕ) (param : Param) → i < length params → param ≡ get_or params i param → add (add_all names (names_of (take i params))) param.name ≡ add_all names (names_of (take (i + 1) params))
add_param_more names params i param lt is =
    sym (add_all_append names (names_of (take i params)) (param.name ∷ []))
    ∙ ap (λ (ns : List Name). add_all names ns) (sym (ap names_of (take_next params i param lt is) ∙ map-append (λ (p : Param). p.name) (take i params) (param ∷ [])))

pub arm_is : (arm : IfArm) → arm_bound arm ≡ flat (map bound_by (out-IfArm arm).body)
arm_is arm = fold_out-IfArm (List Name) (List Name) stmt_step arm_step arm

pub if_else_is : (arms : List IfArm) (body : List Stmt) → bound_by (made.If arms (Some body)) ≡ flat (map arm_bound arms) ++ flat (map bound_by body)
if_else_is arms body = ap bound_by (sym (made.rolls-If arms (Some body))) ∙ fold-roll-Stmt (List Name) (List Name) stmt_step arm_step (Stmt-F.If arms (Some body))
