-- The tables of kinds tell what each space has itself of a name.
use Rattle.std.proofs.Common.{◌≡◌, ℕ, zero, suc, ◌<◌, List, [], ◌∷◌, length, Option, Some, None, Result, Ok, Err, IfOk, slice_get, refl, sym, ◌∙◌, ap, subst, arith}
use Rattle.std.specs.Prelude.{option_map, option_and_then}
use Rattle.std.specs.Map.{lookup}
use Rattle.std.specs.declared.alloc.AllocError.{AllocError}
use Rattle.std.proofs.lemmas.Option.{same_Some}
use Rattle.mx_value.specs.Name.{same_name}
use Rattle.mx_model.specs.Records.{Name, SpaceRecord, ModelRecord}
use Rattle.mx_c3.specs.declared.space.SpaceId.{SpaceId}
use Rattle.mx_model.specs.Binding.{own_member}
use Rattle.mx_model.specs.Lookup.{kind_of}
use Rattle.mx_model.specs.Indexed.{Kinds, Tells, TellsAt, TellAll}

-- there are as many tables as spaces
pub tables_many : (text : ModelRecord) (spaces : List SpaceRecord) (tables : List Kinds) → TellAll text spaces tables → length tables ≡ length spaces
tables_many text [] [] t = refl
tables_many text [] (k ∷ ks) t = absurd t
tables_many text (s ∷ ss) [] t = absurd t
tables_many text (s ∷ ss) (k ∷ ks) t = ap suc (tables_many text ss ks t.1)

-- the place of a space has a table
pub table_there : (text : ModelRecord) (spaces : List SpaceRecord) (tables : List Kinds) (n : ℕ) → TellAll text spaces tables → n < length spaces → slice_get tables n ≡ None → ⊥
table_there text [] [] n t within e = omega arith
table_there text [] (k ∷ ks) n t within e = t
table_there text (s ∷ ss) [] n t within e = t
table_there text (s ∷ ss) (k ∷ ks) zero t within e = let f : Some k ≡ None = e in cc
table_there text (s ∷ ss) (k ∷ ks) (suc n) t within e = table_there text ss ks n t.1 (omega arith) e

-- the table of a place tells the space of that place
pub told_at : (text : ModelRecord) (spaces : List SpaceRecord) (tables : List Kinds) (n : ℕ) (kinds : Kinds) (name : Name) → TellAll text spaces tables → slice_get tables n ≡ Some kinds → lookup (same_name name) kinds ≡ option_map kind_of (option_and_then (own_member text name) (slice_get spaces n))
told_at text [] [] n kinds name t e = absurd (let f : None ≡ Some kinds = e in cc)
told_at text [] (k ∷ ks) n kinds name t e = absurd t
told_at text (s ∷ ss) [] n kinds name t e = absurd t
told_at text (s ∷ ss) (k ∷ ks) zero kinds name t e = ap (lookup (same_name name)) (sym (same_Some k kinds e)) ∙ t.0 name
told_at text (s ∷ ss) (k ∷ ks) (suc n) kinds name t e = told_at text ss ks n kinds name t.1 e

-- the table of a place tells the space of that place
pub tells_at : (text : ModelRecord) (spaces : List SpaceRecord) (tables : List Kinds) (n : ℕ) (s : SpaceRecord) (kinds : Kinds) → TellAll text spaces tables → slice_get spaces n ≡ Some s → slice_get tables n ≡ Some kinds → Tells text s kinds
tells_at text spaces tables n s kinds t at e name =
    told_at text spaces tables n kinds name t e ∙ ap (λ (o : Option SpaceRecord). option_map kind_of (option_and_then (own_member text name) o)) at

-- ---- kinds by their parts

pub ok_more : {X E : Type 0} (P Q : X → Type 0) (r : Result X E) → ((x : X) → P x → Q x) → IfOk r P → IfOk r Q
ok_more P Q (Ok x) f p = f x p
ok_more P Q (Err e) f p = p

pub told_all : (text : ModelRecord) (kinds : Kinds) (at : SpaceId) (r : Result Kinds AllocError) → TellsAt text at kinds → IfOk r (λ copied. copied ≡ kinds) → IfOk r (TellsAt text at)
told_all text kinds at r tells ok =
    ok_more (λ copied. copied ≡ kinds) (TellsAt text at) r (λ copied same. let P : Kinds → Type 0 = λ t. TellsAt text at t in subst P (sym same) tells) ok
