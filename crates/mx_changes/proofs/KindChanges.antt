-- The table of kinds of a space that changes under one name.
use Rattle.std.proofs.Common.{◌≡◌, Bool, true, false, [], ◌∷◌, ◌++◌, Option, Some, None, Result, IfOk, ◌⊎◌, inl, inr, refl, sym, ◌∙◌, ap, subst}
use Rattle.std.specs.Prelude.{option_map, is_some, if◌then◌else◌}
use Rattle.std.specs.Map.{lookup}
use Rattle.std.specs.declared.alloc.AllocError.{AllocError}
use Rattle.mx_value.specs.Name.{same_name}
use Rattle.mx_model.specs.Records.{Name, Path, CellsRecord, SpaceRecord, ModelRecord}
use Rattle.mx_edit.specs.declared.reference.RefValue.{RefValue}
use Rattle.mx_c3.specs.declared.space.SpaceId.{SpaceId}
use Rattle.mx_model.specs.declared.kind.Kind.{Kind}
use Rattle.mx_model.specs.declared.kind.Kind.TheVariants as kind
use Rattle.mx_model.specs.Layers.{id_of}
use Rattle.mx_model.specs.Binding.{Child, or_child, or_other, own_member}
use Rattle.mx_model.specs.Lookup.{kind_of}
use Rattle.mx_changes.specs.Kept.{KeepsOthers}
use Rattle.mx_model.specs.Change.{define, without}
use Rattle.mx_model.proofs.NameLemmas.{same_is, define_own, define_other, without_other}
use Rattle.mx_model.specs.Indexed.{Kinds, Tells}
use Rattle.mx_model.proofs.KindLemmas.{ok_more}

-- ---- a change under one name

-- the other names have what they had
own_kept : (text : ModelRecord) (name other : Name) (old new : SpaceRecord) → KeepsOthers name old new → same_name name other ≡ false → own_member text other new ≡ own_member text other old
own_kept text name other old new keeps n =
    ap (λ (p : Path). or_other (or_child (if is_some (id_of text (p ++ other ∷ [])) then Some Child else None) p (lookup (same_name other) new.references)) (lookup (same_name other) new.cells)) keeps.path ∙
    ap (λ (r : Option RefValue). or_other (or_child (if is_some (id_of text (old.path ++ other ∷ [])) then Some Child else None) old.path r) (lookup (same_name other) new.cells)) (keeps.references other n) ∙
    ap (or_other (or_child (if is_some (id_of text (old.path ++ other ∷ [])) then Some Child else None) old.path (lookup (same_name other) old.references))) (keeps.cells other n)

tells_by : (text : ModelRecord) (name : Name) (old new : SpaceRecord) (kinds table : Kinds) → Tells text old kinds → KeepsOthers name old new → lookup (same_name name) table ≡ option_map kind_of (own_member text name new) → ((other : Name) → same_name name other ≡ false → lookup (same_name other) table ≡ lookup (same_name other) kinds) → (other : Name) (b : Bool) → same_name name other ≡ b → lookup (same_name other) table ≡ option_map kind_of (own_member text other new)
tells_by text name old new kinds table tells keeps own others other true e =
    let P : Name → Type 0 = λ n. lookup (same_name n) table ≡ option_map kind_of (own_member text n new) in subst P (same_is name other e) own
tells_by text name old new kinds table tells keeps own others other false e =
    others other e ∙ tells other ∙ ap (option_map kind_of) (sym (own_kept text name other old new keeps e))

-- a table that has the kind of that name, and those of the others, tells the changed space
tells_changed : (text : ModelRecord) (name : Name) (old new : SpaceRecord) (kinds table : Kinds) → Tells text old kinds → KeepsOthers name old new → lookup (same_name name) table ≡ option_map kind_of (own_member text name new) → ((other : Name) → same_name name other ≡ false → lookup (same_name other) table ≡ lookup (same_name other) kinds) → Tells text new table
tells_changed text name old new kinds table tells keeps own others other = tells_by text name old new kinds table tells keeps own others other (same_name name other) refl

pub tells_same : (text : ModelRecord) (name : Name) (old new : SpaceRecord) (kinds : Kinds) → Tells text old kinds → KeepsOthers name old new → lookup (same_name name) kinds ≡ option_map kind_of (own_member text name new) → Tells text new kinds
tells_same text name old new kinds tells keeps own = tells_changed text name old new kinds kinds tells keeps own (λ other n. refl)

pub tells_defined : (text : ModelRecord) (name : Name) (old new : SpaceRecord) (kinds : Kinds) (kind : Kind) → Tells text old kinds → KeepsOthers name old new → Some kind ≡ option_map kind_of (own_member text name new) → Tells text new (define same_name kinds name kind)
tells_defined text name old new kinds kind tells keeps own =
    tells_changed text name old new kinds (define same_name kinds name kind) tells keeps (define_own name kinds kind ∙ own) (λ other n. define_other name other kinds kind n)

pub tells_removed : (text : ModelRecord) (name : Name) (old new : SpaceRecord) (kinds : Kinds) → Tells text old kinds → KeepsOthers name old new → None ≡ option_map kind_of (own_member text name new) → lookup (same_name name) (without same_name kinds name) ≡ None → Tells text new (without same_name kinds name)
tells_removed text name old new kinds tells keeps own gone =
    tells_changed text name old new kinds (without same_name kinds name) tells keeps (gone ∙ own) (λ other n. without_other name other kinds n)

-- ---- kinds by their parts

pub defined_all : (text : ModelRecord) (name : Name) (old new : SpaceRecord) (kinds : Kinds) (kind : Kind) (r : Result Kinds AllocError) → Tells text old kinds → KeepsOthers name old new → Some kind ≡ option_map kind_of (own_member text name new) → IfOk r (λ defined. ((lookup (same_name name) kinds ≡ Some kind) × (defined ≡ kinds)) ⊎ (defined ≡ define same_name kinds name kind)) → IfOk r (Tells text new)
defined_all text name old new kinds kind r tells keeps own ok =
    ok_more (λ defined. ((lookup (same_name name) kinds ≡ Some kind) × (defined ≡ kinds)) ⊎ (defined ≡ define same_name kinds name kind)) (Tells text new) r (λ table h.
    let P : Kinds → Type 0 = λ t. Tells text new t in
    elim h [
      | inl s ↦ subst P (sym s.1) (tells_same text name old new kinds tells keeps (s.0 ∙ own))
      | inr d ↦ subst P (sym d) (tells_defined text name old new kinds kind tells keeps own)
    ]) ok

pub removed_all : (text : ModelRecord) (name : Name) (old new : SpaceRecord) (kinds : Kinds) (r : Result Kinds AllocError) → Tells text old kinds → KeepsOthers name old new → None ≡ option_map kind_of (own_member text name new) → IfOk r (λ rest. (rest ≡ without same_name kinds name) × (lookup (same_name name) rest ≡ None)) → IfOk r (Tells text new)
removed_all text name old new kinds r tells keeps own ok =
    ok_more (λ rest. (rest ≡ without same_name kinds name) × (lookup (same_name name) rest ≡ None)) (Tells text new) r (λ table h.
    let P : Kinds → Type 0 = λ t. Tells text new t in
    subst P (sym h.0) (tells_removed text name old new kinds tells keeps own (ap (lookup (same_name name)) (sym h.0) ∙ h.1))) ok

-- the kind of a child, where the space has nothing else of the name
pub own_by : (text : ModelRecord) (name : Name) (s : SpaceRecord) (path : Path) (found : Option SpaceId) → None ≡ lookup (same_name name) s.cells → None ≡ lookup (same_name name) s.references → path ≡ s.path ++ name ∷ [] → found ≡ id_of text path → option_map (λ (k : SpaceId). kind.Child) found ≡ option_map kind_of (own_member text name s)
own_by text name s path found c r p f =
    child_of found ∙
    ap (λ (o : Option SpaceId). option_map kind_of (if is_some o then Some Child else None)) (f ∙ ap (id_of text) p) ∙
    ap (λ (o : Option RefValue). option_map kind_of (or_child (if is_some (id_of text (s.path ++ name ∷ [])) then Some Child else None) s.path o)) r ∙
    ap (λ (o : Option CellsRecord). option_map kind_of (or_other (or_child (if is_some (id_of text (s.path ++ name ∷ [])) then Some Child else None) s.path (lookup (same_name name) s.references)) o)) c
  where
    child_of : (found : Option SpaceId) → option_map (λ (k : SpaceId). kind.Child) found ≡ option_map kind_of (if is_some found then Some Child else None)
    child_of None = refl
    child_of (Some s) = refl
