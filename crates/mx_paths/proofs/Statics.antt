-- Static paths are made of names, and so is what they are below.
use Rattle.std.proofs.Common.{◌≡◌, true, false, List, [], ◌∷◌, ◌++◌, Option, Some, None, inl, inr, refl, sym, ◌∙◌, ap, subst}
use Rattle.std.specs.Prelude.{IsTrue, option_and_then}
use Rattle.std.specs.List.{filter_map}
use Rattle.mx_value.specs.Name.{is_name}
use Rattle.mx_c3.specs.declared.space.SpaceId.{SpaceId}
use Rattle.mx_c3.specs.Lists.{Has}
use Rattle.mx_model.specs.Records.{Name, Path, SpaceRecord, ModelRecord}
use Rattle.mx_model.specs.declared.layers.Layered.{Layered}
use Rattle.mx_model.specs.declared.layers.Layered.TheVariants.{Layers, NoOrder, NotStatic}
use Rattle.mx_model.specs.Layers.{paths_of, id_of, space_of, child_of, below, further, at_top, of_children, layers, is_there, is_static}
use Rattle.mx_model.proofs.Filtered.{place_has, has_filter}
use Rattle.mx_model.proofs.Places.{id_at}
use Rattle.mx_model.proofs.LayerSteps.{further_more}
use Rattle.mx_paths.specs.Names.{AreNames, IsNamed}
use Rattle.mx_paths.specs.Walking.{IsParent}
use Rattle.mx_paths.proofs.PathOrder.{names_init}

id_names : (text : ModelRecord) (path : Path) (s : SpaceId) → IsNamed text → id_of text path ≡ Some s → AreNames path
id_names text path s named e = named.names path (place_has (paths_of text) s.0 path (id_at text path s e))

child_name_by : (text : ModelRecord) (name : Name) (c : SpaceId) (space : Option SpaceRecord) → IsNamed text → option_and_then (λ (space : SpaceRecord). id_of text (space.path ++ name ∷ [])) space ≡ Some c → IsTrue (is_name name)
child_name_by text name c None named e = absurd (let f : None ≡ Some c = e in cc)
child_name_by text name c (Some space) named e = (names_init space.path name (id_names text (space.path ++ name ∷ []) c named e)).1

child_name : (text : ModelRecord) (name : Name) (s c : SpaceId) → IsNamed text → child_of text name s ≡ Some c → IsTrue (is_name name)
child_name text name s c named e = child_name_by text name c (space_of text s) named e

far_not : (text : ModelRecord) (names : List Name) → further text NotStatic names ≡ NotStatic
far_not text [] = refl
far_not text (n ∷ ns) = far_not text ns

gone : (text : ModelRecord) (names : List Name) → is_there (further text NotStatic names) ≡ true → ⊥
gone text names e = let f : is_there (further text NotStatic names) ≡ false = ap is_there (far_not text names) in let g : true ≡ false = sym e ∙ f in cc

first_name : (text : ModelRecord) (n : Name) (ns : List Name) (spaces children : List SpaceId) → IsNamed text → filter_map (child_of text n) spaces ≡ children → is_there (further text (of_children text children) ns) ≡ true → IsTrue (is_name n)
first_name text n ns spaces [] named e t = absurd (gone text ns t)
first_name text n ns spaces (d ∷ ds) named e t =
    let P : List SpaceId → Type 0 = λ xs. Has xs d in
    let m = has_filter (child_of text n) spaces d (subst P (sym e) (inl refl)) in
    child_name text n m.from d named m.is

further_names : (text : ModelRecord) (reached : Layered) (names : List Name) → IsNamed text → is_there (further text reached names) ≡ true → AreNames names
further_names text reached [] named t = tt
further_names text (Layers spaces) (n ∷ ns) named t =
    (first_name text n ns spaces (filter_map (child_of text n) spaces) named refl t, further_names text (below text (Layers spaces) n) ns named t)
further_names text NoOrder (n ∷ ns) named t = absurd (gone text ns t)
further_names text NotStatic (n ∷ ns) named t = absurd (gone text ns t)

top_names : (text : ModelRecord) (n : Name) (ns : List Name) (found : Option SpaceId) → IsNamed text → id_of text (n ∷ []) ≡ found → is_there (further text (at_top text found) ns) ≡ true → AreNames (n ∷ ns)
top_names text n ns None named e t = absurd (gone text ns t)
top_names text n ns (Some s) named e t = ((id_names text (n ∷ []) s named e).0, further_names text (at_top text (Some s)) ns named t)

pub static_names : (text : ModelRecord) (path : Path) → IsNamed text → IsTrue (is_static text path) → AreNames path
static_names text [] named t = tt
static_names text (n ∷ ns) named t = top_names text n ns (id_of text (n ∷ [])) named refl t

pub parent_names : (text : ModelRecord) (path : Path) → IsNamed text → IsParent text path → AreNames path
parent_names text path named p = elim p [ inl e ↦ subst AreNames (sym e) tt | inr t ↦ static_names text path named t ]

-- ---- parents

there_below : (text : ModelRecord) (reached : Layered) (n : Name) → is_there (below text reached n) ≡ true → is_there reached ≡ true
there_below text (Layers spaces) n t = refl
there_below text NoOrder n t = refl
there_below text NotStatic n t = t

-- one name more, below a path with layers
pub layers_push : (text : ModelRecord) (path : Path) (n : Name) (spaces : List SpaceId) → layers text path ≡ Layers spaces → layers text (path ++ n ∷ []) ≡ below text (Layers spaces) n
layers_push text [] n spaces e = absurd (let f : NotStatic ≡ Layers spaces = e in cc)
layers_push text (x ∷ xs) n spaces e = further_more text (at_top text (id_of text (x ∷ []))) xs n ∙ ap (λ (r : Layered). below text r n) e

pub parent_static : (text : ModelRecord) (path : Path) (n : Name) → IsTrue (is_static text (path ++ n ∷ [])) → IsParent text path
parent_static text [] n t = inl refl
parent_static text (x ∷ xs) n t =
    let e = further_more text (at_top text (id_of text (x ∷ []))) xs n in
    inr (there_below text (layers text (x ∷ xs)) n (sym (ap is_there e) ∙ t))

pub layers_static : (text : ModelRecord) (path : Path) (spaces : List SpaceId) → layers text path ≡ Layers spaces → IsTrue (is_static text path)
layers_static text path spaces e = ap is_there e

pub not_there : (text : ModelRecord) (path : Path) → layers text path ≡ NotStatic → IsTrue (is_static text path) → ⊥
not_there text path e t = let f : true ≡ false = sym t ∙ ap is_there e in cc

-- ---- the last name

pub record Ended (path : Path) : Type 0 where
  pub parent : Path
  pub name : Name
  pub is : path ≡ parent ++ name ∷ []

ended_more : (x : Name) (path : Path) → Ended path → Ended (x ∷ path)
ended_more x path e = record { parent = x ∷ e.parent; name = e.name; is = ap (λ (p : Path). x ∷ p) e.is }

pub ended : (x : Name) (path : Path) → Ended (x ∷ path)
ended x [] = record { parent = []; name = x; is = refl }
ended x (y ∷ path) = ended_more x (y ∷ path) (ended y path)

pub static_ended : (text : ModelRecord) (path : Path) → IsTrue (is_static text path) → Ended path
static_ended text [] t = absurd (let f : false ≡ true = t in cc)
static_ended text (x ∷ path) t = ended x path
