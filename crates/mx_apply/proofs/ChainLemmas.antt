-- What edits keep, so that others can follow them.
use Rattle.std.proofs.Common.{◌≡◌, Bool, true, false, not, List, [], ◌∷◌, ◌++◌, length, Option, Some, None, ◌+◌, ◌⊎◌, inl, inr, refl, sym, ◌∙◌, ap, subst, arith}
use Rattle.std.specs.Prelude.{codes, if◌then◌else◌, ◌||◌}
use Rattle.std.specs.List.{filter, list_any}
use Rattle.std.proofs.lemmas.List.{length-append}
use Rattle.mx_value.specs.Name.{same_path, same_name}
use Rattle.mx_value.proofs.NodeSames.{path_decides}
use Rattle.mx_c3.specs.Lists.{Has, Distinct}
use Rattle.mx_c3.proofs.ListLemmas.{has_push_cases}
use Rattle.mx_edit.specs.declared.edit.Edit.{Edit}
use Rattle.mx_edit.specs.declared.edit.Edit.TheVariants as edit
use Rattle.mx_edit.specs.declared.reference.RefValue.{RefValue}
use Rattle.mx_model.specs.Records.{Name, Path, SpaceRecord, ModelRecord, beginning, empty_space}
use Rattle.mx_model.specs.Paths.{split_last}
use Rattle.mx_model.specs.Parents.{HasParent}
use Rattle.mx_model.specs.Rings.{IsDefined, HasBase, HasChild, Leads, LeadsThrough}
use Rattle.mx_model.specs.Kept.{StaysInPlace}
use Rattle.mx_model.specs.Change.{is_within, at_space, set_reference, remove_reference, define, without, define_cells, set_allow, change, bound_edit}
use Rattle.mx_model.specs.Refused.{has_double, record_trouble}
use Rattle.mx_model.specs.Indexed.{Kinds, ArePlaced}
use Rattle.mx_model.proofs.Filtered.{map_has}
use Rattle.mx_model.proofs.Places.{space_defined, defined_space, bases_sound}
use Rattle.mx_model.proofs.SoundLemmas.{valid_sound}
use Rattle.mx_model.proofs.Defined.{some_not, split_push, same_ends, defined_has}
use Rattle.mx_changes.proofs.Free.{either, new_free, free_of}
use Rattle.mx_changes.proofs.NewSpaces.{grown}
use Rattle.mx_apply.specs.Chain.{BasesAreOnce, IsRingless, MakesNoRing, CanGoOn, ValidGoesOn}

-- ---- spaces that were there

-- a space of this path and these bases was there before
record WasThere (text : ModelRecord) (s : SpaceRecord) : Type 0 where
  pub old : SpaceRecord
  pub among : Has text.spaces old
  pub path : old.path ≡ s.path
  pub bases : old.bases ≡ s.bases

abbrev AllWere : ModelRecord → ModelRecord → Type 0
AllWere text made = (s : SpaceRecord) → Has made.spaces s → WasThere text s

was_defined : (text made : ModelRecord) → AllWere text made → (path : Path) → IsDefined made path → IsDefined text path
was_defined text made were path d =
    let s = defined_space made path d in
    let w = were s.space s.among in
    let P : Path → Type 0 = λ p. IsDefined text p in
    subst P (w.path ∙ s.is) (space_defined text w.old w.among)

was_base : (text made : ModelRecord) → AllWere text made → (path base : Path) → HasBase made path base → HasBase text path base
was_base text made were path base h =
    let w = were h.space h.has in
    let P : List Path → Type 0 = λ bs. Has bs base in
    record { space = w.old; has = w.among; at = w.path ∙ h.at; among = subst P (sym w.bases) h.among }

was_child : (text made : ModelRecord) → AllWere text made → (path child : Path) → HasChild made path child → HasChild text path child
was_child text made were path child h = record { name = h.name; at = h.at; defined = was_defined text made were child h.defined }

was_step : (text made : ModelRecord) → AllWere text made → (from to : Path) → Leads made from to → Leads text from to
was_step text made were from to l = (
  was_defined text made were from l.0,
  elim l.1 [ inl c ↦ inl (was_child text made were from to c) | inr b ↦ inr (was_base text made were from to b) ],
)

was_led : (text made : ModelRecord) → AllWere text made → (from : Path) (paths : List Path) (to : Path) → LeadsThrough made from paths to → LeadsThrough text from paths to
was_led text made were from [] to l = was_step text made were from to l
was_led text made were from (next ∷ paths) to l = (was_step text made were from next l.0, was_led text made were next paths to l.1)

kept_once : (text made : ModelRecord) → AllWere text made → BasesAreOnce text → BasesAreOnce made
kept_once text made were d s h = let w = were s h in let P : List Path → Type 0 = λ bs. Distinct bs in subst P w.bases (d w.old w.among)

kept : (text made : ModelRecord) → AllWere text made → IsRingless text → IsRingless made
kept text made were r = record {
  bases = kept_once text made were r.bases;
  no_ring = λ path paths l. r.no_ring path paths (was_led text made were path paths path l);
}

same_were : (text made : ModelRecord) → made.spaces ≡ text.spaces → AllWere text made
same_were text made e s h = record {
  old = s;
  among = let P : List SpaceRecord → Type 0 = λ zs. Has zs s in subst P e h;
  path = refl;
  bases = refl;
}

changed_was : (text : ModelRecord) (f : SpaceRecord → SpaceRecord) (s old : SpaceRecord) (b : Bool) → StaysInPlace old (f old) → Has text.spaces old → (if b then f old else old) ≡ s → WasThere text s
changed_was text f s old true stays h e = record {
  old = old;
  among = h;
  path = sym stays.path ∙ ap (λ (z : SpaceRecord). z.path) e;
  bases = sym stays.bases ∙ ap (λ (z : SpaceRecord). z.bases) e;
}
changed_was text f s old false stays h e = record {
  old = old;
  among = h;
  path = ap (λ (z : SpaceRecord). z.path) e;
  bases = ap (λ (z : SpaceRecord). z.bases) e;
}

-- members of a space change
members_were : (text : ModelRecord) (path : Path) (f : SpaceRecord → SpaceRecord) → ((s : SpaceRecord) → StaysInPlace s (f s)) → AllWere text (at_space text path f)
members_were text path f stays s h =
    let m = map_has (λ (z : SpaceRecord). if same_path z.path path then f z else z) text.spaces s h in
    changed_was text f s m.from (same_path m.from.path path) (stays m.from) m.among m.is

among_by : (xs rest : List SpaceRecord) (x s : SpaceRecord) (b : Bool) → (Has rest s → Has xs s) → Has (if b then x ∷ rest else rest) s → (x ≡ s) ⊎ Has xs s
among_by xs rest x s true f h = elim h [ inl e ↦ inl e | inr r ↦ inr (f r) ]
among_by xs rest x s false f h = inr (f h)

filter_among : (p : SpaceRecord → Bool) (xs : List SpaceRecord) (s : SpaceRecord) → Has (filter p xs) s → Has xs s
filter_among p [] s h = h
filter_among p (x ∷ xs) s h = among_by xs (filter p xs) x s (p x) (filter_among p xs s) h

rest_were : (text : ModelRecord) (path : Path) → AllWere text (record text { spaces = filter (λ (s : SpaceRecord). not (is_within path s.path)) text.spaces })
rest_were text path s h = record { old = s; among = filter_among (λ (z : SpaceRecord). not (is_within path z.path)) text.spaces s h; path = refl; bases = refl }

-- ---- a new space

-- a path that is not there, and has no child where its space is there
record IsNew (text : ModelRecord) (new : Path) : Type 0 where
  pub free : IsDefined text new → ⊥
  pub childless : (name : Name) → IsDefined (grown text new) (new ++ name ∷ []) → ⊥

grown_base : (text : ModelRecord) (new a b : Path) → HasBase (grown text new) a b → HasBase text a b
grown_base text new a b h = by_case (has_push_cases text.spaces (empty_space new) h.space h.has)
  where
    by_case : Has text.spaces h.space ⊎ (empty_space new ≡ h.space) → HasBase text a b
    by_case (inl i) = record { space = h.space; has = i; at = h.at; among = h.among }
    by_case (inr e) = absurd (let P : SpaceRecord → Type 0 = λ z. Has z.bases b in subst P (sym e) h.among)

grown_defined : (text : ModelRecord) (new a : Path) → IsDefined (grown text new) a → IsDefined text a ⊎ (new ≡ a)
grown_defined text new a d =
    let s = defined_space (grown text new) a d in
    let P : Path → Type 0 = λ p. IsDefined text p in
    elim (has_push_cases text.spaces (empty_space new) s.space s.among) [
      | inl i ↦ inl (subst P s.is (space_defined text s.space i))
      | inr e ↦ inr (ap (λ (z : SpaceRecord). z.path) e ∙ s.is)
    ]

longer : (path : Path) (n : Name) → path ≡ path ++ n ∷ [] → ⊥
longer path n e = let l = ap length e in let m = length-append path (n ∷ []) in let f : length path ≡ length path + 1 = l ∙ m in omega arith

abbrev joined : Path → Name → Path
joined parent name = parent ++ name ∷ []

no_parent : (text : ModelRecord) (parent : Path) (name n : Name) → (IsDefined text (joined parent name) → ⊥) → HasParent text (Some (joined parent name, n)) → ⊥
no_parent text parent name n free h = elim h [ inl e ↦ some_not (parent, name) (sym (split_push parent name) ∙ ap split_last e) | inr d ↦ free d ]

no_child : (text : ModelRecord) (tables : List Kinds) (new : Path) (n : Name) → ArePlaced tables text → (HasParent text (Some (new, n)) → ⊥) → IsDefined (grown text new) (new ++ n ∷ []) → ⊥
no_child text tables new n placed none d =
    let P : Option (Path × Name) → Type 0 = λ o. HasParent text o in
    elim (grown_defined text new (new ++ n ∷ []) d) [
      | inl i ↦ none (subst P (split_push new n) (placed.parents (new ++ n ∷ []) (defined_has text (new ++ n ∷ []) i)))
      | inr e ↦ longer new n e
    ]

new_is : (text : ModelRecord) (tables : List Kinds) (parent : Path) (name : Name) → ArePlaced tables text → (IsDefined text (joined parent name) → ⊥) → IsNew text (joined parent name)
new_is text tables parent name placed free = record {
  free = free;
  childless = λ n d. no_child text tables (joined parent name) n placed (no_parent text parent name n free) d;
}

-- from the new space one comes nowhere
new_stops : (text : ModelRecord) (new : Path) → IsNew text new → (to : Path) → Leads (grown text new) new to → ⊥
new_stops text new n to l =
    elim l.1 [
      | inl c ↦ let P : Path → Type 0 = λ p. IsDefined (grown text new) p in n.childless c.name (subst P c.at c.defined)
      | inr b ↦ let h = grown_base text new new to b in let P : Path → Type 0 = λ p. IsDefined text p in n.free (subst P h.at (space_defined text h.space h.has))
    ]

begins_old : (text : ModelRecord) (new : Path) → IsNew text new → (from : Path) (paths : List Path) (to : Path) → LeadsThrough (grown text new) from paths to → new ≡ from → ⊥
begins_old text new n from [] to l e = let P : Path → Type 0 = λ p. Leads (grown text new) p to in new_stops text new n to (subst P (sym e) l)
begins_old text new n from (next ∷ paths) to l e = let P : Path → Type 0 = λ p. Leads (grown text new) p next in new_stops text new n next (subst P (sym e) l.0)

old_defined : (text : ModelRecord) (new a : Path) → (new ≡ a → ⊥) → IsDefined (grown text new) a → IsDefined text a
old_defined text new a other d = elim (grown_defined text new a d) [ inl i ↦ i | inr e ↦ absurd (other e) ]

old_child : (text : ModelRecord) (new a b : Path) → (new ≡ b → ⊥) → HasChild (grown text new) a b → HasChild text a b
old_child text new a b other c = record { name = c.name; at = c.at; defined = old_defined text new b other c.defined }

old_step : (text : ModelRecord) (new a b : Path) → (new ≡ a → ⊥) → (new ≡ b → ⊥) → Leads (grown text new) a b → Leads text a b
old_step text new a b first last l = (
  old_defined text new a first l.0,
  elim l.1 [ inl c ↦ inl (old_child text new a b last c) | inr h ↦ inr (grown_base text new a b h) ],
)

old_led : (text : ModelRecord) (new : Path) → IsNew text new → (from : Path) (paths : List Path) (to : Path) → (new ≡ to → ⊥) → LeadsThrough (grown text new) from paths to → LeadsThrough text from paths to
old_led text new n from [] to last l = old_step text new from to (begins_old text new n from [] to l) last l
old_led text new n from (next ∷ paths) to last l = (
  old_step text new from next (begins_old text new n from (next ∷ paths) to l) (begins_old text new n next paths to l.1) l.0,
  old_led text new n next paths to last l.1,
)

pub grown_once : (text : ModelRecord) (new : Path) → BasesAreOnce text → BasesAreOnce (grown text new)
grown_once text new d s h =
    let P : SpaceRecord → Type 0 = λ z. Distinct z.bases in
    elim (has_push_cases text.spaces (empty_space new) s h) [ inl i ↦ d s i | inr e ↦ subst P e tt ]

grown_ringless : (text : ModelRecord) (new : Path) → IsNew text new → IsRingless text → IsRingless (grown text new)
grown_ringless text new n r = record {
  bases = grown_once text new r.bases;
  no_ring = λ path paths l. r.no_ring path paths (old_led text new n path paths path (begins_old text new n path paths path l) l);
}

-- ---- new bases

or_true : (b : Bool) → (b || true) ≡ true
or_true true = refl
or_true false = refl

any_has : (path : Path) (paths : List Path) → Has paths path → list_any (same_path path) paths ≡ true
any_has path [] h = absurd h
any_has path (q ∷ paths) h =
    elim h [
      | inl e ↦ ap (λ (b : Bool). b || list_any (same_path path) paths) ((path_decides path q).1 (sym e))
      | inr r ↦ ap (λ (b : Bool). same_path path q || b) (any_has path paths r) ∙ or_true (same_path path q)
    ]

once : (paths : List Path) → has_double paths ≡ false → Distinct paths
once [] e = tt
once (path ∷ paths) e =
    let both = either (list_any (same_path path) paths) (has_double paths) e in
    (λ h. let f : true ≡ false = sym (any_has path paths h) ∙ both.0 in cc, once paths both.1)

abbrev based : List Path → SpaceRecord → SpaceRecord
based bases s = record s { bases = bases }

based_once : (bases : List Path) (s old : SpaceRecord) (b : Bool) → Distinct bases → Distinct old.bases → (if b then based bases old else old) ≡ s → Distinct s.bases
based_once bases s old true d was e = let P : SpaceRecord → Type 0 = λ z. Distinct z.bases in subst P e d
based_once bases s old false d was e = let P : SpaceRecord → Type 0 = λ z. Distinct z.bases in subst P e was

based_bases : (text : ModelRecord) (path : Path) (bases : List Path) → Distinct bases → BasesAreOnce text → BasesAreOnce (at_space text path (based bases))
based_bases text path bases d r s h =
    let m = map_has (λ (z : SpaceRecord). if same_path z.path path then based bases z else z) text.spaces s h in
    based_once bases s m.from (same_path m.from.path path) d (r m.from m.among) m.is

pub set_once : (text : ModelRecord) (path : Path) (bases : List Path) → record_trouble text (edit.SetBases path bases) ≡ None → BasesAreOnce text → BasesAreOnce (change text (edit.SetBases path bases))
set_once text path bases none r =
    let f = free_of text (edit.SetBases path bases) none in
    based_bases text path bases (once bases (either (has_double bases) _ f.values).0) r

-- ---- the edits

set_were : (text : ModelRecord) (path : Path) (name : Name) (value : RefValue) → AllWere text (set_reference text path name value)
set_were text [] name value = same_were text (set_reference text [] name value) refl
set_were text (first ∷ names) name value = members_were text (first ∷ names) (λ (s : SpaceRecord). record s { references = define same_name s.references name value }) (λ s. record { path = refl; bases = refl })

removed_were : (text : ModelRecord) (path : Path) (name : Name) → AllWere text (remove_reference text path name)
removed_were text [] name = same_were text (remove_reference text [] name) refl
removed_were text (first ∷ names) name = members_were text (first ∷ names) (λ (s : SpaceRecord). record s { references = without same_name s.references name }) (λ s. record { path = refl; bases = refl })

changed_ringless : (text : ModelRecord) (tables : List Kinds) (e : Edit) → ArePlaced tables text → record_trouble text e ≡ None → IsRingless text → MakesNoRing e (change text (bound_edit text e)) → IsRingless (change text (bound_edit text e))
changed_ringless text tables (edit.NewSpace parent name) placed none r m =
    let f = free_of text (edit.NewSpace parent name) none in
    grown_ringless text (parent ++ name ∷ []) (new_is text tables parent name placed (new_free text parent name f.names)) r
changed_ringless text tables (edit.DelSpace path) placed none r m = kept text (change text (edit.DelSpace path)) (rest_were text path) r
changed_ringless text tables (edit.SetBases path bases) placed none r m = record { bases = set_once text path bases none r.bases; no_ring = m }
changed_ringless text tables (edit.SetCells path name formula) placed none r m =
    kept text (change text (edit.SetCells path name formula)) (members_were text path (λ (s : SpaceRecord). record s { cells = define_cells s.cells name formula }) (λ s. record { path = refl; bases = refl })) r
changed_ringless text tables (edit.DelCells path name) placed none r m =
    kept text (change text (edit.DelCells path name)) (members_were text path (λ (s : SpaceRecord). record s { cells = without same_name s.cells name }) (λ s. record { path = refl; bases = refl })) r
changed_ringless text tables (edit.SetAllowNone path name flag) placed none r m =
    kept text (change text (edit.SetAllowNone path name flag)) (members_were text path (λ (s : SpaceRecord). record s { cells = set_allow s.cells name flag }) (λ s. record { path = refl; bases = refl })) r
changed_ringless text tables (edit.SetRef path name value) placed none r m = kept text (change text (edit.SetRef path name value)) (set_were text path name value) r
changed_ringless text tables (edit.DelRef path name) placed none r m = kept text (change text (edit.DelRef path name)) (removed_were text path name) r
changed_ringless text tables (edit.SetParams path params) placed none r m =
    kept text (change text (edit.SetParams path params)) (members_were text path (λ (s : SpaceRecord). record s { params = params }) (λ s. record { path = refl; bases = refl })) r
changed_ringless text tables (edit.SetInput at name arguments value) placed none r m =
    let made = change text (bound_edit text (edit.SetInput at name arguments value)) in kept text made (same_were text made refl) r
changed_ringless text tables (edit.DelInput at name arguments) placed none r m =
    let made = change text (bound_edit text (edit.DelInput at name arguments)) in kept text made (same_were text made refl) r
changed_ringless text tables (edit.SetTable name table) placed none r m =
    let made = change text (edit.SetTable name table) in kept text made (same_were text made refl) r

-- another edit can follow
pub goes_on : (text made : ModelRecord) (tables tables' : List Kinds) (e : Edit) → ArePlaced tables text → ArePlaced tables' made → record_trouble text e ≡ None → made ≡ change text (bound_edit text e) → IsRingless text → MakesNoRing e made → CanGoOn made
goes_on text made tables tables' e placed placed' none is r m =
    let P : ModelRecord → Type 0 = λ z. MakesNoRing e z in
    let Q : ModelRecord → Type 0 = λ z. IsRingless z in
    let kept = subst Q (sym is) (changed_ringless text tables e placed none r (subst P is m)) in
    record { ringless = kept; sound = record { bases = bases_sound made kept.bases kept.no_ring; paths = placed'.once } }

-- ---- texts that edits can begin from

abbrev main : Path
main = codes "Main" ∷ []

begin_path : (path : Path) → IsDefined beginning path → main ≡ path
begin_path path d =
    let s = defined_space beginning path d in
    elim s.among [ inl e ↦ ap (λ (z : SpaceRecord). z.path) e ∙ s.is | inr n ↦ absurd n ]

begin_child : (path child : Path) → IsDefined beginning path → HasChild beginning path child → ⊥
begin_child path child d c =
    let ends = same_ends [] path (codes "Main") c.name (begin_path child c.defined ∙ c.at) in
    let e : [] ≡ main = ends.0 ∙ sym (begin_path path d) in cc

begin_stops : (from to : Path) → Leads beginning from to → ⊥
begin_stops from to l =
    elim l.1 [
      | inl c ↦ begin_child from to l.0 c
      | inr b ↦ elim b.has [ inl e ↦ let P : SpaceRecord → Type 0 = λ z. Has z.bases to in subst P (sym e) b.among | inr n ↦ n ]
    ]

begin_no_ring : (path : Path) (paths : List Path) → LeadsThrough beginning path paths path → ⊥
begin_no_ring path [] l = begin_stops path path l
begin_no_ring path (next ∷ paths) l = begin_stops path next l.0

begin_bases : (s : SpaceRecord) → Has beginning.spaces s → Distinct s.bases
begin_bases s h = elim h [ inl e ↦ let P : SpaceRecord → Type 0 = λ z. Distinct z.bases in subst P e tt | inr n ↦ absurd n ]

pub begins : CanGoOn beginning
begins = record {
  ringless = record { bases = begin_bases; no_ring = begin_no_ring };
  sound = record { bases = bases_sound beginning begin_bases begin_no_ring; paths = (λ h. h, tt) };
}

pub valid_goes_on : ValidGoesOn
valid_goes_on text valid = record {
  ringless = record { bases = λ s h. (valid.bases s h).0; no_ring = valid.no_ring };
  sound = valid_sound text valid;
}
