-- Spaces that go with all below them: what stands beside the others.
use Rattle.std.proofs.Common.{◌≡◌, ℕ, ◌+◌, ◌≤◌, Bool, true, false, not, ◌&&◌, List, [], ◌∷◌, ◌++◌, map, length, filter, take, slice_get, Option, Some, None, Result, IfOk, inl, inr, refl, sym, ◌∙◌, ap, subst, arith}
use Rattle.std.specs.Prelude.{IsTrue, option_map, if◌then◌else◌}
use Rattle.std.specs.Map.{lookup}
use Rattle.std.proofs.lemmas.List.{append-nil, take_more, take_all}
use Rattle.std.proofs.lemmas.Option.{slice_get_within, get_or_from_slice_get}
use Rattle.std.specs.Cmp.Lexicographic.{pointwise}
use Rattle.mx_value.specs.Name.{same_name}
use Rattle.mx_c3.specs.Lists.{Has, Distinct}
use Rattle.mx_edit.specs.declared.reference.RefValue.{RefValue}
use Rattle.mx_model.specs.declared.kind.Kind.TheVariants as kind
use Rattle.mx_model.specs.Records.{Name, Path, CellsRecord, SpaceRecord, ModelRecord}
use Rattle.mx_model.specs.Paths.{split_last, is_defined}
use Rattle.mx_model.specs.Binding.{Member, Child, or_child, or_other, own_member}
use Rattle.mx_model.specs.Change.{is_within}
use Rattle.mx_changes.specs.Kept.{LosesChild, IsLeft, NoParent, Parent}
use Rattle.mx_model.specs.Lookup.{kind_of}
use Rattle.mx_model.specs.Parents.{HasParent}
use Rattle.mx_model.specs.Indexed.{Kinds, Tells, TellAll, ArePlaced}
use Rattle.mx_model.proofs.Defined.{split_is, same_ends, defined_has, same_defined, own_defined}
use Rattle.mx_model.proofs.NameLemmas.{same_is, is_same, without_other}
use Rattle.std.specs.declared.alloc.AllocError.{AllocError}
use Rattle.mx_model.proofs.KindLemmas.{ok_more}
use Rattle.mx_changes.proofs.NewSpaces.{tells_push}

abbrev path_in : SpaceRecord → Path
path_in s = s.path

abbrev pub stays : Path → SpaceRecord → Bool
stays path s = not (is_within path s.path)

-- the text without the spaces of a path and below it
abbrev pub cut : ModelRecord → Path → ModelRecord
cut text path = record text { spaces = filter (stays path) text.spaces }

true_not : true ≡ false → ⊥
true_not e = let f : true ≡ false = e in absurd (cc)

-- ---- what lies within a path

within_by : (b : Bool) (r s : Bool) → (b && r) ≡ true → (r ≡ true → s ≡ true) → (b && s) ≡ true
within_by true r s e f = f e
within_by false r s e f = e

-- a path is within another where that begins with it
pub within_starts : (path other : Path) → pointwise same_name path (take (length path) other) ≡ is_within path other
within_starts [] [] = refl
within_starts [] (m ∷ ms) = refl
within_starts (n ∷ ns) [] = refl
within_starts (n ∷ ns) (m ∷ ms) = ap (λ (b : Bool). same_name n m && b) (within_starts ns ms)

-- what is below a path within another is within that too
pub within_below : (path at : Path) (name : Name) → is_within path at ≡ true → is_within path (at ++ name ∷ []) ≡ true
within_below [] at name e = refl
within_below (n ∷ ns) [] name e = absurd (let f : false ≡ true = e in cc)
within_below (n ∷ ns) (m ∷ ms) name e = within_by (same_name n m) (is_within ns ms) (is_within ns (ms ++ name ∷ [])) e (λ r. within_below ns ms name r)

record BothTrue (b c : Bool) : Type 0 where
  pub first : b ≡ true
  pub second : c ≡ true

both : (b c : Bool) → (b && c) ≡ true → BothTrue b c
both true c e = record { first = refl; second = e }
both false c e = absurd (let f : false ≡ true = e in cc)

within_empty : (path : Path) → is_within path [] ≡ true → path ≡ []
within_empty [] e = refl
within_empty (n ∷ ns) e = absurd (let f : false ≡ true = e in cc)

-- a path just below one that is not within another is within that only where it is the same
pub within_last : (path at : Path) (name : Name) → is_within path at ≡ false → is_within path (at ++ name ∷ []) ≡ true → path ≡ at ++ name ∷ []
within_last [] at name n e = absurd (let f : true ≡ false = n in cc)
within_last (first ∷ rest) [] name n e =
    let b = both (same_name first name) (is_within rest []) e in
    let head : first ≡ name = same_is first name b.first in
    ap (λ (r : Path). first ∷ r) (within_empty rest b.second) ∙ ap (λ (m : Name). m ∷ []) head
within_last (first ∷ rest) (m ∷ ms) name n e =
    let b = both (same_name first m) (is_within rest (ms ++ name ∷ [])) e in
    let tail : is_within rest ms ≡ false = sym (ap (λ (c : Bool). c && is_within rest ms) b.first) ∙ n in
    ap (λ (r : Path). first ∷ r) (within_last rest ms name tail b.second) ∙ ap (λ (z : Name). z ∷ (ms ++ name ∷ [])) (same_is first m b.first)

-- ---- which paths stay

record StaysAt (spaces : List SpaceRecord) (path at : Path) : Type 0 where
  pub was : Has (map path_in spaces) at
  pub outside : is_within path at ≡ false

stays_by : (path at : Path) (s : SpaceRecord) (ss : List SpaceRecord) (b : Bool) → is_within path s.path ≡ b → (Has (map path_in (filter (stays path) ss)) at → StaysAt ss path at) → Has (map path_in (if not b then s ∷ filter (stays path) ss else filter (stays path) ss)) at → StaysAt (s ∷ ss) path at
stays_by path at s ss true e rest h = let r = rest h in record { was = inr r.was; outside = r.outside }
stays_by path at s ss false e rest h =
    elim h [
      | inl i ↦ record { was = inl i; outside = sym (ap (is_within path) i) ∙ e }
      | inr m ↦ let r = rest m in record { was = inr r.was; outside = r.outside }
    ]

-- a path that stays was there and is not within the removed one
stays_has : (path at : Path) (spaces : List SpaceRecord) → Has (map path_in (filter (stays path) spaces)) at → StaysAt spaces path at
stays_has path at [] h = absurd h
stays_has path at (s ∷ ss) h =
    let P : Bool → Type 0 = λ b. Has (map path_in (if not b then s ∷ filter (stays path) ss else filter (stays path) ss)) at in
    stays_by path at s ss (is_within path s.path) refl (λ m. stays_has path at ss m) h

left_by : (path at : Path) (s : SpaceRecord) (ss : List SpaceRecord) (b : Bool) → is_within path s.path ≡ b → is_within path at ≡ false → (Has (map path_in ss) at → Has (map path_in (filter (stays path) ss)) at) → Has (map path_in (s ∷ ss)) at → Has (map path_in (if not b then s ∷ filter (stays path) ss else filter (stays path) ss)) at
left_by path at s ss true e n rest h =
    elim h [ inl i ↦ absurd (let f : true ≡ false = sym e ∙ ap (is_within path) i ∙ n in true_not f) | inr m ↦ rest m ]
left_by path at s ss false e n rest h = elim h [ inl i ↦ inl i | inr m ↦ inr (rest m) ]

has_stays : (path at : Path) (spaces : List SpaceRecord) → is_within path at ≡ false → Has (map path_in spaces) at → Has (map path_in (filter (stays path) spaces)) at
has_stays path at [] n h = h
has_stays path at (s ∷ ss) n h = left_by path at s ss (is_within path s.path) refl n (λ m. has_stays path at ss n m) h

once_by : (path : Path) (s : SpaceRecord) (ss : List SpaceRecord) (b : Bool) → (Has (map path_in ss) s.path → ⊥) → Distinct (map path_in (filter (stays path) ss)) → Distinct (map path_in (if not b then s ∷ filter (stays path) ss else filter (stays path) ss))
once_by path s ss true n d = d
once_by path s ss false n d = (λ h. n (stays_has path s.path ss h).was, d)

stays_once : (path : Path) (spaces : List SpaceRecord) → Distinct (map path_in spaces) → Distinct (map path_in (filter (stays path) spaces))
stays_once path [] d = tt
stays_once path (s ∷ ss) d = once_by path s ss (is_within path s.path) d.0 (stays_once path ss d.1)

-- ---- what the spaces that stay have

cut_other : (text : ModelRecord) (path at : Path) → is_within path at ≡ false → is_defined (cut text path) at ≡ is_defined text at
cut_other text path at n = same_defined text (cut text path) at (has_stays path at text.spaces n) (λ h. (stays_has path at text.spaces h).was)

false_by : (b : Bool) → (IsTrue b → ⊥) → b ≡ false
false_by true n = absurd (n refl)
false_by false n = refl

cut_within : (text : ModelRecord) (path at : Path) → is_within path at ≡ true → is_defined (cut text path) at ≡ false
cut_within text path at w = false_by (is_defined (cut text path) at) (λ d. true_not (sym w ∙ (stays_has path at text.spaces (defined_has (cut text path) at d)).outside))

abbrev own : Bool → Path → Option RefValue → Option CellsRecord → Option Member
own b path reference cells = or_other (or_child (if b then Some Child else None) path reference) cells

child_gone : (d : Bool) (path : Path) (reference : Option RefValue) (cells : Option CellsRecord) → option_map kind_of (own d path reference cells) ≡ Some kind.Child → option_map kind_of (own false path reference cells) ≡ None
child_gone d path reference (Some c) e = absurd (let f : Some kind.Cells ≡ Some kind.Child = e in cc)
child_gone d path (Some r) None e = absurd (let f : Some kind.Reference ≡ Some kind.Child = e in cc)
child_gone d path None None e = refl

other_stays : (d : Bool) (path : Path) (reference : Option RefValue) (cells : Option CellsRecord) → (option_map kind_of (own d path reference cells) ≡ Some kind.Child → ⊥) → option_map kind_of (own false path reference cells) ≡ option_map kind_of (own d path reference cells)
other_stays d path reference (Some c) n = refl
other_stays d path (Some r) None n = refl
other_stays true path None None n = absurd (n refl)
other_stays false path None None n = refl

within_self : (path : Path) → is_within path path ≡ true
within_self [] = refl
within_self (n ∷ ns) = ap (λ (b : Bool). b && is_within ns ns) (is_same n n refl) ∙ within_self ns

kept_own : (text : ModelRecord) (path : Path) (s : SpaceRecord) (n : Name) → is_within path (s.path ++ n ∷ []) ≡ false → own_member (cut text path) n s ≡ own_member text n s
kept_own text path s n e = own_defined text (cut text path) n s (cut_other text path (s.path ++ n ∷ []) e)

lost_own : (text : ModelRecord) (path : Path) (s : SpaceRecord) (n : Name) → is_within path (s.path ++ n ∷ []) ≡ true → own_member (cut text path) n s ≡ own false s.path (lookup (same_name n) s.references) (lookup (same_name n) s.cells)
lost_own text path s n e = ap (λ (b : Bool). own b s.path (lookup (same_name n) s.references) (lookup (same_name n) s.cells)) (cut_within text path (s.path ++ n ∷ []) e)

apart_names : (path : Path) (s : SpaceRecord) (name n : Name) → path ≡ s.path ++ name ∷ [] → is_within path (s.path ++ n ∷ []) ≡ false → same_name name n ≡ false
apart_names path s name n at e =
    let P : Path → Type 0 = λ p. is_within path p ≡ true in
    false_by (same_name name n) (λ t. true_not (sym (subst P (at ∙ ap (λ (m : Name). s.path ++ m ∷ []) (same_is name n t)) (within_self path)) ∙ e))

left_other : (name n : Name) (kinds rest : Kinds) → LosesChild name kinds rest → same_name name n ≡ false → lookup (same_name n) rest ≡ lookup (same_name n) kinds
left_other name n kinds rest (inl l) e = ap (lookup (same_name n)) l.1 ∙ without_other name n kinds e
left_other name n kinds rest (inr l) e = ap (lookup (same_name n)) l.1

left_own : (text : ModelRecord) (path : Path) (s : SpaceRecord) (name : Name) (kinds rest : Kinds) → Tells text s kinds → LosesChild name kinds rest → lookup (same_name name) rest ≡ option_map kind_of (own false s.path (lookup (same_name name) s.references) (lookup (same_name name) s.cells))
left_own text path s name kinds rest tells (inl l) = l.2 ∙ sym (child_gone (is_defined text (s.path ++ name ∷ [])) s.path (lookup (same_name name) s.references) (lookup (same_name name) s.cells) (sym (tells name) ∙ l.0))
left_own text path s name kinds rest tells (inr l) = ap (lookup (same_name name)) l.1 ∙ tells name ∙ sym (other_stays (is_defined text (s.path ++ name ∷ [])) s.path (lookup (same_name name) s.references) (lookup (same_name name) s.cells) (λ e. l.0 (tells name ∙ e)))

own_left : (text : ModelRecord) (path : Path) (s : SpaceRecord) (kinds rest : Kinds) → is_within path s.path ≡ false → Tells text s kinds → IsLeft path s.path kinds rest → (n : Name) (b : Bool) → is_within path (s.path ++ n ∷ []) ≡ b → lookup (same_name n) rest ≡ option_map kind_of (own_member (cut text path) n s)
own_left text path s kinds rest outside tells (NoParent none is) n true e = absurd (none n (within_last path s.path n outside e))
own_left text path s kinds rest outside tells (NoParent none is) n false e = ap (lookup (same_name n)) is ∙ tells n ∙ ap (option_map kind_of) (sym (kept_own text path s n e))
own_left text path s kinds rest outside tells (Parent name at loses) n true e =
    let same : name ≡ n = (same_ends s.path s.path name n (sym at ∙ within_last path s.path n outside e)).1 in
    let P : Name → Type 0 = λ m. lookup (same_name m) rest ≡ option_map kind_of (own false s.path (lookup (same_name m) s.references) (lookup (same_name m) s.cells)) in
    subst P same (left_own text path s name kinds rest tells loses) ∙ ap (option_map kind_of) (sym (lost_own text path s n e))
own_left text path s kinds rest outside tells (Parent name at loses) n false e =
    left_other name n kinds rest loses (apart_names path s name n at e) ∙ tells n ∙ ap (option_map kind_of) (sym (kept_own text path s n e))

pub left_tells : (text : ModelRecord) (path : Path) (s : SpaceRecord) (kinds rest : Kinds) → is_within path s.path ≡ false → Tells text s kinds → IsLeft path s.path kinds rest → Tells (cut text path) s rest
left_tells text path s kinds rest outside tells left n = own_left text path s kinds rest outside tells left n (is_within path (s.path ++ n ∷ [])) refl

-- ---- parents

cut_parent : (text : ModelRecord) (path at : Path) (split : Option (Path × Name)) → split_last at ≡ split → is_within path at ≡ false → HasParent text split → HasParent (cut text path) split
cut_parent text path at None e n h = absurd h
cut_parent text path at (Some (parent, name)) e n h =
    elim h [
      | inl i ↦ inl i
      | inr d ↦
          let is = split_is at parent name e in
          let outside = false_by (is_within path parent) (λ w. true_not (sym (within_below path parent name w) ∙ sym (ap (is_within path) is) ∙ n)) in
          inr (cut_other text path parent outside ∙ d)
    ]

few_by : (path : Path) (s : SpaceRecord) (ss : List SpaceRecord) (b : Bool) → length (filter (stays path) ss) ≤ length ss → length (if not b then s ∷ filter (stays path) ss else filter (stays path) ss) ≤ length (s ∷ ss)
few_by path s ss true l = omega arith
few_by path s ss false l = omega arith

stays_few : (path : Path) (spaces : List SpaceRecord) → length (filter (stays path) spaces) ≤ length spaces
stays_few path [] = omega arith
stays_few path (s ∷ ss) = few_by path s ss (is_within path s.path) (stays_few path ss)

-- the spaces that stay can stand where their tables tell them
pub cut_placed : (text : ModelRecord) (tables rest : List Kinds) (path : Path) → ArePlaced tables text → TellAll (cut text path) (filter (stays path) text.spaces) rest → ArePlaced rest (cut text path)
cut_placed text tables rest path x t = record {
  once = stays_once path text.spaces x.once;
  kinds = t;
  parents = λ at h. let was = stays_has path at text.spaces h in cut_parent text path at (split_last at) refl was.outside (x.parents at was.was);
  few = let l = stays_few path text.spaces in let f = x.few in omega arith;
}

-- ---- the spaces that stay, one after the other

filter_by : (path : Path) (s : SpaceRecord) (xs : List SpaceRecord) (b : Bool) → is_within path s.path ≡ b → filter (stays path) (s ∷ xs) ≡ (if not b then s ∷ filter (stays path) xs else filter (stays path) xs)
filter_by path s xs b e = ap (λ (c : Bool). if not c then s ∷ filter (stays path) xs else filter (stays path) xs) e

filter_more : (path : Path) (xs : List SpaceRecord) (s : SpaceRecord) (b : Bool) → is_within path s.path ≡ b → filter (stays path) (xs ++ s ∷ []) ≡ filter (stays path) xs ++ (if not b then s ∷ [] else [])
filter_more path [] s b e = filter_by path s [] b e
filter_more path (x ∷ xs) s b e = more_by path x xs s b (is_within path x.path) refl (filter_more path xs s b e)
  where
    more_by : (path : Path) (x : SpaceRecord) (xs : List SpaceRecord) (s : SpaceRecord) (b c : Bool) → is_within path x.path ≡ c → filter (stays path) (xs ++ s ∷ []) ≡ filter (stays path) xs ++ (if not b then s ∷ [] else []) → filter (stays path) (x ∷ (xs ++ s ∷ [])) ≡ filter (stays path) (x ∷ xs) ++ (if not b then s ∷ [] else [])
    more_by path x xs s b true e rest = filter_by path x (xs ++ s ∷ []) true e ∙ rest ∙ sym (ap (λ (z : List SpaceRecord). z ++ (if not b then s ∷ [] else [])) (filter_by path x xs true e))
    more_by path x xs s b false e rest = filter_by path x (xs ++ s ∷ []) false e ∙ ap (λ (z : List SpaceRecord). x ∷ z) rest ∙ sym (ap (λ (z : List SpaceRecord). z ++ (if not b then s ∷ [] else [])) (filter_by path x xs false e))

take_one : (xs : List SpaceRecord) (n : ℕ) (s : SpaceRecord) → slice_get xs n ≡ Some s → take n xs ++ s ∷ [] ≡ take (n + 1) xs
take_one xs n s at =
    let within = slice_get_within xs n s at in
    ap (λ (z : SpaceRecord). take n xs ++ z ∷ []) (sym (get_or_from_slice_get xs n s s at)) ∙ sym (take_more xs n s within)

-- what the loop over the spaces has made so far
pub record AreLeft (text : ModelRecord) (path : Path) (n : ℕ) (spaces : List SpaceRecord) (tables : List Kinds) : Type 0 where
  pub spaces_left : spaces ≡ filter (stays path) (take n text.spaces)
  pub tables_left : TellAll (cut text path) spaces tables

pub left_none : (text : ModelRecord) (path : Path) → AreLeft text path 0 [] []
left_none text path = record { spaces_left = refl; tables_left = tt }

pub left_passed : (text : ModelRecord) (path : Path) (n : ℕ) (s : SpaceRecord) (spaces : List SpaceRecord) (tables : List Kinds) → slice_get text.spaces n ≡ Some s → is_within path s.path ≡ true → AreLeft text path n spaces tables → AreLeft text path (n + 1) spaces tables
left_passed text path n s spaces tables at within left = record {
  spaces_left = left.spaces_left ∙ sym (append-nil (filter (stays path) (take n text.spaces))) ∙ sym (filter_more path (take n text.spaces) s true within) ∙ ap (filter (stays path)) (take_one text.spaces n s at);
  tables_left = left.tables_left;
}

pub left_kept : (text : ModelRecord) (path : Path) (n : ℕ) (s new : SpaceRecord) (kinds rest : Kinds) (spaces spaces' : List SpaceRecord) (tables tables' : List Kinds) → slice_get text.spaces n ≡ Some s → new ≡ s → Tells text s kinds → IsLeft path s.path kinds rest → is_within path s.path ≡ false → spaces' ≡ spaces ++ new ∷ [] → tables' ≡ tables ++ rest ∷ [] → AreLeft text path n spaces tables → AreLeft text path (n + 1) spaces' tables'
left_kept text path n s new kinds rest spaces spaces' tables tables' at same tells is outside e f left =
    let more = e ∙ ap (λ (z : SpaceRecord). spaces ++ z ∷ []) same in
    let P : List SpaceRecord → Type 0 = λ zs. TellAll (cut text path) zs tables' in
    let Q : List Kinds → Type 0 = λ ts. TellAll (cut text path) (spaces ++ s ∷ []) ts in
    let tell = tells_push (cut text path) spaces tables s rest left.tables_left (left_tells text path s kinds rest outside tells is) in
    record {
      spaces_left = more ∙ ap (λ (zs : List SpaceRecord). zs ++ s ∷ []) left.spaces_left ∙ sym (filter_more path (take n text.spaces) s false outside) ∙ ap (filter (stays path)) (take_one text.spaces n s at);
      tables_left = subst P (sym more) (subst Q (sym f) tell);
    }

pub left_all : (path at : Path) (name : Name) (kinds : Kinds) (r : Result Kinds AllocError) → path ≡ at ++ name ∷ [] → IfOk r (LosesChild name kinds) → IfOk r (IsLeft path at kinds)
left_all path at name kinds r is ok = ok_more (LosesChild name kinds) (IsLeft path at kinds) r (λ rest loses. Parent name is loses) ok

-- all together, as the loop leaves it
pub cut_built : (text text' : ModelRecord) (path : Path) (n : ℕ) (spaces : List SpaceRecord) (tables rest : List Kinds) → ArePlaced tables text → length text.spaces ≤ n → AreLeft text path n spaces rest → text' ≡ record text { spaces = spaces } → ArePlaced rest text'
cut_built text text' path n spaces tables rest x all left is =
    let same = left.spaces_left ∙ ap (filter (stays path)) (take_all n text.spaces all) in
    let P : List SpaceRecord → Type 0 = λ zs. TellAll (cut text path) zs rest in
    let Q : ModelRecord → Type 0 = λ z. ArePlaced rest z in
    subst Q (sym (is ∙ ap (λ (zs : List SpaceRecord). record text { spaces = zs }) same)) (cut_placed text tables rest path x (subst P same left.tables_left))
