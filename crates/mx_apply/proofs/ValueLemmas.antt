-- The steps of the tests of values, of bases and of the spaces that use a removed one.
use Rattle.std.proofs.Common.{◌≡◌, ℕ, ◌+◌, ◌<◌, Bool, true, false, List, [], ◌∷◌, length, drop, get_or, slice_get, map, Some, refl, sym, ◌∙◌, ap}
use Rattle.std.specs.Prelude.{codes, ◌||◌, ◌&&◌, not, if◌then◌else◌}
use Rattle.std.specs.List.{list_any}
use Rattle.std.proofs.lemmas.List.{drop_more}
use Rattle.std.proofs.lemmas.Option.{get_or_from_slice_get, slice_get_within}
use Rattle.mx_value.specs.Name.{same_path}
use Rattle.mx_print.specs.Texts.{Text, separated}
use Rattle.mx_apply.proofs.LengthLemmas.{separated_from, separated_length}
use Rattle.mx_model.specs.Records.{Name, Path, SpaceRecord}
use Rattle.mx_model.specs.Walk.{path_text}
use Rattle.mx_model.specs.Change.{is_within}
use Rattle.mx_model.specs.Refused.{has_double, uses, first_user}

-- ---- a path that stands twice

double_step : (paths : List Path) (i : ℕ) (path : Path) → i < length paths → path ≡ get_or paths i path → has_double (drop i paths) ≡ (list_any (same_path path) (drop (i + 1) paths) || has_double (drop (i + 1) paths))
double_step paths i path within is =
    ap has_double (drop_more paths i path within ∙ ap (λ (p : Path). p ∷ drop (i + 1) paths) (sym is))

pub double_passed : (paths : List Path) (i : ℕ) (path : Path) → i < length paths → path ≡ get_or paths i path → list_any (same_path path) (drop (i + 1) paths) ≡ false → has_double (drop i paths) ≡ has_double (drop (i + 1) paths)
double_passed paths i path within is other = double_step paths i path within is ∙ ap (λ (b : Bool). b || has_double (drop (i + 1) paths)) other

pub double_found : (paths : List Path) (i : ℕ) (path : Path) → i < length paths → path ≡ get_or paths i path → list_any (same_path path) (drop (i + 1) paths) ≡ true → has_double (drop i paths) ≡ true
double_found paths i path within is other = double_step paths i path within is ∙ ap (λ (b : Bool). b || has_double (drop (i + 1) paths)) other

-- ---- a space that uses a removed one

user_step : (removed : Path) (spaces : List SpaceRecord) (i : ℕ) (s : SpaceRecord) → slice_get spaces i ≡ Some s → first_user removed (drop i spaces) ≡ (if uses removed s then Some s.path else first_user removed (drop (i + 1) spaces))
user_step removed spaces i s at =
    ap (first_user removed) (drop_more spaces i s (slice_get_within spaces i s at) ∙ ap (λ (z : SpaceRecord). z ∷ drop (i + 1) spaces) (get_or_from_slice_get spaces i s s at))

pub user_passed : (removed : Path) (spaces : List SpaceRecord) (i : ℕ) (s : SpaceRecord) → slice_get spaces i ≡ Some s → uses removed s ≡ false → first_user removed (drop i spaces) ≡ first_user removed (drop (i + 1) spaces)
user_passed removed spaces i s at other =
    user_step removed spaces i s at ∙ ap (λ (b : Bool). if b then Some s.path else first_user removed (drop (i + 1) spaces)) other

pub user_found : (removed : Path) (spaces : List SpaceRecord) (i : ℕ) (s : SpaceRecord) → slice_get spaces i ≡ Some s → uses removed s ≡ true → first_user removed (drop i spaces) ≡ Some s.path
user_found removed spaces i s at so =
    user_step removed spaces i s at ∙ ap (λ (b : Bool). if b then Some s.path else first_user removed (drop (i + 1) spaces)) so

pub uses_by : (removed : Path) (s : SpaceRecord) (bases : List Path) (found : Bool) → is_within removed s.path ≡ false → bases ≡ s.bases → found ≡ list_any (is_within removed) bases → found ≡ uses removed s
uses_by removed s bases found stays b f =
    f ∙ ap (list_any (is_within removed)) b ∙ sym (ap (λ (t : Bool). not t && list_any (is_within removed) s.bases) stays)

-- ---- the text of a path

abbrev pub itself : Name → Text
itself name = name

same_names : (names : Path) → map itself names ≡ names
same_names [] = refl
same_names (name ∷ names) = ap (λ (ns : Path). name ∷ ns) (same_names names)

pub path_length : (names : Path) → length (path_text names) ≡ separated_from 1 itself names 0
path_length names = ap (λ (ns : Path). length (separated (codes ".") ns)) (sym (same_names names)) ∙ separated_length (codes ".") itself names
