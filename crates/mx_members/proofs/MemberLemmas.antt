-- Keys and their members by place: what is found, and what a definition or a removal makes of both.
use Rattle.std.proofs.Common.{◌≡◌, ℕ, zero, suc, ◌+◌, ◌*◌, ◌<◌, ◌≤◌, Bool, true, false, ◌||◌, cond, if◌then◌else◌, List, [], ◌∷◌, ◌++◌, length, set, take, drop, remove, position, zip, Option, Some, None, slice_get, option_map, refl, sym, ◌∙◌, ap, subst, arith}
use Rattle.std.specs.Cmp.{IsEquivalence}
use Rattle.std.specs.List.{IsDistinct, AllByRecursion, list_any, position_from}
use Rattle.std.specs.Map.{keys_of, lookup}
use Rattle.std.proofs.lemmas.Iterator.Adapters.{position_from-zero}
use Rattle.std.proofs.lemmas.List.{append_assoc, length-append, take_all}
use Rattle.std.proofs.lemmas.Map.Made.{keys_of-zip}
use Rattle.std.proofs.lemmas.Option.{same_Some, slice_get-map}
use Rattle.mx_members.proofs.ChunkLemmas.{get_left, get_right, take_one, joined_take, joined_around, front_length}
use Rattle.mx_members.specs.Chunks.{joined, IsFull}
use Rattle.mx_members.specs.Places.{place}
use Rattle.mx_members.specs.Words.{define, without}

abbrev or_else : Option ℕ → Option ℕ → Option ℕ
or_else (Some i) other = Some i
or_else None other = other

map_zero : (o : Option ℕ) → option_map (λ j. 0 + j) o ≡ o
map_zero None = refl
map_zero (Some j) = let e : 0 + j ≡ j = omega arith in ap (λ n. Some n) e

map_next : (i : ℕ) (o : Option ℕ) → option_map (λ j. i + 1 + j) o ≡ option_map (λ j. i + j) (option_map suc o)
map_next i None = refl
map_next i (Some j) = let e : i + 1 + j ≡ i + suc j = omega arith in ap (λ n. Some n) e

or_next : (n : ℕ) (a b : Option ℕ) → option_map suc (or_else a (option_map (λ j. n + j) b)) ≡ or_else (option_map suc a) (option_map (λ j. suc n + j) b)
or_next n (Some i) b = refl
or_next n None None = refl
or_next n None (Some j) = let e : suc (n + j) ≡ suc n + j = omega arith in ap (λ n. Some n) e

either_not : (a b : Bool) → (a || b) ≡ false → (a ≡ false) × (b ≡ false)
either_not true b e = absurd (let f : true ≡ false = e in cc)
either_not false b e = (refl, e)

none_first : (t : Bool) (o : Option ℕ) → None ≡ cond t (Some 0) (option_map suc o) → (t ≡ false) × (None ≡ o)
none_first true o e = absurd (let f : ◌≡◌ {A = Option ℕ} None (Some 0) = e in cc)
none_first false None e = (refl, refl)
none_first false (Some i) e = absurd (let f : ◌≡◌ {A = Option ℕ} None (Some (suc i)) = e in cc)

module _ {K : Type 0} (test : K → Bool) where
  -- ---- the place of a key

  from_by : (t : Bool) (i : ℕ) (p o : Option ℕ) → p ≡ option_map (λ j. i + 1 + j) o → cond t (Some i) p ≡ option_map (λ j. i + j) (cond t (Some 0) (option_map suc o))
  from_by true i p o e = let f : i ≡ i + 0 = omega arith in ap (λ n. Some n) f
  from_by false i p o e = e ∙ map_next i o

  place_from : (i : ℕ) (ks : List K) → position_from test i ks ≡ option_map (λ j. i + j) (place test ks)
  place_from i [] = refl
  place_from i (k ∷ ks) = from_by (test k) i (position_from test (i + 1) ks) (place test ks) (place_from (i + 1) ks)

  pub place_from_zero : (ks : List K) → position_from test 0 ks ≡ place test ks
  place_from_zero ks = place_from 0 ks ∙ map_zero (place test ks)

  pub place_is : (ks : List K) → position test ks ≡ place test ks
  place_is ks = position_from-zero test ks ∙ place_from_zero ks

  append_by : (t : Bool) (n : ℕ) (all a b : Option ℕ) → all ≡ or_else a (option_map (λ j. n + j) b) → cond t (Some 0) (option_map suc all) ≡ or_else (cond t (Some 0) (option_map suc a)) (option_map (λ j. suc n + j) b)
  append_by true n all a b e = refl
  append_by false n all a b e = ap (option_map suc) e ∙ or_next n a b

  place_append : (xs ys : List K) → place test (xs ++ ys) ≡ or_else (place test xs) (option_map (λ j. length xs + j) (place test ys))
  place_append [] ys = sym (map_zero (place test ys))
  place_append (x ∷ xs) ys = append_by (test x) (length xs) (place test (xs ++ ys)) (place test xs) (place test ys) (place_append xs ys)

  pub place_front : (xs ys : List K) (i : ℕ) → Some i ≡ place test xs → Some i ≡ place test (xs ++ ys)
  place_front xs ys i e = sym (place_append xs ys ∙ ap (λ (o : Option ℕ). or_else o (option_map (λ j. length xs + j) (place test ys))) (sym e))

  place_back : (xs ys : List K) (o : Option ℕ) → None ≡ place test xs → o ≡ place test ys → option_map (λ j. length xs + j) o ≡ place test (xs ++ ys)
  place_back xs ys o none e =
      sym (place_append xs ys ∙ ap (λ (p : Option ℕ). or_else p (option_map (λ j. length xs + j) (place test ys))) (sym none) ∙ ap (λ (p : Option ℕ). option_map (λ j. length xs + j) p) (sym e))

  module _ (b m t : List K) where
    pub place_in_base : (i : ℕ) → Some i ≡ place test b → Some i ≡ place test (b ++ m ++ t)
    place_in_base i e = place_front (b ++ m) t i (place_front b m i e)

    pub place_in_middle : (i n : ℕ) → None ≡ place test b → Some i ≡ place test m → n ≡ length b + i → Some n ≡ place test (b ++ m ++ t)
    place_in_middle i n none e is = place_front (b ++ m) t n (ap (λ j. Some j) is ∙ place_back b m (Some i) none e)

    pub place_in_top : (i n : ℕ) → None ≡ place test b → None ≡ place test m → Some i ≡ place test t → n ≡ length b + length m + i → Some n ≡ place test (b ++ m ++ t)
    place_in_top i n none none_more e is =
        let f : n ≡ length (b ++ m) + i = omega (arith, length-append b m) in
        ap (λ j. Some j) f ∙ place_back (b ++ m) t (Some i) (place_back b m None none none_more) e

    pub place_nowhere : None ≡ place test b → None ≡ place test m → None ≡ place test t → None ≡ place test (b ++ m ++ t)
    place_nowhere none none_more e = place_back (b ++ m) t None (place_back b m None none none_more) e

  within_by : (t : Bool) (n i : ℕ) (o : Option ℕ) → ((j : ℕ) → Some j ≡ o → j < n) → Some i ≡ cond t (Some 0) (option_map suc o) → i < suc n
  within_by true n i o rest e = let f = same_Some i 0 e in omega arith
  within_by false n i None rest e = let f : Some i ≡ None = e in cc
  within_by false n i (Some j) rest e = let f = same_Some i (suc j) e in let h = rest j refl in omega arith

  pub place_within : (ks : List K) (i : ℕ) → Some i ≡ place test ks → i < length ks
  place_within [] i e = let f : Some i ≡ None = e in cc
  place_within (k ∷ ks) i e = within_by (test k) (length ks) i (place test ks) (λ j f. place_within ks j f) e

  there_by : (t : Bool) (i : ℕ) (o : Option ℕ) (rest : Bool) → ((j : ℕ) → Some j ≡ o → rest ≡ true) → Some i ≡ cond t (Some 0) (option_map suc o) → (t || rest) ≡ true
  there_by true i o rest more e = refl
  there_by false i None rest more e = absurd (let f : ◌≡◌ {A = Option ℕ} (Some i) None = e in cc)
  there_by false i (Some j) rest more e = more j refl

  pub present : (ks : List K) (i : ℕ) → Some i ≡ place test ks → list_any test ks ≡ true
  present [] i e = absurd (let f : ◌≡◌ {A = Option ℕ} (Some i) None = e in cc)
  present (k ∷ ks) i e = there_by (test k) i (place test ks) (list_any test ks) (λ j f. present ks j f) e

  pub absent : (ks : List K) → None ≡ place test ks → list_any test ks ≡ false
  absent [] e = refl
  absent (k ∷ ks) e =
      let later = none_first (test k) (place test ks) e in
      ap (λ (t : Bool). t || list_any test ks) later.0 ∙ absent ks later.1

module _ {K : Type 0} (b m t : List K) where
  -- ---- what stands at a place of three lists

  pub at_base : (i : ℕ) → i < length b → slice_get b i ≡ slice_get (b ++ m ++ t) i
  at_base i h = sym (get_left (b ++ m) t i (omega (arith, length-append b m)) ∙ get_left b m i h)

  pub at_middle : (i j : ℕ) → i ≡ length b + j → j < length m → slice_get m j ≡ slice_get (b ++ m ++ t) i
  at_middle i j is h = sym (get_left (b ++ m) t i (omega (arith, length-append b m)) ∙ get_right b m i j is)

  pub at_top : (i j : ℕ) → i ≡ length b + length m + j → slice_get t j ≡ slice_get (b ++ m ++ t) i
  at_top i j is = sym (get_right (b ++ m) t i j (omega (arith, length-append b m)))

-- ---- the place of a key in chunks

module _ {K : Type 0} (test : K → Bool) where
  -- past a chunk without it
  pub chunk_past : (cs : List (List K)) (i : ℕ) (c : List K) → slice_get cs i ≡ Some c → None ≡ place test (joined (take i cs)) → None ≡ place test c → None ≡ place test (joined (take (i + 1) cs))
  chunk_past cs i c at before none =
      place_back test (joined (take i cs)) c None before none ∙ ap (λ (l : List K). place test l) (sym (joined_take cs i c at))

  pub chunk_found : (n : ℕ) (cs : List (List K)) (last : List K) (i j : ℕ) (c : List K) → IsFull n cs → slice_get cs i ≡ Some c → None ≡ place test (joined (take i cs)) → Some j ≡ place test c → Some (n * i + j) ≡ place test (joined cs ++ last)
  chunk_found n cs last i j c full at before here =
      let e = front_length n cs i c full at in
      let found = place_in_middle test (joined (take i cs)) c (joined (drop (i + 1) cs)) j (n * i + j) before here (omega arith) in
      place_front test (joined cs) last (n * i + j) (found ∙ ap (λ (l : List K). place test l) (sym (joined_around cs i c at)))

  -- in no chunk before the last one
  pub last_found : (cs : List (List K)) (last : List K) (i m : ℕ) (o : Option ℕ) → None ≡ place test (joined (take i cs)) → length cs ≤ i → m ≡ length (joined cs) → o ≡ place test last → option_map (λ j. m + j) o ≡ place test (joined cs ++ last)
  last_found cs last i m o before all is here =
      let none : None ≡ place test (joined cs) = before ∙ ap (λ (l : List (List K)). place test (joined l)) (take_all i cs all) in
      ap (λ (k : ℕ). option_map (λ j. k + j) o) is ∙ place_back test (joined cs) last o none here

module _ {X : Type 0} where
  abbrev at_place : Option ℕ → List X → Option X
  at_place None ms = None
  at_place (Some i) ms = slice_get ms i

  at_next : (o : Option ℕ) (m : X) (ms : List X) → at_place o ms ≡ at_place (option_map suc o) (m ∷ ms)
  at_next None m ms = refl
  at_next (Some i) m ms = refl

  lookup_by : (t : Bool) (o : Option ℕ) (m : X) (ms : List X) (rest : Option X) → rest ≡ at_place o ms → cond t (Some m) rest ≡ at_place (cond t (Some 0) (option_map suc o)) (m ∷ ms)
  lookup_by true o m ms rest e = refl
  lookup_by false o m ms rest e = e ∙ at_next o m ms

module _ {K X : Type 0} where
  lookup_zip : (test : K → Bool) (ks : List K) (ms : List X) → length ms ≡ length ks → lookup test (zip ks ms) ≡ at_place (place test ks) ms
  lookup_zip test [] ms e = refl
  lookup_zip test (k ∷ ks) [] e = absurd (omega arith)
  lookup_zip test (k ∷ ks) (m ∷ ms) e = lookup_by (test k) (place test ks) m ms (lookup test (zip ks ms)) (lookup_zip test ks ms (omega arith))

  pub zip_at : (ks : List K) (ms : List X) (i : ℕ) (k : K) (m : X) → Some k ≡ slice_get ks i → Some m ≡ slice_get ms i → Some (k, m) ≡ slice_get (zip ks ms) i
  zip_at [] ms i k m e f = absurd (let h : Some k ≡ None = e in cc)
  zip_at (x ∷ ks) [] i k m e f = absurd (let h : Some m ≡ None = f in cc)
  zip_at (x ∷ ks) (y ∷ ms) zero k m e f = ap (λ (a : K). Some (a, m)) (same_Some k x e) ∙ ap (λ (b : X). Some (x, b)) (same_Some m y f)
  zip_at (x ∷ ks) (y ∷ ms) (suc i) k m e f = zip_at ks ms i k m e f

  pub zip_past : (ks : List K) (ms : List X) (i : ℕ) → None ≡ slice_get ms i → None ≡ slice_get (zip ks ms) i
  zip_past [] ms i e = refl
  zip_past (x ∷ ks) [] i e = refl
  zip_past (x ∷ ks) (y ∷ ms) zero e = absurd (let h : None ≡ Some y = e in cc)
  zip_past (x ∷ ks) (y ∷ ms) (suc i) e = zip_past ks ms i e

  pub no_key : (o : Option (K × X)) → None ≡ option_map (λ e. e.0) o → None ≡ o
  no_key None e = refl
  no_key (Some m) e = let h : None ≡ Some m.0 = e in cc

  zip_push : (ks : List K) (ms : List X) (k : K) (x : X) → length ms ≡ length ks → zip (ks ++ k ∷ []) (ms ++ x ∷ []) ≡ zip ks ms ++ (k, x) ∷ []
  zip_push [] [] k x e = refl
  zip_push [] (m ∷ ms) k x e = absurd (omega arith)
  zip_push (j ∷ ks) [] k x e = absurd (omega arith)
  zip_push (j ∷ ks) (m ∷ ms) k x e = ap (λ (es : List (K × X)). (j, m) ∷ es) (zip_push ks ms k x (omega arith))

  zip_length : (ks : List K) (ms : List X) → length ms ≡ length ks → length (zip ks ms) ≡ length ms
  zip_length [] [] e = refl
  zip_length [] (m ∷ ms) e = absurd (omega arith)
  zip_length (k ∷ ks) [] e = absurd (omega arith)
  zip_length (k ∷ ks) (m ∷ ms) e = let rest = zip_length ks ms (omega arith) in omega arith

  pub lacks : (test : K → Bool) (es : List (K × X)) → None ≡ place test (keys_of es) → lookup test es ≡ None
  lacks test [] e = refl
  lacks test (m ∷ es) e =
      let later = none_first (test m.0) (place test (keys_of es)) e in
      ap (λ (t : Bool). cond t (Some m.1) (lookup test es)) later.0 ∙ lacks test es later.1

  -- what is known of the members by their keys
  module _ (ks : List K) (ms : List X) (now : List (K × X)) (view : zip ks ms ≡ now) (all : length ms ≡ length ks) where
    pub keys_are : ks ≡ keys_of now
    keys_are = sym (keys_of-zip ks ms all) ∙ ap (λ (es : List (K × X)). keys_of es) view

    pub count_is : length ms ≡ length now
    count_is = sym (zip_length ks ms all) ∙ ap (λ (es : List (K × X)). length es) view

    pub key_is : (i : ℕ) → slice_get ks i ≡ option_map (λ e. e.0) (slice_get now i)
    key_is i = ap (λ (l : List K). slice_get l i) keys_are ∙ slice_get-map (λ (e : K × X). e.0) now i

    pub found : (test : K → Bool) (o : Option ℕ) → o ≡ place test ks → at_place o ms ≡ lookup test now
    found test o e = ap (λ (p : Option ℕ). at_place p ms) e ∙ sym (lookup_zip test ks ms all) ∙ ap (λ (es : List (K × X)). lookup test es) view

    pub there : (test : K → Bool) (i : ℕ) → Some i ≡ place test ks → i < length ms
    there test i e = let h = place_within test ks i e in omega arith

    none_of : (test : K → Bool) → None ≡ place test ks → None ≡ place test (keys_of now)
    none_of test e = e ∙ ap (λ (l : List K). place test l) keys_are

    pub lacked : (test : K → Bool) → None ≡ place test ks → lookup test now ≡ None
    lacked test e = lacks test now (none_of test e)

  module _ (eq : K → K → Bool) (k : K) where
    -- ---- a definition

    abbrev placed : Option ℕ → List K → List X → X → List (K × X)
    placed None ks ms x = zip ks ms ++ (k, x) ∷ []
    placed (Some i) ks ms x = zip ks (set ms i x)

    define_by : (t : Bool) (o : Option ℕ) (j : K) (m : X) (ks : List K) (ms : List X) (x : X) (rest : List (K × X)) → rest ≡ placed o ks ms x → (if t then (j, x) ∷ zip ks ms else (j, m) ∷ rest) ≡ placed (cond t (Some 0) (option_map suc o)) (j ∷ ks) (m ∷ ms) x
    define_by true o j m ks ms x rest e = refl
    define_by false None j m ks ms x rest e = ap (λ (es : List (K × X)). (j, m) ∷ es) e
    define_by false (Some i) j m ks ms x rest e = ap (λ (es : List (K × X)). (j, m) ∷ es) e

    define_zip : (ks : List K) (ms : List X) (x : X) → length ms ≡ length ks → define eq (zip ks ms) k x ≡ placed (place (eq k) ks) ks ms x
    define_zip [] ms x e = refl
    define_zip (j ∷ ks) [] x e = absurd (omega arith)
    define_zip (j ∷ ks) (m ∷ ms) x e = define_by (eq k j) (place (eq k) ks) j m ks ms x (define eq (zip ks ms) k x) (define_zip ks ms x (omega arith))

    defined_again : (ks : List K) (ms : List X) (x : X) (i : ℕ) → length ms ≡ length ks → Some i ≡ place (eq k) ks → zip ks (set ms i x) ≡ define eq (zip ks ms) k x
    defined_again ks ms x i e at = ap (λ (o : Option ℕ). placed o ks ms x) at ∙ sym (define_zip ks ms x e)

    defined_new : (ks : List K) (ms : List X) (x : X) → length ms ≡ length ks → None ≡ place (eq k) ks → zip (ks ++ k ∷ []) (ms ++ x ∷ []) ≡ define eq (zip ks ms) k x
    defined_new ks ms x e none = zip_push ks ms k x e ∙ ap (λ (o : Option ℕ). placed o ks ms x) none ∙ sym (define_zip ks ms x e)

    -- ---- a removal

    abbrev cut : Option ℕ → List K → List X → List (K × X)
    cut None ks ms = zip ks ms
    cut (Some i) ks ms = zip (remove ks i) (remove ms i)

    without_by : (t : Bool) (o : Option ℕ) (j : K) (m : X) (ks : List K) (ms : List X) (rest : List (K × X)) → rest ≡ cut o ks ms → (if t then zip ks ms else (j, m) ∷ rest) ≡ cut (cond t (Some 0) (option_map suc o)) (j ∷ ks) (m ∷ ms)
    without_by true o j m ks ms rest e = refl
    without_by false None j m ks ms rest e = ap (λ (es : List (K × X)). (j, m) ∷ es) e
    without_by false (Some i) j m ks ms rest e = ap (λ (es : List (K × X)). (j, m) ∷ es) e

    without_zip : (ks : List K) (ms : List X) → length ms ≡ length ks → without eq (zip ks ms) k ≡ cut (place (eq k) ks) ks ms
    without_zip [] ms e = refl
    without_zip (j ∷ ks) [] e = absurd (omega arith)
    without_zip (j ∷ ks) (m ∷ ms) e = without_by (eq k j) (place (eq k) ks) j m ks ms (without eq (zip ks ms) k) (without_zip ks ms (omega arith))

    same_length : (ks : List K) (ms : List X) (i : ℕ) → length ms ≡ length ks → length (remove ms i) ≡ length (remove ks i)
    same_length [] [] zero e = refl
    same_length [] [] (suc i) e = refl
    same_length [] (m ∷ ms) i e = absurd (omega arith)
    same_length (j ∷ ks) [] i e = absurd (omega arith)
    same_length (j ∷ ks) (m ∷ ms) zero e = omega arith
    same_length (j ∷ ks) (m ∷ ms) (suc i) e = let rest = same_length ks ms i (omega arith) in omega arith

    pub kept : (es : List (K × X)) → None ≡ place (eq k) (keys_of es) → es ≡ without eq es k
    kept [] e = refl
    kept (m ∷ es) e =
        let later = none_first (eq k m.0) (place (eq k) (keys_of es)) e in
        ap (λ (l : List (K × X)). m ∷ l) (kept es later.1) ∙ ap (λ (t : Bool). if t then es else m ∷ without eq es k) (sym later.0)

    removed : (ks : List K) (ms : List X) (i : ℕ) → length ms ≡ length ks → Some i ≡ place (eq k) ks → zip (remove ks i) (remove ms i) ≡ without eq (zip ks ms) k
    removed ks ms i e at = ap (λ (o : Option ℕ). cut o ks ms) at ∙ sym (without_zip ks ms e)

module _ {K : Type 0} (eq : K → K → Bool) where
  -- ---- keys that differ

  all_front : (P : K → Type 0) (xs ys : List K) → AllByRecursion P (xs ++ ys) → AllByRecursion P xs
  all_front P [] ys all = tt
  all_front P (x ∷ xs) ys all = (all.0, all_front P xs ys all.1)

  pub distinct_front : (xs ys : List K) → IsDistinct eq (xs ++ ys) → IsDistinct eq xs
  unfolding IsDistinct
  distinct_front [] ys d = tt
  distinct_front (x ∷ xs) ys d = (all_front (λ y. eq x y ≡ false) xs ys d.0, distinct_front xs ys d.1)

  pub distinct_back : (xs ys : List K) → IsDistinct eq (xs ++ ys) → IsDistinct eq ys
  unfolding IsDistinct
  distinct_back [] ys d = d
  distinct_back (x ∷ xs) ys d = distinct_back xs ys d.1

  all_at : (P : K → Type 0) (xs ys : List K) (i : ℕ) (k : K) → AllByRecursion P (xs ++ ys) → slice_get ys i ≡ Some k → P k
  all_at P [] [] i k all at = absurd (let f : None ≡ Some k = at in cc)
  all_at P [] (y ∷ ys) zero k all at = subst P (same_Some y k at) all.0
  all_at P [] (y ∷ ys) (suc i) k all at = all_at P [] ys i k all.1 at
  all_at P (x ∷ xs) ys i k all at = all_at P xs ys i k all.1 at

  module _ (laws : IsEquivalence eq) where
    either : (a b : Bool) → a ≡ false → b ≡ false → (a || b) ≡ false
    either a b e f = ap (λ (t : Bool). t || b) e ∙ f

    fresh : (xs ys : List K) (i : ℕ) (k : K) → IsDistinct eq (xs ++ ys) → slice_get ys i ≡ Some k → list_any (eq k) (xs ++ take i ys) ≡ false
    unfolding IsDistinct
    fresh [] [] i k d at = absurd (let f : None ≡ Some k = at in cc)
    fresh [] (y ∷ ys) zero k d at = refl
    fresh [] (y ∷ ys) (suc i) k d at =
        either (eq k y) (list_any (eq k) (take i ys)) (laws.symm k y ∙ all_at (λ z. eq y z ≡ false) [] ys i k d.0 at) (fresh [] ys i k d.1 at)
    fresh (x ∷ xs) ys i k d at =
        either (eq k x) (list_any (eq k) (xs ++ take i ys)) (laws.symm k x ∙ all_at (λ z. eq x z ≡ false) xs ys i k d.0 at) (fresh xs ys i k d.1 at)

    -- one key more
    pub add_more : (xs ys keys after : List K) (i : ℕ) (k j : K) → IsDistinct eq (xs ++ ys) → keys ≡ xs ++ take i ys → slice_get ys i ≡ Some k → j ≡ k → after ≡ (if list_any (eq j) keys then keys else keys ++ j ∷ []) → after ≡ xs ++ take (i + 1) ys
    add_more xs ys keys after i k j d held at same is =
        is ∙ ap (λ (q : K). if list_any (eq q) keys then keys else keys ++ q ∷ []) same ∙
        ap (λ (l : List K). if list_any (eq k) l then l else l ++ k ∷ []) held ∙
        ap (λ (t : Bool). if t then xs ++ take i ys else (xs ++ take i ys) ++ k ∷ []) (fresh xs ys i k d at) ∙
        append_assoc xs (take i ys) (k ∷ []) ∙ ap (λ (l : List K). xs ++ l) (take_one ys i k at)

    all_more : (P : K → Type 0) (ks : List K) (k : K) → AllByRecursion P ks → P k → AllByRecursion P (ks ++ k ∷ [])
    all_more P [] k all p = (p, tt)
    all_more P (x ∷ ks) k all p = (all.0, all_more P ks k all.1 p)

    distinct_more : (ks : List K) (k : K) → IsDistinct eq ks → list_any (eq k) ks ≡ false → IsDistinct eq (ks ++ k ∷ [])
    unfolding IsDistinct
    distinct_more [] k d none = (tt, tt)
    distinct_more (x ∷ ks) k d none =
        let apart = either_not (eq k x) (list_any (eq k) ks) none in
        (all_more (λ y. eq x y ≡ false) ks k d.0 (laws.symm x k ∙ apart.0), distinct_more ks k d.1 apart.1)

    -- a key goes behind the last
    pub key_added : (front last after : List K) (k : K) → after ≡ last ++ k ∷ [] → front ++ after ≡ (front ++ last) ++ k ∷ []
    key_added front last after k is = ap (λ (l : List K). front ++ l) is ∙ sym (append_assoc front last (k ∷ []))

    pub one_more : (front last after now : List K) (k : K) (before count : ℕ) → front ++ last ≡ now → IsDistinct eq (front ++ last) → before ≡ length (front ++ last) → place (eq k) now ≡ None → after ≡ last ++ k ∷ [] → count ≡ before + 1 → IsDistinct eq (front ++ after) × (count ≡ length (front ++ after))
    one_more front last after now k before count view d all none is more =
        let keys = key_added front last after k is in
        let own = absent (eq k) (front ++ last) (sym (ap (λ (l : List K). place (eq k) l) view ∙ none)) in
        let long = ap (λ (l : List K). length l) keys ∙ length-append (front ++ last) (k ∷ []) in
        (subst (IsDistinct eq) (sym keys) (distinct_more (front ++ last) k d own), omega arith)

    none_past : (k j : K) (ks : List K) → eq k j ≡ true → AllByRecursion (λ y. eq j y ≡ false) ks → place (eq k) ks ≡ None
    none_past k j [] e all = refl
    none_past k j (x ∷ ks) e all =
        ap (λ (t : Bool). cond t (Some 0) (option_map suc (place (eq k) ks))) (laws.congr k j x e ∙ all.0) ∙ ap (option_map suc) (none_past k j ks e all.1)

    gone_by : (k j : K) (ks : List K) (i : ℕ) (t : Bool) (o : Option ℕ) → eq k j ≡ t → place (eq k) ks ≡ o → Some i ≡ cond t (Some 0) (option_map suc o) → AllByRecursion (λ y. eq j y ≡ false) ks → ((n : ℕ) → Some n ≡ o → place (eq k) (remove ks n) ≡ None) → place (eq k) (remove (j ∷ ks) i) ≡ None
    gone_by k j ks i true o h is e all rest = ap (λ n. place (eq k) (remove (j ∷ ks) n)) (same_Some i 0 e) ∙ none_past k j ks h all
    gone_by k j ks i false None h is e all rest = absurd (let f : Some i ≡ None = e in cc)
    gone_by k j ks i false (Some n) h is e all rest =
        ap (λ n. place (eq k) (remove (j ∷ ks) n)) (same_Some i (suc n) e) ∙
        ap (λ (t : Bool). cond t (Some 0) (option_map suc (place (eq k) (remove ks n)))) h ∙ ap (option_map suc) (rest n refl)

    gone : (ks : List K) (k : K) (i : ℕ) → IsDistinct eq ks → Some i ≡ place (eq k) ks → place (eq k) (remove ks i) ≡ None
    unfolding IsDistinct
    gone [] k i d e = absurd (let f : Some i ≡ None = e in cc)
    gone (j ∷ ks) k i d e = gone_by k j ks i (eq k j) (place (eq k) ks) refl refl e d.0 (λ n f. gone ks k n d.1 f)

module _ {K X : Type 0} (eq : K → K → Bool) (k : K) (ks : List K) (ms : List X) (now : List (K × X)) (view : zip ks ms ≡ now) (all : length ms ≡ length ks) where
  -- ---- a definition and a removal, by what is known of the members

  pub stay : None ≡ place (eq k) ks → now ≡ without eq now k
  stay e = kept eq k now (e ∙ ap (λ (l : List K). place (eq k) l) (keys_are ks ms now view all))

  pub redefined : (x : X) (i : ℕ) (after : List X) → Some i ≡ place (eq k) ks → after ≡ set ms i x → zip ks after ≡ define eq now k x
  redefined x i after e is =
      ap (λ (l : List X). zip ks l) is ∙ defined_again eq k ks ms x i all e ∙ ap (λ (es : List (K × X)). define eq es k x) view

  pub appended : (x : X) (keys : List K) (after : List X) → None ≡ place (eq k) ks → keys ≡ ks ++ k ∷ [] → after ≡ ms ++ x ∷ [] → zip keys after ≡ define eq now k x
  appended x keys after e same is =
      ap (λ (l : List K). zip l after) same ∙ ap (λ (l : List X). zip (ks ++ k ∷ []) l) is ∙ defined_new eq k ks ms x all e ∙
      ap (λ (es : List (K × X)). define eq es k x) view

  module _ (i : ℕ) (keys : List K) (after : List X) (there : Some i ≡ place (eq k) ks) (rest : keys ≡ remove ks i) (is : after ≡ remove ms i) where
    pub cut_out : zip keys after ≡ without eq now k
    cut_out =
        ap (λ (l : List K). zip l after) rest ∙ ap (λ (l : List X). zip (remove ks i) l) is ∙ removed eq k ks ms i all there ∙
        ap (λ (es : List (K × X)). without eq es k) view

    pub as_many : length after ≡ length keys
    as_many = ap (λ (l : List X). length l) is ∙ same_length eq k ks ms i all ∙ ap (λ (l : List K). length l) (sym rest)

    pub cut_gone : IsEquivalence eq → IsDistinct eq ks → lookup (eq k) (zip keys after) ≡ None
    cut_gone laws d =
        lookup_zip (eq k) keys after as_many ∙
        ap (λ (o : Option ℕ). at_place o after)
        (ap (λ (l : List K). place (eq k) l) rest ∙ gone eq laws ks k i d there)
