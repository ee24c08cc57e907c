-- The order of the walk, over paths that are made of names.
use Rattle.std.proofs.Common.{◌≡◌, ℕ, suc, not, ◌<◌, Bool, true, false, ◌&&◌, [], ◌∷◌, ◌++◌, map, length, codes, inl, inr, refl, sym, ◌∙◌, ap, arith}
use Rattle.std.specs.Prelude.{IsTrue, nat_le}
use Rattle.std.specs.List.{concat, list_all}
use Rattle.std.specs.Char.{is_ascii_alphabetic}
use Rattle.std.proofs.lemmas.Bool.Decides.{nat_tests}
use Rattle.std.specs.Ordering.{nat_cmp, ordering_then, ordering_reverse, MatchOrdering}
use Rattle.std.specs.declared.cmp.Ordering.{Ordering}
use Rattle.std.specs.declared.cmp.Ordering.TheVariants.{Less, Equal, Greater}
use Rattle.std.specs.Cmp.{IsTotalOrder}
use Rattle.std.specs.Cmp.Lexicographic.{slice_cmp, nat_list_cmp_total, lists_total}
use Rattle.std.proofs.lemmas.Cmp.{tied_itself, ranked}
use Rattle.mx_value.specs.Name.{is_name, is_name_byte, is_spelled, is_keyword}
use Rattle.mx_model.specs.Records.{Name, Path}
use Rattle.mx_model.specs.Walk.{Before, path_text}
use Rattle.mx_paths.specs.Names.{AreNames}

abbrev pub bytes_cmp : Name → Name → Ordering
bytes_cmp = slice_cmp nat_cmp

abbrev pub names_cmp : Path → Path → Ordering
names_cmp = slice_cmp bytes_cmp

-- ---- the bytes of a name are above the dot

abbrev AllAbove : Name → Type 0
AllAbove [] = Unit {0}
AllAbove (b ∷ bs) = (46 < b) × AllAbove bs

both_first : (a b : Bool) → (a && b) ≡ true → a ≡ true
both_first true b e = refl
both_first false b e = e

both_second : (a b : Bool) → (a && b) ≡ true → b ≡ true
both_second true b e = e
both_second false b e = absurd (let f : false ≡ true = e in cc)

byte_above : (b : ℕ) → is_name_byte b ≡ true → 46 < b
byte_above b e = grind (arith, nat_tests)

letter_above : (b : ℕ) → is_ascii_alphabetic b ≡ true → 46 < b
letter_above b e = grind (arith, nat_tests)

bytes_above : (bs : Name) → list_all is_name_byte bs ≡ true → AllAbove bs
bytes_above [] e = tt
bytes_above (b ∷ bs) e = (byte_above b (both_first (is_name_byte b) (list_all is_name_byte bs) e), bytes_above bs (both_second (is_name_byte b) (list_all is_name_byte bs) e))

spelled_above : (name : Name) → is_spelled name ≡ true → AllAbove name
spelled_above [] e = tt
spelled_above (b ∷ bs) e = (letter_above b (both_first (is_ascii_alphabetic b) (list_all is_name_byte bs) e), bytes_above bs (both_second (is_ascii_alphabetic b) (list_all is_name_byte bs) e))

name_above : (name : Name) → IsTrue (is_name name) → AllAbove name
name_above name e =
    let two = is_spelled name && nat_le (length name) 64 in
    spelled_above name (both_first (is_spelled name) (nat_le (length name) 64) (both_first two (not (is_keyword name)) e))

-- ---- texts are compared as lists of names are

-- the names, each behind a dot
abbrev dotted : Path → Name
dotted names = concat (map (λ (u : Name). codes "." ++ u) names)

less_is : (a b : ℕ) → a < b → nat_cmp a b ≡ Less
less_is a b h = grind (arith, nat_tests)

greater_is : (a b : ℕ) → b < a → nat_cmp a b ≡ Greater
greater_is a b h = grind (arith, nat_tests)

then_then : (o p q r : Ordering) → p ≡ ordering_then q r → ordering_then o p ≡ ordering_then (ordering_then o q) r
then_then Less p q r e = refl
then_then Equal p q r e = e
then_then Greater p q r e = refl

then_equal : (o : Ordering) → ordering_then o Equal ≡ o
then_equal Less = refl
then_equal Equal = refl
then_equal Greater = refl

split_cmp : (x y : Name) (xs ys : Path) → AllAbove x → AllAbove y → length xs ≡ length ys → bytes_cmp (x ++ dotted xs) (y ++ dotted ys) ≡ ordering_then (bytes_cmp x y) (bytes_cmp (dotted xs) (dotted ys))
split_cmp [] [] xs ys ax ay l = refl
split_cmp [] (b ∷ y) [] [] ax ay l = refl
split_cmp [] (b ∷ y) [] (m ∷ ms) ax ay l = absurd (omega arith)
split_cmp [] (b ∷ y) (n ∷ ns) [] ax ay l = absurd (omega arith)
split_cmp [] (b ∷ y) (n ∷ ns) (m ∷ ms) ax ay l = ap (λ o. ordering_then o (bytes_cmp (n ++ dotted ns) (y ++ dotted (m ∷ ms)))) (less_is 46 b ay.0)
split_cmp (a ∷ x) [] [] [] ax ay l = refl
split_cmp (a ∷ x) [] [] (m ∷ ms) ax ay l = absurd (omega arith)
split_cmp (a ∷ x) [] (n ∷ ns) [] ax ay l = absurd (omega arith)
split_cmp (a ∷ x) [] (n ∷ ns) (m ∷ ms) ax ay l = ap (λ o. ordering_then o (bytes_cmp (x ++ dotted (n ∷ ns)) (m ++ dotted ms))) (greater_is a 46 ax.0)
split_cmp (a ∷ x) (b ∷ y) xs ys ax ay l =
    then_then (nat_cmp a b) (bytes_cmp (x ++ dotted xs) (y ++ dotted ys)) (bytes_cmp x y) (bytes_cmp (dotted xs) (dotted ys)) (split_cmp x y xs ys ax.1 ay.1 l)

dotted_cmp : (xs ys : Path) → AreNames xs → AreNames ys → length xs ≡ length ys → bytes_cmp (dotted xs) (dotted ys) ≡ names_cmp xs ys
dotted_cmp [] [] nx ny l = refl
dotted_cmp [] (y ∷ ys) nx ny l = absurd (omega arith)
dotted_cmp (x ∷ xs) [] nx ny l = absurd (omega arith)
dotted_cmp (x ∷ xs) (y ∷ ys) nx ny l =
    let rest : length xs ≡ length ys = omega arith in
    split_cmp x y xs ys (name_above x nx.0) (name_above y ny.0) rest ∙ ap (ordering_then (bytes_cmp x y)) (dotted_cmp xs ys nx.1 ny.1 rest)

text_cmp : (p q : Path) → AreNames p → AreNames q → length p ≡ length q → bytes_cmp (path_text p) (path_text q) ≡ names_cmp p q
text_cmp [] [] np nq l = refl
text_cmp [] (y ∷ ys) np nq l = absurd (omega arith)
text_cmp (x ∷ xs) [] np nq l = absurd (omega arith)
text_cmp (x ∷ xs) (y ∷ ys) np nq l =
    let rest : length xs ≡ length ys = omega arith in
    split_cmp x y xs ys (name_above x np.0) (name_above y nq.0) rest ∙ ap (ordering_then (bytes_cmp x y)) (dotted_cmp xs ys np.1 nq.1 rest)

push_cmp : (p q : Path) (a b : Name) → length p ≡ length q → names_cmp (p ++ a ∷ []) (q ++ b ∷ []) ≡ ordering_then (names_cmp p q) (bytes_cmp a b)
push_cmp [] [] a b l = then_equal (bytes_cmp a b)
push_cmp [] (y ∷ ys) a b l = absurd (omega arith)
push_cmp (x ∷ xs) [] a b l = absurd (omega arith)
push_cmp (x ∷ xs) (y ∷ ys) a b l =
    let rest : length xs ≡ length ys = omega arith in
    then_then (bytes_cmp x y) (names_cmp (xs ++ a ∷ []) (ys ++ b ∷ [])) (names_cmp xs ys) (bytes_cmp a b) (push_cmp xs ys a b rest)

-- ---- before

names_total : IsTotalOrder names_cmp
names_total = lists_total nat_list_cmp_total

pub names_push : (p : Path) (n : Name) → AreNames p → IsTrue (is_name n) → AreNames (p ++ n ∷ [])
names_push [] n np nn = (nn, tt)
names_push (x ∷ p) n np nn = (np.0, names_push p n np.1 nn)

pub names_init : (p : Path) (n : Name) → AreNames (p ++ n ∷ []) → AreNames p × IsTrue (is_name n)
names_init [] n np = (tt, np.0)
names_init (x ∷ p) n np = let r = names_init p n np.1 in ((np.0, r.0), r.1)

pub long_push : (p : Path) (n : Name) → length (p ++ n ∷ []) ≡ suc (length p)
long_push [] n = refl
long_push (x ∷ p) n = ap suc (long_push p n)

less_then : (o p : Ordering) → o ≡ Less → ordering_then o p ≡ Less
less_then o p e = ap (λ r. ordering_then r p) e

-- of two paths that are as long, the children of the first stand before those of the other
pub before_push : (p q : Path) (a b : Name) → AreNames (p ++ a ∷ []) → AreNames (q ++ b ∷ []) → Before p q → Before (p ++ a ∷ []) (q ++ b ∷ [])
before_push p q a b np nq before =
    let la = long_push p a in
    let lb = long_push q b in
    elim before [
      | inl l ↦ inl (omega arith)
      | inr m ↦
          let long : length p ≡ length q = m.0 in
          let less : names_cmp p q ≡ Less = sym (text_cmp p q (names_init p a np).0 (names_init q b nq).0 long) ∙ m.1 in
          let both : length (p ++ a ∷ []) ≡ length (q ++ b ∷ []) = omega arith in
          inr (both, text_cmp (p ++ a ∷ []) (q ++ b ∷ []) np nq both ∙ push_cmp p q a b long ∙ less_then (names_cmp p q) (bytes_cmp a b) less)
    ]

-- children of one path stand in the order of their names
pub before_last : (p : Path) (a b : Name) → AreNames (p ++ a ∷ []) → AreNames (p ++ b ∷ []) → bytes_cmp a b ≡ Less → Before (p ++ a ∷ []) (p ++ b ∷ [])
before_last p a b na nb less =
    let la = long_push p a in
    let lb = long_push p b in
    let both : length (p ++ a ∷ []) ≡ length (p ++ b ∷ []) = omega arith in
    inr (both, text_cmp (p ++ a ∷ []) (p ++ b ∷ []) na nb both ∙ push_cmp p p a b refl ∙ ap (λ o. ordering_then o (bytes_cmp a b)) (tied_itself names_total p) ∙ less)

pub before_trans : (p q r : Path) → Before p q → Before q r → Before p r
before_trans p q r a b =
    elim a [
      | inl l ↦ elim b [ inl k ↦ inl (omega arith) | inr k ↦ let e : length q ≡ length r = k.0 in inl (omega arith) ]
      | inr l ↦
          let e : length p ≡ length q = l.0 in
          elim b [ inl k ↦ inl (omega arith) | inr k ↦ inr (e ∙ k.0, nat_list_cmp_total.trans (path_text p) (path_text q) (path_text r) l.1 k.1) ]
    ]

pub before_not : (p : Path) → Before p p → ⊥
before_not p a =
    elim a [
      | inl l ↦ omega arith
      | inr l ↦ let e = tied_itself nat_list_cmp_total (path_text p) in let f : Less ≡ Equal = sym l.1 ∙ e in cc
    ]

pub before_longer : (p q r : Path) → Before p q → length q < length r → Before p r
before_longer p q r a l = elim a [ inl k ↦ inl (omega arith) | inr k ↦ let e : length p ≡ length q = k.0 in inl (omega arith) ]

pub name_same : (a b : Name) → bytes_cmp a b ≡ Equal → a ≡ b
name_same [] [] e = refl
name_same [] (b ∷ bs) e = absurd (let f : Less ≡ Equal = e in cc)
name_same (a ∷ as') [] e = absurd (let f : Greater ≡ Equal = e in cc)
name_same (a ∷ as') (b ∷ bs) e = name_by a b as' bs (nat_cmp a b) (ranked a b (nat_cmp a b) refl) e (λ f. name_same as' bs f)
  where
    name_by : (a b : ℕ) (as' bs : Name) (o : Ordering) → MatchOrdering o (a < b) (a ≡ b) (b < a) → ordering_then o (bytes_cmp as' bs) ≡ Equal → (bytes_cmp as' bs ≡ Equal → as' ≡ bs) → a ∷ as' ≡ b ∷ bs
    name_by a b as' bs Less m e f = absurd (let g : Less ≡ Equal = e in cc)
    name_by a b as' bs Equal m e f = let g = f e in cc
    name_by a b as' bs Greater m e f = absurd (let g : Greater ≡ Equal = e in cc)

path_same_by : (x y : Name) (p q : Path) (o : Ordering) → bytes_cmp x y ≡ o → ordering_then o (names_cmp p q) ≡ Equal → (names_cmp p q ≡ Equal → p ≡ q) → x ∷ p ≡ y ∷ q
path_same_by x y p q Less m e f = absurd (let g : Less ≡ Equal = e in cc)
path_same_by x y p q Equal m e f = let g = f e in let h = name_same x y m in cc
path_same_by x y p q Greater m e f = absurd (let g : Greater ≡ Equal = e in cc)

path_same : (p q : Path) → names_cmp p q ≡ Equal → p ≡ q
path_same [] [] e = refl
path_same [] (y ∷ q) e = absurd (let f : Less ≡ Equal = e in cc)
path_same (x ∷ p) [] e = absurd (let f : Greater ≡ Equal = e in cc)
path_same (x ∷ p) (y ∷ q) e = path_same_by x y p q (bytes_cmp x y) refl e (λ f. path_same p q f)

-- of two paths one stands before the other, or they are the same
pub data Ordered (p q : Path) : Type 0 where
  First : Before p q → Ordered p q
  Same : p ≡ q → Ordered p q
  Second : Before q p → Ordered p q

ordered_by : (p q : Path) (o : Ordering) → length p ≡ length q → bytes_cmp (path_text p) (path_text q) ≡ o → names_cmp p q ≡ o → Ordered p q
ordered_by p q Less l t n = First (inr (l, t))
ordered_by p q Equal l t n = Same (path_same p q n)
ordered_by p q Greater l t n = Second (inr (sym l, nat_list_cmp_total.antisymm (path_text q) (path_text p) ∙ ap ordering_reverse t))

lengths_by : (p q : Path) (o : Ordering) → MatchOrdering o (length p < length q) (length p ≡ length q) (length q < length p) → AreNames p → AreNames q → Ordered p q
lengths_by p q Less m np nq = First (inl m)
lengths_by p q Equal m np nq = ordered_by p q (names_cmp p q) m (text_cmp p q np nq m) refl
lengths_by p q Greater m np nq = Second (inl m)

pub ordered : (p q : Path) → AreNames p → AreNames q → Ordered p q
ordered p q np nq = lengths_by p q (nat_cmp (length p) (length q)) (ranked (length p) (length q) (nat_cmp (length p) (length q)) refl) np nq
