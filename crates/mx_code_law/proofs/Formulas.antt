-- The code of a formula does the formula's run.
use Rattle.std.proofs.Common.{◌≡◌, ◌∙◌, ℕ, zero, suc, ◌+◌, ◌-◌, ◌<◌, ◌≤◌, Bool, true, false, ◌||◌, ◌&&◌, nat_lt, List, [], ◌∷◌, ◌++◌, length, map, drop, get_or, Option, Some, None, refl, sym, ap, subst, arith, length-append, append_assoc}
use Rattle.std.specs.Prelude.{if◌then◌else◌, ◌==◌, is_none}
use Rattle.std.specs.List.{list_any, cons_option}
use Rattle.std.specs.Cmp.Lexicographic.{pointwise}
use Rattle.std.proofs.Math.Nat.{le-max_left, le-max_right}
use Rattle.std.proofs.Math.Seq.{get_or-append_seam}
use Rattle.std.proofs.lemmas.List.{length-map, length-drop}
use Rattle.mx_value.specs.declared.label.Label.{Label}
use Rattle.mx_value.specs.declared.value.Value.{Value, out-Value}
use Rattle.mx_value.specs.declared.value.Value.TheVariants.{Nothing}
use Rattle.mx_value.specs.declared.node.Node.{Node}
use Rattle.mx_value.specs.declared.namespace.Namespace.{Namespace}
use Rattle.mx_value.specs.declared.fault.FaultKind.TheVariants.{NoneReturned}
use Rattle.mx_value.specs.Name.{same_name}
use Rattle.mx_value.specs.Normal.{normal_of}
use Rattle.mx_syntax.specs.declared.stmt.Stmt.{Stmt}
use Rattle.mx_syntax.specs.declared.stmt.Param.{Param}
use Rattle.mx_syntax.specs.Binding.{bound, defaults, lack_default, is_wrong_count}
use Rattle.mx_syntax.specs.Heights.{first_line}
use Rattle.mx_syntax.specs.Lists.{flat}
use Rattle.mx_syntax.specs.Locals.{bound_by, add, add_all, names_of}
use Rattle.mx_runs.specs.Runs.{Run, Ends, Gives, Faults}
use Rattle.mx_meaning.specs.Namespaces.{Overlay}
use Rattle.mx_meaning.specs.Environments.{Locals}
use Rattle.mx_meaning.specs.Statements.{Returned, Plain, Display, body_done}
use Rattle.mx_meaning.specs.Nodes.{arguments_of, set_locals, unset_locals, first_env, value_given, cells_returned, path_in, source_or_fault, based, item_given, item_returned, item_done}
use Rattle.mx_code.specs.declared.action.Instr.{Instr}
use Rattle.mx_code.specs.Names.{place_of, numbered}
use Rattle.mx_code.specs.Statements.{coded, body_code, nothing_code, scope_of, code_of, body_of, places_in, size_of}
use Rattle.mx_code_law.specs.States.{Home, OfCells, OfItem, state, End}
use Rattle.mx_code_law.specs.Returning.{sourced_outcome, based_outcome, item_outcome}
use Rattle.mx_code_law.specs.Machine.{Leads, Does, Ended}
use Rattle.mx_code_law.specs.Fits.{IsFree, HasPlaces, IsScope, standing, Stands, HavePlaces, Returns}
use Rattle.mx_code_law.specs.Laws.{unset, set, begun}
use Rattle.mx_code_law.proofs.Places.{has_front, has_back, has_whole}
use Rattle.mx_code_law.proofs.Bodies.{nothing_does}
use Rattle.mx_code_law.proofs.Statements.{body_fits}

-- places from one on are others than those before it, and each is its own
free_before : (place n : ℕ) (names : List Label) → place < n → IsFree place (numbered n names)
free_before place n [] h = tt
free_before place n (x ∷ names) h = (λ e. omega (arith, h, e), free_before place (n + 1) names (omega (arith, h)))

has_places : (size n : ℕ) (names : List Label) → n + length names ≤ size → HasPlaces size (numbered n names)
has_places size n [] h = tt
has_places size n (x ∷ names) h = (omega (arith, h), free_before n (n + 1) names (omega arith), has_places size (n + 1) names (omega (arith, h)))

-- names with what stands at their places
abbrev paired : List Label → List (Option Value) → List (Label × Option Value)
paired [] ls = []
paired (x ∷ names) [] = []
paired (x ∷ names) (l ∷ ls) = (x, l) ∷ paired names ls

stands_numbered : (front rest : List (Option Value)) (n : ℕ) (names : List Label) → n ≡ length front → length names ≤ length rest → map (standing (front ++ rest)) (numbered n names) ≡ paired names rest
stands_numbered front rest n [] e long = refl
stands_numbered front [] n (x ∷ names) e long = absurd (omega (arith, long))
stands_numbered front (l ∷ rest) n (x ∷ names) e long =
    let here : get_or (front ++ l ∷ rest) n None ≡ l = ap (λ m. get_or (front ++ l ∷ rest) m None) e ∙ get_or-append_seam front l rest None in
    let next : n + 1 ≡ length (front ++ l ∷ []) = omega (arith, e, length-append front (l ∷ [])) in
    ap (λ m. (x, m) ∷ map (standing (front ++ l ∷ rest)) (numbered (n + 1) names)) here
    ∙ ap (λ ms. (x, l) ∷ ms) (ap (λ ls. map (standing ls) (numbered (n + 1) names)) (sym (append_assoc front (l ∷ []) rest)) ∙ stands_numbered (front ++ l ∷ []) rest (n + 1) names next (omega (arith, long)))

paired_both : (xs ys : List Label) (ls ms : List (Option Value)) → length ls ≡ length xs → paired (xs ++ ys) (ls ++ ms) ≡ paired xs ls ++ paired ys ms
paired_both [] ys [] ms e = refl
paired_both [] ys (l ∷ ls) ms e = absurd (omega (arith, e))
paired_both (x ∷ xs) ys [] ms e = absurd (omega (arith, e))
paired_both (x ∷ xs) ys (l ∷ ls) ms e = ap (λ r. (x, l) ∷ r) (paired_both xs ys ls ms (omega (arith, e)))

paired_given : (params : List Param) (vs : List Value) → length vs ≡ length params → paired (names_of params) (map set vs) ≡ set_locals (arguments_of params vs)
paired_given [] vs e = refl
paired_given (p ∷ params) [] e = absurd (omega (arith, e))
paired_given (p ∷ params) (v ∷ vs) e = ap (λ r. (p.name, Some v) ∷ r) (paired_given params vs (omega (arith, e)))

paired_unset : (names : List Label) (n : ℕ) → length names ≤ n → paired names (unset n) ≡ map (λ (name : Label). (name, None)) names
paired_unset [] n e = refl
paired_unset (x ∷ names) zero e = absurd (omega (arith, e))
paired_unset (x ∷ names) (suc n) e = ap (λ r. (x, None) ∷ r) (paired_unset names n (omega (arith, e)))

unset_long : (n : ℕ) → length (unset n) ≡ n
unset_long zero = refl
unset_long (suc n) = ap suc (unset_long n)

-- arguments that bind are as many as the parameters
all_given : (params : List Param) → lack_default params ≡ false → length (defaults params) ≡ length params
all_given [] h = refl
all_given (p ∷ params) h = here p.default h (λ k. all_given params k)
  where
    here : (d : Option Value) → (is_none d || lack_default params) ≡ false → (lack_default params ≡ false → length (defaults params) ≡ length params) → length (cons_option d (defaults params)) ≡ suc (length params)
    here None h more = cc
    here (Some v) h more = omega (arith, more h)

neither : (a b : Bool) → (a || b) ≡ false → (a ≡ false) × (b ≡ false)
neither false false h = (refl, refl)
neither false true h = cc
neither true b h = cc

not_less : (a b : ℕ) → nat_lt a b ≡ false → b ≤ a
not_less a b h = grind arith

bound_long : (params : List Param) (args : List Value) → is_wrong_count params (length args) ≡ false → length (bound params args) ≡ length params
bound_long params args h =
    let hs = neither (nat_lt (length params) (length args)) (lack_default (drop (length args) params)) h in
    let few = not_less (length params) (length args) hs.0 in
    length-map (args ++ defaults (drop (length args) params)) normal_of ∙ omega (arith, few, length-append args (defaults (drop (length args) params)), all_given (drop (length args) params) hs.1, length-drop (length args) params)

-- a name is listed
abbrev Listed : List Label → Label → Type 0
Listed names x = list_any (λ (other : Label). same_name other x) names ≡ true

same_self : (x : Label) → same_name x x ≡ true
same_self [] = refl
same_self (b ∷ bs) =
    let e : (b == b) ≡ true = grind arith in
    ap (λ t. t && pointwise ◌==◌ bs bs) e ∙ same_self bs

or_right : (a b : Bool) → b ≡ true → (a || b) ≡ true
or_right true b h = refl
or_right false b h = h

listed_more : (xs ys : List Label) (x : Label) → Listed xs x → Listed (xs ++ ys) x
listed_more [] ys x h = cc
listed_more (y ∷ xs) ys x h = here (same_name y x) h (λ k. listed_more xs ys x k)
  where
    here : (b : Bool) → (b || list_any (λ (other : Label). same_name other x) xs) ≡ true → (Listed xs x → Listed (xs ++ ys) x) → (b || list_any (λ (other : Label). same_name other x) (xs ++ ys)) ≡ true
    here true h more = refl
    here false h more = more h

listed_last : (xs : List Label) (x : Label) → Listed (xs ++ x ∷ []) x
listed_last [] x = ap (λ b. b || false) (same_self x)
listed_last (y ∷ xs) x = or_right (same_name y x) _ (listed_last xs x)

listed_added : (xs : List Label) (x : Label) → Listed (add xs x) x
listed_added xs x = here (list_any (λ (other : Label). same_name other x) xs) refl
  where
    here : (b : Bool) → list_any (λ (other : Label). same_name other x) xs ≡ b → Listed (if b then xs else xs ++ x ∷ []) x
    here true h = h
    here false h = listed_last xs x

listed_add : (xs : List Label) (y x : Label) → Listed xs x → Listed (add xs y) x
listed_add xs y x h = here (list_any (λ (other : Label). same_name other y) xs)
  where
    here : (b : Bool) → Listed (if b then xs else xs ++ y ∷ []) x
    here true = h
    here false = listed_more xs (y ∷ []) x h

listed_all : (ys xs : List Label) (x : Label) → Listed xs x → Listed (add_all xs ys) x
listed_all [] xs x h = h
listed_all (y ∷ ys) xs x h = listed_all ys (add xs y) x (listed_add xs y x h)

listed_behind : (xs ys : List Label) (x : Label) → Listed ys x → Listed (xs ++ ys) x
listed_behind [] ys x h = h
listed_behind (y ∷ xs) ys x h = or_right (same_name y x) _ (listed_behind xs ys x h)

-- a name that is listed has a place
placed : (n : ℕ) (names : List Label) (x : Label) → Listed names x → (place : ℕ) × (place_of (numbered n names) x ≡ Some place)
placed n [] x h = cc
placed n (y ∷ names) x h = here (same_name y x) h (λ k. placed (n + 1) names x k)
  where
    here : (b : Bool) → (b || list_any (λ (other : Label). same_name other x) names) ≡ true → (Listed names x → (place : ℕ) × (place_of (numbered (n + 1) names) x ≡ Some place)) → (place : ℕ) × ((if b then Some n else place_of (numbered (n + 1) names) x) ≡ Some place)
    here true h more = (n, refl)
    here false h more = more h

have_places : (front names xs : List Label) → HavePlaces (numbered 0 (front ++ add_all xs names)) names
have_places front [] xs = tt
have_places front (x ∷ names) xs =
    (placed 0 (front ++ add_all (add xs x) names) x (listed_behind front _ x (listed_all names (add xs x) x (listed_added xs x))), have_places front names (add xs x))

numbered_long : (n : ℕ) (names : List Label) → length (numbered n names) ≡ length names
numbered_long n [] = refl
numbered_long n (x ∷ names) = omega (arith, numbered_long (n + 1) names)

-- ---- returns

module _ (code : List Instr) (n : Node) (ns : Namespace) where
  pub cells_return : (allow : Bool) → Returns code (record { node = n; space = ns; work = OfCells allow }) (cells_returned allow n)
  cells_return allow (Plain Nothing) = nothing allow
    where
      nothing : (b : Bool) → Leads code (record { node = n; space = ns; work = OfCells allow }) (End (if b then Gives (record { value = Nothing; namespace = None }) else Faults NoneReturned n 1)) (if b then value_given Nothing else Ends (Faults NoneReturned n 1))
      nothing true = Ended _
      nothing false = Ended _
  cells_return allow (Plain v) = Ended _
  cells_return allow (Display refs base) = Ended _

  module _ (args : List Value) (given : Overlay) where
    abbrev home : Home
    home = record { node = n; space = ns; work = OfItem args given }

    sourced : (source : Option (List Label)) (over : Overlay) → Leads code home (End (sourced_outcome source n (item_outcome ns args over))) (source_or_fault source n (item_given ns args over))
    sourced (Some source) over = Ended _
    sourced None over = Ended _

    based_return : (base : Option Value) (over : Overlay) → Leads code home (End (based_outcome base ns n (item_outcome ns args over))) (based base ns n (item_given ns args over))
    based_return None over = Ended _
    based_return (Some v) over = sourced (path_in (out-Value v)) over

    pub item_return : Returns code home (item_returned n ns args given)
    item_return (Plain Nothing) = Ended _
    item_return (Plain v) = Ended _
    item_return (Display refs base) = based_return base _

-- ---- formulas

module _ (params : List Param) (body : List Stmt) (vs : List Value) (many : length vs ≡ length params) where
  abbrev own_names : List Label
  own_names = add_all [] (flat (map bound_by body))

  abbrev all_names : List Label
  all_names = names_of params ++ own_names

  abbrev size : ℕ
  size = size_of params body

  abbrev rest : List (Option Value)
  rest = unset (size - length vs)

  names_long : length (names_of params) ≡ length vs
  names_long = length-map params (λ (p : Param). p.name) ∙ sym many

  set_long : length (map set vs) ≡ length vs
  set_long = length-map vs set

  all_long : length all_names ≡ length vs + length own_names
  all_long = omega (arith, length-append (names_of params) own_names, names_long)

  fits : length all_names ≤ size
  fits = omega (arith, numbered_long 0 all_names, le-max_left (length (scope_of params body)) (places_in (code_of params body)))

  pub begun_long : length (begun size vs) ≡ size
  begun_long = omega (arith, length-append (map set vs) rest, set_long, unset_long (size - length vs), all_long, fits)

  begun_stands : (n : Node) (ns : Namespace) → Stands size (scope_of params body) (set_locals (arguments_of params vs) ++ unset_locals body) (begun size vs)
  begun_stands n ns =
      let room : length all_names ≤ length (begun size vs) = omega (arith, begun_long, fits) in
      let own : length own_names ≤ size - length vs = omega (arith, all_long, fits) in
      let first : length (map set vs) ≡ length (names_of params) = set_long ∙ sym names_long in
      record {
        is = sym (stands_numbered [] (begun size vs) 0 all_names refl room
            ∙ paired_both (names_of params) own_names (map set vs) rest first
            ∙ ap (λ (ms : Locals). ms ++ paired own_names rest) (paired_given params vs many)
            ∙ ap (λ (ms : Locals). set_locals (arguments_of params vs) ++ ms) (paired_unset own_names (size - length vs) own));
        long = begun_long;
        fit = omega (arith, numbered_long 0 all_names, fits);
      }

  pub formula_does : (h : Home) (back : Returned → Run) → Returns (code_of params body) h back → Does (code_of params body) h (state 0 [] (begun size vs)) (body_done body (first_env h.node h.space (arguments_of params vs) body) back)
  formula_does h back r =
      let code = code_of params body in
      let scope = scope_of params body in
      let c = body_code (map coded body) scope (first_line body) in
      let has = has_whole size code (le-max_right (length scope) (places_in code)) in
      let places : HasPlaces (length all_names) scope = has_places (length all_names) 0 all_names (omega arith) in
      let sc : IsScope scope = subst (λ m. HasPlaces m scope) (sym (numbered_long 0 all_names)) places in
      body_fits code h size body scope (first_line body) sc (have_places (names_of params) (flat (map bound_by body)) []) 0 [] (begun size vs) 1 _ _ back (has_front code size 0 c (nothing_code 1) has) (begun_stands h.node h.space) r
      (λ l more ms sm. nothing_does code h size 1 (0 + length c) [] ms back r (has_back code size 0 c (nothing_code 1) has))

pub cells_do : (n : Node) (ns : Namespace) (allow : Bool) (params : List Param) (body : List Stmt) (args : List Value) → is_wrong_count params (length args) ≡ false
    → Does (code_of params body) (record { node = n; space = ns; work = OfCells allow }) (state 0 [] (begun (size_of params body) (bound params args)))
    (body_done body (first_env n ns (arguments_of params (bound params args)) body) (cells_returned allow n))
cells_do n ns allow params body args e =
    formula_does params body (bound params args) (bound_long params args e) (record { node = n; space = ns; work = OfCells allow }) (cells_returned allow n) (cells_return (code_of params body) n ns allow)

pub items_do : (n : Node) (ns : Namespace) (params : List Param) (body : Option (List Stmt)) (args : List Value) → is_wrong_count params (length args) ≡ false
    → Does (code_of params (body_of body)) (record { node = n; space = ns; work = OfItem (bound params args) (arguments_of params (bound params args)) })
    (state 0 [] (begun (size_of params (body_of body)) (bound params args)))
    (item_done body n ns (bound params args) (arguments_of params (bound params args)))
items_do n ns params None args e =
    let vs = bound params args in
    let given = arguments_of params vs in
    formula_does params [] vs (bound_long params args e) (record { node = n; space = ns; work = OfItem vs given }) (item_returned n ns vs given) (item_return (code_of params []) n ns vs given)
items_do n ns params (Some body) args e =
    let vs = bound params args in
    let given = arguments_of params vs in
    formula_does params body vs (bound_long params args e) (record { node = n; space = ns; work = OfItem vs given }) (item_returned n ns vs given) (item_return (code_of params body) n ns vs given)

pub sizes_are : (params : List Param) (body : List Stmt) (args : List Value) → is_wrong_count params (length args) ≡ false → length (begun (size_of params body) (bound params args)) ≡ size_of params body
sizes_are params body args e = begun_long params body (bound params args) (bound_long params args e)
