-- The laws of the definitions.
use Rattle.std.proofs.Common.{◌≡◌, ℕ, zero, suc, ◌<◌, ◌≤◌, Bool, true, false, cond, ◌||◌, Option, Some, None, Result, Ok, Err, IfOk, List, [], ◌∷◌, ◌++◌, ◌⊎◌, inl, inr, refl, sym, ◌∙◌, ap, subst, arith}
use Rattle.mx_c3.specs.declared.space.SpaceId.{SpaceId}
use Rattle.mx_c3.specs.Lists.{Has, Among}
use Rattle.mx_c3.specs.declared.refusal.C3Refusal.{C3Refusal}
use Rattle.mx_c3.specs.Merge.{Answers, same, tail, heads, stands, in_tail, first_free, next, without_all, each_once, put, stop, merging, size, merge}
use Rattle.mx_c3.specs.Linearisation.{bases_of, Leads}
use Rattle.mx_c3.specs.Laws.{IsBehind, IsNext, IsBlocked, IsKept, TakesNext, MergesInTurn, BlocksInTurn, RanksFall}
use Rattle.mx_c3.proofs.ListLemmas.{Same, Other, compared, is_same}
use Rattle.mx_c3.proofs.Within.{within_has}
use Rattle.mx_c3.proofs.MergeLemmas.{merging_none, merging_some, merge_none, merge_some, size_less, none_left}
use Rattle.mx_c3.proofs.MergeLaws.{merge_is, is_merge, keeps, from_lists, once}

pub stands_has : (xs : List SpaceId) (x : SpaceId) → stands xs x ≡ true → Has xs x
stands_has [] x e = absurd (let i : false ≡ true = e in cc)
stands_has (y ∷ ys) x e =
    elim (compared y x) [
      | Same s i ↦ inl i
      | Other s i ↦ inr (stands_has ys x (let t : stands ys x ≡ true = rw s at e in t))
    ]

or_true : (a b : Bool) → b ≡ true → (a || b) ≡ true
or_true true b e = refl
or_true false b e = e

pub has_stands : (xs : List SpaceId) (x : SpaceId) → Has xs x → stands xs x ≡ true
has_stands [] x h = absurd h
has_stands (y ∷ ys) x h = elim h [ inl e ↦ rw (is_same y x e) refl | inr r ↦ or_true (same y x) (stands ys x) (has_stands ys x r) ]

or_either : (a b : Bool) → (a || b) ≡ true → (a ≡ true) ⊎ (b ≡ true)
or_either true b e = inl refl
or_either false b e = inr e

behind_is : (lists : List (List SpaceId)) (x : SpaceId) → in_tail lists x ≡ true → IsBehind lists x
behind_is [] x e = absurd (let i : false ≡ true = e in cc)
behind_is (xs ∷ lists) x e =
    elim (or_either (stands (tail xs) x) (in_tail lists x) e) [
      | inl a ↦ record { list = xs; among = inl refl; has = stands_has (tail xs) x a }
      | inr b ↦ let r = behind_is lists x b in record { list = r.list; among = inr r.among; has = r.has }
    ]

is_behind : (lists : List (List SpaceId)) (x : SpaceId) (xs : List SpaceId) → Has lists xs → Has (tail xs) x → in_tail lists x ≡ true
is_behind [] x xs h t = absurd h
is_behind (ys ∷ lists) x xs h t =
    elim h [
      | inl e ↦ (let s : stands (tail ys) x ≡ true = has_stands (tail ys) x (subst (λ zs. Has (tail zs) x) (sym e) t) in rw s refl)
      | inr r ↦ or_true (stands (tail ys) x) (in_tail lists x) (is_behind lists x xs r t)
    ]

not_behind : (lists : List (List SpaceId)) (x : SpaceId) → (IsBehind lists x → ⊥) → (b : Bool) → in_tail lists x ≡ b → in_tail lists x ≡ false
not_behind lists x n true e = absurd (n (behind_is lists x e))
not_behind lists x n false e = e

record First (lists : List (List SpaceId)) (hs : List SpaceId) (x : SpaceId) : Type 0 where
  pub before : List SpaceId
  pub after : List SpaceId
  pub split : hs ≡ before ++ x ∷ after
  pub free : in_tail lists x ≡ false
  pub passed : (y : SpaceId) → Has before y → in_tail lists y ≡ true

first_by : (lists : List (List SpaceId)) (y x : SpaceId) (hs : List SpaceId) (b : Bool) → in_tail lists y ≡ b → (first_free lists hs ≡ Some x → First lists hs x) → cond b (first_free lists hs) (Some y) ≡ Some x → First lists (y ∷ hs) x
first_by lists y x hs true t f e =
    let r = f e in
    record {
      before = y ∷ r.before;
      after = r.after;
      split = ap (λ zs. y ∷ zs) r.split;
      free = r.free;
      passed = λ z h. elim h [ inl i ↦ subst (λ w. in_tail lists w ≡ true) i t | inr k ↦ r.passed z k ];
    }
first_by lists y x hs false t f e =
    let i : y ≡ x = cc in
    record {
      before = [];
      after = hs;
      split = ap (λ z. z ∷ hs) i;
      free = subst (λ w. in_tail lists w ≡ false) i t;
      passed = λ z h. absurd h;
    }

first_is : (lists : List (List SpaceId)) (x : SpaceId) (hs : List SpaceId) → first_free lists hs ≡ Some x → First lists hs x
first_is lists x [] e = absurd (let i : None ≡ Some x = e in cc)
first_is lists x (y ∷ hs) e = first_by lists y x hs (in_tail lists y) refl (first_is lists x hs) e

is_first : (lists : List (List SpaceId)) (x : SpaceId) (before after : List SpaceId) → in_tail lists x ≡ false → ((y : SpaceId) → Has before y → in_tail lists y ≡ true) → first_free lists (before ++ x ∷ after) ≡ Some x
is_first lists x [] after f p = rw f refl
is_first lists x (y ∷ before) after f p = let t : in_tail lists y ≡ true = p y (inl refl) in rw t (is_first lists x before after f (λ z h. p z (inr h)))

none_free : (lists : List (List SpaceId)) (hs : List SpaceId) → ((y : SpaceId) → Has hs y → in_tail lists y ≡ true) → first_free lists hs ≡ None
none_free lists [] p = refl
none_free lists (y ∷ hs) p = let t : in_tail lists y ≡ true = p y (inl refl) in rw t (none_free lists hs (λ z h. p z (inr h)))

all_passed_by : (lists : List (List SpaceId)) (y : SpaceId) (hs : List SpaceId) (b : Bool) → in_tail lists y ≡ b → (first_free lists hs ≡ None → (z : SpaceId) → Has hs z → in_tail lists z ≡ true) → cond b (first_free lists hs) (Some y) ≡ None → (z : SpaceId) → Has (y ∷ hs) z → in_tail lists z ≡ true
all_passed_by lists y hs true t f e z h = elim h [ inl i ↦ subst (λ w. in_tail lists w ≡ true) i t | inr k ↦ f e z k ]
all_passed_by lists y hs false t f e z h = absurd (let i : Some y ≡ None = e in cc)

all_passed : (lists : List (List SpaceId)) (hs : List SpaceId) → first_free lists hs ≡ None → (z : SpaceId) → Has hs z → in_tail lists z ≡ true
all_passed lists [] e z h = absurd h
all_passed lists (y ∷ hs) e z h = all_passed_by lists y hs (in_tail lists y) refl (all_passed lists hs) e z h

next_is : (lists : List (List SpaceId)) (x : SpaceId) → next lists ≡ Some x → IsNext lists x
next_is lists x e =
    let f = first_is lists x (heads lists) e in
    record {
      before = f.before;
      after = f.after;
      split = f.split;
      free = λ b. let t : in_tail lists x ≡ true = is_behind lists x b.list b.among b.has in let g : in_tail lists x ≡ false = f.free in cc;
      passed = λ y h. behind_is lists y (f.passed y h);
    }

is_next : (lists : List (List SpaceId)) (x : SpaceId) → IsNext lists x → next lists ≡ Some x
is_next lists x n =
    ap (first_free lists) n.split ∙ is_first lists x n.before n.after (not_behind lists x n.free (in_tail lists x) refl) (λ y h. let b = n.passed y h in is_behind lists y b.list b.among b.has)

pub takes_next : TakesNext
takes_next lists x = (λ e. next_is lists x e, λ n. is_next lists x n)

pub merges_in_turn : MergesInTurn
merges_in_turn lists order = (λ e. merge_is lists order e, λ m. is_merge lists order m)

put_err : (x : SpaceId) (merged : Result (List SpaceId) (List SpaceId)) (blocked : List SpaceId) → put x merged ≡ Err blocked → merged ≡ Err blocked
put_err x (Ok order) blocked e = absurd (let i : Ok (x ∷ order) ≡ Err blocked = e in cc)
put_err x (Err b) blocked e = e

stop_err : (hs blocked : List SpaceId) → stop hs ≡ Err blocked → (hs ≡ [] → ⊥) × (blocked ≡ each_once hs)
stop_err [] blocked e = absurd (let i : Ok [] ≡ Err blocked = e in cc)
stop_err (x ∷ xs) blocked e = (λ i. cc, let j : blocked ≡ each_once (x ∷ xs) = cc in j)

stop_is : (hs : List SpaceId) → (hs ≡ [] → ⊥) → stop hs ≡ Err (each_once hs)
stop_is [] n = absurd (n refl)
stop_is (x ∷ xs) n = refl

record Blocking (lists : List (List SpaceId)) (blocked : List SpaceId) : Type 0 where
  pub taken : List SpaceId
  pub is : IsBlocked lists taken blocked

stopped_err : (lists : List (List SpaceId)) (blocked : List SpaceId) → next lists ≡ None → stop (heads lists) ≡ Err blocked → Blocking lists blocked
stopped_err lists blocked n e =
    let s = stop_err (heads lists) blocked e in
    record { taken = []; is = (λ y h. behind_is lists y (all_passed lists (heads lists) n y h), s.0, s.1) }

blocking_by : (k : ℕ) (lists : List (List SpaceId)) (blocked : List SpaceId) → ((rest : List (List SpaceId)) → size rest ≤ k → merging k rest ≡ Err blocked → Blocking rest blocked) → (o : Option SpaceId) → next lists ≡ o → size lists ≤ suc k → merging (suc k) lists ≡ Err blocked → Blocking lists blocked
blocking_by k lists blocked f None n l e = stopped_err lists blocked n (sym (merging_none (suc k) lists n) ∙ e)
blocking_by k lists blocked f (Some x) n l e =
    let s : size (without_all x lists) < size lists = size_less lists x n in
    let r = f (without_all x lists) (omega arith) (put_err x (merging k (without_all x lists)) blocked (sym (merging_some k lists x n) ∙ e)) in
    record { taken = x ∷ r.taken; is = (next_is lists x n, r.is) }

blocking : (k : ℕ) (lists : List (List SpaceId)) (blocked : List SpaceId) → size lists ≤ k → merging k lists ≡ Err blocked → Blocking lists blocked
blocking zero lists blocked l e = stopped_err lists blocked (none_left lists (next lists) refl l) e
blocking (suc k) lists blocked l e = blocking_by k lists blocked (λ rest m i. blocking k rest blocked m i) (next lists) refl l e

merge_blocking : (lists : List (List SpaceId)) (blocked : List SpaceId) → merge lists ≡ Err blocked → Blocking lists blocked
unfolding merge
merge_blocking lists blocked e = blocking (size lists) lists blocked (omega arith) e

is_blocked : (lists : List (List SpaceId)) (taken blocked : List SpaceId) → IsBlocked lists taken blocked → merge lists ≡ Err blocked
is_blocked lists [] blocked b =
    merge_none lists (none_free lists (heads lists) (λ y h. let r = b.0 y h in is_behind lists y r.list r.among r.has)) ∙ stop_is (heads lists) b.1 ∙ ap Err (sym b.2)
is_blocked lists (x ∷ taken) blocked b = merge_some lists x (is_next lists x b.0) ∙ ap (put x) (is_blocked (without_all x lists) taken blocked b.1)

pub blocks_in_turn : BlocksInTurn
blocks_in_turn lists blocked = (λ e. let b = merge_blocking lists blocked e in (b.taken, b.is), λ b. is_blocked lists b.0 blocked b.1)

among_list : (lists : List (List SpaceId)) (x : SpaceId) → Among lists x → (list : List SpaceId) × Has lists list × Has list x
among_list [] x h = absurd h
among_list (xs ∷ lists) x h = elim h [ inl a ↦ (xs, inl refl, a) | inr b ↦ let r = among_list lists x b in (r.0, inr r.1, r.2) ]

pub kept : (lists : List (List SpaceId)) (order : List SpaceId) → merge lists ≡ Ok order → IsKept lists order
kept lists order e =
    let m = merge_is lists order e in
    record {
      once = once lists order m;
      members = λ x. (λ h. from_lists lists order m x h, λ a. let r = among_list lists x a in within_has r.0 order x (keeps lists order m r.0 r.1) r.2);
      keeps = λ list h. keeps lists order m list h;
    }

falls_along : (lists : List (List SpaceId)) (rank : SpaceId → ℕ) → ((s b : SpaceId) → Has (bases_of lists s) b → rank b < rank s) → (via : List SpaceId) (s x : SpaceId) → Leads lists s via x → rank x < rank s
falls_along lists rank f [] s x l = f s x l
falls_along lists rank f (b ∷ via) s x l =
    let p : rank b < rank s = f s b l.0 in
    let q : rank x < rank b = falls_along lists rank f via b x l.1 in
    omega arith

pub ranks_fall : RanksFall
ranks_fall lists rank f x r = let l : rank x < rank x = falls_along lists rank f r.via x x r.leads in absurd (omega arith)

pub kept_by : (result : Result (List SpaceId) C3Refusal) (lists : List (List SpaceId)) → Answers result (merge lists) → IfOk result (IsKept lists)
kept_by (Ok order) lists a = kept lists order a
kept_by (Err refusal) lists a = tt
