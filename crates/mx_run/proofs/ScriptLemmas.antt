-- A script that goes on: its lines and its commands.
use Rattle.std.proofs.Common.{◌≡◌, ◌≢◌, ℕ, suc, ◌+◌, ◌==◌, if◌then◌else◌, Bool, true, false, List, [], ◌∷◌, ◌++◌, Option, None, length, refl, sym, ap, ◌∙◌, subst, append_assoc, append-nil, arith}
use Rattle.std.proofs.lemmas.Bool.Decides.{nat_tests}
use Rattle.std.specs.Option.{option_to_list}
use Rattle.mx_run.specs.Script.{taken, complete, pending_after, complete_commands, commands}
use Rattle.mx_script.specs.Script.{Lines, onto, split_lines, last_line, Command, GrowsTo, HasNoLf, AreLines}
use Rattle.mx_script.proofs.Lines.{stretch}

-- lines that come after an open one: it goes on in the first of them
abbrev pub glued : List ℕ → List (List ℕ) → List (List ℕ)
glued r [] = []
glued r (m ∷ ms) = (r ++ m) ∷ ms

abbrev pub glued_rest : List ℕ → List (List ℕ) → List ℕ → List ℕ
glued_rest r [] s = r ++ s
glued_rest r (m ∷ ms) s = s

abbrev pub joined : Lines → Lines → Lines
joined a b = record { whole = a.whole ++ glued a.rest b.whole; rest = glued_rest a.rest b.whole b.rest }

onto-joined : (x : ℕ) (ls : List (List ℕ)) (r : List ℕ) (ms : List (List ℕ)) (s : List ℕ)
    → onto x (ls ++ glued r ms) (glued_rest r ms s) ≡ joined (onto x ls r) (record { whole = ms; rest = s })
onto-joined x [] r [] s = refl
onto-joined x [] r (m ∷ ms) s = refl
onto-joined x (l ∷ ls) r ms s = refl

nothing-joined : (ms : List (List ℕ)) (s : List ℕ) → record { whole = ms; rest = s } ≡ joined (record { whole = []; rest = [] }) (record { whole = ms; rest = s })
nothing-joined [] s = refl
nothing-joined (m ∷ ms) s = refl

put-joined : (t : Bool) (x : ℕ) (a b : Lines)
    → (if t then record { whole = [] ∷ (joined a b).whole; rest = (joined a b).rest } else onto x (joined a b).whole (joined a b).rest)
    ≡ joined (if t then record { whole = [] ∷ a.whole; rest = a.rest } else onto x a.whole a.rest) b
put-joined true x a b = refl
put-joined false x a b = onto-joined x a.whole a.rest b.whole b.rest

pub split_lines-append : (a b : List ℕ) → split_lines (a ++ b) ≡ joined (split_lines a) (split_lines b)
split_lines-append [] b = nothing-joined (split_lines b).whole (split_lines b).rest
split_lines-append (x ∷ a) b =
    ap (λ (l : Lines). if x == 10 then record { whole = [] ∷ l.whole; rest = l.rest } else onto x l.whole l.rest) (split_lines-append a b)
    ∙ put-joined (x == 10) x (split_lines a) (split_lines b)

pub complete-append : (n : ℕ) (p : Option Command) (ls ms : List (List ℕ)) → complete n p (ls ++ ms) ≡ complete n p ls ++ complete (n + length ls) (pending_after n p ls) ms
complete-append n p [] ms = let e : n + 0 ≡ n = omega arith in rw e refl
complete-append n p (l ∷ ls) ms =
    let e : n + suc (length ls) ≡ (n + 1) + length ls = omega arith in
    let q = (taken n p l).pending in
    ap (λ (cs : List Command). (taken n p l).done ++ cs) (complete-append (n + 1) q ls ms)
    ∙ sym (append_assoc (taken n p l).done (complete (n + 1) q ls) (complete ((n + 1) + length ls) (pending_after (n + 1) q ls) ms))
    ∙ ap (λ (k : ℕ). ((taken n p l).done ++ complete (n + 1) q ls) ++ complete k (pending_after (n + 1) q ls) ms) (sym e)

pub pending_after-append : (n : ℕ) (p : Option Command) (ls ms : List (List ℕ)) → pending_after n p (ls ++ ms) ≡ pending_after (n + length ls) (pending_after n p ls) ms
pending_after-append n p [] ms = let e : n + 0 ≡ n = omega arith in rw e refl
pending_after-append n p (l ∷ ls) ms =
    let e : n + suc (length ls) ≡ (n + 1) + length ls = omega arith in
    let q = (taken n p l).pending in
    pending_after-append (n + 1) q ls ms ∙ ap (λ (k : ℕ). pending_after k (pending_after (n + 1) q ls) ms) (sym e)

-- what is complete stays so
pub complete_grow : (a b : List ℕ) → GrowsTo (complete_commands a) (complete_commands (a ++ b))
complete_grow a b = record {
  more = complete (1 + length (split_lines a).whole) (pending_after 1 None (split_lines a).whole) (glued (split_lines a).rest (split_lines b).whole);
  is = ap (λ (l : Lines). complete 1 None l.whole) (split_lines-append a b) ∙ complete-append 1 None (split_lines a).whole (glued (split_lines a).rest (split_lines b).whole);
}

pub commands_begin : (a : List ℕ) → GrowsTo (complete_commands a) (commands a)
commands_begin a =
    let lines = split_lines a in
    let last = last_line lines.rest in
    record {
      more = complete (1 + length lines.whole) (pending_after 1 None lines.whole) last ++ option_to_list (pending_after 1 None (lines.whole ++ last));
      is = ap (λ (cs : List Command). cs ++ option_to_list (pending_after 1 None (lines.whole ++ last))) (complete-append 1 None lines.whole last)
          ∙ append_assoc (complete 1 None lines.whole) _ _;
    }

-- one byte more
pub split_lines-end : (a : List ℕ) → split_lines (a ++ 10 ∷ []) ≡ record { whole = (split_lines a).whole ++ (split_lines a).rest ∷ []; rest = [] }
split_lines-end a = split_lines-append a (10 ∷ []) ∙ ap (λ (r : List ℕ). record { whole = (split_lines a).whole ++ r ∷ []; rest = [] }) (append-nil (split_lines a).rest)

-- bytes with no LF go onto the open line
pub split_lines-stretch : (a s : List ℕ) → HasNoLf s → split_lines (a ++ s) ≡ record { whole = (split_lines a).whole; rest = (split_lines a).rest ++ s }
split_lines-stretch a s none =
    split_lines-append a s ∙ ap (λ (l : Lines). joined (split_lines a) l) (stretch s none)
    ∙ ap (λ (w : List (List ℕ)). record { whole = w; rest = (split_lines a).rest ++ s }) (append-nil (split_lines a).whole)

-- the lines of a script give it back
lf_lines : (bs : List ℕ) (l : Lines) → AreLines bs l → AreLines (10 ∷ bs) (record { whole = [] ∷ l.whole; rest = l.rest })
lf_lines bs l are = record { joined = ap (λ (x : List ℕ). 10 ∷ x) are.joined; whole = (tt, are.whole); rest = are.rest }

onto_lines : (b : ℕ) (bs : List ℕ) (w : List (List ℕ)) (r : List ℕ) → b ≢ 10 → AreLines bs (record { whole = w; rest = r }) → AreLines (b ∷ bs) (onto b w r)
onto_lines b bs [] r apart are = record { joined = ap (λ (x : List ℕ). b ∷ x) are.joined; whole = tt; rest = (apart, are.rest) }
onto_lines b bs (l ∷ ls) r apart are = record { joined = ap (λ (x : List ℕ). b ∷ x) are.joined; whole = ((apart, are.whole.0), are.whole.1); rest = are.rest }

put_lines : (t : Bool) (b : ℕ) (bs : List ℕ) (l : Lines) → (t ≡ true → b ≡ 10) → (t ≡ false → b ≢ 10) → AreLines bs l
    → AreLines (b ∷ bs) (if t then record { whole = [] ∷ l.whole; rest = l.rest } else onto b l.whole l.rest)
put_lines true b bs l yes' no' are = subst (λ (x : ℕ). AreLines (x ∷ bs) (record { whole = [] ∷ l.whole; rest = l.rest })) (sym (yes' refl)) (lf_lines bs l are)
put_lines false b bs l yes' no' are = onto_lines b bs l.whole l.rest (no' refl) are

pub are_lines : (script : List ℕ) → AreLines script (split_lines script)
are_lines [] = record { joined = refl; whole = tt; rest = tt }
are_lines (b ∷ bs) =
    let is : (b == 10) ≡ true → b ≡ 10 = λ e. grind (arith, nat_tests) in
    let apart : (b == 10) ≡ false → b ≢ 10 = λ e. grind (arith, nat_tests) in
    put_lines (b == 10) b bs (split_lines bs) is apart (are_lines bs)
