-- The parsers of phrases are exact.
use Rattle.std.proofs.Common.{◌≡◌, ℕ, suc, ◌+◌, ◌<◌, ◌≤◌, ◌^◌, nat_lt, Bool, true, false, List, [], ◌∷◌, ◌++◌, Some, pos, refl, sym, ap, subst, ◌∙◌, append_assoc, codes, arith, inl, inr}
use Rattle.std.proofs.lemmas.Bool.Decides.{Decides-ltb}
use Rattle.mx_grammar.specs.declared.word.Word.{Word}
use Rattle.mx_grammar.specs.declared.word.Word.TheVariants.{Name, Int, Fix, Text, Symbol}
use Rattle.mx_grammar.specs.declared.word.Symbol.{Symbol as Symbols}
use Rattle.mx_grammar.specs.declared.word.Symbol.TheVariants as symbol
use Rattle.mx_grammar.specs.Grammar.{Parts, Line}
use Rattle.mx_grammar.specs.LiteralParsers.{fitting, constant}
use Rattle.mx_grammar.specs.Literals.{Literal, Leading, Step, Addr}
use Rattle.mx_grammar.specs.AddressParsers.{addr}
use Rattle.mx_grammar.specs.Words.{is}
use Rattle.mx_grammar.specs.Reading.{Words, Parser, ◌>>◌, accept, sees, line}
use Rattle.mx_grammar.proofs.Exact.{Rel, Kinds, Stops, none, stops_none, or, or_stops, Exists, Nothing, Either, One, Inner}
use Rattle.mx_grammar.proofs.Rules.{Knot, Rule, plain, pure_rule, accept_rule, iff_rule, stops_rule, any_rule, choose_rule}
use Rattle.mx_grammar.proofs.Lists.{BeginsWith, exact_shorter, many_rule}
use Rattle.mx_grammar.proofs.Symbols.{apart}
use Rattle.mx_grammar.proofs.Meets.{Shorter, fewer_meets}
use Rattle.mx_grammar.proofs.Lines.{line_rule, some_line}
use Rattle.mx_grammar.proofs.LiteralRules.{Literals, between, literals_begin, level}
use Rattle.mx_grammar.proofs.AddressRules.{addr_rule}
use Rattle.mx_grammar.proofs.Texts.{Exactly}
use Rattle.mx_value.specs.declared.value.Segment.{Segment}
use Rattle.mx_value.specs.declared.value.Segment.TheVariants as segment
use Rattle.mx_value.specs.declared.value.Value.TheVariants as value
use Rattle.mx_edit.specs.declared.reference.RefValue.TheVariants as ref
use Rattle.mx_words.specs.declared.command.Command.TheVariants as command
use Rattle.mx_words.specs.declared.table.Phrase.{Phrase}
use Rattle.mx_words.specs.declared.table.Phrase.TheVariants as phrase
use Rattle.mx_words.specs.declared.table.Reference.{Reference}
use Rattle.mx_words.specs.declared.table.Reference.TheVariants as reference
use Rattle.mx_words.specs.Combined.{Behind, After, Maybe, Separated, Worded, cons, the_second}
use Rattle.mx_words.specs.Heads.{whole_of}
use Rattle.mx_words.specs.HeadParsers.{worded}
use Rattle.mx_words.specs.Phrases.{named_command, no_global, LimitText, PathText, set_bases, ReferenceText, fixed_to, set_ref, clear_all, address_text, phrase_text}
use Rattle.mx_words.specs.PhraseParsers.{onto, limit_in, limit_of, path, another, paths, bases, reference_by, the_name, address_by, phrase_by}
use Rattle.mx_words.proofs.Combining.{one_knot, flat, as_rule, some_as, both_rule, some_both, after_rule, sign_rule, sees_behind, some_ended, name_rule, some_name, the_name_rule, some_the, worded_rule, some_worded}
use Rattle.mx_words.proofs.HeadRules.{dotted, target_rule, some_target, reference_rule, some_owned}

-- ---- numbers of 32 bits

fits : (b : Bool) (n m : ℕ) → fitting b n ≡ Some m → (b ≡ true) × (m ≡ n)
fits true n m h = (refl, cc)
fits false n m h = absurd cc

no_constant : (s : Symbols) (m : ℕ) → onto (constant s) limit_in ≡ Some m → ⊥
no_constant symbol.None m h = absurd cc
no_constant symbol.True m h = absurd cc
no_constant symbol.False m h = absurd cc
no_constant _ m h = absurd cc

by_size : (b : Bool) (n m : ℕ) → onto (fitting b (value.Int (pos n))) limit_in ≡ Some m → LimitText (Int n ∷ []) m
by_size true n m h = let f = fits (nat_lt n (2 ^ 32)) n m h in subst (LimitText (Int n ∷ [])) (sym f.1) (LimitText.limit ((Decides-ltb n (2 ^ 32)).0 f.0))
by_size false n m h = absurd cc

limit_is : (t : Word) (m : ℕ) → limit_of t ≡ Some m → LimitText (t ∷ []) m
limit_is (Int n) m h = by_size (nat_lt n (2 ^ 63)) n m h
limit_is (Symbol s) m h = absurd (no_constant s m h)
limit_is (Fix z) m h = absurd cc
limit_is (Text t) m h = absurd cc
limit_is (Name n) m h = absurd cc

limit_inner : Inner limit_of
limit_inner (Symbol s) m h = absurd (no_constant s m h)
limit_inner _ m h = refl

limit_rule : {E : Type 0} {K : Knot E} {k : ℕ} → Rule K k (plain none) LimitText (λ _. accept limit_of)
limit_rule = iff_rule (λ u m h. subst (λ (v : Words). LimitText v m) (sym h.is) (limit_is h.token m h.what)) from_limit (accept_rule limit_of limit_inner)
  where
    from_limit : (u : Words) (m : ℕ) → LimitText u m → One limit_of u m
    from_limit _ _ (LimitText.limit {n} h) =
        let less : n < 2 ^ 63 = omega (arith, h) in
        record { token = Int n; is = refl; what = ap (λ (b : Bool). onto (fitting b (value.Int (pos n))) limit_in) ((Decides-ltb n (2 ^ 63)).1 less) ∙ ap (λ (b : Bool). fitting b n) ((Decides-ltb n (2 ^ 32)).1 h) }

some_limit : Exists LimitText
some_limit = record { tokens = Int 0 ∷ []; tree = 0; spells = LimitText.limit (omega arith) }

-- ---- paths

path_rule : {E : Type 0} {K : Knot E} {k : ℕ} → Rule K k (plain dotted) PathText (λ _. path)
unfolding path
path_rule = as_rule whole_of target_rule

some_path : Exists PathText
some_path = some_as whole_of some_target

another_rule : {E : Type 0} {K : Knot E} {k : ℕ} → Rule K k (plain dotted) (Behind symbol.Comma PathText) (λ _. another)
another_rule = after_rule (sign_rule symbol.Comma refl) path_rule some_path

another_begins : BeginsWith (is symbol.Comma) (Behind symbol.Comma PathText)
another_begins u rest x h = sees_behind symbol.Comma PathText (is symbol.Comma) true refl u rest x h

pub another_shorter : Shorter another
another_shorter = exact_shorter (is symbol.Comma) (another_rule {K = one_knot} {k = 0}).exact another_begins

abbrev listed : Kinds
listed = or (is symbol.Comma) dotted

comma_stops : (t : Word) → is symbol.Comma t ≡ true → dotted t ≡ false
comma_stops (Symbol symbol.Comma) h = refl
comma_stops _ h = absurd cc

paths_fit : (v rest : Words) (ps : List (List (List ℕ))) → Parts (Behind symbol.Comma PathText) v ps → Stops listed rest → Stops dotted (v ++ rest)
paths_fit _ rest _ Parts.none s = (or_stops (is symbol.Comma) dotted rest s).1
paths_fit _ rest _ (Parts.more {u} {v} {x} h others) s = apart (is symbol.Comma) dotted comma_stops ((u ++ v) ++ rest) (ap (sees (is symbol.Comma)) (append_assoc u v rest) ∙ another_begins u (v ++ rest) x h)

paths_rule : {E : Type 0} {K : Knot E} {k : ℕ} → Rule K k (plain listed) (Separated symbol.Comma PathText) (λ _. paths)
unfolding paths
paths_rule =
    both_rule cons path_rule (many_rule (is symbol.Comma) another_rule another_begins comma_stops)
    paths_fit
    (record { tokens = []; tree = []; spells = Parts.none })

some_paths : Exists (Separated symbol.Comma PathText)
some_paths = some_both cons some_path (record { tokens = []; tree = []; spells = Parts.none })

-- ---- bases

abbrev MaybePaths : Rel (List (List (List ℕ)))
MaybePaths = Maybe symbol.Colon (Separated symbol.Comma PathText)

abbrev Behind_colon : Rel (List (List (List ℕ)))
Behind_colon = Behind symbol.Colon (Separated symbol.Comma PathText)

abbrev with_colon : Kinds
with_colon = or (is symbol.Colon) listed

to_maybe : (u : Words) (ps : List (List (List ℕ))) → Either Behind_colon (Nothing []) u ps → MaybePaths u ps
to_maybe u ps (inl h) = Maybe.some h
to_maybe u ps (inr h) = subst (λ (v : Words). MaybePaths v ps) (sym h.0) (subst (MaybePaths []) (sym h.1) Maybe.none)

from_maybe : (u : Words) (ps : List (List (List ℕ))) → MaybePaths u ps → Either Behind_colon (Nothing []) u ps
from_maybe _ _ (Maybe.some h) = inl h
from_maybe _ _ Maybe.none = inr (refl, refl)

bases_rule : {E : Type 0} {K : Knot E} {k : ℕ} → Rule K k (plain with_colon) MaybePaths (λ _. bases)
unfolding bases
bases_rule =
    iff_rule to_maybe from_maybe
    (choose_rule (is symbol.Colon) (stops_rule (λ u rest ps h s. (or_stops (is symbol.Colon) listed rest s).1) (after_rule (sign_rule symbol.Colon refl) paths_rule some_paths)) (pure_rule (plain with_colon) [])
    (λ u rest ps h s. sees_behind symbol.Colon (Separated symbol.Comma PathText) (is symbol.Colon) true refl u rest ps h)
    (λ u rest ps h s. subst (λ (v : Words). Stops (is symbol.Colon) (v ++ rest)) (sym h.0) (or_stops (is symbol.Colon) listed rest s).0))

bases_fit : (v rest : Words) (ps : List (List (List ℕ))) → MaybePaths v ps → Stops with_colon rest → Stops dotted (v ++ rest)
bases_fit v rest ps (Maybe.some h) s = sees_behind symbol.Colon (Separated symbol.Comma PathText) dotted false refl v rest ps h
bases_fit _ rest _ Maybe.none s = (or_stops (is symbol.Comma) dotted rest (or_stops (is symbol.Colon) listed rest s).1).1

some_bases : Exists MaybePaths
some_bases = record { tokens = []; tree = []; spells = Maybe.none }

-- ---- references

value_rule : {E : Type 0} {K : Knot E} {k : ℕ} (r : Reference) → Rule K k (plain dotted) (ReferenceText r) (λ _. reference_by r)
unfolding reference_by
value_rule reference.Table = after_rule (the_name_rule (codes "table")) (any_rule (as_rule ref.Table name_rule)) (some_as ref.Table some_name)
value_rule reference.To = after_rule (the_name_rule (codes "to")) (as_rule (fixed_to false) target_rule) (some_as (fixed_to false) some_target)
value_rule reference.Abs = after_rule (the_name_rule (codes "abs")) (as_rule (fixed_to true) target_rule) (some_as (fixed_to true) some_target)

some_value : (r : Reference) → Exists (ReferenceText r)
some_value reference.Table = some_both the_second (some_the (codes "table")) (some_as ref.Table some_name)
some_value reference.To = some_both the_second (some_the (codes "to")) (some_as (fixed_to false) some_target)
some_value reference.Abs = some_both the_second (some_the (codes "abs")) (some_as (fixed_to true) some_target)

-- ---- each phrase

-- from the rule of what stands behind its word
whole : {A : Type 0} {R : Rel A} {P : Parser A} (F : Kinds) → F (Symbol symbol.Newline) ≡ false → ((k : ℕ) → Rule one_knot k (plain F) R (λ _. P)) → Exists R → Exactly (λ n. Line (Worded R)) (λ n. line (worded P))
whole F stops r some = flat F stops (λ k. worded_rule some (r k)) (some_worded some)

pub phrases : (p : Phrase) → Exactly (phrase_text p) (λ n. line (worded (phrase_by p n)))
unfolding phrase_by
phrases (phrase.Names n) = whole dotted refl (λ k. as_rule (named_command n) target_rule) (some_as (named_command n) some_target)
phrases phrase.DelGlobal = whole none refl (λ k. as_rule no_global name_rule) (some_as no_global some_name)
phrases phrase.Limit = whole none refl (λ k. as_rule command.Limit limit_rule) (some_as command.Limit some_limit)
phrases phrase.ClearAll = whole none refl (λ k. as_rule clear_all (the_name_rule (codes "all"))) (some_as clear_all (some_the (codes "all")))
phrases phrase.Bases = whole with_colon refl (λ k. both_rule set_bases path_rule bases_rule bases_fit some_bases) (some_both set_bases some_path some_bases)
phrases (phrase.Refers o r) =
    whole dotted refl (λ k. both_rule (set_ref o) (reference_rule o) (value_rule r) (λ v rest b h s. stops_none (v ++ rest)) (some_value r)) (some_both (set_ref o) (some_ended symbol.Assign (some_owned o)) (some_value r))

-- ---- addresses

some_inside : (n : ℕ) → Exists (Literals (n + 1))
some_inside n = let e : suc n ≡ n + 1 = omega arith in subst (λ (k : ℕ). Exists (Literals k)) e (record { tokens = Symbol symbol.None ∷ []; tree = value.Nothing; spells = Literal.none })

abbrev AddressIs : List ℕ → ℕ → Rel (List Segment)
AddressIs name n = After name (Addr (Literals (n + 1)))

an_address : (name : List ℕ) (n : ℕ) → Exists (AddressIs name n)
an_address name n = some_both the_second (some_the name) (record { tokens = Name [] ∷ []; tree = segment.Name [] ∷ []; spells = Addr.addr Leading.none Step.child })

address_line : (name : List ℕ) (n m : ℕ) → n ≤ m → Rule (between (n + 1) (m + 1)) (n + 1) (plain none) (address_text name n) (λ i. line (worded (the_name name >> addr i)))
address_line name n m le =
    let some_addr : Exists (Addr (Literals (n + 1))) = record { tokens = Name [] ∷ []; tree = segment.Name [] ∷ []; spells = Addr.addr Leading.none Step.child } in
    line_rule refl (worded_rule (an_address name n) (after_rule (the_name_rule name) (addr_rule (literals_begin (n + 1)) (some_inside n) (level (n + 1) (m + 1) (omega arith))) some_addr))

pub addresses : (name : List ℕ) → Exactly (address_text name) (λ n. line (worded (address_by name n)))
addresses name = record {
  exact = λ n. (address_line name n n (omega arith)).exact;
  meets = λ n m le. fewer_meets n (n + 1) (line (worded (address_by name n))) (line (worded (address_by name m))) (omega arith) (address_line name n m le).meets;
  some = λ n. some_line (some_worded (an_address name (suc n)));
}
