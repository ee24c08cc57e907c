-- The parsers of heads are exact.
use Rattle.std.proofs.Common.{◌≡◌, ℕ, true, List, [], ◌∷◌, ◌++◌, refl, sym, ap, subst, ◌∙◌}
use Rattle.mx_grammar.specs.declared.word.Symbol.TheVariants as symbol
use Rattle.mx_grammar.specs.declared.word.Word.TheVariants.{Name, Symbol}
use Rattle.mx_grammar.specs.Words.{is}
use Rattle.mx_grammar.specs.Grammar.{Parts}
use Rattle.mx_grammar.specs.Reading.{Words, line}
use Rattle.mx_grammar.specs.AddressParsers.{name_of}
use Rattle.mx_grammar.proofs.Exact.{Rel, Kinds, none, or, Exists, One}
use Rattle.mx_grammar.proofs.Meets.{Shorter}
use Rattle.mx_grammar.proofs.Rules.{Knot, Rule, plain, accept_rule, iff_rule, any_rule, behind_rule, Behind, marked, mark, sees_mark}
use Rattle.mx_grammar.proofs.Lists.{BeginsWith, exact_shorter, Chained, chain_rule}
use Rattle.mx_grammar.proofs.AddressRules.{name_inner, one_name, named}
use Rattle.mx_grammar.proofs.Texts.{Exactly}
use Rattle.mx_words.specs.declared.head.Target.{Target}
use Rattle.mx_words.specs.declared.head.HeadForm.{HeadForm}
use Rattle.mx_words.specs.declared.head.HeadForm.TheVariants as form
use Rattle.mx_words.specs.declared.table.Owner.{Owner}
use Rattle.mx_words.specs.declared.table.Owner.TheVariants as owner
use Rattle.mx_words.specs.Combined.{Ended}
use Rattle.mx_words.specs.Heads.{target_of, Further, TargetText, OwnedText, head_text}
use Rattle.mx_words.specs.HeadParsers.{further, target, ended, owned, head_by}
use Rattle.mx_words.proofs.Combining.{one_knot, flat, as_rule, some_as, name_rule, some_name, ended_rule, some_ended, worded_rule, some_worded}

-- ---- names behind points

abbrev FurtherIs : Rel (List ℕ)
FurtherIs = Behind symbol.Dot (One name_of)

some_one : Exists (One name_of)
some_one = record { tokens = Name [] ∷ []; tree = []; spells = one_name [] }

further_rule : {E : Type 0} {K : Knot E} {k : ℕ} → Rule K k (plain none) FurtherIs (λ _. further)
further_rule = behind_rule symbol.Dot refl some_one (accept_rule name_of name_inner)

further_begins : BeginsWith (is symbol.Dot) FurtherIs
further_begins u rest x h = sees_mark symbol.Dot (One name_of) (is symbol.Dot) true refl u rest x h

pub dot_shorter : Shorter further
dot_shorter = exact_shorter (is symbol.Dot) (further_rule {K = one_knot} {k = 0}).exact further_begins

-- ---- targets

to_further : (u : Words) (ms : List (List ℕ)) → Parts FurtherIs u ms → Parts Further u ms
to_further _ _ Parts.none = Parts.none
to_further _ _ (Parts.more {u} {v} {x} {xs} h others) =
    let m = marked symbol.Dot (One name_of) u x h in
    let e : u ≡ Symbol symbol.Dot ∷ Name x ∷ [] = m.1 ∙ ap (λ (w : Words). Symbol symbol.Dot ∷ w) (named m.0 x m.2) in
    Parts.more (subst (λ (w : Words). Further w x) (sym e) Further.further) (to_further v xs others)

further_from : (u : Words) (x : List ℕ) → Further u x → FurtherIs u x
further_from _ _ (Further.further {n}) = mark symbol.Dot (One name_of) (Name n ∷ []) n (one_name n)

from_further : (u : Words) (ms : List (List ℕ)) → Parts Further u ms → Parts FurtherIs u ms
from_further _ _ Parts.none = Parts.none
from_further _ _ (Parts.more {u} {v} {x} {xs} h others) = Parts.more (further_from u x h) (from_further v xs others)

to_target : (u : Words) (t : Target) → Chained (One name_of) FurtherIs target_of u t → TargetText u t
to_target u t h =
    let e : u ≡ Name h.head ∷ h.right = h.parts ∙ ap (λ (w : Words). w ++ h.right) (named h.left h.head h.first) in
    subst (λ (w : Words). TargetText w t) (sym e) (subst (TargetText (Name h.head ∷ h.right)) (sym h.tree) (TargetText.target (to_further h.right h.others h.rest)))

from_target : (u : Words) (t : Target) → TargetText u t → Chained (One name_of) FurtherIs target_of u t
from_target _ _ (TargetText.target {n} {u} {further} h) = record { left = Name n ∷ []; right = u; head = n; others = further; parts = refl; first = one_name n; rest = from_further u further h; tree = refl }

abbrev pub dotted : Kinds
dotted = or (is symbol.Dot) none

pub target_rule : {E : Type 0} {K : Knot E} {k : ℕ} → Rule K k (plain dotted) TargetText (λ _. target)
unfolding target
target_rule = iff_rule to_target from_target (chain_rule (is symbol.Dot) target_of (accept_rule name_of name_inner) further_rule further_begins (λ t h. refl))

pub some_target : Exists TargetText
some_target = record { tokens = Name [] ∷ []; tree = record { path = []; name = [] }; spells = TargetText.target Parts.none }

-- ---- heads

owned_rule : {E : Type 0} {K : Knot E} {k : ℕ} (o : Owner) → Rule K k (plain dotted) (OwnedText o) (λ _. owned o)
owned_rule owner.Space = target_rule
owned_rule owner.Model = any_rule (as_rule (λ (n : List ℕ). target_of n []) name_rule)

pub some_owned : (o : Owner) → Exists (OwnedText o)
some_owned owner.Space = some_target
some_owned owner.Model = some_as (λ (n : List ℕ). target_of n []) some_name

pub reference_rule : {E : Type 0} {K : Knot E} {k : ℕ} (o : Owner) → Rule K k (plain none) (Ended symbol.Assign (OwnedText o)) (λ _. ended symbol.Assign (owned o))
reference_rule o = ended_rule symbol.Assign refl refl (owned_rule o)

-- the parser of heads is exact, whatever the form of the head
pub by_form : (f : HeadForm) → Exactly (head_text f) (λ n. line (head_by f))
by_form form.Names = flat dotted refl (λ k. worded_rule some_target target_rule) (some_worded some_target)
by_form form.Opened = flat none refl (λ k. worded_rule (some_ended symbol.OpenRound some_target) (ended_rule symbol.OpenRound refl refl target_rule)) (some_worded (some_ended symbol.OpenRound some_target))
by_form form.Name = flat dotted refl (λ k. worded_rule (some_owned owner.Model) (owned_rule owner.Model)) (some_worded (some_owned owner.Model))
by_form (form.Reference o) = flat none refl (λ k. worded_rule (some_ended symbol.Assign (some_owned o)) (reference_rule o)) (some_worded (some_ended symbol.Assign (some_owned o)))
