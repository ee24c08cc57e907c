-- What is held, and more behind it.
use Rattle.std.proofs.Common.{◌≡◌, true, false, List, ◌++◌, ◌⊎◌, inl, inr, refl, sym, ◌∙◌, ap, subst}
use Rattle.std.proofs.lemmas.List.{map-append}
use Rattle.mx_value.specs.declared.node.Node.{Node}
use Rattle.mx_edit.specs.Entry.{Entry}
use Rattle.mx_runs.specs.Lists.{Has, Distinct, Disjoint}
use Rattle.mx_runs.specs.Runs.{Model, Gives}
use Rattle.mx_runs.specs.Inputs.{is_input, InputsEnd}
use Rattle.mx_runs.specs.Meaning.{Means}
use Rattle.mx_runs.specs.Chains.{Reaches, HasValue}
use Rattle.mx_runs.proofs.Lists.{has_left, has_right, has_cases, has_map, From, has_map_from, among_or_not, distinct_apart, distinct_later}
use Rattle.mx_runs.proofs.Reach.{reach_within}
use Rattle.mx_runs.proofs.Inputs.{input_asks_none}
use Rattle.mx_answers.specs.Held.{nodes_of, Counts, IsKnown, IsRight, HoldsMore}

pub nodes_append : (xs ys : List Entry) → nodes_of (xs ++ ys) ≡ nodes_of xs ++ nodes_of ys
nodes_append xs ys = map-append (λ (e : Entry). e.node) xs ys

pub nodes_grow : (xs ys all : List Entry) (x : Node) → all ≡ xs ++ ys → Has (nodes_of xs) x → Has (nodes_of all) x
nodes_grow xs ys all x e h = subst (λ ns. Has ns x) (sym (ap (λ es. nodes_of es) e ∙ nodes_append xs ys)) (has_left (nodes_of xs) (nodes_of ys) x h)

pub nodes_added : (xs ys all : List Entry) (x : Node) → all ≡ xs ++ ys → Has (nodes_of ys) x → Has (nodes_of all) x
nodes_added xs ys all x e h = subst (λ ns. Has ns x) (sym (ap (λ es. nodes_of es) e ∙ nodes_append xs ys)) (has_right (nodes_of xs) (nodes_of ys) x h)

pub nodes_cases : (xs ys all : List Entry) (x : Node) → all ≡ xs ++ ys → Has (nodes_of all) x → Has (nodes_of xs) x ⊎ Has (nodes_of ys) x
nodes_cases xs ys all x e h = has_cases (nodes_of xs) (nodes_of ys) x (subst (λ ns. Has ns x) (ap (λ es. nodes_of es) e ∙ nodes_append xs ys) h)

pub named : (held : List Entry) (e : Entry) → Has held e → Has (nodes_of held) e.node
named held e h = has_map (λ (d : Entry). d.node) held e h

-- the entry of a held node
pub entry_of : (held : List Entry) (n : Node) → Has (nodes_of held) n → From (λ (e : Entry). e.node) held n
entry_of held n h = has_map_from (λ (e : Entry). e.node) held n h

pub input_or_not : (model : Model) (n : Node) → (is_input model n ≡ true) ⊎ (is_input model n ≡ false)
input_or_not model n = elim (is_input model n) as (λ b. (b ≡ true) ⊎ (b ≡ false)) [ true ↦ inl refl | false ↦ inr refl ]

pub held_value : (model : Model) (held : List Entry) → IsRight model held → (n : Node) → Has (nodes_of held) n → HasValue model n
held_value model held r n h =
    let f = entry_of held n h in
    record { reply = f.item.reply; means = subst (λ x. Means model x (Gives f.item.reply)) f.is (r.means f.item f.among) }

-- what a held node reaches is held or an input
pub held_reach : (model : Model) (held : List Entry) → InputsEnd model → IsRight model held → (n m : Node) → Has (nodes_of held) n → Reaches model n m → IsKnown model (nodes_of held) m
held_reach model held ends r n m h x =
    reach_within model (λ y. IsKnown model (nodes_of held) y)
    (λ y z k a. elim k [ inl i ↦ r.closed y z i a | inr i ↦ absurd (input_asks_none model y ends i z a) ])
    n m (inl h) x

-- what is right after, and holds exactly those before and what n reaches and counts, holds more by exactly that
pub holds_more : (model : Model) (before more after : List Entry) (n : Node) → IsRight model after → after ≡ before ++ more → ((x : Node) → Has (nodes_of after) x → Has (nodes_of before) x ⊎ (Reaches model n x × Counts model x)) → ((x : Node) → Reaches model n x → Counts model x → Has (nodes_of after) x) → HoldsMore model before n after
holds_more model before more after n r e only whole =
    let d : Distinct (nodes_of before ++ nodes_of more) = subst (λ ns. Distinct ns) (ap (λ es. nodes_of es) e ∙ nodes_append before more) r.once in
    let apart : Disjoint (nodes_of before) (nodes_of more) = distinct_apart (nodes_of before) (nodes_of more) d in
    record {
      more = more;
      is = e;
      once = distinct_later (nodes_of before) (nodes_of more) d;
      exactly = λ x. (
        (λ h. elim (only x (nodes_added before more after x e h)) [ inl a ↦ absurd (apart x a h) | inr b ↦ (b.0, b.1, λ k. apart x k h) ]),
        (λ h. elim (nodes_cases before more after x e (whole x h.0 h.1)) [ inl a ↦ absurd (h.2 a) | inr b ↦ b ]),
      );
      means = λ f h. r.means f (subst (λ es. Has es f) (sym e) (has_right before more f h));
    }

-- after it is held what was held, and each node that n reaches and that counts
pub holds_before : (model : Model) (before after : List Entry) (n : Node) → HoldsMore model before n after → (x : Node) → Has (nodes_of before) x → Has (nodes_of after) x
holds_before model before after n m x h = nodes_grow before m.more after x m.is h

pub holds_reached : (model : Model) (before after : List Entry) (n : Node) → HoldsMore model before n after → (x : Node) → Reaches model n x → Counts model x → Has (nodes_of after) x
holds_reached model before after n m x r c =
    elim (among_or_not x (nodes_of before)) [
      | inl h ↦ holds_before model before after n m x h
      | inr k ↦ nodes_added before m.more after x m.is ((m.exactly x).1 (r, c, k))
    ]
