-- How the records of a run grow with what it does.
use Rattle.std.proofs.Common.{◌≡◌, true, false, if◌then◌else◌, List, [], ◌∷◌, ◌++◌, ◌⊎◌, inl, inr, refl, sym, ap, subst}
use Rattle.mx_value.specs.declared.node.Node.{Node}
use Rattle.mx_value.specs.declared.read.Read.TheVariants as read
use Rattle.mx_edit.specs.declared.key.Key.TheVariants.{Input}
use Rattle.mx_edit.specs.declared.reply.Reply.{Reply}
use Rattle.mx_runs.specs.Lists.{Has, EachOnce}
use Rattle.mx_runs.specs.Runs.{Model, Run, Event, Looked, Tested, Asked, Noted}
use Rattle.mx_runs.specs.Inputs.{is_input}
use Rattle.mx_runs.specs.Meaning.{Leads}
use Rattle.mx_runs.specs.Chains.{asks_of, Reaches, ReachedFrom}
use Rattle.mx_runs.proofs.Lists.{has_left, has_push, has_push_cases, each_is_among, each_has_all, each_again, each_new}
use Rattle.mx_runs.proofs.Levels.{leads_append}
use Rattle.mx_runs.proofs.Reach.{reached_by}
use Rattle.mx_answers.specs.Records.{recorded_keys, recorded_asks, reads_of}
use Rattle.mx_answers.proofs.Records.{asks_cases, own_ask}
use Rattle.mx_suspended.specs.Recorded.{Recorded, ComesTo, Adds}

-- what is added to is among the whole, and so is what was there
module _ {X : Type 0} (xs ys : List X) (x : X) (a : Adds xs x ys) where
  pub added : Has ys x
  added = elim a [ inl h ↦ subst (λ zs. Has zs x) (sym h.1) h.0 | inr h ↦ subst (λ zs. Has zs x) (sym h.1) (has_push xs x) ]

  pub still_there : (y : X) → Has xs y → Has ys y
  still_there y i = elim a [ inl h ↦ subst (λ zs. Has zs y) (sym h.1) i | inr h ↦ subst (λ zs. Has zs y) (sym h.1) (has_left xs (x ∷ []) y i) ]

  pub added_cases : (y : X) → Has ys y → Has xs y ⊎ (x ≡ y)
  added_cases y i = elim a [ inl h ↦ inl (subst (λ zs. Has zs y) h.1 i) | inr h ↦ has_push_cases xs x y (subst (λ zs. Has zs y) h.1 i) ]

  pub each_adds : (ws vs : List X) → EachOnce ws xs → vs ≡ ws ++ x ∷ [] → EachOnce vs ys
  each_adds ws vs e i =
      let q : EachOnce (ws ++ x ∷ []) ys = elim a [
        | inl h ↦ subst (λ zs. EachOnce (ws ++ x ∷ []) zs) (sym h.1) (each_again [] ws xs x e (inr h.0))
        | inr h ↦ subst (λ zs. EachOnce (ws ++ x ∷ []) zs) (sym h.1) (each_new [] ws xs x e (λ z. z) h.0)
      ] in
      subst (λ zs. EachOnce zs ys) (sym i) q

module _ (model : Model) where
  pub keys_grow : (es fs : List Event) → recorded_keys model (es ++ fs) ≡ recorded_keys model es ++ recorded_keys model fs
  keys_grow [] fs = refl
  keys_grow (Looked k ∷ es) fs = ap (λ ks. k ∷ ks) (keys_grow es fs)
  keys_grow (Tested k ∷ es) fs = keys_grow es fs
  keys_grow (Noted r ∷ es) fs = keys_grow es fs
  keys_grow (Asked m r ∷ es) fs =
      elim (is_input model m) as (λ b. (if b then Input m ∷ recorded_keys model (es ++ fs) else recorded_keys model (es ++ fs)) ≡ (if b then Input m ∷ recorded_keys model es else recorded_keys model es) ++ recorded_keys model fs) [
        | true ↦ ap (λ ks. Input m ∷ ks) (keys_grow es fs)
        | false ↦ keys_grow es fs
      ]

  pub asks_grow : (es fs : List Event) → recorded_asks model (es ++ fs) ≡ recorded_asks model es ++ recorded_asks model fs
  asks_grow [] fs = refl
  asks_grow (Looked k ∷ es) fs = asks_grow es fs
  asks_grow (Tested k ∷ es) fs = asks_grow es fs
  asks_grow (Noted r ∷ es) fs = asks_grow es fs
  asks_grow (Asked m r ∷ es) fs =
      elim (is_input model m) as (λ b. (if b then recorded_asks model (es ++ fs) else m ∷ recorded_asks model (es ++ fs)) ≡ (if b then recorded_asks model es else m ∷ recorded_asks model es) ++ recorded_asks model fs) [
        | true ↦ asks_grow es fs
        | false ↦ ap (λ ms. m ∷ ms) (asks_grow es fs)
      ]

  -- an asked input is recorded by its key alone, another node as asked alone
  pub input_key_alone : (m : Node) (r : Reply) → is_input model m ≡ true → recorded_keys model (Asked m r ∷ []) ≡ Input m ∷ []
  input_key_alone m r i = ap (λ b. if b then Input m ∷ [] else []) i

  pub input_no_ask : (m : Node) (r : Reply) → is_input model m ≡ true → recorded_asks model (Asked m r ∷ []) ≡ []
  input_no_ask m r i = ap (λ b. if b then [] else m ∷ []) i

  pub other_no_key : (m : Node) (r : Reply) → is_input model m ≡ false → recorded_keys model (Asked m r ∷ []) ≡ []
  other_no_key m r i = ap (λ b. if b then Input m ∷ [] else []) i

  pub other_ask_alone : (m : Node) (r : Reply) → is_input model m ≡ false → recorded_asks model (Asked m r ∷ []) ≡ m ∷ []
  other_ask_alone m r i = ap (λ b. if b then [] else m ∷ []) i

pub reads_grow : (es fs : List Event) → reads_of (es ++ fs) ≡ reads_of es ++ reads_of fs
reads_grow [] fs = refl
reads_grow (Looked k ∷ es) fs = reads_grow es fs
reads_grow (Tested k ∷ es) fs = reads_grow es fs
reads_grow (Noted r ∷ es) fs = ap (λ rs. r ∷ rs) (reads_grow es fs)
reads_grow (Asked m r ∷ es) fs = ap (λ rs. read.Node m ∷ rs) (reads_grow es fs)

-- what is recorded of a run as asked is what it asked but for inputs
module _ (model : Model) (n : Node) (so_far : Recorded) (rest : Run) (c : ComesTo model n so_far rest) where
  pub recorded_asked : (x : Node) → Has so_far.asks x → Has (asks_of c.events) x
  recorded_asked x h = (asks_cases model c.events x (each_is_among [] (recorded_asks model c.events) so_far.asks c.asks x h)).0

  pub asked_recorded : (x : Node) → is_input model x ≡ false → Has (asks_of c.events) x → Has so_far.asks x
  asked_recorded x i h = elim (each_has_all [] (recorded_asks model c.events) so_far.asks c.asks x (own_ask model c.events x i h)) [ inl z ↦ absurd z | inr k ↦ k ]

  pub recorded_reached : (x : Node) → ReachedFrom model so_far.asks x → ReachedFrom model (asks_of c.events) x
  recorded_reached x r = record { from = r.from; among = recorded_asked r.from r.among; reaches = r.reaches }

  pub reached_on : (x : Node) → ReachedFrom model so_far.asks x → Reaches model n x
  reached_on x r = reached_by model n rest c.events x c.leads (recorded_reached x r)

  -- the run goes on by one event
  pub comes_by : (e : Event) (next : Run) (last : Recorded) → Leads model rest (e ∷ []) next → EachOnce (recorded_keys model (c.events ++ e ∷ [])) last.keys → EachOnce (recorded_asks model (c.events ++ e ∷ [])) last.asks → EachOnce (reads_of (c.events ++ e ∷ [])) last.reads → ComesTo model n last next
  comes_by e next last l keys asks reads = record {
    events = c.events ++ e ∷ [];
    leads = leads_append model (model.body n) rest next c.events (e ∷ []) c.leads l;
    keys = keys;
    asks = asks;
    reads = reads;
  }
