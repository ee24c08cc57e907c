-- A walk asks an item before it comes to what lies in its space.
use Rattle.std.proofs.Common.{◌≡◌, List, [], ◌∷◌, inl, inr, sym, ◌∙◌, ap, subst}
use Rattle.mx_value.specs.declared.value.Value.{Value}
use Rattle.mx_value.specs.declared.value.Segment.{Segment}
use Rattle.mx_value.specs.declared.namespace.Namespace.{Namespace}
use Rattle.mx_value.specs.declared.node.Node.{Node}
use Rattle.mx_value.specs.declared.node.Node.TheVariants.{Item}
use Rattle.mx_edit.specs.declared.key.Key.{Key}
use Rattle.mx_edit.specs.declared.key.KeyResult.{KeyResult}
use Rattle.mx_edit.specs.declared.reply.Reply.{Reply}
use Rattle.mx_runs.specs.Runs.{Asks, Gives}
use Rattle.mx_runs.specs.Meaning.{Means}
use Rattle.mx_runs.specs.Lists.{Has}
use Rattle.mx_runs.proofs.Lists.{among_or_not}
use Rattle.mx_meaning.specs.Namespaces.{item_at}
use Rattle.mx_meaning.specs.Walks.{Onward, entered, walked}
use Rattle.mx_meaning.specs.Laws.{model_of}
use Rattle.mx_meaning.proofs.Walking.{Came}
use Rattle.mx_suspended.proofs.Prefixes.{Passes, none_on_top, name_adds_none, item_adds_itself}
use Rattle.mx_suspended.proofs.Guarded.{Guarded}
use Rattle.mx_suspended.proofs.Carried.{Carries, walked_carried}

module _ (look : Key → KeyResult) (at : List Segment) (args : List Value) where
  -- a walk comes to the namespace, which does not lie in the space of the item
  pub record Outside (ns : Namespace) : Type 0 where
    pub came : Came look ns
    pub clear : Passes at args ns.at → ⊥

  -- whatever was asked, the namespace does not lie there
  abbrev Clear : List Node → Namespace → Type 0
  Clear asked ns = Passes at args ns.at → ⊥

  module _ (ns : Namespace) (clear : Passes at args ns.at → ⊥) (vs : List Value) where
    still_clear : (Has (Item at args ∷ []) (Item ns.at vs) → ⊥) → (space : Namespace) → space.at ≡ item_at ns vs → Passes at args space.at → ⊥
    still_clear other space e p =
        elim (item_adds_itself at args ns.at vs (subst (Passes at args) e p)) [
          | inl h ↦ clear h
          | inr h ↦ other (inl (sym (ap (λ a. Item a vs) h.0 ∙ ap (Item at) h.1)))
        ]

    -- the ask of an item: it is the one, or what comes behind it lies outside its space
    ask_guarded : (go : Onward) → ((r : Reply) → Means (model_of look) (Item ns.at vs) (Gives r) → ((space : Namespace) → space.at ≡ item_at ns vs → Passes at args space.at → ⊥) → Guarded look at args (entered r.namespace go))
        → Guarded look at args (Asks (Item ns.at vs) (λ r. entered r.namespace go))
    ask_guarded go k =
        elim (among_or_not (Item ns.at vs) (Item at args ∷ [])) [
          | inl h ↦ elim h [ inl same ↦ inl (sym same) | inr none ↦ absurd none ]
          | inr other ↦ inr (clear, λ r m. k r m (still_clear other))
        ]

  guarded_carries : Carries look Clear (λ asked run. Guarded look at args run)
  guarded_carries = record {
    refused = λ asked. tt;
    miscounted = λ asked. tt;
    tested = λ asked k go g. g;
    named = λ asked ns name clear p. clear (name_adds_none at args ns.at name p);
    asking = λ asked ns clear vs go k. ask_guarded ns clear vs go k;
  }

  pub walked_guarded : (segments : List Segment) (go : Onward) → ((m : Namespace) → Outside m → Guarded look at args (go m)) → Guarded look at args (walked segments go)
  walked_guarded segments go k = walked_carried look Clear (λ asked run. Guarded look at args run) guarded_carries segments [] (none_on_top at args) go (λ asked m came clear. k m (record { came = came; clear = clear }))
