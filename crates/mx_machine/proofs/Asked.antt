-- Which node is asked for one whose walk past held items led to its end.
use Rattle.std.proofs.Common.{◌≡◌, List, ◌++◌, Some, refl, sym, subst}
use Rattle.mx_value.specs.declared.namespace.Namespace.{Namespace}
use Rattle.mx_value.specs.declared.node.Node.{Node}
use Rattle.mx_value.specs.declared.node.Node.TheVariants.{Cell, Item}
use Rattle.mx_vertices.specs.Kept.{Kept}
use Rattle.mx_model.specs.Records.{ModelRecord}
use Rattle.mx_runs.specs.Runs.{Run, Ends, Outcome, NoSuch, WrongCount, Event}
use Rattle.mx_runs.specs.Meaning.{Leads}
use Rattle.mx_runs.proofs.Levels.{leads_append}
use Rattle.mx_meaning.specs.Binding.{binding}
use Rattle.mx_meaning.specs.Walks.{walked}
use Rattle.mx_state.specs.Evaluations.{IsAsked, AsBound, AsWritten}
use Rattle.mx_state.specs.Model.{model_of}
use Rattle.mx_state.specs.Proper.{address_of}
use Rattle.mx_state.proofs.Binding.{end_binds_none}
use Rattle.mx_binding.specs.declared.records.Records.{Records}
use Rattle.mx_binding.specs.declared.settled.Settled.TheVariants as settled
use Rattle.mx_binding.specs.declared.walking.Led.TheVariants as led
use Rattle.mx_binding.specs.Settles.{Settles, binding_end}
use Rattle.mx_binding.specs.Walking.{IsLed}
use Rattle.mx_binding.proofs.Binding.{form_there}

binding_is : (n : Node) (go : Node → Run) → binding n go ≡ walked (address_of n) (binding_end n go)
binding_is (Cell at name args) go = refl
binding_is (Item at args) go = refl

module _ (text : ModelRecord) (n : Node) where
  -- a node whose binding ends is asked as it is written
  ended : (o : Outcome) (es : List Event) → ((go : Node → Run) → Leads (model_of text) (walked (address_of n) (binding_end n go)) es (Ends o)) → IsAsked (model_of text) n n
  ended o es l =
      AsWritten (end_binds_none text n es o (λ go. subst (λ (r : Run). Leads (model_of text) r es (Ends o)) (sym (binding_is n go)) (l go)))

  module _ (held : List Kept) (records : Records) where
    -- what is settled where the walk came to a namespace
    module _ (ns : Namespace) (l : IsLed (model_of text) held (address_of n) (led.Came ns) records) where
      pub asked_bound : (b : Node) → Settles (model_of text) n ns (settled.Bound b) → IsAsked (model_of text) n b
      asked_bound b s =
          let form = form_there (model_of text) n held records ns l (Some b) (record { to = settled.Bound b; settles = s; is = refl }) in
          AsBound (record { events = form.events; leads = form.leads })

      settled_ends : (o : Outcome) (es : List Event) → ((go : Node → Run) → Leads (model_of text) (binding_end n go ns) es (Ends o)) → IsAsked (model_of text) n n
      settled_ends o es s =
          ended o (l.stands.walk.events ++ es)
          (λ go. leads_append (model_of text) (walked (address_of n) (binding_end n go)) (binding_end n go ns) (Ends o) l.stands.walk.events es (l.stands.walk.leads (binding_end n go)) (s go))

      pub asked_no_such : Settles (model_of text) n ns settled.NoSuch → IsAsked (model_of text) n n
      asked_no_such s = settled_ends NoSuch s.events s.leads

      pub asked_wrong_count : Settles (model_of text) n ns settled.WrongCount → IsAsked (model_of text) n n
      asked_wrong_count s = settled_ends WrongCount s.events s.leads

    -- the walk was refused
    pub refused_no_such : IsLed (model_of text) held (address_of n) led.NoSuch records → IsAsked (model_of text) n n
    refused_no_such l = ended NoSuch l.stands.walk.events (λ go. l.stands.walk.leads (binding_end n go))

    pub refused_wrong_count : IsLed (model_of text) held (address_of n) led.WrongCount records → IsAsked (model_of text) n n
    refused_wrong_count l = ended WrongCount l.stands.walk.events (λ go. l.stands.walk.leads (binding_end n go))
