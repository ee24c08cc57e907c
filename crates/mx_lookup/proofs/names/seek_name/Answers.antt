use Rattle.std.proofs.Common.{◌∙◌, ap}
use Rattle.mx_value.specs.declared.namespace.Namespace.{Namespace}
use Rattle.mx_edit.specs.declared.key.Key.TheVariants as key
use Rattle.mx_model.specs.Keys.{key_result}
use Rattle.mx_meaning.specs.Lookup.{Called}
use Rattle.mx_code_law.specs.States.{Next, Look}
use Rattle.mx_code_law.specs.Finding.{global_next, name_next, sought_in_next}
use Rattle.mx_stack.specs.Callees.{callee_of}
use Rattle.mx_read_set.specs.Passed.{passed}
use Rattle.mx_lookup.proofs.Going.{goes_behind}
use Rattle.mx_lookup.proofs.names.seek_name.Goals as goal

pub returns-in-Ok-None : goal.returns-in-Ok-None
returns-in-Ok-None c = λ h line to same.
    let look = key_result c.args.world.now in
    let name = c.args.name.now in
    let more : Next = Look (key.Global name) (global_next h name line to) in
    let sought = rw c.in-Ok-None.field-0-is at c.in-Ok-None.ensures in
    goes_behind look h line (λ x. to (callee_of x)) c.seek_global.result (name_next h name line to) more c.args.seen.now c.seek_in.new.seen c.seek_global.new.seen
    (ap (λ (ns : Namespace). passed look (sought_in_next h ns name line (λ v. to (Called v)) more) c.args.seen.now) same ∙ sought h line (λ v. to (Called v)) more)
    (c.seek_global.ensures h line to same)
