use Rattle.std.proofs.Common.{◌≡◌, ◌∙◌, rules, sym, ap, Some, None, ◌++◌, ◌∷◌, []}
use Rattle.mx_outside.specs.Files.{place_of, files_of}
use Rattle.mx_outside.proofs.Listed.{set_at, set_new}
use Rattle.mx_outside.proofs.files.set_bytes.Goals as goal

pub returns-in-Some-clause-ok : goal.returns-in-Some-clause-ok
returns-in-Some-clause-ok c =
    let there : place_of c.args.files.now.items c.args.name.now ≡ Some c.in-Some.place = rw c.as_slice.ensures.value at (sym c.place_of.ensures ∙ c.in-Some.is) in
    let same : c.in-Ok.copy.items ≡ c.args.bytes.now = search rules in
    set_at c.args.name.now c.args.bytes.now c.args.files.now.items c.in-Some.place c.index_mut.result.now (c.index_mut.result.now.0, c.in-Ok.copy) there (ap (λ f. f.0) c.index_mut.ensures.value) same

pub returns-in-Ok-push-clause-ok : goal.returns-in-Ok-push-clause-ok
returns-in-Ok-push-clause-ok c =
    let none : place_of c.args.files.now.items c.args.name.now ≡ None = search rules in
    let same : c.in-Ok.copy.items ≡ c.args.bytes.now = search rules in
    let pushed : c.push.new.self.items ≡ c.args.files.now.items ++ (c.in-Ok-from_str.name, c.in-Ok.copy) ∷ [] = search rules in
    ap files_of pushed ∙ set_new c.args.name.now c.args.bytes.now c.args.files.now.items (c.in-Ok-from_str.name, c.in-Ok.copy) none (search rules) same
