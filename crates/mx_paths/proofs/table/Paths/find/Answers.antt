use Rattle.std.proofs.Common.{◌≡◌, Option, Some, None, sym, subst, rules}
use Rattle.mx_paths.specs.declared.id.PathId.{PathId}
use Rattle.mx_paths.specs.Table.{id_in, IsFoundIn}
use Rattle.mx_paths.proofs.FindLemmas.{found_in}
use Rattle.mx_paths.proofs.table.Paths.find.Goals as goal

pub returns-in-Some-clause-found : goal.returns-in-Some-clause-found
returns-in-Some-clause-found c = λ text is.
    let id : PathId = record { 0 = c.in-Some.place } in
    let e : Some id ≡ id_in c.args.self.now c.args.path.now = search rules in
    let P : Option PathId → Type 0 = λ o. IsFoundIn text c.args.self.now c.args.path.now o in
    subst P (sym e) (found_in text c.args.self.now is c.args.path.now)

pub returns-in-None-clause-found : goal.returns-in-None-clause-found
returns-in-None-clause-found c = λ text is.
    let e : None ≡ id_in c.args.self.now c.args.path.now = search rules in
    let P : Option PathId → Type 0 = λ o. IsFoundIn text c.args.self.now c.args.path.now o in
    subst P (sym e) (found_in text c.args.self.now is c.args.path.now)
