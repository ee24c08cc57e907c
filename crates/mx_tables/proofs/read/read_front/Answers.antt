use Rattle.std.proofs.Common.{◌≡◌, ◌≢◌, ◌∙◌, ◌+◌, ◌<◌, ◌≤◌, ◌⊎◌, ◌++◌, ◌∷◌, [], Err, length, map, drop, true, sym, ap, inl, inr, refl, arith, rules, FitsSigned, to_z, of_z, to_z-of_z, w64}
use Rattle.std.specs.Result.{is_ok}
use Rattle.std.proofs.lemmas.List.{length-map}
use Rattle.csv.specs.Records.{fields_of}
use Rattle.mx_edit.specs.declared.table.TableRefusal.{TableRefusal}
use Rattle.mx_edit.specs.declared.table.TableRefusal.TheVariants.{NoMemory}
use Rattle.mx_tables.specs.Reading.{record_said}
use Rattle.mx_tables.specs.Fronts.{FrontSaid, front_said, behind}
use Rattle.mx_tables.proofs.Steps.{cut_at, record_more, record_bad, record_end}
use Rattle.mx_tables.proofs.read.read_front.Goals as goal

not_memory : {A : Type 0} (e : TableRefusal) → (e ≡ NoMemory → ⊥) → (e ≡ NoMemory) ⊎ (e ≢ NoMemory) × A → A
not_memory e other (inl none) = absurd (other none)
not_memory e other (inr p) = p.1

pub returns-in_default : goal.returns-in_default
returns-in_default c =
    let lt : c.loop-place.place < length c.args.records.now = omega (arith, c.loop-place-test.true) in
    let cut = cut_at fields_of c.args.records.now c.loop-place.place c.index-records-place.result lt c.index-records-place.is in
    let said : record_said c.args.count (c.loop-place.place + 1) (fields_of c.index-records-place.result) ≡ Err c.in-Err.refusal = not_memory c.in-Err.refusal c.in_default.not-NoMemory c.in-Err.ensures.err in
    let s = c.loop-place.invariant ∙ record_bad (map fields_of c.args.records.now) c.args.count (c.loop-place.place + 1) c.loop-place.place (fields_of c.index-records-place.result) c.loop-place.keys.items c.loop-place.rows.items c.in-Err.refusal cut said in
    record { keys = sym (ap (λ (f : FrontSaid). f.keys) s); rows = sym (ap (λ (f : FrontSaid). f.rows) s); trouble = sym (ap (λ (f : FrontSaid). f.trouble) s) }

pub loop-place-preserved : goal.loop-place-preserved
loop-place-preserved c =
    let lt : c.loop-place.place < length c.args.records.now = omega (arith, c.loop-place-test.true) in
    let cut = cut_at fields_of c.args.records.now c.loop-place.place c.index-records-place.result lt c.index-records-place.is in
    let more = record_more (map fields_of c.args.records.now) c.args.count (c.loop-place.place + 1) c.loop-place.place (fields_of c.index-records-place.result) c.loop-place.keys.items c.loop-place.rows.items (record { key = c.in-Ok.row.key; numbers = c.in-Ok.row.numbers }) cut c.in-Ok.ensures.row in
    let key_pushed : is_ok c.push.result ≡ true = search rules in
    let row_pushed : is_ok c.push-in-Ok.result ≡ true = search rules in
    let fits : FitsSigned w64 c.in-Ok.row.key = search rules in
    let kept : to_z w64 (of_z w64 c.in-Ok.row.key) ≡ c.in-Ok.row.key = simp to_z-of_z refl in
    let key_behind = rw key_pushed at c.push.ensures.items in
    let keys : c.push.new.self.items ≡ c.loop-place.keys.items ++ c.in-Ok.row.key ∷ [] = cc (key_behind, kept) in
    let rows : c.push-in-Ok.new.self.items ≡ c.loop-place.rows.items ++ c.in-Ok.row.numbers ∷ [] = rw row_pushed at c.push-in-Ok.ensures.items in
    c.loop-place.invariant ∙ more ∙ (λ i. behind (sym keys i) (sym rows i) (front_said c.args.count (c.loop-place.place + 1 + 1) (drop (c.loop-place.place + 1) (map fields_of c.args.records.now))))

pub returns-clause-keys : goal.returns-clause-keys
returns-clause-keys c =
    let past : length (map fields_of c.args.records.now) ≤ c.loop-place.place = omega (arith, c.loop-place-test.false, length-map c.args.records.now fields_of) in
    sym (ap (λ (f : FrontSaid). f.keys) (c.loop-place.invariant ∙ record_end (map fields_of c.args.records.now) c.args.count (c.loop-place.place + 1) c.loop-place.place c.loop-place.keys.items c.loop-place.rows.items past))

pub returns-clause-rows : goal.returns-clause-rows
returns-clause-rows c =
    let past : length (map fields_of c.args.records.now) ≤ c.loop-place.place = omega (arith, c.loop-place-test.false, length-map c.args.records.now fields_of) in
    sym (ap (λ (f : FrontSaid). f.rows) (c.loop-place.invariant ∙ record_end (map fields_of c.args.records.now) c.args.count (c.loop-place.place + 1) c.loop-place.place c.loop-place.keys.items c.loop-place.rows.items past))

pub returns-clause-trouble : goal.returns-clause-trouble
returns-clause-trouble c =
    let past : length (map fields_of c.args.records.now) ≤ c.loop-place.place = omega (arith, c.loop-place-test.false, length-map c.args.records.now fields_of) in
    sym (ap (λ (f : FrontSaid). f.trouble) (c.loop-place.invariant ∙ record_end (map fields_of c.args.records.now) c.args.count (c.loop-place.place + 1) c.loop-place.place c.loop-place.keys.items c.loop-place.rows.items past))
