use Rattle.std.proofs.Common.{◌≡◌, ◌≢◌, ◌∙◌, ◌+◌, ◌++◌, ◌∷◌, [], ℕ, List, Some, map, take, sym, ap}
use Rattle.std.proofs.lemmas.List.{map-append, take_more}
use Rattle.csv.specs.Records.{Row, fields_of}
use Rattle.csv.specs.Writing.{default_writer, row_text, writer_setup}
use Rattle.csv.specs.declared.writer.QuoteStyle.TheVariants as style
use Rattle.mx_tables.specs.Records.{text_of}
use Rattle.mx_tables.proofs.Whole.{text_of-push, some_same}
use Rattle.mx_tables.proofs.records.write_records.Goals as goal

pub loop-row-preserved : goal.loop-row-preserved
loop-row-preserved c =
    let inv = c.loop-row.invariant in
    let e = c.in_ok-write_byte_record.ensures in
    let plain : (writer_setup c.loop-row.writer).style ≢ style.NonNumeric = rw inv.setup (λ e. cc e) in
    let grown = rw inv.setup at (e.bytes inv.fields inv.wrote plain) in
    let row = fields_of c.row-item.result in
    let more = ap (λ (l : List Row). text_of (map fields_of l)) (take_more c.deref-row-items.result.now c.loop-row.row-index c.row-item.result c.loop-row-test.true) in
    let pushed : text_of (map fields_of (take (c.loop-row.row-index + 1) c.deref-row-items.result.now)) ≡ text_of (map fields_of (take c.loop-row.row-index c.deref-row-items.result.now)) ++ row_text default_writer row =
    more ∙ ap (λ (x : Row). text_of (map fields_of (take c.loop-row.row-index c.deref-row-items.result.now ++ x ∷ []))) (sym c.row-item.is)
    ∙ ap text_of (map-append fields_of (take c.loop-row.row-index c.deref-row-items.result.now) (c.row-item.result ∷ []))
    ∙ text_of-push (map fields_of (take c.loop-row.row-index c.deref-row-items.result.now)) row in
    record {
      setup = e.setup ∙ inv.setup;
      fields = e.ended;
      wrote = e.clean;
      text = ap Some (grown ∙ ap (λ (t : List ℕ). t ++ row_text default_writer row) (some_same _ _ inv.text) ∙ sym pushed);
    }
