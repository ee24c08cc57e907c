-- The texts of why rows are no table.
use Rattle.std.specs.Prelude.{[], ◌++◌, codes}
use Rattle.std.specs.Fmt.{decimal}
use Rattle.mx_print.specs.Texts.{Text}
use Rattle.mx_edit.specs.declared.table.TableRefusal.{TableRefusal}
use Rattle.mx_edit.specs.declared.table.TableRefusal.TheVariants as refusal

-- why rows are no table; want of memory has no text
abbrev pub table_refusal_text : TableRefusal → Text
table_refusal_text refusal.TooBig = codes "too big"
table_refusal_text (refusal.BadRow row) = codes "bad row " ++ decimal row
table_refusal_text (refusal.BadNumber row column) =
    codes "bad number " ++ (decimal row ++ (codes " " ++ decimal column))
table_refusal_text refusal.NoMemory = []
