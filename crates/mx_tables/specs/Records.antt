-- Records of fields, and their text as comma-separated values.
use Rattle.std.specs.Prelude.{◌≡◌, ◌≢◌, ℕ, List, [], ◌∷◌, ◌++◌}
use Rattle.csv.specs.Reading.{records, default_config, strip_bom}
use Rattle.csv.specs.Writing.{default_writer, row_text}

-- a list of records, each a list of fields, each a list of bytes
abbrev pub Records : Type 0
Records = List (List (List ℕ))

-- the records of a text, to its end
abbrev pub records_of : List ℕ → Records
records_of text = records default_config (strip_bom text)

-- the text of records, one to a line
abbrev pub text_of : Records → List ℕ
text_of [] = []
text_of (record1 ∷ more) = row_text default_writer record1 ++ text_of more

-- every record has a field
abbrev pub HaveFields : Records → Type 0
HaveFields [] = Unit {0}
HaveFields (record1 ∷ more) = (record1 ≢ []) × HaveFields more

-- the records that a text gives back: no mark of the byte order begins it
pub record AreWhole (all : Records) : Type 0 where
  pub fields : HaveFields all
  pub no_mark : strip_bom (text_of all) ≡ text_of all
