-- Texts as the lines of a project's model file lay them out: spaces with their bases, and nothing else. Rings and numbers are
-- looked at after the last line, so a laid text may have rings.
use Rattle.std.specs.Prelude.{◌≡◌}
use Rattle.mx_edit.specs.declared.edit.Edit.{Edit}
use Rattle.mx_edit.specs.declared.edit.Edit.TheVariants as edit
use Rattle.mx_c3.specs.Lists.{Has, Distinct}
use Rattle.mx_model.specs.Records.{SpaceRecord, ModelRecord, empty_space, empty_text}
use Rattle.mx_model.specs.Layers.{paths_of}
use Rattle.mx_model.specs.Paths.{split_last}
use Rattle.mx_model.specs.Parents.{HasParent}
use Rattle.mx_model.specs.Rings.{HasNoRing}
use Rattle.mx_model.specs.Apply.{IsCounted}
use Rattle.mx_model.specs.Valid.{BasesAreDefined}
use Rattle.mx_apply.specs.Chain.{CanGoOn}
use Rattle.mx_apply.specs.Needs.{CanTell}
use Rattle.mx_whole_edits.specs.Ready.{IsReady}

-- a text has nothing but spaces, and these nothing but bases
pub record IsBare (text : ModelRecord) : Type 0 where
  pub spaces : (s : SpaceRecord) → Has text.spaces s → s ≡ record (empty_space s.path) { bases = s.bases }
  pub rest : text ≡ record empty_text { spaces = text.spaces }

-- no path stands twice, each space is at the top or below a defined one, and bases are defined and none is named twice
pub record IsLaid (text : ModelRecord) : Type 0 where
  pub paths : Distinct (paths_of text)
  pub parents : (s : SpaceRecord) → Has text.spaces s → HasParent text (split_last s.path)
  pub bases : BasesAreDefined text
  pub bare : IsBare text

-- the edits that such lines are
abbrev pub LaysOut : Edit → Type 0
LaysOut (edit.NewSpace parent name) = Unit {0}
LaysOut (edit.SetBases path bases) = Unit {0}
LaysOut _ = ⊥

-- ---- laws

-- reading begins from the text without spaces
abbrev pub EmptyIsLaid : Type 0
EmptyIsLaid = IsLaid empty_text

-- what comes of such a line can be told, whatever the text has
abbrev pub LinesAreTold : Type 0
LinesAreTold = (text : ModelRecord) (e : Edit) → LaysOut e → CanTell text e

-- such a line leaves a laid text laid
abbrev pub KeepsLaid : ModelRecord → Edit → ModelRecord → Type 0
KeepsLaid text e made = IsLaid text → LaysOut e → IsLaid made

-- without a ring any edit can follow
abbrev pub LaidGoesOn : Type 0
LaidGoesOn = (text : ModelRecord) → IsLaid text → HasNoRing text → CanGoOn text

-- and where no number passes its greatest, it is ready for whole edits
abbrev pub LaidIsReady : Type 0
LaidIsReady = (text : ModelRecord) → IsLaid text → IsCounted text → IsReady text
